use Rattle.std.proofs.Common.{◌≡◌, ◌<◌, ◌^◌, ℕ, List, Option, ap, subst, sym, ◌∙◌}
use Rattle.life_types.specs.declared.ty.TyId.{TyId}
use Rattle.life_core.specs.Operands.{location_of}
use Rattle.life_store.specs.Parts.{local_type, word_within}
use Rattle.life_cells.specs.Scopes.{function_in, types_in}
use Rattle.life_cells.specs.Typed.{member_of}
use Rattle.life_cells.proofs.LocationLemmas.{nil}
use Rattle.life_cells.proofs.members.member_word.Goals as goal

pub word_within-requires : goal.word_within-requires
word_within-requires c =
    let types = types_in c.args.scope.now in
    let f = function_in c.args.scope.now in
    let l = location_of c.args.location.now in
    let same : word_within types c.local_type.result c.deref.result.now ≡ member_of types f l = ap (λ (ty : Option TyId). word_within types ty c.deref.result.now) c.local_type.ensures ∙ ap (λ (ms : List ℕ). word_within types (local_type types f l.local) ms) c.deref.ensures.value in
    subst (λ (n : ℕ). n < 2 ^ 32) (sym same) c.requires

pub returns : goal.returns
returns c =
    let types = types_in c.args.scope.now in
    let f = function_in c.args.scope.now in
    let l = location_of c.args.location.now in
    c.word_within.ensures ∙ ap (λ (ty : Option TyId). word_within types ty c.deref.result.now) c.local_type.ensures ∙ ap (λ (ms : List ℕ). word_within types (local_type types f l.local) ms) c.deref.ensures.value

pub returns-then-is_whole : goal.returns-then-is_whole
returns-then-is_whole c =
    let types = types_in c.args.scope.now in
    let f = function_in c.args.scope.now in
    let l = location_of c.args.location.now in
    sym (ap (λ (ms : List ℕ). word_within types (local_type types f l.local) ms) (nil l.members (sym c.is_whole.ensures ∙ c.if-is_whole.true)))
