use Rattle.std.proofs.Common.{◌+◌, ℕ, List, ◌∷◌, Option, ap, drop, sym, ◌∙◌}
use Rattle.std.proofs.lemmas.List.{drop_more}
use Rattle.std.specs.Prelude.{get_or}
use Rattle.life_types.specs.declared.ty.TyId.{TyId}
use Rattle.life_store.specs.Parts.{type_within}
use Rattle.life_cells.specs.Scopes.{types_in}
use Rattle.life_cells.proofs.members.type_within.Goals as goal

pub returns-in-None : goal.returns-in-None
returns-in-None c =
    let types = types_in c.args.scope.now in
    let i = c.loop-member.member-index in
    let ms = c.args.members.now in
    sym (ap (λ (o : Option TyId). type_within types o (get_or ms i 0 ∷ drop (i + 1) ms)) c.in-None.is)
    ∙ sym (ap (λ (xs : List ℕ). type_within types c.loop-member.within xs) (drop_more ms i 0 c.loop-member-test.true))
    ∙ c.loop-member.invariant

pub loop-member-preserved : goal.loop-member-preserved
loop-member-preserved c =
    let types = types_in c.args.scope.now in
    let i = c.loop-member.member-index in
    let ms = c.args.members.now in
    ap (λ (o : Option TyId). type_within types o (drop (i + 1) ms)) c.member_type-within.ensures
    ∙ sym (ap (λ (o : Option TyId). type_within types o (get_or ms i 0 ∷ drop (i + 1) ms)) c.in-Some.is)
    ∙ sym (ap (λ (xs : List ℕ). type_within types c.loop-member.within xs) (drop_more ms i 0 c.loop-member-test.true))
    ∙ c.loop-member.invariant
