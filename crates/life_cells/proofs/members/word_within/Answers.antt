use Rattle.std.proofs.Common.{◌≡◌, ◌+◌, ℕ, List, ◌∷◌, Option, ap, arith, drop, take, ◌∙◌}
use Rattle.std.proofs.lemmas.List.{drop_more}
use Rattle.std.specs.Prelude.{get_or, slice_get, sum_by}
use Rattle.life_types.specs.declared.ty.TyId.{TyId}
use Rattle.life_store.specs.Parts.{members_of, width_at, word_within}
use Rattle.life_cells.specs.Scopes.{types_in}
use Rattle.life_cells.proofs.members.word_within.Goals as goal

pub returns-in-None : goal.returns-in-None
returns-in-None c =
    let types = types_in c.args.scope.now in
    let i = c.loop-member.member-index in
    let ms = c.args.members.now in
    let left : word_within types c.loop-member.within (drop i ms) ≡ 0 =
    ap (λ (xs : List ℕ). word_within types c.loop-member.within xs) (drop_more ms i 0 c.loop-member-test.true) ∙ ap (λ (o : Option TyId). word_within types o (get_or ms i 0 ∷ drop (i + 1) ms)) c.in-None.is in
    let was = c.loop-member.invariant in
    omega (arith, left, was)

pub words_before-word-requires : goal.words_before-word-requires
words_before-word-requires c =
    let types = types_in c.args.scope.now in
    let i = c.loop-member.member-index in
    let ms = c.args.members.now in
    let inner = members_of types c.in-Some.id in
    let left : word_within types c.loop-member.within (drop i ms) ≡ sum_by (width_at types) (take (get_or ms i 0) inner) + word_within types (slice_get inner (get_or ms i 0)) (drop (i + 1) ms) =
    ap (λ (xs : List ℕ). word_within types c.loop-member.within xs) (drop_more ms i 0 c.loop-member-test.true) ∙ ap (λ (o : Option TyId). word_within types o (get_or ms i 0 ∷ drop (i + 1) ms)) c.in-Some.is in
    let was = c.loop-member.invariant in
    let small = c.requires in
    omega (arith, left, was, small)

pub overflow_add-word : goal.overflow_add-word
overflow_add-word c =
    let types = types_in c.args.scope.now in
    let i = c.loop-member.member-index in
    let ms = c.args.members.now in
    let inner = members_of types c.in-Some.id in
    let left : word_within types c.loop-member.within (drop i ms) ≡ sum_by (width_at types) (take (get_or ms i 0) inner) + word_within types (slice_get inner (get_or ms i 0)) (drop (i + 1) ms) =
    ap (λ (xs : List ℕ). word_within types c.loop-member.within xs) (drop_more ms i 0 c.loop-member-test.true) ∙ ap (λ (o : Option TyId). word_within types o (get_or ms i 0 ∷ drop (i + 1) ms)) c.in-Some.is in
    let was = c.loop-member.invariant in
    let small = c.requires in
    let before = c.words_before-word.ensures in
    omega (arith, left, was, small, before)

pub loop-member-preserved : goal.loop-member-preserved
loop-member-preserved c =
    let types = types_in c.args.scope.now in
    let i = c.loop-member.member-index in
    let ms = c.args.members.now in
    let inner = members_of types c.in-Some.id in
    let left : word_within types c.loop-member.within (drop i ms) ≡ sum_by (width_at types) (take (get_or ms i 0) inner) + word_within types (slice_get inner (get_or ms i 0)) (drop (i + 1) ms) =
    ap (λ (xs : List ℕ). word_within types c.loop-member.within xs) (drop_more ms i 0 c.loop-member-test.true) ∙ ap (λ (o : Option TyId). word_within types o (get_or ms i 0 ∷ drop (i + 1) ms)) c.in-Some.is in
    let was = c.loop-member.invariant in
    let before = c.words_before-word.ensures in
    let rest = ap (λ (o : Option TyId). word_within types o (drop (i + 1) ms)) c.member_type-within.ensures in
    omega (arith, left, was, before, rest)
