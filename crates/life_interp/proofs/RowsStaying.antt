-- What has a row keeps it where an object comes to life.
use Rattle.std.proofs.Common.{◌≡◌, ℕ, ◌<◌, Option, Some, None, refl, sym, ap, ◌∙◌, arith}
use Rattle.std.proofs.lemmas.Option.{none-some, same_Some}
use Rattle.std.specs.Prelude.{ℤ}
use Rattle.life_types.specs.declared.ty.TyId.{TyId}
use Rattle.life_store.specs.Cells.{at, at-set_other, set}
use Rattle.life_store.specs.Content.{Content, Object, newborn, with_word}
use Rattle.life_store.specs.Doing.{word_of_number}
use Rattle.life_store.specs.References.{Rows}
use Rattle.life_store.proofs.Housing.{value_object}
use Rattle.life_seen.specs.Housed.{IsHoused, Later, Shows}
use Rattle.life_seen.specs.Kinds.{Kinds}
use Rattle.life_seen.specs.Named.{names_of}
use Rattle.life_seen.specs.Seen.{object_seen, seen}
use Rattle.life_seen.proofs.Contents.{seen_at, seen_none}
use Rattle.life_seen.proofs.References.{lives_placed, placed_lives}
use Rattle.life_interp.specs.CallOperands.{RowsStay}
use Rattle.life_interp.proofs.GiveLemmas.{given_content}

-- where all that was seen is seen still
pub rows_stay : (kinds : Kinds) (c d : Content) (rows new : Rows) → IsHoused kinds c rows → IsHoused kinds d new → Later c d rows new
    → ((n : ℕ) (o : Object) → n < c.births → at (seen kinds c rows).objects n ≡ Some o → at (seen kinds d new).objects n ≡ Some o) → RowsStay rows new
rows_stay kinds c d rows new housed now later still n k e =
    let old = placed_lives kinds c rows housed n k e in
    let there = still n (object_seen kinds (names_of c rows) old.0) (housed.below n k e) (seen_at kinds (names_of c rows) c n old.0 old.1) in
    let row = placed (at d.objects n) refl there in
    let was = later.row n row.0 (housed.below n k e) row.1 in
    row.1 ∙ ap Some (same_Some row.0 k (sym was ∙ e))
  where
    placed : (x : Option Object) → at d.objects n ≡ x → at (seen kinds d new).objects n ≡ Some (object_seen kinds (names_of c rows) (placed_lives kinds c rows housed n k e).0) → (j : ℕ) × (at new n ≡ Some j)
    placed None is there = absurd (none-some _ (sym (seen_none kinds (names_of d new) d n is) ∙ there))
    placed (Some o) is there = lives_placed kinds d new now n o is

-- .. as where it is given a number
pub given_stay : (kinds : Kinds) (c e : Content) (rows after : Rows) (z : ℤ) (ty : TyId) → IsHoused kinds c rows → Shows kinds e after (given_content z ty (seen kinds c rows)) → Later c e rows after → RowsStay rows after
given_stay kinds c e rows after z ty housed shows later =
    rows_stay kinds c e rows after housed shows.housed later
    (λ n o lt there.
    let m = seen kinds c rows in
    let one = set m.objects c.births (newborn ty 1 1 c.clock) in
    let two = set one c.births (value_object ty c.clock) in
    ap (λ (x : Content). at x.objects n) shows.is
    ∙ at-set_other two c.births n (with_word 0 0 (word_of_number z) (value_object ty c.clock)) (λ s. omega (arith, s, lt))
    ∙ at-set_other one c.births n (value_object ty c.clock) (λ s. omega (arith, s, lt))
    ∙ at-set_other m.objects c.births n (newborn ty 1 1 c.clock) (λ s. omega (arith, s, lt))
    ∙ there)
