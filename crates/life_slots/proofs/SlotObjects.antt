-- A new object of one word in a store owns what it is given.
use Rattle.std.proofs.Common.{◌≡◌, ℕ, ◌+◌, ◌*◌, ◌≤◌, [], ◌∷◌, length, Option, Some, None, IfSome, Ok, refl, sym, ap, subst, ◌∙◌, arith}
use Rattle.std.proofs.lemmas.Option.{none-some, same_Some}
use Rattle.std.specs.Prelude.{option_map}
use Rattle.life_types.specs.Types.{Types}
use Rattle.life_types.specs.declared.ty.TyId.{TyId}
use Rattle.life_store.specs.Cells.{at, at-set_other, at-set_same, set}
use Rattle.life_store.specs.Content.{Object, Content, cost, live_words_of, newborn, resized, with_birth, with_object, with_word}
use Rattle.life_store.specs.Effects.{Setting, Got}
use Rattle.life_store.specs.Held.{owner_word, resized_if, wrote_if}
use Rattle.life_store.specs.Kinds.{kind_in}
use Rattle.life_store.specs.Owners.{object_with}
use Rattle.life_store.specs.Parts.{Parts, Single}
use Rattle.life_store.specs.References.{Rows, object_of, HasWord}
use Rattle.life_store.specs.declared.object.ObjRef.{ObjRef}
use Rattle.life_store.proofs.MapLemmas.{sum-set, sum-set_fresh}
use Rattle.life_seen.specs.Housed.{IsHoused, IsRef, Later, Shows}
use Rattle.life_seen.specs.Kinds.{kinds_of, Kinds}
use Rattle.life_seen.specs.Named.{names_of}
use Rattle.life_seen.specs.Seen.{object_seen, seen}
use Rattle.life_seen.proofs.LiveWords.{live_words_seen}
use Rattle.life_seen.proofs.References.{later_same, lives_placed, placed_lives}
use Rattle.life_seen.proofs.Contents.{seen_at, seen_none}
use Rattle.life_seen.proofs.Resizing.{count_seen}
use Rattle.life_words.specs.Owning.{number_of, with_owner, CanOwn, IsOwner}
use Rattle.life_values.proofs.SeenAs.{seen_as, IsSeenAs}
use Rattle.life_cells.specs.Fits.{meant}
use Rattle.life_changes.specs.NewObjects.{Bears}
use Rattle.life_changes.proofs.BornObjects.{blank, born, born_there, counted, there, with_born}
use Rattle.life_slots.specs.Slots.{IsUnique}

-- what is seen to live is in a row, and nothing has the next number
seen_placed : (kinds : Kinds) (c : Content) (rows : Rows) → IsHoused kinds c rows → (n : ℕ) → (o : Object) × (at (seen kinds c rows).objects n ≡ Some o) → (k : ℕ) × (at rows n ≡ Some k)
seen_placed kinds c rows housed n lives = go (at c.objects n) refl
  where
    go : (x : Option Object) → at c.objects n ≡ x → (k : ℕ) × (at rows n ≡ Some k)
    go None e = absurd (none-some lives.0 (sym (seen_none kinds (names_of c rows) c n e) ∙ lives.1))
    go (Some o) e = lives_placed kinds c rows housed n o e

unborn : (kinds : Kinds) (c : Content) (rows : Rows) → IsHoused kinds c rows → at (seen kinds c rows).objects c.births ≡ None
unborn kinds c rows housed = seen_none kinds (names_of c rows) c c.births (go (at c.objects c.births) refl)
  where
    go : (o : Option Object) → at c.objects c.births ≡ o → at c.objects c.births ≡ None
    go None e = e
    go (Some o) e = let p = lives_placed kinds c rows housed c.births o e in let lt = housed.below c.births p.0 p.1 in absurd (omega (arith, lt))

first : (types : Types) (ty : TyId) (c : Content) (rows : Rows) → at (with_birth ty 1 1 (meant types c rows)).objects c.births ≡ Some (newborn ty 1 1 c.clock)
first types ty c rows = at-set_same (meant types c rows).objects c.births c.births (newborn ty 1 1 c.clock) refl

module _ (types : Types) (ty : TyId) (unique : IsUnique types ty) (c : Content) (rows : Rows) (r : ObjRef) (number : r.birth ≡ c.births) (d : Content) (new : Rows) (shows : Shows (kinds_of types) d new (born types ty 1 c rows)) (placed : at new r.birth ≡ Some r.row) where
  abbrev begin : Object
  begin = blank types ty 1 c rows

  abbrev pub stored : IsSeenAs (kinds_of types) d new r begin
  stored = seen_as (kinds_of types) d new r begin shows.housed placed (there types ty 1 c rows r number d new shows)

  pub is_owner : IsOwner (kinds_of types) d new r 0 stored.object
  is_owner = record {
    housed = shows.housed;
    there = stored.found;
    owner = ap (λ (y : Object). kinds_of types y.ty 0) stored.same ∙ ap (λ (p : Parts). kind_in p 0) unique.is;
  }

  pub has_word : IfSome (object_of d new r) (HasWord 0 0)
  has_word =
      let slots : length (object_seen (kinds_of types) (names_of d new) stored.object).slots ≡ 1 = ap (λ (y : Object). length y.slots) stored.same in
      let count = count_seen (kinds_of types) (names_of d new) stored.object in
      let wide = ap (λ (y : Object). y.width) stored.same in
      subst (λ y. IfSome y (HasWord 0 0)) (sym stored.found) (record { has_slot = omega (arith, slots, count); has_word = omega (arith, wide) })

  -- what lived before lives still, in its row
  seen_still : (n k : ℕ) → IsHoused (kinds_of types) c rows → at rows n ≡ Some k → (o : Object) × (at (meant types d new).objects n ≡ Some o)
  seen_still n k housed e =
      let old = placed_lives (kinds_of types) c rows housed n k e in
      let below = housed.below n k e in
      let m = meant types c rows in (
        object_seen (kinds_of types) (names_of c rows) old.0,
        ap (λ (x : Content). at x.objects n) shows.is
            ∙ ap (λ (x : Option Object). at (resized_if x c.births 1 0 (with_birth ty 1 1 m)).objects n) (first types ty c rows)
            ∙ at-set_other (with_birth ty 1 1 m).objects c.births n begin (λ s. omega (arith, s, below))
            ∙ at-set_other m.objects c.births n (newborn ty 1 1 c.clock) (λ s. omega (arith, s, below))
            ∙ seen_at (kinds_of types) (names_of c rows) c n old.0 old.1,
      )

  pub rows_still : IsHoused (kinds_of types) c rows → Later c d rows new → (n k : ℕ) → at rows n ≡ Some k → at new n ≡ Some k
  rows_still housed later n k e =
      let row = seen_placed (kinds_of types) d new shows.housed n (seen_still n k housed e) in
      let was = later.row n row.0 (housed.below n k e) row.1 in
      row.1 ∙ ap Some (same_Some row.0 k (sym was ∙ e))

  pub still_owned : IsHoused (kinds_of types) c rows → Later c d rows new → (owned : Option ObjRef) → CanOwn rows owned → CanOwn new owned
  still_owned housed later None can = tt
  still_owned housed later (Some q) can = rows_still housed later q.birth q.row can

  -- no row changes
  pub slot_later : (owned : Option ObjRef) (e : Content) (after : Rows) → Shows (kinds_of types) e after (with_owner (kinds_of types) d new r 0 0 stored.object (option_map number_of owned)) → after ≡ new → Later d e new after
  slot_later owned e after written same = subst (Later d e new) (sym same) (later_same d e new (let x = ap (λ (y : Content). y.births) written.is in omega (arith, x)))

  as_meant : (owned : Option ObjRef) (e : Content) (after : Rows) → Shows (kinds_of types) e after (with_owner (kinds_of types) d new r 0 0 stored.object (option_map number_of owned))
      → seen (kinds_of types) e after ≡ wrote_if (at (born types ty 1 c rows).objects c.births) c.births 0 0 (owner_word (option_map number_of owned) ∷ []) (born types ty 1 c rows)
  as_meant owned e after written =
      written.is
      ∙ (λ j. with_object (number j) (with_word 0 0 (owner_word (option_map number_of owned)) (stored.same j)) (shows.is j))
      ∙ ap (λ (x : Option Object). wrote_if x c.births 0 0 (owner_word (option_map number_of owned) ∷ []) (born types ty 1 c rows)) (sym (born_there types ty 1 c rows))

  pub bears_slot : (s : Setting) → live_words_of c + (2 + 1 * 1) ≤ s.given.cells → (owned : Option ObjRef) (e : Content) (after : Rows) → IsRef e after r
      → Shows (kinds_of types) e after (with_owner (kinds_of types) d new r 0 0 stored.object (option_map number_of owned))
      → Bears (kinds_of types) (object_with s ty Single (λ x. Got (owner_word (option_map number_of owned) ∷ [], x)) (meant types c rows)) (Ok r) e after
  bears_slot s room owned e after referred written = (
    seen (kinds_of types) e after,
    with_born types c rows s ty Single (λ x. Got (owner_word (option_map number_of owned) ∷ [], x)) room
        ∙ (λ j. Got (sym number j, sym (as_meant owned e after written) j)),
    record { housed = written.housed; is = refl },
    referred,
  )

  -- ---- what is counted

  pub counts : (owned : Option ObjRef) (e : Content) (after : Rows) → Shows (kinds_of types) e after (with_owner (kinds_of types) d new r 0 0 stored.object (option_map number_of owned)) → (e.births ≡ c.births + 1) × (e.clock ≡ c.clock + 1)
  counts owned e after written =
      let b = (counted types ty 1 c rows r number d new shows) in
      (ap (λ (x : Content). x.births) written.is ∙ b.0, ap (λ (x : Content). x.clock) written.is ∙ b.1)

  pub live_more : IsHoused (kinds_of types) c rows → (owned : Option ObjRef) (e : Content) (after : Rows) → Shows (kinds_of types) e after (with_owner (kinds_of types) d new r 0 0 stored.object (option_map number_of owned)) → live_words_of e ≡ live_words_of c + 3
  live_more housed owned e after written =
      let m = meant types c rows in
      let two = resized (c.clock + 1) 1 0 (newborn ty 1 1 c.clock) in
      let three = with_word 0 0 (owner_word (option_map number_of owned)) two in
      let one = set m.objects c.births (newborn ty 1 1 c.clock) in
      let none = unborn (kinds_of types) c rows housed in
      let a : live_words_of (with_birth ty 1 1 m) ≡ 3 + live_words_of m = sum-set_fresh cost m.objects c.births (newborn ty 1 1 c.clock) none in
      let b : 3 + live_words_of (born types ty 1 c rows) ≡ 3 + live_words_of (with_birth ty 1 1 m) =
      ap (λ (x : Option Object). 3 + live_words_of (resized_if x c.births 1 0 (with_birth ty 1 1 m))) (first types ty c rows)
      ∙ sum-set cost one c.births (newborn ty 1 1 c.clock) two (first types ty c rows) in
      let f : 3 + live_words_of (with_object c.births three (born types ty 1 c rows)) ≡ 3 + live_words_of (born types ty 1 c rows) = sum-set cost (born types ty 1 c rows).objects c.births two three (born_there types ty 1 c rows) in
      let g : live_words_of (seen (kinds_of types) e after) ≡ live_words_of (with_object c.births three (born types ty 1 c rows)) =
      ap live_words_of (as_meant owned e after written ∙ ap (λ (x : Option Object). wrote_if x c.births 0 0 (owner_word (option_map number_of owned) ∷ []) (born types ty 1 c rows)) (born_there types ty 1 c rows)) in
      let before = live_words_seen (kinds_of types) (names_of c rows) c in
      let behind = live_words_seen (kinds_of types) (names_of e after) e in
      omega (arith, a, b, f, g, before, behind)
