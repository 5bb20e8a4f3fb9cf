-- A temporary may give its value over before or after an owner takes the buffer into which it goes.
use Rattle.std.proofs.Common.{◌≡◌, ◌≢◌, ℕ, ◌<◌, List, [], ◌∷◌, Option, Some, refl, sym, ap, ◌∙◌, arith}
use Rattle.std.specs.Prelude.{nat_eq, slice_get}
use Rattle.life_store.specs.Cells.{Cells, at, at-set_same, at-set_other, at-unset_other}
use Rattle.life_store.specs.Content.{Object, Content, with_object, without}
use Rattle.life_store.specs.Edits.{owns, put_last}
use Rattle.life_store.specs.Held.{owner_word, slot_words, slots_if, with_words, words_if, wrote_if}
use Rattle.life_store.specs.Owners.{Words, consumed, taken}
use Rattle.life_store.specs.Parts.{Parts}
use Rattle.life_store.specs.Places.{Spot as Place}
use Rattle.life_store.proofs.MapLemmas.{one_or_apart, unset_apart}
use Rattle.life_forest.specs.Owned.{times}
use Rattle.life_forest.specs.Values.{owned_of}
use Rattle.life_forest.proofs.Beside.{same_content, taken_beside, taken_stays, Alike, Beside}
use Rattle.life_forest.proofs.Consuming.{tell_apart, told_apart}
use Rattle.life_values.specs.Consumed.{stored}

module _ (p : Parts) (spot : Place) (f n : ℕ) (m : Content) (o : Object) (there : at m.objects spot.object ≡ Some o) (born : spot.object < m.births) (apart : spot.object ≢ n) (free : times (owned_of p (slot_words m n 0)) spot.object ≡ 0) where
  abbrev q : ℕ
  q = spot.object

  abbrev given : Object
  given = with_words spot.index spot.word (owner_word (Some f) ∷ []) o

  abbrev over : Content
  over = with_object q given m

  abbrev ws : List ℕ
  ws = slot_words m n 0

  over_is : owns spot f m ≡ over
  over_is = ap (λ (x : Option Object). wrote_if x q spot.index spot.word (owner_word (Some f) ∷ []) m) there

  words_are : slot_words over n 0 ≡ ws
  words_are = ap (λ (x : Option Object). words_if (slice_get (slots_if x) 0)) (at-set_other m.objects q n given apart)

  beside : Beside (nat_eq q) m over
  beside = record { births = refl; clock = refl; alike = λ k e. at-set_other m.objects q k given (told_apart q k e) }

  alike : Alike (nat_eq q) (taken p ws m) (taken p ws over)
  alike =
      taken_beside (nat_eq q) p ws m over beside
      (λ k lt. tell_apart q k (λ e. let z = ap (times (owned_of p ws)) (sym e) ∙ free in absurd (omega (arith, z, lt))))

  -- the owner has it still when the value is taken
  content_is : (taken p ws over).1 ≡ with_object q given (taken p ws m).1
  content_is =
      same_content (with_object q given (taken p ws m).1) (taken p ws over).1 alike.contents.births alike.contents.clock
      (λ k. one_or_apart q k
      (λ e. ap (at (taken p ws over).1.objects) (sym e) ∙ taken_stays p ws over q born free ∙ at-set_same m.objects q q given refl ∙ sym (at-set_same (taken p ws m).1.objects q k given e))
      (λ ne. alike.contents.alike k (tell_apart q k ne) ∙ sym (at-set_other (taken p ws m).1.objects q k given ne)))

  consumed_is : consumed p n (owns spot f m) ≡ ((consumed p n m).0, owns spot f (consumed p n m).1)
  consumed_is =
      ap (consumed p n) over_is
      ∙ pairs_are
      ∙ ap (beside_words (taken p ws m).0)
      (ap (λ (x : Cells Object). record { objects = x; births = (taken p ws m).1.births; clock = (taken p ws m).1.clock }) (unset_apart (taken p ws m).1.objects q n given apart)
      ∙ sym (ap (λ (x : Option Object). wrote_if x q spot.index spot.word (owner_word (Some f) ∷ []) (without n (taken p ws m).1)) (at-unset_other (taken p ws m).1.objects n q (λ e. apart (sym e)) ∙ taken_stays p ws m q born free ∙ there)))
    where
      beside_words : List ℕ → Content → Words
      beside_words vs c = (vs, c)

      taken_as : List ℕ → Words
      taken_as vs = ((taken p vs over).0, without n (taken p vs over).1)

      pairs_are : consumed p n over ≡ beside_words (taken p ws m).0 (without n (with_object q given (taken p ws m).1))
      pairs_are = ap taken_as words_are ∙ (λ j. beside_words (alike.words j) (without n (content_is j)))

  pub pushed_meant : (i : ℕ) → stored f i (consumed p n (owns spot f m)) ≡ put_last spot f i (consumed p n m)
  pushed_meant i = ap (stored f i) consumed_is
