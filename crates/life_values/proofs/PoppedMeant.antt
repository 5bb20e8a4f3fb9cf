-- What goes word by word with the last slot is what the meaning takes away by the parts of the element's type.
use Rattle.std.proofs.Common.{◌≡◌, ℕ, zero, suc, ◌+◌, ◌<◌, ◌≤◌, List, [], ◌∷◌, length, Option, Some, refl, sym, ap, ◌∙◌, arith, take_all}
use Rattle.std.specs.Prelude.{slice_get}
use Rattle.life_store.specs.Cells.{Cells, at, at-set_same}
use Rattle.life_store.specs.Content.{Slot, Object, Content, resized, with_object}
use Rattle.life_store.specs.Effects.{Got}
use Rattle.life_store.specs.Held.{resized_at, resized_if, slot_words, slots_if, words_at, words_if}
use Rattle.life_store.specs.Owners.{ended}
use Rattle.life_store.specs.Parts.{Parts, width}
use Rattle.life_store.specs.Edits.{popped}
use Rattle.life_store.proofs.MapLemmas.{set-set}
use Rattle.life_forest.specs.Forest.{IsForest}
use Rattle.life_forest.specs.Kinds.{Kinds}
use Rattle.life_forest.specs.Values.{AllWide, Known}
use Rattle.life_values.specs.Ended.{ended_number}
use Rattle.life_values.specs.Layouts.{flat, owner_words}
use Rattle.life_values.specs.Popped.{popped_words}
use Rattle.life_values.specs.Zeroed.{zeroed}
use Rattle.life_values.proofs.EmptiedMeant.{emptied_meant, ended_beside, IsPlace}
use Rattle.life_values.proofs.Zeroing.{resized_zeroed}

pub wide_slot : (k : ℕ) (ss : List Slot) (i : ℕ) → AllWide k ss → i < length ss → length (words_if (slice_get ss i)) ≡ k
wide_slot k [] i wide lt = absurd (omega (arith, lt))
wide_slot k (s ∷ ss) zero wide lt = wide.0
wide_slot k (s ∷ ss) (suc i) wide lt = wide_slot k ss i wide.1 (omega arith)

module _ (kind : Kinds) (depth n i : ℕ) (hand : ℕ → ℕ) (p : Parts) (m : Content) (o : Object) (there : at m.objects n ≡ Some o) (forest : IsForest kind hand m) (deep : kind.rank o.ty ≤ depth) (place : IsPlace kind depth n i 0 p o) (fits : o.width ≡ width p)
    (known : Known kind (with_object n (zeroed i 0 (owner_words (flat 0 p)) o) m) p (words_at m n i 0 (width p))) where
  -- all words of the slot
  whole : words_at m n i 0 (width p) ≡ slot_words m n i
  whole =
      let l : length (slot_words m n i) ≡ o.width = ap (λ (x : Option Object). length (words_if (slice_get (slots_if x) i))) there ∙ wide_slot o.width o.slots i place.wide place.slot in
      take_all (width p) (slot_words m n i) (omega (arith, l, fits))

  -- the slot goes, whatever its words are
  cut_alike : (d : Content) → at d.objects n ≡ Some o → resized_at n i i (with_object n (zeroed i 0 (owner_words (flat 0 p)) o) d) ≡ resized_at n i i d
  cut_alike d at_d =
      let z : Object = zeroed i 0 (owner_words (flat 0 p)) o in
      ap (λ (x : Option Object). resized_if x n i i (with_object n z d)) (at-set_same d.objects n n z refl)
      ∙ ap (λ (x : Cells Object). record { objects = x; births = d.births; clock = d.clock + 1 }) (set-set d.objects n z (resized (d.clock + 1) i i z))
      ∙ ap (λ (x : Object). with_object n x (record d { clock = d.clock + 1 })) (resized_zeroed (d.clock + 1) i (owner_words (flat 0 p)) o)
      ∙ ap (λ (x : Option Object). resized_if x n i i d) (sym at_d)

  pub popped_meant : popped_words (ended_number kind depth) (owner_words (flat 0 p)) n (suc i) m ≡ popped p n (suc i) m
  popped_meant =
      ap (λ (x : Content). Got (resized_at n i i x)) (emptied_meant kind depth n i hand 0 p m o there forest deep place known)
      ∙ ap (λ (x : Content). Got x) (cut_alike (ended p (words_at m n i 0 (width p)) m) (ended_beside kind depth n i hand 0 p m o there forest deep place known))
      ∙ ap (λ ws. Got (resized_at n i i (ended p ws m))) whole
