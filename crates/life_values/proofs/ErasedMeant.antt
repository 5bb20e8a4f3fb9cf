-- An element that goes word by word, and the later ones with it, are what the meaning makes of them by the parts of their type.
use Rattle.std.proofs.Common.{◌≡◌, ℕ, suc, ◌+◌, ◌-◌, ◌<◌, ◌≤◌, List, [], ◌∷◌, ◌++◌, length, map, replicate, Option, Some, refl, sym, ap, ◌∙◌, arith, length-append, take_all}
use Rattle.std.specs.Prelude.{drop, slice_get, take}
use Rattle.life_store.specs.Cells.{Cells, at, at-set_same}
use Rattle.life_store.specs.Content.{Slot, Object, Content, blank_slot, resized, resized_slots, stamped, with_object}
use Rattle.life_values.specs.Emptied.{emptied_each}
use Rattle.life_store.specs.Edits.{closed_up, erased, words_in}
use Rattle.life_store.specs.Held.{filled, filled_if, filled_slots, resized_at, resized_if, slot_words, slots_at, slots_if, words_at, words_if}
use Rattle.life_store.specs.Owners.{ended, taken_slots}
use Rattle.life_store.specs.Parts.{Parts, width}
use Rattle.life_store.proofs.MapLemmas.{set-set}
use Rattle.life_forest.specs.Forest.{IsForest}
use Rattle.life_forest.specs.Kinds.{Kinds}
use Rattle.life_forest.specs.Owned.{times}
use Rattle.life_forest.specs.Values.{owned_slots, AllWide, Known}
use Rattle.life_forest.proofs.Beside.{length-taken_slots, taken_slots_stay}
use Rattle.life_forest.proofs.Lists.{drop_front, take_front}
use Rattle.life_values.specs.Ended.{ended_number}
use Rattle.life_values.specs.Erased.{erased_words}
use Rattle.life_values.specs.Layouts.{flat, owner_words}
use Rattle.life_values.specs.Moved.{slots_moved}
use Rattle.life_values.specs.Regrown.{slot_at, slots_taken}
use Rattle.life_values.specs.Zeroed.{zeroed}
use Rattle.life_values.proofs.EmptiedMeant.{emptied_meant, ended_beside, IsPlace}
use Rattle.life_values.proofs.EmptiedThen.{emptied_births}
use Rattle.life_values.proofs.InRows.{nothing_owned, one_more, regrouped, slot_here, with_slots, zeroed_here}
use Rattle.life_values.proofs.RegrownMeant.{filled_count, filled_wide}
use Rattle.life_values.proofs.SlotsShifted.{nothing_long, shifted, slots_shifted}
use Rattle.life_values.proofs.SlotsTaken.{taken_behind}

-- ---- slots that are cut

-- a slot and those behind it, without the last
front_alike : (b : ℕ) (o : Object) (w : ℕ) (us : List ℕ) (z s : Slot) (rest : List Slot) (vs : List (List ℕ)) (xs ys : List Slot) → z.stamp ≡ s.stamp → length vs ≡ length rest
    → take (length rest) (shifted b o w us z (filled_slots rest vs) ++ xs) ≡ take (length rest) (filled_slots (s ∷ rest) vs ++ ys)
front_alike b o w us z s [] [] xs ys same e = refl
front_alike b o w us z s [] (v ∷ vs) xs ys same e = absurd (omega (arith, e))
front_alike b o w us z s (r ∷ rest) [] xs ys same e = absurd (omega (arith, e))
front_alike b o w us z s (r ∷ rest) (v ∷ vs) xs ys same e =
    (λ j. record { words = v; stamp = same j } ∷ front_alike b o w us (record { words = nothing_owned 0 us v; stamp = r.stamp }) r rest vs xs ys refl (omega (arith, e)) j)

drop_behind : (pre xs : List Slot) (i : ℕ) → length pre ≡ i → drop i (pre ++ xs) ≡ xs
drop_behind pre xs i e = drop_front i pre xs e

resized_alike : (wide moment i n : ℕ) (pre xs ys : List Slot) → length pre ≡ i
    → ((b c : List Slot) → take n (xs ++ b) ≡ take n (ys ++ c)) → resized_slots wide moment (i + n) i (pre ++ xs) ≡ resized_slots wide moment (i + n) i (pre ++ ys)
resized_alike wide moment i n pre xs ys e same =
    let z : i + n - i ≡ n = omega arith in
    let b : List Slot = replicate (i + n - length (pre ++ xs)) (blank_slot wide moment) in
    let c : List Slot = replicate (i + n - length (pre ++ ys)) (blank_slot wide moment) in
    (λ j. take_front i pre xs e j ++ map (stamped moment) (take (z j) (drop_behind pre xs i e j ++ b)))
    ∙ ap (λ (rr : List Slot). pre ++ map (stamped moment) rr) (same b c)
    ∙ (λ j. sym (take_front i pre ys e) j ++ map (stamped moment) (take (sym z j) (sym (drop_behind pre ys i e) j ++ c)))

filled_front : (pre xs : List Slot) (vs : List (List ℕ)) → filled_slots (pre ++ xs) (map words_in pre ++ vs) ≡ pre ++ filled_slots xs vs
filled_front [] xs vs = refl
filled_front (p ∷ pre) xs vs = ap (λ (rest : List Slot). p ∷ rest) (filled_front pre xs vs)

-- ---- the element

module _ (kind : Kinds) (depth b : ℕ) (hand : ℕ → ℕ) (p : Parts) (m : Content) (o : Object) (there : at m.objects b ≡ Some o) (forest : IsForest kind hand m) (deep : kind.rank o.ty ≤ depth)
    (pre : List Slot) (s : Slot) (rest : List Slot) (split : o.slots ≡ pre ++ s ∷ rest) (place : IsPlace kind depth b (length pre) 0 p o) (fits : o.width ≡ width p)
    (known : Known kind (with_object b (zeroed (length pre) 0 (owner_words (flat 0 p)) o) m) p (words_at m b (length pre) 0 (width p)))
    (long : length s.words ≡ width p) (wide : AllWide (width p) rest) (free : times (owned_slots p rest) b ≡ 0) where
  abbrev us : List ℕ
  us = owner_words (flat 0 p)

  abbrev i : ℕ
  i = length pre

  abbrev z : Slot
  z = record { words = nothing_owned 0 us s.words; stamp = s.stamp }

  -- what is there when the element has ended
  abbrev d : Content
  d = ended p (words_at m b i 0 (width p)) m

  abbrev vs : List (List ℕ)
  vs = (taken_slots p rest d).0

  abbrev t : Content
  t = (taken_slots p rest d).1

  size_is : length o.slots ≡ i + 1 + length rest
  size_is = ap length split ∙ length-append pre (s ∷ rest) ∙ (let e : i + suc (length rest) ≡ i + 1 + length rest = omega arith in e)

  at_d : at d.objects b ≡ Some o
  at_d = ended_beside kind depth b i hand 0 p m o there forest deep place known

  emptied_is : emptied_each (ended_number kind depth) b i 0 us m ≡ with_object b (with_slots o (pre ++ z ∷ rest)) d
  emptied_is =
      emptied_meant kind depth b i hand 0 p m o there forest deep place known
      ∙ ap (λ (x : Object). with_object b x d) (ap (λ (ss : List Slot). zeroed i 0 us (with_slots o ss)) split ∙ zeroed_here o pre s rest 0 us)

  d_born : b < d.births
  d_born =
      let e = sym (ap (λ (x : Content). x.births) emptied_is) ∙ emptied_births kind depth b i 0 us m in
      let l = forest.births b o there in
      omega (arith, e, l)

  taken_is : slots_taken (flat 0 p) b (i + 1) (length rest) (emptied_each (ended_number kind depth) b i 0 us m) ≡ with_object b (with_slots o (pre ++ z ∷ filled_slots rest vs)) t
  taken_is =
      ap (slots_taken (flat 0 p) b (i + 1) (length rest)) emptied_is
      ∙ (λ j. slots_taken (flat 0 p) b (sym (one_more pre z) j) (length rest) (with_object b (with_slots o (regrouped pre z rest j)) d))
      ∙ taken_behind p b o (pre ++ z ∷ []) rest d wide free d_born
      ∙ ap (λ (ss : List Slot). with_object b (with_slots o ss) t) (sym (regrouped pre z (filled_slots rest vs)))

  abbrev after : List Slot
  after = shifted b o (width p) us z (filled_slots rest vs)

  moved_is : slots_moved (slot_at b (i + 1)) (slot_at b i) (width p) us (length rest) (slots_taken (flat 0 p) b (i + 1) (length rest) (emptied_each (ended_number kind depth) b i 0 us m)) ≡ with_object b (with_slots o (pre ++ after)) t
  moved_is =
      ap (slots_moved (slot_at b (i + 1)) (slot_at b i) (width p) us (length rest)) taken_is
      ∙ ap (λ n. slots_moved (slot_at b (i + 1)) (slot_at b i) (width p) us n (with_object b (with_slots o (pre ++ z ∷ filled_slots rest vs)) t)) (sym (filled_count rest vs))
      ∙ slots_shifted b o (width p) us pre z (filled_slots rest vs) t (nothing_long b o (width p) us 0 us s.words ∙ long) (filled_wide p rest d wide)

  -- the buffer with one slot less
  abbrev cut : List Slot → Content
  cut ss = with_object b (resized (t.clock + 1) (i + length rest) i (with_slots o ss)) (record { objects = t.objects; births = t.births; clock = t.clock + 1 })

  cut_is : (ss : List Slot) → resized_at b (i + length rest) i (with_object b (with_slots o ss) t) ≡ cut ss
  cut_is ss =
      ap (λ (x : Option Object). resized_if x b (i + length rest) i (with_object b (with_slots o ss) t)) (at-set_same t.objects b b (with_slots o ss) refl)
      ∙ ap (λ (x : Cells Object). record { objects = x; births = t.births; clock = t.clock + 1 }) (set-set t.objects b (with_slots o ss) (resized (t.clock + 1) (i + length rest) i (with_slots o ss)))

  slots_alike : cut (pre ++ after) ≡ cut (pre ++ filled_slots (s ∷ rest) vs)
  slots_alike =
      ap (λ (ss : List Slot). with_object b (record o { slots = ss; end = t.clock + 1 }) (record { objects = t.objects; births = t.births; clock = t.clock + 1 }))
      (resized_alike o.width (t.clock + 1) i (length rest) pre after (filled_slots (s ∷ rest) vs) refl
      (λ xs ys. front_alike b o (width p) us z s rest vs xs ys refl (length-taken_slots p rest d)))

  at_t : at t.objects b ≡ Some o
  at_t = taken_slots_stay p rest d b d_born free ∙ at_d

  whole : words_at m b i 0 (width p) ≡ slot_words m b i
  whole =
      let l : length (slot_words m b i) ≡ width p = ap (λ (x : Option Object). length (words_if (slice_get (slots_if x) i))) there ∙ ap (λ (ss : List Slot). length (words_if (slice_get ss i))) split ∙ ap (λ x. length (words_if x)) (slot_here pre s rest) ∙ long in
      take_all (width p) (slot_words m b i) (omega (arith, l))

  -- what the meaning has of the slots
  front_is : take i (slots_at m b) ≡ pre
  front_is = ap (λ (x : Option Object). take i (slots_if x)) there ∙ ap (take i) split ∙ take_front i pre (s ∷ rest) refl

  rest_is : drop (i + 1) (slots_at m b) ≡ rest
  rest_is =
      ap (λ (x : Option Object). drop (i + 1) (slots_if x)) there
      ∙ ap (drop (i + 1)) (split ∙ regrouped pre s rest)
      ∙ drop_front (i + 1) (pre ++ s ∷ []) rest (one_more pre s)

  filled_is : filled b (map words_in pre ++ vs) t ≡ with_object b (with_slots o (pre ++ filled_slots (s ∷ rest) vs)) t
  filled_is =
      ap (λ (x : Option Object). filled_if x b (map words_in pre ++ vs) t) at_t
      ∙ ap (λ (ss : List Slot). with_object b (with_slots o (filled_slots ss (map words_in pre ++ vs))) t) split
      ∙ ap (λ (ss : List Slot). with_object b (with_slots o ss) t) (filled_front pre (s ∷ rest) vs)

  pub erased_meant : erased_words (ended_number kind depth) (flat 0 p) (width p) us b i (length o.slots) m ≡ erased p b i m
  erased_meant =
      let n : length o.slots - (i + 1) ≡ length rest = (let e = size_is in omega (arith, e)) in
      let k : length o.slots - 1 ≡ i + length rest = (let e = size_is in omega (arith, e)) in
      (λ j. resized_at b (k j) i (slots_moved (slot_at b (i + 1)) (slot_at b i) (width p) us (n j) (slots_taken (flat 0 p) b (i + 1) (n j) (emptied_each (ended_number kind depth) b i 0 us m))))
      ∙ ap (resized_at b (i + length rest) i) moved_is
      ∙ cut_is (pre ++ after)
      ∙ slots_alike
      ∙ sym (cut_is (pre ++ filled_slots (s ∷ rest) vs))
      ∙ ap (resized_at b (i + length rest) i) (sym filled_is)
      ∙ (λ j. resized_at b (sym k j) i (filled b (map words_in pre ++ vs) t))
      ∙ (λ j. closed_up b i (size_of_slots j) (map words_in (sym front_is j)) (taken_slots p (sym rest_is j) (ended p (whole j) m)))
    where
      size_of_slots : length o.slots ≡ length (slots_at m b)
      size_of_slots = ap (λ (x : Option Object). length (slots_if x)) (sym there)
