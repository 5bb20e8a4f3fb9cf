-- Pointers that are made now hold, and one that holds may be used.
use Rattle.std.proofs.Common.{◌≡◌, ℕ, zero, suc, ◌+◌, ◌≤◌, Bool, true, false, length, Option, Some, None, refl, sym, ap, ◌∙◌, arith}
use Rattle.std.specs.Prelude.{◌&&◌, ◌||◌, nat_eq, nat_le}
use Rattle.std.proofs.lemmas.Bool.{and_from, false≢true, or_right}
use Rattle.std.proofs.lemmas.Bool.Decides.{nat_tests}
use Rattle.life_store.specs.Cells.{at}
use Rattle.life_store.specs.Content.{Object, Content, are_settled, is_settled, is_valid_in}
use Rattle.life_store.specs.Held.{slots_at, slots_if}
use Rattle.life_store.specs.Places.{is_valid}
use Rattle.life_store.specs.State.{Target}
use Rattle.life_store.specs.Views.{is_valid_range}
use Rattle.life_forest.specs.Forest.{IsForest}
use Rattle.life_forest.specs.Kinds.{Kinds}
use Rattle.life_forest.proofs.Aims.{valid_now}
use Rattle.life_cover.specs.Covers.{Holds}

of_le : (a b : ℕ) → a ≤ b → nat_le a b ≡ true
of_le a b h = grind (arith, nat_tests)

left_true : (a b : Bool) → (a && b) ≡ true → a ≡ true
left_true true b h = refl
left_true false b h = h

-- ---- what holds lives

pub holds_lives : (c : Content) (ranged : Bool) (t : Target) → Holds c ranged t → (o : Object) × (at c.objects t.object ≡ Some o)
holds_lives c ranged t h = go (at c.objects t.object) refl h.settled
  where
    go : (x : Option Object) → at c.objects t.object ≡ x → is_valid_in t.index t.count t.moment x ≡ true → (o : Object) × (at c.objects t.object ≡ Some o)
    go None e v = absurd (false≢true v)
    go (Some o) e v = (o, e)

pub range_within : (c : Content) (t : Target) (o : Object) → Holds c true t → at c.objects t.object ≡ Some o → t.index + t.count ≤ length o.slots
range_within c t o h there =
    let w = h.within refl in
    let n = ap (λ (x : Option Object). length (slots_if x)) there in
    omega (arith, w, n)

-- ---- it may be used

pub range_valid : (c : Content) (t : Target) → Holds c true t → is_valid_range c t ≡ true
range_valid c t h =
    and_from (is_valid_in t.index t.count t.moment (at c.objects t.object)) (nat_eq t.count 0 || nat_le (t.index + t.count) (length (slots_at c t.object))) h.settled
    (or_right (nat_eq t.count 0) (nat_le (t.index + t.count) (length (slots_at c t.object))) (of_le (t.index + t.count) (length (slots_at c t.object)) (h.within refl)))

pub position_valid : (c : Content) (t : Target) → Holds c false t → is_valid c t ≡ true
position_valid c t h = ap (λ n. is_valid_in t.index n t.moment (at c.objects t.object)) (sym (h.single refl)) ∙ h.settled

-- ---- new ones

abbrev pub at_position : (c : Content) → (object index word : ℕ) → Target
at_position c n i w = record { object = n; index = i; word = w; count = 1; moment = c.clock }

abbrev pub at_range : (c : Content) → (object index word count : ℕ) → Target
at_range c n i w count = record { object = n; index = i; word = w; count = count; moment = c.clock }

module _ (kind : Kinds) (hand : ℕ → ℕ) (c : Content) (forest : IsForest kind hand c) (n : ℕ) (o : Object) (there : at c.objects n ≡ Some o) where
  -- at any position, the end among them
  pub position_holds : (i w : ℕ) → i ≤ length o.slots → Holds c false (at_position c n i w)
  position_holds i w le = record { settled = valid_now kind hand c n i o forest there le; single = λ e. refl; within = λ e. absurd (false≢true e) }

  settled_now : (i : ℕ) → i ≤ length o.slots → is_settled o i c.clock ≡ true
  settled_now i le = left_true (is_settled o i c.clock) true (sym (ap (is_valid_in i 1 c.clock) there) ∙ valid_now kind hand c n i o forest there le)

  all_settled : (i count : ℕ) → i + count ≤ length o.slots → are_settled o i count c.clock ≡ true
  all_settled i zero le = refl
  all_settled i (suc count) le = and_from (is_settled o i c.clock) (are_settled o (i + 1) count c.clock) (settled_now i (omega (arith, le))) (all_settled (i + 1) count (omega (arith, le)))

  -- a range in front of the end
  pub range_holds : (i w count : ℕ) → i + count ≤ length o.slots → Holds c true (at_range c n i w count)
  range_holds i w count le = record {
    settled = ap (is_valid_in i count c.clock) there ∙ all_settled i count le;
    single = λ e. absurd (false≢true (sym e));
    within = λ e. let size = ap (λ (x : Option Object). length (slots_if x)) there in omega (arith, le, size);
  }

module _ (kind : Kinds) (hand : ℕ → ℕ) (c : Content) (forest : IsForest kind hand c) (t : Target) where
  -- one position of a range, or its end
  pub element_holds : (i : ℕ) → i ≤ t.count → Holds c true t → Holds c false (at_position c t.object (t.index + i) t.word)
  element_holds i le h =
      let l = holds_lives c true t h in
      let w = range_within c t l.0 h l.1 in
      position_holds kind hand c forest t.object l.0 l.1 (t.index + i) t.word (omega (arith, le, w))

  -- a part of one
  pub part_holds : (i n : ℕ) → i + n ≤ t.count → Holds c true t → Holds c true (at_range c t.object (t.index + i) t.word n)
  part_holds i n le h =
      let l = holds_lives c true t h in
      let w = range_within c t l.0 h l.1 in
      range_holds kind hand c forest t.object l.0 l.1 (t.index + i) t.word n (omega (arith, le, w))

  -- an iterator that went on to any position
  pub advanced_holds : (ranged : Bool) (i : ℕ) → i ≤ length (slots_at c t.object) → Holds c ranged t → Holds c false (at_position c t.object i t.word)
  advanced_holds ranged i le h =
      let l = holds_lives c ranged t h in
      let size = ap (λ (x : Option Object). length (slots_if x)) l.1 in
      position_holds kind hand c forest t.object l.0 l.1 i t.word (omega (arith, le, size))
