-- The kinds of instructions that go from pointers to pointers, where no pointer that they read may be invalid: they make no fault, and what
-- they make is covered by the facts that it takes.
use Rattle.std.proofs.Common.{◌≡◌, ℕ, zero, suc, ◌+◌, ◌-◌, ◌≤◌, ◌<◌, Bool, true, false, List, length, Option, Some, None, refl, sym, subst, arith}
use Rattle.std.specs.Prelude.{ℤ, pos, negsuc, ◌+ℤ◌, cond, min, nat_le, nat_lt}
use Rattle.std.proofs.lemmas.Bool.Decides.{nat_tests}
use Rattle.life_types.specs.Types.{Types}
use Rattle.life_core.specs.declared.instr.Direction.{Direction}
use Rattle.life_core.specs.declared.operand.RangeEnd.{RangeEnd}
use Rattle.life_core.specs.declared.operand.RangeEnd.TheVariants as range_end
use Rattle.life_core.specs.declared.operand.Which.{Which}
use Rattle.life_core.specs.declared.operand.Which.TheVariants as which
use Rattle.life_core.specs.Function.{Function}
use Rattle.life_core.specs.Operands.{Location}
use Rattle.life_core.specs.Operands as named
use Rattle.life_contract.specs.Located.{located}
use Rattle.life_pset.specs.declared.element.Element.{Element}
use Rattle.life_pset.specs.declared.element.Fact.{Fact}
use Rattle.life_pset.specs.declared.element.Root.{Root}
use Rattle.life_rules.specs.Matching.{fact_at}
use Rattle.life_store.specs.Content.{Content}
use Rattle.life_store.specs.Doing.{advanced, count_in, cursor, cut, element, type_if}
use Rattle.life_store.specs.Effects.{Attempt, Got, GotTrap, GotFault, GotLost, Effect, Setting, cell, on_got, on_number, then_get, type_of}
use Rattle.life_store.specs.Held.{slots_at}
use Rattle.life_store.specs.Iterators.{at_index, below_if, chosen, count_of, directed, element_of, end_index, index_in, iterator, standing, stepped, up_to}
use Rattle.life_store.specs.Parts.{location_type}
use Rattle.life_store.specs.Places.{location_cell, pointed}
use Rattle.life_store.specs.State.{Pointer, Null, Wild, To, Static, Cell, Empty, Named, Number, Points, State}
use Rattle.life_store.specs.Views.{is_span, part_count, part_of, seen_count, text_size, usable, used}
use Rattle.life_store.specs.declared.run.TrapKind.TheVariants as trap
use Rattle.life_forest.specs.Forest.{IsForest}
use Rattle.life_forest.specs.Kinds.{kinds_of}
use Rattle.life_cover.specs.Covers.{IsCovered, Reseen}
use Rattle.life_cover.specs.Frames.{look_in}
use Rattle.life_cover.specs.Regions.{Region}
use Rattle.life_cover.proofs.Pointers.{HasPosition, IfRight, OnRight, advanced_right, part_right, right_then, used_right}
use Rattle.life_cover.proofs.Using.{NotInvalid}

-- ---- what is counted

le_of : (a b : ℕ) → nat_le a b ≡ true → a ≤ b
le_of a b h = grind (arith, nat_tests)

lt_of : (a b : ℕ) → nat_lt a b ≡ true → a < b
lt_of a b h = grind (arith, nat_tests)

pub by_test : {A : Type 0} (b : Bool) (x y : Attempt A) (P : A → Type 0) → (b ≡ true → IfRight x P) → IfRight y P → IfRight (cond b x y) P
by_test true x y P h k = h refl
by_test false x y P h k = k

up_to_right : (size : ℕ) (z : ℤ) → IfRight (up_to size z) (λ i. i ≤ size)
up_to_right size (pos n) = by_test (nat_le n size) (Got n) (GotTrap trap.Bounds) (λ i. i ≤ size) (λ e. le_of n size e) tt
up_to_right size (negsuc n) = tt

stepped_right : (texts : List (List ℕ)) (c : Content) (v : Pointer) (z : ℤ) → IfRight (stepped texts c v z) (HasPosition c v)
stepped_right texts c Null z = tt
stepped_right texts c Wild z = tt
stepped_right texts c (To t) z = up_to_right (length (slots_at c t.object)) (pos t.index +ℤ z)
stepped_right texts c (Static s) z = weaker (up_to (text_size texts s) (pos s.index +ℤ z)) (up_to_right (text_size texts s) (pos s.index +ℤ z))
  where
    weaker : (x : Attempt ℕ) → IfRight x (λ i. i ≤ text_size texts s) → IfRight x (λ i. Unit {0})
    weaker (Got i) h = tt
    weaker (GotTrap kind) h = tt
    weaker (GotFault kind) h = h
    weaker GotLost h = tt

index_right : (v : Option Cell) → IfRight (index_in v) (λ i. Unit {0})
index_right None = tt
index_right (Some Empty) = tt
index_right (Some (Named n)) = tt
index_right (Some (Number z)) = tt
index_right (Some (Points p)) = tt

pub then_right : {A B : Type 0} (x : Attempt A) (go : A → Attempt B) (P : A → Type 0) (Q : B → Type 0) → IfRight x P → ((a : A) → P a → IfRight (go a) Q) → IfRight (then_get x go) Q
then_right (Got a) go P Q h each = each a h
then_right (GotTrap kind) go P Q h each = tt
then_right (GotFault kind) go P Q h each = absurd h
then_right GotLost go P Q h each = tt

count_right : (st : State) (r : Option ℕ) → IfRight (count_in st r) (λ n. Unit {0})
count_right st None = tt
count_right st (Some r) = then_right (index_in (cell st r)) (λ n. Got (Some n)) (λ n. Unit {0}) (λ n. Unit {0}) (index_right (cell st r)) (λ n h. tt)

part_count_right : (span : Bool) (i : ℕ) (n : Option ℕ) (count : ℕ) → IfRight (part_count span i n count) (λ k. i + k ≤ count)
part_count_right span i None count = by_test (nat_le i count) (Got (count - i)) (GotTrap trap.Bounds) (λ k. i + k ≤ count) (λ e. let le = le_of i count e in omega (arith, le)) tt
part_count_right true i (Some n) count = by_test (nat_le (i + n) count) (Got n) (GotTrap trap.Bounds) (λ k. i + k ≤ count) (λ e. le_of (i + n) count e) tt
part_count_right false i (Some n) count =
    by_test (nat_le i count) (Got (min n (count - i))) (GotTrap trap.Bounds) (λ k. i + k ≤ count) (λ e. let le = le_of i count e in let m = least n (count - i) in omega (arith, le, m)) tt
  where
    least : (a b : ℕ) → min a b ≤ b
    least a b = omega arith

pub chosen_right : (st : State) (w : Which) (size : ℕ) → IfRight (chosen st w size) (λ i. i ≤ size)
chosen_right st (which.Index r) size = found (index_in (cell st r)) (index_right (cell st r))
  where
    found : (x : Attempt ℕ) → IfRight x (λ i. Unit {0}) → IfRight (below_if x size) (λ i. i ≤ size)
    found (Got i) h = by_test (nat_lt i size) (Got i) (GotTrap trap.Bounds) (λ k. k ≤ size) (λ e. let lt = lt_of i size e in omega (arith, lt)) tt
    found (GotTrap kind) h = tt
    found (GotFault kind) h = h
    found GotLost h = tt
chosen_right st which.First size = by_test (nat_lt 0 size) (Got 0) (GotTrap trap.Bounds) (λ k. k ≤ size) (λ e. omega arith) tt
chosen_right st which.Last zero = tt
chosen_right st which.Last (suc n) = omega arith
chosen_right st which.Target size = tt

pub end_fits : (end : RangeEnd) (size : ℕ) → end_index end size ≤ size
end_fits range_end.Begin size = omega arith
end_fits range_end.End size = omega arith

-- ---- the kinds, where p may be given what is covered

module _ (types : Types) (f : Function) (Stands : Root → Region → Type 0) (may_change : Root → Bool) (S S' : Fact → Type 0) (st : State) (p q : Location) (v : Pointer) (there : location_cell types f q st ≡ Some (Points v)) (right : NotInvalid S (located q))
    (target : Reseen types (look_in types f q).target (look_in types f p).target) (constant : (look_in types f p).constant ≡ false → (look_in types f q).constant ≡ false) (takes : (e : Element) → S (fact_at (located q) e) → S' (fact_at (located p) e))
    (covered : IsCovered types st.world.content Stands may_change S (located q) (look_in types f q) v) (hand : ℕ → ℕ) (forest : IsForest (kinds_of types) hand st.world.content)
    (Q : State → Type 0) (given : (u : Pointer) → IsCovered types st.world.content Stands may_change S' (located p) (look_in types f p) u → OnRight (pointed types f p u st) Q) where
  abbrev c : Content
  c = st.world.content

  pub advance_right : (s : Setting) (r : ℕ) (way : Direction) → (look_in types f q).ranged ≡ false → (look_in types f p).ranged ≡ false → OnRight (advanced s types f p q r way st) Q
  advance_right s r way is is' =
      subst (λ o. OnRight (on_got (iterator c o) go) Q) (sym there)
      (right_then (standing c v) go (λ u. (i : ℕ) → HasPosition c u i → IsCovered types c Stands may_change S' (located p) (look_in types f p) (at_index c.clock i u)) Q
      (advanced_right types c Stands may_change S S' (located q) (located p) (look_in types f q) (look_in types f p) right target constant takes hand forest v is is' covered)
      (λ u each. number (cell st r) u each))
    where
      go : Pointer → Effect
      go u = on_number (cell st r) (λ z. on_got (stepped s.texts c u (directed way (count_of (type_of types f r) z))) (λ i. pointed types f p (at_index c.clock i u) st))

      number : (o : Option Cell) (u : Pointer) → ((i : ℕ) → HasPosition c u i → IsCovered types c Stands may_change S' (located p) (look_in types f p) (at_index c.clock i u))
          → OnRight (on_number o (λ z. on_got (stepped s.texts c u (directed way (count_of (type_of types f r) z))) (λ i. pointed types f p (at_index c.clock i u) st))) Q
      number None u each = tt
      number (Some Empty) u each = tt
      number (Some (Named n)) u each = tt
      number (Some (Points w)) u each = tt
      number (Some (Number z)) u each =
          right_then (stepped s.texts c u (directed way (count_of (type_of types f r) z))) (λ i. pointed types f p (at_index c.clock i u) st) (HasPosition c u) Q
          (stepped_right s.texts c u (directed way (count_of (type_of types f r) z))) (λ i h. given (at_index c.clock i u) (each i h))

  pub cut_right : (r : ℕ) (count : Option ℕ) → (look_in types f q).ranged ≡ true → (look_in types f p).ranged ≡ true → OnRight (cut types f p q r count st) Q
  cut_right r count is is' =
      subst (λ o. OnRight (on_got (used c o) go) Q) (sym there)
      (right_then (usable c v) go (λ u. (i n : ℕ) → i + n ≤ seen_count u → IsCovered types c Stands may_change S' (located p) (look_in types f p) (part_of c.clock i n u)) Q
      (part_right types c Stands may_change S S' (located q) (located p) (look_in types f q) (look_in types f p) right target constant takes hand forest v is is' covered)
      (λ u each. right_then (index_in (cell st r)) (from u) (λ i. Unit {0}) Q (index_right (cell st r))
      (λ i h. right_then (count_in st count) (parts u i) (λ n. Unit {0}) Q (count_right st count)
      (λ n k. right_then (part_count span i n (seen_count u)) (λ m. pointed types f p (part_of c.clock i m u) st) (λ m. i + m ≤ seen_count u) Q (part_count_right span i n (seen_count u))
      (λ m fits. given (part_of c.clock i m u) (each i m fits))))))
    where
      span : Bool
      span = is_span (type_if types (location_type types f q))

      parts : Pointer → ℕ → Option ℕ → Effect
      parts u i n = on_got (part_count (is_span (type_if types (location_type types f q))) i n (seen_count u)) (λ m. pointed types f p (part_of c.clock i m u) st)

      from : Pointer → ℕ → Effect
      from u i = on_got (count_in st count) (parts u i)

      go : Pointer → Effect
      go u = on_got (index_in (cell st r)) (from u)

  pub element_right : (w : Which) → (look_in types f q).ranged ≡ true → (look_in types f p).ranged ≡ false → OnRight (element types f p (named.Pointer q) w st) Q
  element_right w is is' =
      subst (λ o. OnRight (on_got (used c o) go) Q) (sym there)
      (right_then (usable c v) go (λ u. (i : ℕ) → i ≤ seen_count u → IsCovered types c Stands may_change S' (located p) (look_in types f p) (element_of c.clock i u)) Q
      (used_right types c Stands may_change S S' (located q) (located p) (look_in types f q) (look_in types f p) right target constant takes hand forest v is is' covered)
      (λ u each. right_then (chosen st w (seen_count u)) (λ i. pointed types f p (element_of c.clock i u) st) (λ i. i ≤ seen_count u) Q (chosen_right st w (seen_count u))
      (λ i fits. given (element_of c.clock i u) (each i fits))))
    where
      go : Pointer → Effect
      go u = on_got (chosen st w (seen_count u)) (λ i. pointed types f p (element_of c.clock i u) st)

  pub cursor_right : (end : RangeEnd) → (look_in types f q).ranged ≡ true → (look_in types f p).ranged ≡ false → OnRight (cursor types f p (named.Pointer q) end st) Q
  cursor_right end is is' =
      subst (λ o. OnRight (on_got (used c o) go) Q) (sym there)
      (right_then (usable c v) go (λ u. (i : ℕ) → i ≤ seen_count u → IsCovered types c Stands may_change S' (located p) (look_in types f p) (element_of c.clock i u)) Q
      (used_right types c Stands may_change S S' (located q) (located p) (look_in types f q) (look_in types f p) right target constant takes hand forest v is is' covered)
      (λ u each. given (element_of c.clock (end_index end (seen_count u)) u) (each (end_index end (seen_count u)) (end_fits end (seen_count u)))))
    where
      go : Pointer → Effect
      go u = pointed types f p (element_of c.clock (end_index end (seen_count u)) u) st
