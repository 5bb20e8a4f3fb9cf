-- What comes back for slots, one argument after the other: each parameter that is a slot gives back what stands in it.
use Rattle.std.proofs.Common.{◌≡◌, ℕ, zero, suc, ◌+◌, Bool, true, cond, List, [], ◌∷◌, ◌++◌, length, map, take, Option, Some, None, refl, sym, ap, ◌∙◌, arith}
use Rattle.std.proofs.lemmas.Bool.{and_parts, false≢true}
use Rattle.std.specs.Prelude.{slice_get}
use Rattle.life_types.specs.Types.{Types, is_slot_at}
use Rattle.life_core.specs.declared.program.Local.{Local}
use Rattle.life_core.specs.Function.{Function}
use Rattle.life_core.specs.Operands.{Argument, GivenOver, Location, PointerOf, Slot, Value}
use Rattle.life_proper.specs.WellFormed as formed
use Rattle.life_proper.specs.WellFormed.{are_arguments_for, is_argument_for}
use Rattle.life_store.specs.Calls.{first_given, slot_back, slot_cell, slot_count, slot_returned, slots_back, slots_returned, taken_back, target_given}
use Rattle.life_store.specs.Doing.{Setting, Effect, Next, Traps, Faults, Strays, cell, on_next}
use Rattle.life_store.specs.State.{Cell, State}
use Rattle.life_forest.proofs.CallersGo.{back_of}
use Rattle.life_forest.proofs.SlotsGo.{own_argument}
use Rattle.life_interp.specs.CallOperands.{slot_values}
use Rattle.life_interp.specs.Returning.{back_given}

-- ---- which values

module _ (types : Types) (texts : ℕ) (fs : List Function) (f g : Function) (after : State) where
  values_from : (n : ℕ) (ls : List Local) (x : ℕ) (xs : List Argument) → ((i : ℕ) → slice_get ls i ≡ slice_get g.locals (x + i)) → are_arguments_for types texts fs f (map formed.local_type (take n ls)) xs ≡ true → slots_back types g x n after ≡ slot_values after.cells x xs
  values_from zero ls x [] same e = refl
  values_from zero ls x (y ∷ ys) same e = absurd (false≢true e)
  values_from (suc n) [] x [] same e =
      let none : x + 0 ≡ x = omega arith in
      ap (λ (o : Option Local). slot_back types o (cell after x) ++ slots_back types g (x + 1) n after) (ap (slice_get g.locals) (sym none) ∙ sym (same 0))
      ∙ values_from n [] (x + 1) [] (λ i. let k : x + suc i ≡ x + 1 + i = omega arith in same (suc i) ∙ ap (slice_get g.locals) k) (no_arguments n)
    where
      no_arguments : (k : ℕ) → are_arguments_for types texts fs f (map formed.local_type (take k [])) [] ≡ true
      no_arguments zero = refl
      no_arguments (suc k) = refl
  values_from (suc n) [] x (y ∷ ys) same e = absurd (false≢true e)
  values_from (suc n) (l ∷ ls) x [] same e = absurd (false≢true e)
  values_from (suc n) (l ∷ ls) x (y ∷ ys) same e =
      let none : x + 0 ≡ x = omega arith in
      let local : slice_get g.locals x ≡ Some l = ap (slice_get g.locals) (sym none) ∙ sym (same 0) in
      let both = and_parts (is_argument_for types texts fs f l.ty y) (are_arguments_for types texts fs f (map formed.local_type (take n ls)) ys) e in
      ap (λ (o : Option Local). slot_back types o (cell after x) ++ slots_back types g (x + 1) n after) local
      ∙ one y both.0 (values_from n ls (x + 1) ys (λ i. let k : x + suc i ≡ x + 1 + i = omega arith in same (suc i) ∙ ap (slice_get g.locals) k) both.1)
    where
      plain : (z : Argument) → ((m : Location) → z ≡ Slot m → ⊥) → is_argument_for types texts fs f l.ty z ≡ true → cond (is_slot_at types l.ty) (slot_cell (cell after x) ∷ []) [] ++ slots_back types g (x + 1) n after ≡ slots_back types g (x + 1) n after
      plain z other h = ap (λ (b : Bool). cond b (slot_cell (cell after x) ∷ []) [] ++ slots_back types g (x + 1) n after) (own_argument types texts fs f l.ty z other h)

      one : (z : Argument) → is_argument_for types texts fs f l.ty z ≡ true → slots_back types g (x + 1) n after ≡ slot_values after.cells (x + 1) ys
          → cond (is_slot_at types l.ty) (slot_cell (cell after x) ∷ []) [] ++ slots_back types g (x + 1) n after ≡ slot_values after.cells x (z ∷ ys)
      one (Value r) h more = plain (Value r) (λ m k. unlike m k) h ∙ more
        where
          unlike : (m : Location) → Value r ≡ Slot m → ⊥
          unlike m k = cc
      one (GivenOver r) h more = plain (GivenOver r) (λ m k. unlike m k) h ∙ more
        where
          unlike : (m : Location) → GivenOver r ≡ Slot m → ⊥
          unlike m k = cc
      one (PointerOf q) h more = plain (PointerOf q) (λ m k. unlike m k) h ∙ more
        where
          unlike : (m : Location) → PointerOf q ≡ Slot m → ⊥
          unlike m k = cc
      one (Slot m) h more =
          ap (λ (b : Bool). cond b (slot_cell (cell after x) ∷ []) [] ++ slots_back types g (x + 1) n after) (and_parts (is_slot_at types l.ty) _ h).0
          ∙ ap (λ (vs : List Cell). slot_cell (cell after x) ∷ vs) more

  pub values_back : (xs : List Argument) → are_arguments_for types texts fs f (formed.types_taken g) xs ≡ true → slots_back types g 0 g.parameters after ≡ slot_values after.cells 0 xs
  values_back xs e = values_from g.parameters g.locals 0 xs (λ i. let k : i ≡ 0 + i = omega arith in ap (slice_get g.locals) k) e

-- ---- one after the other

module _ (types : Types) (f : Function) where
  done_then : (k : State → Effect) (e : Effect) → on_next e k ≡ on_next (on_next e (slots_returned types f [] [])) k
  done_then k (Next st) = refl
  done_then k (Traps kind) = refl
  done_then k (Faults kind) = refl
  done_then k Strays = refl

  pub returned_first : (x : Argument) (xs : List Argument) (left : List Cell) (i : ℕ) (st : State)
      → slots_returned types f (x ∷ xs) (slot_values left i (x ∷ xs)) st ≡ on_next (slots_returned types f (x ∷ []) (slot_values left i (x ∷ [])) st) (slots_returned types f xs (slot_values left (i + 1) xs))
  returned_first (Value r) xs left i st = refl
  returned_first (GivenOver y) xs left i st = refl
  returned_first (PointerOf l) xs left i st = refl
  returned_first (Slot l) xs left i st = done_then (slots_returned types f xs (slot_values left (i + 1) xs)) (slot_returned types f l (slot_cell (slice_get left i)) st)

  alone : (e : Effect) → on_next e (slots_returned types f [] []) ≡ e
  alone (Next st) = refl
  alone (Traps kind) = refl
  alone (Faults kind) = refl
  alone Strays = refl

  pub returned_one : (l : Location) (left : List Cell) (i : ℕ) (v : Cell) (st : State) → slice_get left i ≡ Some v → slots_returned types f (Slot l ∷ []) (slot_values left i (Slot l ∷ [])) st ≡ slot_returned types f l v st
  returned_one l left i v st e = ap (λ (o : Option Cell). on_next (slot_returned types f l (slot_cell o) st) (slots_returned types f [] [])) e ∙ alone (slot_returned types f l v st)

  -- an argument without a parameter
  pub returned_none : (l : Location) (left : List Cell) (i : ℕ) (st : State) → slice_get left i ≡ None → slots_returned types f (Slot l ∷ []) (slot_values left i (Slot l ∷ [])) st ≡ Strays
  returned_none l left i st e = ap (λ (o : Option Cell). on_next (slot_returned types f l (slot_cell o) st) (slots_returned types f [] [])) e

-- ---- the whole: the slots, and then the target

-- one value, or nothing where there is no target
abbrev pub IsFor : Option Location → List Cell → Type 0
IsFor None first = Unit {0}
IsFor (Some l) first = (v : Cell) × (first ≡ v ∷ [])

target_first : (s : Setting) (types : Types) (f : Function) (target : Option Location) (first others : List Cell) → IsFor target first → (st : State) → target_given s types f target (first ++ others) st ≡ target_given s types f target first st
target_first s types f None first others one st = refl
target_first s types f (Some l) first others one st =
    ap (λ (vs : List Cell). first_given s types f (vs ++ others) l st) one.1 ∙ sym (ap (λ (vs : List Cell). first_given s types f vs l st) one.1)

next_alike : (e : Effect) (j k : State → Effect) → ((st : State) → j st ≡ k st) → on_next e j ≡ on_next e k
next_alike (Next st) j k same = same st
next_alike (Traps kind) j k same = refl
next_alike (Faults kind) j k same = refl
next_alike Strays j k same = refl

pub taken_is : (s : Setting) (types : Types) (f : Function) (target : Option Location) (xs : List Argument) (first others : List Cell) (st : State) → length others ≡ slot_count xs → IsFor target first
    → taken_back s types f target xs (first ++ others) st ≡ back_given s types f xs others target first st
taken_is s types f target xs first others st count one =
    ap (λ (vs : List Cell). on_next (slots_returned types f xs vs st) (target_given s types f target (first ++ others))) (back_of first others (slot_count xs) count)
    ∙ next_alike (slots_returned types f xs others st) (target_given s types f target (first ++ others)) (target_given s types f target first) (target_first s types f target first others one)
