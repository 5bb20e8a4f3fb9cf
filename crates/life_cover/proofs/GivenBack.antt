-- What a function gives back: its result, and what its slots have; none of it is a vector or a string that was moved from.
use Rattle.std.proofs.Common.{◌≡◌, inl, inr, ℕ, zero, suc, ◌+◌, ◌<◌, Bool, true, false, [], ◌∷◌, Option, Some, None, refl, sym, ap, subst, ◌∙◌, arith}
use Rattle.std.specs.Prelude.{cond, slice_get, nat_eq, not, ◌&&◌}
use Rattle.std.proofs.lemmas.Bool.{false≢true}
use Rattle.std.proofs.lemmas.Bool.Decides.{nat_tests}
use Rattle.life_types.specs.Pointees.{or_void}
use Rattle.life_types.specs.TypeTests.{is_pointer, is_void}
use Rattle.life_types.specs.Types.{Types, is_slot_at}
use Rattle.life_types.specs.declared.ty.Ty.{Ty}
use Rattle.life_types.specs.declared.ty.Ty.TheVariants as ty
use Rattle.life_types.specs.declared.ty.TyId.{TyId}
use Rattle.life_core.specs.declared.program.Local.{Local}
use Rattle.life_core.specs.Function.{Function}
use Rattle.life_core.specs.Holdings.{ANumber, APointer, AView, AnObject, Blank, Holding}
use Rattle.life_pset.specs.Shapes.{has_buffer, ty_if}
use Rattle.life_proper.specs.Placed.{result_at, type_at}
use Rattle.life_proper.specs.WellFormedPrograms.{is_result_of}
use Rattle.life_store.specs.Calls.{given_back, slot_back, slot_cell, slots_back}
use Rattle.life_store.specs.Effects.{cell}
use Rattle.life_store.specs.Parts.{held_type_if}
use Rattle.life_store.specs.State.{Cell, Empty, Named, Number, Points, State}
use Rattle.life_store.proofs.MapLemmas.{one_or_apart}
use Rattle.life_forest.specs.Frames.{named_in}
use Rattle.life_forest.specs.Owned.{times}
use Rattle.life_forest.proofs.Counting.{one_there}
use Rattle.life_forest.proofs.GivenSlots.{named_append}
use Rattle.life_forest.proofs.SlotSorts.{IsSlotSort, slot_sort, taken_type}
use Rattle.life_forest.proofs.Shaped.{IsShaped}
use Rattle.life_cover.proofs.NamedResults.{number_unnamed, pointer_unnamed}

-- ---- what a slot has

module _ (types : Types) (f : Function) (st : State) (j : ℕ) where
  -- a slot that names this object
  pub record IsNamingSlot (y : ℕ) : Type 0 where
    pub local : Local
    pub there : slice_get f.locals y ≡ Some local
    pub slot : is_slot_at types local.ty ≡ true
    pub names : slice_get st.cells y ≡ Some (Named j)

  slot_names : (y : ℕ) (o : Option Local) → slice_get f.locals y ≡ o → (v : Option Cell) → slice_get st.cells y ≡ v → 0 < times (named_in (slot_back types o v)) j → IsNamingSlot y
  slot_names y None e v at_v lt = absurd (omega (arith, lt))
  slot_names y (Some l) e v at_v lt = by_slot (is_slot_at types l.ty) refl lt
    where
      by_cell : is_slot_at types l.ty ≡ true → (u : Option Cell) → slice_get st.cells y ≡ u → 0 < times (named_in (slot_cell u ∷ [])) j → IsNamingSlot y
      by_cell is None at_u few = absurd (omega (arith, few))
      by_cell is (Some Empty) at_u few = absurd (omega (arith, few))
      by_cell is (Some (Named n)) at_u few = record { local = l; there = e; slot = is; names = at_u ∙ ap (λ (i : ℕ). Some (Named i)) (one_there n j (omega (arith, few))) }
      by_cell is (Some (Number z)) at_u few = absurd (omega (arith, few))
      by_cell is (Some (Points p)) at_u few = absurd (omega (arith, few))

      by_slot : (b : Bool) → is_slot_at types l.ty ≡ b → 0 < times (named_in (cond b (slot_cell v ∷ []) [])) j → IsNamingSlot y
      by_slot true is few = by_cell is v at_v few
      by_slot false is few = absurd (omega (arith, few))

  pub slots_name : (x n : ℕ) → 0 < times (named_in (slots_back types f x n st)) j → (y : ℕ) × IsNamingSlot y
  slots_name x zero lt = absurd (omega (arith, lt))
  slots_name x (suc n) lt = one_or_apart (times (named_in (slot_back types (slice_get f.locals x) (cell st x))) j) 0
      (λ z. slots_name (x + 1) n (let both = named_append (slot_back types (slice_get f.locals x) (cell st x)) (slots_back types f (x + 1) n st) j in omega (arith, lt, z, both)))
      (λ nz. (x, slot_names x (slice_get f.locals x) refl (cell st x) refl (omega (arith, nz))))

  -- it is no vector and no string
  pub slot_no_buffer : IsShaped types f → (y : ℕ) → IsNamingSlot y → has_buffer (type_at types f y) ≡ true → ⊥
  slot_no_buffer shaped y s buffer = by_sort (slot_sort types s.local.ty s.slot) (subst (λ (t : Ty). has_buffer t ≡ true) own buffer)
    where
      own : type_at types f y ≡ ty_if types (Some (taken_type types s.local.ty))
      own = ap (ty_if types) (shaped y ∙ ap (held_type_if types) s.there)

      no_pointer : (t : Ty) → is_pointer t ≡ true → has_buffer t ≡ true → ⊥
      no_pointer ty.Text p b = false≢true p
      no_pointer (ty.Vector element) p b = false≢true p
      no_pointer _ p b = false≢true b

      by_sort : {t : Ty} → IsSlotSort t → has_buffer t ≡ true → ⊥
      by_sort {t = t} (inl pointer) b = no_pointer t pointer b
      by_sort (inr u) b = false≢true (subst (λ (t : Ty). has_buffer t ≡ true) u.1 b)

-- ---- the result

module _ (types : Types) (f : Function) (st : State) (j : ℕ) where
  -- a result that names something isn't void
  pub result_solid : (id : TyId) (l : Option Local) (t : Option Ty) → is_result_of types id t l ≡ true → (h : Holding) (o : Option Cell) → 0 < times (named_in (given_back t h o)) j → is_void (or_void t) ≡ false
  result_solid id l None formed h o lt = absurd (false≢true formed)
  result_solid id l (Some ty.Void) formed Blank o lt = absurd (omega (arith, lt))
  result_solid id l (Some ty.Void) formed AnObject o lt = absurd (omega (arith, lt))
  result_solid id l (Some ty.Void) formed ANumber o lt = absurd (number_unnamed types f st j o lt)
  result_solid id l (Some ty.Void) formed APointer o lt = absurd (pointer_unnamed types f st j o lt)
  result_solid id l (Some ty.Void) formed AView o lt = absurd (pointer_unnamed types f st j o lt)
  result_solid id l (Some _) formed h o lt = refl

-- the local behind the parameters is the result, where there is one
pub is_result : (types : Types) (f : Function) → is_void (or_void (slice_get types.types f.result.0)) ≡ false → result_at types f f.parameters ≡ true
is_result types f solid = both (is_void (or_void (slice_get types.types f.result.0))) solid (nat_eq f.parameters f.parameters) (itself f.parameters)
  where
    itself : (n : ℕ) → nat_eq n n ≡ true
    itself n = grind (arith, nat_tests)

    both : (a : Bool) → a ≡ false → (b : Bool) → b ≡ true → (not a && b) ≡ true
    both true e b h = absurd (false≢true (sym e))
    both false e b h = h
