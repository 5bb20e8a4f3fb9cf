-- What a function gives back is named by one of its cells.
use Rattle.std.proofs.Common.{◌≡◌, ℕ, [], ◌∷◌, Option, Some, None, ap, arith, ◌<◌}
use Rattle.std.specs.Prelude.{slice_get}
use Rattle.life_types.specs.Types.{Types}
use Rattle.life_types.specs.declared.ty.Ty.TheVariants as ty
use Rattle.life_types.specs.declared.ty.Ty.{Ty}
use Rattle.life_core.specs.Function.{Function}
use Rattle.life_core.specs.Holdings.{ANumber, APointer, AView, AnObject, Blank, Holding, result_sort}
use Rattle.life_store.specs.Calls.{slots_back, results, given_back, cell_back, other_back, number_or_zero, pointer_back}
use Rattle.life_store.specs.Effects.{cell}
use Rattle.life_store.specs.State.{Cell, Empty, Named, Number, Points, State}
use Rattle.life_store.proofs.MapLemmas.{one_or_apart}
use Rattle.life_forest.specs.Frames.{named_in}
use Rattle.life_forest.specs.Owned.{times}
use Rattle.life_forest.proofs.Counting.{one_there}
use Rattle.life_forest.proofs.GivenSlots.{named_append, named_parts, slots_named}
use Rattle.life_cover.proofs.Owning.{named_at}

module _ (types : Types) (f : Function) (st : State) (j : ℕ) where
  cell_named : (o : Option Cell) → 0 < times (named_in (cell_back o)) j → o ≡ Some (Named j)
  cell_named None lt = absurd (omega (arith, lt))
  cell_named (Some Empty) lt = absurd (omega (arith, lt))
  cell_named (Some (Named n)) lt = ap (λ (i : ℕ). Some (Named i)) (one_there n j (omega (arith, lt)))
  cell_named (Some (Number z)) lt = absurd (omega (arith, lt))
  cell_named (Some (Points p)) lt = absurd (omega (arith, lt))

  other_named : (t : Option Ty) (o : Option Cell) → 0 < times (named_in (other_back t o)) j → o ≡ Some (Named j)
  other_named (Some ty.Void) o lt = absurd (omega (arith, lt))
  other_named _ o lt = cell_named o lt

  pub number_unnamed : (o : Option Cell) → 0 < times (named_in (number_or_zero o ∷ [])) j → ⊥
  number_unnamed None lt = omega (arith, lt)
  number_unnamed (Some Empty) lt = omega (arith, lt)
  number_unnamed (Some (Named n)) lt = omega (arith, lt)
  number_unnamed (Some (Number z)) lt = omega (arith, lt)
  number_unnamed (Some (Points p)) lt = omega (arith, lt)

  pub pointer_unnamed : (o : Option Cell) → 0 < times (named_in (pointer_back o)) j → ⊥
  pointer_unnamed None lt = omega (arith, lt)
  pointer_unnamed (Some Empty) lt = omega (arith, lt)
  pointer_unnamed (Some (Named n)) lt = omega (arith, lt)
  pointer_unnamed (Some (Number z)) lt = omega (arith, lt)
  pointer_unnamed (Some (Points p)) lt = omega (arith, lt)

  pub back_named : (t : Option Ty) (h : Holding) (o : Option Cell) → 0 < times (named_in (given_back t h o)) j → o ≡ Some (Named j)
  back_named t Blank o lt = other_named t o lt
  back_named t AnObject o lt = absurd (omega (arith, lt))
  back_named t ANumber o lt = absurd (number_unnamed o lt)
  back_named t APointer o lt = absurd (pointer_unnamed o lt)
  back_named t AView o lt = absurd (pointer_unnamed o lt)

  pub results_named : 0 < times (named_in (results types f st)) j → (x : ℕ) × (slice_get st.cells x ≡ Some (Named j))
  results_named lt =
      one_or_apart (times (named_in (given_back (slice_get types.types f.result.0) (result_sort types f) (cell st f.parameters))) j) 0
      (λ z.
      let both = named_append (given_back (slice_get types.types f.result.0) (result_sort types f) (cell st f.parameters)) (slots_back types f 0 f.parameters st) j in
      let under = slots_named types f st j in
      let parts = named_parts f.parameters st.cells j in
      named_at st.cells j (omega (arith, lt, z, both, under, parts)))
      (λ nz. (f.parameters, back_named (slice_get types.types f.result.0) (result_sort types f) (cell st f.parameters) (omega (arith, nz))))
