-- A step of a frame goes as the part of it that is left to do.
use Rattle.std.proofs.Common.{◌≡◌, ℕ, List, Option, Some, Result, Ok, Err, sym, ap, subst, ◌∙◌}
use Rattle.std.specs.Prelude.{ℤ}
use Rattle.life_types.specs.Types.{Types}
use Rattle.life_types.specs.declared.ty.TyId.{TyId}
use Rattle.life_core.specs.Function.{Function}
use Rattle.life_core.specs.Operands.{Operand}
use Rattle.life_core.specs.Step.{Change}
use Rattle.life_store.specs.Content.{Content}
use Rattle.life_store.specs.Doing.{changed, changes}
use Rattle.life_store.specs.Effects.{Setting, Effect}
use Rattle.life_store.specs.Parts.{operand_parts, operand_type, parts_at, parts_if}
use Rattle.life_store.specs.Places as places
use Rattle.life_store.specs.State.{State}
use Rattle.life_pointers.specs.Owned.{spot_seen}
use Rattle.life_pointers.specs.Places.{ended_by}
use Rattle.life_pointers.specs.declared.owned.Spot.{Spot}
use Rattle.life_pointers.specs.declared.stop.Stop.{Stop}
use Rattle.life_cells.specs.Cells.{state_of}
use Rattle.life_cells.specs.Owners.{IsSpot}
use Rattle.life_cells.specs.declared.cell.Cell.{Cell}
use Rattle.life_cells.proofs.StepLemmas.{stopped}
use Rattle.life_changes.specs.Steps.{Goes}
use Rattle.life_changes.specs.declared.failure.Failure.{Failure}
use Rattle.life_changes.specs.declared.failure.Failure.TheVariants as failure

module _ {A : Type 0} (effect other : State → Effect) (c : Content) (cells : List Cell) (same : (output : List ℕ) (input : List ℤ) → effect (state_of c cells output input) ≡ other (state_of c cells output input)) where
  pub goes_alike : (d : Content) (new : List Cell) (result : Result A Failure) → Goes other c cells d new result → Goes effect c cells d new result
  goes_alike d new (Ok done) goes = λ output input. same output input ∙ goes output input
  goes_alike d new (Err (failure.Stopped e)) goes = λ output input. same output input ∙ goes output input
  goes_alike d new (Err failure.NoMemory) goes = tt

-- the cells are those that were borrowed
pub goes_with : {A : Type 0} (effect : State → Effect) (c d : Content) (cells seen new : List Cell) (result : Result A Failure) → seen ≡ cells → new ≡ cells → Goes effect c seen d seen result → Goes effect c cells d new result
goes_with effect c d cells seen new result same kept goes =
    subst (λ (n : List Cell). Goes effect c cells d n result) (sym kept) (subst (λ (s : List Cell). Goes effect c s d s result) same goes)

module _ (s : Setting) (types : Types) (f : Function) (o : Operand) (change : Change) (m : Content) (cells : List Cell) where
  pub changes_stops : (e : Stop) → IsSpot types f o m cells (Err e) → (output : List ℕ) (input : List ℤ) → changes s types f o change (state_of m cells output input) ≡ ended_by e
  changes_stops e is output input =
      let st = state_of m cells output input in
      is output input (λ (spot : places.Spot). changed s types f (operand_parts types f o) spot change st) ∙ stopped spot_seen (λ spot. changed s types f (operand_parts types f o) spot change st) e

  pub changes_found : (spot : Spot) → IsSpot types f o m cells (Ok spot) → (ty : TyId) → Some ty ≡ operand_type types f o
      → (output : List ℕ) (input : List ℤ) → changes s types f o change (state_of m cells output input) ≡ changed s types f (parts_at types ty) (spot_seen spot) change (state_of m cells output input)
  changes_found spot is ty of output input =
      let st = state_of m cells output input in
      is output input (λ (at : places.Spot). changed s types f (operand_parts types f o) at change st) ∙ ap (λ (t : Option TyId). changed s types f (parts_if types t) (spot_seen spot) change st) (sym of)

-- what a step that fails leaves doesn't matter
pub fails_alike : (effect : State → Effect) (c d e : Content) (cells new after : List Cell) (why : Failure) → Goes {A = Unit {0}} effect c cells d new (Err why) → Goes {A = Unit {0}} effect c cells e after (Err why)
fails_alike effect c d e cells new after (failure.Stopped why) goes = goes
fails_alike effect c d e cells new after failure.NoMemory goes = tt
