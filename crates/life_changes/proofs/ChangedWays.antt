-- How a change goes on with the count or the characters that it takes.
use Rattle.std.proofs.Common.{◌≡◌, ℕ, List, Option, Some, None, Err, ap}
use Rattle.std.specs.Prelude.{ℤ, slice_get}
use Rattle.std.specs.Int.{cast_unsigned, w64}
use Rattle.life_types.specs.Types.{Types}
use Rattle.life_core.specs.Function.{Function}
use Rattle.life_core.specs.Operands.{Characters}
use Rattle.life_core.specs.Step.{Reserve}
use Rattle.life_store.specs.Content.{Content}
use Rattle.life_store.specs.Doing.{changed, edits, on_given}
use Rattle.life_store.specs.Edits.{Edit, Reserve as Room}
use Rattle.life_store.specs.Effects.{Setting, Effect, Strays, on_number}
use Rattle.life_store.specs.Parts.{Parts}
use Rattle.life_store.specs.State as state
use Rattle.life_store.specs.State.{State}
use Rattle.life_pointers.specs.Owned.{spot_seen}
use Rattle.life_pointers.specs.declared.owned.Spot.{Spot}
use Rattle.life_cells.specs.Cells.{cells_seen, number_in, state_of}
use Rattle.life_cells.specs.declared.cell.Cell.{Cell}
use Rattle.life_cells.proofs.CellLemmas.{counts, no_number}
use Rattle.life_changes.specs.Given.{GivesWords}
use Rattle.life_changes.specs.Steps.{Goes}
use Rattle.life_changes.specs.declared.failure.Failure.{Failure}
use Rattle.life_changes.specs.declared.failure.Failure.TheVariants as failure

module _ (s : Setting) (types : Types) (f : Function) (p : Parts) (spot : Spot) (m : Content) (cells : List Cell) where
  -- ---- room is reserved

  pub reserves_lost : (r : ℕ) → None ≡ number_in (slice_get (cells_seen cells) r) → (output : List ℕ) (input : List ℤ) → changed s types f p (spot_seen spot) (Reserve r) (state_of m cells output input) ≡ Strays
  reserves_lost r none output input = no_number (slice_get (cells_seen cells) r) (λ z. edits s p (spot_seen spot) (Room (cast_unsigned w64 z)) (state_of m cells output input)) none

  pub reserves : (r : ℕ) (z : ℤ) → Some z ≡ number_in (slice_get (cells_seen cells) r)
      → (output : List ℕ) (input : List ℤ) → changed s types f p (spot_seen spot) (Reserve r) (state_of m cells output input) ≡ edits s p (spot_seen spot) (Room (cast_unsigned w64 z)) (state_of m cells output input)
  reserves r z is output input =
      ap (λ (v : Option state.Cell). on_number v (λ k. edits s p (spot_seen spot) (Room (cast_unsigned w64 k)) (state_of m cells output input))) (counts (slice_get (cells_seen cells) r) z is)

  -- ---- characters are given

  pub given_fails : (given : Characters) (edit : List ℕ → Edit) (d : Content) (new : List Cell) (why : Failure) → GivesWords s types f given m cells (Err why)
      → Goes {A = Unit {0}} (λ st. on_given s types f given st (λ ws. edits s p (spot_seen spot) (edit ws) st)) m cells d new (Err why)
  given_fails given edit d new (failure.Stopped e) gives = λ output input. gives output input (λ ws. edits s p (spot_seen spot) (edit ws) (state_of m cells output input))
  given_fails given edit d new failure.NoMemory gives = tt

  pub given_edit : (given : Characters) (edit : List ℕ → Edit) (ws : List ℕ) → ((output : List ℕ) (input : List ℤ) (go : List ℕ → Effect) → on_given s types f given (state_of m cells output input) go ≡ go ws)
      → (output : List ℕ) (input : List ℤ) → on_given s types f given (state_of m cells output input) (λ vs. edits s p (spot_seen spot) (edit vs) (state_of m cells output input)) ≡ edits s p (spot_seen spot) (edit ws) (state_of m cells output input)
  given_edit given edit ws gives output input = gives output input (λ vs. edits s p (spot_seen spot) (edit vs) (state_of m cells output input))
