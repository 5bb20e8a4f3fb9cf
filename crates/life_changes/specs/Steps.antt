-- What a step comes to that may want memory.
use Rattle.std.specs.Prelude.{◌≡◌, ℕ, ℤ, List, Result, Ok, Err}
use Rattle.life_store.specs.Content.{Content}
use Rattle.life_store.specs.Effects.{Setting, Effect, Next, Attempt, Got}
use Rattle.life_store.specs.References.{Rows}
use Rattle.life_store.specs.State.{State}
use Rattle.life_store.specs.declared.run.Growth.{Growth}
use Rattle.life_seen.specs.Housed.{Shows}
use Rattle.life_seen.specs.Kinds.{Kinds}
use Rattle.life_pointers.specs.Attempts.{itself, tried}
use Rattle.life_pointers.specs.Places.{ended_by}
use Rattle.life_cells.specs.Cells.{state_of}
use Rattle.life_cells.specs.declared.cell.Cell.{Cell}
use Rattle.life_changes.specs.declared.failure.Failure.{Failure}
use Rattle.life_changes.specs.declared.failure.Failure.TheVariants as failure

-- what a run is given is what is at hand: the policy of growth, the limit of live words, and the texts
pub record IsGiven (s : Setting) (growth : Growth) (limit : ℕ) (texts : List (List ℕ)) : Type 0 where
  pub growth_is : s.given.growth ≡ growth
  pub cells_is : s.given.cells ≡ limit
  pub texts_is : s.texts ≡ texts

-- the step goes to the next state, or stops as is told, whatever was written and is to be read. Where memory was wanted nothing is said
abbrev pub Goes : {A : Type 0} → (State → Effect) → Content → List Cell → Content → List Cell → Result A Failure → Type 0
Goes effect c cells d new (Ok done) = (output : List ℕ) (input : List ℤ) → effect (state_of c cells output input) ≡ Next (state_of d new output input)
Goes effect c cells d new (Err (failure.Stopped e)) = (output : List ℕ) (input : List ℤ) → effect (state_of c cells output input) ≡ ended_by e
Goes effect c cells d new (Err failure.NoMemory) = Unit {0}

-- a store shows what the meaning got, or that stopped as is told
abbrev pub Gets : {A : Type 0} → Kinds → Attempt Content → Result A Failure → Content → Rows → Type 0
Gets kinds meant (Ok done) c rows = (m : Content) × (meant ≡ Got m) × Shows kinds c rows m
Gets kinds meant (Err (failure.Stopped e)) c rows = meant ≡ tried itself (Err e)
Gets kinds meant (Err failure.NoMemory) c rows = Unit {0}
