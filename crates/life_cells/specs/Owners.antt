-- Owners that instructions name.
use Rattle.std.specs.Prelude.{◌≡◌, ℕ, ℤ, List, Result}
use Rattle.life_types.specs.Types.{Types}
use Rattle.life_core.specs.Function.{Function}
use Rattle.life_core.specs.Operands.{Operand}
use Rattle.life_seen.specs.Kinds.{Kinds}
use Rattle.life_store.specs.Content.{Content, Object}
use Rattle.life_store.specs.Effects.{Effect, on_got}
use Rattle.life_store.specs.Places as places
use Rattle.life_store.specs.Places.{on_spot}
use Rattle.life_store.specs.References.{HasWord, Rows}
use Rattle.life_words.specs.Owning.{IsOwner}
use Rattle.life_pointers.specs.Attempts.{tried}
use Rattle.life_pointers.specs.Owned.{spot_seen}
use Rattle.life_pointers.specs.declared.owned.Spot.{Spot}
use Rattle.life_pointers.specs.declared.stop.Stop.{Stop}
use Rattle.life_cells.specs.Cells.{state_of}
use Rattle.life_cells.specs.declared.cell.Cell.{Cell}

-- an owner begins at the word of a slot of an object that lives
pub record OwnsAt (kinds : Kinds) (c : Content) (rows : Rows) (s : Spot) : Type 0 where
  pub object : Object
  pub is : IsOwner kinds c rows s.object s.word object
  pub word : HasWord s.index s.word object

-- the place that the operand names, or what is wrong with it, whatever is done there
abbrev pub IsSpot : Types → Function → Operand → Content → List Cell → Result Spot Stop → Type 0
IsSpot types f o c cells result =
    (output : List ℕ) (input : List ℤ) (go : places.Spot → Effect) → on_spot types f o (state_of c cells output input) go ≡ on_got (tried spot_seen result) go
