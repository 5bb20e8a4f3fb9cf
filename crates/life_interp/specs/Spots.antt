-- Where the value is that an operand names, as the machine found it.
use Rattle.std.specs.Prelude.{◌≡◌, IfSome, Option}
use Rattle.life_types.specs.Types.{Types}
use Rattle.life_core.specs.Function.{Function}
use Rattle.life_core.specs.Operands.{Operand}
use Rattle.life_seen.specs.Kinds.{kinds_of}
use Rattle.life_store.specs.Content.{Content}
use Rattle.life_store.specs.Places.{locate, operand_word}
use Rattle.life_store.specs.References.{Rows}
use Rattle.life_store.specs.State.{State}
use Rattle.life_pointers.specs.Places.{IsHere}
use Rattle.life_pointers.specs.declared.owned.Spot.{Spot}
use Rattle.life_cells.specs.Typed.{IsOwnerPlace}
use Rattle.life_interp.specs.Accessed.{IsNumberPlace}

-- the operand names a slot that is there, and begins at this word of it
pub record IsSpotAt (types : Types) (f : Function) (o : Operand) (st : State) (c : Content) (rows : Rows) (s : Spot) : Type 0 where
  pub here : IsHere (kinds_of types) c rows (locate types f o st) s
  pub word : s.word ≡ operand_word types f o st

-- .. a number, if it was found
pub record IsNumberSpot (types : Types) (f : Function) (o : Operand) (st : State) (c : Content) (rows : Rows) (s : Option Spot) : Type 0 where
  pub number : IsNumberPlace types f o st
  pub found : IfSome s (IsSpotAt types f o st c rows)

-- .. or an owner
pub record IsOwnerSpot (types : Types) (f : Function) (o : Operand) (st : State) (c : Content) (rows : Rows) (s : Option Spot) : Type 0 where
  pub owner : IsOwnerPlace types f o st
  pub found : IfSome s (IsSpotAt types f o st c rows)
