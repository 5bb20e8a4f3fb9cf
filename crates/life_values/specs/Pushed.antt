-- How a vector gets one more element.
use Rattle.std.specs.Prelude.{◌≡◌, ◌<◌, Some, length}
use Rattle.life_types.specs.Types.{Types}
use Rattle.life_store.specs.Cells.{at}
use Rattle.life_store.specs.Content.{Object, Content}
use Rattle.life_store.specs.Kinds.{Plain}
use Rattle.life_store.specs.References.{Rows}
use Rattle.life_store.specs.declared.object.ObjRef.{ObjRef}
use Rattle.life_forest.specs.Kinds.{kinds_of as forest_kinds}
use Rattle.life_forest.specs.Typed.{AreFit}
use Rattle.life_seen.specs.Kinds.{kinds_of}
use Rattle.life_seen.specs.Seen.{seen}
use Rattle.life_values.specs.Regrown.{CanGrow}
use Rattle.life_values.specs.declared.spot.Spot.{Spot}

-- an owner has the buffer, and the words of all objects fit their types
pub record CanPush (types : Types) (spot : Spot) (b : ObjRef) (c : Content) (rows : Rows) : Type 0 where
  pub grow : CanGrow types spot b c rows
  pub fit : AreFit (forest_kinds types) (seen (kinds_of types) c rows)

-- .. whose elements are numbers
pub record CanPushNumber (types : Types) (spot : Spot) (b : ObjRef) (c : Content) (rows : Rows) : Type 0 where
  pub push : CanPush types spot b c rows
  pub plain : kinds_of types push.grow.own.buffer.ty 0 ≡ Plain

-- .. and a temporary of one slot, which is such an element, is in the hand
pub record CanPushTaken (types : Types) (spot : Spot) (b r : ObjRef) (c : Content) (rows : Rows) : Type 0 where
  pub push : CanPush types spot b c rows
  pub placed : at rows r.birth ≡ Some r.row
  pub held : 0 < push.grow.own.hand r.birth
  pub temporary : Object
  pub there : at (seen (kinds_of types) c rows).objects r.birth ≡ Some temporary
  pub alone : length temporary.slots ≡ 1
  pub alike : temporary.ty ≡ push.grow.own.buffer.ty
