-- What a test for null asks.
use Rattle.std.specs.Prelude.{◌≡◌, Bool, true, false, [], Option, Some}
use Rattle.life_types.specs.Types.{Types}
use Rattle.life_types.specs.declared.ty.Ty.{Ty}
use Rattle.life_types.specs.declared.ty.Ty.TheVariants as variant
use Rattle.life_core.specs.Function.{Function}
use Rattle.life_core.specs.Operands.{Location}
use Rattle.life_store.specs.Parts.{Parts, Unique, location_parts}
use Rattle.life_store.specs.State.{State}
use Rattle.life_cells.specs.Typed.{HoldsOwner, HoldsPointer}

abbrev pub is_unique : Parts → Bool
is_unique (Unique ty target) = true
is_unique _ = false

-- .. by its type
abbrev pub is_owning_one : Option Ty → Bool
is_owning_one (Some (variant.Unique target)) = true
is_owning_one _ = false

-- a local that has an object, and a member that is a unique_ptr, are owners; what is none is a pointer
pub record IsTestable (types : Types) (f : Function) (l : Location) (st : State) : Type 0 where
  pub own : l.members ≡ [] → HoldsOwner types f l st
  pub owner : is_unique (location_parts types f l) ≡ true → HoldsOwner types f l st
  pub pointer : is_unique (location_parts types f l) ≡ false → HoldsPointer types f l st
