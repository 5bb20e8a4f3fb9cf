-- The types behind numbers, and behind pointers; what isn't there counts as void.
use Rattle.std.specs.Prelude.{Option, Some, None, slice_get}
use Rattle.life_types.specs.Types.{Types}
use Rattle.life_types.specs.declared.ty.Ty.{Ty}
use Rattle.life_types.specs.declared.ty.Ty.TheVariants as ty
use Rattle.life_types.specs.declared.ty.TyId.{TyId}

-- the type that is there, or void
abbrev pub or_void : Option Ty → Ty
or_void None = ty.Void
or_void (Some t) = t

-- the type with a number
abbrev pub ty_of : Types → TyId → Ty
ty_of types id = or_void (slice_get types.types id.0)

-- the object that a pointer points to: a span and a view have elements instead
abbrev pub pointee : Types → Ty → Ty
pointee types (ty.Raw target constant) = ty_of types target
pointee types (ty.Reference target constant) = ty_of types target
pointee types (ty.Iterator target constant) = ty_of types target
pointee types _ = ty.Void
