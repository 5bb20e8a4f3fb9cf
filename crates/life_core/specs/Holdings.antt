-- What a local holds where it is there, by its type and its kind.
use Rattle.std.specs.Prelude.{ℕ, List, Option, Some, None, map, slice_get, take}
use Rattle.life_types.specs.Types.{Types, class_at}
use Rattle.life_types.specs.declared.ty.Class.{Class}
use Rattle.life_types.specs.declared.ty.Class.TheVariants.{Value, Pointer, Owner, Aggregate}
use Rattle.life_types.specs.declared.ty.Ty.{Ty}
use Rattle.life_types.specs.declared.ty.Ty.TheVariants as variant
use Rattle.life_core.specs.declared.program.Local.{Local}
use Rattle.life_core.specs.declared.program.LocalKind.{LocalKind}
use Rattle.life_core.specs.declared.program.LocalKind.TheVariants.{Object, Register, Range}
use Rattle.life_core.specs.Function.{Function}

-- nothing, an object of a value type, a value, a raw pointer or reference, or a view of characters
pub data Holding : Type 0 where
  Blank : Holding
  AnObject : Holding
  ANumber : Holding
  APointer : Holding
  AView : Holding

-- an iterator and a span hold nothing so far, like an owner and a struct: no function that is served has such a local
abbrev pub pointer_held : Option Ty → Holding
pointer_held (Some (variant.Raw target constant)) = APointer
pointer_held (Some (variant.Reference target constant)) = APointer
pointer_held (Some variant.View) = AView
pointer_held _ = Blank

abbrev pub held_if : Class → LocalKind → Option Ty → Holding
held_if Value Object ty = AnObject
held_if Value Register ty = ANumber
held_if Value Range ty = Blank
held_if Pointer kind ty = pointer_held ty
held_if Owner kind ty = Blank
held_if Aggregate kind ty = Blank

abbrev pub held_by : Types → Option Local → Holding
held_by types None = Blank
held_by types (Some l) = held_if (class_at types l.ty) l.kind (slice_get types.types l.ty.0)

-- what the local with this number holds
abbrev pub sort_of : Types → Function → ℕ → Holding
sort_of types f x = held_by types (slice_get f.locals x)

-- what a function gives back: nothing where it is void; the result is the local behind the parameters
abbrev pub result_if : Option Ty → Holding → Holding
result_if (Some variant.Void) held = Blank
result_if _ held = held

abbrev pub result_sort : Types → Function → Holding
result_sort types f = result_if (slice_get types.types f.result.0) (sort_of types f f.parameters)

-- what each parameter holds
abbrev pub sort_of_local : Types → Local → Holding
sort_of_local types l = held_by types (Some l)

abbrev pub parameter_sorts : Types → Function → List Holding
parameter_sorts types f = map (sort_of_local types) (take f.parameters f.locals)
