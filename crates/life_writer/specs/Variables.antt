-- Parameters and variables: their locals, and where they end.
use Rattle.std.specs.Prelude.{ℕ, false, List, [], ◌∷◌, ◌++◌, Option, Some, None, drop, length, take, reverse, slice_get, unwrap_or}
use Rattle.life_types.specs.Types.{class_at}
use Rattle.life_types.specs.declared.place.Place.{Place}
use Rattle.life_types.specs.declared.ty.Class.{Class}
use Rattle.life_types.specs.declared.ty.Class.TheVariants.{Value, Pointer, Owner, Aggregate}
use Rattle.life_typed.specs.declared.typed_program.TypedLocal.{TypedLocal}
use Rattle.life_core.specs.Operands.{Operand, behind, object_named}
use Rattle.life_core.specs.Step.{End}
use Rattle.life_core.specs.declared.program.Local.{Local}
use Rattle.life_core.specs.declared.program.LocalKind.{LocalKind}
use Rattle.life_core.specs.declared.program.LocalKind.TheVariants.{Object, Register, Range}
use Rattle.life_writer.specs.Around.{Around}
use Rattle.life_writer.specs.Building.{Destination}
use Rattle.life_writer.specs.Registers.{with_local}
use Rattle.life_writer.specs.Writing.{State, Gives, gives, emit}

-- ---- what is declared

-- a pointer is a register, and anything else an object
abbrev pub kind : Class → LocalKind
kind Value = Object
kind Pointer = Register
kind Owner = Object
kind Aggregate = Object

-- the local of a variable
abbrev pub variable_local : Around → TypedLocal → Local
variable_local a v = record {
  name = Some v.name;
  ty = v.ty;
  kind = kind (class_at a.program.types v.ty);
  place = v.place;
  nonnull = false;
  keeps = false;
}

-- the next local is a variable's
abbrev pub with_living : ℕ → State → State
with_living x s = record s { variables = s.variables ++ x ∷ []; living = s.living ++ x ∷ [] }

abbrev pub declared_local : Gives ℕ → Gives ℕ
declared_local w = gives w.given (with_living w.given w.state)

abbrev pub with_variable : Local → State → Gives ℕ
with_variable l s = declared_local (with_local l s)

-- it comes to life where its name stands
abbrev pub named : Local → Place → Destination
named l place = record { begins = with_variable l; place = place }

-- ---- what is named

-- the local of the parameter or variable with a number
abbrev pub variable : State → ℕ → ℕ
variable s x = unwrap_or (slice_get s.variables x) 0

-- an object is a place itself, and a reference stands for what it refers to
abbrev pub place_of_kind : LocalKind → ℕ → Operand
place_of_kind Object x = object_named x
place_of_kind Register x = behind x
place_of_kind Range x = behind x

abbrev pub place_of : Option Local → ℕ → Operand
place_of None x = object_named x
place_of (Some l) x = place_of_kind l.kind x

abbrev pub variable_place : State → ℕ → Operand
variable_place s x = place_of (slice_get s.locals (variable s x)) (variable s x)

-- the object that a variable is, unless it refers to another
abbrev pub object_of_kind : LocalKind → ℕ → Option ℕ
object_of_kind Object x = Some x
object_of_kind Register x = None
object_of_kind Range x = None

abbrev pub object_at : Option Local → ℕ → Option ℕ
object_at None x = None
object_at (Some l) x = object_of_kind l.kind x

-- ---- what ends

-- an End that would list nothing isn't there
abbrev pub end : List ℕ → Place → State → State
end [] place s = s
end (x ∷ xs) place s = emit place (End (x ∷ xs)) s

-- all that have been declared past so many end, the last first
abbrev pub end_past : ℕ → Place → State → State
end_past n place s = end (reverse (drop n s.living)) place s

-- .. and are left: with the block or the loop that they were declared in
abbrev pub with_living_of : ℕ → State → State
with_living_of n s = record s { living = take n s.living }

abbrev pub end_since : Place → ℕ → State → State
end_since place n s = with_living_of n (end_past n place s)

-- the temporaries that were made past so many end, too, the last first
abbrev pub end_pending : ℕ → Place → State → State
end_pending n place s =
    let ended : State = end (reverse (drop n s.pending)) place s in
    record ended { pending = take n s.pending }

-- .. with the full expression that is written, at the token behind it
abbrev pub full : Place → (State → State) → State → State
full behind expression s = end_pending (length s.pending) behind (expression s)

-- so many stay where the innermost loop is left
abbrev pub with_outside : ℕ → State → State
with_outside n s = record s { outside = n }
