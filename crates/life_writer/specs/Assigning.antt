-- What is assigned, the right side before the left: a table by the class of the target (ISO/IEC 14882:2017 [expr.ass]).
use Rattle.std.specs.Prelude.{ℕ, Option, Some, None}
use Rattle.life_types.specs.Types.{class}
use Rattle.life_types.specs.declared.place.Place.{Place}
use Rattle.life_types.specs.declared.ty.Class.{Class}
use Rattle.life_types.specs.declared.ty.Class.TheVariants as classes
use Rattle.life_types.specs.declared.ty.Ty.{Ty}
use Rattle.life_typed.specs.declared.typed_expr.Category.{Category}
use Rattle.life_typed.specs.declared.typed_expr.Category.TheVariants as category
use Rattle.life_core.specs.Operands.{Location, Operand, object_named}
use Rattle.life_core.specs.Step.{Move, Save}
use Rattle.life_writer.specs.Giving.{copied}
use Rattle.life_writer.specs.Pointers.{pointed}
use Rattle.life_writer.specs.Uses.{Act, Uses}
use Rattle.life_writer.specs.Using.{pointing, temporary_of, value}
use Rattle.life_writer.specs.Writing.{State, Gives, ◌>>◌, emit, mapped}

-- what is assigned to: a place, or where a pointer lies
pub record Target : Type 0 where
  pub operand : State → Gives Operand
  pub location : State → Gives Location

-- something is done to it
abbrev pub acted : Gives Act → Target → (equals : Place) → State
acted w to equals = w >> λ act s. to.operand s >> λ o s. act equals o s

-- a temporary is moved from ([string.op], [vector.cons])
abbrev pub moved : ℕ → Act
moved x place to s = emit place (Move to x) s

abbrev pub replaced_by : Option (State → Gives Act) → (made : State → Gives ℕ) → State → Gives Act
replaced_by (Some act) made s = act s
replaced_by None made s = mapped moved (made s)

-- an owner at a place is copied; what is moved, made or null needs no temporary; any other value and a literal do
abbrev pub owner_by : Category → Uses → Ty → State → Gives Act
owner_by (category.Place id constant) e t s = mapped copied (e.at s)
owner_by category.Value e t s = replaced_by e.replacing (temporary_of e t) s

-- a struct is copied, by way of a temporary where it is a value
abbrev pub struct_by : Category → Uses → Ty → State → Gives Act
struct_by (category.Place id constant) e t s = mapped copied (e.at s)
struct_by category.Value e t s = mapped (λ x. copied (object_named x)) (temporary_of e t s)

abbrev pub assigned_by : Class → Uses → Ty → Target → (equals behind : Place) → State → State
assigned_by classes.Value e t to equals behind s = value e behind t None s >> λ r s. to.operand s >> λ o s. emit equals (Save o r) s
assigned_by classes.Pointer e t to equals behind s = pointing e s >> λ p s. to.location s >> λ l s. emit e.place (pointed p l) s
assigned_by classes.Owner e t to equals behind s = acted (owner_by e.category e t s) to equals
assigned_by classes.Aggregate e t to equals behind s = acted (struct_by e.category e t s) to equals

-- to a target of a type, with the token behind the expression
abbrev pub assigned : Uses → Ty → Target → (equals behind : Place) → State → State
assigned e t to equals behind s = assigned_by (class (Some t)) e t to equals behind s
