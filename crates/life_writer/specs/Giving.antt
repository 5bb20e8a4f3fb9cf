-- What is initialised with an expression: a table by the class of what is initialised (ISO/IEC 14882:2017 [dcl.init]).
use Rattle.std.specs.Prelude.{ℕ, ◌&&◌, not, List, [], ◌∷◌, Option, Some, None, if◌then◌else◌}
use Rattle.life_types.specs.Types.{class}
use Rattle.life_types.specs.contracts.ty.TyPartialEq.TheImpl.{ghosts as compared}
use Rattle.life_types.specs.declared.place.Place.{Place}
use Rattle.life_types.specs.declared.ty.Class.{Class}
use Rattle.life_types.specs.declared.ty.Class.TheVariants as classes
use Rattle.life_types.specs.declared.ty.Ty.{Ty}
use Rattle.life_types.specs.declared.ty.Ty.TheVariants as ty
use Rattle.life_types.specs.declared.ty.TyId.{TyId}
use Rattle.life_typed.specs.Conversions.{is_place, is_place_of}
use Rattle.life_typed.specs.Delimiters.{DelimitersForm, behind_first, behind_others}
use Rattle.life_typed.specs.declared.typed_expr.Category.{Category}
use Rattle.life_typed.specs.declared.typed_expr.Category.TheVariants as category
use Rattle.life_core.specs.Operands.{Argument, GivenOver, Location, Operand, Place as Aimed, PointerOf, Value, object_named, whole}
use Rattle.life_core.specs.Step.{Step, Copy}
use Rattle.life_core.specs.declared.instr.Form.TheVariants.{Plain}
use Rattle.life_writer.specs.Around.{Around, type_of}
use Rattle.life_writer.specs.Building.{Destination}
use Rattle.life_writer.specs.Pointers.{aimed, pointed}
use Rattle.life_writer.specs.Registers.{wanted}
use Rattle.life_writer.specs.Temporaries.{consumed, temporary}
use Rattle.life_writer.specs.Uses.{Act, Remaining, Uses, filled, lived, own, saved}
use Rattle.life_writer.specs.Using.{pointer, pointing, value}
use Rattle.life_writer.specs.Writing.{State, Gives, gives, ◌>>◌, emit, mapped}

-- ---- an object or a pointer

-- a call whose result needs no conversion gives it where it goes, and any other value is saved there
abbrev pub call_to : Uses → Ty → Option (State → Gives (Location → Step))
call_to e t = if compared.eq (own e) t && not (is_place e.category) then e.call else None

abbrev pub value_by : Option (State → Gives (Location → Step)) → Place → (value : State → Gives ℕ) → State → Gives Remaining
value_by (Some call) place value s = mapped (filled place) (call s)
value_by None place value s = mapped saved (value s)

-- a copy of what stands at a place
abbrev pub copied : Operand → Act
copied from place to s = emit place (Copy to from) s

abbrev pub object_by : Category → (at : State → Gives Operand) → (made : State → Gives Remaining) → State → Gives Remaining
object_by category.Value at made s = made s
object_by (category.Place t constant) at made s = mapped (λ from. lived Plain (copied from)) (at s)

-- by the class of what is initialised: all but the last is written, with the token behind the expression
abbrev pub given_by : Class → Uses → Ty → (behind : Place) → State → Gives Remaining
given_by classes.Value e t behind s = value_by (call_to e t) e.place (value e behind t None) s
given_by classes.Pointer e t behind s = mapped (λ p. filled e.place (pointed p)) (pointing e s)
given_by classes.Owner e t behind s = object_by e.category e.at e.object s
given_by classes.Aggregate e t behind s = object_by e.category e.at e.object s

abbrev pub given : Uses → Ty → (behind : Place) → State → Gives Remaining
given e t behind s = given_by (class (Some t)) e t behind s

-- a copy of it, or what it builds, where it goes
abbrev pub object_given : Uses → Destination → State → Gives ℕ
object_given e d s = object_by e.category e.at e.object s >> λ rest s. rest d s

-- .. and built where it goes
abbrev pub given_in : Uses → Ty → (behind : Place) → Destination → State → Gives ℕ
given_in e t behind d s = given e t behind s >> λ rest s. rest d s

-- ---- a reference

abbrev pub aimed_at : Place → Operand → Remaining
aimed_at place o = filled place (pointed (aimed (Aimed o)))

-- an operand of a type that is given over: a value in a register, or a temporary
abbrev pub consumed_by : Class → Uses → Ty → (behind : Place) → State → Gives ℕ
consumed_by classes.Value e t behind s = value e behind t None s
consumed_by _ e t behind s = given e t behind s >> λ rest s. rest (consumed e.place t) s

abbrev pub given_over : Uses → Ty → (behind : Place) → State → Gives ℕ
given_over e t behind s = consumed_by (class (Some t)) e t behind s

module _ (a : Around) where
  -- it refers to a place of its type, and else to a temporary that is built where it goes by `keeps`
  abbrev pub bound : (keeps : Place → Ty → Destination) → Uses → TyId → (behind : Place) → State → Gives Remaining
  bound keeps e target behind s =
      if is_place_of e.category target then mapped (aimed_at e.place) (e.at s)
      else (
      given e (type_of a target) behind s >> λ rest s. rest (keeps e.place (type_of a target)) s >> λ x s.
      gives (aimed_at e.place (object_named x)) s)

  abbrev pub initial : (keeps : Place → Ty → Destination) → Uses → Ty → (behind : Place) → State → Gives Remaining
  initial keeps e (ty.Reference target constant) behind s = bound keeps e target behind s
  initial keeps e t behind s = given e t behind s

  -- ---- arguments

  -- what a reference is bound to is aimed at by a register; any other pointer is its location, also where it is read later than what stands behind it
  abbrev pub pointer_argument : Uses → Ty → (behind : Place) → State → Gives Argument
  pointer_argument e (ty.Reference target constant) behind s =
      bound temporary e target behind s >> λ rest s. mapped (λ r. PointerOf (whole r)) (rest (wanted e.place None (ty.Reference target constant)) s)
  pointer_argument e t behind s = mapped PointerOf (pointer e t s)

  abbrev pub argument_by : Class → Uses → Ty → (behind : Place) → State → Gives Argument
  argument_by classes.Value e t behind s = mapped Value (value e behind t None s)
  argument_by classes.Pointer e t behind s = pointer_argument e t behind s
  argument_by _ e t behind s = mapped GivenOver (given_over e t behind s)

  abbrev pub argument : Uses → Ty → (behind : Place) → State → Gives Argument
  argument e t behind s = argument_by (class (Some t)) e t behind s

  -- as the types of the parameters, each with the token behind it
  abbrev pub arguments : List Uses → DelimitersForm → List TyId → State → Gives (List Argument)
  arguments (e ∷ es) d (t ∷ ts) s =
      argument e (type_of a t) (behind_first d) s >> λ x s. mapped (λ xs. x ∷ xs) (arguments es (behind_others d) ts s)
  arguments _ d _ s = gives [] s
