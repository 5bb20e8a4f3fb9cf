-- What stands in a core function: its locals, and the types of registers, locations, places and bases.
use Rattle.std.specs.Prelude.{ℕ, Bool, true, false, ◌&&◌, not, if◌then◌else◌, nat_eq, Option, Some, None, slice_get}
use Rattle.life_types.specs.Pointees.{pointee, ty_of}
use Rattle.life_types.specs.TypeTests.{is_constant, is_value, is_void}
use Rattle.life_types.specs.Types.{Types, is_slot_at}
use Rattle.life_types.specs.declared.ty.Ty.{Ty}
use Rattle.life_types.specs.declared.ty.Ty.TheVariants as ty
use Rattle.life_core.specs.declared.operand.Which.{Which}
use Rattle.life_core.specs.declared.operand.Which.TheVariants as which
use Rattle.life_core.specs.declared.program.Local.{Local}
use Rattle.life_core.specs.Function.{Function}
use Rattle.life_core.specs.Kinds.{is_object_at, is_register_at}
use Rattle.life_core.specs.Operands.{Location, Operand, Name, Through, Base}
use Rattle.life_core.specs.Operands as base
use Rattle.life_pset.specs.Shapes.{local_type, location_type, operand_type, ty_if}
use Rattle.life_proper.specs.OperandTypes.{owned_element, owned_target, same, seen_element}

module _ (types : Types) (f : Function) where
  -- ---- locals

  abbrev pub object_at : ℕ → Bool
  object_at x = is_object_at f x

  abbrev pub register_at : ℕ → Bool
  register_at x = is_register_at f x

  -- a parameter that is a slot
  abbrev pub is_slot_local : Option Local → Bool
  is_slot_local None = false
  is_slot_local (Some l) = is_slot_at types l.ty

  abbrev pub slot_at : ℕ → Bool
  slot_at x = is_slot_local (slice_get f.locals x)

  -- the local of the result, where the function has one
  abbrev pub result_at : ℕ → Bool
  result_at x = not (is_void (ty_of types f.result)) && nat_eq x f.parameters

  -- ---- types

  abbrev pub type_at : ℕ → Ty
  type_at x = ty_if types (local_type types f x)

  abbrev pub type_in : Location → Ty
  type_in l = ty_if types (location_type types f l)

  -- a place is an object of the function or a member of it, or behind a pointer to an object
  abbrev pub is_place : Operand → Bool
  is_place (Name l) = object_at l.local
  is_place (Through p members) = not (is_void (pointee types (type_in p)))

  abbrev pub type_of : Operand → Ty
  type_of o = if is_place o then ty_if types (operand_type types f o) else ty.Void

  -- what stands there is const: an object of the function never is
  abbrev pub is_const_place : Operand → Bool
  is_const_place (Name l) = false
  is_const_place (Through p members) = is_constant (type_in p)

  -- ---- registers

  -- one with a value, and one with a value of this type
  abbrev pub is_number : ℕ → Bool
  is_number r = register_at r && is_value (type_at r)

  abbrev pub is_number_of : Ty → ℕ → Bool
  is_number_of t r = register_at r && (is_value t && same t (type_at r))

  abbrev pub is_number_of_if : Ty → Option ℕ → Bool
  is_number_of_if t None = true
  is_number_of_if t (Some r) = is_number_of t r

  -- ---- what is consumed

  -- a temporary that is given over: an object that is neither the result nor a slot
  abbrev pub is_given : Ty → ℕ → Bool
  is_given t x = object_at x && (not (result_at x) && (not (slot_at x) && same t (type_at x)))

  -- a value, or a temporary with an owner or a struct
  abbrev pub is_consumed : Ty → ℕ → Bool
  is_consumed t x = if is_value t then is_number_of t x else is_given t x

  -- ---- what has elements

  abbrev pub element_of : Base → Ty
  element_of (base.Owner o) = owned_element types (type_of o)
  element_of (base.Pointer l) = seen_element types (type_in l)

  abbrev pub is_const_base : Base → Bool
  is_const_base (base.Owner o) = is_const_place o
  is_const_base (base.Pointer l) = is_constant (type_in l)

  abbrev pub target_of : Base → Ty
  target_of (base.Owner o) = owned_target types (type_of o)
  target_of (base.Pointer l) = ty.Void

  abbrev pub type_of_element : Base → Which → Ty
  type_of_element b (which.Index r) = if is_number_of ty.Size r then element_of b else ty.Void
  type_of_element b which.First = element_of b
  type_of_element b which.Last = element_of b
  type_of_element b which.Target = target_of b
