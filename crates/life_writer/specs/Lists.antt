-- What lists in braces build: vectors and structs (ISO/IEC 14882:2017 [dcl.init.list], [dcl.init.aggr]).
use Rattle.std.specs.Prelude.{ℕ, suc, List, [], ◌∷◌, None, length, pos}
use Rattle.life_types.specs.Trees.{members_at}
use Rattle.life_types.specs.declared.place.Place.{Place}
use Rattle.life_types.specs.declared.ty.Ty.{Ty}
use Rattle.life_types.specs.declared.ty.Ty.TheVariants as ty
use Rattle.life_types.specs.declared.ty.TyId.{TyId}
use Rattle.life_typed.specs.Delimiters.{DelimitersForm, behind_first, behind_others}
use Rattle.life_typed.specs.declared.typed_expr.Category.TheVariants as category
use Rattle.life_typed.specs.declared.typed_expr.ExprType.TheVariants as expr_type
use Rattle.life_core.specs.Operands.{Operand}
use Rattle.life_core.specs.Step.{Changes, PushBack, Reserve}
use Rattle.life_core.specs.declared.instr.Form.TheVariants.{Plain, Zero}
use Rattle.life_writer.specs.Around.{Around, type_of}
use Rattle.life_writer.specs.Assigning.{Target, assigned}
use Rattle.life_writer.specs.Giving.{given_over}
use Rattle.life_writer.specs.Registers.{computed, constant}
use Rattle.life_writer.specs.Uses.{Act, Remaining, Uses, lived, unused}
use Rattle.life_writer.specs.Using.{location_in, with_member}
use Rattle.life_writer.specs.Writing.{State, gives, ◌>>◌, emit}

-- ---- vectors

-- room for all elements
abbrev pub reserved : (opening : Place) → ℕ → Operand → State → State
reserved opening n to s = computed None ty.Size opening (constant (pos n)) s >> λ r s. emit opening (Changes to (Reserve r)) s

-- each at the end, one after the other
abbrev pub pushed : (element : Ty) → Operand → List Uses → DelimitersForm → State → State
pushed t to [] d s = s
pushed t to (e ∷ es) d s =
    pushed t to es (behind_others d) (given_over e t (behind_first d) s >> λ x s. emit e.place (Changes to (PushBack x)) s)

-- ---- structs

-- a member is a target that needs nothing before it
abbrev pub member_target : ℕ → Operand → Target
member_target m to = record { operand = λ s. gives (with_member m to) s; location = λ s. gives (location_in (with_member m to)) s }

module _ (a : Around) where
  -- the members from one on, each assigned where its element stands
  abbrev pub assigned_members : ℕ → List TyId → Operand → List Uses → DelimitersForm → State → State
  assigned_members m (t ∷ ts) to (e ∷ es) d s =
      assigned_members (suc m) ts to es (behind_others d) (assigned e (type_of a t) (member_target m to) e.place (behind_first d) s)
  assigned_members m _ to _ d s = s

  -- ---- any list

  -- what is done to an object of a type that has come to life
  abbrev pub filled_in : Ty → (opening : Place) → List Uses → DelimitersForm → Act
  filled_in (ty.Vector t) opening es d place to s = pushed (type_of a t) to es d (reserved opening (length es) to s)
  filled_in (ty.Struct number) opening es d place to s = assigned_members 0 (members_at a.program.types number) to es d s
  filled_in _ opening es d place to s = s

  -- an empty list leaves raw pointers null
  abbrev pub list_object : Ty → (opening : Place) → List Uses → DelimitersForm → Remaining
  list_object t opening [] d = lived Zero (λ place to s. s)
  list_object t opening (e ∷ es) d = lived Plain (filled_in t opening (e ∷ es) d)

  -- the type that a list builds, where one of this type is wanted
  abbrev pub built_type : Ty → Ty
  built_type (ty.Reference target constant) = type_of a target
  built_type t = t

  -- a list as an expression of the type that it builds, which stands at its brace
  abbrev pub listed : Ty → (opening : Place) → List Uses → DelimitersForm → Uses
  listed t opening es d = record (unused opening (expr_type.Of t) category.Value) { object = λ s. gives (list_object t opening es d) s }
