-- How an expression is used: its value, its condition, its place and its pointer.
use Rattle.std.specs.Prelude.{ℕ, false, ◌++◌, [], ◌∷◌, Option, Some, None, if◌then◌else◌}
use Rattle.life_types.specs.TypeTests.{is_pointer}
use Rattle.life_types.specs.declared.place.Place.{Place}
use Rattle.life_types.specs.declared.ty.Ty.{Ty}
use Rattle.life_types.specs.declared.ty.Ty.TheVariants as ty
use Rattle.life_typed.specs.Operators.{is_nullable}
use Rattle.life_typed.specs.declared.typed_expr.Category.{Category}
use Rattle.life_typed.specs.declared.typed_expr.Category.TheVariants as category
use Rattle.life_core.specs.Operands.{Location, Operand, Name, Through, Get, Whole, object_named, whole}
use Rattle.life_core.specs.Tree.{Tree}
use Rattle.life_writer.specs.Behind.{lasting}
use Rattle.life_writer.specs.Building.{Destination}
use Rattle.life_writer.specs.Conditions.{non_zero, not_null}
use Rattle.life_writer.specs.Pointers.{Pointing, As, aimed, located}
use Rattle.life_writer.specs.Registers.{as_type}
use Rattle.life_writer.specs.Temporaries.{temporary}
use Rattle.life_writer.specs.Uses.{Uses, own}
use Rattle.life_writer.specs.Values as values
use Rattle.life_writer.specs.Writing.{State, Gives, ◌>>◌, mapped}
use Rattle.life_writer.specs.declared.behind.Behind.{Behind}

-- ---- values

-- a place is read, and any other value made
abbrev pub read_or_made : Uses → (behind : Place) → Option ℕ → State → Gives ℕ
read_or_made e behind into s = values.read_or_made (own e) e.place e.category e.at (e.made behind) into s

-- as one of its own type, in the register that is wanted or one of its own, with the token behind it
abbrev pub own_value : Uses → (behind : Place) → Option ℕ → State → Gives ℕ
own_value e behind into s = values.value_from (own e) e.place e.category (e.decision (lasting behind)) e.at (e.made behind) into s

-- .. as one of any type
abbrev pub value : Uses → (behind : Place) → Ty → Option ℕ → State → Gives ℕ
value e behind to into s = as_type (own e) to e.place (own_value e behind) into s

-- ---- places

-- an owner or a struct that is a value is built where it goes
abbrev pub object_in : Uses → Destination → State → Gives ℕ
object_in e d s = e.object s >> λ rest s. rest d s

-- .. as a temporary of a type
abbrev pub temporary_of : Uses → Ty → State → Gives ℕ
temporary_of e t s = object_in e (temporary e.place t) s

abbrev pub operand_by : Category → (at : State → Gives Operand) → (made : State → Gives ℕ) → State → Gives Operand
operand_by category.Value at made s = mapped object_named (made s)
operand_by (category.Place t constant) at made s = at s

-- a value becomes a temporary where a place is wanted
abbrev pub operand : Uses → State → Gives Operand
operand e s = operand_by e.category e.at (temporary_of e (own e)) s

-- a member of a place
abbrev pub with_member : ℕ → Operand → Operand
with_member m (Name l) = Name (record l { members = l.members ++ m ∷ [] })
with_member m (Through p members) = Through p (members ++ m ∷ [])

-- where a pointer or a unique_ptr lies: both lie in the function's own locals
abbrev pub location_in : Operand → Location
location_in (Name l) = l
location_in (Through p members) = p

-- ---- pointers

-- a unique_ptr that is a place is tested where it lies, and what a value owns is seen through its temporary
abbrev pub owned_by : Category → (at : State → Gives Operand) → (made : State → Gives ℕ) → State → Gives Pointing
owned_by category.Value at made s = mapped (λ x. aimed (Get (whole x))) (made s)
owned_by (category.Place t constant) at made s = mapped (λ o. As (location_in o)) (at s)

abbrev pub owned : Uses → State → Gives Pointing
owned e s = owned_by e.category e.at (temporary_of e (own e)) s

-- what an expression gives a pointer: a string is seen by a view of the whole of it, and a vector by a span
abbrev pub pointing_by : Ty → Uses → State → Gives Pointing
pointing_by ty.Text e s = mapped (λ o. aimed (Whole o)) (operand e s)
pointing_by (ty.Vector element) e s = mapped (λ o. aimed (Whole o)) (operand e s)
pointing_by (ty.Unique target) e s = owned e s
pointing_by _ e s = e.pointing s

abbrev pub pointing : Uses → State → Gives Pointing
pointing e s = pointing_by (own e) e s

-- the register of what is no pointer itself has the type that is wanted; const is taken on without an instruction
abbrev pub register_type : (wanted own : Ty) → Ty
register_type wanted own = if is_pointer own then own else wanted

abbrev pub pointer : Uses → (wanted : Ty) → State → Gives Location
pointer e wanted s = pointing e s >> λ p s. located e.place (register_type wanted (own e)) p s

-- ---- conditions

-- what is tested of a unique_ptr that is a value is the pointer to what it owns
abbrev pub tested_type : Ty → Ty
tested_type (ty.Unique target) = ty.Raw target false
tested_type t = t

abbrev pub nullable : Uses → State → Gives Location
nullable e s = pointing e s >> λ p s. located e.place (tested_type (own e)) p s

-- one that others make up is written so; a raw pointer and a unique_ptr are tested for null, and a value for 0
abbrev pub condition_by : Option (State → Gives Tree) → Ty → Place → Option Place → (State → Gives Location) → (State → Gives ℕ) → State → Gives Tree
condition_by (Some decision) t place ends pointer value s = decision s
condition_by None t place ends pointer value s = if is_nullable t then not_null place ends pointer s else non_zero place ends value s

abbrev pub condition : Uses → Behind → State → Gives Tree
condition e b s = condition_by (e.decision b) (own e) e.place b.ends (nullable e) (read_or_made e b.token None) s
