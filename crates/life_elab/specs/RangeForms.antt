-- Loops over ranges (ISO/IEC 14882:2017 [stmt.ranged]): what is hidden stands at the colon.
use Rattle.std.specs.Prelude.{ℕ, Bool, false, Option, Some, None, length, pos}
use Rattle.life_types.specs.Types.{Types, class}
use Rattle.life_types.specs.declared.place.Place.{Place}
use Rattle.life_types.specs.declared.ty.Class.{Class}
use Rattle.life_types.specs.declared.ty.Class.TheVariants as classes
use Rattle.life_types.specs.declared.ty.Ty.{Ty}
use Rattle.life_types.specs.declared.ty.Ty.TheVariants as ty
use Rattle.life_types.specs.declared.ty.TyId.{TyId}
use Rattle.life_typed.specs.BaseTypes.{type_at}
use Rattle.life_typed.specs.Conversions.{is_const_place}
use Rattle.life_typed.specs.Statements.{range_element}
use Rattle.life_typed.specs.declared.typed_expr.Category.{Category}
use Rattle.life_typed.specs.declared.typed_expr.Category.TheVariants as category
use Rattle.life_typed.specs.declared.typed_expr.ExprType.TheVariants as expr_type
use Rattle.life_typed.specs.declared.typed_program.TypedLocal.{TypedLocal}
use Rattle.life_core.specs.Operands.{Base, Operand, Owner, Place as Aimed, Pointer, behind, object_named, whole}
use Rattle.life_core.specs.Step.{Advance, Cursor, Same}
use Rattle.life_core.specs.Tree.{Tree}
use Rattle.life_core.specs.declared.instr.Direction.TheVariants.{Forward}
use Rattle.life_core.specs.declared.instr.Form.TheVariants.{Plain}
use Rattle.life_core.specs.declared.operand.RangeEnd.{RangeEnd}
use Rattle.life_core.specs.declared.operand.RangeEnd.TheVariants.{Begin, End}
use Rattle.life_writer.specs.Around.{Around, type_of}
use Rattle.life_writer.specs.Building.{Fill, built}
use Rattle.life_writer.specs.Conditions.{non_zero}
use Rattle.life_writer.specs.Giving.{initial}
use Rattle.life_writer.specs.OwnerForms.{copied_at}
use Rattle.life_writer.specs.Pointers.{As, aimed, pointed}
use Rattle.life_writer.specs.Registers.{computed, constant, converted, load, type_number, typed_with}
use Rattle.life_writer.specs.Temporaries.{hidden, scoped}
use Rattle.life_writer.specs.Uses.{Uses, lived, own, unused}
use Rattle.life_writer.specs.Using.{pointer}
use Rattle.life_writer.specs.Variables.{end_pending, end_since}
use Rattle.life_writer.specs.Writing.{State, Gives, gives, ◌>>◌, emit, mapped}
use Rattle.life_elab.specs.Declarations.{variable}
use Rattle.life_elab.specs.Statements.{looped}

-- ---- the range

-- an owner that is a value lives as long as the loop
abbrev pub owner_range : Category → Uses → State → Gives Operand
owner_range (category.Place id constant) e s = e.at s
owner_range category.Value e s = e.object s >> λ rest s. mapped object_named (rest (scoped e.place (own e)) s)

abbrev pub range_type : Category → Ty → State → Gives Ty
range_type (category.Place id constant) t s = gives (ty.Reference id constant) s
range_type category.Value t s = gives (ty.Reference (type_number t (typed_with t s)) false) (typed_with t s)

-- .. and is referred to
abbrev pub hidden_owner : (colon : Place) → Uses → State → Gives Base
hidden_owner colon e s =
    owner_range e.category e s >> λ o s. range_type e.category (own e) s >> λ t s.
    mapped (λ r. Owner (behind r)) (built (Fill colon (pointed (aimed (Aimed o)))) (hidden colon t) s)

-- a span or a view is what it is
abbrev pub hidden_pointer : (colon : Place) → Uses → State → Gives Base
hidden_pointer colon e s =
    pointer e (own e) s >> λ l s. mapped (λ r. Pointer (whole r)) (built (Fill colon (pointed (As l))) (hidden colon (own e)) s)

abbrev pub hidden_by : Ty → (colon : Place) → Uses → State → Gives Base
hidden_by ty.View colon e s = hidden_pointer colon e s
hidden_by (ty.Span target constant) colon e s = hidden_pointer colon e s
hidden_by _ colon e s = hidden_owner colon e s

-- other temporaries end at the parenthesis behind the range
abbrev pub hidden_range : (colon closing : Place) → Uses → State → Gives Base
hidden_range colon closing e s = hidden_by (own e) colon e s >> λ b after. gives b (end_pending (length s.pending) closing after)

-- ---- the iterators

pub record Iterators : Type 0 where
  pub first : ℕ
  pub last : ℕ

-- what an element is: its type, and whether it is const
abbrev pub element_of : Uses → Option (TyId × Bool)
element_of e = range_element e.ty (is_const_place e.category)

abbrev pub iterator_type : Option (TyId × Bool) → Ty
iterator_type None = ty.Void
iterator_type (Some x) = ty.Iterator x.0 x.1

abbrev pub cursor_at : (colon : Place) → Ty → Base → RangeEnd → State → Gives ℕ
cursor_at colon t b end s = built (Fill colon (λ p. Cursor p b end)) (hidden colon t) s

abbrev pub opened : (colon closing : Place) → Uses → State → Gives Iterators
opened colon closing e s =
    hidden_range colon closing e s >> λ b s. cursor_at colon (iterator_type (element_of e)) b Begin s >> λ x s.
    mapped (λ y. record { first = x; last = y }) (cursor_at colon (iterator_type (element_of e)) b End s)

-- ---- each turn

-- there is one more while they differ
abbrev pub goes_on : (colon : Place) → Iterators → State → Gives Tree
goes_on colon it s = non_zero colon None (λ s. computed None ty.Bool colon (λ r. Same r (whole it.first) (whole it.last) false) s) s

abbrev pub next : (colon : Place) → Iterators → State → State
next colon it s = computed None ty.Int colon (constant (pos 1)) s >> λ r s. emit colon (Advance (whole it.first) (whole it.first) r Forward) s

-- the value that an iterator stands at, as one of a type
abbrev pub element_value : (own : Ty) → (colon : Place) → ℕ → Ty → State → Gives ℕ
element_value own colon it t s = computed None own colon (load (behind it)) s >> λ r s. converted own t colon r s

-- a string or a vector
abbrev pub IsSeenWhole : Ty → Type 0
IsSeenWhole ty.Text = Unit {0}
IsSeenWhole (ty.Vector t) = Unit {0}
IsSeenWhole _ = ⊥

-- the element that an iterator stands at
abbrev pub element_at : Types → (colon : Place) → ℕ → Option (TyId × Bool) → Uses
element_at types colon it None = unused colon expr_type.NullPointer category.Value
element_at types colon it (Some x) =
    record (unused colon (expr_type.Of (type_at types x.0)) (category.Place x.0 x.1)) { at = λ s. gives (behind it) s }

module _ (a : Around) where
  -- a copy of it stands at the colon, too
  abbrev pub given_element : Class → TypedLocal → (colon : Place) → ℕ → Uses → State → State
  given_element classes.Owner v colon it e s = (lived Plain (copied_at colon (behind it)) (variable a v) s).state
  given_element classes.Aggregate v colon it e s = (lived Plain (copied_at colon (behind it)) (variable a v) s).state
  given_element _ v colon it e s = (initial a scoped e (type_of a v.ty) colon s >> λ rest s. rest (variable a v) s).state

  abbrev pub declared_from : Option TypedLocal → (colon : Place) → ℕ → Uses → State → State
  declared_from None colon it e s = s
  declared_from (Some v) colon it e s = given_element (class (Some (type_of a v.ty))) v colon it e s

  -- the variable ends in each turn where the body does
  abbrev pub turn : Option TypedLocal → (colon last : Place) → ℕ → Uses → (body : State → State) → State → State
  turn v colon last it e body s = end_since last (length s.living) (body (declared_from v colon it e s))

  -- ---- the whole

  -- a range that is a temporary ends behind the loop
  abbrev pub ranged : Option TypedLocal → (colon closing last : Place) → Uses → (body : State → State) → State → State
  ranged v colon closing last e body s =
      end_since last (length s.living) (opened colon closing e s >> λ it s.
      looped (goes_on colon it) (turn v colon last it.first (element_at a.program.types colon it.first (element_of e)) body) (next colon it) s)
