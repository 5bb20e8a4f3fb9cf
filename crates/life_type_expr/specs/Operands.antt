-- Operands: literals, variables, what operators make of operands.
use Rattle.std.specs.Prelude.{ℕ, Bool, true, false, Option, None, Some, Result, Ok, Err, if◌then◌else◌, nat_le}
use Rattle.life_types.specs.Trees.{is_plain, tree_at}
use Rattle.life_types.specs.Types.{Types}
use Rattle.life_types.specs.declared.place.Place.{Place}
use Rattle.life_types.specs.declared.ty.Ty.{Ty}
use Rattle.life_types.specs.declared.ty.Ty.TheVariants as ty
use Rattle.life_types.specs.declared.ty.TyId.{TyId}
use Rattle.life_tree.specs.declared.operator.PrefixOperator.{PrefixOperator}
use Rattle.life_tree.specs.declared.operator.PrefixOperator.TheVariants as prefix
use Rattle.life_typed.specs.TypedForm.{Typed, Form, address_of, binary, dereference, local, move, negate, not as not_form, paren, text_of, whole}
use Rattle.life_typed.specs.declared.typed_expr.BinaryOperator.{BinaryOperator}
use Rattle.life_typed.specs.declared.typed_expr.Category.{Category}
use Rattle.life_typed.specs.declared.typed_expr.Category.TheVariants as category
use Rattle.life_typed.specs.declared.typed_expr.ExprType.{ExprType}
use Rattle.life_typed.specs.declared.typed_expr.ExprType.TheVariants as expr_type
use Rattle.life_typed.specs.declared.typed_program.TypedLocal.{TypedLocal}
use Rattle.life_names.specs.Checked.{Checked}
use Rattle.life_names.specs.Found.{Found, allowed, found_in, given, not_found}
use Rattle.life_typed.specs.BaseTypes.{type_at}
use Rattle.life_typed.specs.Operators.{combined, dereferenced, is_condition, is_literal, negated}
use Rattle.life_typed.specs.declared.misfit.Misfit.{Misfit}
use Rattle.life_typed.specs.declared.misfit.Misfit.TheVariants as misfit
use Rattle.life_names.specs.declared.fault.IllKind.{IllKind}
use Rattle.life_names.specs.declared.fault.IllKind.TheVariants as kinds

-- ---- values and places

abbrev pub value : Place → Ty → Form → Typed
value place t form = record { place = place; ty = expr_type.Of t; category = category.Value; form = form }

-- the place of an object of this type
abbrev pub place_of : Types → TyId → Bool → Place → Form → Typed
place_of types id constant place form =
    record { place = place; ty = expr_type.Of (type_at types id); category = category.Place id constant; form = form }

-- a variable of this type; one of a reference type is the place that it refers to
abbrev pub variable_of : Ty → Types → TyId → Bool → Place → Form → Typed
variable_of (ty.Reference target constant_target) types id constant place form = place_of types target constant_target place form
variable_of _ types id constant place form = place_of types id constant place form

abbrev pub variable : Types → Place → ℕ × TypedLocal → Typed
variable types place l = variable_of (type_at types l.1.ty) types l.1.ty l.1.constant place (local l.0)

-- what a call answers where this is the type of its result
abbrev pub answer_of : Ty → Types → Place → Form → Typed
answer_of (ty.Reference target constant) types place form = place_of types target constant place form
answer_of t types place form = value place t form

-- whether it is a place that may not be changed
abbrev pub is_constant : Category → Bool
is_constant category.Value = false
is_constant (category.Place id constant) = constant

-- ---- literals

-- a number up to 2^31 - 1 is an int
abbrev pub number_type : ℕ → Ty
number_type n = if nat_le n 2147483647 then ty.Int else ty.Long

-- a string literal stands only where it converts
abbrev pub literal_fault : Bool → ExprType → Option IllKind
literal_fault takes (expr_type.Of t) = None
literal_fault takes expr_type.NullPointer = None
literal_fault true expr_type.TextLiteral = None
literal_fault false expr_type.TextLiteral = Some kinds.Unsupported

abbrev pub literal_allowed : Bool → Typed → Found (Unit {0})
literal_allowed takes e = allowed (literal_fault takes e.ty) e.place

-- ---- operators between operands

-- the first literal of two operands
abbrev pub literal_place : Typed → Typed → Place
literal_place left right = if is_literal left.ty then left.place else right.place

abbrev pub misfit_kind : IllKind → Misfit → IllKind
misfit_kind general misfit.General = general
misfit_kind general misfit.Literal = kinds.Unsupported
misfit_kind general misfit.Constant = kinds.ConstBroken
misfit_kind general misfit.Copy = kinds.NotAssignable
misfit_kind general misfit.Unsupported = kinds.Unsupported

-- a literal that the other operand doesn't convert stands where it is, and what else is wrong at the operator
abbrev pub misfit_place : Misfit → Place → Typed → Typed → Place
misfit_place misfit.General place left right = place
misfit_place misfit.Literal place left right = literal_place left right
misfit_place misfit.Constant place left right = place
misfit_place misfit.Copy place left right = place
misfit_place misfit.Unsupported place left right = place

abbrev pub combined_to : Result Ty Misfit → BinaryOperator → Place → Typed → Typed → Found Typed
combined_to (Ok t) operator place left right = Ok (value place t (binary operator (whole left) (whole right)))
combined_to (Err m) operator place left right = not_found (misfit_kind kinds.WrongType m) (misfit_place m place left right)

abbrev pub combination : BinaryOperator → Place → Typed → Typed → Found Typed
combination operator place left right = combined_to (combined operator left.ty right.ty) operator place left right

-- ---- operators before an operand

abbrev pub negated_to : Result Ty Misfit → Place → Typed → Found Typed
negated_to (Ok t) place e = Ok (value place t (negate (whole e)))
negated_to (Err m) place e = not_found (misfit_kind kinds.WrongType m) place

abbrev pub inverted : Place → Typed → Found Typed
inverted place e = if is_condition e.ty then Ok (value place ty.Bool (not_form (whole e))) else not_found kinds.WrongType place

abbrev pub dereferenced_to : Option (TyId × Bool) → Types → Place → Typed → Found Typed
dereferenced_to None types place e = not_found kinds.WrongType place
dereferenced_to (Some target) types place e = Ok (place_of types target.0 target.1 place (dereference (whole e)))

-- what an operand points to
abbrev pub pointed_to : Types → Place → Typed → Found Typed
pointed_to types place e = dereferenced_to (dereferenced e.ty) types place e

abbrev pub address_to : Category → Types → Place → Typed → Found Typed
address_to category.Value types place e = not_found kinds.WrongType place
address_to (category.Place id constant) types place e =
    if is_plain (tree_at types id) then Ok (value place (ty.Raw id constant) (address_of (whole e))) else not_found kinds.NotPlain place

abbrev pub prefixed_by : PrefixOperator → Types → Place → Typed → Found Typed
prefixed_by prefix.Not types place e = inverted place e
prefixed_by prefix.Negate types place e = negated_to (negated e.ty) place e
prefixed_by prefix.Dereference types place e = pointed_to types place e
prefixed_by prefix.AddressOf types place e = address_to e.category types place e

-- an operator before an operand, which is no string literal
abbrev pub prefixed : PrefixOperator → Place → Typed × Types → Checked Typed
prefixed operator place x = given (literal_allowed false x.0) (λ _. found_in x.1 (prefixed_by operator x.1 place x.0))

-- ---- what is made of a variable or an operand

abbrev pub parenthesized : Place → Typed → Found Typed
parenthesized closing e = Ok (record { place = e.place; ty = e.ty; category = e.category; form = paren (whole e) closing })

abbrev pub const_or : Bool → Option IllKind → Option IllKind
const_or true other = Some kinds.ConstBroken
const_or false other = other

-- the rule that is broken where a variable or parameter of this type is moved from
abbrev pub move_fault_of : Ty → Bool → Option IllKind
move_fault_of ty.Text constant = const_or constant None
move_fault_of (ty.Vector element) constant = const_or constant None
move_fault_of (ty.Unique target) constant = const_or constant None
move_fault_of (ty.Reference target constant_target) constant = const_or constant_target (Some kinds.Unsupported)
move_fault_of _ constant = const_or constant (Some kinds.Unsupported)

abbrev pub moved_unless : Option IllKind → Types → Place → ℕ × TypedLocal → Found Typed
moved_unless None types place l = Ok (value place (type_at types l.1.ty) (move l.0))
moved_unless (Some kind) types place l = not_found kind place

abbrev pub moved : Types → Place → ℕ × TypedLocal → Found Typed
moved types place l = moved_unless (move_fault_of (type_at types l.1.ty) l.1.constant) types place l

-- `std::string` is made of strings and views
abbrev pub makes_text : ExprType → Bool
makes_text (expr_type.Of ty.Text) = true
makes_text (expr_type.Of ty.View) = true
makes_text (expr_type.Of _) = false
makes_text expr_type.NullPointer = false
makes_text expr_type.TextLiteral = true

abbrev pub text_made : Place → Place → Typed → Found Typed
text_made place closing e = if makes_text e.ty then Ok (value place ty.Text (text_of (whole e) closing)) else not_found kinds.WrongType place
