-- What initialises what.
use Rattle.std.specs.Prelude.{ℕ, nat_eq, Bool, true, false, ◌&&◌, ◌||◌, not, Result, Ok, Err, if◌then◌else◌}
use Rattle.life_types.specs.Trees.{holds_unique, tree_at}
use Rattle.life_types.specs.TypeTests.{is_text, is_value}
use Rattle.life_types.specs.Types.{Types}
use Rattle.life_types.specs.declared.ty.Ty.{Ty}
use Rattle.life_types.specs.declared.ty.Ty.TheVariants as ty
use Rattle.life_types.specs.declared.ty.TyId.{TyId}
use Rattle.life_types.specs.contracts.ty.TyIdPartialEq.TheImpl.{ghosts as id}
use Rattle.life_typed.specs.BaseTypes.{type_at}
use Rattle.life_typed.specs.Operators.{is_text_like}
use Rattle.life_typed.specs.declared.misfit.Misfit.{Misfit}
use Rattle.life_typed.specs.declared.misfit.Misfit.TheVariants.{General, Literal, Constant, Copy}
use Rattle.life_typed.specs.declared.typed_expr.Category.{Category}
use Rattle.life_typed.specs.declared.typed_expr.Category.TheVariants.{Value, Place}
use Rattle.life_typed.specs.declared.typed_expr.ExprType.{ExprType}
use Rattle.life_typed.specs.declared.typed_expr.ExprType.TheVariants.{Of, NullPointer, TextLiteral}

-- nothing is wrong, or why it doesn't fit
abbrev pub Fit : Type 0
Fit = Result (Unit {0}) Misfit

abbrev pub fitting : Fit
fitting = Ok tt

abbrev pub unless : Bool → Misfit → Fit
unless test why = if test then Err why else fitting

-- ---- how an expression is held

abbrev pub is_place : Category → Bool
is_place Value = false
is_place (Place t constant) = true

abbrev pub is_const_place : Category → Bool
is_const_place Value = false
is_const_place (Place t constant) = constant

abbrev pub is_place_of : Category → TyId → Bool
is_place_of Value target = false
is_place_of (Place t constant) target = id.eq t target

-- a value is taken over, and a place is copied
abbrev pub copied : Types → Category → Fit
copied types Value = fitting
copied types (Place t constant) = unless (holds_unique (tree_at types t)) Copy

-- ---- from an expression of a type

abbrev pub vector_from : TyId → Ty → Fit
vector_from element (ty.Vector found) = unless (not (id.eq found element)) General
vector_from element _ = Err General

-- only a value, which is moved
abbrev pub unique_from : TyId → Ty → Category → Fit
unique_from target (ty.Unique found) category = if id.eq found target then unless (is_place category) Copy else Err General
unique_from target _ category = Err General

-- of one target, where const stays const
abbrev pub same_target : Bool → Bool → Bool → Fit
same_target same held constant = if same then unless (held && not constant) Constant else Err General

abbrev pub pointer_from : TyId → Bool → Ty → Fit
pointer_from target constant (ty.Raw found held) = same_target (id.eq found target) held constant
pointer_from target constant _ = Err General

-- the const form from the other too
abbrev pub iterator_from : TyId → Bool → Ty → Fit
iterator_from target constant (ty.Iterator found held) = unless (not (id.eq found target) || (held && not constant)) General
iterator_from target constant _ = Err General

-- a span, or a vector, which is const as a place or not; a vector that is a value isn't
abbrev pub span_from : TyId → Bool → Ty → Category → Fit
span_from target constant (ty.Span found held) category = same_target (id.eq found target) held constant
span_from target constant (ty.Vector found) category = same_target (id.eq found target) (is_const_place category) constant
span_from target constant _ category = Err General

abbrev pub struct_from : Types → ℕ → Ty → Category → Fit
struct_from types number (ty.Struct found) category = if nat_eq found number then copied types category else Err General
struct_from types number _ category = Err General

-- by the target
abbrev pub converted : Types → Ty → Ty → Category → Fit
converted types ty.Void source category = Err General
converted types ty.Bool source category = unless (not (is_value source)) General
converted types ty.Char source category = unless (not (is_value source)) General
converted types ty.Int source category = unless (not (is_value source)) General
converted types ty.Long source category = unless (not (is_value source)) General
converted types ty.Size source category = unless (not (is_value source)) General
converted types ty.Text source category = unless (not (is_text source)) General
converted types ty.View source category = unless (not (is_text_like source)) General
converted types (ty.Vector element) source category = vector_from element source
converted types (ty.Unique target) source category = unique_from target source category
converted types (ty.Raw target constant) source category = pointer_from target constant source
converted types (ty.Reference target constant) source category = Err General
converted types (ty.Iterator target constant) source category = iterator_from target constant source
converted types (ty.Span target constant) source category = span_from target constant source category
converted types (ty.Struct number) source category = struct_from types number source category

-- ---- what initialises an object

-- what nullptr initialises
abbrev pub admits_null : Ty → Bool
admits_null (ty.Raw target constant) = true
admits_null (ty.Unique target) = true
admits_null _ = false

abbrev pub initialised : Types → Ty → ExprType → Category → Fit
initialised types target (Of source) category = converted types target source category
initialised types target NullPointer category = unless (not (admits_null target)) General
initialised types target TextLiteral category = unless (not (is_text_like target)) Literal

-- ---- .. and what a reference is bound to

-- what doesn't fit, whatever the target's parts are
abbrev pub refused : ExprType → Fit
refused (Of source) = Err General
refused NullPointer = Err General
refused TextLiteral = Err Literal

-- T&: a place of T that isn't const
abbrev pub bound : TyId → ExprType → Category → Fit
bound target e Value = refused e
bound target e (Place t constant) = if id.eq t target then unless constant Constant else refused e

-- const T&: any place of T; through a temporary, what initialises T
abbrev pub bound_const : Types → TyId → ExprType → Category → Fit
bound_const types target e category = if is_place_of category target then fitting else initialised types (type_at types target) e category

abbrev pub fits : Types → Ty → ExprType → Category → Fit
fits types (ty.Reference target false) e category = bound target e category
fits types (ty.Reference target true) e category = bound_const types target e category
fits types target e category = initialised types target e category
