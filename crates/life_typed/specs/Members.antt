-- The member functions of the library's types: their names, what they take and what they give.
use Rattle.std.specs.Prelude.{ℕ, nat_eq, Bool, true, false, ◌||◌, List, codes, Option, None, Some, if◌then◌else◌}
use Rattle.std.specs.Str.{bytes_eq}
use Rattle.life_types.specs.Types.{Types}
use Rattle.life_types.specs.declared.ty.Ty.{Ty}
use Rattle.life_types.specs.declared.ty.Ty.TheVariants as ty
use Rattle.life_types.specs.declared.ty.TyId.{TyId}
use Rattle.life_typed.specs.BaseTypes.{type_at}
use Rattle.life_typed.specs.declared.members.MethodParameters.{MethodParameters}
use Rattle.life_typed.specs.declared.members.MethodParameters.TheVariants as parameters
use Rattle.life_typed.specs.declared.typed_expr.Category.{Category}
use Rattle.life_typed.specs.declared.typed_expr.Category.TheVariants.{Value, Place}
use Rattle.life_typed.specs.declared.typed_expr.ExprType.{ExprType}
use Rattle.life_typed.specs.declared.typed_expr.ExprType.TheVariants.{Of}
use Rattle.life_typed.specs.declared.typed_expr.Method.{Method}
use Rattle.life_typed.specs.declared.typed_expr.Method.TheVariants.{Size, Empty, Front, Back, Begin, End, PushBack, PopBack, Clear, Reserve, Erase, Get, Reset, Subspan, Substr}

-- ---- names

-- what only reads its object
abbrev pub reading_named : List ℕ → Option Method
reading_named name =
    if bytes_eq name (codes "size") then Some Size else (
    if bytes_eq name (codes "empty") then Some Empty else (
    if bytes_eq name (codes "front") then Some Front else (
    if bytes_eq name (codes "back") then Some Back else (
    if bytes_eq name (codes "begin") then Some Begin else (
    if bytes_eq name (codes "end") then Some End else None)))))

-- what changes its object
abbrev pub changing_named : List ℕ → Option Method
changing_named name =
    if bytes_eq name (codes "push_back") then Some PushBack else (
    if bytes_eq name (codes "pop_back") then Some PopBack else (
    if bytes_eq name (codes "clear") then Some Clear else (
    if bytes_eq name (codes "reserve") then Some Reserve else (
    if bytes_eq name (codes "erase") then Some Erase else (
    if bytes_eq name (codes "reset") then Some Reset else None)))))

-- what answers a pointer, a span or a view
abbrev pub pointing_named : List ℕ → Option Method
pointing_named name =
    if bytes_eq name (codes "get") then Some Get else (
    if bytes_eq name (codes "subspan") then Some Subspan else (
    if bytes_eq name (codes "substr") then Some Substr else None))

-- the first that there is
abbrev pub either : Option Method → Option Method → Option Method
either (Some m) other = Some m
either None other = other

abbrev pub method_named : List ℕ → Option Method
method_named name = either (reading_named name) (either (changing_named name) (pointing_named name))

-- ---- which type has which

abbrev pub is_of_vector : Method → Bool
is_of_vector Get = false
is_of_vector Reset = false
is_of_vector Subspan = false
is_of_vector Substr = false
is_of_vector _ = true

abbrev pub is_of_text : Method → Bool
is_of_text Size = true
is_of_text Empty = true
is_of_text PushBack = true
is_of_text Clear = true
is_of_text _ = false

abbrev pub is_of_unique : Method → Bool
is_of_unique Get = true
is_of_unique Reset = true
is_of_unique _ = false

abbrev pub is_of_span : Method → Bool
is_of_span Size = true
is_of_span Empty = true
is_of_span Subspan = true
is_of_span _ = false

abbrev pub is_of_view : Method → Bool
is_of_view Size = true
is_of_view Empty = true
is_of_view Substr = true
is_of_view _ = false

abbrev pub has_method : Ty → Method → Bool
has_method (ty.Vector element) m = is_of_vector m
has_method ty.Text m = is_of_text m
has_method (ty.Unique target) m = is_of_unique m
has_method (ty.Span target constant) m = is_of_span m
has_method ty.View m = is_of_view m
has_method _ m = false

-- it changes its object
abbrev pub mutates : Method → Bool
mutates PushBack = true
mutates PopBack = true
mutates Clear = true
mutates Reserve = true
mutates Erase = true
mutates Reset = true
mutates _ = false

-- ---- parameters

abbrev pub takes : MethodParameters → ℕ → Bool
takes parameters.None count = nat_eq count 0
takes (parameters.One only) count = nat_eq count 1
takes (parameters.Two first second) count = nat_eq count 2
takes (parameters.OneOrTwo first second) count = nat_eq count 1 || nat_eq count 2

abbrev pub of_two : ℕ → Option Ty → Option Ty → Option Ty
of_two index first second = if nat_eq index 0 then first else (if nat_eq index 1 then second else None)

-- the type of the parameter with a number
abbrev pub parameter : MethodParameters → ℕ → Option Ty
parameter parameters.None index = None
parameter (parameters.One only) index = of_two index (Some only) None
parameter (parameters.Two first second) index = of_two index (Some first) (Some second)
parameter (parameters.OneOrTwo first second) index = of_two index (Some first) (Some second)

-- what a vector or a string holds
abbrev pub element_type : Types → Ty → Ty
element_type types (ty.Vector element) = type_at types element
element_type types ty.Text = ty.Char
element_type types _ = ty.Void

-- the iterator of a vector
abbrev pub position_type : Ty → Bool → Ty
position_type (ty.Vector element) constant = ty.Iterator element constant
position_type _ constant = ty.Void

abbrev pub parameters_of : Types → Ty → Method → MethodParameters
parameters_of types base PushBack = parameters.One (element_type types base)
parameters_of types base Reserve = parameters.One ty.Size
parameters_of types base Erase = parameters.One (position_type base true)
parameters_of types base Subspan = parameters.Two ty.Size ty.Size
parameters_of types base Substr = parameters.OneOrTwo ty.Size ty.Size
parameters_of types base _ = parameters.None

abbrev pub method_parameters : Types → Ty → Method → Option MethodParameters
method_parameters types base m = if has_method base m then Some (parameters_of types base m) else None

-- ---- answers

abbrev pub value : Ty → ExprType × Category
value t = (Of t, Value)

abbrev pub place : Types → TyId → Bool → ExprType × Category
place types t constant = (Of (type_at types t), Place t constant)

-- an element of a vector, const as the vector's place
abbrev pub element_place : Types → Ty → Bool → ExprType × Category
element_place types (ty.Vector element) constant = place types element constant
element_place types _ constant = value ty.Void

-- the raw pointer to what a unique_ptr owns
abbrev pub pointer_type : Ty → Ty
pointer_type (ty.Unique target) = ty.Raw target false
pointer_type _ = ty.Void

abbrev pub answer : Types → Ty → Bool → Method → ExprType × Category
answer types base constant Size = value ty.Size
answer types base constant Empty = value ty.Bool
answer types base constant Front = element_place types base constant
answer types base constant Back = element_place types base constant
answer types base constant Begin = value (position_type base constant)
answer types base constant End = value (position_type base constant)
answer types base constant PushBack = value ty.Void
answer types base constant PopBack = value ty.Void
answer types base constant Clear = value ty.Void
answer types base constant Reserve = value ty.Void
answer types base constant Erase = value (position_type base false)
answer types base constant Get = value (pointer_type base)
answer types base constant Reset = value ty.Void
answer types base constant Subspan = value base
answer types base constant Substr = value base

abbrev pub method_answer : Types → Ty → Bool → Method → Option (ExprType × Category)
method_answer types base constant m = if has_method base m then Some (answer types base constant m) else None
