-- Arguments and lists: what is to be initialised by each expression, and how they are read.
use Rattle.std.specs.Prelude.{ℕ, suc, Bool, true, false, ◌||◌, List, [], ◌∷◌, ◌++◌, Option, None, Some, Result, Ok, Err, length, if◌then◌else◌, nat_eq, nat_le, option_map, slice_get}
use Rattle.life_types.specs.Trees.{holds_unique, tree_at}
use Rattle.life_types.specs.Types.{Types}
use Rattle.life_types.specs.declared.place.Place.{Place}
use Rattle.life_types.specs.declared.ty.Ty.{Ty}
use Rattle.life_types.specs.declared.ty.Ty.TheVariants as ty
use Rattle.life_types.specs.declared.ty.TyId.{TyId}
use Rattle.life_typed.specs.Delimiters.{DelimitersForm}
use Rattle.life_typed.specs.TypedForm.{Typed}
use Rattle.life_typed.specs.TypedStatement.{ListForm}
use Rattle.life_typed.specs.declared.typed_expr.Category.{Category}
use Rattle.life_typed.specs.declared.typed_expr.ExprType.{ExprType}
use Rattle.life_names.specs.Checked.{Checked, ◌>>=◌}
use Rattle.life_names.specs.Environment.{Scope, StructureView, structure}
use Rattle.life_names.specs.Found.{allowed, given}
use Rattle.life_type_expr.specs.Operands.{literal_allowed, misfit_kind}
use Rattle.life_typed.specs.BaseTypes.{type_at}
use Rattle.life_typed.specs.Conversions.{fits}
use Rattle.life_typed.specs.Members.{parameter, takes}
use Rattle.life_names.specs.declared.environment.MemberType.{MemberType}
use Rattle.life_names.specs.declared.fault.IllKind.{IllKind}
use Rattle.life_names.specs.declared.fault.IllKind.TheVariants as kinds
use Rattle.life_typed.specs.declared.members.MethodParameters.{MethodParameters}
use Rattle.life_typed.specs.declared.misfit.Misfit.{Misfit}

-- ---- what is to be initialised

pub data Targets : Type 0 where
  -- the parameters of a function, of these types
  parameters : List TyId → Targets
  -- .. of a member function
  method_parameters : MethodParameters → Targets
  -- the members of a struct, or none of them
  members : List MemberType → Targets
  -- elements of this type
  elements : TyId → Targets
  -- one object of this type, or none
  optional : TyId → Targets
  -- nothing that a list initialises
  nothing : Targets

abbrev pub first_alone : ℕ → Ty → Option Ty
first_alone n t = if nat_eq n 0 then Some t else None

-- the type that the expression with this number is to initialise
abbrev pub target_at : Targets → Types → ℕ → Option Ty
target_at (parameters ids) types n = option_map (type_at types) (slice_get ids n)
target_at (method_parameters p) types n = parameter p n
target_at (members ms) types n = option_map (λ m. type_at types m.ty) (slice_get ms n)
target_at (elements id) types n = Some (type_at types id)
target_at (optional id) types n = first_alone n (type_at types id)
target_at nothing types n = None

-- whether so many expressions initialise them
abbrev pub takes_count : Targets → ℕ → Bool
takes_count (parameters ids) n = nat_eq n (length ids)
takes_count (method_parameters p) n = takes p n
takes_count (members ms) n = nat_eq n 0 || nat_eq n (length ms)
takes_count (elements id) n = true
takes_count (optional id) n = nat_le n 1
takes_count nothing n = false

-- ---- the rules that are broken

-- the numbers of the rules
abbrev pub kind_number : IllKind → ℕ
kind_number kinds.UnknownName = 1
kind_number kinds.Redeclared = 2
kind_number kinds.WrongType = 3
kind_number kinds.NotPlain = 4
kind_number kinds.NotAssignable = 5
kind_number kinds.WrongArguments = 6
kind_number kinds.MissingReturn = 7
kind_number kinds.ConstBroken = 8
kind_number kinds.BadAttribute = 9
kind_number kinds.NoBody = 10
kind_number kinds.Unsupported = 11

-- of two rules at one place that with the lower number is told
abbrev pub lower_of : IllKind → IllKind → IllKind
lower_of first second = if nat_le (kind_number first) (kind_number second) then first else second

abbrev pub lower_kind : Option IllKind → Option IllKind → Option IllKind
lower_kind None second = second
lower_kind (Some first) None = Some first
lower_kind (Some first) (Some second) = Some (lower_of first second)

abbrev pub misfit_of : IllKind → Result (Unit {0}) Misfit → Option IllKind
misfit_of general (Ok _) = None
misfit_of general (Err m) = Some (misfit_kind general m)

-- the rule that is broken where this is to initialise an object of that type
abbrev pub target_misfit : IllKind → Option Ty → Types → ExprType → Category → Option IllKind
target_misfit general None types t c = Some general
target_misfit general (Some target) types t c = misfit_of general (fits types target t c)

-- an object of this type is a struct that can't be copied
abbrev pub struct_fault : Ty → Bool → Option IllKind
struct_fault (ty.Struct number) true = Some kinds.NotAssignable
struct_fault _ unique = None

abbrev pub member_fault : Types → Option MemberType → Option IllKind
member_fault types None = None
member_fault types (Some m) = struct_fault (type_at types m.ty) (holds_unique (tree_at types m.ty))

-- a member that is such a struct isn't initialised by a list
abbrev pub copy_fault : Targets → Types → ℕ → Option IllKind
copy_fault (members ms) types n = member_fault types (slice_get ms n)
copy_fault _ types n = None

abbrev pub or_kind : Option IllKind → Option IllKind → Option IllKind
or_kind None second = second
or_kind (Some first) second = Some first

abbrev pub one_misfit : IllKind → Targets → Types → ℕ → Typed → Option IllKind
one_misfit general targets types n e =
    or_kind (copy_fault targets types n) (target_misfit general (target_at targets types n) types e.ty e.category)

-- the lowest of the rules that are broken: of one that is known, and those of expressions from number n on
abbrev pub misfits : IllKind → Targets → Types → Option IllKind → ℕ → List Typed → Option IllKind
misfits general targets types lowest n [] = lowest
misfits general targets types lowest n (e ∷ es) = misfits general targets types (lower_kind lowest (one_misfit general targets types n e)) (suc n) es

abbrev pub count_fault : IllKind → Targets → ℕ → Option IllKind
count_fault general targets n = if takes_count targets n then None else Some general

-- ---- reading

-- an expression where it stands
abbrev pub Meaning : Type 0
Meaning = Scope → Types → Checked Typed

-- arguments in parentheses, or a list in braces
pub record ListMeaning : Type 0 where
  pub opening : Place
  pub list : List Meaning
  pub delimiters : DelimitersForm

abbrev pub fits_at_all : Result (Unit {0}) Misfit → Bool
fits_at_all (Ok _) = true
fits_at_all (Err m) = false

abbrev pub is_taken : Types → Option Ty → Typed → Bool
is_taken types None e = false
is_taken types (Some target) e = fits_at_all (fits types target e.ty e.category)

-- one after the other, behind those that are read; a string literal that isn't converted is told where it stands
abbrev pub read_onto : Targets → List Typed → List Meaning → Scope → Types → Checked (List Typed)
read_onto targets done [] scope types = Ok (done, types)
read_onto targets done (e ∷ es) scope types =
    e scope types >>= (λ x.
    given (literal_allowed (is_taken x.1 (target_at targets x.1 (length done)) x.0) x.0) (λ _.
    read_onto targets (done ++ x.0 ∷ []) es scope x.1))

-- what was read, unless a rule is broken at this place
abbrev pub fitting : Option IllKind → Place → List Typed × Types → Checked (List Typed)
fitting fault place x = given (allowed fault place) (λ _. Ok x)

-- the expressions of a list, where another rule is maybe broken at this place, and `general` where one doesn't fit
unfoldable pub passed : IllKind → Option IllKind → Place → Targets → List Meaning → Scope → Types → Checked (List Typed)
passed general other place targets es scope types =
    read_onto targets [] es scope types >>= (λ x.
    fitting (misfits general targets x.1 (lower_kind other (count_fault general targets (length x.0))) 0 x.0) place x)

-- ---- lists

abbrev pub struct_targets : Option StructureView → Targets
struct_targets None = nothing
struct_targets (Some s) = members s.members

-- what a list initialises: a vector by its elements, and a struct by its members
abbrev pub object_targets : Ty → Scope → Targets
object_targets (ty.Vector element) scope = elements element
object_targets (ty.Struct number) scope = struct_targets (structure scope number)
object_targets _ scope = nothing

-- .. and what a `const` reference refers to
abbrev pub list_targets : Ty → Scope → Types → Targets
list_targets (ty.Reference target true) scope types = object_targets (type_at types target) scope
list_targets t scope types = object_targets t scope

-- the elements of a list, whose own rules are broken at its `{`
abbrev pub braced : Targets → ListMeaning → Scope → Types → Checked (List Typed)
braced targets l scope types = passed kinds.WrongType None l.opening targets l.list scope types

-- a list that initialises an object of this type
abbrev pub list_for : Ty → ListMeaning → Scope → Types → Checked ListForm
list_for t l scope types =
    braced (list_targets t scope types) l scope types >>= (λ x.
    Ok (record { opening = l.opening; elements = x.0; delimiters = l.delimiters }, x.1))
