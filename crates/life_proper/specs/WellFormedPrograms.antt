-- Well-formed functions and programs: what their numbers name is there, their types may stand, each point is well formed, and no two functions have one name.
use Rattle.std.specs.Prelude.{◌≡◌, ℕ, ◌+◌, Bool, true, false, ◌&&◌, ◌||◌, not, nat_eq, nat_le, nat_lt, is_none, is_some, length, List, [], ◌∷◌, Option, Some, None, slice_get}
use Rattle.std.specs.List.{list_all, list_any}
use Rattle.life_types.specs.Pointees.{ty_of}
use Rattle.life_types.specs.Trees.{IsOrdered, TypeTree, Void, Vector, Unique, Raw, Reference, Iterator, Span, Member, is_plain, tree_at}
use Rattle.life_types.specs.TypeTests.{is_pointer, is_value, is_void}
use Rattle.life_types.specs.Types.{Types, HasEachOnce}
use Rattle.life_types.specs.declared.ty.NameId.{NameId}
use Rattle.life_types.specs.declared.ty.Ty.{Ty}
use Rattle.life_types.specs.declared.ty.Ty.TheVariants as ty
use Rattle.life_types.specs.declared.ty.TyId.{TyId}
use Rattle.life_core.specs.declared.program.Local.{Local}
use Rattle.life_core.specs.declared.program.LocalKind.{LocalKind}
use Rattle.life_core.specs.declared.program.LocalKind.TheVariants.{Object, Register, Range}
use Rattle.life_core.specs.Function.{Function, Program, Promise, Default, Listed}
use Rattle.life_core.specs.Kinds.{is_register}
use Rattle.life_pset.specs.Shapes.{shape}
use Rattle.life_proper.specs.OperandTypes.{is_composed}
use Rattle.life_proper.specs.WellFormed.{is_well_formed_tree}

-- ---- types that may stand

-- no struct has a member that is a reference or void
abbrev pub is_member : TypeTree → Bool
is_member Void = false
is_member (Reference target constant) = false
is_member _ = true

-- through members, elements and targets, what a pointer, a vector and a unique_ptr is of is plain
abbrev pub may_stand : TypeTree → Bool
may_stand (Vector element) = is_plain element && may_stand element
may_stand (Unique target) = is_plain target && may_stand target
may_stand (Raw target constant) = is_plain target && may_stand target
may_stand (Reference target constant) = is_plain target && may_stand target
may_stand (Iterator target constant) = is_plain target && may_stand target
may_stand (Span target constant) = is_plain target && may_stand target
may_stand (Member first others) = is_member first && (may_stand first && may_stand others)
may_stand _ = true

-- ---- names

-- so many names are there
abbrev pub is_name : ℕ → NameId → Bool
is_name names name = nat_lt name.0 names

abbrev pub is_name_if : ℕ → Option NameId → Bool
is_name_if names None = true
is_name_if names (Some name) = is_name names name

-- ---- locals

-- what isn't a pointer lies in memory, or is a value in a register
abbrev pub fits_kind : LocalKind → Ty → Bool
fits_kind Object t = not (is_pointer t)
fits_kind Register t = is_pointer t || is_value t
fits_kind Range t = is_pointer t

-- a value with a name is an object
abbrev pub is_named_as : LocalKind → Ty → Option NameId → Bool
is_named_as kind t None = true
is_named_as kind t (Some name) = not (is_register kind && is_value t)

-- a parameter that is a slot stands as what it refers to
abbrev pub is_well_formed_local : Types → (names parameters x : ℕ) → Local → Bool
is_well_formed_local types names n x l =
    not (is_void (ty_of types l.ty))
    && (may_stand (tree_at types (shape types n x l))
    && (fits_kind l.kind (ty_of types (shape types n x l))
    && (is_named_as l.kind (ty_of types (shape types n x l)) l.name && (is_name_if names l.name && (not (nat_lt x n) || is_some l.name)))))

abbrev pub are_well_formed_locals : Types → (names parameters x : ℕ) → List Local → Bool
are_well_formed_locals types names n x [] = true
are_well_formed_locals types names n x (l ∷ ls) = is_well_formed_local types names n x l && are_well_formed_locals types names n (x + 1) ls

-- ---- functions

-- the local of a result has its type, and no name: an owner and a struct are an object, and a value and a pointer a register
abbrev pub is_result_local : Types → TyId → Option Local → Bool
is_result_local types result None = false
is_result_local types result (Some l) = nat_eq l.ty.0 result.0 && (is_none l.name && (is_register l.kind || is_composed (ty_of types result)))

-- .. which only a function that isn't void has
abbrev pub is_result_of : Types → TyId → Option Ty → Option Local → Bool
is_result_of types result None l = false
is_result_of types result (Some ty.Void) l = true
is_result_of types result (Some _) l = is_result_local types result l

-- what a result may point to is told by parameters
abbrev pub names_parameters : ℕ → Promise → Bool
names_parameters n Default = true
names_parameters n (Listed inputs fixed null) = list_all (λ (x : ℕ). nat_lt x n) inputs

-- of a program with these types, so many names and texts, and these functions
abbrev pub is_well_formed_function : Types → (names texts : ℕ) → List Function → Function → Bool
is_well_formed_function types names texts fs f =
    is_name names f.name
    && (nat_le f.parameters (length f.locals)
    && (names_parameters f.parameters f.promise
    && (is_result_of types f.result (slice_get types.types f.result.0) (slice_get f.locals f.parameters)
    && (are_well_formed_locals types names f.parameters 0 f.locals && is_well_formed_tree types texts fs f f.body))))

-- ---- programs

abbrev pub is_of_name : NameId → Function → Bool
is_of_name name f = nat_eq name.0 f.name.0

abbrev pub have_own_names : List Function → Bool
have_own_names [] = true
have_own_names (f ∷ fs) = not (list_any (is_of_name f.name) fs) && have_own_names fs

-- each struct has a member, and each of these a name
abbrev pub have_names : ℕ → List (List TyId) → List (List NameId) → Bool
have_names names [] [] = true
have_names names (ids ∷ structs) (ns ∷ members) = nat_lt 0 (length ids) && (nat_eq (length ids) (length ns) && (list_all (is_name names) ns && have_names names structs members))
have_names names _ _ = false

pub record IsWellFormedProgram (p : Program) : Type 0 where
  -- the parts of each type are in the table
  pub table : IsOrdered p.types
  -- no type has two numbers
  pub once : HasEachOnce p.types
  pub members : have_names (length p.names) p.types.structs p.members ≡ true
  pub own_names : have_own_names p.functions ≡ true
  pub functions : list_all (is_well_formed_function p.types (length p.names) (length p.texts) p.functions) p.functions ≡ true
