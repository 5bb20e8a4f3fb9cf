-- The first limit that a program passes: first the functions, then each struct's, and then each function's own, in their order. None is asked by a list that
-- may be long before the limit on paths has been.
use Rattle.std.specs.Prelude.{ℕ, ◌+◌, List, [], ◌∷◌, Option, Some, None, length, nat_lt, option_map, slice_get, if◌then◌else◌}
use Rattle.life_types.specs.Trees.{members_at, struct_of, tree_at}
use Rattle.life_types.specs.Types.{Types}
use Rattle.life_types.specs.declared.place.Place.{Place}
use Rattle.life_tree.specs.declared.limit.LimitFault.{LimitFault}
use Rattle.life_tree.specs.declared.limit.LimitName.{LimitName}
use Rattle.life_tree.specs.declared.limit.LimitName.TheVariants.{Functions, Fields, Path, Locations, Points, Elements}
use Rattle.life_core.specs.Function.{Function, Program}
use Rattle.life_core.specs.Linked.{points_of}
use Rattle.life_core.specs.declared.program.Local.{Local}
use Rattle.life_pset.specs.Elements.{elements_of, locations_of}
use Rattle.life_typed.specs.Programs.{FunctionForm, ProgramForm, StructForm}
use Rattle.life_elab.specs.Paths.{steps}

abbrev pub limit : LimitName → Place → LimitFault
limit name place = record { name = name; place = Some place }

abbrev pub passes : (count most : ℕ) → LimitName → Place → Option LimitFault
passes count most name place = if nat_lt most count then Some (limit name place) else None

abbrev pub first_of : Option LimitFault → Option LimitFault → Option LimitFault
first_of (Some fault) later = Some fault
first_of None later = later

-- 1,024 functions: the one past them stands where it is declared first
abbrev pub too_many : ProgramForm → Option LimitFault
too_many p = option_map (λ (f : FunctionForm). limit Functions f.first_place) (slice_get p.functions 1024)

-- ---- structs

-- 32 members, and 8 steps of a path
abbrev pub over_struct : Types → (number : ℕ) → StructForm → Option LimitFault
over_struct types number s =
    first_of (passes (length s.members) 32 Fields s.place) (passes (steps (struct_of (tree_at types) (members_at types number))) 8 Path s.place)

abbrev pub over_structs : Types → (number : ℕ) → List StructForm → Option LimitFault
over_structs types number [] = None
over_structs types number (s ∷ ss) = first_of (over_struct types number s) (over_structs types (number + 1) ss)

-- ---- functions

abbrev pub over_local : Types → Local → Option LimitFault
over_local types l = passes (steps (tree_at types l.ty)) 8 Path l.place

abbrev pub over_locals : Types → List Local → Option LimitFault
over_locals types [] = None
over_locals types (l ∷ ls) = first_of (over_local types l) (over_locals types ls)

-- 256 locations, 1,024 points and 2,048 elements
abbrev pub first_passed : (locations points elements : ℕ) → Place → Option LimitFault
first_passed locations points elements place =
    first_of (passes locations 256 Locations place) (first_of (passes points 1024 Points place) (passes elements 2048 Elements place))

abbrev pub over_function : Types → Function → Option LimitFault
over_function types f = first_passed (length (locations_of types f)) (points_of f) (length (elements_of types f)) f.place

-- the paths of the locals come first
abbrev pub over_parts : Types → Function → Option LimitFault
over_parts types f = first_of (over_locals types f.locals) (over_function types f)

abbrev pub over_functions : Types → List Function → Option LimitFault
over_functions types [] = None
over_functions types (f ∷ fs) = first_of (over_parts types f) (over_functions types fs)

-- ---- the whole

abbrev pub over_each : Types → List StructForm → List Function → Option LimitFault
over_each types structs fs = first_of (over_structs types 0 structs) (over_functions types fs)

abbrev pub over : ProgramForm → Program → Option LimitFault
over p core = first_of (too_many p) (over_each core.types p.structs core.functions)
