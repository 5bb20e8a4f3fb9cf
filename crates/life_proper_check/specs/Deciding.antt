-- What is decided of a program: the parts of what is well formed, each function by what stands before its body and by its points, one after the other.
use Rattle.std.specs.Prelude.{ℕ, Bool, ◌&&◌, nat_eq, nat_le, nat_lt, length, List, [], ◌∷◌, slice_get}
use Rattle.std.specs.List.{list_all}
use Rattle.life_types.specs.Types.{Types}
use Rattle.life_types.specs.declared.ty.NameId.{NameId}
use Rattle.life_types.specs.declared.ty.TyId.{TyId}
use Rattle.life_core.specs.Function.{Function, Program}
use Rattle.life_core.specs.Tree.{spots}
use Rattle.life_pset.specs.Elements.{IsWithinLimits}
use Rattle.life_proper.specs.WellFormed.{is_well_formed_spot}
use Rattle.life_proper.specs.WellFormedPrograms.{are_well_formed_locals, have_names, have_own_names, is_name, is_result_of, names_parameters}

-- ---- functions

abbrev pub is_formed_header : Types → (names : ℕ) → Function → Bool
is_formed_header types names f =
    is_name names f.name
    && (nat_le f.parameters (length f.locals)
    && (names_parameters f.parameters f.promise
    && (is_result_of types f.result (slice_get types.types f.result.0) (slice_get f.locals f.parameters) && are_well_formed_locals types names f.parameters 0 f.locals)))

abbrev pub is_formed_function : Types → (names texts : ℕ) → List Function → Function → Bool
is_formed_function types names texts fs f = is_formed_header types names f && list_all (is_well_formed_spot types texts fs f) (spots f.body)

-- ---- programs

-- a struct with these members has some, and each of them a name
abbrev pub is_named_struct : (names : ℕ) → List TyId → List NameId → Bool
is_named_struct names ids ns = nat_lt 0 (length ids) && (nat_eq (length ids) (length ns) && list_all (is_name names) ns)

abbrev pub is_formed_program : Program → Bool
is_formed_program p =
    have_names (length p.names) p.types.structs p.members
    && (have_own_names p.functions && list_all (is_formed_function p.types (length p.names) (length p.texts) p.functions) p.functions)

-- each of these functions passes no limit
abbrev pub AreWithin : Types → List Function → Type 0
AreWithin types [] = Unit {0}
AreWithin types (f ∷ fs) = IsWithinLimits types f × AreWithin types fs
