-- What reading and typing give of names: each is in the table of names, and no two functions have one.
use Rattle.std.specs.Prelude.{◌≡◌, ℕ, Bool, true, ◌&&◌, not, nat_eq, nat_lt, List, [], ◌∷◌, length}
use Rattle.std.specs.List.{list_all, list_any}
use Rattle.life_types.specs.declared.ty.NameId.{NameId}
use Rattle.life_typed.specs.Programs.{FunctionForm, ProgramForm, StructForm}
use Rattle.life_typed.specs.declared.typed_program.TypedLocal.{TypedLocal}

-- so many names are there
abbrev pub is_local_named : ℕ → TypedLocal → Bool
is_local_named names l = nat_lt l.name.0 names

-- a function, and its parameters and variables
abbrev pub is_function_named : ℕ → FunctionForm → Bool
is_function_named names f = nat_lt f.name.0 names && list_all (is_local_named names) f.locals

-- the members of a struct
abbrev pub is_name : ℕ → NameId → Bool
is_name names name = nat_lt name.0 names

abbrev pub is_struct_named : ℕ → StructForm → Bool
is_struct_named names s = list_all (is_name names) s.members

abbrev pub is_of_name : NameId → FunctionForm → Bool
is_of_name name f = nat_eq name.0 f.name.0

abbrev pub have_own_names : List FunctionForm → Bool
have_own_names [] = true
have_own_names (f ∷ fs) = not (list_any (is_of_name f.name) fs) && have_own_names fs

pub record HasNames (p : ProgramForm) : Type 0 where
  pub named : list_all (is_function_named (length p.names)) p.functions ≡ true
  pub own : have_own_names p.functions ≡ true
  pub members : list_all (is_struct_named (length p.names)) p.structs ≡ true
