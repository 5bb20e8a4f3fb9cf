-- What typing gives beside well typed functions: the table has the type of what each of them gives back, and what holds of the table itself.
use Rattle.std.specs.Prelude.{◌≡◌, ◌<◌, List, [], ◌∷◌, length}
use Rattle.life_types.specs.Trees.{IsOrdered}
use Rattle.life_types.specs.Types.{HasEachOnce, HasType, Types}
use Rattle.life_types.specs.declared.ty.Ty.TheVariants as ty
use Rattle.life_types.specs.declared.ty.TyId.{TyId}
use Rattle.life_typed.specs.BaseTypes.{type_at}
use Rattle.life_typed.specs.Programs.{FunctionForm, ProgramForm, StructForm}
use Rattle.life_typed.specs.declared.basic.TheConstants.{CHAR}
use Rattle.life_well_typed.specs.Tables.{AreVariables, HasObjects}

abbrev pub HaveResults : Types → List FunctionForm → Type 0
HaveResults types [] = Unit {0}
HaveResults types (f ∷ fs) = HasType types f.result × HaveResults types fs

abbrev pub HasResults : ProgramForm → Type 0
HasResults p = HaveResults p.types p.functions

abbrev pub HaveVariables : Types → List FunctionForm → Type 0
HaveVariables types [] = Unit {0}
HaveVariables types (f ∷ fs) = AreVariables types f.locals × HaveVariables types fs

-- each struct has a member, and a name and a type for each
abbrev pub HaveMembers : List StructForm → List (List TyId) → Type 0
HaveMembers [] [] = Unit {0}
HaveMembers (s ∷ ss) (ids ∷ structs) = (0 < length ids) × (length s.members ≡ length ids) × HaveMembers ss structs
HaveMembers _ _ = ⊥

pub record HasTable (p : ProgramForm) : Type 0 where
  -- the parts of each type stand before it
  pub ordered : IsOrdered p.types
  -- no type stands twice
  pub once : HasEachOnce p.types
  -- it has chars where each table has them
  pub chars : type_at p.types CHAR ≡ ty.Char
  -- it has each struct of the program, and no others
  pub structs : HaveMembers p.structs p.types.structs
  -- types are made of objects
  pub objects : HasObjects p.types
  -- each parameter and variable has a type of it
  pub variables : HaveVariables p.types p.functions
