-- The core program of a typed one.
use Rattle.std.specs.Prelude.{ℕ, List, [], ◌∷◌, ◌++◌, map}
use Rattle.life_types.specs.Types.{Types}
use Rattle.life_types.specs.declared.ty.NameId.{NameId}
use Rattle.life_core.specs.Function.{Function, Program}
use Rattle.life_writer.specs.Around.{Around}
use Rattle.life_elab.specs.Functions.{function_from}
use Rattle.life_typed.specs.Programs.{FunctionForm, ProgramForm, StructForm}
use Rattle.life_writer.specs.Writing.{State}

-- the functions so far, and the types that they use
pub record Functions : Type 0 where
  pub types : Types
  pub functions : List Function

abbrev pub with_function : FunctionForm → State → Functions → Functions
with_function f s w = record { types = s.types; functions = w.functions ++ function_from f s ∷ [] }

abbrev pub around : ProgramForm → FunctionForm → Around
around p f = record { program = p; function = f }

-- what endl writes stands behind the texts of the file
abbrev pub texts_of : ProgramForm → List (List ℕ)
texts_of p = p.texts ++ (10 ∷ []) ∷ []

abbrev pub member_names : StructForm → List NameId
member_names s = s.members

abbrev pub program_from : ProgramForm → Functions → Program
program_from p w = record {
  names = p.names;
  members = map member_names p.structs;
  types = w.types;
  texts = texts_of p;
  functions = w.functions;
}
