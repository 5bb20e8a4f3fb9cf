-- What the definitions so far have given.
use Rattle.std.specs.Prelude.{ℕ, List, [], map}
use Rattle.life_types.specs.Types.{Types}
use Rattle.life_names.specs.Environment.{Scope, nothing_seen}
use Rattle.life_typing.specs.Names.{DeclaredView, declared_view}
use Rattle.life_typed.specs.Programs.{FunctionForm, StructForm, function_view, struct_view}
use Rattle.life_typed.specs.BaseTypes.{base_types}
use Rattle.life_typing.specs.declared.pointing.Pointing.{Pointing}
use Rattle.life_typing.specs.declared.progress.Progress.{Progress}

-- what is visible behind them, the table of types, the structs and what each holds of pointers, and the functions, where one whose body hasn't come yet has an empty one
pub record ProgressView : Type 0 where
  pub scope : Scope
  pub types : Types
  pub structs : List StructForm
  pub pointing : List Pointing
  pub functions : List FunctionForm
  pub declared : List DeclaredView

abbrev pub progress_view : Progress → ProgressView
progress_view p = record {
  scope = p.environment;
  types = p.types;
  structs = map struct_view p.structs.items;
  pointing = p.pointing.items;
  functions = map function_view p.functions.items;
  declared = map declared_view p.declared.items;
}

-- no definition has come yet, in a program with these names
abbrev pub nothing_defined : List (List ℕ) → ProgressView
nothing_defined names = record { scope = nothing_seen names; types = base_types; structs = []; pointing = []; functions = []; declared = [] }
