-- The core of a function.
use Rattle.std.specs.Prelude.{Bool, true, false, List, ◌∷◌, length}
use Rattle.life_types.specs.declared.place.Place.{Place}
use Rattle.life_typed.specs.declared.typed_program.ParameterPromise.{ParameterPromise}
use Rattle.life_typed.specs.declared.typed_program.TypedLocal.{TypedLocal}
use Rattle.life_core.specs.Function.{Function, Promise}
use Rattle.life_core.specs.Function as core
use Rattle.life_core.specs.Tree.{Returns, trees}
use Rattle.life_core.specs.declared.program.Local.{Local}
use Rattle.life_writer.specs.Around.{Around}
use Rattle.life_elab.specs.Statements.{left}
use Rattle.life_typed.specs.Programs.{FunctionForm, PromiseForm, default, listed}
use Rattle.life_writer.specs.Variables.{variable_local, with_variable}
use Rattle.life_writer.specs.Writing.{State}

-- ---- before the body

-- a parameter: a variable that lives from the start, with what its attributes say
abbrev pub parameter_local : Around → ParameterPromise → TypedLocal → Local
parameter_local a promise v = record (variable_local a v) { nonnull = promise.nonnull; keeps = promise.keeps }

abbrev pub with_parameters : Around → List ParameterPromise → List TypedLocal → State → State
with_parameters a (p ∷ ps) (v ∷ vs) s = with_parameters a ps vs (with_variable (parameter_local a p v) s).state
with_parameters a _ _ s = s

-- ---- the body

-- control that runs past the last statement ends the variables and the parameters, and returns
abbrev pub returned_at_end : Bool → Place → State → State
returned_at_end true closing s = s
returned_at_end false closing s = left 0 closing (Returns closing) s

-- ---- the whole

abbrev pub promise_of : PromiseForm → Promise
promise_of default = core.Default
promise_of (listed inputs fixed null) = core.Listed inputs fixed null

abbrev pub function_from : FunctionForm → State → Function
function_from f s = record {
  name = f.name;
  place = f.place;
  parameters = length f.parameters;
  result = f.result;
  promise = promise_of f.promise;
  locals = s.locals;
  body = trees s.code;
}
