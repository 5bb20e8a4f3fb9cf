-- What a function's instructions name, as definitions see it.
use Rattle.std.specs.Prelude.{ℕ, List, map}
use Rattle.life_types.specs.Types.{Types}
use Rattle.life_core.specs.Function.{Function, function_of, name_bytes}
use Rattle.life_cells.specs.declared.scope.Scope.{Scope}

abbrev pub types_in : Scope → Types
types_in scope = scope.types.now

abbrev pub function_in : Scope → Function
function_in scope = function_of scope.function.now

abbrev pub texts_in : Scope → List (List ℕ)
texts_in scope = map name_bytes scope.texts.now
