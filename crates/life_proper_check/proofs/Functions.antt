-- The function with a number, as definitions see it.
use Rattle.std.proofs.Common.{◌≡◌, ℕ, List, map, option_map, slice_get}
use Rattle.life_core.specs.declared.program.CoreFn.{CoreFn}
use Rattle.life_core.specs.Function.{function_of}
use Rattle.life_proper.proofs.Loops as loops

pub function_at : (fs : List CoreFn) (n : ℕ) → slice_get (map function_of fs) n ≡ option_map function_of (slice_get fs n)
function_at fs n = loops.function_at fs n
