-- A function of a program, by its number.
use Rattle.std.proofs.Common.{◌≡◌, ◌<◌, ℕ, Some, List, map, length, get_or, slice_get, ap, sym, ◌∙◌}
use Rattle.std.specs.Prelude.{option_map}
use Rattle.std.proofs.lemmas.Option.{slice_get-get_or, slice_get-map}
use Rattle.life_core.specs.Function.{function_of}
use Rattle.life_core.specs.declared.program.CoreFn.{CoreFn}

pub function_there : (fs items : List CoreFn) (k : ℕ) (f : CoreFn) → items ≡ fs → k < length items → f ≡ get_or items k f → slice_get (map function_of fs) k ≡ Some (function_of f)
function_there fs items k f same lt is =
    slice_get-map function_of fs k ∙ ap (λ (gs : List CoreFn). option_map function_of (slice_get gs k)) (sym same)
    ∙ ap (option_map function_of) (slice_get-get_or items k f lt ∙ ap Some (sym is))
