use Rattle.std.proofs.Common.{◌≡◌, ◌∙◌, Some, ap, map, option_map, slice_get, sym}
use Rattle.std.proofs.lemmas.Option.{slice_get-get_or}
use Rattle.life_core.specs.Function.{function_of}
use Rattle.life_core.specs.Operands.{argument_of, location_of}
use Rattle.life_proper_check.proofs.Functions.{function_at}
use Rattle.life_proper_check.proofs.OwnSlots.{call_found}
use Rattle.life_proper_check.proofs.forms.is_call.Goals as goal

pub returns-in-Some : goal.returns-in-Some
returns-in-Some c =
    let at = c.args.at.now in
    let n = c.args.function.0 in
    let g = c.in-Some.g.now in
    let there : slice_get (map function_of at.functions.now) n ≡ Some (function_of g) =
    function_at at.functions.now n ∙ ap (option_map function_of) (slice_get-get_or at.functions.now n g c.in-Some.ensures.lookup.3.0 ∙ ap Some (sym c.in-Some.ensures.lookup.1)) in
    c.is_call_of.ensures
    ∙ call_found at.types.now at.texts (map function_of at.functions.now) (function_of at.function.now) (slice_get (map function_of at.functions.now) n) (function_of g) (option_map location_of c.args.target.now)
    (map argument_of c.args.arguments.now) there
