use Rattle.std.proofs.Common.{◌∙◌}
use Rattle.life_pointers.specs.Owned.{spot_seen}
use Rattle.life_pointers.specs.Pointers.{pointer_seen}
use Rattle.life_cells.specs.Cells.{state_of}
use Rattle.life_cells.specs.Fits.{meant}
use Rattle.life_cells.specs.Scopes.{function_in, types_in}
use Rattle.life_cells.proofs.StepLemmas.{stops_alike}
use Rattle.life_store.specs.Doing.{owner_element}
use Rattle.life_cells.proofs.elements.of_owner.Goals as goal

pub returns-in-Err-clause-is : goal.returns-in-Err-clause-is
returns-in-Err-clause-is g c = λ p output input.
    let types = types_in c.args.scope.now in
    let f = function_in c.args.scope.now in
    let content = g.S.Store.content c.args.store.now in
    let rows = g.S.Store.rows c.args.store.now in
    let m = meant types content rows in
    let st = state_of m c.args.cells.now output input in
    c.in-Err.ensures.is output input (λ spot. owner_element types f p spot c.args.which st) ∙ stops_alike spot_seen pointer_seen _ _ c.in-Err.stop

pub returns-in-Ok-clause-is : goal.returns-in-Ok-clause-is
returns-in-Ok-clause-is g c = λ p output input.
    let types = types_in c.args.scope.now in
    let f = function_in c.args.scope.now in
    let content = g.S.Store.content c.args.store.now in
    let rows = g.S.Store.rows c.args.store.now in
    let m = meant types content rows in
    let st = state_of m c.args.cells.now output input in
    c.in-Ok.ensures.is output input (λ spot. owner_element types f p spot c.args.which st) ∙ c.of_spot.ensures.is p output input
