use Rattle.std.proofs.Common.{sym, ◌∙◌}
use Rattle.life_core.specs.Operands.{location_of}
use Rattle.life_seen.specs.Kinds.{kinds_of}
use Rattle.life_pointers.specs.Pointers.{pointer_seen}
use Rattle.life_cells.specs.Cells.{state_in}
use Rattle.life_cells.specs.Fits.{meant}
use Rattle.life_cells.specs.Scopes.{function_in, types_in}
use Rattle.life_cells.proofs.Compared.{iterators_lost, iterators_stop, iterators_there, stops_compared}
use Rattle.life_cells.proofs.comparing.iterators_alike.Goals as goal

pub returns-in-None : goal.returns-in-None
returns-in-None g c = λ s.
    let types = types_in c.args.scope.now in
    let f = function_in c.args.scope.now in
    let content = g.S.Store.content c.args.store.now in
    let rows = g.S.Store.rows c.args.store.now in
    let m = meant types content rows in
    let st = state_in m c.args.cells.now in
    sym (iterators_lost s types f st (location_of c.args.left.now) (location_of c.args.right.now) c.in-None.ensures.is)

pub returns-in-Err : goal.returns-in-Err
returns-in-Err g c = λ s.
    let types = types_in c.args.scope.now in
    let f = function_in c.args.scope.now in
    let content = g.S.Store.content c.args.store.now in
    let rows = g.S.Store.rows c.args.store.now in
    let m = meant types content rows in
    let st = state_in m c.args.cells.now in
    sym (iterators_stop s types f st (location_of c.args.left.now) (location_of c.args.right.now) (pointer_seen c.in-Some.first) _ c.in-Some.ensures.is c.in-None-pointer_at.ensures.is (c.in-Err.ensures.is (kinds_of types) c.requires.fits.housed c.in-Some.ensures.fits) ∙ stops_compared c.in-Err.stop)

pub returns-in-Ok : goal.returns-in-Ok
returns-in-Ok g c = λ s.
    let types = types_in c.args.scope.now in
    let f = function_in c.args.scope.now in
    let content = g.S.Store.content c.args.store.now in
    let rows = g.S.Store.rows c.args.store.now in
    let m = meant types content rows in
    let st = state_in m c.args.cells.now in
    sym (iterators_stop s types f st (location_of c.args.left.now) (location_of c.args.right.now) (pointer_seen c.in-Some.first) _ c.in-Some.ensures.is c.in-None-pointer_at.ensures.is (c.in-Ok.ensures.is (kinds_of types) c.requires.fits.housed c.in-Some.ensures.fits))

pub returns-in-Some-pointer_at : goal.returns-in-Some-pointer_at
returns-in-Some-pointer_at g c = λ s.
    let types = types_in c.args.scope.now in
    let f = function_in c.args.scope.now in
    let content = g.S.Store.content c.args.store.now in
    let rows = g.S.Store.rows c.args.store.now in
    let m = meant types content rows in
    let st = state_in m c.args.cells.now in
    c.alike.ensures (kinds_of types) c.requires.fits.housed
    ∙ sym (iterators_there s types f st (location_of c.args.left.now) (location_of c.args.right.now) (pointer_seen c.in-Some.first) (pointer_seen c.in-Some-pointer_at.second) c.in-Some.ensures.is c.in-Some-pointer_at.ensures.is)
