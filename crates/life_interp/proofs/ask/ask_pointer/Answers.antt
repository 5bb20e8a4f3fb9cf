use Rattle.life_core.specs.Operands.{location_of}
use Rattle.life_store.specs.Effects.{cell}
use Rattle.life_store.specs.Meaning.{tested}
use Rattle.life_pointers.specs.Pointers.{pointer_seen}
use Rattle.life_cells.specs.Cells.{state_in, state_of}
use Rattle.life_cells.specs.Fits.{meant}
use Rattle.life_cells.specs.Scopes.{function_in, types_in}
use Rattle.life_interp.proofs.AskLemmas.{none_asked, pointer_asked}
use Rattle.life_interp.proofs.ask.ask_pointer.Goals as goal

pub returns-in-None : goal.returns-in-None
returns-in-None g c = λ n output input.
    let types = types_in c.args.scope.now in
    let f = function_in c.args.scope.now in
    let m = meant types (g.S.Store.content c.args.store.now) (g.S.Store.rows c.args.store.now) in
    let l = location_of c.args.location.now in
    none_asked (tested types f l l.members (cell (state_in m c.args.cells.now) l.local) m) n (state_of m c.args.cells.now output input) c.in-None.ensures

pub returns-in-Some : goal.returns-in-Some
returns-in-Some g c = λ n output input.
    let types = types_in c.args.scope.now in
    let f = function_in c.args.scope.now in
    let m = meant types (g.S.Store.content c.args.store.now) (g.S.Store.rows c.args.store.now) in
    let l = location_of c.args.location.now in
    pointer_asked (tested types f l l.members (cell (state_in m c.args.cells.now) l.local) m) (pointer_seen c.in-Some.pointer) c.is_leading.result n (state_of m c.args.cells.now output input) c.in-Some.ensures c.is_leading.ensures
