use Rattle.std.proofs.Common.{ℕ, List, Result, ap, subst, sym, ◌∙◌}
use Rattle.life_core.specs.Operands.{location_of}
use Rattle.life_core.specs.Step.{WritesView}
use Rattle.life_store.specs.Doing.{port}
use Rattle.life_store.specs.Places.{location_cell}
use Rattle.life_store.specs.Views.{seen_bytes}
use Rattle.life_seen.specs.Kinds.{kinds_of}
use Rattle.life_pointers.specs.Bytes.{stored_bytes}
use Rattle.life_pointers.specs.Pointers.{pointer_seen}
use Rattle.life_pointers.proofs.Short.{same_fits}
use Rattle.life_pointers.proofs.ViewedBytes.{bytes_seen, same_plain}
use Rattle.life_cells.specs.Cells.{state_in}
use Rattle.life_cells.specs.Fits.{meant}
use Rattle.life_cells.specs.Scopes.{function_in, texts_in, types_in}
use Rattle.life_cells.proofs.CellLemmas.{points}
use Rattle.life_cells.proofs.Compared.{plain_seen}
use Rattle.life_interp.specs.Walking.{Performs, Sunk}
use Rattle.life_interp.specs.declared.ending.Ending.{Ending}
use Rattle.life_interp.proofs.Viewed.{view_lost, view_seen, view_stops}
use Rattle.life_interp.proofs.WalkLemmas.{performs_writing, untouched}
use Rattle.life_interp.proofs.views.write_view.Goals as goal

pub returns-in-None : goal.returns-in-None
returns-in-None g c = λ s ins texts.
    let types = types_in c.args.scope.now in
    let m = meant types (g.S.Store.content c.args.store.now) (g.S.Store.rows c.args.store.now) in
    (untouched (g.O.Sink.taken c.args.out.now) (g.O.Sink.faults c.args.out.now), view_lost s types (function_in c.args.scope.now) (location_of c.args.location.now) m c.args.cells.now ins c.in-None.ensures.is)

pub returns-in-Err : goal.returns-in-Err
returns-in-Err g c = λ s ins texts.
    let types = types_in c.args.scope.now in
    let f = function_in c.args.scope.now in
    let l = location_of c.args.location.now in
    let m = meant types (g.S.Store.content c.args.store.now) (g.S.Store.rows c.args.store.now) in
    let k : Sunk = record { old = g.O.Sink.taken c.args.out.now; new = g.O.Sink.taken c.args.out.now; faults = g.O.Sink.faults c.args.out.now; later = g.O.Sink.faults c.args.out.now } in
    subst (λ (r : Result _ Ending). Performs (port s types f (WritesView l)) m c.args.cells.now ins m c.args.cells.now ins k r) (sym c.settled.ensures)
    (view_stops s types f l m c.args.cells.now ins c.in-Some.pointer c.in-Some.ensures.is k (untouched (g.O.Sink.taken c.args.out.now) (g.O.Sink.faults c.args.out.now)) c.in-Err.stop
    (c.in-Err.ensures.is (kinds_of types) c.requires.fits.housed c.in-Some.ensures.fits))

pub returns-in-Ok : goal.returns-in-Ok
returns-in-Ok g c = λ s ins texts.
    let types = types_in c.args.scope.now in
    let f = function_in c.args.scope.now in
    let l = location_of c.args.location.now in
    let content = g.S.Store.content c.args.store.now in
    let rows = g.S.Store.rows c.args.store.now in
    let m = meant types content rows in
    let pointer = c.in-Some.pointer in
    let view = c.in-Ok.view in
    let held = points (location_cell types f l (state_in m c.args.cells.now)) (pointer_seen pointer) c.in-Some.ensures.is in
    let plain = same_plain (kinds_of types) content rows pointer view c.in-Ok.ensures.same (plain_seen (kinds_of types) content rows c.requires.fits.housed pointer _ held c.requires.sees) in
    let fits = same_fits content rows pointer view c.in-Ok.ensures.same c.in-Some.ensures.fits in
    let bytes = stored_bytes (texts_in c.args.scope.now) content rows view in
    let same = bytes_seen (texts_in c.args.scope.now) (kinds_of types) content rows c.requires.fits.housed view fits plain ∙ ap (λ (ts : List (List ℕ)). seen_bytes ts m (pointer_seen view)) (sym texts) in
    let k : Sunk = record { old = g.O.Sink.taken c.args.out.now; new = g.O.Sink.taken c.write_seen.new.out; faults = g.O.Sink.faults c.args.out.now; later = g.O.Sink.faults c.write_seen.new.out } in
    performs_writing (port s types f (WritesView l)) m c.args.cells.now ins bytes k c.write_seen.result
    (view_seen s types f l m c.args.cells.now ins pointer c.in-Some.ensures.is view (c.in-Ok.ensures.is (kinds_of types) c.requires.fits.housed c.in-Some.ensures.fits) bytes same) c.write_seen.ensures
