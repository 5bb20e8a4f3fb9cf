use Rattle.std.proofs.Common.{ℕ, List, drop, map, ap, subst, sym, ◌∙◌}
use Rattle.std.specs.declared.alloc.Global.{Global}
use Rattle.std.specs.declared.vec.Vec.{Vec}
use Rattle.life_core.specs.declared.instr.Port.{Port}
use Rattle.life_core.specs.Function.{function_of, name_bytes, program_of}
use Rattle.life_core.specs.Operands.{location_of}
use Rattle.life_core.specs.Step.{WritesView, port_of}
use Rattle.life_store.specs.Doing.{port}
use Rattle.life_cells.specs.Cells.{state_in}
use Rattle.life_cells.specs.Fits.{meant, IsFit}
use Rattle.life_cells.specs.Typed.{HoldsPointer, SeesCharacters}
use Rattle.life_cells.specs.declared.cell.Cell.{Cell}
use Rattle.life_interp.specs.Accessed.{HasViewed}
use Rattle.life_interp.specs.Steps.{taken_into}
use Rattle.life_interp.specs.Walking.{Performs, Sunk}
use Rattle.life_interp.proofs.WalkLemmas.{performs_taking, untouched}
use Rattle.life_interp.proofs.ports.pass.Goals as goal

pub write_view-requires : goal.write_view-requires
write_view-requires g c =
    let types = (program_of c.args.program.now).types in
    let f = function_of c.args.f.now in
    let content = g.S.Store.content c.args.store.now in
    let rows = g.S.Store.rows c.args.store.now in
    let l = location_of c.in-View.location in
    let cells = c.deref-in-View-3.ensures.value in
    let viewed = subst (λ (q : Port). HasViewed types f (state_in (meant types content rows) c.args.cells.now.items) (port_of q)) c.in-View.is c.requires.viewed in
    record {
      fits = subst (IsFit types content rows) (sym cells) c.requires.fits;
      holds = subst (λ (cs : List Cell). HoldsPointer types f l (state_in (meant types content rows) cs)) (sym cells) viewed.0;
      sees = subst (λ (cs : List Cell). SeesCharacters types f l (state_in (meant types content rows) cs)) (sym cells) viewed.1;
    }

pub returns-in-View-clause-step : goal.returns-in-View-clause-step
returns-in-View-clause-step g c = λ s texts.
    let types = (program_of c.args.program.now).types in
    let f = function_of c.args.f.now in
    let m = meant types (g.S.Store.content c.args.store.now) (g.S.Store.rows c.args.store.now) in
    let ins = drop c.args.taken.now c.args.input.now in
    let k : Sunk = record { old = g.O.Sink.taken c.args.out.now; new = g.O.Sink.taken c.write_view.new.out; faults = g.O.Sink.faults c.args.out.now; later = g.O.Sink.faults c.write_view.new.out } in
    subst (λ (q : Port). Performs (port s types f (port_of q)) m c.args.cells.now.items ins m c.args.cells.now.items ins k c.write_view.result) (sym c.in-View.is)
    (subst (λ (cells : List Cell). Performs (port s types f (WritesView (location_of c.in-View.location))) m cells ins m cells ins k c.write_view.result) c.deref-in-View-3.ensures.value
    (c.write_view.ensures s ins (texts ∙ ap (λ (ts : List (Vec ℕ Global)). map name_bytes ts) (sym c.deref-in-View-2.ensures.value))))

pub returns-in-Take-clause-step : goal.returns-in-Take-clause-step
returns-in-Take-clause-step g c = λ s texts.
    let m = meant (program_of c.args.program.now).types (g.S.Store.content c.args.store.now) (g.S.Store.rows c.args.store.now) in
    let ins = drop c.args.taken.now c.args.input.now in
    let rest = drop c.take.new.taken c.args.input.now in
    let k : Sunk = record { old = g.O.Sink.taken c.args.out.now; new = g.O.Sink.taken c.args.out.now; faults = g.O.Sink.faults c.args.out.now; later = g.O.Sink.faults c.args.out.now } in
    subst (λ (q : Port). Performs (port s (program_of c.args.program.now).types (function_of c.args.f.now) (port_of q)) m c.args.cells.now.items ins m c.take.new.cells.items rest k c.take.result) (sym c.in-Take.is)
    (performs_taking (taken_into c.in-Take.register) m c.args.cells.now.items c.take.new.cells.items ins rest k c.take.result (untouched (g.O.Sink.taken c.args.out.now) (g.O.Sink.faults c.args.out.now)) (c.take.ensures.step m))
