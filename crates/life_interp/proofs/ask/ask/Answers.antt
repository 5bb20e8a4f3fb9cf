use Rattle.std.proofs.Common.{subst, sym}
use Rattle.life_core.specs.Step.{asked_of}
use Rattle.life_core.specs.declared.instr.Test as machine
use Rattle.life_cells.specs.Cells.{state_in}
use Rattle.life_cells.specs.Fits.{meant}
use Rattle.life_cells.specs.Scopes.{function_in, types_in}
use Rattle.life_interp.specs.Accessed.{HasTested}
use Rattle.life_interp.specs.Walking.{Asks}
use Rattle.life_interp.proofs.ask.ask.Goals as goal

pub ask_pointer-requires-clause-testable : goal.ask_pointer-requires-clause-testable
ask_pointer-requires-clause-testable g c =
    let types = types_in c.args.scope.now in
    let f = function_in c.args.scope.now in
    let m = meant types (g.S.Store.content c.args.store.now) (g.S.Store.rows c.args.store.now) in
    subst (λ (t : machine.Test). HasTested types f (state_in m c.args.cells.now) (asked_of t)) c.in-NotNull.is c.requires.tested

pub returns-in-NotNull : goal.returns-in-NotNull
returns-in-NotNull g c =
    let types = types_in c.args.scope.now in
    let f = function_in c.args.scope.now in
    let m = meant types (g.S.Store.content c.args.store.now) (g.S.Store.rows c.args.store.now) in
    subst (λ (t : machine.Test). Asks types f (asked_of t) m c.args.cells.now c.ask_pointer.result) (sym c.in-NotNull.is) c.ask_pointer.ensures

pub returns-in-NonZero : goal.returns-in-NonZero
returns-in-NonZero g c =
    let types = types_in c.args.scope.now in
    let f = function_in c.args.scope.now in
    let m = meant types (g.S.Store.content c.args.store.now) (g.S.Store.rows c.args.store.now) in
    subst (λ (t : machine.Test). Asks types f (asked_of t) m c.args.cells.now c.ask_register.result) (sym c.in-NonZero.is) (c.ask_register.ensures types f m)
