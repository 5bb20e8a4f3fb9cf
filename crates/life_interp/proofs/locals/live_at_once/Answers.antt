use Rattle.std.proofs.Common.{ap, sym, ◌∙◌}
use Rattle.life_core.specs.Step.{Live}
use Rattle.life_core.specs.declared.instr.Form.TheVariants as form
use Rattle.life_cells.specs.Scopes.{function_in, texts_in, types_in}
use Rattle.life_interp.specs.Cells.{sort_seen}
use Rattle.life_interp.proofs.QuickSteps.{nothing_done}
use Rattle.life_interp.proofs.locals.live_at_once.Goals as goal

pub free_born-requires-clause-declared : goal.free_born-requires-clause-declared
free_born-requires-clause-declared g c = sym c.declared_at.ensures ∙ c.in-Some.is

pub free_born-requires-clause-object : goal.free_born-requires-clause-object
free_born-requires-clause-object g c = sym (ap sort_seen c.in-Object.is) ∙ c.sort_of.ensures

pub returns-in-None-clause-done : goal.returns-in-None-clause-done
returns-in-None-clause-done g c =
    nothing_done (types_in c.args.scope.now) (function_in c.args.scope.now) (g.S.Store.limit c.args.store.now) (texts_in c.args.scope.now) (Live c.args.local form.Plain) (g.S.Store.content c.args.store.now) (g.S.Store.rows c.args.store.now) c.args.cells.now c.requires.fits

pub returns-in-Blank-clause-done : goal.returns-in-Blank-clause-done
returns-in-Blank-clause-done g c =
    nothing_done (types_in c.args.scope.now) (function_in c.args.scope.now) (g.S.Store.limit c.args.store.now) (texts_in c.args.scope.now) (Live c.args.local form.Plain) (g.S.Store.content c.args.store.now) (g.S.Store.rows c.args.store.now) c.args.cells.now c.requires.fits

pub returns-in-Number-clause-done : goal.returns-in-Number-clause-done
returns-in-Number-clause-done g c =
    nothing_done (types_in c.args.scope.now) (function_in c.args.scope.now) (g.S.Store.limit c.args.store.now) (texts_in c.args.scope.now) (Live c.args.local form.Plain) (g.S.Store.content c.args.store.now) (g.S.Store.rows c.args.store.now) c.args.cells.now c.requires.fits

pub returns-in-Pointer-clause-done : goal.returns-in-Pointer-clause-done
returns-in-Pointer-clause-done g c =
    nothing_done (types_in c.args.scope.now) (function_in c.args.scope.now) (g.S.Store.limit c.args.store.now) (texts_in c.args.scope.now) (Live c.args.local form.Plain) (g.S.Store.content c.args.store.now) (g.S.Store.rows c.args.store.now) c.args.cells.now c.requires.fits

pub returns-in-View-clause-done : goal.returns-in-View-clause-done
returns-in-View-clause-done g c =
    nothing_done (types_in c.args.scope.now) (function_in c.args.scope.now) (g.S.Store.limit c.args.store.now) (texts_in c.args.scope.now) (Live c.args.local form.Plain) (g.S.Store.content c.args.store.now) (g.S.Store.rows c.args.store.now) c.args.cells.now c.requires.fits
