use Rattle.std.proofs.Common.{Some, ap, refl, sym, ◌∙◌}
use Rattle.std.specs.Prelude.{cond}
use Rattle.life_store.specs.Calls.{slot_born}
use Rattle.life_store.specs.Doing.{Next, put_cell}
use Rattle.life_store.specs.State as state
use Rattle.life_cells.specs.Cells.{state_of}
use Rattle.life_cells.specs.Fits.{meant}
use Rattle.life_cells.specs.declared.cell.Cell.TheVariants as held
use Rattle.life_cells.proofs.FitLemmas.{other_cells, set_fits}
use Rattle.life_cells.proofs.LocationLemmas.{put_now}
use Rattle.life_interp.proofs.LocalLemmas.{leaves_as}
use Rattle.life_interp.proofs.SlotBirths.{none_slot, object_taken}
use Rattle.life_interp.proofs.giving.give_object.Goals as goal

pub slot_born-requires-clause-unique : goal.slot_born-requires-clause-unique
slot_born-requires-clause-unique g c = (c.requires.slot.object c.args.object refl c.in-Some.target (sym c.slot_type.ensures ∙ c.in-Some.is)).0

pub slot_born-requires-clause-lives : goal.slot_born-requires-clause-lives
slot_born-requires-clause-lives g c = (c.requires.slot.object c.args.object refl c.in-Some.target (sym c.slot_type.ensures ∙ c.in-Some.is)).1

pub returns-in-Some-clause-step : goal.returns-in-Some-clause-step
returns-in-Some-clause-step g c = λ s sort e.
    let types = c.args.types.now in
    let m = meant types (g.S.Store.content c.args.store.now) (g.S.Store.rows c.args.store.now) in
    leaves_as _ _ _ c.slot_born.result
    (λ output input. object_taken s types sort c.args.ty c.in-Some.target (sym c.slot_type.ensures ∙ c.in-Some.is) c.args.local (state_of m c.args.cells.now.items output input) c.args.object.birth)
    (c.slot_born.ensures.step s e)

pub returns-in-None-clause-step : goal.returns-in-None-clause-step
returns-in-None-clause-step g c = λ s sort e output input.
    let types = c.args.types.now in
    let m = meant types (g.S.Store.content c.args.store.now) (g.S.Store.rows c.args.store.now) in
    let st = state_of m c.args.cells.now.items output input in
    ap (λ b. cond b (slot_born s types c.args.ty (Some c.args.object.birth) c.args.local st) (Next (put_cell c.args.local (state.Named c.args.object.birth) st))) (none_slot types c.args.ty (sym c.slot_type.ensures ∙ c.in-None.is))
    ∙ ap Next (put_now m c.args.cells.now.items c.put_at.new.cells.items c.args.local (held.Object c.args.object) output input c.put_at.ensures)

pub returns-in-None-clause-fits : goal.returns-in-None-clause-fits
returns-in-None-clause-fits g c =
    let content = g.S.Store.content c.args.store.now in
    let rows = g.S.Store.rows c.args.store.now in
    rw c.put_at.ensures
    (other_cells c.args.types.now content rows c.args.cells.now.items _ c.requires.fits (set_fits content rows c.args.cells.now.items c.args.local (held.Object c.args.object) c.requires.fits.held c.requires.object))

pub returns-in-None-clause-stay : goal.returns-in-None-clause-stay
returns-in-None-clause-stay g c = λ n k e. e
