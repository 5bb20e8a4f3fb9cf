use Rattle.std.proofs.Common.{None, ap, sym, ◌∙◌}
use Rattle.std.specs.Prelude.{cond}
use Rattle.life_store.specs.Calls.{slot_born}
use Rattle.life_store.specs.Doing.{Strays}
use Rattle.life_cells.specs.Cells.{state_of}
use Rattle.life_cells.specs.Fits.{meant}
use Rattle.life_interp.proofs.LocalLemmas.{leaves_as}
use Rattle.life_interp.proofs.SlotBirths.{none_slot, nothing_taken}
use Rattle.life_interp.proofs.giving.give_nothing.Goals as goal

pub slot_born-requires-clause-unique : goal.slot_born-requires-clause-unique
slot_born-requires-clause-unique g c = c.requires.slot c.in-Some.target (sym c.slot_type.ensures ∙ c.in-Some.is)

pub returns-in-Some-clause-step : goal.returns-in-Some-clause-step
returns-in-Some-clause-step g c = λ s sort e.
    let types = c.args.types.now in
    let m = meant types (g.S.Store.content c.args.store.now) (g.S.Store.rows c.args.store.now) in
    leaves_as _ _ _ c.slot_born.result
    (λ output input. nothing_taken s types sort c.args.ty c.in-Some.target (sym c.slot_type.ensures ∙ c.in-Some.is) c.args.local (state_of m c.args.cells.now.items output input))
    (c.slot_born.ensures.step s e)

pub returns-in-None-clause-step : goal.returns-in-None-clause-step
returns-in-None-clause-step g c = λ s sort e output input.
    let types = c.args.types.now in
    let m = meant types (g.S.Store.content c.args.store.now) (g.S.Store.rows c.args.store.now) in
    ap (λ b. cond b (slot_born s types c.args.ty None c.args.local (state_of m c.args.cells.now.items output input)) Strays) (none_slot types c.args.ty (sym c.slot_type.ensures ∙ c.in-None.is))
