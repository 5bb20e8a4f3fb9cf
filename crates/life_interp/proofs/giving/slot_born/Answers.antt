use Rattle.std.proofs.Common.{[], ap, inr, refl, subst, sym, ◌∙◌, arith}
use Rattle.std.specs.Prelude.{option_map}
use Rattle.life_store.specs.Content.{Content}
use Rattle.life_store.specs.Effects.{Next, on_got, put_cell, put_content}
use Rattle.life_store.specs.State as state
use Rattle.life_store.specs.declared.run.Growth.TheVariants.{Always}
use Rattle.life_seen.specs.Kinds.{kinds_of}
use Rattle.life_words.specs.Owning.{number_of}
use Rattle.life_cells.specs.Cells.{state_of}
use Rattle.life_cells.specs.Fits.{meant}
use Rattle.life_cells.specs.declared.cell.Cell.TheVariants as held
use Rattle.life_cells.proofs.FitLemmas.{cells_later, set_fits}
use Rattle.life_cells.proofs.LocationLemmas.{put_now}
use Rattle.life_interp.specs.Births.{unborn}
use Rattle.life_interp.specs.CallOperands.{born_owning}
use Rattle.life_interp.specs.Steps.{TellsEnd}
use Rattle.life_interp.proofs.SlotBirths.{born_fails, no_birth}
use Rattle.life_interp.proofs.giving.slot_born.Goals as goal

pub slot_object-requires-clause-births : goal.slot_object-requires-clause-births
slot_object-requires-clause-births g c = c.requires.countable.births

pub slot_object-requires-clause-clock : goal.slot_object-requires-clause-clock
slot_object-requires-clause-clock g c = let e = c.requires.countable.clock in omega (arith, e)

pub returns-in-Err-clause-step : goal.returns-in-Err-clause-step
returns-in-Err-clause-step g c = λ s e output input.
    let types = c.args.types.now in
    let m = meant types (g.S.Store.content c.args.store.now) (g.S.Store.rows c.args.store.now) in
    subst (TellsEnd (born_owning s c.args.target (option_map number_of c.args.owned) c.args.local (state_of m c.args.cells.now.items output input))) (sym c.unborn.ensures)
    (born_fails s c.args.target (option_map number_of c.args.owned) c.args.local (unborn c.in-Err.fault) (state_of m c.args.cells.now.items output input) (no_birth (kinds_of types) (g.S.Store.content c.slot_object.new.store) (g.S.Store.rows c.slot_object.new.store) _ c.in-Err.fault (c.in-Err.ensures.bears s e)))

pub returns-in-Ok-clause-step : goal.returns-in-Ok-clause-step
returns-in-Ok-clause-step g c = λ s e output input.
    let types = c.args.types.now in
    let m = meant types (g.S.Store.content c.args.store.now) (g.S.Store.rows c.args.store.now) in
    let d = meant types (g.S.Store.content c.slot_object.new.store) (g.S.Store.rows c.slot_object.new.store) in
    let r = c.in-Ok.object in
    let bears = c.in-Ok.ensures.bears s e in
    let st = state_of m c.args.cells.now.items output input in
    ap (λ a. on_got a (λ b. Next (put_cell c.args.local (state.Named b.0) (put_content b.1 st)))) bears.1
    ∙ ap (λ (x : Content). Next (put_cell c.args.local (state.Named r.birth) (state_of x c.args.cells.now.items output input))) (sym bears.2.is)
    ∙ ap Next (put_now d c.args.cells.now.items c.put_at.new.cells.items c.args.local (held.Object r) output input c.put_at.ensures)

pub returns-in-Ok-clause-fits : goal.returns-in-Ok-clause-fits
returns-in-Ok-clause-fits g c =
    let content = g.S.Store.content c.args.store.now in
    let rows = g.S.Store.rows c.args.store.now in
    let d = g.S.Store.content c.slot_object.new.store in
    let new = g.S.Store.rows c.slot_object.new.store in
    let r = c.in-Ok.object in
    let q = c.in-Ok.ensures in
    let bears = q.bears (record { given = record { growth = Always; cells = g.S.Store.limit c.args.store.now; depth = 0 }; texts = [] }) refl in
    let births = q.births in
    let clock = q.clock in
    rw c.put_at.ensures
    (record {
      housed = bears.2.housed;
      rowed = q.rowed c.requires.fits.rowed;
      countable = record { births = omega (arith, births, c.requires.countable.births); clock = omega (arith, clock, c.requires.countable.clock) };
      held = set_fits d new c.args.cells.now.items c.args.local (held.Object r) (cells_later content d rows new q.later c.args.cells.now.items c.requires.fits.held) bears.3;
    })

pub returns-in-Ok-clause-gives : goal.returns-in-Ok-clause-gives
returns-in-Ok-clause-gives g c =
    let q = c.in-Ok.ensures in
    let births = q.births in
    let clock = q.clock in
    let live = q.live in
    let room = q.room in
    record { births = omega (arith, births, live); clock = omega (arith, births, clock); within = inr (omega (arith, live, room)) }
