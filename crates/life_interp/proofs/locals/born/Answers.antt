use Rattle.std.proofs.Common.{◌≡◌, ◌+◌, ap, arith}
use Rattle.life_store.specs.Content.{Content}
use Rattle.life_seen.specs.Kinds.{kinds_of}
use Rattle.life_seen.specs.Named.{names_of}
use Rattle.life_seen.proofs.LiveWords.{live_words_seen}
use Rattle.life_cells.specs.Fits.{meant}
use Rattle.life_cells.specs.declared.cell.Cell.TheVariants as held
use Rattle.life_cells.proofs.FitLemmas.{cells_later, set_fits}
use Rattle.life_interp.proofs.LocalLemmas.{birth_fails, born_step}
use Rattle.life_interp.proofs.NumberLemmas.{ref_placed}
use Rattle.life_interp.proofs.locals.born.Goals as goal

pub returns-in-Err-clause-step : goal.returns-in-Err-clause-step
returns-in-Err-clause-step g c = λ s e output input.
    birth_fails s c.args.ty c.args.local (g.S.Store.content c.args.store.now) c.args.types.now (g.S.Store.rows c.args.store.now) c.args.cells.now.items (g.S.Store.limit c.args.store.now) c.in-Err.ending output input c.in-Err.ensures.full e

pub returns-in-Ok-clause-step : goal.returns-in-Ok-clause-step
returns-in-Ok-clause-step g c = λ s e output input.
    let q = c.in-Ok.ensures in
    let kinds = kinds_of c.args.types.now in
    let content = g.S.Store.content c.args.store.now in
    let rows = g.S.Store.rows c.args.store.now in
    let shows = q.shows kinds c.requires.fits.housed in
    let live = live_words_seen kinds (names_of content rows) content in
    born_step s c.args.ty c.args.local (meant c.args.types.now content rows) (meant c.args.types.now (g.S.Store.content c.new_object.new.store) (g.S.Store.rows c.new_object.new.store)) c.args.cells.now.items c.put_cell.new.cells.items c.in-Ok.object output input
    (λ lt. omega (arith, lt, e, q.room, live)) q.number shows.is c.put_cell.ensures

pub returns-in-Ok-clause-fits : goal.returns-in-Ok-clause-fits
returns-in-Ok-clause-fits g c =
    let q = c.in-Ok.ensures in
    let types = c.args.types.now in
    let content = g.S.Store.content c.args.store.now in
    let rows = g.S.Store.rows c.args.store.now in
    let d = g.S.Store.content c.new_object.new.store in
    let new = g.S.Store.rows c.new_object.new.store in
    let shows = q.shows (kinds_of types) c.requires.fits.housed in
    let births : d.births ≡ content.births + 1 = ap (λ (x : Content). x.births) shows.is in
    let clock : d.clock ≡ content.clock + 1 = ap (λ (x : Content). x.clock) shows.is in
    rw c.put_cell.ensures
    (record {
      housed = shows.housed;
      rowed = q.rowed (kinds_of types) c.requires.fits.rowed;
      countable = record { births = omega (arith, births, c.requires.countable.births); clock = omega (arith, clock, c.requires.countable.clock) };
      held = set_fits d new c.args.cells.now.items c.args.local (held.Object c.in-Ok.object)
          (cells_later content d rows new q.later c.args.cells.now.items c.requires.fits.held)
          (ref_placed d new c.in-Ok.object (omega (arith, births, q.number)) q.placed);
    })

pub returns-in-Ok-clause-grows : goal.returns-in-Ok-clause-grows
returns-in-Ok-clause-grows g c =
    let shows = c.in-Ok.ensures.shows (kinds_of c.args.types.now) c.requires.fits.housed in
    let content = g.S.Store.content c.args.store.now in
    let d = g.S.Store.content c.new_object.new.store in
    let births : d.births ≡ content.births + 1 = ap (λ (x : Content). x.births) shows.is in
    let clock : d.clock ≡ content.clock + 1 = ap (λ (x : Content). x.clock) shows.is in
    record { births = omega (arith, births); clock = omega (arith, clock) }
