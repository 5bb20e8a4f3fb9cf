use Rattle.std.proofs.Common.{[], ap, refl, subst, sym, ◌∙◌, arith}
use Rattle.std.proofs.lemmas.Option.{slice_get_within}
use Rattle.std.specs.Prelude.{slice_get}
use Rattle.life_store.specs.Content.{Content}
use Rattle.life_store.specs.Effects.{Setting, Effect, Next, on_got, put_cell, put_content}
use Rattle.life_store.specs.Parts.{parts_at}
use Rattle.life_store.specs.State as state
use Rattle.life_store.specs.declared.run.Growth.TheVariants.{Always}
use Rattle.life_cells.specs.Cells.{state_of}
use Rattle.life_cells.specs.Fits.{meant}
use Rattle.life_cells.specs.declared.cell.Cell.TheVariants as held
use Rattle.life_cells.proofs.FitLemmas.{cells_later, other_cells, set_fits}
use Rattle.life_cells.proofs.LocationLemmas.{put_now}
use Rattle.life_interp.specs.Births.{birth_of}
use Rattle.life_interp.specs.Steps.{TellsEnd}
use Rattle.life_interp.proofs.BirthLemmas.{lives_not, lives_owning, lives_seeing, lives_wild, object_known, owner_fails}
use Rattle.life_interp.proofs.births.live_of.Goals as goal

pub returns-in-Nothing-clause-step : goal.returns-in-Nothing-clause-step
returns-in-Nothing-clause-step g c = λ s e output input.
    let types = c.args.types.now in
    let content = g.S.Store.content c.args.store.now in
    let rows = g.S.Store.rows c.args.store.now in
    let is = ap birth_of (sym c.get.ensures) ∙ sym c.birth_of.ensures ∙ c.in-Nothing.is in
    lives_not s types c.requires.ordered c.args.ty c.args.form c.args.local (state_of (meant types content rows) c.args.cells.now.items output input) is

pub returns-in-Wild-clause-step : goal.returns-in-Wild-clause-step
returns-in-Wild-clause-step g c = λ s e output input.
    let types = c.args.types.now in
    let content = g.S.Store.content c.args.store.now in
    let rows = g.S.Store.rows c.args.store.now in
    let is = ap birth_of (sym c.get.ensures) ∙ sym c.birth_of.ensures ∙ c.in-Wild.is in
    lives_wild s types c.requires.ordered c.args.ty c.args.form c.args.local (state_of (meant types content rows) c.args.cells.now.items output input) is
    ∙ ap Next (put_now (meant types content rows) c.args.cells.now.items c.put_cell.new.cells.items c.args.local held.Wild output input c.put_cell.ensures)

pub returns-in-Wild-clause-fits : goal.returns-in-Wild-clause-fits
returns-in-Wild-clause-fits g c =
    let types = c.args.types.now in
    let content = g.S.Store.content c.args.store.now in
    let rows = g.S.Store.rows c.args.store.now in
    rw c.put_cell.ensures (other_cells types content rows c.args.cells.now.items _ c.requires.fits (set_fits content rows c.args.cells.now.items c.args.local held.Wild c.requires.fits.held tt))

pub returns-in-View-clause-step : goal.returns-in-View-clause-step
returns-in-View-clause-step g c = λ s e output input.
    let types = c.args.types.now in
    let content = g.S.Store.content c.args.store.now in
    let rows = g.S.Store.rows c.args.store.now in
    let is = ap birth_of (sym c.get.ensures) ∙ sym c.birth_of.ensures ∙ c.in-View.is in
    let st = state_of (meant types content rows) c.args.cells.now.items output input in
    lives_seeing s types c.requires.ordered c.args.ty c.args.form c.args.local st is
    ∙ ap (λ (v : state.Cell). Next (put_cell c.args.local v st)) (sym (c.holding.ensures.is ∙ ap state.Points c.empty_view.ensures.is))
    ∙ ap Next (put_now (meant types content rows) c.args.cells.now.items c.put_cell-in-View.new.cells.items c.args.local c.holding.result output input c.put_cell-in-View.ensures)

pub returns-in-View-clause-fits : goal.returns-in-View-clause-fits
returns-in-View-clause-fits g c =
    let types = c.args.types.now in
    let content = g.S.Store.content c.args.store.now in
    let rows = g.S.Store.rows c.args.store.now in
    rw c.put_cell-in-View.ensures
    (other_cells types content rows c.args.cells.now.items _ c.requires.fits
    (set_fits content rows c.args.cells.now.items c.args.local c.holding.result c.requires.fits.held (c.holding.ensures.fits content rows (c.empty_view.ensures.fits content rows))))

pub fresh_object-requires-clause-known : goal.fresh_object-requires-clause-known
fresh_object-requires-clause-known g c =
    let types = c.args.types.now in
    let is = ap birth_of (sym c.get.ensures) ∙ sym c.birth_of.ensures ∙ c.in-Object.is in
    let known = object_known (slice_get types.types c.args.ty.0) is in
    slice_get_within types.types c.args.ty.0 known.0 known.1

pub returns-in-Err-clause-step : goal.returns-in-Err-clause-step
returns-in-Err-clause-step g c = λ s e output input.
    let types = c.args.types.now in
    let content = g.S.Store.content c.args.store.now in
    let rows = g.S.Store.rows c.args.store.now in
    let is = ap birth_of (sym c.get.ensures) ∙ sym c.birth_of.ensures ∙ c.in-Object.is in
    let m = meant types content rows in
    let st = state_of m c.args.cells.now.items output input in
    subst (λ (x : Effect). TellsEnd x c.in-Err.ending) (sym (lives_owning s types c.requires.ordered c.args.ty c.args.form c.args.local st is (c.requires.wide c.args.ty)))
    (owner_fails s c.args.ty (parts_at types c.args.ty) c.args.form c.args.local m c.in-Err.ending st refl (c.in-Err.ensures.bears s e))

pub returns-in-Ok-clause-step : goal.returns-in-Ok-clause-step
returns-in-Ok-clause-step g c = λ s e output input.
    let types = c.args.types.now in
    let content = g.S.Store.content c.args.store.now in
    let rows = g.S.Store.rows c.args.store.now in
    let is = ap birth_of (sym c.get.ensures) ∙ sym c.birth_of.ensures ∙ c.in-Object.is in
    let m = meant types content rows in
    let st = state_of m c.args.cells.now.items output input in
    let d = g.S.Store.content c.fresh_object.new.store in
    let new = g.S.Store.rows c.fresh_object.new.store in
    let b = c.in-Ok.ensures.bears s e in
    lives_owning s types c.requires.ordered c.args.ty c.args.form c.args.local st is (c.requires.wide c.args.ty)
    ∙ ap (λ a. on_got a (λ k. Next (put_cell c.args.local (state.Named k.0) (put_content k.1 st)))) b.1
    ∙ ap (λ (x : Content). Next (put_cell c.args.local (state.Named c.in-Ok.object.birth) (put_content x st))) (sym b.2.is)
    ∙ ap Next (put_now (meant types d new) c.args.cells.now.items c.put_cell-in-Ok.new.cells.items c.args.local (held.Object c.in-Ok.object) output input c.put_cell-in-Ok.ensures)

pub returns-in-Ok-clause-fits : goal.returns-in-Ok-clause-fits
returns-in-Ok-clause-fits g c =
    let types = c.args.types.now in
    let content = g.S.Store.content c.args.store.now in
    let rows = g.S.Store.rows c.args.store.now in
    let d = g.S.Store.content c.fresh_object.new.store in
    let new = g.S.Store.rows c.fresh_object.new.store in
    let s : Setting = record { given = record { growth = Always; cells = g.S.Store.limit c.args.store.now; depth = 0 }; texts = [] } in
    let b = c.in-Ok.ensures.bears s refl in
    let grows = c.in-Ok.ensures.grows in
    rw c.put_cell-in-Ok.ensures
    (record {
      housed = b.2.housed;
      rowed = c.in-Ok.ensures.rowed c.requires.fits.rowed;
      countable = record { births = omega (arith, grows.births, c.requires.countable.births); clock = omega (arith, grows.clock, c.requires.countable.clock) };
      held = set_fits d new c.args.cells.now.items c.args.local (held.Object c.in-Ok.object) (cells_later content d rows new c.in-Ok.ensures.later c.args.cells.now.items c.requires.fits.held) b.3;
    })
