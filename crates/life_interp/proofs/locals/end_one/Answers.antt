use Rattle.std.proofs.Common.{◌≡◌, List, [], Some, ap, subst, sym, ◌∙◌, arith}
use Rattle.std.specs.Prelude.{slice_get}
use Rattle.life_store.specs.Content.{Content}
use Rattle.life_store.specs.Doing.{Next, cell, end_cell}
use Rattle.life_store.specs.Parts.{local_parts}
use Rattle.life_store.specs.References.{object_of}
use Rattle.life_forest.specs.FrameTypes.{Stands}
use Rattle.life_forest.specs.Kinds.{kinds_of as forest_kinds}
use Rattle.life_seen.specs.Kinds.{kinds_of}
use Rattle.life_values.specs.Layouts.{AreLayouts}
use Rattle.life_values.proofs.Flat.{layouts_own}
use Rattle.life_cells.specs.Cells.{cells_seen, object_in, pointer_in, state_of}
use Rattle.life_cells.specs.Fits.{meant}
use Rattle.life_cells.specs.declared.cell.Cell.{Cell}
use Rattle.life_cells.specs.declared.cell.Cell.TheVariants as held
use Rattle.life_cells.proofs.CellLemmas.{points}
use Rattle.life_cells.proofs.FitLemmas.{cell_fits, cells_later, other_cells, set_fits}
use Rattle.life_interp.proofs.LocalLemmas.{ended_strays}
use Rattle.life_interp.proofs.CellLemmas.{nothing_ends}
use Rattle.life_interp.proofs.ShapeLemmas.{err_none, ok_lives}
use Rattle.life_interp.proofs.SoundEnds.{ended_counts, local_can_end, local_ended}
use Rattle.life_interp.proofs.StepLemmas.{seen}
use Rattle.life_cells.proofs.LocationLemmas.{put_now}
use Rattle.life_interp.proofs.locals.end_one.Goals as goal

pub returns-in-Err-clause-step : goal.returns-in-Err-clause-step
returns-in-Err-clause-step g c = λ f rest s output input.
    let at_cell = ap (λ (cells : List Cell). slice_get cells c.args.local) (sym c.deref.ensures.value) ∙ c.in-Some.ensures.held in
    let there = seen c.args.cells.now.items c.args.local (Some (held.Object c.in-Some.object)) (sym at_cell) in
    let types = c.args.types.now in
    let content = g.S.Store.content c.args.store.now in
    let rows = g.S.Store.rows c.args.store.now in
    let ref = cell_fits content rows c.args.cells.now.items c.args.local (held.Object c.in-Some.object) c.requires.fits.held at_cell in
    ended_strays types f content rows c.args.cells.now.items c.args.local c.in-Some.object output input c.requires.fits.housed there ref
    (err_none c.in-Err.field-0 (object_of content rows c.in-Some.object) c.in-Err.ensures.shape)

pub end_deep-requires : goal.end_deep-requires
end_deep-requires g c =
    let at_cell = ap (λ (cells : List Cell). slice_get cells c.args.local) (sym c.deref.ensures.value) ∙ c.in-Some.ensures.held in
    let there = seen c.args.cells.now.items c.args.local (Some (held.Object c.in-Some.object)) (sym at_cell) in
    let types = c.args.types.now in
    let content = g.S.Store.content c.args.store.now in
    let rows = g.S.Store.rows c.args.store.now in
    let r = c.in-Some.object in
    let lives = ok_lives c.in-Ok.field-0 (object_of content rows r) c.in-Ok.ensures.shape in
    let s = c.requires.stands in
    record {
      layouts = subst (AreLayouts (kinds_of types)) (sym c.deref-in-Ok.ensures.value) (layouts_own types c.args.layouts.now.all.items c.requires.layouts.laid);
      can = local_can_end types c.requires.ordered c.args.layouts.now.depth c.requires.layouts.deep content rows c.requires.fits.housed s.0 s.1 (cells_seen c.args.cells.now.items) [] [] s.2 c.args.local r there lives.0 lives.1;
    }

pub returns-in-Ok-clause-step : goal.returns-in-Ok-clause-step
returns-in-Ok-clause-step g c = λ f rest s output input.
    let at_cell = ap (λ (cells : List Cell). slice_get cells c.args.local) (sym c.deref.ensures.value) ∙ c.in-Some.ensures.held in
    let there = seen c.args.cells.now.items c.args.local (Some (held.Object c.in-Some.object)) (sym at_cell) in
    let types = c.args.types.now in
    let content = g.S.Store.content c.args.store.now in
    let rows = g.S.Store.rows c.args.store.now in
    let r = c.in-Some.object in
    let lives = ok_lives c.in-Ok.field-0 (object_of content rows r) c.in-Ok.ensures.shape in
    let d = g.S.Store.content c.end_deep.new.store in
    let new = g.S.Store.rows c.end_deep.new.store in
    let stands : Stands types f rest (state_of (meant types content rows) c.args.cells.now.items output input) = record { store = s.store; frame = s.frame } in
    local_ended types c.requires.ordered c.args.layouts.now.depth c.requires.layouts.deep content rows c.requires.fits.housed f rest (cells_seen c.args.cells.now.items) output input stands c.args.local r there lives.0 lives.1 d new c.end_deep.ensures.ended
    ∙ ap Next (put_now (meant types d new) c.args.cells.now.items c.put_cell.new.cells.items c.args.local held.Empty output input c.put_cell.ensures)

pub returns-in-Ok-clause-fits : goal.returns-in-Ok-clause-fits
returns-in-Ok-clause-fits g c =
    let content = g.S.Store.content c.args.store.now in
    let rows = g.S.Store.rows c.args.store.now in
    let d = g.S.Store.content c.end_deep.new.store in
    let new = g.S.Store.rows c.end_deep.new.store in
    let m = meant c.args.types.now content rows in
    let counts = ended_counts (forest_kinds c.args.types.now) c.args.layouts.now.depth c.in-Some.object.birth m in
    let births : d.births ≡ content.births = ap (λ (x : Content). x.births) c.end_deep.ensures.ended.is ∙ counts.0 in
    let clock : d.clock ≡ content.clock = ap (λ (x : Content). x.clock) c.end_deep.ensures.ended.is ∙ counts.1 in
    rw c.put_cell.ensures
    (record {
      housed = c.end_deep.ensures.ended.housed;
      rowed = c.end_deep.ensures.rowed c.requires.fits.rowed;
      countable = record { births = omega (arith, births, c.requires.fits.countable.births); clock = omega (arith, clock, c.requires.fits.countable.clock) };
      held = set_fits d new c.args.cells.now.items c.args.local held.Empty (cells_later content d rows new c.end_deep.ensures.later c.args.cells.now.items c.requires.fits.held) tt;
    })

pub returns-in-Ok-clause-births : goal.returns-in-Ok-clause-births
returns-in-Ok-clause-births g c =
    let types = c.args.types.now in
    let m = meant types (g.S.Store.content c.args.store.now) (g.S.Store.rows c.args.store.now) in
    ap (λ (x : Content). x.births) c.end_deep.ensures.ended.is ∙ (ended_counts (forest_kinds types) c.args.layouts.now.depth c.in-Some.object.birth m).0

pub returns-in-Ok-clause-clock : goal.returns-in-Ok-clause-clock
returns-in-Ok-clause-clock g c =
    let types = c.args.types.now in
    let m = meant types (g.S.Store.content c.args.store.now) (g.S.Store.rows c.args.store.now) in
    ap (λ (x : Content). x.clock) c.end_deep.ensures.ended.is ∙ (ended_counts (forest_kinds types) c.args.layouts.now.depth c.in-Some.object.birth m).1

pub returns-in-None-own_pointer-clause-step : goal.returns-in-None-own_pointer-clause-step
returns-in-None-own_pointer-clause-step g c = λ f rest s output input.
    let st = state_of (meant c.args.types.now (g.S.Store.content c.args.store.now) (g.S.Store.rows c.args.store.now)) c.args.cells.now.items output input in
    nothing_ends (local_parts c.args.types.now f c.args.local) c.args.local st (cell st c.args.local)
    (c.in-None.ensures.is ∙ ap (λ (cells : List Cell). object_in (slice_get (cells_seen cells) c.args.local)) c.deref.ensures.value)
    (c.in-None-own_pointer.ensures.is ∙ ap (λ (cells : List Cell). pointer_in (slice_get (cells_seen cells) c.args.local)) c.deref-in-None.ensures.value)

pub returns-in-Some-own_pointer-clause-step : goal.returns-in-Some-own_pointer-clause-step
returns-in-Some-own_pointer-clause-step g c = λ f rest s output input.
    let content = meant c.args.types.now (g.S.Store.content c.args.store.now) (g.S.Store.rows c.args.store.now) in
    let st = state_of content c.args.cells.now.items output input in
    let there = points (cell st c.args.local) _ (c.in-Some-own_pointer.ensures.is ∙ ap (λ (cells : List Cell). pointer_in (slice_get (cells_seen cells) c.args.local)) c.deref-in-None.ensures.value) in
    ap (λ o. end_cell (local_parts c.args.types.now f c.args.local) o c.args.local st) there
    ∙ ap Next (put_now content c.args.cells.now.items c.put_cell-in-Some-own_pointer.new.cells.items c.args.local held.Empty output input c.put_cell-in-Some-own_pointer.ensures)

pub returns-in-Some-own_pointer-clause-fits : goal.returns-in-Some-own_pointer-clause-fits
returns-in-Some-own_pointer-clause-fits g c =
    let content = g.S.Store.content c.args.store.now in
    let rows = g.S.Store.rows c.args.store.now in
    rw c.put_cell-in-Some-own_pointer.ensures
    (other_cells c.args.types.now content rows c.args.cells.now.items _ c.requires.fits (set_fits content rows c.args.cells.now.items c.args.local held.Empty c.requires.fits.held tt))
