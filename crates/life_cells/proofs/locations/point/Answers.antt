use Rattle.std.proofs.Common.{◌≡◌, ℕ, List, Option, Some, ap, subst, sym, ◌∙◌}
use Rattle.std.specs.Prelude.{slice_get}
use Rattle.life_core.specs.Operands.{location_of}
use Rattle.life_store.specs.Content.{Content}
use Rattle.life_store.specs.Effects.{Next, cell, put_cell, put_content}
use Rattle.life_store.specs.Places.{member_pointed}
use Rattle.life_store.specs.State as state
use Rattle.life_pointers.specs.Pointers.{pointer_seen}
use Rattle.life_cells.specs.Cells.{cells_seen, object_in, state_of}
use Rattle.life_cells.specs.Fits.{meant, CellsFit}
use Rattle.life_cells.specs.Scopes.{function_in, types_in}
use Rattle.life_cells.specs.declared.cell.Cell.{Cell}
use Rattle.life_cells.specs.declared.cell.Cell.TheVariants as held
use Rattle.life_cells.proofs.CellLemmas.{names}
use Rattle.life_cells.proofs.FitLemmas.{cell_fits, cells_later, later_kept, other_cells, set_fits}
use Rattle.life_cells.proofs.LocationLemmas.{keeps_itself, member_written, nil, no_nil, none_written, put_now}
use Rattle.life_cells.proofs.locations.point.Goals as goal

pub returns-then-is_whole-clause-step : goal.returns-then-is_whole-clause-step
returns-then-is_whole-clause-step g c = λ output input.
    let types = types_in c.args.scope.now in
    let f = function_in c.args.scope.now in
    let m = meant types (g.S.Store.content c.args.store.now) (g.S.Store.rows c.args.store.now) in
    let st = state_of m c.args.cells.now.items output input in
    let l = location_of c.args.location.now in
    let none = nil l.members (sym c.is_whole.ensures ∙ c.if-is_whole.true) in
    ap (λ (ms : List ℕ). member_pointed types f l.local ms (cell st l.local) (pointer_seen c.args.pointer) st) none
    ∙ ap (λ (v : state.Cell). Next (put_cell l.local v st)) (sym c.holding.ensures.is)
    ∙ ap Next (put_now m c.args.cells.now.items c.put_cell.new.cells.items l.local c.holding.result output input c.put_cell.ensures)

pub returns-then-is_whole-clause-fits : goal.returns-then-is_whole-clause-fits
returns-then-is_whole-clause-fits g c =
    let content = g.S.Store.content c.args.store.now in
    let rows = g.S.Store.rows c.args.store.now in
    other_cells (types_in c.args.scope.now) content rows c.args.cells.now.items c.put_cell.new.cells.items c.requires.fits
    (subst (CellsFit content rows) (sym c.put_cell.ensures) (set_fits content rows c.args.cells.now.items c.args.location.now.local c.holding.result c.requires.fits.held (c.holding.ensures.fits content rows c.requires.pointer)))

pub returns-in-None-clause-step : goal.returns-in-None-clause-step
returns-in-None-clause-step g c = λ output input.
    let types = types_in c.args.scope.now in
    let f = function_in c.args.scope.now in
    let m = meant types (g.S.Store.content c.args.store.now) (g.S.Store.rows c.args.store.now) in
    let st = state_of m c.args.cells.now.items output input in
    let l = location_of c.args.location.now in
    none_written types f l.local (pointer_seen c.args.pointer) st l.members (cell st l.local) (no_nil l.members (sym c.is_whole.ensures ∙ c.if-is_whole.false))
    (c.in-None.ensures.is ∙ ap (λ (cells : List Cell). object_in (slice_get (cells_seen cells) l.local)) c.deref.ensures.value)

pub returns-in-Some-clause-step : goal.returns-in-Some-clause-step
returns-in-Some-clause-step g c = λ output input.
    let types = types_in c.args.scope.now in
    let f = function_in c.args.scope.now in
    let m = meant types (g.S.Store.content c.args.store.now) (g.S.Store.rows c.args.store.now) in
    let st = state_of m c.args.cells.now.items output input in
    let l = location_of c.args.location.now in
    let v = pointer_seen c.args.pointer in
    let there = names (cell st l.local) c.in-Some.object.birth (c.in-Some.ensures.is ∙ ap (λ (cells : List Cell). object_in (slice_get (cells_seen cells) l.local)) c.deref.ensures.value) in
    ap (λ (o : Option state.Cell). member_pointed types f l.local l.members o v st) there
    ∙ member_written types f l.local v st l.members c.in-Some.object.birth (no_nil l.members (sym c.is_whole.ensures ∙ c.if-is_whole.false))
    ∙ ap (λ (d : Content). Next (put_content d st)) (sym c.write_member.ensures.is)

pub returns-in-Some-clause-fits : goal.returns-in-Some-clause-fits
returns-in-Some-clause-fits g c =
    let content = g.S.Store.content c.args.store.now in
    let rows = g.S.Store.rows c.args.store.now in
    let after = g.S.Store.content c.write_member.new.store in
    let placed = g.S.Store.rows c.write_member.new.store in
    other_cells (types_in c.args.scope.now) after placed _ c.args.cells.now.items c.write_member.ensures.fits
    (cells_later content after rows placed (later_kept content after rows placed c.write_member.ensures.keeps) c.args.cells.now.items c.requires.fits.held)

pub returns-then-is_whole-clause-keeps : goal.returns-then-is_whole-clause-keeps
returns-then-is_whole-clause-keeps g c = keeps_itself (g.S.Store.content c.args.store.now) (g.S.Store.rows c.args.store.now)

pub returns-in-None-clause-keeps : goal.returns-in-None-clause-keeps
returns-in-None-clause-keeps g c = keeps_itself (g.S.Store.content c.args.store.now) (g.S.Store.rows c.args.store.now)

pub write_member-requires-clause-object : goal.write_member-requires-clause-object
write_member-requires-clause-object g c =
    cell_fits (g.S.Store.content c.args.store.now) (g.S.Store.rows c.args.store.now) c.args.cells.now.items c.args.location.now.local (held.Object c.in-Some.object) c.requires.fits.held
    (subst (λ (cells : List Cell). slice_get cells c.args.location.now.local ≡ Some (held.Object c.in-Some.object)) c.deref.ensures.value c.in-Some.ensures.held)
