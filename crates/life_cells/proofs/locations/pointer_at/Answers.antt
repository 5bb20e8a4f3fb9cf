use Rattle.std.proofs.Common.{ℕ, List, Option, Some, ap, sym, ◌∙◌}
use Rattle.life_core.specs.Operands.{location_of}
use Rattle.life_store.specs.Effects.{cell}
use Rattle.life_store.specs.Places.{member_cell}
use Rattle.life_store.specs.State as state
use Rattle.life_cells.specs.Cells.{pointer_in, state_in}
use Rattle.life_cells.specs.Fits.{meant}
use Rattle.life_cells.specs.Scopes.{function_in, types_in}
use Rattle.life_cells.specs.declared.cell.Cell.TheVariants as held
use Rattle.life_cells.proofs.CellLemmas.{names}
use Rattle.life_cells.proofs.FitLemmas.{cell_fits}
use Rattle.life_cells.proofs.LocationLemmas.{member_there, nil, no_member, no_nil}
use Rattle.life_cells.proofs.locations.pointer_at.Goals as goal

pub returns-then-is_whole-clause-is : goal.returns-then-is_whole-clause-is
returns-then-is_whole-clause-is g c =
    let types = types_in c.args.scope.now in
    let f = function_in c.args.scope.now in
    let m = meant types (g.S.Store.content c.args.store.now) (g.S.Store.rows c.args.store.now) in
    let st = state_in m c.args.cells.now in
    let l = location_of c.args.location.now in
    let none = nil l.members (sym c.is_whole.ensures ∙ c.if-is_whole.true) in
    c.own_pointer.ensures.is ∙ ap (λ (ms : List ℕ). pointer_in (member_cell types f l.local ms (cell st l.local) m)) (sym none)

pub returns-in-None-clause-is : goal.returns-in-None-clause-is
returns-in-None-clause-is g c =
    let types = types_in c.args.scope.now in
    let f = function_in c.args.scope.now in
    let m = meant types (g.S.Store.content c.args.store.now) (g.S.Store.rows c.args.store.now) in
    let st = state_in m c.args.cells.now in
    let l = location_of c.args.location.now in
    no_member types f l.local m l.members (cell st l.local) (no_nil l.members (sym c.is_whole.ensures ∙ c.if-is_whole.false)) c.in-None.ensures.is

pub returns-in-Some-clause-is : goal.returns-in-Some-clause-is
returns-in-Some-clause-is g c =
    let types = types_in c.args.scope.now in
    let f = function_in c.args.scope.now in
    let m = meant types (g.S.Store.content c.args.store.now) (g.S.Store.rows c.args.store.now) in
    let st = state_in m c.args.cells.now in
    let l = location_of c.args.location.now in
    let there = names (cell st l.local) c.in-Some.object.birth c.in-Some.ensures.is in
    ap Some c.member_pointer.ensures.is
    ∙ ap pointer_in (sym (member_there types f l.local m l.members c.in-Some.object.birth (no_nil l.members (sym c.is_whole.ensures ∙ c.if-is_whole.false))))
    ∙ ap (λ (o : Option state.Cell). pointer_in (member_cell types f l.local l.members o m)) (sym there)

pub member_pointer-requires-clause-object : goal.member_pointer-requires-clause-object
member_pointer-requires-clause-object g c =
    cell_fits (g.S.Store.content c.args.store.now) (g.S.Store.rows c.args.store.now) c.args.cells.now c.args.location.now.local (held.Object c.in-Some.object) c.requires.fits.held c.in-Some.ensures.held

pub returns-then-is_whole-clause-fits : goal.returns-then-is_whole-clause-fits
returns-then-is_whole-clause-fits g c = c.own_pointer.ensures.fits (g.S.Store.content c.args.store.now) (g.S.Store.rows c.args.store.now) c.requires.fits.held
