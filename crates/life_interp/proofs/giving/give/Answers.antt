use Rattle.std.proofs.Common.{ap, refl, rules, subst, sym, Some, ◌∙◌, arith}
use Rattle.std.proofs.lemmas.Int.{to_z-of_z}
use Rattle.std.proofs.lemmas.Option.{same_Some, slice_get_past, slice_get_read}
use mir.Val.{SFits}
use Rattle.std.specs.Int.{w64}
use Rattle.std.specs.Prelude.{ℤ}
use Rattle.life_core.specs.Function.{function_of}
use Rattle.life_core.specs.Holdings.{AnObject, ANumber, Blank, APointer, AView, held_by}
use Rattle.life_store.specs.Doing.{Next, put_cell}
use Rattle.life_store.specs.Calls.{born_with, given, given_if, given_to}
use Rattle.life_store.specs.State as state
use Rattle.life_cells.specs.Cells.{cell_seen, state_of}
use Rattle.life_interp.specs.Cells.{sort_seen}
use Rattle.life_cells.specs.Fits.{meant, CellFits}
use Rattle.life_interp.specs.CallOperands.{SuitsSlot}
use Rattle.life_interp.specs.Steps.{LeavesBoth}
use Rattle.life_cells.specs.declared.cell.Cell.{Cell}
use Rattle.life_cells.specs.declared.cell.Cell.TheVariants as held
use Rattle.life_cells.proofs.CellLemmas.{counts}
use Rattle.life_cells.proofs.FitLemmas.{other_cells, set_fits}
use Rattle.life_cells.proofs.LocationLemmas.{put_now}
use Rattle.life_interp.proofs.CellLemmas.{given_as, vacant_is}
use Rattle.life_interp.proofs.GiveLemmas.{given_is}
use Rattle.life_interp.proofs.LocalLemmas.{leaves_as}
use Rattle.life_interp.proofs.Single.{object_is_number}
use Rattle.life_interp.proofs.giving.give.Goals as goal

pub born_with-requires-clause-value : goal.born_with-requires-clause-value
born_with-requires-clause-value g c = object_is_number c.args.types.now c.index-declared.result.now (sym (ap sort_seen c.in-Object.is) ∙ c.sort_of.ensures)

pub returns-in-Object-clause-step : goal.returns-in-Object-clause-step
returns-in-Object-clause-step g c = λ s e.
    let locals = c.args.f.now.locals in
    let local = c.index-declared.result.now in
    let there = slice_get_read locals.items locals.len c.args.local local locals.ok.0 (omega (arith, c.if-local-len.true, c.len.ensures)) c.index-declared.ensures in
    let content = meant c.args.types.now (g.S.Store.content c.args.store.now) (g.S.Store.rows c.args.store.now) in
    let f = function_of c.args.f.now in
    let fits : SFits w64 c.in-Some.number = search rules in
    let value = same_Some (cell_seen c.args.value) (state.Number c.in-Some.number) (counts (Some (cell_seen c.args.value)) c.in-Some.number c.in-Some.ensures) in
    let born = subst (λ (z : ℤ). LeavesBoth (born_with s local.ty z c.args.local) content c.args.cells.now.items (meant c.args.types.now (g.S.Store.content c.born_with.new.store) (g.S.Store.rows c.born_with.new.store)) c.born_with.new.cells.items c.born_with.result)
    (to_z-of_z w64 c.in-Some.number fits) (c.born_with.ensures.step s e) in
    leaves_as _ _ _ c.born_with.result
    (λ output input.
    let st = state_of content c.args.cells.now.items output input in
    ap (λ (v : state.Cell). given s c.args.types.now f v c.args.local st) value
    ∙ given_is s c.args.types.now f _ c.args.local local AnObject st there (sym (ap sort_seen c.in-Object.is) ∙ c.sort_of.ensures))
    born

pub returns-in-Number-clause-step : goal.returns-in-Number-clause-step
returns-in-Number-clause-step g c = λ s e output input.
    let locals = c.args.f.now.locals in
    let local = c.index-declared.result.now in
    let there = slice_get_read locals.items locals.len c.args.local local locals.ok.0 (omega (arith, c.if-local-len.true, c.len.ensures)) c.index-declared.ensures in
    let content = meant c.args.types.now (g.S.Store.content c.args.store.now) (g.S.Store.rows c.args.store.now) in
    let f = function_of c.args.f.now in
    let fits : SFits w64 c.in-Some.number = search rules in
    let value = same_Some (cell_seen c.args.value) (state.Number c.in-Some.number) (counts (Some (cell_seen c.args.value)) c.in-Some.number c.in-Some.ensures) in
    let st = state_of content c.args.cells.now.items output input in
    ap (λ (v : state.Cell). given s c.args.types.now f v c.args.local st) value
    ∙ given_is s c.args.types.now f _ c.args.local local ANumber st there (sym (ap sort_seen c.in-Number.is) ∙ c.sort_of.ensures)
    ∙ ap (λ z. Next (put_cell c.args.local (state.Number z) st)) (sym (to_z-of_z w64 c.in-Some.number fits))
    ∙ ap Next (put_now content c.args.cells.now.items c.put_at.new.cells.items c.args.local (held.Number _) output input c.put_at.ensures)

pub returns-in-Number-clause-fits : goal.returns-in-Number-clause-fits
returns-in-Number-clause-fits g c =
    let content = g.S.Store.content c.args.store.now in
    let rows = g.S.Store.rows c.args.store.now in
    rw c.put_at.ensures
    (other_cells c.args.types.now content rows c.args.cells.now.items _ c.requires.fits (set_fits content rows c.args.cells.now.items c.args.local (held.Number _) c.requires.fits.held tt))

pub returns-in-Blank-clause-step : goal.returns-in-Blank-clause-step
returns-in-Blank-clause-step g c = λ s e output input.
    let locals = c.args.f.now.locals in
    let local = c.index-declared.result.now in
    let there = slice_get_read locals.items locals.len c.args.local local locals.ok.0 (omega (arith, c.if-local-len.true, c.len.ensures)) c.index-declared.ensures in
    let content = meant c.args.types.now (g.S.Store.content c.args.store.now) (g.S.Store.rows c.args.store.now) in
    let f = function_of c.args.f.now in
    let value = same_Some (cell_seen c.args.value) (state.Number c.in-Some.number) (counts (Some (cell_seen c.args.value)) c.in-Some.number c.in-Some.ensures) in
    let st = state_of content c.args.cells.now.items output input in
    ap (λ (v : state.Cell). given s c.args.types.now f v c.args.local st) value
    ∙ given_is s c.args.types.now f _ c.args.local local Blank st there (sym (ap sort_seen c.in-Blank.is) ∙ c.sort_of.ensures)

pub returns-in-Pointer-clause-step : goal.returns-in-Pointer-clause-step
returns-in-Pointer-clause-step g c = λ s e output input.
    let locals = c.args.f.now.locals in
    let local = c.index-declared.result.now in
    let there = slice_get_read locals.items locals.len c.args.local local locals.ok.0 (omega (arith, c.if-local-len.true, c.len.ensures)) c.index-declared.ensures in
    let content = meant c.args.types.now (g.S.Store.content c.args.store.now) (g.S.Store.rows c.args.store.now) in
    let f = function_of c.args.f.now in
    let value = same_Some (cell_seen c.args.value) (state.Number c.in-Some.number) (counts (Some (cell_seen c.args.value)) c.in-Some.number c.in-Some.ensures) in
    let st = state_of content c.args.cells.now.items output input in
    ap (λ (v : state.Cell). given s c.args.types.now f v c.args.local st) value
    ∙ given_is s c.args.types.now f _ c.args.local local APointer st there (sym (ap sort_seen c.in-Pointer.is) ∙ c.sort_of.ensures)

pub returns-in-View-clause-step : goal.returns-in-View-clause-step
returns-in-View-clause-step g c = λ s e output input.
    let locals = c.args.f.now.locals in
    let local = c.index-declared.result.now in
    let there = slice_get_read locals.items locals.len c.args.local local locals.ok.0 (omega (arith, c.if-local-len.true, c.len.ensures)) c.index-declared.ensures in
    let content = meant c.args.types.now (g.S.Store.content c.args.store.now) (g.S.Store.rows c.args.store.now) in
    let f = function_of c.args.f.now in
    let value = same_Some (cell_seen c.args.value) (state.Number c.in-Some.number) (counts (Some (cell_seen c.args.value)) c.in-Some.number c.in-Some.ensures) in
    let st = state_of content c.args.cells.now.items output input in
    ap (λ (v : state.Cell). given s c.args.types.now f v c.args.local st) value
    ∙ given_is s c.args.types.now f _ c.args.local local AView st there (sym (ap sort_seen c.in-View.is) ∙ c.sort_of.ensures)

pub give_object-requires-clause-slot : goal.give_object-requires-clause-slot
give_object-requires-clause-slot g c =
    let locals = c.args.f.now.locals in
    let local = c.index-declared.result.now in
    let there = slice_get_read locals.items locals.len c.args.local local locals.ok.0 (omega (arith, c.if-local-len.true, c.len.ensures)) c.index-declared.ensures in
    subst (SuitsSlot c.args.types.now (g.S.Store.rows c.args.store.now) local.ty) c.in-Some-object_of.ensures.held (c.requires.slot local there)

pub give_object-requires-clause-object : goal.give_object-requires-clause-object
give_object-requires-clause-object g c = subst (CellFits (g.S.Store.content c.args.store.now) (g.S.Store.rows c.args.store.now)) c.in-Some-object_of.ensures.held c.requires.value

pub returns-in-Some-object_of-clause-step : goal.returns-in-Some-object_of-clause-step
returns-in-Some-object_of-clause-step g c = λ s e.
    let locals = c.args.f.now.locals in
    let local = c.index-declared.result.now in
    let there = slice_get_read locals.items locals.len c.args.local local locals.ok.0 (omega (arith, c.if-local-len.true, c.len.ensures)) c.index-declared.ensures in
    let content = meant c.args.types.now (g.S.Store.content c.args.store.now) (g.S.Store.rows c.args.store.now) in
    let f = function_of c.args.f.now in
    leaves_as _ _ _ c.give_object.result
    (λ output input.
    let st = state_of content c.args.cells.now.items output input in
    given_is s c.args.types.now f (cell_seen c.args.value) c.args.local local _ st there refl
    ∙ ap (λ (v : Cell). given_to s c.args.types.now (held_by c.args.types.now (Some local)) local.ty (cell_seen v) c.args.local st) c.in-Some-object_of.ensures.held)
    (c.give_object.ensures.step s (held_by c.args.types.now (Some local)) e)

pub give_nothing-requires-clause-slot : goal.give_nothing-requires-clause-slot
give_nothing-requires-clause-slot g c =
    let locals = c.args.f.now.locals in
    let local = c.index-declared.result.now in
    let there = slice_get_read locals.items locals.len c.args.local local locals.ok.0 (omega (arith, c.if-local-len.true, c.len.ensures)) c.index-declared.ensures in
    (c.requires.slot local there).nothing (sym c.is_vacant.ensures ∙ c.if-is_vacant.true)

pub returns-then-is_vacant-clause-step : goal.returns-then-is_vacant-clause-step
returns-then-is_vacant-clause-step g c = λ s e.
    let locals = c.args.f.now.locals in
    let local = c.index-declared.result.now in
    let there = slice_get_read locals.items locals.len c.args.local local locals.ok.0 (omega (arith, c.if-local-len.true, c.len.ensures)) c.index-declared.ensures in
    let content = meant c.args.types.now (g.S.Store.content c.args.store.now) (g.S.Store.rows c.args.store.now) in
    let f = function_of c.args.f.now in
    leaves_as _ _ _ c.give_nothing.result
    (λ output input.
    let st = state_of content c.args.cells.now.items output input in
    given_is s c.args.types.now f (cell_seen c.args.value) c.args.local local _ st there refl
    ∙ ap (λ (v : state.Cell). given_to s c.args.types.now (held_by c.args.types.now (Some local)) local.ty v c.args.local st) (vacant_is (cell_seen c.args.value) (sym c.is_vacant.ensures ∙ c.if-is_vacant.true)))
    (c.give_nothing.ensures.step s (held_by c.args.types.now (Some local)) e)

pub returns-else-is_vacant-clause-step : goal.returns-else-is_vacant-clause-step
returns-else-is_vacant-clause-step g c = λ s e output input.
    let locals = c.args.f.now.locals in
    let local = c.index-declared.result.now in
    let there = slice_get_read locals.items locals.len c.args.local local locals.ok.0 (omega (arith, c.if-local-len.true, c.len.ensures)) c.index-declared.ensures in
    let content = meant c.args.types.now (g.S.Store.content c.args.store.now) (g.S.Store.rows c.args.store.now) in
    let f = function_of c.args.f.now in
    let st = state_of content c.args.cells.now.items output input in
    given_is s c.args.types.now f (cell_seen c.args.value) c.args.local local _ st there refl
    ∙ given_as s c.args.types.now _ local.ty c.args.local st (cell_seen c.args.value) c.in-None.ensures c.in-None-object_of.ensures.is (sym c.is_vacant.ensures ∙ c.if-is_vacant.false)
    ∙ ap Next (put_now content c.args.cells.now.items c.put_at-in-None-object_of.new.cells.items c.args.local c.args.value output input c.put_at-in-None-object_of.ensures)

pub returns-else-is_vacant-clause-fits : goal.returns-else-is_vacant-clause-fits
returns-else-is_vacant-clause-fits g c =
    let content = g.S.Store.content c.args.store.now in
    let rows = g.S.Store.rows c.args.store.now in
    rw c.put_at-in-None-object_of.ensures
    (other_cells c.args.types.now content rows c.args.cells.now.items _ c.requires.fits (set_fits content rows c.args.cells.now.items c.args.local c.args.value c.requires.fits.held c.requires.value))

pub returns-else-is_vacant-clause-stay : goal.returns-else-is_vacant-clause-stay
returns-else-is_vacant-clause-stay g c = λ n k e. e

pub returns-in-Number-clause-stay : goal.returns-in-Number-clause-stay
returns-in-Number-clause-stay g c = λ n k e. e

pub returns-else-local-len-clause-step : goal.returns-else-local-len-clause-step
returns-else-local-len-clause-step g c = λ s e output input.
    ap (λ o. given_if s c.args.types.now (function_of c.args.f.now) o (cell_seen c.args.value) c.args.local (state_of (meant c.args.types.now (g.S.Store.content c.args.store.now) (g.S.Store.rows c.args.store.now)) c.args.cells.now.items output input))
    (slice_get_past c.args.f.now.locals.items c.args.local (omega (arith, c.if-local-len.false, c.len.ensures, c.args.f.now.locals.ok.0)))
