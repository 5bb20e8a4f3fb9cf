use Rattle.std.proofs.Common.{◌≡◌, ℕ, List, Some, ap, refl, subst, sym, ◌∙◌, rules}
use Rattle.std.proofs.lemmas.Int.{to_z-of_z}
use mir.Val.{SFits}
use Rattle.std.specs.Int.{cast_unsigned, w64}
use Rattle.std.specs.Prelude.{option_map, slice_get}
use Rattle.life_store.specs.Doing.{edits, pushes}
use Rattle.life_store.specs.Effects.{cell}
use Rattle.life_store.specs.Parts.{parts_at}
use Rattle.life_store.specs.State.{State}
use Rattle.life_pointers.specs.Owned.{spot_seen}
use Rattle.life_cells.specs.Cells.{cell_seen, state_in, state_of}
use Rattle.life_cells.specs.Fits.{meant}
use Rattle.life_cells.specs.Scopes.{function_in, types_in}
use Rattle.life_cells.specs.declared.cell.Cell.{Cell}
use Rattle.life_cells.specs.declared.cell.Cell.TheVariants as held
use Rattle.life_changes.specs.Edits.{edit_of}
use Rattle.life_changes.specs.Owners.{OwnerAt}
use Rattle.life_changes.specs.declared.edit.Edit.TheVariants as editing
use Rattle.life_changes.proofs.PushedWays.{number_fits, pushes_lost, pushes_number, seen_there}
use Rattle.life_changes.proofs.Ways.{goes_alike, goes_with}
use Rattle.life_changes.proofs.pushing.push_back.Goals as goal

pub returns-in-Some-Empty-clause-step : goal.returns-in-Some-Empty-clause-step
returns-in-Some-Empty-clause-step g c = λ s set.
    let types = types_in c.args.scope.now in
    let f = function_in c.args.scope.now in
    let m = meant types (g.S.Store.content c.args.store.now) (g.S.Store.rows c.args.store.now) in
    let cells = c.args.cells.now.items in
    pushes_lost s types f (parts_at types c.args.ty) c.args.spot c.args.value m cells _
    (seen_there cells c.args.value c.cell_at.result (c.cell_at.ensures ∙ ap (λ (cs : List Cell). slice_get cs c.args.value) c.deref.ensures.value) ∙ ap (option_map cell_seen) (c.in-Some-Empty.is ∙ ap Some c.in-Some-Empty.field-0-is)) refl refl m cells

pub returns-in-Some-Null-clause-step : goal.returns-in-Some-Null-clause-step
returns-in-Some-Null-clause-step g c = λ s set.
    let types = types_in c.args.scope.now in
    let f = function_in c.args.scope.now in
    let m = meant types (g.S.Store.content c.args.store.now) (g.S.Store.rows c.args.store.now) in
    let cells = c.args.cells.now.items in
    pushes_lost s types f (parts_at types c.args.ty) c.args.spot c.args.value m cells _
    (seen_there cells c.args.value c.cell_at.result (c.cell_at.ensures ∙ ap (λ (cs : List Cell). slice_get cs c.args.value) c.deref.ensures.value) ∙ ap (option_map cell_seen) (c.in-Some-Null.is ∙ ap Some c.in-Some-Null.field-0-is)) refl refl m cells

pub returns-in-Some-Wild-clause-step : goal.returns-in-Some-Wild-clause-step
returns-in-Some-Wild-clause-step g c = λ s set.
    let types = types_in c.args.scope.now in
    let f = function_in c.args.scope.now in
    let m = meant types (g.S.Store.content c.args.store.now) (g.S.Store.rows c.args.store.now) in
    let cells = c.args.cells.now.items in
    pushes_lost s types f (parts_at types c.args.ty) c.args.spot c.args.value m cells _
    (seen_there cells c.args.value c.cell_at.result (c.cell_at.ensures ∙ ap (λ (cs : List Cell). slice_get cs c.args.value) c.deref.ensures.value) ∙ ap (option_map cell_seen) (c.in-Some-Wild.is ∙ ap Some c.in-Some-Wild.field-0-is)) refl refl m cells

pub returns-in-Some-To-clause-step : goal.returns-in-Some-To-clause-step
returns-in-Some-To-clause-step g c = λ s set.
    let types = types_in c.args.scope.now in
    let f = function_in c.args.scope.now in
    let m = meant types (g.S.Store.content c.args.store.now) (g.S.Store.rows c.args.store.now) in
    let cells = c.args.cells.now.items in
    pushes_lost s types f (parts_at types c.args.ty) c.args.spot c.args.value m cells _
    (seen_there cells c.args.value c.cell_at.result (c.cell_at.ensures ∙ ap (λ (cs : List Cell). slice_get cs c.args.value) c.deref.ensures.value) ∙ ap (option_map cell_seen) (c.in-Some-To.is ∙ ap Some c.in-Some-To.field-0-is)) refl refl m cells

pub returns-in-Some-Static-clause-step : goal.returns-in-Some-Static-clause-step
returns-in-Some-Static-clause-step g c = λ s set.
    let types = types_in c.args.scope.now in
    let f = function_in c.args.scope.now in
    let m = meant types (g.S.Store.content c.args.store.now) (g.S.Store.rows c.args.store.now) in
    let cells = c.args.cells.now.items in
    pushes_lost s types f (parts_at types c.args.ty) c.args.spot c.args.value m cells _
    (seen_there cells c.args.value c.cell_at.result (c.cell_at.ensures ∙ ap (λ (cs : List Cell). slice_get cs c.args.value) c.deref.ensures.value) ∙ ap (option_map cell_seen) (c.in-Some-Static.is ∙ ap Some c.in-Some-Static.field-0-is)) refl refl m cells

pub edit_here-requires-clause-at : goal.edit_here-requires-clause-at
edit_here-requires-clause-at g c =
    let types = types_in c.args.scope.now in
    let f = function_in c.args.scope.now in
    let content = g.S.Store.content c.args.store.now in
    let rows = g.S.Store.rows c.args.store.now in
    let limit = g.S.Store.limit c.args.store.now in
    let cells = c.args.cells.now.items in
    let m = meant types content rows in
    let there = λ (v : Cell) (e : c.cell_at.result ≡ Some v). seen_there cells c.args.value (Some v) (sym e ∙ c.cell_at.ensures ∙ ap (λ (cs : List Cell). slice_get cs c.args.value) c.deref.ensures.value) in
    subst (λ (cs : List Cell). OwnerAt types f limit c.args.depth c.args.ty c.args.spot content rows cs) (sym c.deref-in-Some-Number.ensures.value) c.requires.at

pub edit_here-requires-clause-fit : goal.edit_here-requires-clause-fit
edit_here-requires-clause-fit g c =
    let types = types_in c.args.scope.now in
    let f = function_in c.args.scope.now in
    let content = g.S.Store.content c.args.store.now in
    let rows = g.S.Store.rows c.args.store.now in
    let limit = g.S.Store.limit c.args.store.now in
    let cells = c.args.cells.now.items in
    let m = meant types content rows in
    let there = λ (v : Cell) (e : c.cell_at.result ≡ Some v). seen_there cells c.args.value (Some v) (sym e ∙ c.cell_at.ensures ∙ ap (λ (cs : List Cell). slice_get cs c.args.value) c.deref.ensures.value) in
    number_fits types f (state_in m cells) c.args.ty c.args.value c.in-Some-Number.number c.cast_unsigned.result c.requires.typed (there (held.Number c.in-Some-Number.number) (c.in-Some-Number.is ∙ ap Some c.in-Some-Number.field-0-is))

pub returns-in-Some-Number-clause-step : goal.returns-in-Some-Number-clause-step
returns-in-Some-Number-clause-step g c = λ s set.
    let types = types_in c.args.scope.now in
    let f = function_in c.args.scope.now in
    let content = g.S.Store.content c.args.store.now in
    let rows = g.S.Store.rows c.args.store.now in
    let limit = g.S.Store.limit c.args.store.now in
    let cells = c.args.cells.now.items in
    let m = meant types content rows in
    let there = λ (v : Cell) (e : c.cell_at.result ≡ Some v). seen_there cells c.args.value (Some v) (sym e ∙ c.cell_at.ensures ∙ ap (λ (cs : List Cell). slice_get cs c.args.value) c.deref.ensures.value) in
    let p = parts_at types c.args.ty in
    let n = meant types (g.S.Store.content c.edit_here.new.store) (g.S.Store.rows c.edit_here.new.store) in
    let fits : SFits w64 c.in-Some-Number.number = search rules in
    let word : c.cast_unsigned.result ≡ cast_unsigned w64 c.in-Some-Number.number = c.cast_unsigned.ensures ∙ ap (cast_unsigned w64) (to_z-of_z w64 c.in-Some-Number.number fits) in
    let pushing = λ (k : ℕ). edits s p (spot_seen c.args.spot) (edit_of (editing.Push k)) in
    goes_alike (λ (st : State). pushes s types f p (spot_seen c.args.spot) c.args.value (cell st c.args.value) st) (pushing c.cast_unsigned.result) m cells
    (λ output input. pushes_number s types f p c.args.spot c.args.value m cells c.in-Some-Number.number (there (held.Number c.in-Some-Number.number) (c.in-Some-Number.is ∙ ap Some c.in-Some-Number.field-0-is)) output input
    ∙ ap (λ (k : ℕ). pushing k (state_of m cells output input)) (sym word))
    n cells c.edit_here.result
    (goes_with (pushing c.cast_unsigned.result) m n cells c.deref-in-Some-Number.result.now cells c.edit_here.result c.deref-in-Some-Number.ensures.value refl (c.edit_here.ensures.step s set))

pub push_object-requires-clause-held : goal.push_object-requires-clause-held
push_object-requires-clause-held g c = sym (ap (λ (cs : List Cell). slice_get cs c.args.value) c.deref.ensures.value) ∙ sym c.cell_at.ensures ∙ c.in-Some-Object.is ∙ ap Some c.in-Some-Object.field-0-is

pub returns-in-None-clause-step : goal.returns-in-None-clause-step
returns-in-None-clause-step g c = λ s set.
    let types = types_in c.args.scope.now in
    let f = function_in c.args.scope.now in
    let m = meant types (g.S.Store.content c.args.store.now) (g.S.Store.rows c.args.store.now) in
    let cells = c.args.cells.now.items in
    pushes_lost s types f (parts_at types c.args.ty) c.args.spot c.args.value m cells _
    (seen_there cells c.args.value c.cell_at.result (c.cell_at.ensures ∙ ap (λ (cs : List Cell). slice_get cs c.args.value) c.deref.ensures.value) ∙ ap (option_map cell_seen) c.in-None.is) refl refl m cells
