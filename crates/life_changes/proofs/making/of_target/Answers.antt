use Rattle.std.proofs.Common.{◌≡◌, List, [], Some, Ok, ap, refl, subst, sym, ◌∙◌, rules, Err, Result}
use Rattle.std.proofs.lemmas.Int.{to_z-of_z}
use mir.Val.{SFits}
use Rattle.std.specs.Int.{cast_unsigned, w64}
use Rattle.std.specs.Prelude.{option_map, slice_get, slice_set}
use Rattle.life_store.specs.Doing.{made_of}
use Rattle.life_store.specs.Effects.{cell}
use Rattle.life_store.specs.Parts.{parts_at}
use Rattle.life_store.specs.State.{State}
use Rattle.life_store.specs.declared.run.Growth.TheVariants as growth
use Rattle.life_seen.specs.Kinds.{kinds_of}
use Rattle.life_pointers.specs.Owned.{spot_seen}
use Rattle.life_cells.specs.Cells.{cell_seen}
use Rattle.life_cells.specs.Fits.{meant}
use Rattle.life_cells.specs.Scopes.{function_in, types_in}
use Rattle.life_cells.specs.declared.cell.Cell.{Cell}
use Rattle.life_cells.specs.declared.cell.Cell.TheVariants as held
use Rattle.life_changes.specs.NewObjects.{made_with, number_value}
use Rattle.life_changes.specs.Steps.{Gets}
use Rattle.life_changes.specs.declared.failure.Failure.{Failure}
use Rattle.life_changes.proofs.Behind.{emptied_fits, told_bounded, told_fits, told_grows}
use Rattle.life_changes.proofs.Frames.{in_hand, some_given, stands_at}
use Rattle.life_changes.proofs.MakingWays.{made_lost, number_goes, taken_goes}
use Rattle.life_changes.proofs.PushedWays.{seen_there}
use Rattle.life_changes.proofs.Temporaries as temporary
use Rattle.life_changes.proofs.Ways.{fails_alike}
use Rattle.life_changes.proofs.making.of_target.Goals as goal

pub own_number-requires-clause-stands : goal.own_number-requires-clause-stands
own_number-requires-clause-stands g c =
    let types = types_in c.args.scope.now in
    let f = function_in c.args.scope.now in
    let content = g.S.Store.content c.args.store.now in
    let rows = g.S.Store.rows c.args.store.now in
    let limit = g.S.Store.limit c.args.store.now in
    let depth = c.args.depth in
    let cells = c.args.cells.now.items in
    let now = c.requires.at in
    (in_hand types f limit depth c.args.ty c.args.spot content rows cells now, stands_at types f limit depth c.args.ty c.args.spot content rows cells now)

pub own_number-requires-clause-early : goal.own_number-requires-clause-early
own_number-requires-clause-early g c = c.requires.at.ready.early

pub own_number-requires-clause-single : goal.own_number-requires-clause-single
own_number-requires-clause-single g c =
    let types = types_in c.args.scope.now in
    let f = function_in c.args.scope.now in
    let content = g.S.Store.content c.args.store.now in
    let rows = g.S.Store.rows c.args.store.now in
    let limit = g.S.Store.limit c.args.store.now in
    let depth = c.args.depth in
    let cells = c.args.cells.now.items in
    let now = c.requires.at in
    let held_in = λ (v : Cell) (e : c.cell_at.result ≡ Some v). seen_there cells c.args.value (Some v) (sym e ∙ c.cell_at.ensures ∙ ap (λ (cs : List Cell). slice_get cs c.args.value) c.deref.ensures.value) in
    let named = held_in (held.Number c.in-Some-Number.number) (c.in-Some-Number.is ∙ ap Some c.in-Some-Number.field-0-is) in
    c.requires.given.0 c.in-Some-Number.number named

pub returns-in-Some-Number-clause-step : goal.returns-in-Some-Number-clause-step
returns-in-Some-Number-clause-step g c = λ s given.
    let types = types_in c.args.scope.now in
    let f = function_in c.args.scope.now in
    let content = g.S.Store.content c.args.store.now in
    let rows = g.S.Store.rows c.args.store.now in
    let limit = g.S.Store.limit c.args.store.now in
    let depth = c.args.depth in
    let cells = c.args.cells.now.items in
    let now = c.requires.at in
    let held_in = λ (v : Cell) (e : c.cell_at.result ≡ Some v). seen_there cells c.args.value (Some v) (sym e ∙ c.cell_at.ensures ∙ ap (λ (cs : List Cell). slice_get cs c.args.value) c.deref.ensures.value) in
    let named = held_in (held.Number c.in-Some-Number.number) (c.in-Some-Number.is ∙ ap Some c.in-Some-Number.field-0-is) in
    let d = g.S.Store.content c.own_number.new.store in
    let new = g.S.Store.rows c.own_number.new.store in
    let fits : SFits w64 c.in-Some-Number.number = search rules in
    let word : c.cast_unsigned-word.result ≡ cast_unsigned w64 c.in-Some-Number.number = c.cast_unsigned-word.ensures ∙ ap (cast_unsigned w64) (to_z-of_z w64 c.in-Some-Number.number fits) in
    number_goes types f c.args.ty c.args.target c.requires.unique c.args.spot content rows cells s d new c.args.value c.in-Some-Number.number named c.own_number.result
    (subst (λ w. Gets (kinds_of types) (made_with s (parts_at types c.args.ty) (spot_seen c.args.spot) (number_value w) (meant types content rows)) c.own_number.result d new) word (c.own_number.ensures.made s given))

pub returns-in-Some-Number-clause-fits : goal.returns-in-Some-Number-clause-fits
returns-in-Some-Number-clause-fits g c =
    let types = types_in c.args.scope.now in
    let f = function_in c.args.scope.now in
    let content = g.S.Store.content c.args.store.now in
    let rows = g.S.Store.rows c.args.store.now in
    let limit = g.S.Store.limit c.args.store.now in
    let depth = c.args.depth in
    let cells = c.args.cells.now.items in
    let now = c.requires.at in
    let s = some_given growth.Always limit [] in
    told_fits types limit content (g.S.Store.content c.own_number.new.store) rows (g.S.Store.rows c.own_number.new.store) (made_with s (parts_at types c.args.ty) (spot_seen c.args.spot) (number_value c.cast_unsigned-word.result) (meant types content rows)) cells now.ready.early now.ready.fits.held c.own_number.result c.own_number.ensures.behind (c.own_number.ensures.made s refl) c.own_number.ensures.rowed c.own_number.ensures.later

pub returns-in-Some-Number-clause-bounded : goal.returns-in-Some-Number-clause-bounded
returns-in-Some-Number-clause-bounded g c =
    let types = types_in c.args.scope.now in
    let f = function_in c.args.scope.now in
    let content = g.S.Store.content c.args.store.now in
    let rows = g.S.Store.rows c.args.store.now in
    let limit = g.S.Store.limit c.args.store.now in
    let depth = c.args.depth in
    let cells = c.args.cells.now.items in
    let now = c.requires.at in
    told_bounded types limit content (g.S.Store.content c.own_number.new.store) rows (g.S.Store.rows c.own_number.new.store) c.own_number.result c.own_number.ensures.behind

pub returns-in-Some-Number-clause-grows : goal.returns-in-Some-Number-clause-grows
returns-in-Some-Number-clause-grows g c =
    let types = types_in c.args.scope.now in
    let f = function_in c.args.scope.now in
    let content = g.S.Store.content c.args.store.now in
    let rows = g.S.Store.rows c.args.store.now in
    let limit = g.S.Store.limit c.args.store.now in
    let depth = c.args.depth in
    let cells = c.args.cells.now.items in
    let now = c.requires.at in
    told_grows types limit content (g.S.Store.content c.own_number.new.store) rows (g.S.Store.rows c.own_number.new.store) c.own_number.result c.own_number.ensures.behind

pub own_taken-requires-clause-stands : goal.own_taken-requires-clause-stands
own_taken-requires-clause-stands g c =
    let types = types_in c.args.scope.now in
    let f = function_in c.args.scope.now in
    let content = g.S.Store.content c.args.store.now in
    let rows = g.S.Store.rows c.args.store.now in
    let limit = g.S.Store.limit c.args.store.now in
    let depth = c.args.depth in
    let cells = c.args.cells.now.items in
    let now = c.requires.at in
    let has = sym (sym (c.in-Some-Object.is ∙ ap Some c.in-Some-Object.field-0-is) ∙ c.cell_at.ensures ∙ ap (λ (cs : List Cell). slice_get cs c.args.value) c.deref.ensures.value) in
    let v = temporary.variable types f limit depth c.args.ty c.args.spot content rows cells now c.args.value c.in-Some-Object.temporary has in (
      in_hand types f limit depth c.args.ty c.args.spot content rows cells now,
      stands_at types f limit depth c.args.ty c.args.spot content rows cells now,
      record {
        placed = temporary.placed types f limit depth c.args.ty c.args.spot content rows cells now c.args.value c.in-Some-Object.temporary has;
        held = temporary.handed types f limit depth c.args.ty c.args.spot content rows cells now c.args.value c.in-Some-Object.temporary has;
        object = v.object;
        there = v.there;
        slot = v.slot;
        one = v.one;
        type = temporary.type_is types f limit depth c.args.ty c.args.spot content rows cells now c.args.value c.in-Some-Object.temporary has c.args.target (c.requires.given.1 c.in-Some-Object.temporary.birth (temporary.named types f limit depth c.args.ty c.args.spot content rows cells now c.args.value c.in-Some-Object.temporary has));
      },
    )

pub own_taken-requires-clause-early : goal.own_taken-requires-clause-early
own_taken-requires-clause-early g c = c.requires.at.ready.early

pub returns-in-Ok-clause-step : goal.returns-in-Ok-clause-step
returns-in-Ok-clause-step g c = λ s given.
    let types = types_in c.args.scope.now in
    let f = function_in c.args.scope.now in
    let content = g.S.Store.content c.args.store.now in
    let rows = g.S.Store.rows c.args.store.now in
    let limit = g.S.Store.limit c.args.store.now in
    let depth = c.args.depth in
    let cells = c.args.cells.now.items in
    let now = c.requires.at in
    let has = sym (sym (c.in-Some-Object.is ∙ ap Some c.in-Some-Object.field-0-is) ∙ c.cell_at.ensures ∙ ap (λ (cs : List Cell). slice_get cs c.args.value) c.deref.ensures.value) in
    taken_goes types f c.args.ty c.args.target c.requires.unique c.args.spot content rows cells s (g.S.Store.content c.own_taken.new.store) (g.S.Store.rows c.own_taken.new.store) c.args.value c.in-Some-Object.temporary.birth (temporary.named types f limit depth c.args.ty c.args.spot content rows cells now c.args.value c.in-Some-Object.temporary has) (c.requires.given.1 c.in-Some-Object.temporary.birth (temporary.named types f limit depth c.args.ty c.args.spot content rows cells now c.args.value c.in-Some-Object.temporary has)) c.put_cell.new.cells.items c.put_cell.ensures (Ok (tt {0})) (c.in-Ok.ensures.made s given)

pub returns-in-Err-clause-step : goal.returns-in-Err-clause-step
returns-in-Err-clause-step g c = λ s given.
    let types = types_in c.args.scope.now in
    let f = function_in c.args.scope.now in
    let content = g.S.Store.content c.args.store.now in
    let rows = g.S.Store.rows c.args.store.now in
    let limit = g.S.Store.limit c.args.store.now in
    let depth = c.args.depth in
    let cells = c.args.cells.now.items in
    let now = c.requires.at in
    let has = sym (sym (c.in-Some-Object.is ∙ ap Some c.in-Some-Object.field-0-is) ∙ c.cell_at.ensures ∙ ap (λ (cs : List Cell). slice_get cs c.args.value) c.deref.ensures.value) in
    let d = g.S.Store.content c.own_taken.new.store in
    let new = g.S.Store.rows c.own_taken.new.store in
    let named = temporary.named types f limit depth c.args.ty c.args.spot content rows cells now c.args.value c.in-Some-Object.temporary has in
    let emptied = slice_set cells c.args.value held.Empty in
    let failed : Result (Unit {0}) Failure = Err c.in-Err.failure in
    fails_alike (λ (st : State). made_of s types f (parts_at types c.args.ty) (spot_seen c.args.spot) c.args.value (cell st c.args.value) st) (meant types content rows) (meant types d new) (meant types d new) cells emptied cells c.in-Err.failure
    (taken_goes types f c.args.ty c.args.target c.requires.unique c.args.spot content rows cells s d new c.args.value c.in-Some-Object.temporary.birth named (c.requires.given.1 c.in-Some-Object.temporary.birth named) emptied refl failed (c.in-Err.ensures.made s given))

pub returns-in-Some-Empty-clause-step : goal.returns-in-Some-Empty-clause-step
returns-in-Some-Empty-clause-step g c = λ s given.
    let types = types_in c.args.scope.now in
    let f = function_in c.args.scope.now in
    let content = g.S.Store.content c.args.store.now in
    let rows = g.S.Store.rows c.args.store.now in
    let cells = c.args.cells.now.items in
    made_lost types f c.args.ty c.args.target c.requires.unique c.args.spot content rows cells s content rows c.args.value _
    (seen_there cells c.args.value c.cell_at.result (c.cell_at.ensures ∙ ap (λ (cs : List Cell). slice_get cs c.args.value) c.deref.ensures.value) ∙ ap (option_map cell_seen) (c.in-Some-Empty.is ∙ ap Some c.in-Some-Empty.field-0-is)) refl refl cells

pub returns-in-Some-Null-clause-step : goal.returns-in-Some-Null-clause-step
returns-in-Some-Null-clause-step g c = λ s given.
    let types = types_in c.args.scope.now in
    let f = function_in c.args.scope.now in
    let content = g.S.Store.content c.args.store.now in
    let rows = g.S.Store.rows c.args.store.now in
    let cells = c.args.cells.now.items in
    made_lost types f c.args.ty c.args.target c.requires.unique c.args.spot content rows cells s content rows c.args.value _
    (seen_there cells c.args.value c.cell_at.result (c.cell_at.ensures ∙ ap (λ (cs : List Cell). slice_get cs c.args.value) c.deref.ensures.value) ∙ ap (option_map cell_seen) (c.in-Some-Null.is ∙ ap Some c.in-Some-Null.field-0-is)) refl refl cells

pub returns-in-Some-Wild-clause-step : goal.returns-in-Some-Wild-clause-step
returns-in-Some-Wild-clause-step g c = λ s given.
    let types = types_in c.args.scope.now in
    let f = function_in c.args.scope.now in
    let content = g.S.Store.content c.args.store.now in
    let rows = g.S.Store.rows c.args.store.now in
    let cells = c.args.cells.now.items in
    made_lost types f c.args.ty c.args.target c.requires.unique c.args.spot content rows cells s content rows c.args.value _
    (seen_there cells c.args.value c.cell_at.result (c.cell_at.ensures ∙ ap (λ (cs : List Cell). slice_get cs c.args.value) c.deref.ensures.value) ∙ ap (option_map cell_seen) (c.in-Some-Wild.is ∙ ap Some c.in-Some-Wild.field-0-is)) refl refl cells

pub returns-in-Some-To-clause-step : goal.returns-in-Some-To-clause-step
returns-in-Some-To-clause-step g c = λ s given.
    let types = types_in c.args.scope.now in
    let f = function_in c.args.scope.now in
    let content = g.S.Store.content c.args.store.now in
    let rows = g.S.Store.rows c.args.store.now in
    let cells = c.args.cells.now.items in
    made_lost types f c.args.ty c.args.target c.requires.unique c.args.spot content rows cells s content rows c.args.value _
    (seen_there cells c.args.value c.cell_at.result (c.cell_at.ensures ∙ ap (λ (cs : List Cell). slice_get cs c.args.value) c.deref.ensures.value) ∙ ap (option_map cell_seen) (c.in-Some-To.is ∙ ap Some c.in-Some-To.field-0-is)) refl refl cells

pub returns-in-Some-Static-clause-step : goal.returns-in-Some-Static-clause-step
returns-in-Some-Static-clause-step g c = λ s given.
    let types = types_in c.args.scope.now in
    let f = function_in c.args.scope.now in
    let content = g.S.Store.content c.args.store.now in
    let rows = g.S.Store.rows c.args.store.now in
    let cells = c.args.cells.now.items in
    made_lost types f c.args.ty c.args.target c.requires.unique c.args.spot content rows cells s content rows c.args.value _
    (seen_there cells c.args.value c.cell_at.result (c.cell_at.ensures ∙ ap (λ (cs : List Cell). slice_get cs c.args.value) c.deref.ensures.value) ∙ ap (option_map cell_seen) (c.in-Some-Static.is ∙ ap Some c.in-Some-Static.field-0-is)) refl refl cells

pub returns-in-None-clause-step : goal.returns-in-None-clause-step
returns-in-None-clause-step g c = λ s given.
    let types = types_in c.args.scope.now in
    let f = function_in c.args.scope.now in
    let content = g.S.Store.content c.args.store.now in
    let rows = g.S.Store.rows c.args.store.now in
    let cells = c.args.cells.now.items in
    made_lost types f c.args.ty c.args.target c.requires.unique c.args.spot content rows cells s content rows c.args.value _
    (seen_there cells c.args.value c.cell_at.result (c.cell_at.ensures ∙ ap (λ (cs : List Cell). slice_get cs c.args.value) c.deref.ensures.value) ∙ ap (option_map cell_seen) c.in-None.is) refl refl cells

pub returns-in-Ok-clause-fits : goal.returns-in-Ok-clause-fits
returns-in-Ok-clause-fits g c =
    let types = types_in c.args.scope.now in
    let content = g.S.Store.content c.args.store.now in
    let rows = g.S.Store.rows c.args.store.now in
    let limit = g.S.Store.limit c.args.store.now in
    let cells = c.args.cells.now.items in
    let now = c.requires.at in
    let s = some_given growth.Always limit [] in
    let d = g.S.Store.content c.own_taken.new.store in
    let new = g.S.Store.rows c.own_taken.new.store in
    let made = c.in-Ok.ensures.made s refl in
    let behind = c.in-Ok.ensures.behind in
    emptied_fits types content d rows new cells now.ready.early now.ready.fits.held made.2.housed c.in-Ok.ensures.rowed c.in-Ok.ensures.later behind.1 c.args.value c.put_cell.new.cells.items c.put_cell.ensures

pub returns-in-Ok-clause-bounded : goal.returns-in-Ok-clause-bounded
returns-in-Ok-clause-bounded g c = c.in-Ok.ensures.behind.0

pub returns-in-Ok-clause-grows : goal.returns-in-Ok-clause-grows
returns-in-Ok-clause-grows g c = c.in-Ok.ensures.behind.1
