use Rattle.std.proofs.Common.{List, Ok, Err, subst, sym, ◌∙◌}
use Rattle.std.proofs.lemmas.Option.{none-some}
use Rattle.life_core.specs.Operands.{operand_of}
use Rattle.life_core.specs.Step.{change_of}
use Rattle.life_store.specs.Doing.{changed, changes}
use Rattle.life_store.specs.Parts.{parts_at}
use Rattle.life_pointers.specs.Owned.{spot_seen}
use Rattle.life_cells.specs.Fits.{meant}
use Rattle.life_cells.specs.Owners.{IsSpot}
use Rattle.life_cells.specs.Scopes.{function_in, types_in}
use Rattle.life_cells.specs.declared.cell.Cell.{Cell}
use Rattle.life_changes.proofs.Spots.{change_typed, is_container, owner_at}
use Rattle.life_changes.proofs.Ways.{changes_found, changes_stops, goes_alike}
use Rattle.life_changes.proofs.changing.change.Goals as goal

pub returns-in-Err-clause-step : goal.returns-in-Err-clause-step
returns-in-Err-clause-step g c = λ s given output input.
    let types = types_in c.args.scope.now in
    let f = function_in c.args.scope.now in
    let content = g.S.Store.content c.args.store.now in
    let rows = g.S.Store.rows c.args.store.now in
    let limit = g.S.Store.limit c.args.store.now in
    let cells = c.args.cells.now.items in
    changes_stops s types f (operand_of c.args.place.now) (change_of c.args.change.now) (meant types content rows) cells c.in-Err.stop
    (subst (λ (cs : List Cell). IsSpot types f (operand_of c.args.place.now) (meant types content rows) cs (Err c.in-Err.stop)) c.deref.ensures.value c.in-Err.ensures.is) output input

pub returns-in-None-clause-step : goal.returns-in-None-clause-step
returns-in-None-clause-step g c = absurd (none-some c.requires.typed.0 (sym c.in-None.is ∙ c.operand_type.ensures ∙ c.requires.typed.1.0))

pub changed-requires-clause-at : goal.changed-requires-clause-at
changed-requires-clause-at g c =
    let types = types_in c.args.scope.now in
    let f = function_in c.args.scope.now in
    let content = g.S.Store.content c.args.store.now in
    let rows = g.S.Store.rows c.args.store.now in
    let limit = g.S.Store.limit c.args.store.now in
    let cells = c.args.cells.now.items in
    owner_at types f limit c.args.depth content rows cells c.requires.served c.requires.ready (operand_of c.args.place.now) (change_of c.args.change.now) c.requires.owner c.requires.typed c.in-Ok.spot
    (subst (λ (cs : List Cell). IsSpot types f (operand_of c.args.place.now) (meant types content rows) cs (Ok c.in-Ok.spot)) c.deref.ensures.value c.in-Ok.ensures.is) c.in-Ok.ensures.owns c.in-Some.ty (sym c.in-Some.is ∙ c.operand_type.ensures)

pub changed-requires-clause-container : goal.changed-requires-clause-container
changed-requires-clause-container g c =
    let types = types_in c.args.scope.now in
    let f = function_in c.args.scope.now in
    let content = g.S.Store.content c.args.store.now in
    let rows = g.S.Store.rows c.args.store.now in
    let limit = g.S.Store.limit c.args.store.now in
    let cells = c.args.cells.now.items in
    is_container types f limit c.args.depth content rows cells c.requires.served c.requires.ready (operand_of c.args.place.now) (change_of c.args.change.now) c.requires.owner c.requires.typed c.in-Ok.spot
    (subst (λ (cs : List Cell). IsSpot types f (operand_of c.args.place.now) (meant types content rows) cs (Ok c.in-Ok.spot)) c.deref.ensures.value c.in-Ok.ensures.is) c.in-Ok.ensures.owns c.in-Some.ty (sym c.in-Some.is ∙ c.operand_type.ensures)

pub changed-requires-clause-typed : goal.changed-requires-clause-typed
changed-requires-clause-typed g c =
    let types = types_in c.args.scope.now in
    let f = function_in c.args.scope.now in
    let content = g.S.Store.content c.args.store.now in
    let rows = g.S.Store.rows c.args.store.now in
    let limit = g.S.Store.limit c.args.store.now in
    let cells = c.args.cells.now.items in
    change_typed types f limit c.args.depth content rows cells c.requires.served c.requires.ready (operand_of c.args.place.now) (change_of c.args.change.now) c.requires.owner c.requires.typed c.in-Ok.spot
    (subst (λ (cs : List Cell). IsSpot types f (operand_of c.args.place.now) (meant types content rows) cs (Ok c.in-Ok.spot)) c.deref.ensures.value c.in-Ok.ensures.is) c.in-Ok.ensures.owns c.in-Some.ty (sym c.in-Some.is ∙ c.operand_type.ensures)

pub returns-in-Some-clause-step : goal.returns-in-Some-clause-step
returns-in-Some-clause-step g c = λ s given.
    let types = types_in c.args.scope.now in
    let f = function_in c.args.scope.now in
    let content = g.S.Store.content c.args.store.now in
    let rows = g.S.Store.rows c.args.store.now in
    let limit = g.S.Store.limit c.args.store.now in
    let cells = c.args.cells.now.items in
    let m = meant types content rows in
    goes_alike (changes s types f (operand_of c.args.place.now) (change_of c.args.change.now)) (changed s types f (parts_at types c.in-Some.ty) (spot_seen c.in-Ok.spot) (change_of c.args.change.now)) m cells
    (changes_found s types f (operand_of c.args.place.now) (change_of c.args.change.now) m cells c.in-Ok.spot
    (subst (λ (cs : List Cell). IsSpot types f (operand_of c.args.place.now) m cs (Ok c.in-Ok.spot)) c.deref.ensures.value c.in-Ok.ensures.is) c.in-Some.ty (sym c.in-Some.is ∙ c.operand_type.ensures))
    _ _ c.changed.result (c.changed.ensures.step s given)
