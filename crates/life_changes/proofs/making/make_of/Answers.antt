use Rattle.std.proofs.Common.{◌≡◌, List, Some, Err, ap, subst, sym, ◌∙◌}
use Rattle.std.proofs.lemmas.Option.{none-some}
use Rattle.life_types.specs.declared.ty.TyId.{TyId}
use Rattle.life_core.specs.Operands.{location_of}
use Rattle.life_core.specs.declared.instr.Made.TheVariants as made
use Rattle.life_store.specs.Doing.{makes}
use Rattle.life_store.specs.Effects.{cell}
use Rattle.life_store.specs.Parts.{parts_at, Unique}
use Rattle.life_pointers.specs.Owned.{spot_seen}
use Rattle.life_cells.specs.Cells.{state_in}
use Rattle.life_cells.specs.Fits.{meant}
use Rattle.life_cells.specs.Scopes.{function_in, types_in}
use Rattle.life_store.specs.Effects.{Got}
use Rattle.life_store.specs.Places.{owner_spot_if}
use Rattle.life_pointers.specs.Attempts.{tried}
use Rattle.life_pointers.specs.declared.owned.Spot.{Spot}
use Rattle.life_cells.specs.declared.cell.Cell.{Cell}
use Rattle.life_changes.proofs.MakingWays.{made_at, makes_found, makes_stops}
use Rattle.life_changes.proofs.Spots.{local_at, same_type}
use Rattle.life_changes.proofs.Ways.{goes_alike}
use Rattle.life_changes.proofs.making.make_of.Goals as goal

pub returns-in-Err-clause-step : goal.returns-in-Err-clause-step
returns-in-Err-clause-step g c = λ s given output input.
    let types = types_in c.args.scope.now in
    let f = function_in c.args.scope.now in
    let content = g.S.Store.content c.args.store.now in
    let rows = g.S.Store.rows c.args.store.now in
    let limit = g.S.Store.limit c.args.store.now in
    let cells = c.args.cells.now.items in
    let m = meant types content rows in
    makes_stops s types f (location_of c.args.owner.now) (made.Of c.args.value) m cells c.in-Err.stop (subst (λ (cs : List Cell). tried {A = Spot} spot_seen (Err c.in-Err.stop) ≡ owner_spot_if types f (location_of c.args.owner.now) (cell (state_in m cs) (location_of c.args.owner.now).local)) c.deref.ensures.value c.in-Err.ensures.is) output input

pub returns-in-None-clause-step : goal.returns-in-None-clause-step
returns-in-None-clause-step g c = absurd (none-some c.requires.typed.0 (sym c.in-None.is ∙ c.location_type.ensures ∙ c.requires.typed.2))

pub of_at-requires-clause-at : goal.of_at-requires-clause-at
of_at-requires-clause-at g c =
    let types = types_in c.args.scope.now in
    let f = function_in c.args.scope.now in
    let content = g.S.Store.content c.args.store.now in
    let rows = g.S.Store.rows c.args.store.now in
    let limit = g.S.Store.limit c.args.store.now in
    let cells = c.args.cells.now.items in
    let m = meant types content rows in
    let typed = c.requires.typed in
    let same = same_type typed.0 c.in-Some.ty (sym typed.2 ∙ sym c.location_type.ensures ∙ c.in-Some.is) in
    local_at types f limit c.args.depth content rows cells c.requires.served c.requires.ready (location_of c.args.owner.now) c.in-Some.ty (typed.2 ∙ ap Some same) c.requires.owner c.in-Ok.spot c.in-Ok.ensures.owns (subst (λ (cs : List Cell). Got (spot_seen c.in-Ok.spot) ≡ owner_spot_if types f (location_of c.args.owner.now) (cell (state_in m cs) (location_of c.args.owner.now).local)) c.deref.ensures.value c.in-Ok.ensures.is)

pub of_at-requires-clause-unique : goal.of_at-requires-clause-unique
of_at-requires-clause-unique g c =
    let types = types_in c.args.scope.now in
    let f = function_in c.args.scope.now in
    let content = g.S.Store.content c.args.store.now in
    let rows = g.S.Store.rows c.args.store.now in
    let limit = g.S.Store.limit c.args.store.now in
    let cells = c.args.cells.now.items in
    let m = meant types content rows in
    let typed = c.requires.typed in
    let same = same_type typed.0 c.in-Some.ty (sym typed.2 ∙ sym c.location_type.ensures ∙ c.in-Some.is) in
    (typed.1, subst (λ (t : TyId). parts_at types t ≡ Unique typed.1 (parts_at types typed.1)) same typed.3, typed.4)

pub returns-in-Some-clause-step : goal.returns-in-Some-clause-step
returns-in-Some-clause-step g c = λ s given.
    let types = types_in c.args.scope.now in
    let f = function_in c.args.scope.now in
    let content = g.S.Store.content c.args.store.now in
    let rows = g.S.Store.rows c.args.store.now in
    let limit = g.S.Store.limit c.args.store.now in
    let cells = c.args.cells.now.items in
    let m = meant types content rows in
    goes_alike (makes s types f (location_of c.args.owner.now) (made.Of c.args.value)) (made_at s types f (made.Of c.args.value) (parts_at types c.in-Some.ty) (spot_seen c.in-Ok.spot)) m cells
    (makes_found s types f (location_of c.args.owner.now) (made.Of c.args.value) m cells c.in-Ok.spot (subst (λ (cs : List Cell). Got (spot_seen c.in-Ok.spot) ≡ owner_spot_if types f (location_of c.args.owner.now) (cell (state_in m cs) (location_of c.args.owner.now).local)) c.deref.ensures.value c.in-Ok.ensures.is) c.in-Some.ty (sym c.in-Some.is ∙ c.location_type.ensures))
    _ _ c.of_at.result (c.of_at.ensures.step s given)
