use Rattle.std.proofs.Common.{◌≡◌, Some, ap, subst, sym, ◌∙◌}
use Rattle.std.proofs.lemmas.Option.{none-some}
use Rattle.life_types.specs.declared.ty.TyId.{TyId}
use Rattle.life_core.specs.Operands.{location_of}
use Rattle.life_core.specs.declared.instr.Made.TheVariants as made
use Rattle.life_store.specs.Doing.{makes}
use Rattle.life_store.specs.Parts.{parts_at, Unique}
use Rattle.life_pointers.specs.Owned.{spot_seen}
use Rattle.life_cells.specs.Fits.{meant}
use Rattle.life_cells.specs.Scopes.{function_in, types_in}
use Rattle.life_changes.proofs.MakingWays.{made_at, makes_found, makes_stops}
use Rattle.life_changes.proofs.Spots.{local_at, same_type}
use Rattle.life_changes.proofs.Ways.{goes_alike}
use Rattle.life_changes.proofs.making.make_zero.Goals as goal

pub returns-in-Err-clause-step : goal.returns-in-Err-clause-step
returns-in-Err-clause-step g c = λ s given output input.
    let types = types_in c.args.scope.now in
    let f = function_in c.args.scope.now in
    let content = g.S.Store.content c.args.store.now in
    let rows = g.S.Store.rows c.args.store.now in
    let limit = g.S.Store.limit c.args.store.now in
    let cells = c.args.cells.now in
    let m = meant types content rows in
    makes_stops s types f (location_of c.args.owner.now) made.Zero m cells c.in-Err.stop c.in-Err.ensures.is output input

pub returns-in-None-clause-step : goal.returns-in-None-clause-step
returns-in-None-clause-step g c = absurd (none-some c.requires.typed.0 (sym c.in-None.is ∙ c.location_type.ensures ∙ c.requires.typed.2))

pub zero_at-requires-clause-at : goal.zero_at-requires-clause-at
zero_at-requires-clause-at g c =
    let types = types_in c.args.scope.now in
    let f = function_in c.args.scope.now in
    let content = g.S.Store.content c.args.store.now in
    let rows = g.S.Store.rows c.args.store.now in
    let limit = g.S.Store.limit c.args.store.now in
    let cells = c.args.cells.now in
    let m = meant types content rows in
    let typed = c.requires.typed in
    let same = same_type typed.0 c.in-Some.ty (sym typed.2 ∙ sym c.location_type.ensures ∙ c.in-Some.is) in
    local_at types f limit c.args.depth content rows cells c.requires.served c.requires.ready (location_of c.args.owner.now) c.in-Some.ty (typed.2 ∙ ap Some same) c.requires.owner c.in-Ok.spot c.in-Ok.ensures.owns c.in-Ok.ensures.is

pub zero_at-requires-clause-unique : goal.zero_at-requires-clause-unique
zero_at-requires-clause-unique g c =
    let types = types_in c.args.scope.now in
    let f = function_in c.args.scope.now in
    let content = g.S.Store.content c.args.store.now in
    let rows = g.S.Store.rows c.args.store.now in
    let limit = g.S.Store.limit c.args.store.now in
    let cells = c.args.cells.now in
    let m = meant types content rows in
    let typed = c.requires.typed in
    let same = same_type typed.0 c.in-Some.ty (sym typed.2 ∙ sym c.location_type.ensures ∙ c.in-Some.is) in
    (typed.1, subst (λ (t : TyId). parts_at types t ≡ Unique typed.1 (parts_at types typed.1)) same typed.3)

pub returns-in-Some-clause-step : goal.returns-in-Some-clause-step
returns-in-Some-clause-step g c = λ s given.
    let types = types_in c.args.scope.now in
    let f = function_in c.args.scope.now in
    let content = g.S.Store.content c.args.store.now in
    let rows = g.S.Store.rows c.args.store.now in
    let limit = g.S.Store.limit c.args.store.now in
    let cells = c.args.cells.now in
    let m = meant types content rows in
    goes_alike (makes s types f (location_of c.args.owner.now) made.Zero) (made_at s types f made.Zero (parts_at types c.in-Some.ty) (spot_seen c.in-Ok.spot)) m cells
    (makes_found s types f (location_of c.args.owner.now) made.Zero m cells c.in-Ok.spot c.in-Ok.ensures.is c.in-Some.ty (sym c.in-Some.is ∙ c.location_type.ensures))
    _ _ c.zero_at.result (c.zero_at.ensures.step s given)
