use Rattle.std.proofs.Common.{◌≡◌, ap, subst, sym, ◌∙◌}
use Rattle.std.proofs.lemmas.Option.{none-some}
use Rattle.life_types.specs.declared.ty.TyId.{TyId}
use Rattle.life_store.specs.Parts.{parts_at, Unique}
use Rattle.life_forest.proofs.StandingSteps.{IsGivenTo}
use Rattle.life_cells.specs.Cells.{state_in}
use Rattle.life_cells.specs.Fits.{meant}
use Rattle.life_cells.specs.Scopes.{function_in, types_in}
use Rattle.life_changes.specs.Owners.{target_in}
use Rattle.life_changes.proofs.MakingWays.{same_target, told_target}
use Rattle.life_changes.proofs.making.of_at.Goals as goal

pub of_target-requires-clause-unique : goal.of_target-requires-clause-unique
of_target-requires-clause-unique g c =
    let types = types_in c.args.scope.now in
    let f = function_in c.args.scope.now in
    let content = g.S.Store.content c.args.store.now in
    let rows = g.S.Store.rows c.args.store.now in
    let limit = g.S.Store.limit c.args.store.now in
    let depth = c.args.depth in
    let cells = c.args.cells.now.items in
    let now = c.requires.at in
    let unique = c.requires.unique in
    let told = told_target types c.args.ty unique.0 c.target_of.result unique.1 (c.target_of.ensures ∙ ap target_in c.first_part.ensures) in
    let same = same_target unique.0 c.in-Some.target (sym told ∙ c.in-Some.is) in
    let is = subst (λ (k : TyId). parts_at types c.args.ty ≡ Unique k (parts_at types k)) same unique.1 in
    is

pub of_target-requires-clause-given : goal.of_target-requires-clause-given
of_target-requires-clause-given g c =
    let types = types_in c.args.scope.now in
    let f = function_in c.args.scope.now in
    let content = g.S.Store.content c.args.store.now in
    let rows = g.S.Store.rows c.args.store.now in
    let limit = g.S.Store.limit c.args.store.now in
    let depth = c.args.depth in
    let cells = c.args.cells.now.items in
    let now = c.requires.at in
    let unique = c.requires.unique in
    let told = told_target types c.args.ty unique.0 c.target_of.result unique.1 (c.target_of.ensures ∙ ap target_in c.first_part.ensures) in
    let same = same_target unique.0 c.in-Some.target (sym told ∙ c.in-Some.is) in
    let is = subst (λ (k : TyId). parts_at types c.args.ty ≡ Unique k (parts_at types k)) same unique.1 in
    subst (λ (k : TyId). IsGivenTo types f (state_in (meant types content rows) cells) k c.args.value) same unique.2

pub returns-in-None-clause-step : goal.returns-in-None-clause-step
returns-in-None-clause-step g c =
    let types = types_in c.args.scope.now in
    let unique = c.requires.unique in
    absurd (none-some unique.0 (sym c.in-None.is ∙ told_target types c.args.ty unique.0 c.target_of.result unique.1 (c.target_of.ensures ∙ ap target_in c.first_part.ensures)))
