use Rattle.std.proofs.Common.{◌≡◌, [], ap, refl, subst, sym, ◌∙◌}
use Rattle.std.proofs.lemmas.Option.{none-some}
use Rattle.life_types.specs.declared.ty.TyId.{TyId}
use Rattle.life_store.specs.Parts.{parts_at, Unique}
use Rattle.life_store.specs.declared.run.Growth.TheVariants as growth
use Rattle.life_pointers.specs.Owned.{spot_seen}
use Rattle.life_cells.specs.Fits.{meant}
use Rattle.life_cells.specs.Scopes.{function_in, types_in}
use Rattle.life_changes.specs.NewObjects.{fresh_value, made_with}
use Rattle.life_changes.proofs.Behind.{told_bounded, told_fits, told_grows}
use Rattle.life_changes.proofs.Frames.{in_hand, some_given, stands_at}
use Rattle.life_changes.specs.Owners.{target_in}
use Rattle.life_changes.proofs.MakingWays.{fresh_goes, same_target, told_target}
use Rattle.life_changes.proofs.making.zero_at.Goals as goal

pub own_fresh-requires-clause-stands : goal.own_fresh-requires-clause-stands
own_fresh-requires-clause-stands g c =
    let types = types_in c.args.scope.now in
    let f = function_in c.args.scope.now in
    let content = g.S.Store.content c.args.store.now in
    let rows = g.S.Store.rows c.args.store.now in
    let limit = g.S.Store.limit c.args.store.now in
    let depth = c.args.depth in
    let cells = c.args.cells.now in
    let now = c.requires.at in
    (in_hand types f limit depth c.args.ty c.args.spot content rows cells now, stands_at types f limit depth c.args.ty c.args.spot content rows cells now)

pub own_fresh-requires-clause-early : goal.own_fresh-requires-clause-early
own_fresh-requires-clause-early g c = c.requires.at.ready.early

pub own_fresh-requires-clause-unique : goal.own_fresh-requires-clause-unique
own_fresh-requires-clause-unique g c =
    let types = types_in c.args.scope.now in
    let f = function_in c.args.scope.now in
    let content = g.S.Store.content c.args.store.now in
    let rows = g.S.Store.rows c.args.store.now in
    let limit = g.S.Store.limit c.args.store.now in
    let depth = c.args.depth in
    let cells = c.args.cells.now in
    let now = c.requires.at in
    let unique = c.requires.unique in
    let told = told_target types c.args.ty unique.0 c.target_of.result unique.1 (c.target_of.ensures ∙ ap target_in c.first_part.ensures) in
    let same = same_target unique.0 c.in-Some.target (sym told ∙ c.in-Some.is) in
    let is = subst (λ (k : TyId). parts_at types c.args.ty ≡ Unique k (parts_at types k)) same unique.1 in
    is

pub returns-in-Some-clause-step : goal.returns-in-Some-clause-step
returns-in-Some-clause-step g c = λ s given.
    let types = types_in c.args.scope.now in
    let f = function_in c.args.scope.now in
    let content = g.S.Store.content c.args.store.now in
    let rows = g.S.Store.rows c.args.store.now in
    let limit = g.S.Store.limit c.args.store.now in
    let depth = c.args.depth in
    let cells = c.args.cells.now in
    let now = c.requires.at in
    let unique = c.requires.unique in
    let told = told_target types c.args.ty unique.0 c.target_of.result unique.1 (c.target_of.ensures ∙ ap target_in c.first_part.ensures) in
    let same = same_target unique.0 c.in-Some.target (sym told ∙ c.in-Some.is) in
    let is = subst (λ (k : TyId). parts_at types c.args.ty ≡ Unique k (parts_at types k)) same unique.1 in
    fresh_goes types f c.args.ty c.in-Some.target is c.args.spot content rows cells s (g.S.Store.content c.own_fresh.new.store) (g.S.Store.rows c.own_fresh.new.store) c.own_fresh.result (c.own_fresh.ensures.made s given)

pub returns-in-Some-clause-fits : goal.returns-in-Some-clause-fits
returns-in-Some-clause-fits g c =
    let types = types_in c.args.scope.now in
    let f = function_in c.args.scope.now in
    let content = g.S.Store.content c.args.store.now in
    let rows = g.S.Store.rows c.args.store.now in
    let limit = g.S.Store.limit c.args.store.now in
    let depth = c.args.depth in
    let cells = c.args.cells.now in
    let now = c.requires.at in
    let s = some_given growth.Always limit [] in
    let d = g.S.Store.content c.own_fresh.new.store in
    let new = g.S.Store.rows c.own_fresh.new.store in
    told_fits types limit content d rows new (made_with s (parts_at types c.args.ty) (spot_seen c.args.spot) (fresh_value s) (meant types content rows)) cells now.ready.early now.ready.fits.held c.own_fresh.result c.own_fresh.ensures.behind (c.own_fresh.ensures.made s refl) c.own_fresh.ensures.rowed c.own_fresh.ensures.later

pub returns-in-Some-clause-bounded : goal.returns-in-Some-clause-bounded
returns-in-Some-clause-bounded g c =
    let types = types_in c.args.scope.now in
    let f = function_in c.args.scope.now in
    let content = g.S.Store.content c.args.store.now in
    let rows = g.S.Store.rows c.args.store.now in
    let limit = g.S.Store.limit c.args.store.now in
    let depth = c.args.depth in
    let cells = c.args.cells.now in
    let now = c.requires.at in
    let s = some_given growth.Always limit [] in
    let d = g.S.Store.content c.own_fresh.new.store in
    let new = g.S.Store.rows c.own_fresh.new.store in
    told_bounded types limit content d rows new c.own_fresh.result c.own_fresh.ensures.behind

pub returns-in-Some-clause-grows : goal.returns-in-Some-clause-grows
returns-in-Some-clause-grows g c =
    let types = types_in c.args.scope.now in
    let f = function_in c.args.scope.now in
    let content = g.S.Store.content c.args.store.now in
    let rows = g.S.Store.rows c.args.store.now in
    let limit = g.S.Store.limit c.args.store.now in
    let depth = c.args.depth in
    let cells = c.args.cells.now in
    let now = c.requires.at in
    let s = some_given growth.Always limit [] in
    let d = g.S.Store.content c.own_fresh.new.store in
    let new = g.S.Store.rows c.own_fresh.new.store in
    told_grows types limit content d rows new c.own_fresh.result c.own_fresh.ensures.behind

pub returns-in-None-clause-step : goal.returns-in-None-clause-step
returns-in-None-clause-step g c =
    let types = types_in c.args.scope.now in
    let unique = c.requires.unique in
    absurd (none-some unique.0 (sym c.in-None.is ∙ told_target types c.args.ty unique.0 c.target_of.result unique.1 (c.target_of.ensures ∙ ap target_in c.first_part.ensures)))
