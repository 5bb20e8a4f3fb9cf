use Rattle.std.proofs.Common.{[], Err, refl, subst, sym, ◌∷◌, ◌+◌, ℕ}
use Rattle.life_changes.specs.Owners.{StandsAt}
use Rattle.life_forest.specs.Owned.{times}
use Rattle.life_store.specs.Parts.{parts_at}
use Rattle.life_store.specs.declared.run.Growth.TheVariants as growth
use Rattle.life_seen.specs.Kinds.{kinds_of}
use Rattle.life_seen.proofs.References.{later_then}
use Rattle.life_pointers.specs.Owned.{spot_seen}
use Rattle.life_cells.specs.Fits.{meant}
use Rattle.life_cells.specs.Scopes.{types_in}
use Rattle.life_changes.specs.NewObjects.{made_with, taken_value}
use Rattle.life_changes.specs.Steps.{Gets}
use Rattle.life_changes.specs.declared.failure.Failure.{Failure}
use Rattle.life_changes.proofs.Frames.{some_given}
use Rattle.life_changes.proofs.MadeObjects.{beside, taken_whole, temporary_small}
use Rattle.life_changes.proofs.OwnedObjects.{behind_then, held_then, owns_it, owns_none, placed_then, stands_then}
use Rattle.life_changes.proofs.owning.own_taken.Goals as goal

pub taken_object-requires-clause-given : goal.taken_object-requires-clause-given
taken_object-requires-clause-given g c = (c.requires.stands.0, c.requires.stands.1.store, c.requires.stands.2)

pub taken_object-requires-clause-small : goal.taken_object-requires-clause-small
taken_object-requires-clause-small g c =
    let types = types_in c.args.scope.now in
    let content = g.S.Store.content c.args.store.now in
    let rows = g.S.Store.rows c.args.store.now in
    let limit = g.S.Store.limit c.args.store.now in
    let depth = c.args.depth in
    temporary_small types limit depth c.requires.stands.0 c.args.ty c.args.spot content rows c.requires.stands.1 c.args.target c.args.temporary c.requires.stands.2

pub returns-in-Err-clause-made : goal.returns-in-Err-clause-made
returns-in-Err-clause-made g c = λ s given.
    let types = types_in c.args.scope.now in
    let content = g.S.Store.content c.args.store.now in
    let rows = g.S.Store.rows c.args.store.now in
    let limit = g.S.Store.limit c.args.store.now in
    let depth = c.args.depth in
    let d = g.S.Store.content c.taken_object.new.store in
    let new = g.S.Store.rows c.taken_object.new.store in
    subst (λ (why : Failure). Gets {A = Unit {0}} (kinds_of types) (made_with s (parts_at types c.args.ty) (spot_seen c.args.spot) (taken_value c.args.temporary.birth) (meant types content rows)) (Err why) d new) (sym c.unborn.ensures)
    (owns_none types c.args.ty c.args.target c.requires.unique c.args.spot content rows s (taken_value c.args.temporary.birth) c.in-Err.fault d new (c.in-Err.ensures.bears s given))

pub own_made-requires-clause-stands : goal.own_made-requires-clause-stands
own_made-requires-clause-stands g c =
    let types = types_in c.args.scope.now in
    let content = g.S.Store.content c.args.store.now in
    let rows = g.S.Store.rows c.args.store.now in
    let limit = g.S.Store.limit c.args.store.now in
    let depth = c.args.depth in
    let hand = c.requires.stands.0 in
    let here = c.requires.stands.1 in
    let s = some_given growth.Always limit [] in
    let d = g.S.Store.content c.taken_object.new.store in
    let new = g.S.Store.rows c.taken_object.new.store in
    let bears = c.in-Ok.ensures.bears s refl in
    let rowed = c.in-Ok.ensures.rowed here.rowed in
    let all = taken_whole types limit depth hand c.args.ty c.args.spot content rows here c.args.target c.requires.unique s refl c.args.temporary c.requires.stands.2 in
    let after : ℕ → ℕ = λ k. times (c.in-Ok.object.birth ∷ []) k + beside hand c.args.temporary.birth k in (
      after,
      subst (λ l. StandsAt types l depth after c.args.ty c.args.spot d new) (sym c.taken_object.ensures.limit) (stands_then types limit depth hand c.args.ty c.args.spot content rows here c.requires.early c.args.target c.requires.unique (beside hand c.args.temporary.birth) s (taken_value c.args.temporary.birth) all c.in-Ok.object d new bears rowed c.in-Ok.ensures.later),
      held_then types limit depth hand c.args.ty c.args.spot content rows here c.requires.early c.args.target c.requires.unique (beside hand c.args.temporary.birth) s (taken_value c.args.temporary.birth) all c.in-Ok.object d new bears rowed c.in-Ok.ensures.later,
    )

pub own_made-requires-clause-placed : goal.own_made-requires-clause-placed
own_made-requires-clause-placed g c =
    let types = types_in c.args.scope.now in
    let content = g.S.Store.content c.args.store.now in
    let rows = g.S.Store.rows c.args.store.now in
    let limit = g.S.Store.limit c.args.store.now in
    let depth = c.args.depth in
    let hand = c.requires.stands.0 in
    let here = c.requires.stands.1 in
    let s = some_given growth.Always limit [] in
    let d = g.S.Store.content c.taken_object.new.store in
    let new = g.S.Store.rows c.taken_object.new.store in
    let bears = c.in-Ok.ensures.bears s refl in
    let rowed = c.in-Ok.ensures.rowed here.rowed in
    let all = taken_whole types limit depth hand c.args.ty c.args.spot content rows here c.args.target c.requires.unique s refl c.args.temporary c.requires.stands.2 in
    placed_then types limit depth hand c.args.ty c.args.spot content rows here c.requires.early c.args.target c.requires.unique (beside hand c.args.temporary.birth) s (taken_value c.args.temporary.birth) all c.in-Ok.object d new bears rowed c.in-Ok.ensures.later

pub own_made-requires-clause-unique : goal.own_made-requires-clause-unique
own_made-requires-clause-unique g c = (c.args.target, c.requires.unique)

pub returns-in-Ok-clause-made : goal.returns-in-Ok-clause-made
returns-in-Ok-clause-made g c = λ s given.
    let types = types_in c.args.scope.now in
    let content = g.S.Store.content c.args.store.now in
    let rows = g.S.Store.rows c.args.store.now in
    let limit = g.S.Store.limit c.args.store.now in
    let depth = c.args.depth in
    owns_it types c.args.ty c.args.target c.requires.unique c.args.spot content rows s (taken_value c.args.temporary.birth) c.in-Ok.object (g.S.Store.content c.taken_object.new.store) (g.S.Store.rows c.taken_object.new.store) (c.in-Ok.ensures.bears s given) (g.S.Store.content c.own_made.new.store) (g.S.Store.rows c.own_made.new.store) c.own_made.ensures.shows

pub returns-in-Ok-clause-behind : goal.returns-in-Ok-clause-behind
returns-in-Ok-clause-behind g c =
    let types = types_in c.args.scope.now in
    let content = g.S.Store.content c.args.store.now in
    let rows = g.S.Store.rows c.args.store.now in
    let limit = g.S.Store.limit c.args.store.now in
    let depth = c.args.depth in
    let hand = c.requires.stands.0 in
    let here = c.requires.stands.1 in
    let s = some_given growth.Always limit [] in
    let d = g.S.Store.content c.taken_object.new.store in
    let new = g.S.Store.rows c.taken_object.new.store in
    let bears = c.in-Ok.ensures.bears s refl in
    let rowed = c.in-Ok.ensures.rowed here.rowed in
    let all = taken_whole types limit depth hand c.args.ty c.args.spot content rows here c.args.target c.requires.unique s refl c.args.temporary c.requires.stands.2 in
    behind_then types limit depth hand c.args.ty c.args.spot content rows here c.requires.early c.args.target c.requires.unique (beside hand c.args.temporary.birth) s (taken_value c.args.temporary.birth) all c.in-Ok.object d new bears rowed c.in-Ok.ensures.later (g.S.Store.content c.own_made.new.store) (g.S.Store.rows c.own_made.new.store) c.own_made.ensures.shows

pub returns-in-Ok-clause-later : goal.returns-in-Ok-clause-later
returns-in-Ok-clause-later g c = later_then (g.S.Store.content c.args.store.now) (g.S.Store.content c.taken_object.new.store) (g.S.Store.content c.own_made.new.store) (g.S.Store.rows c.args.store.now) (g.S.Store.rows c.taken_object.new.store) (g.S.Store.rows c.own_made.new.store) c.in-Ok.ensures.later c.own_made.ensures.later
