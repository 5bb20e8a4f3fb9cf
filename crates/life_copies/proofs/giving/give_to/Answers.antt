use Rattle.std.proofs.Common.{◌≡◌, Some, sym, subst}
use Rattle.life_store.specs.Cells.{at}
use Rattle.life_store.specs.Content.{Object}
use Rattle.life_store.specs.Parts.{local_parts, parts_at}
use Rattle.life_seen.specs.Kinds.{kinds_of}
use Rattle.life_values.specs.Moved.{place}
use Rattle.life_moves.specs.MovedTo.{given_to, CanMoveTo, Gives}
use Rattle.life_pointers.specs.Owned.{spot_seen}
use Rattle.life_cells.specs.Fits.{meant}
use Rattle.life_cells.specs.Scopes.{function_in, types_in}
use Rattle.life_changes.specs.Steps.{Gets}
use Rattle.life_copies.proofs.Behind.{grows_behind}
use Rattle.life_copies.proofs.Given.{as_given, behind_give, can_give, fits_give, given_gets}
use Rattle.life_copies.proofs.giving.give_to.Goals as goal

pub move_to-requires-clause-layouts : goal.move_to-requires-clause-layouts
move_to-requires-clause-layouts g c = c.args.scope.now.laid

pub move_to-requires-clause-ordered : goal.move_to-requires-clause-ordered
move_to-requires-clause-ordered g c = c.requires.giver.target.owner.served.ordered

pub move_to-requires-clause-can : goal.move_to-requires-clause-can
move_to-requires-clause-can g c = subst (λ w. CanMoveTo (types_in c.args.scope.now) c.args.depth c.args.object w (g.S.Store.content c.args.store.now) (g.S.Store.rows c.args.store.now)) (sym c.wide-spot.ensures) (can_give (types_in c.args.scope.now) (function_in c.args.scope.now) (g.S.Store.limit c.args.store.now) c.args.depth c.args.from c.args.object c.args.target (g.S.Store.content c.args.store.now) (g.S.Store.rows c.args.store.now) c.args.cells.now c.requires.giver)

pub returns-then-move_to-clause-gets : goal.returns-then-move_to-clause-gets
returns-then-move_to-clause-gets g c =
    (subst (λ gave. Gets (kinds_of (types_in c.args.scope.now)) (given_to (local_parts (types_in c.args.scope.now) (function_in c.args.scope.now) c.args.from) (spot_seen c.args.target) c.args.object.birth (meant (types_in c.args.scope.now) (g.S.Store.content c.args.store.now) (g.S.Store.rows c.args.store.now))) (as_given gave) (g.S.Store.content c.move_to.new.store) (g.S.Store.rows c.move_to.new.store)) c.if-move_to.true
    (given_gets (types_in c.args.scope.now) (function_in c.args.scope.now) (g.S.Store.limit c.args.store.now) c.args.depth c.args.from c.args.object c.args.target (g.S.Store.content c.args.store.now) (g.S.Store.rows c.args.store.now) c.args.cells.now c.requires.giver c.move_to.result (g.S.Store.content c.move_to.new.store) (g.S.Store.rows c.move_to.new.store)
    (subst (λ w. (o : Object) → at (meant (types_in c.args.scope.now) (g.S.Store.content c.args.store.now) (g.S.Store.rows c.args.store.now)).objects c.args.object.birth ≡ Some o → Gives (kinds_of (types_in c.args.scope.now)) (given_to (parts_at (types_in c.args.scope.now) o.ty) (place w) c.args.object.birth (meant (types_in c.args.scope.now) (g.S.Store.content c.args.store.now) (g.S.Store.rows c.args.store.now))) c.move_to.result (g.S.Store.content c.move_to.new.store) (g.S.Store.rows c.move_to.new.store)) c.wide-spot.ensures c.move_to.ensures.moved)))

pub returns-then-move_to-clause-fits : goal.returns-then-move_to-clause-fits
returns-then-move_to-clause-fits g c =
    fits_give (types_in c.args.scope.now) (function_in c.args.scope.now) (g.S.Store.limit c.args.store.now) c.args.depth c.args.from c.args.object c.args.target (g.S.Store.content c.args.store.now) (g.S.Store.rows c.args.store.now) c.args.cells.now c.requires.giver (g.S.Store.content c.move_to.new.store) (g.S.Store.rows c.move_to.new.store)
    (subst (λ gave. Gets (kinds_of (types_in c.args.scope.now)) (given_to (local_parts (types_in c.args.scope.now) (function_in c.args.scope.now) c.args.from) (spot_seen c.args.target) c.args.object.birth (meant (types_in c.args.scope.now) (g.S.Store.content c.args.store.now) (g.S.Store.rows c.args.store.now))) (as_given gave) (g.S.Store.content c.move_to.new.store) (g.S.Store.rows c.move_to.new.store)) c.if-move_to.true
    (given_gets (types_in c.args.scope.now) (function_in c.args.scope.now) (g.S.Store.limit c.args.store.now) c.args.depth c.args.from c.args.object c.args.target (g.S.Store.content c.args.store.now) (g.S.Store.rows c.args.store.now) c.args.cells.now c.requires.giver c.move_to.result (g.S.Store.content c.move_to.new.store) (g.S.Store.rows c.move_to.new.store)
    (subst (λ w. (o : Object) → at (meant (types_in c.args.scope.now) (g.S.Store.content c.args.store.now) (g.S.Store.rows c.args.store.now)).objects c.args.object.birth ≡ Some o → Gives (kinds_of (types_in c.args.scope.now)) (given_to (parts_at (types_in c.args.scope.now) o.ty) (place w) c.args.object.birth (meant (types_in c.args.scope.now) (g.S.Store.content c.args.store.now) (g.S.Store.rows c.args.store.now))) c.move_to.result (g.S.Store.content c.move_to.new.store) (g.S.Store.rows c.move_to.new.store)) c.wide-spot.ensures c.move_to.ensures.moved)))
    (c.move_to.ensures.rowed c.requires.giver.target.owner.ready.fits.rowed) c.move_to.ensures.later

pub returns-then-move_to-clause-bounded : goal.returns-then-move_to-clause-bounded
returns-then-move_to-clause-bounded g c =
    (behind_give (types_in c.args.scope.now) (function_in c.args.scope.now) (g.S.Store.limit c.args.store.now) c.args.depth c.args.from c.args.object c.args.target (g.S.Store.content c.args.store.now) (g.S.Store.rows c.args.store.now) c.args.cells.now c.requires.giver (g.S.Store.content c.move_to.new.store) (g.S.Store.rows c.move_to.new.store)
    (subst (λ gave. Gets (kinds_of (types_in c.args.scope.now)) (given_to (local_parts (types_in c.args.scope.now) (function_in c.args.scope.now) c.args.from) (spot_seen c.args.target) c.args.object.birth (meant (types_in c.args.scope.now) (g.S.Store.content c.args.store.now) (g.S.Store.rows c.args.store.now))) (as_given gave) (g.S.Store.content c.move_to.new.store) (g.S.Store.rows c.move_to.new.store)) c.if-move_to.true
    (given_gets (types_in c.args.scope.now) (function_in c.args.scope.now) (g.S.Store.limit c.args.store.now) c.args.depth c.args.from c.args.object c.args.target (g.S.Store.content c.args.store.now) (g.S.Store.rows c.args.store.now) c.args.cells.now c.requires.giver c.move_to.result (g.S.Store.content c.move_to.new.store) (g.S.Store.rows c.move_to.new.store)
    (subst (λ w. (o : Object) → at (meant (types_in c.args.scope.now) (g.S.Store.content c.args.store.now) (g.S.Store.rows c.args.store.now)).objects c.args.object.birth ≡ Some o → Gives (kinds_of (types_in c.args.scope.now)) (given_to (parts_at (types_in c.args.scope.now) o.ty) (place w) c.args.object.birth (meant (types_in c.args.scope.now) (g.S.Store.content c.args.store.now) (g.S.Store.rows c.args.store.now))) c.move_to.result (g.S.Store.content c.move_to.new.store) (g.S.Store.rows c.move_to.new.store)) c.wide-spot.ensures c.move_to.ensures.moved)))).bounded

pub returns-then-move_to-clause-grows : goal.returns-then-move_to-clause-grows
returns-then-move_to-clause-grows g c =
    grows_behind (types_in c.args.scope.now) (g.S.Store.limit c.args.store.now) (g.S.Store.content c.args.store.now) (g.S.Store.content c.move_to.new.store) (g.S.Store.rows c.args.store.now) (g.S.Store.rows c.move_to.new.store)
    (behind_give (types_in c.args.scope.now) (function_in c.args.scope.now) (g.S.Store.limit c.args.store.now) c.args.depth c.args.from c.args.object c.args.target (g.S.Store.content c.args.store.now) (g.S.Store.rows c.args.store.now) c.args.cells.now c.requires.giver (g.S.Store.content c.move_to.new.store) (g.S.Store.rows c.move_to.new.store)
    (subst (λ gave. Gets (kinds_of (types_in c.args.scope.now)) (given_to (local_parts (types_in c.args.scope.now) (function_in c.args.scope.now) c.args.from) (spot_seen c.args.target) c.args.object.birth (meant (types_in c.args.scope.now) (g.S.Store.content c.args.store.now) (g.S.Store.rows c.args.store.now))) (as_given gave) (g.S.Store.content c.move_to.new.store) (g.S.Store.rows c.move_to.new.store)) c.if-move_to.true
    (given_gets (types_in c.args.scope.now) (function_in c.args.scope.now) (g.S.Store.limit c.args.store.now) c.args.depth c.args.from c.args.object c.args.target (g.S.Store.content c.args.store.now) (g.S.Store.rows c.args.store.now) c.args.cells.now c.requires.giver c.move_to.result (g.S.Store.content c.move_to.new.store) (g.S.Store.rows c.move_to.new.store)
    (subst (λ w. (o : Object) → at (meant (types_in c.args.scope.now) (g.S.Store.content c.args.store.now) (g.S.Store.rows c.args.store.now)).objects c.args.object.birth ≡ Some o → Gives (kinds_of (types_in c.args.scope.now)) (given_to (parts_at (types_in c.args.scope.now) o.ty) (place w) c.args.object.birth (meant (types_in c.args.scope.now) (g.S.Store.content c.args.store.now) (g.S.Store.rows c.args.store.now))) c.move_to.result (g.S.Store.content c.move_to.new.store) (g.S.Store.rows c.move_to.new.store)) c.wide-spot.ensures c.move_to.ensures.moved))))

pub returns-else-move_to-clause-gets : goal.returns-else-move_to-clause-gets
returns-else-move_to-clause-gets g c =
    (subst (λ gave. Gets (kinds_of (types_in c.args.scope.now)) (given_to (local_parts (types_in c.args.scope.now) (function_in c.args.scope.now) c.args.from) (spot_seen c.args.target) c.args.object.birth (meant (types_in c.args.scope.now) (g.S.Store.content c.args.store.now) (g.S.Store.rows c.args.store.now))) (as_given gave) (g.S.Store.content c.move_to.new.store) (g.S.Store.rows c.move_to.new.store)) c.if-move_to.false
    (given_gets (types_in c.args.scope.now) (function_in c.args.scope.now) (g.S.Store.limit c.args.store.now) c.args.depth c.args.from c.args.object c.args.target (g.S.Store.content c.args.store.now) (g.S.Store.rows c.args.store.now) c.args.cells.now c.requires.giver c.move_to.result (g.S.Store.content c.move_to.new.store) (g.S.Store.rows c.move_to.new.store)
    (subst (λ w. (o : Object) → at (meant (types_in c.args.scope.now) (g.S.Store.content c.args.store.now) (g.S.Store.rows c.args.store.now)).objects c.args.object.birth ≡ Some o → Gives (kinds_of (types_in c.args.scope.now)) (given_to (parts_at (types_in c.args.scope.now) o.ty) (place w) c.args.object.birth (meant (types_in c.args.scope.now) (g.S.Store.content c.args.store.now) (g.S.Store.rows c.args.store.now))) c.move_to.result (g.S.Store.content c.move_to.new.store) (g.S.Store.rows c.move_to.new.store)) c.wide-spot.ensures c.move_to.ensures.moved)))
