use Rattle.std.proofs.Common.{ap, sym, ◌∙◌}
use Rattle.life_core.specs.Operands.{location_of}
use Rattle.life_store.specs.Doing as spec
use Rattle.life_store.specs.Parts.{Parts, location_parts}
use Rattle.life_cells.specs.Cells.{state_in}
use Rattle.life_cells.specs.Fits.{meant}
use Rattle.life_cells.specs.Scopes.{function_in, types_in}
use Rattle.life_cells.proofs.Compared.{other_parts, view_parts}
use Rattle.life_cells.proofs.comparing.compared.Goals as goal

pub returns-then-are_views : goal.returns-then-are_views
returns-then-are_views g c = λ s texts.
    let types = types_in c.args.scope.now in
    let f = function_in c.args.scope.now in
    let content = g.S.Store.content c.args.store.now in
    let rows = g.S.Store.rows c.args.store.now in
    let m = meant types content rows in
    let st = state_in m c.args.cells.now in
    c.views_alike.ensures s texts ∙ ap (λ (x : Parts). spec.compared s types f x (location_of c.args.left.now) (location_of c.args.right.now) st) (sym (view_parts (location_parts types f (location_of c.args.left.now)) (sym c.are_views.ensures ∙ c.if-are_views.true)))

pub returns-else-are_views : goal.returns-else-are_views
returns-else-are_views g c = λ s texts.
    let types = types_in c.args.scope.now in
    let f = function_in c.args.scope.now in
    let content = g.S.Store.content c.args.store.now in
    let rows = g.S.Store.rows c.args.store.now in
    let m = meant types content rows in
    let st = state_in m c.args.cells.now in
    c.iterators_alike.ensures s ∙ sym (other_parts s types f (location_parts types f (location_of c.args.left.now)) (location_of c.args.left.now) (location_of c.args.right.now) st (sym c.are_views.ensures ∙ c.if-are_views.false))

pub views_alike-requires-clause-left_seen : goal.views_alike-requires-clause-left_seen
views_alike-requires-clause-left_seen g c = c.requires.left_seen (view_parts (location_parts (types_in c.args.scope.now) (function_in c.args.scope.now) (location_of c.args.left.now)) (sym c.are_views.ensures ∙ c.if-are_views.true))

pub views_alike-requires-clause-right_seen : goal.views_alike-requires-clause-right_seen
views_alike-requires-clause-right_seen g c = c.requires.right_seen (view_parts (location_parts (types_in c.args.scope.now) (function_in c.args.scope.now) (location_of c.args.left.now)) (sym c.are_views.ensures ∙ c.if-are_views.true))
