use Rattle.std.proofs.Common.{List, IfSome, subst, sym, ◌∙◌}
use Rattle.life_core.specs.Operands.{object_named}
use Rattle.life_cells.specs.Cells.{state_in}
use Rattle.life_cells.specs.Fits.{meant, IsFit}
use Rattle.life_cells.specs.Scopes.{function_in, types_in}
use Rattle.life_cells.specs.declared.cell.Cell.{Cell}
use Rattle.life_interp.specs.Accessed.{IsNumberPlace}
use Rattle.life_interp.specs.Spots.{IsSpotAt}
use Rattle.life_interp.proofs.spots.save_named.Goals as goal

pub save_at_once-requires-clause-number : goal.save_at_once-requires-clause-number
save_at_once-requires-clause-number g c =
    let types = types_in c.args.scope.now in
    let f = function_in c.args.scope.now in
    let content = g.S.Store.content c.args.store.now in
    let rows = g.S.Store.rows c.args.store.now in
    let cells = c.args.cells.now in
    let o = object_named c.args.local in
    let there = c.named_spot-spot.ensures types f (subst (λ (cs : List Cell). IsFit types content rows cs) (sym c.deref.ensures.value) c.requires.fits) in
    let same = c.deref-2.ensures.value in
    let spot_at = subst (λ (cs : List Cell). IfSome c.named_spot-spot.result (IsSpotAt types f o (state_in (meant types content rows) cs) content rows)) (c.deref.ensures.value ∙ sym same) there in
    let place = subst (λ (cs : List Cell). IsNumberPlace types f o (state_in (meant types content rows) cs)) (sym same) c.requires.place in
    (o, record { number = place; found = spot_at })

pub returns-clause-done : goal.returns-clause-done
returns-clause-done g c =
    let types = types_in c.args.scope.now in
    let f = function_in c.args.scope.now in
    let content = g.S.Store.content c.args.store.now in
    let rows = g.S.Store.rows c.args.store.now in
    let cells = c.args.cells.now in
    let o = object_named c.args.local in
    let there = c.named_spot-spot.ensures types f (subst (λ (cs : List Cell). IsFit types content rows cs) (sym c.deref.ensures.value) c.requires.fits) in
    let same = c.deref-2.ensures.value in
    let spot_at = subst (λ (cs : List Cell). IfSome c.named_spot-spot.result (IsSpotAt types f o (state_in (meant types content rows) cs) content rows)) (c.deref.ensures.value ∙ sym same) there in
    let place = subst (λ (cs : List Cell). IsNumberPlace types f o (state_in (meant types content rows) cs)) (sym same) c.requires.place in
    c.save_at_once.ensures.done o (record { number = place; found = spot_at }) cells (sym same)
