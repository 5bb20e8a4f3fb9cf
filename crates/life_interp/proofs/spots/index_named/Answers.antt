use Rattle.std.proofs.Common.{List, IfSome, subst, sym}
use Rattle.life_core.specs.Operands.{object_named}
use Rattle.life_cells.specs.Cells.{state_in}
use Rattle.life_cells.specs.Fits.{meant, IsFit}
use Rattle.life_cells.specs.Scopes.{function_in, types_in}
use Rattle.life_cells.specs.declared.cell.Cell.{Cell}
use Rattle.life_interp.specs.Spots.{IsSpotAt}
use Rattle.life_interp.proofs.spots.index_named.Goals as goal

pub index_at_once-requires-clause-owner : goal.index_at_once-requires-clause-owner
index_at_once-requires-clause-owner g c =
    let types = types_in c.args.scope.now in
    let f = function_in c.args.scope.now in
    let content = g.S.Store.content c.args.store.now in
    let rows = g.S.Store.rows c.args.store.now in
    let cells = c.args.cells.now in
    let o = object_named c.args.owner in
    let there = subst (λ (cs : List Cell). IfSome c.named_spot-spot.result (IsSpotAt types f o (state_in (meant types content rows) cs) content rows)) c.deref.ensures.value
    (c.named_spot-spot.ensures types f (subst (λ (cs : List Cell). IsFit types content rows cs) (sym c.deref.ensures.value) c.requires.fits)) in
    (o, record { owner = c.requires.place; found = there })

pub returns : goal.returns
returns g c =
    let types = types_in c.args.scope.now in
    let f = function_in c.args.scope.now in
    let content = g.S.Store.content c.args.store.now in
    let rows = g.S.Store.rows c.args.store.now in
    let cells = c.args.cells.now in
    let o = object_named c.args.owner in
    let there = subst (λ (cs : List Cell). IfSome c.named_spot-spot.result (IsSpotAt types f o (state_in (meant types content rows) cs) content rows)) c.deref.ensures.value
    (c.named_spot-spot.ensures types f (subst (λ (cs : List Cell). IsFit types content rows cs) (sym c.deref.ensures.value) c.requires.fits)) in
    c.index_at_once.ensures o (record { owner = c.requires.place; found = there })
