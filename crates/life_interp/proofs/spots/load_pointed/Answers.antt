use Rattle.std.proofs.Common.{List, IfSome, subst, sym}
use Rattle.life_core.specs.Operands.{behind}
use Rattle.life_cells.specs.Cells.{state_in}
use Rattle.life_cells.specs.Fits.{meant, IsFit}
use Rattle.life_cells.specs.Scopes.{function_in, types_in}
use Rattle.life_cells.specs.declared.cell.Cell.{Cell}
use Rattle.life_interp.specs.Spots.{IsSpotAt}
use Rattle.life_interp.proofs.spots.load_pointed.Goals as goal

pub load_at_once-requires-clause-number : goal.load_at_once-requires-clause-number
load_at_once-requires-clause-number g c =
    let types = types_in c.args.scope.now in
    let f = function_in c.args.scope.now in
    let content = g.S.Store.content c.args.store.now in
    let rows = g.S.Store.rows c.args.store.now in
    let cells = c.args.cells.now in
    let o = behind c.args.pointer in
    let there = subst (λ (cs : List Cell). IfSome c.pointed_spot-spot.result (IsSpotAt types f o (state_in (meant types content rows) cs) content rows)) c.deref.ensures.value
    (c.pointed_spot-spot.ensures types f (subst (λ (cs : List Cell). IsFit types content rows cs) (sym c.deref.ensures.value) c.requires.fits)) in
    (o, record { number = c.requires.place; found = there })

pub returns : goal.returns
returns g c =
    let types = types_in c.args.scope.now in
    let f = function_in c.args.scope.now in
    let content = g.S.Store.content c.args.store.now in
    let rows = g.S.Store.rows c.args.store.now in
    let cells = c.args.cells.now in
    let o = behind c.args.pointer in
    let there = subst (λ (cs : List Cell). IfSome c.pointed_spot-spot.result (IsSpotAt types f o (state_in (meant types content rows) cs) content rows)) c.deref.ensures.value
    (c.pointed_spot-spot.ensures types f (subst (λ (cs : List Cell). IsFit types content rows cs) (sym c.deref.ensures.value) c.requires.fits)) in
    c.load_at_once.ensures o (record { number = c.requires.place; found = there })
