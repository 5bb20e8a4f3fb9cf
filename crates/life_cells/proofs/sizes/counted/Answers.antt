use Rattle.std.proofs.Common.{ap, subst, ◌∙◌}
use Rattle.life_core.specs.declared.operand.Base.{Base}
use Rattle.life_core.specs.Operands.{base_of}
use Rattle.life_store.specs.Doing.{sized}
use Rattle.life_cells.specs.Cells.{state_in, state_of}
use Rattle.life_cells.specs.Fits.{meant}
use Rattle.life_cells.specs.Scopes.{function_in, types_in}
use Rattle.life_cells.specs.Typed.{IsBase}
use Rattle.life_cells.proofs.sizes.counted.Goals as goal

pub returns-in-Owner-clause-is : goal.returns-in-Owner-clause-is
returns-in-Owner-clause-is g c = λ r output input.
    let types = types_in c.args.scope.now in
    let f = function_in c.args.scope.now in
    let content = g.S.Store.content c.args.store.now in
    let rows = g.S.Store.rows c.args.store.now in
    let m = meant types content rows in
    let st = state_of m c.args.cells.now output input in
    ap (λ (b : Base). sized types f r (base_of b) st) c.in-Owner.is ∙ c.of_owner.ensures.is r output input

pub returns-in-Pointer-clause-is : goal.returns-in-Pointer-clause-is
returns-in-Pointer-clause-is g c = λ r output input.
    let types = types_in c.args.scope.now in
    let f = function_in c.args.scope.now in
    let content = g.S.Store.content c.args.store.now in
    let rows = g.S.Store.rows c.args.store.now in
    let m = meant types content rows in
    let st = state_of m c.args.cells.now output input in
    ap (λ (b : Base). sized types f r (base_of b) st) c.in-Pointer.is ∙ c.of_view.ensures.is r output input

pub of_owner-requires-clause-owner : goal.of_owner-requires-clause-owner
of_owner-requires-clause-owner g c =
    let types = types_in c.args.scope.now in
    let f = function_in c.args.scope.now in
    let content = g.S.Store.content c.args.store.now in
    let rows = g.S.Store.rows c.args.store.now in
    let m = meant types content rows in
    subst (λ (b : Base). IsBase types f (base_of b) (state_in m c.args.cells.now)) c.in-Owner.is c.requires.base

pub of_view-requires-clause-holds : goal.of_view-requires-clause-holds
of_view-requires-clause-holds g c =
    let types = types_in c.args.scope.now in
    let f = function_in c.args.scope.now in
    let content = g.S.Store.content c.args.store.now in
    let rows = g.S.Store.rows c.args.store.now in
    let m = meant types content rows in
    subst (λ (b : Base). IsBase types f (base_of b) (state_in m c.args.cells.now)) c.in-Pointer.is c.requires.base
