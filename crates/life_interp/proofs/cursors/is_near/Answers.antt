use Rattle.std.proofs.Common.{subst, sym}
use Rattle.life_core.specs.Operands.{base_of, location_of}
use Rattle.life_core.specs.declared.operand.Base.{Base}
use Rattle.life_cells.specs.Cells.{state_in}
use Rattle.life_cells.specs.Fits.{meant}
use Rattle.life_cells.specs.Scopes.{function_in, types_in}
use Rattle.life_cells.specs.Typed.{IsBase, IsRange}
use Rattle.life_interp.proofs.NearEnds.{near_end}
use Rattle.life_interp.proofs.cursors.is_near.Goals as goal

pub pointer_at-requires-clause-holds : goal.pointer_at-requires-clause-holds
pointer_at-requires-clause-holds g c =
    let types = types_in c.args.scope.now in
    let f = function_in c.args.scope.now in
    let st = state_in (meant types (g.S.Store.content c.args.store.now) (g.S.Store.rows c.args.store.now)) c.args.cells.now in
    subst (λ (b : Base). IsBase types f (base_of b) st) c.in-Pointer.is c.requires.base

pub returns-in-Owner : goal.returns-in-Owner
returns-in-Owner g c = λ near.
    let types = types_in c.args.scope.now in
    let f = function_in c.args.scope.now in
    let st = state_in (meant types (g.S.Store.content c.args.store.now) (g.S.Store.rows c.args.store.now)) c.args.cells.now in
    subst (λ (b : Base). IsRange types f (base_of b) st) (sym c.in-Owner.is) (subst (λ (b : Base). IsBase types f (base_of b) st) c.in-Owner.is c.requires.base)

pub returns-in-Pointer : goal.returns-in-Pointer
returns-in-Pointer g c = λ near.
    let types = types_in c.args.scope.now in
    let f = function_in c.args.scope.now in
    let st = state_in (meant types (g.S.Store.content c.args.store.now) (g.S.Store.rows c.args.store.now)) c.args.cells.now in
    let location = location_of c.in-Pointer.location in
    subst (λ (b : Base). IsRange types f (base_of b) st) (sym c.in-Pointer.is)
    (subst (λ (b : Base). IsBase types f (base_of b) st) c.in-Pointer.is c.requires.base, near_end types f location st c.pointer_at.result c.pointer_at.ensures.is (c.has_end.ensures near))
