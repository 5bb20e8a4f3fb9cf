use Rattle.std.proofs.Common.{List, OnOk, subst, sym, refl}
use Rattle.life_core.specs.Operands.{location_of}
use Rattle.life_core.specs.Step.{Make}
use Rattle.life_core.specs.declared.instr.Made.{Made}
use Rattle.life_core.specs.declared.instr.Made.TheVariants as made
use Rattle.life_store.specs.Doing.{makes}
use Rattle.life_forest.proofs.StandingSteps.{IsTypedStep}
use Rattle.life_cells.specs.Cells.{state_in}
use Rattle.life_cells.specs.Fits.{meant, IsFit}
use Rattle.life_cells.specs.Scopes.{function_in, types_in}
use Rattle.life_cells.specs.Typed.{HoldsOwner}
use Rattle.life_cells.specs.declared.cell.Cell.{Cell}
use Rattle.life_changes.specs.Ready.{IsReady}
use Rattle.life_changes.specs.Steps.{Goes}
use Rattle.life_changes.proofs.Ways.{goes_with}
use Rattle.life_changes.proofs.making.make.Goals as goal

pub make_null-requires-clause-ready : goal.make_null-requires-clause-ready
make_null-requires-clause-ready g c =
    let types = types_in c.args.scope.now in
    let f = function_in c.args.scope.now in
    let content = g.S.Store.content c.args.store.now in
    let rows = g.S.Store.rows c.args.store.now in
    let limit = g.S.Store.limit c.args.store.now in
    let cells = c.args.cells.now.items in
    let m = meant types content rows in
    let u = location_of c.args.owner.now in
    subst (λ (cs : List Cell). IsReady types f limit content rows cs) (sym c.deref.ensures.value) c.requires.ready

pub make_null-requires-clause-owner : goal.make_null-requires-clause-owner
make_null-requires-clause-owner g c =
    let types = types_in c.args.scope.now in
    let f = function_in c.args.scope.now in
    let content = g.S.Store.content c.args.store.now in
    let rows = g.S.Store.rows c.args.store.now in
    let limit = g.S.Store.limit c.args.store.now in
    let cells = c.args.cells.now.items in
    let m = meant types content rows in
    let u = location_of c.args.owner.now in
    subst (λ (cs : List Cell). HoldsOwner types f u (state_in m cs)) (sym c.deref.ensures.value) c.requires.owner

pub make_null-requires-clause-typed : goal.make_null-requires-clause-typed
make_null-requires-clause-typed g c =
    let types = types_in c.args.scope.now in
    let f = function_in c.args.scope.now in
    let content = g.S.Store.content c.args.store.now in
    let rows = g.S.Store.rows c.args.store.now in
    let limit = g.S.Store.limit c.args.store.now in
    let cells = c.args.cells.now.items in
    let m = meant types content rows in
    let u = location_of c.args.owner.now in
    subst (λ (cs : List Cell). IsTypedStep types f (state_in m cs) (Make u made.Null)) (sym c.deref.ensures.value) (subst (λ (x : Made). IsTypedStep types f (state_in m cells) (Make u x)) c.in-Null.is c.requires.typed)

pub returns-in-Null-clause-step : goal.returns-in-Null-clause-step
returns-in-Null-clause-step g c = λ s given.
    let types = types_in c.args.scope.now in
    let f = function_in c.args.scope.now in
    let content = g.S.Store.content c.args.store.now in
    let rows = g.S.Store.rows c.args.store.now in
    let limit = g.S.Store.limit c.args.store.now in
    let cells = c.args.cells.now.items in
    let m = meant types content rows in
    let u = location_of c.args.owner.now in
    let n = meant types (g.S.Store.content c.make_null.new.store) (g.S.Store.rows c.make_null.new.store) in
    subst (λ (x : Made). Goes (makes s types f u x) m cells n cells c.make_null.result) (sym c.in-Null.is)
    (goes_with (makes s types f u made.Null) m n cells c.deref.result.now cells c.make_null.result c.deref.ensures.value refl (c.make_null.ensures.step s))

pub returns-in-Null-clause-fits : goal.returns-in-Null-clause-fits
returns-in-Null-clause-fits g c =
    let types = types_in c.args.scope.now in
    subst (λ (cs : List Cell). OnOk c.make_null.result (IsFit types (g.S.Store.content c.make_null.new.store) (g.S.Store.rows c.make_null.new.store) cs)) c.deref.ensures.value c.make_null.ensures.fits

pub make_zero-requires-clause-ready : goal.make_zero-requires-clause-ready
make_zero-requires-clause-ready g c =
    let types = types_in c.args.scope.now in
    let f = function_in c.args.scope.now in
    let content = g.S.Store.content c.args.store.now in
    let rows = g.S.Store.rows c.args.store.now in
    let limit = g.S.Store.limit c.args.store.now in
    let cells = c.args.cells.now.items in
    let m = meant types content rows in
    let u = location_of c.args.owner.now in
    subst (λ (cs : List Cell). IsReady types f limit content rows cs) (sym c.deref-in-Zero.ensures.value) c.requires.ready

pub make_zero-requires-clause-owner : goal.make_zero-requires-clause-owner
make_zero-requires-clause-owner g c =
    let types = types_in c.args.scope.now in
    let f = function_in c.args.scope.now in
    let content = g.S.Store.content c.args.store.now in
    let rows = g.S.Store.rows c.args.store.now in
    let limit = g.S.Store.limit c.args.store.now in
    let cells = c.args.cells.now.items in
    let m = meant types content rows in
    let u = location_of c.args.owner.now in
    subst (λ (cs : List Cell). HoldsOwner types f u (state_in m cs)) (sym c.deref-in-Zero.ensures.value) c.requires.owner

pub make_zero-requires-clause-typed : goal.make_zero-requires-clause-typed
make_zero-requires-clause-typed g c =
    let types = types_in c.args.scope.now in
    let f = function_in c.args.scope.now in
    let content = g.S.Store.content c.args.store.now in
    let rows = g.S.Store.rows c.args.store.now in
    let limit = g.S.Store.limit c.args.store.now in
    let cells = c.args.cells.now.items in
    let m = meant types content rows in
    let u = location_of c.args.owner.now in
    subst (λ (cs : List Cell). IsTypedStep types f (state_in m cs) (Make u made.Zero)) (sym c.deref-in-Zero.ensures.value) (subst (λ (x : Made). IsTypedStep types f (state_in m cells) (Make u x)) c.in-Zero.is c.requires.typed)

pub returns-in-Zero-clause-step : goal.returns-in-Zero-clause-step
returns-in-Zero-clause-step g c = λ s given.
    let types = types_in c.args.scope.now in
    let f = function_in c.args.scope.now in
    let content = g.S.Store.content c.args.store.now in
    let rows = g.S.Store.rows c.args.store.now in
    let limit = g.S.Store.limit c.args.store.now in
    let cells = c.args.cells.now.items in
    let m = meant types content rows in
    let u = location_of c.args.owner.now in
    let n = meant types (g.S.Store.content c.make_zero.new.store) (g.S.Store.rows c.make_zero.new.store) in
    subst (λ (x : Made). Goes (makes s types f u x) m cells n cells c.make_zero.result) (sym c.in-Zero.is)
    (goes_with (makes s types f u made.Zero) m n cells c.deref-in-Zero.result.now cells c.make_zero.result c.deref-in-Zero.ensures.value refl (c.make_zero.ensures.step s given))

pub returns-in-Zero-clause-fits : goal.returns-in-Zero-clause-fits
returns-in-Zero-clause-fits g c =
    let types = types_in c.args.scope.now in
    subst (λ (cs : List Cell). OnOk c.make_zero.result (IsFit types (g.S.Store.content c.make_zero.new.store) (g.S.Store.rows c.make_zero.new.store) cs)) c.deref-in-Zero.ensures.value c.make_zero.ensures.fits

pub make_of-requires-clause-typed : goal.make_of-requires-clause-typed
make_of-requires-clause-typed g c =
    let types = types_in c.args.scope.now in
    let f = function_in c.args.scope.now in
    let content = g.S.Store.content c.args.store.now in
    let rows = g.S.Store.rows c.args.store.now in
    let limit = g.S.Store.limit c.args.store.now in
    let cells = c.args.cells.now.items in
    let m = meant types content rows in
    let u = location_of c.args.owner.now in
    subst (λ (x : Made). IsTypedStep types f (state_in m cells) (Make u x)) c.in-Of.is c.requires.typed

pub returns-in-Of-clause-step : goal.returns-in-Of-clause-step
returns-in-Of-clause-step g c = λ s given.
    let types = types_in c.args.scope.now in
    let f = function_in c.args.scope.now in
    let content = g.S.Store.content c.args.store.now in
    let rows = g.S.Store.rows c.args.store.now in
    let limit = g.S.Store.limit c.args.store.now in
    let cells = c.args.cells.now.items in
    let m = meant types content rows in
    let u = location_of c.args.owner.now in
    let n = meant types (g.S.Store.content c.make_of.new.store) (g.S.Store.rows c.make_of.new.store) in
    subst (λ (x : Made). Goes (makes s types f u x) m cells n c.make_of.new.cells.items c.make_of.result) (sym c.in-Of.is) (c.make_of.ensures.step s given)
