use Rattle.std.proofs.Common.{ℕ, List, MatchResult, subst, sym}
use Rattle.life_core.specs.declared.operand.Operand.{Operand}
use Rattle.life_core.specs.Operands.{Through, location_of, operand_of}
use Rattle.life_store.specs.Places as spec
use Rattle.life_seen.specs.Kinds.{kinds_of}
use Rattle.life_pointers.specs.Places.{BeginsAt, IsPlace, TellsMiss}
use Rattle.std.specs.Prelude.{IfOk}
use Rattle.life_cells.specs.Cells.{state_in}
use Rattle.life_cells.specs.Fits.{meant}
use Rattle.life_cells.specs.Scopes.{function_in, types_in}
use Rattle.life_cells.specs.Typed.{IsPlaced}
use Rattle.life_cells.proofs.places.locate.Goals as goal

pub returns-in-Name-clause-is : goal.returns-in-Name-clause-is
returns-in-Name-clause-is g c =
    let types = types_in c.args.scope.now in
    let f = function_in c.args.scope.now in
    let content = g.S.Store.content c.args.store.now in
    let rows = g.S.Store.rows c.args.store.now in
    let m = meant types content rows in
    subst (λ (o : Operand). MatchResult c.named.result (IsPlace (kinds_of types) content rows (spec.locate types f (operand_of o) (state_in m c.args.cells.now))) (TellsMiss (spec.locate types f (operand_of o) (state_in m c.args.cells.now)))) (sym c.in-Name.is) c.named.ensures.is

pub returns-in-Name-clause-word : goal.returns-in-Name-clause-word
returns-in-Name-clause-word g c =
    let types = types_in c.args.scope.now in
    let f = function_in c.args.scope.now in
    let content = g.S.Store.content c.args.store.now in
    let rows = g.S.Store.rows c.args.store.now in
    let m = meant types content rows in
    subst (λ (o : Operand). IfOk c.named.result (BeginsAt (spec.operand_word types f (operand_of o) (state_in m c.args.cells.now)))) (sym c.in-Name.is) c.named.ensures.word

pub named-requires-clause-placed : goal.named-requires-clause-placed
named-requires-clause-placed g c =
    let types = types_in c.args.scope.now in
    let f = function_in c.args.scope.now in
    let content = g.S.Store.content c.args.store.now in
    let rows = g.S.Store.rows c.args.store.now in
    let m = meant types content rows in
    subst (λ (o : Operand). IsPlaced types f (operand_of o) (state_in m c.args.cells.now)) c.in-Name.is c.requires.placed

pub returns-in-Through-clause-is : goal.returns-in-Through-clause-is
returns-in-Through-clause-is g c =
    let types = types_in c.args.scope.now in
    let f = function_in c.args.scope.now in
    let content = g.S.Store.content c.args.store.now in
    let rows = g.S.Store.rows c.args.store.now in
    let m = meant types content rows in
    subst (λ (o : Operand). MatchResult c.through.result (IsPlace (kinds_of types) content rows (spec.locate types f (operand_of o) (state_in m c.args.cells.now))) (TellsMiss (spec.locate types f (operand_of o) (state_in m c.args.cells.now)))) (sym c.in-Through.is) c.through.ensures.is

pub returns-in-Through-clause-word : goal.returns-in-Through-clause-word
returns-in-Through-clause-word g c =
    let types = types_in c.args.scope.now in
    let f = function_in c.args.scope.now in
    let content = g.S.Store.content c.args.store.now in
    let rows = g.S.Store.rows c.args.store.now in
    let m = meant types content rows in
    let st = state_in m c.args.cells.now in
    let within = subst (λ (ms : List ℕ). IfOk c.through.result (BeginsAt (spec.operand_word types f (Through (location_of c.in-Through.pointer) ms) st))) c.deref.ensures.value c.through.ensures.word in
    subst (λ (o : Operand). IfOk c.through.result (BeginsAt (spec.operand_word types f (operand_of o) st))) (sym c.in-Through.is) within

pub through-requires-clause-placed : goal.through-requires-clause-placed
through-requires-clause-placed g c =
    let types = types_in c.args.scope.now in
    let f = function_in c.args.scope.now in
    let content = g.S.Store.content c.args.store.now in
    let rows = g.S.Store.rows c.args.store.now in
    let m = meant types content rows in
    let st = state_in m c.args.cells.now in
    let placed = subst (λ (o : Operand). IsPlaced types f (operand_of o) st) c.in-Through.is c.requires.placed in
    subst (λ (ms : List ℕ). IsPlaced types f (Through (location_of c.in-Through.pointer) ms) st) (sym c.deref.ensures.value) placed
