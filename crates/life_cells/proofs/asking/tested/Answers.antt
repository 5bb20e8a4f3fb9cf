use Rattle.std.proofs.Common.{sym, ◌∙◌}
use Rattle.life_core.specs.Operands.{location_of}
use Rattle.life_store.specs.Effects.{cell}
use Rattle.life_cells.specs.Cells.{state_in}
use Rattle.life_cells.specs.Fits.{meant}
use Rattle.life_cells.specs.Scopes.{function_in, types_in}
use Rattle.life_cells.proofs.LocationLemmas.{nil}
use Rattle.life_cells.proofs.Testing.{member_pointing}
use Rattle.life_cells.proofs.asking.tested.Goals as goal

pub whole_tested-requires-clause-whole : goal.whole_tested-requires-clause-whole
whole_tested-requires-clause-whole g c = nil (location_of c.args.location.now).members (sym c.is_whole.ensures ∙ c.if-is_whole.true)

pub whole_tested-requires-clause-owner : goal.whole_tested-requires-clause-owner
whole_tested-requires-clause-owner g c = c.requires.testable.own (nil (location_of c.args.location.now).members (sym c.is_whole.ensures ∙ c.if-is_whole.true))

pub member_tested-requires-clause-member : goal.member_tested-requires-clause-member
member_tested-requires-clause-member g c = sym c.is_whole.ensures ∙ c.if-is_whole.false

pub member_tested-requires-clause-unique : goal.member_tested-requires-clause-unique
member_tested-requires-clause-unique g c = sym c.is_unique.ensures ∙ c.if-is_unique.true

pub member_tested-requires-clause-owner : goal.member_tested-requires-clause-owner
member_tested-requires-clause-owner g c = c.requires.testable.owner (sym c.is_unique.ensures ∙ c.if-is_unique.true)

pub pointer_at-requires-clause-holds : goal.pointer_at-requires-clause-holds
pointer_at-requires-clause-holds g c = c.requires.testable.pointer (sym c.is_unique.ensures ∙ c.if-is_unique.false)

pub returns-else-is_unique : goal.returns-else-is_unique
returns-else-is_unique g c =
    let types = types_in c.args.scope.now in
    let f = function_in c.args.scope.now in
    let content = g.S.Store.content c.args.store.now in
    let rows = g.S.Store.rows c.args.store.now in
    let m = meant types content rows in
    let l = location_of c.args.location.now in
    let v = cell (state_in m c.args.cells.now) l.local in
    c.pointer_at.ensures.is ∙ member_pointing types f l m v (sym c.is_whole.ensures ∙ c.if-is_whole.false) (sym c.is_unique.ensures ∙ c.if-is_unique.false)
