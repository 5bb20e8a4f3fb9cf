use Rattle.std.proofs.Common.{Option, Some, ap, subst, sym, ◌∙◌}
use Rattle.std.specs.Prelude.{option_map, IfSome}
use Rattle.life_core.specs.Operands.{location_of}
use Rattle.life_core.specs.declared.operand.Location.{Location}
use Rattle.life_store.specs.Calls.{target_given}
use Rattle.life_seen.specs.Housed.{Later}
use Rattle.life_cells.specs.Cells.{cell_seen, state_in, state_of}
use Rattle.life_cells.specs.Fits.{meant, CellFits, Keeps}
use Rattle.life_cells.specs.Scopes.{function_in, types_in}
use Rattle.life_cells.specs.declared.cell.Cell.{Cell}
use Rattle.life_cells.proofs.FitLemmas.{later_kept}
use Rattle.life_cells.proofs.LocationLemmas.{nil}
use Rattle.life_interp.specs.Cells.{one_seen}
use Rattle.life_interp.specs.Fits.{most_births, Grows}
use Rattle.life_interp.specs.Returning.{TakesResult}
use Rattle.life_interp.specs.Steps.{LeavesBoth}
use Rattle.life_interp.proofs.FitLemmas.{kept_grows}
use Rattle.life_interp.proofs.LocalLemmas.{leaves_as}
use Rattle.life_interp.proofs.StepLemmas.{ok_so}
use Rattle.life_interp.proofs.TargetLemmas.{suits_result, whole_given}
use Rattle.life_interp.proofs.calls.give_target.Goals as goal

pub give-requires-clause-slot : goal.give-requires-clause-slot
give-requires-clause-slot g c = λ lo there.
    let types = types_in c.args.scope.now in
    let f = function_in c.args.scope.now in
    let st = state_in (meant types (g.S.Store.content c.args.store.now) (g.S.Store.rows c.args.store.now)) c.args.cells.now.items in
    let l = location_of c.in-Some.location in
    suits_result types f l st (option_map location_of c.args.target.now) (g.S.Store.rows c.args.store.now) c.in-Some-given.value lo (ap (option_map location_of) c.in-Some.is) (nil l.members (sym c.is_whole.ensures ∙ c.if-is_whole.true)) there
    (subst (λ (v : Option Cell). TakesResult types f (option_map location_of c.args.target.now) (one_seen v) st) c.in-Some-given.is c.requires.target)

pub returns-then-is_whole-clause-step : goal.returns-then-is_whole-clause-step
returns-then-is_whole-clause-step g c = λ s e.
    let types = types_in c.args.scope.now in
    let f = function_in c.args.scope.now in
    let content = meant types (g.S.Store.content c.args.store.now) (g.S.Store.rows c.args.store.now) in
    let after = meant types (g.S.Store.content c.give.new.store) (g.S.Store.rows c.give.new.store) in
    let l = location_of c.in-Some.location in
    subst (λ (t : Option Location). LeavesBoth (target_given s types f (option_map location_of t) (one_seen c.args.given)) content c.args.cells.now.items after c.give.new.cells.items c.give.result) (sym c.in-Some.is)
    (subst (λ (v : Option Cell). LeavesBoth (target_given s types f (Some l) (one_seen v)) content c.args.cells.now.items after c.give.new.cells.items c.give.result) (sym c.in-Some-given.is)
    (leaves_as _ _ _ c.give.result
    (λ output input. whole_given s types f l (state_of content c.args.cells.now.items output input) l.members (cell_seen c.in-Some-given.value) (sym c.is_whole.ensures ∙ c.if-is_whole.true))
    (c.give.ensures.step s e)))

pub point_member-requires-clause-value : goal.point_member-requires-clause-value
point_member-requires-clause-value g c = subst (λ (v : Option Cell). IfSome v (CellFits (g.S.Store.content c.args.store.now) (g.S.Store.rows c.args.store.now))) c.in-Some-given.is c.requires.value

pub point_member-requires-clause-holds : goal.point_member-requires-clause-holds
point_member-requires-clause-holds g c = c.requires.target.holds (location_of c.in-Some.location) (ap (option_map location_of) c.in-Some.is)

pub point_member-requires-clause-member : goal.point_member-requires-clause-member
point_member-requires-clause-member g c = sym c.is_whole.ensures ∙ c.if-is_whole.false

pub returns-else-is_whole-clause-step : goal.returns-else-is_whole-clause-step
returns-else-is_whole-clause-step g c = λ s e.
    let types = types_in c.args.scope.now in
    let f = function_in c.args.scope.now in
    let content = meant types (g.S.Store.content c.args.store.now) (g.S.Store.rows c.args.store.now) in
    let after = meant types (g.S.Store.content c.point_member.new.store) (g.S.Store.rows c.point_member.new.store) in
    let l = location_of c.in-Some.location in
    subst (λ (t : Option Location). LeavesBoth (target_given s types f (option_map location_of t) (one_seen c.args.given)) content c.args.cells.now.items after c.point_member.new.cells.items c.point_member.result) (sym c.in-Some.is)
    (subst (λ (v : Option Cell). LeavesBoth (target_given s types f (Some l) (one_seen v)) content c.args.cells.now.items after c.point_member.new.cells.items c.point_member.result) (sym c.in-Some-given.is)
    (c.point_member.ensures.step s))

pub returns-else-is_whole-clause-later : goal.returns-else-is_whole-clause-later
returns-else-is_whole-clause-later g c =
    let old = g.S.Store.content c.args.store.now in
    let rows = g.S.Store.rows c.args.store.now in
    let new = g.S.Store.content c.point_member.new.store in
    let after = g.S.Store.rows c.point_member.new.store in
    ok_so c.point_member.result (Keeps old new rows after) (Later old new rows after) (λ keeps. later_kept old new rows after keeps) c.point_member.ensures.keeps

pub returns-else-is_whole-clause-grows : goal.returns-else-is_whole-clause-grows
returns-else-is_whole-clause-grows g c =
    let old = g.S.Store.content c.args.store.now in
    let rows = g.S.Store.rows c.args.store.now in
    let new = g.S.Store.content c.point_member.new.store in
    let after = g.S.Store.rows c.point_member.new.store in
    ok_so c.point_member.result (Keeps old new rows after) (Grows most_births old new) (λ keeps. kept_grows most_births old new rows after keeps) c.point_member.ensures.keeps
