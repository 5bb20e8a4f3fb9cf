use Rattle.std.proofs.Common.{Result, Some, ap, subst, sym, ◌∙◌}
use Rattle.std.proofs.lemmas.Option.{same_Some}
use Rattle.std.specs.Prelude.{OnOk}
use Rattle.life_core.specs.Operands.{location_of}
use Rattle.life_store.specs.Calls.{result_given}
use Rattle.life_store.specs.Doing.{pointed}
use Rattle.life_store.specs.State as state
use Rattle.life_pointers.specs.Pointers.{pointer_seen}
use Rattle.life_cells.specs.Cells.{cell_seen, state_of}
use Rattle.life_cells.specs.Fits.{meant, IsFit, Keeps}
use Rattle.life_cells.specs.Scopes.{function_in, types_in}
use Rattle.life_cells.proofs.CellLemmas.{points}
use Rattle.life_interp.specs.Steps.{LeavesBoth}
use Rattle.life_interp.specs.declared.ending.Ending.{Ending}
use Rattle.life_interp.proofs.StepLemmas.{comes_leaves, leaves_as, ok_holds, ok_settled}
use Rattle.life_interp.proofs.TargetLemmas.{member_given, member_strays}
use Rattle.life_interp.proofs.calls.point_member.Goals as goal

pub returns-in-None-clause-step : goal.returns-in-None-clause-step
returns-in-None-clause-step g c = λ s output input.
    let types = types_in c.args.scope.now in
    let f = function_in c.args.scope.now in
    let st = state_of (meant types (g.S.Store.content c.args.store.now) (g.S.Store.rows c.args.store.now)) c.args.cells.now.items output input in
    let l = location_of c.args.location.now in
    member_strays s types f l st l.members (cell_seen c.args.value) c.requires.member c.in-None.ensures.is

pub point-requires-clause-pointer : goal.point-requires-clause-pointer
point-requires-clause-pointer g c = c.in-Some.ensures.fits (g.S.Store.content c.args.store.now) (g.S.Store.rows c.args.store.now) c.requires.value

pub returns-in-Some-clause-step : goal.returns-in-Some-clause-step
returns-in-Some-clause-step g c = λ s.
    let types = types_in c.args.scope.now in
    let f = function_in c.args.scope.now in
    let m = meant types (g.S.Store.content c.args.store.now) (g.S.Store.rows c.args.store.now) in
    let d = meant types (g.S.Store.content c.point.new.store) (g.S.Store.rows c.point.new.store) in
    let cells = c.args.cells.now.items in
    let l = location_of c.args.location.now in
    let p = pointer_seen c.in-Some.pointer in
    let one = pointed types f l p in
    let value = same_Some (cell_seen c.args.value) (state.Points p) (points (Some (cell_seen c.args.value)) p c.in-Some.ensures.is) in
    leaves_as (λ output input. result_given s types f l l.members (cell_seen c.args.value) (state_of m cells output input)) (λ output input. one (state_of m cells output input)) (state_of d c.point.new.cells.items) c.settled.result
    (λ output input.
    let st = state_of m cells output input in
    ap (λ (v : state.Cell). result_given s types f l l.members v st) value ∙ member_given s types f l st l.members p c.requires.member)
    (subst (λ (r : Result _ Ending). LeavesBoth one m cells d c.point.new.cells.items r) (sym c.settled.ensures)
    (comes_leaves one m d cells c.point.new.cells.items c.point.result c.point.ensures.step))

pub returns-in-Some-clause-fits : goal.returns-in-Some-clause-fits
returns-in-Some-clause-fits g c =
    let fits = IsFit (types_in c.args.scope.now) (g.S.Store.content c.point.new.store) (g.S.Store.rows c.point.new.store) c.point.new.cells.items in
    subst (λ (r : Result _ Ending). OnOk r fits) (sym c.settled.ensures) (ok_settled c.point.result fits c.point.ensures.fits)

pub returns-in-Some-clause-keeps : goal.returns-in-Some-clause-keeps
returns-in-Some-clause-keeps g c =
    let keeps = Keeps (g.S.Store.content c.args.store.now) (g.S.Store.content c.point.new.store) (g.S.Store.rows c.args.store.now) (g.S.Store.rows c.point.new.store) in
    ok_holds c.settled.result keeps c.point.ensures.keeps
