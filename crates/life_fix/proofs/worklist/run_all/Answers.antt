use Rattle.std.proofs.Common.{arith}
use Rattle.life_core.specs.Function.{function_of}
use Rattle.life_fix.specs.Solving.{pairs_at, set_at}
use Rattle.life_fix.proofs.Sizes.{most_left}
use Rattle.life_fix.proofs.States.{solved_all}
use Rattle.life_fix.proofs.worklist.run_all.Goals as goal

pub returns-in_err-visit-clause-ticks : goal.returns-in_err-visit-clause-ticks
returns-in_err-visit-clause-ticks g c =
    let flow = c.args.flow.now in
    let first = most_left flow.types.now (function_of flow.f.now) flow.table.now flow.edges.now (set_at c.args.dues.now) (pairs_at g.R.Rows.has c.args.rows.now) c.requires.flow.table c.requires.flow.edges in
    omega (arith, first, c.loop-k.invariant.ticks, c.visit.ensures.few, c.visit.ensures.left)

pub returns-clause-ticks : goal.returns-clause-ticks
returns-clause-ticks g c =
    let flow = c.args.flow.now in
    let first = most_left flow.types.now (function_of flow.f.now) flow.table.now flow.edges.now (set_at c.args.dues.now) (pairs_at g.R.Rows.has c.args.rows.now) c.requires.flow.table c.requires.flow.edges in
    omega (arith, first, c.loop-k.invariant.ticks)

pub returns-clause-solved : goal.returns-clause-solved
returns-clause-solved g c =
    let flow = c.args.flow.now in
    solved_all flow.sigs.now flow.types.now (function_of flow.f.now) flow.edges.now c.requires.flow.edges c.loop-k.plans (set_at c.loop-k.dues) (pairs_at g.R.Rows.has c.loop-k.rows)
    c.requires.flow.join c.loop-k.invariant.partial c.loop-k.invariant.plans c.in_default.ensures.none
