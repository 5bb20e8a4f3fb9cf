use Rattle.std.proofs.Common.{◌≡◌, ◌+◌, ◌≤◌, length}
use Rattle.life_core.specs.Function.{function_of}
use Rattle.life_core.specs.Linked.{points_of}
use Rattle.life_plan.specs.Carried.{IsRoom}
use Rattle.life_fix.specs.Solution.{AllLimited}
use Rattle.life_fix.specs.Solving.{left_of, pairs_at, set_at, AreSized, IsPartial}
use Rattle.life_fix.proofs.worklist.run_all.Given as goal

abbrev pub invariant-loop-k : goal.invariant-loop-k
invariant-loop-k g l =
    let t = l.flow.table.now in
    let f = function_of l.flow.f.now in
    let edges = l.flow.edges.now in
    record {
      count : length l.rows ≡ points_of f;
      plans : length l.plans ≡ length edges;
      dues : length l.dues ≡ length edges;
      sized : AreSized (length t.locations) l.dues;
      gained : l.gained.limit ≡ length t.locations;
      room : IsRoom (length t.elements) l.workspace;
      locations : AllLimited g.R.Rows.location_limit (length t.locations) l.rows;
      elements : AllLimited g.R.Rows.element_limit (length t.elements) l.rows;
      partial : IsPartial l.flow.sigs.now l.flow.types.now f edges l.plans (set_at l.dues) (pairs_at g.R.Rows.has l.rows);
      ticks : l.steps + left_of t edges (set_at l.dues) (pairs_at g.R.Rows.has l.rows) ≤ l.fn.steps + left_of t edges (set_at l.fn.dues) (pairs_at g.R.Rows.has l.fn.rows);
    }

abbrev pub decreases-loop-k : goal.decreases-loop-k
decreases-loop-k g l = left_of l.flow.table.now l.flow.edges.now (set_at l.dues) (pairs_at g.R.Rows.has l.rows)
