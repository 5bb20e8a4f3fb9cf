use Rattle.std.proofs.Common.{◌<◌, ℕ, Bool, None, arith, get_or, length, refl, subst, sym}
use Rattle.std.proofs.lemmas.Option.{slice_get-get_or}
use Rattle.life_core.specs.Function.{function_of}
use Rattle.life_core.specs.Linked.{points_of, IsJoined}
use Rattle.life_core.specs.declared.stmt.Edge.{Edge}
use Rattle.life_sets.specs.NumberSets.{holds}
use Rattle.life_plan.specs.Carried.{IsCarried}
use Rattle.life_plan.specs.Crossing.{crossing_of}
use Rattle.life_fix.specs.Solving.{pairs_at, set_at}
use Rattle.life_fix.proofs.PutBack.{due_below, set_is}
use Rattle.life_fix.proofs.Runs.{falls_visit, partial_visit}
use Rattle.life_fix.proofs.Sizes.{left_some, some_of}
use Rattle.life_fix.proofs.States.{joined_at}
use Rattle.life_fix.proofs.worklist.visit.Goals as goal

-- an edge that no list is read at
abbrev no_edge : Edge
no_edge = record { from = record { 0 = 0 }; to = record { 0 = 0 }; branch = None }

pub run_edge-requires-clause-join : goal.run_edge-requires-clause-join
run_edge-requires-clause-join g c =
    let f = function_of c.args.flow.now.f.now in
    let edges = c.args.flow.now.edges.now in
    let at = slice_get-get_or edges c.args.k no_edge c.requires.k in
    let edge = get_or edges c.args.k no_edge in
    subst (λ (n : ℕ). IsJoined n edge) (sym c.requires.count) (joined_at (points_of f) edges c.args.k edge c.requires.flow.join at)

pub run_edge-requires-clause-carried : goal.run_edge-requires-clause-carried
run_edge-requires-clause-carried g c =
    let flow = c.args.flow.now in
    let k = c.args.k in
    let edges = flow.edges.now in
    let edge = get_or edges k no_edge in
    let pairs = pairs_at g.R.Rows.has c.args.rows.now in
    let in_plans : k < length c.args.plans.now = omega (arith, c.requires.k, c.requires.plans) in
    let in_dues : k < length c.args.dues.now = omega (arith, c.requires.k, c.requires.dues) in
    let plan = get_or c.args.plans.now k c.index-plans-k.result in
    let due = get_or c.args.dues.now k c.index-dues-k.result in
    let is = set_is c.args.dues.now k due (slice_get-get_or c.args.dues.now k _ in_dues) in
    subst (λ (s : ℕ → Bool). IsCarried (crossing_of flow.sigs.now flow.types.now (function_of flow.f.now) edge) plan s (pairs edge.from.0) (pairs edge.to.0)) is
    (c.requires.partial.carried k edge plan (slice_get-get_or edges k no_edge c.requires.k) (slice_get-get_or c.args.plans.now k _ in_plans))

pub returns-clause-left : goal.returns-clause-left
returns-clause-left g c =
    let flow = c.args.flow.now in
    let at = slice_get-get_or flow.edges.now c.args.k no_edge c.requires.k in
    let low = due_below (length flow.table.now.locations) c.args.dues.now c.args.k c.requires.due.0 c.requires.sized c.requires.due.1 in
    left_some flow.table.now flow.edges.now (set_at c.args.dues.now) (pairs_at g.R.Rows.has c.args.rows.now) c.args.k _ at
    (some_of (set_at c.args.dues.now c.args.k) (length flow.table.now.locations) c.requires.due.0 low c.requires.due.1)

pub returns-in_err-run_edge-clause-left : goal.returns-in_err-run_edge-clause-left
returns-in_err-run_edge-clause-left g c =
    let flow = c.args.flow.now in
    let at = slice_get-get_or flow.edges.now c.args.k no_edge c.requires.k in
    let low = due_below (length flow.table.now.locations) c.args.dues.now c.args.k c.requires.due.0 c.requires.sized c.requires.due.1 in
    left_some flow.table.now flow.edges.now (set_at c.args.dues.now) (pairs_at g.R.Rows.has c.args.rows.now) c.args.k _ at
    (some_of (set_at c.args.dues.now c.args.k) (length flow.table.now.locations) c.requires.due.0 low c.requires.due.1)

pub returns-clause-partial : goal.returns-clause-partial
returns-clause-partial g c =
    let flow = c.args.flow.now in
    let k = c.args.k in
    let in_plans : k < length c.args.plans.now = omega (arith, c.requires.k, c.requires.plans) in
    partial_visit flow.sigs.now flow.types.now (function_of flow.f.now) flow.edges.now c.requires.flow.edges c.args.plans.now _ (set_at c.args.dues.now) (set_at c.put_back.new.dues)
    (pairs_at g.R.Rows.has c.args.rows.now) (pairs_at g.R.Rows.has c.run_edge.new.rows) k (get_or flow.edges.now k no_edge) (get_or c.args.plans.now k c.index-plans-k.result) c.run_edge.new.plan (holds c.run_edge.new.gained)
    c.requires.partial (slice_get-get_or flow.edges.now k no_edge c.requires.k) (slice_get-get_or c.args.plans.now k _ in_plans) c.in_ok-run_edge.ensures.runs (c.put_back.ensures.put (get_or flow.edges.now k no_edge) (slice_get-get_or flow.edges.now k no_edge c.requires.k)) refl

pub returns-clause-falls : goal.returns-clause-falls
returns-clause-falls g c =
    let flow = c.args.flow.now in
    let k = c.args.k in
    let in_plans : k < length c.args.plans.now = omega (arith, c.requires.k, c.requires.plans) in
    let low = due_below (length flow.table.now.locations) c.args.dues.now k c.requires.due.0 c.requires.sized c.requires.due.1 in
    falls_visit flow.sigs.now flow.types.now (function_of flow.f.now) flow.table.now flow.edges.now c.requires.flow.table c.requires.flow.edges c.args.plans.now (set_at c.args.dues.now) (set_at c.put_back.new.dues)
    (pairs_at g.R.Rows.has c.args.rows.now) (pairs_at g.R.Rows.has c.run_edge.new.rows) k (get_or flow.edges.now k no_edge) (get_or c.args.plans.now k c.index-plans-k.result) c.run_edge.new.plan (holds c.run_edge.new.gained)
    c.requires.partial (slice_get-get_or flow.edges.now k no_edge c.requires.k) (slice_get-get_or c.args.plans.now k _ in_plans) c.in_ok-run_edge.ensures.runs (c.put_back.ensures.put (get_or flow.edges.now k no_edge) (slice_get-get_or flow.edges.now k no_edge c.requires.k)) c.requires.due.0 low c.requires.due.1
