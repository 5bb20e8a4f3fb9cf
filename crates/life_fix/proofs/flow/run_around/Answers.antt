use Rattle.std.proofs.Common.{ℕ, Bool, subst, sym}
use Rattle.life_core.specs.Function.{function_of}
use Rattle.life_sets.specs.NumberSets.{holds}
use Rattle.life_plan.specs.Carried.{IsCarried}
use Rattle.life_plan.specs.Crossing.{crossing_of}
use Rattle.life_fix.specs.Solving.{RunsRow}
use Rattle.life_fix.proofs.EdgeRuns.{copy_same}
use Rattle.life_fix.proofs.flow.run_around.Goals as goal

pub run_row-requires-clause-carried : goal.run_row-requires-clause-carried
run_row-requires-clause-carried g c =
    let has = g.R.Rows.has in
    let flow = c.args.flow.now in
    let same = copy_same (has c.args.row.now) (has c.in_ok-copy.copy) (has c.join_into.new.into) c.in_ok-join_into.ensures.joined c.in_ok-copy.ensures.none in
    subst (λ (from : ℕ → ℕ → Bool). IsCarried (crossing_of flow.sigs.now flow.types.now (function_of flow.f.now) c.args.edge) c.args.plan.now (holds c.args.due.now) from (has c.args.row.now)) (sym same) c.requires.carried

pub returns-clause-runs : goal.returns-clause-runs
returns-clause-runs g c =
    let has = g.R.Rows.has in
    let flow = c.args.flow.now in
    let same = copy_same (has c.args.row.now) (has c.in_ok-copy.copy) (has c.join_into.new.into) c.in_ok-join_into.ensures.joined c.in_ok-copy.ensures.none in
    subst (λ (from : ℕ → ℕ → Bool). RunsRow flow.sigs.now flow.types.now (function_of flow.f.now) c.args.edge c.run_row.new.plan (holds c.run_row.new.gained) from (has c.args.row.now) (has c.run_row.new.into)) same
    c.in_ok-run_row.ensures.runs
