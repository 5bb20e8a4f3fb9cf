use Rattle.std.proofs.Common.{Option, subst, sym}
use Rattle.std.specs.Option.{option_copied}
use Rattle.life_core.specs.Function.{function_of}
use Rattle.life_core.specs.Tree.{Spot}
use Rattle.life_sets.specs.NumberSets.{holds}
use Rattle.life_rules.specs.Callees.{callee_in, IsCallee}
use Rattle.life_plan.specs.Carried.{none_due, IsCarried}
use Rattle.life_plan.specs.Crossing.{Crossing}
use Rattle.life_fix.proofs.EdgeRuns.{crossed, noted_now}
use Rattle.life_fix.proofs.flow.run_row.Goals as goal

pub invariant_of-context : goal.invariant_of-context
invariant_of-context g c =
    let flow = c.args.flow.now in
    let f = function_of flow.f.now in
    record { called = subst (λ (s : Option Spot). IsCallee flow.types.now (callee_in flow.sigs.now s) (option_copied c.callee_in.result)) (sym (c.spot_in.ensures f c.requires.flow.spots)) (c.callee_in.ensures flow.types.now flow.sigs.now f c.requires.flow.callees) }

pub run-requires-clause-context : goal.run-requires-clause-context
run-requires-clause-context g c = record {
  table = c.requires.flow.table;
  spot = c.spot_in.ensures (function_of c.args.flow.now.f.now) c.requires.flow.spots;
}

pub run-requires-clause-carried : goal.run-requires-clause-carried
run-requires-clause-carried g c =
    let has = g.R.Rows.has in
    let is = crossed c.args.flow.now c.args.edge c.spot_in.result c.requires.flow (c.spot_in.ensures (function_of c.args.flow.now.f.now) c.requires.flow.spots) in
    subst (λ (x : Crossing). IsCarried x c.args.plan.now (holds c.args.due.now) (has c.args.from.now) (has c.args.into.now)) (sym is) c.requires.carried

pub returns-clause-runs : goal.returns-clause-runs
returns-clause-runs g c =
    let has = g.R.Rows.has in
    let is = crossed c.args.flow.now c.args.edge c.spot_in.result c.requires.flow (c.spot_in.ensures (function_of c.args.flow.now.f.now) c.requires.flow.spots) in
    record {
      carried = subst (λ (x : Crossing). IsCarried x c.run.new.self none_due (has c.args.from.now) (has c.run.new.into)) is c.in_ok-run.ensures.carried;
      sound = c.run.ensures.sound;
      noted = noted_now (has c.args.into.now) (has c.run.new.into) (holds c.clear.new.self) (holds c.run.new.gained) c.clear.ensures.none c.in_ok-run.ensures.noted;
    }
