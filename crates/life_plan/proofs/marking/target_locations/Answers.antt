use Rattle.std.proofs.Common.{◌≤◌, ◌∙◌, false, arith, length, option_map, rules, slice_get, sym}
use Rattle.life_core.specs.Function.{function_of}
use Rattle.life_core.specs.Node.{spot_seen}
use Rattle.life_sets.specs.NumberSets.{holds}
use Rattle.life_rules.specs.Staying.{spot_targets}
use Rattle.life_plan.specs.Numbered.{passes}
use Rattle.life_plan.proofs.Tabulating.{tabulated_step, tabulated_whole}
use Rattle.life_plan.proofs.Untargeted.{none_targeted}
use Rattle.life_plan.proofs.marking.target_locations.Goals as goal

pub returns-then-not-marks_some-clause-each : goal.returns-then-not-marks_some-clause-each
returns-then-not-marks_some-clause-each c = λ n.
    let x = c.args.context.now in
    c.in_ok-set.ensures.none n ∙ sym (none_targeted x.sigs.now x.types.now (function_of x.f.now) (option_map spot_seen x.spot) (c.marks_some.ensures c.if-not-marks_some.true) (slice_get x.table.now.locations n))

pub loop-n-preserved : goal.loop-n-preserved
loop-n-preserved c =
    let x = c.args.context.now in
    record {
      limit = search rules;
      each = tabulated_step (λ n. passes (spot_targets x.sigs.now x.types.now (function_of x.f.now) (option_map spot_seen x.spot)) (slice_get x.table.now.locations n)) c.loop-n.n c.is_target.result (λ n. false) (holds c.loop-n.set) (holds c.insert_if.new.set)
          c.is_target.ensures c.loop-n.invariant.each c.insert_if.ensures.added;
    }

pub returns-clause-each : goal.returns-clause-each
returns-clause-each c =
    let x = c.args.context.now in
    let past : length x.table.now.locations ≤ c.loop-n.n = omega (arith, c.location_count-n-end.ensures, c.loop-n-test.false) in
    tabulated_whole (spot_targets x.sigs.now x.types.now (function_of x.f.now) (option_map spot_seen x.spot)) x.table.now.locations c.loop-n.n (holds c.loop-n.set) past c.loop-n.invariant.each
