use Rattle.std.proofs.Common.{◌≤◌, false, arith, length, option_map, rules, slice_get}
use Rattle.life_core.specs.Node.{spot_seen}
use Rattle.life_sets.specs.NumberSets.{holds}
use Rattle.life_rules.specs.Staying.{spot_writes}
use Rattle.life_plan.specs.Numbered.{passes}
use Rattle.life_plan.proofs.Tabulating.{tabulated_step, tabulated_whole}
use Rattle.life_plan.proofs.staying.written_locations.Goals as goal

pub loop-n-preserved : goal.loop-n-preserved
loop-n-preserved c = record {
  limit = search rules;
  each = tabulated_step (λ n. passes (spot_writes (option_map spot_seen c.args.context.now.spot)) (slice_get c.args.context.now.table.now.locations n)) c.loop-n.n c.is_written.result (λ n. false) (holds c.loop-n.set) (holds c.insert_if.new.set)
      c.is_written.ensures c.loop-n.invariant.each c.insert_if.ensures.added;
}

pub returns-clause-each : goal.returns-clause-each
returns-clause-each c =
    let past : length c.args.context.now.table.now.locations ≤ c.loop-n.n = omega (arith, c.location_count-n-end.ensures, c.loop-n-test.false) in
    tabulated_whole (spot_writes (option_map spot_seen c.args.context.now.spot)) c.args.context.now.table.now.locations c.loop-n.n (holds c.loop-n.set) past c.loop-n.invariant.each
