use Rattle.std.proofs.Common.{◌≤◌, arith, length, option_map, rules, slice_get}
use Rattle.life_core.specs.Node.{spot_seen}
use Rattle.life_sets.specs.NumberSets.{holds}
use Rattle.life_rules.specs.Staying.{marks}
use Rattle.life_plan.specs.Numbered.{passes}
use Rattle.life_plan.proofs.Tabulating.{grown_more, not_new, tabulated_all, tabulated_step}
use Rattle.life_plan.proofs.marking.mark_under.Goals as goal

pub loop-e-preserved : goal.loop-e-preserved
loop-e-preserved c =
    let x = c.args.context.now in
    record {
      limit = search rules;
      each = tabulated_step (λ n. passes (marks (option_map spot_seen x.spot) c.args.target.now) (slice_get x.table.now.elements n)) c.loop-e.e c.is_victim.result (holds c.args.mask.now) (holds c.loop-e.mask) (holds c.insert_if-grew.new.set)
          c.is_victim.ensures c.loop-e.invariant.each c.insert_if-grew.ensures.added;
      grew = grown_more (holds c.args.mask.now) (holds c.loop-e.mask) (holds c.insert_if-grew.new.set) c.loop-e.grew c.insert_if-grew.result c.loop-e.invariant.grew
          (not_new c.is_victim.result c.loop-e.e (holds c.loop-e.mask) (holds c.insert_if-grew.new.set) c.insert_if-grew.result c.insert_if-grew.ensures.fresh c.insert_if-grew.ensures.added);
    }

pub returns-clause-mask : goal.returns-clause-mask
returns-clause-mask c =
    let x = c.args.context.now in
    let past : length x.table.now.elements ≤ c.loop-e.e = omega (arith, c.element_count-e-end.ensures, c.loop-e-test.false) in
    tabulated_all (marks (option_map spot_seen x.spot) c.args.target.now) x.table.now.elements c.loop-e.e (holds c.args.mask.now) (holds c.loop-e.mask) past c.loop-e.invariant.each
