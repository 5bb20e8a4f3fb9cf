use Rattle.std.proofs.Common.{◌≤◌, arith}
use Rattle.life_sets.specs.NumberSets.{holds}
use Rattle.life_plan.specs.Crossing.{crossing_in}
use Rattle.life_plan.proofs.Making.{made_all, made_more, made_none, made_rest, made_skipped}
use Rattle.life_plan.proofs.reading.push_all_made.Goals as goal

pub loop-from-init : goal.loop-from-init
loop-from-init c = made_none (crossing_in c.args.context.now) c.args.location (holds c.args.elements.now) c.args.facts.now.items 0

pub returns-in-None : goal.returns-in-None
returns-in-None c =
    made_rest (crossing_in c.args.context.now) c.args.location (holds c.args.elements.now) c.args.facts.now.items c.loop-from.from c.loop-from.facts.items c.in-None.ensures.none c.loop-from.invariant

pub loop-from-preserved : goal.loop-from-preserved
loop-from-preserved c =
    let x = crossing_in c.args.context.now in
    let first = c.args.facts.now.items in
    let elements = holds c.args.elements.now in
    let so_far = made_skipped x c.args.location elements first c.loop-from.from c.in-Some.e c.loop-from.facts.items c.in-Some.ensures.some c.loop-from.invariant in
    made_more x c.args.location elements first c.in-Some.e c.loop-from.facts.items c.push_made_of.new.facts.items c.in-Some.ensures.some.held so_far c.in_ok-push_made_of-in-Some.ensures

pub returns : goal.returns
returns c =
    let past : c.args.elements.now.limit ≤ c.loop-from.from = omega (arith, c.limit-end.ensures, c.loop-from-test.false) in
    made_all (crossing_in c.args.context.now) c.args.location c.args.elements.now c.args.facts.now.items c.loop-from.facts.items c.loop-from.from past c.loop-from.invariant
