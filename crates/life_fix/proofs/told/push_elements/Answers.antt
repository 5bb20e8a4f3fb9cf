use Rattle.std.proofs.Common.{◌≤◌, ◌++◌, ◌∙◌, Option, Some, ap, arith}
use Rattle.life_pset.specs.declared.element.Element.{Element}
use Rattle.life_sets.specs.NumberSets.{holds}
use Rattle.life_rules.specs.FactSets.{named_fact}
use Rattle.life_fix.proofs.ToldFacts.{of_all, of_next, of_past}
use Rattle.life_fix.proofs.told.push_elements.Goals as goal

pub returns-in-None : goal.returns-in-None
returns-in-None c =
    of_all c.args.table.now c.args.location.now (holds c.args.elements.now) c.loop-from.from c.args.facts.now.items c.loop-from.facts.items c.in-None.ensures.none c.loop-from.invariant

pub loop-from-preserved : goal.loop-from-preserved
loop-from-preserved c =
    let before = c.loop-from.facts.items in
    let location = c.args.location.now in
    of_next c.args.table.now location (holds c.args.elements.now) c.loop-from.from c.in-Some.number c.args.facts.now.items before c.push_element.new.facts.items c.in-Some.ensures.some
    (c.in_ok-push_element-in-Some.ensures ∙ ap (λ (o : Option Element). before ++ named_fact (Some location) o) c.element.ensures) c.loop-from.invariant

pub returns : goal.returns
returns c =
    let past : c.args.elements.now.limit ≤ c.loop-from.from = omega (arith, c.loop-from-test.false, c.limit-end.ensures) in
    of_past c.args.table.now c.args.location.now c.args.elements.now c.loop-from.from c.args.facts.now.items c.loop-from.facts.items past c.loop-from.invariant
