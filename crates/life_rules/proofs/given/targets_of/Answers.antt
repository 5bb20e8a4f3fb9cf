use Rattle.std.proofs.Common.{List, [], arith, subst}
use Rattle.std.proofs.lemmas.List.{take_all}
use Rattle.life_pset.specs.Inputs.{input_seen}
use Rattle.life_pset.specs.declared.element.Fact.{Fact}
use Rattle.life_rules.specs.Given.{target_in, targets_in, AddsPlaces}
use Rattle.life_rules.proofs.GivenPlaces.{places_more}
use Rattle.life_rules.proofs.given.targets_of.Goals as goal

pub loop-fact-preserved : goal.loop-fact-preserved
loop-fact-preserved c =
    places_more (target_in c.args.call.now (input_seen c.args.input)) c.args.facts.now c.loop-fact.fact-index _ c.loop-fact.targets c.add_target.new.targets (omega arith) c.in_ok-add_target.ensures c.loop-fact.invariant

pub returns : goal.returns
returns c =
    subst (λ (facts : List Fact). AddsPlaces (targets_in c.args.call.now (input_seen c.args.input) facts) [] c.loop-fact.targets) (take_all c.loop-fact.fact-index c.args.facts.now (omega arith)) c.loop-fact.invariant
