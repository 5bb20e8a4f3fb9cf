use Rattle.std.proofs.Common.{[], take}
use Rattle.life_pset.specs.Inputs.{input_seen}
use Rattle.life_rules.specs.Given.{targets_in, AddsPlaces}
use Rattle.life_rules.proofs.given.targets_of.Given as goal

-- the places of the facts so far
abbrev pub invariant-loop-fact : goal.invariant-loop-fact
invariant-loop-fact l = AddsPlaces (targets_in l.call (input_seen l.input) (take l.fact-index l.facts)) [] l.targets
