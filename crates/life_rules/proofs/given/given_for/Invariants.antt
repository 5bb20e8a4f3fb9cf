use Rattle.std.proofs.Common.{◌≡◌, Contains, map, take}
use Rattle.life_pset.specs.Inputs.{input_seen}
use Rattle.life_rules.specs.Given.{given_input, IsGiven}
use Rattle.life_rules.specs.declared.given.Given.{Given}
use Rattle.life_rules.proofs.given.given_for.Given as goal

-- what is given for the inputs so far
abbrev pub invariant-loop-input : goal.invariant-loop-input
invariant-loop-input l = record {
  inputs : map given_input l.all.items ≡ map input_seen (take l.input-index l.inputs);
  given : (g : Given) → Contains l.all.items g → IsGiven l.call l.facts g;
}
