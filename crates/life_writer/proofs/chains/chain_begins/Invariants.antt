use Rattle.std.proofs.Common.{◌≤◌, length}
use Rattle.life_writer.specs.Chains.{Runs}
use Rattle.life_writer.proofs.chains.chain_begins.Given as goal

-- the operands that were passed are of the chain
abbrev pub invariant-links : goal.invariant-links
invariant-links l = record {
  few : l.from ≤ length l.operands;
  links : Runs l.chain l.operands l.from;
}

abbrev pub decreases-links : goal.decreases-links
decreases-links l = l.from
