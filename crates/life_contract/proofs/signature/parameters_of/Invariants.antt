use Rattle.life_contract.specs.Signatures.{parameter_of}
use Rattle.std.proofs.Common.{◌≡◌, ◌++◌, drop, map}
use Rattle.life_contract.proofs.signature.parameters_of.Given as goal

-- what was added, and what is left to add
abbrev pub invariant-loop-local : goal.invariant-loop-local
invariant-loop-local l = l.all.items ++ map parameter_of (drop l.local-index l.locals) ≡ map parameter_of l.locals
