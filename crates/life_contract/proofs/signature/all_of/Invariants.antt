use Rattle.life_contract.specs.Signatures.{signatures_of}
use Rattle.life_core.specs.Function.{function_of}
use Rattle.std.proofs.Common.{◌≡◌, ◌++◌, drop, map}
use Rattle.life_contract.proofs.signature.all_of.Given as goal

-- what was added, and what is left to add
abbrev pub invariant-loop-f : goal.invariant-loop-f
invariant-loop-f l = l.all.items ++ signatures_of (map function_of (drop l.f-index l.functions)) ≡ signatures_of (map function_of l.functions)
