use Rattle.std.proofs.Common.{◌≡◌, ◌++◌, false, drop}
use Rattle.life_keys.specs.Values.{unescaped}
use Rattle.life_keys.proofs.literal.unescaped.Given as goal

abbrev pub invariant-loop-b : goal.invariant-loop-b
invariant-loop-b l = l.value.items ++ unescaped l.backslash (drop l.b-index l.bytes) ≡ unescaped false l.bytes
