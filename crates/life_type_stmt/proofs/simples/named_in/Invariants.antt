use Rattle.std.proofs.Common.{◌≡◌, take}
use Rattle.life_typed.proofs.Applied.{inside}
use Rattle.life_type_stmt.specs.Simples.{named_in}
use Rattle.life_type_stmt.proofs.simples.named_in.Given as goal

abbrev pub invariant-operands : goal.invariant-operands
invariant-operands l = l.named ≡ named_in (inside (take l.operand-index l.operand-items))
