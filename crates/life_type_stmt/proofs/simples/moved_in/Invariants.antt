use Rattle.std.proofs.Common.{◌≡◌, take}
use Rattle.life_typed.proofs.Applied.{inside}
use Rattle.life_type_stmt.specs.Simples.{moved_in}
use Rattle.life_type_stmt.proofs.simples.moved_in.Given as goal

abbrev pub invariant-operands : goal.invariant-operands
invariant-operands l = l.moved ≡ moved_in (inside (take l.operand-index l.operand-items))
