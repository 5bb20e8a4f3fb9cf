use Rattle.std.proofs.Common.{refl}
use Rattle.life_type_stmt.proofs.Inside.{further_told, whole_told}
use Rattle.life_type_stmt.proofs.simples.named_in.Goals as goal
use Rattle.life_type_stmt.specs.Simples.{named_in}

pub operands-init : goal.operands-init
operands-init c = refl

pub operands-preserved : goal.operands-preserved
operands-preserved c =
    further_told _ named_in (λ place t category f. refl) c.deref-operand-items.result.now c.operands.operand-index c.operand-item.result _ _ c.operands-test.true c.operand-item.is c.operands.invariant c.named_by-named.ensures

pub returns : goal.returns
returns c =
    whole_told _ named_in (λ place t category f. refl) c.args.expression.now c.deref-operand-items.result.now c.operands.operand-index _ _ c.deref-operand-items.ensures.value c.operands-test.false c.operands.invariant c.named_by.ensures
