use Rattle.std.proofs.Common.{arith}
use Rattle.std.proofs.lemmas.Grind.{common_steps}
use Rattle.life_elab.proofs.NumberedLocals.{numbered_more}
use Rattle.life_elab.proofs.programs.functions.Goals as goal

pub functions-preserved : goal.functions-preserved
functions-preserved c =
    rw c.in_ok-push.ensures.items
    (grind (arith, common_steps, c.functions.invariant.0), numbered_more c.functions.written.items c.in_ok-core.core c.functions.invariant.1 c.in_ok-core.ensures.numbered)
