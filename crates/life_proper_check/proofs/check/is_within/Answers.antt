use Rattle.std.proofs.Common.{◌≤◌, List, length, subst}
use Rattle.std.specs.Prelude.{IsTrue}
use Rattle.life_core.specs.declared.program.CoreFn.{CoreFn}
use Rattle.life_proper_check.proofs.Within.{within_program}
use Rattle.life_proper_check.proofs.check.is_within.Goals as goal

pub returns : goal.returns
returns c good =
    within_program c.args.p.now c.in_ok-each.each c.are_few.result c.in_ok-each.ensures (λ few. subst (λ (fs : List CoreFn). length fs ≤ 1024) c.deref.ensures.value (c.are_few.ensures few))
    (subst IsTrue c.both.ensures good)
