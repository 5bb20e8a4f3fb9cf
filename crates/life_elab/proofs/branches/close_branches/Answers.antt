use Rattle.life_writer.specs.Views.{state_of}
use Rattle.life_elab.proofs.OpenBranches.{closed_innermost}
use Rattle.life_elab.proofs.branches.close_branches.Goals as goal

pub open-preserved : goal.open-preserved
open-preserved c =
    closed_innermost c.open.open.items c.pop.new.self.items c.in-Some.innermost (state_of c.open.writer) (state_of c.close_branch.new.writer) _
    c.in-Some.ensures.items c.in_ok-close_branch.ensures c.open.invariant
