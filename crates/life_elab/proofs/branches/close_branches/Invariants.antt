use Rattle.std.proofs.Common.{◌≡◌, length, map}
use Rattle.life_writer.specs.Views.{state_of}
use Rattle.life_elab.specs.OpenedViews.{opened_of}
use Rattle.life_elab.specs.Statements.{closed}
use Rattle.life_elab.proofs.branches.close_branches.Given as goal

abbrev pub invariant-open : goal.invariant-open
invariant-open l = closed (map opened_of l.open.items) (state_of l.writer) ≡ closed (map opened_of l.initial.open.items) (state_of l.initial.writer)

abbrev pub decreases-open : goal.decreases-open
decreases-open l = length l.open.items
