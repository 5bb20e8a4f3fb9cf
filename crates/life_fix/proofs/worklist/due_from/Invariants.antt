use Rattle.std.proofs.Common.{◌≡◌, ℕ, ◌<◌, ◌≤◌, false}
use Rattle.life_fix.specs.Solving.{set_at}
use Rattle.life_fix.proofs.worklist.due_from.Given as goal

-- no edge so far is due
abbrev pub invariant-loop-k : goal.invariant-loop-k
invariant-loop-k l = (j n : ℕ) → l.start ≤ j → j < l.k → set_at l.dues j n ≡ false
