use Rattle.std.proofs.Common.{◌≡◌, ◌<◌, ℕ, Some}
use Rattle.std.specs.Prelude.{slice_get}
use Rattle.life_core.specs.declared.stmt.Edge.{Edge}
use Rattle.life_fix.proofs.leaving.pass_before.Given as goal

-- those so far leave earlier points
abbrev pub invariant-loop-k : goal.invariant-loop-k
invariant-loop-k l = (j : ℕ) (edge : Edge) → slice_get l.edges j ≡ Some edge → j < l.k → edge.from.0 < l.point
