use Rattle.std.proofs.Common.{◌≡◌, ◌<◌, ℕ, Some, length}
use Rattle.std.specs.Prelude.{slice_get}
use Rattle.life_core.specs.declared.stmt.Edge.{Edge}
use Rattle.life_fix.specs.Solving.{IsBegin}
use Rattle.life_fix.proofs.leaving.Leaving.of.Given as goal

-- the numbers so far are there, and so many edges leave points before the next at least
abbrev pub invariant-loop-point : goal.invariant-loop-point
invariant-loop-point l = record {
  count : length l.firsts.items ≡ l.point;
  each : (p first : ℕ) → slice_get l.firsts.items p ≡ Some first → IsBegin l.flow.edges.now p first;
  early : (k : ℕ) (edge : Edge) → slice_get l.flow.edges.now k ≡ Some edge → k < l.first → edge.from.0 < l.point;
}
