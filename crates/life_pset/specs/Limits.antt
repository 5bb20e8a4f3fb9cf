-- Programs within their limits.
use Rattle.std.specs.Prelude.{◌≡◌, ◌≤◌, ℕ, Some, length, slice_get}
use Rattle.life_core.specs.Function.{Function, Program}
use Rattle.life_pset.specs.Elements.{IsWithinLimits}

-- at most 1,024 functions, each of which passes no limit
pub record IsProgramWithinLimits (p : Program) : Type 0 where
  pub few : length p.functions ≤ 1024
  pub each : (i : ℕ) (f : Function) → slice_get p.functions i ≡ Some f → IsWithinLimits p.types f
