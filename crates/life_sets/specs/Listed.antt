-- The pairs of a set, listed as far as a pair.
use Rattle.std.specs.Prelude.{◌≡◌, ℕ, ◌<◌, ◌⊎◌, ◌↔◌, Bool, IsTrue, List, Contains}
use Rattle.life_sets.specs.Pairs.{IsAscending}

-- the pair (x, y) comes before (l, e)
abbrev pub IsBefore : (l e x y : ℕ) → Type 0
IsBefore l e x y = (x < l) ⊎ ((x ≡ l) × (y < e))

-- the set's pairs before (l, e), in order
pub record IsListed (has : ℕ → ℕ → Bool) (l e : ℕ) (pairs : List (ℕ × ℕ)) : Type 0 where
  pub each : (x y : ℕ) → Contains pairs (x, y) ↔ (IsTrue (has x y) × IsBefore l e x y)
  pub ascending : IsAscending pairs
