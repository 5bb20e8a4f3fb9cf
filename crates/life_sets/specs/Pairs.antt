-- Sets of pairs of numbers, as tests.
use Rattle.std.specs.Prelude.{◌≡◌, ◌⊎◌, ℕ, ◌<◌, Bool, true, false, IsTrue, List, All, nat_eq, ◌&&◌}
use Rattle.std.specs.Ordering.{ordering_then, nat_cmp}
use Rattle.std.specs.declared.cmp.Ordering.{Ordering}
use Rattle.std.specs.List.Sorted.{IsStrictlySortedBy}

-- by the first number, and then by the second
abbrev pub pair_cmp : ℕ × ℕ → ℕ × ℕ → Ordering
pair_cmp x y = ordering_then (nat_cmp x.0 y.0) (nat_cmp x.1 y.1)

-- in ascending order, each once
abbrev pub IsAscending : List (ℕ × ℕ) → Type 0
IsAscending pairs = IsStrictlySortedBy pair_cmp pairs

-- each number of a pair is below its limit
abbrev pub AllWithin : ℕ → ℕ → List (ℕ × ℕ) → Type 0
AllWithin locations elements pairs = All (λ pair. (pair.0 < locations) × (pair.1 < elements)) pairs

-- some pair is in the second set and not in the first
abbrev pub HasNew : (ℕ → ℕ → Bool) → (ℕ → ℕ → Bool) → Type 0
HasNew before after = (l : ℕ) × ((e : ℕ) × ((before l e ≡ false) × (after l e ≡ true)))

-- the set after has all of the set before, and besides only what was to be added
abbrev pub IsBetween : (added before after : ℕ → ℕ → Bool) → Type 0
IsBetween added before after = (l e : ℕ) → (IsTrue (before l e) → IsTrue (after l e)) × (IsTrue (after l e) → IsTrue (before l e) ⊎ IsTrue (added l e))

-- the set's pairs of one location
abbrev pub pairs_from : (has : ℕ → ℕ → Bool) → ℕ → ℕ → ℕ → Bool
pairs_from has location l e = nat_eq l location && has location e
