-- An ordered set of pairs, as a test.
use Rattle.std.specs.Prelude.{List, Contains, ◌↔◌, ◌⊎◌, ◌≡◌, ℕ, ◌<◌, Bool, IsTrue, nat_eq, ◌&&◌, ◌||◌}
use Rattle.std.specs.BTreeSet.{BTreeSet, contains}
use Rattle.life_sets.specs.Pairs.{pair_cmp}

-- the pair is in the set
abbrev pub contains_pair : BTreeSet (ℕ × ℕ) → ℕ → ℕ → Bool
contains_pair s l e = contains pair_cmp s (l, e)

-- the second set is the first and this pair
abbrev pub AddsPair : ℕ → ℕ → (ℕ → ℕ → Bool) → (ℕ → ℕ → Bool) → Type 0
AddsPair a b old new = (l e : ℕ) → new l e ≡ ((nat_eq l a && nat_eq e b) || old l e)

-- no pair of the set has a number at or past its limit
abbrev pub IsPairWithin : ℕ → ℕ → BTreeSet (ℕ × ℕ) → Type 0
IsPairWithin m n s = (l e : ℕ) → IsTrue (contains_pair s l e) → (l < m) × (e < n)

-- the second set is the first and these pairs
abbrev pub AddsKeys : List (ℕ × ℕ) → (ℕ → ℕ → Bool) → (ℕ → ℕ → Bool) → Type 0
AddsKeys xs old new = (l e : ℕ) → IsTrue (new l e) ↔ (IsTrue (old l e) ⊎ Contains xs (l, e))

-- the second set has all of the first, and besides only some of these pairs
abbrev pub IsAmong : List (ℕ × ℕ) → (ℕ → ℕ → Bool) → (ℕ → ℕ → Bool) → Type 0
IsAmong xs old new = (l e : ℕ) → (IsTrue (old l e) → IsTrue (new l e)) × (IsTrue (new l e) → IsTrue (old l e) ⊎ Contains xs (l, e))
