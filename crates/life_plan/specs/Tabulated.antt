-- Tests tabulated as sets.
use Rattle.std.specs.Prelude.{◌≡◌, ◌⊎◌, ◌↔◌, ◌<◌, ℕ, Bool, IsTrue, nat_lt, ◌&&◌, ◌||◌}

-- the set after has what the set before had, and those numbers below a bound that pass the test
abbrev pub Tabulates : (test : ℕ → Bool) → (below : ℕ) → (before after : ℕ → Bool) → Type 0
Tabulates test below before after = (n : ℕ) → after n ≡ ((nat_lt n below && test n) || before n)

-- .. or those of which a statement holds by some number below the bound
abbrev pub Gathers : (says : ℕ → ℕ → Type 0) → (below : ℕ) → (before after : ℕ → Bool) → Type 0
Gathers says below before after = (n : ℕ) → IsTrue (after n) ↔ (IsTrue (before n) ⊎ ((k : ℕ) × ((k < below) × says k n)))
