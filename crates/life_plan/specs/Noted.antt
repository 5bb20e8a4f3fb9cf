-- Which locations gained a pair.
use Rattle.std.specs.Prelude.{◌≡◌, ◌⊎◌, ◌↔◌, ℕ, Bool, true, false, IsTrue}

-- some pair of the location is in the second set and not in the first
abbrev pub HasNewAt : (before after : ℕ → ℕ → Bool) → ℕ → Type 0
HasNewAt before after l = (e : ℕ) × ((before l e ≡ false) × (after l e ≡ true))

-- beside those that were noted before, exactly the locations at which the row gained a pair
abbrev pub Notes : (before after : ℕ → ℕ → Bool) → (noted now_noted : ℕ → Bool) → Type 0
Notes before after noted now_noted = (l : ℕ) → IsTrue (now_noted l) ↔ (IsTrue (noted l) ⊎ HasNewAt before after l)
