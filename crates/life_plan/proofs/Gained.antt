-- Whether a row gained a pair, by the locations that were noted.
use Rattle.std.proofs.Common.{◌≡◌, ◌↔◌, ◌≤◌, ℕ, Bool, false, Option, Some, None, inl, inr, arith, refl}
use Rattle.std.proofs.lemmas.Bool.{both_ways}
use Rattle.std.specs.Prelude.{IfNone, IfSome, IsTrue, is_some}
use Rattle.life_sets.specs.NumberSets.{IsNext}
use Rattle.life_sets.specs.Pairs.{HasNew}
use Rattle.life_plan.specs.Noted.{Notes}

-- the first number of a set that was empty before
pub gained_iff : (before after : ℕ → ℕ → Bool) (g h : ℕ → Bool) (next : Option ℕ) → ((n : ℕ) → g n ≡ false) → Notes before after g h → IfSome next (IsNext h 0) → IfNone next ((n : ℕ) → 0 ≤ n → h n ≡ false) → IsTrue (is_some next) ↔ HasNew before after
gained_iff before after g h (Some n) empty notes held none = (
  λ _. elim ((notes n).0 held.held) [ inl early ↦ absurd (both_ways (g n) (empty n) early) | inr new ↦ (n, new) ],
  λ _. refl,
)
gained_iff before after g h None empty notes held none = (
  λ t. absurd (both_ways false refl t),
  λ new. absurd (both_ways (h new.0) (none new.0 (omega arith)) ((notes new.0).1 (inr new.1))),
)
