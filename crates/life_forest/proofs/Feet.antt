-- Feet that lie in one another: a foot, and a foot with objects that are whole in it.
use Rattle.std.proofs.Common.{ℕ, ◌<◌, List, inr}
use Rattle.life_store.specs.Content.{Content}
use Rattle.life_forest.specs.Kinds.{Kinds}
use Rattle.life_forest.specs.Owned.{times}
use Rattle.life_forest.specs.Forest.{Foot, Beneath, whole, Within, positive}
use Rattle.life_forest.proofs.Below.{positive_is}

-- the parts of a foot, and objects of a list
abbrev pub and_all : Foot → List ℕ → Foot
and_all t ns = record { whole = λ k. positive (times ns k); part = t.part }

module _ (kind : Kinds) where
  pub within_self : (c : Content) (t : Foot) → Within kind c t t
  within_self c t = record { whole = λ n lt e. whole n e; part = λ m lt. inr (λ w e. e) }

  pub within_all : (c : Content) (t : Foot) (ns : List ℕ) → ((n : ℕ) → 0 < times ns n → n < c.births → Beneath kind c t n) → Within kind c (and_all t ns) t
  within_all c t ns low = record { whole = λ n lt e. low n (positive_is (times ns n) e) lt; part = λ m lt. inr (λ w e. e) }
