-- The forest of owners, and what a change touches.
use Rattle.std.specs.Prelude.{◌≡◌, ℕ, zero, suc, ◌+◌, ◌<◌, ◌≤◌, Bool, true, false, List, [], ◌∷◌, Some, option_map}
use Rattle.std.proofs.Common.{◌⊎◌}
use Rattle.life_store.specs.Cells.{at}
use Rattle.life_store.specs.Content.{Slot, Object, Content}
use Rattle.life_forest.specs.Kinds.{Kinds}
use Rattle.life_forest.specs.Owned.{every, alive, times, owns, owns_at, holders, spared}

-- stamps are at most the clock
abbrev pub AllSince : ℕ → List Slot → Type 0
AllSince t [] = Unit {0}
AllSince t (s ∷ ss) = (s.stamp ≤ t) × AllSince t ss

-- what is in the hand, each so many times, is owned by none: the variables of the frames, and what is under way
pub record IsForest (kind : Kinds) (hand : ℕ → ℕ) (c : Content) : Type 0 where
  pub held : (k : ℕ) → hand k + holders kind c k ≤ alive c k
  pub lower : (n m : ℕ) (o q : Object) → at c.objects n ≡ Some o → 0 < owns kind every o m → at c.objects m ≡ Some q → kind.rank q.ty < kind.rank o.ty
  pub slots : (n : ℕ) (o : Object) → at c.objects n ≡ Some o → AllSince c.clock o.slots
  pub ends : (n : ℕ) (o : Object) → at c.objects n ≡ Some o → o.end ≤ c.clock
  pub births : (n : ℕ) (o : Object) → at c.objects n ≡ Some o → n < c.births

-- what may be touched: whole objects, and of others the owners in a word, at any index
pub record Foot : Type 0 where
  pub whole : ℕ → Bool
  pub part : ℕ → ℕ → Bool

pub data Beneath (kind : Kinds) (c : Content) (t : Foot) : ℕ → Type 0 where
  whole : (n : ℕ) → t.whole n ≡ true → Beneath kind c t n
  part : (m n : ℕ) → 0 < owns_at kind c (t.part m) m n → Beneath kind c t n
  under : (m n : ℕ) → Beneath kind c t m → 0 < owns_at kind c every m n → Beneath kind c t n

-- what was there and isn't beneath the foot is as it was, but for values and the owners of the foot; and what was there has got no other
-- owner, but for what is beneath
pub record Touches (kind : Kinds) (t : Foot) (c c' : Content) : Type 0 where
  pub births : c.births ≤ c'.births
  pub clock : c.clock ≤ c'.clock
  pub kept : (n : ℕ) → n < c.births → (Beneath kind c t n → ⊥) → option_map (spared kind (t.part n)) (at c'.objects n) ≡ option_map (spared kind (t.part n)) (at c.objects n)
  pub back : (g : ℕ → Bool) (m k : ℕ) → k < c.births → 0 < owns_at kind c' g m k → Beneath kind c t k ⊎ (0 < owns_at kind c g m k)

-- one foot lies in another, as the content is
pub record Within (kind : Kinds) (c : Content) (t u : Foot) : Type 0 where
  pub whole : (n : ℕ) → n < c.births → t.whole n ≡ true → Beneath kind c u n
  pub part : (m : ℕ) → m < c.births → Beneath kind c u m ⊎ ((w : ℕ) → t.part m w ≡ true → u.part m w ≡ true)

-- the objects of a list, whole
abbrev pub positive : ℕ → Bool
positive zero = false
positive (suc n) = true

abbrev pub all_of : List ℕ → Foot
all_of ns = record { whole = λ n. positive (times ns n); part = λ m w. false }

-- they and what is beneath them
abbrev pub Below : Kinds → Content → List ℕ → ℕ → Type 0
Below kind c ns k = Beneath kind c (all_of ns) k
