-- Sets of numbers below a limit, as one bit for each.
use Rattle.std.specs.Prelude.{◌≡◌, ℕ, ◌/◌, ◌%◌, ◌<◌, ◌≤◌, false, true, Bool, IsTrue, List, nat_eq, nat_lt, ◌≢◌, ◌&&◌, slice_index, bit_and}
use Rattle.std.specs.Int.{bit_not, w64}
use Rattle.life_sets.specs.BitSets.{has_bit}

-- what a set of numbers is seen as: its limit and its words
pub record Numbers : Type 0 where
  pub limit : ℕ
  pub words : List ℕ

-- the number is below the limit, and its bit is set
abbrev pub holds_bit : ℕ → List ℕ → ℕ → Bool
holds_bit limit words n = nat_lt n limit && has_bit (slice_index words (n / 64)) (n % 64)

-- the number is in the set
abbrev pub holds : Numbers → ℕ → Bool
holds set = holds_bit set.limit set.words

-- some number is in the second set and not in the first
abbrev pub HasMore : (ℕ → Bool) → (ℕ → Bool) → Type 0
HasMore before after = (n : ℕ) × ((before n ≡ false) × (after n ≡ true))

-- some number is in both
abbrev pub HasCommon : (ℕ → Bool) → (ℕ → Bool) → Type 0
HasCommon has other = (n : ℕ) × (IsTrue (has n) × IsTrue (other n))

-- the least number of the set from there on
pub record IsNext (has : ℕ → Bool) (from n : ℕ) : Type 0 where
  pub held : IsTrue (has n)
  pub reached : from ≤ n
  pub between : (m : ℕ) → from ≤ m → m < n → has m ≡ false

-- the pairs of a location and the set's numbers
abbrev pub pairs_at : ℕ → Numbers → ℕ → ℕ → Bool
pairs_at location set l e = nat_eq l location && holds set e

-- each word has the bits that it had and the first doesn't have
abbrev pub IsCut : (from old new : List ℕ) → Type 0
IsCut from old new = (k : ℕ) → slice_index new k ≡ bit_and (slice_index old k) (bit_not w64 (slice_index from k))

-- true just where two words of one place have a bit in common
abbrev pub TellsCommon : (words others : List ℕ) → Bool → Type 0
TellsCommon words others common =
    (IsTrue common → (k : ℕ) × (bit_and (slice_index words k) (slice_index others k) ≢ 0))
    × (common ≡ false → (k : ℕ) → ◌≡◌ {A = ℕ} (bit_and (slice_index words k) (slice_index others k)) 0)
