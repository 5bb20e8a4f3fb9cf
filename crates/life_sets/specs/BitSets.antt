-- Words that have one bit for each pair.
use Rattle.std.specs.Prelude.{◌≡◌, ◌≢◌, ℕ, ◌+◌, ◌*◌, ◌/◌, ◌%◌, ◌<◌, ◌^◌, false, Bool, IsTrue, List, nat_eq, nat_lt, ◌&&◌, length, slice_index, bit_or}
use Rattle.std.specs.Int.{bit_at}

-- what a row of bits is seen as: its limits and its words
pub record BitSet : Type 0 where
  pub locations : ℕ
  pub elements : ℕ
  pub words : List ℕ

-- the least number of words that have a bit for each element
abbrev pub words_for : ℕ → ℕ
words_for elements = (elements + 63) / 64

-- the bit of a word, from 0 for the lowest, is set
abbrev pub has_bit : ℕ → ℕ → Bool
has_bit word place = nat_eq (bit_at word place) 1

-- the word of a pair: each location's words stand together
abbrev pub word_of : ℕ → ℕ → ℕ → ℕ
word_of elements l e = l * words_for elements + e / 64

-- the pair's bit is set
abbrev pub bit_of : ℕ → List ℕ → ℕ → ℕ → Bool
bit_of elements words l e = has_bit (slice_index words (word_of elements l e)) (e % 64)

-- the pair is in the set: its numbers are below the limits, and its bit is set
abbrev pub contains_bit : ℕ → ℕ → List ℕ → ℕ → ℕ → Bool
contains_bit locations elements words l e = nat_lt l locations && (nat_lt e elements && bit_of elements words l e)

abbrev pub contains : BitSet → ℕ → ℕ → Bool
contains set = contains_bit set.locations set.elements set.words

-- there is a word for each location and each 64 elements
abbrev pub IsFilled : ℕ → ℕ → List ℕ → Type 0
IsFilled locations elements words = length words ≡ locations * words_for elements

-- no bit is set that stands for no element
abbrev pub IsClean : ℕ → List ℕ → Type 0
IsClean elements words = (k b : ℕ) → b < 64 → IsTrue (has_bit (slice_index words k) b) → (k % words_for elements) * 64 + b < elements

-- what each row of bits keeps
pub record IsLaidOut (locations elements : ℕ) (words : List ℕ) : Type 0 where
  pub filled : IsFilled locations elements words
  pub clean : IsClean elements words

-- each word is the two words' bits
abbrev pub IsJoined : (from old new : List ℕ) → Type 0
IsJoined from old new = (k : ℕ) → slice_index new k ≡ bit_or (slice_index from k) (slice_index old k)

-- true just where some word gets a bit that it had not
abbrev pub TellsGain : (from old : List ℕ) → Bool → Type 0
TellsGain from old gained =
    (IsTrue gained → (k : ℕ) × (bit_or (slice_index from k) (slice_index old k) ≢ slice_index old k))
    × (gained ≡ false → (k : ℕ) → bit_or (slice_index from k) (slice_index old k) ≡ slice_index old k)

-- each has 64 bits
abbrev pub AreWords : List ℕ → Type 0
AreWords words = (k : ℕ) → slice_index words k < 2 ^ 64
