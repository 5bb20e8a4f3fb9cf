-- The least number of a set from a number on: within a word, and from word to word.
use Rattle.std.proofs.Common.{◌≡◌, ℕ, ◌+◌, ◌-◌, ◌*◌, ◌/◌, ◌%◌, ◌^◌, ◌<◌, ◌≤◌, ap, sym, ◌∙◌, inl, inr, false, true, ◌&&◌, arith, subst, nat_eq, nat_lt, List, slice_index}
use Rattle.std.specs.Int.{trailing_zeros, w64}
use Rattle.std.proofs.lemmas.Bool.{lt-ltb, le-ltb, cases_lt, both_ways, and_left, and_right}
use Rattle.std.proofs.lemmas.Nat.{shr_le}
use Rattle.std.proofs.lemmas.Nat.Bits.{bit_at-trailing_zeros, bit_at_above}
use Rattle.life_sets.specs.BitSets.{words_for, has_bit, IsClean}
use Rattle.life_sets.specs.NumberSets.{holds_bit, IsNext}
use Rattle.life_sets.proofs.BitSetLemmas.{own_number}
use Rattle.life_sets.proofs.Bits.{has_none, has_shifted}

-- a bit of a word from a place on, as a bit of the shifted word
from_place : (word place b : ℕ) → place ≤ b → has_bit (word / 2 ^ place) (b - place) ≡ has_bit word b
from_place word place b le = has_shifted word place (b - place) ∙ ap (has_bit word) (omega (arith, le))

-- a shifted word that is 0 has no bit from the place on
pub none_from : (word place : ℕ) → word / 2 ^ place ≡ 0 → (b : ℕ) → place ≤ b → has_bit word b ≡ false
none_from word place none b le = sym (from_place word place b le) ∙ ap (λ (z : ℕ). has_bit z (b - place)) none ∙ has_none (b - place)

-- .. and one that isn't 0 has its lowest bit there
pub lowest_from : (word place : ℕ) → word < 2 ^ 64 → 0 < word / 2 ^ place → IsNext (has_bit word) place (place + trailing_zeros w64 (word / 2 ^ place)) × (place + trailing_zeros w64 (word / 2 ^ place) < 64)
lowest_from word place small some =
    let rest = word / 2 ^ place in
    let t = trailing_zeros w64 rest in
    let low = bit_at-trailing_zeros w64 rest some (omega (arith, small, shr_le word place)) in
    let held : has_bit word (place + t) ≡ true = sym (has_shifted word place t) ∙ ap (λ (x : ℕ). nat_eq x 1) low.1 in (
      record {
        held = held;
        reached = omega arith;
        between = λ m ge lt. sym (from_place word place m ge) ∙ ap (λ (x : ℕ). nat_eq x 1) (low.2 (m - place) (omega (arith, ge, lt)));
      },
      elim (cases_lt (place + t) 64) [
        | inl lt ↦ lt
        | inr ge ↦ absurd (both_ways (has_bit word (place + t)) (ap (λ (x : ℕ). nat_eq x 1) (bit_at_above word 64 (place + t) small ge)) held)
      ],
    )

-- ---- from word to word
-- a word without a bit from there on takes the search one word further
pub none_further : (limit from k : ℕ) (ws : List ℕ) → ((n : ℕ) → from ≤ n → n < k * 64 → holds_bit limit ws n ≡ false) → ((b : ℕ) → from - k * 64 ≤ b → b < 64 → has_bit (slice_index ws k) b ≡ false) → (n : ℕ) → from ≤ n → n < (k + 1) * 64 → holds_bit limit ws n ≡ false
none_further limit from k ws before here n ge lt =
    elim (cases_lt n (k * 64)) [
      | inl early ↦ before n ge early
      | inr late ↦
          let word : n / 64 ≡ k = omega (arith, late, lt) in
          and_right (nat_lt n limit) (has_bit (slice_index ws (n / 64)) (n % 64)) (ap (λ (z : ℕ). has_bit (slice_index ws z) (n % 64)) word ∙ here (n % 64) (omega (arith, ge, late, lt)) (omega arith))
    ]

-- the number of a word's bit is in the set, and below the limit
pub bit_held : (limit k b : ℕ) (ws : List ℕ) → IsClean limit ws → k < words_for limit → b < 64 → has_bit (slice_index ws k) b ≡ true → (holds_bit limit ws (k * 64 + b) ≡ true) × (k * 64 + b < limit)
bit_held limit k b ws clean inside small set =
    let below : k * 64 + b < limit = subst (λ (z : ℕ). z * 64 + b < limit) (own_number (words_for limit) k inside) (clean k b small set) in
    let word : (k * 64 + b) / 64 ≡ k = omega (arith, small) in
    let place : (k * 64 + b) % 64 ≡ b = omega (arith, small) in
    ((λ i. lt-ltb (k * 64 + b) limit below i && has_bit (slice_index ws (word i)) (place i)) ∙ set, below)

-- a word's least bit from there on is the set's next number, where the words before have none
pub next_found : (limit from k b : ℕ) (ws : List ℕ) → IsClean limit ws → k < words_for limit → ((n : ℕ) → from ≤ n → n < k * 64 → holds_bit limit ws n ≡ false) → IsNext (has_bit (slice_index ws k)) (from - k * 64) b → b < 64 → IsNext (holds_bit limit ws) from (k * 64 + b) × (k * 64 + b < limit)
next_found limit from k b ws clean inside before next small =
    let there = bit_held limit k b ws clean inside small next.held in (
      record {
        held = there.0;
        reached = omega (arith, next.reached);
        between = λ m ge lt.
            elim (cases_lt m (k * 64)) [
              | inl early ↦ before m ge early
              | inr late ↦
                  let word : m / 64 ≡ k = omega (arith, late, lt, small) in
                  and_right (nat_lt m limit) (has_bit (slice_index ws (m / 64)) (m % 64)) (ap (λ (z : ℕ). has_bit (slice_index ws z) (m % 64)) word ∙ next.between (m % 64) (omega (arith, ge, late, lt, small)) (omega (arith, late, lt, small)))
            ];
      },
      there.1,
    )

-- behind the last word there is none
pub none_behind : (limit from k : ℕ) (ws : List ℕ) → words_for limit ≤ k → ((n : ℕ) → from ≤ n → n < k * 64 → holds_bit limit ws n ≡ false) → (n : ℕ) → from ≤ n → holds_bit limit ws n ≡ false
none_behind limit from k ws ended before n ge =
    elim (cases_lt n (k * 64)) [
      | inl early ↦ before n ge early
      | inr late ↦ and_left (nat_lt n limit) (has_bit (slice_index ws (n / 64)) (n % 64)) (le-ltb n limit (omega (arith, late, ended)))
    ]
