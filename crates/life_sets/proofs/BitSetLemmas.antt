-- Words that have one bit for each pair: where the bit of a pair is, and one pair more.
use Rattle.std.proofs.Common.{◌≡◌, ℕ, ◌+◌, ◌*◌, ◌/◌, ◌%◌, ◌^◌, ◌<◌, ◌≤◌, refl, ap, sym, ◌∙◌, inl, inr, Bool, true, false, ◌&&◌, ◌||◌, arith, subst, eq-eqb, nat_eq, nat_lt, List, length, get_or, set, IsTrue, bit_or, slice_index}
use Rattle.std.proofs.Math.Nat.{mul_comm}
use Rattle.std.proofs.lemmas.Bool.{eqb-true, lt-ltb, ltb-true, ne_eqb, cases_eq, or_cases, and_parts, both_ways, false_from_ne_true}
use Rattle.std.proofs.lemmas.List.{get_or-set_other, get_or-set_same}
use Rattle.std.proofs.lemmas.Nat.{same_from_place, div-add-mod', mod_below, mod-mul-add, mul-add-lt}
use Rattle.life_sets.specs.BitSets.{words_for, has_bit, word_of, bit_of, contains_bit, IsClean, IsFilled}
use Rattle.life_sets.proofs.Bits.{has_or, has_pow, has_none}

-- ---- where a bit is
-- an element's word is one of its location's
pub below_width : (n e : ℕ) → e < n → e / 64 < words_for n
below_width n e h = omega (arith, h)

-- .. and one of the set's
word_below : (m n l e : ℕ) → l < m → e < n → word_of n l e < m * words_for n
word_below m n l e p q = subst (λ (z : ℕ). word_of n l e < z) (mul_comm (words_for n) m) (mul-add-lt l (words_for n) (e / 64) m p (below_width n e q))

-- a number below what it is divided by
pub own_number : (w k : ℕ) → k < w → k % w ≡ k
own_number w k lt = ap (λ (z : ℕ). z % w) (omega arith) ∙ mod-mul-add 0 w k lt

-- the element's part of a word's number
word_parts : (n l e k : ℕ) → e < n → k ≡ word_of n l e → k % words_for n ≡ e / 64
word_parts n l e k h is =
    (same_from_place (k / words_for n) (k % words_for n) l (e / 64) (words_for n) (mod_below k (words_for n) (omega (arith, below_width n e h))) (below_width n e h) (div-add-mod' k (words_for n) ∙ is)).1

-- two elements of one word have one bit just where they are the same
same_bit : (x y : ℕ) → x / 64 ≡ y / 64 → nat_eq (x % 64) (y % 64) ≡ nat_eq x y
same_bit x y same =
    elim (cases_eq x y) [
      | inl e ↦ eq-eqb (x % 64) (y % 64) (ap (λ (z : ℕ). z % 64) e) ∙ sym (eq-eqb x y e)
      | inr ne ↦ ne_eqb (x % 64) (y % 64) (λ (q : x % 64 ≡ y % 64). ne (omega (arith, same, q))) ∙ sym (ne_eqb x y ne)
    ]

-- a pair of the set is within the limits
pub set_within : (m n : ℕ) (ws : List ℕ) (l e : ℕ) → IsTrue (contains_bit m n ws l e) → (l < m) × (e < n)
set_within m n ws l e h =
    let outer = and_parts (nat_lt l m) (nat_lt e n && bit_of n ws l e) h in
    (ltb-true l m outer.0, ltb-true e n (and_parts (nat_lt e n) (bit_of n ws l e) outer.1).0)

both_false : (a b c : Bool) → c ≡ false → (a && (b && c)) ≡ false
both_false true true c h = h
both_false true false c h = refl
both_false false b c h = refl

-- a word that is 0 has no pair
pub none_in_word : (m n : ℕ) (ws : List ℕ) (l start y : ℕ) → ◌≡◌ {A = ℕ} (slice_index ws (word_of n l start)) 0 → start % 64 ≡ 0 → start ≤ y → y < start + 64 → contains_bit m n ws l y ≡ false
none_in_word m n ws l start y none first ge lt =
    let same : y / 64 ≡ start / 64 = omega (arith, first, ge, lt) in
    let word : ◌≡◌ {A = ℕ} (slice_index ws (word_of n l y)) 0 = ap (λ (z : ℕ). slice_index ws (l * words_for n + z)) same ∙ none in
    both_false (nat_lt l m) (nat_lt y n) (bit_of n ws l y) (ap (λ (z : ℕ). has_bit z (y % 64)) word ∙ has_none (y % 64))

-- ---- one pair more
-- the words with the bit of a pair set
abbrev pub with_pair : ℕ → List ℕ → ℕ → ℕ → List ℕ
with_pair n old l e = set old (word_of n l e) (bit_or (get_or old (word_of n l e) 0) (2 ^ (e % 64)))

-- .. as the code makes them
pub stored : (n : ℕ) (old : List ℕ) (l e k w : ℕ) → k ≡ word_of n l e → w ≡ bit_or (get_or old k 0) (2 ^ (e % 64)) → set old k w ≡ with_pair n old l e
stored n old l e k w a b = (λ i. set old k (b i)) ∙ (λ i. set old (a i) (bit_or (get_or old (a i) 0) (2 ^ (e % 64))))

or_swap : (a b : Bool) → (a || b) ≡ (b || a)
or_swap true true = refl
or_swap true false = refl
or_swap false true = refl
or_swap false false = refl

-- a pair has its bit in the changed words: it is the new pair, or had it before
bit_set : (n : ℕ) (old : List ℕ) (l e x y : ℕ) → word_of n l e < length old → e < n → y < n → bit_of n (with_pair n old l e) x y ≡ ((nat_eq x l && nat_eq y e) || bit_of n old x y)
bit_set n old l e x y inside he hy =
    let k = word_of n l e in
    let w = bit_or (get_or old k 0) (2 ^ (e % 64)) in
    elim (cases_eq (word_of n x y) k) [
      | inl same ↦
          let parts = same_from_place x (y / 64) l (e / 64) (words_for n) (below_width n y hy) (below_width n e he) same in
          let here : get_or (set old k w) (word_of n x y) 0 ≡ w = ap (λ (j : ℕ). get_or (set old k w) j 0) same ∙ get_or-set_same old k w 0 inside in
          let was : get_or old k 0 ≡ get_or old (word_of n x y) 0 = ap (λ (j : ℕ). get_or old j 0) (sym same) in
          ap (λ (z : ℕ). has_bit z (y % 64)) here
          ∙ has_or (get_or old k 0) (2 ^ (e % 64)) (y % 64)
          ∙ or_swap (has_bit (get_or old k 0) (y % 64)) (has_bit (2 ^ (e % 64)) (y % 64))
          ∙ (λ i. (has_pow (e % 64) (y % 64) ∙ same_bit y e parts.1 ∙ sym (ap (λ (b : Bool). b && nat_eq y e) (eq-eqb x l parts.0))) i || has_bit (was i) (y % 64))
      | inr ne ↦
          ap (λ (z : ℕ). has_bit z (y % 64)) (get_or-set_other old k (word_of n x y) w 0 ne)
          ∙ sym (ap (λ (b : Bool). b || bit_of n old x y) (false_from_ne_true (nat_eq x l && nat_eq y e) (λ (t : (nat_eq x l && nat_eq y e) ≡ true).
          let both = and_parts (nat_eq x l) (nat_eq y e) t in
          ne (λ i. word_of n (eqb-true x l both.0 i) (eqb-true y e both.1 i)))))
    ]

guarded : (a b c r q : Bool) → (a ≡ true → b ≡ true → r ≡ (c || q)) → (a ≡ false → c ≡ false) → (b ≡ false → c ≡ false) → (a && (b && r)) ≡ (c || (a && (b && q)))
guarded true true c r q both _ _ = both refl refl
guarded true false c r q _ _ none = sym (ap (λ (x : Bool). x || false) (none refl))
guarded false b c r q _ none _ = sym (ap (λ (x : Bool). x || false) (none refl))

not_here : (x l m y e : ℕ) → l < m → nat_lt x m ≡ false → (nat_eq x l && nat_eq y e) ≡ false
not_here x l m y e h out =
    false_from_ne_true (nat_eq x l && nat_eq y e) (λ (t : (nat_eq x l && nat_eq y e) ≡ true).
    both_ways (nat_lt x m) out (lt-ltb x m (subst (λ (z : ℕ). z < m) (sym (eqb-true x l (and_parts (nat_eq x l) (nat_eq y e) t).0)) h)))

not_there : (x l n y e : ℕ) → e < n → nat_lt y n ≡ false → (nat_eq x l && nat_eq y e) ≡ false
not_there x l n y e h out =
    false_from_ne_true (nat_eq x l && nat_eq y e) (λ (t : (nat_eq x l && nat_eq y e) ≡ true).
    both_ways (nat_lt y n) out (lt-ltb y n (subst (λ (z : ℕ). z < n) (sym (eqb-true y e (and_parts (nat_eq x l) (nat_eq y e) t).1)) h)))

-- the set has the new pair, and those that it had
pub pair_set : (m n : ℕ) (old : List ℕ) (l e x y : ℕ) → IsFilled m n old → l < m → e < n → contains_bit m n (with_pair n old l e) x y ≡ ((nat_eq x l && nat_eq y e) || contains_bit m n old x y)
pair_set m n old l e x y filled hl he =
    let new = with_pair n old l e in
    guarded (nat_lt x m) (nat_lt y n) (nat_eq x l && nat_eq y e) (bit_of n new x y) (bit_of n old x y)
    (λ p q. bit_set n old l e x y (subst (λ (z : ℕ). word_of n l e < z) (sym filled) (word_below m n l e hl he)) he (ltb-true y n q))
    (not_here x l m y e hl) (not_there x l n y e he)

-- still no bit is set that stands for no element
pub clean_set : (m n : ℕ) (old : List ℕ) (l e : ℕ) → IsFilled m n old → IsClean n old → l < m → e < n → IsClean n (with_pair n old l e)
clean_set m n old l e filled clean hl he k b hb h =
    let s = word_of n l e in
    let w = bit_or (get_or old s 0) (2 ^ (e % 64)) in
    let inside : s < length old = subst (λ (z : ℕ). s < z) (sym filled) (word_below m n l e hl he) in
    elim (cases_eq k s) [
      | inl same ↦
          let at : get_or (set old s w) k 0 ≡ w = ap (λ (j : ℕ). get_or (set old s w) j 0) same ∙ get_or-set_same old s w 0 inside in
          let t : (has_bit (get_or old s 0) b || has_bit (2 ^ (e % 64)) b) ≡ true = sym (has_or (get_or old s 0) (2 ^ (e % 64)) b) ∙ sym (ap (λ (z : ℕ). has_bit z b) at) ∙ h in
          elim (or_cases (has_bit (get_or old s 0) b) (has_bit (2 ^ (e % 64)) b) t) [
            | inl was ↦ clean k b hb (ap (λ (j : ℕ). has_bit (get_or old j 0) b) same ∙ was)
            | inr new ↦
                let place : b ≡ e % 64 = eqb-true b (e % 64) (sym (has_pow (e % 64) b) ∙ new) in
                let part : k % words_for n ≡ e / 64 = word_parts n l e k he same in
                let sum : e / 64 * 64 + e % 64 < n = omega (arith, he) in
                subst (λ (z : ℕ). z * 64 + b < n) (sym part) (subst (λ (z : ℕ). e / 64 * 64 + z < n) (sym place) sum)
          ]
      | inr ne ↦ clean k b hb (sym (ap (λ (z : ℕ). has_bit z b) (get_or-set_other old s k w 0 ne)) ∙ h)
    ]
