-- A location's pairs that are joined one after the other, by a test of the elements.
use Rattle.std.proofs.Common.{◌≡◌, ℕ, ◌+◌, ◌/◌, ◌%◌, ◌≤◌, refl, ap, sym, ◌∙◌, inl, inr, Bool, IsTrue, ◌<◌, true, false, true≢false, ◌&&◌, ◌||◌, arith, nat_eq, nat_lt, eq-eqb, slice_index}
use Rattle.std.proofs.lemmas.Bool.{cases_Bool, lt-ltb, le-ltb, eqb-true, ne_eqb, false≢true, cases_lt, cases_eq, and_parts, and_from, and_right, or_cases, or_right}
use Rattle.life_sets.specs.BitSets.{has_bit}
use Rattle.life_sets.specs.NumberSets.{Numbers, holds}
use Rattle.life_sets.specs.Pairs.{IsBetween}
use Rattle.life_sets.specs.PairSets.{AddsPair}

-- the second set is the first and the pairs of the location with those below k that pass the test
abbrev pub IsJoinedBelow : ℕ → (ℕ → Bool) → ℕ → (ℕ → ℕ → Bool) → (ℕ → ℕ → Bool) → Type 0
IsJoinedBelow location test k old new = (l e : ℕ) → new l e ≡ ((nat_eq l location && (nat_lt e k && test e)) || old l e)

pub joined_none : (location : ℕ) (test : ℕ → Bool) (old : ℕ → ℕ → Bool) → IsJoinedBelow location test 0 old old
joined_none location test old l e = sym (ap (λ (b : Bool). b || old l e) (and_right (nat_eq l location) (nat_lt e 0 && test e) (ap (λ (b : Bool). b && test e) (le-ltb e 0 (omega arith)))))

-- a test below k + 1 is the test for k, or the one below k
below_more : (e k : ℕ) → nat_lt e (k + 1) ≡ (nat_eq e k || nat_lt e k)
below_more e k =
    elim (cases_eq e k) [
      | inl same ↦ lt-ltb e (k + 1) (omega (arith, same)) ∙ sym (ap (λ (b : Bool). b || nat_lt e k) (eq-eqb e k same))
      | inr ne ↦ elim (cases_lt e k) [
        | inl lt ↦ lt-ltb e (k + 1) (omega (arith, lt)) ∙ sym (λ i. ne_eqb e k ne i || lt-ltb e k lt i)
        | inr ge ↦ le-ltb e (k + 1) (omega (arith, ge, ne)) ∙ sym (λ i. ne_eqb e k ne i || le-ltb e k ge i)
      ]
    ]

with_one : (here one below has was : Bool) → (one ≡ true → has ≡ true) → ((here && one) || ((here && (below && has)) || was)) ≡ ((here && ((one || below) && has)) || was)
with_one true true below true was h = refl
with_one true true below false was h = absurd (false≢true (h refl))
with_one true false below has was h = refl
with_one false one below has was h = refl

without_one : (here one below has was : Bool) → (one ≡ true → has ≡ false) → ((here && (below && has)) || was) ≡ ((here && ((one || below) && has)) || was)
without_one true true true has was h = refl
without_one true true false true was h = absurd (true≢false (h refl))
without_one true true false false was h = refl
without_one true false below has was h = refl
without_one false one below has was h = refl

-- a number that passes was joined
pub joined_one : (location : ℕ) (test : ℕ → Bool) (k : ℕ) (old before after : ℕ → ℕ → Bool) → IsJoinedBelow location test k old before → test k ≡ true → AddsPair location k before after → IsJoinedBelow location test (k + 1) old after
joined_one location test k old before after so_far has adds l e =
    let here = nat_eq l location in
    adds l e
    ∙ ap (λ (b : Bool). (here && nat_eq e k) || b) (so_far l e)
    ∙ with_one here (nat_eq e k) (nat_lt e k) (test e) (old l e) (λ same. ap test (eqb-true e k same) ∙ has)
    ∙ sym (ap (λ (b : Bool). (here && (b && test e)) || old l e) (below_more e k))

-- one that doesn't was passed over
pub joined_over : (location : ℕ) (test : ℕ → Bool) (k : ℕ) (old before : ℕ → ℕ → Bool) → IsJoinedBelow location test k old before → test k ≡ false → IsJoinedBelow location test (k + 1) old before
joined_over location test k old before so_far not_there l e =
    so_far l e
    ∙ without_one (nat_eq l location) (nat_eq e k) (nat_lt e k) (test e) (old l e) (λ same. ap test (eqb-true e k same) ∙ not_there)
    ∙ sym (ap (λ (b : Bool). (nat_eq l location && (b && test e)) || old l e) (below_more e k))

-- all were joined, where none from k on passes
pub joined_every : (location : ℕ) (test : ℕ → Bool) (k : ℕ) (old new : ℕ → ℕ → Bool) → ((e : ℕ) → k ≤ e → test e ≡ false) → IsJoinedBelow location test k old new → (l e : ℕ) → new l e ≡ ((nat_eq l location && test e) || old l e)
joined_every location test k old new none so_far l e = so_far l e ∙ ap (λ (b : Bool). (nat_eq l location && b) || old l e) below
  where
    below : (nat_lt e k && test e) ≡ test e
    below =
        elim (cases_lt e k) [
          | inl lt ↦ ap (λ (b : Bool). b && test e) (lt-ltb e k lt)
          | inr ge ↦ and_right (nat_lt e k) (test e) (none e ge) ∙ sym (none e ge)
        ]

-- .. and what was joined on the way is among them
pub joined_between : (location : ℕ) (test : ℕ → Bool) (k : ℕ) (old new : ℕ → ℕ → Bool) → IsJoinedBelow location test k old new → IsBetween (λ l e. nat_eq l location && test e) old new
joined_between location test k old new so_far l e = (
  λ h. so_far l e ∙ or_right (nat_eq l location && (nat_lt e k && test e)) (old l e) h,
  λ h.
      elim (or_cases (nat_eq l location && (nat_lt e k && test e)) (old l e) (sym (so_far l e) ∙ h)) [
        | inl new ↦
            let parts = and_parts (nat_eq l location) (nat_lt e k && test e) new in
            inr (and_from (nat_eq l location) (test e) parts.0 (and_parts (nat_lt e k) (test e) parts.1).1)
        | inr was ↦ inl was
      ],
)

-- ---- what passes is below a limit
-- no number of a set is at or past its limit
pub none_past : (set : Numbers) (e : ℕ) → set.limit ≤ e → holds set e ≡ false
none_past set e ge = ap (λ (b : Bool). b && has_bit (slice_index set.words (e / 64)) (e % 64)) (le-ltb e set.limit ge)

-- .. nor is one that would have to be below
pub none_from : (test : ℕ → Bool) (limit : ℕ) → ((e : ℕ) → IsTrue (test e) → e < limit) → (e : ℕ) → limit ≤ e → test e ≡ false
none_from test limit below e ge =
    elim (cases_Bool (test e)) [
      | inl passes ↦ absurd (omega (arith, ge, below e passes))
      | inr not ↦ not
    ]
