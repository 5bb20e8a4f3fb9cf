-- Sets of numbers that are filled one number after the other.
use Rattle.std.proofs.Common.{◌≡◌, ◌≢◌, ◌<◌, ◌≤◌, ◌+◌, ℕ, Bool, true, false, List, length, Option, Some, None, inl, inr, ◌⊎◌, ◌↔◌, refl, ap, sym, ◌∙◌, subst, arith, nat_lt, nat_eq, not, ◌&&◌, ◌||◌}
use Rattle.std.proofs.lemmas.Bool.{and_parts, and_from, and_cases, both_ways, cases_Bool, cases_order, eq-eqb, eqb-true, le-ltb, lt-ltb, ltb-true, or_cases, or_left, or_right}
use Rattle.std.proofs.lemmas.Option.{slice_get_past}
use Rattle.std.specs.Prelude.{IsTrue, slice_get}
use Rattle.life_plan.specs.Numbered.{passes}
use Rattle.life_plan.specs.Tabulated.{Gathers, Tabulates}

-- two tests that hold of the same
pub both_same : (a b : Bool) → (IsTrue a → IsTrue b) → (IsTrue b → IsTrue a) → a ≡ b
both_same true b to back = sym (to refl)
both_same false true to back = back refl
both_same false false to back = refl

pub tabulated_none : (test : ℕ → Bool) (a : ℕ → Bool) → Tabulates test 0 a a
tabulated_none test a n = ap (λ (x : Bool). (x && test n) || a n) (sym (le-ltb n 0 (omega arith)))

pub tabulated_more : (test : ℕ → Bool) (i : ℕ) (a b c : ℕ → Bool) → Tabulates test i a b → ((n : ℕ) → c n ≡ ((test i && nat_eq n i) || b n)) → Tabulates test (i + 1) a c
tabulated_more test i a b c was more n =
    both_same (c n) ((nat_lt n (i + 1) && test n) || a n) to back
  where
    to : IsTrue (c n) → IsTrue ((nat_lt n (i + 1) && test n) || a n)
    to h =
        elim (or_cases (test i && nat_eq n i) (b n) (sym (more n) ∙ h)) [
          | inl new ↦
              let p = and_parts (test i) (nat_eq n i) new in
              let is : n ≡ i = eqb-true n i p.1 in
              or_left (nat_lt n (i + 1) && test n) (a n) (and_from (nat_lt n (i + 1)) (test n) (lt-ltb n (i + 1) (omega (arith, is))) (subst (λ (k : ℕ). test k ≡ true) (sym is) p.0))
          | inr old ↦ elim (or_cases (nat_lt n i && test n) (a n) (sym (was n) ∙ old)) [
            | inl here ↦
                let p = and_parts (nat_lt n i) (test n) here in
                let lt : n < i = ltb-true n i p.0 in
                or_left (nat_lt n (i + 1) && test n) (a n) (and_from (nat_lt n (i + 1)) (test n) (lt-ltb n (i + 1) (omega (arith, lt))) p.1)
            | inr early ↦ or_right (nat_lt n (i + 1) && test n) (a n) early
          ]
        ]

    back : IsTrue ((nat_lt n (i + 1) && test n) || a n) → IsTrue (c n)
    back h =
        elim (or_cases (nat_lt n (i + 1) && test n) (a n) h) [
          | inl here ↦
              let p = and_parts (nat_lt n (i + 1)) (test n) here in
              let lt : n < i + 1 = ltb-true n (i + 1) p.0 in
              elim (cases_Bool (nat_eq n i)) [
                | inl same ↦ more n ∙ or_left (test i && nat_eq n i) (b n) (and_from (test i) (nat_eq n i) (subst (λ (k : ℕ). test k ≡ true) (eqb-true n i same) p.1) same)
                | inr other ↦
                    let ne : n ≢ i = λ e. both_ways (nat_eq n i) other (eq-eqb n i e) in
                    let below : n < i = omega (arith, lt, ne) in
                    more n ∙ or_right (test i && nat_eq n i) (b n) (was n ∙ or_left (nat_lt n i && test n) (a n) (and_from (nat_lt n i) (test n) (lt-ltb n i below) p.1))
              ]
          | inr early ↦ more n ∙ or_right (test i && nat_eq n i) (b n) (was n ∙ or_right (nat_lt n i && test n) (a n) early)
        ]

-- no number past the end of a list passes a test of what stands there
pub past_none : {A : Type 0} (test : A → Bool) (xs : List A) (n : ℕ) → IsTrue (passes test (slice_get xs n)) → n < length xs
past_none test xs n h =
    elim (cases_Bool (nat_lt n (length xs))) [
      | inl lt ↦ ltb-true n (length xs) lt
      | inr past ↦ absurd (none (slice_get xs n) (slice_get_past xs n (not_below n (length xs) past)) h)
    ]
  where
    none : (o : Option _) → o ≡ None → IsTrue (passes test o) → ⊥
    none None is h = both_ways false refl h
    none (Some x) is h = cc

    not_below : (m n : ℕ) → nat_lt m n ≡ false → n ≤ m
    not_below m n h = elim (cases_order m n) [ inl e ↦ omega (arith, e) | inr order ↦ elim order [ inl lt ↦ absurd (both_ways (nat_lt m n) h (lt-ltb m n lt)) | inr gt ↦ omega (arith, gt) ] ]

-- .. so all of them are tabulated at its end
pub tabulated_all : {A : Type 0} (test : A → Bool) (xs : List A) (i : ℕ) (a b : ℕ → Bool) → length xs ≤ i → Tabulates (λ n. passes test (slice_get xs n)) i a b → (n : ℕ) → b n ≡ (passes test (slice_get xs n) || a n)
tabulated_all test xs i a b past was n = was n ∙ ap (λ (t : Bool). t || a n) (both_same (nat_lt n i && passes test (slice_get xs n)) (passes test (slice_get xs n)) (λ h. (and_parts (nat_lt n i) (passes test (slice_get xs n)) h).1)
    (λ h. let lt : n < length xs = past_none test xs n h in and_from (nat_lt n i) (passes test (slice_get xs n)) (lt-ltb n i (omega (arith, lt, past))) h))

-- ---- statements

pub gathered_none : (says : ℕ → ℕ → Type 0) (a : ℕ → Bool) → Gathers says 0 a a
gathered_none says a n = (λ h. inl h, λ h. elim h [ inl was ↦ was | inr some ↦ absurd (omega (arith, some.1.0)) ])

-- a number by which something more is said
pub gathered_more : (says : ℕ → ℕ → Type 0) (i : ℕ) (a b c : ℕ → Bool) → Gathers says i a b → ((n : ℕ) → IsTrue (c n) ↔ (IsTrue (b n) ⊎ says i n)) → Gathers says (i + 1) a c
gathered_more says i a b c was more n = (
  λ h.
      elim ((more n).0 h) [
        | inl old ↦ elim ((was n).0 old) [ inl early ↦ inl early | inr some ↦ let lt : some.0 < i = some.1.0 in inr (some.0, (omega (arith, lt), some.1.1)) ]
        | inr new ↦ inr (i, (omega arith, new))
      ],
  λ h.
      elim h [
        | inl early ↦ (more n).1 (inl ((was n).1 (inl early)))
        | inr some ↦
            let lt : some.0 < i + 1 = some.1.0 in
            elim (cases_Bool (nat_eq some.0 i)) [
              | inl same ↦ (more n).1 (inr (subst (λ (k : ℕ). says k n) (eqb-true some.0 i same) some.1.1))
              | inr other ↦
                  let ne : some.0 ≢ i = λ e. both_ways (nat_eq some.0 i) other (eq-eqb some.0 i e) in
                  (more n).1 (inl ((was n).1 (inr (some.0, (omega (arith, lt, ne), some.1.1)))))
            ]
      ],
)

-- .. or by which nothing is said
pub gathered_past : (says : ℕ → ℕ → Type 0) (i : ℕ) (a b : ℕ → Bool) → Gathers says i a b → ((n : ℕ) → says i n → ⊥) → Gathers says (i + 1) a b
gathered_past says i a b was not n = gathered_more says i a b b was (λ n. (λ h. inl h, λ h. elim h [ inl old ↦ old | inr new ↦ absurd (not n new) ])) n

-- ---- whether something is new

pub grown_more : (a b c : ℕ → Bool) (g h : Bool) → (g ≡ false → (n : ℕ) → IsTrue (b n) → IsTrue (a n)) → (h ≡ false → (n : ℕ) → IsTrue (c n) → IsTrue (b n)) → (g || h) ≡ false → (n : ℕ) → IsTrue (c n) → IsTrue (a n)
grown_more a b c true h first more is n t = absurd (both_ways true is refl)
grown_more a b c false h first more is n t = first refl n (more is n t)

-- where a number that is added isn't new, nothing is
pub not_new : (test : Bool) (i : ℕ) (b c : ℕ → Bool) (fresh : Bool) → fresh ≡ (test && not (b i)) → ((n : ℕ) → c n ≡ ((test && nat_eq n i) || b n)) → fresh ≡ false → (n : ℕ) → IsTrue (c n) → IsTrue (b n)
not_new test i b c fresh is more none n h =
    elim (or_cases (test && nat_eq n i) (b n) (sym (more n) ∙ h)) [
      | inl new ↦
          let p = and_parts (test) (nat_eq n i) new in
          elim (and_cases test (not (b i)) (sym is ∙ none)) [
            | inl no_test ↦ absurd (both_ways test no_test p.0)
            | inr there ↦ subst (λ (k : ℕ). b k ≡ true) (sym (eqb-true n i p.1)) (from_not (b i) there)
          ]
      | inr old ↦ old
    ]
  where
    from_not : (x : Bool) → not x ≡ false → x ≡ true
    from_not true h = refl
    from_not false h = absurd (both_ways true h refl)

pub tabulated_whole : {A : Type 0} (test : A → Bool) (xs : List A) (i : ℕ) (b : ℕ → Bool) → length xs ≤ i → Tabulates (λ n. passes test (slice_get xs n)) i (λ n. false) b → (n : ℕ) → b n ≡ passes test (slice_get xs n)
tabulated_whole test xs i b past was n = tabulated_all test xs i (λ n. false) b past was n ∙ or_none (passes test (slice_get xs n))
  where
    or_none : (x : Bool) → (x || false) ≡ x
    or_none true = refl
    or_none false = refl

-- a test that is told by another name
pub tabulated_step : (test : ℕ → Bool) (i : ℕ) (t : Bool) (a b c : ℕ → Bool) → t ≡ test i → Tabulates test i a b → ((n : ℕ) → c n ≡ ((t && nat_eq n i) || b n)) → Tabulates test (i + 1) a c
tabulated_step test i t a b c is was more = tabulated_more test i a b c was (λ n. more n ∙ ap (λ (x : Bool). (x && nat_eq n i) || b n) is)
