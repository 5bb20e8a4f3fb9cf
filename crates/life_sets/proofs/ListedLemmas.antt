-- The pairs of a set, listed one after the other.
use Rattle.std.proofs.Common.{◌≡◌, ℕ, ◌+◌, ◌<◌, ◌≤◌, refl, ap, sym, ◌∙◌, inl, inr, Bool, true, false, cond, arith, subst, List, [], ◌∷◌, ◌++◌, length, get_or, IsTrue, Contains}
use Rattle.std.specs.Ordering.{nat_cmp, ordering_then}
use Rattle.std.specs.declared.cmp.Ordering.TheVariants.{Less}
use Rattle.std.specs.Cmp.{nat_cmp_total}
use Rattle.std.proofs.lemmas.Cmp.{tied_itself}
use Rattle.std.proofs.lemmas.Bool.{lt-ltb, cases_lt, cases_eq, both_ways}
use Rattle.std.proofs.lemmas.List.{append-nil, get_or_append_left, get_or_push, length_push}
use Rattle.std.proofs.lemmas.List.Elements.{Contains-append_left, Contains-push, Contains-push_cases, Contains-get_or}
use Rattle.std.proofs.lemmas.Map.Keys.{Less-from_sorted, sorted_from_all_adjacent}
use Rattle.life_sets.specs.Pairs.{pair_cmp, IsAscending}
use Rattle.life_sets.specs.Listed.{IsBefore, IsListed}
use Rattle.life_sets.proofs.Members.{none_in_empty}
use Rattle.life_sets.proofs.PairLemmas.{pairs_total}

pair_less : (l e x y : ℕ) → IsBefore l e x y → pair_cmp (x, y) (l, e) ≡ Less
pair_less l e x y before =
    elim before [
      | inl lt ↦ ap (λ o. ordering_then o (nat_cmp y e)) (less x l lt)
      | inr same ↦ ap (λ z. ordering_then (nat_cmp z l) (nat_cmp y e)) same.0 ∙ ap (λ o. ordering_then o (nat_cmp y e)) (tied_itself nat_cmp_total l) ∙ less y e same.1
    ]
  where
    less : (a b : ℕ) → a < b → nat_cmp a b ≡ Less
    less a b h = rw (lt-ltb a b h) refl

ascending_push : (xs : List (ℕ × ℕ)) (y : ℕ × ℕ) → IsAscending xs → ((x : ℕ × ℕ) → Contains xs x → pair_cmp x y ≡ Less) → IsAscending (xs ++ y ∷ [])
ascending_push xs y up below =
    sorted_from_all_adjacent pairs_total (xs ++ y ∷ []) y (λ k h.
    let long : k + 1 < length xs + 1 = subst (λ (z : ℕ). k + 1 < z) (length_push xs y) h in
    let first : get_or (xs ++ y ∷ []) k y ≡ get_or xs k y = get_or_append_left xs (y ∷ []) y k (omega (arith, long)) in
    elim (cases_lt (k + 1) (length xs)) [
      | inl lt ↦ (λ i. pair_cmp (first i) (get_or_append_left xs (y ∷ []) y (k + 1) lt i)) ∙ Less-from_sorted pair_cmp xs k (k + 1) y up (omega arith) lt
      | inr ge ↦ (λ i. pair_cmp (first i) (get_or_push xs y y (k + 1) (omega (arith, ge, long)) i)) ∙ below (get_or xs k y) (Contains-get_or xs k y (omega (arith, long)))
    ])

pub listed_none : (h : ℕ → ℕ → Bool) → IsListed h 0 0 []
listed_none h = record {
  each = λ x y. (λ c. absurd (none_in_empty (x, y) c), λ p. elim p.1 [ inl lt ↦ absurd (omega (arith, lt)) | inr q ↦ absurd (omega (arith, q.1)) ]);
  ascending = sorted_from_all_adjacent pairs_total [] (0, 0) (λ k p. absurd (omega (arith, p)));
}

listed_push : (h : ℕ → ℕ → Bool) (l e : ℕ) (xs : List (ℕ × ℕ)) → IsListed h l e xs → h l e ≡ true → IsListed h l (e + 1) (xs ++ (l, e) ∷ [])
listed_push h l e xs was is = record {
  each = λ x y. (
    λ c.
        elim (Contains-push_cases xs (l, e) (x, y) c) [
          | inl old ↦ let p = (was.each x y).0 old in (p.0, elim p.1 [ inl lt ↦ inl lt | inr q ↦ inr (q.0, omega (arith, q.1)) ])
          | inr same ↦
              let a : x ≡ l = ap (λ (q : ℕ × ℕ). q.0) (sym same) in
              let b : y ≡ e = ap (λ (q : ℕ × ℕ). q.1) (sym same) in
              ((λ i. h (a i) (b i)) ∙ is, inr (a, omega (arith, b)))
        ],
    λ p.
        elim p.1 [
          | inl lt ↦ Contains-append_left xs ((l, e) ∷ []) (x, y) ((was.each x y).1 (p.0, inl lt))
          | inr q ↦ elim (cases_eq y e) [
            | inl here ↦ subst (λ (z : ℕ × ℕ). Contains (xs ++ (l, e) ∷ []) z) (λ i. (sym q.0 i, sym here i)) (Contains-push xs (l, e))
            | inr ne ↦ Contains-append_left xs ((l, e) ∷ []) (x, y) ((was.each x y).1 (p.0, inr (q.0, omega (arith, q.1, ne))))
          ]
        ],
  );
  ascending = ascending_push xs (l, e) was.ascending (λ x c. pair_less l e x.0 x.1 ((was.each x.0 x.1).0 c).1);
}

-- no pair of the location stands up to there
pub listed_gap : (h : ℕ → ℕ → Bool) (l e end : ℕ) (xs : List (ℕ × ℕ)) → IsListed h l e xs → e ≤ end → ((y : ℕ) → e ≤ y → y < end → h l y ≡ false) → IsListed h l end xs
listed_gap h l e end xs was le none = record {
  each = λ x y. (
    λ c. let p = (was.each x y).0 c in (p.0, elim p.1 [ inl lt ↦ inl lt | inr q ↦ inr (q.0, omega (arith, q.1, le)) ]),
    λ p.
        elim p.1 [
          | inl lt ↦ (was.each x y).1 (p.0, inl lt)
          | inr q ↦ elim (cases_lt y e) [
            | inl lt ↦ (was.each x y).1 (p.0, inr (q.0, lt))
            | inr ge ↦ absurd (both_ways (h l y) (none y ge q.1) ((λ i. h (sym q.0 i) y) ∙ p.0))
          ]
        ],
  );
  ascending = was.ascending;
}

-- one pair further
pub listed_more : (h : ℕ → ℕ → Bool) (l e : ℕ) (xs ys : List (ℕ × ℕ)) (t : Bool) → IsListed h l e xs → t ≡ h l e → ys ≡ xs ++ cond t ((l, e) ∷ []) [] → IsListed h l (e + 1) ys
listed_more h l e xs ys true was is made = subst (λ (z : List (ℕ × ℕ)). IsListed h l (e + 1) z) (sym made) (listed_push h l e xs was (sym is))
listed_more h l e xs ys false was is made = subst (λ (z : List (ℕ × ℕ)). IsListed h l (e + 1) z) (sym (made ∙ append-nil xs)) (listed_gap h l e (e + 1) xs was (omega arith) (λ y ge lt. subst (λ (z : ℕ). h l z ≡ false) (only y ge lt) (sym is)))
  where
    only : (y : ℕ) → e ≤ y → y < e + 1 → e ≡ y
    only y ge lt = omega (arith, ge, lt)

-- a location's pairs are all listed
pub listed_row : (h : ℕ → ℕ → Bool) (l n : ℕ) (xs : List (ℕ × ℕ)) → ((x y : ℕ) → IsTrue (h x y) → y < n) → IsListed h l n xs → IsListed h (l + 1) 0 xs
listed_row h l n xs within was = record {
  each = λ x y. (
    λ c. let p = (was.each x y).0 c in (p.0, elim p.1 [ inl lt ↦ inl (omega (arith, lt)) | inr q ↦ inl (omega (arith, q.0)) ]),
    λ p.
        elim p.1 [
          | inl lt ↦ elim (cases_eq x l) [
            | inl here ↦ (was.each x y).1 (p.0, inr (here, within x y p.0))
            | inr ne ↦ (was.each x y).1 (p.0, inl (omega (arith, lt, ne)))
          ]
          | inr q ↦ absurd (omega (arith, q.1))
        ],
  );
  ascending = was.ascending;
}
