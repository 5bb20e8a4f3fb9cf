-- Lists in which each item stands once, in the order in which they first stood in another list.
use Rattle.std.proofs.Common.{◌≡◌, ℕ, ◌+◌, ◌<◌, ◌≤◌, ap, sym, ◌∙◌, inl, inr, ◌⊎◌, ◌↔◌, Bool, true, false, cond, nat_lt, arith, subst, List, [], ◌∷◌, ◌++◌, length, get_or, Option, Some, None, slice_get, IfSome, position}
use Rattle.std.specs.Cmp.{IsEquivalence}
use Rattle.std.specs.List.{IsDistinct, list_any, position_or_len}
use Rattle.std.specs.Prelude.{Contains}
use Rattle.std.proofs.lemmas.Bool.{cases_order, cond_both, both_ways, false_from_ne_true, lt-ltb}
use Rattle.std.proofs.lemmas.List.{length_push}
use Rattle.std.proofs.lemmas.List.Elements.{Contains-append_left, Contains-push_cases}
use Rattle.std.proofs.lemmas.List.Quantifiers.{position-Some}
use Rattle.std.proofs.lemmas.List.Sums.{position_or_len_is}
use Rattle.std.proofs.lemmas.Map.Keys.{apart_from_distinct, IsDistinct-push}
use Rattle.std.proofs.lemmas.Option.{slice_get_within, slice_get-get_or, get_or_from_slice_get}
use Rattle.indexmap.specs.IndexSet.{insert_key, insert_all}
use Rattle.indexmap.proofs.CallerLemmas.{Contains-insert_key}
use Rattle.life_pset.specs.TableInvariant.{HasOneNumber}
use Rattle.life_pset.proofs.Members.{none_in_empty, in_head, in_tail, cons_cases}

-- ---- an item with a number is a member
pub numbered_contains : {X : Type 0} (ks : List X) (n : ℕ) (x : X) → slice_get ks n ≡ Some x → Contains ks x
numbered_contains ks n x is = (n, slice_get_within ks n x is, get_or_from_slice_get ks n x x is)

pub contains_numbered : {X : Type 0} (ks : List X) (x : X) → Contains ks x → (n : ℕ) × (slice_get ks n ≡ Some x)
contains_numbered ks x h = (h.0, slice_get-get_or ks h.0 x h.1 ∙ ap Some h.2)

-- ---- each item stands once
module _ {X : Type 0} (eq : X → X → Bool) (laws : IsEquivalence eq) where
  distinct_key : (ks : List X) (k : X) → IsDistinct eq ks → IsDistinct eq (insert_key eq ks k)
  distinct_key ks k was = cond_both (list_any (eq k) ks) ks (ks ++ k ∷ []) (IsDistinct eq) (λ _. was) (λ none. IsDistinct-push laws ks k was none)

  distinct_more : (ks xs : List X) → IsDistinct eq ks → IsDistinct eq (insert_all eq ks xs)
  distinct_more ks [] was = was
  distinct_more ks (x ∷ xs) was = distinct_more (insert_key eq ks x) xs (distinct_key ks x was)

  not_later : (ks : List X) → IsDistinct eq ks → (m n : ℕ) (x : X) → m < n → slice_get ks m ≡ Some x → slice_get ks n ≡ Some x → ⊥
  not_later ks distinct m n x lt a b =
      both_ways (eq x x) (sym (λ i. eq (get_or_from_slice_get ks m x x a i) (get_or_from_slice_get ks n x x b i)) ∙ apart_from_distinct eq ks m n x distinct lt (slice_get_within ks n x b)) (laws.refl x)

  one_number : (ks : List X) → IsDistinct eq ks → HasOneNumber ks
  one_number ks distinct m n x a b =
      elim (cases_order m n) [
        | inl e ↦ e
        | inr order ↦ elim order [ inl lt ↦ absurd (not_later ks distinct m n x lt a b) | inr gt ↦ absurd (not_later ks distinct n m x gt b a) ]
      ]

  distinct_none : IsDistinct eq []
  unfolding IsDistinct
  distinct_none = tt

  pub one_number_each : (xs : List X) → HasOneNumber (insert_all eq [] xs)
  one_number_each xs = one_number (insert_all eq [] xs) (distinct_more [] xs distinct_none)

-- ---- there are no more than stood in the list
module _ {X : Type 0} (eq : X → X → Bool) where
  length_key : (ks : List X) (k : X) → length (insert_key eq ks k) ≤ length ks + 1
  length_key ks k = cond_both (list_any (eq k) ks) ks (ks ++ k ∷ []) (λ l. length l ≤ length ks + 1) (λ _. omega arith) (λ _. omega (arith, length_push ks k))

  length_more : (ks xs : List X) → length (insert_all eq ks xs) ≤ length ks + length xs
  length_more ks [] = omega arith
  length_more ks (x ∷ xs) = omega (arith, length_more (insert_key eq ks x) xs, length_key ks x)

  pub length_insert_all : (xs : List X) → length (insert_all eq [] xs) ≤ length xs
  length_insert_all xs = omega (arith, length_more [] xs)

module _ {X : Type 0} (eq : X → X → Bool) (exact : (x y : X) → eq x y ≡ true → x ≡ y) where
  -- ---- the members are those of the list
  in_key : (ks : List X) (k x : X) → Contains (insert_key eq ks k) x ↔ (Contains ks x ⊎ (k ≡ x))
  in_key ks k x = (
    cond_both (list_any (eq k) ks) ks (ks ++ k ∷ []) (λ l. Contains l x → Contains ks x ⊎ (k ≡ x)) (λ _ h. inl h) (λ _ h. Contains-push_cases ks k x h),
    λ h.
        elim h [
          | inl was ↦ cond_both (list_any (eq k) ks) ks (ks ++ k ∷ []) (λ l. Contains l x) (λ _. was) (λ _. Contains-append_left ks (k ∷ []) x was)
          | inr is ↦ subst (λ (y : X). Contains (insert_key eq ks k) y) is (Contains-insert_key eq exact ks k)
        ],
  )

  in_more : (ks xs : List X) (x : X) → Contains (insert_all eq ks xs) x ↔ (Contains ks x ⊎ Contains xs x)
  in_more ks [] x = (λ h. inl h, λ h. elim h [ inl was ↦ was | inr none ↦ absurd (none_in_empty x none) ])
  in_more ks (y ∷ xs) x =
      let rest = in_more (insert_key eq ks y) xs x in
      let first = in_key ks y x in (
        λ h.
            elim (rest.0 h) [
              | inl early ↦ elim (first.0 early) [ inl was ↦ inl was | inr is ↦ inr (subst (λ (z : X). Contains (y ∷ xs) z) is (in_head y xs)) ]
              | inr late ↦ inr (in_tail y xs x late)
            ],
        λ h.
            elim h [
              | inl was ↦ rest.1 (inl (first.1 (inl was)))
              | inr there ↦ elim (cons_cases y xs x there) [ inl is ↦ rest.1 (inl (first.1 (inr is))) | inr late ↦ rest.1 (inr late) ]
            ],
      )

  pub in_insert_all : (xs : List X) (x : X) → Contains (insert_all eq [] xs) x ↔ Contains xs x
  in_insert_all xs x =
      let all = in_more [] xs x in
      (λ h. elim (all.0 h) [ inl none ↦ absurd (none_in_empty x none) | inr there ↦ there ], λ h. all.1 (inr h))

  -- ---- the number that a set finds is the item's
  pub found_some : (ks : List X) (x : X) (o : Option ℕ) → o ≡ position (eq x) ks → IfSome o (λ n. slice_get ks n ≡ Some x)
  found_some ks x None is = tt
  found_some ks x (Some n) is =
      let at = position-Some (eq x) ks n x (sym is) in
      slice_get-get_or ks n x at.0 ∙ ap Some (sym (exact x (get_or ks n x) at.1))

  not_before : (ks : List X) → HasOneNumber ks → (x : X) (n k : ℕ) → slice_get ks n ≡ Some x → k < n → eq x (get_or ks k x) ≡ false
  not_before ks unique x n k is lt =
      false_from_ne_true (eq x (get_or ks k x)) (λ (t : eq x (get_or ks k x) ≡ true).
      let within : n < length ks = slice_get_within ks n x is in
      let here : slice_get ks k ≡ Some x = slice_get-get_or ks k x (omega (arith, lt, within)) ∙ ap Some (sym (exact x (get_or ks k x) t)) in
      let both : k ≡ n = unique k n x here is in
      omega (arith, lt, both))

  pub found_each : (laws : IsEquivalence eq) (ks : List X) → HasOneNumber ks → (x : X) (n : ℕ) → slice_get ks n ≡ Some x → position (eq x) ks ≡ Some n
  found_each laws ks unique x n is =
      let within : n < length ks = slice_get_within ks n x is in
      let at : position_or_len (eq x) ks ≡ n = position_or_len_is (eq x) ks n x (omega (arith, within)) (λ k lt. not_before ks unique x n k is lt) (λ _. ap (eq x) (get_or_from_slice_get ks n x x is) ∙ laws.refl x) in
      (λ i. cond (nat_lt (at i) (length ks)) (Some (at i)) None) ∙ ap (λ (b : Bool). cond b (Some n) None) (lt-ltb n (length ks) within)
