-- Of a sorted list `dedup` keeps the first of each run: for each element one that counts as the same and doesn't stand after it.
use Rattle.std.proofs.Common.{◌≡◌, ◌⊎◌, suc, refl, ap, ◌∙◌, inl, inr, Bool, true, false, arith, subst, List, [], ◌∷◌, Contains}
use Rattle.std.specs.Cmp.{IsTotalOrder, IsEquivalence}
use Rattle.std.specs.List.{AllPairs, dedup, dedup_from}
use Rattle.std.specs.List.Sorted.{IsSorted}
use Rattle.std.specs.Ordering.{is_gt, is_lt, ordering_reverse}
use Rattle.std.specs.declared.cmp.Ordering.{Ordering}
use Rattle.std.specs.declared.cmp.Ordering.TheVariants.{Less, Equal, Greater}
use Rattle.std.proofs.lemmas.Bool.{cond_both}
use Rattle.std.proofs.lemmas.Cmp.{tied_itself, upto}
use Rattle.std.proofs.lemmas.List.Sorted.{ranks_by, sorted_far}
use Rattle.life_pset.proofs.Members.{cons_cases, in_head, in_tail, none_in_empty}

-- y is among the kept ones, counts as x, and doesn't stand after it
pub record IsKeptFor {X : Type 0} (R : X → X → Ordering) (E : X → X → Bool) (kept : List X) (x y : X) : Type 0 where
  pub member : Contains kept y
  pub same : E x y ≡ true
  pub first : is_gt (R y x) ≡ false

-- none stands after a later one
abbrev InOrder : {X : Type 0} → (X → X → Ordering) → List X → Type 0
InOrder R [] = Unit {0}
InOrder {X} R (x ∷ xs) = ((z : X) → Contains xs z → is_gt (R x z) ≡ false) × InOrder R xs

gt_reverse : (a : Ordering) → is_gt (ordering_reverse a) ≡ is_lt a
gt_reverse Less = refl
gt_reverse Equal = refl
gt_reverse Greater = refl

module _ {X : Type 0} {R : X → X → Ordering} (o : IsTotalOrder R) where
  in_order : (xs : List X) → AllPairs (λ x y. is_lt (R y x) ≡ false) xs → InOrder R xs
  in_order [] far = tt
  in_order (x ∷ xs) far = (
    λ z h.
        let below : is_lt (R z x) ≡ false = subst (λ w. is_lt (R w x) ≡ false) h.2 (far 0 (suc h.0) z (omega arith) (omega (arith, h.1))) in
        ap is_gt (o.antisymm x z) ∙ gt_reverse (R z x) ∙ below,
    in_order xs (λ i j d below inside. far (suc i) (suc j) d (omega arith) (omega arith)),
  )

  module _ {E : X → X → Bool} (e : IsEquivalence E) where
    -- the element k stands for itself, where it is among the kept ones
    itself : (kept : List X) (k x : X) → Contains kept k → k ≡ x → (y : X) × IsKeptFor R E kept x y
    itself kept k x member is = (
      k,
      record {
        member = member;
        same = subst (λ (z : X). E z k ≡ true) is (e.refl k);
        first = subst (λ (z : X). is_gt (R k z) ≡ false) is (ap is_gt (tied_itself o k));
      },
    )

    -- k is the last that is kept, and none that is left stands before it
    kept_from : (xs : List X) (k : X) → ((z : X) → Contains xs z → is_gt (R k z) ≡ false) → InOrder R xs → (x : X) → (k ≡ x) ⊎ Contains xs x → (y : X) × IsKeptFor R E (dedup_from E k xs) x y
    kept_from [] k above order x h =
        elim h [
          | inl is ↦ itself (k ∷ []) k x (in_head k []) is
          | inr c ↦ absurd (none_in_empty x c)
        ]
    kept_from (z ∷ zs) k above order x h =
        cond_both (E z k) (dedup_from E k zs) (k ∷ dedup_from E z zs) (λ (kept : List X). (y : X) × IsKeptFor R E kept x y)
        (λ same.
        let rest = kept_from zs k (λ w c. above w (in_tail z zs w c)) order.1 in
        elim h [
          | inl is ↦ rest x (inl is)
          | inr c ↦
              elim (cons_cases z zs x c) [
                | inl is ↦
                    let y = rest k (inl refl) in
                    subst (λ (w : X). (y : X) × IsKeptFor R E (dedup_from E k zs) w y) is (
                      y.0,
                      record {
                        member = y.1.member;
                        same = e.congr z k y.0 same ∙ y.1.same;
                        first = upto o y.0 k z y.1.first (above z (in_head z zs));
                      },
                    )
                | inr later ↦ rest x (inr later)
              ]
        ])
        (λ apart.
        elim h [
          | inl is ↦ itself (k ∷ dedup_from E z zs) k x (in_head k (dedup_from E z zs)) is
          | inr c ↦
              let y = kept_from zs z order.0 order.1 x (cons_cases z zs x c) in
              (y.0, record { member = in_tail k (dedup_from E z zs) y.0 y.1.member; same = y.1.same; first = y.1.first })
        ])

    pub kept_for_each : (xs : List X) → IsSorted R xs → (x : X) → Contains xs x → (y : X) × IsKeptFor R E (dedup E xs) x y
    kept_for_each [] sorted x h = absurd (none_in_empty x h)
    kept_for_each (z ∷ zs) sorted x h =
        let far : AllPairs (λ a b. is_lt (R b a) ≡ false) (z ∷ zs) = λ i j d below inside. sorted_far _ (ranks_by o (λ a. a)) (z ∷ zs) sorted i j d (omega arith) inside in
        let order = in_order (z ∷ zs) far in
        kept_from zs z order.0 order.1 x (cons_cases z zs x h)
