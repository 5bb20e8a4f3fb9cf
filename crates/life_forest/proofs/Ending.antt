-- Ways to end what is in the hand, composed: one after the other, and an object with what it owns.
use Rattle.std.proofs.Common.{◌≡◌, ℕ, ◌+◌, ◌<◌, List, [], ◌∷◌, ◌++◌, Option, Some, refl, sym, ap, subst, ◌∙◌, arith, ⊎_elim, inl, inr, ◌⊎◌}
use Rattle.life_store.specs.Cells.{at}
use Rattle.life_store.specs.Content.{Object, Content, without}
use Rattle.life_store.proofs.MapLemmas.{one_or_apart}
use Rattle.life_forest.specs.Kinds.{Kinds}
use Rattle.life_forest.specs.Owned.{every, times, owns_if, owns_at, owned_list}
use Rattle.life_forest.specs.Changes.{without_all}
use Rattle.life_forest.specs.Forest.{IsForest, whole, part, under, Below}
use Rattle.life_forest.proofs.Counting.{one_same, one_there, times-append}
use Rattle.life_forest.proofs.Single.{forest_without}
use Rattle.life_forest.proofs.Steps.{at-without_all, times-owned_list}
use Rattle.life_forest.proofs.Below.{positive_is, top, no_part, lives, below_up, below_lives, below_top, alike_without_all, without_all-append, stays_where_lives, not_gone, empty_handed}

module _ (kind : Kinds) where
  -- from d, which is as c beneath the hand, a list was taken out: all that is beneath and nothing else
  pub record Ended (hand : ℕ → ℕ) (ns : List ℕ) (c d e : Content) : Type 0 where
    pub list : List ℕ
    pub is : e ≡ without_all list d
    pub forest : IsForest kind hand (without_all list c)
    pub low : (k : ℕ) → 0 < times list k → Below kind c ns k
    pub every_one : (k : ℕ) → Below kind c ns k → 0 < times list k

  -- what is known of a content, and stays known where there is less
  pub record Lasting (known : Content → Type 0) : Type 0 where
    pub less : (gone : List ℕ) (c : Content) → known c → known (without_all gone c)

  abbrev pub Ender : List ℕ → (Content → Type 0) → (Content → Content) → Type 0
  Ender ns known end =
      (hand : ℕ → ℕ) (c d : Content) → IsForest kind (λ k. times ns k + hand k) c → known c → ((k : ℕ) → Below kind c ns k → at d.objects k ≡ at c.objects k) → Ended hand ns c d (end d)

  pub end_nothing : (known : Content → Type 0) → Ender [] known (λ d. d)
  end_nothing known hand c d forest known_c agree = record {
    list = [];
    is = refl;
    forest = empty_handed kind (λ k. times [] k + hand k) hand c (λ k. omega arith) forest;
    low = λ k lt. absurd (omega arith);
    every_one = λ k b. let n = below_top kind c [] k b in let l = n.1 in absurd (omega arith);
  }

  module _ (ns ms : List ℕ) (known then_known : Content → Type 0) (first second : Content → Content) (one : Ender ns known first) (two : Ender ms then_known second) (last : Lasting then_known) where
    module _ (hand : ℕ → ℕ) (c d : Content) (forest : IsForest kind (λ k. times (ns ++ ms) k + hand k) c) (known_c : known c) (then_c : then_known c) (agree : (k : ℕ) → Below kind c (ns ++ ms) k → at d.objects k ≡ at c.objects k) where
      both : (k : ℕ) → times (ns ++ ms) k ≡ times ns k + times ms k
      both k = times-append ns ms k

      more : (k : ℕ) → Below kind c ns k → Below kind c (ns ++ ms) k
      more k b = below_up kind [] ns (ns ++ ms) c k (λ m lt. let e = both m in top kind c (ns ++ ms) m (omega arith)) b

      a : Ended (λ k. times ms k + hand k) ns c d (first d)
      a = one (λ k. times ms k + hand k) c d
          (empty_handed kind (λ k. times (ns ++ ms) k + hand k) (λ k. times ns k + (times ms k + hand k)) c (λ k. let e = both k in omega arith) forest)
          known_c (λ k b. agree k (more k b))

      abbrev rest : Content
      rest = without_all a.list c

      rest_lives : (k : ℕ) → Below kind rest ms k → (q : Object) × (at rest.objects k ≡ Some q)
      rest_lives k b = below_lives kind hand rest ms k a.forest b

      from_rest : (k : ℕ) → Below kind rest ms k → Below kind c (ns ++ ms) k
      from_rest k b = below_up kind a.list ms (ns ++ ms) c k (λ m lt. let e = both m in top kind c (ns ++ ms) m (omega arith)) b

      b : Ended hand ms rest (without_all a.list d) (second (without_all a.list d))
      b = two hand rest (without_all a.list d) a.forest (last.less a.list c then_c)
          (λ k h. let l = rest_lives k h in
          at-without_all kind a.list d k (not_gone kind a.list c k l) ∙ agree k (from_rest k h) ∙ sym (stays_where_lives kind a.list c k l))

      split : (k : ℕ) → Below kind c (ns ++ ms) k → Below kind c ns k ⊎ Below kind rest ms k
      split k (whole _ e) =
          let p = positive_is (times (ns ++ ms) k) e in
          let s = both k in
          one_or_apart (times ns k) 0 (λ z. inr (top kind rest ms k (omega arith))) (λ nz. inl (top kind c ns k (omega arith)))
      split k (part m _ own) = let z = no_part kind (at c.objects m) k in absurd (omega arith)
      split k (under m _ h own) =
          ⊎_elim
          (λ x. inl (under m k x own))
          (λ y. let s : owns_at kind rest every m k ≡ owns_at kind c every m k = ap (λ (o : Option Object). owns_if kind every o k) (stays_where_lives kind a.list c m (rest_lives m y)) in
          inr (under m k y (omega arith)))
          (split m h)

      ended_both : Ended hand (ns ++ ms) c d (second (first d))
      ended_both = record {
        list = a.list ++ b.list;
        is = ap second a.is ∙ b.is ∙ sym (without_all-append a.list b.list d);
        forest = subst (IsForest kind hand) (sym (without_all-append a.list b.list c)) b.forest;
        low = λ k lt. let e = times-append a.list b.list k in
            one_or_apart (times a.list k) 0 (λ z. from_rest k (b.low k (omega arith))) (λ nz. more k (a.low k (omega arith)));
        every_one = λ k h. let e = times-append a.list b.list k in
            ⊎_elim (λ x. let l = a.every_one k x in omega arith) (λ y. let l = b.every_one k y in omega arith) (split k h);
      }

    pub end_then : Ender (ns ++ ms) (λ c. known c × then_known c) (λ d. second (first d))
    end_then hand c d forest known_c agree = ended_both hand c d forest known_c.0 known_c.1 agree

  -- an object ends behind what it owns
  module _ (n : ℕ) (known : Object → Content → Type 0) (end : Option Object → Content → Content) (one : (o : Object) → Ender (owned_list kind (Some o)) (known o) (end (Some o))) (last : (o : Object) → Lasting (known o)) where
    abbrev pub KnownOf : Content → Type 0
    KnownOf c = (o : Object) → at c.objects n ≡ Some o → known o c

    module _ (hand : ℕ → ℕ) (c d : Content) (o : Object) (there : at c.objects n ≡ Some o) (forest : IsForest kind (λ k. times (n ∷ []) k + hand k) c) (known_c : known o c) (agree : (k : ℕ) → Below kind c (n ∷ []) k → at d.objects k ≡ at c.objects k) where
      abbrev ms : List ℕ
      ms = owned_list kind (Some o)

      abbrev less : Content
      less = without n c

      n_top : Below kind c (n ∷ []) n
      n_top = let s = one_same n n refl in top kind c (n ∷ []) n (omega arith)

      owned_is : (k : ℕ) → times ms k ≡ owns_at kind c every n k
      owned_is k = times-owned_list kind (Some o) k ∙ ap (λ (x : Option Object). owns_if kind every x k) (sym there)

      from_owned : (k : ℕ) → Below kind less ms k → Below kind c (n ∷ []) k
      from_owned k b = below_up kind (n ∷ []) ms (n ∷ []) c k (λ m lt. let e = owned_is m in under n m n_top (omega arith)) b

      less_forest : IsForest kind (λ k. times ms k + hand k) less
      less_forest = forest_without kind (λ k. times (n ∷ []) k + hand k) (λ k. times ms k + hand k) c n forest (λ k. let e = owned_is k in omega arith)

      less_lives : (k : ℕ) → Below kind less ms k → (q : Object) × (at less.objects k ≡ Some q)
      less_lives k b = below_lives kind hand less ms k less_forest b

      inner : Ended hand ms less d (end (Some o) d)
      inner = one o hand less d less_forest ((last o).less (n ∷ []) c known_c) (λ k b. agree k (from_owned k b) ∙ sym (stays_where_lives kind (n ∷ []) c k (less_lives k b)))

      parted : (k : ℕ) → Below kind c (n ∷ []) k → (n ≡ k) ⊎ Below kind less ms k
      parted k (whole _ e) = let p = positive_is (times (n ∷ []) k) e in inl (one_there n k (omega arith))
      parted k (part m _ own) = let z = no_part kind (at c.objects m) k in absurd (omega arith)
      parted k (under m _ b own) =
          ⊎_elim
          (λ e. let s = owned_is k in let w : 0 < owns_at kind c every n k = subst (λ j. 0 < owns_at kind c every j k) (sym e) own in inr (top kind less ms k (omega arith)))
          (λ y. let s : owns_at kind less every m k ≡ owns_at kind c every m k = ap (λ (x : Option Object). owns_if kind every x k) (stays_where_lives kind (n ∷ []) c m (less_lives m y)) in
          inr (under m k y (omega arith)))
          (parted m b)

      one_ended : Ended hand (n ∷ []) c d (without n (end (Some o) d))
      one_ended = record {
        list = inner.list ++ n ∷ [];
        is = ap (without n) inner.is ∙ sym (without_all-append inner.list (n ∷ []) d);
        forest =
            subst (IsForest kind hand)
            (alike_without_all kind (n ∷ inner.list) (inner.list ++ n ∷ []) c
            (λ k lt. let e = times-append inner.list (n ∷ []) k in omega arith)
            (λ k lt. let e = times-append inner.list (n ∷ []) k in omega arith))
            inner.forest;
        low = λ k lt. let e = times-append inner.list (n ∷ []) k in
            one_or_apart (times inner.list k) 0
            (λ z. subst (Below kind c (n ∷ [])) (one_there n k (omega arith)) n_top)
            (λ nz. from_owned k (inner.low k (omega arith)));
        every_one = λ k h. let e = times-append inner.list (n ∷ []) k in
            ⊎_elim (λ s. let i = one_same n k s in omega arith) (λ y. let l = inner.every_one k y in omega arith) (parted k h);
      }

    pub end_one : Ender (n ∷ []) KnownOf (λ d. without n (end (at d.objects n) d))
    end_one hand c d forest known_c agree =
        let s = one_same n n refl in
        let h = forest.held n in
        let q = lives kind c n (omega arith) in
        let e : at d.objects n ≡ Some q.0 = agree n (top kind c (n ∷ []) n (omega arith)) ∙ q.1 in
        subst (Ended hand (n ∷ []) c d) (ap (λ (x : Option Object). without n (end x d)) (sym e))
        (one_ended hand c d q.0 q.1 forest (known_c q.0 q.1) agree)
