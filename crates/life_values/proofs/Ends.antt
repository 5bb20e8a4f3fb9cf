-- An object that ends with all beneath it: exactly that is taken out, in whatever order, and whatever stands beside it.
use Rattle.std.proofs.Common.{◌≡◌, ◌≢◌, ℕ, zero, suc, ◌+◌, ◌<◌, List, [], ◌∷◌, ◌++◌, Option, Some, refl, sym, ap, subst, ◌∙◌, arith}
use Rattle.std.proofs.lemmas.Option.{none-some, same_Some}
use Rattle.life_store.specs.Cells.{Cells, at, set, at-set_other, at-unset_same, at-unset_other}
use Rattle.life_store.specs.Content.{Object, Content, with_object, without}
use Rattle.life_store.specs.Owners.{ended, ended_owned}
use Rattle.life_store.specs.Parts.{Parts, Vector}
use Rattle.life_store.proofs.MapLemmas.{unset_apart}
use Rattle.life_forest.specs.Changes.{without_all}
use Rattle.life_forest.specs.Kinds.{Kinds}
use Rattle.life_forest.specs.Owned.{every, times, owns_if, owned_list}
use Rattle.life_forest.specs.Forest.{IsForest, under, Below}
use Rattle.life_forest.specs.Values.{OwnedKnown, Known}
use Rattle.life_forest.proofs.Below.{alike_without_all, without_all-append, below_lives, below_up, lives, top}
use Rattle.life_forest.proofs.ByParts.{parts_end}
use Rattle.life_forest.proofs.Counting.{one_same, times-append}
use Rattle.life_forest.proofs.Ending.{Ended, Ender, Lasting, end_nothing, end_then, end_one}
use Rattle.life_forest.proofs.Single.{forest_without}
use Rattle.life_forest.proofs.Steps.{times-owned_list, was_there}
use Rattle.life_values.specs.Ended.{ended_each, ended_number}

module _ (kind : Kinds) where
  -- ---- an end takes out the same whatever else there is

  -- what takes out the same list, in any order
  pub ended_alike : (hand : ℕ → ℕ) (ns : List ℕ) (c d e f : Content) (a : Ended kind hand ns c d e) (b : Ended kind hand ns c d f) → e ≡ f
  ended_alike hand ns c d e f a b = a.is ∙ alike_without_all kind a.list b.list d (λ k lt. b.every_one k (a.low k lt)) (λ k lt. a.every_one k (b.low k lt)) ∙ sym b.is

  without_all_aside : (ns : List ℕ) (n : ℕ) (p : Object) (d : Content) → times ns n ≡ 0 → without_all ns (with_object n p d) ≡ with_object n p (without_all ns d)
  without_all_aside [] n p d z = refl
  without_all_aside (m ∷ ms) n p d z =
      let ne : n ≢ m = λ e. let o = one_same m n (sym e) in omega (arith, o, z) in
      ap (λ (objects : Cells Object). without_all ms (record { objects = objects; births = d.births; clock = d.clock })) (unset_apart d.objects n m p ne)
      ∙ without_all_aside ms n p (without m d) (omega (arith, z))

  -- another object beside what ends
  pub ended_aside : (hand : ℕ → ℕ) (ns : List ℕ) (known : Content → Type 0) (end : Content → Content) → Ender kind ns known end → (c d : Content) → IsForest kind (λ k. times ns k + hand k) c → known c
      → ((k : ℕ) → Below kind c ns k → at d.objects k ≡ at c.objects k) → (n : ℕ) (p : Object) → (Below kind c ns n → ⊥)
      → end (with_object n p d) ≡ with_object n p (end d)
  ended_aside hand ns known end ender c d forest known_c agree n p apart =
      let a = ender hand c d forest known_c agree in
      let b = ender hand c (with_object n p d) forest known_c (λ k low. at_other k low ∙ agree k low) in
      b.is
      ∙ alike_without_all kind b.list a.list (with_object n p d) (λ k lt. a.every_one k (b.low k lt)) (λ k lt. b.every_one k (a.low k lt))
      ∙ without_all_aside a.list n p d (none (times a.list n) a refl)
      ∙ ap (with_object n p) (sym a.is)
    where
      at_other : (k : ℕ) → Below kind c ns k → at (set d.objects n p) k ≡ at d.objects k
      at_other k low = at-set_other d.objects n k p (λ e. apart (subst (Below kind c ns) (sym e) low))

      none : (x : ℕ) (a : Ended kind hand ns c d (end d)) → times a.list n ≡ x → times a.list n ≡ 0
      none zero a e = e
      none (suc x) a e = absurd (apart (a.low n (omega (arith, e))))

  without_all_without : (ns : List ℕ) (n : ℕ) (d : Content) → without_all ns (without n d) ≡ without n (without_all ns d)
  without_all_without ns n d =
      alike_without_all kind (n ∷ ns) (ns ++ n ∷ []) d
      (λ k lt. let e = times-append ns (n ∷ []) k in omega (arith, e, lt))
      (λ k lt. let e = times-append ns (n ∷ []) k in omega (arith, e, lt))
      ∙ without_all-append ns (n ∷ []) d

  -- .. or one less
  pub ended_less : (hand : ℕ → ℕ) (ns : List ℕ) (known : Content → Type 0) (end : Content → Content) → Ender kind ns known end → (c d : Content) → IsForest kind (λ k. times ns k + hand k) c → known c
      → ((k : ℕ) → Below kind c ns k → at d.objects k ≡ at c.objects k) → (n : ℕ) → (Below kind c ns n → ⊥)
      → end (without n d) ≡ without n (end d)
  ended_less hand ns known end ender c d forest known_c agree n apart =
      let a = ender hand c d forest known_c agree in
      let b = ender hand c (without n d) forest known_c (λ k low. at-unset_other d.objects n k (λ e. apart (subst (Below kind c ns) (sym e) low)) ∙ agree k low) in
      b.is
      ∙ alike_without_all kind b.list a.list (without n d) (λ k lt. a.every_one k (b.low k lt)) (λ k lt. b.every_one k (a.low k lt))
      ∙ without_all_without a.list n d
      ∙ ap (without n) (sym a.is)

  -- ---- objects, one after the other

  -- those of a list have types below a rank
  abbrev pub AreBelow : ℕ → List ℕ → Content → Type 0
  AreBelow depth ns c = (m : ℕ) (q : Object) → 0 < times ns m → at c.objects m ≡ Some q → kind.rank q.ty < depth

  below_lasts : (depth : ℕ) (ns : List ℕ) → Lasting kind (AreBelow depth ns)
  below_lasts depth ns = record { less = λ gone c h m q lt there. h m q lt (was_there kind gone c m q there) }

  pub each_end : (depth : ℕ) (end : ℕ → Content → Content) → ((n : ℕ) → Ender kind (n ∷ []) (AreBelow depth (n ∷ [])) (end n)) → (ns : List ℕ) → Ender kind ns (AreBelow depth ns) (ended_each end ns)
  each_end depth end ends [] hand c d forest known agree = end_nothing kind (λ x. Unit {0}) hand c d forest tt agree
  each_end depth end ends (n ∷ ns) hand c d forest known agree =
      end_then kind (n ∷ []) ns (AreBelow depth (n ∷ [])) (AreBelow depth ns) (end n) (ended_each end ns) (ends n) (each_end depth end ends ns) (below_lasts depth ns)
      hand c d forest ((λ m q lt there. known m q (omega arith) there), (λ m q lt there. known m q (omega arith) there)) agree

  -- ---- an object, and what it owned

  -- the object is out of what it owns
  pub out_of_hand : (hand : ℕ → ℕ) (c : Content) (n : ℕ) (o : Object) → at c.objects n ≡ Some o → IsForest kind (λ k. times (n ∷ []) k + hand k) c
      → IsForest kind (λ k. times (owned_list kind (Some o)) k + hand k) (without n c)
  out_of_hand hand c n o there forest =
      forest_without kind (λ k. times (n ∷ []) k + hand k) (λ k. times (owned_list kind (Some o)) k + hand k) c n forest
      (λ k. let e = times-owned_list kind (Some o) k ∙ ap (λ (x : Option Object). owns_if kind every x k) (sym there) in omega (arith, e))

  not_below_gone : (hand : ℕ → ℕ) (c : Content) (n : ℕ) (ms : List ℕ) → IsForest kind (λ k. times ms k + hand k) (without n c) → Below kind (without n c) ms n → ⊥
  not_below_gone hand c n ms forest low = let l = below_lives kind hand (without n c) ms n forest low in none-some l.0 (sym (at-unset_same c.objects n n refl) ∙ l.1)

  pub number_end : (depth n : ℕ) → Ender kind (n ∷ []) (AreBelow depth (n ∷ [])) (ended_number kind depth n)
  number_end zero n hand c d forest known agree =
      let h = forest.held n in
      let s = one_same n n refl in
      let l = lives kind c n (omega (arith, h, s)) in
      let r = known n l.0 (omega (arith, s)) l.1 in
      absurd (omega (arith, r))
  number_end (suc depth) n hand c d forest known agree =
      let end : Option Object → Content → Content = λ x e. ended_each (ended_number kind depth) (owned_list kind x) e in
      let h = forest.held n in
      let s = one_same n n refl in
      let l = lives kind c n (omega (arith, h, s)) in
      let there : at d.objects n ≡ Some l.0 = agree n (top kind c (n ∷ []) n (omega (arith, s))) ∙ l.1 in
      let below : AreBelow depth (owned_list kind (Some l.0)) c = λ m q lt at_m.
      let own = times-owned_list kind (Some l.0) m in
      let low = forest.lower n m l.0 q l.1 (omega (arith, own, lt)) at_m in
      let rank = known n l.0 (omega (arith, s)) l.1 in
      omega (arith, low, rank) in
      let whole = end_one kind n (λ o. AreBelow depth (owned_list kind (Some o))) end (λ o. each_end depth (ended_number kind depth) (number_end depth) (owned_list kind (Some o)))
      (λ o. below_lasts depth (owned_list kind (Some o))) hand c d forest (λ o at_n. subst (λ (x : Object). AreBelow depth (owned_list kind (Some x)) c) (same_Some l.0 o (sym l.1 ∙ at_n)) below) agree in
      let less = out_of_hand hand c n l.0 l.1 forest in
      let same : end (Some l.0) (without n d) ≡ without n (end (Some l.0) d) =
      ended_less hand (owned_list kind (Some l.0)) (AreBelow depth (owned_list kind (Some l.0))) (end (Some l.0)) (each_end depth (ended_number kind depth) (number_end depth) (owned_list kind (Some l.0)))
      (without n c) d less ((below_lasts depth (owned_list kind (Some l.0))).less (n ∷ []) c below)
      (λ k low. agree k (from_owned k l.0 l.1 low) ∙ sym (at-unset_other c.objects n k (λ e. not_below_gone hand c n (owned_list kind (Some l.0)) less (subst (Below kind (without n c) (owned_list kind (Some l.0))) (sym e) low))))
      n (not_below_gone hand c n (owned_list kind (Some l.0)) less) in
      subst (Ended kind hand (n ∷ []) c d) (ap (λ (x : Option Object). without n (end x d)) there ∙ sym same ∙ ap (λ (x : Option Object). end x (without n d)) (sym there)) whole
    where
      from_owned : (k : ℕ) (o : Object) → at c.objects n ≡ Some o → Below kind (without n c) (owned_list kind (Some o)) k → Below kind c (n ∷ []) k
      from_owned k o at_n low =
          below_up kind (n ∷ []) (owned_list kind (Some o)) (n ∷ []) c k
          (λ m lt. let own = times-owned_list kind (Some o) m ∙ ap (λ (x : Option Object). owns_if kind every x m) (sym at_n) in
          let s = one_same n n refl in
          under n m (top kind c (n ∷ []) n (omega (arith, s))) (omega (arith, own, lt))) low

  -- by the parts of the type of what it holds
  pub number_ended : (hand : ℕ → ℕ) (depth n : ℕ) (p : Parts) (c : Content) → IsForest kind (λ k. times (n ∷ []) k + hand k) c → AreBelow depth (n ∷ []) c → OwnedKnown kind c p (Known kind c p) (Some n)
      → ended_number kind depth n c ≡ ended_owned (ended p) (Some n) c
  number_ended hand depth n p c forest below known =
      ended_alike hand (n ∷ []) c c (ended_number kind depth n c) (ended_owned (ended p) (Some n) c)
      (number_end depth n hand c c forest below (λ k low. refl))
      (parts_end kind (Vector (record { 0 = 0 }) p) (suc n ∷ []) hand c c forest known (λ k low. refl))
