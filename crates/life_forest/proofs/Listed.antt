-- The list of what is beneath is whole.
use Rattle.std.proofs.Common.{◌≡◌, ℕ, zero, suc, ◌+◌, ◌≤◌, ◌<◌, true, List, [], ◌∷◌, Option, Some, sym, subst, arith, inl, inr, ◌⊎◌}
use Rattle.life_store.specs.Cells.{at}
use Rattle.life_store.specs.Content.{Object, Content}
use Rattle.life_store.proofs.MapLemmas.{one_or_apart}
use Rattle.life_forest.specs.Kinds.{Kinds}
use Rattle.life_forest.specs.Owned.{every, times, owns_if, owns_at, owned_list, nexts, beneath}
use Rattle.life_forest.specs.Forest.{IsForest, Foot, Beneath, whole, part, under, Below}
use Rattle.life_forest.proofs.Counting.{one_apart, times-append}
use Rattle.life_forest.proofs.Steps.{times-owned_list, beneath_listed}
use Rattle.life_forest.proofs.Below.{positive_is, owner_lives, no_part}

module _ (kind : Kinds) where
  nexts_all : (c : Content) (ns : List ℕ) (m k : ℕ) → 0 < times ns m → 0 < owns_at kind c every m k → 0 < times (nexts kind c ns) k
  nexts_all c [] m k lt own = absurd (omega arith)
  nexts_all c (n ∷ ns) m k lt own =
      let a = times-append (owned_list kind (at c.objects n)) (nexts kind c ns) k in
      let b = times-owned_list kind (at c.objects n) k in
      one_or_apart n m
      (λ e. let w : 0 < owns_at kind c every n k = subst (λ j. 0 < owns_at kind c every j k) (sym e) own in omega arith)
      (λ ne. let z = one_apart n m ne in let h = nexts_all c ns m k (omega arith) own in omega arith)

  -- one level further
  beneath_next : (f : ℕ) (c : Content) (ns : List ℕ) (m k : ℕ) → 0 < times (beneath kind f c ns) m → 0 < owns_at kind c every m k → 0 < times (beneath kind (suc f) c ns) k
  beneath_next zero c ns m k lt own = absurd (omega arith)
  beneath_next (suc f) c ns m k lt own =
      let a = times-append ns (beneath kind f c (nexts kind c ns)) m in
      let b = times-append ns (beneath kind (suc f) c (nexts kind c ns)) k in
      let d = times-append (nexts kind c ns) (beneath kind f c (nexts kind c (nexts kind c ns))) k in
      one_or_apart (times ns m) 0
      (λ z. let h = beneath_next f c (nexts kind c ns) m k (omega arith) own in omega arith)
      (λ nz. let h = nexts_all c ns m k (omega arith) own in omega arith)

  module _ (hand : ℕ → ℕ) (c : Content) (forest : IsForest kind hand c) (t : Foot) (ns : List ℕ) (f : ℕ) (wholes : (n : ℕ) → t.whole n ≡ true → 0 < times ns n)
      (parts : (m n : ℕ) → 0 < owns_at kind c (t.part m) m n → 0 < times ns n) (high : (n : ℕ) (q : Object) → 0 < times ns n → at c.objects n ≡ Some q → kind.rank q.ty < f) where
    -- what is so high lies within so many levels
    within : (k j : ℕ) (q : Object) → Beneath kind c t k → at c.objects k ≡ Some q → f ≤ kind.rank q.ty + j → 0 < times (beneath kind j c ns) k
    within k j q (whole _ e) there le = first k j q (wholes k e) there le
      where
        first : (k j : ℕ) (q : Object) → 0 < times ns k → at c.objects k ≡ Some q → f ≤ kind.rank q.ty + j → 0 < times (beneath kind j c ns) k
        first k zero q lt there le = let h = high k q lt there in absurd (omega arith)
        first k (suc j) q lt there le = let a = times-append ns (beneath kind j c (nexts kind c ns)) k in omega arith
    within k j q (part m _ own) there le = first k j q (parts m k own) there le
      where
        first : (k j : ℕ) (q : Object) → 0 < times ns k → at c.objects k ≡ Some q → f ≤ kind.rank q.ty + j → 0 < times (beneath kind j c ns) k
        first k zero q lt there le = let h = high k q lt there in absurd (omega arith)
        first k (suc j) q lt there le = let a = times-append ns (beneath kind j c (nexts kind c ns)) k in omega arith
    within k zero q (under m _ b own) there le =
        let o = owner_lives kind c every m k own in
        let l = forest.lower m k o.0 q o.1 (subst (λ (x : Option Object). 0 < owns_if kind every x k) o.1 own) there in
        let h = within m zero o.0 b o.1 (omega arith) in
        absurd (omega arith)
    within k (suc j) q (under m _ b own) there le =
        let o = owner_lives kind c every m k own in
        let l = forest.lower m k o.0 q o.1 (subst (λ (x : Option Object). 0 < owns_if kind every x k) o.1 own) there in
        beneath_next j c ns m k (within m j o.0 b o.1 (omega arith)) own

    -- the list is whole
    pub beneath_all : (k : ℕ) (q : Object) → at c.objects k ≡ Some q → Beneath kind c t k → 0 < times (beneath kind f c ns) k
    beneath_all k q there b = within k f q b there (omega arith)

    -- .. so of what lives it can be said whether it is beneath
    pub beneath_or_not : (k : ℕ) (q : Object) → at c.objects k ≡ Some q → ((n : ℕ) → 0 < times ns n → Beneath kind c t n) → Beneath kind c t k ⊎ (Beneath kind c t k → ⊥)
    beneath_or_not k q there tops = one_or_apart (times (beneath kind f c ns) k) 0
        (λ z. inr (λ b. let h = beneath_all k q there b in absurd (omega arith)))
        (λ nz. inl (beneath_listed kind f t c ns k tops (omega arith)))

  pub below_beneath : (ns : List ℕ) (c : Content) (t : Foot) (k : ℕ) → ((n : ℕ) → 0 < times ns n → Beneath kind c t n) → Below kind c ns k → Beneath kind c t k
  below_beneath ns c t k tops (whole _ e) = tops k (positive_is (times ns k) e)
  below_beneath ns c t k tops (part m _ own) = let z = no_part kind (at c.objects m) k in absurd (omega arith)
  below_beneath ns c t k tops (under m _ b own) = under m k (below_beneath ns c t m tops b) own
