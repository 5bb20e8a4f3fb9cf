-- What touches at most a foot, in one step after another; counts of a forest; and objects that are taken out.
use Rattle.std.proofs.Common.{◌≡◌, ℕ, zero, suc, ◌+◌, ◌≤◌, ◌<◌, Bool, true, List, [], ◌∷◌, length, Option, Some, None, refl, sym, ap, subst, ◌∙◌, arith, ⊎_elim, inl, inr, ◌⊎◌}
use Rattle.std.specs.Prelude.{option_map, ◌&&◌}
use Rattle.life_store.specs.Cells.{at, at-unset_same, at-unset_other, sum_over}
use Rattle.life_store.specs.Content.{Object, Content, is_valid_in, without}
use Rattle.life_store.specs.Held.{slots_at, slots_if}
use Rattle.life_store.proofs.MapLemmas.{one_or_apart, sum-unset}
use Rattle.life_forest.specs.Kinds.{Kinds}
use Rattle.life_store.specs.Kinds.{is_owner}
use Rattle.life_forest.specs.Changes.{without_all}
use Rattle.life_forest.specs.Owned.{one, every, times, alive, alive_if, owns, owns_if, owns_at, holders, spared, owned_list, nexts, beneath}
use Rattle.life_forest.specs.Forest.{AllSince, IsForest, Foot, Beneath, whole, part, under, Touches, Within}
use Rattle.life_store.proofs.CellLemmas.{none_some}
use Rattle.life_forest.proofs.Counting.{one_same, one_apart, one_there, times-append, times-slots_list}
use Rattle.life_forest.proofs.Maps.{unset_none}
use Rattle.life_forest.proofs.Sparing.{valid-spared, size-spared, alike_more, owns_le}

module _ (kind : Kinds) where
  -- ---- what isn't beneath stands as it stood

  pub stands_on : (t : Foot) (c c' : Content) (n i count moment : ℕ) → Touches kind t c c' → n < c.births → (Beneath kind c t n → ⊥)
      → is_valid_in i count moment (at c'.objects n) ≡ is_valid_in i count moment (at c.objects n)
  stands_on t c c' n i count moment touch born apart =
      sym (valid-spared kind (t.part n) (at c'.objects n) i count moment)
      ∙ ap (is_valid_in i count moment) (touch.kept n born apart)
      ∙ valid-spared kind (t.part n) (at c.objects n) i count moment

  pub size_on : (t : Foot) (c c' : Content) (n : ℕ) → Touches kind t c c' → n < c.births → (Beneath kind c t n → ⊥) → length (slots_at c' n) ≡ length (slots_at c n)
  size_on t c c' n touch born apart =
      sym (size-spared kind (t.part n) (at c'.objects n))
      ∙ ap (λ (o : Option Object). length (slots_if o)) (touch.kept n born apart)
      ∙ size-spared kind (t.part n) (at c.objects n)

  -- ---- touched is at most a foot: in no step, in more, and in one step after another

  pub touches_self : (t : Foot) (c : Content) → Touches kind t c c
  touches_self t c = record { births = omega arith; clock = omega arith; kept = λ n lt apart. refl; back = λ g m k lt own. inr own }

  -- what is owned by an object is owned by one that was there
  pub owner_born : (hand : ℕ → ℕ) (c : Content) (g : ℕ → Bool) (m k : ℕ) → IsForest kind hand c → 0 < owns_at kind c g m k → m < c.births
  owner_born hand c g m k forest own = go (at c.objects m) refl own
    where
      go : (o : Option Object) → at c.objects m ≡ o → 0 < owns_if kind g o k → m < c.births
      go None e h = absurd (omega arith)
      go (Some o) e h = forest.births m o e

  pub own_all : (c : Content) (g : ℕ → Bool) (m k : ℕ) → 0 < owns_at kind c g m k → 0 < owns_at kind c every m k
  own_all c g m k own = let le = owns_le kind g every (at c.objects m) k (λ u e. refl) in omega arith

  module _ (hand : ℕ → ℕ) (c : Content) (forest : IsForest kind hand c) where
    -- what is beneath a foot is beneath one in which it lies
    pub beneath_more : (t u : Foot) (k : ℕ) → Within kind c t u → k < c.births → Beneath kind c t k → Beneath kind c u k
    beneath_more t u k within lt (whole _ e) = within.whole k lt e
    beneath_more t u k within lt (part m _ own) =
        ⊎_elim
        (λ b. under m k b (own_all c (t.part m) m k own))
        (λ le. let more = owns_le kind (t.part m) (u.part m) (at c.objects m) k le in part m k (omega arith))
        (within.part m (owner_born hand c (t.part m) m k forest own))
    beneath_more t u k within lt (under m _ b own) =
        under m k (beneath_more t u m within (owner_born hand c every m k forest own) b) own

    -- .. and so is what was there and lies beneath a foot of later on
    pub beneath_back : (t s u : Foot) (c' : Content) (k : ℕ) → Touches kind t c c' → Within kind c t u → Within kind c s u → k < c.births → Beneath kind c' s k → Beneath kind c u k
    beneath_back t s u c' k touch first second lt (whole _ e) = second.whole k lt e
    beneath_back t s u c' k touch first second lt (part m _ own) =
        ⊎_elim
        (λ b. beneath_more t u k first lt b)
        (λ was. ⊎_elim
        (λ b. under m k b (own_all c (s.part m) m k was))
        (λ le. let more = owns_le kind (s.part m) (u.part m) (at c.objects m) k le in part m k (omega arith))
        (second.part m (owner_born hand c (s.part m) m k forest was)))
        (touch.back (s.part m) m k lt own)
    beneath_back t s u c' k touch first second lt (under m _ b own) =
        ⊎_elim
        (λ d. beneath_more t u k first lt d)
        (λ was. under m k (beneath_back t s u c' m touch first second (owner_born hand c every m k forest was) b) was)
        (touch.back every m k lt own)

    pub touches_then : (t s u : Foot) (c' c'' : Content) → Touches kind t c c' → Touches kind s c' c'' → Within kind c t u → Within kind c s u → Touches kind u c c''
    touches_then t s u c' c'' one two first second = record {
      births = let a = one.births in let b = two.births in omega arith;
      clock = let a = one.clock in let b = two.clock in omega arith;
      kept = λ n lt apart. same n lt apart (first.part n lt) (second.part n lt);
      back = λ g m k lt own. ⊎_elim
          (λ b. inl (beneath_back t s u c' k one first second lt b))
          (λ was. ⊎_elim (λ b. inl (beneath_more t u k first lt b)) (λ h. inr h) (one.back g m k lt was))
          (two.back g m k (later k lt) own);
    }
      where
        later : (k : ℕ) → k < c.births → k < c'.births
        later k lt = let a = one.births in omega arith

        same : (n : ℕ) → n < c.births → (Beneath kind c u n → ⊥) → Beneath kind c u n ⊎ ((w : ℕ) → t.part n w ≡ true → u.part n w ≡ true) → Beneath kind c u n ⊎ ((w : ℕ) → s.part n w ≡ true → u.part n w ≡ true)
            → option_map (spared kind (u.part n)) (at c''.objects n) ≡ option_map (spared kind (u.part n)) (at c.objects n)
        same n lt apart (inl b) q = absurd (apart b)
        same n lt apart (inr p) (inl b) = absurd (apart b)
        same n lt apart (inr p) (inr q) =
            alike_more kind (s.part n) (u.part n) (at c''.objects n) (at c'.objects n) q (two.kept n (later n lt) (λ b. apart (beneath_back t s u c' n one first second lt b)))
            ∙ alike_more kind (t.part n) (u.part n) (at c'.objects n) (at c.objects n) p (one.kept n lt (λ b. apart (beneath_more t u n first lt b)))

    -- a foot may grow
    pub touches_more : (t u : Foot) (c' : Content) → Touches kind t c c' → Within kind c t u → Touches kind u c c'
    touches_more t u c' touch within = touches_then t t u c' c' touch (touches_self t c') within within

  -- ---- counts of a forest

  pub alive_le : (c : Content) (k : ℕ) → alive c k ≤ 1
  alive_le c k = go (at c.objects k)
    where
      go : (o : Option Object) → alive_if o ≤ 1
      go None = omega arith
      go (Some o) = omega arith

  alive_is : (c c' : Content) (k : ℕ) → at c'.objects k ≡ at c.objects k → alive c' k ≡ alive c k
  alive_is c c' k e = ap alive_if e

  -- what one object owns, all own
  pub owned_held : (c : Content) (n k : ℕ) (o : Object) → at c.objects n ≡ Some o → owns kind every o k ≤ holders kind c k
  owned_held c n k o there = let e = sum-unset (λ q. owns kind every q k) c.objects n o there in omega arith

  pub holders_without : (c : Content) (n k : ℕ) → holders kind (without n c) k + owns_at kind c every n k ≡ holders kind c k
  holders_without c n k = go (at c.objects n) refl
    where
      go : (o : Option Object) → at c.objects n ≡ o → holders kind (without n c) k + owns_if kind every o k ≡ holders kind c k
      go None e = let s = ap (sum_over (λ (q : Object). owns kind every q k)) (unset_none c.objects n e) in omega arith
      go (Some o) e = let s = sum-unset (λ q. owns kind every q k) c.objects n o e in omega arith

  -- ---- what is taken out

  -- each is in the hand, or owned by another that is taken out
  abbrev pub Rooted : Content → List ℕ → List ℕ → Type 0
  Rooted c ns all = (k : ℕ) → 0 < times all k → (0 < times ns k) ⊎ ((p : ℕ) × (0 < times all p) × (0 < owns_at kind c every p k))

  pub at-without_all : (ns : List ℕ) (c : Content) (k : ℕ) → times ns k ≡ 0 → at (without_all ns c).objects k ≡ at c.objects k
  at-without_all [] c k z = refl
  at-without_all (n ∷ ns) c k z =
      at-without_all ns (without n c) k (omega arith)
      ∙ at-unset_other c.objects n k (λ e. let h = one_same n k e in absurd (omega arith))

  pub at-without_all_gone : (ns : List ℕ) (c : Content) (k : ℕ) → 0 < times ns k → at (without_all ns c).objects k ≡ None
  at-without_all_gone [] c k lt = absurd (omega arith)
  at-without_all_gone (n ∷ ns) c k lt = one_or_apart (times ns k) 0
      (λ z. at-without_all ns (without n c) k z ∙ at-unset_same c.objects n k (one_there n k (omega arith)))
      (λ nz. at-without_all_gone ns (without n c) k (omega arith))

  pub births-without_all : (ns : List ℕ) (c : Content) → (without_all ns c).births ≡ c.births
  births-without_all [] c = refl
  births-without_all (n ∷ ns) c = births-without_all ns (without n c)

  pub clock-without_all : (ns : List ℕ) (c : Content) → (without_all ns c).clock ≡ c.clock
  clock-without_all [] c = refl
  clock-without_all (n ∷ ns) c = clock-without_all ns (without n c)

  -- what is there after it was there before
  pub was_there : (ns : List ℕ) (c : Content) (k : ℕ) (o : Object) → at (without_all ns c).objects k ≡ Some o → at c.objects k ≡ Some o
  was_there ns c k o e = one_or_apart (times ns k) 0
      (λ z. sym (at-without_all ns c k z) ∙ e)
      (λ nz. absurd (none_some (sym (at-without_all_gone ns c k (omega arith)) ∙ e)))

  holders_less : (ns : List ℕ) (c : Content) (k : ℕ) → holders kind (without_all ns c) k ≤ holders kind c k
  holders_less [] c k = omega arith
  holders_less (n ∷ ns) c k = let a = holders_less ns (without n c) k in let b = holders_without c n k in omega arith

  holders_lost : (ns : List ℕ) (c : Content) (p k : ℕ) → 0 < times ns p → holders kind (without_all ns c) k + owns_at kind c every p k ≤ holders kind c k
  holders_lost [] c p k lt = absurd (omega arith)
  holders_lost (n ∷ ns) c p k lt = one_or_apart n p
      (λ e. let a = holders_less ns (without n c) k in
      let b : holders kind (without n c) k + owns_at kind c every p k ≡ holders kind c k = subst (λ q. holders kind (without n c) k + owns_at kind c every q k ≡ holders kind c k) e (holders_without c n k) in
      omega arith)
      (λ ne. let z = one_apart n p ne in
      let a = holders_lost ns (without n c) p k (omega arith) in
      let s : owns_at kind (without n c) every p k ≡ owns_at kind c every p k = ap (λ (o : Option Object). owns_if kind every o k) (at-unset_other c.objects n p ne) in
      let b = holders_without c n k in
      omega arith)

  pub forest_without_all : (hand : ℕ → ℕ) (c : Content) (ns all : List ℕ) → IsForest kind (λ k. times ns k + hand k) c → Rooted c ns all → IsForest kind hand (without_all all c)
  forest_without_all hand c ns all forest rooted = record {
    held = λ k. one_or_apart (times all k) 0
        (λ z. let h = forest.held k in let l = holders_less all c k in let s = alive_is c (without_all all c) k (at-without_all all c k z) in omega arith)
        (λ nz. ⊎_elim
        (λ lt. let h = forest.held k in let l = holders_less all c k in let o = alive_le c k in omega arith)
        (λ r. let h = forest.held k in let l = holders_lost all c r.0 k r.1 in let o = alive_le c k in let own = r.2 in omega arith)
        (rooted k (omega arith)));
    lower = λ n m o q there own below. forest.lower n m o q (was_there all c n o there) own (was_there all c m q below);
    slots = λ n o there. subst (λ t. AllSince t o.slots) (sym (clock-without_all all c)) (forest.slots n o (was_there all c n o there));
    ends = λ n o there. let e = clock-without_all all c in let h = forest.ends n o (was_there all c n o there) in omega arith;
    births = λ n o there. let e = births-without_all all c in let h = forest.births n o (was_there all c n o there) in omega arith;
  }

  pub owns_less : (ns : List ℕ) (c : Content) (g : ℕ → Bool) (m k : ℕ) → owns_at kind (without_all ns c) g m k ≤ owns_at kind c g m k
  owns_less ns c g m k = one_or_apart (times ns m) 0
      (λ z. let e : owns_at kind (without_all ns c) g m k ≡ owns_at kind c g m k = ap (λ (o : Option Object). owns_if kind g o k) (at-without_all ns c m z) in omega arith)
      (λ nz. let e : owns_at kind (without_all ns c) g m k ≡ 0 = ap (λ (o : Option Object). owns_if kind g o k) (at-without_all_gone ns c m (omega arith)) in omega arith)

  pub touches_without_all : (t : Foot) (c : Content) (ns : List ℕ) → ((k : ℕ) → 0 < times ns k → Beneath kind c t k) → Touches kind t c (without_all ns c)
  touches_without_all t c ns low = record {
    births = let e = births-without_all ns c in omega arith;
    clock = let e = clock-without_all ns c in omega arith;
    kept = λ n lt apart. one_or_apart (times ns n) 0
        (λ z. ap (option_map (spared kind (t.part n))) (at-without_all ns c n z))
        (λ nz. absurd (apart (low n (omega arith))));
    back = λ g m k lt own. let le = owns_less ns c g m k in inr (omega arith);
  }

  -- ---- the list of what is beneath

  pub times-owned_list : (o : Option Object) (k : ℕ) → times (owned_list kind o) k ≡ owns_if kind every o k
  times-owned_list None k = refl
  times-owned_list (Some o) k = times-slots_list (λ u. is_owner (kind.word o.ty u) && every u) o.slots k

  pub nexts_owned : (c : Content) (ns : List ℕ) (k : ℕ) → 0 < times (nexts kind c ns) k → (p : ℕ) × (0 < times ns p) × (0 < owns_at kind c every p k)
  nexts_owned c [] k lt = absurd (omega arith)
  nexts_owned c (n ∷ ns) k lt = one_or_apart (times (nexts kind c ns) k) 0
      (λ z. let a = times-append (owned_list kind (at c.objects n)) (nexts kind c ns) k in
      let b = times-owned_list (at c.objects n) k in
      let s = one_same n n refl in
      (n, omega arith, omega arith))
      (λ nz. let r = nexts_owned c ns k (omega arith) in let l = r.1 in (r.0, omega arith, r.2))

  pub beneath_rooted : (f : ℕ) (c : Content) (ns : List ℕ) → Rooted c ns (beneath kind f c ns)
  beneath_rooted zero c ns k lt = absurd (omega arith)
  beneath_rooted (suc f) c ns k lt =
      let a = times-append ns (beneath kind f c (nexts kind c ns)) k in
      one_or_apart (times ns k) 0
      (λ z. ⊎_elim
      (λ h. let r = nexts_owned c ns k h in
      let b = times-append ns (beneath kind f c (nexts kind c ns)) r.0 in
      let l = r.1 in
      inr (r.0, omega arith, r.2))
      (λ r. let b = times-append ns (beneath kind f c (nexts kind c ns)) r.0 in
      let l = r.1 in
      inr (r.0, omega arith, r.2))
      (beneath_rooted f c (nexts kind c ns) k (omega arith)))
      (λ nz. inl (omega arith))

  pub beneath_listed : (f : ℕ) (t : Foot) (c : Content) (ns : List ℕ) (k : ℕ) → ((n : ℕ) → 0 < times ns n → Beneath kind c t n) → 0 < times (beneath kind f c ns) k → Beneath kind c t k
  beneath_listed zero t c ns k low lt = absurd (omega arith)
  beneath_listed (suc f) t c ns k low lt =
      let a = times-append ns (beneath kind f c (nexts kind c ns)) k in
      one_or_apart (times ns k) 0
      (λ z. beneath_listed f t c (nexts kind c ns) k (λ n h. let r = nexts_owned c ns n h in under r.0 n (low r.0 r.1) r.2) (omega arith))
      (λ nz. low k (omega arith))

  -- all that is beneath the hand's objects ends
  pub forest_ended : (hand : ℕ → ℕ) (f : ℕ) (c : Content) (ns : List ℕ) → IsForest kind (λ k. times ns k + hand k) c → IsForest kind hand (without_all (beneath kind f c ns) c)
  forest_ended hand f c ns forest = forest_without_all hand c ns (beneath kind f c ns) forest (beneath_rooted f c ns)

  pub touches_ended : (t : Foot) (f : ℕ) (c : Content) (ns : List ℕ) → ((n : ℕ) → 0 < times ns n → Beneath kind c t n) → Touches kind t c (without_all (beneath kind f c ns) c)
  touches_ended t f c ns low = touches_without_all t c (beneath kind f c ns) (λ k lt. beneath_listed f t c ns k low lt)
