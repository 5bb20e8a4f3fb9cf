-- What is beneath objects, and what is left where some were taken out.
use Rattle.std.proofs.Common.{◌≡◌, ℕ, zero, suc, ◌+◌, ◌≤◌, ◌<◌, Bool, true, false, List, [], ◌∷◌, ◌++◌, Option, Some, None, refl, sym, ap, ◌∙◌, arith}
use Rattle.std.specs.Prelude.{◌&&◌}
use Rattle.life_store.specs.Cells.{at, same_cells}
use Rattle.life_store.specs.Content.{Object, Content, without}
use Rattle.life_store.proofs.MapLemmas.{one_or_apart}
use Rattle.life_forest.specs.Kinds.{Kinds}
use Rattle.life_store.specs.Kinds.{is_owner}
use Rattle.life_forest.specs.Owned.{every, times, alive, alive_if, owns_if, owns_at, holders}
use Rattle.life_forest.specs.Changes.{without_all}
use Rattle.life_forest.specs.Forest.{IsForest, whole, part, under, positive, Below}
use Rattle.life_store.proofs.CellLemmas.{none_some}
use Rattle.life_forest.proofs.Counting.{true_false, in_slots_none}
use Rattle.life_forest.proofs.Steps.{at-without_all, at-without_all_gone, births-without_all, clock-without_all, was_there, owns_less, owned_held}

pub positive_is : (x : ℕ) → positive x ≡ true → 0 < x
positive_is zero e = absurd (true_false (sym e))
positive_is (suc x) e = omega arith

pub is_positive : (x : ℕ) → 0 < x → positive x ≡ true
is_positive zero lt = absurd (omega arith)
is_positive (suc x) lt = refl

pub without_all-append : (ns ms : List ℕ) (c : Content) → without_all (ns ++ ms) c ≡ without_all ms (without_all ns c)
without_all-append [] ms c = refl
without_all-append (n ∷ ns) ms c = without_all-append ns ms (without n c)

module _ (kind : Kinds) where
  -- lists of the same numbers are taken out alike
  pub alike_without_all : (ns ms : List ℕ) (c : Content) → ((k : ℕ) → 0 < times ns k → 0 < times ms k) → ((k : ℕ) → 0 < times ms k → 0 < times ns k) → without_all ns c ≡ without_all ms c
  alike_without_all ns ms c there back =
      ap (λ m. record { objects = m; births = (without_all ns c).births; clock = (without_all ns c).clock }) maps
      ∙ ap (λ b. record { objects = (without_all ms c).objects; births = b; clock = (without_all ns c).clock }) (births-without_all kind ns c ∙ sym (births-without_all kind ms c))
      ∙ ap (λ t. record { objects = (without_all ms c).objects; births = (without_all ms c).births; clock = t }) (clock-without_all kind ns c ∙ sym (clock-without_all kind ms c))
    where
      maps : (without_all ns c).objects ≡ (without_all ms c).objects
      maps = same_cells (without_all ns c).objects (without_all ms c).objects (λ k. one_or_apart (times ns k) 0
          (λ z. at-without_all kind ns c k z ∙ sym (at-without_all kind ms c k (none k z)))
          (λ nz. let h = there k (omega arith) in at-without_all_gone kind ns c k (omega arith) ∙ sym (at-without_all_gone kind ms c k h)))
        where
          none : (k : ℕ) → times ns k ≡ 0 → times ms k ≡ 0
          none k z = one_or_apart (times ms k) 0 (λ e. e) (λ nz. let h = back k (omega arith) in absurd (omega arith))

  pub no_part : (o : Option Object) (k : ℕ) → owns_if kind (λ w. false) o k ≡ 0
  no_part None k = refl
  no_part (Some o) k = in_slots_none (λ u. is_owner (kind.word o.ty u) && false) o.slots k (λ u. never (is_owner (kind.word o.ty u)))
    where
      never : (b : Bool) → (b && false) ≡ false
      never true = refl
      never false = refl

  pub top : (c : Content) (ns : List ℕ) (k : ℕ) → 0 < times ns k → Below kind c ns k
  top c ns k lt = whole k (is_positive (times ns k) lt)

  -- what is beneath a foot of objects: one of them, or what is owned by such
  pub below_cases : {C : Type 0} (c : Content) (ns : List ℕ) (k : ℕ) → Below kind c ns k → (0 < times ns k → C) → ((m : ℕ) → Below kind c ns m → 0 < owns_at kind c every m k → C) → C
  below_cases c ns k (whole _ e) tops lows = tops (positive_is (times ns k) e)
  below_cases c ns k (part m _ own) tops lows = let z = no_part (at c.objects m) k in absurd (omega arith)
  below_cases c ns k (under m _ b own) tops lows = lows m b own

  -- less was beneath, where less was there
  pub below_up : (gone ms ns : List ℕ) (c : Content) (k : ℕ) → ((m : ℕ) → 0 < times ms m → Below kind c ns m) → Below kind (without_all gone c) ms k → Below kind c ns k
  below_up gone ms ns c k low (whole _ e) = low k (positive_is (times ms k) e)
  below_up gone ms ns c k low (part m _ own) = let z = no_part (at (without_all gone c).objects m) k in absurd (omega arith)
  below_up gone ms ns c k low (under m _ b own) = let le = owns_less kind gone c every m k in under m k (below_up gone ms ns c m low b) (omega arith)

  pub lives : (c : Content) (k : ℕ) → 0 < alive c k → (q : Object) × (at c.objects k ≡ Some q)
  lives c k lt = go (at c.objects k) refl lt
    where
      go : (o : Option Object) → at c.objects k ≡ o → 0 < alive_if o → (q : Object) × (at c.objects k ≡ Some q)
      go None e h = absurd (omega arith)
      go (Some q) e h = (q, e)

  pub owner_lives : (c : Content) (g : ℕ → Bool) (m k : ℕ) → 0 < owns_at kind c g m k → (o : Object) × (at c.objects m ≡ Some o)
  owner_lives c g m k own = go (at c.objects m) refl own
    where
      go : (o : Option Object) → at c.objects m ≡ o → 0 < owns_if kind g o k → (q : Object) × (at c.objects m ≡ Some q)
      go None e h = absurd (omega arith)
      go (Some o) e h = (o, e)

  pub owned_at_held : (c : Content) (m k : ℕ) → owns_at kind c every m k ≤ holders kind c k
  owned_at_held c m k = go (at c.objects m) refl
    where
      go : (o : Option Object) → at c.objects m ≡ o → owns_if kind every o k ≤ holders kind c k
      go None e = omega arith
      go (Some o) e = owned_held kind c m k o e

  -- what is beneath the hand lives
  pub below_lives : (hand : ℕ → ℕ) (c : Content) (ns : List ℕ) (k : ℕ) → IsForest kind (λ k. times ns k + hand k) c → Below kind c ns k → (q : Object) × (at c.objects k ≡ Some q)
  below_lives hand c ns k forest b =
      let h = forest.held k in
      below_cases c ns k b (λ lt. lives c k (omega arith)) (λ m b own. let l = owned_at_held c m k in lives c k (omega arith))

  pub below_top : (c : Content) (ns : List ℕ) (k : ℕ) → Below kind c ns k → (n : ℕ) × (0 < times ns n)
  below_top c ns k (whole _ e) = (k, positive_is (times ns k) e)
  below_top c ns k (part m _ own) = let z = no_part (at c.objects m) k in absurd (omega arith)
  below_top c ns k (under m _ b own) = below_top c ns m b

  pub empty_handed : (hand new : ℕ → ℕ) (c : Content) → ((k : ℕ) → new k ≤ hand k) → IsForest kind hand c → IsForest kind new c
  empty_handed hand new c le forest = record {
    held = λ k. let h = forest.held k in let l = le k in omega arith;
    lower = forest.lower;
    slots = forest.slots;
    ends = forest.ends;
    births = forest.births;
  }

  pub stays_where_lives : (gone : List ℕ) (c : Content) (k : ℕ) → (q : Object) × (at (without_all gone c).objects k ≡ Some q) → at (without_all gone c).objects k ≡ at c.objects k
  stays_where_lives gone c k l = l.1 ∙ sym (was_there kind gone c k l.0 l.1)

  pub not_gone : (gone : List ℕ) (c : Content) (k : ℕ) → (q : Object) × (at (without_all gone c).objects k ≡ Some q) → times gone k ≡ 0
  not_gone gone c k l = one_or_apart (times gone k) 0
      (λ z. z)
      (λ nz. absurd (none_some (sym (at-without_all_gone kind gone c k (omega arith)) ∙ l.1)))
