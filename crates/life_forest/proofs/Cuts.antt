-- What words of an object own ends, and then the object is another one without them: the order of a run.
use Rattle.std.proofs.Common.{◌≡◌, ◌≢◌, ℕ, ◌+◌, ◌≤◌, ◌<◌, Bool, List, Option, Some, refl, sym, ap, subst, ◌∙◌, arith, ◌⊎◌}
use Rattle.life_store.specs.Cells.{at, set, at-set_same, at-set_other, same_cells}
use Rattle.life_store.specs.Content.{Object, Content, with_object}
use Rattle.life_store.proofs.MapLemmas.{one_or_apart}
use Rattle.life_forest.specs.Kinds.{Kinds}
use Rattle.life_forest.specs.Changes.{without_all}
use Rattle.life_forest.specs.Owned.{every, times, owns, owns_if, spared}
use Rattle.life_forest.specs.Forest.{IsForest, Foot, Beneath, whole, part, under, Touches, Below}
use Rattle.life_forest.proofs.Single.{Fits, forest_with, touches_with}
use Rattle.life_forest.proofs.Steps.{touches_then, touches_without_all, at-without_all, at-without_all_gone, births-without_all, clock-without_all, was_there}
use Rattle.life_forest.proofs.Below.{positive_is, is_positive, no_part, owner_lives}
use Rattle.life_forest.proofs.Ending.{Ended, Ender}
use Rattle.life_forest.proofs.Listed.{below_beneath}
use Rattle.life_forest.proofs.Feet.{within_self, and_all, within_all}

-- what some words own ends, and then the object is another one
abbrev pub cut : ℕ → Object → (Content → Content) → Content → Content
cut b q end c = with_object b q (end c)

module _ (kind : Kinds) where
  -- what is beneath has a lesser type than what owns it
  pub below_lesser : (hand : ℕ → ℕ) (c : Content) (ns : List ℕ) (bound : ℕ) → IsForest kind hand c → ((n : ℕ) (q : Object) → 0 < times ns n → at c.objects n ≡ Some q → kind.rank q.ty < bound)
      → (k : ℕ) (q : Object) → Below kind c ns k → at c.objects k ≡ Some q → kind.rank q.ty < bound
  below_lesser hand c ns bound forest high k q (whole _ e) there = high k q (positive_is (times ns k) e) there
  below_lesser hand c ns bound forest high k q (part m _ own) there = let z = no_part kind (at c.objects m) k in absurd (omega arith)
  below_lesser hand c ns bound forest high k q (under m _ b own) there =
      let o = owner_lives kind c every m k own in
      let l = forest.lower m k o.0 q o.1 (subst (λ (x : Option Object). 0 < owns_if kind every x k) o.1 own) there in
      let h = below_lesser hand c ns bound forest high m o.0 b o.1 in
      omega arith

  set_without_all : (gone : List ℕ) (c : Content) (b : ℕ) (q : Object) → times gone b ≡ 0 → with_object b q (without_all gone c) ≡ without_all gone (with_object b q c)
  set_without_all gone c b q z =
      ap (λ m. record { objects = m; births = (without_all gone c).births; clock = (without_all gone c).clock }) maps
      ∙ ap (λ n. record { objects = (without_all gone (with_object b q c)).objects; births = n; clock = (without_all gone c).clock })
      (births-without_all kind gone c ∙ sym (births-without_all kind gone (with_object b q c)))
      ∙ ap (λ t. record { objects = (without_all gone (with_object b q c)).objects; births = (without_all gone (with_object b q c)).births; clock = t })
      (clock-without_all kind gone c ∙ sym (clock-without_all kind gone (with_object b q c)))
    where
      maps : set (without_all gone c).objects b q ≡ (without_all gone (with_object b q c)).objects
      maps = same_cells (set (without_all gone c).objects b q) (without_all gone (with_object b q c)).objects (λ k. one_or_apart b k
          (λ e. at-set_same (without_all gone c).objects b k q e
          ∙ sym (at-without_all kind gone (with_object b q c) k (subst (λ j. times gone j ≡ 0) e z) ∙ at-set_same c.objects b k q e))
          (λ ne. at-set_other (without_all gone c).objects b k q ne
          ∙ one_or_apart (times gone k) 0
          (λ y. at-without_all kind gone c k y ∙ sym (at-without_all kind gone (with_object b q c) k y ∙ at-set_other c.objects b k q ne))
          (λ ny. at-without_all_gone kind gone c k (omega arith) ∙ sym (at-without_all_gone kind gone (with_object b q c) k (omega arith)))))

  -- what ends is owned by the object, which is then another one of the type; what that owns more comes from the hand
  module _ (hand new : ℕ → ℕ) (c : Content) (b : ℕ) (o q : Object) (ns : List ℕ) (known : Content → Type 0) (end : Content → Content) (ender : Ender kind ns known end) (forest : IsForest kind hand c)
      (there : at c.objects b ≡ Some o) (same : q.ty ≡ o.ty) (fits : Fits kind c q) (from : (k : ℕ) → 0 < times ns k → 0 < owns kind every o k)
      (share : (k : ℕ) → (new k + times ns k) + owns kind every q k ≤ hand k + owns kind every o k) (known_c : known (with_object b q c)) where
    -- the words are gone first: a forest, with what they own in the hand
    abbrev shorter : Content
    shorter = with_object b q c

    shorter_forest : IsForest kind (λ k. times ns k + new k) shorter
    shorter_forest = forest_with kind hand (λ k. times ns k + new k) c b o q forest there same fits (λ k. let s = share k in omega arith)

    owned_lesser : (n : ℕ) (x : Object) → 0 < times ns n → at shorter.objects n ≡ Some x → kind.rank x.ty < kind.rank o.ty
    owned_lesser n x lt t = one_or_apart b n
        (λ e. let l = forest.lower b n o o there (from n lt) (sym (ap (at c.objects) e) ∙ there) in absurd (omega arith))
        (λ ne. forest.lower b n o x there (from n lt) (sym (at-set_other c.objects b n q ne) ∙ t))

    apart : (k : ℕ) → Below kind shorter ns k → b ≢ k
    apart k low e =
        let r = ap kind.rank same in
        let l = below_lesser (λ k. times ns k + new k) shorter ns (kind.rank o.ty) shorter_forest owned_lesser k q low (at-set_same c.objects b k q e) in
        omega arith

    ended : Ended kind new ns shorter c (end c)
    ended = ender new shorter c shorter_forest known_c (λ k low. sym (at-set_other c.objects b k q (apart k low)))

    stays : times ended.list b ≡ 0
    stays = one_or_apart (times ended.list b) 0 (λ z. z) (λ nz. absurd (apart b (ended.low b (omega arith)) refl))

    pub still_there : at (end c).objects b ≡ Some o
    still_there = ap (λ (x : Content). at x.objects b) ended.is ∙ at-without_all kind ended.list c b stays ∙ there

    pub was_before : (m : ℕ) (x : Object) → at (end c).objects m ≡ Some x → at c.objects m ≡ Some x
    was_before m x is = was_there kind ended.list c m x (sym (ap (λ (d : Content). at d.objects m) ended.is) ∙ is)

    pub cut_births : (end c).births ≡ c.births
    cut_births = ap (λ (x : Content). x.births) ended.is ∙ births-without_all kind ended.list c

    pub cut_clock : (end c).clock ≡ c.clock
    cut_clock = ap (λ (x : Content). x.clock) ended.is ∙ clock-without_all kind ended.list c

    same_content : without_all ended.list shorter ≡ cut b q end c
    same_content = sym (set_without_all ended.list c b q stays) ∙ ap (λ x. with_object b q x) (sym ended.is)

    -- what holds of fewer objects, too, holds then
    pub cut_by : (P : Content → Type 0) → ((gone : List ℕ) (d : Content) → P d → P (without_all gone d)) → P (with_object b q c) → P (cut b q end c)
    cut_by P less h = subst P same_content (less ended.list shorter h)

    pub cut_forest : IsForest kind new (cut b q end c)
    cut_forest = subst (IsForest kind new) same_content ended.forest

    -- what may be touched there, and what ended was beneath
    pub cut_touches : (t : Foot) → Beneath kind c t b ⊎ (spared kind (t.part b) q ≡ spared kind (t.part b) o) → ((n : ℕ) → 0 < times ns n → Beneath kind c t n)
        → ((g : ℕ → Bool) (k : ℕ) → k < c.births → 0 < owns kind g q k → Beneath kind c t k ⊎ (0 < owns kind g o k)) → Touches kind t c (cut b q end c)
    cut_touches t alike low back =
        touches_then kind hand c forest t (and_all t ns) t shorter (cut b q end c) first (subst (Touches kind (and_all t ns) shorter) same_content second) (within_self kind c t)
        (within_all kind c t ns (λ n h lt. low n h))
      where
        first : Touches kind t c shorter
        first = touches_with kind t c b o q there alike back

        second : Touches kind (and_all t ns) shorter (without_all ended.list shorter)
        second =
            touches_without_all kind (and_all t ns) shorter ended.list
            (λ k lt. below_beneath kind ns shorter (and_all t ns) k (λ n h. whole n (is_positive (times ns n) h)) (ended.low k lt))
