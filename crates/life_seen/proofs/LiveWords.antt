-- As many words live in what is seen as in the store.
use Rattle.std.proofs.Common.{◌≡◌, ℕ, ◌+◌, Bool, true, false, cond, List, [], ◌∷◌, Option, Some, None, refl, sym, ap, ◌∙◌}
use Rattle.std.proofs.lemmas.List.Sums.{sum_by-cons}
use Rattle.std.specs.FinMap as map
use Rattle.std.specs.FinMap.{find}
use Rattle.std.specs.FinMap.Entries.{below_all, is_sorted}
use Rattle.std.specs.Ordering.{nat_cmp, is_eq, is_lt}
use Rattle.std.specs.Prelude.{T, ◌&&◌, sum_by, option_map}
use Rattle.std.specs.declared.cmp.Ordering.{Ordering}
use Rattle.std.specs.declared.cmp.Ordering.TheVariants.{Less, Equal, Greater}
use Rattle.life_store.specs.Cells.{Cells, sum_over}
use Rattle.life_store.specs.Content.{Content, cost, live_words_of}
use Rattle.life_store.proofs.MapLemmas.{sum-none, sum-set_fresh}
use Rattle.life_seen.specs.Kinds.{Kinds}
use Rattle.life_seen.specs.Mapped.{over, mapped}
use Rattle.life_seen.specs.Named.{Names}
use Rattle.life_seen.specs.Seen.{object_seen, content_seen}
use Rattle.life_seen.proofs.MapViews.{at-over}

front : (a b : Bool) → T (a && b) → T a
front true b h = tt
front false b h = h

back : (a b : Bool) → T (a && b) → T b
back true b h = h
back false b h = absurd h

module _ {A : Type 0} where
  lesser : (o : Ordering) (x : A) (rest : Option A) → T (is_lt o) → cond (is_eq o) (Some x) rest ≡ rest
  lesser Less x rest h = refl
  lesser Equal x rest h = absurd h
  lesser Greater x rest h = refl

  -- a number below all isn't among them
  below_none : (k : ℕ) (es : List (ℕ × A)) → T (below_all nat_cmp k es) → find nat_cmp k es ≡ None
  below_none k [] h = refl
  below_none k (e ∷ es) h = lesser (nat_cmp k e.0) e.1 (find nat_cmp k es) (front (is_lt (nat_cmp k e.0)) (below_all nat_cmp k es) h) ∙ below_none k es (back (is_lt (nat_cmp k e.0)) (below_all nat_cmp k es) h)

module _ {A B : Type 0} where
  sum-over : (g : B → ℕ) (f : A → B) (es : List (ℕ × A)) → T (is_sorted nat_cmp es) → sum_over g (over f es) ≡ sum_by (λ e. g (f e.1)) es
  sum-over g f [] h = sum-none g
  sum-over g f (e ∷ es) h =
      sum-set_fresh g (over f es) e.0 (f e.1) (at-over f es e.0 ∙ ap (option_map f) (below_none e.0 es (front (below_all nat_cmp e.0 es) (is_sorted nat_cmp es) h)))
      ∙ ap (λ (n : ℕ). g (f e.1) + n) (sum-over g f es (back (below_all nat_cmp e.0 es) (is_sorted nat_cmp es) h))
      ∙ sym (sum_by-cons (λ (x : ℕ × A). g (f x.1)) e es)

  pub sum-mapped : (g : B → ℕ) (f : A → B) (m : Cells A) → sum_over g (mapped f m) ≡ sum_over (λ v. g (f v)) m
  unfolding mapped sum_over
  sum-mapped g f m = sum-over g f (map.entries m) (map.entries_sorted m)

pub live_words_seen : (kinds : Kinds) (names : Names) (c : Content) → live_words_of (content_seen kinds names c) ≡ live_words_of c
live_words_seen kinds names c = sum-mapped cost (object_seen kinds names) c.objects
