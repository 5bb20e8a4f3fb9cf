-- The one lemma on kills: what a step touches lies at places that are killed, so the facts that it leaves cover what stands behind it.
use Rattle.std.proofs.Common.{◌≡◌, ℕ, Bool, true, false, Option, Some, None, refl, sym, subst, ◌∙◌}
use Rattle.std.proofs.lemmas.Bool.{false≢true}
use Rattle.life_types.specs.Trees.{IsOrdered}
use Rattle.life_types.specs.Types.{Types}
use Rattle.life_pset.specs.declared.element.AbsPlace.{AbsPlace}
use Rattle.life_pset.specs.declared.element.Element.{Element}
use Rattle.life_pset.specs.declared.element.Element.TheVariants as element
use Rattle.life_pset.specs.declared.element.Fact.{Fact}
use Rattle.life_pset.specs.declared.element.Root.{Root}
use Rattle.life_rules.specs.Matching.{fact_at}
use Rattle.life_store.specs.Content.{Content}
use Rattle.life_store.specs.State.{Target, Pointer, Null, Wild, To, Static}
use Rattle.life_forest.specs.Forest.{Beneath, Foot, Touches}
use Rattle.life_forest.specs.Kinds.{kinds_of}
use Rattle.life_forest.specs.Typed.{IsStore}
use Rattle.life_cover.specs.Covers.{Covers, CoversOwner, IsCovered, IsOwnerTold, IsTold, Look, PointsTo}
use Rattle.life_cover.specs.Kills.{Guards, KeepsRoots, LeftBy, Names}
use Rattle.life_cover.specs.Regions.{IsTrue, Region}
use Rattle.life_cover.proofs.Beside.{at_on, holds_on}

module _ (types : Types) (ordered : IsOrdered types) (hand : ℕ → ℕ) (c d : Content) (store : IsStore types hand c) (t : Foot) (touch : Touches (kinds_of types) t c d) (Stands Stands' : Root → Region → Type 0)
    (may_change : Root → Bool) (fits : (r : Root) (a : Region) → Stands r a → IsTrue types c a) (killed written : AbsPlace → Bool) (S S' : Fact → Type 0) (left : LeftBy Stands killed written S S') (guards : Guards types c Stands S killed t)
    (roots : KeepsRoots Stands Stands' S killed) where
  -- a place that isn't killed is pointed to as before
  pub points_on : (look : Look) (place : AbsPlace) (p : Target) → Names S place → killed place ≡ false → PointsTo types c Stands may_change look place p → PointsTo types d Stands' may_change look place p
  points_on look place p names free h = record {
    region = h.region;
    lies = at_on types ordered hand c d store t touch Stands Stands' place h.region (fits place.root) (λ a. roots place a names free) h.lies apart;
    object = h.object;
    word = h.word;
    type = h.type;
    change = h.change;
    holds = holds_on types ordered hand c d store t touch look.ranged p (λ low. apart (subst (Beneath (kinds_of types) c t) h.object low)) h.holds;
  }
    where
      apart : Beneath (kinds_of types) c t h.region.object → ⊥
      apart low = false≢true (sym free ∙ guards place h.region names h.lies low)

  told_on : (l : AbsPlace) (look : Look) (e : Element) (v : Pointer) → written l ≡ false → S (fact_at l e) → Covers types c Stands may_change look e v → IsTold types d Stands' may_change S' l look v
  told_on l look (element.Invalid cause) v free s h = record { known = element.Invalid cause; holds = left.kept l (element.Invalid cause) s free refl; covers = tt }
  told_on l look element.Null Null free s h = record { known = element.Null; holds = left.kept l element.Null s free refl; covers = tt }
  told_on l look element.Null Wild free s h = absurd h
  told_on l look element.Null (To p) free s h = absurd h
  told_on l look element.Null (Static k) free s h = absurd h
  told_on l look (element.Moved cause) v free s h = absurd h
  told_on l look element.Own v free s h = absurd h
  told_on l look element.Static v free s h = absurd h
  told_on l look (element.At place) Null free s h = absurd h
  told_on l look (element.At place) Wild free s h = absurd h
  told_on l look (element.At place) (Static k) free s h = absurd h
  told_on l look (element.At place) (To p) free s h = go (killed place) refl
    where
      go : (b : Bool) → killed place ≡ b → IsTold types d Stands' may_change S' l look (To p)
      go true e = let x = left.hit l place h.lies.start s h.lies.stands free e in record { known = element.Invalid x.0; holds = x.1; covers = tt }
      go false e = record { known = element.At place; holds = left.kept l (element.At place) s free e; covers = points_on look place p (l, s) e h }

  -- a pointer that isn't written stays covered
  pub cover_on : (l : AbsPlace) (look : Look) (v : Pointer) → written l ≡ false → IsCovered types c Stands may_change S l look v → IsCovered types d Stands' may_change S' l look v
  cover_on l look Null free h = told_on l look h.known Null free h.holds h.covers
  cover_on l look Wild free h = told_on l look h.known Wild free h.holds h.covers
  cover_on l look (To p) free h = told_on l look h.known (To p) free h.holds h.covers
  cover_on l look (Static k) free h = tt

  -- .. and so does an owner that has what it had
  pub owner_cover_on : (l : AbsPlace) (unique : Bool) (owned : Option ℕ) → written l ≡ false → IsOwnerTold S l unique owned → IsOwnerTold S' l unique owned
  owner_cover_on l unique owned free h = go h.known h.holds h.covers
    where
      with_known : (e : Element) → S' (fact_at l e) → CoversOwner unique e owned → IsOwnerTold S' l unique owned
      with_known e s k = record { known = e; holds = s; covers = k }

      go : (e : Element) → S (fact_at l e) → CoversOwner unique e owned → IsOwnerTold S' l unique owned
      go (element.Invalid cause) s k = with_known (element.Invalid cause) (left.kept l (element.Invalid cause) s free refl) k
      go element.Null s k = with_known element.Null (left.kept l element.Null s free refl) k
      go (element.Moved cause) s k = with_known (element.Moved cause) (left.kept l (element.Moved cause) s free refl) k
      go element.Own s k = with_known element.Own (left.kept l element.Own s free refl) k
      go element.Static s k = with_known element.Static (left.kept l element.Static s free refl) k
      go (element.At place) s k = absurd (none unique owned k)
        where
          none : (u : Bool) (o : Option ℕ) → CoversOwner u (element.At place) o → ⊥
          none true None h = h
          none true (Some n) h = h
          none false None h = h
          none false (Some n) h = h
