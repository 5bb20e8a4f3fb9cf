-- A store goes the way of the meaning where a value is taken, one part after the other.
use Rattle.std.proofs.Common.{◌≡◌, ℕ, ◌+◌, ◌<◌, ◌≤◌, ◌^◌, List, drop, length, Some, refl, sym, ap, subst, ◌∙◌, arith}
use Rattle.std.proofs.lemmas.List.{drop_all}
use Rattle.std.specs.Prelude.{slice_get}
use Rattle.life_types.specs.declared.ty.TyId.{TyId}
use Rattle.life_store.specs.Cells.{at}
use Rattle.life_store.specs.Content.{Content, CanCount}
use Rattle.life_store.specs.Kinds.{is_owner}
use Rattle.life_store.specs.References.{Rows}
use Rattle.life_store.specs.declared.object.ObjRef.{ObjRef}
use Rattle.life_forest.specs.Forest.{IsForest}
use Rattle.life_forest.specs.Kinds.{Kinds}
use Rattle.life_seen.specs.Housed.{Shows, Later}
use Rattle.life_seen.specs.Kinds.{Kinds as Seen}
use Rattle.life_seen.specs.Seen.{seen}
use Rattle.life_seen.proofs.References.{later_same, later_then}
use Rattle.life_values.specs.Ended.{AreAlike}
use Rattle.life_values.specs.Taken.{leaf_taken, leaves_taken, renewed, CanRenew, CanRenewIf, CanTake}
use Rattle.life_values.specs.declared.layout.Holds.{Holds}
use Rattle.life_values.specs.declared.layout.Holds.TheVariants as holds
use Rattle.life_values.specs.declared.layout.Leaf.{Leaf}
use Rattle.life_values.specs.declared.spot.Spot.{Spot}
use Rattle.life_values.proofs.Filling.{still_placed}
use Rattle.life_values.proofs.Flat.{drop_here}
use Rattle.life_values.proofs.Renewed.{renewed_then, IsStill}

-- ---- one part

pub as_characters : (kinds : Seen) (kind : Kinds) (r : ObjRef) (i u : ℕ) (h : Holds) (c : Content) (rows : Rows) → CanRenewIf kinds kind r i u h c rows → {ty : TyId} → h ≡ holds.Characters ty → CanRenew kinds kind r i u c rows
as_characters kinds kind r i u h c rows can e = subst (λ k. CanRenewIf kinds kind r i u k c rows) e can

pub characters_shown : (kinds : Seen) (n i u : ℕ) (h : Holds) (m c : Content) (rows : Rows) → {ty : TyId} → h ≡ holds.Characters ty → Shows kinds c rows (renewed n i u m) → Shows kinds c rows (leaf_taken n i u h m)
characters_shown kinds n i u h m c rows e shows = subst (λ k. Shows kinds c rows (leaf_taken n i u k m)) (sym e) shows

module _ (kinds : Seen) (kind : Kinds) (alike : AreAlike kinds kind) (spot : Spot) (leaves : List Leaf) where
  -- how far the store has come
  pub record Progress (c : Content) (rows : Rows) (d : Content) (new : Rows) (j : ℕ) : Type 0 where
    pub can : CanTake kinds kind spot leaves d new
    pub is : leaves_taken spot.object.birth spot.slot spot.word (drop j leaves) (seen kinds d new) ≡ leaves_taken spot.object.birth spot.slot spot.word leaves (seen kinds c rows)
    pub later : Later c d rows new
    pub births : d.births ≤ c.births + j
    pub clock : d.clock ≡ c.clock

  pub progress_begin : (c : Content) (rows : Rows) → CanTake kinds kind spot leaves c rows → Progress c rows c rows 0
  progress_begin c rows can = record { can = can; is = refl; later = later_same c c rows (omega arith); births = omega arith; clock = refl }

  pub progress_end : (c : Content) (rows : Rows) (d : Content) (new : Rows) (j : ℕ) → Progress c rows d new j → length leaves ≤ j
      → Shows kinds d new (leaves_taken spot.object.birth spot.slot spot.word leaves (seen kinds c rows))
  progress_end c rows d new j p all = record {
    housed = p.can.housed;
    is = ap (λ ls. leaves_taken spot.object.birth spot.slot spot.word ls (seen kinds d new)) (sym (drop_all j leaves all)) ∙ p.is;
  }

  module _ (c : Content) (rows : Rows) (d : Content) (new : Rows) (j : ℕ) (p : Progress c rows d new j) (l : Leaf) (here : slice_get leaves j ≡ Some l) where
    renew_can : (ty : TyId) → l.holds ≡ holds.Characters ty → CanRenew kinds kind spot.object spot.slot (spot.word + l.word) d new
    renew_can ty e = record {
      housed = p.can.housed;
      placed = p.can.placed;
      hand = p.can.hand;
      forest = p.can.forest;
      object = p.can.object;
      there = p.can.there;
      wide = p.can.wide;
      slot = p.can.slot;
      own = (p.can.own j l ty here e).0;
      within = (p.can.own j l ty here e).1;
    }

    pub leaf_can : CanRenewIf kinds kind spot.object spot.slot (spot.word + l.word) l.holds d new
    leaf_can = go l.holds refl
      where
        go : (h : Holds) → l.holds ≡ h → CanRenewIf kinds kind spot.object spot.slot (spot.word + l.word) h d new
        go holds.Raw e = tt
        go holds.View e = tt
        go (holds.Characters ty) e = renew_can ty e
        go (holds.Elements ty) e = tt
        go (holds.Target ty) e = tt

    pub leaf_count : c.births + length leaves < 2 ^ 63 → c.clock < 2 ^ 63 → j < length leaves → CanCount d
    leaf_count births clock lt = record {
      births = let b = p.births in omega (arith, b, births, lt);
      clock = let b = p.clock in omega (arith, b, clock);
    }

    as_it_was : IsStill kind spot.object.birth p.can.hand p.can.object (seen kinds d new) (seen kinds d new)
    as_it_was = record {
      object = p.can.object;
      found = p.can.there;
      like = record { ty = refl; width = refl; capacity = refl; count = refl };
      long = p.can.wide;
      still = p.can.forest;
      births = omega arith;
      clock = refl;
    }

    leaf_then : IsStill kind spot.object.birth p.can.hand p.can.object (seen kinds d new) (leaf_taken spot.object.birth spot.slot (spot.word + l.word) l.holds (seen kinds d new))
    leaf_then = go l.holds refl
      where
        go : (h : Holds) → l.holds ≡ h → IsStill kind spot.object.birth p.can.hand p.can.object (seen kinds d new) (leaf_taken spot.object.birth spot.slot (spot.word + l.word) h (seen kinds d new))
        go holds.Raw e = as_it_was
        go holds.View e = as_it_was
        go (holds.Characters ty) e =
            let own = p.can.own j l ty here e in
            renewed_then kind spot.object.birth spot.slot (spot.word + l.word) p.can.hand (seen kinds d new) p.can.object p.can.there p.can.forest p.can.wide p.can.slot own.1
            (sym (alike p.can.object.ty (spot.word + l.word)) ∙ ap is_owner own.0)
        go (holds.Elements ty) e = as_it_was
        go (holds.Target ty) e = as_it_was

    module _ (e : Content) (after : Rows) (shows : Shows kinds e after (leaf_taken spot.object.birth spot.slot (spot.word + l.word) l.holds (seen kinds d new))) (later : Later d e new after) where
      there_e : at (seen kinds e after).objects spot.object.birth ≡ Some leaf_then.object
      there_e = ap (λ (x : Content). at x.objects spot.object.birth) shows.is ∙ leaf_then.found

      pub progress_next : Progress c rows e after (j + 1)
      progress_next = record {
        can = record {
          housed = shows.housed;
          placed = still_placed kinds d e new after shows.housed later spot.object.birth spot.object.row leaf_then.object (p.can.housed.below spot.object.birth spot.object.row p.can.placed) p.can.placed there_e;
          hand = p.can.hand;
          forest = subst (IsForest kind p.can.hand) (sym shows.is) leaf_then.still;
          object = leaf_then.object;
          there = there_e;
          wide = leaf_then.long;
          slot = let k = leaf_then.like.count in let s = p.can.slot in omega (arith, k, s);
          own = λ k q ty at_k is.
              let own = p.can.own k q ty at_k is in
              let w = leaf_then.like.width in
              let o = own.1 in
              (ap (λ t. kinds t (spot.word + q.word)) leaf_then.like.ty ∙ own.0, omega (arith, w, o));
          small = p.can.small;
        };
        is =
            ap (leaves_taken spot.object.birth spot.slot spot.word (drop (j + 1) leaves)) shows.is
            ∙ ap (λ ls. leaves_taken spot.object.birth spot.slot spot.word ls (seen kinds d new)) (sym (drop_here leaves j l here))
            ∙ p.is;
        later = later_then c d e rows new after p.later later;
        births = let b = ap (λ (x : Content). x.births) shows.is in let a = leaf_then.births in let q = p.births in omega (arith, b, a, q);
        clock = ap (λ (x : Content). x.clock) shows.is ∙ leaf_then.clock ∙ p.clock;
      }
