-- Words of an object are written: a forest, where the owners among them come from the hand and those that stood there go to it.
use Rattle.std.proofs.Common.{◌≡◌, ℕ, ◌+◌, ◌≤◌, ◌<◌, Bool, true, List, length, Some, refl, sym, ap, subst, arith, inl, inr, ◌⊎◌}
use Rattle.std.specs.Prelude.{◌&&◌, ◌||◌}
use Rattle.life_store.specs.Cells.{at}
use Rattle.life_store.specs.Content.{Slot, Object, Content}
use Rattle.life_store.specs.Held.{wrote}
use Rattle.life_store.proofs.MapLemmas.{one_or_apart}
use Rattle.life_forest.specs.Kinds.{Kinds}
use Rattle.life_store.specs.Kinds.{is_owner, is_value}
use Rattle.life_forest.specs.Owned.{every, owns}
use Rattle.life_forest.specs.Forest.{IsForest, Foot, Beneath, Touches}
use Rattle.life_forest.proofs.Sparing.{and_true}
use Rattle.life_forest.proofs.Single.{fits_there, forest_with, touches_with}
use Rattle.life_forest.proofs.Puts.{AreWords, counted, counted_le, words_of, puts_in, wrote_is, in_slots-puts, blanked-puts, since-puts}

module _ (kind : Kinds) (c : Content) (n i w : ℕ) (vs : List ℕ) (o : Object) (there : at c.objects n ≡ Some o) (are : AreWords i w (length vs) o.slots) where
  -- how often words own, from that word on
  abbrev pub owning : List ℕ → ℕ → ℕ
  owning ws k = counted (λ u. is_owner (kind.word o.ty u) && every u) w ws k

  abbrev new_object : Object
  new_object = record o { slots = puts_in i w vs o.slots }

  pub forest_wrote : (hand new : ℕ → ℕ) → IsForest kind hand c → ((m : ℕ) (q : Object) → 0 < owning vs m → at c.objects m ≡ Some q → kind.rank q.ty < kind.rank o.ty)
      → ((k : ℕ) → new k + owning vs k ≤ hand k + owning (words_of i w (length vs) o.slots) k) → IsForest kind new (wrote n i w vs c)
  forest_wrote hand new forest low less =
      let was = fits_there kind hand c n o forest there in
      subst (IsForest kind new) (sym (wrote_is c n i w vs o there))
      (forest_with kind hand new c n o new_object forest there refl
      (record {
        lower = λ m q own below. let e = in_slots-puts (λ u. is_owner (kind.word o.ty u) && every u) vs o.slots i w m are in
            one_or_apart (owning vs m) 0 (λ z. was.lower m q (omega arith) below) (λ nz. low m q (omega arith) below);
        slots = since-puts c.clock vs o.slots i w was.slots;
        end = was.end;
      })
      (λ k. let e = in_slots-puts (λ u. is_owner (kind.word o.ty u) && every u) vs o.slots i w k are in let l = less k in omega arith))

  -- what is owned then was owned, or comes with the words
  wrote_back : (t : Foot) → ((k : ℕ) → k < c.births → 0 < owning vs k → Beneath kind c t k) → (g : ℕ → Bool) (k : ℕ) → k < c.births → 0 < owns kind g (record o { slots = puts_in i w vs o.slots }) k → Beneath kind c t k ⊎ (0 < owns kind g o k)
  wrote_back t low g k lt own =
      let e = in_slots-puts (λ u. is_owner (kind.word o.ty u) && g u) vs o.slots i w k are in
      let l = counted_le (λ u. is_owner (kind.word o.ty u) && g u) (λ u. is_owner (kind.word o.ty u) && every u) vs w k (λ u. and_true (is_owner (kind.word o.ty u)) (g u) true (λ h. refl)) in
      one_or_apart (owning vs k) 0 (λ z. inr (omega arith)) (λ nz. inl (low k lt (omega arith)))

  -- what may be touched are values, and the words of the foot; what is owned there then was beneath it
  pub touches_wrote : (t : Foot) → ((u : ℕ) → w ≤ u → u < w + length vs → (is_value (kind.word o.ty u) || t.part n u) ≡ true) → ((k : ℕ) → k < c.births → 0 < owning vs k → Beneath kind c t k)
      → Touches kind t c (wrote n i w vs c)
  touches_wrote t foot low =
      subst (Touches kind t c) (sym (wrote_is c n i w vs o there))
      (touches_with kind t c n o new_object there
      (inr (ap (λ (ss : List Slot). record o { slots = ss }) (blanked-puts (λ u. is_value (kind.word o.ty u) || t.part n u) vs o.slots i w foot)))
      (wrote_back t low))

  -- .. or all of an object that is beneath
  pub touches_wrote_beneath : (t : Foot) → Beneath kind c t n → ((k : ℕ) → k < c.births → 0 < owning vs k → Beneath kind c t k) → Touches kind t c (wrote n i w vs c)
  touches_wrote_beneath t beneath low =
      subst (Touches kind t c) (sym (wrote_is c n i w vs o there))
      (touches_with kind t c n o new_object there (inl beneath) (wrote_back t low))
