-- A value is written where another one ends.
use Rattle.std.proofs.Common.{◌≡◌, ℕ, ◌+◌, ◌≤◌, ◌<◌, Bool, true, List, length, Some, refl, sym, ap, subst, arith, inl, inr, ◌⊎◌}
use Rattle.std.specs.Prelude.{◌&&◌, ◌||◌}
use Rattle.life_store.specs.Cells.{at}
use Rattle.life_store.specs.Content.{Slot, Object, Content, with_object}
use Rattle.life_store.specs.Doing.{replaced}
use Rattle.life_store.specs.Owners.{ended}
use Rattle.life_store.specs.Parts.{Parts, width}
use Rattle.life_store.specs.Places.{Spot, spot_words, wrote_spot}
use Rattle.life_store.proofs.MapLemmas.{one_or_apart}
use Rattle.life_forest.specs.Kinds.{Kinds}
use Rattle.life_store.specs.Kinds.{is_owner, is_value}
use Rattle.life_forest.specs.Owned.{every, times, owns}
use Rattle.life_forest.specs.Forest.{IsForest, Foot, Beneath, Touches}
use Rattle.life_forest.specs.Typed.{AreFit}
use Rattle.life_forest.specs.Values.{owned_of, Known}
use Rattle.life_forest.proofs.ByParts.{parts_end}
use Rattle.life_forest.proofs.Cuts.{cut, cut_by, cut_forest, cut_touches, still_there}
use Rattle.life_forest.proofs.Fitting.{Flat, OwnsAlike, fit_puts, fit_with, fit_without_all}
use Rattle.life_forest.proofs.Knowing.{known_apart}
use Rattle.life_forest.proofs.Lying.{LiesAt, counted_among, counted_at, counted_old}
use Rattle.life_forest.proofs.Puts.{AreWords, counted, counted_le, words_of, puts_in, wrote_is, in_slots-puts, blanked-puts, since-puts}
use Rattle.life_forest.proofs.Sparing.{and_true}
use Rattle.life_forest.proofs.Single.{Fits, fits_there}

module _ (kind : Kinds) (c : Content) (spot : Spot) (p : Parts) (o : Object) (lies : LiesAt kind c spot p o) (vs : List ℕ) (wide : length vs ≡ width p) (hand new : ℕ → ℕ) (forest : IsForest kind hand c)
    (known : Known kind c p (spot_words c spot (width p))) (low : (m : ℕ) (q : Object) → 0 < times (owned_of p vs) m → at c.objects m ≡ Some q → kind.rank q.ty < kind.rank o.ty)
    (less : (k : ℕ) → new k + times (owned_of p vs) k ≤ hand k) where
  abbrev old : List ℕ
  old = spot_words c spot (width p)

  abbrev q : Object
  q = record o { slots = puts_in spot.index spot.word vs o.slots }

  are : AreWords spot.index spot.word (length vs) o.slots
  are = subst (λ n. AreWords spot.index spot.word n o.slots) (sym wide) lies.words

  -- the owners of the new value come, and those of the old one go
  exchanged : (k : ℕ) → owns kind every (record o { slots = puts_in spot.index spot.word vs o.slots }) k + times (owned_of p (spot_words c spot (width p))) k ≡ owns kind every o k + times (owned_of p vs) k
  exchanged k =
      let e = in_slots-puts (λ u. is_owner (kind.word o.ty u) && every u) vs o.slots spot.index spot.word k are in
      let a = counted_at kind c spot p o lies vs k wide in
      let b = counted_old kind c spot p o lies k in
      let n = ap (λ (j : ℕ). counted (λ u. is_owner (kind.word o.ty u) && every u) spot.word (words_of spot.index spot.word j o.slots) k) wide in
      omega arith

  old_owned : (k : ℕ) → times (owned_of p (spot_words c spot (width p))) k ≤ owns kind every o k
  old_owned k =
      let a = counted_among (λ u. is_owner (kind.word o.ty u) && every u) o.slots spot.index spot.word (width p) k lies.words in
      let b = counted_old kind c spot p o lies k in
      omega arith

  fits : Fits kind c (record o { slots = puts_in spot.index spot.word vs o.slots })
  fits =
      let was = fits_there kind hand c spot.object o forest lies.there in
      record {
        lower = λ m x own below. let e = exchanged m in
            one_or_apart (times (owned_of p vs) m) 0 (λ z. was.lower m x (omega arith) below) (λ nz. low m x (omega arith) below);
        slots = since-puts c.clock vs o.slots spot.index spot.word was.slots;
        end = was.end;
      }

  known_now : Known kind (with_object spot.object q c) p old
  known_now = known_apart kind hand c spot.object o q forest lies.there p old (λ m lt. let a = old_owned m in omega arith) known

  is_cut : wrote_spot spot vs (ended p old c) ≡ cut spot.object q (ended p old) c
  is_cut =
      wrote_is (ended p old c) spot.object spot.index spot.word vs o
      (still_there kind hand new c spot.object o q (owned_of p old) (λ x. Known kind x p old) (ended p old) (parts_end kind p old) forest lies.there refl fits
      (λ k lt. let a = old_owned k in omega arith) (λ k. let e = exchanged k in let l = less k in omega arith) known_now)

  pub replaced_forest : IsForest kind new (replaced p spot (vs, c))
  replaced_forest =
      subst (IsForest kind new) (sym is_cut)
      (cut_forest kind hand new c spot.object o q (owned_of p old) (λ x. Known kind x p old) (ended p old) (parts_end kind p old) forest lies.there refl fits
      (λ k lt. let a = old_owned k in omega arith) (λ k. let e = exchanged k in let l = less k in omega arith) known_now)

  pub replaced_fit : OwnsAlike kind o spot p → Flat c p vs → AreFit kind c → AreFit kind (replaced p spot (vs, c))
  replaced_fit alike flat fit =
      subst (AreFit kind) (sym is_cut)
      (cut_by kind hand new c spot.object o q (owned_of p old) (λ x. Known kind x p old) (ended p old) (parts_end kind p old) forest lies.there refl fits
      (λ k lt. let a = old_owned k in omega arith) (λ k. let e = exchanged k in let l = less k in omega arith) known_now (AreFit kind) (fit_without_all kind)
      (fit_with kind c spot.object o q lies.there refl fit (fit_puts kind c spot p o lies alike vs wide flat (fit spot.object o lies.there))))

  -- its words are in the foot, but for values
  pub replaced_touches : (t : Foot) → ((u : ℕ) → spot.word ≤ u → u < spot.word + width p → (is_value (kind.word o.ty u) || t.part spot.object u) ≡ true)
      → ((n : ℕ) → 0 < times (owned_of p (spot_words c spot (width p))) n → Beneath kind c t n) → ((k : ℕ) → k < c.births → 0 < times (owned_of p vs) k → Beneath kind c t k) → Touches kind t c (replaced p spot (vs, c))
  replaced_touches t foot ends comes =
      subst (Touches kind t c) (sym is_cut)
      (cut_touches kind hand new c spot.object o q (owned_of p old) (λ x. Known kind x p old) (ended p old) (parts_end kind p old) forest lies.there refl fits
      (λ k lt. let a = old_owned k in omega arith) (λ k. let e = exchanged k in let l = less k in omega arith) known_now t
      (inr (ap (λ (ss : List Slot). record o { slots = ss })
      (blanked-puts (λ u. is_value (kind.word o.ty u) || t.part spot.object u) vs o.slots spot.index spot.word (λ u le lt. foot u le (omega arith)))))
      ends back)
    where
      back : (g : ℕ → Bool) (k : ℕ) → k < c.births → 0 < owns kind g (record o { slots = puts_in spot.index spot.word vs o.slots }) k → Beneath kind c t k ⊎ (0 < owns kind g o k)
      back g k lt own =
          let e = in_slots-puts (λ u. is_owner (kind.word o.ty u) && g u) vs o.slots spot.index spot.word k are in
          let l = counted_le (λ u. is_owner (kind.word o.ty u) && g u) (λ u. is_owner (kind.word o.ty u) && every u) vs spot.word k (λ u. and_true (is_owner (kind.word o.ty u)) (g u) true (λ h. refl)) in
          let a = counted_at kind c spot p o lies vs k wide in
          one_or_apart (times (owned_of p vs) k) 0 (λ z. inr (omega arith)) (λ nz. inl (comes k lt (omega arith)))
