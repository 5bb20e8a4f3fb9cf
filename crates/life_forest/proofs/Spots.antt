-- A place of a store has the words of its type, and what they own is known.
use Rattle.std.proofs.Common.{◌≡◌, ℕ, zero, suc, ◌+◌, ◌<◌, List, [], ◌∷◌, length, Option, Some, refl, sym, ap, ◌∙◌, arith}
use Rattle.std.specs.Prelude.{◌&&◌, drop, slice_get, slice_index, take}
use Rattle.life_types.specs.Trees.{IsOrdered}
use Rattle.life_types.specs.Types.{Types}
use Rattle.life_types.specs.declared.ty.TyId.{TyId}
use Rattle.life_store.specs.Cells.{at}
use Rattle.life_store.specs.Content.{Slot, Object, Content, word_in}
use Rattle.life_store.specs.Held.{slots_if, words_if}
use Rattle.life_store.specs.Parts.{parts_at, width_at}
use Rattle.life_store.specs.Places.{Spot, spot_words}
use Rattle.life_forest.specs.Kinds.{kinds_of, rank_of}
use Rattle.life_store.specs.Kinds.{is_owner}
use Rattle.life_forest.specs.Owned.{every, times}
use Rattle.life_forest.specs.Typed.{IsStore}
use Rattle.life_forest.specs.Values.{Known, owned_of}
use Rattle.life_forest.specs.Within.{LiesWithin}
use Rattle.life_forest.proofs.Below.{lives}
use Rattle.life_forest.proofs.Fitting.{Flat, OwnsAlike}
use Rattle.life_forest.proofs.FromTypes.{known_from}
use Rattle.life_forest.proofs.Laying.{made_at}
use Rattle.life_forest.proofs.Lying.{LiesAt, counted_among, counted_old}
use Rattle.life_forest.proofs.Steps.{owned_held}
use Rattle.life_forest.proofs.Widths.{words_from}

-- a word of so many from one on
index_part : (xs : List ℕ) (w n u m : ℕ) → slice_index (take n (drop w xs)) u ≡ suc m → slice_index xs (w + u) ≡ suc m
index_part xs w n u m e = in_drop xs w u (in_take (drop w xs) n u e)
  where
    in_take : (ys : List ℕ) (k v : ℕ) → slice_index (take k ys) v ≡ suc m → slice_index ys v ≡ suc m
    in_take ys zero v h = absurd (omega (arith, h))
    in_take [] (suc k) v h = absurd (omega (arith, h))
    in_take (y ∷ ys) (suc k) zero h = h
    in_take (y ∷ ys) (suc k) (suc v) h = in_take ys k v h

    in_drop : (ys : List ℕ) (k v : ℕ) → slice_index (drop k ys) v ≡ suc m → slice_index ys (k + v) ≡ suc m
    in_drop ys zero v h = let z : v ≡ 0 + v = omega arith in sym (ap (slice_index ys) z) ∙ h
    in_drop [] (suc k) v h = absurd (omega (arith, h))
    in_drop (y ∷ ys) (suc k) v h = let z : suc (k + v) ≡ suc k + v = omega arith in sym (ap (slice_index (y ∷ ys)) z) ∙ in_drop ys k v h

word_is : (ss : List Slot) (i u : ℕ) → word_in (slice_get ss i) u ≡ slice_index (words_if (slice_get ss i)) u
word_is [] i u = refl
word_is (s ∷ ss) zero u = refl
word_is (s ∷ ss) (suc i) u = word_is ss i u

module _ (types : Types) (ordered : IsOrdered types) (hand : ℕ → ℕ) (c : Content) (store : IsStore types hand c) (n i w : ℕ) (part : TyId) (o : Object) (there : at c.objects n ≡ Some o) (within : LiesWithin types o.ty w part) (lt : i < length o.slots) where
  abbrev spot : Spot
  spot = record { object = n; index = i; word = w }

  pub lies_at : LiesAt (kinds_of types) c (record { object = n; index = i; word = w }) (parts_at types part) o
  lies_at =
      let fit = store.fit n o there in
      record {
        there = there;
        words = words_from o.width i w (width_at types part) o.slots fit.slots lt (let f = within.fits in let e = fit.width in omega arith);
        kinds = within.words;
      }

  pub owns_alike : OwnsAlike (kinds_of types) o (record { object = n; index = i; word = w }) (parts_at types part)
  owns_alike u small = within.owners u small

  abbrev words : List ℕ
  words = spot_words c spot (width_at types part)

  pub spot_flat : Flat c (parts_at types part) words
  spot_flat u m q k e is =
      let small = in_front (width_at types part) (drop w (words_if (slice_get (slots_if (at c.objects n)) i))) u m e in
      sym (within.owners u small)
      ∙ (store.fit n o there).owned i (w + u) m q (within.words u small ∙ k)
      (word_is o.slots i (w + u) ∙ index_part (words_if (slice_get o.slots i)) w (width_at types part) u m (ap (λ (x : Option Object). slice_index (take (width_at types part) (drop w (words_if (slice_get (slots_if x) i)))) u) (sym there) ∙ e)) is
    where
      in_front : (k : ℕ) (ys : List ℕ) (v j : ℕ) → slice_index (take k ys) v ≡ suc j → v < k
      in_front zero ys v j h = absurd (omega (arith, h))
      in_front (suc k) [] v j h = absurd (omega (arith, h))
      in_front (suc k) (y ∷ ys) zero j h = omega arith
      in_front (suc k) (y ∷ ys) (suc v) j h = let r = in_front k ys v j h in omega arith

  -- what is owned there lives
  pub spot_lives : (k : ℕ) → 0 < times (owned_of (parts_at types part) words) k → (x : Object) × (at c.objects k ≡ Some x)
  spot_lives k more =
      let a = counted_old (kinds_of types) c spot (parts_at types part) o lies_at k in
      let l = counted_among (λ u. is_owner ((kinds_of types).word o.ty u) && every u) o.slots i w (width_at types part) k lies_at.words in
      let h = store.forest.held k in
      let d = owned_held (kinds_of types) c n k o there in
      lives (kinds_of types) c k (omega arith)

  pub spot_known : Known (kinds_of types) c (parts_at types part) words
  spot_known =
      known_from types ordered hand c store (rank_of types part) (parts_at types part) (made_at types ordered part) words spot_flat
      (λ k more. let x = spot_lives k more in store.forest.births k x.0 x.1)
