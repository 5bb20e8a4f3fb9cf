-- What stands at a place of a store: its words are as many as its type says, they are known and live, and the buffer of an owner is owned.
use Rattle.std.proofs.Common.{◌≡◌, ℕ, zero, suc, ◌<◌, List, length, Some, ap, subst, ◌∙◌, arith}
use Rattle.std.specs.Prelude.{◌&&◌, slice_index}
use Rattle.life_types.specs.Trees.{IsOrdered}
use Rattle.life_types.specs.Types.{Types}
use Rattle.life_types.specs.declared.ty.TyId.{TyId}
use Rattle.life_store.specs.Content.{Object, Content}
use Rattle.life_store.specs.Edits.{owned_at}
use Rattle.life_store.specs.Held.{owned_in}
use Rattle.life_store.specs.Parts.{Parts, parts_at, width, width_at}
use Rattle.life_store.specs.Places.{Spot, spot_words}
use Rattle.life_store.proofs.CellLemmas.{none_some, some_same}
use Rattle.life_forest.specs.Kinds.{kinds_of}
use Rattle.life_store.specs.Kinds.{Owner, is_owner, kind_in}
use Rattle.life_forest.specs.Owned.{alive, alive_if, every, times}
use Rattle.life_forest.specs.Typed.{IsStore}
use Rattle.life_forest.specs.Values.{Known, owned_of}
use Rattle.life_forest.proofs.Fitting.{owned_word}
use Rattle.life_forest.proofs.Following.{IsOwned}
use Rattle.life_forest.proofs.Lying.{counted_among, counted_old, length-words_of, spot_words_are}
use Rattle.life_forest.proofs.Operands.{IsPlace}
use Rattle.life_forest.proofs.Spots.{lies_at, spot_known, spot_lives}
use Rattle.life_forest.proofs.Steps.{owned_held}

-- the words of a value that may be copied
pub record AreCopied (types : Types) (c : Content) (p : Parts) (ws : List ℕ) : Type 0 where
  pub wide : length ws ≡ width p
  pub known : Known (kinds_of types) c p ws
  pub living : (k : ℕ) → 0 < times (owned_of p ws) k → 0 < alive c k

module _ (types : Types) (ordered : IsOrdered types) (hand : ℕ → ℕ) (c : Content) (store : IsStore types hand c) (part : TyId) (n i w : ℕ) (o : Object) (place : IsPlace types c part n i w o) where
  abbrev spot : Spot
  spot = record { object = n; index = i; word = w }

  pub place_copied : (p : Parts) → parts_at types part ≡ p → AreCopied types c p (spot_words c (record { object = n; index = i; word = w }) (width p))
  place_copied p is = subst (λ (q : Parts). AreCopied types c q (spot_words c (record { object = n; index = i; word = w }) (width q))) is (record {
    wide = ap length (spot_words_are (kinds_of types) c spot (parts_at types part) o (lies_at types ordered hand c store n i w part o place.there place.within place.slot)) ∙ length-words_of i w (width_at types part) o.slots;
    known = spot_known types ordered hand c store n i w part o place.there place.within place.slot;
    living = λ k lt. let x = spot_lives types ordered hand c store n i w part o place.there place.within place.slot k lt in let e = ap alive_if x.1 in omega arith;
  })

  -- what an owner has there
  pub place_owns : width_at types part ≡ 1 → kind_in (parts_at types part) 0 ≡ Owner → (b : ℕ) → owned_at c (record { object = n; index = i; word = w }) ≡ Some b → IsOwned types c b
  place_owns one owner b is =
      let lies = lies_at types ordered hand c store n i w part o place.there place.within place.slot in
      let word = ap (λ k. slice_index (spot_words c spot k) 0) one ∙ has (slice_index (spot_words c spot 1) 0) is in
      let own = owned_word (parts_at types part) (spot_words c spot (width_at types part)) 0 b owner word in
      let a = counted_old (kinds_of types) c spot (parts_at types part) o lies b in
      let l = counted_among (λ u. is_owner ((kinds_of types).word o.ty u) && every u) o.slots i w (width_at types part) b lies.words in
      let d = owned_held (kinds_of types) c n b o place.there in
      omega arith
    where
      has : (x : ℕ) → owned_in x ≡ Some b → x ≡ suc b
      has zero e = absurd (none_some e)
      has (suc x) e = ap suc (some_same e)
