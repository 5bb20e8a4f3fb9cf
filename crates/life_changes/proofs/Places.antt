-- What stands at a place of a run's store may end there: it is known also where the place owns nothing any more.
use Rattle.std.proofs.Common.{◌≡◌, ℕ, ◌<◌, length, Some, refl, arith}
use Rattle.std.specs.Prelude.{◌&&◌}
use Rattle.life_types.specs.Trees.{IsOrdered}
use Rattle.life_types.specs.Types.{Types}
use Rattle.life_types.specs.declared.ty.TyId.{TyId}
use Rattle.life_store.specs.Cells.{at}
use Rattle.life_store.specs.Content.{Object, Content, with_object}
use Rattle.life_store.specs.Kinds.{is_owner, kind_in}
use Rattle.life_store.specs.Parts.{parts_at, width_at}
use Rattle.life_store.specs.Places.{Spot, spot_words}
use Rattle.life_forest.specs.Kinds.{kinds_of}
use Rattle.life_forest.specs.Owned.{every, times, owns}
use Rattle.life_forest.specs.Typed.{IsStore}
use Rattle.life_forest.specs.Values.{owned_of, AllKnown, Known}
use Rattle.life_forest.proofs.FromTypes.{object_is_known}
use Rattle.life_forest.proofs.Knowing.{known_apart, slots_known_apart}
use Rattle.life_forest.proofs.Lying.{counted_among, counted_old}
use Rattle.life_forest.proofs.Members.{within_self}
use Rattle.life_forest.proofs.Operands.{IsPlace}
use Rattle.life_forest.proofs.Shortening.{slots_owned}
use Rattle.life_forest.proofs.Spots.{lies_at, spot_known}
use Rattle.life_values.proofs.EmptiedMeant as ends

module _ (types : Types) (ordered : IsOrdered types) (hand : ℕ → ℕ) (m : Content) (store : IsStore types hand m) (part : TyId) (n i w : ℕ) (o : Object) (place : IsPlace types m part n i w o) where
  abbrev spot : Spot
  spot = record { object = n; index = i; word = w }

  -- what it owns is of the object
  owned_here : (k : ℕ) → 0 < times (owned_of (parts_at types part) (spot_words m (record { object = n; index = i; word = w }) (width_at types part))) k → 0 < owns (kinds_of types) every o k
  owned_here k lt =
      let lies = lies_at types ordered hand m store n i w part o place.there place.within place.slot in
      let a = counted_old (kinds_of types) m spot (parts_at types part) o lies k in
      let l = counted_among (λ u. is_owner ((kinds_of types).word o.ty u) && every u) o.slots i w (width_at types part) k lies.words in
      omega (arith, a, l, lt)

  pub known_there : (q : Object) → Known (kinds_of types) (with_object n q m) (parts_at types part) (spot_words m (record { object = n; index = i; word = w }) (width_at types part))
  known_there q =
      known_apart (kinds_of types) hand m n o q store.forest place.there (parts_at types part) (spot_words m spot (width_at types part)) owned_here
      (spot_known types ordered hand m store n i w part o place.there place.within place.slot)

  pub ends_there : (depth : ℕ) → ends.IsPlace (kinds_of types) depth n i w (parts_at types part) o
  ends_there depth =
      let fit = store.fit n o place.there in
      record {
        wide = fit.slots;
        slot = place.slot;
        kinds = place.within.words;
        fits = let f = place.within.fits in let e = fit.width in omega (arith, f, e);
      }

-- ---- a slot of an object

module _ (types : Types) (ordered : IsOrdered types) (hand : ℕ → ℕ) (m : Content) (store : IsStore types hand m) (n : ℕ) (o : Object) (there : at m.objects n ≡ Some o) where
  pub slot_place : (i : ℕ) → i < length o.slots → IsPlace types m o.ty n i 0 o
  slot_place i lt = record { there = there; slot = lt; within = within_self types o.ty }

  pub slots_known : (q : Object) → AllKnown (Known (kinds_of types) (with_object n q m) (parts_at types o.ty)) o.slots
  slots_known q =
      slots_known_apart (kinds_of types) hand m n o q store.forest there (parts_at types o.ty) o.slots
      (λ k lt. let s = slots_owned (kinds_of types) (parts_at types o.ty) o o.slots k (λ u. kinds_alike u) in omega (arith, s, lt))
      (object_is_known types ordered hand m store n o there).slots
    where
      kinds_alike : (u : ℕ) → kind_in (parts_at types o.ty) u ≡ kind_in (parts_at types o.ty) u
      kinds_alike u = refl
