-- A value that is copied to a place: what is owned there is touched, and nothing else, and the facts that the rules leave cover all other pointers.
use Rattle.std.proofs.Common.{◌≡◌, ℕ, ◌+◌, ◌<◌, Bool, true, false, List, [], length, Some, None, refl, ap, ◌∙◌, arith}
use Rattle.std.specs.Prelude.{if◌then◌else◌}
use Rattle.std.proofs.lemmas.Bool.{or_right}
use Rattle.life_types.specs.Trees.{IsOrdered, holds_owner}
use Rattle.life_types.specs.Types.{Types}
use Rattle.life_types.specs.declared.place.Place.{Place}
use Rattle.life_types.specs.declared.ty.TyId.{TyId}
use Rattle.life_core.specs.Function.{Function}
use Rattle.life_core.specs.Operands.{Location, Operand}
use Rattle.life_core.specs.Operands as named
use Rattle.life_core.specs.Step.{Copy}
use Rattle.life_pset.specs.Elements.{changed, owner_changed}
use Rattle.life_pset.specs.Places.{members_place}
use Rattle.life_pset.specs.Shapes.{operand_type, tree_if}
use Rattle.life_pset.specs.declared.element.AbsPlace.{AbsPlace}
use Rattle.life_pset.specs.declared.element.Element.TheVariants as element
use Rattle.life_pset.specs.declared.element.Fact.{Fact}
use Rattle.life_pset.specs.declared.element.Root.{Root}
use Rattle.life_contract.specs.Located.{located}
use Rattle.life_contract.specs.Signatures.{Signature}
use Rattle.life_rules.specs.Carrying.{is_killed, killed_through, named_kill, one_kill, writes}
use Rattle.life_rules.specs.Matching.{fact_at}
use Rattle.life_rules.proofs.Giving.{at_head}
use Rattle.life_store.specs.Cells.{at}
use Rattle.life_store.specs.Content.{Object, Content}
use Rattle.life_store.specs.Doing.{replaced}
use Rattle.life_store.specs.Effects.{Setting}
use Rattle.life_store.specs.Kinds.{is_value}
use Rattle.life_store.specs.Owners.{copied}
use Rattle.life_store.specs.Parts.{parts_at, width_at}
use Rattle.life_store.specs.Places.{Spot}
use Rattle.life_store.specs.State.{Pointer}
use Rattle.life_forest.specs.Forest.{Touches, whole}
use Rattle.life_forest.specs.Kinds.{kinds_of, rank_of}
use Rattle.life_forest.specs.Owned.{alive, times}
use Rattle.life_forest.specs.Typed.{IsStore}
use Rattle.life_forest.specs.Values.{Known, owned_of}
use Rattle.life_forest.specs.Within.{LiesWithin}
use Rattle.life_forest.proofs.Below.{is_positive}
use Rattle.life_forest.proofs.Coming.{CameWords, IfGot, came_touches}
use Rattle.life_forest.proofs.Copying.{copied_came}
use Rattle.life_forest.proofs.Feet.{and_all, within_all, within_self}
use Rattle.life_forest.proofs.FittingBirths.{FitWords, got_both}
use Rattle.life_forest.proofs.FittingCopies.{copied_fit}
use Rattle.life_forest.proofs.Laying.{laid_at, named_at}
use Rattle.life_forest.proofs.Lying.{value_beneath}
use Rattle.life_forest.proofs.Replacing.{replaced_touches}
use Rattle.life_forest.proofs.Spots.{lies_at, spot_known}
use Rattle.life_forest.proofs.Steps.{touches_then}
use Rattle.life_forest.proofs.Stores.{flat_lower, if_such}
use Rattle.life_cover.specs.Covers.{IsCovered, Look}
use Rattle.life_cover.specs.Kills.{Closed}
use Rattle.life_cover.specs.Regions.{IsAt, Region, foot_of}
use Rattle.life_cover.specs.Roots.{AreRooted}
use Rattle.life_cover.proofs.Buffers.{foot_covers}
use Rattle.life_cover.proofs.Changes.{place_cover}
use Rattle.life_cover.proofs.Inside.{in_region}
use Rattle.life_cover.proofs.Left.{left_by_name, left_through}

module _ (types : Types) (ordered : IsOrdered types) (hand : ℕ → ℕ) (c : Content) (store : IsStore types hand c) (n i w : ℕ) (item : TyId) (o : Object) (there : at c.objects n ≡ Some o) (within : LiesWithin types o.ty w item) (lt : i < length o.slots) where
  pub copy_touches : (s : Setting) (ws : List ℕ) → length ws ≡ width_at types item → Known (kinds_of types) c (parts_at types item) ws → ((k : ℕ) → 0 < times (owned_of (parts_at types item) ws) k → 0 < alive c k)
      → IfGot (copied s (parts_at types item) ws c) (λ v. Touches (kinds_of types) (foot_of types (record { object = n; word = w; ty = item })) c (replaced (parts_at types item) (record { object = n; index = i; word = w }) v))
  copy_touches s ws wide known living =
      if_such (copied s (parts_at types item) ws c) (λ v. CameWords (kinds_of types) (rank_of types item) hand (parts_at types item) c v × FitWords (kinds_of types) (parts_at types item) v)
      (λ v. Touches (kinds_of types) (foot_of types region) c (replaced (parts_at types item) spot v))
      (got_both (copied s (parts_at types item) ws c) (CameWords (kinds_of types) (rank_of types item) hand (parts_at types item) c) (FitWords (kinds_of types) (parts_at types item))
      (copied_came (kinds_of types) s (parts_at types item) (rank_of types item) (laid_at types ordered item) ws wide hand c store.forest known living)
      (copied_fit (kinds_of types) s (parts_at types item) (rank_of types item) (laid_at types ordered item) (named_at types ordered item) ws wide hand c store.forest known living store.fit))
      (λ v h.
      let before : (ℕ → ℕ) = λ k. times (owned_of (parts_at types item) v.0) k + hand k in
      let after : IsStore types before v.1 = record { forest = h.0.0.forest; fit = h.1.0 } in
      let stays = h.0.0.same n (store.forest.births n o there) ∙ there in
      let lies = lies_at types ordered before v.1 after n i w item o stays within lt in
      touches_then (kinds_of types) hand c store.forest (foot_of types region) (and_all (foot_of types region) (owned_of (parts_at types item) v.0)) (foot_of types region) v.1 (replaced (parts_at types item) spot v)
      (came_touches (kinds_of types) (foot_of types region) (rank_of types item) hand (owned_of (parts_at types item) v.0) c v.1 h.0.0)
      (replaced_touches (kinds_of types) v.1 spot (parts_at types item) o lies v.0 h.0.1 before hand after.forest (spot_known types ordered before v.1 after n i w item o stays within lt)
      (flat_lower types ordered v.1 o.ty item w v.0 within h.0.1 h.1.1) (λ k. omega arith)
      (and_all (foot_of types region) (owned_of (parts_at types item) v.0))
      (λ u le less. or_right (is_value ((kinds_of types).word o.ty u)) ((foot_of types region).part n u) (in_region types region n u (record { object = refl; first = le; last = less })))
      (λ k own. value_beneath (kinds_of types) v.1 spot (parts_at types item) o lies (and_all (foot_of types region) (owned_of (parts_at types item) v.0)) (foot_covers types n i w item (parts_at types item) refl) k own)
      (λ k born own. whole k (is_positive (times (owned_of (parts_at types item) v.0) k) own)))
      (within_self (kinds_of types) c (foot_of types region))
      (within_all (kinds_of types) c (foot_of types region) (owned_of (parts_at types item) v.0) (λ k own born. let fresh = h.0.0.fresh k own in absurd (omega (arith, fresh, born)))))
    where
      spot : Spot
      spot = record { object = n; index = i; word = w }

      region : Region
      region = record { object = n; word = w; ty = item }

-- ---- what is left

module _ (types : Types) (ordered : IsOrdered types) (hand : ℕ → ℕ) (c d : Content) (store : IsStore types hand c) (Stands : Root → Region → Type 0) (may_change owning : Root → Bool) (rooted : AreRooted types c Stands owning)
    (sigs : List Signature) (f : Function) (place : Place) (from : Operand) (S S' : Fact → Type 0) where
  pub copy_named : (l : Location) (k : Region) → Closed sigs types f place (Copy (named.Name l) from) S S' → holds_owner (tree_if types (operand_type types f (named.Name l))) ≡ true → owning (located l).root ≡ true → IsAt types c Stands (located l) k
      → Touches (kinds_of types) (foot_of types k) c d
      → (q : AbsPlace) (look : Look) (v : Pointer) → writes (Copy (named.Name l) from) q ≡ false → IsCovered types c Stands may_change S q look v → IsCovered types d Stands may_change S' q look v
  copy_named l k closed holds may at_k touch =
      place_cover types ordered hand c d store Stands may_change owning rooted (located l) k may at_k touch (writes (Copy (named.Name l) from)) S S'
      (left_by_name sigs types f place (Copy (named.Name l) from) S S' closed Stands (record { owner = located l; cause = changed place l.local })
      (ap (λ b. if b then one_kill (named_kill place (named.Name l)) else one_kill None) holds) (λ e. refl) (at_head (element.Invalid (changed place l.local)) []))

  pub copy_through : (p : Location) (members : List ℕ) (a : AbsPlace) (k : Region) → Closed sigs types f place (Copy (named.Through p members) from) S S' → holds_owner (tree_if types (operand_type types f (named.Through p members))) ≡ true
      → S (fact_at (located p) (element.At a)) → owning (members_place a members).root ≡ true → IsAt types c Stands (members_place a members) k → Touches (kinds_of types) (foot_of types k) c d
      → (q : AbsPlace) (look : Look) (v : Pointer) → writes (Copy (named.Through p members) from) q ≡ false → IsCovered types c Stands may_change S q look v → IsCovered types d Stands may_change S' q look v
  copy_through p members a k closed holds target may at_k touch =
      place_cover types ordered hand c d store Stands may_change owning rooted (members_place a members) k may at_k touch (writes (Copy (named.Through p members) from)) S S'
      (left_through sigs types f place (Copy (named.Through p members) from) S S' closed Stands p members a target
      (λ x y. ap (λ b. if b then killed_through place (Copy (named.Through p members) from) (named.Through p members) x y else []) holds)
      (λ e. ap (λ b. is_killed (if b then one_kill None else one_kill None) e) holds) (at_head (element.Invalid (owner_changed place)) []))
