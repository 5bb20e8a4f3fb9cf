-- The place of a location of an object isn't too long, as it is among those of its function; nor is that of a result's location that goes there.
use Rattle.std.proofs.Common.{◌≡◌, ℕ, ◌+◌, ◌≤◌, Bool, true, false, List, [], ◌∷◌, Option, Some, None, refl, ap, ◌∙◌, arith}
use Rattle.std.specs.Prelude.{Contains, if◌then◌else◌, nat_lt, slice_get}
use Rattle.life_types.specs.Trees.{IsOrdered, tree_at}
use Rattle.life_types.specs.Types.{Types}
use Rattle.life_types.specs.declared.ty.TyId.{TyId}
use Rattle.life_core.specs.Function.{Function}
use Rattle.life_core.specs.Operands.{Location}
use Rattle.life_pset.specs.Elements.{AreShort, elements_of, local_place, places_in}
use Rattle.life_pset.specs.Places.{longer, member_place, members_place, owned_step, stepped, too_long}
use Rattle.life_pset.specs.declared.element.AbsPlace.{AbsPlace}
use Rattle.life_pset.specs.declared.element.Element.TheVariants as element
use Rattle.life_contract.specs.Located.{located}
use Rattle.life_proper.specs.Placed.{object_at}
use Rattle.life_store.specs.Parts.{local_type, location_type, members_of, type_within}
use Rattle.life_store.proofs.CellLemmas.{none_some}
use Rattle.life_forest.proofs.Shaped.{IsShaped}
use Rattle.life_cover.proofs.Listing.{member_among, object_known, place_itself}
use Rattle.life_cover.proofs.Making.{short_of}

module _ (types : Types) (ordered : IsOrdered types) where
  nowhere : (ms : List ℕ) (part : TyId) → type_within types None ms ≡ Some part → ⊥
  nowhere [] part h = none_some h
  nowhere (m ∷ ms) part h = none_some h

  -- a member of a member is among the places of the whole
  path_among : (ms : List ℕ) (id part : TyId) (a : AbsPlace) → type_within types (Some id) ms ≡ Some part → Contains (places_in a (tree_at types id)) (members_place a ms)
  path_among [] id part a typed = place_itself a (tree_at types id)
  path_among (m ∷ ms) id part a typed = go (λ x h. path_among ms x part (member_place a m) h) (slice_get (members_of types id) m) refl typed
    where
      go : ((x : TyId) → type_within types (Some x) ms ≡ Some part → Contains (places_in (member_place a m) (tree_at types x)) (members_place (member_place a m) ms)) → (o : Option TyId) → slice_get (members_of types id) m ≡ o → type_within types o ms ≡ Some part
          → Contains (places_in a (tree_at types id)) (members_place (member_place a m) ms)
      go again None e h = absurd (nowhere ms part h)
      go again (Some x) e h = member_among types ordered a id m x e (members_place (member_place a m) ms) (again x h)

  pub location_short : (f : Function) → IsShaped types f → AreShort (elements_of types f) → (l : Location) (part : TyId) → object_at types f l.local ≡ true → location_type types f l ≡ Some part → (located l).length ≤ 8
  location_short f shaped short l part object typed = go (local_type types f l.local) refl typed
    where
      go : (id : Option TyId) → local_type types f l.local ≡ id → type_within types id l.members ≡ Some part → (located l).length ≤ 8
      go None e h = absurd (nowhere l.members part h)
      go (Some id) e h = short_of (elements_of types f) short (element.At (located l)) (object_known types ordered f l.local id (located l) object (shaped l.local ∙ e) (path_among l.members id part (local_place l.local) h))

-- ---- how long a place is its steps tell alone

member_alike : (a b : AbsPlace) (m : ℕ) → a.length ≡ b.length → (member_place a m).length ≡ (member_place b m).length
member_alike a b m e = go (nat_lt m owned_step)
  where
    by_room : (r : Bool) → (if r then longer a m else too_long a).length ≡ (if r then longer b m else too_long b).length
    by_room true = let n : a.length + 1 ≡ b.length + 1 = omega (arith, e) in n
    by_room false = refl

    go : (s : Bool) → (if s then stepped a m else too_long a).length ≡ (if s then stepped b m else too_long b).length
    go true = by_room (nat_lt a.length 8) ∙ ap (λ n. (if nat_lt n 8 then longer b m else too_long b).length) e
    go false = refl

pub length_alike : (ms : List ℕ) (a b : AbsPlace) → a.length ≡ b.length → (members_place a ms).length ≡ (members_place b ms).length
length_alike [] a b e = e
length_alike (m ∷ ms) a b e = length_alike ms (member_place a m) (member_place b m) (member_alike a b m e)
