-- A frame stands where an element is erased, and a location is given the iterator behind it.
use Rattle.std.proofs.Common.{◌≡◌, ℕ, ◌+◌, ◌<◌, Some, refl, ap}
use Rattle.life_types.specs.Trees.{IsOrdered}
use Rattle.life_types.specs.Types.{Types}
use Rattle.life_types.specs.declared.ty.TyId.{TyId}
use Rattle.life_core.specs.Function.{Function}
use Rattle.life_core.specs.Operands.{Location}
use Rattle.life_store.specs.Content.{Object, Content}
use Rattle.life_store.specs.Doing.{erases, pointer_to}
use Rattle.life_store.specs.Edits.{erased, owned_at, size_of}
use Rattle.life_store.specs.Effects.{on_got, put_content}
use Rattle.life_store.specs.Iterators.{erasable}
use Rattle.life_store.specs.Parts.{Parts, Vector, location_type, parts_at, width}
use Rattle.life_store.specs.Places.{Spot, pointed}
use Rattle.life_store.specs.State.{Pointer, State}
use Rattle.life_forest.specs.FrameTypes.{PointsWell, Stands, seen_type}
use Rattle.life_forest.specs.Frames.{HasStore, OnNext, named_in}
use Rattle.life_forest.specs.Kinds.{owned_type}
use Rattle.life_store.specs.Kinds.{kind_in}
use Rattle.life_forest.specs.Owned.{times}
use Rattle.life_forest.proofs.FrameChanges.{erasable_below, on_buffer}
use Rattle.life_forest.proofs.Frames.{on_got_next}
use Rattle.life_forest.proofs.Following.{IsOwned, aims_stay, follows_content, follows_stands}
use Rattle.life_forest.proofs.Operands.{IsPlace}
use Rattle.life_forest.proofs.OwnedAims.{OwnsType, owned_aims}
use Rattle.life_forest.proofs.Placed.{place_owns}
use Rattle.life_forest.proofs.Retargets.{Retargets, begins}
use Rattle.life_forest.proofs.StandingPointers.{IsPointer, pointed_stands}
use Rattle.life_forest.proofs.Staying.{Stays, stays_self}
use Rattle.life_forest.proofs.StayingEdits.{erased_stays}
use Rattle.life_forest.proofs.Vectors.{erase_store}

module _ (types : Types) (ordered : IsOrdered types) (f : Function) (rest : ℕ → ℕ) (st : State) (stands : Stands types f rest st) (part : TyId) (n i w : ℕ) (o : Object) (place : IsPlace types st.world.content part n i w o) (id : TyId) (is : parts_at types part ≡ Vector id (parts_at types id)) where
  abbrev c : Content
  c = st.world.content

  abbrev spot : Spot
  spot = record { object = n; index = i; word = w }

  abbrev has : ℕ → ℕ
  has k = times (named_in st.cells) k + rest k

  owner : OwnsType (parts_at types part) id
  owner = record { one = ap width is; owner = ap (λ (p : Parts). kind_in p 0) is; owned = ap (λ (p : Parts). owned_type p 0) is }

  -- whatever holds where a location is given the iterator, in a frame that stands behind the erased element
  pub erases_give : (v : Pointer) (into : Location) (to : TyId) → Retargets types (Some id) (seen_type types (Some to)) → (Q : State → Type 0)
      → ((d : Content) → Stays (IsOwned types st.world.content) st.world.content d → (b : ℕ) → IsOwned types st.world.content b → (k : ℕ) → d ≡ erased (parts_at types id) b k st.world.content → Stands types f rest (put_content d st) → PointsWell types d (seen_type types (Some to)) (pointer_to d b k 0) → OnNext (pointed types f into (pointer_to d b k 0) (put_content d st)) Q)
      → OnNext (erases types f (Vector id (parts_at types id)) (record { object = n; index = i; word = w }) v into st) Q
  erases_give v into to targets Q given =
      on_buffer (owned_at c spot) (λ b. on_got (erasable c b v) (λ k. pointed types f into (pointer_to (erased (parts_at types id) b k c) b k 0) (put_content (erased (parts_at types id) b k c) st))) Q
      (λ b owned. on_got_next (erasable c b v) (λ k. pointed types f into (pointer_to (erased (parts_at types id) b k c) b k 0) (put_content (erased (parts_at types id) b k c) st)) (λ k. k < size_of c b) Q (erasable_below c b v)
      (λ k small. behind b owned k (owns b owned) (stays b owned k) (erase_store types ordered has c stands.store n i w part o place.there place.within place.slot id (parts_at types id) is b owned k small)))
    where
      owns : (b : ℕ) → owned_at st.world.content (record { object = n; index = i; word = w }) ≡ Some b → IsOwned types st.world.content b
      owns b owned = place_owns types ordered has c stands.store part n i w o place owner.one owner.owner b owned

      stays : (b : ℕ) → owned_at st.world.content (record { object = n; index = i; word = w }) ≡ Some b → (k : ℕ) → Stays (IsOwned types st.world.content) st.world.content (erased (parts_at types id) b k st.world.content)
      stays b owned k = erased_stays (IsOwned types c) c b (owns b owned) (parts_at types id) k c (stays_self (IsOwned types c) c)

      behind : (b : ℕ) → owned_at st.world.content (record { object = n; index = i; word = w }) ≡ Some b → (k : ℕ) → IsOwned types st.world.content b → Stays (IsOwned types st.world.content) st.world.content (erased (parts_at types id) b k st.world.content)
          → HasStore types rest (put_content (erased (parts_at types id) b k st.world.content) st)
          → OnNext (pointed types f into (pointer_to (erased (parts_at types id) b k st.world.content) b k 0) (put_content (erased (parts_at types id) b k st.world.content) st)) Q
      behind b owned k own kept store =
          given (erased (parts_at types id) b k c) kept b own k refl
          (follows_stands types f rest st stands (put_content (erased (parts_at types id) b k c) st) store (follows_content types f st (erased (parts_at types id) b k c) kept))
          (aims_stay types (IsOwned types c) c (erased (parts_at types id) b k c) kept (seen_type types (Some to)) (record { object = b; index = k; word = 0; count = 1; moment = (erased (parts_at types id) b k c).clock })
          (owned_aims types ordered has c stands.store part n i w o place id owner b owned (seen_type types (Some to)) (begins types id (seen_type types (Some to)) targets) k 1 (erased (parts_at types id) b k c).clock))

  pub erases_stand : (v : Pointer) (into : Location) (to : TyId) → location_type types f into ≡ Some to → IsPointer (parts_at types to) → Retargets types (Some id) (seen_type types (Some to))
      → OnNext (erases types f (Vector id (parts_at types id)) (record { object = n; index = i; word = w }) v into st) (Stands types f rest)
  erases_stand v into to typed pointer targets =
      erases_give v into to targets (Stands types f rest) (λ d kept b own k same behind well. pointed_stands types ordered f rest (put_content d st) behind into to (pointer_to d b k 0) typed pointer well)
