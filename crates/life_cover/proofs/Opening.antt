-- An operand that is a vector or a string: all of an object, with a buffer that lives.
use Rattle.std.proofs.Common.{◌≡◌, inl, inr, ℕ, zero, suc, ◌<◌, true, false, List, [], ◌∷◌, length, Option, Some, refl, sym, ap, subst, ◌∙◌, arith, ◌+◌}
use Rattle.std.specs.Prelude.{Contains, slice_get, slice_index, drop}
use Rattle.std.proofs.lemmas.Bool.{false≢true}
use Rattle.life_types.specs.TypeTests.{is_void}
use Rattle.life_types.specs.Types.{Types}
use Rattle.life_types.specs.declared.ty.Ty.{Ty}
use Rattle.life_types.specs.declared.ty.Ty.TheVariants as ty
use Rattle.life_types.specs.declared.ty.TyId.{TyId}
use Rattle.life_core.specs.Function.{Function}
use Rattle.life_core.specs.Operands.{Operand}
use Rattle.life_pset.specs.Elements.{elements_of}
use Rattle.life_pset.specs.Places.{path}
use Rattle.life_pset.specs.Shapes.{has_buffer}
use Rattle.life_pset.specs.declared.element.AbsPlace.{AbsPlace}
use Rattle.life_pset.specs.declared.element.Element.TheVariants as element
use Rattle.life_pset.specs.declared.element.Fact.{Fact}
use Rattle.life_pset.specs.declared.element.Root.{Root}
use Rattle.life_pset.specs.declared.element.Root.TheVariants as root
use Rattle.life_proper.specs.Placed.{type_of}
use Rattle.life_store.specs.Cells.{at}
use Rattle.life_store.specs.Content.{Slot, Object, word_in}
use Rattle.life_store.specs.Edits.{owned_at}
use Rattle.life_store.specs.Held.{owned_in}
use Rattle.life_store.specs.Parts.{Parts, Text, Vector, characters_type, local_type, operand_type, parts_at, parts_of, width}
use Rattle.life_store.specs.Places.{spot_words}
use Rattle.life_store.specs.State.{State}
use Rattle.life_store.proofs.CellLemmas.{some_same}
use Rattle.life_forest.specs.FrameTypes.{IsVariable}
use Rattle.life_forest.specs.Values.{listed, owned_of}
use Rattle.life_forest.proofs.SeenTypes.{parts_typed}
use Rattle.life_forest.proofs.TypedSteps.{operand_of}
use Rattle.life_cover.specs.Buffered.{HasBuffers}
use Rattle.life_cover.specs.Covers.{IsSeenAs}
use Rattle.life_cover.specs.Frames.{RootStands}
use Rattle.life_cover.specs.Inputs.{may_change, StandsAt}
use Rattle.life_cover.specs.Lacking.{MayLack}
use Rattle.life_cover.specs.Regions.{Goes, IsAt, IsPart, IsTrue, Lies, Region, itself, member_part, owned_in_type}
use Rattle.life_cover.proofs.BufferWords.{drop_index, part_has}
use Rattle.life_cover.proofs.Buffers.{buffer_lives}
use Rattle.life_cover.proofs.Inside.{goes_true, lies_true, owned_typed}
use Rattle.life_cover.proofs.KnownFrames.{IsKnownFrame, hand_of, object_named, rooted_of, store_of}
use Rattle.life_cover.proofs.Looks.{exact_owner}
use Rattle.life_cover.proofs.Making.{CanOpen, can_open, known_at}
use Rattle.life_cover.proofs.OwnersStay.{owned_is}
use Rattle.life_cover.proofs.Reaching.{IsReached}

behind_none : (w : ℕ) → w ≡ w + 0
behind_none w = omega arith

pub slot_there : (ss : List Slot) (i : ℕ) → i < length ss → (s : Slot) × (slice_get ss i ≡ Some s)
slot_there [] i lt = absurd (omega (arith, lt))
slot_there (s ∷ ss) zero lt = (s, refl)
slot_there (s ∷ ss) (suc i) lt = slot_there ss i (omega (arith, lt))

module _ (types : Types) (f : Function) (rest : ℕ → ℕ) (inputs : Root → Option Region) (S : Fact → Type 0) (st : State) (k : IsKnownFrame types f rest inputs S st) where
  -- ---- a part of an object

  lies_part : (ss : List ℕ) (a b : Region) → IsTrue types st.world.content a → IsPart types st.world.content a → Lies types st.world.content ss a b → IsPart types st.world.content b
  lies_part [] a b is part lies = subst (IsPart types st.world.content) lies part
  lies_part (s ∷ ss) a b is part lies = lies_part ss lies.0 b (goes_true types k.ordered (hand_of rest st) st.world.content (store_of types f rest inputs S st k) s a lies.0 is lies.1) (step lies.1) lies.2
    where
      step : Goes types st.world.content s a lies.0 → IsPart types st.world.content lies.0
      step (inl m) q there = member_part a.word lies.0.word s a.ty lies.0.ty (part q (ap (at st.world.content.objects) (sym m.object) ∙ there)) m.type m.word
      step (inr o) q there = itself lies.0.word lies.0.ty o.word (owned_typed types k.ordered (hand_of rest st) st.world.content (store_of types f rest inputs S st k) s a lies.0 is o q there)

  root_part : (ro : Root) (a : Region) → RootStands types f (StandsAt inputs) st.cells ro a → IsPart types st.world.content a
  root_part (root.Input q member) a stands = k.given.part (root.Input q member) a stands
  root_part (root.Local x) a stands = by (k.stands.frame.objects x a.object stands.0)
    where
      by : IsVariable st.world.content (local_type types f x) a.object → IsPart types st.world.content a
      by v q there = itself a.word a.ty stands.1 (ap (λ (o : Object). o.ty) (some_same (sym there ∙ v.there)) ∙ some_same (sym v.type ∙ stands.2))

  pub place_part : (place : AbsPlace) (r : Region) → IsAt types st.world.content (RootStands types f (StandsAt inputs) st.cells) place r → IsPart types st.world.content r
  place_part place r at_r = lies_part (path place) at_r.start r ((rooted_of types f rest inputs S st k).fits place.root at_r.start at_r.stands) (root_part place.root at_r.start at_r.stands) at_r.lies

  module _ (o : Operand) (r : IsReached types f st (StandsAt inputs) (may_change types f) S o) where
    pub region_part : IsPart types st.world.content r.region
    region_part = place_part r.place r.region r.lies

    -- ---- its place

    pub place_known : Contains (elements_of types f) (element.At r.place)
    place_known = known_at types k.ordered f k.shaped k.short st.world.content st.cells (object_named types f rest inputs S st k) inputs k.given.each r.place r.region r.path r.lies

    -- ---- what it has

    pub record IsOpened (u : Ty) (item : TyId) : Type 0 where
      pub typed : operand_type types f o ≡ Some r.region.ty
      pub there : slice_get types.types r.region.ty.0 ≡ Some u
      pub type : owned_in_type types (slice_get types.types r.region.ty.0) ≡ Some item
      pub buffer : ℕ
      pub owned : owned_at st.world.content (record { object = r.region.object; index = r.index; word = r.region.word }) ≡ Some buffer
      pub object : Object
      pub lives : at st.world.content.objects buffer ≡ Some object

    -- its type is that of the object
    pub record IsTyped (u : Ty) : Type 0 where
      pub typed : operand_type types f o ≡ Some r.region.ty
      pub there : slice_get types.types r.region.ty.0 ≡ Some u

    pub owner_typed : (u : Ty) (item : TyId) → type_of types f o ≡ u → is_void u ≡ false → owned_in_type types (Some u) ≡ Some item → IsTyped u
    owner_typed u item is solid owned =
        let of = operand_of types k.ordered k.once 0 [] f k.shaped o u is solid in
        let same : of.number ≡ r.region.ty = exact_owner types k.ordered k.once of.number r.region.ty u item of.there owned (subst (λ (t : Option TyId). IsSeenAs types t r.region.ty) of.is r.seen) in
        record { typed = of.is ∙ ap Some same; there = ap (λ (i : TyId). slice_get types.types i.0) (sym same) ∙ of.there }

    -- .. and it has a buffer, where it wasn't moved from
    module _ (unmoved : MayLack types f inputs S st r.region.object → ⊥) where
      buffered : (p : Parts) → parts_at types r.region.ty ≡ p → ((ws : List ℕ) → HasBuffers p ws → (b : ℕ) × (owned_in (slice_index ws 0) ≡ Some b)) → (b : ℕ) × (owned_at st.world.content (record { object = r.region.object; index = r.index; word = r.region.word }) ≡ Some b)
      buffered p is has =
          let s = slot_there r.holder.slots r.index r.small in
          let here = part_has types k.ordered r.holder.ty r.region.word r.region.ty (region_part r.holder r.there) s.0.words (k.buffered r.region.object r.index r.holder s.0 unmoved r.there s.1) in
          let b = has (drop r.region.word s.0.words) (subst (λ (q : Parts). HasBuffers q (drop r.region.word s.0.words)) is here) in
          (b.0, owned_is st.world.content r.region.object r.index r.region.word r.holder r.there ∙ ap (λ (x : Option Slot). owned_in (word_in x r.region.word)) s.1 ∙ ap owned_in (sym (drop_index s.0.words r.region.word 0 r.region.word (behind_none r.region.word))) ∙ b.1)

      opened_as : (u : Ty) (item : TyId) (p : Parts) → type_of types f o ≡ u → is_void u ≡ false → owned_in_type types (Some u) ≡ Some item → parts_of types (parts_at types) (Some u) ≡ p
          → ((ws : List ℕ) → HasBuffers p ws → (b : ℕ) × (owned_in (slice_index ws 0) ≡ Some b)) → ((b : ℕ) (ws : List ℕ) → owned_in (slice_index ws 0) ≡ Some b → owned_of p ws ≡ b ∷ []) → width p ≡ 1 → IsOpened u item
      opened_as u item p is solid owned parts has owns one =
          let at_type = owner_typed u item is solid owned in
          let made : parts_at types r.region.ty ≡ p = parts_typed types k.ordered r.region.ty u at_type.there ∙ parts in
          let b = buffered p made has in
          let l = buffer_lives types k.ordered (hand_of rest st) st.world.content (store_of types f rest inputs S st k) r.region.object r.index r.region.word r.region.ty r.holder r.there
          (lies_true types k.ordered (hand_of rest st) st.world.content (store_of types f rest inputs S st k) (path r.place) r.lies.start r.region ((rooted_of types f rest inputs S st k).fits r.place.root r.lies.start r.lies.stands) r.lies.lies r.holder r.there) r.small p made b.0
          (subst (λ m. owned_of p (spot_words st.world.content (record { object = r.region.object; index = r.index; word = r.region.word }) m) ≡ b.0 ∷ []) (sym one)
          (owns b.0 (spot_words st.world.content (record { object = r.region.object; index = r.index; word = r.region.word }) 1) b.1)) in record {
            typed = at_type.typed;
            there = at_type.there;
            type = ap (owned_in_type types) at_type.there ∙ owned;
            buffer = b.0;
            owned = b.1;
            object = l.0;
            lives = l.1;
          }

      pub vector_opened : (element : TyId) → type_of types f o ≡ ty.Vector element → IsOpened (ty.Vector element) element
      vector_opened element is = opened_as (ty.Vector element) element (Vector element (parts_at types element)) is refl refl refl (λ ws h. h 0 refl) (λ b ws e. ap listed e) refl

      pub text_opened : type_of types f o ≡ ty.Text → IsOpened ty.Text (characters_type types)
      text_opened is = opened_as ty.Text (characters_type types) (Text (characters_type types)) is refl refl refl (λ ws h. h 0 refl) (λ b ws e. ap listed e) refl

      pub opened : (u : Ty) → type_of types f o ≡ u → (item : TyId) → owned_in_type types (Some u) ≡ Some item → has_buffer u ≡ true → IsOpened u item
      opened ty.Text is item e h = subst (IsOpened ty.Text) (some_same e) (text_opened is)
      opened (ty.Vector element) is item e h = subst (IsOpened (ty.Vector element)) (some_same e) (vector_opened element is)
      opened _ is item e h = absurd (false≢true h)

    -- the place of what it has
    pub opens_place : (item : TyId) → owned_in_type types (slice_get types.types r.region.ty.0) ≡ Some item
        → CanOpen types k.ordered f k.shaped k.short st.world.content st.cells (object_named types f rest inputs S st k) inputs k.given.each r.place
    opens_place item type = can_open types k.ordered f k.shaped k.short st.world.content st.cells (object_named types f rest inputs S st k) inputs k.given.each r.place r.region item r.path r.lies type
