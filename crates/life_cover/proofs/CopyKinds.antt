-- A value, a vector, a string or a struct of values is copied, by names or through pointers: there is no fault, and the facts behind it cover all
-- pointers of the frame.
use Rattle.std.proofs.Common.{◌≡◌, ◌⊎◌, inl, inr, ℕ, ◌≤◌, ◌<◌, Bool, true, false, ◌&&◌, List, [], ◌∷◌, length, Option, Some, None, refl, sym, ap, subst, ◌∙◌, arith, ◌≢◌, ◌+◌}
use Rattle.std.specs.Prelude.{if◌then◌else◌, slice_get, slice_index, drop, take}
use Rattle.std.proofs.lemmas.Bool.{false≢true, ne_eqb}
use Rattle.std.proofs.lemmas.List.Elements.{Contains-append_left, Contains-append_right}
use Rattle.life_types.specs.Trees.{IsOrdered, holds_owner, is_plain, members_at, tree_at, tree_of}
use Rattle.life_types.specs.TypeTests.{is_pointer, is_void}
use Rattle.life_types.specs.Types.{Types}
use Rattle.life_types.specs.declared.place.Place.{Place}
use Rattle.life_types.specs.declared.ty.Ty.{Ty}
use Rattle.life_types.specs.declared.ty.Ty.TheVariants as ty
use Rattle.life_types.specs.declared.ty.TyId.{TyId}
use Rattle.life_types.proofs.TreeLemmas.{tree_made}
use Rattle.life_core.specs.Function.{Function}
use Rattle.life_core.specs.Operands.{Location, Operand}
use Rattle.life_core.specs.Operands as named
use Rattle.life_core.specs.Step.{Copy}
use Rattle.life_pset.specs.Elements.{local_place}
use Rattle.life_pset.specs.Places.{begins, is_within, path}
use Rattle.life_pset.specs.Shapes.{tree_if}
use Rattle.life_pset.specs.Shapes as shapes
use Rattle.life_pset.specs.contracts.element.RootPartialEq.TheImpl.{ghosts as compared}
use Rattle.life_pset.specs.declared.element.AbsPlace.{AbsPlace}
use Rattle.life_pset.specs.declared.element.Element.{Element}
use Rattle.life_pset.specs.declared.element.Fact.{Fact}
use Rattle.life_pset.specs.declared.element.Root.{Root}
use Rattle.life_pset.specs.declared.element.Root.TheVariants as root
use Rattle.life_contract.specs.Located.{located}
use Rattle.life_contract.specs.Signatures.{Signature}
use Rattle.life_proper.specs.Placed.{is_const_place, type_of, type_in}
use Rattle.life_rules.specs.Carrying.{is_gone, is_killed, named_kill, one_kill, writes}
use Rattle.life_rules.specs.Diagnosing.{used_in}
use Rattle.life_rules.specs.Keeping.{kept_through}
use Rattle.life_store.specs.Content.{Slot, Object, Content}
use Rattle.life_store.specs.Doing.{copied_to, does, on_character, replaced}
use Rattle.life_store.specs.Effects.{Attempt, Got, GotTrap, GotFault, GotLost, Effect, Next, Setting, put_content, word_of_number}
use Rattle.life_store.specs.Held.{slot_words, slots_if, words_at, words_if}
use Rattle.life_store.specs.Owners.{copied, Words}
use Rattle.life_store.specs.Parts.{Parts, Single, operand_parts, operand_type, parts_at, parts_if, parts_of, width, width_at}
use Rattle.life_store.specs.Parts as parts
use Rattle.life_store.specs.Places.{Spot, locate, on_place, operand_word, spot_words, wrote_spot, location_cell}
use Rattle.life_store.specs.State.{Pointer, Points, State}
use Rattle.life_forest.specs.Forest.{Touches}
use Rattle.life_forest.specs.Kinds.{kinds_of, rank_of}
use Rattle.life_forest.specs.Owned.{alive, times}
use Rattle.life_forest.specs.Typed.{IsStore}
use Rattle.life_forest.specs.Values.{Known, owned_of}
use Rattle.life_forest.proofs.BegunPointers.{IsBegun}
use Rattle.life_forest.proofs.Coming.{IfGot}
use Rattle.life_forest.proofs.HoldingCopies.{IsCopyOf, copied_words}
use Rattle.life_forest.proofs.Laying.{IsMade, made_at, parts_made}
use Rattle.life_forest.proofs.OneNumber.{IsOfType}
use Rattle.life_forest.proofs.Placed.{AreCopied, place_copied}
use Rattle.life_forest.proofs.SeenTypes.{character_parts, parts_typed}
use Rattle.life_forest.proofs.Stores.{if_such}
use Rattle.life_forest.proofs.TypedSteps.{operand_of, operand_same}
use Rattle.life_cover.proofs.Behind.{both_got}
use Rattle.life_cover.proofs.BufferWords.{drop_index, take_index}
use Rattle.life_cover.proofs.Full.{filled}
use Rattle.life_cover.proofs.SingleParts.{AreSingle, plain_single, single_copied, single_ended}
use Rattle.life_cover.proofs.Recopying.{copied_but, IsCopied, more_self}
use Rattle.life_cover.proofs.Unkept.{members_root, reached_owning}
use Rattle.life_cover.specs.Covers.{IsCovered, IsSeenAs, Look}
use Rattle.life_cover.specs.Frames.{FrameCovered, RootStands, look_in}
use Rattle.life_cover.specs.Inputs.{StandsAt, may_change, owning}
use Rattle.life_cover.specs.Kills.{Closed}
use Rattle.life_cover.proofs.OwnerlessParts.{HasNoOwner, ownerless}
use Rattle.life_cover.proofs.PlainParts.{plain_none}
use Rattle.life_forest.proofs.PlainTypes.{plain_free, through_plain}
use Rattle.life_cover.specs.Regions.{IsAt, Region, foot_of}
use Rattle.life_cover.specs.Roots.{AreRooted}
use Rattle.life_cover.specs.Lacking.{MayLack}
use Rattle.life_cover.proofs.Copied.{copy_named, copy_through, copy_touches}
use Rattle.life_cover.proofs.Copies.{copied_right, now, IsFull}
use Rattle.life_cover.proofs.KnownFrames.{IsKnownFrame, IsRight, hand_of, reach_at, rooted_of, store_of, used_right, object_named}
use Rattle.life_cover.proofs.NumberKinds.{character_right}
use Rattle.life_cover.proofs.Opening.{slot_there, region_part}
use Rattle.life_cover.proofs.OwnerKinds.{right_got}
use Rattle.life_cover.proofs.Pointers.{IfRight, OnRight, right_then}
use Rattle.life_cover.proofs.Reaching.{IsReached, Reach, by_reach, on_place_right, spot_is, IsBy}
use Rattle.life_cover.proofs.SaveKinds.{region_within, singles_touch}
use Rattle.life_cover.proofs.Unkilled.{no_foot, unkilled_cover}
use Rattle.life_cover.proofs.Using.{Faultless}
use Rattle.life_cover.proofs.Lacking.{low_whole, owner_whole}
use Rattle.life_rules.proofs.Giving.{at_head}
use Rattle.life_store.specs.Kinds.{Pointing, kind_in}
use Rattle.life_cover.proofs.Making.{known_at, place_short}
use Rattle.life_cover.proofs.SparedPointers.{HasNoPointer, content_held, spares_nothing, spares_reached}
use Rattle.life_cover.proofs.WithinLocations.{no_pointer_within}

-- what a single word is holds no owner
single_holds : (types : Types) (o : Option Ty) → parts_of types (parts_at types) o ≡ Single → holds_owner (tree_of types (tree_at types) o) ≡ true → ⊥
single_holds types o single holds = go o single holds
  where
    of_struct : (ids : List TyId) → parts.struct_of (parts_at types) ids ≡ Single → ⊥
    of_struct [] e = cc
    of_struct (id ∷ ids) e = cc

    go : (o : Option Ty) → parts_of types (parts_at types) o ≡ Single → holds_owner (tree_of types (tree_at types) o) ≡ true → ⊥
    go None p h = false≢true h
    go (Some ty.Text) p h = cc
    go (Some (ty.Vector element)) p h = cc
    go (Some (ty.Unique target)) p h = cc
    go (Some (ty.Struct number)) p h = of_struct (members_at types number) p
    go (Some _) p h = false≢true h

-- what is seen holds an owner where the type that sees it does
pub seen_holds : (types : Types) (ordered : IsOrdered types) (t : Option TyId) (id : TyId) → IsSeenAs types t id → holds_owner (tree_if types t) ≡ true → holds_owner (tree_at types id) ≡ true
seen_holds types ordered None id seen holds = absurd seen
seen_holds types ordered (Some t) id (inl same) holds = subst (λ (x : TyId). holds_owner (tree_at types x) ≡ true) same holds
seen_holds types ordered (Some t) id (inr one) holds = absurd (single_holds types (slice_get types.types t.0) (sym (parts_made types ordered t) ∙ one.0) (ap holds_owner (sym (tree_made types ordered t)) ∙ holds))

faultless_of : {A : Type 0} (x : Attempt A) (P : A → Type 0) → IfRight x P → Faultless x
faultless_of (Got a) P h = tt
faultless_of (GotTrap kind) P h = tt
faultless_of (GotFault kind) P h = h
faultless_of GotLost P h = tt

-- what is copied of an operand that is a vector or a string, or behind what it is
pub operand_copied : (types : Types) (ordered : IsOrdered types) (f : Function) (hand : ℕ → ℕ) (st : State) (store : IsStore types hand st.world.content) (Input : Root → Region → Type 0) (may_change owning : Root → Bool)
    (rooted : AreRooted types st.world.content (RootStands types f Input st.cells) owning) (sigs : List Signature) (place : Place) (from : Operand) (S S' : Fact → Type 0) (o : Operand) (r : IsReached types f st Input may_change S o) → owning r.place.root ≡ true
    → Closed sigs types f place (Copy o from) S S' → holds_owner (tree_if types (shapes.operand_type types f o)) ≡ true → (d : Content) → Touches (kinds_of types) (foot_of types r.region) st.world.content d → (q : AbsPlace) (look : Look) (v : Pointer) → writes (Copy o from) q ≡ false
    → IsCovered types st.world.content (RootStands types f Input st.cells) may_change S q look v → IsCovered types d (RootStands types f Input st.cells) may_change S' q look v
operand_copied types ordered f hand st store Input may_change owning rooted sigs place from S S' (named.Name l) r own closed holds d touch =
    copy_named types ordered hand st.world.content d store (RootStands types f Input st.cells) may_change owning rooted sigs f place from S S' l r.region closed holds (subst (λ (a : AbsPlace). owning a.root ≡ true) r.by own)
    (subst (λ (a : AbsPlace). IsAt types st.world.content (RootStands types f Input st.cells) a r.region) r.by r.lies) touch
operand_copied types ordered f hand st store Input may_change owning rooted sigs place from S S' (named.Through p members) r own closed holds d touch =
    copy_through types ordered hand st.world.content d store (RootStands types f Input st.cells) may_change owning rooted sigs f place from S S' p members r.by.0 r.region closed holds r.by.1
    (subst (λ (a : AbsPlace). owning a.root ≡ true) r.by.2 own) (subst (λ (a : AbsPlace). IsAt types st.world.content (RootStands types f Input st.cells) a r.region) r.by.2 r.lies) touch

-- a location of one local has nothing of another
pub outside_local : (l : Location) (x : ℕ) → l.local ≢ x → is_within (located l) (local_place x) ≡ false
outside_local l x ne =
    ap (λ (ro : Root). compared.eq ro (root.Local x) && begins (path (located l)) (path (local_place x))) (members_root l.members (local_place l.local))
    ∙ ap (λ b. b && begins (path (located l)) (path (local_place x))) (ne_eqb l.local x ne)

module _ (types : Types) (f : Function) (rest : ℕ → ℕ) (inputs : Root → Option Region) (S : Fact → Type 0) (st : State) (k : IsKnownFrame types f rest inputs S st) (sigs : List Signature) (n : ℕ) (place : Place) (S' : Fact → Type 0) (s : Setting) (to from : Operand) (free : is_const_place types f to ≡ false)
    (right : IsRight sigs types n f place (Copy to from) S S') (solid_to : is_void (type_of types f to) ≡ false) (solid_from : is_void (type_of types f from) ≡ false) (alike : type_of types f to ≡ type_of types f from) where
  reach_to : Reach types f st (StandsAt inputs) (may_change types f) S to
  reach_to = reach_at types f rest inputs S st k right.closed.of to solid_to (λ p h. used_right sigs types n f place (Copy to from) S right.clean p (Contains-append_left (used_in to) (used_in from) p h))

  reach_from : Reach types f st (StandsAt inputs) (may_change types f) S from
  reach_from = reach_at types f rest inputs S st k right.closed.of from solid_from (λ p h. used_right sigs types n f place (Copy to from) S right.clean p (Contains-append_right (used_in to) (used_in from) p h))

  -- no pointer is written, where what is copied holds none
  abbrev HoldsNone : Type 0
  HoldsNone = (u j : ℕ) → kind_in (operand_parts types f to) u ≡ Pointing j → ⊥

  not_written : (r : IsReached types f st (StandsAt inputs) (may_change types f) S to) → HoldsNone → (l : Location) (v : Pointer) → is_pointer (type_in types f l) ≡ true → location_cell types f l st ≡ Some (Points v) → writes (Copy to from) (located l) ≡ false
  not_written r none l v pointer e = go to refl
    where
      of : IsOfType types (operand_type types f to) (type_of types f to)
      of = operand_of types k.ordered k.once 0 [] f k.shaped to (type_of types f to) refl solid_to

      go : (o : Operand) → to ≡ o → writes (Copy o from) (located l) ≡ false
      go (named.Through p members) is = refl
      go (named.Name a) is =
          no_pointer_within types f rest inputs S st k a of.number (subst (λ (o : Operand). operand_type types f o ≡ Some of.number) is of.is) (λ u j h. none u j (ap (λ (id : Option TyId). kind_in (parts_if types id) u) of.is ∙ h)) short l v pointer e
        where
          at_place : (o : Operand) → to ≡ o → IsBy types f st (StandsAt inputs) (may_change types f) S o r.place
          at_place o e = subst (λ (q : Operand). IsBy types f st (StandsAt inputs) (may_change types f) S q r.place) e r.by

          short : (located a).length ≤ 8
          short =
              subst (λ (b : AbsPlace). b.length ≤ 8) (at_place (named.Name a) is)
              (place_short types k.ordered f k.shaped k.short st.world.content st.cells (λ x n named. object_named types f rest inputs S st k x n named) inputs k.given.each r.place
              (known_at types k.ordered f k.shaped k.short st.world.content st.cells (λ x n named. object_named types f rest inputs S st k x n named) inputs k.given.each r.place r.region r.path r.lies))

  -- what holds an owner is no character of a string
  pub reached_holds : (r : IsReached types f st (StandsAt inputs) (may_change types f) S to) → holds_owner (tree_if types (shapes.operand_type types f to)) ≡ true → holds_owner (tree_at types r.region.ty) ≡ true
  reached_holds r holds = seen_holds types k.ordered (operand_type types f to) r.region.ty r.seen (ap (λ (id : Option TyId). holds_owner (tree_if types id)) (sym (operand_same types k.ordered k.once 0 [] f k.shaped to)) ∙ holds)

  -- ---- the words that are copied

  -- what is seen has the parts of what sees it
  seen_parts : (o : Operand) (h : IsReached types f st (StandsAt inputs) (may_change types f) S o) → parts_at types h.region.ty ≡ operand_parts types f o
  seen_parts o h = go (operand_type types f o) h.seen
    where
      go : (t : Option TyId) → IsSeenAs types t h.region.ty → parts_at types h.region.ty ≡ parts_if types t
      go None seen = absurd seen
      go (Some t) (inl same) = ap (parts_at types) (sym same)
      go (Some t) (inr character) = ap (parts_at types) character.1 ∙ character_parts types k.ordered ∙ sym character.0

  -- both are of one type
  typed_parts : (o : Operand) (u : Ty) → type_of types f o ≡ u → is_void u ≡ false → operand_parts types f o ≡ parts_of types (parts_at types) (Some u)
  typed_parts o u is solid =
      let of = operand_of types k.ordered k.once 0 [] f k.shaped o u is solid in
      ap (parts_if types) of.is ∙ parts_typed types k.ordered of.number u of.there

  abbrev p : Parts
  p = operand_parts types f to

  from_is : operand_parts types f from ≡ operand_parts types f to
  from_is = typed_parts from (type_of types f to) (sym alike) solid_to ∙ sym (typed_parts to (type_of types f to) refl solid_to)

  module _ (h : IsReached types f st (StandsAt inputs) (may_change types f) S from) where
    abbrev ws : List ℕ
    ws = words_at st.world.content h.region.object h.index h.region.word (width (operand_parts types f to))

    from_parts : parts_at types h.region.ty ≡ operand_parts types f to
    from_parts = seen_parts from h ∙ from_is

    are : AreCopied types st.world.content (operand_parts types f to) (words_at st.world.content h.region.object h.index h.region.word (width (operand_parts types f to)))
    are =
        place_copied types k.ordered (hand_of rest st) st.world.content (store_of types f rest inputs S st k) h.region.ty h.region.object h.index h.region.word h.holder (record { there = h.there; slot = h.small; within = region_within types f rest inputs S st k from h })
        (operand_parts types f to) from_parts

    t : (x : Slot) × (slice_get h.holder.slots h.index ≡ Some x)
    t = slot_there h.holder.slots h.index h.small

    read : (u : ℕ) → u < width_at types h.region.ty → slice_index (words_at st.world.content h.region.object h.index h.region.word (width (operand_parts types f to))) u ≡ slice_index t.0.words (h.region.word + u)
    read u lt =
        take_index (drop h.region.word (slot_words st.world.content h.region.object h.index)) (width (operand_parts types f to)) u (let e = ap width from_parts in omega (arith, lt, e))
        ∙ drop_index (slot_words st.world.content h.region.object h.index) h.region.word u (h.region.word + u) refl
        ∙ ap (λ (x : Option Object). slice_index (words_if (slice_get (slots_if x) h.index)) (h.region.word + u)) h.there
        ∙ ap (λ (x : Option Slot). slice_index (words_if x) (h.region.word + u)) t.1

    -- they have their buffers
    full : IsFull st.world.content (operand_parts types f to) (words_at st.world.content h.region.object h.index h.region.word (width (operand_parts types f to)))
    full =
        subst (λ (q : Parts). IsFull st.world.content q (words_at st.world.content h.region.object h.index h.region.word (width (operand_parts types f to)))) from_parts
        (filled types k.ordered (hand_of rest st) st.world.content (store_of types f rest inputs S st k) (MayLack types f inputs S st) k.buffered (low_whole types f rest inputs S st k) h.region.ty h.region.object h.index h.region.word h.holder t.0
        (owner_whole types f rest inputs S st k from h solid_from sigs n place (Copy to from) S' right (at_head from [])) h.there t.1 (region_part types f rest inputs S st k from h h.holder h.there)
        (words_at st.world.content h.region.object h.index h.region.word (width (operand_parts types f to))) read)

  -- ---- what is written

  -- the pointer in some words is that of what is copied from
  abbrev pub IsFrom : ℕ → List ℕ → Type 0
  IsFrom u us = (h : IsReached types f st (StandsAt inputs) (may_change types f) S from) × (take 5 (drop u us) ≡ take 5 (drop u (words_at st.world.content h.region.object h.index h.region.word (width (operand_parts types f to)))))

  -- a copy of which all is known
  pub record IsWritten (r : IsReached types f st (StandsAt inputs) (may_change types f) S to) (v : Words) : Type 0 where
    pub copied : IsCopied types k.ordered s (operand_parts types f to) (MayLack types f inputs S st) st.world.content v
    pub touches : Touches (kinds_of types) (foot_of types r.region) st.world.content (replaced (operand_parts types f to) (record { object = r.region.object; index = r.index; word = r.region.word }) v)
    pub single : AreSingle (operand_parts types f to) → v.1 ≡ st.world.content
    pub wide : length v.0 ≡ width (operand_parts types f to)
    pub pointers : (u : ℕ) → IsBegun (operand_parts types f to) u → IsFrom u v.0

  module _ (r : IsReached types f st (StandsAt inputs) (may_change types f) S to) where
    abbrev into_spot : Spot
    into_spot = record { object = r.region.object; index = r.index; word = r.region.word }

    pub into_parts : parts_at types r.region.ty ≡ operand_parts types f to
    into_parts = seen_parts to r

    -- values alone touch nothing that is owned
    pub single_written : (v : Words) → IsWritten r v → AreSingle (operand_parts types f to) → Touches (kinds_of types) no_foot st.world.content (replaced (operand_parts types f to) (record { object = r.region.object; index = r.index; word = r.region.word }) v)
    single_written v written alone =
        subst (Touches (kinds_of types) no_foot st.world.content)
        (ap (wrote_spot into_spot v.0) (sym (single_ended (operand_parts types f to) alone (spot_words v.1 into_spot (width (operand_parts types f to))) v.1 ∙ written.single alone)))
        (singles_touch types f rest inputs S st k to r (operand_parts types f to) into_parts alone v.0 written.copied.wide)

    -- ---- whatever holds behind it

    module _ (Q : State → Type 0) (each : (v : Words) → IsWritten r v → Q (put_content (replaced (operand_parts types f to) (record { object = r.region.object; index = r.index; word = r.region.word }) v) st)) where
      words_copied : (us : List ℕ) → AreCopied types st.world.content (operand_parts types f to) us → IsFull st.world.content (operand_parts types f to) us → ((u : ℕ) → IsBegun (operand_parts types f to) u → IsFrom u us) → OnRight (copied_to s (operand_parts types f to) into_spot us st) Q
      words_copied us known has came =
          right_then (copied s p us st.world.content) (λ v. Next (put_content (replaced p into_spot v) st)) (IsWritten r) Q
          (right_got (copied s p us st.world.content) (IsWritten r)
          (if_such (copied s p us st.world.content) (λ v. IsCopied types k.ordered s p (MayLack types f inputs S st) st.world.content v × (Touches (kinds_of types) (foot_of types r.region) st.world.content (replaced p into_spot v) × ((AreSingle p → v.1 ≡ st.world.content) × IsCopyOf p us v))) (IsWritten r)
          (both_got (copied s p us st.world.content) (IsCopied types k.ordered s p (MayLack types f inputs S st) st.world.content) (λ v. Touches (kinds_of types) (foot_of types r.region) st.world.content (replaced p into_spot v) × ((AreSingle p → v.1 ≡ st.world.content) × IsCopyOf p us v))
          (copied_but types k.ordered s st.world.content p (rank_of types r.region.ty) (subst (IsMade types k.ordered (rank_of types r.region.ty)) into_parts (made_at types k.ordered r.region.ty)) us known.wide has (MayLack types f inputs S st) st.world.content (more_self st.world.content) k.buffered)
          (both_got (copied s p us st.world.content) (λ v. Touches (kinds_of types) (foot_of types r.region) st.world.content (replaced p into_spot v)) (λ v. (AreSingle p → v.1 ≡ st.world.content) × IsCopyOf p us v)
          (subst (λ (q : Parts). IfGot (copied s q us st.world.content) (λ v. Touches (kinds_of types) (foot_of types r.region) st.world.content (replaced q into_spot v))) into_parts
          (copy_touches types k.ordered (hand_of rest st) st.world.content (store_of types f rest inputs S st k) r.region.object r.index r.region.word r.region.ty r.holder r.there (region_within types f rest inputs S st k to r) r.small s us
          (known.wide ∙ ap width (sym into_parts)) (subst (λ (q : Parts). Known (kinds_of types) st.world.content q us) (sym into_parts) known.known)
          (subst (λ (q : Parts). (j : ℕ) → 0 < times (owned_of q us) j → 0 < alive st.world.content j) (sym into_parts) known.living)))
          (both_got (copied s p us st.world.content) (λ v. AreSingle p → v.1 ≡ st.world.content) (IsCopyOf p us) (single_stays (copied s p us st.world.content) refl) (copied_words s p us st.world.content known.wide))))
          (λ v h. record { copied = h.0; touches = h.1.0; single = h.1.1.0; wide = h.1.1.1.0; pointers = λ u begun. let one = came u begun in (one.0, h.1.1.1.1 u begun ∙ one.1) }))
          (faultless_of (copied s p us st.world.content) _ (copied_right st.world.content s p us has st.world.content (now st.world.content s))))
          each
        where
          single_stays : (x : Attempt Words) → copied s (operand_parts types f to) us st.world.content ≡ x → IfGot x (λ v. AreSingle (operand_parts types f to) → v.1 ≡ st.world.content)
          single_stays (Got v) e = λ alone. ap (λ (w : Words). w.1) (got_same (sym e ∙ (single_copied s (operand_parts types f to) alone us st.world.content).1))
            where
              got_same : {a b : Words} → Got a ≡ Got b → a ≡ b
              got_same h = cc
          single_stays (GotTrap kind) e = tt
          single_stays (GotFault kind) e = tt
          single_stays GotLost e = tt

      -- a character of a text has one word
      character_copied : operand_parts types f to ≡ Single → (c : _) → OnRight (on_character s.texts c (λ z. copied_to s (operand_parts types f to) into_spot (word_of_number z ∷ []) st)) Q
      character_copied one c =
          character_right s.texts c (λ z. copied_to s (operand_parts types f to) into_spot (word_of_number z ∷ []) st) Q
          (λ z. words_copied (word_of_number z ∷ [])
          (record {
            wide = sym (ap width one);
            known = subst (λ (q : Parts). Known (kinds_of types) st.world.content q (word_of_number z ∷ [])) (sym one) tt;
            living = λ j lt. absurd (none_owned (subst (λ (q : Parts). 0 < times (owned_of q (word_of_number z ∷ [])) j) one lt));
          })
          (subst (λ (q : Parts). IsFull st.world.content q (word_of_number z ∷ [])) (sym one) tt) (too_wide (word_of_number z ∷ [])))
        where
          too_wide : (us : List ℕ) (u : ℕ) → IsBegun (operand_parts types f to) u → IsFrom u us
          too_wide us u begun = let fits = begun.fits in let width_is = ap width one in absurd (omega (arith, fits, width_is))

          none_owned : 0 < 0 → ⊥
          none_owned lt = omega (arith, lt)

      copied_from : OnRight (on_place (locate types f from st) (λ m i object. copied_to s (operand_parts types f to) into_spot (words_at st.world.content m i (operand_word types f from st) (width (operand_parts types f to))) st)
          (λ c. on_character s.texts c (λ z. copied_to s (operand_parts types f to) into_spot (word_of_number z ∷ []) st))) Q
      copied_from =
          on_place_right types f st (StandsAt inputs) (may_change types f) S from reach_from (λ m i object. copied_to s (operand_parts types f to) into_spot (words_at st.world.content m i (operand_word types f from st) (width (operand_parts types f to))) st)
          (λ c. on_character s.texts c (λ z. copied_to s (operand_parts types f to) into_spot (word_of_number z ∷ []) st)) Q
          (λ h. subst (λ w. OnRight (copied_to s (operand_parts types f to) into_spot (words_at st.world.content h.region.object h.index w (width (operand_parts types f to))) st) Q) (sym h.word) (words_copied (ws h) (are h) (full h) (λ u begun. (h, refl))))
          (λ c single. character_copied (sym from_is ∙ single) c)

  -- ---- the kind

  pub copy_right : (Q : State → Type 0) → ((r : IsReached types f st (StandsAt inputs) (may_change types f) S to) (v : Words) → IsWritten r v → Q (put_content (replaced (operand_parts types f to) (record { object = r.region.object; index = r.index; word = r.region.word }) v) st))
      → OnRight (does s types f (Copy to from) st) Q
  copy_right Q each =
      by_reach types f st (StandsAt inputs) (may_change types f) S to reach_to go Q (λ r. subst (λ e. OnRight e Q) (sym (spot_is types f st (StandsAt inputs) (may_change types f) S to r go)) (copied_from r Q (each r)))
    where
      go : Spot → Effect
      go spot =
          on_place (locate types f from st) (λ m i object. copied_to s (operand_parts types f to) spot (words_at st.world.content m i (operand_word types f from st) (width (operand_parts types f to))) st)
          (λ c. on_character s.texts c (λ z. copied_to s (operand_parts types f to) spot (word_of_number z ∷ []) st))

  -- what holds neither an owner nor a pointer has values alone
  pub copied_single : HoldsNone → holds_owner (tree_if types (shapes.operand_type types f to)) ≡ false → AreSingle (operand_parts types f to)
  copied_single none owns = plain_single (operand_parts types f to) (λ u lt e. no_owner u e) (λ u j lt e. none u j e)
    where
      of : IsOfType types (operand_type types f to) (type_of types f to)
      of = operand_of types k.ordered k.once 0 [] f k.shaped to (type_of types f to) refl solid_to

      no_owner : HasNoOwner (operand_parts types f to)
      no_owner u e =
          ownerless types k.ordered of.number (ap (λ (id : Option TyId). holds_owner (tree_if types id)) (sym (operand_same types k.ordered k.once 0 [] f k.shaped to ∙ of.is)) ∙ owns) u
          (ap (λ (id : Option TyId). kind_in (parts_if types id) u) (sym of.is) ∙ e)

  -- what is written behind a pointer is so, where it holds no owner; and else it lies where the frame's owners do
  pub owned_or_single : (r : IsReached types f st (StandsAt inputs) (may_change types f) S to) → (owning types f r.place.root ≡ true) ⊎ AreSingle (operand_parts types f to)
  owned_or_single r = by_holds (holds_owner (tree_if types (shapes.operand_type types f to))) refl
    where
      of : IsOfType types (operand_type types f to) (type_of types f to)
      of = operand_of types k.ordered k.once 0 [] f k.shaped to (type_of types f to) refl solid_to

      through_none : (q : Location) (ms : List ℕ) → to ≡ named.Through q ms → HoldsNone
      through_none q ms is u j h =
          plain_none (parts_at types of.number)
          (plain_free types k.ordered of.number (ap (λ (id : Option TyId). is_plain (tree_if types id)) (sym (operand_same types k.ordered k.once 0 [] f k.shaped to ∙ of.is)) ∙ subst (λ (o : Operand). is_plain (tree_if types (shapes.operand_type types f o)) ≡ true) (sym is) (through_plain types k.ordered f k.stand q ms)))
          u j (ap (λ (id : Option TyId). kind_in (parts_if types id) u) (sym of.is) ∙ h)

      by_operand : (o : Operand) → to ≡ o → IsBy types f st (StandsAt inputs) (may_change types f) S o r.place → holds_owner (tree_if types (shapes.operand_type types f to)) ≡ false → (owning types f r.place.root ≡ true) ⊎ AreSingle (operand_parts types f to)
      by_operand (named.Name a) is by owns = inl (ap (λ (b : AbsPlace). owning types f b.root) by ∙ ap (owning types f) (members_root a.members (local_place a.local)))
      by_operand (named.Through q ms) is by owns = inr (copied_single (through_none q ms is) owns)

      by_holds : (b : Bool) → holds_owner (tree_if types (shapes.operand_type types f to)) ≡ b → (owning types f r.place.root ≡ true) ⊎ AreSingle (operand_parts types f to)
      by_holds true owns = inl (reached_owning sigs types n f place (Copy to from) S right.clean to (λ x. ap (λ b. if b then kept_through types n f place x to else []) owns) k.ordered inputs st k.given.each r (r.change free) (reached_holds r owns))
      by_holds false owns = by_operand to refl r.by owns

  -- .. as that the facts cover all pointers, where there are none in what is copied
  pub plain_copy_kind : HoldsNone → OnRight (does s types f (Copy to from) st) (FrameCovered types f inputs S')
  plain_copy_kind none = copy_right (FrameCovered types f inputs S') (λ r v written. by_holds r v written (holds_owner (tree_if types (shapes.operand_type types f to))) refl)
    where
      region_free : (r : IsReached types f st (StandsAt inputs) (may_change types f) S to) → HasNoPointer types r.region.ty
      region_free r u j h = none u j (ap (λ (p : Parts). kind_in p u) (sym (seen_parts to r)) ∙ h)

      value_written : (r : IsReached types f st (StandsAt inputs) (may_change types f) S to) → holds_owner (tree_if types (shapes.operand_type types f to)) ≡ false → (d : Content) → Touches (kinds_of types) no_foot st.world.content d → FrameCovered types f inputs S' (put_content d st)
      value_written r holds d touch l v is e =
          let was = content_held types f rest inputs S st k no_foot (spares_nothing types f rest inputs S st k) d touch l v is e in
          unkilled_cover types k.ordered (hand_of rest st) st.world.content d (store_of types f rest inputs S st k) touch (RootStands types f (StandsAt inputs) st.cells) (RootStands types f (StandsAt inputs) st.cells) (may_change types f) (rooted_of types f rest inputs S st k).fits sigs f place (Copy to from) S S' right.closed gone
          (λ a h names free stands. stands) (located l) (look_in types f l) v (not_written r none l v is was) (k.covered l v is was)
        where
          gone : (e : Element) → is_gone types f place (Copy to from) e ≡ false
          gone e = ap (λ b. is_killed (if b then one_kill (named_kill place to) else one_kill None) e) holds

      owner_written : (r : IsReached types f st (StandsAt inputs) (may_change types f) S to) → holds_owner (tree_if types (shapes.operand_type types f to)) ≡ true → (d : Content) → Touches (kinds_of types) (foot_of types r.region) st.world.content d → FrameCovered types f inputs S' (put_content d st)
      owner_written r holds d touch l w is e =
          let was = content_held types f rest inputs S st k (foot_of types r.region) (spares_reached types f rest inputs S st k to r (region_free r)) d touch l w is e in
          operand_copied types k.ordered f (hand_of rest st) st (store_of types f rest inputs S st k) (StandsAt inputs) (may_change types f) (owning types f) (rooted_of types f rest inputs S st k) sigs place from S S' to r (reached_owning sigs types n f place (Copy to from) S right.clean to (λ x. ap (λ b. if b then kept_through types n f place x to else []) holds) k.ordered inputs st k.given.each r (r.change free) (reached_holds r holds)) right.closed holds d touch
          (located l) (look_in types f l) w (not_written r none l w is was) (k.covered l w is was)

      by_holds : (r : IsReached types f st (StandsAt inputs) (may_change types f) S to) (v : Words) → IsWritten r v → (b : Bool) → holds_owner (tree_if types (shapes.operand_type types f to)) ≡ b
          → FrameCovered types f inputs S' (put_content (replaced (operand_parts types f to) (record { object = r.region.object; index = r.index; word = r.region.word }) v) st)
      by_holds r v written true holds = owner_written r holds (replaced (operand_parts types f to) (record { object = r.region.object; index = r.index; word = r.region.word }) v) written.touches
      by_holds r v written false holds = value_written r holds (replaced (operand_parts types f to) (record { object = r.region.object; index = r.index; word = r.region.word }) v) (single_written r v written (copied_single none holds))
