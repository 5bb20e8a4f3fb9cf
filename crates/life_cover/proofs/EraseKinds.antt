-- An element of a vector is erased, by the vector's name or through a pointer, and a pointer is given its position: there is no fault, and the
-- facts behind it cover all pointers of the frame.
use Rattle.std.proofs.Common.{◌≡◌, ℕ, ◌+◌, ◌<◌, true, false, List, [], ◌∷◌, length, Option, Some, refl, sym, ap, subst, ◌∙◌, arith}
use Rattle.std.specs.Prelude.{Contains, nat_eq, nat_lt}
use Rattle.life_types.specs.Trees.{IsOrdered}
use Rattle.life_types.specs.TypeTests.{is_pointer, is_void}
use Rattle.life_types.specs.Types.{Types}
use Rattle.life_types.specs.declared.place.Place.{Place}
use Rattle.life_types.specs.declared.ty.Ty.TheVariants as ty
use Rattle.life_types.specs.declared.ty.TyId.{TyId}
use Rattle.life_core.specs.Function.{Function}
use Rattle.life_core.specs.Operands.{Location, Operand}
use Rattle.life_core.specs.Operands as named
use Rattle.life_core.specs.Step.{Changes, Erase}
use Rattle.life_pset.specs.Elements.{elements_of}
use Rattle.life_pset.specs.Places.{owned_place}
use Rattle.life_pset.specs.declared.element.AbsPlace.{AbsPlace}
use Rattle.life_pset.specs.declared.element.Element.TheVariants as element
use Rattle.life_pset.specs.declared.element.Fact.{Fact}
use Rattle.life_pset.proofs.Numbers.{is_of_iff, place_laws}
use Rattle.life_pset.specs.declared.element.Root.{Root}
use Rattle.life_contract.specs.Located.{located}
use Rattle.life_contract.specs.Signatures.{Signature}
use Rattle.life_proper.specs.OperandTypes.{is_range}
use Rattle.life_proper.specs.Placed.{is_const_place, type_in, type_of}
use Rattle.life_rules.specs.Matching.{fact_at, facts_at, facts_if, position_in}
use Rattle.life_rules.proofs.Giving.{at_head}
use Rattle.life_store.specs.Cells.{at}
use Rattle.life_store.specs.Content.{Content, Object}
use Rattle.life_store.specs.Doing.{changed, does, erases, pointer_to}
use Rattle.life_store.specs.Edits.{erased, owned_at, size_of}
use Rattle.life_store.specs.Effects.{Effect, Got, GotFault, GotTrap, Setting, cell, got_or, on_got, put_content}
use Rattle.life_store.specs.Held.{slots_if}
use Rattle.life_store.specs.Iterators.{below, erasable, iterator}
use Rattle.life_store.specs.Kinds.{is_value, kind_in}
use Rattle.life_store.specs.Parts.{Parts, Vector, local_type, operand_parts, parts_at, width}
use Rattle.life_store.specs.Places.{location_cell, pointed}
use Rattle.life_store.specs.State.{Named, Pointer, Null, Wild, To, Static, State}
use Rattle.life_store.specs.declared.run.FaultKind.TheVariants as fault
use Rattle.life_store.specs.declared.run.TrapKind.TheVariants as trap
use Rattle.life_forest.specs.Forest.{Beneath, Touches, all_of, part, under}
use Rattle.life_forest.specs.Forest as forest
use Rattle.life_forest.specs.FrameTypes.{IsVariable}
use Rattle.life_forest.specs.Kinds.{kinds_of}
use Rattle.life_forest.specs.Owned.{times}
use Rattle.life_forest.specs.Typed.{IsStore}
use Rattle.life_forest.specs.Within.{LiesWithin}
use Rattle.life_forest.proofs.Below.{is_positive, no_part, positive_is}
use Rattle.life_forest.proofs.Counting.{one_same, one_there}
use Rattle.life_forest.proofs.FrameChanges.{erasable_below}
use Rattle.life_forest.proofs.Steps.{size_on}
use Rattle.life_forest.proofs.Vectors.{erase_store}
use Rattle.life_cover.proofs.Writing.{change_owning}
use Rattle.life_cover.specs.Covers.{IsSeenAs}
use Rattle.life_cover.specs.Frames.{FrameCovered, RootStands, look_in}
use Rattle.life_cover.specs.Inputs.{may_change, owning, StandsAt}
use Rattle.life_cover.specs.Kills.{Closed}
use Rattle.life_cover.specs.Regions.{Region, foot_of}
use Rattle.life_cover.specs.Lacking.{MayLack}
use Rattle.life_cover.proofs.Beside.{Keeps, at_on, kept_object}
use Rattle.life_cover.proofs.Buffers.{buffer, erase_touches, low}
use Rattle.life_cover.proofs.HeldElements.{elements_shut, held, vector_operand, vector_parts}
use Rattle.life_cover.proofs.Inside.{not_itself}
use Rattle.life_cover.proofs.KnownFrames.{IsKnownFrame, IsRight, hand_of, object_named, reach_at, rooted_of, store_of, used_right}
use Rattle.life_cover.proofs.LocationsListed.{pointer_listed}
use Rattle.life_cover.proofs.MemberWords.{Spares}
use Rattle.life_cover.proofs.NumberKinds.{place_fit}
use Rattle.life_cover.proofs.Opening.{IsOpened, opens_place, vector_opened}
use Rattle.life_cover.proofs.OwnerElements.{element_pointed}
use Rattle.life_cover.proofs.OwnerKinds.{faultless_if, operand_changed, right_got}
use Rattle.life_cover.proofs.OwnersStay.{owner_kept}
use Rattle.life_cover.proofs.PointerKinds.{read_right}
use Rattle.life_cover.proofs.Pointers.{OnRight, right_then}
use Rattle.life_cover.proofs.PointedPlaces.{not_located, pointed_over, pointer_nameless}
use Rattle.life_cover.proofs.Reaching.{IsReached, by_reach, spot_is}
use Rattle.life_cover.proofs.SaveKinds.{region_within}
use Rattle.life_cover.proofs.SparedPointers.{content_held, owner_free, spares_reached, true_on, variable_on}
use Rattle.life_cover.proofs.Sparing.{change_spares}
use Rattle.life_cover.proofs.Takes.{made_of, named_fact}
use Rattle.life_cover.proofs.Using.{Faultless}
use Rattle.life_cover.proofs.Lacking.{owner_whole}

-- ---- an iterator to elsewhere is a trap, and no fault

erasable_faultless : (c : Content) (b : ℕ) (v : Pointer) → Faultless (erasable c b v)
erasable_faultless c b Null = tt
erasable_faultless c b Wild = tt
erasable_faultless c b (Static s) = tt
erasable_faultless c b (To t) = faultless_if {A = ℕ} (nat_eq t.object b) (below t.index (size_of c b)) (GotTrap trap.ForeignIterator) (faultless_if {A = ℕ} (nat_lt t.index (size_of c b)) (Got t.index) (GotTrap trap.Bounds) tt tt) tt

-- ---- the owner behind it has what it had

module _ (types : Types) (ordered : IsOrdered types) (hand : ℕ → ℕ) (c : Content) (store : IsStore types hand c) (n i w : ℕ) (vector : TyId) (o : Object) (there : at c.objects n ≡ Some o) (within : LiesWithin types o.ty w vector) (lt : i < length o.slots)
    (item : TyId) (is_vector : parts_at types vector ≡ Vector item (parts_at types item)) (b : ℕ) (owned : owned_at c (record { object = n; index = i; word = w }) ≡ Some b) (index : ℕ) (small : index < size_of c b) where
  abbrev d : Content
  d = erased (parts_at types item) b index c

  abbrev region : Region
  region = record { object = n; word = w; ty = vector }

  -- what is beneath the buffer is beneath its owner
  gone_low : (m : ℕ) → Beneath (kinds_of types) c (all_of (b ∷ [])) m → Beneath (kinds_of types) c (foot_of types (record { object = n; word = w; ty = vector })) m
  gone_low m (forest.whole _ e) =
      subst (Beneath (kinds_of types) c (foot_of types region)) (one_there b m (let p = positive_is (times (b ∷ []) m) e in omega (arith, p))) (low types ordered hand c store n i w vector o there within lt item (parts_at types item) is_vector b owned)
  gone_low m (part q _ own) = let z = no_part (kinds_of types) (at c.objects q) m in absurd (omega (arith, z, own))
  gone_low m (under q _ lower own) = under q m (gone_low q lower) own

  pub apart : Beneath (kinds_of types) c (all_of (b ∷ [])) n → ⊥
  apart lower = not_itself types ordered hand c store region (gone_low n lower)

  pub erased_beneath : Touches (kinds_of types) (all_of (b ∷ [])) c (erased (parts_at types item) b index c)
  erased_beneath =
      erase_touches types ordered hand c store n i w vector o there within lt item (parts_at types item) is_vector b owned index small (all_of (b ∷ []))
      (forest.whole b (is_positive (times (b ∷ []) b) (let s = one_same b b refl in omega (arith, s))))

  pub erased_within : Touches (kinds_of types) (foot_of types (record { object = n; word = w; ty = vector })) c (erased (parts_at types item) b index c)
  erased_within =
      erase_touches types ordered hand c store n i w vector o there within lt item (parts_at types item) is_vector b owned index small (foot_of types region)
      (low types ordered hand c store n i w vector o there within lt item (parts_at types item) is_vector b owned)

  born : n < c.births
  born = store.forest.births n o there

  pub kept : Keeps (kinds_of types) (λ u. false) (erased (parts_at types item) b index c) n o
  kept = kept_object (kinds_of types) (all_of (b ∷ [])) c d n o erased_beneath born apart there

  pub still_owned : owned_at (erased (parts_at types item) b index c) (record { object = n; index = i; word = w }) ≡ Some b
  still_owned = owner_kept (kinds_of types) (all_of (b ∷ [])) c d n i w o erased_beneath born apart there (ap is_value owner) refl ∙ owned
    where
      nothing : (u : ℕ) → u ≡ u + 0
      nothing u = omega arith

      owner : kind_in (parts_at types o.ty) w ≡ kind_in (Vector item (parts_at types item)) 0
      owner = ap (kind_in (parts_at types o.ty)) (nothing w) ∙ within.words 0 (let e = ap width is_vector in omega (arith, e)) ∙ ap (λ (p : Parts). kind_in p 0) is_vector

  pub store_behind : IsStore types hand (erased (parts_at types item) b index c)
  store_behind = erase_store types ordered hand c store n i w vector o there within lt item (parts_at types item) is_vector b owned index small

  pub buffer_behind : (x : Object) × (at (erased (parts_at types item) b index c).objects b ≡ Some x)
  buffer_behind =
      buffer types ordered hand d store_behind n i w vector kept.object kept.there (subst (λ (id : TyId). LiesWithin types id w vector) (sym kept.type) within)
      (let size = size_on (kinds_of types) (all_of (b ∷ [])) c d n erased_beneath born apart in
      let one = ap (λ (x : Option Object). length (slots_if x)) kept.there in
      let two = ap (λ (x : Option Object). length (slots_if x)) there in
      omega (arith, size, one, two, lt))
      item (parts_at types item) is_vector b still_owned

-- ---- in a frame

module _ (types : Types) (f : Function) (rest : ℕ → ℕ) (inputs : Root → Option Region) (S : Fact → Type 0) (st : State) (k : IsKnownFrame types f rest inputs S st) (sigs : List Signature) (number : ℕ) (place : Place) (S' : Fact → Type 0) (s : Setting) (o : Operand) (free : is_const_place types f o ≡ false)
    (item : TyId) (is_vector : type_of types f o ≡ ty.Vector item) (x y : Location) (pointer_x : is_pointer (type_in types f x) ≡ true) (single_x : is_range (type_in types f x) ≡ false) (pointer : is_pointer (type_in types f y) ≡ true) (single : is_range (type_in types f y) ≡ false)
    (seen : IsSeenAs types (look_in types f y).target item) (right : IsRight sigs types number f place (Changes o (Erase x y)) S S') where
  solid : is_void (type_of types f o) ≡ false
  solid = ap is_void is_vector

  -- the fact on the position
  given_position : (p : Operand) (r : IsReached types f st (StandsAt inputs) (may_change types f) S p) → Closed sigs types f place (Changes p (Erase x y)) S S' → Contains (elements_of types f) (element.At (owned_place r.place)) → S' (fact_at (located y) (element.At (owned_place r.place)))
  given_position (named.Name l) r closed known =
      named_fact sigs types f place (Changes (named.Name l) (Erase x y)) S S' closed y (element.At (owned_place r.place))
      (subst (λ (a : AbsPlace). Contains (fact_at (located y) (element.At (owned_place a)) ∷ []) (fact_at (located y) (element.At (owned_place r.place)))) r.by (at_head (fact_at (located y) (element.At (owned_place r.place))) []))
      (pointer_listed types k.ordered k.once f k.shaped y pointer) known
  given_position (named.Through q members) r closed known =
      made_of sigs types f place (Changes (named.Through q members) (Erase x y)) S S' closed (fact_at (located q) (element.At r.by.0)) (fact_at (located y) (element.At (owned_place r.place))) r.by.1
      ((is_of_iff types f (fact_at (located y) (element.At (owned_place r.place)))).1 (pointer_listed types k.ordered k.once f k.shaped y pointer, known))
      (subst (λ b. Contains (facts_if b (located y) (position_in members (element.At r.by.0))) (fact_at (located y) (element.At (owned_place r.place)))) (sym (place_laws.refl (located q)))
      (subst (λ (a : AbsPlace). Contains (facts_at (located y) (Some (element.At (owned_place a)))) (fact_at (located y) (element.At (owned_place r.place)))) r.by.2 (at_head (fact_at (located y) (element.At (owned_place r.place))) [])))

  module _ (r : IsReached types f st (StandsAt inputs) (may_change types f) S o) where
    unmoved : MayLack types f inputs S st r.region.object → ⊥
    unmoved = owner_whole types f rest inputs S st k o r solid sigs number place (Changes o (Erase x y)) S' right (at_head o [])

    abbrev h : IsOpened types f rest inputs S st k o r (ty.Vector item) item
    h = vector_opened types f rest inputs S st k o r unmoved item is_vector

    -- where an element was erased, its position is the pointer's
    abbrev behind : ℕ → Content
    behind index = erased (parts_at types item) (vector_opened types f rest inputs S st k o r unmoved item is_vector).buffer index st.world.content

    erased_covered : (index : ℕ) → index < size_of st.world.content h.buffer → OnRight (pointed types f y (pointer_to (behind index) h.buffer index 0) (put_content (behind index) st)) (FrameCovered types f inputs S')
    erased_covered index small =
        pointed_over types k.ordered k.once f k.shaped k.short rest (put_content (behind index) st) store variables (λ z m e. object_named types f rest inputs S st k z m e) inputs k.given.each
        (may_change types f) (λ ro a stands. true_on types f rest inputs S st k (behind index) (change_spares types f rest inputs S st k o r (change_owning types f rest inputs S st k sigs number place S' o free right r h.type) (behind index) touch_within) variables ro a stands) S' y pointer (pointer_to (behind index) h.buffer index 0)
        (record {
          known = element.At (owned_place r.place);
          holds = given_position o r right.closed (opens_place types f rest inputs S st k o r item h.type).known;
          covers = element_pointed types (behind index) (RootStands types f (StandsAt inputs) st.cells) (may_change types f) r.place r.region r.index h.buffer holder.object item (opens_place types f rest inputs S st k o r item h.type).room
              (at_on types k.ordered (hand_of rest st) st.world.content (behind index) (store_of types f rest inputs S st k) (all_of (h.buffer ∷ [])) touch (RootStands types f (StandsAt inputs) st.cells) (RootStands types f (StandsAt inputs) st.cells) r.place r.region
              ((rooted_of types f rest inputs S st k).fits r.place.root) (λ a stands. stands) r.lies not_beneath)
              h.type holder.there owned (look_in types f y) seen (λ e. r.change free) (kinds_of types) (hand_of rest st) store.forest last.0 last.1 single index
              (let count = (elements_shut types f rest inputs S st k o r item is_vector unmoved index small).count last.0 last.1 in
              let size = ap (λ (q : Option Object). length (slots_if q)) (held types f rest inputs S st k o r item is_vector unmoved).1 in
              omega (arith, count, size, small));
        })
        (λ l v pointer_l ne e.
        let before = content_held types f rest inputs S st k (foot_of types r.region) spares (behind index) touch_within l v pointer_l e in
        operand_changed types k.ordered f (hand_of rest st) st (store_of types f rest inputs S st k) (StandsAt inputs) (may_change types f) (owning types f) (rooted_of types f rest inputs S st k) sigs place (Erase x y) S S' o r (change_owning types f rest inputs S st k sigs number place S' o free right r h.type) right.closed (behind index) touch_within
        (located l) (look_in types f l) v (not_located types f rest inputs S st k y l v pointer_l before ne) (k.covered l v pointer_l before))
        (λ m none e. pointer_nameless types f rest inputs S st k y pointer m none e)
      where
        within : LiesWithin types r.holder.ty r.region.word r.region.ty
        within = region_within types f rest inputs S st k o r

        parts_are : parts_at types r.region.ty ≡ Vector item (parts_at types item)
        parts_are = vector_parts types f rest inputs S st k o r item is_vector

        touch_within : Touches (kinds_of types) (foot_of types r.region) st.world.content (behind index)
        touch_within = erased_within types k.ordered (hand_of rest st) st.world.content (store_of types f rest inputs S st k) r.region.object r.index r.region.word r.region.ty r.holder r.there within r.small item parts_are h.buffer h.owned index small

        spares : Spares types f st (foot_of types r.region)
        spares = spares_reached types f rest inputs S st k o r (owner_free types f rest inputs S st k r.region.ty item h.type)

        variables : (z m : ℕ) → cell st z ≡ Some (Named m) → IsVariable (behind index) (local_type types f z) m
        variables z m e = variable_on types f rest inputs S st k (foot_of types r.region) spares (behind index) touch_within z m e

        touch : Touches (kinds_of types) (all_of (h.buffer ∷ [])) st.world.content (behind index)
        touch = erased_beneath types k.ordered (hand_of rest st) st.world.content (store_of types f rest inputs S st k) r.region.object r.index r.region.word r.region.ty r.holder r.there within r.small item parts_are h.buffer h.owned index small

        not_beneath : Beneath (kinds_of types) st.world.content (all_of (h.buffer ∷ [])) r.region.object → ⊥
        not_beneath = apart types k.ordered (hand_of rest st) st.world.content (store_of types f rest inputs S st k) r.region.object r.index r.region.word r.region.ty r.holder r.there within r.small item parts_are h.buffer h.owned index small

        holder : Keeps (kinds_of types) (λ u. false) (behind index) r.region.object r.holder
        holder = kept types k.ordered (hand_of rest st) st.world.content (store_of types f rest inputs S st k) r.region.object r.index r.region.word r.region.ty r.holder r.there within r.small item parts_are h.buffer h.owned index small

        owned : owned_at (behind index) (record { object = r.region.object; index = r.index; word = r.region.word }) ≡ Some h.buffer
        owned = still_owned types k.ordered (hand_of rest st) st.world.content (store_of types f rest inputs S st k) r.region.object r.index r.region.word r.region.ty r.holder r.there within r.small item parts_are h.buffer h.owned index small

        store : IsStore types (hand_of rest st) (behind index)
        store = store_behind types k.ordered (hand_of rest st) st.world.content (store_of types f rest inputs S st k) r.region.object r.index r.region.word r.region.ty r.holder r.there within r.small item parts_are h.buffer h.owned index small

        last : (q : Object) × (at (behind index).objects h.buffer ≡ Some q)
        last = buffer_behind types k.ordered (hand_of rest st) st.world.content (store_of types f rest inputs S st k) r.region.object r.index r.region.word r.region.ty r.holder r.there within r.small item parts_are h.buffer h.owned index small

    -- what is done with the buffer
    with_buffer : (v : Pointer) → OnRight (erases types f (operand_parts types f o) (record { object = r.region.object; index = r.index; word = r.region.word }) v y st) (FrameCovered types f inputs S')
    with_buffer v =
        subst (λ (p : Parts). OnRight (erases types f p (record { object = r.region.object; index = r.index; word = r.region.word }) v y st) (FrameCovered types f inputs S')) (sym (vector_operand types f rest inputs S st k o r item is_vector))
        (subst (λ w. OnRight (on_got (got_or w (GotFault fault.Moved)) go) (FrameCovered types f inputs S')) (sym h.owned)
        (right_then (erasable st.world.content h.buffer v) (at_element h.buffer) (λ index. index < size_of st.world.content h.buffer) (FrameCovered types f inputs S')
        (right_got (erasable st.world.content h.buffer v) (λ index. index < size_of st.world.content h.buffer) (erasable_below st.world.content h.buffer v) (erasable_faultless st.world.content h.buffer v))
        erased_covered))
      where
        at_element : (b index : ℕ) → Effect
        at_element b index = pointed types f y (pointer_to (erased (parts_at types item) b index st.world.content) b index 0) (put_content (erased (parts_at types item) b index st.world.content) st)

        go : ℕ → Effect
        go b = on_got (erasable st.world.content b v) (at_element b)

  pub vector_erase : OnRight (does s types f (Changes o (Erase x y)) st) (FrameCovered types f inputs S')
  vector_erase =
      by_reach types f st (StandsAt inputs) (may_change types f) S o (reach_at types f rest inputs S st k right.closed.of o solid (λ q h. used_right sigs types number f place (Changes o (Erase x y)) S right.clean q h)) (λ spot. changed s types f (operand_parts types f o) spot (Erase x y) st)
      (FrameCovered types f inputs S')
      (λ r. subst (λ e. OnRight e (FrameCovered types f inputs S')) (sym (spot_is types f st (StandsAt inputs) (may_change types f) S o r (λ spot. changed s types f (operand_parts types f o) spot (Erase x y) st)))
      (right_then (iterator st.world.content (location_cell types f x st)) (λ v. erases types f (operand_parts types f o) (record { object = r.region.object; index = r.index; word = r.region.word }) v y st) (λ v. Unit {0}) (FrameCovered types f inputs S')
      (place_fit types f rest inputs S st k x pointer_x (read_right sigs types number f place (Changes o (Erase x y)) S right.clean x (at_head x [])) single_x (location_cell types f x st) refl)
      (λ v h. with_buffer r v)))
