-- The kinds of instructions that give a pointer a value, of a whole frame: there is no fault, and the facts behind them cover
-- all pointers.
use Rattle.std.proofs.Common.{◌≡◌, ◌≢◌, ℕ, true, false, List, [], Option, Some, None, refl, sym, ap, subst, ◌∙◌, arith}
use Rattle.std.specs.Prelude.{Contains}
use Rattle.std.proofs.lemmas.Bool.{false≢true}
use Rattle.life_types.specs.Pointees.{ty_of}
use Rattle.life_types.specs.TypeTests.{is_pointer, is_void}
use Rattle.life_types.specs.Types.{Types}
use Rattle.life_types.specs.declared.place.Place.{Place}
use Rattle.life_types.specs.declared.ty.Ty.{Ty}
use Rattle.life_types.specs.declared.ty.Ty.TheVariants as ty
use Rattle.life_types.specs.declared.ty.TyId.{TyId}
use Rattle.life_core.specs.declared.instr.Direction.{Direction}
use Rattle.life_core.specs.declared.operand.RangeEnd.{RangeEnd}
use Rattle.life_core.specs.declared.operand.Which.{Which}
use Rattle.life_core.specs.declared.operand.Which.TheVariants as which
use Rattle.life_core.specs.Function.{Function}
use Rattle.life_core.specs.Operands.{Location, Operand}
use Rattle.life_core.specs.Operands as named
use Rattle.life_core.specs.Step.{Advance, Aim, Cursor, Cut, Repoint, Step}
use Rattle.life_core.specs.Step as step
use Rattle.life_pset.specs.Elements.{locations_of}
use Rattle.life_pset.specs.Places.{owned_place}
use Rattle.life_pset.specs.Shapes.{has_buffer}
use Rattle.life_pset.specs.declared.element.AbsPlace.{AbsPlace}
use Rattle.life_pset.specs.declared.element.Element.{Element}
use Rattle.life_pset.specs.declared.element.Element.TheVariants as element
use Rattle.life_pset.specs.declared.element.Fact.{Fact}
use Rattle.life_pset.specs.declared.element.Root.{Root}
use Rattle.life_contract.specs.Located.{is_location, located}
use Rattle.life_contract.specs.Signatures.{Signature}
use Rattle.life_proper.specs.OperandTypes.{aims_at, is_range, same, seen_element, takes}
use Rattle.life_proper.specs.Placed.{is_const_place, type_in, type_of}
use Rattle.life_rules.specs.Carrying.{from_none, is_gone, makes, named_in, reached_from, writes}
use Rattle.life_rules.specs.Diagnosing.{used_in, uses, owners}
use Rattle.life_rules.specs.Matching.{fact_at, facts_at}
use Rattle.life_rules.proofs.Giving.{at_head}
use Rattle.life_store.specs.Doing.{does, on_character, owner_element, pointer_to, viewed, whole_of}
use Rattle.life_store.specs.Edits.{buffer_of, size_of}
use Rattle.life_store.specs.Effects.{Setting, on_got, on_pointer}
use Rattle.life_store.specs.Iterators.{at_index, end_index}
use Rattle.life_store.specs.Parts.{operand_type}
use Rattle.life_store.specs.Places.{location_cell, operand_word, pointed}
use Rattle.life_store.specs.State.{Pointer, Null, Static, Cell, Points, State}
use Rattle.life_forest.specs.FrameTypes.{seen_in}
use Rattle.life_forest.specs.Kinds.{kinds_of}
use Rattle.life_forest.proofs.OneNumber.{also_solid, number_of_type}
use Rattle.life_forest.proofs.SeenTypes.{aims_seen, pointer_solid, range_points}
use Rattle.life_forest.proofs.TypedSteps.{operand_of}
use Rattle.life_cover.specs.Covers.{Holds, IsCovered, IsSeenAs, Reseen}
use Rattle.life_cover.specs.Frames.{FrameCovered, RootStands, look_in}
use Rattle.life_cover.proofs.Fresh.{at_position, position_holds}
use Rattle.life_cover.proofs.KnownFrames.{IsKnownFrame, IsRight, hand_of, object_named, reach_at, rooted_of, store_of, used_right}
use Rattle.life_cover.proofs.Listing.{null_known}
use Rattle.life_cover.proofs.LocationsListed.{pointer_listed}
use Rattle.life_cover.proofs.Looks.{HasItem, aims_single, element_ranged, element_reseen, seen_at, takes_look}
use Rattle.life_cover.proofs.NumberKinds.{character_right}
use Rattle.life_cover.proofs.Making.{CanOpen}
use Rattle.life_cover.proofs.Opening.{IsOpened, opened, opens_place, place_known}
use Rattle.life_cover.proofs.OwnerPointers.{begin_kind, element_kind as owner_element_kind, given_fact, whole_kind}
use Rattle.life_cover.proofs.PointerKinds.{advance_kind, cursor_kind, cut_kind, element_kind}
use Rattle.life_cover.proofs.Pointers.{OnRight, repointed_covered}
use Rattle.life_cover.proofs.PointedPlaces.{pointer_given}
use Rattle.life_cover.proofs.Reaching.{IsReached, Reach, by_reach, on_place_right}
use Rattle.life_cover.proofs.Takes.{named_fact, taken_fact}
use Rattle.life_cover.proofs.Lacking.{owner_whole}
use Rattle.life_cover.specs.Inputs.{may_change, owning, StandsAt}
use Rattle.life_cover.specs.Kills.{Closed}
use Rattle.life_cover.specs.Regions.{Region}

module _ (types : Types) (f : Function) (rest : ℕ → ℕ) (inputs : Root → Option Region) (S : Fact → Type 0) (st : State) (k : IsKnownFrame types f rest inputs S st) (sigs : List Signature) (n : ℕ) (place : Place) (S' : Fact → Type 0) (p : Location) (pointer : is_pointer (type_in types f p) ≡ true) where
  -- p is given what is covered, and nothing is killed
  pub given : (i : Step) → IsRight sigs types n f place i S S' → ((e : Element) → is_gone types f place i e ≡ false) → ((a : AbsPlace) → writes i a ≡ is_location p a) → (v : Pointer)
      → IsCovered types st.world.content (RootStands types f (StandsAt inputs) st.cells) (may_change types f) S' (located p) (look_in types f p) v → OnRight (pointed types f p v st) (FrameCovered types f inputs S')
  given i right gone written v covers = pointer_given types f rest inputs S st k p pointer sigs place i S' right.closed gone written v covers

  -- .. as the rules leave it
  give : (i : Step) → Closed sigs types f place i S S' → ((e : Element) → is_gone types f place i e ≡ false) → ((a : AbsPlace) → writes i a ≡ is_location p a) → (v : Pointer)
      → IsCovered types st.world.content (RootStands types f (StandsAt inputs) st.cells) (may_change types f) S' (located p) (look_in types f p) v → OnRight (pointed types f p v st) (FrameCovered types f inputs S')
  give i closed gone written v covers = pointer_given types f rest inputs S st k p pointer sigs place i S' closed gone written v covers

  listed : Contains (locations_of types f) (located p)
  listed = pointer_listed types k.ordered k.once f k.shaped p pointer

  -- ---- null, and what never ends

  pub null_kind : (s : Setting) → IsRight sigs types n f place (Aim p named.Null) S S' → OnRight (does s types f (Aim p named.Null) st) (FrameCovered types f inputs S')
  null_kind s right =
      given (Aim p named.Null) right (λ e. refl) (λ a. refl) Null
      (record { known = element.Null; holds = named_fact sigs types f place (Aim p named.Null) S S' right.closed p element.Null (at_head (fact_at (located p) element.Null) []) listed (null_known types k.ordered f); covers = tt })

  pub text_kind : (s : Setting) (number : ℕ) → IsRight sigs types n f place (Aim p (named.Text number)) S S' → OnRight (does s types f (Aim p (named.Text number)) st) (FrameCovered types f inputs S')
  text_kind s number right = given (Aim p (named.Text number)) right (λ e. refl) (λ a. refl) (viewed s.texts number) tt

  pub empty_kind : (s : Setting) → IsRight sigs types n f place (Aim p named.Empty) S S' → OnRight (does s types f (Aim p named.Empty) st) (FrameCovered types f inputs S')
  empty_kind s right = given (Aim p named.Empty) right (λ e. refl) (λ a. refl) (Static (record { text = None; index = 0; count = 0 })) tt

  -- ---- a place

  module _ (o : Operand) where
    -- what the pointer aims at has its target's type
    place_seen : aims_at types (type_in types f p) (type_of types f o) ≡ true → Reseen types (operand_type types f o) (look_in types f p).target
    place_seen aims =
        let seen = aims_seen types k.ordered k.once (type_in types f p) (type_of types f o) aims in
        let of = operand_of types k.ordered k.once 0 [] f k.shaped o (type_of types f o) refl (also_solid (ty_of types seen.target) (type_of types f o) seen.is) in
        λ id h. subst (λ (t : Option TyId). IsSeenAs types t id)
        (of.is ∙ ap Some (sym (number_of_type types k.once seen.target of.number (type_of types f o) seen.is of.there)) ∙ sym seen.seen ∙ sym (seen_at types k.ordered k.once f k.shaped p (type_in types f p) refl (pointer_solid (type_in types f p) pointer))) h

    pub place_kind : (s : Setting) → IsRight sigs types n f place (Aim p (named.Place o)) S S' → is_void (type_of types f o) ≡ false → aims_at types (type_in types f p) (type_of types f o) ≡ true → ((look_in types f p).constant ≡ false → is_const_place types f o ≡ false)
        → OnRight (does s types f (Aim p (named.Place o)) st) (FrameCovered types f inputs S')
    place_kind s right solid aims const =
        on_place_right types f st (StandsAt inputs) (may_change types f) S o (reach_at types f rest inputs S st k right.closed.of o solid (λ q used. used_right sigs types n f place i S right.clean q used))
        (λ m j object. pointed types f p (pointer_to st.world.content m j (operand_word types f o st)) st) (λ c. on_character s.texts c (λ z. pointed types f p (at_index 0 c.index (Static c)) st)) (FrameCovered types f inputs S')
        (λ r. given i right (λ e. refl) (λ a. refl) (pointer_to st.world.content r.region.object r.index (operand_word types f o st))
        (record {
          known = element.At r.place;
          holds = given_fact types f st (StandsAt inputs) (may_change types f) sigs place i S S' false p o r right.closed refl (λ x. refl) listed (place_known types f rest inputs S st k o r);
          covers = record {
            region = r.region;
            lies = r.lies;
            object = refl;
            word = r.word;
            type = place_seen aims r.region.ty r.seen;
            change = λ e. r.change (const e);
            holds = subst (λ b. Holds st.world.content b (at_position st.world.content r.region.object r.index (operand_word types f o st))) (sym (aims_single types (type_in types f p) (type_of types f o) aims))
                (position_holds (kinds_of types) (hand_of rest st) st.world.content (store_of types f rest inputs S st k).forest r.region.object r.holder r.there r.index (operand_word types f o st) (let small = r.small in omega (arith, small)));
          };
        }))
        (λ c single. character_right s.texts c (λ z. pointed types f p (at_index 0 c.index (Static c)) st) (FrameCovered types f inputs S')
        (λ z. given i right (λ e. refl) (λ a. refl) (at_index 0 c.index (Static c)) tt))
      where
        i : Step
        i = Aim p (named.Place o)

    -- ---- into an owner

    module _ (u : Ty) (is : type_of types f o ≡ u) (item : HasItem types k.ordered k.once u (look_in types f p).target) where
      solid_owner : is_void (type_of types f o) ≡ false
      solid_owner = ap is_void is ∙ go u item.buffer
        where
          go : (t : Ty) → has_buffer t ≡ true → is_void t ≡ false
          go ty.Text h = refl
          go (ty.Vector element) h = refl
          go _ h = absurd (false≢true h)

      module _ (i : Step) (right : IsRight sigs types n f place i S S') (none : from_none sigs types f place i ≡ facts_at (located p) (named_in true o)) (one : (x : Fact) → makes sigs types f place i x ≡ reached_from p true o x) (uses_it : Contains (owners i) o)
          (r : IsReached types f st (StandsAt inputs) (may_change types f) S o) where
        has : IsOpened types f rest inputs S st k o r u item.item
        has = opened types f rest inputs S st k o r (owner_whole types f rest inputs S st k o r solid_owner sigs n place i S' right uses_it) u is item.item item.type item.buffer

        can : CanOpen types k.ordered f k.shaped k.short st.world.content st.cells (object_named types f rest inputs S st k) inputs k.given.each r.place
        can = opens_place types f rest inputs S st k o r item.item has.type

        into : S' (fact_at (located p) (element.At (owned_place r.place)))
        into = given_fact types f st (StandsAt inputs) (may_change types f) sigs place i S S' true p o r right.closed none one listed can.known

      reach : (i : Step) → IsRight sigs types n f place i S S' → ((q : Location) → Contains (used_in o) q → Contains (uses i) q) → Reach types f st (StandsAt inputs) (may_change types f) S o
      reach i right used = reach_at types f rest inputs S st k right.closed.of o solid_owner (λ q h. used_right sigs types n f place i S right.clean q (used q h))

      pub whole_aim_kind : (s : Setting) → IsRight sigs types n f place (Aim p (named.Whole o)) S S' → is_range (type_in types f p) ≡ true → ((look_in types f p).constant ≡ false → is_const_place types f o ≡ false) → OnRight (does s types f (Aim p (named.Whole o)) st) (FrameCovered types f inputs S')
      whole_aim_kind s right ranged const =
          by_reach types f st (StandsAt inputs) (may_change types f) S o (reach i right (λ q h. h)) (λ spot. on_got (buffer_of st.world.content spot) (λ b. pointed types f p (whole_of st.world.content b) st)) (FrameCovered types f inputs S')
          (λ r. let h = has i right refl (λ x. refl) (at_head o []) r in
          whole_kind types k.ordered f (hand_of rest st) st (store_of types f rest inputs S st k) (StandsAt inputs) (may_change types f) (owning types f) (rooted_of types f rest inputs S st k) sigs place S S' o r h.typed h.buffer h.owned s
          p item.item h.object h.lives h.type item.seen (λ e. r.change (const e)) (can i right refl (λ x. refl) (at_head o []) r).room give ranged right.closed (into i right refl (λ x. refl) (at_head o []) r))
        where
          i : Step
          i = Aim p (named.Whole o)

      pub owner_cursor_kind : (s : Setting) (end : RangeEnd) → IsRight sigs types n f place (Cursor p (named.Owner o) end) S S' → is_range (type_in types f p) ≡ false → ((look_in types f p).constant ≡ false → is_const_place types f o ≡ false) → OnRight (does s types f (Cursor p (named.Owner o) end) st) (FrameCovered types f inputs S')
      owner_cursor_kind s end right single const =
          by_reach types f st (StandsAt inputs) (may_change types f) S o (reach i right (λ q h. h))
          (λ spot. on_got (buffer_of st.world.content spot) (λ b. pointed types f p (pointer_to st.world.content b (end_index end (size_of st.world.content b)) 0) st)) (FrameCovered types f inputs S')
          (λ r. let h = has i right refl (λ x. refl) (at_head o []) r in
          begin_kind types k.ordered f (hand_of rest st) st (store_of types f rest inputs S st k) (StandsAt inputs) (may_change types f) (owning types f) (rooted_of types f rest inputs S st k) sigs place S S' o r h.typed h.buffer h.owned s
          p item.item h.object h.lives h.type item.seen (λ e. r.change (const e)) (can i right refl (λ x. refl) (at_head o []) r).room give end single right.closed (into i right refl (λ x. refl) (at_head o []) r))
        where
          i : Step
          i = Cursor p (named.Owner o) end

      pub owner_item_kind : (s : Setting) (w : Which) → w ≢ which.Target → IsRight sigs types n f place (step.Element p (named.Owner o) w) S S' → is_range (type_in types f p) ≡ false → ((look_in types f p).constant ≡ false → is_const_place types f o ≡ false)
          → OnRight (does s types f (step.Element p (named.Owner o) w) st) (FrameCovered types f inputs S')
      owner_item_kind s w item_of right single const =
          by_reach types f st (StandsAt inputs) (may_change types f) S o (reach i right (λ q h. h)) (λ spot. owner_element types f p spot w st) (FrameCovered types f inputs S')
          (λ r. let h = has i right refl (λ x. refl) (at_head o []) r in
          owner_element_kind types k.ordered f (hand_of rest st) st (store_of types f rest inputs S st k) (StandsAt inputs) (may_change types f) (owning types f) (rooted_of types f rest inputs S st k) sigs place S S' o r h.typed h.buffer h.owned s
          p item.item h.object h.lives h.type item.seen (λ e. r.change (const e)) (can i right refl (λ x. refl) (at_head o []) r).room give w item_of single right.closed (into i right refl (λ x. refl) (at_head o []) r))
        where
          i : Step
          i = step.Element p (named.Owner o) w

  -- ---- another pointer

  module _ (q : Location) (pointer_q : is_pointer (type_in types f q) ≡ true) (there : (v : Pointer) × (location_cell types f q st ≡ Some (Points v))) where
    pub repoint_kind : (s : Setting) → IsRight sigs types n f place (Repoint p q) S S' → takes types (type_in types f p) (type_in types f q) ≡ true → OnRight (does s types f (Repoint p q) st) (FrameCovered types f inputs S')
    repoint_kind s right alike =
        let look = takes_look types k.ordered k.once f k.shaped p q alike in
        subst (λ (v : Option Cell). OnRight (on_pointer v (λ u. pointed types f p u st)) (FrameCovered types f inputs S')) (sym there.1)
        (given (Repoint p q) right (λ e. refl) (λ a. refl) there.0
        (repointed_covered types st.world.content (RootStands types f (StandsAt inputs) st.cells) (may_change types f) S S' (located q) (located p) (look_in types f q) (look_in types f p) look.target look.constant (sym look.ranged)
        (λ e h. taken_fact sigs types f place (Repoint p q) S S' right.closed p q (λ x. refl) listed e h) there.0 (k.covered q there.0 pointer_q there.1)))

    pub advances_kind : (s : Setting) (r : ℕ) (way : Direction) → IsRight sigs types n f place (Advance p q r way) S S' → takes types (type_in types f p) (type_in types f q) ≡ true → is_range (type_in types f p) ≡ false
        → OnRight (does s types f (Advance p q r way) st) (FrameCovered types f inputs S')
    advances_kind s r way right alike single =
        let look = takes_look types k.ordered k.once f k.shaped p q alike in
        advance_kind types f (hand_of rest st) st (store_of types f rest inputs S st k).forest (StandsAt inputs) (may_change types f) sigs n place S S' k.covered p q there.0 pointer_q there.1 listed look.target look.constant s
        give r way right.clean right.closed (look.ranged ∙ single) single

    pub cuts_kind : (s : Setting) (r : ℕ) (count : Option ℕ) → IsRight sigs types n f place (Cut p q r count) S S' → takes types (type_in types f p) (type_in types f q) ≡ true → is_range (type_in types f p) ≡ true
        → OnRight (does s types f (Cut p q r count) st) (FrameCovered types f inputs S')
    cuts_kind s r count right alike ranged =
        let look = takes_look types k.ordered k.once f k.shaped p q alike in
        cut_kind types f (hand_of rest st) st (store_of types f rest inputs S st k).forest (StandsAt inputs) (may_change types f) sigs n place S S' k.covered p q there.0 pointer_q there.1 listed look.target look.constant s
        give r count right.clean right.closed (look.ranged ∙ ranged) ranged

    -- ---- an element, or an end, of a span or a view

    module _ (target : TyId) (sees : seen_in types (Some (type_in types f p)) ≡ Some target) (alike : same (ty_of types target) (seen_element types (type_in types f q)) ≡ true) (constant : (look_in types f p).constant ≡ false → (look_in types f q).constant ≡ false)
        (single : is_range (type_in types f p) ≡ false) where
      ranged : is_range (type_in types f q) ≡ true
      ranged = element_ranged types (type_in types f q) target alike

      reseen : Reseen types (look_in types f q).target (look_in types f p).target
      reseen id h =
          subst (λ (t : Option TyId). IsSeenAs types t id) (sym sees ∙ sym (seen_at types k.ordered k.once f k.shaped p (type_in types f p) refl (pointer_solid (type_in types f p) pointer)))
          (element_reseen types k.ordered k.once (type_in types f q) target alike id
          (subst (λ (t : Option TyId). IsSeenAs types t id) (seen_at types k.ordered k.once f k.shaped q (type_in types f q) refl (pointer_solid (type_in types f q) (range_points (type_in types f q) ranged))) h))

      pub seen_item_kind : (s : Setting) (w : Which) → IsRight sigs types n f place (step.Element p (named.Pointer q) w) S S' → OnRight (does s types f (step.Element p (named.Pointer q) w) st) (FrameCovered types f inputs S')
      seen_item_kind s w right =
          element_kind types f (hand_of rest st) st (store_of types f rest inputs S st k).forest (StandsAt inputs) (may_change types f) sigs n place S S' k.covered p q there.0 pointer_q there.1 listed reseen constant s
          give w right.clean right.closed ranged single

      pub seen_cursor_kind : (s : Setting) (end : RangeEnd) → IsRight sigs types n f place (Cursor p (named.Pointer q) end) S S' → OnRight (does s types f (Cursor p (named.Pointer q) end) st) (FrameCovered types f inputs S')
      seen_cursor_kind s end right =
          cursor_kind types f (hand_of rest st) st (store_of types f rest inputs S st k).forest (StandsAt inputs) (may_change types f) sigs n place S S' k.covered p q there.0 pointer_q there.1 listed reseen constant s
          give end right.clean right.closed ranged single
