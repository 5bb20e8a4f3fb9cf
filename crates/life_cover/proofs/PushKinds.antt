-- An object is pushed to a vector, by the vector's name or through a pointer, and gives its value over: there is no fault, and as no fact points
-- into what is given over, the facts behind it cover all pointers of the frame.
use Rattle.std.proofs.Common.{◌≡◌, ◌≢◌, inl, inr, ⊎_elim, ℕ, ◌<◌, false, List, [], ◌∷◌, Option, Some, refl, sym, ap, subst, ◌∙◌, arith, ◌⊎◌, true}
use Rattle.std.specs.Prelude.{slice_get, slice_set}
use Rattle.std.proofs.lemmas.Bool.{false≢true}
use Rattle.life_types.specs.TypeTests.{is_pointer, is_void}
use Rattle.life_types.specs.Types.{Types}
use Rattle.life_types.specs.declared.place.Place.{Place}
use Rattle.life_types.specs.declared.ty.Ty.TheVariants as ty
use Rattle.life_types.specs.declared.ty.TyId.{TyId}
use Rattle.life_core.specs.Function.{Function}
use Rattle.life_core.specs.Operands.{Location, Operand}
use Rattle.life_core.specs.Step.{Changes, PushBack}
use Rattle.life_pset.specs.Places.{path, under}
use Rattle.life_pset.specs.declared.element.AbsPlace.{AbsPlace}
use Rattle.life_pset.specs.declared.element.Fact.{Fact}
use Rattle.life_pset.specs.declared.element.Root.{Root}
use Rattle.life_pset.specs.declared.element.Root.TheVariants as root
use Rattle.life_contract.specs.Located.{located}
use Rattle.life_contract.specs.Signatures.{Signature}
use Rattle.life_proper.specs.Placed.{is_const_place, type_in, type_of}
use Rattle.life_rules.specs.Carrying.{writes}
use Rattle.life_store.specs.Cells.{at}
use Rattle.life_store.specs.Content.{Content}
use Rattle.life_store.specs.Doing.{changed, does, edits, pushes}
use Rattle.life_store.specs.Edits.{Push, edited, pushed}
use Rattle.life_store.specs.Effects.{Attempt, Got, GotTrap, GotFault, GotLost, Effect, Next, Setting, cell, got_or, on_got, on_next, put_cell, put_content}
use Rattle.life_store.specs.Owners.{consumed}
use Rattle.life_store.specs.Parts.{Parts, Vector, local_type, operand_parts, parts_at, parts_if}
use Rattle.life_store.specs.Places.{location_cell}
use Rattle.life_store.specs.State.{Cell, Empty, Named, Pointer, Points, State}
use Rattle.life_store.specs.declared.run.FaultKind.TheVariants as fault
use Rattle.life_store.proofs.MapLemmas.{one_or_apart}
use Rattle.life_forest.specs.Forest.{Beneath, Touches, all_of, part, under as further, whole}
use Rattle.life_forest.specs.Kinds.{kinds_of}
use Rattle.life_forest.specs.Owned.{every, owns_at, times}
use Rattle.life_forest.proofs.Apart as feet
use Rattle.life_forest.proofs.Below.{no_part, positive_is}
use Rattle.life_forest.proofs.Counting.{one_there}
use Rattle.life_forest.proofs.Steps.{alive_le, beneath_more}
use Rattle.life_cover.proofs.Sparing.{local_low}
use Rattle.life_cover.proofs.Writing.{change_owning}
use Rattle.life_cover.specs.Frames.{FrameCovered, RootStands, look_in}
use Rattle.life_cover.proofs.HeldCells.{put_held}
use Rattle.life_cover.proofs.MemberWords.{Spares, held_before, spares_at}
use Rattle.life_cover.proofs.SparedPointers.{owner_free, spares_reached}
use Rattle.life_cover.specs.Inputs.{frame_foot, may_change, owning, StandsAt}
use Rattle.life_cover.specs.Kills.{Guards, IsUnnamed, Names}
use Rattle.life_cover.specs.Regions.{IsAt, Region, foot_of}
use Rattle.life_cover.specs.Lacking.{MayLack}
use Rattle.life_cover.proofs.Buffers.{own}
use Rattle.life_cover.proofs.Guarding.{under_place}
use Rattle.life_cover.proofs.HeldElements.{vector_operand}
use Rattle.life_cover.proofs.Inside.{Inside, lies_inside, region_within as within_region}
use Rattle.life_cover.proofs.Killing.{cover_on}
use Rattle.life_cover.proofs.KnownFrames.{IsKnownFrame, IsRight, hand_of, reach_at, rooted_of, store_of, used_right}
use Rattle.life_cover.proofs.Locals.{named_free, named_unowned, two_named}
use Rattle.life_cover.proofs.Opening.{IsOpened, vector_opened}
use Rattle.life_cover.proofs.OwnerKinds.{operand_left, pushed_faultless, right_got, right_more}
use Rattle.life_cover.proofs.Pointers.{IfRight, OnRight}
use Rattle.life_cover.proofs.Putting.{set_other}
use Rattle.life_cover.proofs.Reaching.{IsReached, by_reach, spot_is}
use Rattle.life_cover.proofs.PushedObjects.{pushed_foot, pushed_touches}
use Rattle.life_cover.proofs.Lacking.{owner_whole}
use Rattle.life_rules.proofs.Giving.{at_head}

-- what is beneath both is beneath one
pub split : (types : Types) (c : Content) (r : Region) (m n : ℕ) → Beneath (kinds_of types) c (pushed_foot types r m) n → Beneath (kinds_of types) c (foot_of types r) n ⊎ Beneath (kinds_of types) c (all_of (m ∷ [])) n
split types c r m n (whole _ e) = inr (whole n e)
split types c r m n (part q _ own) = inl (part q n own)
split types c r m n (further q _ low own) = ⊎_elim (λ l. inl (further q n l own)) (λ l. inr (further q n l own)) (split types c r m q low)

-- what is beneath an object is it, or owned
itself_or_owned : (types : Types) (c : Content) (m n : ℕ) → Beneath (kinds_of types) c (all_of (m ∷ [])) n → (m ≡ n) ⊎ ((q : ℕ) × (0 < owns_at (kinds_of types) c every q n))
itself_or_owned types c m n (whole _ e) = inl (one_there m n (let p = positive_is (times (m ∷ []) n) e in omega (arith, p)))
itself_or_owned types c m n (part q _ own) = let z = no_part (kinds_of types) (at c.objects q) n in absurd (omega (arith, z, own))
itself_or_owned types c m n (further q _ low own) = inr (q, own)

-- ---- in a frame

module _ (types : Types) (f : Function) (rest : ℕ → ℕ) (inputs : Root → Option Region) (S : Fact → Type 0) (st : State) (k : IsKnownFrame types f rest inputs S st) (x m : ℕ) (named : cell st x ≡ Some (Named m)) (unnamed : IsUnnamed S x) where
  -- so another local's object isn't beneath what is given over
  pub other_free : (y n : ℕ) → x ≢ y → slice_get st.cells y ≡ Some (Named n) → Beneath (kinds_of types) st.world.content (all_of (m ∷ [])) n → ⊥
  other_free y n ne e low = ⊎_elim same (λ owned. named_unowned types f rest st k.stands.store k.stands.frame y n owned.0 e owned.1) (itself_or_owned types st.world.content m n low)
    where
      same : m ≡ n → ⊥
      same is =
          let two = two_named st.cells x y n ne (subst (λ j. slice_get st.cells x ≡ Some (Named j)) is named) e in
          let held = k.stands.store.forest.held n in
          let one = alive_le (kinds_of types) st.world.content n in
          omega (arith, two, held, one)

  -- nor is anything of it
  region_free : (y : ℕ) (a b : Region) → x ≢ y → slice_get st.cells y ≡ Some (Named a.object) → Inside types k.ordered (hand_of rest st) st.world.content (store_of types f rest inputs S st k) a b → Beneath (kinds_of types) st.world.content (all_of (m ∷ [])) b.object → ⊥
  region_free y a b ne e (inl s) low = other_free y a.object ne e (subst (Beneath (kinds_of types) st.world.content (all_of (m ∷ []))) s.object low)
  region_free y a b ne e (inr inner) low = feet.apart (kinds_of types) (hand_of rest st) st.world.content (store_of types f rest inputs S st k).forest (all_of (m ∷ [])) (foot_of types a) feet_apart b.object low inner
    where
      feet_apart : feet.Apart (kinds_of types) st.world.content (all_of (m ∷ [])) (foot_of types a)
      feet_apart = record {
        wholes = λ n h beneath.
            named_free types f rest st k.stands.store k.stands.frame x n a (subst (λ j. slice_get st.cells x ≡ Some (Named j)) (one_there m n (let p = positive_is (times (m ∷ []) n) h in omega (arith, p))) named) beneath;
        others = λ n h beneath. false≢true h;
        parts = λ q w h g. false≢true h;
        holder = λ q w h beneath. false≢true h;
        other_holder = λ q w h beneath. other_free y a.object ne e (subst (Beneath (kinds_of types) st.world.content (all_of (m ∷ []))) (within_region types a q w h).object beneath);
      }

  -- nor is anything behind an input
  start_free : (ro : Root) (a : Region) → StandsAt inputs ro a → Beneath (kinds_of types) st.world.content (all_of (m ∷ [])) a.object → ⊥
  start_free ro a stands low =
      k.given.free ro a stands (beneath_more (kinds_of types) (hand_of rest st) st.world.content (store_of types f rest inputs S st k).forest (all_of (m ∷ [])) (frame_foot types f inputs st.cells) a.object
      (record { whole = λ n lt e. subst (Beneath (kinds_of types) st.world.content (frame_foot types f inputs st.cells)) (one_there m n (let p = positive_is (times (m ∷ []) n) e in omega (arith, p))) (local_low types f rest inputs S st k x m named); part = λ q lt. inr (λ w e. absurd (false≢true e)) })
      (k.given.born ro a stands) low)

  input_free : (ro : Root) (a b : Region) → StandsAt inputs ro a → Inside types k.ordered (hand_of rest st) st.world.content (store_of types f rest inputs S st k) a b → Beneath (kinds_of types) st.world.content (all_of (m ∷ [])) b.object → ⊥
  input_free ro a b stands (inl s) low = start_free ro a stands (subst (Beneath (kinds_of types) st.world.content (all_of (m ∷ []))) s.object low)
  input_free ro a b stands (inr inner) low = feet.apart (kinds_of types) (hand_of rest st) st.world.content (store_of types f rest inputs S st k).forest (all_of (m ∷ [])) (foot_of types a) feet_apart b.object low inner
    where
      feet_apart : feet.Apart (kinds_of types) st.world.content (all_of (m ∷ [])) (foot_of types a)
      feet_apart = record {
        wholes = λ n h beneath.
            named_free types f rest st k.stands.store k.stands.frame x n a (subst (λ j. slice_get st.cells x ≡ Some (Named j)) (one_there m n (let p = positive_is (times (m ∷ []) n) h in omega (arith, p))) named) beneath;
        others = λ n h beneath. false≢true h;
        parts = λ q w h g. false≢true h;
        holder = λ q w h beneath. false≢true h;
        other_holder = λ q w h beneath. start_free ro a stands (subst (Beneath (kinds_of types) st.world.content (all_of (m ∷ []))) (within_region types a q w h).object beneath);
      }

  -- a fact's place is elsewhere
  pub elsewhere : (a : AbsPlace) (r : Region) → Names S a → IsAt types st.world.content (RootStands types f (StandsAt inputs) st.cells) a r → Beneath (kinds_of types) st.world.content (all_of (m ∷ [])) r.object → ⊥
  elsewhere a r names at_r low = go a.root refl at_r.stands
    where
      inside : Inside types k.ordered (hand_of rest st) st.world.content (store_of types f rest inputs S st k) at_r.start r
      inside = lies_inside types k.ordered (hand_of rest st) st.world.content (store_of types f rest inputs S st k) (path a) at_r.start r ((rooted_of types f rest inputs S st k).fits a.root at_r.start at_r.stands) at_r.lies

      go : (ro : Root) → a.root ≡ ro → RootStands types f (StandsAt inputs) st.cells ro at_r.start → ⊥
      go (root.Input q member) e stands = input_free (root.Input q member) at_r.start r stands inside low
      go (root.Local y) e stands = one_or_apart x y (λ same. unnamed a names (e ∙ ap (λ z. root.Local z) (sym same))) (λ ne. region_free y at_r.start r ne stands.0 inside low)

  pub roots_left : (a : AbsPlace) (r : Region) → Names S a → RootStands types f (StandsAt inputs) st.cells a.root r → RootStands types f (StandsAt inputs) (slice_set st.cells x Empty) a.root r
  roots_left a r names stands = go a.root refl stands
    where
      go : (ro : Root) → a.root ≡ ro → RootStands types f (StandsAt inputs) st.cells ro r → RootStands types f (StandsAt inputs) (slice_set st.cells x Empty) ro r
      go (root.Input q member) e h = h
      go (root.Local y) e h = one_or_apart x y (λ same. absurd (unnamed a names (e ∙ ap (λ z. root.Local z) (sym same)))) (λ ne. (set_other st.cells x y Empty ne ∙ h.0, h.1, h.2))

  -- what other locals hold isn't touched with a value in which there is no pointer
  pub others_held : (a : Region) → Spares types f st (foot_of types a) → (d : Content) → Touches (kinds_of types) (pushed_foot types a m) st.world.content d → (l : Location) (v : Pointer) → is_pointer (type_in types f l) ≡ true → x ≢ l.local
      → location_cell types f l (put_content d st) ≡ Some (Points v) → location_cell types f l st ≡ Some (Points v)
  others_held a spares d touch l v pointer ne held =
      held_before types k.ordered k.once f k.shaped st (λ y n e. k.stands.frame.objects y n e) l pointer (hand_of rest st) (store_of types f rest inputs S st k) (pushed_foot types a m)
      (record {
        apart = λ n named_l low. ⊎_elim (λ inner. spares.apart l.local n named_l inner) (λ over. other_free l.local n ne named_l over) (split types st.world.content a m n low);
        words = (spares_at types k.ordered k.once f k.shaped st (λ y n e. k.stands.frame.objects y n e) l pointer (foot_of types a) spares).words;
      }) d touch v held

  module _ (sigs : List Signature) (number : ℕ) (place : Place) (S' : Fact → Type 0) (s : Setting) (o : Operand) (item : TyId) (is_vector : type_of types f o ≡ ty.Vector item) (typed : local_type types f x ≡ Some item) (right : IsRight sigs types number f place (Changes o (PushBack x)) S S') (free : is_const_place types f o ≡ false) where
    module _ (r : IsReached types f st (StandsAt inputs) (may_change types f) S o) where
      unmoved : MayLack types f inputs S st r.region.object → ⊥
      unmoved = owner_whole types f rest inputs S st k o r (ap is_void is_vector) sigs number place (Changes o (PushBack x)) S' right (at_head o [])

      abbrev h : IsOpened types f rest inputs S st k o r (ty.Vector item) item
      h = vector_opened types f rest inputs S st k o r unmoved item is_vector

      -- what is left is covered
      left_covered : (d : Content) → Touches (kinds_of types) (pushed_foot types r.region m) st.world.content d → FrameCovered types f inputs S' (put_cell x Empty (put_content d st))
      left_covered d touch l v pointer e =
          ⊎_elim (λ same. absurd (empty same.1))
          (λ other. cover_on types k.ordered (hand_of rest st) st.world.content d (store_of types f rest inputs S st k) (pushed_foot types r.region m) touch (RootStands types f (StandsAt inputs) st.cells) (RootStands types f (StandsAt inputs) (slice_set st.cells x Empty)) (may_change types f) (rooted_of types f rest inputs S st k).fits
          (under r.place) (writes (Changes o (PushBack x))) S S' (operand_left types f st (StandsAt inputs) (may_change types f) sigs place (PushBack x) S S' o r right.closed (RootStands types f (StandsAt inputs) st.cells)) guards (λ a b names free stands. roots_left a b names stands)
          (located l) (look_in types f l) v refl (k.covered l v pointer (others_held r.region (spares_reached types f rest inputs S st k o r (owner_free types f rest inputs S st k r.region.ty item h.type)) d touch l v pointer other.0 other.1)))
          (put_held types f (put_content d st) x Empty (λ n h. nameless n h) l v e)
        where
          empty : Empty ≡ Points v → ⊥
          empty e = cc

          nameless : (n : ℕ) → Empty ≡ Named n → ⊥
          nameless n e = cc

          guards : Guards types st.world.content (RootStands types f (StandsAt inputs) st.cells) S (under r.place) (pushed_foot types r.region m)
          guards a b names at_b low =
              ⊎_elim (λ inner. under_place types k.ordered (hand_of rest st) st.world.content (store_of types f rest inputs S st k) (RootStands types f (StandsAt inputs) st.cells) (owning types f) (rooted_of types f rest inputs S st k) r.place a r.region b (change_owning types f rest inputs S st k sigs number place S' o free right r h.type) r.lies at_b inner)
              (λ given. absurd (elsewhere a b names at_b given)) (split types st.world.content r.region m b.object low)

      -- the edit, and then the cell is empty
      after_edit : (a : Attempt Content) → IfRight a (λ d. FrameCovered types f inputs S' (put_cell x Empty (put_content d st))) → OnRight (on_next (on_got a (λ d. Next (put_content d st))) (λ after. Next (put_cell x Empty after))) (FrameCovered types f inputs S')
      after_edit (Got d) e = e
      after_edit (GotTrap kind) e = tt
      after_edit (GotFault kind) e = e
      after_edit GotLost e = tt

      object_pushed : OnRight (pushes s types f (operand_parts types f o) (record { object = r.region.object; index = r.index; word = r.region.word }) x (Some (Named m)) st) (FrameCovered types f inputs S')
      object_pushed =
          subst (λ (p : Parts). OnRight (pushes s types f p (record { object = r.region.object; index = r.index; word = r.region.word }) x (Some (Named m)) st) (FrameCovered types f inputs S')) (sym (vector_operand types f rest inputs S st k o r item is_vector))
          (subst (λ (p : Parts). OnRight (on_next (edits s (Vector item (parts_at types item)) (record { object = r.region.object; index = r.index; word = r.region.word }) (Push (consumed p m)) st) (λ after. Next (put_cell x Empty after))) (FrameCovered types f inputs S')) (sym (ap (parts_if types) typed))
          (subst (λ w. OnRight (on_next (on_got (got_or w (GotFault fault.Moved)) go) (λ after. Next (put_cell x Empty after))) (FrameCovered types f inputs S')) (sym h.owned)
          (after_edit (pushed s item (parts_at types item) (record { object = r.region.object; index = r.index; word = r.region.word }) h.buffer (consumed (parts_at types item) m) st.world.content)
          (right_more (pushed s item (parts_at types item) (record { object = r.region.object; index = r.index; word = r.region.word }) h.buffer (consumed (parts_at types item) m) st.world.content) (Touches (kinds_of types) (pushed_foot types r.region m) st.world.content)
          (λ d. FrameCovered types f inputs S' (put_cell x Empty (put_content d st)))
          (right_got (pushed s item (parts_at types item) (record { object = r.region.object; index = r.index; word = r.region.word }) h.buffer (consumed (parts_at types item) m) st.world.content) (Touches (kinds_of types) (pushed_foot types r.region m) st.world.content) (pushed_touches types f rest inputs S st k s o item is_vector x m named typed (right.unmoved x) r unmoved (change_owning types f rest inputs S st k sigs number place S' o free right r h.type))
          (pushed_faultless s item (parts_at types item) (record { object = r.region.object; index = r.index; word = r.region.word }) h.buffer (consumed (parts_at types item) m) st.world.content))
          left_covered))))
        where
          go : ℕ → Effect
          go b = on_got (edited s (Vector item (parts_at types item)) (record { object = r.region.object; index = r.index; word = r.region.word }) b (Push (consumed (parts_at types item) m)) st.world.content) (λ d. Next (put_content d st))

    pub vector_object : OnRight (does s types f (Changes o (PushBack x)) st) (FrameCovered types f inputs S')
    vector_object =
        by_reach types f st (StandsAt inputs) (may_change types f) S o (reach_at types f rest inputs S st k right.closed.of o (ap is_void is_vector) (λ q used. used_right sigs types number f place (Changes o (PushBack x)) S right.clean q used)) (λ spot. changed s types f (operand_parts types f o) spot (PushBack x) st)
        (FrameCovered types f inputs S')
        (λ r. subst (λ e. OnRight e (FrameCovered types f inputs S')) (sym (spot_is types f st (StandsAt inputs) (may_change types f) S o r (λ spot. changed s types f (operand_parts types f o) spot (PushBack x) st)))
        (subst (λ (v : Option Cell). OnRight (pushes s types f (operand_parts types f o) (record { object = r.region.object; index = r.index; word = r.region.word }) x v st) (FrameCovered types f inputs S')) (sym named) (object_pushed r)))
