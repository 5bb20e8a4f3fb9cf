-- A unique_ptr that is a local of a frame or a member of one is given an object that has what a temporary of the frame had; what it had ends. There
-- is no fault, the facts behind it cover all pointers of the frame, each vector and each string has its buffer, and what is touched lies beneath what
-- the frame names.
use Rattle.std.proofs.Common.{◌≡◌, ◌≢◌, ◌⊎◌, inr, ⊎_elim, ℕ, ◌+◌, ◌≤◌, ◌<◌, true, false, List, [], ◌∷◌, Option, Some, None, refl, sym, ap, subst, ◌∙◌, arith}
use Rattle.std.specs.Prelude.{ℤ, slice_get, slice_set}
use Rattle.std.proofs.lemmas.Bool.{false≢true}
use Rattle.life_types.specs.TypeTests.{is_pointer, is_unique}
use Rattle.life_types.specs.Types.{Types}
use Rattle.life_types.specs.declared.place.Place.{Place}
use Rattle.life_core.specs.declared.instr.Made.TheVariants as made
use Rattle.life_core.specs.Function.{Function}
use Rattle.life_core.specs.Operands.{Location}
use Rattle.life_core.specs.Step.{Make}
use Rattle.life_pset.specs.Elements.{changed, local_place}
use Rattle.life_pset.specs.Places.{under}
use Rattle.life_pset.specs.Shapes.{has_buffer}
use Rattle.life_pset.specs.declared.element.Element.TheVariants as element
use Rattle.life_pset.specs.declared.element.Fact.{Fact}
use Rattle.life_pset.specs.declared.element.Root.{Root}
use Rattle.life_contract.specs.Located.{located}
use Rattle.life_contract.specs.Signatures.{Signature}
use Rattle.life_proper.specs.Placed.{object_at, type_at, type_in}
use Rattle.life_rules.specs.Carrying.{writes}
use Rattle.life_rules.specs.Matching.{fact_at}
use Rattle.life_rules.proofs.Giving.{at_head}
use Rattle.life_store.specs.Cells.{at}
use Rattle.life_store.specs.Content.{Content, Object, Slot}
use Rattle.life_store.specs.Doing.{does, made_of, remade, replaced}
use Rattle.life_store.specs.Effects.{Attempt, Got, GotFault, GotLost, GotTrap, Next, Setting, cell, on_got, put_cell, put_content}
use Rattle.life_store.specs.Held.{owner_word}
use Rattle.life_store.specs.Kinds.{kind_in}
use Rattle.life_store.specs.Owners.{Words, consumed, object_with}
use Rattle.life_store.specs.Parts.{Parts, Unique, local_type, location_parts, parts_at, parts_if, width}
use Rattle.life_store.specs.State.{Cell, Empty, Named, Number, Points, State}
use Rattle.life_store.proofs.CellLemmas.{some_same}
use Rattle.life_forest.specs.Forest.{Touches, all_of, whole}
use Rattle.life_forest.specs.FrameTypes.{IsVariable}
use Rattle.life_forest.specs.Frames.{named_in}
use Rattle.life_forest.specs.Kinds.{kinds_of, owned_type, rank_of}
use Rattle.life_forest.specs.Owned.{every, owns, times}
use Rattle.life_forest.specs.Typed.{IsStore}
use Rattle.life_forest.proofs.Above.{above_apart, above_unowned, owner_above}
use Rattle.life_forest.proofs.Below.{is_positive, positive_is}
use Rattle.life_forest.proofs.Coming.{IfGot}
use Rattle.life_forest.proofs.Counting.{one_there}
use Rattle.life_forest.proofs.Feet.{and_all}
use Rattle.life_forest.proofs.Following.{in_hand}
use Rattle.life_forest.proofs.Frames.{less_in_hand, named_put}
use Rattle.life_forest.proofs.Given as given
use Rattle.life_forest.proofs.Steps.{touches_more, touches_then}
use Rattle.life_cover.specs.Buffered.{AreBut, HasBuffers, is_buffer_at}
use Rattle.life_cover.specs.Covers.{CoversOwner}
use Rattle.life_cover.specs.Frames.{FrameCovered, RootStands, look_in}
use Rattle.life_cover.specs.Inputs.{StandsAt, frame_foot, may_change, owning}
use Rattle.life_cover.specs.Kills.{Guards, IsUnnamed, LeftBy}
use Rattle.life_cover.specs.Lacking.{IsUnmoved, MayLack}
use Rattle.life_cover.specs.Regions.{Region, foot_of, owned_in_type}
use Rattle.life_cover.specs.Uniques.{had_at, word_in}
use Rattle.life_cover.proofs.Behind.{HasPlaceOf, TellsLost, behind_empty}
use Rattle.life_cover.proofs.GivenMade.{given_buffered, given_touches}
use Rattle.life_cover.proofs.Guarding.{under_place}
use Rattle.life_cover.proofs.HeldCells.{put_held}
use Rattle.life_cover.proofs.Killing.{cover_on}
use Rattle.life_cover.proofs.KnownFrames.{IsKnownFrame, IsRight, hand_of, rooted_of, store_of}
use Rattle.life_cover.proofs.Lacking.{local_whole, low_whole}
use Rattle.life_cover.proofs.Left.{left_by_name}
use Rattle.life_cover.proofs.Listing.{own_known}
use Rattle.life_cover.proofs.LiveKinds.{object_faultless}
use Rattle.life_cover.proofs.Locals.{named_once}
use Rattle.life_cover.proofs.MakeKinds.{IsMade}
use Rattle.life_cover.proofs.MemberWords.{Spares}
use Rattle.life_cover.proofs.OwnedWords.{word_beneath, word_lives}
use Rattle.life_cover.proofs.OwnerKinds.{right_got}
use Rattle.life_cover.proofs.Pointers.{OnRight, right_then}
use Rattle.life_cover.proofs.PointedPlaces.{pointer_other}
use Rattle.life_cover.proofs.PushKinds.{elsewhere, others_held, roots_left, split}
use Rattle.life_cover.proofs.PushedObjects.{pushed_foot}
use Rattle.life_cover.proofs.Putting.{set_other}
use Rattle.life_cover.proofs.Rebuffering.{IsFree}
use Rattle.life_cover.proofs.Remade.{hand_apart, put_touches, replaced_buffered, replaced_has}
use Rattle.life_cover.proofs.SparedPointers.{owner_free, spares_region}
use Rattle.life_cover.proofs.Sparing.{place_within}
use Rattle.life_cover.proofs.Takes.{named_fact}
use Rattle.life_cover.proofs.UniqueLocations.{IsUniqueAt, on_location_at, told_there, unique_at}
use Rattle.life_cover.proofs.UniquesStay.{had_but_given}
use Rattle.life_cover.proofs.Unkept.{members_root}

module _ (types : Types) (f : Function) (rest : ℕ → ℕ) (inputs : Root → Option Region) (S : Fact → Type 0) (st : State) (k : IsKnownFrame types f rest inputs S st) (sigs : List Signature) (number : ℕ) (place : Place) (S' : Fact → Type 0) (s : Setting) (to : Location) (unique : is_unique (type_in types f to) ≡ true) (y : ℕ)
    (object : object_at types f y ≡ true) (right : IsRight sigs types number f place (Make to (made.Of y)) S S') where
  module _ (n m : ℕ) (named_to : cell st to.local ≡ Some (Named n)) (named_y : cell st y ≡ Some (Named m)) (typed : local_type types f y ≡ Some (unique_at types f rest inputs S st k to n named_to unique).target) where
    abbrev u : IsUniqueAt types f rest inputs S st k to n
    u = unique_at types f rest inputs S st k to n named_to unique

    abbrev region : Region
    region = record { object = n; word = word_in types f to; ty = (unique_at types f rest inputs S st k to n named_to unique).number }

    abbrev p : Parts
    p = parts_at types (unique_at types f rest inputs S st k to n named_to unique).target

    owned : owning types f (located to).root ≡ true
    owned = ap (owning types f) (members_root to.members (local_place to.local))

    unnamed : IsUnnamed S y
    unnamed = right.given y object (at_head y [])

    unmoved : has_buffer (type_at types f y) ≡ true → IsUnmoved S y
    unmoved buffer = right.unmoved y buffer (at_head y [])

    -- ---- what gives its value over

    v : IsVariable st.world.content (local_type types f y) m
    v = k.stands.frame.objects y m named_y

    m_type : v.object.ty ≡ u.target
    m_type = some_same (sym v.type ∙ typed)

    first_slot : slice_get v.object.slots 0 ≡ Some v.slot
    first_slot = ap (λ (ss : List Slot). slice_get ss 0) v.one

    m_has : HasBuffers p v.slot.words
    m_has = subst (λ id. HasBuffers (parts_at types id) v.slot.words) m_type (k.buffered m 0 v.object v.slot (local_whole types f rest inputs S st k y m named_y unmoved) v.there first_slot)

    -- what it has is neither bare nor new
    m_free : (j : ℕ) → st.world.content.births ≤ j → IsFree types p (λ i. MayLack types f inputs S st i ⊎ (i ≡ j)) v.slot.words
    m_free j new = subst (λ id. IsFree types (parts_at types id) (λ i. MayLack types f inputs S st i ⊎ (i ≡ j)) v.slot.words) m_type of_words
      where
        of_words : IsFree types (parts_at types v.object.ty) (λ i. MayLack types f inputs S st i ⊎ (i ≡ j)) v.slot.words
        of_words u i e owned out =
            let l = word_lives types k.ordered (hand_of rest st) st.world.content (store_of types f rest inputs S st k) m 0 u i v.object v.slot v.there first_slot e owned in
            let beneath = word_beneath types k.ordered (hand_of rest st) st.world.content (store_of types f rest inputs S st k) m 0 u i v.object v.slot v.there first_slot e owned in
            ⊎_elim (λ lacks. low_whole types f rest inputs S st k (record { object = m; word = 0; ty = v.object.ty }) i beneath lacks) (λ same. let old = k.stands.store.forest.births i l.0 l.1 in absurd (omega (arith, old, same, new))) out

    -- ---- the store, where what is given over is in the hand by itself

    abbrev left_hand : ℕ → ℕ
    left_hand j = times (named_in (slice_set st.cells y Empty)) j + rest j

    in_two : IsStore types (λ j. times (m ∷ []) j + (times (named_in (slice_set st.cells y Empty)) j + rest j)) st.world.content
    in_two =
        less_in_hand types (hand_of rest st) (λ j. times (m ∷ []) j + (times (named_in (slice_set st.cells y Empty)) j + rest j)) st.world.content
        (λ j. let e = named_put st.cells y (Named m) Empty j named_y in omega (arith, e)) (store_of types f rest inputs S st k)

    lower : rank_of types v.object.ty < rank_of types u.variable.object.ty
    lower =
        subst (λ id. rank_of types id < rank_of types u.variable.object.ty) (sym m_type)
        (owner_above types k.ordered (λ j. times (m ∷ []) j + (times (named_in (slice_set st.cells y Empty)) j + rest j)) st.world.content in_two n (word_in types f to) u.number u.variable.object u.variable.there u.within u.target (let e = ap width u.parts in omega (arith, e))
        (ap (λ (q : Parts). kind_in q 0) u.parts) (ap (λ (q : Parts). owned_type q 0) u.parts))

    apart : n ≢ m
    apart = above_apart types k.ordered (λ j. times (m ∷ []) j + (times (named_in (slice_set st.cells y Empty)) j + rest j)) st.world.content in_two n (word_in types f to) u.number u.variable.object u.variable.there u.within m v.object v.there lower

    unowned : owns (kinds_of types) every v.object n ≡ 0
    unowned = above_unowned types k.ordered (λ j. times (m ∷ []) j + (times (named_in (slice_set st.cells y Empty)) j + rest j)) st.world.content in_two n (word_in types f to) u.number u.variable.object u.variable.there u.within m v.object v.there lower

    -- ---- the object that is made

    -- it stands, the unique_ptr does so still, and nothing is touched but what gives its value over
    record IsGivenObject (b : ℕ × Content) : Type 0 where
      pub store : IsStore types (λ j. times (b.0 ∷ []) j + (times (named_in (slice_set st.cells y Empty)) j + rest j)) b.1
      pub stands : given.Stands (unique_at types f rest inputs S st k to n named_to unique).target n (unique_at types f rest inputs S st k to n named_to unique).variable.object b
      pub touch : Touches (kinds_of types) (all_of (m ∷ [])) st.world.content b.1
      pub fresh : st.world.content.births ≤ b.0
      pub buffered : AreBut types (MayLack types f inputs S st) b.1

    abbrev value : Content → Attempt Words
    value d = Got (consumed (parts_at types (unique_at types f rest inputs S st k to n named_to unique).target) m d)

    gather : (a : Attempt (ℕ × Content)) → IfGot a (λ b. IsStore types (λ j. times (b.0 ∷ []) j + (times (named_in (slice_set st.cells y Empty)) j + rest j)) b.1) → IfGot a (given.Stands u.target n u.variable.object)
        → IfGot a (λ b. Touches (kinds_of types) (all_of (m ∷ [])) st.world.content b.1 × (st.world.content.births ≤ b.0)) → IfGot a (λ b. AreBut types (MayLack types f inputs S st) b.1) → IfGot a IsGivenObject
    gather (Got b) store stands touch buffered = record { store = store; stands = stands; touch = touch.0; fresh = touch.1; buffered = buffered }
    gather (GotTrap kind) store stands touch buffered = tt
    gather (GotFault kind) store stands touch buffered = tt
    gather GotLost store stands touch buffered = tt

    given_object : IfGot (object_with s u.target p value st.world.content) IsGivenObject
    given_object =
        gather (object_with s u.target p value st.world.content)
        (given.given_over_store types k.ordered (λ j. times (named_in (slice_set st.cells y Empty)) j + rest j) st.world.content s u.target m v.object v.slot in_two v.there v.one m_type)
        (given.given_over_stands types k.ordered (λ j. times (named_in (slice_set st.cells y Empty)) j + rest j) st.world.content s u.target m v.object v.slot n u.variable.object in_two v.there v.one m_type u.variable.there (λ e. apart (sym e)) unowned)
        (given_touches types k.ordered (λ j. times (named_in (slice_set st.cells y Empty)) j + rest j) st.world.content m in_two v.object v.slot v.there v.one u.target m_type s)
        (given_buffered types k.ordered (λ j. times (named_in (slice_set st.cells y Empty)) j + rest j) st.world.content m in_two v.object v.slot v.there v.one u.target m_type s (MayLack types f inputs S st) m_has m_free k.buffered)

    -- ---- and put into the unique_ptr

    -- its word is no vector's and no string's
    bufferless : (c : Content) → at c.objects n ≡ Some u.variable.object → (o : Object) → at c.objects n ≡ Some o → is_buffer_at (parts_at types o.ty) (word_in types f to) ≡ false
    bufferless c kept o there = ap (λ (z : Object). is_buffer_at (parts_at types z.ty) (word_in types f to)) (some_same (sym there ∙ kept)) ∙ u.bufferless

    left : LeftBy (RootStands types f (StandsAt inputs) st.cells) (under (located to)) (writes (Make to (made.Of y))) S S'
    left =
        left_by_name sigs types f place (Make to (made.Of y)) S S' right.closed (RootStands types f (StandsAt inputs) st.cells) (record { owner = located to; cause = changed place to.local }) refl (λ e. refl)
        (at_head (element.Invalid (changed place to.local)) [])

    guards : Guards types st.world.content (RootStands types f (StandsAt inputs) st.cells) S (under (located to)) (pushed_foot types region m)
    guards a b names at_b low =
        ⊎_elim (λ inner. under_place types k.ordered (hand_of rest st) st.world.content (store_of types f rest inputs S st k) (RootStands types f (StandsAt inputs) st.cells) (owning types f) (rooted_of types f rest inputs S st k) (located to) a region b owned u.lies at_b inner)
        (λ over. absurd (elsewhere types f rest inputs S st k y m named_y unnamed a b names at_b over)) (split types st.world.content region m b.object low)

    module _ (d : Content) (touch : Touches (kinds_of types) (pushed_foot types region m) st.world.content d) where
      covered : FrameCovered types f inputs S' (put_cell y Empty (put_content d st))
      covered l w pointer e = ⊎_elim
          (λ same. absurd (empty same.1))
          (λ other. let before = others_held types f rest inputs S st k y m named_y unnamed region spares_to d touch l w pointer other.0 other.1 in
          cover_on types k.ordered (hand_of rest st) st.world.content d (store_of types f rest inputs S st k) (pushed_foot types region m) touch (RootStands types f (StandsAt inputs) st.cells) (RootStands types f (StandsAt inputs) (slice_set st.cells y Empty)) (may_change types f)
          (rooted_of types f rest inputs S st k).fits (under (located to)) (writes (Make to (made.Of y))) S S' left guards (λ a b names free stands. roots_left types f rest inputs S st k y m named_y unnamed a b names stands)
          (located l) (look_in types f l) w (pointer_other types f rest inputs S st k to l w pointer before (ap is_pointer u.is)) (k.covered l w pointer before))
          (put_held types f (put_content d st) y Empty (λ j h. nameless j h) l w e)
        where
          empty : Empty ≡ Points w → ⊥
          empty h = cc

          nameless : (j : ℕ) → Empty ≡ Named j → ⊥
          nameless j h = cc

          spares_to : Spares types f st (foot_of types region)
          spares_to = spares_region types f rest inputs S st k region u.variable.object u.variable.there u.within (owner_free types f rest inputs S st k u.number u.target (ap (owned_in_type types) u.there))

      spared : Touches (kinds_of types) (frame_foot types f inputs st.cells) st.world.content d
      spared =
          touches_more (kinds_of types) (hand_of rest st) st.world.content (store_of types f rest inputs S st k).forest (and_all (foot_of types region) (m ∷ [])) (frame_foot types f inputs st.cells) d touch
          (record {
            whole = λ j lt e. whole j (is_positive (times (named_in st.cells) j) (subst (λ i. 0 < times (named_in st.cells) i) (one_there m j (let q = positive_is (times (m ∷ []) j) e in omega (arith, q))) (in_hand st.cells y m named_y)));
            part = (place_within types f rest inputs S st k (located to) region u.lies owned).part;
          })

      fact : S' (fact_at (located to) element.Own)
      fact =
          named_fact sigs types f place (Make to (made.Of y)) S S' right.closed to element.Own (at_head (fact_at (located to) element.Own) []) u.listed (own_known types k.ordered f)

      -- they are two
      others : y ≢ to.local
      others same = apart (named_once (some_same (sym named_to ∙ ap (cell st) (sym same) ∙ named_y)))

      -- it has what it is given
      told : (b : ℕ) → had_at d n (word_in types f to) ≡ Some b → TellsLost types f S' (HasPlaceOf to) (put_cell y Empty (put_content d st))
      told b has = told_there types f to u.short S' (put_cell y Empty (put_content d st)) n (set_other st.cells y to.local Empty others ∙ named_to) (record { known = element.Own; holds = fact; covers = subst (CoversOwner true element.Own) (sym has) tt })

      made_safe : (b : ℕ) → had_at d n (word_in types f to) ≡ Some b → AreBut types (MayLack types f inputs S st) d → IsMade types f inputs S' (MayLack types f inputs S st) (λ z. y ≡ z) (HasPlaceOf to) st (put_cell y Empty (put_content d st))
      made_safe b has buffered = (
        covered,
        behind_empty types f inputs (MayLack types f inputs S st) (λ z. y ≡ z) (HasPlaceOf to) st y (λ j is. refl) d buffered spared (had_but_given types f rest inputs S st k to n named_to unique u.number u.one y m named_y d touch),
        told b has,
      )

    -- it has the object
    object_has : (b : ℕ × Content) → IsGivenObject b → had_at (replaced (parts_at types u.number) (record { object = n; index = 0; word = word_in types f to }) (owner_word (Some b.0) ∷ [], b.1)) n (word_in types f to) ≡ Some b.0
    object_has b h =
        replaced_has types (and_all (foot_of types region) (b.0 ∷ [])) b.1 n (word_in types f to) u.variable.object u.variable.slot (parts_at types u.number) (owner_word (Some b.0)) h.stands.other u.variable.one u.wide born
        (hand_apart (kinds_of types) (λ j. times (b.0 ∷ []) j + (times (named_in (slice_set st.cells y Empty)) j + rest j)) b.1 (and_all (foot_of types region) (b.0 ∷ [])) n h.store.forest
        (let e = in_hand (slice_set st.cells y Empty) to.local n (set_other st.cells y to.local Empty (λ same. apart (named_once (some_same (sym named_to ∙ ap (cell st) (sym same) ∙ named_y)))) ∙ named_to) in omega (arith, e))
        (λ e. let same = one_there b.0 n (let q = positive_is (times (b.0 ∷ []) n) e in omega (arith, q)) in let fresh = h.fresh in let old = k.stands.store.forest.births n u.variable.object u.variable.there in omega (arith, same, fresh, old)))
        (put_touches types k.ordered (λ j. times (named_in (slice_set st.cells y Empty)) j + rest j) n (word_in types f to) u.number u.variable.object u.within u.slot u.target u.parts b h.store h.stands.other h.stands.object h.stands.there h.stands.type)
      where
        born : n < b.1.births
        born = let up = h.touch.births in let old = k.stands.store.forest.births n u.variable.object u.variable.there in omega (arith, up, old)

    put_safe : (b : ℕ × Content) → IsGivenObject b → IsMade types f inputs S' (MayLack types f inputs S st) (λ z. y ≡ z) (HasPlaceOf to) st (put_cell y Empty (remade (Unique u.target p) (record { object = n; index = 0; word = word_in types f to }) b st))
    put_safe b h =
        subst (λ (q : Parts). IsMade types f inputs S' (MayLack types f inputs S st) (λ z. y ≡ z) (HasPlaceOf to) st (put_cell y Empty (put_content (replaced q (record { object = n; index = 0; word = word_in types f to }) (owner_word (Some b.0) ∷ [], b.1)) st))) u.parts
        (made_safe (replaced (parts_at types u.number) (record { object = n; index = 0; word = word_in types f to }) (owner_word (Some b.0) ∷ [], b.1))
        (touches_then (kinds_of types) (hand_of rest st) st.world.content (store_of types f rest inputs S st k).forest (all_of (m ∷ [])) (and_all (foot_of types region) (b.0 ∷ [])) (pushed_foot types region m) b.1
        (replaced (parts_at types u.number) (record { object = n; index = 0; word = word_in types f to }) (owner_word (Some b.0) ∷ [], b.1)) h.touch
        (put_touches types k.ordered (λ j. times (named_in (slice_set st.cells y Empty)) j + rest j) n (word_in types f to) u.number u.variable.object u.within u.slot u.target u.parts b h.store h.stands.other h.stands.object h.stands.there h.stands.type)
        (record { whole = λ j lt e. whole j e; part = λ j lt. inr (λ w e. absurd (false≢true e)) })
        (record {
          whole = λ j lt e. let new = one_there b.0 j (let q = positive_is (times (b.0 ∷ []) j) e in omega (arith, q)) in let fresh = h.fresh in absurd (omega (arith, new, fresh, lt));
          part = λ j lt. inr (λ w e. e);
        }))
        b.0 (object_has b h)
        (replaced_buffered types (MayLack types f inputs S st) b.1 n (word_in types f to) (parts_at types u.number) (owner_word (Some b.0)) (bufferless b.1 h.stands.other) h.buffered))

    object_made : OnRight (made_of s types f (Unique u.target p) (record { object = n; index = 0; word = word_in types f to }) y (Some (Named m)) st) (IsMade types f inputs S' (MayLack types f inputs S st) (λ z. y ≡ z) (HasPlaceOf to) st)
    object_made =
        subst (λ (q : Parts). OnRight (on_got (object_with s u.target p (λ d. Got (consumed q m d)) st.world.content) (λ b. Next (put_cell y Empty (remade (Unique u.target p) (record { object = n; index = 0; word = word_in types f to }) b st)))) (IsMade types f inputs S' (MayLack types f inputs S st) (λ z. y ≡ z) (HasPlaceOf to) st))
        (sym (ap (parts_if types) typed))
        (right_then (object_with s u.target p value st.world.content) (λ b. Next (put_cell y Empty (remade (Unique u.target p) (record { object = n; index = 0; word = word_in types f to }) b st))) IsGivenObject (IsMade types f inputs S' (MayLack types f inputs S st) (λ z. y ≡ z) (HasPlaceOf to) st)
        (right_got (object_with s u.target p value st.world.content) IsGivenObject given_object (object_faultless s u.target p value st.world.content (λ d. tt)))
        put_safe)

  -- ---- the kind

  pub object_kind : ((n : ℕ) (named : cell st to.local ≡ Some (Named n)) → local_type types f y ≡ Some (unique_at types f rest inputs S st k to n named unique).target) → ((z : ℤ) → cell st y ≡ Some (Number z) → ⊥)
      → OnRight (does s types f (Make to (made.Of y)) st) (IsMade types f inputs S' (MayLack types f inputs S st) (λ z. y ≡ z) (HasPlaceOf to) st)
  object_kind typed uncounted =
      on_location_at types f rest inputs S st k to (λ spot. made_of s types f (location_parts types f to) spot y (cell st y) st) (IsMade types f inputs S' (MayLack types f inputs S st) (λ z. y ≡ z) (HasPlaceOf to) st)
      (λ n named.
      let u = unique_at types f rest inputs S st k to n named unique in
      subst (λ (q : Parts). OnRight (made_of s types f q (record { object = n; index = 0; word = word_in types f to }) y (cell st y) st) (IsMade types f inputs S' (MayLack types f inputs S st) (λ z. y ≡ z) (HasPlaceOf to) st)) (sym (ap (parts_if types) u.typed ∙ u.parts)) (over n named (cell st y) refl))
    where
      over : (n : ℕ) (named : cell st to.local ≡ Some (Named n)) (w : Option Cell) → cell st y ≡ w
          → OnRight (made_of s types f (Unique (unique_at types f rest inputs S st k to n named unique).target (parts_at types (unique_at types f rest inputs S st k to n named unique).target)) (record { object = n; index = 0; word = word_in types f to }) y w st) (IsMade types f inputs S' (MayLack types f inputs S st) (λ z. y ≡ z) (HasPlaceOf to) st)
      over n named None e = tt
      over n named (Some Empty) e = tt
      over n named (Some (Points q)) e = tt
      over n named (Some (Number z)) e = absurd (uncounted z e)
      over n named (Some (Named m)) e = object_made n m named e (typed n named)
