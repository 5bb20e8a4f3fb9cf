-- A unique_ptr that is a local or a member of one is given null, an object that comes to life, or one of a number; what
-- it had ends. There is no fault, the facts behind it cover all pointers of the frame, and what is touched lies beneath
-- what the frame names.
use Rattle.std.proofs.Common.{◌≡◌, ℕ, ◌<◌, true, false, List, [], ◌∷◌, Option, Some, None, refl, sym, ap, subst, ◌∙◌, arith}
use Rattle.std.specs.Prelude.{Contains}
use Rattle.life_types.specs.TypeTests.{is_pointer, is_unique}
use Rattle.life_types.specs.Types.{Types}
use Rattle.life_types.specs.declared.place.Place.{Place}
use Rattle.life_core.specs.declared.instr.Form.TheVariants as form
use Rattle.life_core.specs.declared.instr.Made.{Made}
use Rattle.life_core.specs.declared.instr.Made.TheVariants as made
use Rattle.life_core.specs.Function.{Function}
use Rattle.life_core.specs.Operands.{Location}
use Rattle.life_core.specs.Step.{Make}
use Rattle.life_pset.specs.Elements.{changed, elements_of, local_place}
use Rattle.life_pset.specs.Places.{under}
use Rattle.life_pset.specs.declared.element.Element.TheVariants as element
use Rattle.life_pset.specs.declared.element.Fact.{Fact}
use Rattle.life_pset.specs.declared.element.Root.{Root}
use Rattle.life_contract.specs.Located.{located}
use Rattle.life_contract.specs.Signatures.{Signature}
use Rattle.life_proper.specs.Placed.{type_in}
use Rattle.life_rules.specs.Carrying.{made_element, writes}
use Rattle.life_rules.specs.Matching.{fact_at}
use Rattle.life_rules.proofs.Giving.{at_head}
use Rattle.life_store.specs.Cells.{at}
use Rattle.life_store.specs.Content.{Object, Content}
use Rattle.life_store.specs.Doing.{does, made_fresh, made_of, remade, replaced}
use Rattle.life_store.specs.Effects.{Attempt, Got, Next, Setting, cell, on_got, put_content, word_of_number}
use Rattle.life_store.specs.Held.{owner_word}
use Rattle.life_store.specs.Owners.{ended, fresh, object_with}
use Rattle.life_store.specs.Parts.{Parts, Single, Unique, location_parts, parts_at, parts_if, width}
use Rattle.life_store.specs.Places.{spot_words}
use Rattle.life_store.specs.State.{Cell, Empty, Named, Number, Points, State}
use Rattle.life_store.proofs.CellLemmas.{some_same}
use Rattle.life_forest.specs.Forest.{Touches}
use Rattle.life_forest.specs.Kinds.{kinds_of}
use Rattle.life_forest.proofs.Coming.{IfGot}
use Rattle.life_forest.proofs.Following.{in_hand}
use Rattle.life_forest.proofs.Steps.{touches_more}
use Rattle.life_cover.specs.Buffered.{AreBut, is_buffer_at}
use Rattle.life_cover.specs.Covers.{CoversOwner}
use Rattle.life_cover.specs.Frames.{FrameCovered, RootStands, look_in}
use Rattle.life_cover.proofs.SparedPointers.{HasNoPointer, content_held, owner_free, spares_region}
use Rattle.life_cover.specs.Inputs.{StandsAt, frame_foot, may_change, owning}
use Rattle.life_cover.specs.Kills.{LeftBy}
use Rattle.life_cover.specs.Regions.{Region, foot_of, owned_in_type}
use Rattle.life_cover.specs.Lacking.{MayLack}
use Rattle.life_cover.specs.Uniques.{had_at, word_in}
use Rattle.life_cover.proofs.Behind.{HasPlaceOf, IsBehind, TellsLost, behind_content, both_got, no_local}
use Rattle.life_cover.proofs.Changes.{place_cover}
use Rattle.life_cover.proofs.KnownFrames.{IsKnownFrame, IsRight, hand_of, rooted_of, store_of}
use Rattle.life_cover.proofs.Left.{left_by_name}
use Rattle.life_cover.proofs.Listing.{null_known, own_known}
use Rattle.life_cover.proofs.LiveKinds.{fresh_faultless, object_faultless}
use Rattle.life_cover.proofs.OwnersStay.{null_written}
use Rattle.life_cover.proofs.OwnerKinds.{right_got}
use Rattle.life_cover.proofs.PointedPlaces.{pointer_other}
use Rattle.life_cover.proofs.Pointers.{OnRight, right_then}
use Rattle.life_cover.proofs.Recopying.{born_buffered, number_buffered}
use Rattle.life_cover.proofs.Remade.{IsRemade, null_touches, remade_fresh, remade_number, replaced_buffered}
use Rattle.life_cover.proofs.Sparing.{place_within}
use Rattle.life_cover.proofs.Takes.{named_fact}
use Rattle.life_cover.proofs.UniquesStay.{had_but_one}
use Rattle.life_cover.proofs.UniqueLocations.{IsUniqueAt, on_location_at, told_there, unique_at}
use Rattle.life_cover.proofs.Unkept.{members_root}
use Rattle.life_cover.proofs.Using.{Faultless}

-- what is known behind it
abbrev pub IsMade : Types → Function → (inputs : Root → Option Region) → (S' : Fact → Type 0) → (bare over : ℕ → Type 0) (lost : Location → Type 0) → State → State → Type 0
IsMade types f inputs S' bare over lost st after = FrameCovered types f inputs S' after × IsBehind types f inputs bare over lost st after × TellsLost types f S' lost after

module _ (types : Types) (f : Function) (rest : ℕ → ℕ) (inputs : Root → Option Region) (S : Fact → Type 0) (st : State) (k : IsKnownFrame types f rest inputs S st) (sigs : List Signature) (number : ℕ) (place : Place) (S' : Fact → Type 0) (s : Setting) (to : Location) (unique : is_unique (type_in types f to) ≡ true) where
  module _ (m : Made) (right : IsRight sigs types number f place (Make to m) S S') (n : ℕ) (named : cell st to.local ≡ Some (Named n)) where
    abbrev u : IsUniqueAt types f rest inputs S st k to n
    u = unique_at types f rest inputs S st k to n named unique

    abbrev region : Region
    region = record { object = n; word = word_in types f to; ty = (unique_at types f rest inputs S st k to n named unique).number }

    owned : owning types f (located to).root ≡ true
    owned = ap (owning types f) (members_root to.members (local_place to.local))

    free : HasNoPointer types u.number
    free = owner_free types f rest inputs S st k u.number u.target (ap (owned_in_type types) u.there)

    left : LeftBy (RootStands types f (StandsAt inputs) st.cells) (under (located to)) (writes (Make to m)) S S'
    left =
        left_by_name sigs types f place (Make to m) S S' right.closed (RootStands types f (StandsAt inputs) st.cells) (record { owner = located to; cause = changed place to.local }) refl (λ e. refl)
        (at_head (element.Invalid (changed place to.local)) [])

    covered : (d : Content) → Touches (kinds_of types) (foot_of types region) st.world.content d → FrameCovered types f inputs S' (put_content d st)
    covered d touch l v pointer e =
        let before = content_held types f rest inputs S st k (foot_of types region) (spares_region types f rest inputs S st k region u.variable.object u.variable.there u.within free) d touch l v pointer e in
        place_cover types k.ordered (hand_of rest st) st.world.content d (store_of types f rest inputs S st k) (RootStands types f (StandsAt inputs) st.cells) (may_change types f) (owning types f) (rooted_of types f rest inputs S st k) (located to) region owned u.lies touch
        (writes (Make to m)) S S' left (located l) (look_in types f l) v (pointer_other types f rest inputs S st k to l v pointer before (ap is_pointer u.is)) (k.covered l v pointer before)

    fact : S' (fact_at (located to) (made_element m))
    fact =
        named_fact sigs types f place (Make to m) S S' right.closed to (made_element m) (at_head (fact_at (located to) (made_element m)) []) u.listed (by_made m)
      where
        own : Contains (elements_of types f) element.Own
        own = own_known types k.ordered f

        by_made : (what : Made) → Contains (elements_of types f) (made_element what)
        by_made made.Null = null_known types k.ordered f
        by_made made.Zero = own
        by_made (made.Of y) = own

    -- it has what the fact says
    told : (d : Content) → CoversOwner true (made_element m) (had_at d n (word_in types f to)) → TellsLost types f S' (HasPlaceOf to) (put_content d st)
    told d covers = told_there types f to u.short S' (put_content d st) n named (record { known = made_element m; holds = fact; covers = covers })

    made_safe : (d : Content) → Touches (kinds_of types) (foot_of types region) st.world.content d → AreBut types (MayLack types f inputs S st) d → CoversOwner true (made_element m) (had_at d n (word_in types f to)) → IsMade types f inputs S' (MayLack types f inputs S st) no_local (HasPlaceOf to) st (put_content d st)
    made_safe d touch buffered covers = (
      covered d touch,
      behind_content types f inputs (MayLack types f inputs S st) no_local (HasPlaceOf to) st d buffered (touches_more (kinds_of types) (hand_of rest st) st.world.content (store_of types f rest inputs S st k).forest (foot_of types region) (frame_foot types f inputs st.cells) d touch (place_within types f rest inputs S st k (located to) region u.lies owned))
          (had_but_one types f rest inputs S st k to n named unique u.number u.one d touch),
      told d covers,
    )

    -- its word is no vector's and no string's
    plain : (c : Content) → at c.objects n ≡ Some u.variable.object → (o : Object) → at c.objects n ≡ Some o → is_buffer_at (parts_at types o.ty) (word_in types f to) ≡ false
    plain c kept o there = ap (λ (q : Object). is_buffer_at (parts_at types q.ty) (word_in types f to)) (some_same (sym there ∙ kept)) ∙ u.bufferless

    parts_here : location_parts types f to ≡ parts_at types u.number
    parts_here = ap (parts_if types) u.typed

    in_the_hand : 0 < hand_of rest st n
    in_the_hand = let e = in_hand st.cells to.local n named in omega (arith, e)

    -- ---- null

    null_made : made_element m ≡ element.Null → IsMade types f inputs S' (MayLack types f inputs S st) no_local (HasPlaceOf to) st (put_content (replaced (location_parts types f to) (record { object = n; index = 0; word = word_in types f to }) (owner_word None ∷ [], st.world.content)) st)
    null_made is =
        subst (λ (p : Parts). IsMade types f inputs S' (MayLack types f inputs S st) no_local (HasPlaceOf to) st (put_content (replaced p (record { object = n; index = 0; word = word_in types f to }) (owner_word None ∷ [], st.world.content)) st)) (sym parts_here)
        (made_safe (replaced (parts_at types u.number) (record { object = n; index = 0; word = word_in types f to }) (owner_word None ∷ [], st.world.content))
        (null_touches types k.ordered (hand_of rest st) st.world.content (store_of types f rest inputs S st k) n (word_in types f to) u.number u.variable.object u.variable.there u.within u.slot u.target u.parts)
        (replaced_buffered types (MayLack types f inputs S st) st.world.content n (word_in types f to) (parts_at types u.number) (owner_word None) (plain st.world.content u.variable.there) k.buffered)
        (subst (λ e. CoversOwner true e (had_at (replaced (parts_at types u.number) (record { object = n; index = 0; word = word_in types f to }) (owner_word None ∷ [], st.world.content)) n (word_in types f to))) (sym is)
        (subst (CoversOwner true element.Null) (sym (null_written n (word_in types f to) (ended (parts_at types u.number) (spot_words st.world.content (record { object = n; index = 0; word = word_in types f to }) (width (parts_at types u.number))) st.world.content))) tt)))

    -- ---- an object

    abbrev Remade : ℕ × Content → Type 0
    Remade b = IsRemade types k.ordered (hand_of rest st) st.world.content (store_of types f rest inputs S st k) n (word_in types f to) u.number u.variable.object u.variable.there u.within u.slot u.target u.parts b

    remade_safe : made_element m ≡ element.Own → (b : ℕ × Content) → Remade b → AreBut types (MayLack types f inputs S st) b.1 → IsMade types f inputs S' (MayLack types f inputs S st) no_local (HasPlaceOf to) st (remade (Unique u.target (parts_at types u.target)) (record { object = n; index = 0; word = word_in types f to }) b st)
    remade_safe is b h buffered =
        subst (λ (p : Parts). IsMade types f inputs S' (MayLack types f inputs S st) no_local (HasPlaceOf to) st (put_content (replaced p (record { object = n; index = 0; word = word_in types f to }) (owner_word (Some b.0) ∷ [], b.1)) st)) u.parts
        (made_safe (replaced (parts_at types u.number) (record { object = n; index = 0; word = word_in types f to }) (owner_word (Some b.0) ∷ [], b.1)) h.touch
        (replaced_buffered types (MayLack types f inputs S st) b.1 n (word_in types f to) (parts_at types u.number) (owner_word (Some b.0)) (plain b.1 h.kept) buffered)
        (subst (λ e. CoversOwner true e (had_at (replaced (parts_at types u.number) (record { object = n; index = 0; word = word_in types f to }) (owner_word (Some b.0) ∷ [], b.1)) n (word_in types f to))) (sym is) (subst (CoversOwner true element.Own) (sym h.has) tt)))

    object_made : made_element m ≡ element.Own → (a : Attempt (ℕ × Content)) → IfGot a Remade → IfGot a (λ b. AreBut types (MayLack types f inputs S st) b.1) → Faultless a → OnRight (on_got a (λ b. Next (remade (Unique u.target (parts_at types u.target)) (record { object = n; index = 0; word = word_in types f to }) b st))) (IsMade types f inputs S' (MayLack types f inputs S st) no_local (HasPlaceOf to) st)
    object_made is a one two right_a =
        right_then a (λ b. Next (remade (Unique u.target (parts_at types u.target)) (record { object = n; index = 0; word = word_in types f to }) b st)) (λ b. Remade b × AreBut types (MayLack types f inputs S st) b.1) (IsMade types f inputs S' (MayLack types f inputs S st) no_local (HasPlaceOf to) st)
        (right_got a (λ b. Remade b × AreBut types (MayLack types f inputs S st) b.1) (both_got a Remade (λ b. AreBut types (MayLack types f inputs S st) b.1) one two) right_a) (λ b h. remade_safe is b h.0 h.1)

    fresh_made : made_element m ≡ element.Own → OnRight (made_fresh s (location_parts types f to) (record { object = n; index = 0; word = word_in types f to }) st) (IsMade types f inputs S' (MayLack types f inputs S st) no_local (HasPlaceOf to) st)
    fresh_made is =
        subst (λ (p : Parts). OnRight (made_fresh s p (record { object = n; index = 0; word = word_in types f to }) st) (IsMade types f inputs S' (MayLack types f inputs S st) no_local (HasPlaceOf to) st)) (sym (parts_here ∙ u.parts))
        (object_made is (object_with s u.target (parts_at types u.target) (fresh s form.Zero (parts_at types u.target)) st.world.content)
        (remade_fresh types k.ordered (hand_of rest st) st.world.content (store_of types f rest inputs S st k) n (word_in types f to) u.number u.variable.object u.variable.there u.within u.slot u.target u.parts in_the_hand u.variable.slot u.variable.one u.wide s form.Zero)
        (born_buffered types k.ordered s (MayLack types f inputs S st) form.Zero u.target st.world.content k.buffered)
        (object_faultless s u.target (parts_at types u.target) (fresh s form.Zero (parts_at types u.target)) st.world.content (fresh_faultless s form.Zero (parts_at types u.target))))

    number_made : made_element m ≡ element.Own → parts_at types u.target ≡ Single → (y : ℕ) → ((j : ℕ) → cell st y ≡ Some (Named j) → ⊥) → OnRight (made_of s types f (location_parts types f to) (record { object = n; index = 0; word = word_in types f to }) y (cell st y) st) (IsMade types f inputs S' (MayLack types f inputs S st) no_local (HasPlaceOf to) st)
    number_made is single y free =
        subst (λ (p : Parts). OnRight (made_of s types f p (record { object = n; index = 0; word = word_in types f to }) y (cell st y) st) (IsMade types f inputs S' (MayLack types f inputs S st) no_local (HasPlaceOf to) st)) (sym (parts_here ∙ u.parts)) (over (cell st y) refl)
      where
        over : (v : Option Cell) → cell st y ≡ v → OnRight (made_of s types f (Unique u.target (parts_at types u.target)) (record { object = n; index = 0; word = word_in types f to }) y v st) (IsMade types f inputs S' (MayLack types f inputs S st) no_local (HasPlaceOf to) st)
        over None e = tt
        over (Some Empty) e = tt
        over (Some (Points p)) e = tt
        over (Some (Named j)) e = absurd (free j e)
        over (Some (Number z)) e =
            object_made is (object_with s u.target (parts_at types u.target) (λ d. Got (word_of_number z ∷ [], d)) st.world.content)
            (remade_number types k.ordered (hand_of rest st) st.world.content (store_of types f rest inputs S st k) n (word_in types f to) u.number u.variable.object u.variable.there u.within u.slot u.target u.parts in_the_hand u.variable.slot u.variable.one u.wide s (word_of_number z) single)
            (number_buffered types k.ordered s (MayLack types f inputs S st) (word_of_number z) u.target st.world.content single k.buffered)
            (object_faultless s u.target (parts_at types u.target) (λ d. Got (word_of_number z ∷ [], d)) st.world.content (λ d. tt))

  -- ---- the kind

  pub null_kind : IsRight sigs types number f place (Make to made.Null) S S' → OnRight (does s types f (Make to made.Null) st) (IsMade types f inputs S' (MayLack types f inputs S st) no_local (HasPlaceOf to) st)
  null_kind right =
      on_location_at types f rest inputs S st k to (λ spot. Next (put_content (replaced (location_parts types f to) spot (owner_word None ∷ [], st.world.content)) st)) (IsMade types f inputs S' (MayLack types f inputs S st) no_local (HasPlaceOf to) st) (λ n named. null_made made.Null right n named refl)

  pub fresh_kind : IsRight sigs types number f place (Make to made.Zero) S S' → OnRight (does s types f (Make to made.Zero) st) (IsMade types f inputs S' (MayLack types f inputs S st) no_local (HasPlaceOf to) st)
  fresh_kind right = on_location_at types f rest inputs S st k to (λ spot. made_fresh s (location_parts types f to) spot st) (IsMade types f inputs S' (MayLack types f inputs S st) no_local (HasPlaceOf to) st) (λ n named. fresh_made made.Zero right n named refl)

  pub number_kind : (y : ℕ) → IsRight sigs types number f place (Make to (made.Of y)) S S' → ((n : ℕ) (named : cell st to.local ≡ Some (Named n)) → parts_at types (unique_at types f rest inputs S st k to n named unique).target ≡ Single) → ((j : ℕ) → cell st y ≡ Some (Named j) → ⊥)
      → OnRight (does s types f (Make to (made.Of y)) st) (IsMade types f inputs S' (MayLack types f inputs S st) no_local (HasPlaceOf to) st)
  number_kind y right single free =
      on_location_at types f rest inputs S st k to (λ spot. made_of s types f (location_parts types f to) spot y (cell st y) st) (IsMade types f inputs S' (MayLack types f inputs S st) no_local (HasPlaceOf to) st) (λ n named. number_made (made.Of y) right n named refl (single n named) y free)
