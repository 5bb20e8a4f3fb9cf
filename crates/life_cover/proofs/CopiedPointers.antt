-- Where a struct is copied from one local or member to another, the facts behind the copy cover the pointers in it and all others.
use Rattle.std.proofs.Common.{◌≡◌, ℕ, ◌+◌, ◌≤◌, Bool, true, false, List, [], ◌∷◌, ◌++◌, length, Option, Some, None, refl, sym, ap, subst, ◌∙◌, arith}
use Rattle.std.specs.Prelude.{Contains, not}
use Rattle.std.proofs.lemmas.Bool.{false≢true}
use Rattle.life_types.specs.Pointees.{ty_of}
use Rattle.life_types.specs.TypeTests.{is_constant, is_pointer}
use Rattle.life_types.specs.Types.{Types}
use Rattle.life_types.specs.declared.place.Place.{Place}
use Rattle.life_types.specs.declared.ty.Ty.{Ty}
use Rattle.life_types.specs.declared.ty.TyId.{TyId}
use Rattle.life_core.specs.Function.{Function}
use Rattle.life_core.specs.Operands.{Location}
use Rattle.life_core.specs.Operands as named
use Rattle.life_core.specs.Step.{Copy}
use Rattle.life_pset.specs.Elements.{elements_of, local_place, locations_of}
use Rattle.life_pset.specs.Places.{is_within, path}
use Rattle.life_pset.specs.Shapes.{members_type, place_type, rooted_type, ty_if}
use Rattle.life_pset.specs.Shapes as shapes
use Rattle.life_pset.specs.declared.element.AbsPlace.{AbsPlace}
use Rattle.life_pset.specs.declared.element.Element.{Element}
use Rattle.life_pset.specs.declared.element.Element.TheVariants as element
use Rattle.life_pset.specs.declared.element.Fact.{Fact}
use Rattle.life_pset.specs.declared.element.Root.{Root}
use Rattle.life_pset.proofs.Numbers.{exact_place, is_of_iff, place_laws}
use Rattle.life_contract.specs.Located.{is_location, located}
use Rattle.life_contract.specs.Signatures.{Signature}
use Rattle.life_proper.specs.OperandTypes.{is_range}
use Rattle.life_proper.specs.Placed.{type_in}
use Rattle.life_rules.specs.Carrying.{writes}
use Rattle.life_rules.specs.Matching.{fact_at}
use Rattle.life_store.specs.Content.{Content}
use Rattle.life_store.specs.Effects.{cell, put_content}
use Rattle.life_store.specs.Held.{pointer_in, words_at}
use Rattle.life_store.specs.Parts.{local_type, location_type, parts_at, type_within, width_at, word_within}
use Rattle.life_store.specs.Places.{location_cell, member_cell}
use Rattle.life_store.specs.State.{Cell, Empty, Named, Null, Number, Pointer, Points, State, Static, To, Wild}
use Rattle.life_store.proofs.CellLemmas.{none_some}
use Rattle.life_forest.specs.Forest.{Touches}
use Rattle.life_forest.specs.FrameTypes.{seen_type}
use Rattle.life_forest.specs.Kinds.{kinds_of}
use Rattle.life_forest.proofs.BegunPointers.{IsBegun}
use Rattle.life_forest.proofs.Members.{path_within}
use Rattle.life_forest.proofs.StandingPointers.{pointer_width}
use Rattle.life_forest.proofs.TypedSteps.{operand_same}
use Rattle.life_cover.specs.Covers.{IsCovered, IsTold, Look}
use Rattle.life_cover.specs.Frames.{FrameCovered, RootStands, look_in}
use Rattle.life_cover.specs.Inputs.{StandsAt, may_change}
use Rattle.life_cover.specs.Kills.{Closed, LeftBy}
use Rattle.life_cover.specs.Regions.{Region, foot_of}
use Rattle.life_cover.proofs.CopiedFacts.{copied_fact}
use Rattle.life_cover.proofs.CopiedKills.{IsCutBy}
use Rattle.life_cover.proofs.CopiedPlaces.{IsNamed, inside, inside_within, is_named_there, spares_outside}
use Rattle.life_cover.proofs.ExactLocations.{exact_path, room_length}
use Rattle.life_cover.proofs.Killing.{cover_on}
use Rattle.life_cover.proofs.KnownFrames.{IsKnownFrame, hand_of, object_named, rooted_of, store_of}
use Rattle.life_cover.proofs.LocationsListed.{pointer_listed}
use Rattle.life_cover.proofs.Making.{known_at, place_short}
use Rattle.life_cover.proofs.MemberReach.{ready}
use Rattle.life_cover.proofs.MemberWords.{SparesAt, held_before, is_pointing, path_words}
use Rattle.life_cover.proofs.PointedPlaces.{pointer_short}
use Rattle.life_cover.proofs.Reaching.{IsReached}
use Rattle.life_cover.proofs.RelatedPaths.{word_along}
use Rattle.life_cover.proofs.Unkept.{members_root}
use Rattle.life_cover.proofs.WithinLocations.{inner, type_along}

-- ---- what a location holds

-- what holds a pointer behind a change of objects held one
held_some : (types : Types) (f : Function) (l : Location) (st : State) (d : Content) (v : Pointer) → location_cell types f l (put_content d st) ≡ Some (Points v) → (w : Pointer) × (location_cell types f l st ≡ Some (Points w))
held_some types f l st d v held = go l.members (cell st l.local) held
  where
    go : (ms : List ℕ) (x : Option Cell) → member_cell types f l.local ms x d ≡ Some (Points v) → (w : Pointer) × (member_cell types f l.local ms x st.world.content ≡ Some (Points w))
    go [] x h = (v, h)
    go (m ∷ ms) (Some (Named n)) h = (pointer_in (words_at st.world.content n 0 (word_within types (local_type types f l.local) (m ∷ ms)) 5), refl)
    go (m ∷ ms) None h = absurd (none_some h)
    go (m ∷ ms) (Some Empty) h = absurd (none_some h)
    go (m ∷ ms) (Some (Number z)) h = absurd (none_some h)
    go (m ∷ ms) (Some (Points q)) h = absurd (none_some h)

-- a member holds what its words say
pub member_held : (types : Types) (f : Function) (l : Location) (st : State) (n : ℕ) → cell st l.local ≡ Some (Named n) → (l.members ≡ [] → ⊥) → location_cell types f l st ≡ Some (Points (pointer_in (words_at st.world.content n 0 (word_within types (local_type types f l.local) l.members) 5)))
member_held types f l st n named some = go l.members refl
  where
    go : (ms : List ℕ) → l.members ≡ ms → member_cell types f l.local ms (cell st l.local) st.world.content ≡ Some (Points (pointer_in (words_at st.world.content n 0 (word_within types (local_type types f l.local) ms) 5)))
    go [] is = absurd (some is)
    go (m ∷ ms) is = ap (λ (x : Option Cell). member_cell types f l.local (m ∷ ms) x st.world.content) named

append_empty : (xs ks : List ℕ) → xs ++ ks ≡ [] → ks ≡ []
append_empty [] ks e = e
append_empty (x ∷ xs) ks e = absurd (unlike e)
  where
    unlike : x ∷ (xs ++ ks) ≡ [] → ⊥
    unlike h = cc

module _ (types : Types) (f : Function) (rest : ℕ → ℕ) (inputs : Root → Option Region) (S : Fact → Type 0) (st : State) (k : IsKnownFrame types f rest inputs S st) where
  abbrev Stands : Root → Region → Type 0
  Stands = RootStands types f (StandsAt inputs) st.cells

  -- ---- an operand that is named, and a path in it

  module _ (a : Location) (r : IsReached types f st (StandsAt inputs) (may_change types f) S (named.Name a)) (part : TyId) (typed : location_type types f a ≡ Some part) where
    there : IsNamed types f rest inputs S st k a r
    there = is_named_there types f rest inputs S st k a r

    place_fits : (located a).length ≤ 8
    place_fits =
        subst (λ (b : AbsPlace). b.length ≤ 8) r.by
        (place_short types k.ordered f k.shaped k.short st.world.content st.cells (λ x n e. object_named types f rest inputs S st k x n e) inputs k.given.each r.place
        (known_at types k.ordered f k.shaped k.short st.world.content st.cells (λ x n e. object_named types f rest inputs S st k x n e) inputs k.given.each r.place r.region r.path r.lies))

    -- each member is a step of its place
    steps_are : (located a).length ≡ length a.members
    steps_are =
        let v = k.stands.frame.objects a.local r.region.object there.names in
        let typed_within : type_within types (Some v.object.ty) a.members ≡ Some part = ap (λ (o : Option TyId). type_within types o a.members) (sym v.type) ∙ typed in
        let is = ready types k.ordered f k.shaped k.short st (λ x n e. object_named types f rest inputs S st k x n e) inputs k.given.each a.members (local_place a.local) (record { object = r.region.object; word = 0; ty = v.object.ty }) part (record { eight = refl; made = refl })
        (record { start = record { object = r.region.object; word = 0; ty = v.object.ty }; stands = (there.names, refl, v.type); lies = refl }) typed_within in
        let long : (located a).length ≡ 0 + length a.members = room_length a.members (local_place a.local) is.room is.small in
        omega (arith, long)

    module _ (ks : List ℕ) where
      type_inside : location_type types f (inside a ks) ≡ type_within types (Some part) ks
      type_inside = type_along types a.members ks (local_type types f a.local) ∙ ap (λ (o : Option TyId). type_within types o ks) typed

      word_inside : word_within types (local_type types f a.local) (a.members ++ ks) ≡ r.region.word + word_within types (Some part) ks
      word_inside =
          let v = k.stands.frame.objects a.local r.region.object there.names in
          let typed_within : type_within types (Some v.object.ty) a.members ≡ Some part = ap (λ (o : Option TyId). type_within types o a.members) (sym v.type) ∙ typed in
          ap (λ (o : Option TyId). word_within types o (a.members ++ ks)) v.type
          ∙ word_along types k.ordered a.members ks v.object.ty part typed_within
          ∙ ap (λ w. w + word_within types (Some part) ks) (sym (ap (λ (o : Option TyId). word_within types o a.members) v.type) ∙ there.word)

  -- ---- the copy

  module _ (sigs : List Signature) (place : Place) (S' : Fact → Type 0) (to from : Location) (closed : Closed sigs types f place (Copy (named.Name to) (named.Name from)) S S') (r : IsReached types f st (StandsAt inputs) (may_change types f) S (named.Name to)) (part : TyId)
      (typed_to : location_type types f to ≡ Some part) (typed_from : location_type types f from ≡ Some part) (solid : is_pointer (ty_of types part) ≡ false) (wide : width_at types r.region.ty ≡ width_at types part) (d : Content)
      (touch : Touches (kinds_of types) (foot_of types r.region) st.world.content d) (cuts : IsCutBy types sigs f place S S' to from closed st.world.content (RootStands types f (StandsAt inputs) st.cells) (foot_of types r.region))
      (same : (u : ℕ) → IsBegun (parts_at types part) u → (h : IsReached types f st (StandsAt inputs) (may_change types f) S (named.Name from)) × (words_at d r.region.object 0 (r.region.word + u) 5 ≡ words_at st.world.content h.region.object 0 (h.region.word + u) 5)) where
    short_to : (located to).length ≤ 8
    short_to = place_fits to r part typed_to

    -- ---- a pointer outside of what is written

    outside_covered : (l : Location) (v : Pointer) → is_pointer (type_in types f l) ≡ true → location_cell types f l (put_content d st) ≡ Some (Points v) → is_within (located to) (located l) ≡ false
        → IsCovered types d (RootStands types f (StandsAt inputs) st.cells) (may_change types f) S' (located l) (look_in types f l) v
    outside_covered l v pointer held out =
        cover_on types k.ordered (hand_of rest st) st.world.content d (store_of types f rest inputs S st k) (foot_of types r.region) touch Stands Stands (may_change types f) (rooted_of types f rest inputs S st k).fits cuts.killed (writes (Copy (named.Name to) (named.Name from))) S S' cuts.left cuts.guards
        (λ a b names free stands. stands) (located l) (look_in types f l) v out (k.covered l v pointer was)
      where
        some : (w : Pointer) × (location_cell types f l st ≡ Some (Points w))
        some = held_some types f l st d v held

        spares : SparesAt types f st (foot_of types r.region) l
        spares = spares_outside types f rest inputs S st k to r part typed_to solid wide short_to l some.0 pointer some.1 out

        was : location_cell types f l st ≡ Some (Points v)
        was = held_before types k.ordered k.once f k.shaped st (λ x n e. k.stands.frame.objects x n e) l pointer (hand_of rest st) (store_of types f rest inputs S st k) (foot_of types r.region) spares d touch v held

    -- ---- a pointer in it

    module _ (ks : List ℕ) (v : Pointer) (pointer : is_pointer (type_in types f (inside to ks)) ≡ true) (held : location_cell types f (inside to ks) (put_content d st) ≡ Some (Points v)) where
      same_type : location_type types f (inside to ks) ≡ location_type types f (inside from ks)
      same_type = type_within_to ∙ sym type_within_from
        where
          type_within_to : location_type types f (inside to ks) ≡ type_within types (Some part) ks
          type_within_to = type_along types to.members ks (local_type types f to.local) ∙ ap (λ (o : Option TyId). type_within types o ks) typed_to

          type_within_from : location_type types f (inside from ks) ≡ type_within types (Some part) ks
          type_within_from = type_along types from.members ks (local_type types f from.local) ∙ ap (λ (o : Option TyId). type_within types o ks) typed_from

      same_in : type_in types f (inside to ks) ≡ type_in types f (inside from ks)
      same_in = ap (ty_if types) (operand_same types k.ordered k.once 0 [] f k.shaped (named.Name (inside to ks)) ∙ same_type ∙ sym (operand_same types k.ordered k.once 0 [] f k.shaped (named.Name (inside from ks))))

      look_is : look_in types f (inside from ks) ≡ look_in types f (inside to ks)
      look_is =
          ap (λ (t : Ty). look_of t (location_type types f (inside from ks))) (sym same_in)
          ∙ ap (λ (o : Option TyId). look_of (type_in types f (inside to ks)) o) (sym same_type)
        where
          look_of : Ty → Option TyId → Look
          look_of t o = record { ranged = is_range t; target = seen_type types o; constant = is_constant t }

      points_from : is_pointer (type_in types f (inside from ks)) ≡ true
      points_from = ap is_pointer (sym same_in) ∙ pointer

      begun : IsBegun (parts_at types part) (word_within types (Some part) ks)
      begun =
          let is = is_pointing types k.ordered k.once f k.shaped (inside to ks) pointer in
          let typed : type_within types (Some part) ks ≡ Some is.part = sym (type_inside to r part typed_to ks) ∙ is.typed in
          let five = pointer_width (parts_at types is.part) is.points in
          let fits = (path_within types k.ordered part is.part ks typed).fits in
          record { fits = omega (arith, fits, five); words = λ j lt. path_words types k.ordered part is.part ks typed is.points j (word_within types (Some part) ks + j) lt refl }

      -- what is copied is no pointer itself
      has_members : (ms : List ℕ) → ms ++ ks ≡ [] → ⊥
      has_members ms e = false≢true (sym solid ∙ sym (ap (λ (o : Option TyId). is_pointer (ty_if types o)) whole) ∙ pointer)
        where
          whole : shapes.location_type types f (inside to ks) ≡ Some part
          whole =
              operand_same types k.ordered k.once 0 [] f k.shaped (named.Name (inside to ks)) ∙ type_inside to r part typed_to ks
              ∙ ap (λ (ns : List ℕ). type_within types (Some part) ns) (append_empty ms ks e)

      -- ---- it held that in what it is copied from

      abbrev h : IsReached types f st (StandsAt inputs) (may_change types f) S (named.Name from)
      h = (same (word_within types (Some part) ks) begun).0

      held_from : location_cell types f (inside from ks) st ≡ Some (Points v)
      held_from =
          member_held types f (inside from ks) st h.region.object (there from h part typed_from).names (has_members from.members)
          ∙ ap (λ w. Some (Points (pointer_in (words_at st.world.content h.region.object 0 w 5)))) (word_inside from h part typed_from ks)
          ∙ ap (λ (xs : List ℕ). Some (Points (pointer_in xs))) (sym (same (word_within types (Some part) ks) begun).1)
          ∙ sym (ap (λ w. Some (Points (pointer_in (words_at d r.region.object 0 w 5)))) (word_inside to r part typed_to ks))
          ∙ sym (member_held types f (inside to ks) (put_content d st) r.region.object (there to r part typed_to).names (has_members to.members)) ∙ held

      short_from : (located (inside from ks)).length ≤ 8
      short_from = pointer_short types f rest inputs S st k (inside from ks) points_from v held_from

      -- ---- its facts

      within_from : is_within (located from) (located (inside from ks)) ≡ true
      within_from = inside_within from ks (place_fits from h part typed_from) short_from

      typed_place : is_pointer (ty_if types (place_type types f (located (inside from ks)))) ≡ true
      typed_place =
          ap (λ (ro : Root). is_pointer (ty_if types (members_type types (rooted_type types f ro) (path (located (inside from ks)))))) (members_root (from.members ++ ks) (local_place from.local))
          ∙ ap (λ (ms : List ℕ). is_pointer (ty_if types (members_type types (shapes.local_type types f from.local) ms))) (exact_path (from.members ++ ks) (local_place from.local) refl short_from)
          ∙ points_from

      listed : Contains (locations_of types f) (located (inside to ks))
      listed = pointer_listed types k.ordered k.once f k.shaped (inside to ks) pointer

      known_in : (e : Element) → S (fact_at (located (inside from ks)) e) → Contains (elements_of types f) e
      known_in e s = ((is_of_iff types f (fact_at (located (inside from ks)) e)).0 (closed.of (fact_at (located (inside from ks)) e) s)).1

      abbrev After : Fact → Type 0
      After x = S' (fact_at (located (inside to ks)) x.element)

      abbrev not_from : AbsPlace → Bool
      not_from a = not (is_location (inside from ks) a)

      is_from : (a : AbsPlace) → not_from a ≡ false → a ≡ located (inside from ks)
      is_from a e = exact_place a (located (inside from ks)) (from_not (is_location (inside from ks) a) e)
        where
          from_not : (b : Bool) → not b ≡ false → b ≡ true
          from_not true h = refl
          from_not false h = absurd (false≢true (sym h))

      left : LeftBy Stands cuts.killed not_from S After
      left = record {
        kept = λ a e s free unhit.
            let here = subst (λ (b : AbsPlace). S (fact_at b e)) (is_from a free) s in
            subst (λ (x : Element). S' (fact_at (located (inside to ks)) x)) (cuts.after e unhit)
            (copied_fact sigs types f place S S' to from closed ks (steps_are from h part typed_from) short_from within_from typed_place e listed (subst (Contains (elements_of types f)) (sym (cuts.after e unhit)) (known_in e here)) here);
        hit = λ a b start s stands free killed.
            let x = cuts.cut b killed in
            let here = subst (λ (z : AbsPlace). S (fact_at z (element.At b))) (is_from a free) s in (
              x.0,
              subst (λ (y : Element). S' (fact_at (located (inside to ks)) y)) x.1
                  (copied_fact sigs types f place S S' to from closed ks (steps_are from h part typed_from) short_from within_from typed_place (element.At b) listed (subst (Contains (elements_of types f)) (sym x.1) x.2) here),
            );
      }

      from_covered : IsCovered types d Stands (may_change types f) After (located (inside from ks)) (look_in types f (inside from ks)) v
      from_covered =
          cover_on types k.ordered (hand_of rest st) st.world.content d (store_of types f rest inputs S st k) (foot_of types r.region) touch Stands Stands (may_change types f) (rooted_of types f rest inputs S st k).fits cuts.killed not_from S After left cuts.guards (λ a b names free stands. stands)
          (located (inside from ks)) (look_in types f (inside from ks)) v (ap not (place_laws.refl (located (inside from ks)))) (k.covered (inside from ks) v points_from held_from)

      inside_covered : IsCovered types d (RootStands types f (StandsAt inputs) st.cells) (may_change types f) S' (located (inside to ks)) (look_in types f (inside to ks)) v
      inside_covered = go v from_covered
        where
          told : (w : Pointer) → IsTold types d Stands (may_change types f) After (located (inside from ks)) (look_in types f (inside from ks)) w → IsTold types d Stands (may_change types f) S' (located (inside to ks)) (look_in types f (inside from ks)) w
          told w x = record { known = x.known; holds = x.holds; covers = x.covers }

          told_to : (w : Pointer) → IsTold types d Stands (may_change types f) After (located (inside from ks)) (look_in types f (inside from ks)) w → IsTold types d Stands (may_change types f) S' (located (inside to ks)) (look_in types f (inside to ks)) w
          told_to w x = subst (λ (q : Look). IsTold types d Stands (may_change types f) S' (located (inside to ks)) q w) look_is (told w x)

          go : (w : Pointer) → IsCovered types d Stands (may_change types f) After (located (inside from ks)) (look_in types f (inside from ks)) w → IsCovered types d Stands (may_change types f) S' (located (inside to ks)) (look_in types f (inside to ks)) w
          go Null x = told_to Null x
          go Wild x = told_to Wild x
          go (To t) x = told_to (To t) x
          go (Static s) x = tt

    -- ---- each pointer

    pub struct_covered : FrameCovered types f inputs S' (put_content d st)
    struct_covered l v pointer held = go (is_within (located to) (located l)) refl
      where
        go : (b : Bool) → is_within (located to) (located l) ≡ b → IsCovered types d (RootStands types f (StandsAt inputs) st.cells) (may_change types f) S' (located l) (look_in types f l) v
        go false out = outside_covered l v pointer held out
        go true e = subst (λ (q : Location). IsCovered types d (RootStands types f (StandsAt inputs) st.cells) (may_change types f) S' (located q) (look_in types f q) v) is (inside_covered goes.0 v (subst (λ (q : Location). is_pointer (type_in types f q) ≡ true) (sym is) pointer)
            (subst (λ (q : Location). location_cell types f q (put_content d st) ≡ Some (Points v)) (sym is) held))
          where
            some : (w : Pointer) × (location_cell types f l st ≡ Some (Points w))
            some = held_some types f l st d v held

            goes : (ks : List ℕ) × (to.local ≡ l.local) × (l.members ≡ to.members ++ ks)
            goes = inner types f rest inputs S st k to l short_to (pointer_short types f rest inputs S st k l pointer some.0 some.1) e

            is : inside to goes.0 ≡ l
            is = ap (λ x. record { local = x; members = to.members ++ goes.0 }) goes.1 ∙ ap (λ (ms : List ℕ). record { local = l.local; members = ms }) (sym goes.2)
