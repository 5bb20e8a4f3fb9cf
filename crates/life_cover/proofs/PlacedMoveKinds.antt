-- A vector or a string that is a member, or behind a pointer, takes the buffer of a local: there is no fault, the facts
-- behind it cover all pointers of the frame, and the local may be bare.
use Rattle.std.proofs.Common.{◌≡◌, ◌≢◌, ◌⊎◌, ⊎_elim, inl, inr, ℕ, suc, ◌<◌, length, true, false, List, [], ◌∷◌, Option, Some, None, refl, sym, ap, subst, ◌∙◌, arith, ◌≤◌}
use Rattle.std.specs.Prelude.{slice_get}
use Rattle.std.proofs.lemmas.Bool.{false≢true}
use Rattle.life_types.specs.Trees.{holds_owner, tree_at, tree_of}
use Rattle.life_types.specs.TypeTests.{is_pointer, is_void}
use Rattle.life_types.specs.Types.{Types}
use Rattle.life_types.specs.declared.place.Place.{Place}
use Rattle.life_types.specs.declared.ty.Ty.{Ty}
use Rattle.life_types.specs.declared.ty.Ty.TheVariants as ty
use Rattle.life_types.specs.declared.ty.TyId.{TyId}
use Rattle.life_types.proofs.TreeLemmas.{tree_made}
use Rattle.life_core.specs.Function.{Function}
use Rattle.life_core.specs.Operands.{Location, Operand, whole}
use Rattle.life_core.specs.Operands as named
use Rattle.life_core.specs.Step.{Move}
use Rattle.life_pset.specs.Shapes.{has_buffer}
use Rattle.life_pset.specs.declared.element.Fact.{Fact}
use Rattle.life_pset.specs.declared.element.Root.{Root}
use Rattle.life_contract.specs.Located.{is_location, located}
use Rattle.life_contract.specs.Signatures.{Signature}
use Rattle.life_proper.specs.Placed.{is_const_place, type_at, type_in, type_of}
use Rattle.life_rules.specs.Carrying.{is_named, writes}
use Rattle.life_store.specs.Cells.{at}
use Rattle.life_store.specs.Content.{Content, Object}
use Rattle.life_store.specs.Doing.{does, giving, moved_to, moves_from}
use Rattle.life_store.specs.Effects.{Effect, Next, Setting, cell, on_got, put_content}
use Rattle.life_store.specs.Held.{owner_word, with_words}
use Rattle.life_store.specs.Owners.{taken}
use Rattle.life_store.specs.Parts.{Parts, local_parts, local_type, parts_at, width_at}
use Rattle.life_store.specs.Places.{Spot, location_cell, spot_words}
use Rattle.life_store.specs.State.{Cell, Empty, Named, Number, Pointer, Points, State}
use Rattle.life_store.proofs.CellLemmas.{some_same}
use Rattle.life_store.proofs.MapLemmas.{one_or_apart}
use Rattle.life_forest.specs.Forest.{Touches}
use Rattle.life_forest.specs.Kinds.{kinds_of, rank_of}
use Rattle.life_forest.specs.Within.{LiesWithin}
use Rattle.life_forest.proofs.Above.{with_words_size}
use Rattle.life_forest.proofs.OneNumber.{one_type}
use Rattle.life_cover.specs.Inputs.{StandsAt, may_change, owning}
use Rattle.life_cover.specs.Lacking.{MayLack}
use Rattle.life_cover.specs.Regions.{Region, owned_in_type}
use Rattle.life_cover.proofs.Behind.{behind_content, no_local, tells_none, no_location}
use Rattle.life_cover.proofs.BufferMoves.{IsBufferParts, placed_buffered}
use Rattle.life_cover.proofs.Buffering.{but_more}
use Rattle.life_cover.proofs.GivenBuffers.{HasGiven, IsGiven, buffer_local, buffer_solid, given_buffer, given_free, given_is, given_object, given_one, given_other, gives, parts_here, given_part}
use Rattle.life_cover.proofs.KnownFrames.{IsKnownFrame, IsRight, hand_of, reach_at, store_of, typed, used_right}
use Rattle.life_cover.proofs.Lacking.{low_whole}
use Rattle.life_cover.proofs.MakeKinds.{IsMade}
use Rattle.life_cover.proofs.Moved.{both_feet}
use Rattle.life_cover.proofs.MovedFacts.{IsBeside, both_false, placed_covered, placed_spares}
use Rattle.life_cover.proofs.ObjectParts.{part_rank}
use Rattle.life_cover.proofs.Opening.{IsTyped, owner_typed, region_part}
use Rattle.life_cover.proofs.OwnerMoves.{left, left_itself, left_other, owner_touches}
use Rattle.life_cover.proofs.PointedPlaces.{pointer_other}
use Rattle.life_cover.proofs.Pointers.{OnRight}
use Rattle.life_cover.proofs.Reaching.{IsReached, by_reach, spot_is}
use Rattle.life_cover.proofs.SaveKinds.{region_within}
use Rattle.life_cover.proofs.SparedPointers.{buffer_free, named_other}
use Rattle.life_cover.proofs.UniquesStay.{had_beside_both}
use Rattle.life_cover.proofs.Unkept.{reached_owning}

-- what a type that has a buffer owns
buffer_owns : (types : Types) (t : Ty) → has_buffer t ≡ true → (item : TyId) × (owned_in_type types (Some t) ≡ Some item)
buffer_owns types ty.Text e = (_, refl)
buffer_owns types (ty.Vector element) e = (element, refl)
buffer_owns types _ e = absurd (false≢true e)

buffer_holds : (types : Types) (t : Ty) → has_buffer t ≡ true → holds_owner (tree_of types (tree_at types) (Some t)) ≡ true
buffer_holds types ty.Text e = refl
buffer_holds types (ty.Vector element) e = refl
buffer_holds types _ e = absurd (false≢true e)

module _ (types : Types) (f : Function) (rest : ℕ → ℕ) (inputs : Root → Option Region) (S : Fact → Type 0) (st : State) (k : IsKnownFrame types f rest inputs S st) where
  -- what is bare behind a move of a local to a place that is no whole local
  abbrev pub GivenBare : ℕ → ℕ → Type 0
  GivenBare y j = MayLack types f inputs S st j ⊎ (slice_get st.cells y ≡ Some (Named j))

module _ (types : Types) (f : Function) (rest : ℕ → ℕ) (inputs : Root → Option Region) (S : Fact → Type 0) (st : State) (k : IsKnownFrame types f rest inputs S st) (sigs : List Signature) (number : ℕ) (place : Place) (S' : Fact → Type 0) (s : Setting) (to : Operand) (y : ℕ)
    (beside : IsBeside sigs types f place y S S' inputs st to) (right : IsRight sigs types number f place (Move to y) S S') (buffer : has_buffer (type_at types f y) ≡ true) (alike : type_of types f to ≡ type_at types f y) (free : is_const_place types f to ≡ false) where
  solid : is_void (type_of types f to) ≡ false
  solid = ap is_void alike ∙ buffer_solid types (type_at types f y) buffer

  module _ (r : IsReached types f st (StandsAt inputs) (may_change types f) S to) (m : ℕ) (named_y : cell st y ≡ Some (Named m)) where
    item : (id : TyId) × (owned_in_type types (Some (type_at types f y)) ≡ Some id)
    item = buffer_owns types (type_at types f y) buffer

    -- it is of the local's type
    place_typed : IsTyped types f rest inputs S st k to r (type_at types f y)
    place_typed = owner_typed types f rest inputs S st k to r (type_at types f y) item.0 alike (buffer_solid types (type_at types f y) buffer) item.1

    typed_y : local_type types f y ≡ Some r.region.ty
    typed_y =
        let w = buffer_local types f rest inputs S st k y m named_y buffer in
        w.typed ∙ ap Some (one_type types k.once w.number r.region.ty (type_at types f y) w.there place_typed.there)

    abbrev given : IsGiven types f rest inputs S st k sigs number place S' to y right buffer m named_y r.region.ty typed_y
    given = given_object types f rest inputs S st k sigs number place S' to y right buffer m named_y r.region.ty typed_y

    abbrev has : HasGiven types f rest inputs S st k sigs number place S' to y right buffer m named_y r.region.ty typed_y
    has = given_buffer types f rest inputs S st k sigs number place S' to y right buffer m named_y r.region.ty typed_y

    is_buffer : IsBufferParts (parts_at types r.region.ty)
    is_buffer = given_is types f rest inputs S st k sigs number place S' to y right buffer m named_y r.region.ty typed_y

    one : width_at types r.region.ty ≡ 1
    one = given_one types f rest inputs S st k sigs number place S' to y right buffer m named_y r.region.ty typed_y

    -- the frame may change what it owns
    own : owning types f r.place.root ≡ true
    own =
        reached_owning sigs types number f place (Move to y) S right.clean to (λ x. refl) k.ordered inputs st k.given.each r (r.change free)
        (ap holds_owner (tree_made types k.ordered r.region.ty ∙ ap (tree_of types (tree_at types)) place_typed.there) ∙ buffer_holds types (type_at types f y) buffer)

    abbrev spot : Spot
    spot = record { object = r.region.object; index = r.index; word = r.region.word }

    abbrev from : Region
    from = record { object = m; word = 0; ty = r.region.ty }

    abbrev behind : Content
    behind = moved_to (parts_at types r.region.ty) (record { object = r.region.object; index = r.index; word = r.region.word }) m (taken (parts_at types r.region.ty) (suc has.held ∷ []) st.world.content)

    -- what the local had, put there
    abbrev Behind : List ℕ → Content
    Behind ws = moved_to (parts_at types r.region.ty) (record { object = r.region.object; index = r.index; word = r.region.word }) m (taken (parts_at types r.region.ty) ws st.world.content)

    -- what it lies in is of no lesser a type
    high : rank_of types r.region.ty ≤ rank_of types r.holder.ty
    high = part_rank types k.ordered r.holder.ty r.region.word r.region.ty (region_part types f rest inputs S st k to r r.holder r.there)

    had_touches : Touches (kinds_of types) (both_feet types r.region from) st.world.content (Behind (spot_words st.world.content (record { object = m; index = 0; word = 0 }) (width_at types r.region.ty)))
    had_touches = one_or_apart m r.region.object itself another
      where
        another : m ≢ r.region.object → Touches (kinds_of types) (both_feet types r.region from) st.world.content (Behind (spot_words st.world.content (record { object = m; index = 0; word = 0 }) (width_at types r.region.ty)))
        another apart =
            owner_touches types k.ordered (hand_of rest st) st.world.content (store_of types f rest inputs S st k) r.region.ty one m given.object given.there given.within given.slot r.region.object r.index r.region.word r.holder
            (left_other types k.ordered (hand_of rest st) st.world.content (store_of types f rest inputs S st k) r.region.ty one m given.object given.there given.within given.slot r.region.object r.holder r.there apart
            (given_free types f rest inputs S st k sigs number place S' to y right buffer m named_y r.region.ty typed_y r.region.object r.holder r.there high))
            (region_within types f rest inputs S st k to r) r.small

        -- the local itself
        itself : m ≡ r.region.object → Touches (kinds_of types) (both_feet types r.region from) st.world.content (Behind (spot_words st.world.content (record { object = m; index = 0; word = 0 }) (width_at types r.region.ty)))
        itself same =
            let holder_is : r.holder ≡ given.object = some_same (sym r.there ∙ ap (at st.world.content.objects) (sym same) ∙ given.there) in
            owner_touches types k.ordered (hand_of rest st) st.world.content (store_of types f rest inputs S st k) r.region.ty one m given.object given.there given.within given.slot r.region.object r.index r.region.word
            (with_words 0 0 (owner_word None ∷ []) given.object)
            (subst (λ j. at (left types k.ordered (hand_of rest st) st.world.content (store_of types f rest inputs S st k) r.region.ty one m given.object given.there given.within given.slot).objects j ≡ Some (with_words 0 0 (owner_word None ∷ []) given.object)) same
            (left_itself types k.ordered (hand_of rest st) st.world.content (store_of types f rest inputs S st k) r.region.ty one m given.object given.there given.within given.slot
            (given_free types f rest inputs S st k sigs number place S' to y right buffer m named_y r.region.ty typed_y m given.object given.there (let e = ap (rank_of types) given.type in omega (arith, e)))))
            (subst (λ (q : Object). LiesWithin types q.ty r.region.word r.region.ty) holder_is (region_within types f rest inputs S st k to r))
            (subst (λ j. r.index < j) (sym (with_words_size 0 0 (owner_word None ∷ []) given.object)) (subst (λ (q : Object). r.index < length q.slots) holder_is r.small))

    touch : Touches (kinds_of types) (both_feet types r.region from) st.world.content behind
    touch = subst (λ (ws : List ℕ). Touches (kinds_of types) (both_feet types r.region from) st.world.content (Behind ws)) has.words had_touches

    -- no pointer is written
    unwritten : (l : Location) (v : Pointer) → is_pointer (type_in types f l) ≡ true → location_cell types f l st ≡ Some (Points v) → writes (Move to y) (located l) ≡ false
    unwritten l v pointer held = both_false (is_location (whole y) (located l)) (is_named to (located l)) (named_other types f rest inputs S st k y m named_y l v held) (by_operand to (ap has_buffer alike ∙ buffer))
      where
        not_pointer : (t : Ty) → has_buffer t ≡ true → is_pointer t ≡ false
        not_pointer ty.Text e = refl
        not_pointer (ty.Vector element) e = refl
        not_pointer _ e = absurd (false≢true e)

        solid_buffer : (t : Ty) → has_buffer t ≡ true → is_void t ≡ false
        solid_buffer ty.Text e = refl
        solid_buffer (ty.Vector element) e = refl
        solid_buffer _ e = absurd (false≢true e)

        by_operand : (o : Operand) → has_buffer (type_of types f o) ≡ true → is_named o (located l) ≡ false
        by_operand (named.Through p members) is = refl
        by_operand (named.Name q) is =
            let same = typed types f rest inputs S st k (named.Name q) (solid_buffer (type_of types f (named.Name q)) is) in
            pointer_other types f rest inputs S st k q l v pointer held (not_pointer (type_in types f q) (ap has_buffer same ∙ is))

    moved_safe : IsMade types f inputs S' (GivenBare types f rest inputs S st k y) no_local no_location st (put_content behind st)
    moved_safe = (
      placed_covered types f rest inputs S st k r.place r.region own r.lies y m named_y typed_y (writes (Move to y)) S' (beside.left r) (buffer_free types f rest inputs S st k r.region.ty is_buffer) unwritten behind touch,
      behind_content types f inputs (GivenBare types f rest inputs S st k y) no_local no_location st behind
          (but_more types (λ j. MayLack types f inputs S st j ⊎ (j ≡ m)) (GivenBare types f rest inputs S st k y) behind (λ j bare. ⊎_elim (λ lacks. inl lacks) (λ is. inr (named_y ∙ ap (λ i. Some (Named i)) (sym is))) bare)
          (placed_buffered types (MayLack types f inputs S st) has.held (low_whole types f rest inputs S st k from has.held has.low) st.world.content k.buffered (parts_at types r.region.ty) is_buffer m r.region.object r.index r.region.word))
          (placed_spares types f rest inputs S st k r.place r.region own r.lies y m named_y typed_y behind touch)
          (λ z j e is_unique. inr (had_beside_both types f rest inputs S st k r.region from (region_part types f rest inputs S st k to r)
          (given_other types f rest inputs S st k sigs number place S' to y right buffer m named_y r.region.ty typed_y)
          (given_part types f rest inputs S st k sigs number place S' to y right buffer m named_y r.region.ty typed_y)
          (given_other types f rest inputs S st k sigs number place S' to y right buffer m named_y r.region.ty typed_y) behind touch z j e is_unique)),
      tells_none types f S' (put_content behind st),
    )

    moves_here : OnRight (moves_from (local_parts types f y) (record { object = r.region.object; index = r.index; word = r.region.word }) (Some (Named m)) st) (IsMade types f inputs S' (GivenBare types f rest inputs S st k y) no_local no_location st)
    moves_here =
        subst (λ (q : Parts). OnRight (moves_from q spot (Some (Named m)) st) (IsMade types f inputs S' (GivenBare types f rest inputs S st k y) no_local no_location st))
        (sym (parts_here types f rest inputs S st k sigs number place S' to y right buffer m named_y r.region.ty typed_y))
        (subst (λ (word : Option ℕ). OnRight (on_got (giving (parts_at types r.region.ty) word) (λ owned. Next (put_content (moved_to (parts_at types r.region.ty) spot m (taken (parts_at types r.region.ty) (owner_word owned ∷ []) st.world.content)) st)))
        (IsMade types f inputs S' (GivenBare types f rest inputs S st k y) no_local no_location st)) (sym has.has)
        (gives types (parts_at types r.region.ty) is_buffer spot m has.held st (IsMade types f inputs S' (GivenBare types f rest inputs S st k y) no_local no_location st) moved_safe))

  pub placed_move_kind : OnRight (does s types f (Move to y) st) (IsMade types f inputs S' (GivenBare types f rest inputs S st k y) no_local no_location st)
  placed_move_kind =
      by_reach types f st (StandsAt inputs) (may_change types f) S to (reach_at types f rest inputs S st k right.closed.of to solid (λ q used. used_right sigs types number f place (Move to y) S right.clean q used))
      go (IsMade types f inputs S' (GivenBare types f rest inputs S st k y) no_local no_location st)
      (λ r. subst (λ e. OnRight e (IsMade types f inputs S' (GivenBare types f rest inputs S st k y) no_local no_location st)) (sym (spot_is types f st (StandsAt inputs) (may_change types f) S to r go)) (by_cell r (cell st y) refl))
    where
      go : Spot → Effect
      go spot = moves_from (local_parts types f y) spot (cell st y) st

      by_cell : (r : IsReached types f st (StandsAt inputs) (may_change types f) S to) (v : Option Cell) → cell st y ≡ v
          → OnRight (moves_from (local_parts types f y) (record { object = r.region.object; index = r.index; word = r.region.word }) v st) (IsMade types f inputs S' (GivenBare types f rest inputs S st k y) no_local no_location st)
      by_cell r (Some (Named m)) e = moves_here r m e
      by_cell r None e = tt
      by_cell r (Some Empty) e = tt
      by_cell r (Some (Number z)) e = tt
      by_cell r (Some (Points q)) e = tt
