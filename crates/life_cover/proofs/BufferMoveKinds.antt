-- A vector or a string that is a whole local takes the buffer of another one: there is no fault, the facts behind it cover all pointers of the frame,
-- it has a buffer, and the other one may be bare.
use Rattle.std.proofs.Common.{◌≡◌, ◌≢◌, ◌⊎◌, inl, inr, ⊎_elim, ℕ, suc, ◌<◌, ◌≤◌, true, List, [], ◌∷◌, length, Option, Some, None, refl, sym, ap, subst, ◌∙◌, arith}
use Rattle.std.specs.Prelude.{slice_get}
use Rattle.life_types.specs.Types.{Types}
use Rattle.life_types.specs.declared.place.Place.{Place}
use Rattle.life_types.specs.declared.ty.Ty.{Ty}
use Rattle.life_core.specs.Function.{Function}
use Rattle.life_core.specs.Operands.{whole}
use Rattle.life_core.specs.Operands as named
use Rattle.life_core.specs.Step.{Move}
use Rattle.life_pset.specs.Shapes.{has_buffer}
use Rattle.life_pset.specs.declared.element.Fact.{Fact}
use Rattle.life_contract.specs.Signatures.{Signature}
use Rattle.life_proper.specs.Placed.{type_at}
use Rattle.life_store.specs.Content.{Slot, Object, Content}
use Rattle.life_store.specs.Doing.{does, giving, moved_to, moves_from}
use Rattle.life_store.specs.Effects.{Next, Setting, cell, on_got, put_content}
use Rattle.life_store.specs.Held.{owner_word}
use Rattle.life_store.specs.Owners.{taken}
use Rattle.life_store.specs.Parts.{Parts, local_parts, local_type, parts_at, width_at}
use Rattle.life_store.specs.Places.{spot_words}
use Rattle.life_store.specs.State.{Cell, Empty, Named, Number, Points, State}
use Rattle.life_store.proofs.CellLemmas.{some_same}
use Rattle.life_forest.specs.Forest.{Touches}
use Rattle.life_forest.specs.Kinds.{kinds_of, rank_of}
use Rattle.life_forest.specs.Owned.{times}
use Rattle.life_forest.specs.Values.{owned_of}
use Rattle.life_forest.specs.Within.{LiesWithin}
use Rattle.life_forest.proofs.Members.{within_self}
use Rattle.life_forest.proofs.OneNumber.{one_type}
use Rattle.life_cover.specs.Lacking.{MayLack}
use Rattle.life_cover.specs.Regions.{IsPart, itself, Region}
use Rattle.life_pset.specs.declared.element.Root.{Root}
use Rattle.life_cover.proofs.Behind.{behind_content, no_local, tells_none, no_location}
use Rattle.life_cover.proofs.BufferMoves.{IsBufferParts, moved_buffered}
use Rattle.life_cover.proofs.Buffering.{IsBufferOwner, IsOwnerAt, but_more}
use Rattle.life_cover.proofs.GivenBuffers.{HasGiven, IsBufferLocal, IsGiven, buffer_local, given_buffer, given_free, given_is, given_object, given_one, gives, its_buffer, not_given, parts_here, given_part}
use Rattle.life_cover.proofs.KeptBuffers.{all_some}
use Rattle.life_cover.proofs.KnownFrames.{IsKnownFrame, IsRight, hand_of, store_of}
use Rattle.life_cover.proofs.Lacking.{low_whole}
use Rattle.life_cover.proofs.MakeKinds.{IsMade}
use Rattle.life_cover.proofs.Moved.{both_feet}
use Rattle.life_cover.proofs.MovedFacts.{locals_apart, moved_covered, moved_spares}
use Rattle.life_cover.proofs.OwnerMoves.{left_other, owner_touches}
use Rattle.life_cover.proofs.Pointers.{OnRight}
use Rattle.life_cover.proofs.SparedPointers.{buffer_free}
use Rattle.life_cover.proofs.OtherTypes.{IsOther, buffer_other}
use Rattle.life_cover.proofs.UniqueLocations.{on_spot_at}
use Rattle.life_cover.proofs.UniquesStay.{had_beside_both}

module _ (types : Types) (f : Function) (rest : ℕ → ℕ) (inputs : Root → Option Region) (S : Fact → Type 0) (st : State) (k : IsKnownFrame types f rest inputs S st) where
  -- what is bare behind a move of one local to another
  abbrev pub MovedBare : (x y : ℕ) → ℕ → Type 0
  MovedBare x y j = (MayLack types f inputs S st j × (slice_get st.cells x ≡ Some (Named j) → ⊥)) ⊎ (slice_get st.cells y ≡ Some (Named j))

module _ (types : Types) (f : Function) (rest : ℕ → ℕ) (inputs : Root → Option Region) (S : Fact → Type 0) (st : State) (k : IsKnownFrame types f rest inputs S st) (sigs : List Signature) (number : ℕ) (place : Place) (S' : Fact → Type 0) (s : Setting) (x y : ℕ)
    (right : IsRight sigs types number f place (Move (named.Name (whole x)) y) S S') (buffer : has_buffer (type_at types f x) ≡ true) (same_type : type_at types f x ≡ type_at types f y) (other : x ≢ y) where
  buffer_y : has_buffer (type_at types f y) ≡ true
  buffer_y = subst (λ (t : Ty). has_buffer t ≡ true) same_type buffer

  module _ (n m : ℕ) (named_x : cell st x ≡ Some (Named n)) (named_y : cell st y ≡ Some (Named m)) where
    abbrev u : IsBufferLocal types f rest inputs S st k x n
    u = buffer_local types f rest inputs S st k x n named_x buffer

    -- both are of one type
    typed_y : local_type types f y ≡ Some u.number
    typed_y =
        let w = buffer_local types f rest inputs S st k y m named_y buffer_y in
        w.typed ∙ ap Some (one_type types k.once w.number u.number (type_at types f x) (w.there ∙ ap Some (sym same_type)) u.there)

    abbrev given : IsGiven types f rest inputs S st k sigs number place S' (named.Name (whole x)) y right buffer_y m named_y u.number typed_y
    given = given_object types f rest inputs S st k sigs number place S' (named.Name (whole x)) y right buffer_y m named_y u.number typed_y

    abbrev has : HasGiven types f rest inputs S st k sigs number place S' (named.Name (whole x)) y right buffer_y m named_y u.number typed_y
    has = given_buffer types f rest inputs S st k sigs number place S' (named.Name (whole x)) y right buffer_y m named_y u.number typed_y

    is_buffer : IsBufferParts (parts_at types u.number)
    is_buffer = given_is types f rest inputs S st k sigs number place S' (named.Name (whole x)) y right buffer_y m named_y u.number typed_y

    one : width_at types u.number ≡ 1
    one = given_one types f rest inputs S st k sigs number place S' (named.Name (whole x)) y right buffer_y m named_y u.number typed_y

    apart : m ≢ n
    apart = locals_apart types f rest inputs S st k sigs number place S' x y right other u.number u.typed typed_y n m named_x named_y

    within : LiesWithin types u.variable.object.ty 0 u.number
    within = subst (λ id. LiesWithin types id 0 u.number) (sym u.type) (within_self types u.number)

    slot : 0 < length u.variable.object.slots
    slot = let e = ap length u.variable.one in omega (arith, e)

    high : rank_of types u.number ≤ rank_of types u.variable.object.ty
    high = let e = ap (rank_of types) u.type in omega (arith, e)

    not_x : has.held ≢ n
    not_x = not_given types f rest inputs S st k sigs number place S' (named.Name (whole x)) y right buffer_y m named_y u.number typed_y n u.variable.object u.variable.there high

    free : times (owned_of (parts_at types u.number) (spot_words st.world.content (record { object = m; index = 0; word = 0 }) (width_at types u.number))) n ≡ 0
    free = given_free types f rest inputs S st k sigs number place S' (named.Name (whole x)) y right buffer_y m named_y u.number typed_y n u.variable.object u.variable.there high

    abbrev behind : Content
    behind = moved_to (parts_at types u.number) (record { object = n; index = 0; word = 0 }) m (taken (parts_at types u.number) (suc has.held ∷ []) st.world.content)

    owner : IsOwnerAt types st.world.content n
    owner q there =
        subst (λ (o : Object). IsBufferOwner types (parts_at types o.ty) × ((i : ℕ) (t : Slot) → slice_get o.slots i ≡ Some t → 0 < length t.words)) (some_same (sym u.variable.there ∙ there)) (
          subst (λ id. IsBufferOwner types (parts_at types id)) (sym u.type) (its_buffer types (parts_at types u.number) is_buffer),
          all_some types u.variable.object.width (let fit = (store_of types f rest inputs S st k).fit n u.variable.object u.variable.there in let a = fit.width in let b = ap (width_at types) u.type in let e = one in omega (arith, a, b, e)) u.variable.object.slots
              ((store_of types f rest inputs S st k).fit n u.variable.object u.variable.there).slots,
        )

    touch : Touches (kinds_of types) (both_feet types (record { object = n; word = 0; ty = u.number }) (record { object = m; word = 0; ty = u.number })) st.world.content behind
    touch =
        subst
        (λ (ws : List ℕ). Touches (kinds_of types) (both_feet types (record { object = n; word = 0; ty = u.number }) (record { object = m; word = 0; ty = u.number })) st.world.content
        (moved_to (parts_at types u.number) (record { object = n; index = 0; word = 0 }) m (taken (parts_at types u.number) ws st.world.content))) has.words
        (owner_touches types k.ordered (hand_of rest st) st.world.content (store_of types f rest inputs S st k) u.number one m given.object given.there given.within given.slot n 0 0 u.variable.object
        (left_other types k.ordered (hand_of rest st) st.world.content (store_of types f rest inputs S st k) u.number one m given.object given.there given.within given.slot n u.variable.object u.variable.there apart free) within slot)

    x_part : IsPart types st.world.content (record { object = n; word = 0; ty = u.number })
    x_part q there = itself 0 u.number refl (ap (λ (o : Object). o.ty) (some_same (sym there ∙ u.variable.there)) ∙ u.type)

    x_other : IsOther types u.number
    x_other = buffer_other types k.ordered (type_at types f x) u.number u.there buffer

    moved_safe : IsMade types f inputs S' (MovedBare types f rest inputs S st k x y) no_local no_location st (put_content behind st)
    moved_safe = (
      moved_covered types f rest inputs S st k sigs number place S' x y right other u.number u.typed typed_y n m named_x named_y (buffer_free types f rest inputs S st k u.number is_buffer) behind touch,
      behind_content types f inputs (MovedBare types f rest inputs S st k x y) no_local no_location st behind
          (but_more types (λ j. (MayLack types f inputs S st j × (j ≢ n)) ⊎ (j ≡ m)) (MovedBare types f rest inputs S st k x y) behind
          (λ j bare. ⊎_elim (λ lacks. inl (lacks.0, λ e. lacks.1 (same (some_same (sym e ∙ named_x))))) (λ is. inr (named_y ∙ ap (λ i. Some (Named i)) (sym is))) bare)
          (moved_buffered types (MayLack types f inputs S st) has.held (low_whole types f rest inputs S st k (record { object = m; word = 0; ty = u.number }) has.held has.low) st.world.content k.buffered (parts_at types u.number) is_buffer m n
          ((store_of types f rest inputs S st k).forest.births n u.variable.object u.variable.there) apart not_x owner (λ o there. ap (λ (q : Object). length q.slots) (some_same (sym there ∙ u.variable.there)) ∙ ap length u.variable.one)))
          (moved_spares types f rest inputs S st k sigs number place S' x y right other u.number u.typed typed_y n m named_x named_y behind touch)
          (λ z j e is_unique. inr (had_beside_both types f rest inputs S st k (record { object = n; word = 0; ty = u.number }) (record { object = m; word = 0; ty = u.number }) x_part x_other
          (given_part types f rest inputs S st k sigs number place S' (named.Name (whole x)) y right buffer_y m named_y u.number typed_y) x_other behind touch z j e is_unique)),
      tells_none types f S' (put_content behind st),
    )
      where
        same : {i j : ℕ} → Named i ≡ Named j → i ≡ j
        same e = cc

    moves_here : OnRight (moves_from (local_parts types f y) (record { object = n; index = 0; word = 0 }) (Some (Named m)) st) (IsMade types f inputs S' (MovedBare types f rest inputs S st k x y) no_local no_location st)
    moves_here =
        subst (λ (q : Parts). OnRight (moves_from q (record { object = n; index = 0; word = 0 }) (Some (Named m)) st) (IsMade types f inputs S' (MovedBare types f rest inputs S st k x y) no_local no_location st))
        (sym (parts_here types f rest inputs S st k sigs number place S' (named.Name (whole x)) y right buffer_y m named_y u.number typed_y))
        (subst (λ (o : Option ℕ). OnRight (on_got (giving (parts_at types u.number) o) (λ owned. Next (put_content (moved_to (parts_at types u.number) (record { object = n; index = 0; word = 0 }) m (taken (parts_at types u.number) (owner_word owned ∷ []) st.world.content)) st))) (IsMade types f inputs S' (MovedBare types f rest inputs S st k x y) no_local no_location st)) (sym has.has)
        (gives types (parts_at types u.number) is_buffer (record { object = n; index = 0; word = 0 }) m has.held st (IsMade types f inputs S' (MovedBare types f rest inputs S st k x y) no_local no_location st) moved_safe))

  pub buffer_move_kind : OnRight (does s types f (Move (named.Name (whole x)) y) st) (IsMade types f inputs S' (MovedBare types f rest inputs S st k x y) no_local no_location st)
  buffer_move_kind = on_spot_at types f rest inputs S st k (whole x) (λ spot. moves_from (local_parts types f y) spot (cell st y) st) (IsMade types f inputs S' (MovedBare types f rest inputs S st k x y) no_local no_location st) (λ n named. by_cell n named (cell st y) refl)
    where
      by_cell : (n : ℕ) → cell st x ≡ Some (Named n) → (v : Option Cell) → cell st y ≡ v → OnRight (moves_from (local_parts types f y) (record { object = n; index = 0; word = 0 }) v st) (IsMade types f inputs S' (MovedBare types f rest inputs S st k x y) no_local no_location st)
      by_cell n named (Some (Named m)) e = moves_here n m named e
      by_cell n named None e = tt
      by_cell n named (Some Empty) e = tt
      by_cell n named (Some (Number z)) e = tt
      by_cell n named (Some (Points q)) e = tt
