-- The changes of a vector or a string, named or behind a pointer, of a whole frame: there is no fault, and the facts behind
-- them cover all pointers.
use Rattle.std.proofs.Common.{◌≡◌, ℕ, true, false, List, [], ◌∷◌, Option, Some, None, refl, sym, ap, subst, ◌∙◌}
use Rattle.std.specs.Prelude.{Contains}
use Rattle.life_types.specs.Pointees.{ty_of}
use Rattle.life_types.specs.TypeTests.{is_pointer, is_value, is_void}
use Rattle.life_types.specs.Types.{Types}
use Rattle.life_types.specs.declared.place.Place.{Place}
use Rattle.life_types.specs.declared.ty.Ty.TheVariants as ty
use Rattle.life_types.specs.declared.ty.TyId.{TyId}
use Rattle.life_core.specs.Function.{Function}
use Rattle.life_core.specs.Operands.{Location, Operand}
use Rattle.life_core.specs.Operands as named
use Rattle.life_core.specs.Step.{Append, Change, Changes, Clear, PopBack, PushBack, Reserve, Set}
use Rattle.life_pset.specs.declared.element.Fact.{Fact}
use Rattle.life_pset.specs.declared.element.Root.{Root}
use Rattle.life_contract.specs.Located.{located}
use Rattle.life_contract.specs.Signatures.{Signature}
use Rattle.life_proper.specs.OperandTypes.{is_range}
use Rattle.life_proper.specs.Placed.{is_const_place, is_number, is_number_of, type_in, type_of}
use Rattle.life_rules.specs.Diagnosing.{reads}
use Rattle.life_rules.proofs.Giving.{at_head}
use Rattle.life_store.specs.Doing.{changed, does, on_given, pushes}
use Rattle.life_store.specs.Effects.{Effect, Setting, cell, word_of_number}
use Rattle.life_store.specs.Parts.{Single, Text, Vector, characters_type, operand_parts, parts_at}
use Rattle.life_store.specs.Places.{Spot, location_cell}
use Rattle.life_store.specs.State.{Cell, Empty, Named, Number, Points, State}
use Rattle.life_store.specs.Views.{seen_words, used}
use Rattle.life_forest.proofs.OneNumber.{type_there}
use Rattle.life_forest.proofs.ReadyCells.{number_any}
use Rattle.life_forest.proofs.SeenTypes.{parts_typed, value_parts}
use Rattle.life_forest.proofs.TypedSteps.{value_solid}
use Rattle.life_cover.proofs.Writing.{change_owning}
use Rattle.life_cover.specs.Frames.{FrameCovered}
use Rattle.life_cover.specs.Lacking.{MayLack}
use Rattle.life_cover.proofs.KnownFrames.{IsKnownFrame, IsRight, hand_of, number_free, reach_at, rooted_of, store_of, used_right}
use Rattle.life_cover.proofs.NumberKinds.{range_fit}
use Rattle.life_cover.proofs.Opening.{IsOpened, text_opened, vector_opened, owner_typed}
use Rattle.life_cover.proofs.OwnerKinds.{append_kind, clear_kind, clear_text_kind, number_right, pop_kind, push_character_kind, push_kind, reserve_kind, set_kind}
use Rattle.life_cover.proofs.PointerKinds.{read_right}
use Rattle.life_cover.proofs.Pointers.{OnRight, right_then}
use Rattle.life_cover.proofs.Reaching.{IsReached, by_reach, spot_is}
use Rattle.life_cover.proofs.SparedPointers.{owner_held}
use Rattle.life_cover.proofs.Using.{NotInvalid}
use Rattle.life_cover.proofs.Lacking.{owner_whole}
use Rattle.life_cover.specs.Inputs.{may_change, owning, StandsAt}
use Rattle.life_cover.specs.Regions.{Region}

module _ (types : Types) (f : Function) (rest : ℕ → ℕ) (inputs : Root → Option Region) (S : Fact → Type 0) (st : State) (k : IsKnownFrame types f rest inputs S st) (sigs : List Signature) (n : ℕ) (place : Place) (S' : Fact → Type 0) (s : Setting) (o : Operand) (free : is_const_place types f o ≡ false) where
  -- the owner is reached
  owner_reached : (c : Change) → IsRight sigs types n f place (Changes o c) S S' → is_void (type_of types f o) ≡ false → ((r : IsReached types f st (StandsAt inputs) (may_change types f) S o) → (MayLack types f inputs S st r.region.object → ⊥) → OnRight (does s types f (Changes o c) st) (FrameCovered types f inputs S'))
      → OnRight (does s types f (Changes o c) st) (FrameCovered types f inputs S')
  owner_reached c right solid each =
      by_reach types f st (StandsAt inputs) (may_change types f) S o (reach_at types f rest inputs S st k right.closed.of o solid (λ q h. used_right sigs types n f place (Changes o c) S right.clean q h)) (λ spot. changed s types f (operand_parts types f o) spot c st) (FrameCovered types f inputs S')
      (λ r. each r (owner_whole types f rest inputs S st k o r solid sigs n place (Changes o c) S' right (at_head o [])))

  -- what is no value isn't added
  no_value : (r : IsReached types f st (StandsAt inputs) (may_change types f) S o) (x : ℕ) (v : Option Cell) → cell st x ≡ v
      → OnRight (pushes s types f (operand_parts types f o) (record { object = r.region.object; index = r.index; word = r.region.word }) x v st) (FrameCovered types f inputs S') → OnRight (does s types f (Changes o (PushBack x)) st) (FrameCovered types f inputs S')
  no_value r x v e h =
      subst (λ z. OnRight z (FrameCovered types f inputs S')) (sym (spot_is types f st (StandsAt inputs) (may_change types f) S o r (λ spot. changed s types f (operand_parts types f o) spot (PushBack x) st)))
      (subst (λ (w : Option Cell). OnRight (pushes s types f (operand_parts types f o) (record { object = r.region.object; index = r.index; word = r.region.word }) x w st) (FrameCovered types f inputs S')) (sym e) h)

  -- ---- characters

  -- what is read is a view
  abbrev pub IsGiven : named.Characters → Type 0
  IsGiven (named.View l) = (is_pointer (type_in types f l) ≡ true) × (is_range (type_in types f l) ≡ true)
  IsGiven (named.Single r) = Unit {0}

  abbrev CanGive : named.Characters → Type 1
  CanGive given = (go : List ℕ → Effect) (Q : State → Type 0) → ((ws : List ℕ) → OnRight (go ws) Q) → OnRight (on_given s types f given st go) Q

  -- .. that nothing is wrong with
  given_right : (given : named.Characters) → IsGiven given → ((l : Location) → given ≡ named.View l → NotInvalid S (located l)) → CanGive given
  given_right (named.Single r) is valid go Q each = number_right (cell st r) (λ z. go (word_of_number z ∷ [])) Q (λ z. each (word_of_number z ∷ []))
  given_right (named.View l) is valid go Q each =
      right_then (used st.world.content (location_cell types f l st)) (λ v. go (seen_words s.texts st.world.content v)) (λ u. Unit {0}) Q (range_fit types f rest inputs S st k l is.0 (valid l refl) is.1 (location_cell types f l st) refl) (λ v h. each (seen_words s.texts st.world.content v))

  -- ---- a string

  module _ (is_text : type_of types f o ≡ ty.Text) where
    solid_text : is_void (type_of types f o) ≡ false
    solid_text = ap is_void is_text

    module _ (r : IsReached types f st (StandsAt inputs) (may_change types f) S o) where
      text_at : (MayLack types f inputs S st r.region.object → ⊥) → IsOpened types f rest inputs S st k o r ty.Text (characters_type types)
      text_at unmoved = text_opened types f rest inputs S st k o r unmoved is_text

      text_parts : parts_at types r.region.ty ≡ Text (characters_type types)
      text_parts = parts_typed types k.ordered r.region.ty ty.Text (owner_typed types f rest inputs S st k o r ty.Text (characters_type types) is_text refl refl).there

    pub text_clear : IsRight sigs types n f place (Changes o Clear) S S' → OnRight (does s types f (Changes o Clear) st) (FrameCovered types f inputs S')
    text_clear right =
        owner_reached Clear right solid_text (λ r unmoved. let h = text_at r unmoved in
        clear_text_kind types k.ordered f (hand_of rest st) st (store_of types f rest inputs S st k) (StandsAt inputs) (may_change types f) (owning types f) (rooted_of types f rest inputs S st k) sigs place S S' k.covered o r (change_owning types f rest inputs S st k sigs n place S' o free right r h.type) (owner_held types f rest inputs S st k o r _ h.type) h.typed h.buffer h.owned s
        (characters_type types) (text_parts r) right.closed)

    pub text_push : (x : ℕ) → is_number types f x ≡ true → IsRight sigs types n f place (Changes o (PushBack x)) S S' → OnRight (does s types f (Changes o (PushBack x)) st) (FrameCovered types f inputs S')
    text_push x number right =
        owner_reached (PushBack x) right solid_text (λ r unmoved. let h = text_at r unmoved in by_cell r h (cell st x) refl)
      where
        by_cell : (r : IsReached types f st (StandsAt inputs) (may_change types f) S o) → IsOpened types f rest inputs S st k o r ty.Text (characters_type types) → (v : Option Cell) → cell st x ≡ v → OnRight (does s types f (Changes o (PushBack x)) st) (FrameCovered types f inputs S')
        by_cell r h (Some (Named m)) e = absurd (number_free types f rest inputs S st k x number m e)
        by_cell r h (Some (Number z)) e =
            push_character_kind types k.ordered f (hand_of rest st) st (store_of types f rest inputs S st k) (StandsAt inputs) (may_change types f) (owning types f) (rooted_of types f rest inputs S st k) sigs place S S' k.covered o r (change_owning types f rest inputs S st k sigs n place S' o free right r h.type) (owner_held types f rest inputs S st k o r _ h.type) h.typed h.buffer h.owned s
            (characters_type types) (text_parts r) x z e right.closed
        by_cell r h None e = no_value r x None e tt
        by_cell r h (Some Empty) e = no_value r x (Some Empty) e tt
        by_cell r h (Some (Points p)) e = no_value r x (Some (Points p)) e tt

    text_given : (c : named.Characters → Change) (given : named.Characters) → IsGiven given → IsRight sigs types n f place (Changes o (c given)) S S' → ((l : Location) → reads (Changes o (c (named.View l))) ≡ l ∷ []) → CanGive given
    text_given c given is right read = given_right given is (λ l e. valid l (subst (λ (x : named.Characters). IsRight sigs types n f place (Changes o (c x)) S S') e right))
      where
        valid : (l : Location) → IsRight sigs types n f place (Changes o (c (named.View l))) S S' → NotInvalid S (located l)
        valid l now = read_right sigs types n f place (Changes o (c (named.View l))) S now.clean l (subst (λ (xs : List Location). Contains xs l) (sym (read l)) (at_head l []))

    pub text_set : (given : named.Characters) → IsGiven given → IsRight sigs types n f place (Changes o (Set given)) S S' → OnRight (does s types f (Changes o (Set given)) st) (FrameCovered types f inputs S')
    text_set given is right =
        owner_reached (Set given) right solid_text (λ r unmoved. let h = text_at r unmoved in
        set_kind types k.ordered f (hand_of rest st) st (store_of types f rest inputs S st k) (StandsAt inputs) (may_change types f) (owning types f) (rooted_of types f rest inputs S st k) sigs place S S' k.covered o r (change_owning types f rest inputs S st k sigs n place S' o free right r h.type) (owner_held types f rest inputs S st k o r _ h.type) h.typed h.buffer h.owned s
        (characters_type types) (text_parts r) given (text_given Set given is right (λ l. refl)) right.closed)

    pub text_append : (given : named.Characters) → IsGiven given → IsRight sigs types n f place (Changes o (Append given)) S S' → OnRight (does s types f (Changes o (Append given)) st) (FrameCovered types f inputs S')
    text_append given is right =
        owner_reached (Append given) right solid_text (λ r unmoved. let h = text_at r unmoved in
        append_kind types k.ordered f (hand_of rest st) st (store_of types f rest inputs S st k) (StandsAt inputs) (may_change types f) (owning types f) (rooted_of types f rest inputs S st k) sigs place S S' k.covered o r (change_owning types f rest inputs S st k sigs n place S' o free right r h.type) (owner_held types f rest inputs S st k o r _ h.type) h.typed h.buffer h.owned s
        (characters_type types) (text_parts r) given (text_given Append given is right (λ l. refl)) right.closed)

  -- ---- a vector

  module _ (element : TyId) (is_vector : type_of types f o ≡ ty.Vector element) where
    solid_vector : is_void (type_of types f o) ≡ false
    solid_vector = ap is_void is_vector

    module _ (r : IsReached types f st (StandsAt inputs) (may_change types f) S o) where
      vector_at : (MayLack types f inputs S st r.region.object → ⊥) → IsOpened types f rest inputs S st k o r (ty.Vector element) element
      vector_at unmoved = vector_opened types f rest inputs S st k o r unmoved element is_vector

      vector_parts : parts_at types r.region.ty ≡ Vector element (parts_at types element)
      vector_parts = parts_typed types k.ordered r.region.ty (ty.Vector element) (owner_typed types f rest inputs S st k o r (ty.Vector element) element is_vector refl refl).there

    pub vector_clear : IsRight sigs types n f place (Changes o Clear) S S' → OnRight (does s types f (Changes o Clear) st) (FrameCovered types f inputs S')
    vector_clear right =
        owner_reached Clear right solid_vector (λ r unmoved. let h = vector_at r unmoved in
        clear_kind types k.ordered f (hand_of rest st) st (store_of types f rest inputs S st k) (StandsAt inputs) (may_change types f) (owning types f) (rooted_of types f rest inputs S st k) sigs place S S' k.covered o r (change_owning types f rest inputs S st k sigs n place S' o free right r h.type) (owner_held types f rest inputs S st k o r _ h.type) h.typed h.buffer h.owned s
        element (parts_at types element) (vector_parts r) right.closed)

    pub vector_pop : IsRight sigs types n f place (Changes o PopBack) S S' → OnRight (does s types f (Changes o PopBack) st) (FrameCovered types f inputs S')
    vector_pop right =
        owner_reached PopBack right solid_vector (λ r unmoved. let h = vector_at r unmoved in
        pop_kind types k.ordered f (hand_of rest st) st (store_of types f rest inputs S st k) (StandsAt inputs) (may_change types f) (owning types f) (rooted_of types f rest inputs S st k) sigs place S S' k.covered o r (change_owning types f rest inputs S st k sigs n place S' o free right r h.type) (owner_held types f rest inputs S st k o r _ h.type) h.typed h.buffer h.owned s
        element (parts_at types element) (vector_parts r) right.closed)

    pub vector_reserve : (count : ℕ) → IsRight sigs types n f place (Changes o (Reserve count)) S S' → OnRight (does s types f (Changes o (Reserve count)) st) (FrameCovered types f inputs S')
    vector_reserve count right =
        owner_reached (Reserve count) right solid_vector (λ r unmoved. let h = vector_at r unmoved in
        reserve_kind types k.ordered f (hand_of rest st) st (store_of types f rest inputs S st k) (StandsAt inputs) (may_change types f) (owning types f) (rooted_of types f rest inputs S st k) sigs place S S' k.covered o r (change_owning types f rest inputs S st k sigs n place S' o free right r h.type) (owner_held types f rest inputs S st k o r _ h.type) h.typed h.buffer h.owned s
        element (parts_at types element) (vector_parts r) count right.closed)

    -- a number
    pub vector_push : (x : ℕ) → is_number_of types f (ty_of types element) x ≡ true → is_value (ty_of types element) ≡ true → IsRight sigs types n f place (Changes o (PushBack x)) S S' → OnRight (does s types f (Changes o (PushBack x)) st) (FrameCovered types f inputs S')
    vector_push x number value right = owner_reached (PushBack x) right solid_vector (λ r unmoved. by_cell r (vector_at r unmoved) (cell st x) refl)
      where
        single : parts_at types element ≡ Single
        single = value_parts types k.ordered element (ty_of types element) (type_there types element (ty_of types element) refl (value_solid (ty_of types element) value)) value

        by_cell : (r : IsReached types f st (StandsAt inputs) (may_change types f) S o) → IsOpened types f rest inputs S st k o r (ty.Vector element) element → (v : Option Cell) → cell st x ≡ v → OnRight (does s types f (Changes o (PushBack x)) st) (FrameCovered types f inputs S')
        by_cell r h (Some (Named m)) e = absurd (number_free types f rest inputs S st k x (number_any types f (ty_of types element) x number) m e)
        by_cell r h (Some (Number z)) e =
            push_kind types k.ordered f (hand_of rest st) st (store_of types f rest inputs S st k) (StandsAt inputs) (may_change types f) (owning types f) (rooted_of types f rest inputs S st k) sigs place S S' k.covered o r (change_owning types f rest inputs S st k sigs n place S' o free right r h.type) (owner_held types f rest inputs S st k o r _ h.type) h.typed h.buffer h.owned s
            element (vector_parts r ∙ ap (Vector element) single) x z e right.closed
        by_cell r h None e = no_value r x None e tt
        by_cell r h (Some Empty) e = no_value r x (Some Empty) e tt
        by_cell r h (Some (Points p)) e = no_value r x (Some (Points p)) e tt

    -- what is neither a number nor an object isn't added
    pub not_pushed : (x : ℕ) (v : Option Cell) → cell st x ≡ v → IsRight sigs types n f place (Changes o (PushBack x)) S S' → ((spot : Spot) → OnRight (pushes s types f (operand_parts types f o) spot x v st) (FrameCovered types f inputs S'))
        → OnRight (does s types f (Changes o (PushBack x)) st) (FrameCovered types f inputs S')
    not_pushed x v e right none = owner_reached (PushBack x) right solid_vector (λ r unmoved. no_value r x v e (none (record { object = r.region.object; index = r.index; word = r.region.word })))
