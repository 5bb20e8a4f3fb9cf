-- A local that is a vector or a string gives its buffer where it is moved: it has one, since nothing is wrong with the move, and that is beneath it alone.
use Rattle.std.proofs.Common.{◌≡◌, ◌≢◌, ℕ, suc, ◌<◌, ◌≤◌, true, false, List, [], ◌∷◌, length, Option, Some, refl, sym, ap, subst, ◌∙◌, arith}
use Rattle.std.specs.Prelude.{slice_get, slice_index}
use Rattle.std.proofs.lemmas.Bool.{false≢true}
use Rattle.life_types.specs.TypeTests.{is_void}
use Rattle.life_types.specs.Types.{Types}
use Rattle.life_types.specs.declared.place.Place.{Place}
use Rattle.life_types.specs.declared.ty.Ty.{Ty}
use Rattle.life_types.specs.declared.ty.Ty.TheVariants as ty
use Rattle.life_types.specs.declared.ty.TyId.{TyId}
use Rattle.life_core.specs.Function.{Function}
use Rattle.life_core.specs.Operands.{Operand, whole}
use Rattle.life_core.specs.Operands as named
use Rattle.life_core.specs.Step.{Move}
use Rattle.life_pset.specs.Shapes.{has_buffer, ty_if}
use Rattle.life_pset.specs.declared.element.Fact.{Fact}
use Rattle.life_pset.specs.declared.element.Root.{Root}
use Rattle.life_contract.specs.Signatures.{Signature}
use Rattle.life_proper.specs.Placed.{type_at}
use Rattle.life_rules.proofs.Giving.{at_head}
use Rattle.life_store.specs.Cells.{at}
use Rattle.life_store.specs.Content.{Slot, Object}
use Rattle.life_store.specs.Doing.{giving, moved_to}
use Rattle.life_store.specs.Effects.{Next, cell, on_got, put_content}
use Rattle.life_store.specs.Held.{owned_in, owner_word, slot_words, slots_if, words_if}
use Rattle.life_store.specs.Owners.{taken}
use Rattle.life_store.specs.Parts.{Parts, Text, Vector, characters_type, local_parts, local_type, parts_at, parts_if, parts_of, width, width_at}
use Rattle.life_store.specs.Places.{Spot, spot_words}
use Rattle.life_store.specs.State.{Named, State}
use Rattle.life_store.proofs.CellLemmas.{some_same}
use Rattle.life_store.proofs.MapLemmas.{one_or_apart}
use Rattle.life_forest.specs.Forest.{Beneath}
use Rattle.life_forest.specs.FrameTypes.{IsVariable}
use Rattle.life_forest.specs.Kinds.{kinds_of, rank_of}
use Rattle.life_forest.specs.Owned.{times}
use Rattle.life_forest.specs.Values.{listed, owned_of}
use Rattle.life_forest.specs.Within.{LiesWithin}
use Rattle.life_forest.proofs.FrameMoves.{words_are}
use Rattle.life_forest.proofs.Lying.{value_beneath}
use Rattle.life_forest.proofs.Members.{within_self}
use Rattle.life_forest.proofs.OneNumber.{typed_at}
use Rattle.life_forest.proofs.SeenTypes.{parts_typed}
use Rattle.life_forest.proofs.Spots.{lies_at}
use Rattle.life_cover.specs.Buffered.{HasBuffers}
use Rattle.life_cover.specs.Lacking.{MayLack}
use Rattle.life_cover.specs.Regions.{Region, foot_of, IsPart, itself}
use Rattle.life_cover.proofs.BufferMoves.{IsBufferParts}
use Rattle.life_cover.proofs.BufferWords.{text_has, vector_has}
use Rattle.life_cover.proofs.Buffering.{IsBufferOwner}
use Rattle.life_cover.proofs.Buffers.{buffer_low, foot_covers}
use Rattle.life_cover.proofs.Inside.{beneath_lesser}
use Rattle.life_cover.proofs.KnownFrames.{IsKnownFrame, IsRight, hand_of, store_of}
use Rattle.life_cover.proofs.Lacking.{local_whole, named_wrong}
use Rattle.life_cover.proofs.Pointers.{OnRight}
use Rattle.life_cover.proofs.OtherTypes.{IsOther, buffer_other}

-- ---- types whose values have a buffer

module _ (types : Types) where
  buffer_type : (t : Ty) → has_buffer t ≡ true → (p : Parts) × (parts_of types (parts_at types) (Some t) ≡ p) × IsBufferParts p
  buffer_type ty.Text e = (Text (characters_type types), refl, tt)
  buffer_type (ty.Vector element) e = (Vector element (parts_at types element), refl, tt)
  buffer_type _ e = absurd (false≢true e)

  pub buffer_solid : (t : Ty) → has_buffer t ≡ true → is_void t ≡ false
  buffer_solid ty.Text e = refl
  buffer_solid (ty.Vector element) e = refl
  buffer_solid _ e = absurd (false≢true e)

  pub one_word : (p : Parts) → IsBufferParts p → width p ≡ 1
  one_word (Text id) is = refl
  one_word (Vector id element) is = refl
  one_word _ is = absurd is

  pub its_buffer : (p : Parts) → IsBufferParts p → IsBufferOwner types p
  its_buffer (Text id) is ws m e = text_has id ws m e
  its_buffer (Vector id element) is ws m e = vector_has id element ws m e
  its_buffer _ is ws m e = absurd is

  has_one : (p : Parts) → IsBufferParts p → (ws : List ℕ) → HasBuffers p ws → (b : ℕ) × (owned_in (slice_index ws 0) ≡ Some b)
  has_one (Text id) is ws h = h 0 refl
  has_one (Vector id element) is ws h = h 0 refl
  has_one _ is ws h = absurd is

  owns_one : (p : Parts) → IsBufferParts p → (ws : List ℕ) (b : ℕ) → owned_in (slice_index ws 0) ≡ Some b → owned_of p ws ≡ b ∷ []
  owns_one (Text id) is ws b e = ap listed e
  owns_one (Vector id element) is ws b e = ap listed e
  owns_one _ is ws b e = absurd is

  pub gives : (p : Parts) → IsBufferParts p → (spot : Spot) (m b : ℕ) (st : State) (Q : State → Type 0) → Q (put_content (moved_to p spot m (taken p (suc b ∷ []) st.world.content)) st)
      → OnRight (on_got (giving p (Some b)) (λ owned. Next (put_content (moved_to p spot m (taken p (owner_word owned ∷ []) st.world.content)) st))) Q
  gives (Text id) is spot m b st Q h = h
  gives (Vector id element) is spot m b st Q h = h
  gives _ is spot m b st Q h = absurd is

module _ (types : Types) (f : Function) (rest : ℕ → ℕ) (inputs : Root → Option Region) (S : Fact → Type 0) (st : State) (k : IsKnownFrame types f rest inputs S st) where
  -- its type, its parts, and its object
  pub record IsBufferLocal (x n : ℕ) : Type 0 where
    pub number : TyId
    pub typed : local_type types f x ≡ Some number
    pub there : slice_get types.types number.0 ≡ Some (type_at types f x)
    pub value : Parts
    pub is : IsBufferParts value
    pub parts : parts_at types number ≡ value
    pub variable : IsVariable st.world.content (local_type types f x) n
    pub type : variable.object.ty ≡ number

  pub buffer_local : (x n : ℕ) → slice_get st.cells x ≡ Some (Named n) → has_buffer (type_at types f x) ≡ true → IsBufferLocal x n
  buffer_local x n named buffer =
      let of = typed_at types (local_type types f x) (type_at types f x) (sym (ap (ty_if types) (k.shaped x))) (buffer_solid types (type_at types f x) buffer) in
      let p = buffer_type types (type_at types f x) buffer in
      let v = k.stands.frame.objects x n named in record {
        number = of.number;
        typed = of.is;
        there = of.there;
        value = p.0;
        is = p.2;
        parts = parts_typed types k.ordered of.number (type_at types f x) of.there ∙ p.1;
        variable = v;
        type = some_same (sym v.type ∙ of.is);
      }

-- ---- what is moved

module _ (types : Types) (f : Function) (rest : ℕ → ℕ) (inputs : Root → Option Region) (S : Fact → Type 0) (st : State) (k : IsKnownFrame types f rest inputs S st) (sigs : List Signature) (number : ℕ) (place : Place) (S' : Fact → Type 0) (to : Operand) (y : ℕ)
    (right : IsRight sigs types number f place (Move to y) S S') (buffer : has_buffer (type_at types f y) ≡ true) (m : ℕ) (named_y : cell st y ≡ Some (Named m)) (id : TyId) (typed : local_type types f y ≡ Some id) where
  abbrev w : IsBufferLocal types f rest inputs S st k y m
  w = buffer_local types f rest inputs S st k y m named_y buffer

  abbrev from : Region
  from = record { object = m; word = 0; ty = id }

  same_number : w.number ≡ id
  same_number = some_same (sym w.typed ∙ typed)

  pub given_there : slice_get types.types id.0 ≡ Some (type_at types f y)
  given_there = subst (λ (i : TyId). slice_get types.types i.0 ≡ Some (type_at types f y)) same_number w.there

  pub given_is : IsBufferParts (parts_at types id)
  given_is = subst (λ (i : TyId). IsBufferParts (parts_at types i)) same_number (subst IsBufferParts (sym w.parts) w.is)

  pub given_one : width_at types id ≡ 1
  given_one = one_word types (parts_at types id) given_is

  -- its object
  pub record IsGiven : Type 0 where
    pub object : Object
    pub there : at st.world.content.objects m ≡ Some object
    pub type : object.ty ≡ id
    pub within : LiesWithin types object.ty 0 id
    pub slot : 0 < length object.slots

  pub given_object : IsGiven
  given_object = record {
    object = w.variable.object;
    there = w.variable.there;
    type = w.type ∙ same_number;
    within = subst (λ i. LiesWithin types i 0 id) (sym (w.type ∙ same_number)) (within_self types id);
    slot = let e = ap length w.variable.one in omega (arith, e);
  }

  pub given_other : IsOther types id
  given_other = buffer_other types k.ordered (type_at types f y) id given_there buffer

  pub given_part : IsPart types st.world.content (record { object = m; word = 0; ty = id })
  given_part q there = itself 0 id refl (ap (λ (o : Object). o.ty) (some_same (sym there ∙ given_object.there)) ∙ given_object.type)

  -- it has its buffer
  unmoved : MayLack types f inputs S st m → ⊥
  unmoved =
      local_whole types f rest inputs S st k y m named_y
      (λ owner cause moved. named_wrong types f rest inputs S st k sigs number place (Move to y) S' right y m named_y buffer cause moved (whole y) refl (at_head (named.Name (whole y)) []))

  slot_there : slice_get w.variable.object.slots 0 ≡ Some w.variable.slot
  slot_there = ap (λ (ss : List Slot). slice_get ss 0) w.variable.one

  its_words : slot_words st.world.content m 0 ≡ w.variable.slot.words
  its_words = ap (λ (o : Option Object). words_if (slice_get (slots_if o) 0)) w.variable.there ∙ ap words_if slot_there

  -- .. which isn't beneath nothing
  pub record HasGiven : Type 0 where
    pub held : ℕ
    pub has : owned_in (slice_index (slot_words st.world.content m 0) 0) ≡ Some held
    pub words : spot_words st.world.content (record { object = m; index = 0; word = 0 }) (width_at types id) ≡ suc held ∷ []
    pub low : Beneath (kinds_of types) st.world.content (foot_of types (record { object = m; word = 0; ty = id })) held

  pub given_buffer : HasGiven
  given_buffer = record { held = b.0; has = has; words = words; low = low }
    where
      b : (n : ℕ) × (owned_in (slice_index w.variable.slot.words 0) ≡ Some n)
      b = has_one types (parts_at types id) given_is w.variable.slot.words (subst (λ i. HasBuffers (parts_at types i) w.variable.slot.words) (w.type ∙ same_number) (k.buffered m 0 w.variable.object w.variable.slot unmoved w.variable.there slot_there))

      has : owned_in (slice_index (slot_words st.world.content m 0) 0) ≡ Some b.0
      has = ap (λ ws. owned_in (slice_index ws 0)) its_words ∙ b.1

      words : spot_words st.world.content (record { object = m; index = 0; word = 0 }) (width_at types id) ≡ suc b.0 ∷ []
      words = words_are types k.ordered rest st k.stands.store m id given_object.object given_object.there given_object.within given_object.slot given_one ∙ ap (λ (o : Option ℕ). owner_word o ∷ []) has

      low : Beneath (kinds_of types) st.world.content (foot_of types from) b.0
      low =
          buffer_low types k.ordered (hand_of rest st) st.world.content (store_of types f rest inputs S st k) m 0 0 id given_object.object given_object.there given_object.within given_object.slot (parts_at types id) refl b.0
          (ap (owned_of (parts_at types id)) words ∙ owns_one types (parts_at types id) given_is (suc b.0 ∷ []) b.0 refl)

  -- what it has is of a lesser type
  lesser : (n : ℕ) (o : Object) → at st.world.content.objects n ≡ Some o → rank_of types id ≤ rank_of types o.ty → Beneath (kinds_of types) st.world.content (foot_of types from) n → ⊥
  lesser n o there high low =
      let less = beneath_lesser types k.ordered (hand_of rest st) st.world.content (store_of types f rest inputs S st k) from n low given_object.object o given_object.there there in
      let e = ap (rank_of types) given_object.type in
      omega (arith, less, e, high)

  pub not_given : (n : ℕ) (o : Object) → at st.world.content.objects n ≡ Some o → rank_of types id ≤ rank_of types o.ty → given_buffer.held ≢ n
  not_given n o there high e = lesser n o there high (subst (Beneath (kinds_of types) st.world.content (foot_of types from)) e given_buffer.low)

  pub given_free : (n : ℕ) (o : Object) → at st.world.content.objects n ≡ Some o → rank_of types id ≤ rank_of types o.ty → times (owned_of (parts_at types id) (spot_words st.world.content (record { object = m; index = 0; word = 0 }) (width_at types id))) n ≡ 0
  given_free n o there high =
      one_or_apart (times (owned_of (parts_at types id) (spot_words st.world.content (record { object = m; index = 0; word = 0 }) (width_at types id))) n) 0 (λ z. z)
      (λ nz.
      absurd (lesser n o there high
      (value_beneath (kinds_of types) st.world.content (record { object = m; index = 0; word = 0 }) (parts_at types id) given_object.object
      (lies_at types k.ordered (hand_of rest st) st.world.content (store_of types f rest inputs S st k) m 0 0 id given_object.object given_object.there given_object.within given_object.slot) (foot_of types from) (foot_covers types m 0 0 id (parts_at types id) refl) n (omega (arith, nz)))))

  pub parts_here : local_parts types f y ≡ parts_at types id
  parts_here = ap (parts_if types) typed
