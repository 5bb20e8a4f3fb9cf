-- What a call still has to hand over: what each argument hands over is the same while others are handed over.
use Rattle.std.proofs.Common.{◌≡◌, ◌≢◌, inl, inr, ⊎_elim, ℕ, ℤ, Bool, true, false, ◌||◌, List, [], ◌∷◌, Option, Some, None, refl, sym, ap, subst, ◌∙◌}
use Rattle.std.proofs.lemmas.Bool.{and_parts, false≢true}
use Rattle.std.specs.List.{list_any}
use Rattle.std.specs.Prelude.{flat_map, slice_get}
use Rattle.life_types.specs.Pointees.{pointee, ty_of}
use Rattle.life_types.specs.Trees.{IsOrdered}
use Rattle.life_types.specs.TypeTests.{is_pointer}
use Rattle.life_types.specs.Types.{HasEachOnce, Types, is_slot_at}
use Rattle.life_types.specs.declared.ty.Ty.{Ty}
use Rattle.life_types.specs.declared.ty.Ty.TheVariants as ty
use Rattle.life_types.specs.declared.ty.TyId.{TyId}
use Rattle.life_core.specs.Function.{Function}
use Rattle.life_core.specs.Operands.{Argument, GivenOver, Location, PointerOf, Slot, Value}
use Rattle.life_core.specs.Ready.{AreBits, IsThere, Ready}
use Rattle.life_core.specs.Touched.{argument_leaves, argument_uses}
use Rattle.life_core.proofs.ReadyLemmas.{bits_left, bits_right}
use Rattle.life_proper.specs.OperandTypes.{is_composed, same}
use Rattle.life_proper.specs.Placed.{object_at, type_in}
use Rattle.life_proper.specs.WellFormed.{are_arguments_for, are_one, is_argument_for, is_slot_of}
use Rattle.life_proper.proofs.HeldSorts.{same_is}
use Rattle.life_store.specs.Calls.{handed, number_handed, object_handed, pointer_handed, slot_handed, spot_lent, target_cell, target_handed}
use Rattle.life_store.specs.Edits.{owned_at}
use Rattle.life_store.specs.Effects.{Got, cell, put_cell}
use Rattle.life_store.specs.Parts.{Iterates, Member, NoMember, Parts, Raw, Single, Text, Unique, Vector, Views, location_parts, parts_at, parts_if}
use Rattle.life_store.specs.Places.{location_cell, owner_spot_if}
use Rattle.life_store.specs.State.{Cell, Empty, Named, Number, Pointer, Points, State, ready_of}
use Rattle.life_store.proofs.CellLemmas.{cell_cases, cell_other, none_some, ready_set, some_same}
use Rattle.life_forest.specs.Settled.{IsPoised}
use Rattle.life_forest.proofs.HandedOver.{HandEach, given_leaves}
use Rattle.life_forest.proofs.HeldPoints.{IsSound}
use Rattle.life_forest.proofs.SeenTypes.{parts_typed, pointer_parts, pointer_solid}
use Rattle.life_forest.proofs.Shaped.{IsShaped}
use Rattle.life_forest.proofs.SlotPlaces.{IsOwnerAt, owner_at, owner_stays, spot_in}
use Rattle.life_forest.proofs.SlotSorts.{IsSlotSort, slot_sort, slot_taken, taken_type}
use Rattle.life_forest.proofs.SlotsGo.{AreSlotsThere}
use Rattle.life_forest.proofs.StandingPointers.{IsPointer}
use Rattle.life_forest.proofs.TypedSteps.{location_of}

-- ---- what is still to be handed over

abbrev pub IsNameless : Cell → Type 0
IsNameless v = (n : ℕ) → v ≡ Named n → ⊥

module _ (types : Types) (f : Function) (st : State) where
  -- an object is named by its local
  pub record HandsObject (x : ℕ) (v : Cell) : Type 0 where
    pub object : object_at types f x ≡ true
    pub number : ℕ
    pub named : cell st x ≡ Some (Named number)
    pub is : v ≡ Named number

  -- of a unique_ptr goes what it owns
  pub record HandsOwner (l : Location) (v : Cell) : Type 0 where
    pub type : TyId
    pub place : IsOwnerAt types f st l type
    pub is : v ≡ target_cell (owned_at st.world.content (spot_in types f l place.number))

  abbrev pub SlotHands : Parts → Location → Cell → Type 0
  SlotHands (Unique id target) l v = HandsOwner l v
  SlotHands _ l v = IsNameless v

  abbrev pub Hands : Argument → Cell → Type 0
  Hands (Value r) v = IsNameless v
  Hands (PointerOf l) v = IsNameless v
  Hands (GivenOver x) v = HandsObject x v
  Hands (Slot l) v = SlotHands (location_parts types f l) l v

  abbrev pub AllHand : List Argument → List Cell → Type 0
  AllHand [] [] = Unit {0}
  AllHand (x ∷ xs) (v ∷ vs) = Hands x v × AllHand xs vs
  AllHand _ _ = ⊥

-- ---- what an argument hands over, by its kind

number_nameless : (o : Option Cell) (v : Cell) → number_handed o ≡ Some v → IsNameless v
number_nameless None v e n is = none_some e
number_nameless (Some Empty) v e n is = none_some e
number_nameless (Some (Named m)) v e n is = none_some e
number_nameless (Some (Number z)) v e n is = other z (some_same e ∙ is)
  where
    other : (z : ℤ) → Number z ≡ Named n → ⊥
    other z k = cc
number_nameless (Some (Points p)) v e n is = none_some e

pointer_nameless : (o : Option Cell) (v : Cell) → pointer_handed o ≡ Some v → IsNameless v
pointer_nameless None v e n is = none_some e
pointer_nameless (Some Empty) v e n is = none_some e
pointer_nameless (Some (Named m)) v e n is = none_some e
pointer_nameless (Some (Number z)) v e n is = none_some e
pointer_nameless (Some (Points p)) v e n is = other p (some_same e ∙ is)
  where
    other : (p : Pointer) → Points p ≡ Named n → ⊥
    other p k = cc

module _ (types : Types) (ordered : IsOrdered types) (once : HasEachOnce types) (texts : ℕ) (fs : List Function) (f : Function) (shaped : IsShaped types f) (st : State) (at_point : IsPoised types f st) where
  object_hands : (x : ℕ) (v : Cell) → object_at types f x ≡ true → (o : Option Cell) → cell st x ≡ o → object_handed o ≡ Some v → HandsObject types f st x v
  object_hands x v object None is e = absurd (none_some e)
  object_hands x v object (Some Empty) is e = absurd (none_some e)
  object_hands x v object (Some (Named n)) is e = record { object = object; number = n; named = is; is = sym (some_same e) }
  object_hands x v object (Some (Number z)) is e = absurd (none_some e)
  object_hands x v object (Some (Points p)) is e = absurd (none_some e)

  slot_hands : (id : TyId) (l : Location) (v : Cell) → is_slot_at types id ≡ true → same (ty_of types (taken_type types id)) (type_in types f l) ≡ true → IsThere (ready_of st) l.local → slot_handed types f (location_parts types f l) l st ≡ Some v → SlotHands types f st (location_parts types f l) l v
  slot_hands id l v slot alike there e = by_sort (slot_sort types id slot)
    where
      nameless : (q : Parts) → IsPointer q → slot_handed types f q l st ≡ Some v → SlotHands types f st q l v
      nameless Raw is h = pointer_nameless (location_cell types f l st) v h
      nameless Iterates is h = pointer_nameless (location_cell types f l st) v h
      nameless Views is h = pointer_nameless (location_cell types f l st) v h
      nameless Single is h = absurd is
      nameless (Text i) is h = absurd is
      nameless (Vector i element) is h = absurd is
      nameless (Unique i target) is h = absurd is
      nameless (Member first others) is h = absurd is
      nameless NoMember is h = absurd is

      by_sort : IsSlotSort (ty_of types (taken_type types id)) → SlotHands types f st (location_parts types f l) l v
      by_sort (inl pointer) =
          let points : is_pointer (type_in types f l) ≡ true = ap is_pointer (sym (same_is (ty_of types (taken_type types id)) (type_in types f l) alike)) ∙ pointer in
          let of = location_of types ordered once texts fs f shaped l (type_in types f l) refl (pointer_solid (type_in types f l) points) in
          nameless (location_parts types f l) (subst (λ (i : Option TyId). IsPointer (parts_if types i)) (sym of.is) (pointer_parts types ordered of.number (type_in types f l) of.there points)) e
      by_sort (inr u) =
          let a = owner_at types ordered f once shaped st at_point (taken_type types id) u.0 l alike u.1 there in
          let q : location_parts types f l ≡ Unique a.target (parts_at types a.target) = ap (parts_if types) a.typed ∙ parts_typed types ordered (taken_type types id) (ty.Unique a.target) a.there in
          subst (λ (p : Parts). SlotHands types f st p l v) (sym q)
          (record {
            type = taken_type types id;
            place = a;
            is = some_same (sym (subst (λ (p : Parts). slot_handed types f p l st ≡ Some v) q e) ∙ ap (λ (o : Option Cell). target_handed st.world.content (owner_spot_if types f l o)) a.named);
          })

  pub all_hand : (ids : List TyId) (xs : List Argument) (vs : List Cell) → are_arguments_for types texts fs f ids xs ≡ true → HandEach types f st xs vs → AreBits true (ready_of st) (flat_map (argument_uses f) xs) → AllHand types f st xs vs
  all_hand ids [] [] e each uses = tt
  all_hand ids [] (v ∷ vs) e each uses = absurd each
  all_hand ids (x ∷ xs) [] e each uses = absurd each
  all_hand [] (x ∷ xs) (v ∷ vs) e each uses = absurd (false≢true e)
  all_hand (id ∷ ids) (x ∷ xs) (v ∷ vs) e each uses =
      let both = and_parts (is_argument_for types texts fs f id x) (are_arguments_for types texts fs f ids xs) e in
      (one x both.0 each.0 (bits_left true (ready_of st) (argument_uses f x) (flat_map (argument_uses f) xs) uses), all_hand ids xs vs both.1 each.1 (bits_right true (ready_of st) (argument_uses f x) (flat_map (argument_uses f) xs) uses))
    where
      one : (y : Argument) → is_argument_for types texts fs f id y ≡ true → handed types f st y ≡ Some v → AreBits true (ready_of st) (argument_uses f y) → Hands types f st y v
      one (Value r) h is used = number_nameless (cell st r) v is
      one (PointerOf l) h is used = pointer_nameless (location_cell types f l st) v is
      one (GivenOver y) h is used = object_hands y v (and_parts (object_at types f y) _ (and_parts (is_composed (ty_of types id)) _ h).1).0 (cell st y) refl is
      one (Slot l) h is used =
          let slot = and_parts (is_slot_at types id) (same (pointee types (ty_of types id)) (type_in types f l)) h in
          slot_hands id l v slot.0 (subst (λ (t : Ty). same t (type_in types f l) ≡ true) (sym (slot_taken types id slot.0)) slot.1) used.0 is

-- ---- others hand over what they did

emptied_apart : (st : State) (x y : ℕ) → IsThere (ready_of (put_cell x Empty st)) y → x ≢ y
emptied_apart st x y there = ⊎_elim (λ h. absurd (false≢true h.1)) (λ h. h.0) (cell_cases (ready_of st) x y false true (sym (ap (λ (bits : Ready). slice_get bits y) (ready_set st.cells x Empty)) ∙ there))

module _ (types : Types) (ordered : IsOrdered types) (texts : ℕ) (fs : List Function) (f : Function) where
  -- while an object goes
  pub kept_put : (st : State) (x : ℕ) (xs : List Argument) (vs : List Cell) → AllHand types f st xs vs → AreBits true (ready_of (put_cell x Empty st)) (flat_map (argument_leaves f) xs) → AreSlotsThere (ready_of (put_cell x Empty st)) xs → AllHand types f (put_cell x Empty st) xs vs
  kept_put st x [] [] hands leaves slots = tt
  kept_put st x [] (v ∷ vs) hands leaves slots = absurd hands
  kept_put st x (y ∷ xs) [] hands leaves slots = absurd hands
  kept_put st x (Value r ∷ xs) (v ∷ vs) hands leaves slots = (hands.0, kept_put st x xs vs hands.1 leaves slots)
  kept_put st x (PointerOf l ∷ xs) (v ∷ vs) hands leaves slots = (hands.0, kept_put st x xs vs hands.1 leaves slots)
  kept_put st x (GivenOver y ∷ xs) (v ∷ vs) hands leaves slots =
      let h = hands.0 in
      let there = (subst (AreBits true (ready_of (put_cell x Empty st))) (given_leaves types f y h.object) (bits_left true (ready_of (put_cell x Empty st)) (argument_leaves f (GivenOver y)) (flat_map (argument_leaves f) xs) leaves)).0 in (
        record { object = h.object; number = h.number; named = cell_other st.cells x y Empty (emptied_apart st x y there) ∙ h.named; is = h.is },
        kept_put st x xs vs hands.1 (bits_right true (ready_of (put_cell x Empty st)) (argument_leaves f (GivenOver y)) (flat_map (argument_leaves f) xs) leaves) slots,
      )
  kept_put st x (Slot l ∷ xs) (v ∷ vs) hands leaves slots = (one (location_parts types f l) hands.0, kept_put st x xs vs hands.1 leaves slots.1)
    where
      one : (q : Parts) → SlotHands types f st q l v → SlotHands types f (put_cell x Empty st) q l v
      one (Unique id target) h = record {
        type = h.type;
        place = record { target = h.place.target; there = h.place.there; typed = h.place.typed; number = h.place.number; named = cell_other st.cells x l.local Empty (emptied_apart st x l.local slots.0) ∙ h.place.named };
        is = h.is;
      }
      one _ h = h

  -- .. and while null stands in another unique_ptr
  pub kept_null : (rest : ℕ → ℕ) (st : State) (sound : IsSound types f rest st) (l : Location) (id : TyId) (a : IsOwnerAt types f st l id) (xs : List Argument) (vs : List Cell) → AllHand types f st xs vs → list_any (is_slot_of types texts fs f l) xs ≡ false
      → AllHand types f (spot_lent (Got (spot_in types f l a.number)) st) xs vs
  kept_null rest st sound l id a [] [] hands own = tt
  kept_null rest st sound l id a [] (v ∷ vs) hands own = absurd hands
  kept_null rest st sound l id a (y ∷ xs) [] hands own = absurd hands
  kept_null rest st sound l id a (Value r ∷ xs) (v ∷ vs) hands own = (hands.0, kept_null rest st sound l id a xs vs hands.1 own)
  kept_null rest st sound l id a (PointerOf m ∷ xs) (v ∷ vs) hands own = (hands.0, kept_null rest st sound l id a xs vs hands.1 own)
  kept_null rest st sound l id a (GivenOver y ∷ xs) (v ∷ vs) hands own =
      let h = hands.0 in (record { object = h.object; number = h.number; named = h.named; is = h.is }, kept_null rest st sound l id a xs vs hands.1 own)
  kept_null rest st sound l id a (Slot m ∷ xs) (v ∷ vs) hands own = (one (location_parts types f m) hands.0, kept_null rest st sound l id a xs vs hands.1 (apart (are_one l m) own).1)
    where
      apart : (b : Bool) → (b || list_any (is_slot_of types texts fs f l) xs) ≡ false → (b ≡ false) × (list_any (is_slot_of types texts fs f l) xs ≡ false)
      apart true h = absurd (false≢true (sym h))
      apart false h = (refl, h)

      one : (q : Parts) → SlotHands types f st q m v → SlotHands types f (spot_lent (Got (spot_in types f l a.number)) st) q m v
      one (Unique i target) h = record {
        type = h.type;
        place = record { target = h.place.target; there = h.place.there; typed = h.place.typed; number = h.place.number; named = h.place.named };
        is = h.is ∙ ap target_cell (sym (owner_stays types ordered f rest st sound.stands.store sound.stands.frame l m id h.type a h.place (apart (are_one l m) own).0));
      }
      one _ h = h
