-- What a call hands over: each argument is as its parameter takes it.
use Rattle.std.proofs.Common.{◌≡◌, inl, inr, ⊎_elim, ℕ, Bool, true, false, ◌&&◌, not, if◌then◌else◌, List, [], ◌∷◌, Option, Some, refl, sym, ap, subst, ◌∙◌}
use Rattle.std.proofs.lemmas.Bool.{and_parts, false≢true}
use Rattle.std.specs.Prelude.{flat_map, map, slice_get, slice_set}
use Rattle.life_types.specs.Pointees.{pointee, ty_of}
use Rattle.life_types.specs.Trees.{IsOrdered}
use Rattle.life_types.specs.TypeTests.{is_constant, is_pointer, is_value}
use Rattle.life_types.specs.Types.{HasEachOnce, Types, is_slot_at}
use Rattle.life_types.specs.declared.ty.Ty.{Ty}
use Rattle.life_types.specs.declared.ty.Ty.TheVariants as ty
use Rattle.life_types.specs.declared.ty.TyId.{TyId}
use Rattle.life_core.specs.Function.{Function}
use Rattle.life_core.specs.Operands.{Argument, GivenOver, Location, PointerOf, Slot, Value}
use Rattle.life_core.specs.Ready.{AreBits, CanLeave, IsThere, Ready}
use Rattle.life_core.specs.Touched.{argument_leaves, argument_uses}
use Rattle.life_core.proofs.ReadyLemmas.{bits_left, bits_right}
use Rattle.life_proper.specs.OperandTypes.{are_alike, is_composed, keeps_const, same, takes}
use Rattle.life_proper.specs.Placed.{object_at, register_at, result_at, slot_at, type_at, type_in}
use Rattle.life_proper.specs.WellFormed.{are_arguments_for, is_argument_for}
use Rattle.life_proper.proofs.HeldSorts.{same_is}
use Rattle.life_store.specs.Calls.{all_handed, handed, number_handed, object_handed, pointer_handed, slot_handed, target_cell, target_handed, with_handed}
use Rattle.life_store.specs.Content.{Content}
use Rattle.life_store.specs.Edits.{owned_at}
use Rattle.life_store.specs.Parts.{Iterates, Member, NoMember, Parts, Raw, Single, Text, Unique, Vector, Views, local_type, location_type, parts_at, parts_if}
use Rattle.life_store.specs.Places.{location_cell, owner_spot_if}
use Rattle.life_store.specs.State.{Cell, Empty, Named, Number, Points, State, ready_of}
use Rattle.life_store.proofs.CellLemmas.{cell_cases}
use Rattle.life_forest.specs.FrameTypes.{IsVariable, PointsWell, Stands, seen_in, seen_type}
use Rattle.life_forest.specs.HeldPointers.{HoldWell, HoldsWell}
use Rattle.life_forest.specs.Settled.{IsPoised}
use Rattle.life_forest.specs.Sorted.{PointerFits}
use Rattle.life_forest.proofs.OneNumber.{also_solid, number_of_type, type_there}
use Rattle.life_forest.proofs.ReadyCells.{location_pointer, number_any, number_cell, object_cell}
use Rattle.life_forest.proofs.SeenTypes.{alike_seen, parts_typed, pointer_solid}
use Rattle.life_forest.proofs.SettlingPointers.{alike_fits, alike_points}
use Rattle.life_forest.proofs.Shaped.{IsShaped, no_slot}
use Rattle.life_forest.proofs.SlotPlaces.{IsOwnedFor, IsOwnerAt, owned_for, owner_at, spot_in}
use Rattle.life_forest.proofs.SlotSorts.{IsSlotSort, composed_free, is_owner_slot, slot_sort, slot_taken, taken_type, value_free}
use Rattle.life_forest.proofs.StandingPointers.{IsPointer}
use Rattle.life_forest.proofs.TypedSteps.{PointersAim, local_of, pointer_of}

-- ---- what a local of the type takes: a value, a pointer that points well, or an object that holds well

abbrev pub IsHandedTo : Types → Content → TyId → Cell → Type 0
IsHandedTo types c id Empty = ⊥
IsHandedTo types c id (Named n) = IsVariable c (Some id) n × HoldsWell types c n id × (is_composed (ty_of types id) ≡ true)
IsHandedTo types c id (Number z) = is_value (ty_of types id) ≡ true
IsHandedTo types c id (Points p) = (is_pointer (ty_of types id) ≡ true) × PointsWell types c (seen_type types (Some id)) p × PointerFits (ty_of types id) p

abbrev pub AreHandedTo : Types → Content → List TyId → List Cell → Type 0
AreHandedTo types c [] [] = Unit {0}
AreHandedTo types c (id ∷ ids) (v ∷ vs) = IsHandedTo types c id v × AreHandedTo types c ids vs
AreHandedTo types c _ _ = ⊥

-- a slot of a unique_ptr takes what that owns, and any other parameter what its local takes
abbrev pub IsTakenIf : Bool → Types → Content → TyId → Cell → Type 0
IsTakenIf true types c id v = (owned : Option ℕ) × (v ≡ target_cell owned) × IsOwnedFor types c id owned
IsTakenIf false types c id v = IsHandedTo types c id v

abbrev pub IsTaken : Types → Content → TyId → Cell → Type 0
IsTaken types c id v = IsTakenIf (is_owner_slot types id) types c (taken_type types id) v

abbrev pub AreTaken : Types → Content → List TyId → List Cell → Type 0
AreTaken types c [] [] = Unit {0}
AreTaken types c (id ∷ ids) (v ∷ vs) = IsTaken types c id v × AreTaken types c ids vs
AreTaken types c _ _ = ⊥

-- each slot is one of a pointer
abbrev pub ArePointerSlots : Types → List TyId → Type 0
ArePointerSlots types [] = Unit {0}
ArePointerSlots types (id ∷ ids) = (is_slot_at types id ≡ true → is_pointer (ty_of types (taken_type types id)) ≡ true) × ArePointerSlots types ids

-- where no slot is one of a unique_ptr, each parameter takes what its local takes
no_owner : (types : Types) (id : TyId) → (is_slot_at types id ≡ true → is_pointer (ty_of types (taken_type types id)) ≡ true) → is_owner_slot types id ≡ false
no_owner types id pointers = go (is_slot_at types id) (is_pointer (ty_of types (taken_type types id))) pointers
  where
    go : (slot pointer : Bool) → (slot ≡ true → pointer ≡ true) → (slot && not pointer) ≡ false
    go false pointer h = refl
    go true true h = refl
    go true false h = absurd (false≢true (h refl))

pub free_taken : (types : Types) (c : Content) (ids : List TyId) (vs : List Cell) → ArePointerSlots types ids → AreTaken types c ids vs → AreHandedTo types c (map (taken_type types) ids) vs
free_taken types c [] [] free taken = tt
free_taken types c [] (v ∷ vs) free taken = taken
free_taken types c (id ∷ ids) [] free taken = taken
free_taken types c (id ∷ ids) (v ∷ vs) free taken = (subst (λ (b : Bool). IsTakenIf b types c (taken_type types id) v) (no_owner types id free.0) taken.0, free_taken types c ids vs free.1 taken.1)

pub free_handed : (types : Types) (c : Content) (ids : List TyId) (vs : List Cell) → ArePointerSlots types ids → AreHandedTo types c (map (taken_type types) ids) vs → AreTaken types c ids vs
free_handed types c [] [] free handed = tt
free_handed types c [] (v ∷ vs) free handed = handed
free_handed types c (id ∷ ids) [] free handed = handed
free_handed types c (id ∷ ids) (v ∷ vs) free handed = (subst (λ (b : Bool). IsTakenIf b types c (taken_type types id) v) (sym (no_owner types id free.0)) handed.0, free_handed types c ids vs free.1 handed.1)

-- each argument hands this over
abbrev pub HandEach : Types → Function → State → List Argument → List Cell → Type 0
HandEach types f st [] [] = Unit {0}
HandEach types f st (x ∷ xs) (v ∷ vs) = (handed types f st x ≡ Some v) × HandEach types f st xs vs
HandEach types f st _ _ = ⊥

-- ---- bits

-- what may leave is there
pub leave_there : (bits : Ready) (x y : ℕ) → IsThere (slice_set bits x false) y → IsThere bits y
leave_there bits x y e = ⊎_elim (λ h. absurd (false≢true h.1)) (λ h. h.1) (cell_cases bits x y false true e)

leave_bits : (bits : Ready) (x : ℕ) (ys : List ℕ) → AreBits true (slice_set bits x false) ys → AreBits true bits ys
leave_bits bits x [] h = tt
leave_bits bits x (y ∷ ys) h = (leave_there bits x y h.0, leave_bits bits x ys h.1)

pub leaves_are : (bits : Ready) (xs : List ℕ) → CanLeave bits xs → AreBits true bits xs
leaves_are bits [] h = tt
leaves_are bits (x ∷ xs) h = (h.0, leave_bits bits x xs (leaves_are (slice_set bits x false) xs h.1))

-- what is given over is an object, and leaves
pub given_leaves : (types : Types) (f : Function) (x : ℕ) → object_at types f x ≡ true → argument_leaves f (GivenOver x) ≡ x ∷ []
given_leaves types f x e = ap (λ (b : Bool). if b then x ∷ [] else []) e

module _ (types : Types) (ordered : IsOrdered types) (once : HasEachOnce types) (texts : ℕ) (fs : List Function) (f : Function) (shaped : IsShaped types f) (rest : ℕ → ℕ) (st : State) (stands : Stands types f rest st) (at_point : IsPoised types f st)
    (aims : PointersAim types f st) (held : HoldWell types f st) where
  -- ---- one argument

  pub record IsHanded (id : TyId) (x : Argument) : Type 0 where
    pub value : Cell
    pub is : handed types f st x ≡ Some value
    pub suits : IsHandedTo types st.world.content id value

  -- .. and taken
  pub record IsGivenTo (id : TyId) (x : Argument) : Type 0 where
    pub value : Cell
    pub is : handed types f st x ≡ Some value
    pub suits : IsTaken types st.world.content id value

  pointer_handed_to : (id : TyId) (l : Location) → takes types (ty_of types id) (type_in types f l) ≡ true → IsThere (ready_of st) l.local → IsHanded id (PointerOf l)
  pointer_handed_to id l e there =
      let both = and_parts (are_alike types (ty_of types id) (type_in types f l)) (keeps_const (is_constant (ty_of types id)) (is_constant (type_in types f l))) e in
      let points = alike_points types (ty_of types id) (type_in types f l) both.0 in
      let seen = alike_seen types ordered once (ty_of types id) (type_in types f l) both.0 in
      let p = location_pointer types f st at_point l points.1 there in
      let from = pointer_of types ordered once texts fs f shaped st aims at_point.sorted l (type_in types f l) refl points.1 in
      let same_seen : seen_type types (local_seen l) ≡ seen_type types (Some id) =
      ap (seen_type types) from.takes.0 ∙ ap (seen_in types) from.there ∙ seen.seen ∙ sym (ap (seen_in types) (type_there types id (ty_of types id) refl (pointer_solid (ty_of types id) points.0))) in
      record {
        value = Points p.0;
        is = ap pointer_handed p.1;
        suits = (
          points.0,
          subst (λ (seen : Option TyId). PointsWell types st.world.content seen p.0) same_seen (aims l from.part from.takes.0 from.takes.1 p.0 p.1),
          alike_fits types (ty_of types id) (type_in types f l) p.0 both.0 both.1 (at_point.pointers l p.0 points.1 p.1),
        );
      }
    where
      local_seen : Location → Option TyId
      local_seen m = location_type types f m

  -- a slot of a pointer hands over what stands there
  slot_handed_to : (id : TyId) (l : Location) → same (ty_of types id) (type_in types f l) ≡ true → is_pointer (ty_of types id) ≡ true → IsThere (ready_of st) l.local → IsHanded id (Slot l)
  slot_handed_to id l e pointer there =
      let t : ty_of types id ≡ type_in types f l = same_is (ty_of types id) (type_in types f l) e in
      let points : is_pointer (type_in types f l) ≡ true = ap is_pointer (sym t) ∙ pointer in
      let p = location_pointer types f st at_point l points there in
      let from = pointer_of types ordered once texts fs f shaped st aims at_point.sorted l (type_in types f l) refl points in
      let one : id ≡ from.part = number_of_type types once id from.part (type_in types f l) e from.there in
      record {
        value = Points p.0;
        is = ap (λ (q : Parts). slot_handed types f q l st) (ap (parts_if types) from.takes.0) ∙ by_parts (parts_at types from.part) from.takes.1 l ∙ ap pointer_handed p.1;
        suits = (
          pointer,
          subst (λ (y : Option TyId). PointsWell types st.world.content (seen_type types y) p.0) (from.takes.0 ∙ ap Some (sym one)) (aims l from.part from.takes.0 from.takes.1 p.0 p.1),
          subst (λ (u : Ty). PointerFits u p.0) (sym t) (at_point.pointers l p.0 points p.1),
        );
      }
    where
      by_parts : (q : Parts) → IsPointer q → (m : Location) → slot_handed types f q m st ≡ pointer_handed (location_cell types f m st)
      by_parts Raw is m = refl
      by_parts Iterates is m = refl
      by_parts Views is m = refl
      by_parts Single is m = absurd is
      by_parts (Text i) is m = absurd is
      by_parts (Vector i element) is m = absurd is
      by_parts (Unique i target) is m = absurd is
      by_parts (Member first others) is m = absurd is
      by_parts NoMember is m = absurd is

  -- a slot of a unique_ptr hands over what that owns
  owner_handed_to : (id : TyId) (l : Location) → IsOwnerAt types f st l id → (v : Cell) × (handed types f st (Slot l) ≡ Some v) × IsTakenIf true types st.world.content id v
  owner_handed_to id l a = (
    target_cell (owned_at st.world.content (spot_in types f l a.number)),
    ap (λ (q : Parts). slot_handed types f q l st) (ap (parts_if types) a.typed ∙ parts_typed types ordered id (ty.Unique a.target) a.there)
        ∙ ap (λ (v : Option Cell). target_handed st.world.content (owner_spot_if types f l v)) a.named,
    (owned_at st.world.content (spot_in types f l a.number), refl, owned_for types ordered f rest st stands.store stands.frame l id a),
  )

  hands_own : (id : TyId) (x : Argument) → is_slot_at types id ≡ false → is_argument_for types texts fs f id x ≡ true → AreBits true (ready_of st) (argument_uses f x) → AreBits true (ready_of st) (argument_leaves f x) → IsHanded id x
  hands_own id (Value r) free e uses leaves =
      let z = number_cell types f st at_point r (number_any types f (ty_of types id) r e) uses.0 in
      record { value = Number z.0; is = ap number_handed z.1; suits = (and_parts (is_value (ty_of types id)) (same (ty_of types id) (type_at types f r)) (and_parts (register_at types f r) _ e).1).0 }
  hands_own id (GivenOver x) free e uses leaves =
      let outer = and_parts (is_composed (ty_of types id)) _ e in
      let object = and_parts (object_at types f x) _ outer.1 in
      let alike = (and_parts (not (slot_at types f x)) (same (ty_of types id) (type_at types f x)) (and_parts (not (result_at types f x)) _ object.1).1).1 in
      let there : IsThere (ready_of st) x = (subst (AreBits true (ready_of st)) (given_leaves types f x object.0) leaves).0 in
      let n = object_cell types f st at_point x object.0 there in
      let of = local_of types ordered once texts fs f shaped x (type_at types f x) refl (also_solid (ty_of types id) (type_at types f x) alike) in
      let typed : local_type types f x ≡ Some id = of.is ∙ ap Some (sym (number_of_type types once id of.number (type_at types f x) alike of.there)) in
      record {
        value = Named n.0;
        is = ap object_handed n.1;
        suits = (subst (λ (y : Option TyId). IsVariable st.world.content y n.0) typed (stands.frame.objects x n.0 n.1), held x n.0 id n.1 typed, outer.0);
      }
  hands_own id (PointerOf l) free e uses leaves = pointer_handed_to id l (and_parts (not (is_slot_at types id)) _ e).1 uses.0
  hands_own id (Slot l) free e uses leaves = absurd (false≢true (sym free ∙ (and_parts (is_slot_at types id) _ e).0))

  hands_one : (id : TyId) (x : Argument) → is_argument_for types texts fs f id x ≡ true → AreBits true (ready_of st) (argument_uses f x) → AreBits true (ready_of st) (argument_leaves f x) → IsGivenTo id x
  hands_one id x e uses leaves = go (is_slot_at types id) refl
    where
      -- what is no slot of a unique_ptr is taken as its local takes it
      plain : is_owner_slot types id ≡ false → IsHanded (taken_type types id) x → IsGivenTo id x
      plain other h = record { value = h.value; is = h.is; suits = subst (λ (b : Bool). IsTakenIf b types st.world.content (taken_type types id) h.value) (sym other) h.suits }

      slot_of : (l : Location) → is_slot_at types id ≡ true → is_argument_for types texts fs f id (Slot l) ≡ true → same (ty_of types (taken_type types id)) (type_in types f l) ≡ true
      slot_of l is h = subst (λ (t : Ty). same t (type_in types f l) ≡ true) (sym (slot_taken types id is)) (and_parts (is_slot_at types id) (same (pointee types (ty_of types id)) (type_in types f l)) h).1

      slot : (y : Argument) → is_slot_at types id ≡ true → is_argument_for types texts fs f id y ≡ true → AreBits true (ready_of st) (argument_uses f y) → IsGivenTo id y
      slot (Slot l) is h used = by_sort (slot_sort types id is)
        where
          by_sort : IsSlotSort (ty_of types (taken_type types id)) → IsGivenTo id (Slot l)
          by_sort (inl pointer) =
              let one = slot_handed_to (taken_type types id) l (slot_of l is h) pointer used.0 in
              record {
                value = one.value;
                is = one.is;
                suits = subst (λ (b : Bool). IsTakenIf b types st.world.content (taken_type types id) one.value) (sym (ap (λ (b : Bool). is_slot_at types id && not b) pointer ∙ none (is_slot_at types id))) one.suits;
              }
            where
              none : (b : Bool) → (b && false) ≡ false
              none true = refl
              none false = refl
          by_sort (inr u) =
              let one = owner_handed_to (taken_type types id) l (owner_at types ordered f once shaped st at_point (taken_type types id) u.0 l (slot_of l is h) u.1 used.0) in
              record {
                value = one.0;
                is = one.1;
                suits = subst (λ (b : Bool). IsTakenIf b types st.world.content (taken_type types id) one.0) (sym (ap (λ (b : Bool). b && not (is_pointer (ty_of types (taken_type types id)))) is ∙ ap (λ (t : Ty). not (is_pointer t)) u.1)) one.2;
              }
      slot (Value r) is h used =
          absurd (false≢true (sym (value_free types (slice_get types.types id.0) (and_parts (is_value (ty_of types id)) (same (ty_of types id) (type_at types f r)) (and_parts (register_at types f r) _ h).1).0) ∙ is))
      slot (GivenOver y) is h used = absurd (false≢true (sym (composed_free types (slice_get types.types id.0) (and_parts (is_composed (ty_of types id)) _ h).0) ∙ is))
      slot (PointerOf l) is h used = absurd (false≢true (sym (ap not is) ∙ (and_parts (not (is_slot_at types id)) _ h).0))

      go : (b : Bool) → is_slot_at types id ≡ b → IsGivenTo id x
      go true is = slot x is e uses
      go false is =
          plain (ap (λ (b : Bool). b && not (is_pointer (ty_of types (taken_type types id)))) is)
          (subst (λ (i : TyId). IsHanded i x) (sym (no_slot types id (slice_get types.types id.0) is)) (hands_own id x is e uses leaves))

  -- ---- all of them

  pub record AreHanded (ids : List TyId) (xs : List Argument) : Type 0 where
    pub values : List Cell
    pub are : all_handed types f st xs ≡ Some values
    pub each : HandEach types f st xs values
    pub suit : AreTaken types st.world.content ids values

  pub hands_all : (ids : List TyId) (xs : List Argument) → are_arguments_for types texts fs f ids xs ≡ true → AreBits true (ready_of st) (flat_map (argument_uses f) xs) → AreBits true (ready_of st) (flat_map (argument_leaves f) xs) → AreHanded ids xs
  hands_all [] [] e uses leaves = record { values = []; are = refl; each = tt; suit = tt }
  hands_all [] (x ∷ xs) e uses leaves = absurd (false≢true e)
  hands_all (id ∷ ids) [] e uses leaves = absurd (false≢true e)
  hands_all (id ∷ ids) (x ∷ xs) e uses leaves =
      let both = and_parts (is_argument_for types texts fs f id x) (are_arguments_for types texts fs f ids xs) e in
      let one = hands_one id x both.0 (bits_left true (ready_of st) (argument_uses f x) (flat_map (argument_uses f) xs) uses) (bits_left true (ready_of st) (argument_leaves f x) (flat_map (argument_leaves f) xs) leaves) in
      let more = hands_all ids xs both.1 (bits_right true (ready_of st) (argument_uses f x) (flat_map (argument_uses f) xs) uses) (bits_right true (ready_of st) (argument_leaves f x) (flat_map (argument_leaves f) xs) leaves) in
      record {
        values = one.value ∷ more.values;
        are = ap (λ (o : Option Cell). with_handed o (all_handed types f st xs)) one.is ∙ ap (with_handed (Some one.value)) more.are;
        each = (one.is, more.each);
        suit = (one.suits, more.suit);
      }
