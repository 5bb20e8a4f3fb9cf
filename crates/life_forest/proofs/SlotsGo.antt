-- Behind a call each location that was handed over as a slot has what stands in the slot.
use Rattle.std.proofs.Common.{◌≡◌, inl, inr, ℕ, zero, suc, ◌+◌, Bool, true, false, cond, not, List, [], ◌∷◌, length, Some, refl, sym, ap, subst, ◌∙◌, arith}
use Rattle.std.proofs.lemmas.Bool.{and_parts, false≢true}
use Rattle.std.specs.Prelude.{slice_get, slice_set}
use Rattle.life_types.specs.Pointees.{pointee, ty_of}
use Rattle.life_types.specs.Trees.{IsOrdered}
use Rattle.life_types.specs.TypeTests.{is_pointer, is_value, is_void}
use Rattle.life_types.specs.Types.{HasEachOnce, Types, is_slot_at}
use Rattle.life_types.specs.declared.ty.Ty.{Ty}
use Rattle.life_types.specs.declared.ty.Ty.TheVariants as ty
use Rattle.life_types.specs.declared.ty.TyId.{TyId}
use Rattle.life_core.specs.Function.{Function}
use Rattle.life_core.specs.Operands.{Argument, GivenOver, Location, PointerOf, Slot, Value}
use Rattle.life_core.specs.Ready.{IsThere, Ready, set_bits}
use Rattle.life_core.specs.Touched.{by_members}
use Rattle.life_pset.specs.Shapes.{members_type, ty_if}
use Rattle.life_pset.specs.Shapes as shapes
use Rattle.life_proper.specs.OperandTypes.{is_composed, same}
use Rattle.life_proper.specs.Placed.{register_at, type_at, type_in}
use Rattle.life_proper.specs.WellFormed.{are_arguments_for, is_argument_for}
use Rattle.life_proper.proofs.HeldSorts.{same_is}
use Rattle.life_store.specs.Calls.{slot_count, slot_returned, slots_returned}
use Rattle.life_store.specs.Effects.{Setting, cell}
use Rattle.life_store.specs.Parts.{Unique, parts_at}
use Rattle.life_store.specs.Places.{pointed}
use Rattle.life_store.proofs.CellLemmas.{some_same}
use Rattle.life_store.specs.State.{Cell, Empty, Named, Number, Points, State, ready_of}
use Rattle.life_forest.specs.Frames.{named_in}
use Rattle.life_forest.specs.FrameTypes.{PointsWell, seen_type}
use Rattle.life_forest.specs.Owned.{times}
use Rattle.life_forest.specs.Settled.{KindsFit}
use Rattle.life_forest.specs.Sorted.{PointerFits}
use Rattle.life_forest.proofs.EnteredFrames.{GivesOn, later, less_sound, on_given_next}
use Rattle.life_forest.proofs.Frames.{first_named}
use Rattle.life_forest.proofs.GivenSlots.{slot_types}
use Rattle.life_forest.proofs.HandedOver.{AreHandedTo, IsHandedTo}
use Rattle.life_forest.proofs.HeldPoints.{IsSound}
use Rattle.life_forest.proofs.HeldPointers.{pointers_aim, pointers_fit}
use Rattle.life_forest.proofs.Keeping.{keeps_self}
use Rattle.life_forest.proofs.OneNumber.{number_of_type}
use Rattle.life_forest.proofs.ReadyCells.{member_is_object, object_cell}
use Rattle.life_forest.proofs.SeenTypes.{parts_typed, pointer_solid}
use Rattle.life_forest.proofs.Shaped.{IsShaped}
use Rattle.life_forest.proofs.SlotSorts.{IsSlotSort, composed_free, slot_sort, slot_taken, taken_type, value_free}
use Rattle.life_forest.proofs.SlotPlaces.{owner_at}
use Rattle.life_forest.proofs.SlotsOwned.{slot_returns_well}
use Rattle.life_forest.proofs.TargetsGo.{pointer_into, points_only}
use Rattle.life_forest.proofs.TypedSteps.{IsPointerOf, pointer_of}

-- what is handed over as a slot is there
abbrev pub AreSlotsThere : Ready → List Argument → Type 0
AreSlotsThere bits [] = Unit {0}
AreSlotsThere bits (Slot l ∷ xs) = IsThere bits l.local × AreSlotsThere bits xs
AreSlotsThere bits (Value r ∷ xs) = AreSlotsThere bits xs
AreSlotsThere bits (GivenOver x ∷ xs) = AreSlotsThere bits xs
AreSlotsThere bits (PointerOf l ∷ xs) = AreSlotsThere bits xs

-- a bit that is set stays
there_set : (bits : Ready) (x : ℕ) → IsThere bits x → slice_set bits x true ≡ bits
there_set [] x e = refl
there_set (b ∷ bits) zero e = ap (λ c. c ∷ bits) (sym (some_same e))
there_set (b ∷ bits) (suc x) e = ap (λ bs. b ∷ bs) (there_set bits x e)

-- no argument but a slot is for a slot
pub own_argument : (types : Types) (texts : ℕ) (fs : List Function) (f : Function) (id : TyId) (x : Argument) → ((l : Location) → x ≡ Slot l → ⊥) → is_argument_for types texts fs f id x ≡ true → is_slot_at types id ≡ false
own_argument types texts fs f id (Value r) other e = value_free types (slice_get types.types id.0) (and_parts (is_value (ty_of types id)) (same (ty_of types id) (type_at types f r)) (and_parts (register_at types f r) _ e).1).0
own_argument types texts fs f id (GivenOver x) other e = composed_free types (slice_get types.types id.0) (and_parts (is_composed (ty_of types id)) _ e).0
own_argument types texts fs f id (PointerOf l) other e = not_true (is_slot_at types id) (and_parts (not (is_slot_at types id)) _ e).0
  where
    not_true : (b : Bool) → not b ≡ true → b ≡ false
    not_true true k = absurd (false≢true k)
    not_true false k = refl
own_argument types texts fs f id (Slot l) other e = absurd (other l refl)

-- as many values as slots
pub slots_counted : (types : Types) (texts : ℕ) (fs : List Function) (f : Function) (ids : List TyId) (xs : List Argument) → are_arguments_for types texts fs f ids xs ≡ true → length (slot_types types ids) ≡ slot_count xs
slots_counted types texts fs f [] [] e = refl
slots_counted types texts fs f [] (x ∷ xs) e = absurd (false≢true e)
slots_counted types texts fs f (id ∷ ids) [] e = absurd (false≢true e)
slots_counted types texts fs f (id ∷ ids) (x ∷ xs) e = one x (and_parts (is_argument_for types texts fs f id x) (are_arguments_for types texts fs f ids xs) e).0 (slots_counted types texts fs f ids xs (and_parts (is_argument_for types texts fs f id x) (are_arguments_for types texts fs f ids xs) e).1)
  where
    is_free : (x : Argument) → ((l : Location) → x ≡ Slot l → ⊥) → is_argument_for types texts fs f id x ≡ true → length (slot_types types ids) ≡ slot_count xs → length (cond (is_slot_at types id) (taken_type types id ∷ slot_types types ids) (slot_types types ids)) ≡ slot_count xs
    is_free x other h more = ap (λ (b : Bool). length (cond b (taken_type types id ∷ slot_types types ids) (slot_types types ids))) (own_argument types texts fs f id x other h) ∙ more

    one : (x : Argument) → is_argument_for types texts fs f id x ≡ true → length (slot_types types ids) ≡ slot_count xs → length (cond (is_slot_at types id) (taken_type types id ∷ slot_types types ids) (slot_types types ids)) ≡ slot_count (x ∷ xs)
    one (Slot l) h more = ap (λ (b : Bool). length (cond b (taken_type types id ∷ slot_types types ids) (slot_types types ids))) (and_parts (is_slot_at types id) _ h).0 ∙ ap suc more ∙ one_more (slot_count xs)
      where
        one_more : (n : ℕ) → suc n ≡ 1 + n
        one_more n = omega arith
    one (Value r) h more = is_free (Value r) (λ l k. unlike l k) h more ∙ nothing (slot_count xs)
      where
        nothing : (n : ℕ) → n ≡ 0 + n
        nothing n = omega arith

        unlike : (l : Location) → Value r ≡ Slot l → ⊥
        unlike l k = cc
    one (GivenOver x) h more = is_free (GivenOver x) (λ l k. unlike l k) h more ∙ nothing (slot_count xs)
      where
        nothing : (n : ℕ) → n ≡ 0 + n
        nothing n = omega arith

        unlike : (l : Location) → GivenOver x ≡ Slot l → ⊥
        unlike l k = cc
    one (PointerOf m) h more = is_free (PointerOf m) (λ l k. unlike l k) h more ∙ nothing (slot_count xs)
      where
        nothing : (n : ℕ) → n ≡ 0 + n
        nothing n = omega arith

        unlike : (l : Location) → PointerOf m ≡ Slot l → ⊥
        unlike l k = cc

module _ (types : Types) (ordered : IsOrdered types) (once : HasEachOnce types) (texts : ℕ) (fs : List Function) (f : Function) (shaped : IsShaped types f) (kinds : KindsFit types f) where
  -- ---- one of them

  module _ (rest : ℕ → ℕ) (s : Setting) (st : State) (id : TyId) (l : Location) (e : same (ty_of types id) (type_in types f l) ≡ true) (there : IsThere (ready_of st) l.local) where
    t : ty_of types id ≡ type_in types f l
    t = same_is (ty_of types id) (type_in types f l) e

    -- an object is in the local of a member
    member_cell : IsSound types f rest st → is_void (type_in types f l) ≡ false → (m : ℕ) (ms : List ℕ) → l.members ≡ m ∷ ms → (n : ℕ) × (cell st l.local ≡ Some (Named n))
    member_cell sound solid m ms k =
        object_cell types f st (record { kinds = kinds; frame = sound.stands.frame; sorted = sound.sorted; pointers = pointers_fit types ordered f st sound.held once texts fs shaped sound.sorted }) l.local
        (member_is_object types f kinds l.local m ms (subst (λ (ns : List ℕ). is_void (ty_if types (members_type types (shapes.local_type types f l.local) ns)) ≡ false) k solid))
        there

    pointer_slot_gives : IsSound types f rest st → is_pointer (ty_of types id) ≡ true → (v : Cell) → IsHandedTo types st.world.content id v → GivesOn types f rest st.world.content (ready_of st) (slot_returned types f l v st)
    pointer_slot_gives sound pointer v suits =
        let p = points_only types ordered once texts fs f shaped kinds rest s st id v pointer suits in
        subst (λ (u : Cell). GivesOn types f rest st.world.content (ready_of st) (slot_returned types f l u st)) (sym p.1)
        (subst (λ (bits : Ready). GivesOn types f rest st.world.content bits (pointed types f l p.0 st)) (stays l.members)
        (pointer_into types ordered once texts fs f shaped kinds rest s st sound l p.0 (member_cell sound (pointer_solid (type_in types f l) points)) points from.part from.there from.takes
        (subst (λ (i : TyId). PointsWell types st.world.content (seen_type types (Some i)) p.0) one (subst (IsHandedTo types st.world.content id) p.1 suits).1)
        (subst (λ (u : Ty). PointerFits u p.0) t (subst (IsHandedTo types st.world.content id) p.1 suits).2)))
      where
        points : is_pointer (type_in types f l) ≡ true
        points = ap is_pointer (sym t) ∙ pointer

        from : IsPointerOf types ordered once texts fs f shaped st (pointers_aim types ordered f st sound.held sound.stands.frame) sound.sorted l (type_in types f l)
        from = pointer_of types ordered once texts fs f shaped st (pointers_aim types ordered f st sound.held sound.stands.frame) sound.sorted l (type_in types f l) refl points

        one : id ≡ from.part
        one = number_of_type types once id from.part (type_in types f l) e from.there

        stays : (ms : List ℕ) → set_bits true (by_members ms (l.local ∷ []) []) (ready_of st) ≡ ready_of st
        stays [] = there_set (ready_of st) l.local there
        stays (m ∷ ms) = refl

    -- a unique_ptr has back what the slot has, which ends
    unique_slot_gives : (target : TyId) → ty_of types id ≡ ty.Unique target → (v : Cell) → IsSound types f (λ k. times (named_in (v ∷ [])) k + rest k) st → IsHandedTo types st.world.content id v → GivesOn types f rest st.world.content (ready_of st) (slot_returned types f l v st)
    unique_slot_gives target is Empty sound suits = absurd suits
    unique_slot_gives target is (Number z) sound suits = absurd (false≢true (ap is_value (sym is) ∙ suits))
    unique_slot_gives target is (Points p) sound suits = absurd (false≢true (ap is_pointer (sym is) ∙ suits.0))
    unique_slot_gives target is (Named m) sound suits =
        let less = less_sound types f (λ k. times (m ∷ []) k + rest k) rest st (λ k. omega arith) sound in
        let a = owner_at types ordered f once shaped st (record { kinds = kinds; frame = less.stands.frame; sorted = less.sorted; pointers = pointers_fit types ordered f st less.held once texts fs shaped less.sorted }) id target l e is there in
        slot_returns_well types ordered f rest st id a.target (parts_at types a.target) (parts_typed types ordered id (ty.Unique a.target) a.there) l a.typed a.number a.named m sound suits.0

    slot_gives : IsSlotSort (ty_of types id) → (v : Cell) → IsSound types f (λ k. times (named_in (v ∷ [])) k + rest k) st → IsHandedTo types st.world.content id v → GivesOn types f rest st.world.content (ready_of st) (slot_returned types f l v st)
    slot_gives (inl pointer) v sound suits = pointer_slot_gives (less_sound types f (λ k. times (named_in (v ∷ [])) k + rest k) rest st (λ k. omega arith) sound) pointer v suits
    slot_gives (inr u) v sound suits = unique_slot_gives u.0 u.1 v sound suits

  -- ---- all of them

  module _ (rest : ℕ → ℕ) (s : Setting) where
    pub slots_give : (ids : List TyId) (xs : List Argument) (vs : List Cell) (st : State) → are_arguments_for types texts fs f ids xs ≡ true → AreHandedTo types st.world.content (slot_types types ids) vs → IsSound types f (λ k. times (named_in vs) k + rest k) st → AreSlotsThere (ready_of st) xs
        → GivesOn types f rest st.world.content (ready_of st) (slots_returned types f xs vs st)
    slots_give ids [] vs st e suits sound there = record { sound = less_sound types f (λ k. times (named_in vs) k + rest k) rest st (λ k. omega arith) sound; bits = refl; waits = keeps_self types (λ k. rest k ≡ 0) st.world.content }
    slots_give [] (x ∷ xs) vs st e suits sound there = absurd (false≢true e)
    slots_give (id ∷ ids) (Value r ∷ xs) vs st e suits sound there =
        let both = and_parts (is_argument_for types texts fs f id (Value r)) (are_arguments_for types texts fs f ids xs) e in
        slots_give ids xs vs st both.1 (subst (λ (b : Bool). AreHandedTo types st.world.content (cond b (taken_type types id ∷ slot_types types ids) (slot_types types ids)) vs) (own_argument types texts fs f id (Value r) unlike both.0) suits) sound there
      where
        unlike : (l : Location) → Value r ≡ Slot l → ⊥
        unlike l k = cc
    slots_give (id ∷ ids) (GivenOver x ∷ xs) vs st e suits sound there =
        let both = and_parts (is_argument_for types texts fs f id (GivenOver x)) (are_arguments_for types texts fs f ids xs) e in
        slots_give ids xs vs st both.1 (subst (λ (b : Bool). AreHandedTo types st.world.content (cond b (taken_type types id ∷ slot_types types ids) (slot_types types ids)) vs) (own_argument types texts fs f id (GivenOver x) unlike both.0) suits) sound there
      where
        unlike : (l : Location) → GivenOver x ≡ Slot l → ⊥
        unlike l k = cc
    slots_give (id ∷ ids) (PointerOf m ∷ xs) vs st e suits sound there =
        let both = and_parts (is_argument_for types texts fs f id (PointerOf m)) (are_arguments_for types texts fs f ids xs) e in
        slots_give ids xs vs st both.1 (subst (λ (b : Bool). AreHandedTo types st.world.content (cond b (taken_type types id ∷ slot_types types ids) (slot_types types ids)) vs) (own_argument types texts fs f id (PointerOf m) unlike both.0) suits) sound there
      where
        unlike : (l : Location) → PointerOf m ≡ Slot l → ⊥
        unlike l k = cc
    slots_give (id ∷ ids) (Slot l ∷ xs) [] st e suits sound there =
        let both = and_parts (is_argument_for types texts fs f id (Slot l)) (are_arguments_for types texts fs f ids xs) e in
        absurd (subst (λ (b : Bool). AreHandedTo types st.world.content (cond b (taken_type types id ∷ slot_types types ids) (slot_types types ids)) []) (and_parts (is_slot_at types id) _ both.0).0 suits)
    slots_give (id ∷ ids) (Slot l ∷ xs) (v ∷ vs) st e suits sound there =
        let both = and_parts (is_argument_for types texts fs f id (Slot l)) (are_arguments_for types texts fs f ids xs) e in
        let slot = and_parts (is_slot_at types id) (same (pointee types (ty_of types id)) (type_in types f l)) both.0 in
        let given = subst (λ (b : Bool). AreHandedTo types st.world.content (cond b (taken_type types id ∷ slot_types types ids) (slot_types types ids)) (v ∷ vs)) slot.0 suits in
        on_given_next types ordered f shaped kinds rest s (λ k. times (named_in vs) k + rest k) st.world.content (ready_of st) (ready_of st) (slot_returned types f l v st) (slots_returned types f xs vs) (λ k. omega arith)
        (slot_gives (λ k. times (named_in vs) k + rest k) s st (taken_type types id) l (subst (λ (t : Ty). same t (type_in types f l) ≡ true) (sym (slot_taken types id slot.0)) slot.1) there.0 (slot_sort types id slot.0) v
        (less_sound types f (λ k. times (named_in (v ∷ vs)) k + rest k) (λ k. times (named_in (v ∷ [])) k + (times (named_in vs) k + rest k)) st (λ k. let a = first_named v vs k in omega (arith, a)) sound) given.0)
        (λ st' g. subst (λ (bits : Ready). GivesOn types f rest st'.world.content bits (slots_returned types f xs vs st')) g.bits
        (slots_give ids xs vs st' both.1
        (later types (λ k. times (named_in vs) k + rest k ≡ 0) (λ k. times (named_in st.cells) k + (times (named_in (v ∷ vs)) k + rest k)) st.world.content st'.world.content sound.stands.store g.waits (slot_types types ids) vs
        (λ n lt. ((λ z. omega (arith, z, lt)), let h = g.sound.stands.store.forest.held n in omega (arith, h, lt))) given.1)
        g.sound (subst (λ (bits : Ready). AreSlotsThere bits xs) (sym g.bits) there.1)))
