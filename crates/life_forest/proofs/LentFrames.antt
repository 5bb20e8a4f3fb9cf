-- What the caller has while a call runs: all but the objects that it gave over, with null in each unique_ptr that it handed over as a slot.
use Rattle.std.proofs.Common.{◌≡◌, ◌≢◌, ⊎_elim, ℕ, ◌+◌, Bool, true, false, not, List, [], ◌∷◌, ◌++◌, Option, Some, None, refl, sym, ap, subst, ◌∙◌, arith}
use Rattle.std.proofs.lemmas.Bool.{and_parts, false≢true}
use Rattle.std.specs.List.{list_any}
use Rattle.std.specs.Prelude.{flat_map, slice_get, slice_set}
use Rattle.life_types.specs.Pointees.{pointee, ty_of}
use Rattle.life_types.specs.Trees.{IsOrdered}
use Rattle.life_types.specs.TypeTests.{is_pointer}
use Rattle.life_types.specs.Types.{Types, is_slot_at}
use Rattle.life_types.specs.declared.ty.Ty.TheVariants as ty
use Rattle.life_types.specs.declared.ty.TyId.{TyId}
use Rattle.life_core.specs.Function.{Function}
use Rattle.life_core.specs.Operands.{Argument, GivenOver, Location, PointerOf, Slot, Value}
use Rattle.life_core.specs.Ready.{CanLeave, IsThere, Ready, set_bits}
use Rattle.life_core.specs.Touched.{argument_leaves}
use Rattle.life_proper.specs.OperandTypes.{same}
use Rattle.life_proper.specs.Placed.{type_in}
use Rattle.life_proper.specs.WellFormed.{are_arguments_for, have_own_slots, is_argument_for, is_slot_of}
use Rattle.life_proper.proofs.HeldSorts.{same_is}
use Rattle.life_store.specs.Calls.{lent, slot_lent, spot_lent, target_cell}
use Rattle.life_store.specs.Edits.{owned_at}
use Rattle.life_store.specs.Effects.{Got, cell, put_cell}
use Rattle.life_store.specs.Parts.{Iterates, Member, NoMember, Parts, Raw, Single, Text, Unique, Vector, Views, local_type, location_parts, parts_at, word_within}
use Rattle.life_store.specs.Places.{owner_spot_if}
use Rattle.life_store.specs.State.{Cell, Empty, Named, Number, Points, State, is_there, ready_of}
use Rattle.life_store.proofs.CellLemmas.{cell_cases, ready_set}
use Rattle.life_forest.specs.Frames.{named_in}
use Rattle.life_forest.specs.Owned.{times}
use Rattle.life_forest.specs.Typed.{IsStore}
use Rattle.life_forest.specs.Values.{listed}
use Rattle.life_forest.proofs.Counting.{times-append}
use Rattle.life_forest.proofs.EnteredFrames.{less_sound}
use Rattle.life_forest.proofs.Frames.{first_named, less_in_hand, named_put}
use Rattle.life_forest.proofs.HandedOver.{ArePointerSlots, given_leaves, leave_there, leaves_are}
use Rattle.life_forest.proofs.HeldPoints.{IsSound}
use Rattle.life_forest.proofs.Keeping.{Keeps, keeps_self, keeps_then}
use Rattle.life_forest.proofs.LaterFrames.{behind_sound}
use Rattle.life_forest.proofs.SeenTypes.{parts_typed}
use Rattle.life_forest.proofs.SlotPlaces.{owner_place, spot_in}
use Rattle.life_forest.proofs.SlotSorts.{slot_taken, taken_type}
use Rattle.life_forest.proofs.SlotsGo.{AreSlotsThere}
use Rattle.life_forest.proofs.SlotsOwned.{lent_sound, lent_waits}
use Rattle.life_forest.proofs.StandingPointers.{IsPointer}
use Rattle.life_forest.proofs.StillHanded.{AllHand, HandsObject, HandsOwner, IsNameless, SlotHands, kept_null, kept_put}

-- what the values name that came out of the unique_ptrs of slots, and not out of cells
abbrev pub slot_names : List Argument → List Cell → List ℕ
slot_names [] vs = []
slot_names (x ∷ xs) [] = []
slot_names (Slot l ∷ xs) (v ∷ vs) = named_in (v ∷ []) ++ slot_names xs vs
slot_names (Value r ∷ xs) (v ∷ vs) = slot_names xs vs
slot_names (PointerOf l ∷ xs) (v ∷ vs) = slot_names xs vs
slot_names (GivenOver x ∷ xs) (v ∷ vs) = slot_names xs vs

-- ---- a cell that is there was there

abbrev pub FewerCells : State → State → Type 0
FewerCells st st' = (x : ℕ) (v : Cell) → is_there v ≡ true → cell st' x ≡ Some v → cell st x ≡ Some v

-- what is there behind what leaves is there, and isn't what left
still_there : (bits : Ready) (ys : List ℕ) (x : ℕ) → IsThere (set_bits false ys bits) x → IsThere bits x
still_there bits [] x e = e
still_there bits (y ∷ ys) x e = leave_there bits y x (still_there (slice_set bits y false) ys x e)

slots_still : (bits : Ready) (ys : List ℕ) (xs : List Argument) → AreSlotsThere (set_bits false ys bits) xs → AreSlotsThere bits xs
slots_still bits ys [] h = tt
slots_still bits ys (Value r ∷ xs) h = slots_still bits ys xs h
slots_still bits ys (PointerOf l ∷ xs) h = slots_still bits ys xs h
slots_still bits ys (GivenOver x ∷ xs) h = slots_still bits ys xs h
slots_still bits ys (Slot l ∷ xs) h = (still_there bits ys l.local h.0, slots_still bits ys xs h.1)

set_bits_append : (ys zs : List ℕ) (bits : Ready) → set_bits false (ys ++ zs) bits ≡ set_bits false zs (set_bits false ys bits)
set_bits_append [] zs bits = refl
set_bits_append (y ∷ ys) zs bits = set_bits_append ys zs (slice_set bits y false)

module _ (types : Types) (ordered : IsOrdered types) (texts : ℕ) (fs : List Function) (f : Function) where
  -- ---- one argument is handed over

  -- the caller is sound behind it, with what it handed over in the hand, which its cells named but for these
  pub record IsStep (rest : ℕ → ℕ) (gone from : List ℕ) (v : Cell) (st after : State) : Type 0 where
    pub sound : IsSound types f (λ k. times (named_in (v ∷ [])) k + rest k) after
    pub cells : FewerCells st after
    pub bits : ready_of after ≡ set_bits false gone (ready_of st)
    pub hand : (k : ℕ) → times (named_in after.cells) k + times (named_in (v ∷ [])) k ≡ times (named_in st.cells) k + times from k
    pub keeps : Keeps types (λ k. ⊥) st.world.content after.world.content

  nothing_lent : (rest : ℕ → ℕ) (v : Cell) (st : State) → IsNameless v → IsSound types f rest st → IsStep rest [] [] v st st
  nothing_lent rest v st nameless sound = record {
    sound = less_sound types f rest (λ k. times (named_in (v ∷ [])) k + rest k) st (λ k. let z = unnamed v nameless k in omega (arith, z)) sound;
    cells = λ x u there e. e;
    bits = refl;
    hand = λ k. let z = unnamed v nameless k in omega (arith, z);
    keeps = keeps_self types (λ k. ⊥) st.world.content;
  }
    where
      unnamed : (v : Cell) → IsNameless v → (k : ℕ) → times (named_in (v ∷ [])) k ≡ 0
      unnamed Empty h k = refl
      unnamed (Named n) h k = absurd (h n refl)
      unnamed (Number z) h k = refl
      unnamed (Points p) h k = refl

  -- .. as a slot of a pointer
  pointer_lent : (rest : ℕ → ℕ) (v : Cell) (st : State) → IsNameless v → IsSound types f rest st → IsStep rest [] (named_in (v ∷ [])) v st st
  pointer_lent rest v st nameless sound =
      let step = nothing_lent rest v st nameless sound in
      record { sound = step.sound; cells = step.cells; bits = step.bits; hand = λ k. refl; keeps = step.keeps }

  object_lent : (rest : ℕ → ℕ) (v : Cell) (st : State) (x : ℕ) → HandsObject types f st x v → IsSound types f rest st → IsStep rest (x ∷ []) [] v st (put_cell x Empty st)
  object_lent rest v st x h sound = record {
    sound = behind_sound types f rest st sound (slice_set st.cells x Empty) fewer st.world (λ k. times (named_in (v ∷ [])) k)
        (less_in_hand types (λ k. times (named_in st.cells) k + rest k) (λ k. times (named_in (v ∷ [])) k + (times (named_in (slice_set st.cells x Empty)) k + rest k)) st.world.content
        (λ k. let e = named_put st.cells x (Named h.number) Empty k h.named in let i = ap (λ (u : Cell). times (named_in (u ∷ [])) k) h.is in omega (arith, e, i)) sound.stands.store)
        (keeps_self types (λ k. times (named_in (slice_set st.cells x Empty)) k + rest k ≡ 0) st.world.content);
    cells = fewer;
    bits = ready_set st.cells x Empty;
    hand = λ k. let e = named_put st.cells x (Named h.number) Empty k h.named in let i = ap (λ (u : Cell). times (named_in (u ∷ [])) k) h.is in omega (arith, e, i);
    keeps = keeps_self types (λ k. ⊥) st.world.content;
  }
    where
      fewer : (y : ℕ) (u : Cell) → is_there u ≡ true → slice_get (slice_set st.cells x Empty) y ≡ Some u → slice_get st.cells y ≡ Some u
      fewer y u there e = ⊎_elim (λ k. absurd (false≢true (ap is_there k.1 ∙ there))) (λ k. k.1) (cell_cases st.cells x y Empty u e)

  owner_lent : (rest : ℕ → ℕ) (v : Cell) (st : State) (l : Location) (h : HandsOwner types f st l v) → IsSound types f rest st → IsStep rest [] (named_in (v ∷ [])) v st (spot_lent (Got (spot_in types f l h.place.number)) st)
  owner_lent rest v st l h sound =
      let place = owner_place types ordered f rest st sound.stands.store sound.stands.frame l h.type h.place in
      let parts = parts_typed types ordered h.type (ty.Unique h.place.target) h.place.there in
      record {
        sound = less_sound types f (λ k. times (listed (owned_at st.world.content (spot_in types f l h.place.number))) k + rest k) (λ k. times (named_in (v ∷ [])) k + rest k) (spot_lent (Got (spot_in types f l h.place.number)) st)
            (λ k. let i = ap (λ (u : Cell). times (named_in (u ∷ [])) k) h.is in let n = names (owned_at st.world.content (spot_in types f l h.place.number)) k in omega (arith, i, n))
            (lent_sound types ordered f rest st h.type h.place.target (parts_at types h.place.target) parts h.place.number (word_within types (local_type types f l.local) l.members) place.0 place.1 sound);
        cells = λ x u there e. e;
        bits = refl;
        hand = λ k. refl;
        keeps = lent_waits types ordered f rest st h.type h.place.target (parts_at types h.place.target) parts h.place.number (word_within types (local_type types f l.local) l.members) place.0 place.1 (λ k. ⊥);
      }
    where
      names : (owned : Option ℕ) (k : ℕ) → times (named_in (target_cell owned ∷ [])) k ≡ times (listed owned) k
      names None k = refl
      names (Some n) k = refl

  -- ---- one after the other

  -- behind all of them: each cell that is there was there, what was handed over is in the hand, and no pointer has changed
  pub record IsLent (rest : ℕ → ℕ) (gone from : List ℕ) (vs : List Cell) (st after : State) : Type 0 where
    pub cells : FewerCells st after
    pub bits : ready_of after ≡ set_bits false gone (ready_of st)
    pub hand : (k : ℕ) → times (named_in after.cells) k + times (named_in vs) k ≡ times (named_in st.cells) k + times from k
    pub store : IsStore types (λ k. times (named_in vs) k + (times (named_in after.cells) k + rest k)) after.world.content
    pub keeps : Keeps types (λ k. ⊥) st.world.content after.world.content

  lent_none : (rest : ℕ → ℕ) (st : State) → IsSound types f rest st → IsLent rest [] [] [] st st
  lent_none rest st sound = record {
    cells = λ x v there e. e;
    bits = refl;
    hand = λ k. refl;
    store = less_in_hand types (λ k. times (named_in st.cells) k + rest k) (λ k. 0 + (times (named_in st.cells) k + rest k)) st.world.content (λ k. omega arith) sound.stands.store;
    keeps = keeps_self types (λ k. ⊥) st.world.content;
  }

  lent_then : (rest : ℕ → ℕ) (gone more from others : List ℕ) (v : Cell) (vs : List Cell) (st next after : State) → IsStep rest gone from v st next → IsLent (λ k. times (named_in (v ∷ [])) k + rest k) more others vs next after
      → IsLent rest (gone ++ more) (from ++ others) (v ∷ vs) st after
  lent_then rest gone more from others v vs st next after step h = record {
    cells = λ x u there e. step.cells x u there (h.cells x u there e);
    bits = h.bits ∙ ap (set_bits false more) step.bits ∙ sym (set_bits_append gone more (ready_of st));
    hand = λ k. let a = step.hand k in let b = h.hand k in let c = first_named v vs k in let d = times-append from others k in omega (arith, a, b, c, d);
    store = less_in_hand types (λ k. times (named_in vs) k + (times (named_in after.cells) k + (times (named_in (v ∷ [])) k + rest k))) (λ k. times (named_in (v ∷ vs)) k + (times (named_in after.cells) k + rest k)) after.world.content
        (λ k. let a = first_named v vs k in omega (arith, a)) h.store;
    keeps = keeps_then types (λ k. ⊥) st.world.content next.world.content after.world.content step.keeps h.keeps;
  }

  -- a slot, where the others follow
  slot_lends : (rest : ℕ → ℕ) (l : Location) (v : Cell) (xs : List Argument) (vs : List Cell) (st : State) → IsSound types f rest st → (q : Parts) → SlotHands types f st q l v → AllHand types f st xs vs → list_any (is_slot_of types texts fs f l) xs ≡ false
      → ((next : State) → IsStep rest [] (named_in (v ∷ [])) v st next → AllHand types f next xs vs → IsLent (λ k. times (named_in (v ∷ [])) k + rest k) (flat_map (argument_leaves f) xs) (slot_names xs vs) vs next (lent types f xs next))
      → IsLent rest (flat_map (argument_leaves f) xs) (named_in (v ∷ []) ++ slot_names xs vs) (v ∷ vs) st (lent types f xs (slot_lent types f q l st))
  slot_lends rest l v xs vs st sound (Unique id target) h hands own more =
      let step = owner_lent rest v st l h sound in
      let next = spot_lent (Got (spot_in types f l h.place.number)) st in
      subst (λ (o : Option Cell). IsLent rest (flat_map (argument_leaves f) xs) (named_in (v ∷ []) ++ slot_names xs vs) (v ∷ vs) st (lent types f xs (spot_lent (owner_spot_if types f l o) st))) (sym h.place.named)
      (lent_then rest [] (flat_map (argument_leaves f) xs) (named_in (v ∷ [])) (slot_names xs vs) v vs st next (lent types f xs next) step (more next step (kept_null types ordered texts fs f rest st sound l h.type h.place xs vs hands own)))
  slot_lends rest l v xs vs st sound Raw h hands own more = let step = pointer_lent rest v st h sound in lent_then rest [] (flat_map (argument_leaves f) xs) (named_in (v ∷ [])) (slot_names xs vs) v vs st st (lent types f xs st) step (more st step hands)
  slot_lends rest l v xs vs st sound Iterates h hands own more = let step = pointer_lent rest v st h sound in lent_then rest [] (flat_map (argument_leaves f) xs) (named_in (v ∷ [])) (slot_names xs vs) v vs st st (lent types f xs st) step (more st step hands)
  slot_lends rest l v xs vs st sound Views h hands own more = let step = pointer_lent rest v st h sound in lent_then rest [] (flat_map (argument_leaves f) xs) (named_in (v ∷ [])) (slot_names xs vs) v vs st st (lent types f xs st) step (more st step hands)
  slot_lends rest l v xs vs st sound Single h hands own more = let step = pointer_lent rest v st h sound in lent_then rest [] (flat_map (argument_leaves f) xs) (named_in (v ∷ [])) (slot_names xs vs) v vs st st (lent types f xs st) step (more st step hands)
  slot_lends rest l v xs vs st sound (Text i) h hands own more = let step = pointer_lent rest v st h sound in lent_then rest [] (flat_map (argument_leaves f) xs) (named_in (v ∷ [])) (slot_names xs vs) v vs st st (lent types f xs st) step (more st step hands)
  slot_lends rest l v xs vs st sound (Vector i element) h hands own more = let step = pointer_lent rest v st h sound in lent_then rest [] (flat_map (argument_leaves f) xs) (named_in (v ∷ [])) (slot_names xs vs) v vs st st (lent types f xs st) step (more st step hands)
  slot_lends rest l v xs vs st sound (Member first others) h hands own more = let step = pointer_lent rest v st h sound in lent_then rest [] (flat_map (argument_leaves f) xs) (named_in (v ∷ [])) (slot_names xs vs) v vs st st (lent types f xs st) step (more st step hands)
  slot_lends rest l v xs vs st sound NoMember h hands own more = let step = pointer_lent rest v st h sound in lent_then rest [] (flat_map (argument_leaves f) xs) (named_in (v ∷ [])) (slot_names xs vs) v vs st st (lent types f xs st) step (more st step hands)

  pub lends : (rest : ℕ → ℕ) (xs : List Argument) (vs : List Cell) (st : State) → IsSound types f rest st → AllHand types f st xs vs → have_own_slots types texts fs f xs ≡ true → CanLeave (ready_of st) (flat_map (argument_leaves f) xs)
      → AreSlotsThere (set_bits false (flat_map (argument_leaves f) xs) (ready_of st)) xs → IsLent rest (flat_map (argument_leaves f) xs) (slot_names xs vs) vs st (lent types f xs st)
  lends rest [] [] st sound hands own leaves slots = lent_none rest st sound
  lends rest [] (v ∷ vs) st sound hands own leaves slots = absurd hands
  lends rest (x ∷ xs) [] st sound hands own leaves slots = absurd hands
  lends rest (Value r ∷ xs) (v ∷ vs) st sound hands own leaves slots =
      let step = nothing_lent rest v st hands.0 sound in
      lent_then rest [] (flat_map (argument_leaves f) xs) [] (slot_names xs vs) v vs st st (lent types f xs st) step (lends (λ k. times (named_in (v ∷ [])) k + rest k) xs vs st step.sound hands.1 own leaves slots)
  lends rest (PointerOf l ∷ xs) (v ∷ vs) st sound hands own leaves slots =
      let step = nothing_lent rest v st hands.0 sound in
      lent_then rest [] (flat_map (argument_leaves f) xs) [] (slot_names xs vs) v vs st st (lent types f xs st) step (lends (λ k. times (named_in (v ∷ [])) k + rest k) xs vs st step.sound hands.1 own leaves slots)
  lends rest (GivenOver x ∷ xs) (v ∷ vs) st sound hands own leaves slots =
      let step = object_lent rest v st x hands.0 sound in
      let gone : flat_map (argument_leaves f) (GivenOver x ∷ xs) ≡ x ∷ flat_map (argument_leaves f) xs = ap (λ (ys : List ℕ). ys ++ flat_map (argument_leaves f) xs) (given_leaves types f x hands.0.object) in
      let bits : slice_set (ready_of st) x false ≡ ready_of (put_cell x Empty st) = sym (ready_set st.cells x Empty) in
      let may : CanLeave (ready_of (put_cell x Empty st)) (flat_map (argument_leaves f) xs) = subst (λ (b : Ready). CanLeave b (flat_map (argument_leaves f) xs)) bits (subst (CanLeave (ready_of st)) gone leaves).1 in
      let there : AreSlotsThere (set_bits false (flat_map (argument_leaves f) xs) (ready_of (put_cell x Empty st))) xs =
      subst (λ (b : Ready). AreSlotsThere (set_bits false (flat_map (argument_leaves f) xs) b) xs) bits (subst (λ (ys : List ℕ). AreSlotsThere (set_bits false ys (ready_of st)) xs) gone slots) in
      subst (λ (ys : List ℕ). IsLent rest ys (slot_names xs vs) (v ∷ vs) st (lent types f xs (put_cell x Empty st))) (sym gone)
      (lent_then rest (x ∷ []) (flat_map (argument_leaves f) xs) [] (slot_names xs vs) v vs st (put_cell x Empty st) (lent types f xs (put_cell x Empty st)) step
      (lends (λ k. times (named_in (v ∷ [])) k + rest k) xs vs (put_cell x Empty st) step.sound
      (kept_put types ordered texts fs f st x xs vs hands.1 (leaves_are (ready_of (put_cell x Empty st)) (flat_map (argument_leaves f) xs) may) (slots_still (ready_of (put_cell x Empty st)) (flat_map (argument_leaves f) xs) xs there)) own may there))
  lends rest (Slot l ∷ xs) (v ∷ vs) st sound hands own leaves slots =
      let both = and_parts (not (list_any (is_slot_of types texts fs f l) xs)) (have_own_slots types texts fs f xs) own in
      slot_lends rest l v xs vs st sound (location_parts types f l) hands.0 hands.1 (not_true (list_any (is_slot_of types texts fs f l) xs) both.0)
      (λ next step h. lends (λ k. times (named_in (v ∷ [])) k + rest k) xs vs next step.sound h both.1 (subst (λ (b : Ready). CanLeave b (flat_map (argument_leaves f) xs)) (sym step.bits) leaves)
      (subst (λ (b : Ready). AreSlotsThere (set_bits false (flat_map (argument_leaves f) xs) b) xs) (sym step.bits) slots.1))
    where
      not_true : (b : Bool) → not b ≡ true → b ≡ false
      not_true true k = absurd (false≢true k)
      not_true false k = refl

-- ---- where no slot is one of a unique_ptr, the world stays

pub pointers_lend : (types : Types) (texts : ℕ) (fs : List Function) (f : Function) → ((l : Location) → is_pointer (type_in types f l) ≡ true → IsPointer (location_parts types f l)) → (ids : List TyId) (xs : List Argument) (st : State) → ArePointerSlots types ids
    → are_arguments_for types texts fs f ids xs ≡ true → (lent types f xs st).world ≡ st.world
pointers_lend types texts fs f pointers ids [] st free e = refl
pointers_lend types texts fs f pointers [] (x ∷ xs) st free e = absurd (false≢true e)
pointers_lend types texts fs f pointers (id ∷ ids) (Value r ∷ xs) st free e = pointers_lend types texts fs f pointers ids xs st free.1 (and_parts (is_argument_for types texts fs f id (Value r)) _ e).1
pointers_lend types texts fs f pointers (id ∷ ids) (PointerOf l ∷ xs) st free e = pointers_lend types texts fs f pointers ids xs st free.1 (and_parts (is_argument_for types texts fs f id (PointerOf l)) _ e).1
pointers_lend types texts fs f pointers (id ∷ ids) (GivenOver x ∷ xs) st free e = pointers_lend types texts fs f pointers ids xs (put_cell x Empty st) free.1 (and_parts (is_argument_for types texts fs f id (GivenOver x)) _ e).1
pointers_lend types texts fs f pointers (id ∷ ids) (Slot l ∷ xs) st free e =
    let outer = and_parts (is_argument_for types texts fs f id (Slot l)) (are_arguments_for types texts fs f ids xs) e in
    let both = and_parts (is_slot_at types id) (same (pointee types (ty_of types id)) (type_in types f l)) outer.0 in
    let t : ty_of types (taken_type types id) ≡ type_in types f l = slot_taken types id both.0 ∙ same_is (pointee types (ty_of types id)) (type_in types f l) both.1 in
    ap (λ (s : State). (lent types f xs s).world) (none (location_parts types f l) (pointers l (ap is_pointer (sym t) ∙ free.0 both.0))) ∙ pointers_lend types texts fs f pointers ids xs st free.1 outer.1
  where
    none : (q : Parts) → IsPointer q → slot_lent types f q l st ≡ st
    none Raw is = refl
    none Iterates is = refl
    none Views is = refl
    none Single is = absurd is
    none (Text i) is = absurd is
    none (Vector i element) is = absurd is
    none (Unique i target) is = absurd is
    none (Member first others) is = absurd is
    none NoMember is = absurd is
