-- What a frame that waited knows of each value that comes back for a slot, and that it goes on so.
use Rattle.std.proofs.Common.{◌≡◌, ◌≢◌, inl, inr, ℕ, ◌+◌, ◌<◌, Bool, true, ◌&&◌, cond, List, [], ◌∷◌, length, Option, Some, None, refl, sym, ap, subst, ◌∙◌, arith}
use Rattle.std.proofs.lemmas.Bool.{and_parts, false≢true}
use Rattle.std.proofs.lemmas.Option.{none-some, same_Some}
use Rattle.std.specs.Prelude.{slice_get}
use Rattle.life_types.specs.Pointees.{pointee, ty_of}
use Rattle.life_types.specs.TypeTests.{is_pointer}
use Rattle.life_types.specs.Types.{Types, is_slot_at}
use Rattle.life_types.specs.declared.ty.Ty.{Ty}
use Rattle.life_types.specs.declared.ty.Ty.TheVariants as ty
use Rattle.life_types.specs.declared.ty.TyId.{TyId}
use Rattle.life_core.specs.Function.{Function}
use Rattle.life_core.specs.Operands.{Argument, GivenOver, Location, PointerOf, Slot, Value}
use Rattle.life_proper.specs.OperandTypes.{same}
use Rattle.life_proper.specs.Placed.{type_in}
use Rattle.life_proper.specs.WellFormed.{are_arguments_for, is_argument_for}
use Rattle.life_proper.proofs.HeldSorts.{same_is}
use Rattle.life_store.specs.Calls.{slot_cell, slots_returned}
use Rattle.life_store.specs.Content.{Content, Slot as Place}
use Rattle.life_store.specs.Doing.{Setting, Next}
use Rattle.life_store.specs.Kinds.{kind_in}
use Rattle.life_store.specs.Parts.{Parts, Unique, parts_at, width, width_at}
use Rattle.life_store.specs.References.{Rows}
use Rattle.life_store.specs.State as state
use Rattle.life_store.specs.State.{Cell, Empty, Named, Number, Points, State, ready_of}
use Rattle.life_store.specs.declared.object.ObjRef.{ObjRef}
use Rattle.life_store.specs.declared.run.Growth.TheVariants.{Always}
use Rattle.life_forest.specs.Frames.{named_in}
use Rattle.life_forest.specs.Kinds.{kinds_of as forest_kinds}
use Rattle.life_forest.specs.Owned.{alive, alive_if, times}
use Rattle.life_forest.specs.Values.{AllWide}
use Rattle.life_forest.proofs.EnteredFrames.{GivesOn, composed_points, later, less_sound}
use Rattle.life_forest.proofs.Following.{in_hand}
use Rattle.life_forest.proofs.Frames.{first_named}
use Rattle.life_forest.proofs.GivenSlots.{slot_types}
use Rattle.life_forest.proofs.HandedOver.{AreHandedTo, IsHandedTo}
use Rattle.life_forest.proofs.HeldPoints.{IsNext}
use Rattle.life_forest.proofs.HeldPointers.{pointers_aim, pointers_fit}
use Rattle.life_forest.proofs.SeenTypes.{parts_typed}
use Rattle.life_forest.proofs.SlotPlaces.{IsOwnerAt, owner_at}
use Rattle.life_forest.proofs.SlotSorts.{IsSlotSort, slot_sort, slot_taken, taken_type}
use Rattle.life_forest.proofs.SlotsGo.{AreSlotsThere, own_argument, slots_give}
use Rattle.life_forest.proofs.TypedSteps.{pointer_of}
use Rattle.life_seen.specs.Housed.{IsHoused}
use Rattle.life_seen.specs.Kinds.{kinds_of}
use Rattle.life_values.proofs.AlikeKinds.{alike_kinds}
use Rattle.life_values.proofs.Owners.{unowned_in_hand}
use Rattle.life_cells.specs.Cells.{cell_seen, cells_seen, pointer_in, state_in}
use Rattle.life_cells.specs.Fits.{CellFits, CellsFit, meant}
use Rattle.life_cells.specs.Typed.{HoldsOwner, HoldsPointer}
use Rattle.life_cells.specs.declared.cell.Cell as machine
use Rattle.life_cells.specs.declared.cell.Cell.TheVariants as held
use Rattle.life_cells.proofs.FitLemmas.{cell_fits}
use Rattle.life_slots.specs.Slots.{CanGiveBack, IsSlot}
use Rattle.life_interp.specs.CallOperands.{slot_values}
use Rattle.life_interp.specs.Returning.{CanReturn, Returning}
use Rattle.life_interp.proofs.HeldPlaces.{owner_held, pointer_held}
use Rattle.life_interp.proofs.CellLemmas.{cells_at}
use Rattle.life_interp.proofs.SlotBirths.{ref_lives}

-- ---- the first of them

module _ (types : Types) (f : Function) (c : Content) (rows : Rows) (cells : List machine.Cell) (housed : IsHoused (kinds_of types) c rows) (l : Location) (xs : List Argument) (v : machine.Cell) (fits : CellFits c rows v) (vs : List Cell) (r : Returning types f (Slot l ∷ xs) (cell_seen v ∷ vs) (state_in (meant types c rows) cells)) where
  abbrev st : State
  st = state_in (meant types c rows) cells

  -- the type of the parameter, and what is known of the value by it
  record IsBackFor : Type 0 where
    id : TyId
    slot : is_slot_at types id ≡ true
    alike : same (ty_of types (taken_type types id)) (type_in types f l) ≡ true
    suits : IsHandedTo types (meant types c rows) (taken_type types id) (cell_seen v)

  back_for : IsBackFor
  back_for = go r.ids r.formed r.suit
    where
      go : (ids : List TyId) → are_arguments_for types r.texts r.fs f ids (Slot l ∷ xs) ≡ true → AreHandedTo types (meant types c rows) (slot_types types ids) (cell_seen v ∷ vs) → IsBackFor
      go [] e suit = absurd (false≢true e)
      go (id ∷ ids) e suit =
          let both = and_parts (is_argument_for types r.texts r.fs f id (Slot l)) (are_arguments_for types r.texts r.fs f ids xs) e in
          let slot = and_parts (is_slot_at types id) (same (pointee types (ty_of types id)) (type_in types f l)) both.0 in
          record {
            id = id;
            slot = slot.0;
            alike = subst (λ (t : Ty). same t (type_in types f l) ≡ true) (sym (slot_taken types id slot.0)) slot.1;
            suits = (subst (λ (b : Bool). AreHandedTo types (meant types c rows) (cond b (taken_type types id ∷ slot_types types ids) (slot_types types ids)) (cell_seen v ∷ vs)) slot.0 suit).0;
          }

  abbrev hand : ℕ → ℕ
  hand k = times (named_in (cell_seen v ∷ vs)) k + r.rest k

  -- ---- a pointer

  points : (p : state.Pointer) → Some p ≡ pointer_in (Some (cell_seen v)) → HoldsPointer types f l (state_in (meant types c rows) cells)
  points p e =
      let b = back_for in
      let is : is_pointer (type_in types f l) ≡ true = ap is_pointer (sym (same_is (ty_of types (taken_type types b.id)) (type_in types f l) b.alike)) ∙ pointer_handed (cell_seen v) e b.suits in
      let q = pointer_of types r.ordered r.once r.texts r.fs f r.shaped st (pointers_aim types r.ordered f st r.sound.held r.sound.stands.frame) r.sound.sorted l (type_in types f l) refl is in
      pointer_held types r.ordered r.narrow f (λ k. times (named_in (cells_seen cells)) k + hand k) st r.sound.stands.store r.sound.stands.frame l q.part q.takes.0 q.takes.1
    where
      pointer_handed : (u : Cell) → Some p ≡ pointer_in (Some u) → IsHandedTo types (meant types c rows) (taken_type types back_for.id) u → is_pointer (ty_of types (taken_type types back_for.id)) ≡ true
      pointer_handed Empty k h = absurd h
      pointer_handed (Named n) k h = absurd (none-some p (sym k))
      pointer_handed (Number z) k h = absurd (none-some p (sym k))
      pointer_handed (Points q) k h = h.0

  -- ---- an object

  module _ (o : ObjRef) (is : v ≡ held.Object o) where
    suited : IsHandedTo types (meant types c rows) (taken_type types back_for.id) (Named o.birth)
    suited = subst (λ (u : machine.Cell). IsHandedTo types (meant types c rows) (taken_type types back_for.id) (cell_seen u)) is back_for.suits

    unique : (u : TyId) × (ty_of types (taken_type types back_for.id) ≡ ty.Unique u)
    unique = go (slot_sort types back_for.id back_for.slot)
      where
        go : IsSlotSort (ty_of types (taken_type types back_for.id)) → (u : TyId) × (ty_of types (taken_type types back_for.id) ≡ ty.Unique u)
        go (inl pointer) = absurd (false≢true (sym (composed_points (ty_of types (taken_type types back_for.id)) suited.2) ∙ pointer))
        go (inr u) = u

    place : IsOwnerAt types f st l (taken_type types back_for.id)
    place = owner_at types r.ordered f r.once r.shaped st (record { kinds = r.kinds; frame = r.sound.stands.frame; sorted = r.sound.sorted; pointers = pointers_fit types r.ordered f st r.sound.held r.once r.texts r.fs r.shaped r.sound.sorted }) (taken_type types back_for.id) unique.0 l back_for.alike unique.1 r.there.0

    parts_are : parts_at types (taken_type types back_for.id) ≡ Unique place.target (parts_at types place.target)
    parts_are = parts_typed types r.ordered (taken_type types back_for.id) (ty.Unique place.target) place.there

    owns : HoldsOwner types f l (state_in (meant types c rows) cells)
    owns =
        owner_held types r.ordered r.narrow f (λ k. times (named_in (cells_seen cells)) k + hand k) st r.sound.stands.store r.sound.stands.frame l (taken_type types back_for.id) place.typed
        (record { wide = let w = ap width parts_are in omega (arith, w); owner = ap (λ (p : Parts). kind_in p 0) parts_are })

    -- the slot's object is in the hand, so nothing owns it, and no local of the frame names it
    in_it : 0 < times (named_in (cell_seen v ∷ vs)) o.birth
    in_it =
        let i = in_hand (cell_seen v ∷ vs) 0 o.birth (ap (λ (u : machine.Cell). Some (cell_seen u)) is) in
        i

    is_slot : IsSlot types o c rows
    is_slot =
        let variable = suited.0 in
        let held_there = in_it in
        let type : variable.object.ty ≡ taken_type types back_for.id = sym (same_Some (taken_type types back_for.id) variable.object.ty variable.type) in
        let fit = r.sound.stands.store.fit o.birth variable.object variable.there in
        let wide : variable.object.width ≡ 1 = fit.width ∙ ap (width_at types) type ∙ ap width parts_are in
        let words = one_word (variable.slot.words) (first_wide variable.object.width variable.object.slots variable.slot fit.slots variable.one ∙ wide) in
        record {
          housed = housed;
          placed = ref_lives types c rows housed o (subst (CellFits c rows) is fits) variable.object variable.there;
          object = variable.object;
          there = variable.there;
          width = wide;
          slot = variable.slot;
          one = variable.one;
          word = words.0;
          words = words.1;
          owner = ap (λ (i : TyId). kinds_of types i 0) type ∙ ap (λ (p : Parts). kind_in p 0) parts_are;
          unowned = unowned_in_hand (kinds_of types) (forest_kinds types) (alike_kinds types) (λ k. times (named_in (cells_seen cells)) k + hand k) (meant types c rows) o.birth r.sound.stands.store.forest (omega (arith, held_there));
        }
      where
        one_word : (ws : List ℕ) → length ws ≡ 1 → (w : ℕ) × (ws ≡ w ∷ [])
        one_word [] e = absurd (omega (arith, e))
        one_word (w ∷ []) e = (w, refl)
        one_word (w ∷ u ∷ us) e = absurd (omega (arith, e))

        first_wide : (n : ℕ) (ss : List Place) (s : Place) → AllWide n ss → ss ≡ s ∷ [] → length s.words ≡ n
        first_wide n [] s h e = absurd (nothing e)
          where
            nothing : [] ≡ s ∷ [] → ⊥
            nothing e = cc
        first_wide n (t ∷ ts) s h e = ap (λ (x : Place). length x.words) (sym (same_first e)) ∙ h.0
          where
            same_first : t ∷ ts ≡ s ∷ [] → t ≡ s
            same_first e = cc

    apart : (n : ℕ) → slice_get (cells_seen cells) l.local ≡ Some (Named n) → n ≢ o.birth
    apart n named equal =
        let held_once = r.sound.stands.store.forest.held o.birth in
        let i = in_hand (cells_seen cells) l.local o.birth (named ∙ ap (λ k. Some (Named k)) equal) in
        let one : alive (meant types c rows) o.birth ≡ 1 = ap alive_if suited.0.there in
        let there = in_it in
        omega (arith, held_once, i, one, there)

  pub can_give_back : CanGiveBack types f l v c rows cells
  can_give_back = record { pointer = points; owner = λ o is. owns o is; slot = λ o is. is_slot o is; apart = λ o is. apart o is }

-- .. of any argument
pub can_return : (types : Types) (f : Function) (c : Content) (rows : Rows) (cells left : List machine.Cell) → IsHoused (kinds_of types) c rows → CellsFit c rows left → (i : ℕ) (x : Argument) (xs : List Argument)
    → Returning types f (x ∷ xs) (slot_values (cells_seen left) i (x ∷ xs)) (state_in (meant types c rows) cells) → CanReturn types f x (slice_get left i) c rows cells
can_return types f c rows cells left housed fits i (Value r) xs back = tt
can_return types f c rows cells left housed fits i (GivenOver y) xs back = tt
can_return types f c rows cells left housed fits i (PointerOf l) xs back = tt
can_return types f c rows cells left housed fits i (Slot l) xs back = go (slice_get left i) refl
  where
    go : (o : Option machine.Cell) → slice_get left i ≡ o → CanReturn types f (Slot l) o c rows cells
    go None e = tt
    go (Some v) e =
        can_give_back types f c rows cells housed l xs v (cell_fits c rows left i v fits e) (slot_values (cells_seen left) (i + 1) xs)
        (subst (λ (u : Cell). Returning types f (Slot l ∷ xs) (u ∷ slot_values (cells_seen left) (i + 1) xs) (state_in (meant types c rows) cells)) (ap slot_cell (cells_at left i v e)) back)

-- ---- and so on

module _ (types : Types) (f : Function) (left : List Cell) (i : ℕ) where
  -- what is no slot gives nothing back
  behind_other : (x : Argument) (xs : List Argument) (vs : List Cell) (st : State) → ((l : Location) → x ≡ Slot l → ⊥) → AreSlotsThere (ready_of st) xs → Returning types f (x ∷ xs) vs st → Returning types f xs vs st
  behind_other x xs vs st other there r = go r.ids r.formed r.suit
    where
      go : (ids : List TyId) → are_arguments_for types r.texts r.fs f ids (x ∷ xs) ≡ true → AreHandedTo types st.world.content (slot_types types ids) vs → Returning types f xs vs st
      go [] e suit = absurd (false≢true e)
      go (id ∷ ids) e suit =
          let both = and_parts (is_argument_for types r.texts r.fs f id x) (are_arguments_for types r.texts r.fs f ids xs) e in
          record {
            texts = r.texts;
            fs = r.fs;
            ordered = r.ordered;
            once = r.once;
            narrow = r.narrow;
            shaped = r.shaped;
            kinds = r.kinds;
            rest = r.rest;
            ids = ids;
            formed = both.1;
            suit = subst (λ (b : Bool). AreHandedTo types st.world.content (cond b (taken_type types id ∷ slot_types types ids) (slot_types types ids)) vs) (own_argument types r.texts r.fs f id x other both.0) suit;
            sound = r.sound;
            there = there;
          }

  behind_slot : (l : Location) (xs : List Argument) (v : Cell) (vs : List Cell) (st st' : State) → slots_returned types f (Slot l ∷ []) (v ∷ []) st ≡ Next st' → Returning types f (Slot l ∷ xs) (v ∷ vs) st → Returning types f xs vs st'
  behind_slot l xs v vs st st' e r = go r.ids r.formed r.suit
    where
      go : (ids : List TyId) → are_arguments_for types r.texts r.fs f ids (Slot l ∷ xs) ≡ true → AreHandedTo types st.world.content (slot_types types ids) (v ∷ vs) → Returning types f xs vs st'
      go [] h suit = absurd (false≢true h)
      go (id ∷ ids) h suit =
          let both = and_parts (is_argument_for types r.texts r.fs f id (Slot l)) (are_arguments_for types r.texts r.fs f ids xs) h in
          let slot = (and_parts (is_slot_at types id) (same (pointee types (ty_of types id)) (type_in types f l)) both.0).0 in
          let given = subst (λ (b : Bool). AreHandedTo types st.world.content (cond b (taken_type types id ∷ slot_types types ids) (slot_types types ids)) (v ∷ vs)) slot suit in
          let one : AreHandedTo types st.world.content (slot_types types (id ∷ [])) (v ∷ []) = subst (λ (b : Bool). AreHandedTo types st.world.content (cond b (taken_type types id ∷ []) []) (v ∷ [])) (sym slot) (given.0, tt) in
          let more : ℕ → ℕ = λ k. times (named_in vs) k + r.rest k in
          let goes =
          slots_give types r.ordered r.once r.texts r.fs f r.shaped r.kinds more setting (id ∷ []) (Slot l ∷ []) (v ∷ []) st (ap (λ (b : Bool). b && true) both.0) one
          (less_sound types f (λ k. times (named_in (v ∷ vs)) k + r.rest k) (λ k. times (named_in (v ∷ [])) k + more k) st (λ k. let a = first_named v vs k in omega (arith, a)) r.sound)
          (r.there.0, tt) in
          let next : IsNext types f more st.world.content (ready_of st) st' = subst (GivesOn types f more st.world.content (ready_of st)) e goes in
          record {
            texts = r.texts;
            fs = r.fs;
            ordered = r.ordered;
            once = r.once;
            narrow = r.narrow;
            shaped = r.shaped;
            kinds = r.kinds;
            rest = r.rest;
            ids = ids;
            formed = both.1;
            suit = later types (λ k. more k ≡ 0) (λ k. times (named_in st.cells) k + (times (named_in (v ∷ vs)) k + r.rest k)) st.world.content st'.world.content r.sound.stands.store next.waits (slot_types types ids) vs
                (λ n lt. ((λ z. omega (arith, z, lt)), let a = next.sound.stands.store.forest.held n in omega (arith, a, lt))) given.1;
            sound = next.sound;
            there = subst (λ bits. AreSlotsThere bits xs) (sym next.bits) r.there.1;
          }
        where
          setting : Setting
          setting = record { given = record { growth = Always; cells = 0; depth = 0 }; texts = [] }

  pub returning_next : (x : Argument) (xs : List Argument) (st st' : State) → slots_returned types f (x ∷ []) (slot_values left i (x ∷ [])) st ≡ Next st' → Returning types f (x ∷ xs) (slot_values left i (x ∷ xs)) st → Returning types f xs (slot_values left (i + 1) xs) st'
  returning_next (Value q) xs st st' e r = subst (Returning types f xs (slot_values left (i + 1) xs)) (same_next e) (behind_other (Value q) xs (slot_values left (i + 1) xs) st (λ l k. unlike l k) r.there r)
    where
      unlike : (l : Location) → Value q ≡ Slot l → ⊥
      unlike l k = cc

      same_next : Next st ≡ Next st' → st ≡ st'
      same_next e = cc
  returning_next (GivenOver y) xs st st' e r = subst (Returning types f xs (slot_values left (i + 1) xs)) (same_next e) (behind_other (GivenOver y) xs (slot_values left (i + 1) xs) st (λ l k. unlike l k) r.there r)
    where
      unlike : (l : Location) → GivenOver y ≡ Slot l → ⊥
      unlike l k = cc

      same_next : Next st ≡ Next st' → st ≡ st'
      same_next e = cc
  returning_next (PointerOf m) xs st st' e r = subst (Returning types f xs (slot_values left (i + 1) xs)) (same_next e) (behind_other (PointerOf m) xs (slot_values left (i + 1) xs) st (λ l k. unlike l k) r.there r)
    where
      unlike : (l : Location) → PointerOf m ≡ Slot l → ⊥
      unlike l k = cc

      same_next : Next st ≡ Next st' → st ≡ st'
      same_next e = cc
  returning_next (Slot l) xs st st' e r = behind_slot l xs (slot_cell (slice_get left i)) (slot_values left (i + 1) xs) st st' e r
