-- Slots that are given what they take: what a parameter takes suits its slot, and its object comes to life as the meaning says.
use Rattle.std.proofs.Common.{◌≡◌, inl, inr, ℕ, zero, suc, ◌+◌, ◌<◌, Bool, true, false, ◌&&◌, not, cond, List, [], ◌∷◌, length, map, take, Option, Some, None, Err, refl, sym, ap, subst, ◌∙◌, arith}
use Rattle.std.proofs.lemmas.Bool.{and_parts, false≢true}
use Rattle.std.proofs.lemmas.Option.{none-some, same_Some}
use Rattle.std.specs.Prelude.{ℤ, slice_get, slice_index_or}
use Rattle.life_types.specs.Pointees.{ty_of}
use Rattle.life_types.specs.Trees.{IsOrdered}
use Rattle.life_types.specs.TypeTests.{is_pointer}
use Rattle.life_types.specs.Types.{Types, is_slot_at, is_slot_type}
use Rattle.life_types.specs.declared.ty.Ty.{Ty}
use Rattle.life_types.specs.declared.ty.Ty.TheVariants as variant
use Rattle.life_types.specs.declared.ty.TyId.{TyId}
use Rattle.life_core.specs.declared.program.Local.{Local}
use Rattle.life_core.specs.Function.{Function}
use Rattle.life_core.specs.Holdings.{Holding}
use Rattle.life_proper.specs.WellFormed as formed
use Rattle.life_store.specs.Calls.{entry_arguments, given_to, slot_born, target_cell}
use Rattle.life_store.specs.Cells.{at}
use Rattle.life_store.specs.Content.{Content, Object}
use Rattle.life_store.specs.Doing.{as_long, converted, type_of}
use Rattle.life_store.specs.Effects.{Attempt, Got, Next, Setting, Strays, on_got, put_cell, put_content}
use Rattle.life_store.specs.Held.{owner_word}
use Rattle.life_store.specs.Owners.{object_with}
use Rattle.life_store.specs.Parts.{Single, parts_at, variable_type}
use Rattle.life_store.specs.References.{Rows}
use Rattle.life_store.specs.State as state
use Rattle.life_store.specs.State.{State}
use Rattle.life_store.specs.declared.object.BirthFault.{BirthFault}
use Rattle.life_store.specs.declared.object.BirthFault.TheVariants as fault
use Rattle.life_store.specs.declared.object.ObjRef.{ObjRef}
use Rattle.life_forest.proofs.EnteredFrames.{composed_points}
use Rattle.life_forest.proofs.HandedOver.{AreTaken, IsHandedTo, IsTaken, IsTakenIf}
use Rattle.life_forest.proofs.OneNumber.{type_there}
use Rattle.life_forest.proofs.SeenTypes.{parts_typed}
use Rattle.life_forest.proofs.SlotPlaces.{IsOwnedFor}
use Rattle.life_forest.proofs.SlotSorts.{IsSlotSort, is_owner_slot, slot_sort, taken_type}
use Rattle.life_seen.specs.Housed.{IsHoused, IsRef}
use Rattle.life_seen.specs.Kinds.{kinds_of, Kinds}
use Rattle.life_seen.specs.Named.{names_of}
use Rattle.life_seen.proofs.Contents.{seen_none}
use Rattle.life_seen.proofs.References.{lives_placed}
use Rattle.life_cells.specs.Cells.{cell_seen, cells_seen}
use Rattle.life_cells.specs.Fits.{CellFits, CellsFit, meant}
use Rattle.life_cells.specs.declared.cell.Cell.{Cell}
use Rattle.life_cells.specs.declared.cell.Cell.TheVariants as held
use Rattle.life_slots.specs.Slots.{IsUnique, referred, slot_type}
use Rattle.life_changes.specs.NewObjects.{Bears}
use Rattle.life_interp.specs.Births.{BearsNothing, unborn}
use Rattle.life_interp.specs.CallOperands.{born_owning, RowsStay, SuitsSlot, SuitSlots}
use Rattle.life_interp.specs.Cells.{is_vacant}
use Rattle.life_interp.specs.Steps.{TellsEnd}
use Rattle.life_interp.specs.declared.ending.Ending.{Ending}
use Rattle.life_interp.specs.declared.ending.Ending.TheVariants as ending

-- ---- types

-- what is a slot of a type is like a variable of it
referred_is : (types : Types) (id : TyId) (o : Option Ty) → is_slot_type types o ≡ true → referred o ≡ Some (variable_type types id o)
referred_is types id None e = absurd (false≢true e)
referred_is types id (Some (variant.Reference target false)) e = ap (λ (b : Bool). Some (cond b target id)) (sym e)
referred_is types id (Some (variant.Reference target true)) e = absurd (false≢true e)
referred_is types id (Some _) e = absurd (false≢true e)

-- .. so this is its type
pub slot_of : (types : Types) (id target : TyId) → slot_type types id ≡ Some target → (is_slot_at types id ≡ true) × (taken_type types id ≡ target)
slot_of types id target e = go (is_slot_at types id) refl e
  where
    go : (b : Bool) → is_slot_at types id ≡ b → cond b (referred (slice_get types.types id.0)) None ≡ Some target → (is_slot_at types id ≡ true) × (taken_type types id ≡ target)
    go false is h = absurd (none-some target h)
    go true is h = (is, same_Some (taken_type types id) target (sym (referred_is types id (slice_get types.types id.0) is) ∙ h))

pub none_slot : (types : Types) (id : TyId) → slot_type types id ≡ None → is_slot_at types id ≡ false
none_slot types id e = go (is_slot_at types id) refl
  where
    go : (b : Bool) → is_slot_at types id ≡ b → is_slot_at types id ≡ false
    go false is = is
    go true is = absurd (none-some (taken_type types id) (sym e ∙ ap (λ (b : Bool). cond b (referred (slice_get types.types id.0)) None) is ∙ referred_is types id (slice_get types.types id.0) is))

-- ---- what a parameter takes

-- what is referred to and lives has its row
module _ (types : Types) (c : Content) (rows : Rows) (housed : IsHoused (kinds_of types) c rows) where
  pub ref_lives : (r : ObjRef) → IsRef c rows r → (o : Object) → at (meant types c rows).objects r.birth ≡ Some o → at rows r.birth ≡ Some r.row
  ref_lives r fits o there = go (at c.objects r.birth) refl
    where
      go : (x : Option Object) → at c.objects r.birth ≡ x → at rows r.birth ≡ Some r.row
      go None e = absurd (none-some o (sym (seen_none (kinds_of types) (names_of c rows) c r.birth e) ∙ there))
      go (Some q) e = let p = lives_placed (kinds_of types) c rows housed r.birth q e in p.1 ∙ ap Some (fits.row p.0 p.1)

module _ (types : Types) (ordered : IsOrdered types) (c : Content) (rows : Rows) (housed : IsHoused (kinds_of types) c rows) where
  module _ (id : TyId) (v : Cell) (fits : CellFits c rows v) where
    -- a slot of a pointer takes a pointer alone
    by_owner : (b : Bool) → is_owner_slot types id ≡ b → IsTakenIf b types (meant types c rows) (taken_type types id) (cell_seen v) → SuitsSlot types rows id v
    by_owner true is taken = record {
      nothing = λ vacant target e. unique target e;
      object = λ r same target e. (unique target e, lives r same taken);
    }
      where
        unique : (target : TyId) → slot_type types id ≡ Some target → IsUnique types target
        unique target e = by_sort (slot_sort types id (slot_of types id target e).0)
          where
            by_sort : IsSlotSort (ty_of types (taken_type types id)) → IsUnique types target
            by_sort (inl pointer) = absurd (false≢true (ap not (sym pointer) ∙ (and_parts (is_slot_at types id) (not (is_pointer (ty_of types (taken_type types id)))) is).1))
            by_sort (inr u) =
                let there = type_there types (taken_type types id) (variant.Unique u.0) u.1 refl in
                record { target = u.0; parts = parts_at types u.0; is = ap (parts_at types) (sym (slot_of types id target e).1) ∙ parts_typed types ordered (taken_type types id) (variant.Unique u.0) there }

        owned_lives : (r : ObjRef) → IsRef c rows r → (owned : Option ℕ) → state.Named r.birth ≡ target_cell owned → IsOwnedFor types (meant types c rows) (taken_type types id) owned → at rows r.birth ≡ Some r.row
        owned_lives r ref None e h = absurd (unlike e)
          where
            unlike : state.Named r.birth ≡ state.Empty → ⊥
            unlike e = cc
        owned_lives r ref (Some n) e h = ref_lives types c rows housed r ref h.0 (ap (at (meant types c rows).objects) (same_number e) ∙ h.1)
          where
            same_number : state.Named r.birth ≡ state.Named n → r.birth ≡ n
            same_number e = cc

        lives : (r : ObjRef) → v ≡ held.Object r → IsTakenIf true types (meant types c rows) (taken_type types id) (cell_seen v) → at rows r.birth ≡ Some r.row
        lives r same taken = owned_lives r (subst (CellFits c rows) same fits) taken.0 (ap cell_seen (sym same) ∙ taken.1) taken.2
    by_owner false is taken = record {
      nothing = λ vacant target e. absurd (no_nothing (cell_seen v) vacant taken);
      object = λ r same target e. absurd (no_object r target e (subst (λ (u : Cell). IsHandedTo types (meant types c rows) (taken_type types id) (cell_seen u)) same taken));
    }
      where
        no_nothing : (u : state.Cell) → is_vacant u ≡ true → IsHandedTo types (meant types c rows) (taken_type types id) u → ⊥
        no_nothing state.Empty vacant h = h
        no_nothing (state.Named n) vacant h = false≢true vacant
        no_nothing (state.Number z) vacant h = false≢true vacant
        no_nothing (state.Points p) vacant h = false≢true vacant

        no_object : (r : ObjRef) (target : TyId) → slot_type types id ≡ Some target → IsHandedTo types (meant types c rows) (taken_type types id) (state.Named r.birth) → ⊥
        no_object r target e h =
            let pointer = pointer_slot (is_slot_at types id) (is_pointer (ty_of types (taken_type types id))) (slot_of types id target e).0 is in
            false≢true (sym (composed_points (ty_of types (taken_type types id)) h.2) ∙ pointer)
          where
            pointer_slot : (slot pointer : Bool) → slot ≡ true → (slot && not pointer) ≡ false → pointer ≡ true
            pointer_slot true true s h = refl
            pointer_slot true false s h = absurd (false≢true (sym h))
            pointer_slot false pointer s h = absurd (false≢true s)

    pub suits_slot : IsTaken types (meant types c rows) id (cell_seen v) → SuitsSlot types rows id v
    suits_slot taken = by_owner (is_owner_slot types id) refl taken

  -- .. so do all
  suits_from : (f : Function) (n : ℕ) (ls : List Local) (x : ℕ) (vs : List Cell) → ((i : ℕ) → slice_get ls i ≡ slice_get f.locals (x + i)) → CellsFit c rows vs → AreTaken types (meant types c rows) (map formed.local_type (take n ls)) (cells_seen vs) → SuitSlots types rows f x vs
  suits_from f n ls x [] same fits taken = tt
  suits_from f zero ls x (v ∷ vs) same fits taken = absurd taken
  suits_from f (suc n) [] x (v ∷ vs) same fits taken = absurd taken
  suits_from f (suc n) (l ∷ ls) x (v ∷ vs) same fits taken = (
    λ lo there.
        let none : x + 0 ≡ x = omega arith in
        let is : l ≡ lo = same_Some l lo (same 0 ∙ ap (slice_get f.locals) none ∙ there) in
        subst (λ (y : Local). SuitsSlot types rows y.ty v) is (suits_slot l.ty v fits.0 taken.0),
    suits_from f n ls (x + 1) vs (λ i. let k : x + suc i ≡ x + 1 + i = omega arith in same (suc i) ∙ ap (slice_get f.locals) k) fits.1 taken.1,
  )

  pub suit_slots : (f : Function) (vs : List Cell) → CellsFit c rows vs → AreTaken types (meant types c rows) (formed.types_taken f) (cells_seen vs) → SuitSlots types rows f 0 vs
  suit_slots f vs fits taken = suits_from f f.parameters f.locals 0 vs (λ i. let k : i ≡ 0 + i = omega arith in ap (slice_get f.locals) k) fits taken

-- ---- one after the other

pub suits_index : (types : Types) (rows : Rows) (f : Function) (x : ℕ) (vs : List Cell) (i : ℕ) → i < length vs → SuitSlots types rows f x vs → (l : Local) → slice_get f.locals (x + i) ≡ Some l → SuitsSlot types rows l.ty (slice_index_or vs i held.Empty)
suits_index types rows f x [] i lt suits l there = absurd (omega (arith, lt))
suits_index types rows f x (v ∷ vs) zero lt suits l there = let none : x ≡ x + 0 = omega arith in suits.0 l (ap (slice_get f.locals) none ∙ there)
suits_index types rows f x (v ∷ vs) (suc i) lt suits l there = let k : x + 1 + i ≡ x + suc i = omega arith in suits_index types rows f (x + 1) vs i (omega (arith, lt)) suits.1 l (ap (slice_get f.locals) k ∙ there)

pub suits_later : (types : Types) (rows new : Rows) (ty : TyId) (v : Cell) → RowsStay rows new → SuitsSlot types rows ty v → SuitsSlot types new ty v
suits_later types rows new ty v stay suits = record {
  nothing = suits.nothing;
  object = λ r same target e. let h = suits.object r same target e in (h.0, stay r.birth r.row h.1);
}

-- .. as the numbers do that an entry is given
pub entry_suits : (types : Types) (rows : Rows) (f : Function) (x n : ℕ) (input : List ℤ) (vs : List Cell) → cells_seen vs ≡ entry_arguments types f x n input → SuitSlots types rows f x vs
entry_suits types rows f x n input [] e = tt
entry_suits types rows f x zero input (v ∷ vs) e = absurd (some_none e)
  where
    some_none : cell_seen v ∷ cells_seen vs ≡ [] → ⊥
    some_none e = cc
entry_suits types rows f x (suc n) [] (v ∷ vs) e = absurd (some_none e)
  where
    some_none : cell_seen v ∷ cells_seen vs ≡ [] → ⊥
    some_none e = cc
entry_suits types rows f x (suc n) (z ∷ zs) (v ∷ vs) e = (λ l there. suits l, entry_suits types rows f (x + 1) n zs vs (tail e))
  where
    head : cell_seen v ∷ cells_seen vs ≡ state.Number (converted (type_of types f x) (as_long z)) ∷ entry_arguments types f (x + 1) n zs → cell_seen v ≡ state.Number (converted (type_of types f x) (as_long z))
    head e = cc

    tail : cell_seen v ∷ cells_seen vs ≡ state.Number (converted (type_of types f x) (as_long z)) ∷ entry_arguments types f (x + 1) n zs → cells_seen vs ≡ entry_arguments types f (x + 1) n zs
    tail e = cc

    no_object : (r : ObjRef) → state.Number (converted (type_of types f x) (as_long z)) ≡ state.Named r.birth → ⊥
    no_object r e = cc

    suits : (l : Local) → SuitsSlot types rows l.ty v
    suits l = record {
      nothing = λ vacant target k. absurd (false≢true (ap is_vacant (sym (head e)) ∙ vacant));
      object = λ r same target k. absurd (no_object r (sym (head e) ∙ ap cell_seen same));
    }

-- ---- the object of a slot

pub born_fails : (s : Setting) (target : TyId) (owned : Option ℕ) (x : ℕ) (e : Ending) (st : State) → BearsNothing (object_with s target Single (λ c. Got (owner_word owned ∷ [], c)) st.world.content) e → TellsEnd (born_owning s target owned x st) e
born_fails s target owned x (ending.Trap kind) st h = ap (λ a. on_got a (λ b. Next (put_cell x (state.Named b.0) (put_content b.1 st)))) h
born_fails s target owned x (ending.Fault kind) st h = absurd h
born_fails s target owned x ending.Stray st h = absurd h
born_fails s target owned x ending.NoMemory st h = tt
born_fails s target owned x ending.WriteFault st h = h

-- what isn't born
pub no_birth : (kinds : Kinds) (c : Content) (rows : Rows) (meant : Attempt (ℕ × Content)) (b : BirthFault) → Bears kinds meant (Err b) c rows → BearsNothing meant (unborn b)
no_birth kinds c rows meant fault.Cells h = h
no_birth kinds c rows meant fault.NoMemory h = tt

module _ (s : Setting) (types : Types) (sort : Holding) (ty target : TyId) (is : slot_type types ty ≡ Some target) (x : ℕ) (st : State) where
  born_as : (owned : Option ℕ) → slot_born s types ty owned x st ≡ born_owning s target owned x st
  born_as owned = ap (λ (id : TyId). born_owning s id owned x st) (slot_of types ty target is).1

  pub object_taken : (n : ℕ) → given_to s types sort ty (state.Named n) x st ≡ born_owning s target (Some n) x st
  object_taken n = ap (λ (b : Bool). cond b (slot_born s types ty (Some n) x st) (Next (put_cell x (state.Named n) st))) (slot_of types ty target is).0 ∙ born_as (Some n)

  pub nothing_taken : given_to s types sort ty state.Empty x st ≡ born_owning s target None x st
  nothing_taken = ap (λ (b : Bool). cond b (slot_born s types ty None x st) Strays) (slot_of types ty target is).0 ∙ born_as None
