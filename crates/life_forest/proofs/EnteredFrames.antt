-- A local of a frame is given a value, a pointer or an object that was handed over, and the frame is sound.
use Rattle.std.proofs.Common.{◌≡◌, ⊎_elim, ℕ, zero, suc, ◌+◌, ◌*◌, ◌≤◌, ◌<◌, Bool, true, false, cond, List, [], ◌∷◌, length, Option, Some, refl, sym, ap, subst, ◌∙◌, arith, ◌||◌, not}
use Rattle.std.proofs.lemmas.Bool.{false≢true}
use Rattle.std.specs.Prelude.{ℤ, nat_lt, slice_get, slice_set}
use Rattle.life_types.specs.Pointees.{ty_of}
use Rattle.life_types.specs.Trees.{IsOrdered}
use Rattle.life_types.specs.TypeTests.{is_pointer, is_value, is_void}
use Rattle.life_types.specs.Types.{Types, class, class_at, is_slot_at}
use Rattle.life_types.specs.declared.ty.Class.{Class}
use Rattle.life_types.specs.declared.ty.Class.TheVariants as class_of
use Rattle.life_types.specs.declared.ty.Ty.{Ty}
use Rattle.life_types.specs.declared.ty.Ty.TheVariants as ty
use Rattle.life_types.specs.declared.ty.TyId.{TyId}
use Rattle.life_core.specs.declared.program.Local.{Local}
use Rattle.life_core.specs.declared.program.LocalKind.{LocalKind}
use Rattle.life_core.specs.declared.program.LocalKind.TheVariants as kind
use Rattle.life_core.specs.Function.{Function}
use Rattle.life_core.specs.Holdings.{AnObject, Holding, held_by, held_if, sort_of}
use Rattle.life_core.specs.Kinds.{has_kind, is_object}
use Rattle.life_core.specs.Ready.{Ready}
use Rattle.life_pset.specs.Shapes.{ty_if}
use Rattle.life_proper.specs.OperandTypes.{is_composed}
use Rattle.life_proper.specs.Placed.{object_at, type_at}
use Rattle.life_store.specs.Births.{with_value_object}
use Rattle.life_store.specs.Calls.{born_with, given, given_if, given_to, number_given, slot_born}
use Rattle.life_store.specs.Content.{Content, Object, Slot, live_words_of}
use Rattle.life_store.specs.Doing.{saved}
use Rattle.life_store.specs.Effects.{Setting, Effect, Next, Traps, Faults, Strays, cell, on_next, put_cell, put_content}
use Rattle.life_store.specs.Parts.{Single, held_type_if, local_type, parts_at, width, width_at}
use Rattle.life_store.specs.Places.{found_at, found_in, here_if, on_found}
use Rattle.life_store.specs.State.{Pointer, Cell, Empty, Named, Number, Points, State, ready_of}
use Rattle.life_store.specs.declared.run.TrapKind.TheVariants as trap
use Rattle.life_store.proofs.CellLemmas.{cell_cases, none_some, ready_set, some_same}
use Rattle.life_forest.specs.FrameTypes.{IsVariable, PointsWell, Stands, seen_type}
use Rattle.life_forest.specs.Frames.{OnNext, named_in}
use Rattle.life_forest.specs.HeldPointers.{HoldsWell}
use Rattle.life_forest.specs.Owned.{alive, times}
use Rattle.life_forest.specs.Settled.{KindsFit}
use Rattle.life_forest.specs.Sorted.{AreSorted, PointerFits, sort_if}
use Rattle.life_forest.specs.Typed.{IsStore}
use Rattle.life_forest.proofs.Counting.{one_same}
use Rattle.life_forest.proofs.Following.{pointer_stays, variable_stays}
use Rattle.life_forest.proofs.Frames.{first_named, less_in_hand, named_put}
use Rattle.life_forest.proofs.HandedOver.{AreHandedTo, IsHandedTo}
use Rattle.life_forest.proofs.HeldPoints.{IsNext, IsSound}
use Rattle.life_forest.proofs.Holding.{Holds, held_cell, held_holds, held_self, variable_holds}
use Rattle.life_forest.proofs.HoldingChanges.{saved_keeps}
use Rattle.life_forest.proofs.HoldingLives.{value_holds}
use Rattle.life_forest.proofs.Keeping.{Keeps, keeps_more, keeps_self, keeps_then}
use Rattle.life_forest.proofs.Members.{within_self}
use Rattle.life_forest.proofs.Operands.{IsPlace}
use Rattle.life_forest.proofs.OneNumber.{type_there}
use Rattle.life_forest.proofs.ReadyCells.{composed_is_object, pointer_no_object, value_points}
use Rattle.life_forest.proofs.SeenTypes.{value_parts}
use Rattle.life_forest.proofs.Settling.{sorted_put}
use Rattle.life_forest.proofs.Shaped.{IsShaped, no_slot}
use Rattle.life_forest.proofs.SlotSorts.{taken_type}
use Rattle.life_forest.proofs.StandingLives.{value_stands}
use Rattle.life_forest.proofs.StandingNumbers.{saved_stands}
use Rattle.life_forest.proofs.StandingPointers.{pointer_stands}
use Rattle.life_forest.proofs.TypedSteps.{value_solid}
use Rattle.life_forest.specs.Within.{LiesWithin}

-- the frame goes on, or the birth of a parameter's object is trapped
abbrev pub GivesOn : Types → Function → (ℕ → ℕ) → Content → Ready → Effect → Type 0
GivesOn types f rest c bits (Next st) = IsNext types f rest c bits st
GivesOn types f rest c bits (Traps kind) = Unit {0}
GivesOn types f rest c bits (Faults kind) = ⊥
GivesOn types f rest c bits Strays = ⊥

-- a sound frame is sound with less in the hand
pub less_sound : (types : Types) (f : Function) (rest less : ℕ → ℕ) (st : State) → ((k : ℕ) → less k ≤ rest k) → IsSound types f rest st → IsSound types f less st
less_sound types f rest less st le sound = record {
  stands = record {
    store = less_in_hand types (λ k. times (named_in st.cells) k + rest k) (λ k. times (named_in st.cells) k + less k) st.world.content (λ k. let l = le k in omega (arith, l)) sound.stands.store;
    frame = sound.stands.frame;
  };
  sorted = sound.sorted;
  held = sound.held;
}

put_same : {A : Type 0} (xs : List A) (x : ℕ) (v u : A) → slice_get xs x ≡ Some u → slice_get (slice_set xs x v) x ≡ Some v
put_same [] x v u e = absurd (none_some e)
put_same (y ∷ xs) zero v u e = refl
put_same (y ∷ xs) (suc x) v u e = put_same xs x v u e

pub value_class : (t : Ty) → is_value t ≡ true → class (Some t) ≡ class_of.Value
value_class ty.Bool e = refl
value_class ty.Char e = refl
value_class ty.Int e = refl
value_class ty.Long e = refl
value_class ty.Size e = refl
value_class _ e = absurd (false≢true e)

-- a local of the type: no slot but of a pointer, and an object where it is a value
pub record IsTaking (types : Types) (f : Function) (x : ℕ) (l : Local) (id : TyId) : Type 0 where
  pub there : slice_get f.locals x ≡ Some l
  pub type : taken_type types l.ty ≡ id
  pub free : is_pointer (ty_of types id) ≡ false → is_slot_at types l.ty ≡ false
  pub value : is_value (ty_of types id) ≡ true → l.kind ≡ kind.Object

-- .. and so is each from one on
abbrev pub AreTaking : Types → Function → ℕ → List TyId → Type 0
AreTaking types f x [] = Unit {0}
AreTaking types f x (id ∷ ids) = ((l : Local) × IsTaking types f x l id) × AreTaking types f (x + 1) ids

-- an owner or a struct is no pointer
pub composed_points : (t : Ty) → is_composed t ≡ true → is_pointer t ≡ false
composed_points t c = go (is_void t) (is_value t) (is_pointer t) c
  where
    go : (a b d : Bool) → not (a || (b || d)) ≡ true → d ≡ false
    go true b d e = absurd (false≢true e)
    go false true d e = absurd (false≢true e)
    go false false true e = absurd (false≢true e)
    go false false false e = refl

module _ (types : Types) (ordered : IsOrdered types) (f : Function) (shaped : IsShaped types f) (kinds : KindsFit types f) (rest : ℕ → ℕ) (s : Setting) where
  -- ---- one local that isn't there is given what was handed over

  module _ (x : ℕ) (l : Local) (id : TyId) (takes : IsTaking types f x l id) (st : State) (empty : cell st x ≡ Some Empty) where
    local : local_type types f x ≡ Some id
    local = ap (held_type_if types) takes.there ∙ ap Some takes.type

    own : type_at types f x ≡ ty_of types id
    own = ap (ty_if types) (shaped x ∙ local)

    -- what is no pointer is no slot
    itself : is_pointer (ty_of types id) ≡ false → l.ty ≡ id
    itself other = sym (no_slot types l.ty (slice_get types.types l.ty.0) (takes.free other)) ∙ takes.type

    -- an object is named
    named_gives : (n : ℕ) → IsSound types f (λ k. times (n ∷ []) k + rest k) st → IsHandedTo types st.world.content id (Named n) → IsNext types f rest st.world.content (slice_set (ready_of st) x true) (put_cell x (Named n) st)
    named_gives n sound suits = record {
      sound = record {
        stands = record {
          store = less_in_hand types (λ k. times (named_in st.cells) k + (times (n ∷ []) k + rest k)) (λ k. times (named_in (slice_set st.cells x (Named n))) k + rest k) st.world.content
              (λ k. let e = named_put st.cells x Empty (Named n) k empty in omega (arith, e)) sound.stands.store;
          frame = record {
            objects = λ y m e. ⊎_elim
                (λ h. subst (λ z. IsVariable st.world.content (local_type types f z) m) h.0 (subst (λ id. IsVariable st.world.content id m) (sym local) (subst (IsVariable st.world.content (Some id)) (one n m h.1) suits.0)))
                (λ h. sound.stands.frame.objects y m h.1)
                (cell_cases st.cells x y (Named n) (Named m) e);
            pointers = λ y p e. ⊎_elim (λ h. absurd (unlike p h.1)) (λ h. sound.stands.frame.pointers y p h.1) (cell_cases st.cells x y (Named n) (Points p) e);
          };
        };
        sorted = sorted_put types f st.cells x (Named n) (ap (λ b. sort_if b (is_pointer (type_at types f x))) (composed_is_object types f kinds x (ap is_composed own ∙ suits.2))) sound.sorted;
        held = λ y m id e typed. ⊎_elim
            (λ h. subst (λ k. HoldsWell types st.world.content k id) (one n m h.1) (subst (HoldsWell types st.world.content n) (some_same (sym local ∙ ap (local_type types f) h.0 ∙ typed)) suits.1))
            (λ h. sound.held y m id h.1 typed)
            (cell_cases st.cells x y (Named n) (Named m) e);
      };
      bits = ready_set st.cells x (Named n);
      waits = keeps_self types (λ k. rest k ≡ 0) st.world.content;
    }
      where
        one : (a b : ℕ) → Named a ≡ Named b → a ≡ b
        one a b e = cc

        unlike : (p : Pointer) → Named n ≡ Points p → ⊥
        unlike p e = cc

    -- a pointer
    points_gives : (p : Pointer) → IsSound types f rest st → IsHandedTo types st.world.content id (Points p) → IsNext types f rest st.world.content (slice_set (ready_of st) x true) (put_cell x (Points p) st)
    points_gives p sound suits =
        let pointer : is_pointer (type_at types f x) ≡ true = ap is_pointer own ∙ suits.0 in
        let h = held_holds types f rest st sound.stands (put_cell x (Points p) st) (held_cell types f st st x (Points p) unlike (held_self types f st)) sound.held in
        record {
          sound = record {
            stands = pointer_stands types ordered f rest st sound.stands x p (subst (λ (id : Option TyId). PointsWell types st.world.content (seen_type types id) p) (sym local) suits.1);
            sorted = sorted_put types f st.cells x (Points p)
                (ap (λ b. sort_if b (is_pointer (type_at types f x))) (pointer_no_object types f kinds x pointer) ∙ ap (sort_if false) pointer, subst (λ (t : Ty). PointerFits t p) (sym own) suits.2) sound.sorted;
            held = h.well;
          };
          bits = ready_set st.cells x (Points p);
          waits = h.waits;
        }
      where
        unlike : (n : ℕ) → Points p ≡ Named n → ⊥
        unlike n e = cc

    -- an object comes to life with a value
    number_gives : (z : ℤ) → IsSound types f rest st → is_value (ty_of types id) ≡ true → GivesOn types f rest st.world.content (slice_set (ready_of st) x true) (born_with s id z x st)
    number_gives z sound value = born (nat_lt s.given.cells (live_words_of st.world.content + (2 + 1 * 1))) (value_stands types ordered f rest st sound.stands s x id local wide empty) (value_holds types ordered f rest st sound.stands sound.held s x id local wide)
      where
        single : parts_at types id ≡ Single
        single = value_parts types ordered id (ty_of types id) (type_there types id (ty_of types id) refl (value_solid (ty_of types id) value)) value

        wide : width_at types id ≡ 1
        wide = ap width single

        object : object_at types f x ≡ true
        object = ap (has_kind is_object) takes.there ∙ ap is_object (takes.value value)

        is_named : cell (put_cell x (Named st.world.content.births) (put_content (with_value_object id st.world.content) st)) x ≡ Some (Named st.world.content.births)
        is_named = put_same st.cells x (Named st.world.content.births) Empty empty

        written : (st1 : State) → cell st1 x ≡ Some (Named st.world.content.births) → ready_of st1 ≡ slice_set (ready_of st) x true → AreSorted types f st1.cells → Stands types f rest st1 → Holds types f rest st st1
            → GivesOn types f rest st.world.content (slice_set (ready_of st) x true) (on_found (found_at st1.world.content st.world.content.births 0) (λ n i o. Next (saved z n i 0 o st1)))
        written st1 named bits sorted stands holds =
            let v = stands.frame.objects x st.world.content.births named in
            let type : id ≡ v.object.ty = some_same (sym local ∙ v.type) in
            let place : IsPlace types st1.world.content id st.world.content.births 0 0 v.object =
            record { there = v.there; slot = (let e = ap length v.one in omega (arith, e)); within = subst (λ i. LiesWithin types i 0 id) type (within_self types id) } in
            subst (λ (o : Option Object). GivesOn types f rest st.world.content (slice_set (ready_of st) x true) (on_found (found_in o st.world.content.births 0) (λ n i o. Next (saved z n i 0 o st1)))) (sym v.there)
            (subst (λ (ss : List Slot). GivesOn types f rest st.world.content (slice_set (ready_of st) x true) (on_found (here_if (nat_lt 0 (length ss)) st.world.content.births 0 v.object) (λ n i o. Next (saved z n i 0 o st1)))) (sym v.one)
            (let h = held_holds types f rest st1 stands (saved z st.world.content.births 0 0 v.object st1) (saved_keeps types ordered f rest st1 stands id single z st.world.content.births 0 0 v.object place) holds.well in
            record {
              sound = record { stands = saved_stands types ordered f rest st1 stands id single z st.world.content.births 0 0 v.object place; sorted = sorted; held = h.well };
              bits = bits;
              waits = keeps_then types (λ k. rest k ≡ 0) st.world.content st1.world.content (saved z st.world.content.births 0 0 v.object st1).world.content holds.waits h.waits;
            }))

        born : (full : Bool)
            → OnNext (cond full (Traps trap.Cells) (Next (put_cell x (Named st.world.content.births) (put_content (with_value_object id st.world.content) st)))) (Stands types f rest)
            → OnNext (cond full (Traps trap.Cells) (Next (put_cell x (Named st.world.content.births) (put_content (with_value_object id st.world.content) st)))) (Holds types f rest st)
            → GivesOn types f rest st.world.content (slice_set (ready_of st) x true)
            (on_next (cond full (Traps trap.Cells) (Next (put_cell x (Named st.world.content.births) (put_content (with_value_object id st.world.content) st)))) (λ born. on_found (found_at born.world.content st.world.content.births 0) (λ n i o. Next (saved z n i 0 o born))))
        born true stands holds = tt
        born false stands holds =
            written (put_cell x (Named st.world.content.births) (put_content (with_value_object id st.world.content) st)) is_named (ready_set st.cells x (Named st.world.content.births))
            (sorted_put types f st.cells x (Named st.world.content.births) (ap (λ b. sort_if b (is_pointer (type_at types f x))) object) sound.sorted) stands holds

    object_sort : is_value (ty_of types id) ≡ true → sort_of types f x ≡ AnObject
    object_sort value =
        ap (held_by types) takes.there
        ∙ ap (λ (k : LocalKind). held_if (class_at types l.ty) k (slice_get types.types l.ty.0)) (takes.value value)
        ∙ ap (λ (c : Class). held_if c kind.Object (slice_get types.types l.ty.0))
        (ap (class_at types) (itself (value_points (ty_of types id) value)) ∙ ap class (type_there types id (ty_of types id) refl (value_solid (ty_of types id) value)) ∙ value_class (ty_of types id) value)

    pub local_gives : (v : Cell) → IsSound types f (λ k. times (named_in (v ∷ [])) k + rest k) st → IsHandedTo types st.world.content id v → GivesOn types f rest st.world.content (slice_set (ready_of st) x true) (given s types f v x st)
    local_gives v sound suits = subst (λ (o : Option Local). GivesOn types f rest st.world.content (slice_set (ready_of st) x true) (given_if s types f o v x st)) (sym takes.there) (by_cell v sound suits)
      where
        by_cell : (v : Cell) → IsSound types f (λ k. times (named_in (v ∷ [])) k + rest k) st → IsHandedTo types st.world.content id v → GivesOn types f rest st.world.content (slice_set (ready_of st) x true) (given_to s types (sort_of types f x) l.ty v x st)
        by_cell Empty sound suits = absurd suits
        by_cell (Named n) sound suits =
            subst (λ (b : Bool). GivesOn types f rest st.world.content (slice_set (ready_of st) x true) (cond b (slot_born s types l.ty (Some n) x st) (Next (put_cell x (Named n) st)))) (sym (takes.free (composed_points (ty_of types id) suits.2))) (named_gives n sound suits)
        by_cell (Points p) sound suits = points_gives p (less_sound types f (λ k. 0 + rest k) rest st (λ k. omega arith) sound) suits
        by_cell (Number z) sound suits =
            subst (λ (sort : Holding). GivesOn types f rest st.world.content (slice_set (ready_of st) x true) (number_given s sort l.ty z x st)) (sym (object_sort suits))
            (subst (λ (i : TyId). GivesOn types f rest st.world.content (slice_set (ready_of st) x true) (born_with s i z x st)) (sym (itself (value_points (ty_of types id) suits))) (number_gives z (less_sound types f (λ k. 0 + rest k) rest st (λ k. omega arith) sound) suits))

-- ---- what was handed over stays as it is while others are given

module _ (types : Types) (loose : ℕ → Type 0) (hand : ℕ → ℕ) (c d : Content) (store : IsStore types hand c) (keeps : Keeps types loose c d) where
  pub one_later : (id : TyId) (v : Cell) → ((n : ℕ) → v ≡ Named n → (loose n → ⊥) × (0 < alive d n)) → IsHandedTo types c id v → IsHandedTo types d id v
  one_later id Empty waits suits = suits
  one_later id (Number z) waits suits = suits
  one_later id (Points p) waits suits = (suits.0, pointer_stays types loose c d keeps.stays (seen_type types (Some id)) p suits.1, suits.2)
  one_later id (Named n) waits suits =
      let w = waits n refl in (
        variable_stays types loose c d keeps.stays hand store (Some id) n suits.0 w.0 w.1,
        variable_holds types loose c d keeps n id suits.0 (store.forest.births n suits.0.object suits.0.there) w.0 suits.1,
        suits.2,
      )

  pub later : (ids : List TyId) (vs : List Cell) → ((n : ℕ) → 0 < times (named_in vs) n → (loose n → ⊥) × (0 < alive d n)) → AreHandedTo types c ids vs → AreHandedTo types d ids vs
  later [] [] waits suits = tt
  later [] (v ∷ vs) waits suits = absurd suits
  later (id ∷ ids) [] waits suits = absurd suits
  later (id ∷ ids) (v ∷ vs) waits suits = (
    one_later id v (λ n is. waits n (let a = first_named v vs n in let b = ap (λ (u : Cell). times (named_in (u ∷ [])) n) is in let s = one_same n n refl in omega (arith, a, b, s))) suits.0,
    later ids vs (λ n lt. waits n (let a = first_named v vs n in omega (arith, a, lt))) suits.1,
  )

-- ---- one given after the other

module _ (types : Types) (ordered : IsOrdered types) (f : Function) (shaped : IsShaped types f) (kinds : KindsFit types f) (rest : ℕ → ℕ) (s : Setting) where
  pub on_given_next : (less : ℕ → ℕ) (c : Content) (bits after : Ready) (e : Effect) (go : State → Effect) → ((k : ℕ) → rest k ≤ less k) → GivesOn types f less c bits e
      → ((st : State) → IsNext types f less c bits st → GivesOn types f rest st.world.content after (go st)) → GivesOn types f rest c after (on_next e go)
  on_given_next less c bits after (Traps kind) go le g more = tt
  on_given_next less c bits after (Faults kind) go le g more = absurd g
  on_given_next less c bits after Strays go le g more = absurd g
  on_given_next less c bits after (Next st) go le g more = behind (go st) (more st g)
    where
      behind : (e : Effect) → GivesOn types f rest st.world.content after e → GivesOn types f rest c after e
      behind (Next st') h = record {
        sound = h.sound;
        bits = h.bits;
        waits = keeps_then types (λ k. rest k ≡ 0) c st.world.content st'.world.content (keeps_more types (λ k. less k ≡ 0) (λ k. rest k ≡ 0) c st.world.content (λ k z. let l = le k in omega (arith, l, z)) g.waits) h.waits;
      }
      behind (Traps kind) h = tt
      behind (Faults kind) h = h
      behind Strays h = h
