-- Each step of one frame keeps that its objects hold well.
use Rattle.std.proofs.Common.{◌≡◌, inl, inr, ℕ, Bool, true, false, not, ◌||◌, ◌&&◌, List, [], ◌∷◌, Option, Some, None, refl, sym, ap, subst, ◌∙◌}
use Rattle.std.proofs.lemmas.Bool.{and_parts, false≢true}
use Rattle.std.specs.Prelude.{ℤ, slice_get}
use Rattle.life_types.specs.Pointees.{or_void}
use Rattle.life_types.specs.Trees.{IsOrdered, members_at, tree_at, tree_of}
use Rattle.life_types.specs.Trees as tree
use Rattle.life_types.specs.TypeTests.{is_constant, is_iterator, is_pointer, is_reference}
use Rattle.life_types.specs.Types.{HasEachOnce, Types}
use Rattle.life_types.specs.declared.ty.Ty.{Ty}
use Rattle.life_types.specs.declared.ty.Ty.TheVariants as ty
use Rattle.life_types.specs.declared.ty.TyId.{TyId}
use Rattle.life_types.proofs.TreeLemmas.{tree_made}
use Rattle.life_core.specs.declared.instr.Form.{Form}
use Rattle.life_core.specs.declared.program.Local.{Local}
use Rattle.life_core.specs.declared.program.LocalKind.{LocalKind}
use Rattle.life_core.specs.declared.program.LocalKind.TheVariants as kind
use Rattle.life_core.specs.Function.{Function}
use Rattle.life_core.specs.Kinds.{has_kind, is_object, is_register}
use Rattle.life_core.specs.Operands.{Location, Operand, Name, Through}
use Rattle.life_core.specs.Operands as source
use Rattle.life_core.specs.Proper.{AreReady}
use Rattle.life_core.specs.Step.{Change, PushBack, PopBack, Clear, Reserve, Erase, Set, Append, Step, Live, End, Eval, Load, Save, Copy, Move, Aim, Repoint, Element, Cursor, Advance, Cut, Size, Same, Changes, Make, Call, Ports}
use Rattle.life_core.specs.Touched.{touched_by}
use Rattle.life_pset.specs.Shapes.{tree_if, ty_if}
use Rattle.life_pset.specs.Shapes as shapes
use Rattle.life_proper.specs.OperandTypes.{aims_at, is_range, keeps_const, same, takes, walks}
use Rattle.life_proper.specs.Placed.{is_const_base, is_const_place, is_slot_local, object_at, register_at, slot_at, type_at, type_in, type_of, type_of_element}
use Rattle.life_proper.specs.Placed as placed
use Rattle.life_proper.specs.WellFormed.{is_well_formed_step}
use Rattle.life_proper.specs.WellFormedPrograms.{fits_kind, may_stand}
use Rattle.life_proper.proofs.HeldSorts.{same_is}
use Rattle.life_store.specs.Content.{Object}
use Rattle.life_store.specs.Doing.{changed, does, erases, pointer_to, with_output}
use Rattle.life_store.specs.Effects.{Setting, put_cell, put_content}
use Rattle.life_store.specs.Iterators.{iterator}
use Rattle.life_store.specs.Parts.{Parts, Text, Vector, held_type_if, operand_parts, operand_type, parts_at, parts_if, width}
use Rattle.life_store.specs.Places.{location_cell, pointed}
use Rattle.life_store.specs.State.{Number, Named, State, ready_of}
use Rattle.life_store.specs.Kinds.{Owner, kind_in}
use Rattle.life_forest.specs.FrameTypes.{Stands, seen_type}
use Rattle.life_forest.specs.Frames.{OnNext}
use Rattle.life_forest.specs.HeldPointers.{HoldWell}
use Rattle.life_forest.specs.Settled.{IsPoised}
use Rattle.life_forest.proofs.CopiedTypes.{LocalsStand}
use Rattle.life_forest.proofs.Following.{IsOwned}
use Rattle.life_forest.proofs.FreshPointers.{NoReference}
use Rattle.life_forest.proofs.Holding.{Holds, KeepsHeld, KeepsOn, held_cell, held_content, held_holds, held_self, next_holds, on_next_holds}
use Rattle.life_forest.proofs.HoldingAims.{advances_hold, aims_hold, cuts_hold, owned_cursors_hold, owned_elements_hold, repoints_hold, seen_cursors_hold, seen_elements_hold}
use Rattle.life_forest.proofs.HoldingChanges.{IsNoErase, changed_keeps, makes_keep, moves_keep, saves_keep}
use Rattle.life_forest.proofs.HoldingCopies.{named_copies, plain_copies}
use Rattle.life_forest.proofs.HoldingLives.{IsLiving, ends_hold, lives_hold}
use Rattle.life_forest.proofs.HoldingWrites.{pointed_holds}
use Rattle.life_forest.proofs.Keeping.{keeps_self}
use Rattle.life_forest.proofs.KeepingEdits.{erased_keeps}
use Rattle.life_forest.proofs.OneNumber.{also_solid, one_type, same_solid}
use Rattle.life_forest.proofs.Operands.{IsPlace, OperandAims, on_spot_next}
use Rattle.life_forest.proofs.PlainTypes.{HasNoPointer, plain_free, through_plain}
use Rattle.life_forest.proofs.Retargets.{Retargets}
use Rattle.life_forest.proofs.SettledSteps.{IsOneFrame}
use Rattle.life_forest.proofs.SettlingPointers.{aims_points, walks_points}
use Rattle.life_forest.proofs.Shaped.{IsShaped, no_slot}
use Rattle.life_forest.proofs.StandingChanges.{on_got_each}
use Rattle.life_forest.proofs.StandingErase.{erases_give}
use Rattle.life_forest.proofs.StandingNumbers.{evaluated_gives, loaded_gives, ports_give, sames_give, sizes_give}
use Rattle.life_forest.proofs.StandingSteps.{IsTypedChange, IsTypedStep, TakesPointer, step_stands}
use Rattle.life_forest.proofs.TypedSteps.{IsSlotFree, PointersAim, operand_same, operand_with}

module _ (types : Types) (ordered : IsOrdered types) (once : HasEachOnce types) (texts : ℕ) (fs : List Function) (f : Function) (shaped : IsShaped types f) (stand : LocalsStand types ordered f) (rest : ℕ → ℕ) (s : Setting) (st : State)
    (stands : Stands types f rest st) (at_point : IsPoised types f st) (aims : PointersAim types f st) (held : HoldWell types f st) where
  abbrev Q : State → Type 0
  Q = Holds types f rest st

  number_holds : (r : ℕ) (z : ℤ) → Holds types f rest st (put_cell r (Number z) st)
  number_holds r z = held_holds types f rest st stands (put_cell r (Number z) st) (held_cell types f st st r (Number z) unlike (held_self types f st)) held
    where
      unlike : (n : ℕ) → Number z ≡ Named n → ⊥
      unlike n e = cc

  -- ---- a local that comes to life is no reference

  no_reference : (x : ℕ) (l : Local) → slice_get f.locals x ≡ Some l → type_at types f x ≡ or_void (slice_get types.types l.ty.0) → (object_at types f x || (register_at types f x && (is_pointer (type_at types f x) && not (is_reference (type_at types f x))))) ≡ true → NoReference (tree_at types l.ty)
  no_reference x l there own e =
      subst NoReference (sym (tree_made types ordered l.ty))
      (of_type (slice_get types.types l.ty.0) (subst (λ (t : Ty). is_reference t ≡ false) own (by_kind l.kind (at_point.kinds x l there) (subst (λ (o : Option Local). (has_kind is_object o || (has_kind is_register o && (is_pointer (type_at types f x) && not (is_reference (type_at types f x))))) ≡ true) there e))))
    where
      struct_free : (ids : List TyId) → NoReference (tree.struct_of (tree_at types) ids)
      struct_free [] = tt
      struct_free (id ∷ ids) = tt

      of_type : (o : Option Ty) → is_reference (or_void o) ≡ false → NoReference (tree_of types (tree_at types) o)
      of_type (Some (ty.Reference target constant)) h = false≢true (sym h)
      of_type (Some (ty.Struct number)) h = struct_free (members_at types number)
      of_type None h = tt
      of_type (Some _) h = tt

      not_pointer : (t : Ty) → not (is_pointer t) ≡ true → is_reference t ≡ false
      not_pointer (ty.Reference target constant) h = absurd (false≢true h)
      not_pointer _ h = refl

      by_kind : (k : LocalKind) → fits_kind k (type_at types f x) ≡ true → (is_object k || (is_register k && (is_pointer (type_at types f x) && not (is_reference (type_at types f x))))) ≡ true → is_reference (type_at types f x) ≡ false
      by_kind kind.Object fits h = not_pointer (type_at types f x) fits
      by_kind kind.Register fits h = not_true (is_reference (type_at types f x)) (and_parts (is_pointer (type_at types f x)) (not (is_reference (type_at types f x))) h).1
        where
          not_true : (b : Bool) → not b ≡ true → b ≡ false
          not_true true k = absurd (false≢true k)
          not_true false k = refl
      by_kind kind.Range fits h = absurd (false≢true h)

  living : (x : ℕ) (how : Form) → is_well_formed_step types texts fs f (Live x how) ≡ true → IsSlotFree types f (Live x how) → IsTypedStep types f st (Live x how) → (l : Local) → slice_get f.locals x ≡ Some l → IsLiving types ordered f rest st stands held x l
  living x how e free typed l there =
      let own : type_at types f x ≡ or_void (slice_get types.types l.ty.0) =
      ap (ty_if types) (shaped x ∙ ap (held_type_if types) there) ∙ ap (λ (id : TyId). or_void (slice_get types.types id.0)) (no_slot types l.ty (slice_get types.types l.ty.0) (ap (is_slot_local types f) (sym there) ∙ free)) in
      record {
        local = (typed l there).0;
        value = (typed l there).1;
        member = no_reference x l there own e;
        stand = subst (λ (id : Option TyId). may_stand (tree_if types id) ≡ true) (shaped x ∙ (typed l there).0) (stand x);
      }

  -- ---- copies

  copy_holds : (to from : Operand) → is_well_formed_step types texts fs f (Copy to from) ≡ true → OnNext (does s types f (Copy to from) st) (Stands types f rest) → OnNext (does s types f (Copy to from) st) (Holds types f rest st)
  copy_holds to from e after =
      let alike = (and_parts (same (type_of types f to) (type_of types f from)) _ e).0 in
      let into = operand_with types ordered once texts fs f shaped st aims at_point.sorted to (type_of types f to) refl (same_solid (type_of types f to) (type_of types f from) alike) in
      let out = operand_with types ordered once texts fs f shaped st aims at_point.sorted from (type_of types f from) refl (also_solid (type_of types f to) (type_of types f from) alike) in
      let one : out.whole ≡ into.whole = one_type types once out.whole into.whole (type_of types f from) out.there (into.there ∙ ap Some (same_is (type_of types f to) (type_of types f from) alike)) in
      by_operands to from into.whole into.operand.0 into.operand.1 (out.operand.0 ∙ ap Some one) out.operand.1 after
    where
      plain : (o : Operand) (part : TyId) → operand_type types f o ≡ Some part → tree.is_plain (tree_if types (shapes.operand_type types f o)) ≡ true → HasNoPointer (parts_at types part)
      plain o part typed h = plain_free types ordered part (subst (λ (id : Option TyId). tree.is_plain (tree_if types id) ≡ true) (operand_same types ordered once texts fs f shaped o ∙ typed) h)

      without : (to from : Operand) (part : TyId) → operand_type types f to ≡ Some part → OperandAims types f st to → operand_type types f from ≡ Some part → OperandAims types f st from → HasNoPointer (parts_at types part) → OnNext (does s types f (Copy to from) st) (Holds types f rest st)
      without to from part typed aims_to typed_from aims_from free =
          next_holds types f rest st stands (does s types f (Copy to from) st) held (plain_copies types ordered f rest st stands s part free to from part typed typed_from refl aims_to aims_from)

      by_operands : (to from : Operand) (part : TyId) → operand_type types f to ≡ Some part → OperandAims types f st to → operand_type types f from ≡ Some part → OperandAims types f st from → OnNext (does s types f (Copy to from) st) (Stands types f rest) → OnNext (does s types f (Copy to from) st) (Holds types f rest st)
      by_operands (Name a) (Name b) part typed aims_to typed_from aims_from later = named_copies types ordered f rest st stands held s a b part typed typed_from later
      by_operands (Through p ms) from part typed aims_to typed_from aims_from later = without (Through p ms) from part typed aims_to typed_from aims_from (plain (Through p ms) part typed (through_plain types ordered f stand p ms))
      by_operands (Name a) (Through p ms) part typed aims_to typed_from aims_from later = without (Name a) (Through p ms) part typed aims_to typed_from aims_from (plain (Through p ms) part typed_from (through_plain types ordered f stand p ms))

  -- ---- changes

  module _ (o : Operand) (part : TyId) (n i w : ℕ) (object : Object) (place : IsPlace types st.world.content part n i w object) where
    other_change : (p : Parts) → parts_at types part ≡ p → width p ≡ 1 → kind_in p 0 ≡ Owner → (change : Change) → IsNoErase types ordered f rest st stands part n i w object place change → OnNext (changed s types f p (record { object = n; index = i; word = w }) change st) (Holds types f rest st)
    other_change p is one owner change plain =
        next_holds types f rest st stands (changed s types f p (record { object = n; index = i; word = w }) change st) held (changed_keeps types ordered f rest st stands part n i w object place s p is one owner change plain)

    -- an element is erased, and a location given the iterator behind it
    erase_holds : (id : TyId) → parts_at types part ≡ Vector id (parts_at types id) → (from into : Location) (to : TyId) → TakesPointer types f st into to → Retargets types (Some id) (seen_type types (Some to))
        → OnNext (changed s types f (Vector id (parts_at types id)) (record { object = n; index = i; word = w }) (Erase from into) st) (Holds types f rest st)
    erase_holds id is from into to takes_it targets =
        on_got_each (iterator st.world.content (location_cell types f from st)) (λ v. erases types f (Vector id (parts_at types id)) (record { object = n; index = i; word = w }) v into st) (Holds types f rest st)
        (λ v. erases_give types ordered f rest st stands part n i w object place id is v into to targets (Holds types f rest st)
        (λ d kept b own k same_d behind well.
        let mid = held_holds types f rest st stands (put_content d st) (held_content types f st d (subst (KeepsOn types f st) (sym same_d) (erased_keeps types ordered (IsOwned types st.world.content) st.world.content b own (parts_at types id) k st.world.content (keeps_self types (IsOwned types st.world.content) st.world.content)))) held in
        on_next_holds types f rest st (put_content d st) (pointed types f into (pointer_to d b k 0) (put_content d st)) mid
        (pointed_holds types ordered f rest (put_content d st) behind mid.well into to (pointer_to d b k 0) takes_it.0 takes_it.1 well (λ t h view. refl))))

    changed_holds : (change : Change) → IsTypedChange types f st part change → OnNext (changed s types f (parts_at types part) (record { object = n; index = i; word = w }) change st) (Holds types f rest st)
    changed_holds (PushBack x) typed = by_owner typed
      where
        by_owner : IsTypedChange types f st part (PushBack x) → OnNext (changed s types f (parts_at types part) (record { object = n; index = i; word = w }) (PushBack x) st) (Holds types f rest st)
        by_owner (inl t) = other_change (parts_at types part) refl (ap width t.1) (ap (λ (p : Parts). kind_in p 0) t.1) (PushBack x) tt
        by_owner (inr t) = other_change (parts_at types part) refl (ap width t.1) (ap (λ (p : Parts). kind_in p 0) t.1) (PushBack x) tt
    changed_holds PopBack typed = by_owner typed
      where
        by_owner : IsTypedChange types f st part PopBack → OnNext (changed s types f (parts_at types part) (record { object = n; index = i; word = w }) PopBack st) (Holds types f rest st)
        by_owner (inl t) = other_change (parts_at types part) refl (ap width t.1) (ap (λ (p : Parts). kind_in p 0) t.1) PopBack tt
        by_owner (inr t) = other_change (parts_at types part) refl (ap width t.1) (ap (λ (p : Parts). kind_in p 0) t.1) PopBack tt
    changed_holds Clear typed = by_owner typed
      where
        by_owner : IsTypedChange types f st part Clear → OnNext (changed s types f (parts_at types part) (record { object = n; index = i; word = w }) Clear st) (Holds types f rest st)
        by_owner (inl t) = other_change (parts_at types part) refl (ap width t.1) (ap (λ (p : Parts). kind_in p 0) t.1) Clear tt
        by_owner (inr t) = other_change (parts_at types part) refl (ap width t.1) (ap (λ (p : Parts). kind_in p 0) t.1) Clear tt
    changed_holds (Reserve r) typed = by_owner typed
      where
        by_owner : IsTypedChange types f st part (Reserve r) → OnNext (changed s types f (parts_at types part) (record { object = n; index = i; word = w }) (Reserve r) st) (Holds types f rest st)
        by_owner (inl t) = other_change (parts_at types part) refl (ap width t.1) (ap (λ (p : Parts). kind_in p 0) t.1) (Reserve r) tt
        by_owner (inr t) = other_change (parts_at types part) refl (ap width t.1) (ap (λ (p : Parts). kind_in p 0) t.1) (Reserve r) tt
    changed_holds (Set given) typed = by_owner typed
      where
        by_owner : IsTypedChange types f st part (Set given) → OnNext (changed s types f (parts_at types part) (record { object = n; index = i; word = w }) (Set given) st) (Holds types f rest st)
        by_owner (inl t) = other_change (parts_at types part) refl (ap width t.1) (ap (λ (p : Parts). kind_in p 0) t.1) (Set given) tt
        by_owner (inr t) = other_change (parts_at types part) refl (ap width t.1) (ap (λ (p : Parts). kind_in p 0) t.1) (Set given) tt
    changed_holds (Append given) typed = by_owner typed
      where
        by_owner : IsTypedChange types f st part (Append given) → OnNext (changed s types f (parts_at types part) (record { object = n; index = i; word = w }) (Append given) st) (Holds types f rest st)
        by_owner (inl t) = other_change (parts_at types part) refl (ap width t.1) (ap (λ (p : Parts). kind_in p 0) t.1) (Append given) tt
        by_owner (inr t) = other_change (parts_at types part) refl (ap width t.1) (ap (λ (p : Parts). kind_in p 0) t.1) (Append given) tt
    changed_holds (Erase from into) (inl t) =
        subst (λ (p : Parts). OnNext (changed s types f p (record { object = n; index = i; word = w }) (Erase from into) st) (Holds types f rest st)) (sym t.1)
        (on_got_each (iterator st.world.content (location_cell types f from st)) (λ v. erases types f (Text t.0) (record { object = n; index = i; word = w }) v into st) (Holds types f rest st) (λ v. tt))
    changed_holds (Erase from into) (inr t) =
        subst (λ (p : Parts). OnNext (changed s types f p (record { object = n; index = i; word = w }) (Erase from into) st) (Holds types f rest st)) (sym t.1) (erase_holds t.0 t.1 from into t.2.0 t.2.1 t.2.2)

  -- ---- each instruction

  pub step_holds : (i : Step) → IsOneFrame i → is_well_formed_step types texts fs f i ≡ true → IsSlotFree types f i → AreReady (ready_of st) (touched_by f i) → IsTypedStep types f st i → OnNext (does s types f i st) (Holds types f rest st)
  step_holds (Live x how) one e free ready typed = lives_hold types ordered f rest st stands held s x how (living x how e free typed)
  step_holds (End xs) one e free ready typed = ends_hold types ordered f rest xs st stands held
  step_holds (Eval r operation) one e free ready typed = evaluated_gives types f st Q r (number_holds r) operation
  step_holds (Load r o) one e free ready typed = loaded_gives types f st Q r (number_holds r) s o
  step_holds (Save o r) one e free ready typed = next_holds types f rest st stands (does s types f (Save o r) st) held (saves_keep types ordered f rest st stands o r typed.0 typed.1.0 typed.1.1 typed.2)
  step_holds (Copy to from) one e free ready typed = copy_holds to from e (step_stands types ordered f rest s st stands (Copy to from) typed)
  step_holds (Move to y) one e free ready typed = next_holds types f rest st stands (does s types f (Move to y) st) held (moves_keep types ordered f rest st stands to y typed.0 typed.1.0 typed.1.1 typed.2 typed.3)
  step_holds (Aim p sr) one e free ready typed = aims_hold types ordered once texts fs f shaped rest s st stands at_point aims held p sr typed.0 typed.1 typed.2 e ready.uses
  step_holds (Repoint p q) one e free ready typed = repoints_hold types ordered once texts fs f shaped rest s st stands at_point aims held p q typed.0 typed.1 typed.2 e
  step_holds (Element p (source.Owner o) w) one e free ready typed =
      let both = and_parts (aims_at types (type_in types f p) (type_of_element types f (source.Owner o) w)) (keeps_const (is_constant (type_in types f p)) (is_const_base types f (source.Owner o))) e in
      owned_elements_hold types ordered once texts fs f shaped rest s st stands at_point aims held p o w typed.0 typed.1 typed.2 (aims_points types (type_in types f p) (type_of_element types f (source.Owner o) w) both.0)
  step_holds (Element p (source.Pointer l) w) one e free ready typed =
      let both = and_parts (aims_at types (type_in types f p) (type_of_element types f (source.Pointer l) w)) (keeps_const (is_constant (type_in types f p)) (is_const_base types f (source.Pointer l))) e in
      seen_elements_hold types ordered once texts fs f shaped rest s st stands at_point aims held p l w typed.0 typed.1 typed.2 both.0 both.1 ready.uses.0
  step_holds (Cursor p (source.Owner o) end) one e free ready typed =
      let both = and_parts (walks types (type_in types f p) (placed.element_of types f (source.Owner o))) (keeps_const (is_constant (type_in types f p)) (is_const_base types f (source.Owner o))) e in
      owned_cursors_hold types ordered once texts fs f shaped rest s st stands at_point aims held p o end typed.0 typed.1 typed.2 (walks_points types (type_in types f p) (placed.element_of types f (source.Owner o)) both.0)
  step_holds (Cursor p (source.Pointer l) end) one e free ready typed =
      let both = and_parts (walks types (type_in types f p) (placed.element_of types f (source.Pointer l))) (keeps_const (is_constant (type_in types f p)) (is_const_base types f (source.Pointer l))) e in
      seen_cursors_hold types ordered once texts fs f shaped rest s st stands at_point aims held p l end typed.0 typed.1 typed.2 both.0 both.1 ready.uses.0
  step_holds (Advance p q r way) one e free ready typed =
      let outer = and_parts (is_iterator (type_in types f p)) _ e in
      advances_hold types ordered once texts fs f shaped rest s st stands at_point aims held p q r way typed.0 typed.1 typed.2 outer.0 (and_parts (takes types (type_in types f p) (type_in types f q)) _ outer.1).0 ready.uses.0
  step_holds (Cut p q r count) one e free ready typed =
      let outer = and_parts (is_range (type_in types f p)) _ e in
      cuts_hold types ordered once texts fs f shaped rest s st stands at_point aims held p q r count typed.0 typed.1 typed.2 outer.0 (and_parts (takes types (type_in types f p) (type_in types f q)) _ outer.1).0 ready.uses.0
  step_holds (Size r b) one e free ready typed = sizes_give types f st Q r (number_holds r) b
  step_holds (Same r a b equal) one e free ready typed = sames_give types f st Q r (number_holds r) s a b equal
  step_holds (Changes o c) one e free ready typed =
      on_spot_next types ordered f st stands.frame o typed.0 (λ spot. changed s types f (operand_parts types f o) spot c st) Q typed.1.0 typed.1.1
      (λ n i w object place. subst (λ (id : Option TyId). OnNext (changed s types f (parts_if types id) (record { object = n; index = i; word = w }) c st) Q) (sym typed.1.0) (changed_holds o typed.0 n i w object place c typed.2))
  step_holds (Make u m) one e free ready typed = next_holds types f rest st stands (does s types f (Make u m) st) held (makes_keep types ordered f rest st stands u typed.0 typed.1 typed.2 typed.3 s m)
  step_holds (Call target g xs) one e free ready typed = absurd one
  step_holds (Ports p) one e free ready typed =
      ports_give types f st Q (λ text. held_holds types f rest st stands (with_output text st) (written text) held) s p
      (λ r z zs is. held_holds types f rest st stands (put_cell r (Number z) (taking zs)) (held_cell types f st (taking zs) r (Number z) (λ n h. unlike z n h) (record { keeps = keeps_self types (IsOwned types st.world.content) st.world.content; named = λ x n k. k })) held)
    where
      taking : List ℤ → State
      taking zs = record st { world = record (st.world) { input = zs } }

      written : (text : List ℕ) → KeepsHeld types f st (with_output text st)
      written text = record { keeps = keeps_self types (IsOwned types st.world.content) st.world.content; named = λ x n k. k }

      unlike : (z : ℤ) (n : ℕ) → Number z ≡ Named n → ⊥
      unlike z n h = cc
