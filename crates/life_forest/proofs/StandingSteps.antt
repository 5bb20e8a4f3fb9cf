-- A frame stands behind each instruction whose operands are of the types that it takes, whatever else is in the hand.
use Rattle.std.proofs.Common.{◌≡◌, ◌⊎◌, inl, inr, ℕ, List, [], ◌∷◌, Option, Some, None, refl, sym, ap, subst, ◌∙◌}
use Rattle.std.specs.Prelude.{ℤ, slice_get}
use Rattle.std.specs.Int.{cast_unsigned, w64}
use Rattle.life_types.specs.Trees.{IsOrdered}
use Rattle.life_types.specs.Types.{Types}
use Rattle.life_types.specs.declared.ty.TyId.{TyId}
use Rattle.life_core.specs.declared.instr.Form.{Form}
use Rattle.life_core.specs.declared.instr.Form.TheVariants as form
use Rattle.life_core.specs.declared.instr.Made.{Made}
use Rattle.life_core.specs.declared.instr.Made.TheVariants as made
use Rattle.life_core.specs.declared.program.Local.{Local}
use Rattle.life_core.specs.Function.{Function}
use Rattle.life_core.specs.Holdings.{Holding, Blank, AnObject, ANumber, APointer, AView, sort_of}
use Rattle.life_core.specs.Operands.{Base, Location, Operand, Source}
use Rattle.life_core.specs.Operands as source
use Rattle.life_core.specs.Step.{Change, PushBack, PopBack, Clear, Reserve, Erase, Set, Append, Step, Live, End, Eval, Load, Save, Copy, Move, Aim, Repoint, Element, Cursor, Advance, Cut, Size, Same, Changes, Make, Call, Ports}
use Rattle.life_store.specs.Births.{born_owner, live_as, live_local, live_of, live_over}
use Rattle.life_store.specs.Content.{Object}
use Rattle.life_store.specs.Doing.{changed, does, edits, erases, on_given, pushes}
use Rattle.life_store.specs.Edits.{Push, Put, Add, Reserve as Room, buffer_of}
use Rattle.life_store.specs.Effects.{Setting, Attempt, Got, GotTrap, GotFault, GotLost, Effect, Next, Strays, cell, on_next, put_cell, word_of_number}
use Rattle.life_store.specs.Iterators.{at_index, iterator}
use Rattle.life_store.specs.Owners.{born_pointer, consumed, empty_view}
use Rattle.life_store.specs.Parts.{Parts, Single, Raw, Iterates, Views, Text, Vector, Unique, Member, NoMember, local_type, location_type, operand_parts, operand_type, parts_at, parts_if, width_at}
use Rattle.life_store.specs.Places.{Spot, location_cell, pointed}
use Rattle.life_store.specs.State.{Pointer, Wild, Cell, Empty, Named, Number, Points, State}
use Rattle.life_store.specs.Views.{part_of, seen_words, used}
use Rattle.life_forest.specs.FrameTypes.{PointsWell, Stands, seen_type}
use Rattle.life_forest.specs.Frames.{OnNext}
use Rattle.life_forest.proofs.Coming.{IfGot}
use Rattle.life_forest.proofs.GivenPointers.{advances_give, cuts_give, empties_give, gets_give, nulls_give, owned_cursors_give, owned_elements_give, places_give, repoints_give, seen_cursors_give, seen_elements_give, texts_give, wholes_give}
use Rattle.life_forest.proofs.Operands.{AimsFrom, IsPlace, OperandAims, on_spot_next}
use Rattle.life_forest.proofs.OwnedAims.{OwnsType}
use Rattle.life_forest.proofs.Retargets.{Retargets}
use Rattle.life_forest.proofs.StandingChanges.{on_got_each, on_number_next, text_changes}
use Rattle.life_forest.proofs.StandingCopies.{copies_stand}
use Rattle.life_forest.proofs.StandingErase.{erases_stand}
use Rattle.life_forest.proofs.StandingLives.{ends_stand, owner_stands, value_stands}
use Rattle.life_forest.proofs.StandingNumbers.{evaluated_gives, loaded_gives, ports_stand, sames_give, saves_stand, sizes_give}
use Rattle.life_forest.proofs.StandingOwners.{makes_stand, moves_stand}
use Rattle.life_forest.proofs.StandingPointers.{IsPointer, number_stands, pointed_stands, pointer_stands}
use Rattle.life_forest.proofs.StandingVectors.{clear_stands, pop_stands, push_number_stands, push_object_stands, reserve_stands}

-- ---- what is asked of an instruction

module _ (types : Types) (f : Function) (st : State) where
  abbrev pub IsOperandOf : Operand → TyId → Type 0
  IsOperandOf o part = (operand_type types f o ≡ Some part) × OperandAims types f st o

  -- a location for a pointer of the type
  abbrev pub TakesPointer : Location → TyId → Type 0
  TakesPointer p part = (location_type types f p ≡ Some part) × IsPointer (parts_at types part)

  -- a pointer that is handed on to a location of the type
  abbrev pub IsHandedOn : Location → TyId → Type 0
  IsHandedOn q part = AimsFrom types f st q × Retargets types (seen_type types (location_type types f q)) (seen_type types (Some part))

  -- an owner of what a pointer of the type points to
  abbrev pub IsOwnerFor : TyId → TyId → Type 0
  IsOwnerFor part whole = (id : TyId) × OwnsType (parts_at types whole) id × Retargets types (Some id) (seen_type types (Some part))

  abbrev pub IsTypedSource : TyId → Source → Type 0
  IsTypedSource part source.Null = Unit {0}
  IsTypedSource part (source.Text n) = parts_if types (seen_type types (Some part)) ≡ Single
  IsTypedSource part source.Empty = Unit {0}
  IsTypedSource part (source.Place o) = (whole : TyId) × IsOperandOf o whole × Retargets types (Some whole) (seen_type types (Some part))
  IsTypedSource part (source.Whole o) = (whole : TyId) × IsOperandOf o whole × IsOwnerFor part whole
  IsTypedSource part (source.Get l) = (whole : TyId) × (location_type types f l ≡ Some whole) × IsOwnerFor part whole

  abbrev pub IsTypedBase : TyId → Base → Type 0
  IsTypedBase part (source.Owner o) = (whole : TyId) × IsOperandOf o whole × IsOwnerFor part whole
  IsTypedBase part (source.Pointer l) = IsHandedOn l part

  -- a number where the type is a value, and else a temporary of the type
  abbrev pub IsGivenTo : TyId → ℕ → Type 0
  IsGivenTo id x = ((z : ℤ) → cell st x ≡ Some (Number z) → parts_at types id ≡ Single) × ((m : ℕ) → cell st x ≡ Some (Named m) → local_type types f x ≡ Some id)

  abbrev pub IsTextChange : Change → Type 0
  IsTextChange (PushBack x) = (m : ℕ) → cell st x ≡ Some (Named m) → ⊥
  IsTextChange _ = Unit {0}

  abbrev pub IsVectorChange : TyId → Change → Type 0
  IsVectorChange id (PushBack x) = IsGivenTo id x
  IsVectorChange id (Erase from into) = (part : TyId) × TakesPointer into part × Retargets types (Some id) (seen_type types (Some part))
  IsVectorChange id _ = Unit {0}

  abbrev pub IsTypedChange : TyId → Change → Type 0
  IsTypedChange part change = ((id : TyId) × (parts_at types part ≡ Text id) × IsTextChange change) ⊎ ((id : TyId) × (parts_at types part ≡ Vector id (parts_at types id)) × IsVectorChange id change)

  abbrev pub IsTypedMade : TyId → Made → Type 0
  IsTypedMade id (made.Of x) = IsGivenTo id x
  IsTypedMade id _ = Unit {0}

  -- a call is no instruction of one frame
  abbrev pub IsTypedStep : Step → Type 0
  IsTypedStep (Live x form) = (l : Local) → slice_get f.locals x ≡ Some l → (local_type types f x ≡ Some l.ty) × (sort_of types f x ≡ AnObject → width_at types l.ty ≡ 1)
  IsTypedStep (Save o r) = (part : TyId) × IsOperandOf o part × (parts_at types part ≡ Single)
  IsTypedStep (Copy to from) = (part : TyId) × (whole : TyId) × IsOperandOf to part × IsOperandOf from whole × (parts_at types whole ≡ parts_at types part)
  IsTypedStep (Move to y) = (part : TyId) × IsOperandOf to part × (local_type types f y ≡ Some part) × (width_at types part ≡ 1)
  IsTypedStep (Aim p s) = (part : TyId) × TakesPointer p part × IsTypedSource part s
  IsTypedStep (Repoint p q) = (part : TyId) × TakesPointer p part × IsHandedOn q part
  IsTypedStep (Element p base w) = (part : TyId) × TakesPointer p part × IsTypedBase part base
  IsTypedStep (Cursor p base end) = (part : TyId) × TakesPointer p part × IsTypedBase part base
  IsTypedStep (Advance p q r way) = (part : TyId) × TakesPointer p part × IsHandedOn q part
  IsTypedStep (Cut p q r count) = (part : TyId) × TakesPointer p part × IsHandedOn q part
  IsTypedStep (Changes o change) = (part : TyId) × IsOperandOf o part × IsTypedChange part change
  IsTypedStep (Make u m) = (part : TyId) × (id : TyId) × (location_type types f u ≡ Some part) × (parts_at types part ≡ Unique id (parts_at types id)) × IsTypedMade id m
  IsTypedStep _ = Unit {0}

module _ (types : Types) (ordered : IsOrdered types) (f : Function) (rest : ℕ → ℕ) (s : Setting) (st : State) (stands : Stands types f rest st) where
  -- ---- a local comes to life

  live_stands : (x : ℕ) (how : Form) → IsTypedStep types f st (Live x how) → OnNext (live_local s types f (slice_get f.locals x) how x st) (Stands types f rest)
  live_stands x how typed = go (slice_get f.locals x) (λ l e. typed l e)
    where
      pointer : (how : Form) → PointsWell types st.world.content (seen_type types (local_type types f x)) (born_pointer how)
      pointer form.Plain = tt
      pointer form.Zero = tt

      of_parts : (ty : TyId) (p : Parts) → parts_at types ty ≡ p → local_type types f x ≡ Some ty → cell st x ≡ Some Empty → OnNext (live_of s ty p how x st) (Stands types f rest)
      of_parts ty Single is local empty = tt
      of_parts ty Raw is local empty = tt
      of_parts ty Iterates is local empty = pointer_stands types ordered f rest st stands x Wild tt
      of_parts ty Views is local empty = pointer_stands types ordered f rest st stands x empty_view tt
      of_parts ty (Text id) is local empty = subst (λ (p : Parts). OnNext (born_owner s ty p how x st) (Stands types f rest)) is (owner_stands types ordered f rest st stands s x ty how local empty)
      of_parts ty (Vector id element) is local empty = subst (λ (p : Parts). OnNext (born_owner s ty p how x st) (Stands types f rest)) is (owner_stands types ordered f rest st stands s x ty how local empty)
      of_parts ty (Unique id target) is local empty = subst (λ (p : Parts). OnNext (born_owner s ty p how x st) (Stands types f rest)) is (owner_stands types ordered f rest st stands s x ty how local empty)
      of_parts ty (Member first others) is local empty = subst (λ (p : Parts). OnNext (born_owner s ty p how x st) (Stands types f rest)) is (owner_stands types ordered f rest st stands s x ty how local empty)
      of_parts ty NoMember is local empty = tt

      of_sort : (ty : TyId) (sort : Holding) → sort_of types f x ≡ sort → local_type types f x ≡ Some ty → (sort_of types f x ≡ AnObject → width_at types ty ≡ 1) → cell st x ≡ Some Empty → OnNext (live_as s types sort ty how x st) (Stands types f rest)
      of_sort ty Blank is local wide empty = of_parts ty (parts_at types ty) refl local empty
      of_sort ty AnObject is local wide empty = value_stands types ordered f rest st stands s x ty local (wide is) empty
      of_sort ty ANumber is local wide empty = tt
      of_sort ty APointer is local wide empty = pointer_stands types ordered f rest st stands x (born_pointer how) (pointer how)
      of_sort ty AView is local wide empty = pointer_stands types ordered f rest st stands x empty_view tt

      over : (ty : TyId) (o : Option Cell) → cell st x ≡ o → (local_type types f x ≡ Some ty) × (sort_of types f x ≡ AnObject → width_at types ty ≡ 1) → OnNext (live_over s types o (sort_of types f x) ty how x st) (Stands types f rest)
      over ty None e h = tt
      over ty (Some Empty) e h = of_sort ty (sort_of types f x) refl h.0 h.1 e
      over ty (Some (Named n)) e h = tt
      over ty (Some (Number z)) e h = tt
      over ty (Some (Points p)) e h = tt

      go : (o : Option Local) → ((l : Local) → o ≡ Some l → (local_type types f x ≡ Some l.ty) × (sort_of types f x ≡ AnObject → width_at types l.ty ≡ 1)) → OnNext (live_local s types f o how x st) (Stands types f rest)
      go None h = tt
      go (Some l) h = over l.ty (cell st x) refl (h l refl)

  -- ---- pointers

  -- nothing else is asked of a pointer that is given
  abbrev AnyPointer : Pointer → Type 0
  AnyPointer v = Unit {0}

  stood : (p : Location) (part : TyId) → TakesPointer types f st p part → (v : Pointer) → PointsWell types st.world.content (seen_type types (Some part)) v → AnyPointer v → OnNext (pointed types f p v st) (Stands types f rest)
  stood p part into v well any = pointed_stands types ordered f rest st stands p part v into.0 into.1 well

  got_any : {A : Type 0} (x : Attempt A) (P : A → Type 0) → ((a : A) → P a) → IfGot x P
  got_any (Got a) P each = each a
  got_any (GotTrap kind) P each = tt
  got_any (GotFault kind) P each = tt
  got_any GotLost P each = tt

  any_iterator : (q : Location) → IfGot (iterator st.world.content (location_cell types f q st)) (λ v. (i : ℕ) → AnyPointer (at_index st.world.content.clock i v))
  any_iterator q = got_any (iterator st.world.content (location_cell types f q st)) (λ v. (i : ℕ) → AnyPointer (at_index st.world.content.clock i v)) (λ v i. tt)

  any_used : (q : Location) → IfGot (used st.world.content (location_cell types f q st)) (λ v. (i : ℕ) → AnyPointer (at_index st.world.content.clock i v))
  any_used q = got_any (used st.world.content (location_cell types f q st)) (λ v. (i : ℕ) → AnyPointer (at_index st.world.content.clock i v)) (λ v i. tt)

  source_stands : (p : Location) (part : TyId) → TakesPointer types f st p part → (sr : Source) → IsTypedSource types f st part sr → OnNext (does s types f (Aim p sr) st) (Stands types f rest)
  source_stands p part into source.Null typed = nulls_give types ordered f rest st stands p part AnyPointer (Stands types f rest) (stood p part into) (λ t e. tt) s tt
  source_stands p part into (source.Text n) typed = texts_give types ordered f rest st stands p part AnyPointer (Stands types f rest) (stood p part into) (λ t e. tt) s n tt typed
  source_stands p part into source.Empty typed = empties_give types ordered f rest st stands p part AnyPointer (Stands types f rest) (stood p part into) (λ t e. tt) s tt
  source_stands p part into (source.Place o) typed = places_give types ordered f rest st stands p part AnyPointer (Stands types f rest) (stood p part into) (λ t e. tt) s o typed.0 typed.1.0 typed.1.1 typed.2 (λ t. tt) (λ t e. tt)
  source_stands p part into (source.Whole o) typed = wholes_give types ordered f rest st stands p part AnyPointer (Stands types f rest) (stood p part into) (λ t e. tt) typed.0 typed.2.0 typed.2.1 typed.2.2 s o typed.1.0 typed.1.1
  source_stands p part into (source.Get l) typed = gets_give types ordered f rest st stands p part AnyPointer (Stands types f rest) (stood p part into) (λ t e. tt) typed.0 typed.2.0 typed.2.1 typed.2.2 s l tt typed.1

  -- ---- changes

  module _ (part : TyId) (n i w : ℕ) (o : Object) (place : IsPlace types st.world.content part n i w o) where
    abbrev spot : Spot
    spot = record { object = n; index = i; word = w }

    text_change : (id : TyId) (change : Change) → parts_at types part ≡ Text id → IsTextChange types f st change → OnNext (changed s types f (Text id) (record { object = n; index = i; word = w }) change st) (Stands types f rest)
    text_change id (PushBack x) is typed = text_changes types ordered f rest st stands part n i w o place s id (PushBack x) is (λ y m e there. typed m (ap (cell st) (pushes_one y e) ∙ there))
      where
        pushes_one : (y : ℕ) → PushBack x ≡ PushBack y → x ≡ y
        pushes_one y e = cc
    text_change id PopBack is typed = text_changes types ordered f rest st stands part n i w o place s id PopBack is (λ y m e there. absurd (unlike y e))
      where
        unlike : (y : ℕ) → PopBack ≡ PushBack y → ⊥
        unlike y e = cc
    text_change id Clear is typed = text_changes types ordered f rest st stands part n i w o place s id Clear is (λ y m e there. absurd (unlike y e))
      where
        unlike : (y : ℕ) → Clear ≡ PushBack y → ⊥
        unlike y e = cc
    text_change id (Reserve r) is typed = text_changes types ordered f rest st stands part n i w o place s id (Reserve r) is (λ y m e there. absurd (unlike y e))
      where
        unlike : (y : ℕ) → Reserve r ≡ PushBack y → ⊥
        unlike y e = cc
    text_change id (Erase from into) is typed = text_changes types ordered f rest st stands part n i w o place s id (Erase from into) is (λ y m e there. absurd (unlike y e))
      where
        unlike : (y : ℕ) → Erase from into ≡ PushBack y → ⊥
        unlike y e = cc
    text_change id (Set given) is typed = text_changes types ordered f rest st stands part n i w o place s id (Set given) is (λ y m e there. absurd (unlike y e))
      where
        unlike : (y : ℕ) → Set given ≡ PushBack y → ⊥
        unlike y e = cc
    text_change id (Append given) is typed = text_changes types ordered f rest st stands part n i w o place s id (Append given) is (λ y m e there. absurd (unlike y e))
      where
        unlike : (y : ℕ) → Append given ≡ PushBack y → ⊥
        unlike y e = cc

    -- a vector isn't given characters
    no_characters : (id : TyId) (g : source.Characters) (go : List ℕ → Effect) → ((ws : List ℕ) → OnNext (go ws) (Stands types f rest)) → OnNext (on_given s types f g st go) (Stands types f rest)
    no_characters id (source.View l) go each = on_got_each (used st.world.content (location_cell types f l st)) (λ v. go (seen_words s.texts st.world.content v)) (Stands types f rest) (λ v. each (seen_words s.texts st.world.content v))
    no_characters id (source.Single r) go each = on_number_next (cell st r) (λ z. go (word_of_number z ∷ [])) (Stands types f rest) (λ z. each (word_of_number z ∷ []))

    vector_change : (id : TyId) (change : Change) → parts_at types part ≡ Vector id (parts_at types id) → IsVectorChange types f st id change
        → OnNext (changed s types f (Vector id (parts_at types id)) (record { object = n; index = i; word = w }) change st) (Stands types f rest)
    vector_change id (PushBack x) is typed = pushed (cell st x) refl
      where
        pushed : (v : Option Cell) → cell st x ≡ v → OnNext (pushes s types f (Vector id (parts_at types id)) (record { object = n; index = i; word = w }) x v st) (Stands types f rest)
        pushed None e = tt
        pushed (Some Empty) e = tt
        pushed (Some (Points p)) e = tt
        pushed (Some (Number z)) e = push_number_stands types ordered f rest st stands part n i w o place s id is z (typed.0 z e)
        pushed (Some (Named m)) e =
            subst (λ (ty : Option TyId). OnNext (on_next (edits s (Vector id (parts_at types id)) (record { object = n; index = i; word = w }) (Push (consumed (parts_if types ty) m)) st) (λ after. Next (put_cell x Empty after))) (Stands types f rest)) (sym (typed.1 m e))
            (push_object_stands types ordered f rest st stands part n i w o place s id is x m (typed.1 m e) e)
    vector_change id PopBack is typed = pop_stands types ordered f rest st stands part n i w o place s id is
    vector_change id Clear is typed = clear_stands types ordered f rest st stands part n i w o place s id is
    vector_change id (Reserve r) is typed =
        on_number_next (cell st r) (λ z. edits s (Vector id (parts_at types id)) (record { object = n; index = i; word = w }) (Room (cast_unsigned w64 z)) st) (Stands types f rest)
        (λ z. reserve_stands types ordered f rest st stands part n i w o place s id is (cast_unsigned w64 z))
    vector_change id (Erase from into) is typed =
        on_got_each (iterator st.world.content (location_cell types f from st)) (λ v. erases types f (Vector id (parts_at types id)) (record { object = n; index = i; word = w }) v into st) (Stands types f rest)
        (λ v. erases_stand types ordered f rest st stands part n i w o place id is v into typed.0 typed.1.0 typed.1.1 typed.2)
    vector_change id (Set given) is typed =
        no_characters id given (λ ws. edits s (Vector id (parts_at types id)) (record { object = n; index = i; word = w }) (Put ws) st)
        (λ ws. on_got_each (buffer_of st.world.content spot) (λ b. Strays) (Stands types f rest) (λ b. tt))
    vector_change id (Append given) is typed =
        no_characters id given (λ ws. edits s (Vector id (parts_at types id)) (record { object = n; index = i; word = w }) (Add ws) st)
        (λ ws. on_got_each (buffer_of st.world.content spot) (λ b. Strays) (Stands types f rest) (λ b. tt))

    typed_change : (change : Change) → IsTypedChange types f st part change → OnNext (changed s types f (parts_at types part) (record { object = n; index = i; word = w }) change st) (Stands types f rest)
    typed_change change (inl t) = subst (λ (p : Parts). OnNext (changed s types f p (record { object = n; index = i; word = w }) change st) (Stands types f rest)) (sym t.1) (text_change t.0 change t.1 t.2)
    typed_change change (inr t) = subst (λ (p : Parts). OnNext (changed s types f p (record { object = n; index = i; word = w }) change st) (Stands types f rest)) (sym t.1) (vector_change t.0 change t.1 t.2)

  made_stands : (u : Location) (part id : TyId) → location_type types f u ≡ Some part → parts_at types part ≡ Unique id (parts_at types id) → (m : Made) → IsTypedMade types f st id m → OnNext (does s types f (Make u m) st) (Stands types f rest)
  made_stands u part id typed is made.Null given = makes_stand types ordered f rest st stands u part id typed is s made.Null (λ x z e there. absurd (unlike x e)) (λ x m e there. absurd (unlike x e))
    where
      unlike : (x : ℕ) → made.Null ≡ made.Of x → ⊥
      unlike x e = cc
  made_stands u part id typed is made.Zero given = makes_stand types ordered f rest st stands u part id typed is s made.Zero (λ x z e there. absurd (unlike x e)) (λ x m e there. absurd (unlike x e))
    where
      unlike : (x : ℕ) → made.Zero ≡ made.Of x → ⊥
      unlike x e = cc
  made_stands u part id typed is (made.Of y) given =
      makes_stand types ordered f rest st stands u part id typed is s (made.Of y) (λ x z e there. given.0 z (ap (cell st) (same x e) ∙ there)) (λ x m e there. ap (local_type types f) (sym (same x e)) ∙ given.1 m (ap (cell st) (same x e) ∙ there))
    where
      same : (x : ℕ) → made.Of y ≡ made.Of x → y ≡ x
      same x e = cc

  -- ---- each instruction

  pub step_stands : (i : Step) → IsTypedStep types f st i → OnNext (does s types f i st) (Stands types f rest)
  step_stands (Live x form) typed = live_stands x form typed
  step_stands (End xs) typed = ends_stand types ordered f rest xs st stands
  step_stands (Eval r operation) typed = evaluated_gives types f st (Stands types f rest) r (number_stands types ordered f rest st stands r) operation
  step_stands (Load r o) typed = loaded_gives types f st (Stands types f rest) r (number_stands types ordered f rest st stands r) s o
  step_stands (Save o r) typed = saves_stand types ordered f rest st stands o r typed.0 typed.1.0 typed.1.1 typed.2
  step_stands (Copy to from) typed = copies_stand types ordered f rest st stands s to from typed.0 typed.1 typed.2.0 typed.3.0 typed.4 typed.2.1 typed.3.1
  step_stands (Move to y) typed = moves_stand types ordered f rest st stands to y typed.0 typed.1.0 typed.1.1 typed.2 typed.3
  step_stands (Aim p sr) typed = source_stands p typed.0 typed.1 sr typed.2
  step_stands (Repoint p q) typed = repoints_give types ordered f rest st stands p typed.0 AnyPointer (Stands types f rest) (stood p typed.0 typed.1) (λ t e. tt) q typed.2.0 typed.2.1 (λ v e. tt)
  step_stands (Element p (source.Owner o) w) typed =
      let t = typed.2 in owned_elements_give types ordered f rest st stands p typed.0 AnyPointer (Stands types f rest) (stood p typed.0 typed.1) (λ t e. tt) t.0 t.2.0 t.2.1 t.2.2 o w t.1.0 t.1.1
  step_stands (Element p (source.Pointer l) w) typed = seen_elements_give types ordered f rest st stands p typed.0 AnyPointer (Stands types f rest) (stood p typed.0 typed.1) (λ t e. tt) l w typed.2.0 typed.2.1 (any_used l)
  step_stands (Cursor p (source.Owner o) end) typed =
      let t = typed.2 in owned_cursors_give types ordered f rest st stands p typed.0 AnyPointer (Stands types f rest) (stood p typed.0 typed.1) (λ t e. tt) t.0 t.2.0 t.2.1 t.2.2 o end t.1.0 t.1.1
  step_stands (Cursor p (source.Pointer l) end) typed = seen_cursors_give types ordered f rest st stands p typed.0 AnyPointer (Stands types f rest) (stood p typed.0 typed.1) (λ t e. tt) l end typed.2.0 typed.2.1 (any_used l)
  step_stands (Advance p q r way) typed = advances_give types ordered f rest st stands p typed.0 AnyPointer (Stands types f rest) (stood p typed.0 typed.1) (λ t e. tt) s q r way typed.2.0 typed.2.1 (any_iterator q)
  step_stands (Cut p q r count) typed = cuts_give types ordered f rest st stands p typed.0 AnyPointer (Stands types f rest) (stood p typed.0 typed.1) (λ t e. tt) q r count typed.2.0 typed.2.1 (got_any (used st.world.content (location_cell types f q st)) (λ v. (i k : ℕ) → AnyPointer (part_of st.world.content.clock i k v)) (λ v i k. tt))
  step_stands (Size r base) typed = sizes_give types f st (Stands types f rest) r (number_stands types ordered f rest st stands r) base
  step_stands (Same r a b equal) typed = sames_give types f st (Stands types f rest) r (number_stands types ordered f rest st stands r) s a b equal
  step_stands (Changes o change) typed =
      on_spot_next types ordered f st stands.frame o typed.0 (λ spot. changed s types f (operand_parts types f o) spot change st) (Stands types f rest) typed.1.0 typed.1.1
      (λ n i w object place. subst (λ (id : Option TyId). OnNext (changed s types f (parts_if types id) (record { object = n; index = i; word = w }) change st) (Stands types f rest)) (sym typed.1.0) (typed_change typed.0 n i w object place change typed.2))
  step_stands (Make u m) typed = made_stands u typed.0 typed.1 typed.2 typed.3 m typed.4
  step_stands (Call target g xs) typed = tt
  step_stands (Ports p) typed = ports_stand types ordered f rest st stands s p
