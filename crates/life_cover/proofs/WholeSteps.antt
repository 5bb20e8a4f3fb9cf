-- An instruction of a frame, at which nothing is wrong, makes no fault; and what is known of the frame before it is
-- known behind it: the facts cover all pointers, and each vector and each string has its buffer. What it touches lies beneath what the frame names.
use Rattle.std.proofs.Common.{◌≡◌, ◌⊎◌, ℕ, Bool, true, false, ◌&&◌, not, Option, Some, None, List, refl, sym, ap, subst, ◌∙◌, ◌≢◌, [], ◌∷◌, inl, inr, ⊎_elim}
use Rattle.std.specs.Prelude.{◌||◌, if◌then◌else◌, Contains, ℤ, nat_eq, slice_get}
use Rattle.std.specs.List.{list_any}
use Rattle.std.proofs.lemmas.Bool.{and_parts, false≢true, ne_eqb}
use Rattle.life_types.specs.Pointees.{ty_of}
use Rattle.life_types.specs.Trees.{holds_unique}
use Rattle.life_types.specs.TypeTests.{is_constant, is_iterator, is_pointer, is_value, is_void, is_unique}
use Rattle.life_types.specs.Types.{Types}
use Rattle.life_types.specs.declared.place.Place.{Place}
use Rattle.life_types.specs.declared.ty.Ty.{Ty}
use Rattle.life_types.specs.declared.ty.Ty.TheVariants as ty
use Rattle.life_types.specs.declared.ty.TyId.{TyId}
use Rattle.life_core.specs.Function.{Function}
use Rattle.life_core.specs.Operands.{Location, Operand, whole}
use Rattle.life_core.specs.Proper.{AreReady}
use Rattle.life_core.specs.Step.{Advance, Aim, Append, Call, Change, Changes, Clear, Copy, Cursor, Cut, End, Erase, Eval, Live, Load, Make, Move, PopBack, Ports, PushBack, Repoint, Reserve, Same, Save, Set, Size, Step, Port, Takes, Writes, WritesView}
use Rattle.life_core.specs.Step as step
use Rattle.life_core.specs.Operands as named
use Rattle.life_core.specs.Touched.{touched_by}
use Rattle.life_core.specs.declared.instr.Form.{Form}
use Rattle.life_core.specs.declared.instr.Made.{Made}
use Rattle.life_pset.specs.Shapes.{operand_type, tree_if, has_buffer}
use Rattle.life_pset.specs.declared.element.AbsPlace.{AbsPlace}
use Rattle.life_pset.specs.declared.element.Element.TheVariants as element
use Rattle.life_pset.specs.declared.element.Fact.{Fact}
use Rattle.life_pset.specs.Elements.{changed_in, local_place, moved}
use Rattle.life_contract.specs.Signatures.{Signature}
use Rattle.life_contract.specs.Located.{is_location, is_root, is_rooted, located}
use Rattle.life_proper.specs.OperandTypes.{aims_at, are_alike, is_range, keeps_const, same, walks, are_compared}
use Rattle.life_proper.specs.Placed.{element_of, is_const_base, is_const_place, is_given, is_number_of, object_at, register_at, result_at, slot_at, type_at, type_in, type_of, type_of_element, is_number}
use Rattle.life_proper.specs.WellFormed.{is_change_of, is_well_formed_step, is_port}
use Rattle.life_proper.specs.GivenOver.{given_step}
use Rattle.life_store.specs.Births.{end_locals}
use Rattle.life_store.specs.Doing.{changed, does, pushes, with_output}
use Rattle.life_store.specs.Effects.{Effect, Next, Traps, Faults, Strays, Setting, cell, put_cell}
use Rattle.life_store.specs.Parts.{Vector, local_type, operand_parts, parts_at}
use Rattle.life_store.specs.Places.{Spot, pointed}
use Rattle.life_store.specs.State.{Cell, Empty, Named, Number, Points, State, ready_of, Pointer}
use Rattle.life_forest.specs.Frames.{OnNext}
use Rattle.life_forest.proofs.OneNumber.{same_solid, type_there}
use Rattle.life_forest.proofs.ReadyCells.{number_any}
use Rattle.life_forest.proofs.SeenTypes.{aims_seen, iterator_points, range_points, value_parts, walks_seen}
use Rattle.life_forest.proofs.StandingNumbers.{evaluated_gives, loaded_gives, ports_give, sames_give, sizes_give}
use Rattle.life_forest.proofs.TypedSteps.{IsSlotFree, operand_of, value_solid}
use Rattle.life_cover.specs.Frames.{FrameCovered}
use Rattle.life_cover.specs.Inputs.{may_change, owning, StandsAt, frame_foot}
use Rattle.life_cover.specs.Regions.{Region}
use Rattle.life_pset.specs.declared.element.Root.{Root}
use Rattle.life_cover.proofs.CopyKinds.{outside_local}
use Rattle.life_cover.proofs.Opening.{text_opened, vector_opened}
use Rattle.life_cover.proofs.Writing.{change_owning}
use Rattle.life_cover.specs.Buffered.{AreBut}
use Rattle.life_cover.specs.Covers.{IsOwnerTold}
use Rattle.life_cover.specs.Uniques.{UniquesTold, had_at, word_in}
use Rattle.life_cover.proofs.UniqueFacts.{unique_told}
use Rattle.life_cover.proofs.UniquesBorn.{live_tells}
use Rattle.life_cover.specs.Lacking.{IsMovedFrom, MayLack}
use Rattle.life_cover.proofs.FrameSteps.{IsSpoken, alike_points, not_false, source_points, step_covered}
use Rattle.life_cover.proofs.HeldElements.{vector_operand}
use Rattle.life_cover.proofs.KeptBuffers.{IsKept as IsKeptChange, by_change, by_next, ends_behind, text_behind, vector_behind, IsAmong, LeftBare, ends_tell}
use Rattle.life_cover.proofs.KeptCopies.{copy_behind, live_behind, save_behind, CopiedBare, ReplacedBare}
use Rattle.life_cover.proofs.KnownFrames.{IsKnownFrame, IsRight, number_free, object_uncounted, reach_at, used_right, typed, store_of}
use Rattle.life_cover.proofs.Leaving.{advances_leave, aims_leave, cursors_leave, cuts_leave, elements_leave, repoints_leave}
use Rattle.life_cover.proofs.Looks.{given_type}
use Rattle.life_cover.proofs.Pointers.{OnRight, right_weaker}
use Rattle.life_cover.proofs.PushedObjects.{object_pushed}
use Rattle.life_cover.proofs.Reaching.{IsReached, Reach}
use Rattle.life_cover.proofs.Behind.{HasPlaceOf, IsBehind, behind_input, behind_number, behind_self, right_next, any_local, no_local, behind_more, TellsLost, both_next, tells_none, no_location, any_location}
use Rattle.life_cover.proofs.MakeKinds.{IsMade}
use Rattle.life_cover.proofs.MakeSteps.{IsMadeBy, make_right, unique_of}
use Rattle.life_cover.proofs.MoveSteps.{OfLocals, OfPlaces, OfUniques, by_move}
use Rattle.life_cover.proofs.Lacking.{owner_whole, variable_here}
use Rattle.life_cover.proofs.Putting.{other_local, member_other}
use Rattle.life_cover.proofs.StillLacking.{StillLacks, still_lacking, loose_still, moved_on}
use Rattle.life_cover.proofs.MovedFacts.{both_false}
use Rattle.life_cover.proofs.MoveKinds.{MovedPlaces, move_kind}
use Rattle.life_cover.proofs.BufferMoveKinds.{MovedBare, buffer_move_kind}
use Rattle.life_cover.proofs.PlacedMoveKinds.{GivenBare, placed_move_kind}
use Rattle.life_cover.proofs.Listing.{variable_listed}
use Rattle.life_cover.proofs.Left.{caused_known}
use Rattle.life_cover.proofs.Buffering.{but_more}
use Rattle.life_proper.proofs.HeldSorts.{same_is}
use Rattle.life_rules.specs.Carrying.{is_named, writes, whole_facts}
use Rattle.life_rules.specs.Matching.{fact_at, is_rooted_among}
use Rattle.life_rules.proofs.Giving.{at_head, in_tail}
use Rattle.life_pset.proofs.Numbers.{is_of_iff}
use Rattle.life_store.proofs.MapLemmas.{one_or_apart}
use Rattle.life_cover.proofs.PointedBehind.{pointed_behind}
use Rattle.life_cover.proofs.GivenBuffers.{buffer_solid}
use Rattle.life_cover.proofs.UniquePlaces.{buffer_no_unique, other_place, other_whole, outside_copied, pointer_no_unique}
use Rattle.life_cover.proofs.Unkept.{members_root}
use Rattle.life_forest.proofs.Steps.{touches_self}
use Rattle.life_forest.specs.Kinds.{kinds_of}

not_true : (b : Bool) → (b ≡ true → ⊥) → b ≡ false
not_true true h = absurd (h refl)
not_true false h = refl

both_right : (e : Effect) (P Q : State → Type 0) → OnRight e P → OnNext e Q → OnRight e (λ st. P st × Q st)
both_right (Next st) P Q h k = (h, k)
both_right (Traps kind) P Q h k = tt
both_right (Faults kind) P Q h k = h
both_right Strays P Q h k = tt

module _ (types : Types) (f : Function) (rest : ℕ → ℕ) (inputs : Root → Option Region) (S : Fact → Type 0) (st : State) (k : IsKnownFrame types f rest inputs S st) (sigs : List Signature) (n : ℕ) (place : Place) (S' : Fact → Type 0) (texts : ℕ) (fs : List Function) (s : Setting) where
  -- the buffers are there but in what may be bare then, and what is touched lies beneath what the frame names
  abbrev pub IsKept : State → Type 0
  IsKept after = AreBut types (MayLack types f inputs S' after) after.world.content × IsBehind types f inputs any_local any_local any_location st after × UniquesTold types f S' after

  -- what is known behind it beside pointers
  abbrev Held : (bare over : ℕ → Type 0) (lost : Location → Type 0) → State → Type 0
  Held bare over lost after = IsBehind types f inputs bare over lost st after × TellsLost types f S' lost after

  -- what a change gives over
  abbrev Gives : Step → ℕ → Type 0
  Gives i y = Contains (given_step i) y

  abbrev Behind : Step → Type 0
  Behind i = OnNext (does s types f i st) (IsBehind types f inputs (MayLack types f inputs S st) (Gives i) no_location st)

  abbrev Right : Step → Type 0
  Right i = IsRight sigs types n f place i S S'

  -- ---- changes

  -- more may be given over
  more_given : (e : Effect) (over more : ℕ → Type 0) → ((y : ℕ) → over y → more y) → OnNext e (IsBehind types f inputs (MayLack types f inputs S st) over no_location st) → OnNext e (IsBehind types f inputs (MayLack types f inputs S st) more no_location st)
  more_given (Next after) over more gives h = behind_more types f inputs (MayLack types f inputs S st) over no_location (MayLack types f inputs S st) more no_location st after (λ n b. b) gives (λ y l. l) h
  more_given (Traps kind) over more gives h = tt
  more_given (Faults kind) over more gives h = tt
  more_given Strays over more gives h = tt

  no_more : (e : Effect) (more : ℕ → Type 0) → OnNext e (IsBehind types f inputs (MayLack types f inputs S st) no_local no_location st) → OnNext e (IsBehind types f inputs (MayLack types f inputs S st) more no_location st)
  no_more e more = more_given e no_local more (λ y none. absurd none)

  module _ (o : Operand) (free : is_const_place types f o ≡ false) (c : Change) (right : Right (Changes o c)) where
    reached_whole : is_void (type_of types f o) ≡ false → (r : IsReached types f st (StandsAt inputs) (may_change types f) S o) → MayLack types f inputs S st r.region.object → ⊥
    reached_whole solid r = owner_whole types f rest inputs S st k o r solid sigs n place (Changes o c) S' right (at_head o [])

    own_vector : (element : TyId) → type_of types f o ≡ ty.Vector element → (r : IsReached types f st (StandsAt inputs) (may_change types f) S o) → owning types f r.place.root ≡ true
    own_vector element is r = change_owning types f rest inputs S st k sigs n place S' o free right r (vector_opened types f rest inputs S st k o r (reached_whole (ap is_void is) r) element is).type

    own_text : type_of types f o ≡ ty.Text → (r : IsReached types f st (StandsAt inputs) (may_change types f) S o) → owning types f r.place.root ≡ true
    own_text is r = change_owning types f rest inputs S st k sigs n place S' o free right r (text_opened types f rest inputs S st k o r (reached_whole (ap is_void is) r) is).type

    reach_owner : is_void (type_of types f o) ≡ false → Reach types f st (StandsAt inputs) (may_change types f) S o
    reach_owner solid = reach_at types f rest inputs S st k right.closed.of o solid (λ q h. used_right sigs types n f place (Changes o c) S right.clean q h)

    -- no object is pushed
    abbrev IsPlain : TyId → Change → Type 0
    IsPlain element (PushBack x) = is_value (ty_of types element) ≡ true
    IsPlain element d = Unit {0}

    kept_change : (element : TyId) (d : Change) → IsPlain element d → is_change_of types texts fs f (ty.Vector element) d ≡ true → (r : IsReached types f st (StandsAt inputs) (may_change types f) S o) (is : type_of types f o ≡ ty.Vector element)
        → IsKeptChange types f rest inputs S st k o r s (own_vector element is r) (reached_whole (ap is_void is) r) element is d
    kept_change element (PushBack x) value e r is = (
      value_parts types k.ordered element (ty_of types element) (type_there types element (ty_of types element) refl (value_solid (ty_of types element) value)) value,
      λ m there. number_free types f rest inputs S st k x (number_any types f (ty_of types element) x (subst (λ b. (if b then is_number_of types f (ty_of types element) x else is_given types f (ty_of types element) x) ≡ true) value e)) m there,
    )
    kept_change element (Erase at into) spoken e r is =
        let walk = (and_parts (walks types (type_in types f at) (ty_of types element)) (walks types (type_in types f into) (ty_of types element)) e).1 in
        (walks_seen types k.ordered k.once (type_in types f into) (ty_of types element) walk).pointer
    kept_change element PopBack spoken e r is = tt
    kept_change element Clear spoken e r is = tt
    kept_change element (Reserve q) spoken e r is = tt
    kept_change element (Set given) spoken e r is = tt
    kept_change element (Append given) spoken e r is = tt

    pushed_free : (x : ℕ) → is_change_of types texts fs f ty.Text (PushBack x) ≡ true → (m : ℕ) → cell st x ≡ Some (Named m) → ⊥
    pushed_free x e m there = number_free types f rest inputs S st k x (number_any types f ty.Char x e) m there

    -- what a change does with the owner, where it is reached
    by_owner : is_void (type_of types f o) ≡ false → (IsReached types f st (StandsAt inputs) (may_change types f) S o → Behind (Changes o c)) → Behind (Changes o c)
    by_owner solid each = by_next types f inputs S st o (reach_owner solid) (λ spot. changed s types f (operand_parts types f o) spot c st) (IsBehind types f inputs (MayLack types f inputs S st) (Gives (Changes o c)) no_location st) each

    plain_changed : (element : TyId) → type_of types f o ≡ ty.Vector element → (d : Change) → c ≡ d → IsPlain element d → is_change_of types texts fs f (ty.Vector element) d ≡ true → Behind (Changes o c)
    plain_changed element is d one plain e =
        by_owner (ap is_void is) (λ r. subst (λ (x : Change). Behind (Changes o x)) (sym one) (no_more (does s types f (Changes o d) st) (Gives (Changes o d)) (vector_behind types f rest inputs S st k o r s (own_vector element is r) (reached_whole (ap is_void is) r) element is d (kept_change element d plain e r is))))

    object_changed : (element : TyId) → type_of types f o ≡ ty.Vector element → (x : ℕ) → c ≡ PushBack x → is_given types f (ty_of types element) x ≡ true → Behind (Changes o c)
    object_changed element is x one e =
        by_owner (ap is_void is) (λ r. subst (λ (d : Change). Behind (Changes o d)) (sym one) (by_cell r (cell st x) refl))
      where
        outer : (object_at types f x ≡ true) × ((not (result_at types f x) && (not (slot_at types f x) && same (ty_of types element) (type_at types f x))) ≡ true)
        outer = and_parts (object_at types f x) _ e

        typed : local_type types f x ≡ Some element
        typed = given_type types k.ordered k.once f k.shaped x element (and_parts (not (slot_at types f x)) _ (and_parts (not (result_at types f x)) _ outer.1).1).1

        nothing : (r : IsReached types f st (StandsAt inputs) (may_change types f) S o) (v : Option Cell) → cell st x ≡ v → ((spot : Spot) → OnNext (pushes s types f (Vector element (parts_at types element)) spot x v st) (IsBehind types f inputs (MayLack types f inputs S st) (Gives (Changes o (PushBack x))) no_location st)) → Behind (Changes o (PushBack x))
        nothing r v there none =
            by_change types f rest inputs S st k o r s (Gives (Changes o (PushBack x))) (Vector element (parts_at types element)) (vector_operand types f rest inputs S st k o r element is) (PushBack x)
            (subst (λ (w : Option Cell). OnNext (pushes s types f (Vector element (parts_at types element)) (record { object = r.region.object; index = r.index; word = r.region.word }) x w st) (IsBehind types f inputs (MayLack types f inputs S st) (Gives (Changes o (PushBack x))) no_location st)) (sym there)
            (none (record { object = r.region.object; index = r.index; word = r.region.word })))

        by_cell : (r : IsReached types f st (StandsAt inputs) (may_change types f) S o) (v : Option Cell) → cell st x ≡ v → Behind (Changes o (PushBack x))
        by_cell r (Some (Named m)) there =
            more_given (does s types f (Changes o (PushBack x)) st) (λ y. x ≡ y) (Gives (Changes o (PushBack x))) (λ y same. subst (Contains (x ∷ [])) same (at_head x []))
            (object_pushed types f rest inputs S st k s o element is x m there typed (push_right.unmoved x) r (reached_whole (ap is_void is) r) (own_vector element is r))
          where
            push_right : Right (Changes o (PushBack x))
            push_right = subst (λ (d : Change). Right (Changes o d)) one right
        by_cell r (Some (Number z)) there = absurd (object_uncounted types f rest inputs S st k x z outer.0 there)
        by_cell r None there = nothing r None there (λ spot. tt)
        by_cell r (Some Empty) there = nothing r (Some Empty) there (λ spot. tt)
        by_cell r (Some (Points p)) there = nothing r (Some (Points p)) there (λ spot. tt)

    push_changed : (element : TyId) → type_of types f o ≡ ty.Vector element → (x : ℕ) → c ≡ PushBack x → (value : Bool) → is_value (ty_of types element) ≡ value
        → (if value then is_number_of types f (ty_of types element) x else is_given types f (ty_of types element) x) ≡ true → Behind (Changes o c)
    push_changed element is x one true value e = plain_changed element is (PushBack x) one value (subst (λ b. (if b then is_number_of types f (ty_of types element) x else is_given types f (ty_of types element) x) ≡ true) (sym value) e)
    push_changed element is x one false value e = object_changed element is x one e

    in_vector : (element : TyId) → type_of types f o ≡ ty.Vector element → (d : Change) → c ≡ d → is_change_of types texts fs f (ty.Vector element) d ≡ true → Behind (Changes o c)
    in_vector element is (PushBack x) one e = push_changed element is x one (is_value (ty_of types element)) refl e
    in_vector element is PopBack one e = plain_changed element is PopBack one tt e
    in_vector element is Clear one e = plain_changed element is Clear one tt e
    in_vector element is (Reserve q) one e = plain_changed element is (Reserve q) one tt e
    in_vector element is (Erase at into) one e = plain_changed element is (Erase at into) one tt e
    in_vector element is (Set given) one e = absurd (false≢true e)
    in_vector element is (Append given) one e = absurd (false≢true e)

    change_behind : (t : Ty) → type_of types f o ≡ t → is_change_of types texts fs f t c ≡ true → Behind (Changes o c)
    change_behind ty.Text is e =
        by_owner (ap is_void is) (λ r. no_more (does s types f (Changes o c) st) (Gives (Changes o c)) (text_behind types f rest inputs S st k o r s (own_text is r) (reached_whole (ap is_void is) r) is c (λ x push. pushed_free x (subst (λ (d : Change). is_change_of types texts fs f ty.Text d ≡ true) push e))))
    change_behind (ty.Vector element) is e = in_vector element is c refl e
    change_behind _ is e = absurd (false≢true e)

  -- ---- what may be bare behind an instruction

  module _ (i : Step) (right : Right i) (bare over : ℕ → Type 0) (lost : Location → Type 0) where
    abbrev Still : ℕ → Type 0
    Still = StillLacks types f rest inputs S st sigs n place S' i right bare over

    kept_by : ((m : ℕ) → bare m → Still m) → ((l : Location) (j : ℕ) → slice_get st.cells l.local ≡ Some (Named j) → is_unique (type_in types f l) ≡ true → lost l ⊎ (writes i (located l) ≡ false)) → OnNext (does s types f i st) (Held bare over lost) → OnNext (does s types f i st) IsKept
    kept_by each free = go (does s types f i st)
      where
        told : (after : State) → Held bare over lost after → UniquesTold types f S' after
        told after h l j named unique =
            ⊎_elim (λ gone. h.1 l j gone named unique)
            (λ same. ⊎_elim (λ gone. h.1 l j gone named unique)
            (λ unwritten. subst (IsOwnerTold S' (located l) true) (sym same.1) (unique_told sigs types f place i S S' right.closed (located l) (had_at st.world.content j (word_in types f l)) unwritten (k.told l j same.0 unique)))
            (free l j same.0 unique))
            (h.0.had l j named unique)

        go : (e : Effect) → OnNext e (Held bare over lost) → OnNext e IsKept
        go (Next after) h = (
          still_lacking types f rest inputs S st sigs n place S' i right bare over lost after h.0 each,
          behind_more types f inputs bare over lost any_local any_local any_location st after (λ m b. tt) (λ y o. tt) (λ y l. tt) h.0,
          told after h,
        )
        go (Traps kind) h = tt
        go (Faults kind) h = tt
        go Strays h = tt

  -- of no unique_ptr sight is lost
  none_lost : (bare over : ℕ → Type 0) (e : Effect) → OnNext e (IsBehind types f inputs bare over no_location st) → OnNext e (Held bare over no_location)
  none_lost bare over (Next after) h = (h, tells_none types f S' after)
  none_lost bare over (Traps kind) h = tt
  none_lost bare over (Faults kind) h = tt
  none_lost bare over Strays h = tt

  -- no vector and no string that is a local is written, and no unique_ptr
  abbrev SparesBuffers : Step → Type 0
  SparesBuffers i = (y : ℕ) → has_buffer (type_at types f y) ≡ true → writes i (local_place y) ≡ false

  abbrev SparesUniques : Step → Type 0
  SparesUniques i = (l : Location) (j : ℕ) → slice_get st.cells l.local ≡ Some (Named j) → is_unique (type_in types f l) ≡ true → writes i (located l) ≡ false

  -- where no vector and no string is written, and what is given over wasn't moved from
  lost_kept : (i : Step) (right : Right i) (over : ℕ → Type 0) (lost : Location → Type 0) → ((y : ℕ) → over y → Gives i y) → SparesBuffers i
      → ((l : Location) (j : ℕ) → slice_get st.cells l.local ≡ Some (Named j) → is_unique (type_in types f l) ≡ true → lost l ⊎ (writes i (located l) ≡ false))
      → OnNext (does s types f i st) (Held (MayLack types f inputs S st) over lost) → OnNext (does s types f i st) IsKept
  lost_kept i right over lost gives free free_unique =
      kept_by i right (MayLack types f inputs S st) over lost
      (λ m lacks. record { lacks = lacks; kept = λ moved o. right.unmoved moved.local moved.owner (gives moved.local o) moved.cause moved.holds; unwritten = λ moved. free moved.local moved.owner }) free_unique

  -- .. and no unique_ptr either
  plain_kept : (i : Step) (right : Right i) (over : ℕ → Type 0) → ((y : ℕ) → over y → Gives i y) → SparesBuffers i → SparesUniques i → OnNext (does s types f i st) (IsBehind types f inputs (MayLack types f inputs S st) over no_location st)
      → OnNext (does s types f i st) IsKept
  plain_kept i right over gives buffers uniques h = lost_kept i right over no_location gives buffers (λ l j named unique. inr (uniques l j named unique)) (none_lost (MayLack types f inputs S st) over (does s types f i st) h)

  -- a pointer is no vector and no string
  pointer_apart : (x y : ℕ) → is_pointer (type_at types f x) ≡ true → has_buffer (type_at types f y) ≡ true → x ≢ y
  pointer_apart x y pointer buffer same = no_buffer (type_at types f x) pointer (subst (λ z. has_buffer (type_at types f z) ≡ true) (sym same) buffer)
    where
      no_buffer : (t : Ty) → is_pointer t ≡ true → has_buffer t ≡ true → ⊥
      no_buffer ty.Text p b = false≢true p
      no_buffer (ty.Vector element) p b = false≢true p
      no_buffer _ p b = false≢true b

  -- no pointer's place is that of one of them
  location_other : (p : Location) → is_pointer (type_in types f p) ≡ true → (y : ℕ) → has_buffer (type_at types f y) ≡ true → is_location p (local_place y) ≡ false
  location_other p is y buffer = go p.members refl
    where
      go : (ms : List ℕ) → p.members ≡ ms → is_location p (local_place y) ≡ false
      go [] none =
          subst (λ (ms : List ℕ). is_location (record { local = p.local; members = ms }) (local_place y) ≡ false) (sym none)
          (other_local p.local y (pointer_apart p.local y (subst (λ (ms : List ℕ). is_pointer (type_in types f (record { local = p.local; members = ms })) ≡ true) none is) buffer))
      go (m ∷ ms) some = member_other p m ms some y

  -- nor that of a unique_ptr
  unique_other : (p : Location) → is_pointer (type_in types f p) ≡ true → (l : Location) (j : ℕ) → slice_get st.cells l.local ≡ Some (Named j) → is_unique (type_in types f l) ≡ true → is_location p (located l) ≡ false
  unique_other p is l j named unique = other_place types f rest inputs S st k l j named unique p (pointer_no_unique (type_in types f p) is)

  -- ---- a pointer is given a value

  abbrev Kept : Step → Type 0
  Kept i = Right i → OnNext (does s types f i st) IsKept

  pointer_kept : (p : Location) → is_pointer (type_in types f p) ≡ true → (i : Step) → ((a : AbsPlace) → writes i a ≡ is_location p a)
      → (((v : Pointer) → OnNext (pointed types f p v st) (IsBehind types f inputs (MayLack types f inputs S st) no_local no_location st)) → OnNext (does s types f i st) (IsBehind types f inputs (MayLack types f inputs S st) no_local no_location st)) → Kept i
  pointer_kept p is i written gives right =
      plain_kept i right no_local (λ y none. absurd none) (λ y buffer. written (local_place y) ∙ location_other p is y buffer) (λ l j named unique. written (located l) ∙ unique_other p is l j named unique)
      (gives (λ v. pointed_behind types f rest inputs S st k (MayLack types f inputs S st) st.world.content k.buffered (touches_self (kinds_of types) (frame_foot types f inputs st.cells) st.world.content) (store_of types f rest inputs S st k) (λ x m e. k.stands.frame.objects x m e)
      (λ l m e unique. inr refl) p is v))

  -- .. or a number
  counted : (r : ℕ) → is_number types f r ≡ true → (i : Step) → ((a : AbsPlace) → writes i a ≡ false)
      → (((z : ℤ) → IsBehind types f inputs (MayLack types f inputs S st) no_local no_location st (put_cell r (Number z) st)) → OnNext (does s types f i st) (IsBehind types f inputs (MayLack types f inputs S st) no_local no_location st)) → Kept i
  counted r is i written gives right =
      plain_kept i right no_local (λ y none. absurd none) (λ y buffer. written (local_place y)) (λ l j named unique. written (located l)) (gives (behind_number types f inputs (MayLack types f inputs S st) no_local no_location st k.buffered r (number_free types f rest inputs S st k r is)))

  -- a local comes to life that named nothing
  born_kept : (x : ℕ) (form : Form) (right : Right (Live x form)) → is_well_formed_step types texts fs f (Live x form) ≡ true → slot_at types f x ≡ false → OnNext (does s types f (Live x form) st) IsKept
  born_kept x form right can free =
      kept_by (Live x form) right (ReplacedBare types f rest inputs S st x) no_local (λ (l : Location). x ≡ l.local)
      (λ m b. record {
        lacks = b.0;
        kept = λ moved none. none;
        unwritten = λ moved. apart x moved.local (λ same. b.1 (subst (λ y. slice_get st.cells y ≡ Some (Named m)) (sym same) moved.names));
      })
      (λ l j named unique. one_or_apart x l.local (λ same. inl same) (λ ne. inr (ap (is_root x) (members_root l.members (local_place l.local)) ∙ ne_eqb x l.local ne)))
      (both_next (does s types f (Live x form) st) (IsBehind types f inputs (ReplacedBare types f rest inputs S st x) no_local (λ (l : Location). x ≡ l.local) st) (TellsLost types f S' (λ (l : Location). x ≡ l.local))
      (Held (ReplacedBare types f rest inputs S st x) no_local (λ (l : Location). x ≡ l.local))
      (live_behind types f rest inputs S st k s x form) (live_tells types f rest inputs S st k sigs n place S' s x form right can free) (λ after h t. (h, t)))
    where
      apart : (a y : ℕ) → a ≢ y → is_rooted a (local_place y) ≡ false
      apart a y ne = ne_eqb a y ne

  -- what ended is bare no more
  ended_kept : (xs : List ℕ) (right : Right (End xs)) → OnNext (does s types f (End xs) st) IsKept
  ended_kept xs right =
      kept_by (End xs) right (LeftBare (MayLack types f inputs S st) xs st) (IsAmong xs) (λ l. IsAmong xs l.local)
      (λ m b. record { lacks = b.0; kept = λ moved among. b.1 moved.local among moved.names; unwritten = λ moved. not_true (list_any (λ z. nat_eq z moved.local) xs) (λ among. b.1 moved.local among moved.names) })
      (λ l j named unique. by l (list_any (λ z. nat_eq z l.local) xs) refl)
      (both_next (does s types f (End xs) st) (IsBehind types f inputs (LeftBare (MayLack types f inputs S st) xs st) (IsAmong xs) (λ l. IsAmong xs l.local) st) (TellsLost types f S' (λ l. IsAmong xs l.local))
      (Held (LeftBare (MayLack types f inputs S st) xs st) (IsAmong xs) (λ l. IsAmong xs l.local))
      (ended_lost (end_locals types f xs st) (ends_behind types f rest inputs S st k s xs)) (ends_tell types f rest inputs S st k s xs S') (λ after h t. (h, t)))
    where
      by : (l : Location) (b : Bool) → list_any (λ z. nat_eq z l.local) xs ≡ b → IsAmong xs l.local ⊎ (is_rooted_among xs (located l) ≡ false)
      by l true e = inl e
      by l false e = inr (ap (λ (ro : Root). list_any (λ z. is_root z ro) xs) (members_root l.members (local_place l.local)) ∙ e)

      ended_lost : (e : Effect) → OnNext e (IsBehind types f inputs (LeftBare (MayLack types f inputs S st) xs st) (IsAmong xs) no_location st) → OnNext e (IsBehind types f inputs (LeftBare (MayLack types f inputs S st) xs st) (IsAmong xs) (λ l. IsAmong xs l.local) st)
      ended_lost (Next after) h = behind_more types f inputs (LeftBare (MayLack types f inputs S st) xs st) (IsAmong xs) no_location (LeftBare (MayLack types f inputs S st) xs st) (IsAmong xs) (λ l. IsAmong xs l.local) st after (λ m b. b) (λ y o. o) (λ l none. absurd none) h
      ended_lost (Traps kind) h = tt
      ended_lost (Faults kind) h = tt
      ended_lost Strays h = tt

  copied_kept : (to from : Operand) (right : Right (Copy to from)) → is_well_formed_step types texts fs f (Copy to from) ≡ true → OnNext (does s types f (Copy to from) st) IsKept
  copied_kept to from right e =
      let first = and_parts (same (type_of types f to) (type_of types f from)) _ e in
      let unique = (and_parts (not (holds_unique (tree_if types (operand_type types f to)))) _ (and_parts (not (is_pointer (type_of types f to))) _ first.1).1).0 in
      let solid = same_solid (type_of types f to) (type_of types f from) first.0 in
      kept_by (Copy to from) right (CopiedBare types f rest inputs S st k to s to) no_local no_location (λ m b. still to from right solid m b) (λ l j named is. inr (apart to from solid unique l j named is))
      (none_lost (CopiedBare types f rest inputs S st k to s to) no_local (does s types f (Copy to from) st) (copy_behind types f rest inputs S st k sigs n place S' s to from (not_false (is_const_place types f to) (and_parts (not (holds_unique (tree_if types (operand_type types f to)))) (not (is_const_place types f to)) (and_parts (not (is_pointer (type_of types f to))) _ first.1).1).1) right solid (ap is_void (sym (same_is (type_of types f to) (type_of types f from) first.0)) ∙ solid) (same_is (type_of types f to) (type_of types f from) first.0) unique))
    where
      -- no unique_ptr is copied
      apart : (q from : Operand) → is_void (type_of types f q) ≡ false → not (holds_unique (tree_if types (operand_type types f q))) ≡ true → (l : Location) (j : ℕ) → slice_get st.cells l.local ≡ Some (Named j) → is_unique (type_in types f l) ≡ true → writes (Copy q from) (located l) ≡ false
      apart (named.Through p members) from solid free l j at_l is = refl
      apart (named.Name p) from solid free l j at_l is =
          let of = operand_of types k.ordered k.once 0 [] f k.shaped (named.Name p) (type_of types f (named.Name p)) refl solid in
          outside_copied types f rest inputs S st k l j at_l is p of.number of.is free

      still : (q from : Operand) (right : Right (Copy q from)) → is_void (type_of types f q) ≡ false → (m : ℕ) → CopiedBare types f rest inputs S st k to s q m → StillLacks types f rest inputs S st sigs n place S' (Copy q from) right (CopiedBare types f rest inputs S st k to s q) no_local m
      still (named.Through p members) from right solid m b = record { lacks = b; kept = λ moved none. none; unwritten = λ moved. refl }
      still (named.Name l) from right solid m b = record {
        lacks = b.0;
        kept = λ moved none. none;
        unwritten = λ moved. outside_local l moved.local (λ h. b.1 (subst (λ y. slice_get st.cells y ≡ Some (Named m)) (sym h) moved.names));
      }

  -- only a pointer is given a position
  erased_spares : (o : Operand) (c : Change) (t : Ty) → is_change_of types texts fs f t c ≡ true → (a : AbsPlace) → ((p : Location) → is_pointer (type_in types f p) ≡ true → is_location p a ≡ false) → writes (Changes o c) a ≡ false
  erased_spares o (Erase at into) (ty.Vector element) e a other =
      let walk = (and_parts (walks types (type_in types f at) (ty_of types element)) (walks types (type_in types f into) (ty_of types element)) e).1 in
      other into (walks_seen types k.ordered k.once (type_in types f into) (ty_of types element) walk).pointer
  erased_spares o (Erase at into) ty.Text e a other = absurd (false≢true e)
  erased_spares o (Erase at into) _ e a other = absurd (false≢true e)
  erased_spares o (PushBack x) t e a other = refl
  erased_spares o PopBack t e a other = refl
  erased_spares o Clear t e a other = refl
  erased_spares o (Reserve q) t e a other = refl
  erased_spares o (Set given) t e a other = refl
  erased_spares o (Append given) t e a other = refl

  made_apart : (u : Location) (m : Made) → is_well_formed_step types texts fs f (Make u m) ≡ true → SparesBuffers (Make u m)
  made_apart u m e y buffer = other_whole types f u y (unique_of types texts fs f (type_in types f u) m e) (buffer_no_unique (type_at types f y) buffer)

  -- a unique_ptr is moved
  unique_kept : (y : ℕ) → OfUniques types f rest inputs S st k sigs n place S' texts fs y (λ q. OnNext (does s types f (Move q y) st) IsKept)
  unique_kept y to now unique alike other =
      lost_kept (Move (named.Name to) y) now no_local (MovedPlaces to y) (λ z none. absurd none)
      (λ z buffer.
      let none = buffer_no_unique (type_at types f z) buffer in
      both_false (is_location (whole y) (local_place z)) (is_location to (local_place z)) (other_whole types f (whole y) z (ap is_unique (sym alike) ∙ unique) none) (other_whole types f to z unique none))
      (λ l j named is. go l (is_location to (located l)) refl (is_location (whole y) (located l)) refl)
      (right_next (does s types f (Move (named.Name to) y) st) (Held (MayLack types f inputs S st) no_local (MovedPlaces to y))
      (right_weaker (does s types f (Move (named.Name to) y) st) (IsMade types f inputs S' (MayLack types f inputs S st) no_local (MovedPlaces to y) st) (Held (MayLack types f inputs S st) no_local (MovedPlaces to y)) (move_kind types f rest inputs S st k sigs n place S' s to y now unique alike other) (λ after h. (h.1, h.2))))
    where
      go : (l : Location) (a : Bool) → is_location to (located l) ≡ a → (b : Bool) → is_location (whole y) (located l) ≡ b → MovedPlaces to y l ⊎ ((is_location (whole y) (located l) || is_location to (located l)) ≡ false)
      go l true e b h = inl (inl e)
      go l false e true h = inl (inr h)
      go l false e false h = inr (both_false (is_location (whole y) (located l)) (is_location to (located l)) h e)

  -- .. a vector or a string: a fact says so then
  module _ (to : Operand) (y : ℕ) (now : Right (Move to y)) (owner_y : has_buffer (type_at types f y) ≡ true) where
    told : (j : ℕ) → slice_get st.cells y ≡ Some (Named j) → S' (fact_at (local_place y) (element.Moved (moved place y)))
    told j names =
        now.closed.none (fact_at (local_place y) (element.Moved (moved place y)))
        ((is_of_iff types f (fact_at (local_place y) (element.Moved (moved place y)))).1 (
          variable_listed types k.ordered f y (variable_here types f rest inputs S st k y j names owner_y),
          caused_known types f (element.Moved (moved place y)) (now.closed.causes (element.Moved (moved place y)) (in_tail (element.Invalid (moved place y)) (element.Moved (moved place y) ∷ element.Invalid (changed_in place to) ∷ []) (element.Moved (moved place y)) (at_head (element.Moved (moved place y)) (element.Invalid (changed_in place to) ∷ [])))),
        ))
        (at_head (fact_at (local_place y) (element.Moved (moved place y))) (whole_facts types f to))

    -- what may be bare, but for what is written, and what is moved; no unique_ptr is written
    module _ (bare : ℕ → Type 0) (free : SparesUniques (Move to y)) (lacks : (j : ℕ) → bare j → (MayLack types f inputs S st j × ((m : IsMovedFrom types f S st.cells j) → m.local ≢ y → writes (Move to y) (local_place m.local) ≡ false)) ⊎ (slice_get st.cells y ≡ Some (Named j))) where
      now_lacks : (after : State) → IsBehind types f inputs bare no_local no_location st after → (j : ℕ) → slice_get st.cells y ≡ Some (Named j) → MayLack types f inputs S' after j
      now_lacks after h j names = ⊎_elim (λ none. absurd none) (λ still. inl (record { local = y; names = still; owner = owner_y; cause = moved place y; holds = told j names })) (h.kept y j names)

      still_lacks : (after : State) → IsBehind types f inputs bare no_local no_location st after → (j : ℕ) → bare j → MayLack types f inputs S' after j
      still_lacks after h j is = ⊎_elim (λ was. go was.0 was.1) (λ names. now_lacks after h j names) (lacks j is)
        where
          go : MayLack types f inputs S st j → ((m : IsMovedFrom types f S st.cells j) → m.local ≢ y → writes (Move to y) (local_place m.local) ≡ false) → MayLack types f inputs S' after j
          go (inr loose) unwritten = loose_still types f rest inputs S st sigs n place S' (Move to y) now bare no_local no_location after h j loose
          go (inl m) unwritten = one_or_apart m.local y
              (λ same. now_lacks after h j (subst (λ z. slice_get st.cells z ≡ Some (Named j)) same m.names))
              (λ ne. moved_on types f rest inputs S st sigs n place S' (Move to y) now bare no_local no_location after h j m (λ none. none) (unwritten m ne))

      moved_kept : OnNext (does s types f (Move to y) st) (IsBehind types f inputs bare no_local no_location st) → OnNext (does s types f (Move to y) st) IsKept
      moved_kept = go (does s types f (Move to y) st)
        where
          go : (e : Effect) → OnNext e (IsBehind types f inputs bare no_local no_location st) → OnNext e IsKept
          go (Next after) h = (
            but_more types bare (MayLack types f inputs S' after) after.world.content (still_lacks after h) h.buffered,
            behind_more types f inputs bare no_local no_location any_local any_local any_location st after (λ m b. tt) (λ z o. tt) (λ l gone. tt) h,
            λ l j named unique. ⊎_elim (λ none. absurd none)
                (λ same. subst (IsOwnerTold S' (located l) true) (sym same.1) (unique_told sigs types f place (Move to y) S S' now.closed (located l) (had_at st.world.content j (word_in types f l)) (free l j same.0 unique) (k.told l j same.0 unique)))
                (h.had l j named unique),
          )
          go (Traps kind) h = tt
          go (Faults kind) h = tt
          go Strays h = tt

  buffer_kept : (y : ℕ) → OfLocals types f rest inputs S st k sigs n place S' texts fs y (λ q. OnNext (does s types f (Move q y) st) IsKept)
  buffer_kept y x now buffer alike other =
      moved_kept (named.Name (whole x)) y now (subst (λ (t : Ty). has_buffer t ≡ true) alike buffer) (MovedBare types f rest inputs S st k x y) apart lacks
      (right_next (does s types f (Move (named.Name (whole x)) y) st) (IsBehind types f inputs (MovedBare types f rest inputs S st k x y) no_local no_location st)
      (right_weaker (does s types f (Move (named.Name (whole x)) y) st) (IsMade types f inputs S' (MovedBare types f rest inputs S st k x y) no_local no_location st) (IsBehind types f inputs (MovedBare types f rest inputs S st k x y) no_local no_location st) (buffer_move_kind types f rest inputs S st k sigs n place S' s x y now buffer alike other)
      (λ after h. h.1)))
    where
      apart : SparesUniques (Move (named.Name (whole x)) y)
      apart l j named is =
          let none = buffer_no_unique (type_at types f x) buffer in
          both_false (is_location (whole y) (located l)) (is_location (whole x) (located l)) (other_place types f rest inputs S st k l j named is (whole y) (ap is_unique (sym alike) ∙ none)) (other_place types f rest inputs S st k l j named is (whole x) none)

      lacks : (j : ℕ) → MovedBare types f rest inputs S st k x y j
          → (MayLack types f inputs S st j × ((m : IsMovedFrom types f S st.cells j) → m.local ≢ y → writes (Move (named.Name (whole x)) y) (local_place m.local) ≡ false)) ⊎ (slice_get st.cells y ≡ Some (Named j))
      lacks j (inr names) = inr names
      lacks j (inl was) = inl (
        was.0,
        λ m ne. both_false (is_location (whole y) (local_place m.local)) (is_location (whole x) (local_place m.local)) (other_local y m.local (λ e. ne (sym e))) (other_local x m.local (λ e. was.1 (subst (λ z. slice_get st.cells z ≡ Some (Named j)) (sym e) m.names))),
      )

  placed_kept : (y : ℕ) → OfPlaces types f rest inputs S st k sigs n place S' texts fs y (λ q. OnNext (does s types f (Move q y) st) IsKept)
  placed_kept y o beside now buffer alike free =
      moved_kept o y now buffer (GivenBare types f rest inputs S st k y) (λ l j named is. both_false (is_location (whole y) (located l)) (is_named o (located l)) (other_place types f rest inputs S st k l j named is (whole y) (buffer_no_unique (type_at types f y) buffer)) (unnamed o alike l j named is)) lacks
      (right_next (does s types f (Move o y) st) (IsBehind types f inputs (GivenBare types f rest inputs S st k y) no_local no_location st)
      (right_weaker (does s types f (Move o y) st) (IsMade types f inputs S' (GivenBare types f rest inputs S st k y) no_local no_location st) (IsBehind types f inputs (GivenBare types f rest inputs S st k y) no_local no_location st)
      (placed_move_kind types f rest inputs S st k sigs n place S' s o y beside now buffer alike free) (λ after h. h.1)))
    where
      unnamed : (q : Operand) → type_of types f q ≡ type_at types f y → (l : Location) (j : ℕ) → slice_get st.cells l.local ≡ Some (Named j) → is_unique (type_in types f l) ≡ true → is_named q (located l) ≡ false
      unnamed (named.Through p members) same l j at_l is = refl
      unnamed (named.Name p) same l j at_l is =
          other_place types f rest inputs S st k l j at_l is p
          (ap is_unique (typed types f rest inputs S st k (named.Name p) (ap is_void same ∙ buffer_solid types (type_at types f y) buffer) ∙ same) ∙ buffer_no_unique (type_at types f y) buffer)

      lacks : (j : ℕ) → GivenBare types f rest inputs S st k y j
          → (MayLack types f inputs S st j × ((m : IsMovedFrom types f S st.cells j) → m.local ≢ y → writes (Move o y) (local_place m.local) ≡ false)) ⊎ (slice_get st.cells y ≡ Some (Named j))
      lacks j (inr names) = inr names
      lacks j (inl was) = inl (was, λ m ne. beside.free m.local (λ e. ne (sym e)))

  made_kept : (u : Location) (m : Made) → (right : Right (Make u m)) → is_well_formed_step types texts fs f (Make u m) ≡ true → OnNext (does s types f (Make u m) st) IsKept
  made_kept u m right e =
      lost_kept (Make u m) right (Gives (Make u m)) (HasPlaceOf u) (λ y given. given) (made_apart u m e) (λ l j named is. go l (is_location u (located l)) refl)
      (right_next (does s types f (Make u m) st) (Held (MayLack types f inputs S st) (Gives (Make u m)) (HasPlaceOf u))
      (right_weaker (does s types f (Make u m) st) (IsMadeBy types f rest inputs S st k sigs n place S' texts fs s u m) (Held (MayLack types f inputs S st) (Gives (Make u m)) (HasPlaceOf u)) (make_right types f rest inputs S st k sigs n place S' texts fs s u m right e) (λ after h. (h.1, h.2))))
    where
      go : (l : Location) (b : Bool) → is_location u (located l) ≡ b → HasPlaceOf u l ⊎ (is_location u (located l) ≡ false)
      go l true h = inl h
      go l false h = inr h

  taken_number : (p : Port) (r : ℕ) → p ≡ Takes r → is_port types texts fs f p ≡ true → is_number types f r ≡ true
  taken_number (Takes q) r is e = subst (λ z. is_number types f z ≡ true) (same is) (number_any types f ty.Long q e)
    where
      same : {a b : ℕ} → Takes a ≡ Takes b → a ≡ b
      same h = cc
  taken_number (Writes q) r is e = absurd (unlike is)
    where
      unlike : Writes q ≡ Takes r → ⊥
      unlike h = cc
  taken_number (WritesView l) r is e = absurd (unlike is)
    where
      unlike : WritesView l ≡ Takes r → ⊥
      unlike h = cc

  -- ---- each instruction

  pub step_kept : (i : Step) → IsSpoken types f i → Right i → is_well_formed_step types texts fs f i ≡ true → IsSlotFree types f i → OnNext (does s types f i st) IsKept
  step_kept (Live x form) spoken right e free = born_kept x form right e free
  step_kept (End xs) spoken right e free = ended_kept xs right
  step_kept (Eval r o) spoken right e free = counted r (and_parts (is_number types f r) _ e).0 (Eval r o) (λ y. refl) (λ given. evaluated_gives types f st (IsBehind types f inputs (MayLack types f inputs S st) no_local no_location st) r given o) right
  step_kept (Load r o) spoken right e free =
      let value = (and_parts (is_value (type_of types f o)) (same (type_of types f o) (type_at types f r)) (and_parts (register_at types f r) (is_value (type_of types f o) && same (type_of types f o) (type_at types f r)) e).1).0 in
      counted r (number_any types f (type_of types f o) r e) (Load r o) (λ y. refl) (λ given. loaded_gives types f st (IsBehind types f inputs (MayLack types f inputs S st) no_local no_location st) r given s o) right
  step_kept (Save o r) spoken right e free =
      let number = (and_parts (is_number_of types f (type_of types f o) r) (not (is_const_place types f o)) e).0 in
      let value = (and_parts (is_value (type_of types f o)) (same (type_of types f o) (type_at types f r)) (and_parts (register_at types f r) (is_value (type_of types f o) && same (type_of types f o) (type_at types f r)) number).1).0 in
      plain_kept (Save o r) right no_local (λ y none. absurd none) (λ y buffer. refl) (λ l j named is. refl)
      (save_behind types f rest inputs S st k o s value (reach_at types f rest inputs S st k right.closed.of o (value_solid (type_of types f o) value) (λ q h. used_right sigs types n f place (Save o r) S right.clean q h)) r)
  step_kept (Copy to from) spoken right e free = copied_kept to from right e
  step_kept (Move to y) spoken right e free = by_move types f rest inputs S st k sigs n place S' texts fs y (λ q. OnNext (does s types f (Move q y) st) IsKept) (unique_kept y) (buffer_kept y) (placed_kept y) to right e
  step_kept (Aim p sr) spoken right e free =
      pointer_kept p (source_points types f rest inputs S st k sigs n place S' texts fs s (type_in types f p) sr e) (Aim p sr) (λ y. refl) (λ given. aims_leave types f st (IsBehind types f inputs (MayLack types f inputs S st) no_local no_location st) p given s sr) right
  step_kept (Repoint p q) spoken right e free =
      pointer_kept p (alike_points types (type_in types f p) (type_in types f q) (and_parts (are_alike types (type_in types f p) (type_in types f q)) _ e).0).0 (Repoint p q) (λ y. refl) (λ given. repoints_leave types f st (IsBehind types f inputs (MayLack types f inputs S st) no_local no_location st) p given q) right
  step_kept (step.Element p b w) spoken right e free =
      let both = and_parts (aims_at types (type_in types f p) (type_of_element types f b w)) (keeps_const (is_constant (type_in types f p)) (is_const_base types f b)) e in
      pointer_kept p (aims_seen types k.ordered k.once (type_in types f p) (type_of_element types f b w) both.0).pointer (step.Element p b w) (λ y. refl) (λ given. elements_leave types f st (IsBehind types f inputs (MayLack types f inputs S st) no_local no_location st) p given b w) right
  step_kept (Cursor p b end) spoken right e free =
      let both = and_parts (walks types (type_in types f p) (element_of types f b)) (keeps_const (is_constant (type_in types f p)) (is_const_base types f b)) e in
      pointer_kept p (walks_seen types k.ordered k.once (type_in types f p) (element_of types f b) both.0).pointer (Cursor p b end) (λ y. refl) (λ given. cursors_leave types f st (IsBehind types f inputs (MayLack types f inputs S st) no_local no_location st) p given b end) right
  step_kept (Advance p q r way) spoken right e free =
      pointer_kept p (iterator_points (type_in types f p) (and_parts (is_iterator (type_in types f p)) _ e).0) (Advance p q r way) (λ y. refl) (λ given. advances_leave types f st (IsBehind types f inputs (MayLack types f inputs S st) no_local no_location st) p given s q r way) right
  step_kept (Cut p q r count) spoken right e free =
      pointer_kept p (range_points (type_in types f p) (and_parts (is_range (type_in types f p)) _ e).0) (Cut p q r count) (λ y. refl) (λ given. cuts_leave types f st (IsBehind types f inputs (MayLack types f inputs S st) no_local no_location st) p given q r count) right
  step_kept (Size r b) spoken right e free =
      counted r (number_any types f ty.Size r (and_parts (is_number_of types f ty.Size r) (not (is_void (element_of types f b))) e).0) (Size r b) (λ y. refl) (λ given. sizes_give types f st (IsBehind types f inputs (MayLack types f inputs S st) no_local no_location st) r given b) right
  step_kept (Same r a b equal) spoken right e free =
      counted r (number_any types f ty.Bool r (and_parts (is_number_of types f ty.Bool r) (are_compared types (type_in types f a) (type_in types f b)) e).0) (Same r a b equal) (λ y. refl)
      (λ given. sames_give types f st (IsBehind types f inputs (MayLack types f inputs S st) no_local no_location st) r given s a b equal) right
  step_kept (Changes o c) spoken right e free =
      let both = and_parts (is_change_of types texts fs f (type_of types f o) c) (not (is_const_place types f o)) e in
      plain_kept (Changes o c) right (Gives (Changes o c)) (λ y given. given) (λ y buffer. erased_spares o c (type_of types f o) both.0 (local_place y) (λ p is. location_other p is y buffer))
      (λ l j named unique. erased_spares o c (type_of types f o) both.0 (located l) (λ p is. unique_other p is l j named unique)) (change_behind o (not_false (is_const_place types f o) both.1) c right (type_of types f o) refl both.0)
  step_kept (Make u m) spoken right e free = made_kept u m right e
  step_kept (Call target g xs) spoken right e free = absurd spoken
  step_kept (Ports p) spoken right e free =
      plain_kept (Ports p) right no_local (λ y none. absurd none) (λ y buffer. refl) (λ l j named is. refl)
      (ports_give types f st (IsBehind types f inputs (MayLack types f inputs S st) no_local no_location st) (λ text. behind_self types f inputs (MayLack types f inputs S st) no_local no_location st k.buffered (with_output text st) refl refl) s p
      (λ r z zs is. behind_input types f inputs (MayLack types f inputs S st) no_local no_location st k.buffered r (number_free types f rest inputs S st k r (taken_number p r is e)) z zs))

  -- what is known of it before
  pub step_right : (i : Step) → IsSpoken types f i → Right i → is_well_formed_step types texts fs f i ≡ true → IsSlotFree types f i → AreReady (ready_of st) (touched_by f i) → OnRight (does s types f i st) (λ after. FrameCovered types f inputs S' after × IsKept after)
  step_right i spoken right e free ready =
      both_right (does s types f i st) (FrameCovered types f inputs S') IsKept (step_covered types f rest inputs S st k sigs n place S' texts fs s i spoken right e free ready) (step_kept i spoken right e free)
