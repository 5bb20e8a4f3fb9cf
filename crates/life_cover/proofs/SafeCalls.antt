-- A call that hands over no slot makes no fault, if none of the callee does, and the caller is safe behind it.
use Rattle.std.proofs.Common.{◌≡◌, ◌⊎◌, inl, inr, ℕ, ◌+◌, ◌≤◌, ◌<◌, Bool, true, false, if◌then◌else◌, List, [], ◌∷◌, ◌++◌, Option, Some, None, refl, sym, ap, subst, ◌∙◌, arith, ⊎_elim}
use Rattle.std.specs.Prelude.{Contains, drop, flat_map, length, option_map, slice_get, ◌&&◌, ◌||◌, ◌-◌}
use Rattle.std.proofs.lemmas.Bool.{and_parts, false≢true}
use Rattle.std.proofs.lemmas.Option.{slice_get-map}
use Rattle.life_types.specs.Pointees.{ty_of}
use Rattle.life_types.specs.Trees.{IsOrdered}
use Rattle.life_types.specs.TypeTests.{is_pointer, is_unique, is_void}
use Rattle.life_types.specs.Types.{HasEachOnce, Types}
use Rattle.life_types.specs.declared.place.Place.{Place}
use Rattle.life_types.specs.declared.ty.Ty.{Ty}
use Rattle.life_types.specs.declared.ty.Ty.TheVariants as ty
use Rattle.life_core.specs.declared.exits.Exits.{Exits}
use Rattle.life_core.specs.declared.program.FnId.{FnId}
use Rattle.life_core.specs.Function.{Function}
use Rattle.life_core.specs.Linked.{code_of, goes, numbered, spot_at}
use Rattle.life_core.specs.Operands.{Argument, GivenOver, Location, PointerOf, Slot, Value, whole}
use Rattle.life_core.specs.Proper.{HasReadyWays, IsNodeReady, bits_past}
use Rattle.life_core.specs.Ready.{AreBits, Ready}
use Rattle.life_core.specs.Step.{Call}
use Rattle.life_core.specs.Touched.{by_members, if_object, target_births}
use Rattle.life_core.specs.Tree.{Action}
use Rattle.life_pset.specs.Elements.{AreShort, elements_of, local_place, locations_of}
use Rattle.life_pset.specs.Places.{is_within}
use Rattle.life_pset.specs.Shapes.{members_type, ty_if}
use Rattle.life_pset.specs.Shapes as shapes
use Rattle.life_pset.specs.declared.element.Fact.{Fact}
use Rattle.life_pset.specs.declared.element.Root.{Root}
use Rattle.life_contract.specs.Signatures.{Signature, signature_of}
use Rattle.life_proper.specs.GivenOver.{all_keep_given, given_argument}
use Rattle.life_proper.specs.OperandTypes.{are_alike, same, takes}
use Rattle.life_proper.specs.Placed.{is_number, object_at, type_at, type_in}
use Rattle.life_proper.specs.WellFormed.{are_arguments_for, goes_to, have_own_slots, is_call, is_whole, types_taken}
use Rattle.life_proper.specs.WellFormedPrograms.{is_result_of, is_well_formed_function}
use Rattle.life_proper.proofs.SortedNodes.{formed_parts}
use Rattle.life_rules.specs.Calling.{is_in_target, called_none, fixed_into}
use Rattle.life_rules.specs.Diagnosing.{IsDiagnosed}
use Rattle.life_rules.specs.declared.diag.Diag.{Diag}
use Rattle.life_store.specs.Calls.{first_given, lent, result_given, slot_count, taken_back, target_given, all_handed}
use Rattle.life_store.specs.Content.{Content}
use Rattle.life_store.specs.Effects.{Effect, Faults, Next, Setting, Strays, Traps, cell, on_next}
use Rattle.life_store.specs.Meaning.{Back, Barred, Called, Callee, Quit, act, call_with, came_back}
use Rattle.life_store.specs.State.{Cell, Empty, Named, Number, Pointer, Points, State, World, is_there, ready_of}
use Rattle.life_store.proofs.CellLemmas.{some_same}
use Rattle.life_store.proofs.Going.{GoodEffect, paid_good}
use Rattle.life_forest.specs.Forest.{Beneath, Touches}
use Rattle.life_forest.specs.Frames.{HasStore, OnNext, named_in}
use Rattle.life_forest.specs.Kinds.{kinds_of}
use Rattle.life_forest.specs.Owned.{times}
use Rattle.life_forest.specs.Typed.{IsStore}
use Rattle.life_forest.proofs.BodiesGo.{IsSoundAt}
use Rattle.life_forest.proofs.CallersGo.{GoodCalled, GoodCallee}
use Rattle.life_forest.proofs.CallersGo as callers
use Rattle.life_forest.proofs.EnteredFrames.{GivesOn, composed_points}
use Rattle.life_forest.proofs.EntryFrames.{types_held}
use Rattle.life_forest.proofs.Frames.{less_in_hand}
use Rattle.life_forest.proofs.GivenResults.{IsBack, IsResult}
use Rattle.life_forest.proofs.HandedOver.{AreHandedTo, ArePointerSlots, AreTaken, IsHandedTo, HandEach, free_taken}
use Rattle.life_forest.proofs.Holding.{KeepsWaiting}
use Rattle.life_forest.proofs.Keeping.{keeps_more, keeps_then}
use Rattle.life_forest.proofs.LentFrames.{pointers_lend, slot_names}
use Rattle.life_forest.proofs.SettlingLives.{HaveMembers}
use Rattle.life_forest.proofs.SettlingPointers.{alike_points}
use Rattle.life_forest.proofs.Shaped.{IsShaped, locals_shaped}
use Rattle.life_forest.proofs.Slots.{ArePointsFormed}
use Rattle.life_forest.proofs.GivenSlots.{slot_types}
use Rattle.life_forest.proofs.Counting.{one_same}
use Rattle.life_forest.proofs.Steps.{beneath_more}
use Rattle.life_cover.proofs.GivenOn.{given_behind}
use Rattle.life_cover.specs.Buffered.{AreBut}
use Rattle.life_cover.specs.Kills.{IsUnnamed}
use Rattle.life_cover.specs.Lacking.{IsLoose, IsSpared, MayLack}
use Rattle.life_cover.proofs.Behind.{IsBehind, any_local, behind_more, any_location}
use Rattle.life_cover.proofs.Buffering.{but_more}
use Rattle.life_cover.proofs.CallCovers.{call_within}
use Rattle.life_cover.proofs.CalledBuffers.{called_spared}
use Rattle.life_cover.proofs.HandedLoose.{handed_loose}
use Rattle.life_cover.proofs.Mutated.{mutated_from}
use Rattle.life_cover.proofs.StillLacking.{StillLacks, lacks_on}
use Rattle.life_cover.proofs.Arguments.{AreAimedBy, AreSlotless, aimed_by, passed}
use Rattle.life_cover.proofs.CallKinds.{IsCalled, IsPlainTarget, given_object, nothing_returned, nothing_taken, pointer_given, result_taken}
use Rattle.life_cover.proofs.GivenValues.{IsFilled}
use Rattle.life_cover.proofs.PointerResults.{member_given}
use Rattle.life_cover.proofs.CopyKinds.{outside_local}
use Rattle.life_cover.proofs.CopiedPointers.{member_held}
use Rattle.life_cover.proofs.PointedPlaces.{pointer_short}
use Rattle.life_cover.proofs.WithinLocations.{member_apart, within_local}
use Rattle.life_forest.proofs.ReadyCells.{value_points}
use Rattle.life_forest.proofs.LaterFrames.{behind_sound}
use Rattle.life_forest.specs.FrameTypes.{Stands}
use Rattle.life_store.specs.Held.{pointer_in, words_at}
use Rattle.life_store.specs.Parts.{local_type, word_within}
use Rattle.life_store.proofs.MapLemmas.{one_or_apart}
use Rattle.life_cover.proofs.Edges.{FactsAt}
use Rattle.life_cover.proofs.FramePoints.{GoesSafe, known}
use Rattle.life_cover.proofs.GivenInputs.{callee_given}
use Rattle.life_cover.proofs.KnownFrames.{IsKnownFrame, IsRight, number_free, pointer_free}
use Rattle.life_cover.proofs.Looks.{TakesAll, given_type, look_same, takes_across}
use Rattle.life_cover.proofs.ResultTypes.{part_solid, result_typed}
use Rattle.life_cover.proofs.SafeBodies.{CallsAreSafe, IsSafeAt, IsLeftSafe, IsSafeStop, IsSpokenBody, SafeAnswer, effect_good, right_at}
use Rattle.life_cover.specs.Frames.{FrameCovered, look_at, look_in, look_of}
use Rattle.life_contract.specs.Located.{located}
use Rattle.life_cover.specs.Inputs.{AreGiven, entry_inputs, foot_with, frame_foot, mutated}
use Rattle.life_cover.specs.Passed.{ArePassed, ArePromised, IsPromised}
use Rattle.life_cover.specs.Regions.{Region}
use Rattle.life_pset.specs.declared.element.Element.{Element}
use Rattle.life_pset.specs.declared.element.Element.TheVariants as element
use Rattle.life_proper.proofs.HeldSorts.{same_is}
use Rattle.life_rules.specs.Matching.{fact_at}
use Rattle.life_cover.specs.Covers.{IsOwnerTold}
use Rattle.life_cover.specs.Uniques.{UniquesTold, had_at, word_in}
use Rattle.life_cover.proofs.Listing.{null_known, own_known}
use Rattle.life_cover.proofs.ResultUniques.{HasUniqueFacts, unique_facts}
use Rattle.life_cover.proofs.UniquePlaces.{outside_pointer}
use Rattle.life_cover.proofs.Takes.{named_fact}
use Rattle.life_cover.proofs.UniqueFacts.{unique_told}
use Rattle.life_cover.proofs.UniquesGiven.{any_told}

-- ---- what a call gives back

-- each vector and each string has its buffer to which anybody comes, what was touched lies beneath what was given or is an owner behind a mutating input, what is named was given
-- or is new, and each pointer of the result is as it was promised
abbrev pub SafeCalled : Types → Function → (inputs : Root → Option Region) → (given : List ℕ) → Content → Called → Type 0
SafeCalled types g inputs given c (Back n w values) =
    AreBut types (IsLoose types inputs (named_in values) w.content) w.content
    × (Touches (kinds_of types) (foot_with types (mutated types g inputs) given) c w.content
    × (((j : ℕ) → 0 < times (named_in values) j → (0 < times given j) ⊎ (c.births ≤ j)) × ArePromised types g inputs w.content values))
SafeCalled types g inputs given c (Barred kind) = Unit {0}
SafeCalled types g inputs given c (Quit stop w) = IsSafeStop stop

-- .. where its inputs stand apart, and it is handed what its parameters may be given
abbrev pub SafeCallee : Types → List Function → Callee → Type 0
SafeCallee types fs call = (k : ℕ) (g : Function) (rest : ℕ → ℕ) (xs : List Cell) (n : ℕ) (w : World) → slice_get fs k ≡ Some g → AreHandedTo types w.content (types_held types g) xs → IsStore types (λ j. times (named_in xs) j + rest j) w.content
    → AreBut types (IsLoose types (entry_inputs types g w.content xs) (named_in xs) w.content) w.content
    → AreGiven types g (entry_inputs types g w.content xs) (foot_with types (mutated types g (entry_inputs types g w.content xs)) (named_in xs)) w.content → ArePassed types g w.content xs → SafeCalled types g (entry_inputs types g w.content xs) (named_in xs) w.content (call k xs n w)

-- the facts cover all pointers behind it, and the buffers are there
abbrev IsTaken : Types → Function → (inputs : Root → Option Region) → (S : Fact → Type 0) → State → State → Type 0
IsTaken types f inputs S st after = FrameCovered types f inputs S after × (AreBut types (MayLack types f inputs S after) after.world.content × IsBehind types f inputs any_local any_local any_location st after × UniquesTold types f S after)

-- the frame goes on, and is safe
call_goes : (types : Types) (f : Function) (rest : ℕ → ℕ) (inputs : Root → Option Region) (S : Fact → Type 0) (bits : Ready) (st : State) (w : World) (e : Effect) → HasStore types rest st → AreGiven types f inputs (frame_foot types f inputs st.cells) st.world.content → GivesOn types f rest w.content bits e
    → KeepsWaiting types rest st.world.content w.content → OnNext e (IsTaken types f inputs S st) → GoesSafe types f rest inputs S bits st e
call_goes types f rest inputs S bits st w (Next after) store given g waits h = record {
  safe = record { sound = g.sound; given = given_behind types f rest inputs any_local any_local any_location st after store given h.1.1; covered = h.0; buffered = h.1.0; told = h.1.2 };
  bits = g.bits;
  behind = h.1.1;
  waits = keeps_then types (λ n. rest n ≡ 0) st.world.content w.content after.world.content waits g.waits;
}
call_goes types f rest inputs S bits st w (Traps kind) store given g waits h = tt
call_goes types f rest inputs S bits st w (Faults kind) store given g waits h = absurd g
call_goes types f rest inputs S bits st w Strays store given g waits h = absurd g

-- nothing comes out of a slot where there is none
slotless_names : (xs : List Argument) (vs : List Cell) → AreSlotless xs → slot_names xs vs ≡ []
slotless_names [] vs none = refl
slotless_names (x ∷ xs) [] none = refl
slotless_names (Value r ∷ xs) (v ∷ vs) none = slotless_names xs vs none.1
slotless_names (PointerOf l ∷ xs) (v ∷ vs) none = slotless_names xs vs none.1
slotless_names (GivenOver y ∷ xs) (v ∷ vs) none = slotless_names xs vs none.1
slotless_names (Slot l ∷ xs) (v ∷ vs) none = absurd none.0

module _ (types : Types) (ordered : IsOrdered types) (once : HasEachOnce types) (some : HaveMembers types) (names texts : ℕ) (fs : List Function) (f : Function) (formed : is_well_formed_function types names texts fs f ≡ true) (points : ArePointsFormed types texts fs f)
    (ready : HasReadyWays types f) (short : AreShort (elements_of types f)) (kept : all_keep_given types f ≡ true) (spoken : IsSpokenBody types f) (sigs : List Signature) (number : ℕ) (none : (d : Diag) → IsDiagnosed sigs types number f d → ⊥)
    (rest : ℕ → ℕ) (inputs : Root → Option Region) (before : Content) (given : List ℕ) (hand : ℕ → ℕ) (store : IsStore types hand before) (s : Setting) (call : Callee) (callees : GoodCallee types fs call) (free : (k : ℕ) (g : Function) → slice_get fs k ≡ Some g → ArePointerSlots types (types_taken g))
    (safe : SafeCallee types fs call) (heads : (k : ℕ) (g : Function) → slice_get fs k ≡ Some g → slice_get sigs k ≡ Some (signature_of g)) (all_formed : (k : ℕ) (g : Function) → slice_get fs k ≡ Some g → is_well_formed_function types names texts fs g ≡ true)
    (few : (k : ℕ) (g : Function) → slice_get fs k ≡ Some g → length (locations_of types g) ≤ 256) where
  module _ (b : ℕ) (place : Place) (target : Option Location) (g : FnId) (xs : List Argument) (x : Exits) (here : numbered (code_of f) b ≡ Some (record { spot = spot_at place (Action (Call target g xs)); leads = goes x.next })) (n : ℕ) (st : State)
      (inv : IsSafeAt sigs types f rest inputs before given b st) where
    sound_at : IsSoundAt types f rest before b st
    sound_at = record { reached = inv.reached; sound = inv.safe.sound; waits = inv.waits }

    spoken_of : IsPlainTarget types f target × AreSlotless xs
    spoken_of = spoken b (record { spot = spot_at place (Action (Call target g xs)); leads = goes x.next }) (Call target g xs) here refl

    known_at : IsKnownFrame types f rest inputs (FactsAt sigs types f b) st
    known_at = known types ordered once some names texts fs f formed points ready short rest inputs (FactsAt sigs types f b) st inv.safe

    are : IsNodeReady types f (ready_of st) (Action (Call target g xs))
    are = ready.ready b (ready_of st) (record { spot = spot_at place (Action (Call target g xs)); leads = goes x.next }) inv.reached here

    module _ (gf : Function) (is : slice_get fs g.0 ≡ Some gf) (args : are_arguments_for types texts fs f (types_taken gf) xs ≡ true) (own : have_own_slots types texts fs f xs ≡ true) (into : goes_to types texts fs f (ty_of types gf.result) target ≡ true) where
      abbrev over : List Cell
      over = (callers.handed types ordered once some names texts fs f formed points ready rest before s call callees kept b place target g xs x here n st sound_at gf is args own into).values

      handed_each : HandEach types f st xs over
      handed_each = (callers.handed types ordered once some names texts fs f formed points ready rest before s call callees kept b place target g xs x here n st sound_at gf is args own into).each

      handed_all : all_handed types f st xs ≡ Some over
      handed_all = (callers.handed types ordered once some names texts fs f formed points ready rest before s call callees kept b place target g xs x here n st sound_at gf is args own into).are

      handed_taken : AreTaken types st.world.content (types_taken gf) over
      handed_taken = (callers.handed types ordered once some names texts fs f formed points ready rest before s call callees kept b place target g xs x here n st sound_at gf is args own into).suit

      handed_suit : AreHandedTo types st.world.content (types_held types gf) over
      handed_suit = free_taken types st.world.content (types_taken gf) over (free g.0 gf is) handed_taken

      left_world : (lent types f xs st).world ≡ st.world
      left_world = pointers_lend types texts fs f (callers.pointers types ordered once some names texts fs f formed points ready rest before s call callees kept) (types_taken gf) xs st (free g.0 gf is) args

      left_less : (y : ℕ) (v : Cell) → is_there v ≡ true → cell (lent types f xs st) y ≡ Some v → cell st y ≡ Some v
      left_less = (callers.loan types ordered once some names texts fs f formed points ready rest before s call callees kept b place target g xs x here n st sound_at gf is args own into).cells

      left_hand : (j : ℕ) → times (named_in (lent types f xs st).cells) j + times (named_in over) j ≡ times (named_in st.cells) j
      left_hand j =
          let hand = (callers.loan types ordered once some names texts fs f formed points ready rest before s call callees kept b place target g xs x here n st sound_at gf is args own into).hand j in
          let none = ap (λ (ms : List ℕ). times ms j) (slotless_names xs over spoken_of.1) in
          omega (arith, hand, none)

      -- what is named elsewhere meanwhile
      abbrev waiting : ℕ → ℕ
      waiting j = times (named_in (lent types f xs st).cells) j + rest j

      over_store : IsStore types (λ j. times (named_in over) j + waiting j) st.world.content
      over_store = less_in_hand types (λ j. times (named_in st.cells) j + rest j) (λ j. times (named_in over) j + waiting j) st.world.content (λ j. let a = left_hand j in omega (arith, a)) inv.safe.sound.stands.store

      shaped_g : IsShaped types gf
      shaped_g = locals_shaped types ordered names gf (formed_parts types names texts fs gf (all_formed g.0 gf is)).locals

      formed_g : is_result_of types gf.result (slice_get types.types gf.result.0) (slice_get gf.locals gf.parameters) ≡ true
      formed_g = (formed_parts types names texts fs gf (all_formed g.0 gf is)).result

      -- what it gives goes to its target
      module _ (l : Location) (at_l : target ≡ Some l) where
        into_l : goes_to types texts fs f (ty_of types gf.result) (Some l) ≡ true
        into_l = subst (λ (t : Option Location). goes_to types texts fs f (ty_of types gf.result) t ≡ true) at_l into

        no_void : (t : Ty) → is_void t ≡ true → goes_to types texts fs f t (Some l) ≡ true → ⊥
        no_void ty.Void v h = false≢true (and_parts false (object_at types f l.local || is_number types f l.local) (and_parts (is_whole l) _ h).1).0
        no_void _ v h = false≢true v

        -- a pointer to one that takes it
        module _ (result : is_pointer (ty_of types gf.result) ≡ true) where
          takes_result : takes types (type_in types f l) (ty_of types gf.result) ≡ true
          takes_result = subst (λ (p : Bool). (if p then takes types (type_in types f l) (ty_of types gf.result) else (is_whole l && (same (ty_of types gf.result) (type_in types f l) && (object_at types f l.local || is_number types f l.local)))) ≡ true) result into_l

          target_points : is_pointer (type_in types f l) ≡ true
          target_points = (alike_points types (type_in types f l) (ty_of types gf.result) (and_parts (are_alike types (type_in types f l) (ty_of types gf.result)) _ takes_result).0).0

          result_look : TakesAll types (look_in types f l) (look_of types (Some gf.result))
          result_look =
              let typed = result_typed types gf formed_g (part_solid types gf.result [] result) in
              subst (TakesAll types (look_in types f l)) (look_same types gf shaped_g (whole gf.parameters) ∙ ap (look_of types) typed)
              (takes_across types ordered once gf shaped_g f known_at.shaped l (whole gf.parameters) (subst (λ (t : Ty). takes types (type_in types f l) t ≡ true) (sym (ap (ty_if types) typed)) takes_result))

        -- anything else to a whole local
        whole_given : is_pointer (ty_of types gf.result) ≡ false → (is_whole l && (same (ty_of types gf.result) (type_in types f l) && (object_at types f l.local || is_number types f l.local))) ≡ true
        whole_given pointerless =
            subst (λ (p : Bool). (if p then takes types (type_in types f l) (ty_of types gf.result) else (is_whole l && (same (ty_of types gf.result) (type_in types f l) && (object_at types f l.local || is_number types f l.local)))) ≡ true) pointerless into_l

        pointerless_whole : is_pointer (ty_of types gf.result) ≡ false → l.members ≡ []
        pointerless_whole pointerless = go l.members (and_parts (is_whole l) _ (whole_given pointerless)).0
          where
            go : (ms : List ℕ) → is_whole (record { local = l.local; members = ms }) ≡ true → ms ≡ []
            go [] h = refl
            go (m ∷ ms) h = absurd (false≢true h)

        -- what names something isn't given the result as a whole
        module _ (no_members : l.members ≡ []) where
          type_is : type_in types f l ≡ type_at types f l.local
          type_is = ap (λ (ms : List ℕ). ty_if types (members_type types (shapes.local_type types f l.local) ms)) no_members

          local_points : is_pointer (ty_of types gf.result) ≡ true → is_pointer (type_at types f l.local) ≡ true
          local_points result = ap is_pointer (sym type_is) ∙ target_points result

          local_look : is_pointer (ty_of types gf.result) ≡ true → TakesAll types (look_at types f l.local) (look_of types (Some gf.result))
          local_look result = subst (λ (ms : List ℕ). TakesAll types (look_in types f (record { local = l.local; members = ms })) (look_of types (Some gf.result))) no_members (result_look result)

          result_same : is_pointer (ty_of types gf.result) ≡ false → ty_of types gf.result ≡ type_at types f l.local
          result_same pointerless =
              same_is (ty_of types gf.result) (type_in types f l) (and_parts (same (ty_of types gf.result) (type_in types f l)) _ (and_parts (is_whole l) _ (whole_given pointerless)).1).0
              ∙ type_is

          local_typed : is_pointer (ty_of types gf.result) ≡ false → shapes.local_type types f l.local ≡ Some gf.result
          local_typed pointerless =
              known_at.shaped l.local
              ∙ given_type types ordered once f known_at.shaped l.local gf.result
              (subst (λ (t : Ty). same (ty_of types gf.result) t ≡ true) type_is (and_parts (same (ty_of types gf.result) (type_in types f l)) _ (and_parts (is_whole l) _ (whole_given pointerless)).1).0)

          -- an object that isn't there yet, or a number
          sort : is_pointer (ty_of types gf.result) ≡ false → (object_at types f l.local || is_number types f l.local) ≡ true
          sort pointerless = (and_parts (same (ty_of types gf.result) (type_in types f l)) _ (and_parts (is_whole l) _ (whole_given pointerless)).1).1

          nameless : (m : ℕ) → cell st l.local ≡ Some (Named m) → ⊥
          nameless m e = by_pointer (is_pointer (ty_of types gf.result)) refl
            where
              by_sort : (o : Bool) → object_at types f l.local ≡ o → (o || is_number types f l.local) ≡ true → ⊥
              by_sort false at_o h = number_free types f rest inputs (FactsAt sigs types f b) st known_at l.local h m e
              by_sort true at_o h =
                  let births : AreBits false (ready_of st) (target_births f (Some l)) = subst (λ (t : Option Location). AreBits false (ready_of st) (target_births f t)) at_l are.births in
                  let of_whole : AreBits false (ready_of st) (if_object f l.local) = subst (λ (ms : List ℕ). AreBits false (ready_of st) (by_members ms (if_object f l.local) [])) no_members births in
                  let one : AreBits false (ready_of st) (l.local ∷ []) = subst (λ (b : Bool). AreBits false (ready_of st) (if b then l.local ∷ [] else [])) at_o of_whole in
                  false≢true (some_same (sym one.0 ∙ slice_get-map is_there st.cells l.local ∙ ap (option_map is_there) e))

              by_pointer : (p : Bool) → is_pointer (ty_of types gf.result) ≡ p → ⊥
              by_pointer true result = pointer_free types f rest inputs (FactsAt sigs types f b) st known_at l.local (local_points result) m e
              by_pointer false pointerless = by_sort (object_at types f l.local) refl (sort pointerless)

        -- nor as one that has the target as a member
        unwritten_local : (y m : ℕ) → cell st y ≡ Some (Named m) → is_within (located l) (local_place y) ≡ false
        unwritten_local y m named = one_or_apart l.local y (λ same. by_members l.members refl (ap (cell st) same ∙ named)) (λ ne. outside_local l y ne)
          where
            by_members : (ms : List ℕ) → l.members ≡ ms → cell st l.local ≡ Some (Named m) → is_within (located l) (local_place y) ≡ false
            by_members [] none here = absurd (nameless none m here)
            by_members (j ∷ js) some here = member_apart l j js some (go (is_pointer (ty_of types gf.result)) refl) y
              where
                no_whole : l.members ≡ [] → ⊥
                no_whole none = unlike (sym some ∙ none)
                  where
                    unlike : j ∷ js ≡ [] → ⊥
                    unlike h = cc

                go : (p : Bool) → is_pointer (ty_of types gf.result) ≡ p → (located l).length ≤ 8
                go true result =
                    pointer_short types f rest inputs (FactsAt sigs types f b) st known_at l (target_points result) (pointer_in (words_at st.world.content m 0 (word_within types (local_type types f l.local) l.members) 5)) (member_held types f l st m here no_whole)
                go false pointerless = absurd (no_whole (pointerless_whole pointerless))

        -- nor is a unique_ptr that has something before
        unwritten_unique : (q : Location) (m : ℕ) → cell st q.local ≡ Some (Named m) → is_unique (type_in types f q) ≡ true → is_within (located l) (located q) ≡ false
        unwritten_unique q m named unique = go (is_pointer (ty_of types gf.result)) refl
          where
            by_local : l.members ≡ [] → (b : Bool) → is_within (located l) (located q) ≡ b → is_within (located l) (located q) ≡ false
            by_local none true e = absurd (nameless none m (ap (cell st) (within_local l q e) ∙ named))
            by_local none false e = e

            go : (p : Bool) → is_pointer (ty_of types gf.result) ≡ p → is_within (located l) (located q) ≡ false
            go true result = outside_pointer types f rest inputs (FactsAt sigs types f b) st known_at q m named unique l (target_points result)
            go false pointerless = by_local (pointerless_whole pointerless) (is_within (located l) (located q)) refl

      -- ---- it is called

      module _ (q : ℕ) (lead : numbered (code_of f) b ≡ Some (record { spot = spot_at place (Action (Call target g xs)); leads = goes (Some q) })) where
        right : IsRight sigs types number f place (Call target g xs) (FactsAt sigs types f b) (FactsAt sigs types f q)
        right = right_at types ordered once some names texts fs f formed points ready short kept spoken sigs number none rest inputs before given hand store s b q place (Call target g xs) lead

        aims : AreAimedBy types f inputs (FactsAt sigs types f b) st xs gf over
        aims = aimed_by types f rest inputs (FactsAt sigs types f b) st known_at sigs number place (FactsAt sigs types f q) target g xs right over spoken_of.1 handed_each texts fs gf (heads g.0 gf is) args shaped_g handed_suit

        handed_passed : ArePassed types gf st.world.content over
        handed_passed = passed types f rest inputs (FactsAt sigs types f b) st known_at sigs number place (FactsAt sigs types f q) target g xs right over spoken_of.1 handed_each texts fs gf (heads g.0 gf is) args shaped_g handed_suit

        inputs_given : AreGiven types gf (entry_inputs types gf st.world.content over) (foot_with types (mutated types gf (entry_inputs types gf st.world.content over)) (named_in over)) st.world.content
        inputs_given =
            callee_given types f rest inputs (FactsAt sigs types f b) st known_at sigs number place (FactsAt sigs types f q) target g xs right over gf (heads g.0 gf is) shaped_g aims
            (given_object types f rest inputs (FactsAt sigs types f b) st known_at sigs number place (FactsAt sigs types f q) target g xs right over spoken_of.1 handed_each)

        over_given : (m : ℕ) → 0 < times (named_in over) m → (y : ℕ) × (cell st y ≡ Some (Named m)) × IsUnnamed (FactsAt sigs types f b) y
        over_given = given_object types f rest inputs (FactsAt sigs types f b) st known_at sigs number place (FactsAt sigs types f q) target g xs right over spoken_of.1 handed_each

        -- the callee doesn't come to what may be bare
        given_whole : (m : ℕ) → MayLack types f inputs (FactsAt sigs types f b) st m → IsLoose types (entry_inputs types gf st.world.content over) (named_in over) st.world.content m
        given_whole = handed_loose types f rest inputs (FactsAt sigs types f b) st known_at sigs number place (FactsAt sigs types f q) target g xs right over gf (heads g.0 gf is) shaped_g aims over_given spoken_of.1 handed_each left_hand

        -- ---- behind the call

        abbrev left : World → State
        left w = record { world = w; cells = (lent types f xs st).cells }

        module _ (w : World) (vs : List Cell) (good : GoodCalled types gf (λ j. times (named_in (lent types f xs st).cells) j + rest j) st.world.content (Back 0 w vs)) (h : SafeCalled types gf (entry_inputs types gf st.world.content over) (named_in over) st.world.content (Back 0 w vs)) where
          back : IsBack types w.content gf.result (slot_types types (types_taken gf)) vs
          back = good.2

          -- the caller's frame stands meanwhile
          left_stands : Stands types f (λ j. times (named_in vs) j + rest j) (record { world = w; cells = (lent types f xs st).cells })
          left_stands = (behind_sound types f rest st inv.safe.sound (lent types f xs st).cells left_less w (λ j. times (named_in vs) j) good.0 good.1).stands

          -- what may be bare then
          abbrev Loose : ℕ → Type 0
          Loose m = IsLoose types (entry_inputs types gf st.world.content over) (named_in vs) w.content m × (times (named_in (lent types f xs st).cells) m ≡ 0) × IsSpared inputs m

          abbrev Left : ℕ → Type 0
          Left m = MayLack types f inputs (FactsAt sigs types f b) st m ⊎ (IsLoose types (entry_inputs types gf st.world.content over) (named_in vs) w.content m × (waiting m ≡ 0) × IsSpared inputs m)

          abbrev Given : ℕ → Type 0
          Given y = Contains (flat_map given_argument xs) y

          abbrev Taken : Location → Type 0
          Taken q = (l : Location) × (target ≡ Some l) × (l.members ≡ []) × (l.local ≡ q.local)

          -- what the callee may touch lies nowhere above what inputs stand for
          input_apart : (r : Root) (a : Region) → inputs r ≡ Some a
              → (a.object < st.world.content.births) × (Beneath (kinds_of types) st.world.content (foot_with types (mutated types gf (entry_inputs types gf st.world.content over)) (named_in over)) a.object → ⊥)
          input_apart r a stands = (
            known_at.given.born r a stands,
            λ low. known_at.given.free r a stands
                (beneath_more (kinds_of types) (λ j. times (named_in st.cells) j + rest j) st.world.content known_at.stands.store.forest (foot_with types (mutated types gf (entry_inputs types gf st.world.content over)) (named_in over)) (frame_foot types f inputs st.cells) a.object
                (call_within types f rest inputs (FactsAt sigs types f b) st known_at sigs number place (FactsAt sigs types f q) target g xs right over gf (heads g.0 gf is) shaped_g aims over_given) (known_at.given.born r a stands) low),
          )

          buffers : AreBut types Left w.content
          buffers =
              called_spared types waiting (mutated types gf (entry_inputs types gf st.world.content over)) (named_in over) st.world.content w.content over_store h.1.0 (MayLack types f inputs (FactsAt sigs types f b) st)
              (IsLoose types (entry_inputs types gf st.world.content over) (named_in vs) w.content) known_at.buffered h.0 (λ a among l. let m = mutated_from types gf (entry_inputs types gf st.world.content over) a among in l.spared m.0 a m.1 refl) inputs input_apart

          by_target : (t : Option Location) → target ≡ t → OnNext (target_given s types f t vs (left w)) (IsCalled types f inputs (FactsAt sigs types f q) Left Given Taken Loose st)
          by_target None at_t =
              nothing_taken types f rest inputs (FactsAt sigs types f b) st known_at sigs number place (FactsAt sigs types f q) target g xs right over gf (heads g.0 gf is) shaped_g aims spoken_of.1 handed_each (few g.0 gf is) left_less left_hand w h.1.0 Left buffers vs at_t
          by_target (Some l) at_t = of_result back.given
            where
              plain_target : IsPlainTarget types f (Some l)
              plain_target = subst (IsPlainTarget types f) at_t spoken_of.0

              named_first : (j : ℕ) (v : Cell) → v ≡ Named j → vs ≡ v ∷ back.others → 0 < times (named_in vs) j
              named_first j v e one =
                  let a = ap (λ (us : List Cell). times (named_in us) j) (one ∙ ap (λ (u : Cell). u ∷ back.others) e) in
                  let i = one_same j j refl in
                  omega (arith, a, i)

              -- what isn't a pointer
              of_value : (v : Cell) → vs ≡ v ∷ back.others → IsHandedTo types w.content gf.result v → is_pointer (ty_of types gf.result) ≡ false → ((p : Pointer) → v ≡ Points p → ⊥) → IsFilled v → OnNext (result_given s types f l l.members v (left w)) (IsCalled types f inputs (FactsAt sigs types f q) Left Given Taken Loose st)
              of_value v one suits pointerless pointless filled =
                  let none = pointerless_whole l at_t pointerless in
                  result_taken types f rest inputs (FactsAt sigs types f b) st known_at sigs number place (FactsAt sigs types f q) target g xs right over gf (heads g.0 gf is) shaped_g aims spoken_of.1 handed_each (few g.0 gf is) left_less left_hand w h.1.0 Left buffers vs l at_t none plain_target (nameless l at_t none) v
                  (λ j e. h.1.1.0 j (named_first j v e one)) (λ j e. named_first j v e one) pointless (local_typed l at_t none pointerless) formed_g (ap (λ (us : List Cell). slice_get us 0) one) suits h.1.1.1 s filled

              of_pointer : (p : Pointer) → vs ≡ Points p ∷ back.others → is_pointer (ty_of types gf.result) ≡ true → OnNext (result_given s types f l l.members (Points p) (left w)) (IsCalled types f inputs (FactsAt sigs types f q) Left Given Taken Loose st)
              of_pointer p one result = by_members l.members refl
                where
                  promised : IsPromised types gf (entry_inputs types gf st.world.content over) w.content (Some gf.result) p
                  promised = h.1.1.1 [] p result (ap (λ (us : List Cell). slice_get us 0) one)

                  by_members : (ms : List ℕ) → l.members ≡ ms → OnNext (result_given s types f l l.members (Points p) (left w)) (IsCalled types f inputs (FactsAt sigs types f q) Left Given Taken Loose st)
                  by_members [] none =
                      pointer_given types f rest inputs (FactsAt sigs types f b) st known_at sigs number place (FactsAt sigs types f q) target g xs right over gf (heads g.0 gf is) shaped_g aims spoken_of.1 handed_each (few g.0 gf is) left_less left_hand w h.1.0 Left buffers vs l at_t none plain_target (nameless l at_t none) p
                      (local_points l at_t none result) result (local_look l at_t none result) promised s
                  by_members (m ∷ ms) members =
                      member_given types f rest inputs (FactsAt sigs types f b) st known_at sigs number place (FactsAt sigs types f q) target g xs right over gf (heads g.0 gf is) shaped_g aims spoken_of.1 handed_each (few g.0 gf is) left_less left_hand w h.1.0 Left buffers vs
                      (λ j. times (named_in vs) j + rest j) left_stands l at_t p (target_points l at_t result) result (result_look l at_t result) promised m ms members s

              of_cell : (v : Cell) → vs ≡ v ∷ back.others → IsHandedTo types w.content gf.result v → OnNext (result_given s types f l l.members v (left w)) (IsCalled types f inputs (FactsAt sigs types f q) Left Given Taken Loose st)
              of_cell Empty one suits = absurd suits
              of_cell (Named m) one suits = of_value (Named m) one suits (composed_points (ty_of types gf.result) suits.2) (λ p e. unlike p e) tt
                where
                  unlike : (p : Pointer) → Named m ≡ Points p → ⊥
                  unlike p e = cc
              of_cell (Number z) one suits = of_value (Number z) one suits (value_points (ty_of types gf.result) suits) (λ p e. unlike p e) tt
                where
                  unlike : (p : Pointer) → Number z ≡ Points p → ⊥
                  unlike p e = cc
              of_cell (Points p) one suits = of_pointer p one suits.0

              of_result : IsResult types w.content gf.result back.first → OnNext (first_given s types f vs l (left w)) (IsCalled types f inputs (FactsAt sigs types f q) Left Given Taken Loose st)
              of_result (inl void) = absurd (no_void l at_t (ty_of types gf.result) void.0 (into_l l at_t))
              of_result (inr r) =
                  let one : vs ≡ r.0 ∷ back.others = back.are ∙ ap (λ (us : List Cell). us ++ back.others) r.1 in
                  subst (λ (us : List Cell). OnNext (first_given s types f us l (left w)) (IsCalled types f inputs (FactsAt sigs types f q) Left Given Taken Loose st)) (sym one) (of_cell r.0 one r.2)

          taken_all : OnNext (taken_back s types f target xs vs (left w)) (IsCalled types f inputs (FactsAt sigs types f q) Left Given Taken Loose st)
          taken_all =
              subst (λ (e : Effect). OnNext (on_next e (target_given s types f target vs)) (IsCalled types f inputs (FactsAt sigs types f q) Left Given Taken Loose st)) (sym (nothing_returned types f st xs spoken_of.1 (drop (length vs - slot_count xs) vs) (left w)))
              (by_target target refl)

          -- a local that names something isn't given the result
          unwritten : (y m : ℕ) → cell st y ≡ Some (Named m) → is_in_target target (local_place y) ≡ false
          unwritten y m named = go target refl
            where
              go : (t : Option Location) → target ≡ t → is_in_target t (local_place y) ≡ false
              go None at_t = refl
              go (Some l) at_t = unwritten_local l at_t y m named

          -- nor is a unique_ptr that was there
          unwritten_unique_at : (q : Location) (m : ℕ) → cell st q.local ≡ Some (Named m) → is_unique (type_in types f q) ≡ true → is_in_target target (located q) ≡ false
          unwritten_unique_at q m named unique = go target refl
            where
              go : (t : Option Location) → target ≡ t → is_in_target t (located q) ≡ false
              go None at_t = refl
              go (Some l) at_t = unwritten_unique l at_t q m named unique

          still : (m : ℕ) → MayLack types f inputs (FactsAt sigs types f b) st m → StillLacks types f rest inputs (FactsAt sigs types f b) st sigs number place (FactsAt sigs types f q) (Call target g xs) right Left Given m
          still m lacks = record { lacks = lacks; kept = λ moved over. right.unmoved moved.local moved.owner over moved.cause moved.holds; unwritten = λ moved. unwritten moved.local m moved.names }

          -- what a result has that is a unique_ptr, or a member of one, the facts say
          module _ (l : Location) (at_l : target ≡ Some l) (no_members : l.members ≡ []) (p : Location) (same_local : l.local ≡ p.local) (unique : is_unique (type_in types f p) ≡ true) where
            abbrev facts : HasUniqueFacts types f gf p
            facts = unique_facts types ordered once f known_at.shaped short gf l.local (local_points l at_l no_members) (result_same l at_l no_members) (sort l at_l no_members) p same_local unique

            whole_is : target ≡ Some (whole p.local)
            whole_is = at_l ∙ ap (λ (ms : List ℕ). Some (record { local = l.local; members = ms })) no_members ∙ ap (λ y. Some (whole y)) same_local

            given_fact : (e : Element) → Contains (elements_of types f) e → Contains (fixed_into types (signature_of gf) (Some (whole p.local))) (fact_at (located p) e) → FactsAt sigs types f q (fact_at (located p) e)
            given_fact e known has =
                named_fact sigs types f place (Call target g xs) (FactsAt sigs types f b) (FactsAt sigs types f q) right.closed p e
                (subst (λ (o : Option Signature). Contains (called_none types o target) (fact_at (located p) e)) (sym (heads g.0 gf is))
                (subst (λ (t : Option Location). Contains (called_none types (Some (signature_of gf)) t) (fact_at (located p) e)) (sym whole_is) has)) facts.listed known

            result_told : (owned : Option ℕ) → IsOwnerTold (FactsAt sigs types f q) (located p) true owned
            result_told = any_told (FactsAt sigs types f q) (located p) (given_fact element.Own (own_known types ordered f) facts.own) (given_fact element.Null (null_known types ordered f) facts.null)

          told : (after : State) → IsBehind types f inputs Left Given Taken st after → UniquesTold types f (FactsAt sigs types f q) after
          told after behind p m named unique = ⊎_elim
              (λ taken. result_told taken.0 taken.1 taken.2 p taken.3 unique (had_at after.world.content m (word_in types f p)))
              (λ same. subst (IsOwnerTold (FactsAt sigs types f q) (located p) true) (sym same.1)
              (unique_told sigs types f place (Call target g xs) (FactsAt sigs types f b) (FactsAt sigs types f q) right.closed (located p) (had_at st.world.content m (word_in types f p)) (unwritten_unique_at p m same.0 unique) (known_at.told p m same.0 unique)))
              (behind.had p m named unique)

          taken_safe : OnNext (taken_back s types f target xs vs (left w)) (IsTaken types f inputs (FactsAt sigs types f q) st)
          taken_safe = go (taken_back s types f target xs vs (left w)) taken_all
            where
              by_case : (after : State) → IsBehind types f inputs Left Given Taken st after → ((m : ℕ) → Loose m → IsLoose types inputs (named_in after.cells) after.world.content m) → (m : ℕ) → Left m → MayLack types f inputs (FactsAt sigs types f q) after m
              by_case after behind loose m (inl lacks) = lacks_on types f rest inputs (FactsAt sigs types f b) st sigs number place (FactsAt sigs types f q) (Call target g xs) right Left Given Taken after behind m (still m lacks)
              by_case after behind loose m (inr l) = inr (loose m (l.0, (let z = l.1 in omega (arith, z)), l.2))

              go : (e : Effect) → OnNext e (IsCalled types f inputs (FactsAt sigs types f q) Left Given Taken Loose st) → OnNext e (IsTaken types f inputs (FactsAt sigs types f q) st)
              go (Next after) t = (
                t.0,
                (
                  but_more types Left (MayLack types f inputs (FactsAt sigs types f q) after) after.world.content (by_case after t.1.0 t.1.1) t.1.0.buffered,
                  behind_more types f inputs Left Given Taken any_local any_local any_location st after (λ m c. tt) (λ y c. tt) (λ y c. tt) t.1.0,
                  told after t.1.0,
                ),
              )
              go (Traps kind) t = tt
              go (Faults kind) t = tt
              go Strays t = tt

        returned : x.next ≡ Some q → (r : Called) → GoodCalled types gf (λ j. times (named_in (lent types f xs st).cells) j + rest j) st.world.content r → SafeCalled types gf (entry_inputs types gf st.world.content over) (named_in over) st.world.content r
            → SafeAnswer sigs types f rest inputs before given x (came_back s types f place target xs st r)
        returned next (Barred kind) good h = tt
        returned next (Quit stop w) good h = h
        returned next (Back m w vs) good h =
            paid_good (IsSafeAt sigs types f rest inputs before given) (IsLeftSafe sigs types f rest inputs before given) IsSafeStop tt place w x (taken_back s types f target xs vs (left w)) m
            (subst (λ (to : Option ℕ). GoodEffect (IsSafeAt sigs types f rest inputs before given) IsSafeStop place to (taken_back s types f target xs vs (left w))) (sym next)
            (effect_good types ordered once some names texts fs f formed points ready short kept spoken sigs number none rest inputs before given hand store s b q place (Call target g xs) st lead inv (taken_back s types f target xs vs (left w))
            (call_goes types f rest inputs (FactsAt sigs types f q) (bits_past types f (Action (Call target g xs)) (ready_of st)) st w (taken_back s types f target xs vs (left w)) inv.safe.sound.stands.store inv.safe.given
            (callers.taken_gives types ordered once some names texts fs f formed points ready rest before s call callees kept b place target g xs x here n st sound_at gf is args own into w vs
            (subst (λ (u : World). GoodCalled types gf waiting u.content (Back 0 w vs)) (sym left_world) good)) waits (taken_safe w vs good h))))
          where
            waits : KeepsWaiting types rest st.world.content w.content
            waits = keeps_more types (λ j. waiting j ≡ 0) (λ j. rest j ≡ 0) st.world.content w.content (λ j z. omega (arith, z)) good.1

        called_at : x.next ≡ Some q → SafeAnswer sigs types f rest inputs before given x (act s types f call place (Call target g xs) n st)
        called_at next =
            subst (λ (o : Option (List Cell)). SafeAnswer sigs types f rest inputs before given x (came_back s types f place target xs st (call_with call g.0 o n (lent types f xs st).world))) (sym handed_all)
            (subst (λ (w : World). SafeAnswer sigs types f rest inputs before given x (came_back s types f place target xs st (call g.0 over n w))) (sym left_world)
            (returned next (call g.0 over n st.world) (callees g.0 gf waiting over n st.world is handed_taken over_store) (safe g.0 gf waiting over n st.world is handed_suit over_store (but_more types (MayLack types f inputs (FactsAt sigs types f b) st) (IsLoose types (entry_inputs types gf st.world.content over) (named_in over) st.world.content) st.world.content given_whole inv.safe.buffered) inputs_given handed_passed)))

      called : SafeAnswer sigs types f rest inputs before given x (act s types f call place (Call target g xs) n st)
      called = by_next x.next refl
        where
          by_next : (to : Option ℕ) → x.next ≡ to → SafeAnswer sigs types f rest inputs before given x (act s types f call place (Call target g xs) n st)
          by_next None e =
              absurd (false≢true (ready.leads_on b (ready_of st) (record { spot = spot_at place (Action (Call target g xs)); leads = goes None }) inv.reached
              (subst (λ (to : Option ℕ). numbered (code_of f) b ≡ Some (record { spot = spot_at place (Action (Call target g xs)); leads = goes to })) e here)).0)
          by_next (Some q) e = called_at q (subst (λ (to : Option ℕ). numbered (code_of f) b ≡ Some (record { spot = spot_at place (Action (Call target g xs)); leads = goes to })) e here) e

    by_function : (o : Option Function) → slice_get fs g.0 ≡ o → is_call types texts fs f o target xs ≡ true → SafeAnswer sigs types f rest inputs before given x (act s types f call place (Call target g xs) n st)
    by_function None is e = absurd (false≢true e)
    by_function (Some gf) is e =
        let outer = and_parts (are_arguments_for types texts fs f (types_taken gf) xs) _ e in
        let inner = and_parts (have_own_slots types texts fs f xs) (goes_to types texts fs f (ty_of types gf.result) target) outer.1 in
        called gf is outer.0 inner.0 inner.1

  pub calls_safe : CallsAreSafe sigs types f rest inputs before given s call
  calls_safe b place target g xs x here n st inv =
      by_function b place target g xs x here n st inv (slice_get fs g.0) refl (points b (record { spot = spot_at place (Action (Call target g xs)); leads = goes x.next }) here)
