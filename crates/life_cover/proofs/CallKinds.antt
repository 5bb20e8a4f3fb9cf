-- A call of a frame that hands over no slot: the facts behind it cover all pointers of the frame, the result among them.
use Rattle.std.proofs.Common.{◌≡◌, ◌≢◌, ◌⊎◌, inl, inr, ⊎_elim, ℕ, ◌+◌, ◌≤◌, ◌<◌, true, false, List, [], ◌∷◌, length, Option, Some, None, refl, sym, ap, subst, ◌∙◌, arith}
use Rattle.std.specs.Prelude.{Contains, flat_map, slice_get, ◌&&◌}
use Rattle.std.proofs.lemmas.Bool.{false≢true, ne_eqb}
use Rattle.std.proofs.lemmas.List.Elements.{Contains-append_right}
use Rattle.life_types.specs.Pointees.{ty_of}
use Rattle.life_types.specs.TypeTests.{is_pointer, is_unique}
use Rattle.life_types.specs.Types.{Types}
use Rattle.life_types.specs.declared.place.Place.{Place}
use Rattle.life_core.specs.declared.program.FnId.{FnId}
use Rattle.life_core.specs.declared.program.Local.{Local}
use Rattle.life_core.specs.Function.{Function}
use Rattle.life_core.specs.Operands.{Argument, GivenOver, Location, PointerOf, Slot, Value}
use Rattle.life_core.specs.Operands as operands
use Rattle.life_core.specs.Step.{Call}
use Rattle.life_pset.specs.Elements.{local_place, locations_of}
use Rattle.life_pset.specs.Places.{begins, path}
use Rattle.life_pset.specs.Shapes as shapes
use Rattle.life_pset.specs.declared.element.Fact.{Fact}
use Rattle.life_pset.specs.contracts.element.RootPartialEq.TheImpl.{ghosts as compared}
use Rattle.life_pset.specs.declared.element.Root.{Root}
use Rattle.life_pset.specs.declared.element.Root.TheVariants as root
use Rattle.life_contract.specs.Signatures.{Signature, signature_of}
use Rattle.life_proper.specs.GivenOver.{given_argument}
use Rattle.life_proper.specs.Placed.{is_slot_local, slot_at, type_at, type_in}
use Rattle.life_proper.specs.WellFormedPrograms.{is_result_of}
use Rattle.life_rules.specs.Calling.{is_in_target}
use Rattle.life_rules.proofs.Giving.{at_head}
use Rattle.life_store.specs.Cells.{at}
use Rattle.life_store.specs.Calls.{given_if, lent, number_handed, object_handed, pointer_handed, result_given, slots_returned}
use Rattle.life_store.specs.Content.{Content}
use Rattle.life_store.specs.Effects.{Effect, Next, Setting, cell, put_cell}
use Rattle.life_store.specs.Places.{location_cell, member_cell}
use Rattle.life_store.specs.State.{Cell, Empty, Named, Number, Pointer, Points, State, World, is_there}
use Rattle.life_store.proofs.CellLemmas.{cell_cases, none_some, some_same}
use Rattle.life_store.proofs.MapLemmas.{one_or_apart}
use Rattle.life_forest.specs.Forest.{Beneath, Foot, Touches, part, under, whole}
use Rattle.life_forest.specs.Frames.{OnNext, named_in}
use Rattle.life_forest.specs.Kinds.{kinds_of}
use Rattle.life_forest.specs.Owned.{every, times}
use Rattle.life_forest.proofs.Below.{no_part}
use Rattle.life_forest.proofs.Counting.{one_same, one_there}
use Rattle.life_forest.proofs.Feet.{within_self}
use Rattle.life_forest.proofs.Following.{in_hand}
use Rattle.life_forest.proofs.Frames.{first_named}
use Rattle.life_forest.proofs.HandedOver.{HandEach, IsHandedTo}
use Rattle.life_forest.proofs.Shaped.{IsShaped}
use Rattle.life_forest.proofs.Steps.{alive_le, touches_then}
use Rattle.life_cover.specs.Buffered.{AreBut}
use Rattle.life_cover.specs.Frames.{FrameCovered, RootStands, look_at, look_in, look_of}
use Rattle.life_cover.specs.Inputs.{StandsAt, entry_inputs, foot_with, frame_foot, may_change, mutated}
use Rattle.life_cover.specs.Covers.{IsCovered}
use Rattle.life_cover.specs.Kills.{IsUnnamed}
use Rattle.life_cover.specs.Lacking.{IsLoose, IsSpared}
use Rattle.life_cover.specs.Passed.{ArePromised, IsPromised}
use Rattle.life_cover.proofs.Arguments.{AreAimedBy, AreSlotless}
use Rattle.life_cover.proofs.Behind.{IsBehind}
use Rattle.life_cover.proofs.CallCovers.{call_covered, call_spares}
use Rattle.life_cover.proofs.CalledUniques.{had_called}
use Rattle.life_cover.proofs.GivenValues.{IsFilled, IsGiven, value_given}
use Rattle.life_cover.proofs.KnownFrames.{IsKnownFrame, IsRight, hand_of, object_named, store_of}
use Rattle.life_cover.proofs.Locals.{two_named}
use Rattle.life_cover.proofs.Looks.{TakesAll}
use Rattle.life_cover.proofs.Owning.{named_at}
use Rattle.life_cover.proofs.PromisedResults.{result_covered}
use Rattle.life_cover.proofs.ResultParts.{part_covered}
use Rattle.life_cover.proofs.Putting.{set_other}
use Rattle.life_cover.proofs.Unkilled.{no_foot}
use Rattle.life_cover.specs.Regions.{Region}
use Rattle.life_cover.specs.Uniques.{had_at, word_in}
use Rattle.life_contract.specs.Located.{located}
use Rattle.life_cover.proofs.CalledPointers.{called_before}
use Rattle.life_cover.proofs.HeldCells.{put_held}
use Rattle.life_cover.proofs.Unkept.{members_root}

-- ---- the calls that are spoken of

-- the result goes to no slot
abbrev pub IsPlainTarget : Types → Function → Option Location → Type 0
IsPlainTarget types f None = Unit {0}
IsPlainTarget types f (Some l) = slot_at types f l.local ≡ false

-- the facts cover all pointers behind it, what it touched lies beneath what the frame named or is an owner behind a mutating input, and nobody comes
-- to what the callee left so
abbrev pub IsCalled : Types → Function → (inputs : Root → Option Region) → (S' : Fact → Type 0) → (bare over : ℕ → Type 0) (lost : Location → Type 0) (loose : ℕ → Type 0) → State → State → Type 0
IsCalled types f inputs S' bare over lost loose st after = FrameCovered types f inputs S' after × (IsBehind types f inputs bare over lost st after × ((n : ℕ) → loose n → IsLoose types inputs (named_in after.cells) after.world.content n))

-- ---- what is handed over

module _ (types : Types) (f : Function) (st : State) where
  -- a number names nothing
  number_nameless : (o : Option Cell) (v : Cell) → number_handed o ≡ Some v → (n : ℕ) → 0 < times (named_in (v ∷ [])) n → ⊥
  number_nameless None v e n lt = none_some e
  number_nameless (Some Empty) v e n lt = none_some e
  number_nameless (Some (Named m)) v e n lt = none_some e
  number_nameless (Some (Number z)) v e n lt = let k = ap (λ (u : Cell). times (named_in (u ∷ [])) n) (some_same e) in omega (arith, k, lt)
  number_nameless (Some (Points p)) v e n lt = none_some e

  -- an object is named by the local that is given over
  object_names : (o : Option Cell) (v : Cell) → object_handed o ≡ Some v → (n : ℕ) → 0 < times (named_in (v ∷ [])) n → o ≡ Some (Named n)
  object_names None v e n lt = absurd (none_some e)
  object_names (Some Empty) v e n lt = absurd (none_some e)
  object_names (Some (Named m)) v e n lt = let k = ap (λ (u : Cell). times (named_in (u ∷ [])) n) (some_same e) in ap (λ (j : ℕ). Some (Named j)) (one_there m n (omega (arith, k, lt)))
  object_names (Some (Number z)) v e n lt = absurd (none_some e)
  object_names (Some (Points p)) v e n lt = absurd (none_some e)

  -- a pointer names nothing
  pointer_nameless : (o : Option Cell) (v : Cell) → pointer_handed o ≡ Some v → (n : ℕ) → 0 < times (named_in (v ∷ [])) n → ⊥
  pointer_nameless None v e n lt = none_some e
  pointer_nameless (Some Empty) v e n lt = none_some e
  pointer_nameless (Some (Named m)) v e n lt = none_some e
  pointer_nameless (Some (Number z)) v e n lt = none_some e
  pointer_nameless (Some (Points p)) v e n lt = let k = ap (λ (u : Cell). times (named_in (u ∷ [])) n) (some_same e) in omega (arith, k, lt)

  -- what is handed over is named by a local that is given over
  pub given_named : (xs : List Argument) (vs : List Cell) → AreSlotless xs → HandEach types f st xs vs → (n : ℕ) → 0 < times (named_in vs) n → (x : ℕ) × Contains (flat_map given_argument xs) x × (cell st x ≡ Some (Named n))
  given_named [] [] plain each n lt = absurd (omega (arith, lt))
  given_named [] (v ∷ vs) plain each n lt = absurd each
  given_named (x ∷ xs) [] plain each n lt = absurd each
  given_named (Value r ∷ xs) (v ∷ vs) plain each n lt = one_or_apart (times (named_in (v ∷ [])) n) 0
      (λ z. given_named xs vs plain.1 each.1 n (let a = first_named v vs n in omega (arith, a, z, lt)))
      (λ nz. absurd (number_nameless (cell st r) v each.0 n (omega (arith, nz))))
  given_named (GivenOver x ∷ xs) (v ∷ vs) plain each n lt = one_or_apart (times (named_in (v ∷ [])) n) 0
      (λ z. let r = given_named xs vs plain.1 each.1 n (let a = first_named v vs n in omega (arith, a, z, lt)) in (r.0, Contains-append_right (x ∷ []) (flat_map given_argument xs) r.0 r.1, r.2))
      (λ nz. (x, at_head x (flat_map given_argument xs), object_names (cell st x) v each.0 n (omega (arith, nz))))
  given_named (PointerOf l ∷ xs) (v ∷ vs) plain each n lt = one_or_apart (times (named_in (v ∷ [])) n) 0
      (λ z. given_named xs vs plain.1 each.1 n (let a = first_named v vs n in omega (arith, a, z, lt)))
      (λ nz. absurd (pointer_nameless (location_cell types f l st) v each.0 n (omega (arith, nz))))
  given_named (Slot l ∷ xs) (v ∷ vs) plain each n lt = absurd plain.0

  -- all other names stay
  pub lent_stays : (xs : List Argument) (vs : List Cell) → AreSlotless xs → HandEach types f st xs vs → (y n : ℕ) → cell st y ≡ Some (Named n) → times (named_in vs) n ≡ 0 → (st' : State) → cell st' y ≡ Some (Named n) → cell (lent types f xs st') y ≡ Some (Named n)
  lent_stays [] [] plain each y n was none st' e = e
  lent_stays [] (v ∷ vs) plain each y n was none st' e = absurd each
  lent_stays (x ∷ xs) [] plain each y n was none st' e = absurd each
  lent_stays (Value r ∷ xs) (v ∷ vs) plain each y n was none st' e = lent_stays xs vs plain.1 each.1 y n was (let a = first_named v vs n in omega (arith, a, none)) st' e
  lent_stays (GivenOver x ∷ xs) (v ∷ vs) plain each y n was none st' e =
      lent_stays xs vs plain.1 each.1 y n was (let a = first_named v vs n in omega (arith, a, none)) (put_cell x Empty st')
      (one_or_apart x y (λ same. absurd (clash same)) (λ ne. set_other st'.cells x y Empty ne ∙ e))
    where
      clash : x ≡ y → ⊥
      clash same =
          let is : v ≡ Named n = some_same (sym each.0 ∙ ap object_handed (ap (cell st) same ∙ was)) in
          let k = ap (λ (u : Cell). times (named_in (u ∷ [])) n) is in
          let a = first_named v vs n in
          let s = one_same n n refl in
          omega (arith, k, a, s, none)
  lent_stays (PointerOf l ∷ xs) (v ∷ vs) plain each y n was none st' e = lent_stays xs vs plain.1 each.1 y n was (let a = first_named v vs n in omega (arith, a, none)) st' e
  lent_stays (Slot l ∷ xs) (v ∷ vs) plain each y n was none st' e = absurd plain.0

  -- no slot has anything back
  pub nothing_returned : (xs : List Argument) → AreSlotless xs → (vs : List Cell) (st' : State) → slots_returned types f xs vs st' ≡ Next st'
  nothing_returned [] plain vs st' = refl
  nothing_returned (Value r ∷ xs) plain vs st' = nothing_returned xs plain.1 vs st'
  nothing_returned (GivenOver x ∷ xs) plain vs st' = nothing_returned xs plain.1 vs st'
  nothing_returned (PointerOf l ∷ xs) plain vs st' = nothing_returned xs plain.1 vs st'
  nothing_returned (Slot l ∷ xs) plain vs st' = absurd plain.0

-- no fact points into what is given over
pub given_object : (types : Types) (f : Function) (rest : ℕ → ℕ) (inputs : Root → Option Region) (S : Fact → Type 0) (st : State) (k : IsKnownFrame types f rest inputs S st) (sigs : List Signature) (number : ℕ) (place : Place) (S' : Fact → Type 0) (target : Option Location) (g : FnId) (xs : List Argument)
    → IsRight sigs types number f place (Call target g xs) S S' → (values : List Cell) → AreSlotless xs → HandEach types f st xs values → (m : ℕ) → 0 < times (named_in values) m → (x : ℕ) × (cell st x ≡ Some (Named m)) × IsUnnamed S x
given_object types f rest inputs S st k sigs number place S' target g xs right values plain each m lt =
    let h = given_named types f st xs values plain each m lt in (h.0, h.2, right.given h.0 (object_named types f rest inputs S st k h.0 m h.2) h.1)

-- ---- the facts behind it

module _ (types : Types) (f : Function) (rest : ℕ → ℕ) (inputs : Root → Option Region) (S : Fact → Type 0) (st : State) (k : IsKnownFrame types f rest inputs S st) (sigs : List Signature) (number : ℕ) (place : Place) (S' : Fact → Type 0) (target : Option Location) (g : FnId) (xs : List Argument)
    (right : IsRight sigs types number f place (Call target g xs) S S') (values : List Cell) (gf : Function) (at_g : slice_get sigs g.0 ≡ Some (signature_of gf)) (shaped : IsShaped types gf) (aims : AreAimedBy types f inputs S st xs gf values)
    (plain : AreSlotless xs) (each : HandEach types f st xs values) (few : length (locations_of types gf) ≤ 256) where
  -- what is given over
  abbrev pub IsOver : ℕ → Type 0
  IsOver y = Contains (flat_map given_argument xs) y

  -- what is given the result
  abbrev pub IsTarget : Location → Type 0
  IsTarget q = (l : Location) × (target ≡ Some l) × (l.members ≡ []) × (l.local ≡ q.local)

  -- what the callee may touch
  abbrev pub callee_foot : Foot
  callee_foot = foot_with types (mutated types gf (entry_inputs types gf st.world.content values)) (named_in values)

  -- some cells are empty while it runs, and what is handed over isn't named meanwhile
  module _ (less : (y : ℕ) (v : Cell) → is_there v ≡ true → cell (lent types f xs st) y ≡ Some v → cell st y ≡ Some v) (hand : (j : ℕ) → times (named_in (lent types f xs st).cells) j + times (named_in values) j ≡ times (named_in st.cells) j)
      (w : World) (touch : Touches (kinds_of types) (foot_with types (mutated types gf (entry_inputs types gf st.world.content values)) (named_in values)) st.world.content w.content) (bare : ℕ → Type 0) (buffered : AreBut types bare w.content) (vs : List Cell) where
    -- what nobody comes to then
    abbrev pub LeftLoose : ℕ → Type 0
    LeftLoose n = IsLoose types (entry_inputs types gf st.world.content values) (named_in vs) w.content n × (times (named_in (lent types f xs st).cells) n ≡ 0) × IsSpared inputs n

    abbrev back : State
    back = record { world = w; cells = (lent types f xs st).cells }

    spares : (d : Content) → Touches (kinds_of types) (foot_with types (mutated types gf (entry_inputs types gf st.world.content values)) (named_in values)) st.world.content d → Touches (kinds_of types) (frame_foot types f inputs st.cells) st.world.content d
    spares = call_spares types f rest inputs S st k sigs number place S' target g xs right values gf at_g shaped aims (given_object types f rest inputs S st k sigs number place S' target g xs right values plain each)

    -- .. and of unique_ptrs none that is named then
    had : (d : Content) → Touches (kinds_of types) (foot_with types (mutated types gf (entry_inputs types gf st.world.content values)) (named_in values)) st.world.content d
        → (q : Location) (m : ℕ) → cell (lent types f xs st) q.local ≡ Some (Named m) → is_unique (type_in types f q) ≡ true → had_at d m (word_in types f q) ≡ had_at st.world.content m (word_in types f q)
    had = had_called types f rest inputs S st k gf xs values aims less hand

    -- what isn't given over is named still
    pub stay : (y m : ℕ) → cell st y ≡ Some (Named m) → times (named_in values) m ≡ 0 → cell (record { world = w; cells = (lent types f xs st).cells }) y ≡ Some (Named m)
    stay y m was none = lent_stays types f st xs values plain each y m was none st was

    -- .. or was given over
    still_named : (after : State) → ((y m : ℕ) → cell st y ≡ Some (Named m) → times (named_in values) m ≡ 0 → cell after y ≡ Some (Named m)) → (y m : ℕ) → cell st y ≡ Some (Named m) → IsOver y ⊎ (cell after y ≡ Some (Named m))
    still_named after stays y m was = one_or_apart (times (named_in values) m) 0 (λ z. inr (stays y m was z)) (λ nz. inl (over (given_named types f st xs values plain each m (omega (arith, nz)))))
      where
        over : (x : ℕ) × Contains (flat_map given_argument xs) x × (cell st x ≡ Some (Named m)) → IsOver y
        over o = subst IsOver (one_or_apart o.0 y (λ same. same) (λ ne. absurd (twice o.0 ne o.2))) o.1
          where
            twice : (x : ℕ) → x ≢ y → cell st x ≡ Some (Named m) → ⊥
            twice x ne named =
                let two = two_named st.cells x y m ne named was in
                let held = (store_of types f rest inputs S st k).forest.held m in
                let alive = alive_le (kinds_of types) st.world.content m in
                omega (arith, two, held, alive)

    -- what is loose then is so where no more is named
    loose_still : (after : State) → after.world.content ≡ w.content → ((y m : ℕ) → cell after y ≡ Some (Named m) → cell (lent types f xs st) y ≡ Some (Named m)) → (n : ℕ) → LeftLoose n → IsLoose types inputs (named_in after.cells) after.world.content n
    loose_still after same old n loose = subst (λ (d : Content). IsLoose types inputs (named_in after.cells) d n) (sym same) (record {
      born = loose.0.born;
      unnamed = one_or_apart (times (named_in after.cells) n) 0 (λ z. z) (λ nz. let y = named_at after.cells n (omega (arith, nz)) in let e = in_hand (lent types f xs st).cells y.0 n (old y.0 n y.1) in let none = loose.1 in absurd (omega (arith, e, none)));
      spared = loose.2;
      unowned = loose.0.unowned;
    })

    -- what the callee left is behind what was there
    pub left_behind : IsBehind types f inputs bare IsOver IsTarget st (record { world = w; cells = (lent types f xs st).cells })
    left_behind = record {
      buffered = buffered;
      touch = spares w.content touch;
      named = λ y m e. inl (in_hand st.cells y m (less y (Named m) refl e));
      kept = λ y m was. still_named back stay y m was;
      had = λ q m e unique. inr (less q.local (Named m) refl e, had w.content touch q m e unique);
    }

    pub nothing_taken : target ≡ None → IsCalled types f inputs S' bare IsOver IsTarget LeftLoose st (record { world = w; cells = (lent types f xs st).cells })
    nothing_taken none = (
      call_covered types f rest inputs S st k sigs number place S' target g xs right values gf at_g shaped aims (given_object types f rest inputs S st k sigs number place S' target g xs right values plain each) back touch stay
          (λ q p pointer e. inl (called_before types f rest inputs S st k gf xs values aims less hand w.content touch q p pointer e, ap (λ (t : Option Location). is_in_target t (located q)) none)),
      (left_behind, loose_still back refl (λ y m e. e)),
    )

    -- a local that names nothing is given what comes back, which was handed over or is new
    module _ (l : Location) (into : target ≡ Some l) (none : l.members ≡ []) (slotless : slot_at types f l.local ≡ false) (nameless : (m : ℕ) → cell st l.local ≡ Some (Named m) → ⊥) where
      outside : (q : Location) → l.local ≢ q.local → is_in_target target (located q) ≡ false
      outside q ne =
          ap (λ (t : Option Location). is_in_target t (located q)) into
          ∙ ap (λ (ro : Root). compared.eq ro (located q).root && begins (path (located l)) (path (located q))) (members_root l.members (local_place l.local))
          ∙ ap (λ (ro : Root). compared.eq (root.Local l.local) ro && begins (path (located l)) (path (located q))) (members_root q.members (local_place q.local))
          ∙ ap (λ b. b && begins (path (located l)) (path (located q))) (ne_eqb l.local q.local ne)

      -- a number or an object
      module _ (v : Cell) (names : (j : ℕ) → v ≡ Named j → (0 < times (named_in values) j) ⊎ (st.world.content.births ≤ j)) (among : (j : ℕ) → v ≡ Named j → 0 < times (named_in vs) j) (pointless : (p : Pointer) → v ≡ Points p → ⊥)
          (typed : shapes.local_type types f l.local ≡ Some gf.result) (formed : is_result_of types gf.result (slice_get types.types gf.result.0) (slice_get gf.locals gf.parameters) ≡ true) (first : slice_get vs 0 ≡ Some v) (suits : IsHandedTo types w.content gf.result v)
          (promised : ArePromised types gf (entry_inputs types gf st.world.content values) w.content vs) where
        taken : (after : State) → IsGiven types bare l.local v (record { world = w; cells = (lent types f xs st).cells }) after → IsCalled types f inputs S' bare IsOver IsTarget LeftLoose st after
        taken after h = (
          call_covered types f rest inputs S st k sigs number place S' target g xs right values gf at_g shaped aims (given_object types f rest inputs S st k sigs number place S' target g xs right values plain each) after both stays
              (λ q p pointer e. one_or_apart l.local q.local (λ same. inr (inside q p pointer e same)) (λ ne. inl (before q p pointer e ne, outside q ne))),
          (
            record {
              buffered = h.buffered;
              touch = spares after.world.content both;
              named = λ y m e. ⊎_elim
                  (λ old. inl (in_hand st.cells y m (less y (Named m) refl old)))
                  (λ other. ⊎_elim
                  (λ is. ⊎_elim (λ lt. inl (let a = hand m in omega (arith, a, lt))) (λ new. inr new) (names m is))
                  (λ new. inr (let b = touch.births in omega (arith, b, new))) other)
                  (h.named y m e);
              kept = λ y m was. still_named after stays y m was;
              had = λ q m e unique. one_or_apart l.local q.local (λ same. inl (l, into, none, same))
                  (λ ne. let old = sym (h.stays q.local ne) ∙ e in inr (less q.local (Named m) refl old, had after.world.content both q m old unique));
            },
            λ n loose. record {
              born = let b = h.touch.births in let l = loose.0.born in omega (arith, b, l);
              unnamed = one_or_apart (times (named_in after.cells) n) 0 (λ z. z) (λ nz. absurd (named_then n loose (omega (arith, nz))));
              spared = loose.2;
              unowned = λ m own. ⊎_elim (λ low. nothing_beneath n low) (λ old. loose.0.unowned m old) (h.touch.back every m n loose.0.born own);
            },
          ),
        )
          where
            both : Touches (kinds_of types) (foot_with types (mutated types gf (entry_inputs types gf st.world.content values)) (named_in values)) st.world.content after.world.content
            both =
                touches_then (kinds_of types) (hand_of rest st) st.world.content (store_of types f rest inputs S st k).forest callee_foot no_foot callee_foot w.content after.world.content touch h.touch
                (within_self (kinds_of types) st.world.content callee_foot) (record { whole = λ n lt e. absurd (false≢true e); part = λ m lt. inr (λ u e. absurd (false≢true e)) })

            stays : (y m : ℕ) → cell st y ≡ Some (Named m) → times (named_in values) m ≡ 0 → cell after y ≡ Some (Named m)
            stays y m was none = h.stays y (λ same. nameless m (ap (cell st) same ∙ was)) ∙ stay y m was none

            -- the pointers in what comes back are as the callee promises
            inside : (q : Location) (p : Pointer) → is_pointer (type_in types f q) ≡ true → location_cell types f q after ≡ Some (Points p) → l.local ≡ q.local → IsCovered types after.world.content (RootStands types f (StandsAt inputs) after.cells) (may_change types f) S' (located q) (look_in types f q) p
            inside q p pointer e same = go q.members refl
              where
                go : (ms : List ℕ) → q.members ≡ ms → IsCovered types after.world.content (RootStands types f (StandsAt inputs) after.cells) (may_change types f) S' (located q) (look_in types f q) p
                go [] whole_q = absurd (⊎_elim (λ new. pointless p new.1) (λ was. was.0 same) (h.points q.local p (ap (λ (ms : List ℕ). member_cell types f q.local ms (cell after q.local) after.world.content) (sym whole_q) ∙ e)))
                go (m ∷ ms) some =
                    part_covered types f rest inputs S st k sigs number place S' target g xs right values gf at_g shaped aims (given_object types f rest inputs S st k sigs number place S' target g xs right values plain each) few formed w.content vs promised after both stays l into none typed v first suits
                    h.object (λ y j ne at_y. object_named types f rest inputs S st k y j (less y (Named j) refl (sym (h.stays y ne) ∙ at_y))) q p same m ms some pointer e

            before : (q : Location) (p : Pointer) → is_pointer (type_in types f q) ≡ true → location_cell types f q after ≡ Some (Points p) → l.local ≢ q.local → location_cell types f q st ≡ Some (Points p)
            before q p pointer e ne =
                called_before types f rest inputs S st k gf xs values aims less hand after.world.content both q p pointer
                (ap (λ (x : Option Cell). member_cell types f q.local q.members x after.world.content) (sym (h.stays q.local ne)) ∙ e)

            nothing_beneath : (n : ℕ) → Beneath (kinds_of types) w.content no_foot n → ⊥
            nothing_beneath n (whole _ e) = false≢true e
            nothing_beneath n (part q _ own) = let z = no_part (kinds_of types) (at w.content.objects q) n in omega (arith, z, own)
            nothing_beneath n (under q _ low own) = nothing_beneath q low

            named_then : (n : ℕ) → LeftLoose n → 0 < times (named_in after.cells) n → ⊥
            named_then n loose lt =
                let y = named_at after.cells n lt in
                ⊎_elim (λ old. let e = in_hand (lent types f xs st).cells y.0 n old in let none = loose.1 in omega (arith, e, none))
                (λ other. ⊎_elim (λ is. let e = among n is in let none = loose.0.unnamed in omega (arith, e, none)) (λ new. let b = loose.0.born in omega (arith, b, new)) other)
                (h.named y.0 n y.1)

        pub result_taken : (s : Setting) → IsFilled v → OnNext (result_given s types f l l.members v (record { world = w; cells = (lent types f xs st).cells })) (IsCalled types f inputs S' bare IsOver IsTarget LeftLoose st)
        result_taken s is =
            subst (λ (ms : List ℕ). OnNext (result_given s types f l ms v back) (IsCalled types f inputs S' bare IsOver IsTarget LeftLoose st)) (sym none)
            (each_next (result_given s types f l [] v back) (value_given types k.ordered s f l.local v back bare buffered is (λ lo m there e. ap (is_slot_local types f) (sym there) ∙ slotless)))
          where
            each_next : (e : Effect) → OnNext e (IsGiven types bare l.local v back) → OnNext e (IsCalled types f inputs S' bare IsOver IsTarget LeftLoose st)
            each_next (Next after) h = taken after h
            each_next _ h = tt

      -- a pointer, as the callee promises it
      module _ (p : Pointer) (pointer : is_pointer (type_at types f l.local) ≡ true) (result : is_pointer (ty_of types gf.result) ≡ true) (look : TakesAll types (look_at types f l.local) (look_of types (Some gf.result))) (promised : IsPromised types gf (entry_inputs types gf st.world.content values) w.content (Some gf.result) p) where
        abbrev after : State
        after = put_cell l.local (Points p) (record { world = w; cells = (lent types f xs st).cells })

        whole_is : target ≡ Some (operands.whole l.local)
        whole_is = into ∙ ap (λ (ms : List ℕ). Some (record { local = l.local; members = ms })) none

        lent_named : (y m : ℕ) → cell after y ≡ Some (Named m) → cell (lent types f xs st) y ≡ Some (Named m)
        lent_named y m e = ⊎_elim (λ h. absurd (unlike h.1)) (λ h. h.1) (cell_cases (lent types f xs st).cells l.local y (Points p) (Named m) e)
          where
            unlike : Points p ≡ Named m → ⊥
            unlike h = cc

        old_named : (y m : ℕ) → cell after y ≡ Some (Named m) → cell st y ≡ Some (Named m)
        old_named y m e = less y (Named m) refl (lent_named y m e)

        still : (y m : ℕ) → cell st y ≡ Some (Named m) → times (named_in values) m ≡ 0 → cell after y ≡ Some (Named m)
        still y m was none = set_other (lent types f xs st).cells l.local y (Points p) (λ same. nameless m (ap (cell st) same ∙ was)) ∙ stay y m was none

        covered : IsCovered types w.content (RootStands types f (StandsAt inputs) after.cells) (may_change types f) S' (local_place l.local) (look_at types f l.local) p
        covered =
            result_covered types f rest inputs S st k sigs number place S' target g xs right values gf at_g shaped aims (given_object types f rest inputs S st k sigs number place S' target g xs right values plain each) few (operands.whole l.local) whole_is [] refl (operands.whole l.local) refl pointer result look after touch still
            (λ y m e. object_named types f rest inputs S st k y m (old_named y m e)) p promised

        pointer_taken : IsCalled types f inputs S' bare IsOver IsTarget LeftLoose st after
        pointer_taken = (
          call_covered types f rest inputs S st k sigs number place S' target g xs right values gf at_g shaped aims (given_object types f rest inputs S st k sigs number place S' target g xs right values plain each) after touch still
              (λ y q pointer_y e. ⊎_elim
              (λ h. inr (subst (λ (z : Location). IsCovered types w.content (RootStands types f (StandsAt inputs) after.cells) (may_change types f) S' (located z) (look_in types f z) q) h.0
              (subst (IsCovered types w.content (RootStands types f (StandsAt inputs) after.cells) (may_change types f) S' (local_place l.local) (look_at types f l.local)) (same_pointer h.1) covered)))
              (λ h. inl (called_before types f rest inputs S st k gf xs values aims less hand w.content touch y q pointer_y h.1, outside y h.0))
              (put_held types f back l.local (Points p) unnamed y q e)),
          (
            record {
              buffered = buffered;
              touch = spares w.content touch;
              named = λ y m e. inl (in_hand st.cells y m (old_named y m e));
              kept = λ y m was. still_named after still y m was;
              had = λ q m e unique. inr (old_named q.local m e, had w.content touch q m (lent_named q.local m e) unique);
            },
            loose_still after refl lent_named,
          ),
        )
          where
            same_pointer : {u v : Pointer} → Points u ≡ Points v → u ≡ v
            same_pointer e = cc

            unnamed : (n : ℕ) → Points p ≡ Named n → ⊥
            unnamed n e = cc

        pub pointer_given : (s : Setting) → OnNext (result_given s types f l l.members (Points p) (record { world = w; cells = (lent types f xs st).cells })) (IsCalled types f inputs S' bare IsOver IsTarget LeftLoose st)
        pointer_given s = subst (λ (ms : List ℕ). OnNext (result_given s types f l ms (Points p) back) (IsCalled types f inputs S' bare IsOver IsTarget LeftLoose st)) (sym none) (by_local (slice_get f.locals l.local))
          where
            by_local : (o : Option Local) → OnNext (given_if s types f o (Points p) l.local back) (IsCalled types f inputs S' bare IsOver IsTarget LeftLoose st)
            by_local None = tt
            by_local (Some lo) = pointer_taken
