-- Where a function is left: its result and what stands in its slots, and that the frame that waits can have them back.
use Rattle.std.proofs.Common.{◌≡◌, inl, inr, ℕ, ◌+◌, ◌≤◌, ◌^◌, Bool, true, false, ◌&&◌, ◌||◌, not, if◌then◌else◌, List, [], ◌∷◌, ◌++◌, length, length-append, Option, Some, None, refl, sym, ap, subst, ◌∙◌, arith}
use Rattle.std.proofs.lemmas.Bool.{and_parts, false≢true}
use Rattle.std.specs.Prelude.{cond, flat_map, pos, slice_get}
use Rattle.life_types.specs.Pointees.{ty_of}
use Rattle.life_types.specs.TypeTests.{is_constant, is_pointer, is_value, is_void}
use Rattle.life_types.specs.Types.{Types, is_slot_at}
use Rattle.life_types.specs.declared.ty.Ty.{Ty}
use Rattle.life_types.specs.declared.ty.Ty.TheVariants as ty
use Rattle.life_types.specs.declared.ty.TyId.{TyId}
use Rattle.life_core.specs.declared.program.Local.{Local}
use Rattle.life_core.specs.Function.{Function, Program}
use Rattle.life_core.specs.Holdings.{result_sort}
use Rattle.life_core.specs.Linked.{Linked, code_of, no_exits, numbered, with_next}
use Rattle.life_core.specs.Operands.{Location}
use Rattle.life_core.specs.Proper.{IsNodeReady}
use Rattle.life_core.specs.Ready.{AreBits, Ready, set_bits}
use Rattle.life_core.specs.Step.{Call}
use Rattle.life_core.specs.Touched.{argument_leaves, argument_uses, by_members, if_object, target_births, target_uses}
use Rattle.life_core.specs.Tree.{Action, Return}
use Rattle.life_core.proofs.ReadyLemmas.{bits_left}
use Rattle.life_pset.specs.Shapes.{members_type, ty_if}
use Rattle.life_pset.specs.Shapes as shapes
use Rattle.life_proper.specs.OperandTypes.{are_alike, is_composed, keeps_const, same, takes}
use Rattle.life_proper.specs.Placed.{is_number, is_slot_local, object_at, register_at, slot_at, type_at, type_in}
use Rattle.life_proper.specs.WellFormed.{are_arguments_for, goes_to, have_own_slots, is_whole, types_taken}
use Rattle.life_proper.proofs.HeldSorts.{same_is}
use Rattle.life_proper.proofs.SortedNodes.{formed_parts}
use Rattle.life_store.specs.Calls.{given_back, lent, results, slot_count, slots_back}
use Rattle.life_store.specs.Content.{Content}
use Rattle.life_store.specs.Doing.{Setting, cell}
use Rattle.life_store.specs.Meaning.{Back, calls, value_in}
use Rattle.life_store.specs.Parts.{width_at}
use Rattle.life_store.specs.State.{Cell, Empty, Named, Number, Points, State, is_there, ready_of}
use Rattle.life_store.specs.declared.run.Growth.TheVariants.{Always}
use Rattle.life_store.proofs.CellLemmas.{some_same}
use Rattle.life_forest.specs.Frames.{named_in}
use Rattle.life_forest.specs.Owned.{times}
use Rattle.life_forest.specs.Settled.{KindsFit}
use Rattle.life_forest.proofs.BodiesGo.{IsSoundAt}
use Rattle.life_forest.proofs.CallersGo.{GoodCalled, begun_keeps, loan}
use Rattle.life_forest.proofs.CallsGo.{calls_good, left_gives}
use Rattle.life_forest.proofs.EnteredFrames.{GivesOn, composed_points, less_sound}
use Rattle.life_forest.proofs.EntryFrames.{as_many}
use Rattle.life_forest.proofs.GivenResults.{IsResult}
use Rattle.life_forest.proofs.GivenSlots.{named_append, slot_types, slots_given}
use Rattle.life_forest.proofs.HandedOver.{AreHandedTo, IsHandedTo}
use Rattle.life_forest.proofs.HeldPoints.{IsNext, IsSound, poised}
use Rattle.life_forest.proofs.HeldPointers.{pointers_aim}
use Rattle.life_forest.proofs.Keeping.{keeps_self, keeps_then}
use Rattle.life_forest.proofs.KeptSlots.{slots_kept}
use Rattle.life_forest.proofs.LaterFrames.{behind_sound}
use Rattle.life_forest.proofs.ReadyCells.{value_points}
use Rattle.life_forest.proofs.SettledPoints.{kinds_fit}
use Rattle.life_forest.proofs.SettlingPointers.{alike_points}
use Rattle.life_forest.proofs.Shaped.{IsShaped, locals_shaped}
use Rattle.life_forest.proofs.Slots.{slots_stay}
use Rattle.life_forest.proofs.SlotSorts.{IsSlotSort, slot_sort, taken_type}
use Rattle.life_forest.proofs.SlotsGo.{AreSlotsThere, slots_counted, slots_give}
use Rattle.life_forest.proofs.TypedSteps.{pointer_of}
use Rattle.life_cells.specs.Typed.{HoldsPointer}
use Rattle.life_interp.specs.CallOperands.{slot_values}
use Rattle.life_interp.specs.Returning.{Returning, TakesBack}
use Rattle.life_interp.specs.Sound.{AreSound, WaitsFor, in_waiting}
use Rattle.life_interp.specs.Walk.{Waiting}
use Rattle.life_interp.proofs.HeldPlaces.{pointer_held}
use Rattle.life_interp.proofs.SlotReturns.{IsFor, values_back}
use Rattle.life_interp.proofs.SoundCalls.{waiting_formed}
use Rattle.life_interp.proofs.SoundPrograms.{goes_well, members}

-- ---- lists that are cut in two

same_parts : {A : Type 0} (xs ys us vs : List A) → length xs ≡ length us → xs ++ ys ≡ us ++ vs → (xs ≡ us) × (ys ≡ vs)
same_parts [] ys [] vs n e = (refl, e)
same_parts [] ys (u ∷ us) vs n e = absurd (omega (arith, n))
same_parts (x ∷ xs) ys [] vs n e = absurd (omega (arith, n))
same_parts (x ∷ xs) ys (u ∷ us) vs n e =
    let more = same_parts xs ys us vs (omega (arith, n)) (tails e) in
    ((λ i. first e i ∷ more.0 i), more.1)
  where
    first : x ∷ (xs ++ ys) ≡ u ∷ (us ++ vs) → x ≡ u
    first e = cc

    tails : x ∷ (xs ++ ys) ≡ u ∷ (us ++ vs) → xs ++ ys ≡ us ++ vs
    tails e = cc

cut_alike : {A : Type 0} (xs ys us vs : List A) → length ys ≡ length vs → xs ++ ys ≡ us ++ vs → (xs ≡ us) × (ys ≡ vs)
cut_alike xs ys us vs n e = let a = length-append xs ys in let b = length-append us vs in let c = ap length e in same_parts xs ys us vs (omega (arith, a, b, c, n)) e

-- ---- what is told

-- no number stands in a slot
no_value : (types : Types) (c : Content) (ids : List TyId) (vs : List Cell) → AreHandedTo types c (slot_types types ids) vs → value_in vs ≡ pos 0
no_value types c [] [] suits = refl
no_value types c [] (v ∷ vs) suits = absurd suits
no_value types c (id ∷ ids) vs suits = go (is_slot_at types id) refl vs (no_value types c ids vs) suits
  where
    by_cell : is_slot_at types id ≡ true → (v : Cell) (more : List Cell) → IsHandedTo types c (taken_type types id) v → value_in (v ∷ more) ≡ pos 0
    by_cell slot Empty more h = refl
    by_cell slot (Named n) more h = refl
    by_cell slot (Points p) more h = refl
    by_cell slot (Number z) more h = by_sort (slot_sort types id slot)
      where
        by_sort : IsSlotSort (ty_of types (taken_type types id)) → z ≡ pos 0
        by_sort (inl pointer) = absurd (false≢true (sym (value_points (ty_of types (taken_type types id)) h) ∙ pointer))
        by_sort (inr u) = absurd (false≢true (ap is_value (sym u.1) ∙ h))

    go : (b : Bool) → is_slot_at types id ≡ b → (ws : List Cell) → (AreHandedTo types c (slot_types types ids) ws → value_in ws ≡ pos 0) → AreHandedTo types c (cond b (taken_type types id ∷ slot_types types ids) (slot_types types ids)) ws → value_in ws ≡ pos 0
    go false slot ws others h = others h
    go true slot [] others h = absurd h
    go true slot (v ∷ ws) others h = by_cell slot v ws h.0

told_of : (vs others : List Cell) → value_in others ≡ pos 0 → value_in (vs ++ others) ≡ value_in vs
told_of [] others none = none
told_of (Empty ∷ vs) others none = refl
told_of (Named n ∷ vs) others none = refl
told_of (Number z ∷ vs) others none = refl
told_of (Points p ∷ vs) others none = refl

-- ---- locations and types

whole_is : (m : Location) → is_whole m ≡ true → m.members ≡ []
whole_is m e = go m.members e
  where
    go : (ms : List ℕ) → is_whole (record { local = m.local; members = ms }) ≡ true → ms ≡ []
    go [] h = refl
    go (n ∷ ns) h = absurd (false≢true h)

-- nothing composed is a value
composed_value : (t : Ty) → is_composed t ≡ true → is_value t ≡ true → ⊥
composed_value t c v = go (is_void t) (is_value t) (is_pointer t) c v
  where
    go : (a b d : Bool) → not (a || (b || d)) ≡ true → b ≡ true → ⊥
    go true b d e h = false≢true e
    go false true d e h = false≢true e
    go false false d e h = false≢true h

pub any_setting : Setting
any_setting = record { given = record { growth = Always; cells = 0; depth = 0 }; texts = [] }

module _ (p : Program) (ws : List Waiting) (f : Function) (q : ℕ) (st : State) (sound : AreSound p ws f (Some q) st) (l : Linked) (here : numbered (code_of f) q ≡ Some l) (is : l.spot.node ≡ Return) where
  -- what a function gives back
  pub comes : GoodCalled p.types f (in_waiting ws) st.world.content (Back 0 st.world (results p.types f st))
  comes =
      let names = length p.names in
      let texts = length p.texts in
      let table = sound.proper.well_formed.table in
      let some = members p sound.proper in
      let all = goes_well p sound.proper in
      let two = all sound.own f sound.there in
      let none = calls_good any_setting p table sound.proper.well_formed.once some names texts all 0 in
      left_gives p.types table sound.proper.well_formed.once some names texts p.functions all any_setting (calls any_setting p 0) none f two (in_waiting ws) st.world.content 0 st
      (record {
        ready = subst (IsNodeReady p.types f (ready_of st)) is (two.ready.ready q (ready_of st) l sound.reached here);
        slots = slots_stay p.types table texts p.functions f names two.formed two.points q (ready_of st) sound.reached;
        sound = sound.sound;
        waits = keeps_self p.types (λ n. in_waiting ws n ≡ 0) st.world.content;
      })

  -- what stands in its slots
  slots_typed : AreHandedTo p.types st.world.content (slot_types p.types (types_taken f)) (slots_back p.types f 0 f.parameters st)
  slots_typed =
      let names = length p.names in
      let texts = length p.texts in
      let table = sound.proper.well_formed.table in
      let two = goes_well p sound.proper sound.own f sound.there in
      slots_given p.types f (locals_shaped p.types table names f (formed_parts p.types names texts p.functions f two.formed).locals) st
      (poised p.types table sound.proper.well_formed.once (members p sound.proper) names texts p.functions f two.formed two.points two.ready (in_waiting ws) st sound.sound) sound.sound.held
      (slots_stay p.types table texts p.functions f names two.formed two.points q (ready_of st) sound.reached)

  abbrev pub result : List Cell
  result = given_back (slice_get p.types.types f.result.0) (result_sort p.types f) (cell st f.parameters)

  -- what is told of the values is told of the result
  pub told_result : value_in (results p.types f st) ≡ value_in (given_back (slice_get p.types.types f.result.0) (result_sort p.types f) (cell st f.parameters))
  told_result = told_of result (slots_back p.types f 0 f.parameters st) (no_value p.types st.world.content (types_taken f) (slots_back p.types f 0 f.parameters st) slots_typed)

  -- the result is what the type of the result takes
  pub result_typed : IsResult p.types st.world.content f.result (given_back (slice_get p.types.types f.result.0) (result_sort p.types f) (cell st f.parameters))
  result_typed =
      let back = comes.2 in
      let parts = cut_alike result (slots_back p.types f 0 f.parameters st) back.first back.others
      (as_many p.types st.world.content (slot_types p.types (types_taken f)) (slots_back p.types f 0 f.parameters st) slots_typed ∙ sym (as_many p.types st.world.content (slot_types p.types (types_taken f)) back.others back.suit)) back.are in
      subst (IsResult p.types st.world.content f.result) (sym parts.0) back.given

-- ---- the frame that waits

module _ (p : Program) (v : Waiting) (vs : List Waiting) (f : Function) (q : ℕ) (st : State) (sound : AreSound p (v ∷ vs) f (Some q) st) (l : Linked) (here : numbered (code_of f) q ≡ Some l) (is : l.spot.node ≡ Return) where
  abbrev caller : WaitsFor p f vs v st.world.content
  caller = sound.waiting.0

  abbrev first : List Cell
  first = given_back (slice_get p.types.types f.result.0) (result_sort p.types f) (cell st f.parameters)

  -- its arguments are those that the parameters ask for, and its target takes the result
  args : are_arguments_for p.types (length p.texts) p.functions v.function (types_taken f) v.arguments ≡ true
  args = (and_parts (are_arguments_for p.types (length p.texts) p.functions v.function (types_taken f) v.arguments) _ (waiting_formed p v vs f q st sound l here is)).0

  both : (have_own_slots p.types (length p.texts) p.functions v.function v.arguments ≡ true) × (goes_to p.types (length p.texts) p.functions v.function (ty_of p.types f.result) v.target ≡ true)
  both = and_parts (have_own_slots p.types (length p.texts) p.functions v.function v.arguments) (goes_to p.types (length p.texts) p.functions v.function (ty_of p.types f.result) v.target)
      (and_parts (are_arguments_for p.types (length p.texts) p.functions v.function (types_taken f) v.arguments) _ (waiting_formed p v vs f q st sound l here is)).1

  pub slots_are : slots_back p.types f 0 f.parameters st ≡ slot_values st.cells 0 v.arguments
  slots_are = values_back p.types (length p.texts) p.functions v.function f st v.arguments args

  pub slots_many : length (slot_values st.cells 0 v.arguments) ≡ slot_count v.arguments
  slots_many =
      ap length (sym slots_are)
      ∙ as_many p.types st.world.content (slot_types p.types (types_taken f)) (slots_back p.types f 0 f.parameters st) (slots_typed p (v ∷ vs) f q st sound l here is)
      ∙ slots_counted p.types (length p.texts) p.functions v.function (types_taken f) v.arguments args

  given : IsResult p.types st.world.content f.result first
  given = result_typed p (v ∷ vs) f q st sound l here is

  pub result_for : IsFor v.target (given_back (slice_get p.types.types f.result.0) (result_sort p.types f) (cell st f.parameters))
  result_for = go v.target both.1 given
    where
      no_void : (t : Ty) (m : Location) → is_void t ≡ true → goes_to p.types (length p.texts) p.functions v.function t (Some m) ≡ true → ⊥
      no_void ty.Void m e h = false≢true (and_parts false (object_at p.types v.function m.local || is_number p.types v.function m.local) (and_parts (is_whole m) _ h).1).0
      no_void _ m e h = false≢true e

      go : (target : Option Location) → goes_to p.types (length p.texts) p.functions v.function (ty_of p.types f.result) target ≡ true → IsResult p.types st.world.content f.result first → IsFor target first
      go None e r = tt
      go (Some m) e (inl none) = absurd (no_void (ty_of p.types f.result) m none.0 e)
      go (Some m) e (inr r) = (r.0, r.1)

  -- ---- it is sound with all that comes back in the hand

  abbrev behind : State
  behind = record { world = st.world; cells = v.cells }

  abbrev before : State
  before = caller.before

  inv : IsSoundAt p.types v.function (in_waiting vs) before.world.content caller.point before
  inv = record { reached = caller.reached; sound = caller.sound; waits = keeps_self p.types (λ n. in_waiting vs n ≡ 0) before.world.content }

  shaped : IsShaped p.types v.function
  shaped =
      let names = length p.names in
      locals_shaped p.types sound.proper.well_formed.table names v.function (formed_parts p.types names (length p.texts) p.functions v.function (goes_well p sound.proper caller.own v.function caller.there).formed).locals

  kinds : KindsFit p.types v.function
  kinds =
      let one = goes_well p sound.proper caller.own v.function caller.there in
      kinds_fit p.types sound.proper.well_formed.table sound.proper.well_formed.once (members p sound.proper) (length p.names) (length p.texts) p.functions v.function one.formed one.points one.ready

  are : IsNodeReady p.types v.function (ready_of before) (Action (Call v.target caller.number v.arguments))
  are = (goes_well p sound.proper caller.own v.function caller.there).ready.ready caller.point (ready_of before) _ caller.reached caller.here

  used : AreBits true (ready_of before) (flat_map (argument_uses v.function) v.arguments)
  used = bits_left true (ready_of before) (flat_map (argument_uses v.function) v.arguments) (target_uses v.target) are.uses

  lent_fewer : (y : ℕ) (u : Cell) → is_there u ≡ true → slice_get (lent p.types v.function v.arguments before).cells y ≡ Some u → cell before y ≡ Some u
  lent_fewer y u there e =
      let one = goes_well p sound.proper caller.own v.function caller.there in
      let some = members p sound.proper in
      let none = calls_good any_setting p sound.proper.well_formed.table sound.proper.well_formed.once some (length p.names) (length p.texts) (goes_well p sound.proper) 0 in
      let borrow = loan p.types sound.proper.well_formed.table sound.proper.well_formed.once some (length p.names) (length p.texts) p.functions v.function one.formed one.points one.ready (in_waiting vs) before.world.content any_setting (calls any_setting p 0) none one.given
      caller.point v.place v.target caller.number v.arguments (with_next v.to no_exits) caller.here 0 before inv f caller.called args both.0 both.1 in
      borrow.cells y u there e

  lent_bits : ready_of (lent p.types v.function v.arguments before) ≡ set_bits false (flat_map (argument_leaves v.function) v.arguments) (ready_of before)
  lent_bits =
      let one = goes_well p sound.proper caller.own v.function caller.there in
      let some = members p sound.proper in
      let none = calls_good any_setting p sound.proper.well_formed.table sound.proper.well_formed.once some (length p.names) (length p.texts) (goes_well p sound.proper) 0 in
      let borrow = loan p.types sound.proper.well_formed.table sound.proper.well_formed.once some (length p.names) (length p.texts) p.functions v.function one.formed one.points one.ready (in_waiting vs) before.world.content any_setting (calls any_setting p 0) none one.given
      caller.point v.place v.target caller.number v.arguments (with_next v.to no_exits) caller.here 0 before inv f caller.called args both.0 both.1 in
      borrow.bits

  abbrev hand : ℕ → ℕ
  hand k = times (named_in first) k + in_waiting vs k

  whole_sound : IsSound p.types v.function (λ k. times (named_in (slot_values st.cells 0 v.arguments)) k + hand k) behind
  whole_sound =
      let good = comes p (v ∷ vs) f q st sound l here is in
      let begun = (lent p.types v.function v.arguments before).world.content in
      let rest = in_waiting vs in
      let some = members p sound.proper in
      let one = goes_well p sound.proper caller.own v.function caller.there in
      let none = calls_good any_setting p sound.proper.well_formed.table sound.proper.well_formed.once some (length p.names) (length p.texts) (goes_well p sound.proper) 0 in
      let keeps = begun_keeps p.types sound.proper.well_formed.table sound.proper.well_formed.once some (length p.names) (length p.texts) p.functions v.function one.formed one.points one.ready rest before.world.content any_setting (calls any_setting p 0) none one.given
      caller.point v.place v.target caller.number v.arguments (with_next v.to no_exits) caller.here 0 before inv f caller.called args both.0 both.1 (λ k. times (named_in v.cells) k + rest k ≡ 0) in
      less_sound p.types v.function (λ k. times (named_in (results p.types f st)) k + rest k) (λ k. times (named_in (slot_values st.cells 0 v.arguments)) k + hand k) behind
      (λ k. let a = named_append first (slots_back p.types f 0 f.parameters st) k in let e = ap (λ (ws : List Cell). times (named_in ws) k) slots_are in omega (arith, a, e))
      (behind_sound p.types v.function rest before caller.sound v.cells (λ y u there e. lent_fewer y u there (ap (λ (cs : List Cell). slice_get cs y) (sym caller.left) ∙ e)) st.world (λ k. times (named_in (results p.types f st)) k) good.0
      (keeps_then p.types (λ k. times (named_in v.cells) k + rest k ≡ 0) before.world.content begun st.world.content keeps caller.keeps))

  slots_suit : AreHandedTo p.types st.world.content (slot_types p.types (types_taken f)) (slot_values st.cells 0 v.arguments)
  slots_suit = subst (AreHandedTo p.types st.world.content (slot_types p.types (types_taken f))) slots_are (slots_typed p (v ∷ vs) f q st sound l here is)

  slots_there : AreSlotsThere (ready_of behind) v.arguments
  slots_there =
      let one = goes_well p sound.proper caller.own v.function caller.there in
      subst (λ (cells : List Cell). AreSlotsThere (ready_of (record { world = st.world; cells = cells })) v.arguments) (sym caller.left)
      (subst (λ (bits : Ready). AreSlotsThere bits v.arguments) (sym lent_bits)
      (slots_kept p.types v.function one.given caller.point (ready_of before) v.place v.target caller.number v.arguments v.to caller.here used))

  -- ---- where no type is too wide

  module _ (narrow : (ty : TyId) → width_at p.types ty ≤ 2 ^ 32) where
    pub returning : Returning p.types v.function v.arguments (slot_values st.cells 0 v.arguments) behind
    returning = record {
      texts = length p.texts;
      fs = p.functions;
      ordered = sound.proper.well_formed.table;
      once = sound.proper.well_formed.once;
      narrow = narrow;
      shaped = shaped;
      kinds = kinds;
      rest = hand;
      ids = types_taken f;
      formed = args;
      suit = slots_suit;
      sound = whole_sound;
      there = slots_there;
    }

    -- .. and its target can have the result
    pub takes_back : TakesBack p.types v.function v.arguments (slot_values st.cells 0 v.arguments) v.target (given_back (slice_get p.types.types f.result.0) (result_sort p.types f) (cell st f.parameters)) behind
    takes_back st' e = record { holds = holds; free = free; some = some }
      where
        next : IsNext p.types v.function hand st.world.content (ready_of behind) st'
        next = subst (GivesOn p.types v.function hand st.world.content (ready_of behind)) e
            (slots_give p.types sound.proper.well_formed.table sound.proper.well_formed.once (length p.texts) p.functions v.function shaped kinds hand any_setting (types_taken f) v.arguments (slot_values st.cells 0 v.arguments) behind args slots_suit whole_sound slots_there)

        holds : (m : Location) → v.target ≡ Some m → HoldsPointer p.types v.function m st'
        holds m at = go (is_pointer (ty_of p.types f.result)) (subst (λ (t : Option Location). goes_to p.types (length p.texts) p.functions v.function (ty_of p.types f.result) t ≡ true) at both.1)
          where
            go : (b : Bool) → (if b then takes p.types (type_in p.types v.function m) (ty_of p.types f.result) else (is_whole m && (same (ty_of p.types f.result) (type_in p.types v.function m) && (object_at p.types v.function m.local || is_number p.types v.function m.local)))) ≡ true → HoldsPointer p.types v.function m st'
            go true h =
                let points = (alike_points p.types (type_in p.types v.function m) (ty_of p.types f.result) (and_parts (are_alike p.types (type_in p.types v.function m) (ty_of p.types f.result)) (keeps_const (is_constant (type_in p.types v.function m)) (is_constant (ty_of p.types f.result))) h).0).0 in
                let of = pointer_of p.types sound.proper.well_formed.table sound.proper.well_formed.once (length p.texts) p.functions v.function shaped st' (pointers_aim p.types sound.proper.well_formed.table v.function st' next.sound.held next.sound.stands.frame) next.sound.sorted m (type_in p.types v.function m) refl points in
                pointer_held p.types sound.proper.well_formed.table narrow v.function (λ k. times (named_in st'.cells) k + hand k) st' next.sound.stands.store next.sound.stands.frame m of.part of.takes.0 of.takes.1
            go false h = λ n members named. absurd (members (whole_is m (and_parts (is_whole m) _ h).0))

        some : (first ≡ Empty ∷ []) → ⊥
        some k = go given
          where
            go : IsResult p.types st.world.content f.result first → ⊥
            go (inl none) = nothing (sym none.1 ∙ k)
              where
                nothing : [] ≡ Empty ∷ [] → ⊥
                nothing e = cc
            go (inr r) = subst (IsHandedTo p.types st.world.content f.result) (same_one (sym r.1 ∙ k)) r.2
              where
                same_one : r.0 ∷ [] ≡ Empty ∷ [] → r.0 ≡ Empty
                same_one e = cc

        -- an object goes to a local that is one and isn't there, as each slot is
        free : (m : Location) (lo : Local) (n : ℕ) → v.target ≡ Some m → m.members ≡ [] → slice_get v.function.locals m.local ≡ Some lo → first ≡ Named n ∷ [] → is_slot_at p.types lo.ty ≡ false
        free m lo n at whole local k = go given
          where
            go : IsResult p.types st.world.content f.result first → is_slot_at p.types lo.ty ≡ false
            go (inl none) = absurd (nothing (sym none.1 ∙ k))
              where
                nothing : [] ≡ Named n ∷ [] → ⊥
                nothing e = cc
            go (inr r) =
                let composed : is_composed (ty_of p.types f.result) ≡ true = (subst (IsHandedTo p.types st.world.content f.result) (same_one (sym r.1 ∙ k)) r.2).2 in
                let goes = subst (λ (b : Bool). (if b then takes p.types (type_in p.types v.function m) (ty_of p.types f.result) else (is_whole m && (same (ty_of p.types f.result) (type_in p.types v.function m) && (object_at p.types v.function m.local || is_number p.types v.function m.local)))) ≡ true)
                (composed_points (ty_of p.types f.result) composed) (subst (λ (t : Option Location). goes_to p.types (length p.texts) p.functions v.function (ty_of p.types f.result) t ≡ true) at both.1) in
                let inner = and_parts (same (ty_of p.types f.result) (type_in p.types v.function m)) _ (and_parts (is_whole m) _ goes).1 in
                let type : ty_of p.types f.result ≡ type_at p.types v.function m.local =
                same_is (ty_of p.types f.result) (type_in p.types v.function m) inner.0 ∙ ap (λ (ms : List ℕ). ty_if p.types (members_type p.types (shapes.local_type p.types v.function m.local) ms)) whole in
                apart (slot_at p.types v.function m.local) refl (either (object_at p.types v.function m.local) (is_number p.types v.function m.local) inner.1
                (λ number. composed_value (ty_of p.types f.result) composed (ap is_value type ∙ (and_parts (register_at p.types v.function m.local) (is_value (type_at p.types v.function m.local)) number).1)))
              where
                same_one : r.0 ∷ [] ≡ Named n ∷ [] → r.0 ≡ Named n
                same_one e = cc

                either : (a b : Bool) → (a || b) ≡ true → (b ≡ true → ⊥) → a ≡ true
                either true b h never = refl
                either false b h never = absurd (never h)

                apart : (b : Bool) → slot_at p.types v.function m.local ≡ b → object_at p.types v.function m.local ≡ true → is_slot_at p.types lo.ty ≡ false
                apart false slot object = sym (ap (is_slot_local p.types v.function) local) ∙ slot
                apart true slot object =
                    let births : AreBits false (ready_of before) (target_births v.function (Some m)) = subst (λ (t : Option Location). AreBits false (ready_of before) (target_births v.function t)) at are.births in
                    let of_whole : AreBits false (ready_of before) (if_object v.function m.local) = subst (λ (ms : List ℕ). AreBits false (ready_of before) (by_members ms (if_object v.function m.local) [])) whole births in
                    let one : AreBits false (ready_of before) (m.local ∷ []) = subst (λ (b : Bool). AreBits false (ready_of before) (if b then m.local ∷ [] else [])) object of_whole in
                    let well = goes_well p sound.proper caller.own v.function caller.there in
                    absurd (false≢true (some_same (sym one.0 ∙ slots_stay p.types sound.proper.well_formed.table (length p.texts) p.functions v.function (length p.names) well.formed well.points caller.point (ready_of before) caller.reached m.local slot)))
