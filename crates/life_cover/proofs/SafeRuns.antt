-- A run of an admitted entry, of a program whose calls hand over no slot and of which nothing is diagnosed, ends in no fault.
use Rattle.std.proofs.Common.{◌≡◌, inr, ⊎_elim, ℕ, zero, suc, ◌+◌, ◌≤◌, Bool, true, false, List, [], ◌∷◌, length, Option, Some, None, refl, sym, ap, subst, ◌∙◌, arith}
use Rattle.std.specs.Prelude.{ℤ, not, option_map, slice_get}
use Rattle.std.proofs.lemmas.Bool.{and_parts, false≢true}
use Rattle.std.proofs.lemmas.Option.{slice_get-map}
use Rattle.life_types.specs.Pointees.{ty_of}
use Rattle.life_types.specs.Trees.{IsOrdered}
use Rattle.life_types.specs.TypeTests.{is_pointer, is_void}
use Rattle.life_types.specs.Types.{HasEachOnce, Types, class_at}
use Rattle.life_types.specs.declared.place.Place.{Place}
use Rattle.life_types.specs.declared.ty.TyId.{TyId}
use Rattle.life_core.specs.declared.program.Local.{Local}
use Rattle.life_core.specs.Function.{Function, Program}
use Rattle.life_core.specs.Linked.{no_exits}
use Rattle.life_core.specs.Proper.{HasReadyWays}
use Rattle.life_core.specs.Linked.{spot_at}
use Rattle.life_core.specs.Ready.{AreBits, entry_ready}
use Rattle.life_core.specs.Touched.{result_uses}
use Rattle.life_core.specs.Tree.{Return}
use Rattle.life_core.specs.Operands.{Location}
use Rattle.life_pset.specs.Elements.{AreShort, Input, elements_of, locations_of}
use Rattle.life_pset.specs.Places.{path}
use Rattle.life_pset.specs.Shapes as shapes
use Rattle.life_pset.specs.Shapes.{members_type, ty_if}
use Rattle.life_contract.specs.Inputs.{parameter_number}
use Rattle.life_contract.specs.Signatures.{signature_of, signatures_of}
use Rattle.life_pset.specs.declared.element.Root.{Root}
use Rattle.life_proper.specs.GivenOver.{all_keep_given, keeps_all_given}
use Rattle.life_proper.specs.WellFormed.{types_taken}
use Rattle.life_proper.specs.WellFormedPrograms.{IsWellFormedProgram, is_result_of, is_well_formed_function}
use Rattle.life_proper.proofs.SortedNodes.{formed_parts}
use Rattle.life_proper.proofs.SpotTests.{all_at}
use Rattle.life_rules.specs.Diagnosing.{IsDiagnosed}
use Rattle.life_rules.specs.Listing.{IsProgramDiagnosed}
use Rattle.life_rules.specs.declared.diag.Diag.{Diag}
use Rattle.life_rules.proofs.OneFunction.{own_function}
use Rattle.life_store.specs.Calls.{entry_arguments, given, parameters_given, results}
use Rattle.life_store.specs.Cells.{at-none}
use Rattle.life_store.specs.Content.{Content, empty_content}
use Rattle.life_store.specs.Effects.{Given, Setting, Effect, Next, Traps, Faults, Strays}
use Rattle.life_store.specs.Meaning.{Answer, Normal, Broke, Continued, Returned, Stopped, Back, Barred, Called, Callee, Exhausted, Faulted, IsAdmitted, Quit, Stray, Trapped, begun, calls, entered, exec, finish, first_called, first_world, frame, run_from, run_of, setting_of}
use Rattle.life_store.specs.NoFault.{IsNoFault}
use Rattle.life_store.specs.State.{Cell, Empty, Named, Number, Pointer, Points, State, To, World, ready_of}
use Rattle.life_store.proofs.CellLemmas.{none_some, some_same}
use Rattle.life_forest.specs.Frames.{OnNext, named_in}
use Rattle.life_forest.specs.Owned.{times}
use Rattle.life_forest.specs.Typed.{IsStore}
use Rattle.life_forest.specs.Forest.{Foot}
use Rattle.life_forest.proofs.EnteredFrames.{GivesOn, AreTaking}
use Rattle.life_forest.proofs.EntryFrames.{entry_gives, parameters_all, taking_all, types_held}
use Rattle.life_forest.proofs.Below.{positive_is}
use Rattle.life_forest.proofs.Frames.{less_in_hand}
use Rattle.life_forest.proofs.HandedOver.{AreHandedTo, ArePointerSlots, free_handed, free_taken}
use Rattle.life_forest.specs.Settled.{IsPoised}
use Rattle.life_forest.specs.Sorted.{PointerFits}
use Rattle.life_forest.proofs.HeldPoints.{IsNext, poised}
use Rattle.life_forest.proofs.NeverStrays.{have_members, none_named, numbers_handed, points_formed}
use Rattle.life_forest.proofs.SettledPoints.{formed_at, kinds_fit}
use Rattle.life_forest.proofs.SettlingLives.{HaveMembers}
use Rattle.life_forest.proofs.Shaped.{IsShaped, locals_shaped}
use Rattle.life_forest.proofs.Worked.{empty_store}
use Rattle.life_forest.proofs.CallsGo.{GoesWell, calls_good}
use Rattle.life_forest.proofs.CallersGo.{GoodCallee}
use Rattle.life_cover.proofs.Inputs.{given_on}
use Rattle.life_cover.specs.Buffered.{AreBut}
use Rattle.life_cover.specs.Lacking.{IsLoose, MayLack}
use Rattle.life_cover.proofs.Buffering.{but_more}
use Rattle.life_cover.proofs.LooseResults.{left_loose}
use Rattle.life_cover.proofs.StillLacking.{loose_apart, loose_on}
use Rattle.life_cover.proofs.SafeBodies.{IsSpokenBody, SafeAnswer, body_safe}
use Rattle.life_cover.proofs.Edges.{FactsAt, clean_return}
use Rattle.life_cover.proofs.Entered.{entered_covered}
use Rattle.life_cover.proofs.EnteredMembers.{member_handed}
use Rattle.life_cover.proofs.FramePoints.{IsSafe}
use Rattle.life_cover.proofs.GivenInputs.{is_entered}
use Rattle.life_cover.proofs.Begun.{IsBegun, frame_begun, parameters_begun}
use Rattle.life_cover.proofs.NamedResults.{results_named}
use Rattle.life_cover.proofs.Owning.{named_at, named_within}
use Rattle.life_cover.proofs.ResultTypes.{part_solid, promised_input, result_typed}
use Rattle.life_cover.proofs.Returned.{result_held, result_promised}
use Rattle.life_cover.proofs.SafeCalls.{SafeCalled, SafeCallee, calls_safe}
use Rattle.life_cover.specs.Inputs.{AreGiven, StandsAt, entry_inputs, foot_with, frame_foot, input_cell, mutated, may_change}
use Rattle.life_cover.specs.Passed.{ArePassed, ArePromised, result_part}
use Rattle.life_cover.specs.Regions.{Region}
use Rattle.life_cover.proofs.KnownFrames.{names_object}
use Rattle.life_cover.proofs.UniquesGiven.{entry_uniques}
use Rattle.life_contract.specs.Located.{located}
use Rattle.life_proper.specs.Placed.{type_in}
use Rattle.life_store.specs.Places.{member_cell}
use Rattle.life_cover.specs.Covers.{IsCovered, Look}
use Rattle.life_cover.specs.Frames.{FrameCovered, RootStands, look_of}
use Rattle.life_cover.proofs.Looks.{look_same}
use Rattle.life_cover.proofs.PointedPlaces.{held_short}

-- ---- the entry is given numbers

a_number : {z : ℤ} (v : Cell) → Some (Number z) ≡ Some v → (y : ℤ) × (v ≡ Number y)
a_number {z} v e = (z, sym (some_same e))

entry_numbers : (types : Types) (f : Function) (x n : ℕ) (input : List ℤ) (q : ℕ) (v : Cell) → slice_get (entry_arguments types f x n input) q ≡ Some v → (z : ℤ) × (v ≡ Number z)
entry_numbers types f x zero input q v e = absurd (none_some e)
entry_numbers types f x (suc n) [] q v e = absurd (none_some e)
entry_numbers types f x (suc n) (z ∷ zs) zero v e = a_number v e
entry_numbers types f x (suc n) (z ∷ zs) (suc q) v e = entry_numbers types f (x + 1) n zs q v e

-- so nothing is handed over for an input
nothing_handed : (types : Types) (f : Function) (c : Content) (vs : List Cell) → ((q : ℕ) (v : Cell) → slice_get vs q ≡ Some v → (z : ℤ) × (v ≡ Number z)) → (i : Input) (p : Pointer) → input_cell types f c vs i ≡ Some (Points p) → ⊥
nothing_handed types f c vs numbers i p e = by_cell (slice_get vs (parameter_number i)) refl (path i.pointer) e
  where
    by_value : (v : Cell) (z : ℤ) → v ≡ Number z → (ms : List ℕ) → member_cell types f (parameter_number i) ms (Some v) c ≡ Some (Points p) → ⊥
    by_value (Number z) y is [] h = unlike (some_same h)
      where
        unlike : Number z ≡ Points p → ⊥
        unlike k = cc
    by_value (Number z) y is (m ∷ ms) h = none_some h
    by_value Empty y is ms h = cc
    by_value (Named n) y is ms h = cc
    by_value (Points u) y is ms h = cc

    by_cell : (o : Option Cell) → slice_get vs (parameter_number i) ≡ o → (ms : List ℕ) → member_cell types f (parameter_number i) ms o c ≡ Some (Points p) → ⊥
    by_cell None at_q [] h = none_some h
    by_cell None at_q (m ∷ ms) h = none_some h
    by_cell (Some v) at_q ms h = let z = numbers (parameter_number i) v at_q in by_value v z.0 z.1 ms h

-- .. and nothing stands at one
nothing_entered : (types : Types) (f : Function) (foot : Foot) (c : Content) (vs : List Cell) → ((q : ℕ) (v : Cell) → slice_get vs q ≡ Some v → (z : ℤ) × (v ≡ Number z)) → AreGiven types f (entry_inputs types f c vs) foot c
nothing_entered types f foot c vs numbers = record {
  each = λ r a e. absurd (never r a e);
  part = λ r a e. absurd (never r a e);
  born = λ r a e. absurd (never r a e);
  free = λ r a e low. never r a e;
  beside = λ r s a b own ne e at_s same. absurd (never r a e);
  over = λ r s a b own ne e at_s low. never r a e;
}
  where
    never : (r : Root) (a : Region) → StandsAt (entry_inputs types f c vs) r a → ⊥
    never r a e = let i = is_entered types f c vs r a e in nothing_handed types f c vs numbers i.input (To i.target) i.handed

-- ---- a function whose calls are safe

-- what is asked of a function of a program, beside what keeps it from straying
pub record IsSafeFunction (types : Types) (fs : List Function) (number : ℕ) (f : Function) : Type 0 where
  pub free : ArePointerSlots types (types_taken f)
  pub short : AreShort (elements_of types f)
  pub spoken : IsSpokenBody types f
  pub few : length (locations_of types f) ≤ 256
  pub none : (d : Diag) → IsDiagnosed (signatures_of fs) types number f d → ⊥

module _ (types : Types) (ordered : IsOrdered types) (once : HasEachOnce types) (some : HaveMembers types) (names texts : ℕ) (fs : List Function) (all : (k : ℕ) (g : Function) → slice_get fs k ≡ Some g → GoesWell types names texts fs g)
    (all_safe : (k : ℕ) (g : Function) → slice_get fs k ≡ Some g → IsSafeFunction types fs k g) (s : Setting) where
  module _ (call : Callee) (callees : GoodCallee types fs call) (safe : SafeCallee types fs call) (number : ℕ) (f : Function) (is : slice_get fs number ≡ Some f) (rest : ℕ → ℕ) (xs : List Cell) (n : ℕ) (w : World)
      (suits : AreHandedTo types w.content (types_held types f) xs) (store : IsStore types (λ j. times (named_in xs) j + rest j) w.content) (buffered : AreBut types (IsLoose types (entry_inputs types f w.content xs) (named_in xs) w.content) w.content)
      (apart : AreGiven types f (entry_inputs types f w.content xs) (foot_with types (mutated types f (entry_inputs types f w.content xs)) (named_in xs)) w.content) (passed : ArePassed types f w.content xs) where
    well : GoesWell types names texts fs f
    well = all number f is

    asked : IsSafeFunction types fs number f
    asked = all_safe number f is

    abbrev inputs : Root → Option Region
    inputs = entry_inputs types f w.content xs

    shaped : IsShaped types f
    shaped = locals_shaped types ordered names f (formed_parts types names texts fs f well.formed).locals

    taking : AreTaking types f 0 (types_held types f)
    taking = taking_all types names f shaped (formed_at types ordered once some names texts fs f well.formed well.points well.ready) asked.free

    -- ---- at the entry

    -- what is loose before is so then
    still_loose : (st : State) → IsBegun types f inputs xs w.content st → (j : ℕ) → IsLoose types inputs (named_in xs) w.content j → IsLoose types inputs (named_in st.cells) st.world.content j
    still_loose st begun j loose =
        loose_on types inputs (named_in xs) w.content st.world.content (named_in st.cells) (foot_with types (mutated types f inputs) (named_in xs)) begun.own.touch
        (λ m born lt. let y = named_at st.cells m lt in ⊎_elim (λ old. old) (λ new. absurd (omega (arith, born, new))) (begun.own.named y.0 m y.1)) j
        (loose_apart types inputs (named_in xs) w.content (foot_with types (mutated types f inputs) (named_in xs)) (λ m e. positive_is (times (named_in xs) m) e) j loose) loose

    -- what is handed over covers the pointers that are parameters, or members of one
    entry_covered : (st : State) → IsNext types f rest w.content (entry_ready f) st → IsBegun types f inputs xs w.content st → FrameCovered types f inputs (FactsAt (signatures_of fs) types f 1) st
    entry_covered st next begun l v pointer e =
        entered_covered types ordered once f shaped asked.few (signatures_of fs) (λ j. times (named_in xs) j + rest j) w.content xs store apart suits passed st.world.content begun.own.touch st.cells l pointer short v
        (member_handed types ordered once f shaped inputs xs (λ j. times (named_in xs) j + rest j) w store suits st begun l v pointer e)
      where
        short : (located l).length ≤ 8
        short =
            held_short types ordered once f shaped asked.short rest st next.sound.stands.store (λ x n at_x. next.sound.stands.frame.objects x n at_x)
            (λ x n at_x. names_object types f st (poised types ordered once some names texts fs f well.formed well.points well.ready rest st next.sound) x n at_x) inputs (λ r a stands. apart.each r a stands) l pointer v e

    begun_safe_at : (st : State) → IsNext types f rest w.content (entry_ready f) st → IsBegun types f inputs xs w.content st → IsSafe types f rest inputs (FactsAt (signatures_of fs) types f 1) st
    begun_safe_at st next begun = record {
      sound = next.sound;
      given =
          given_on types f inputs (λ j. times (named_in xs) j + rest j) w.content st.world.content store.forest (foot_with types (mutated types f inputs) (named_in xs)) apart (frame_foot types f inputs st.cells) begun.own.touch
          (named_within types f inputs (named_in xs) (λ j. times (named_in xs) j + rest j) w.content store st begun.own);
      covered = entry_covered st next begun;
      buffered = but_more types (IsLoose types inputs (named_in xs) w.content) (MayLack types f inputs (FactsAt (signatures_of fs) types f 1) st) st.world.content (λ j loose. inr (still_loose st begun j loose)) begun.buffered;
      told = entry_uniques types ordered once f shaped asked.short (signatures_of fs) st next.bits (names_object types f st (poised types ordered once some names texts fs f well.formed well.points well.ready rest st next.sound));
    }

    -- ---- where it is left

    finish_safe : (a : Answer) → SafeAnswer (signatures_of fs) types f rest inputs w.content (named_in xs) no_exits a → SafeCalled types f inputs (named_in xs) w.content (finish types f a)
    finish_safe (Normal m st) g = absurd g
    finish_safe (Broke m st) g = absurd g
    finish_safe (Continued m st) g = absurd g
    finish_safe (Returned m st) g = (but_more types (MayLack types f inputs (FactsAt (signatures_of fs) types f g.point) st) (IsLoose types inputs (named_in (results types f st)) st.world.content) st.world.content (left_loose types names texts fs f well.formed well.points shaped rest inputs (signatures_of fs) g.point st g.safe.safe.sound g.safe.safe.given) g.safe.safe.buffered, (g.safe.own.touch, ((λ j lt. let y = results_named types f st j lt in g.safe.own.named y.0 j y.1), promised)))
      where
        poised_at : IsPoised types f st
        poised_at = poised types ordered once some names texts fs f well.formed well.points well.ready rest st g.safe.safe.sound

        uses : AreBits true (ready_of st) (result_uses (class_at types f.result) f.parameters)
        uses = (well.ready.ready g.point (ready_of st) (record { spot = spot_at g.place Return; leads = [] }) g.safe.reached g.returns).uses

        formed_result : is_result_of types f.result (slice_get types.types f.result.0) (slice_get f.locals f.parameters) ≡ true
        formed_result = (formed_parts types names texts fs f well.formed).result

        promised : ArePromised types f inputs st.world.content (results types f st)
        promised ms p pointer first =
            let l : Location = record { local = f.parameters; members = ms } in
            let typed = result_typed types f formed_result (part_solid types f.result ms pointer) in
            let type_is : shapes.location_type types f l ≡ result_part types f ms = ap (λ (id : Option TyId). members_type types id ms) typed in
            let points : is_pointer (type_in types f l) ≡ true = ap (λ (id : Option TyId). is_pointer (ty_if types id)) type_is ∙ pointer in
            let held = result_held types f st poised_at formed_result uses ms p pointer first in
            let short =
            held_short types ordered once f shaped asked.short rest st g.safe.safe.sound.stands.store (λ x n at_x. g.safe.safe.sound.stands.frame.objects x n at_x)
            (λ x n at_x. names_object types f st poised_at x n at_x) inputs (λ r a stands. g.safe.safe.given.each r a stands) l points p held in
            result_promised types number f g.place (FactsAt (signatures_of fs) types f g.point) (clean_return (signatures_of fs) types f number asked.none g.point g.place [] g.returns) ms pointer short inputs st (promised_input types (signature_of f) (ty_if types (result_part types f ms))) p
            (subst (λ (id : Option TyId). PointerFits (ty_if types id) p) type_is (poised_at.pointers l p points held))
            (subst (λ (look : Look). IsCovered types st.world.content (RootStands types f (StandsAt inputs) st.cells) (may_change types f) (FactsAt (signatures_of fs) types f g.point) (located l) look p) (look_same types f shaped l ∙ ap (look_of types) type_is)
            (g.safe.safe.covered l p points held))
    finish_safe (Stopped stop after) g = g

    begun_safe : (e : Effect) (run : State → Called) → GivesOn types f rest w.content (entry_ready f) e → OnNext e (IsBegun types f inputs xs w.content)
        → ((st : State) → IsNext types f rest w.content (entry_ready f) st → IsBegun types f inputs xs w.content st → SafeCalled types f inputs (named_in xs) w.content (run st)) → SafeCalled types f inputs (named_in xs) w.content (begun e w run)
    begun_safe (Next st) run g h k = k st g h
    begun_safe (Traps kind) run g h k = tt
    begun_safe (Faults kind) run g h k = absurd g
    begun_safe Strays run g h k = absurd g

    pub entered_safe : SafeCalled types f (entry_inputs types f w.content xs) (named_in xs) w.content (entered s types (Some f) call xs n w)
    entered_safe =
        begun_safe (parameters_given s types f 0 xs (frame f w)) (λ st. finish types f (exec s types f call f.body n st))
        (entry_gives types ordered f shaped (kinds_fit types ordered once some names texts fs f well.formed well.points well.ready) rest s xs w
        (parameters_all types names f shaped (formed_at types ordered once some names texts fs f well.formed well.points well.ready)) store (free_handed types w.content (types_taken f) xs asked.free suits))
        (parameters_begun types ordered s f inputs xs (λ j. times (named_in xs) j + rest j) w.content store 0 (types_held types f) xs taking suits (λ i v e. let k : i ≡ 0 + i = omega arith in ap (slice_get xs) (sym k) ∙ e) (frame f w) (frame_begun types f inputs xs w buffered))
        (λ st next begun. finish_safe (exec s types f call f.body n st)
        (body_safe types ordered once some names texts fs f well.formed well.points well.ready asked.short well.given asked.spoken (signatures_of fs) number asked.none rest inputs w.content (named_in xs) (λ j. times (named_in xs) j + rest j) store s call
        (calls_safe types ordered once some names texts fs f well.formed well.points well.ready asked.short well.given asked.spoken (signatures_of fs) number asked.none rest inputs w.content (named_in xs) (λ j. times (named_in xs) j + rest j) store s call callees
        (λ k g at_k. (all_safe k g at_k).free) safe (λ k g at_k. slice_get-map signature_of fs k ∙ ap (option_map signature_of) at_k) (λ k g at_k. (all k g at_k).formed) (λ k g at_k. (all_safe k g at_k).few))
        n st next.bits (begun_safe_at st next begun) begun.own next.waits))

-- ---- all calls of a program

pub all_calls_safe : (s : Setting) (p : Program) (ordered : IsOrdered p.types) (once : HasEachOnce p.types) (some : HaveMembers p.types) (names texts : ℕ) (all : (k : ℕ) (g : Function) → slice_get p.functions k ≡ Some g → GoesWell p.types names texts p.functions g)
    → ((k : ℕ) (g : Function) → slice_get p.functions k ≡ Some g → IsSafeFunction p.types p.functions k g) → (depth : ℕ) → SafeCallee p.types p.functions (calls s p depth)
all_calls_safe s p ordered once some names texts all safe zero k g rest xs n w is suits store buffered apart passed = tt
all_calls_safe s p ordered once some names texts all safe (suc depth) k g rest xs n w is suits store buffered apart passed =
    subst (λ (o : Option Function). SafeCalled p.types g (entry_inputs p.types g w.content xs) (named_in xs) w.content (entered s p.types o (calls s p depth) xs n w)) (sym is)
    (entered_safe p.types ordered once some names texts p.functions all safe s (calls s p depth) (calls_good s p ordered once some names texts all depth) (all_calls_safe s p ordered once some names texts all safe depth) k g is rest xs n w suits store buffered apart passed)

-- ---- runs

called_safe : (types : Types) (f : Function) (inputs : Root → Option Region) (given : List ℕ) (c : Content) (entry : Place) (before : World) (r : Called) → SafeCalled types f inputs given c r → IsNoFault (run_from entry before r).outcome
called_safe types f inputs given c entry before (Back n w values) g = tt
called_safe types f inputs given c entry before (Barred kind) g = tt
called_safe types f inputs given c entry before (Quit (Trapped kind place) w) g = tt
called_safe types f inputs given c entry before (Quit (Faulted kind place) w) g = g
called_safe types f inputs given c entry before (Quit Stray w) g = g
called_safe types f inputs given c entry before (Quit Exhausted w) g = tt

nothing_buffered : (types : Types) (bare : ℕ → Type 0) → AreBut types bare empty_content
nothing_buffered types bare n i o s free there slot = absurd (none_some (sym (at-none n) ∙ there))

-- a program in which each slot is one of a pointer
pub record HandsPointerSlots (p : Program) : Type 0 where
  pub free : (k : ℕ) (g : Function) → slice_get p.functions k ≡ Some g → ArePointerSlots p.types (types_taken g)

pub safe_runs : (p : Program) (given : Given) (entry : ℕ) (f : Function) (input : List ℤ) (n : ℕ) → IsWellFormedProgram p → ((k : ℕ) (g : Function) → slice_get p.functions k ≡ Some g → HasReadyWays p.types g) → keeps_all_given p ≡ true → HandsPointerSlots p
    → ((k : ℕ) (g : Function) → slice_get p.functions k ≡ Some g → AreShort (elements_of p.types g) × ((length (locations_of p.types g) ≤ 256) × IsSpokenBody p.types g)) → ((d : Diag) → IsProgramDiagnosed p d → ⊥) → slice_get p.functions entry ≡ Some f → IsAdmitted p f input → IsNoFault (run_of given p entry f input n).outcome
safe_runs p given entry f input n well ready apart hands spoken none is admitted =
    called_safe p.types f (entry_inputs p.types f empty_content vs) (named_in vs) empty_content f.place (first_world f input) (first_called given p entry f input n)
    (all_calls_safe (setting_of given p) p well.table well.once (have_members p.types (length p.names) p.members well.members) (length p.names) (length p.texts) each asked given.depth entry f (λ k. 0) (entry_arguments p.types f 0 f.parameters input) n (first_world f input) is
    (free_taken p.types empty_content (types_taken f) vs (hands.free entry f is) (numbers_handed p.types f empty_content f.parameters f.locals 0 input admitted.values admitted.room admitted.enough solid))
    (less_in_hand p.types (λ k. 0) (λ k. times (named_in (entry_arguments p.types f 0 f.parameters input)) k + 0) empty_content (λ k. let z = none_named p.types f empty_content 0 f.parameters input k in omega (arith, z)) (empty_store p.types))
    (nothing_buffered p.types (IsLoose p.types (entry_inputs p.types f empty_content vs) (named_in vs) empty_content)) (nothing_entered p.types f (foot_with p.types (mutated p.types f (entry_inputs p.types f empty_content vs)) (named_in vs)) empty_content vs numbers) (λ i u among e. absurd (nothing_handed p.types f empty_content vs numbers i u e)))
  where
    -- the entry's arguments
    vs : List Cell
    vs = entry_arguments p.types f 0 f.parameters input

    numbers : (q : ℕ) (v : Cell) → slice_get vs q ≡ Some v → (z : ℤ) × (v ≡ Number z)
    numbers q v e = entry_numbers p.types f 0 f.parameters input q v e

    formed_function : (k : ℕ) (g : Function) → slice_get p.functions k ≡ Some g → is_well_formed_function p.types (length p.names) (length p.texts) p.functions g ≡ true
    formed_function k g at_k = all_at (is_well_formed_function p.types (length p.names) (length p.texts) p.functions) p.functions k g well.functions at_k

    each : (k : ℕ) (g : Function) → slice_get p.functions k ≡ Some g → GoesWell p.types (length p.names) (length p.texts) p.functions g
    each k g at_k = record {
      formed = formed_function k g at_k;
      points = points_formed p.types (length p.names) (length p.texts) p.functions g (formed_function k g at_k);
      ready = ready k g at_k;
      given = all_at (all_keep_given p.types) p.functions k g apart at_k;
    }

    asked : (k : ℕ) (g : Function) → slice_get p.functions k ≡ Some g → IsSafeFunction p.types p.functions k g
    asked k g at_k = record {
      free = hands.free k g at_k;
      short = (spoken k g at_k).0;
      few = (spoken k g at_k).1.0;
      spoken = (spoken k g at_k).1.1;
      none = λ d h.
          let own = own_function (signatures_of p.functions) p.types k g d h in
          none d (g, (ap (slice_get p.functions) own ∙ at_k, subst (λ m. IsDiagnosed (signatures_of p.functions) p.types m g d) (sym own) h));
    }

    solid : (i : ℕ) (l : Local) → slice_get f.locals i ≡ Some l → is_void (ty_of p.types l.ty) ≡ false
    solid i l e = not_true (is_void (ty_of p.types l.ty))
        (and_parts (not (is_void (ty_of p.types l.ty))) _ (formed_at p.types well.table well.once (have_members p.types (length p.names) p.members well.members) (length p.names) (length p.texts) p.functions f (formed_function entry f is)
        (points_formed p.types (length p.names) (length p.texts) p.functions f (formed_function entry f is)) (ready entry f is) i l e)).0
      where
        not_true : (b : Bool) → not b ≡ true → b ≡ false
        not_true true k = absurd (false≢true k)
        not_true false k = refl
