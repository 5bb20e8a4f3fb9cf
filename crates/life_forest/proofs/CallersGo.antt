-- A caller goes on behind a call: its frame stands as it did, and its slots and its target have what is given back.
use Rattle.std.proofs.Common.{◌≡◌, inl, inr, ℕ, zero, suc, ◌+◌, ◌<◌, Bool, true, false, if◌then◌else◌, List, [], ◌∷◌, ◌++◌, length-append, Option, Some, None, refl, sym, ap, subst, ◌∙◌, arith}
use Rattle.std.proofs.lemmas.Bool.{and_parts, false≢true}
use Rattle.std.specs.Prelude.{drop, flat_map, length, slice_get, slice_set, ◌-◌}
use Rattle.life_types.specs.Pointees.{ty_of}
use Rattle.life_types.specs.Trees.{IsOrdered}
use Rattle.life_types.specs.TypeTests.{is_pointer}
use Rattle.life_types.specs.Types.{HasEachOnce, Types}
use Rattle.life_types.specs.declared.place.Place.{Place}
use Rattle.life_types.specs.declared.ty.TyId.{TyId}
use Rattle.life_core.specs.Function.{Function}
use Rattle.life_core.specs.Linked.{code_of, goes, numbered, spot_at}
use Rattle.life_core.specs.Operands.{Argument, Location}
use Rattle.life_core.specs.Proper.{HasReadyWays, IsNodeReady, Reaches, bits_past}
use Rattle.life_core.specs.Ready.{AreBits, IsBit, IsThere, Ready, set_bits}
use Rattle.life_core.specs.Step.{Call}
use Rattle.life_core.specs.Touched.{argument_leaves, argument_uses, by_members, if_object, target_births, target_uses, target_writes}
use Rattle.life_core.specs.Tree.{Action}
use Rattle.life_core.specs.declared.exits.Exits.{Exits}
use Rattle.life_core.specs.declared.program.FnId.{FnId}
use Rattle.life_core.proofs.ReadyLemmas.{bits_left, bits_right}
use Rattle.life_proper.specs.GivenOver.{all_keep_given}
use Rattle.life_proper.specs.Placed.{object_at, slot_at, type_in}
use Rattle.life_proper.specs.WellFormed.{are_arguments_for, goes_to, have_own_slots, is_call, types_taken}
use Rattle.life_proper.specs.WellFormedPrograms.{is_well_formed_function}
use Rattle.life_proper.proofs.SortedNodes.{formed_parts}
use Rattle.life_store.specs.Calls.{lent, slot_count, slots_returned, taken_back, target_given}
use Rattle.life_store.specs.Content.{Content}
use Rattle.life_store.specs.Doing.{Setting, Effect, Next, Traps, Faults, Strays, on_next}
use Rattle.life_store.specs.Meaning.{Back, Barred, Callee, Called, Quit, act, call_with, came_back}
use Rattle.life_store.specs.Parts.{location_parts, parts_if}
use Rattle.life_store.specs.State.{Cell, State, World, ready_of}
use Rattle.life_store.proofs.CellLemmas.{some_same}
use Rattle.life_store.proofs.Going.{GoodEffect, paid_good}
use Rattle.life_forest.specs.Frames.{named_in}
use Rattle.life_forest.specs.Owned.{alive, times}
use Rattle.life_forest.specs.Settled.{IsPoised}
use Rattle.life_forest.specs.Typed.{IsStore}
use Rattle.life_forest.proofs.BodiesGo.{CallsAreSound, IsLeft, IsNoStray, IsSoundAt, SoundAnswer, leads}
use Rattle.life_forest.proofs.EnteredFrames.{GivesOn, later, less_sound, on_given_next}
use Rattle.life_forest.proofs.EntryFrames.{as_many}
use Rattle.life_forest.proofs.GivenResults.{IsBack, IsResult}
use Rattle.life_forest.proofs.GivenSlots.{named_append, slot_types}
use Rattle.life_forest.proofs.HandedOver.{AreHanded, AreTaken, hands_all, leaves_are}
use Rattle.life_forest.proofs.HeldPoints.{poised}
use Rattle.life_forest.proofs.HeldPointers.{pointers_aim, pointers_fit}
use Rattle.life_forest.proofs.Holding.{KeepsWaiting}
use Rattle.life_forest.proofs.Keeping.{Keeps, keeps_more, keeps_then}
use Rattle.life_forest.proofs.KeptSlots.{slots_kept, target_kept}
use Rattle.life_forest.proofs.LaterFrames.{behind_sound}
use Rattle.life_forest.proofs.LentFrames.{IsLent, lends, slot_names}
use Rattle.life_forest.proofs.ParametersGo.{taken_later}
use Rattle.life_forest.proofs.SeenTypes.{pointer_parts, pointer_solid}
use Rattle.life_forest.proofs.SettledPoints.{kinds_fit}
use Rattle.life_forest.proofs.SettlingLives.{HaveMembers}
use Rattle.life_forest.proofs.Shaped.{IsShaped, locals_shaped}
use Rattle.life_forest.proofs.Slots.{ArePointsFormed, slots_stay}
use Rattle.life_forest.proofs.SlotsGo.{AreSlotsThere, slots_counted, slots_give}
use Rattle.life_forest.proofs.StandingPointers.{IsPointer}
use Rattle.life_forest.proofs.StillHanded.{all_hand}
use Rattle.life_forest.proofs.TypedSteps.{location_of}
use Rattle.life_forest.proofs.TargetsGo.{IsTargetReady, target_gives}

-- ---- what a call gives back

-- the store has what is given back in the hand, beside what waits, which has its pointers still
abbrev pub GoodCalled : Types → Function → (ℕ → ℕ) → Content → Called → Type 0
GoodCalled types g rest c (Back n w values) = IsStore types (λ k. times (named_in values) k + rest k) w.content × KeepsWaiting types rest c w.content × IsBack types w.content g.result (slot_types types (types_taken g)) values
GoodCalled types g rest c (Barred kind) = Unit {0}
GoodCalled types g rest c (Quit stop w) = IsNoStray stop

-- .. where it is handed what its parameters take
abbrev pub GoodCallee : Types → List Function → Callee → Type 0
GoodCallee types fs call = (k : ℕ) (g : Function) (rest : ℕ → ℕ) (xs : List Cell) (n : ℕ) (w : World) → slice_get fs k ≡ Some g → AreTaken types w.content (types_taken g) xs → IsStore types (λ k. times (named_in xs) k + rest k) w.content
    → GoodCalled types g rest w.content (call k xs n w)

-- ---- bits and lists

pub back_of : (first others : List Cell) (n : ℕ) → length others ≡ n → drop (length (first ++ others) - n) (first ++ others) ≡ others
back_of first others n e =
    let l = length-append first others in
    let k : length (first ++ others) - n ≡ length first = omega (arith, l, e) in
    ap (λ m. drop m (first ++ others)) k ∙ all first
  where
    all : (xs : List Cell) → drop (length xs) (xs ++ others) ≡ others
    all [] = refl
    all (x ∷ xs) = all xs

still_false : (bits : Ready) (ys : List ℕ) (x : ℕ) → IsBit bits x false → IsBit (set_bits false ys bits) x false
still_false bits [] x e = e
still_false bits (y ∷ ys) x e = still_false (slice_set bits y false) ys x (once bits y x e)
  where
    once : (bs : Ready) (y x : ℕ) → slice_get bs x ≡ Some false → slice_get (slice_set bs y false) x ≡ Some false
    once [] y x e = e
    once (b ∷ bs) zero zero e = refl
    once (b ∷ bs) zero (suc x) e = e
    once (b ∷ bs) (suc y) zero e = e
    once (b ∷ bs) (suc y) (suc x) e = once bs y x e

still_all : (bits : Ready) (ys xs : List ℕ) → AreBits false bits xs → AreBits false (set_bits false ys bits) xs
still_all bits ys [] e = tt
still_all bits ys (x ∷ xs) e = (still_false bits ys x e.0, still_all bits ys xs e.1)

-- a result stays while slots have their values back
result_later : (types : Types) (loose : ℕ → Type 0) (hand : ℕ → ℕ) (c d : Content) → IsStore types hand c → Keeps types loose c d → (id : TyId) (vs : List Cell) → ((n : ℕ) → 0 < times (named_in vs) n → (loose n → ⊥) × (0 < alive d n)) → IsResult types c id vs → IsResult types d id vs
result_later types loose hand c d store keeps id vs waits (inl none) = inl none
result_later types loose hand c d store keeps id vs waits (inr r) =
    inr (r.0, r.1, (later types loose hand c d store keeps (id ∷ []) (r.0 ∷ []) (λ n lt. waits n (let a = ap (λ (ws : List Cell). times (named_in ws) n) r.1 in omega (arith, a, lt))) (r.2, tt)).0)

module _ (types : Types) (ordered : IsOrdered types) (once : HasEachOnce types) (some : HaveMembers types) (names texts : ℕ) (fs : List Function) (f : Function) (formed : is_well_formed_function types names texts fs f ≡ true) (points : ArePointsFormed types texts fs f)
    (ready : HasReadyWays types f) (rest : ℕ → ℕ) (before : Content) (s : Setting) (call : Callee) (callees : GoodCallee types fs call) (given : all_keep_given types f ≡ true) where
  pub shaped : IsShaped types f
  shaped = locals_shaped types ordered names f (formed_parts types names texts fs f formed).locals

  -- what is a pointer by its test is one by its parts
  pub pointers : (l : Location) → is_pointer (type_in types f l) ≡ true → IsPointer (location_parts types f l)
  pointers l e =
      let of = location_of types ordered once texts fs f shaped l (type_in types f l) refl (pointer_solid (type_in types f l) e) in
      subst (λ (id : Option TyId). IsPointer (parts_if types id)) (sym of.is) (pointer_parts types ordered of.number (type_in types f l) of.there e)

  -- a result that is given takes the caller to where its point leads
  gives_good : (b : ℕ) (place : Place) (target : Option Location) (g : FnId) (xs : List Argument) (to : Option ℕ) (bits : Ready) (c : Content) → numbered (code_of f) b ≡ Some (record { spot = spot_at place (Action (Call target g xs)); leads = goes to }) → Reaches types f b bits → KeepsWaiting types rest before c
      → (e : Effect) → GivesOn types f rest c (bits_past types f (Action (Call target g xs)) bits) e → GoodEffect (IsSoundAt types f rest before) IsNoStray place to e
  gives_good b place target g xs to bits c here way waits (Next st) h =
      leads types f ready rest before b place (Call target g xs) to bits here way st h.bits h.sound (keeps_then types (λ n. rest n ≡ 0) before c st.world.content waits h.waits)
  gives_good b place target g xs to bits c here way waits (Traps kind) h = tt
  gives_good b place target g xs to bits c here way waits (Faults kind) h = tt
  gives_good b place target g xs to bits c here way waits Strays h = h

  module _ (b : ℕ) (place : Place) (target : Option Location) (g : FnId) (xs : List Argument) (x : Exits) (here : numbered (code_of f) b ≡ Some (record { spot = spot_at place (Action (Call target g xs)); leads = goes x.next })) (n : ℕ) (st : State) (inv : IsSoundAt types f rest before b st) where
    are : IsNodeReady types f (ready_of st) (Action (Call target g xs))
    are = ready.ready b (ready_of st) (record { spot = spot_at place (Action (Call target g xs)); leads = goes x.next }) inv.reached here

    -- the function that is called is there
    module _ (gf : Function) (is : slice_get fs g.0 ≡ Some gf) (args : are_arguments_for types texts fs f (types_taken gf) xs ≡ true) (own : have_own_slots types texts fs f xs ≡ true) (into : goes_to types texts fs f (ty_of types gf.result) target ≡ true) where
      at_point : IsPoised types f st
      at_point = poised types ordered once some names texts fs f formed points ready rest st inv.sound

      used : AreBits true (ready_of st) (flat_map (argument_uses f) xs)
      used = bits_left true (ready_of st) (flat_map (argument_uses f) xs) (target_uses target) are.uses

      pub handed : AreHanded types ordered once texts fs f shaped rest st inv.sound.stands (poised types ordered once some names texts fs f formed points ready rest st inv.sound) (pointers_aim types ordered f st inv.sound.held inv.sound.stands.frame) inv.sound.held (types_taken gf) xs
      handed = hands_all types ordered once texts fs f shaped rest st inv.sound.stands (poised types ordered once some names texts fs f formed points ready rest st inv.sound) (pointers_aim types ordered f st inv.sound.held inv.sound.stands.frame) inv.sound.held (types_taken gf) xs args
          used (leaves_are (ready_of st) (flat_map (argument_leaves f) xs) are.leaves)

      pub loan : IsLent types ordered texts fs f rest (flat_map (argument_leaves f) xs) (slot_names xs handed.values) handed.values st (lent types f xs st)
      loan = lends types ordered texts fs f rest xs handed.values st inv.sound (all_hand types ordered once texts fs f shaped st at_point (types_taken gf) xs handed.values args handed.each used) own are.leaves
          (slots_kept types f given b (ready_of st) place target g xs x.next here used)

      abbrev left : List Cell
      left = (lent types f xs st).cells

      abbrev waiting : ℕ → ℕ
      waiting k = times (named_in left) k + rest k

      -- what the callee begins with: each value is what its parameter takes
      abbrev begun : Content
      begun = (lent types f xs st).world.content

      pub begun_takes : AreTaken types (lent types f xs st).world.content (types_taken gf) handed.values
      begun_takes =
          taken_later types (λ k. ⊥) (λ k. times (named_in st.cells) k + rest k) st.world.content (lent types f xs st).world.content inv.sound.stands.store loan.keeps (types_taken gf) handed.values
          (λ n lt. ((λ none. none), let h = loan.store.forest.held n in omega (arith, h, lt))) handed.suit

      -- what waits has its pointers still
      pub begun_keeps : (loose : ℕ → Type 0) → Keeps types loose st.world.content (lent types f xs st).world.content
      begun_keeps loose = keeps_more types (λ k. ⊥) loose st.world.content (lent types f xs st).world.content (λ n none. absurd none) loan.keeps

      target_ready : (st3 : State) → ready_of st3 ≡ ready_of (lent types f xs st) → IsTargetReady types ordered once texts fs f shaped (kinds_fit types ordered once some names texts fs f formed points ready) rest s st3 target
      target_ready st3 same = record {
        births = subst (λ (bits : Ready). AreBits false bits (target_births f target)) (sym (same ∙ loan.bits)) (still_all (ready_of st) (flat_map (argument_leaves f) xs) (target_births f target) are.births);
        object = λ l at_l m ms k. subst (λ (bits : Ready). IsThere bits l.local) (sym (same ∙ loan.bits))
            (target_kept types f given b (ready_of st) place target g xs x.next here (bits_right true (ready_of st) (flat_map (argument_uses f) xs) (target_uses target) are.uses) l at_l m ms k);
        slots = λ l at_l whole object. not_there l at_l whole object (slot_at types f l.local) refl;
      }
        where
          not_there : (l : Location) → target ≡ Some l → l.members ≡ [] → object_at types f l.local ≡ true → (slot : Bool) → slot_at types f l.local ≡ slot → slot_at types f l.local ≡ false
          not_there l at_l whole object false e = e
          not_there l at_l whole object true e =
              let births : AreBits false (ready_of st) (target_births f (Some l)) = subst (λ (t : Option Location). AreBits false (ready_of st) (target_births f t)) at_l are.births in
              let of_whole : AreBits false (ready_of st) (if_object f l.local) = subst (λ (ms : List ℕ). AreBits false (ready_of st) (by_members ms (if_object f l.local) [])) whole births in
              let one : AreBits false (ready_of st) (l.local ∷ []) = subst (λ (b : Bool). AreBits false (ready_of st) (if b then l.local ∷ [] else [])) object of_whole in
              absurd (false≢true (some_same (sym one.0 ∙ slots_stay types ordered texts fs f names formed points b (ready_of st) inv.reached l.local e)))

      -- the slots have their values back, and then the target the result
      pub taken_gives : (w : World) (vs : List Cell) → GoodCalled types gf (λ k. times (named_in (lent types f xs st).cells) k + rest k) (lent types f xs st).world.content (Back 0 w vs)
          → GivesOn types f rest w.content (bits_past types f (Action (Call target g xs)) (ready_of st)) (taken_back s types f target xs vs (record { world = w; cells = (lent types f xs st).cells }))
      taken_gives w vs h =
          let back = h.2 in
          let st2 : State = record { world = w; cells = left } in
          let hand : ℕ → ℕ = λ k. times (named_in back.first) k + rest k in
          let sound2 = less_sound types f (λ k. times (named_in vs) k + rest k) (λ k. times (named_in back.others) k + hand k) st2
          (λ k. let a = ap (λ (ws : List Cell). times (named_in ws) k) back.are in let b = named_append back.first back.others k in omega (arith, a, b)) (behind_sound types f rest st inv.sound left (λ y v there e. loan.cells y v there e) w (λ k. times (named_in vs) k) h.0
          (keeps_then types (λ k. waiting k ≡ 0) st.world.content begun w.content (begun_keeps (λ k. waiting k ≡ 0)) h.1)) in
          let drops : drop (length vs - slot_count xs) vs ≡ back.others =
          ap (λ (ws : List Cell). drop (length ws - slot_count xs) ws) back.are
          ∙ back_of back.first back.others (slot_count xs) (as_many types w.content (slot_types types (types_taken gf)) back.others back.suit ∙ slots_counted types texts fs f (types_taken gf) xs args) in
          subst (λ (bits : Ready). GivesOn types f rest w.content (set_bits true (target_births f target ++ target_writes f target) bits) (taken_back s types f target xs vs st2)) loan.bits
          (subst (λ (ws : List Cell). GivesOn types f rest w.content (set_bits true (target_births f target ++ target_writes f target) (ready_of st2)) (on_next (slots_returned types f xs ws st2) (target_given s types f target vs))) (sym drops)
          (on_given_next types ordered f shaped (kinds_fit types ordered once some names texts fs f formed points ready) rest s hand w.content (ready_of st2) (set_bits true (target_births f target ++ target_writes f target) (ready_of st2)) (slots_returned types f xs back.others st2) (target_given s types f target vs) (λ k. omega arith)
          (slots_give types ordered once texts fs f shaped (kinds_fit types ordered once some names texts fs f formed points ready) hand s (types_taken gf) xs back.others st2 args back.suit sound2
          (subst (λ (bits : Ready). AreSlotsThere bits xs) (sym loan.bits) (slots_kept types f given b (ready_of st) place target g xs x.next here used)))
          (λ st3 next. subst (λ (bits : Ready). GivesOn types f rest st3.world.content (set_bits true (target_births f target ++ target_writes f target) bits) (target_given s types f target vs st3)) next.bits
          (subst (λ (ws : List Cell). GivesOn types f rest st3.world.content (set_bits true (target_births f target ++ target_writes f target) (ready_of st3)) (target_given s types f target ws st3)) (sym back.are)
          (target_gives types ordered once texts fs f shaped (kinds_fit types ordered once some names texts fs f formed points ready) rest s st3 target gf.result back.first back.others (pointers_fit types ordered f st3 next.sound.held once texts fs shaped next.sound.sorted) into next.sound
          (result_later types (λ k. times (named_in back.first) k + rest k ≡ 0) (λ k. times (named_in left) k + (times (named_in back.others) k + (times (named_in back.first) k + rest k))) w.content st3.world.content sound2.stands.store next.waits gf.result back.first
          (λ n lt. ((λ z. omega (arith, z, lt)), let i = next.sound.stands.store.forest.held n in omega (arith, i, lt))) back.given)
          (target_ready st3 next.bits))))))

      returned : (r : Called) → GoodCalled types gf (λ k. times (named_in (lent types f xs st).cells) k + rest k) (lent types f xs st).world.content r → SoundAnswer types f rest before x (came_back s types f place target xs st r)
      returned (Barred kind) h = tt
      returned (Quit stop w) h = h
      returned (Back m w vs) h =
          let lends = keeps_then types (λ k. rest k ≡ 0) before st.world.content begun inv.waits (begun_keeps (λ k. rest k ≡ 0)) in
          let waits = keeps_then types (λ k. rest k ≡ 0) before begun w.content lends (keeps_more types (λ k. waiting k ≡ 0) (λ k. rest k ≡ 0) begun w.content (λ k z. omega (arith, z)) h.1) in
          paid_good (IsSoundAt types f rest before) (IsLeft types f rest before) IsNoStray tt place w x (taken_back s types f target xs vs (record { world = w; cells = left })) m
          (gives_good b place target g xs x.next (ready_of st) w.content here inv.reached waits (taken_back s types f target xs vs (record { world = w; cells = left })) (taken_gives w vs h))

      called : SoundAnswer types f rest before x (act s types f call place (Call target g xs) n st)
      called =
          subst (λ (o : Option (List Cell)). SoundAnswer types f rest before x (came_back s types f place target xs st (call_with call g.0 o n (lent types f xs st).world))) (sym handed.are)
          (returned (call g.0 handed.values n (lent types f xs st).world) (callees g.0 gf waiting handed.values n (lent types f xs st).world is begun_takes loan.store))

    by_function : (o : Option Function) → slice_get fs g.0 ≡ o → is_call types texts fs f o target xs ≡ true → SoundAnswer types f rest before x (act s types f call place (Call target g xs) n st)
    by_function None is e = absurd (false≢true e)
    by_function (Some gf) is e =
        let outer = and_parts (are_arguments_for types texts fs f (types_taken gf) xs) _ e in
        let inner = and_parts (have_own_slots types texts fs f xs) (goes_to types texts fs f (ty_of types gf.result) target) outer.1 in
        called gf is outer.0 inner.0 inner.1

  pub calls_sound : CallsAreSound types f rest before s call
  calls_sound b place target g xs x here n st inv =
      by_function b place target g xs x here n st inv (slice_get fs g.0) refl (points b (record { spot = spot_at place (Action (Call target g xs)); leads = goes x.next }) here)
