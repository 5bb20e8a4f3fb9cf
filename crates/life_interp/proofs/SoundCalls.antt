-- A function that is called is sound beside the frame that waits for it, and that frame is sound when it has what comes back.
use Rattle.std.proofs.Common.{◌≡◌, ℕ, ◌+◌, true, List, ◌∷◌, length, Option, Some, None, refl, sym, subst, ◌∙◌, arith}
use Rattle.std.proofs.lemmas.Bool.{and_parts, false≢true}
use Rattle.std.proofs.lemmas.Option.{same_Some}
use Rattle.std.specs.Prelude.{IsSome, slice_get}
use Rattle.life_types.specs.Pointees.{ty_of}
use Rattle.life_types.specs.Types.{Types}
use Rattle.life_core.specs.declared.exits.Exits.{Exits}
use Rattle.life_core.specs.declared.program.FnId.{FnId}
use Rattle.life_core.specs.Function.{Function, Program}
use Rattle.life_core.specs.Linked.{Linked, code_of, enter, no_exits, numbered, with_next}
use Rattle.life_core.specs.Operands.{Argument, Location}
use Rattle.life_core.specs.Proper.{IsNodeReady, Reaches, bits_past, starts}
use Rattle.life_core.specs.Ready.{entry_ready}
use Rattle.life_core.specs.Step.{Call}
use Rattle.life_core.specs.Tree.{Node, Action, Return}
use Rattle.life_proper.specs.WellFormed.{are_arguments_for, goes_to, have_own_slots, is_call, is_well_formed_node, types_taken}
use Rattle.life_proper.proofs.SortedNodes.{formed_parts}
use Rattle.life_store.specs.Calls.{all_handed, lent, parameters_given, results, taken_back}
use Rattle.life_store.specs.Doing.{Setting, Next}
use Rattle.life_store.specs.Meaning.{Back, calls, frame}
use Rattle.life_store.specs.State.{Cell, State, ready_of}
use Rattle.life_store.proofs.Going.{InvAt}
use Rattle.life_forest.specs.Frames.{named_in}
use Rattle.life_forest.specs.Owned.{times}
use Rattle.life_forest.specs.Typed.{IsStore}
use Rattle.life_forest.proofs.BodiesGo.{IsLeft, IsSoundAt, leads}
use Rattle.life_forest.proofs.CallersGo.{GoodCalled, begun_keeps, begun_takes, handed, loan, taken_gives}
use Rattle.life_forest.proofs.CallsGo.{calls_good, left_gives}
use Rattle.life_forest.proofs.EnteredFrames.{GivesOn}
use Rattle.life_forest.proofs.EntryFrames.{entry_gives, parameters_all}
use Rattle.life_forest.proofs.HandedOver.{AreTaken}
use Rattle.life_forest.proofs.HeldPoints.{IsNext}
use Rattle.life_forest.proofs.Holding.{KeepsWaiting}
use Rattle.life_forest.proofs.Keeping.{keeps_more, keeps_self, keeps_then}
use Rattle.life_forest.proofs.SettledPoints.{formed_at, kinds_fit}
use Rattle.life_forest.proofs.Shaped.{locals_shaped}
use Rattle.life_forest.proofs.Slots.{slots_stay}
use Rattle.life_interp.specs.Sound.{AreSound, ComesTo, WaitsFor, in_waiting}
use Rattle.life_interp.specs.Walk.{Waiting, first_way}
use Rattle.life_interp.proofs.Leads.{action_here}
use Rattle.life_interp.proofs.SoundPrograms.{goes_well, members}
use Rattle.life_interp.proofs.SoundSteps.{reached_so, waiting_on}

-- a state with the locals that are there at the entry comes to the first point
pub first_reached : (types : Types) (f : Function) (st : State) (to : Option ℕ) → enter f.body 1 no_exits ≡ to → IsSome to → ready_of st ≡ entry_ready f → InvAt (ComesTo types f) to st
first_reached types f st None e some is = absurd (false≢true some)
first_reached types f st (Some q) e some is = subst (Reaches types f q) (sym is) (starts e)

module _ (p : Program) (ws : List Waiting) (f : Function) (q : ℕ) (st : State) (sound : AreSound p ws f (Some q) st) (l : Linked) (here : numbered (code_of f) q ≡ Some l) where
  -- what the point of a call asks
  module _ (target : Option Location) (g : FnId) (xs : List Argument) (is : l.spot.node ≡ Action (Call target g xs)) (gf : Function) (called : slice_get p.functions g.0 ≡ Some gf) where
    formed_call : is_call p.types (length p.texts) p.functions f (Some gf) target xs ≡ true
    formed_call =
        subst (λ (o : Option Function). is_call p.types (length p.texts) p.functions f o target xs ≡ true) called
        (subst (λ (n : Node). is_well_formed_node p.types (length p.texts) p.functions f n ≡ true) is ((goes_well p sound.proper sound.own f sound.there).points q l here))

    -- what the frame at hand has while the call runs
    abbrev begun : State
    begun = lent p.types f xs st

    abbrev exits : Exits
    exits = with_next (first_way l.leads) no_exits

    -- what is handed over, as the forest has it
    module _ (s : Setting) where
      inv : IsSoundAt p.types f (in_waiting ws) st.world.content q st
      inv = record { reached = sound.reached; sound = sound.sound; waits = keeps_self p.types (λ n. in_waiting ws n ≡ 0) st.world.content }

      parts : (have_own_slots p.types (length p.texts) p.functions f xs ≡ true) × (goes_to p.types (length p.texts) p.functions f (ty_of p.types gf.result) target ≡ true)
      parts = and_parts (have_own_slots p.types (length p.texts) p.functions f xs) (goes_to p.types (length p.texts) p.functions f (ty_of p.types gf.result) target) (and_parts (are_arguments_for p.types (length p.texts) p.functions f (types_taken gf) xs) _ formed_call).1

      args : are_arguments_for p.types (length p.texts) p.functions f (types_taken gf) xs ≡ true
      args = (and_parts (are_arguments_for p.types (length p.texts) p.functions f (types_taken gf) xs) _ formed_call).0

      -- the function that is called begins in the world that was lent
      module _ (values : List Cell) (handed_are : all_handed p.types f st xs ≡ Some values) where
        abbrev waits : Waiting
        waits = record { function = f; cells = (lent p.types f xs st).cells; place = l.spot.place; to = first_way l.leads; target = target; arguments = xs }

        loaned : AreTaken p.types (lent p.types f xs st).world.content (types_taken gf) values × IsStore p.types (λ k. times (named_in values) k + in_waiting (record { function = f; cells = (lent p.types f xs st).cells; place = l.spot.place; to = first_way l.leads; target = target; arguments = xs } ∷ ws) k) (lent p.types f xs st).world.content
            × KeepsWaiting p.types (in_waiting ws) st.world.content (lent p.types f xs st).world.content
        loaned =
            let names = length p.names in
            let texts = length p.texts in
            let table = sound.proper.well_formed.table in
            let some = members p sound.proper in
            let all = goes_well p sound.proper in
            let one = all sound.own f sound.there in
            let none = calls_good s p table sound.proper.well_formed.once some names texts all 0 in
            let here_at = action_here f q l here (Call target g xs) is in
            let h = handed p.types table sound.proper.well_formed.once some names texts p.functions f one.formed one.points one.ready (in_waiting ws) st.world.content s (calls s p 0) none one.given q l.spot.place target g xs exits here_at 0 st inv gf called args parts.0 parts.1 in
            let same : h.values ≡ values = same_Some h.values values (sym h.are ∙ handed_are) in
            let takes = begun_takes p.types table sound.proper.well_formed.once some names texts p.functions f one.formed one.points one.ready (in_waiting ws) st.world.content s (calls s p 0) none one.given q l.spot.place target g xs exits here_at 0 st inv gf called args parts.0 parts.1 in
            let borrow = loan p.types table sound.proper.well_formed.once some names texts p.functions f one.formed one.points one.ready (in_waiting ws) st.world.content s (calls s p 0) none one.given q l.spot.place target g xs exits here_at 0 st inv gf called args parts.0 parts.1 in
            let keeps = begun_keeps p.types table sound.proper.well_formed.once some names texts p.functions f one.formed one.points one.ready (in_waiting ws) st.world.content s (calls s p 0) none one.given q l.spot.place target g xs exits here_at 0 st inv gf called args parts.0 parts.1 (λ n. in_waiting ws n ≡ 0) in (
              subst (AreTaken p.types begun.world.content (types_taken gf)) same takes,
              subst (λ (vs : List Cell). IsStore p.types (λ k. times (named_in vs) k + in_waiting (waits ∷ ws) k) begun.world.content) same borrow.store,
              keeps,
            )

        -- each value is what its parameter takes
        pub given_taken : AreTaken p.types (lent p.types f xs st).world.content (types_taken gf) values
        given_taken = loaned.0

        module _ (st' : State) (begins : parameters_given s p.types gf 0 values (frame gf (lent p.types f xs st).world) ≡ Next st') where
          next : IsNext p.types gf (in_waiting (record { function = f; cells = (lent p.types f xs st).cells; place = l.spot.place; to = first_way l.leads; target = target; arguments = xs } ∷ ws)) (lent p.types f xs st).world.content (entry_ready gf) st'
          next =
              let names = length p.names in
              let texts = length p.texts in
              let table = sound.proper.well_formed.table in
              let some = members p sound.proper in
              let two = goes_well p sound.proper g.0 gf called in
              let shaped = locals_shaped p.types table names gf (formed_parts p.types names texts p.functions gf two.formed).locals in
              subst (GivesOn p.types gf (in_waiting (waits ∷ ws)) begun.world.content (entry_ready gf)) begins
              (entry_gives p.types table gf shaped (kinds_fit p.types table sound.proper.well_formed.once some names texts p.functions gf two.formed two.points two.ready) (in_waiting (waits ∷ ws)) s values begun.world
              (parameters_all p.types names gf shaped (formed_at p.types table sound.proper.well_formed.once some names texts p.functions gf two.formed two.points two.ready)) loaned.1 loaned.0)

          pub call_sound : AreSound p (record { function = f; cells = (lent p.types f xs st).cells; place = l.spot.place; to = first_way l.leads; target = target; arguments = xs } ∷ ws) gf (enter gf.body 1 no_exits) st'
          call_sound =
              let two = goes_well p sound.proper g.0 gf called in
              record {
                proper = sound.proper;
                own = g.0;
                there = called;
                sound = next.sound;
                reached = first_reached p.types gf st' (enter gf.body 1 no_exits) refl two.ready.begins next.bits;
                waiting = (
                  record {
                    own = sound.own;
                    there = sound.there;
                    point = q;
                    number = g;
                    here = action_here f q l here (Call target g xs) is;
                    called = called;
                    before = st;
                    sound = sound.sound;
                    left = refl;
                    keeps = next.waits;
                    reached = sound.reached;
                  },
                  waiting_on p f ws st.world.content st'.world.content
                      (keeps_then p.types (λ n. in_waiting ws n ≡ 0) st.world.content begun.world.content st'.world.content loaned.2
                      (keeps_more p.types (λ n. in_waiting (waits ∷ ws) n ≡ 0) (λ n. in_waiting ws n ≡ 0) begun.world.content st'.world.content (λ n z. omega (arith, z)) next.waits)) sound.waiting,
                );
              }

-- ---- a function is left

module _ (p : Program) (v : Waiting) (vs : List Waiting) (f : Function) (q : ℕ) (st : State) (sound : AreSound p (v ∷ vs) f (Some q) st) (l : Linked) (here : numbered (code_of f) q ≡ Some l) (is : l.spot.node ≡ Return) where
  abbrev caller : WaitsFor p f vs v st.world.content
  caller = sound.waiting.0

  -- what the call asked
  pub waiting_formed : is_call p.types (length p.texts) p.functions v.function (Some f) v.target v.arguments ≡ true
  waiting_formed =
      subst (λ (o : Option Function). is_call p.types (length p.texts) p.functions v.function o v.target v.arguments ≡ true) caller.called
      ((goes_well p sound.proper caller.own v.function caller.there).points caller.point _ caller.here)

  -- the frame that waits has what comes back
  module _ (s : Setting) where
    gives : GivesOn p.types v.function (in_waiting vs) st.world.content (bits_past p.types v.function (Action (Call v.target sound.waiting.0.number v.arguments)) (ready_of sound.waiting.0.before))
        (taken_back s p.types v.function v.target v.arguments (results p.types f st) (record { world = st.world; cells = v.cells }))
    gives =
        let names = length p.names in
        let texts = length p.texts in
        let table = sound.proper.well_formed.table in
        let some = members p sound.proper in
        let all = goes_well p sound.proper in
        let one = all caller.own v.function caller.there in
        let two = all sound.own f sound.there in
        let rest = in_waiting vs in
        let content = caller.before.world.content in
        let none = calls_good s p table sound.proper.well_formed.once some names texts all 0 in
        let parts = and_parts (are_arguments_for p.types texts p.functions v.function (types_taken f) v.arguments) _ waiting_formed in
        let both = and_parts (have_own_slots p.types texts p.functions v.function v.arguments) (goes_to p.types texts p.functions v.function (ty_of p.types f.result) v.target) parts.1 in
        let begun = (lent p.types v.function v.arguments caller.before).world.content in
        let inv : IsSoundAt p.types v.function rest content caller.point caller.before = record { reached = caller.reached; sound = caller.sound; waits = keeps_self p.types (λ n. rest n ≡ 0) content } in
        let left : IsLeft p.types f (in_waiting (v ∷ vs)) begun st = record {
          ready = subst (IsNodeReady p.types f (ready_of st)) is (two.ready.ready q (ready_of st) l sound.reached here);
          slots = slots_stay p.types table texts p.functions f names two.formed two.points q (ready_of st) sound.reached;
          sound = sound.sound;
          waits = caller.keeps;
        } in
        let back : GoodCalled p.types f (in_waiting (v ∷ vs)) begun (Back 0 st.world (results p.types f st)) = left_gives p.types table sound.proper.well_formed.once some names texts p.functions all s (calls s p 0) none f two (in_waiting (v ∷ vs)) begun 0 st left in
        subst (λ (cells : List Cell). GivesOn p.types v.function rest st.world.content (bits_past p.types v.function (Action (Call v.target caller.number v.arguments)) (ready_of caller.before)) (taken_back s p.types v.function v.target v.arguments (results p.types f st) (record { world = st.world; cells = cells }))) (sym caller.left)
        (taken_gives p.types table sound.proper.well_formed.once some names texts p.functions v.function one.formed one.points one.ready rest content s (calls s p 0) none one.given caller.point v.place v.target caller.number v.arguments (with_next v.to no_exits) caller.here 0 caller.before inv f caller.called parts.0 both.0 both.1 st.world (results p.types f st)
        (subst (λ (cells : List Cell). GoodCalled p.types f (λ k. times (named_in cells) k + rest k) begun (Back 0 st.world (results p.types f st))) caller.left back))

    pub back_sound : (st' : State) → taken_back s p.types v.function v.target v.arguments (results p.types f st) (record { world = st.world; cells = v.cells }) ≡ Next st' → AreSound p vs v.function v.to st'
    back_sound st' e =
        let one = goes_well p sound.proper caller.own v.function caller.there in
        let bits = bits_past p.types v.function (Action (Call v.target caller.number v.arguments)) (ready_of caller.before) in
        let next : IsNext p.types v.function (in_waiting vs) st.world.content bits st' = subst (GivesOn p.types v.function (in_waiting vs) st.world.content bits) e gives in
        let at = leads p.types v.function one.ready (in_waiting vs) st.world.content caller.point v.place (Call v.target caller.number v.arguments) v.to (ready_of caller.before) caller.here caller.reached st' next.bits next.sound next.waits in
        record {
          proper = sound.proper;
          own = caller.own;
          there = caller.there;
          sound = next.sound;
          reached = reached_so p.types v.function (in_waiting vs) st.world.content v.to st' at;
          waiting = waiting_on p v.function vs st.world.content st'.world.content next.waits sound.waiting.1;
        }
