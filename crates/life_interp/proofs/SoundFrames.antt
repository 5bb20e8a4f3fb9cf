-- The machine's frames are sound behind what its functions do.
use Rattle.std.proofs.Common.{◌≡◌, ◌⊎◌, ℕ, ◌<◌, ◌≤◌, ◌^◌, true, List, [], ◌∷◌, ◌++◌, length, map, Option, Some, None, Result, Ok, Err, OnOk, refl, sym, ap, subst, ◌∙◌}
use Rattle.std.proofs.lemmas.Bool.{false≢true}
use Rattle.std.proofs.lemmas.Option.{none-some}
use Rattle.std.specs.Prelude.{ℤ, option_and_then, option_map, slice_get}
use Rattle.std.specs.declared.alloc.Global.{Global}
use Rattle.std.specs.declared.vec.Vec.{Vec}
use Rattle.life_types.specs.declared.place.Place.{Place}
use Rattle.life_types.specs.declared.ty.TyId.{TyId}
use Rattle.life_core.specs.declared.program.FnId.{FnId}
use Rattle.life_core.specs.Function.{Function, Program}
use Rattle.life_core.specs.Holdings.{result_sort}
use Rattle.life_core.specs.Linked.{Lead, Linked, code_of, enter, goes, no_exits, numbered, spot_at}
use Rattle.life_core.specs.Operands.{Argument, Location, argument_of, location_of}
use Rattle.life_core.specs.Step.{Step, Call, Test}
use Rattle.life_core.specs.Tree.{Node, Action, Question, Return}
use Rattle.life_proper.specs.WellFormed.{is_call, types_taken}
use Rattle.life_forest.proofs.HandedOver.{AreTaken}
use Rattle.life_store.specs.Calls.{all_handed, given_back, lent, parameters_given, results, slot_count, slots_back, taken_back}
use Rattle.life_store.specs.Content.{Content}
use Rattle.life_store.specs.Doing.{Setting, Next, cell, does}
use Rattle.life_store.specs.Meaning.{frame, value_in}
use Rattle.life_store.specs.Parts.{width_at}
use Rattle.life_store.specs.State as state
use Rattle.life_store.specs.State.{State}
use Rattle.life_cells.specs.Cells.{cells_seen, state_of}
use Rattle.life_interp.specs.CallOperands.{slot_values}
use Rattle.life_interp.specs.Cells.{world_of}
use Rattle.life_interp.specs.Frames.{function_at, point_at, stack_seen, waiting_seen, AllBegin}
use Rattle.life_interp.specs.Returning.{back_given, Returning, TakesBack}
use Rattle.life_interp.specs.Sound.{AreSound, IsAsking, IsAt}
use Rattle.life_interp.specs.Walk as walk
use Rattle.life_interp.specs.Walk.{first_way, second_way}
use Rattle.life_interp.specs.Walking.{IsOwn, IsSoundWalk, StandsHere}
use Rattle.life_interp.specs.declared.frames.Frames.{Frames}
use Rattle.life_interp.specs.declared.frames.Waiting.{Waiting}
use Rattle.life_cells.specs.declared.cell.Cell.{Cell}
use Rattle.life_interp.proofs.CodeLists.{function_there, there_at}
use Rattle.life_interp.proofs.FrameLemmas.{stack_push}
use Rattle.life_interp.proofs.Leads.{action_here, return_here}
use Rattle.life_interp.proofs.SlotReturns.{IsFor, taken_is}
use Rattle.life_interp.proofs.SoundCalls.{back_sound, call_sound, given_taken}
use Rattle.life_interp.proofs.SoundResults.{any_setting, result_for, returning, slots_are, slots_many, takes_back, told_result}
use Rattle.life_interp.proofs.SoundSteps.{formed_here, step_sound, test_sound, with_ports}

-- ---- what stands at the point leads on as its kind does

module _ (p : Program) (frames : Frames) (l : Linked) (at : point_at p.functions frames ≡ Some l) where
  there : (k : Linked) → ((q : ℕ) → numbered (code_of (function_at p.functions frames.function)) q ≡ Some l → numbered (code_of (function_at p.functions frames.function)) q ≡ Some k) → point_at p.functions frames ≡ Some k
  there k go = by frames.point at
    where
      by : (to : Option ℕ) → option_and_then (numbered (code_of (function_at p.functions frames.function))) to ≡ Some l → option_and_then (numbered (code_of (function_at p.functions frames.function))) to ≡ Some k
      by None e = absurd (none-some l e)
      by (Some q) e = go q e

  pub action_there : (i : Step) → l.spot.node ≡ Action i → StandsHere p frames l.spot.place (Action i) (goes (first_way l.leads))
  action_there i is = there (record { spot = spot_at l.spot.place (Action i); leads = goes (first_way l.leads) }) (λ q here. action_here (function_at p.functions frames.function) q l here i is)

  pub return_there : l.spot.node ≡ Return → StandsHere p frames l.spot.place Return []
  return_there is = there (record { spot = spot_at l.spot.place Return; leads = [] }) (λ q here. return_here (function_at p.functions frames.function) q l here is)

-- ---- behind what is done there

module _ (p : Program) (frames : Frames) (c : Content) (sound : IsSoundWalk p frames c) where
  abbrev stack : List walk.Waiting
  stack = stack_seen p.functions frames.waiting.items

  abbrev function : Function
  function = function_at p.functions frames.function

  abbrev at : List ℤ → State
  at ins = state_of c frames.cells.items [] ins

  -- what stands at the point of the frame at hand, and that the frames are sound there, whatever is to be read
  record IsHere (l : Linked) : Type 0 where
    point : ℕ
    here : numbered (code_of (function_at p.functions frames.function)) point ≡ Some l
    known : (ins : List ℤ) → AreSound p (stack_seen p.functions frames.waiting.items) (function_at p.functions frames.function) (Some point) (state_of c frames.cells.items [] ins)

  is_here : (place : Place) (node : Node) (ls : List Lead) → StandsHere p frames place node ls → IsHere (record { spot = spot_at place node; leads = ls })
  is_here place node ls here = go frames.point here sound
    where
      go : (to : Option ℕ) → option_and_then (numbered (code_of function)) to ≡ Some (record { spot = spot_at place node; leads = ls }) → AreSound p stack function to (at []) → IsHere (record { spot = spot_at place node; leads = ls })
      go None e h = absurd (none-some (record { spot = spot_at place node; leads = ls }) e)
      go (Some q) e h = record { point = q; here = e; known = λ ins. with_ports p stack function (Some q) (at []) [] ins h }

  -- an instruction stands there
  pub own_at : (place : Place) (i : Step) (to : Option ℕ) → StandsHere p frames place (Action i) (goes to) → (f : Function) → function_at p.functions frames.function ≡ f → IsAt p f i (state_of c frames.cells.items [] [])
  own_at place i to stands f is =
      let h = is_here place (Action i) (goes to) stands in
      subst (λ (g : Function). IsAt p g i (state_of c frames.cells.items [] [])) is
      (record { behind = stack; point = h.point; linked = record { spot = spot_at place (Action i); leads = goes to }; here = h.here; is = refl; sound = h.known [] })

  -- .. or a test
  pub test_here : (place : Place) (t : Test) (ls : List Lead) → StandsHere p frames place (Question t) ls → (f : Function) → function_at p.functions frames.function ≡ f → IsAsking p f t (state_of c frames.cells.items [] [])
  test_here place t ls stands f is =
      let h = is_here place (Question t) ls stands in
      subst (λ (g : Function). IsAsking p g t (state_of c frames.cells.items [] [])) is
      (record { behind = stack; point = h.point; linked = record { spot = spot_at place (Question t); leads = ls }; here = h.here; is = refl; sound = h.known [] })

  -- behind an instruction
  pub own_sound : (place : Place) (i : Step) (to : Option ℕ) → StandsHere p frames place (Action i) (goes to) → IsOwn i → (f : Function) → function_at p.functions frames.function ≡ f → (s : Setting) (ins rest : List ℤ) (text : List ℕ) (d : Content) (new : List Cell)
      → does s p.types f i (state_of c frames.cells.items [] ins) ≡ Next (state_of d new text rest) → AreSound p (stack_seen p.functions frames.waiting.items) (function_at p.functions frames.function) to (state_of d new [] [])
  own_sound place i to stands own f is s ins rest text d new e =
      let h = is_here place (Action i) (goes to) stands in
      let l : Linked = record { spot = spot_at place (Action i); leads = goes to } in
      let done = ap (λ (g : Function). does s p.types g i (at ins)) is ∙ e in
      with_ports p stack function to (state_of d new text rest) [] [] (step_sound p stack function h.point (at ins) (h.known ins) l h.here i refl own s (state_of d new text rest) done)

  -- behind a test
  pub chosen_sound : {A E : Type 0} (place : Place) (t : Test) (ls : List Lead) → StandsHere p frames place (Question t) ls → (new : Frames) → new.function ≡ frames.function → new.cells ≡ frames.cells → new.waiting ≡ frames.waiting
      → (result : Result A E) → OnOk result ((new.point ≡ first_way ls) ⊎ (new.point ≡ second_way ls)) → OnOk result (IsSoundWalk p new c)
  chosen_sound place t ls stands new function_is cells_are waiting_are (Err e) led = tt
  chosen_sound place t ls stands new function_is cells_are waiting_are (Ok a) led =
      let h = is_here place (Question t) ls stands in
      let l : Linked = record { spot = spot_at place (Question t); leads = ls } in
      let went = test_sound p stack function h.point (at []) (h.known []) l h.here t refl new.point led in
      subst (λ (ws : Vec Waiting Global). AreSound p (stack_seen p.functions ws.items) (function_at p.functions new.function) new.point (state_of c new.cells.items [] [])) (sym waiting_are)
      (subst (λ (n : ℕ). AreSound p stack (function_at p.functions n) new.point (state_of c new.cells.items [] [])) (sym function_is)
      (subst (λ (cells : Vec Cell Global). AreSound p stack function new.point (state_of c cells.items [] [])) (sym cells_are) went))

  -- a function that is called
  pub called_sound : {A E : Type 0} (place : Place) (target : Option Location) (g : FnId) (xs : List Argument) (to : Option ℕ) → StandsHere p frames place (Action (Call target g xs)) (goes to) → g.0 < length p.functions → AllBegin p.functions → (values : List state.Cell)
      → all_handed p.types (function_at p.functions frames.function) (state_of c frames.cells.items [] []) xs ≡ Some values → (s : Setting) (b : Content) (left : List Cell) → lent p.types (function_at p.functions frames.function) xs (state_of c frames.cells.items [] []) ≡ state_of b left [] [] → (d : Content) (cells : List Cell)
      → parameters_given s p.types (function_at p.functions g.0) 0 values (frame (function_at p.functions g.0) (world_of b [] [])) ≡ Next (state_of d cells [] []) → (new : Frames) (result : Result A E)
      → OnOk result (new.function ≡ g.0) → OnOk result (new.point ≡ Some 1) → OnOk result (new.cells.items ≡ cells)
      → OnOk result ((fs : List Function) → stack_seen fs new.waiting.items ≡ record { function = function_at fs frames.function; cells = cells_seen left; place = place; to = to; target = target; arguments = xs } ∷ stack_seen fs frames.waiting.items)
      → OnOk result (IsSoundWalk p new d)
  called_sound place target g xs to stands lt begin values are s b left lends d cells begins new (Err e) function_is point_is cells_are stacked = tt
  called_sound place target g xs to stands lt begin values are s b left lends d cells begins new (Ok a) function_is point_is cells_are stacked =
      let h = is_here place (Action (Call target g xs)) (goes to) stands in
      let l : Linked = record { spot = spot_at place (Action (Call target g xs)); leads = goes to } in
      let gf = function_at p.functions g.0 in
      let there = there_at p.functions g.0 lt in
      let st = at [] in
      let known = h.known [] in
      let went =
      subst (λ (cs : List state.Cell). AreSound p (record { function = function; cells = cs; place = place; to = to; target = target; arguments = xs } ∷ stack) gf (enter gf.body 1 no_exits) (state_of d cells [] []))
      (ap (λ (u : State). u.cells) lends)
      (call_sound p stack function h.point st known l h.here target g xs refl gf there s values are (state_of d cells [] [])
      (ap (λ (u : State). parameters_given s p.types gf 0 values (frame gf u.world)) lends ∙ begins)) in
      subst (λ (ws : List walk.Waiting). AreSound p ws (function_at p.functions new.function) new.point (state_of d new.cells.items [] [])) (sym (stacked p.functions))
      (subst (λ (n : ℕ). AreSound p (walks ∷ stack) (function_at p.functions n) new.point (state_of d new.cells.items [] [])) (sym function_is)
      (subst (λ (to' : Option ℕ). AreSound p (walks ∷ stack) gf to' (state_of d new.cells.items [] [])) (begin g.0 gf there ∙ sym point_is)
      (subst (λ (vs : List Cell). AreSound p (walks ∷ stack) gf (enter gf.body 1 no_exits) (state_of d vs [] [])) (sym cells_are) went)))
    where
      walks : walk.Waiting
      walks = record { function = function; cells = cells_seen left; place = place; to = to; target = target; arguments = xs }

  -- what is handed over is what the parameters take
  pub called_taken : (place : Place) (target : Option Location) (g : FnId) (xs : List Argument) (to : Option ℕ) → StandsHere p frames place (Action (Call target g xs)) (goes to) → (values : List state.Cell)
      → all_handed p.types (function_at p.functions frames.function) (state_of c frames.cells.items [] []) xs ≡ Some values → (b : Content) (left : List Cell) → lent p.types (function_at p.functions frames.function) xs (state_of c frames.cells.items [] []) ≡ state_of b left [] []
      → AreTaken p.types b (types_taken (function_at p.functions g.0)) values
  called_taken place target g xs to stands values are b left lends =
      let h = is_here place (Action (Call target g xs)) (goes to) stands in
      by_function h (slice_get p.functions g.0) refl (formed_here p stack function h.point (at []) (h.known []) (record { spot = spot_at place (Action (Call target g xs)); leads = goes to }) h.here (Call target g xs) refl)
    where
      by_function : (h : IsHere (record { spot = spot_at place (Action (Call target g xs)); leads = goes to })) (o : Option Function) → slice_get p.functions g.0 ≡ o → is_call p.types (length p.texts) p.functions (function_at p.functions frames.function) o target xs ≡ true
          → AreTaken p.types b (types_taken (function_at p.functions g.0)) values
      by_function h None is e = absurd (false≢true e)
      by_function h (Some gf) is e =
          subst (λ (k : Function). AreTaken p.types b (types_taken k) values) (sym (function_there p.functions g.0 gf is))
          (subst (λ (x : Content). AreTaken p.types x (types_taken gf) values) (ap (λ (u : State). u.world.content) lends)
          (given_taken p stack function h.point (at []) (h.known []) (record { spot = spot_at place (Action (Call target g xs)); leads = goes to }) h.here target g xs refl gf is any_setting values are))

  -- where a function is left, what is told of its values is told of its result
  pub told_here : (place : Place) → StandsHere p frames place Return [] → (ins : List ℤ) → value_in (results p.types (function_at p.functions frames.function) (state_of c frames.cells.items [] ins))
      ≡ value_in (given_back (slice_get p.types.types (function_at p.functions frames.function).result.0) (result_sort p.types (function_at p.functions frames.function)) (cell (state_of c frames.cells.items [] ins) (function_at p.functions frames.function).parameters))
  told_here place stands ins =
      let h = is_here place Return [] stands in
      told_result p stack function h.point (at ins) (h.known ins) (record { spot = spot_at place Return; leads = [] }) h.here refl

  -- ---- the frame that waited for a function that is left

  module _ (place : Place) (stands : StandsHere p frames place Return []) (ws : List Waiting) (w : Waiting) (stacked : frames.waiting.items ≡ ws ++ w ∷ []) where
    abbrev v : walk.Waiting
    v = waiting_seen p.functions w

    abbrev vs : List walk.Waiting
    vs = stack_seen p.functions ws

    abbrev l : Linked
    l = record { spot = spot_at place Return; leads = [] }

    abbrev result : List state.Cell
    result = given_back (slice_get p.types.types (function_at p.functions frames.function).result.0) (result_sort p.types (function_at p.functions frames.function)) (cell (state_of c frames.cells.items [] []) (function_at p.functions frames.function).parameters)

    known : (h : IsHere (record { spot = spot_at place Return; leads = [] })) → AreSound p (waiting_seen p.functions w ∷ stack_seen p.functions ws) (function_at p.functions frames.function) (Some h.point) (state_of c frames.cells.items [] [])
    known h = subst (λ (us : List walk.Waiting). AreSound p us function (Some h.point) (at [])) (ap (stack_seen p.functions) stacked ∙ stack_push p.functions ws w) (h.known [])

    pub slots_here : (output : List ℕ) (ins : List ℤ) → slots_back p.types (function_at p.functions frames.function) 0 (function_at p.functions frames.function).parameters (state_of c frames.cells.items output ins) ≡ slot_values (cells_seen frames.cells.items) 0 (map argument_of w.arguments.now)
    slots_here output ins = let h = is_here place Return [] stands in slots_are p v vs function h.point (state_of c frames.cells.items output ins) (with_ports p (v ∷ vs) function (Some h.point) (at []) output ins (known h)) l h.here refl

    pub many_here : length (slot_values (cells_seen frames.cells.items) 0 (map argument_of w.arguments.now)) ≡ slot_count (map argument_of w.arguments.now)
    many_here = let h = is_here place Return [] stands in slots_many p v vs function h.point (at []) (known h) l h.here refl

    pub for_here : IsFor (option_map location_of w.target.now) (given_back (slice_get p.types.types (function_at p.functions frames.function).result.0) (result_sort p.types (function_at p.functions frames.function)) (cell (state_of c frames.cells.items [] []) (function_at p.functions frames.function).parameters))
    for_here = let h = is_here place Return [] stands in result_for p v vs function h.point (at []) (known h) l h.here refl

    pub returning_here : ((ty : TyId) → width_at p.types ty ≤ 2 ^ 32) → Returning p.types (function_at p.functions w.function) (map argument_of w.arguments.now) (slot_values (cells_seen frames.cells.items) 0 (map argument_of w.arguments.now)) (state_of c w.cells.items [] [])
    returning_here narrow = let h = is_here place Return [] stands in returning p v vs function h.point (at []) (known h) l h.here refl narrow

    pub takes_here : ((ty : TyId) → width_at p.types ty ≤ 2 ^ 32)
        → TakesBack p.types (function_at p.functions w.function) (map argument_of w.arguments.now) (slot_values (cells_seen frames.cells.items) 0 (map argument_of w.arguments.now)) (option_map location_of w.target.now)
        (given_back (slice_get p.types.types (function_at p.functions frames.function).result.0) (result_sort p.types (function_at p.functions frames.function)) (cell (state_of c frames.cells.items [] []) (function_at p.functions frames.function).parameters)) (state_of c w.cells.items [] [])
    takes_here narrow = let h = is_here place Return [] stands in takes_back p v vs function h.point (at []) (known h) l h.here refl narrow

    pub returned_sound : (s : Setting) (d : Content) (cells : List Cell)
        → back_given s p.types (function_at p.functions w.function) (map argument_of w.arguments.now) (slot_values (cells_seen frames.cells.items) 0 (map argument_of w.arguments.now)) (option_map location_of w.target.now)
        (given_back (slice_get p.types.types (function_at p.functions frames.function).result.0) (result_sort p.types (function_at p.functions frames.function)) (cell (state_of c frames.cells.items [] []) (function_at p.functions frames.function).parameters)) (state_of c w.cells.items [] []) ≡ Next (state_of d cells [] [])
        → AreSound p (stack_seen p.functions ws) (function_at p.functions w.function) w.to (state_of d cells [] [])
    returned_sound s d cells takes =
        let h = is_here place Return [] stands in
        let others = slot_values (cells_seen frames.cells.items) 0 (map argument_of w.arguments.now) in
        let same =
        ap (λ (os : List state.Cell). taken_back s p.types v.function v.target v.arguments (result ++ os) (state_of c w.cells.items [] [])) (slots_here [] [])
        ∙ taken_is s p.types v.function v.target v.arguments result others (state_of c w.cells.items [] []) many_here for_here in
        back_sound p v vs function h.point (at []) (known h) l h.here refl s (state_of d cells [] []) (same ∙ takes)
