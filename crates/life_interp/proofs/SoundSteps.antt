-- Behind an instruction of the frame at hand, and behind a test, all frames are sound still.
use Rattle.std.proofs.Common.{◌≡◌, ◌⊎◌, ⊎_elim, ℕ, ◌+◌, true, false, List, [], ◌∷◌, length, Option, Some, None, refl, sym, subst, arith}
use Rattle.std.proofs.lemmas.Bool.{false≢true}
use Rattle.std.specs.Prelude.{ℤ, Contains, IsSome}
use Rattle.life_types.specs.Types.{Types}
use Rattle.life_core.specs.Function.{Function, Program}
use Rattle.life_core.specs.Linked.{Lead, Linked, code_of, numbered, parts, spot_at}
use Rattle.life_core.specs.Proper.{bits_past, goes_on}
use Rattle.life_core.specs.Step.{Step, Test}
use Rattle.life_core.specs.Tree.{Node, Action, Question}
use Rattle.life_proper.specs.WellFormed.{is_well_formed_node, is_well_formed_step}
use Rattle.life_store.specs.Calls.{lent}
use Rattle.life_store.specs.Content.{Content}
use Rattle.life_store.specs.Doing.{Setting, Next, does}
use Rattle.life_store.specs.State.{State, ready_of}
use Rattle.life_store.proofs.Going.{InvAt}
use Rattle.life_forest.specs.Frames.{named_in}
use Rattle.life_forest.specs.Owned.{times}
use Rattle.life_forest.proofs.BodiesGo.{IsSoundAt, leads}
use Rattle.life_forest.proofs.HeldPoints.{GoesOn, IsNext, IsSound, held_goes}
use Rattle.life_forest.proofs.Holding.{KeepsWaiting}
use Rattle.life_forest.proofs.Keeping.{keeps_more, keeps_then}
use Rattle.life_interp.specs.Sound.{AreSound, AreWaiting, ComesTo, in_waiting}
use Rattle.life_interp.specs.Walk.{Waiting, first_way, second_way}
use Rattle.life_interp.specs.Walking.{IsOwn}
use Rattle.life_interp.proofs.Leads.{action_here, question_here}
use Rattle.life_interp.proofs.SoundPrograms.{goes_well, members, own_one}

-- ---- what was written and what is to be read doesn't matter

same_reached : (types : Types) (f : Function) (to : Option ℕ) (st : State) (output : List ℕ) (input : List ℤ) → InvAt (ComesTo types f) to st
    → InvAt (ComesTo types f) to (record { world = record { content = st.world.content; output = output; input = input }; cells = st.cells })
same_reached types f None st output input reached = reached
same_reached types f (Some q) st output input reached = reached

pub same_sound : (types : Types) (f : Function) (rest : ℕ → ℕ) (st : State) (output : List ℕ) (input : List ℤ) → IsSound types f rest st → IsSound types f rest (record { world = record { content = st.world.content; output = output; input = input }; cells = st.cells })
same_sound types f rest st output input sound = record { stands = record { store = sound.stands.store; frame = sound.stands.frame }; sorted = sound.sorted; held = sound.held }

pub with_ports : (p : Program) (ws : List Waiting) (f : Function) (to : Option ℕ) (st : State) (output : List ℕ) (input : List ℤ) → AreSound p ws f to st
    → AreSound p ws f to (record { world = record { content = st.world.content; output = output; input = input }; cells = st.cells })
with_ports p ws f to st output input sound = record {
  proper = sound.proper;
  own = sound.own;
  there = sound.there;
  sound = same_sound p.types f (in_waiting ws) st output input sound.sound;
  reached = same_reached p.types f to st output input sound.reached;
  waiting = sound.waiting;
}

-- ---- those that wait

-- they wait still where their pointers stay
pub waiting_on : (p : Program) (g : Function) (ws : List Waiting) (c d : Content) → KeepsWaiting p.types (in_waiting ws) c d → AreWaiting p g ws c → AreWaiting p g ws d
waiting_on p g [] c d keeps h = tt
waiting_on p g (v ∷ vs) c d keeps h = (
  record {
    own = h.0.own;
    there = h.0.there;
    point = h.0.point;
    number = h.0.number;
    here = h.0.here;
    called = h.0.called;
    before = h.0.before;
    sound = h.0.sound;
    left = h.0.left;
    keeps = keeps_then p.types (λ n. times (named_in v.cells) n + in_waiting vs n ≡ 0) (lent p.types v.function v.arguments h.0.before).world.content c d h.0.keeps keeps;
    reached = h.0.reached;
  },
  waiting_on p v.function vs c d (keeps_more p.types (λ n. times (named_in v.cells) n + in_waiting vs n ≡ 0) (λ n. in_waiting vs n ≡ 0) c d (λ n z. omega (arith, z)) keeps) h.1,
)

-- a state that is sound at a point comes to it
pub reached_so : (types : Types) (f : Function) (rest : ℕ → ℕ) (before : Content) (to : Option ℕ) (st : State) → InvAt (IsSoundAt types f rest before) to st → InvAt (ComesTo types f) to st
reached_so types f rest before None st at = at
reached_so types f rest before (Some q) st at = at.reached

module _ (p : Program) (ws : List Waiting) (f : Function) (q : ℕ) (st : State) (sound : AreSound p ws f (Some q) st) (l : Linked) (here : numbered (code_of f) q ≡ Some l) where
  abbrev types : Types
  types = p.types

  -- the instruction that stands there is well formed
  pub formed_here : (i : Step) → l.spot.node ≡ Action i → is_well_formed_step p.types (length p.texts) p.functions f i ≡ true
  formed_here i is = subst (λ (n : Node). is_well_formed_node types (length p.texts) p.functions f n ≡ true) is ((goes_well p sound.proper sound.own f sound.there).points q l here)

  -- ---- an instruction

  module _ (i : Step) (is : l.spot.node ≡ Action i) (own : IsOwn i) (s : Setting) where
    goes : GoesOn types f (in_waiting ws) st.world.content (bits_past types f (Action i) (ready_of st)) (does s types f i st)
    goes =
        let w = goes_well p sound.proper sound.own f sound.there in
        held_goes types sound.proper.well_formed.table sound.proper.well_formed.once (members p sound.proper) (length p.names) (length p.texts) p.functions f w.formed w.points w.ready (in_waiting ws) s q st l i sound.reached here is (own_one i own) sound.sound

    pub step_sound : (st' : State) → does s types f i st ≡ Next st' → AreSound p ws f (first_way l.leads) st'
    step_sound st' e =
        let w = goes_well p sound.proper sound.own f sound.there in
        let next : IsNext types f (in_waiting ws) st.world.content (bits_past types f (Action i) (ready_of st)) st' = subst (GoesOn types f (in_waiting ws) st.world.content (bits_past types f (Action i) (ready_of st))) e goes in
        let at = leads types f w.ready (in_waiting ws) st.world.content q l.spot.place i (first_way l.leads) (ready_of st) (action_here f q l here i is) sound.reached st' next.bits next.sound next.waits in
        record {
          proper = sound.proper;
          own = sound.own;
          there = sound.there;
          sound = next.sound;
          reached = reached_so types f (in_waiting ws) st.world.content (first_way l.leads) st' at;
          waiting = waiting_on p f ws st.world.content st'.world.content next.waits sound.waiting;
        }

  -- ---- a test

  module _ (t : Test) (is : l.spot.node ≡ Question t) where
    lead_reached : (lead : Lead) → Contains (parts (first_way l.leads) (second_way l.leads)) lead → (to : Option ℕ) → lead.to ≡ to → IsSome to → InvAt (ComesTo types f) to st
    lead_reached lead among None e some = absurd (false≢true some)
    lead_reached lead among (Some r) e some =
        goes_on {l = record { spot = spot_at l.spot.place (Question t); leads = parts (first_way l.leads) (second_way l.leads) }} sound.reached (question_here f q l here t is) among e

    led : (to : Option ℕ) → InvAt (ComesTo types f) to st → AreSound p ws f to st
    led to reached = record { proper = sound.proper; own = sound.own; there = sound.there; sound = sound.sound; reached = reached; waiting = sound.waiting }

    pub test_sound : (to : Option ℕ) → (to ≡ first_way l.leads) ⊎ (to ≡ second_way l.leads) → AreSound p ws f to st
    test_sound to e =
        let ready = (goes_well p sound.proper sound.own f sound.there).ready in
        let on = ready.leads_on q (ready_of st) (record { spot = spot_at l.spot.place (Question t); leads = parts (first_way l.leads) (second_way l.leads) }) sound.reached (question_here f q l here t is) in
        ⊎_elim
        (λ h. subst (λ (x : Option ℕ). AreSound p ws f x st) (sym h) (led (first_way l.leads) (lead_reached (record { branch = Some true; to = first_way l.leads }) (0, omega arith, refl) (first_way l.leads) refl on.0)))
        (λ h. subst (λ (x : Option ℕ). AreSound p ws f x st) (sym h) (led (second_way l.leads) (lead_reached (record { branch = Some false; to = second_way l.leads }) (1, omega arith, refl) (second_way l.leads) refl on.1.0)))
        e
