-- At each point of a proper function that is reached, in a frame that stands and whose objects hold well: an instruction of any kind but a call doesn't
-- stray, and all of this holds behind it; and a test answers.
use Rattle.std.proofs.Common.{◌≡◌, ℕ, true, List, Some, subst}
use Rattle.life_types.specs.Trees.{IsOrdered}
use Rattle.life_types.specs.Types.{HasEachOnce, Types}
use Rattle.life_core.specs.Function.{Function}
use Rattle.life_core.specs.Linked.{Linked, code_of, numbered}
use Rattle.life_core.specs.Proper.{HasReadyWays, IsNodeReady, Reaches, bits_past}
use Rattle.life_core.specs.Ready.{Ready}
use Rattle.life_core.specs.Step.{Step, Test}
use Rattle.life_core.specs.Tree.{Node, Action, Question}
use Rattle.life_proper.specs.WellFormed.{is_well_formed_node}
use Rattle.life_proper.specs.WellFormedPrograms.{is_well_formed_function}
use Rattle.life_proper.proofs.SortedNodes.{formed_parts}
use Rattle.life_store.specs.Content.{Content}
use Rattle.life_store.specs.Doing.{does}
use Rattle.life_store.specs.Effects.{Setting, Effect, Next, Traps, Faults, Strays}
use Rattle.life_store.specs.Meaning.{test_at}
use Rattle.life_store.specs.State.{State, ready_of}
use Rattle.life_forest.specs.FrameTypes.{Stands}
use Rattle.life_forest.specs.Frames.{OnNext}
use Rattle.life_forest.specs.HeldPointers.{HoldWell}
use Rattle.life_forest.specs.Settled.{IsPoised}
use Rattle.life_forest.specs.Sorted.{AreSorted}
use Rattle.life_forest.proofs.HeldPointers.{pointers_aim, pointers_fit}
use Rattle.life_forest.proofs.Holding.{Holds, KeepsWaiting}
use Rattle.life_forest.proofs.HoldingSteps.{step_holds}
use Rattle.life_forest.proofs.SettledPoints.{Goes, kinds_fit, locals_stand, point_goes}
use Rattle.life_forest.proofs.SettledSteps.{IsOneFrame}
use Rattle.life_forest.proofs.SettledTests.{Answers, test_settles}
use Rattle.life_forest.proofs.SettlingLives.{HaveMembers}
use Rattle.life_forest.proofs.Shaped.{IsShaped, locals_shaped}
use Rattle.life_forest.proofs.Slots.{ArePointsFormed}
use Rattle.life_forest.proofs.TypedPoints.{slot_free, typed_point}

-- what holds of a frame at each point: it stands, each cell is of its local's sort, and its objects hold well
pub record IsSound (types : Types) (f : Function) (rest : ℕ → ℕ) (st : State) : Type 0 where
  pub stands : Stands types f rest st
  pub sorted : AreSorted types f st.cells
  pub held : HoldWell types f st

-- .. in the next state, with these locals; and what waits keeps its pointers
pub record IsNext (types : Types) (f : Function) (rest : ℕ → ℕ) (c : Content) (locals : Ready) (st : State) : Type 0 where
  pub sound : IsSound types f rest st
  pub bits : ready_of st ≡ locals
  pub waits : KeepsWaiting types rest c st.world.content

abbrev pub GoesOn : Types → Function → (ℕ → ℕ) → Content → Ready → Effect → Type 0
GoesOn types f rest c bits (Next st) = IsNext types f rest c bits st
GoesOn types f rest c bits (Traps kind) = Unit {0}
GoesOn types f rest c bits (Faults kind) = Unit {0}
GoesOn types f rest c bits Strays = ⊥

goes_on : (types : Types) (f : Function) (rest : ℕ → ℕ) (before : State) (bits : Ready) (e : Effect) → Goes types f rest bits e → OnNext e (Holds types f rest before) → GoesOn types f rest before.world.content bits e
goes_on types f rest before bits (Next st) goes held = record { sound = record { stands = goes.0; sorted = goes.2; held = held.well }; bits = goes.1; waits = held.waits }
goes_on types f rest before bits (Traps kind) goes held = tt
goes_on types f rest before bits (Faults kind) goes held = tt
goes_on types f rest before bits Strays goes held = goes

module _ (types : Types) (ordered : IsOrdered types) (once : HasEachOnce types) (some : HaveMembers types) (names texts : ℕ) (fs : List Function) (f : Function) (formed : is_well_formed_function types names texts fs f ≡ true) (points : ArePointsFormed types texts fs f)
    (ready : HasReadyWays types f) where
  shaped : IsShaped types f
  shaped = locals_shaped types ordered names f (formed_parts types names texts fs f formed).locals

  pub poised : (rest : ℕ → ℕ) (st : State) → IsSound types f rest st → IsPoised types f st
  poised rest st sound = record {
    kinds = kinds_fit types ordered once some names texts fs f formed points ready;
    frame = sound.stands.frame;
    sorted = sound.sorted;
    pointers = pointers_fit types ordered f st sound.held once texts fs shaped sound.sorted;
  }

  pub held_goes : (rest : ℕ → ℕ) (s : Setting) (p : ℕ) (st : State) (l : Linked) (i : Step) → Reaches types f p (ready_of st) → numbered (code_of f) p ≡ Some l → l.spot.node ≡ Action i → IsOneFrame i → IsSound types f rest st
      → GoesOn types f rest st.world.content (bits_past types f (Action i) (ready_of st)) (does s types f i st)
  held_goes rest s p st l i way here is one sound =
      let at_point = poised rest st sound in
      let aims = pointers_aim types ordered f st sound.held sound.stands.frame in
      let are = subst (IsNodeReady types f (ready_of st)) is (ready.ready p (ready_of st) l way here) in
      goes_on types f rest st (bits_past types f (Action i) (ready_of st)) (does s types f i st)
      (point_goes types ordered once some names texts fs f formed points ready rest s p st l i way here is one sound.stands sound.sorted aims at_point.pointers)
      (step_holds types ordered once texts fs f shaped (locals_stand types ordered once some names texts fs f formed points ready) rest s st sound.stands at_point aims sound.held i one
      (subst (λ (n : Node). is_well_formed_node types texts fs f n ≡ true) is (points p l here)) (slot_free types ordered once names texts fs f formed points ready p (ready_of st) way i are) are
      (typed_point types ordered once names texts fs f formed points ready p st l i way here is aims sound.sorted))

  pub held_answers : (rest : ℕ → ℕ) (p : ℕ) (st : State) (l : Linked) (t : Test) (n : ℕ) → Reaches types f p (ready_of st) → numbered (code_of f) p ≡ Some l → l.spot.node ≡ Question t → IsSound types f rest st → Answers st (test_at types f t n st)
  held_answers rest p st l t n way here is sound =
      let are = subst (IsNodeReady types f (ready_of st)) is (ready.ready p (ready_of st) l way here) in
      test_settles types f st (poised rest st sound) texts fs t n (subst (λ (node : Node). is_well_formed_node types texts fs f node ≡ true) is (points p l here)) are.uses
