-- What holds at each point of a walk, of the frame at hand and of those that wait.
use Rattle.std.specs.Prelude.{◌≡◌, ℕ, ◌+◌, List, [], ◌∷◌, Option, Some, slice_get}
use Rattle.life_types.specs.Types.{Types}
use Rattle.life_core.specs.Function.{Function, Program}
use Rattle.life_core.specs.Linked.{Linked, code_of, goes, numbered, spot_at}
use Rattle.life_core.specs.Proper.{Reaches}
use Rattle.life_core.specs.Step.{Call, Step, Test}
use Rattle.life_core.specs.Tree.{Action, Question}
use Rattle.life_core.specs.declared.program.FnId.{FnId}
use Rattle.life_core_served.specs.ProperPrograms.{IsProperProgram}
use Rattle.life_store.specs.Calls.{lent}
use Rattle.life_store.specs.Content.{Content}
use Rattle.life_store.specs.State.{State, ready_of}
use Rattle.life_store.proofs.Going.{InvAt}
use Rattle.life_forest.specs.Frames.{named_in}
use Rattle.life_forest.specs.Owned.{times}
use Rattle.life_forest.proofs.HeldPoints.{IsSound}
use Rattle.life_forest.proofs.Holding.{KeepsWaiting}
use Rattle.life_interp.specs.Walk.{Waiting}

-- what the frames that wait have in the hand: the objects that their cells name
abbrev pub in_waiting : List Waiting → ℕ → ℕ
in_waiting [] k = 0
in_waiting (v ∷ vs) k = times (named_in v.cells) k + in_waiting vs k

-- some way from the entry comes to the point with the locals that are there
abbrev pub ComesTo : Types → Function → ℕ → State → Type 0
ComesTo types f q st = Reaches types f q (ready_of st)

-- a frame of the program waits for a call of a function, where others wait behind it: it stood at the call and was sound, and since it lent what it
-- handed over, what it has kept of its objects has its pointers still
pub record WaitsFor (p : Program) (g : Function) (behind : List Waiting) (v : Waiting) (now : Content) : Type 0 where
  pub own : ℕ
  pub there : slice_get p.functions own ≡ Some v.function
  pub point : ℕ
  pub number : FnId
  pub here : numbered (code_of v.function) point ≡ Some (record { spot = spot_at v.place (Action (Call v.target number v.arguments)); leads = goes v.to })
  pub called : slice_get p.functions number.0 ≡ Some g
  pub before : State
  pub sound : IsSound p.types v.function (in_waiting behind) before
  pub left : v.cells ≡ (lent p.types v.function v.arguments before).cells
  pub keeps : KeepsWaiting p.types (λ k. times (named_in v.cells) k + in_waiting behind k) (lent p.types v.function v.arguments before).world.content now
  pub reached : ComesTo p.types v.function point before

-- .. each of them
abbrev pub AreWaiting : Program → Function → List Waiting → Content → Type 0
AreWaiting p g [] now = Unit {0}
AreWaiting p g (v ∷ vs) now = WaitsFor p g vs v now × AreWaiting p v.function vs now

-- a frame of a proper program comes to a point: it is sound beside those that wait, and is there with the locals that the way to it leaves
pub record AreSound (p : Program) (ws : List Waiting) (f : Function) (to : Option ℕ) (st : State) : Type 0 where
  pub proper : IsProperProgram p
  pub own : ℕ
  pub there : slice_get p.functions own ≡ Some f
  pub sound : IsSound p.types f (in_waiting ws) st
  pub reached : InvAt (ComesTo p.types f) to st
  pub waiting : AreWaiting p f ws st.world.content

-- .. at which an instruction stands
pub record IsAt (p : Program) (f : Function) (i : Step) (st : State) : Type 0 where
  pub behind : List Waiting
  pub point : ℕ
  pub linked : Linked
  pub here : numbered (code_of f) point ≡ Some linked
  pub is : linked.spot.node ≡ Action i
  pub sound : AreSound p behind f (Some point) st

-- .. or a test
pub record IsAsking (p : Program) (f : Function) (t : Test) (st : State) : Type 0 where
  pub behind : List Waiting
  pub point : ℕ
  pub linked : Linked
  pub here : numbered (code_of f) point ≡ Some linked
  pub is : linked.spot.node ≡ Question t
  pub sound : AreSound p behind f (Some point) st
