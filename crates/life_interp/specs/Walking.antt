-- What the machine's loop answers of the walk over points.
use Rattle.std.specs.Prelude.{◌≡◌, ℕ, ℤ, List, [], ◌++◌, Option, Some, slice_get, Bool, true, false, Result, MatchResult, MatchOption}
use Rattle.std.specs.Io.KnownBytes.{Appends}
use Rattle.std.specs.declared.alloc.Global.{Global}
use Rattle.std.specs.declared.vec.Vec.{Vec}
use Rattle.life_base.specs.Causes.{Rose}
use Rattle.life_base.specs.Edges.{AppendsFront}
use Rattle.life_core.specs.Function.{Function, Program}
use Rattle.life_core.specs.Linked.{Lead, enter, no_exits, spot_at}
use Rattle.life_core.specs.Step.{Step, Call, Ports, Test}
use Rattle.life_core.specs.Tree.{Node}
use Rattle.life_types.specs.Types.{Types}
use Rattle.life_types.specs.declared.place.Place.{Place}
use Rattle.life_store.specs.Doing.{Setting, Effect, Next}
use Rattle.life_store.specs.Calls.{results}
use Rattle.life_store.specs.Content.{Content}
use Rattle.life_store.specs.Meaning.{Trapped, Faulted, Stray, Exhausted, Verdict, Holds, Fails, Cut, Called, Back, Barred, Quit, test_at, value_in}
use Rattle.life_store.specs.State as state
use Rattle.life_store.specs.State.{World, State}
use Rattle.life_cells.specs.Cells.{state_of}
use Rattle.life_interp.specs.Cells.{world_of}
use Rattle.life_interp.specs.Frames.{function_at, point_at, stack_seen}
use Rattle.life_interp.specs.Sound.{AreSound}
use Rattle.life_interp.specs.Steps.{TellsEnd}
use Rattle.life_interp.specs.Walk as walk
use Rattle.life_interp.specs.Walk.{Go, at_action, at_point, back, chosen, entered_in, first_way, second_way}
use Rattle.life_interp.specs.declared.ending.Ending.{Ending}
use Rattle.life_interp.specs.declared.ending.Ending.TheVariants as ending
use Rattle.life_interp.specs.declared.ending.Halt.{Halt}
use Rattle.life_interp.specs.declared.ending.Halt.TheVariants as halt
use Rattle.life_interp.specs.declared.frames.Frames.{Frames}
use Rattle.life_cells.specs.declared.cell.Cell.{Cell}

-- ---- instructions

-- nothing goes in or out
abbrev pub IsQuiet : Step → Type 0
IsQuiet (Ports p) = ⊥
IsQuiet _ = Unit {0}

-- no frame waits for it
abbrev pub IsOwn : Step → Type 0
IsOwn (Call target g xs) = ⊥
IsOwn _ = Unit {0}

-- what the sink has taken, and its count of faults, before and after
pub record Sunk : Type 0 where
  pub old : Option (List ℕ)
  pub new : Option (List ℕ)
  pub faults : ℕ
  pub later : ℕ

-- the sink took the whole text, and no fault was counted
pub record Takes (k : Sunk) (text : List ℕ) : Type 0 where
  pub taken : Appends k.old k.new text
  pub quiet : k.later ≡ k.faults

-- .. or a front of it, and one was
pub record TakesPart (k : Sunk) (text : List ℕ) : Type 0 where
  pub taken : AppendsFront k.old k.new text
  pub rose : Rose k.faults k.later

-- an instruction from one store and frame, and the input that is left, to the next, with what it writes
abbrev pub StepEnds : (State → Effect) → Content → List Cell → List ℤ → Sunk → Ending → Type 0
StepEnds effect c cells ins k ending.WriteFault =
    (text : List ℕ) × TakesPart k text × ((output : List ℕ) → effect (state_of c cells output ins) ≡ Next (state_of c cells (output ++ text) ins))
StepEnds effect c cells ins k (ending.Trap kind) = Takes k [] × ((output : List ℕ) → TellsEnd (effect (state_of c cells output ins)) (ending.Trap kind))
StepEnds effect c cells ins k (ending.Fault kind) = Takes k [] × ((output : List ℕ) → TellsEnd (effect (state_of c cells output ins)) (ending.Fault kind))
StepEnds effect c cells ins k ending.Stray = Takes k [] × ((output : List ℕ) → TellsEnd (effect (state_of c cells output ins)) ending.Stray)
StepEnds effect c cells ins k ending.NoMemory = Takes k []

abbrev pub Performs : {A : Type 0} → (State → Effect) → Content → List Cell → List ℤ → Content → List Cell → List ℤ → Sunk → Result A Ending → Type 0
Performs effect c cells ins d new rest k result =
    MatchResult result
    (λ _. (text : List ℕ) × Takes k text × ((output : List ℕ) → effect (state_of c cells output ins) ≡ Next (state_of d new (output ++ text) rest)))
    (StepEnds effect c cells ins k)

-- the text is written out
abbrev pub WriteFails : List ℕ → Sunk → Ending → Type 0
WriteFails text k (ending.Trap kind) = ⊥
WriteFails text k (ending.Fault kind) = ⊥
WriteFails text k ending.Stray = ⊥
WriteFails text k ending.NoMemory = Takes k []
WriteFails text k ending.WriteFault = TakesPart k text

abbrev pub Writes : {A : Type 0} → List ℕ → Sunk → Result A Ending → Type 0
Writes text k result = MatchResult result (λ _. Takes k text) (WriteFails text k)

-- a number of the input is taken
abbrev pub LeavesInput : {A : Type 0} → (State → Effect) → Content → List Cell → List ℤ → List Cell → List ℤ → Result A Ending → Type 0
LeavesInput effect c cells ins new rest result =
    MatchResult result
    (λ _. (output : List ℕ) → effect (state_of c cells output ins) ≡ Next (state_of c new output rest))
    (λ e. (output : List ℕ) → TellsEnd (effect (state_of c cells output ins)) e)

-- ---- tests

abbrev pub verdict : Bool → ℕ → State → Verdict
verdict true n st = Holds n st
verdict false n st = Fails n st

-- what a test answers of a frame
abbrev pub Asks : Types → Function → Test → Content → List Cell → Option Bool → Type 0
Asks types f t c cells result =
    MatchOption result
    ((n : ℕ) (output : List ℕ) (input : List ℤ) → test_at types f t n (state_of c cells output input) ≡ Cut Stray (world_of c output input))
    (λ b. (n : ℕ) (output : List ℕ) (input : List ℤ) → test_at types f t n (state_of c cells output input) ≡ verdict b n (state_of c cells output input))

-- ---- points

-- why the machine stops at this place
abbrev pub halt_of : Place → Ending → Halt
halt_of place (ending.Trap kind) = halt.Trap kind place
halt_of place (ending.Fault kind) = halt.Fault kind place
halt_of place ending.Stray = halt.Stray
halt_of place ending.NoMemory = halt.NoMemory
halt_of place ending.WriteFault = halt.WriteFault

-- .. where control was to enter a function
abbrev pub barred_of : Place → Ending → Halt
barred_of place (ending.Trap kind) = halt.Trap kind place
barred_of place (ending.Fault kind) = halt.Stray
barred_of place ending.Stray = halt.Stray
barred_of place ending.NoMemory = halt.NoMemory
barred_of place ending.WriteFault = halt.WriteFault

-- what is done at a point, by how it goes on, the steps that are left and what was written
abbrev pub Doing : Type 0
Doing = Go → ℕ → List ℕ → Called

-- the machine goes on from these frames
abbrev pub from : List Function → Frames → Content → List ℤ → Doing
from fs frames c ins go n output =
    go (stack_seen fs frames.waiting.items) (function_at fs frames.function) frames.point (state_of c frames.cells.items output ins)

-- a point at which nothing goes in or out
abbrev pub Halts : Doing → Content → List ℤ → Halt → Type 0
Halts at c ins (halt.Returned z) = (values : List state.Cell) × (z ≡ value_in values) × ((go : Go) (n : ℕ) (output : List ℕ) → at go n output ≡ Back n (world_of c output ins) values)
Halts at c ins (halt.Trap kind place) = (go : Go) (n : ℕ) (output : List ℕ) → at go n output ≡ Quit (Trapped kind place) (world_of c output ins)
Halts at c ins (halt.Fault kind place) = (go : Go) (n : ℕ) (output : List ℕ) → at go n output ≡ Quit (Faulted kind place) (world_of c output ins)
Halts at c ins halt.OutOfSteps = ⊥
Halts at c ins halt.Stray = (go : Go) (n : ℕ) (output : List ℕ) → at go n output ≡ Quit Stray (world_of c output ins)
Halts at c ins halt.WriteFault = ⊥
Halts at c ins halt.NoMemory = Unit {0}

abbrev pub Moves : {A : Type 0} → Doing → List Function → Content → Frames → Content → List ℤ → Result A Halt → Type 0
Moves at fs c new d ins result = MatchResult result (λ _. (go : Go) (n : ℕ) (output : List ℕ) → at go n output ≡ from fs new d ins go n output) (Halts at c ins)

-- control enters a function with a new frame
abbrev pub Enters : Setting → Program → ℕ → List state.Cell → Place → Content → Content → Result (Vec Cell Global) Halt → Type 0
Enters s p g values place c d result =
    MatchResult result
    (λ (cells : Vec Cell Global). (go : Go) (ws : List walk.Waiting) (before : Content) (output : List ℕ) (ins : List ℤ) → entered_in s p go ws place (world_of before output ins) (world_of c output ins) (slice_get p.functions g) values
    ≡ go ws (function_at p.functions g) (enter (function_at p.functions g).body 1 no_exits) (state_of d cells.items output ins))
    (λ h. (ws : List walk.Waiting) (before : Content) (ins : List ℤ) → Halts (λ go n output. entered_in s p go ws place (world_of before output ins) (world_of c output ins) (slice_get p.functions g) values) before ins h)

-- .. and any point
abbrev pub PointEnds : Doing → List Function → Content → List ℤ → Sunk → Halt → Type 0
PointEnds at fs c ins k halt.WriteFault =
    (text : List ℕ) × (new : Frames) × TakesPart k text × ((go : Go) (n : ℕ) (output : List ℕ) → at go n output ≡ from fs new c ins go n (output ++ text))
PointEnds at fs c ins k (halt.Returned z) = Takes k [] × Halts at c ins (halt.Returned z)
PointEnds at fs c ins k (halt.Trap kind place) = Takes k [] × Halts at c ins (halt.Trap kind place)
PointEnds at fs c ins k (halt.Fault kind place) = Takes k [] × Halts at c ins (halt.Fault kind place)
PointEnds at fs c ins k halt.OutOfSteps = ⊥
PointEnds at fs c ins k halt.Stray = Takes k [] × Halts at c ins halt.Stray
PointEnds at fs c ins k halt.NoMemory = Takes k []

abbrev pub PointLeads : {A : Type 0} → Doing → List Function → Content → List ℤ → Frames → Content → List ℤ → Sunk → Result A Halt → Type 0
PointLeads at fs c ins new d rest k result =
    MatchResult result
    (λ _. (text : List ℕ) × Takes k text × ((go : Go) (n : ℕ) (output : List ℕ) → at go n output ≡ from fs new d rest go n (output ++ text)))
    (PointEnds at fs c ins k)

-- ---- what holds of the frames

-- they are sound, whatever was written and is to be read
abbrev pub IsSoundWalk : Program → Frames → Content → Type 0
IsSoundWalk p frames c = AreSound p (stack_seen p.functions frames.waiting.items) (function_at p.functions frames.function) frames.point (state_of c frames.cells.items [] [])

-- this stands at the point of the frame at hand, from which control goes on so
abbrev pub StandsHere : Program → Frames → Place → Node → List Lead → Type 0
StandsHere p frames place node leads = point_at p.functions frames ≡ Some (record { spot = spot_at place node; leads = leads })

-- ---- what is done at the point of the frame at hand

module _ (s : Setting) (p : Program) (frames : Frames) (c : Content) (ins : List ℤ) where
  abbrev pub here : List ℕ → State
  here output = state_of c frames.cells.items output ins

  abbrev pub stack : List walk.Waiting
  stack = stack_seen p.functions frames.waiting.items

  abbrev pub function : Function
  function = function_at p.functions frames.function

  abbrev pub passes : Doing
  passes go n output = at_point s p go stack function (point_at p.functions frames) n (here output)

  abbrev pub acts : Step → Place → Option ℕ → Doing
  acts i place to go n output = at_action s p go stack function i place to (here output)

  abbrev pub asks : Test → List Lead → Doing
  asks t leads go n output = chosen (go stack function) (first_way leads) (second_way leads) (test_at p.types function t n (here output))

  abbrev pub returns : Doing
  returns go n output = back s p go stack n (world_of c output ins) (results p.types function (here output))

-- ---- the whole walk, from an empty output on

abbrev pub output_of : Called → List ℕ
output_of (Back n w values) = w.output
output_of (Barred kind) = []
output_of (Quit stop w) = w.output

abbrev pub WalkEnds : Called → Sunk → Halt → Type 0
WalkEnds walked k (halt.Returned z) = (n : ℕ) × (w : World) × (values : List state.Cell) × Takes k w.output × (z ≡ value_in values) × (walked ≡ Back n w values)
WalkEnds walked k (halt.Trap kind place) = (w : World) × Takes k w.output × (walked ≡ Quit (Trapped kind place) w)
WalkEnds walked k (halt.Fault kind place) = (w : World) × Takes k w.output × (walked ≡ Quit (Faulted kind place) w)
WalkEnds walked k halt.OutOfSteps = (w : World) × Takes k w.output × (walked ≡ Quit Exhausted w)
WalkEnds walked k halt.Stray = (w : World) × (walked ≡ Quit Stray w)
WalkEnds walked k halt.WriteFault = TakesPart k (output_of walked)
WalkEnds walked k halt.NoMemory = AppendsFront k.old k.new (output_of walked) × (k.later ≡ k.faults)
