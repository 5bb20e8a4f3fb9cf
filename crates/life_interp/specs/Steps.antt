-- What the machine's functions answer of the steps of the meaning.
use Rattle.std.specs.Prelude.{◌≡◌, ◌<◌, ◌+◌, ℕ, ℤ, Bool, true, false, List, [], Option, None, Some, Result, Ok, Err, MatchResult}
use Rattle.std.specs.declared.alloc.Global.{Global}
use Rattle.std.specs.declared.vec.Vec.{Vec}
use Rattle.life_types.specs.Types.{Types}
use Rattle.life_core.specs.Function.{Function}
use Rattle.life_core.specs.Operands.{Operand}
use Rattle.life_store.specs.Doing.{Setting, Effect, Next, Traps, Faults, Strays, cell, input_taken, locate, on_found, on_got, on_number, operand_word, put_cell, saved}
use Rattle.life_store.specs.Calls.{parameters_given}
use Rattle.life_store.specs.Content.{Content, live_words_of}
use Rattle.life_store.specs.Meaning.{frame}
use Rattle.life_store.specs.State as state
use Rattle.life_store.specs.State.{State}
use Rattle.life_store.specs.declared.run.TrapKind.TheVariants as trap
use Rattle.life_forest.specs.FrameTypes.{Stands}
use Rattle.life_pointers.specs.Attempts.{itself, tried}
use Rattle.life_pointers.specs.declared.stop.Stop.{Stop}
use Rattle.life_pointers.specs.declared.stop.Stop.TheVariants as stop
use Rattle.life_cells.specs.Cells.{cells_seen, state_of}
use Rattle.life_cells.specs.declared.cell.Cell.{Cell}
use Rattle.life_interp.specs.Cells.{world_of}
use Rattle.life_interp.specs.declared.ending.Ending.{Ending}
use Rattle.life_interp.specs.declared.ending.Ending.TheVariants as ending

-- ---- frames

-- nothing of the local is alive
abbrev pub is_free : Option state.Cell → Bool
is_free (Some state.Empty) = true
is_free _ = false

-- a frame of the function stands in the content, where others have the rest in the hand
abbrev pub StandsIn : Types → Function → (rest : ℕ → ℕ) → Content → List Cell → Type 0
StandsIn types f rest c cells = Stands types f rest (state_of c cells [] [])

-- .. of some function
abbrev pub IsStanding : Types → Content → List Cell → Type 0
IsStanding types c cells = (f : Function) × (rest : ℕ → ℕ) × StandsIn types f rest c cells

-- ---- steps

-- why a step doesn't come to a next state
abbrev pub TellsEnd : Effect → Ending → Type 0
TellsEnd effect (ending.Trap kind) = effect ≡ Traps kind
TellsEnd effect (ending.Fault kind) = effect ≡ Faults kind
TellsEnd effect ending.Stray = effect ≡ Strays
TellsEnd effect ending.NoMemory = Unit {0}
TellsEnd effect ending.WriteFault = ⊥

-- what stops a step ends it
abbrev pub ended_as : Stop → Ending
ended_as (stop.Trap kind) = ending.Trap kind
ended_as (stop.Fault kind) = ending.Fault kind
ended_as stop.Lost = ending.Stray

abbrev pub settled_as : {A : Type 0} → Result A Stop → Result A Ending
settled_as (Ok a) = Ok a
settled_as (Err e) = Err (ended_as e)

-- the step comes to the next state, or ends as it is told, whatever was written and is to be read
abbrev pub Leaves : {A : Type 0} → (List ℕ → List ℤ → Effect) → (List ℕ → List ℤ → State) → Result A Ending → Type 0
Leaves effect next result =
    MatchResult result
    (λ _. (output : List ℕ) (input : List ℤ) → effect output input ≡ Next (next output input))
    (λ e. (output : List ℕ) (input : List ℤ) → TellsEnd (effect output input) e)

-- a step that changes cells alone
abbrev pub LeavesCells : {A : Type 0} → (State → Effect) → Content → List Cell → List Cell → Result A Ending → Type 0
LeavesCells effect c cells new = Leaves (λ output input. effect (state_of c cells output input)) (state_of c new)

-- .. and one that changes the store besides
abbrev pub LeavesBoth : {A : Type 0} → (State → Effect) → Content → List Cell → Content → List Cell → Result A Ending → Type 0
LeavesBoth effect c cells d new = Leaves (λ output input. effect (state_of c cells output input)) (state_of d new)

-- a step by which a register is given the value that was read, or that stops as its reading did
abbrev pub Reads : (ℕ → State → Effect) → Content → List Cell → Result ℤ Stop → Type 0
Reads effect c cells value = (r : ℕ) (output : List ℕ) (input : List ℤ) → effect r (state_of c cells output input) ≡ on_got (tried itself value) (λ z. Next (put_cell r (state.Number z) (state_of c cells output input)))

-- a register's value is written to a place
abbrev pub stored : Types → Function → Operand → ℕ → State → Effect
stored types f o r st = on_number (cell st r) (λ z. on_found (locate types f o st) (λ n i object. Next (saved z n i (operand_word types f o st) object st)))

-- a number of the input is taken into a register
abbrev pub taken_into : ℕ → State → Effect
taken_into r st = input_taken r st.world.input st

-- ---- what a run is given

-- the limit of live words and the texts are those at hand
pub record IsSet (s : Setting) (limit : ℕ) (stand : List (List ℕ)) : Type 0 where
  pub cells : s.given.cells ≡ limit
  pub texts : s.texts ≡ stand

-- why no object of a value is born
abbrev pub BirthFails : ℕ → Content → Ending → Type 0
BirthFails limit c (ending.Trap kind) = (kind ≡ trap.Cells) × (limit < live_words_of c + 3)
BirthFails limit c (ending.Fault kind) = ⊥
BirthFails limit c ending.Stray = ⊥
BirthFails limit c ending.NoMemory = Unit {0}
BirthFails limit c ending.WriteFault = ⊥

-- ---- calls

-- why nothing was handed over
abbrev pub TellsNone : Option (List state.Cell) → Ending → Type 0
TellsNone values (ending.Trap kind) = ⊥
TellsNone values (ending.Fault kind) = ⊥
TellsNone values ending.Stray = values ≡ None
TellsNone values ending.NoMemory = Unit {0}
TellsNone values ending.WriteFault = ⊥

abbrev pub Hands : Option (List state.Cell) → Result (Vec Cell Global) Ending → Type 0
Hands values result = MatchResult result (λ (handed : Vec Cell Global). values ≡ Some (cells_seen handed.items)) (TellsNone values)

-- the cells of a new frame whose first locals are given the values
abbrev pub Begins : Setting → Types → Function → List state.Cell → Content → Content → Result (Vec Cell Global) Ending → Type 0
Begins s types f values c d result =
    MatchResult result
    (λ (cells : Vec Cell Global). (output : List ℕ) (input : List ℤ) → parameters_given s types f 0 values (frame f (world_of c output input)) ≡ Next (state_of d cells.items output input))
    (λ e. (output : List ℕ) (input : List ℤ) → TellsEnd (parameters_given s types f 0 values (frame f (world_of c output input))) e)
