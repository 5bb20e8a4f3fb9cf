-- What a function of the program answers, against what the definitions give.
use Rattle.std.specs.Prelude.{◌≡◌, Option, Some, None, Result, Ok, Err}
use Rattle.life_types.specs.declared.memory.NoMemory.{NoMemory}
use Rattle.life_writer.specs.Writing.{State, Gives, gives}

-- it is what the definitions give, and what has been written is too, unless memory ran out
abbrev pub Answers : {X A : Type 0} → (X → A) → Result X NoMemory → Gives A → State → Type 0
Answers view (Ok x) given now = given ≡ gives (view x) now
Answers view (Err e) given now = Unit {0}

-- what a definition that is there gives
abbrev pub Answered : {X A : Type 0} → (X → A) → X → Option (State → Gives A) → (before now : State) → Type 0
Answered view x None before now = ⊥
Answered view x (Some given) before now = given before ≡ gives (view x) now

-- .. of what may not be there: nothing is written then
abbrev pub AnswersIf : {X A : Type 0} → (X → A) → Result (Option X) NoMemory → Option (State → Gives A) → (before now : State) → Type 0
AnswersIf view (Ok None) given before now = (given ≡ None) × (now ≡ before)
AnswersIf view (Ok (Some x)) given before now = Answered view x given before now
AnswersIf view (Err e) given before now = Unit {0}
