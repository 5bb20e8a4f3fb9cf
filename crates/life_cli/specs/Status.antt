-- The statuses, their numbers, and which of them come where.
use Rattle.std.specs.Prelude.{ℕ}
use Rattle.life_cli.specs.declared.status.Status.{Status}
use Rattle.life_cli.specs.declared.status.Status.TheVariants.{Done, Diagnosed, Syntax, Ill, Limit, Trap, Fault, Steps, Usage, Input, NoFile, NoMemory, ReadFault, WriteFault}

-- the exit status of the program
abbrev pub code_of : Status → ℕ
code_of Done = 0
code_of Diagnosed = 1
code_of Syntax = 2
code_of Ill = 3
code_of Limit = 4
code_of Trap = 5
code_of Fault = 6
code_of Steps = 7
code_of Usage = 64
code_of Input = 65
code_of NoFile = 66
code_of NoMemory = 71
code_of ReadFault = 74
code_of WriteFault = 74

-- the status says what the words and the files come to, and not that memory or a counted fault was in the way
abbrev pub IsSettled : Status → Type 0
IsSettled NoMemory = ⊥
IsSettled ReadFault = ⊥
IsSettled WriteFault = ⊥
IsSettled _ = Unit {0}

-- .. and not that the words are no job
abbrev pub IsOfJob : Status → Type 0
IsOfJob Usage = ⊥
IsOfJob NoMemory = ⊥
IsOfJob ReadFault = ⊥
IsOfJob WriteFault = ⊥
IsOfJob _ = Unit {0}

-- .. and not that a run used what it may not use
abbrev pub IsFaultless : Status → Type 0
IsFaultless Fault = ⊥
IsFaultless Usage = ⊥
IsFaultless NoMemory = ⊥
IsFaultless ReadFault = ⊥
IsFaultless WriteFault = ⊥
IsFaultless _ = Unit {0}
