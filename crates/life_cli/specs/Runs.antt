-- What a run comes to, as an answer.
use Rattle.std.specs.Prelude.{◌≡◌, ℕ, ℤ, Bool, true, false, nat_lt, List, ◌++◌, length, Option, Some, None, Ok, Err, codes, decimal}
use Rattle.std.specs.Fmt.{signed_decimal}
use Rattle.life_job.specs.declared.job.Growth as asked
use Rattle.life_job.specs.declared.job.Growth.TheVariants as growth
use Rattle.life_job.specs.declared.job.RunOptions.{RunOptions}
use Rattle.life_types.specs.Places.{position_text}
use Rattle.life_types.specs.declared.place.Place.{Place}
use Rattle.life_core.specs.Function.{Function, Program}
use Rattle.life_store.specs.Doing.{Given}
use Rattle.life_store.specs.Meaning as meaning
use Rattle.life_store.specs.Meaning.{Outcome, run_of}
use Rattle.life_store.specs.declared.run.FaultKind.{FaultKind}
use Rattle.life_store.specs.declared.run.Growth.{Growth}
use Rattle.life_store.specs.declared.run.Growth.TheVariants.{Always, Double}
use Rattle.life_store.specs.declared.run.FaultKind.TheVariants.{Null, Dangling, Moved}
use Rattle.life_store.specs.declared.run.TrapKind.{TrapKind}
use Rattle.life_store.specs.declared.run.TrapKind.TheVariants.{Bounds, Overflow, ZeroDivisor, Assert, InputEnd, Cells, Depth, ForeignIterator}
use Rattle.life_cli.specs.Answer.{Answer, line, refusal}
use Rattle.life_cli.specs.Entry.{Entry, Absent, Begins, NotValue, entry_of}
use Rattle.life_cli.specs.InputFile.{Numbers}
use Rattle.life_cli.specs.declared.status.Status.{Status}
use Rattle.life_cli.specs.declared.status.Status.TheVariants as status

abbrev pub trap_name : TrapKind → List ℕ
trap_name Bounds = codes "bounds"
trap_name Overflow = codes "overflow"
trap_name ZeroDivisor = codes "zero-divisor"
trap_name Assert = codes "assert"
trap_name InputEnd = codes "input-end"
trap_name Cells = codes "cells"
trap_name Depth = codes "depth"
trap_name ForeignIterator = codes "foreign-iterator"

abbrev pub fault_name : FaultKind → List ℕ
fault_name Null = codes "null"
fault_name Dangling = codes "dangling"
fault_name Moved = codes "moved"

-- the status of each end, and the line on err
abbrev pub value_end : ℤ → Status × List ℕ
value_end value = (status.Done, codes "value " ++ signed_decimal value)

abbrev pub trap_end : TrapKind → Place → Status × List ℕ
trap_end kind place = (status.Trap, codes "trap " ++ trap_name kind ++ codes " at " ++ position_text place)

abbrev pub fault_end : FaultKind → Place → Status × List ℕ
fault_end kind place = (status.Fault, codes "fault " ++ fault_name kind ++ codes " at " ++ position_text place)

abbrev pub steps_end : ℕ → Status × List ℕ
steps_end steps = (status.Steps, codes "steps " ++ decimal steps)

-- how a run may end by its meaning
abbrev pub ended_as : ℕ → Outcome → Option (Status × List ℕ)
ended_as steps (meaning.Ended value content) = Some (value_end value)
ended_as steps (meaning.Trap kind place) = Some (trap_end kind place)
ended_as steps (meaning.Fault kind place) = Some (fault_end kind place)
ended_as steps (meaning.OutOfSteps content) = Some (steps_end steps)
ended_as steps meaning.Lost = None

abbrev pub with_output : List ℕ → Status × List ℕ → Answer
with_output output ended = record { status = ended.0; out = output; err = line ended.1 }

abbrev pub growth_of : asked.Growth → Growth
growth_of growth.Always = Always
growth_of growth.Double = Double

abbrev pub setting_of : RunOptions → Given
setting_of options = record { growth = growth_of options.growth; cells = options.cells; depth = options.depth }

-- a run of the program from the function with this number, with this input
abbrev pub run_with : RunOptions → Program → ℕ → Function → List ℤ → meaning.Run
run_with options p n f input = run_of (setting_of options) p n f input options.steps

-- .. written whole on out, with the line on err
abbrev pub IsEnd : List ℕ → Option (Status × List ℕ) → Answer → Type 0
IsEnd output None answer = ⊥
IsEnd output (Some ended) answer = answer ≡ with_output output ended

-- the answer is the run's: all that it writes, and how it ended
abbrev pub Ran : RunOptions → Program → ℕ → Function → List ℤ → Answer → Type 0
Ran options p n f input answer = IsEnd (run_with options p n f input).output (ended_as options.steps (run_with options p n f input).outcome) answer

-- .. which takes place where the input has a number for each parameter
abbrev pub RanUnless : Bool → RunOptions → Program → ℕ → Function → List ℤ → Answer → Type 0
RanUnless true options p n f input answer = answer ≡ refusal status.Input (codes "input: too few numbers")
RanUnless false options p n f input answer = Ran options p n f input answer

abbrev pub entry_text : List ℕ → List ℕ → List ℕ
entry_text name why = codes "entry " ++ name ++ codes ": " ++ why

-- .. from the entry of a name
abbrev pub RanFrom : RunOptions → List ℕ → Program → List ℤ → Entry → Answer → Type 0
RanFrom options name p input Absent answer = answer ≡ refusal status.Ill (entry_text name (codes "absent"))
RanFrom options name p input NotValue answer = answer ≡ refusal status.Ill (entry_text name (codes "not a value"))
RanFrom options name p input (Begins n f) answer = RanUnless (nat_lt (length input) f.parameters) options p n f input answer

-- .. where its input has numbers
abbrev pub RanWith : RunOptions → List ℕ → Program → Numbers → Answer → Type 0
RanWith options name p (Err refused) answer = answer ≡ refused
RanWith options name p (Ok input) answer = RanFrom options name p input (entry_of p name) answer
