-- How a command ends: its status, what out and err have gained, and which counts of faults rose.
use Rattle.std.specs.Prelude.{◌≡◌, ◌⊎◌, ℕ, List, [], Option, None, Some, Result, Ok, Err, IfOk, codes}
use Rattle.std.specs.Io.KnownBytes.{Appends}
use Rattle.life_base.specs.Causes.{Rose}
use Rattle.life_base.specs.Edges.{AppendsFront}
use Rattle.life_job.specs.Refusals.{Told}
use Rattle.life_cli.specs.Answer.{Answer, answer_in, line}
use Rattle.life_cli.specs.Question.{EachAnswer, Question, TheAnswer}
use Rattle.life_cli.specs.Status.{IsOfJob, IsSettled}
use Rattle.life_cli.specs.Usage.{no_job}
use Rattle.life_cli.specs.declared.reply.Reply.{Reply}
use Rattle.life_cli.specs.declared.status.Status.{Status}
use Rattle.life_cli.specs.declared.status.Status.TheVariants.{Fault, NoMemory, ReadFault, WriteFault}
use Rattle.life_cli.specs.declared.stop.Stop.{Stop}
use Rattle.life_cli.specs.declared.stop.Stop.TheVariants as stop
use Rattle.life_cli.specs.declared.stop.Ending.{Ending}

-- a sink at a moment: what it has taken, and its count of faults
pub record Port : Type 0 where
  pub taken : Option (List ℕ)
  pub faults : ℕ

-- ---- the work, which reads the files and writes out

-- the status is the answer's, out has gained the answer's text, and err's is at hand
pub record IsReady (out out' : Port) (ending : Ending) (answer : Answer) : Type 0 where
  pub status_is : ending.status ≡ answer.status
  pub on_out : Appends out.taken out'.taken answer.out
  pub on_err : ending.err.items ≡ answer.err

-- the work came to its end, and no count rose
pub record WorksWell (asked : Option Question) (reads reads' : ℕ) (out out' : Port) (ending : Ending) : Type 0 where
  pub settled : IsSettled ending.status
  pub read_faults : reads' ≡ reads
  pub out_faults : out'.faults ≡ out.faults
  pub answer : TheAnswer asked (IsReady out out' ending)

-- out has gained a front of the answer's text
pub record GainsFront (asked : Option Question) (taken taken' : Option (List ℕ)) : Type 0 where
  pub gained : EachAnswer asked (λ answer. AppendsFront taken taken' answer.out)

-- memory was wanted and not had, and no count rose
pub record WorksWithoutMemory (asked : Option Question) (reads reads' : ℕ) (out out' : Port) : Type 0 where
  pub read_faults : reads' ≡ reads
  pub out_faults : out'.faults ≡ out.faults
  pub front : GainsFront asked out.taken out'.taken

-- the files' count rose
pub record WorksToReadFault (reads reads' : ℕ) (out out' : Port) : Type 0 where
  pub read_faults : Rose reads reads'
  pub out_faults : out'.faults ≡ out.faults
  pub nothing : Appends out.taken out'.taken []

-- out's count rose
pub record WorksToWriteFault (asked : Option Question) (reads reads' : ℕ) (out out' : Port) : Type 0 where
  pub read_faults : reads' ≡ reads
  pub out_faults : Rose out.faults out'.faults
  pub front : GainsFront asked out.taken out'.taken

-- what the work has done, by how it ended
abbrev pub Works : Option Question → ℕ → ℕ → Port → Port → Result Ending Stop → Type 0
Works asked reads reads' out out' (Ok ending) = WorksWell asked reads reads' out out' ending
Works asked reads reads' out out' (Err stop.NoMemory) = WorksWithoutMemory asked reads reads' out out'
Works asked reads reads' out out' (Err stop.ReadFault) = WorksToReadFault reads reads' out out'
Works asked reads reads' out out' (Err stop.WriteFault) = WorksToWriteFault asked reads reads' out out'

-- the work ended in a text for err, or memory for the text was not had
abbrev pub Reports : Status → List ℕ → Result Ending Stop → Type 0
Reports status text (Ok ending) = (ending.status ≡ status) × (ending.err.items ≡ text)
Reports status text (Err stop.NoMemory) = Unit {0}
Reports status text (Err stop.ReadFault) = ⊥
Reports status text (Err stop.WriteFault) = ⊥

-- .. in a line
abbrev pub Tells : Status → List ℕ → Result Ending Stop → Type 0
Tells status text result = Reports status (line text) result

-- out has gained the reply's text and what is left of the reply is at hand, or out's count rose
abbrev pub HandsOut : Reply → Port → Port → Result Ending Stop → Type 0
HandsOut reply out out' (Ok ending) =
    IsReady out out' ending (answer_in reply) × (out'.faults ≡ out.faults)
HandsOut reply out out' (Err stop.NoMemory) = ⊥
HandsOut reply out out' (Err stop.ReadFault) = ⊥
HandsOut reply out out' (Err stop.WriteFault) =
    Rose out.faults out'.faults × AppendsFront out.taken out'.taken reply.out.items

-- ---- the work where no file is read any more: the answers are those that are such

-- out has gained the text of such an answer, and err's is at hand
pub record ServesWell (IsSuch : Answer → Type 0) (out out' : Port) (ending : Ending) : Type 0 where
  pub out_faults : out'.faults ≡ out.faults
  pub answer : Answer
  pub is_such : IsSuch answer
  pub ready : IsReady out out' ending answer

-- out has gained a front of the text of each such answer
abbrev pub ServesFront : (Answer → Type 0) → Port → Port → Type 0
ServesFront IsSuch out out' = (answer : Answer) → IsSuch answer → AppendsFront out.taken out'.taken answer.out

pub record ServesWithoutMemory (IsSuch : Answer → Type 0) (out out' : Port) : Type 0 where
  pub out_faults : out'.faults ≡ out.faults
  pub front : ServesFront IsSuch out out'

pub record ServesToWriteFault (IsSuch : Answer → Type 0) (out out' : Port) : Type 0 where
  pub out_faults : Rose out.faults out'.faults
  pub front : ServesFront IsSuch out out'

abbrev pub Serves : (Answer → Type 0) → Port → Port → Result Ending Stop → Type 0
Serves IsSuch out out' (Ok ending) = ServesWell IsSuch out out' ending
Serves IsSuch out out' (Err stop.NoMemory) = ServesWithoutMemory IsSuch out out'
Serves IsSuch out out' (Err stop.ReadFault) = ⊥
Serves IsSuch out out' (Err stop.WriteFault) = ServesToWriteFault IsSuch out out'

-- ---- the work on a job, of which a part may be done

-- it is as asked; its status is a job's, and a fault of a run comes where it may
pub record WorksOn (asked : Option Question) (MayFault : Type 0) (reads reads' : ℕ) (out out' : Port) (result : Result Ending Stop) : Type 0 where
  pub works : Works asked reads reads' out out' result
  pub status : IfOk result (λ (ending : Ending). IsOfJob ending.status)
  pub fault : IfOk result (λ (ending : Ending). ending.status ≡ Fault → MayFault)

-- ---- the text on err

-- the status that the work leads to
abbrev pub status_of : Result Ending Stop → Status
status_of (Ok ending) = ending.status
status_of (Err stop.NoMemory) = NoMemory
status_of (Err stop.ReadFault) = ReadFault
status_of (Err stop.WriteFault) = WriteFault

-- the text that err is handed after it
abbrev pub text_of : Result Ending Stop → List ℕ
text_of (Ok ending) = ending.err.items
text_of (Err stop.NoMemory) = line (codes "no memory")
text_of (Err stop.ReadFault) = line (codes "read fault")
text_of (Err stop.WriteFault) = line (codes "write fault")

-- the text was taken whole and the status is the wanted one, or a fault came
pub record Closes (err err' : Port) (text : List ℕ) (want status : Status) : Type 0 where
  pub ends : ((status ≡ want) × (err'.faults ≡ err.faults) × Appends err.taken err'.taken text)
      ⊎ ((status ≡ WriteFault) × Rose err.faults err'.faults × AppendsFront err.taken err'.taken text)

-- ---- the whole

-- the status and both texts are the answer's
pub record Gives (out out' err err' : Port) (status : Status) (answer : Answer) : Type 0 where
  pub status_is : status ≡ answer.status
  pub on_out : Appends out.taken out'.taken answer.out
  pub on_err : Appends err.taken err'.taken answer.err

-- no count rose, so no failed call was passed over
pub record EndsWell (asked : Option Question) (reads reads' : ℕ) (out out' err err' : Port) (status : Status) : Type 0 where
  pub read_faults : reads' ≡ reads
  pub out_faults : out'.faults ≡ out.faults
  pub err_faults : err'.faults ≡ err.faults
  pub answer : TheAnswer asked (Gives out out' err err' status)

-- no count rose here either, so no fault is told as want of memory
pub record EndsWithoutMemory (asked : Option Question) (reads reads' : ℕ) (out out' err err' : Port) : Type 0 where
  pub read_faults : reads' ≡ reads
  pub out_faults : out'.faults ≡ out.faults
  pub err_faults : err'.faults ≡ err.faults
  pub front : GainsFront asked out.taken out'.taken
  pub text : Appends err.taken err'.taken (line (codes "no memory"))

-- the files' count rose, out has gained nothing, and err the line
pub record EndsInReadFault (reads reads' : ℕ) (out out' err err' : Port) : Type 0 where
  pub read_faults : Rose reads reads'
  pub out_faults : out'.faults ≡ out.faults
  pub err_faults : err'.faults ≡ err.faults
  pub nothing : Appends out.taken out'.taken []
  pub text : Appends err.taken err'.taken (line (codes "read fault"))

-- err has gained a front of a text that it may be handed: the answer's, or one of three lines, each where the other counts are as it tells
pub record GainsSomeText (asked : Option Question) (reads reads' : ℕ) (out out' err err' : Port) : Type 0 where
  pub gained : (EachAnswer asked (λ answer. AppendsFront err.taken err'.taken answer.err) × (reads' ≡ reads) × (out'.faults ≡ out.faults))
      ⊎ ((AppendsFront err.taken err'.taken (line (codes "no memory")) × (reads' ≡ reads) × (out'.faults ≡ out.faults))
      ⊎ ((AppendsFront err.taken err'.taken (line (codes "read fault")) × Rose reads reads' × (out'.faults ≡ out.faults))
      ⊎ (AppendsFront err.taken err'.taken (line (codes "write fault")) × (reads' ≡ reads) × Rose out.faults out'.faults)))

-- out's count rose alone and err has gained the line, or err's count rose
pub record EndsInWriteFault (asked : Option Question) (reads reads' : ℕ) (out out' err err' : Port) : Type 0 where
  pub front : GainsFront asked out.taken out'.taken
  pub text : ((reads' ≡ reads) × Rose out.faults out'.faults × (err'.faults ≡ err.faults) × Appends err.taken err'.taken (line (codes "write fault")))
      ⊎ (Rose err.faults err'.faults × GainsSomeText asked reads reads' out out' err err')

-- what the command has done, by its status
abbrev pub Ends : Option Question → ℕ → ℕ → Port → Port → Port → Port → Status → Type 0
Ends asked reads reads' out out' err err' NoMemory = EndsWithoutMemory asked reads reads' out out' err err'
Ends asked reads reads' out out' err err' ReadFault = EndsInReadFault reads reads' out out' err err'
Ends asked reads reads' out out' err err' WriteFault = EndsInWriteFault asked reads reads' out out' err err'
Ends asked reads reads' out out' err err' status = EndsWell asked reads reads' out out' err err' status

-- ---- words that ask for nothing

-- what is told of them was served, or memory was wanted before anything was written
abbrev pub RefusesWords : Option Told → Port → Port → Result Ending Stop → Type 0
RefusesWords (Some told) out out' result = Serves (λ answer. answer ≡ no_job told) out out' result
RefusesWords None out out' result = (out' ≡ out) × (result ≡ Err stop.NoMemory)
