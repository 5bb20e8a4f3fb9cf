-- What serves some answers serves others.
use Rattle.std.proofs.Common.{◌≡◌, ℕ, Bool, List, [], Result, Ok, Err, refl, sym, subst, ◌∙◌}
use Rattle.std.proofs.KnownBytes.{Appends-nil}
use Rattle.life_base.specs.Edges.{AppendsFront}
use Rattle.life_core.specs.Function.{Program}
use Rattle.life_rules.specs.declared.diag.Diag.{Diag}
use Rattle.life_cli.specs.Answer.{Answer, answer_in}
use Rattle.life_cli.proofs.Questions.{same_summary, same_table}
use Rattle.life_cli.specs.Concluding.{IsTabled, reported}
use Rattle.life_cli.specs.Ends.{HandsOut, Port, Reports, Serves, ServesFront}
use Rattle.life_cli.specs.Made.{SumsUp}
use Rattle.life_cli.specs.declared.reply.Reply.{Reply}
use Rattle.life_cli.specs.declared.status.Status.{Status}
use Rattle.life_cli.specs.declared.stop.Ending.{Ending}
use Rattle.life_cli.specs.declared.stop.Stop.{Stop}
use Rattle.life_cli.specs.declared.stop.Stop.TheVariants as stop

front_as : (P Q : Answer → Type 0) (out out' : Port) → ((a : Answer) → Q a → P a) → ServesFront P out out' → ServesFront Q out out'
front_as P Q out out' back front a is = front a (back a is)

-- the same answers are such
pub serves_as : (P Q : Answer → Type 0) (out out' : Port) (result : Result Ending Stop) → ((a : Answer) → P a → Q a) → ((a : Answer) → Q a → P a) → Serves P out out' result → Serves Q out out' result
serves_as P Q out out' (Ok ending) to back serves = record { out_faults = serves.out_faults; answer = serves.answer; is_such = to serves.answer serves.is_such; ready = serves.ready }
serves_as P Q out out' (Err stop.NoMemory) to back serves = record { out_faults = serves.out_faults; front = front_as P Q out out' back serves.front }
serves_as P Q out out' (Err stop.ReadFault) to back serves = absurd serves
serves_as P Q out out' (Err stop.WriteFault) to back serves = record { out_faults = serves.out_faults; front = front_as P Q out out' back serves.front }

-- memory was wanted before anything was written
pub wants_memory : (P : Answer → Type 0) (out : Port) → Serves P out out (Err stop.NoMemory)
wants_memory P out = record { out_faults = refl; front = λ answer is. (0, Appends-nil out.taken) }

-- a text on err, and nothing on out, is such an answer
pub text_serves : (P : Answer → Type 0) (status : Status) (text : List ℕ) (out : Port) (result : Result Ending Stop) → P (record { status = status; out = []; err = text }) → Reports status text result → Serves P out out result
text_serves P status text out (Ok ending) is reports = record {
  out_faults = refl;
  answer = record { status = status; out = []; err = text };
  is_such = is;
  ready = record { status_is = reports.0; on_out = Appends-nil out.taken; on_err = reports.1 };
}
text_serves P status text out (Err stop.NoMemory) is reports = wants_memory P out
text_serves P status text out (Err stop.ReadFault) is reports = absurd reports
text_serves P status text out (Err stop.WriteFault) is reports = absurd reports

-- a reply that was handed out is the only such answer
pub reply_serves : (P : Answer → Type 0) (reply : Reply) (out out' : Port) (result : Result Ending Stop) → P (answer_in reply) → ((a : Answer) → P a → a ≡ answer_in reply) → HandsOut reply out out' result → Serves P out out' result
reply_serves P reply out out' (Ok ending) is only hands = record { out_faults = hands.1; answer = answer_in reply; is_such = is; ready = hands.0 }
reply_serves P reply out out' (Err stop.NoMemory) is only hands = absurd hands
reply_serves P reply out out' (Err stop.ReadFault) is only hands = absurd hands
reply_serves P reply out out' (Err stop.WriteFault) is only hands = record { out_faults = hands.0; front = λ a such. subst (λ (b : Answer). AppendsFront out.taken out'.taken b.out) (sym (only a such)) hands.1 }

pub report_serves : (json : Bool) (p : Program) (ds : List Diag) (reply : Reply) (out out' : Port) (result : Result Ending Stop) → answer_in reply ≡ reported json p ds → HandsOut reply out out' result → Serves (λ a. a ≡ reported json p ds) out out' result
report_serves json p ds reply out out' result same hands = reply_serves (λ a. a ≡ reported json p ds) reply out out' result same (λ a is. is ∙ sym same) hands

pub table_serves : (p : Program) (reply : Reply) (out out' : Port) (result : Result Ending Stop) → IsTabled p (answer_in reply) → HandsOut reply out out' result → Serves (IsTabled p) out out' result
table_serves p reply out out' result is hands = reply_serves (IsTabled p) reply out out' result is (λ a such. same_table p a (answer_in reply) such is) hands

pub summary_serves : (bytes : ℕ) (p : Program) (reply : Reply) (out out' : Port) (result : Result Ending Stop) → SumsUp bytes p (answer_in reply) → HandsOut reply out out' result → Serves (SumsUp bytes p) out out' result
summary_serves bytes p reply out out' result is hands = reply_serves (SumsUp bytes p) reply out out' result is (λ a such. same_summary bytes p a (answer_in reply) such is) hands
