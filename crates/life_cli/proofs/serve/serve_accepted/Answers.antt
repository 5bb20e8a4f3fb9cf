use Rattle.std.proofs.Common.{[], refl}
use Rattle.life_core.specs.Function.{program_of}
use Rattle.life_job.specs.Job.{run_seen}
use Rattle.life_cli.proofs.Programs.{accepted_run, report_on, sets_on, summary_on}
use Rattle.life_cli.proofs.serve.serve_accepted.Goals as goal

pub returns-in-Check : goal.returns-in-Check
returns-in-Check g c =
    rw c.in-Check.is (report_on (program_of c.args.program.now) _ _ _ _ _ c.report.result c.in-Check.json [] _ (λ _. c.requires.safe) refl c.report.ensures)

pub returns-in-Run : goal.returns-in-Run
returns-in-Run g c =
    rw c.in-Run.is (accepted_run (program_of c.args.program.now) _ _ _ _ _ c.run_job.result (run_seen c.in-Run.run') c.requires.safe c.run_job.ensures)

pub returns-in-Psets : goal.returns-in-Psets
returns-in-Psets g c =
    rw c.in-Psets.is (sets_on (program_of c.args.program.now) _ _ _ _ _ c.tell_sets.result [] _ (λ _. c.requires.safe) refl c.tell_sets.ensures)

pub returns-in-Made : goal.returns-in-Made
returns-in-Made g c =
    rw c.in-Made.is (summary_on (program_of c.args.program.now) _ _ _ _ _ c.sum_up.result c.in-Made.bytes c.requires.safe refl c.sum_up.ensures)
