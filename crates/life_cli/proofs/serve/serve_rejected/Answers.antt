use Rattle.std.proofs.Common.{map, refl}
use Rattle.life_core.specs.Function.{program_of}
use Rattle.life_rules.specs.Listing.{listed_diag}
use Rattle.life_job.specs.Job.{run_seen}
use Rattle.life_cli.proofs.Programs.{made_not_run, not_run_on, report_on, sets_on, some_diagnosed, unchecked_run}
use Rattle.life_cli.proofs.serve.serve_rejected.Goals as goal

pub returns-in-Check : goal.returns-in-Check
returns-in-Check g c =
    rw c.in-Check.is (report_on (program_of c.args.program.now) _ _ _ _ _ c.report.result c.in-Check.json (map listed_diag c.args.found.now) _ (λ e. absurd (some_diagnosed c.args.found.now c.requires.some e)) refl c.report.ensures)

pub returns-in-Run : goal.returns-in-Run
returns-in-Run g c =
    rw c.in-Run.is (unchecked_run (program_of c.args.program.now) _ _ _ _ _ c.run_job.result (run_seen c.in-Run.run') c.if-run.true (map listed_diag c.args.found.now) (some_diagnosed c.args.found.now c.requires.some) c.run_job.ensures)

pub returns-in-Run-2 : goal.returns-in-Run-2
returns-in-Run-2 g c =
    rw c.in-Run.is (not_run_on (program_of c.args.program.now) _ _ _ _ c.report_instead.result (run_seen c.in-Run.run') _ c.if-run.false (map listed_diag c.args.found.now) (some_diagnosed c.args.found.now c.requires.some) refl c.report_instead.ensures)

pub returns-in-Psets : goal.returns-in-Psets
returns-in-Psets g c =
    rw c.in-Psets.is (sets_on (program_of c.args.program.now) _ _ _ _ _ c.tell_sets.result (map listed_diag c.args.found.now) _ (λ e. absurd (some_diagnosed c.args.found.now c.requires.some e)) refl c.tell_sets.ensures)

pub returns-in-Made : goal.returns-in-Made
returns-in-Made g c =
    rw c.in-Made.is (made_not_run (program_of c.args.program.now) _ _ _ _ c.report_instead-in-Made.result c.in-Made.bytes _ (map listed_diag c.args.found.now) (some_diagnosed c.args.found.now c.requires.some) refl c.report_instead-in-Made.ensures)
