use Rattle.life_job.specs.Job as asked
use Rattle.life_cli.proofs.Leaves.{job_is_there, job_is_unchecked, job_works, made_is_there, made_is_unchecked, made_works}
use Rattle.life_cli.specs.Words.{job_seen}
use Rattle.life_cli.proofs.work.serve_asked.Goals as goal

pub returns-in-OnFile-clause-works : goal.returns-in-OnFile-clause-works
returns-in-OnFile-clause-works g c = job_works _ _ _ _ _ c.serve_job.result (job_seen c.in-OnFile.job) (asked.job_seen c.args.asked) c.in-OnFile.ensures.task c.serve_job.ensures

pub returns-in-OnFile-clause-no_job : goal.returns-in-OnFile-clause-no_job
returns-in-OnFile-clause-no_job g c = job_is_there _ _ _ _ _ c.serve_job.result (job_seen c.in-OnFile.job) (asked.job_seen c.args.asked) c.in-OnFile.ensures.task c.serve_job.ensures

pub returns-in-OnFile-clause-faults_unchecked : goal.returns-in-OnFile-clause-faults_unchecked
returns-in-OnFile-clause-faults_unchecked g c = job_is_unchecked _ _ _ _ _ c.serve_job.result (job_seen c.in-OnFile.job) (asked.job_seen c.args.asked) c.in-OnFile.ensures.task c.serve_job.ensures

pub returns-in-Make-clause-works : goal.returns-in-Make-clause-works
returns-in-Make-clause-works g c = made_works _ _ _ _ c.serve_made.result c.in-Make.number c.in-Make.size (asked.job_seen c.args.asked) c.in-Make.ensures.task c.serve_made.ensures _

pub returns-in-Make-clause-no_job : goal.returns-in-Make-clause-no_job
returns-in-Make-clause-no_job g c = made_is_there _ _ _ _ c.serve_made.result c.in-Make.number c.in-Make.size (asked.job_seen c.args.asked) c.in-Make.ensures.task c.serve_made.ensures

pub returns-in-Make-clause-faults_unchecked : goal.returns-in-Make-clause-faults_unchecked
returns-in-Make-clause-faults_unchecked g c = made_is_unchecked _ _ _ _ c.serve_made.result c.in-Make.number c.in-Make.size (asked.job_seen c.args.asked) c.in-Make.ensures.task c.serve_made.ensures
