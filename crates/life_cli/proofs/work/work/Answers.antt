use Rattle.std.proofs.Common.{map, string_bytes}
use Rattle.life_job.proofs.Parsed.{some_told}
use Rattle.life_cli.proofs.Unasked.{asked_unchecked, asked_works, never_usage, refused_no_job, refused_unrun, refused_works}
use Rattle.life_cli.proofs.work.work.Goals as goal

pub returns-in-Ok-clause-works : goal.returns-in-Ok-clause-works
returns-in-Ok-clause-works g c = asked_works _ _ c.in-Ok.ensures.read c.serve_asked.result _ _ _ _ _ c.serve_asked.ensures.works

pub returns-in-Ok-clause-no_job : goal.returns-in-Ok-clause-no_job
returns-in-Ok-clause-no_job g c = never_usage _ c.serve_asked.result c.serve_asked.ensures.no_job

pub returns-in-Ok-clause-faults_unchecked : goal.returns-in-Ok-clause-faults_unchecked
returns-in-Ok-clause-faults_unchecked g c = asked_unchecked _ _ c.in-Ok.ensures.read c.serve_asked.result c.serve_asked.ensures.faults_unchecked

pub returns-in-Err-clause-works : goal.returns-in-Err-clause-works
returns-in-Err-clause-works g c = refused_works _ _ _ _ _ _ c.refuse_words.result (some_told (map string_bytes c.args.words.now)) c.in-Err.ensures.read c.refuse_words.ensures

pub returns-in-Err-clause-no_job : goal.returns-in-Err-clause-no_job
returns-in-Err-clause-no_job g c = refused_no_job _ _ _ _ c.refuse_words.result c.in-Err.ensures.read c.refuse_words.ensures

pub returns-in-Err-clause-faults_unchecked : goal.returns-in-Err-clause-faults_unchecked
returns-in-Err-clause-faults_unchecked g c = refused_unrun _ _ _ _ c.refuse_words.result c.refuse_words.ensures
