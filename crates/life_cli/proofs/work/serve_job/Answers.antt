use Rattle.std.specs.Prelude.{option_map}
use Rattle.life_cli.proofs.Leaves.{absent_file, bytes_file, long_file, stopped_file}
use Rattle.life_cli.specs.FileText.{file_text}
use Rattle.life_cli.specs.Words.{job_seen}
use Rattle.life_cli.proofs.work.serve_job.Goals as goal

pub returns-in-Ok-Absent : goal.returns-in-Ok-Absent
returns-in-Ok-Absent g c =
    let got = rw c.in-Ok-Absent.field-0-is at c.in-Ok-Absent.ensures.fetches in
    absent_file (job_seen c.args.job) _ _ _ _ _ c.refuse_name.result got c.refuse_name.ensures

pub returns-in-Ok-TooLong : goal.returns-in-Ok-TooLong
returns-in-Ok-TooLong g c =
    let got = rw c.in-Ok-TooLong.field-0-is at c.in-Ok-TooLong.ensures.fetches in
    long_file (job_seen c.args.job) _ _ _ _ _ c.tell.result got c.tell.ensures

pub serve_bytes-requires-clause-short : goal.serve_bytes-requires-clause-short
serve_bytes-requires-clause-short g c =
    let got = rw c.in-Ok-Bytes.field-0-is at c.in-Ok-Bytes.ensures.fetches in
    rw c.deref.ensures.value got.1.1

pub returns-in-Ok-Bytes : goal.returns-in-Ok-Bytes
returns-in-Ok-Bytes g c =
    let got = rw c.in-Ok-Bytes.field-0-is at c.in-Ok-Bytes.ensures.fetches in
    bytes_file (job_seen c.args.job) _ _ _ _ _ c.deref.result.now _ _ c.in-Ok-Bytes.ensures.held got.0 (rw c.deref.ensures.value got.1.0) _ c.serve_bytes.result c.serve_bytes.ensures

pub returns-in-Err : goal.returns-in-Err
returns-in-Err g c =
    stopped_file (job_seen c.args.job) _ _ _ _ _ (option_map (λ directory. file_text (directory c.args.job.file.now)) (g.F.Files.held c.args.files.now)) c.in-Err.stop c.in-Err.ensures.fetches
