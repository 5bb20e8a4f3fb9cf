use Rattle.std.specs.Prelude.{option_map}
use Rattle.life_core.specs.Function.{program_of}
use Rattle.life_cli.proofs.Inputs.{absent_input, bytes_input, long_input, stopped_input}
use Rattle.life_cli.specs.FileText.{file_text}
use Rattle.life_cli.proofs.input.run_on_file.Goals as goal

pub returns-in-Ok-Absent : goal.returns-in-Ok-Absent
returns-in-Ok-Absent g c =
    let got = rw c.in-Ok-Absent.field-0-is at c.in-Ok-Absent.ensures.fetches in
    absent_input c.args.options c.args.function.now (program_of c.args.program.now) _ _ _ _ c.args.name.now c.refuse_name.result got c.refuse_name.ensures

pub returns-in-Ok-TooLong : goal.returns-in-Ok-TooLong
returns-in-Ok-TooLong g c =
    let got = rw c.in-Ok-TooLong.field-0-is at c.in-Ok-TooLong.ensures.fetches in
    long_input c.args.options c.args.function.now (program_of c.args.program.now) _ _ _ _ c.args.name.now c.tell.result got c.tell.ensures

pub run_on_bytes-requires-clause-short : goal.run_on_bytes-requires-clause-short
run_on_bytes-requires-clause-short g c =
    let got = rw c.in-Ok-Bytes.field-0-is at c.in-Ok-Bytes.ensures.fetches in
    rw c.deref.ensures.value got.1.1

pub returns-in-Ok-Bytes : goal.returns-in-Ok-Bytes
returns-in-Ok-Bytes g c =
    let got = rw c.in-Ok-Bytes.field-0-is at c.in-Ok-Bytes.ensures.fetches in
    bytes_input c.args.options c.args.function.now (program_of c.args.program.now) _ _ _ _ c.args.name.now c.deref.result.now got.0 (rw c.deref.ensures.value got.1.0) (rw c.deref.ensures.value got.1.1) _ c.run_on_bytes.result c.run_on_bytes.ensures

pub returns-in-Err : goal.returns-in-Err
returns-in-Err g c =
    stopped_input c.args.options c.args.function.now (program_of c.args.program.now) _ _ _ _ c.args.name.now (option_map (λ directory. file_text (directory c.args.name.now)) (g.F.Files.held c.args.files.now)) c.in-Err.stop c.in-Err.ensures.fetches
