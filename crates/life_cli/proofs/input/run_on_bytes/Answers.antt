use Rattle.std.proofs.Common.{◌∙◌, Ok, ap, sym}
use Rattle.life_core.specs.Function.{program_of}
use Rattle.life_input.specs.Input.{numbers_in}
use Rattle.life_cli.proofs.Inputs.{numbers_serve, word_serves}
use Rattle.life_cli.proofs.Served.{wants_memory}
use Rattle.life_cli.proofs.input.run_on_bytes.Goals as goal

pub returns-in-Ok : goal.returns-in-Ok
returns-in-Ok g c =
    numbers_serve c.args.options c.args.function.now (program_of c.args.program.now) (numbers_in c.args.bytes.now) _ c.deref.result.now _ c.execute.result
    (c.in-Ok.ensures ∙ ap Ok (sym c.deref.ensures.value)) c.execute.ensures

pub returns-in-Err-Refused : goal.returns-in-Err-Refused
returns-in-Err-Refused g c =
    word_serves c.args.options c.args.function.now (program_of c.args.program.now) (numbers_in c.args.bytes.now) _ c.in-Err-Refused.offset c.refuse_word.result
    (rw c.in-Err-Refused.field-0-is at c.in-Err-Refused.ensures) (rw c.in-Err-Refused.field-0-is at c.refuse_word.ensures)

pub returns-in-Err-NoMemory : goal.returns-in-Err-NoMemory
returns-in-Err-NoMemory g c = wants_memory _ _
