use Rattle.std.proofs.Common.{map}
use Rattle.life_core.specs.Function.{function_of, name_bytes}
use Rattle.life_proper_check.proofs.Written.{written_if}
use Rattle.life_proper_check.proofs.results.is_written.Goals as goal

pub returns-in-Some-clause-written : goal.returns-in-Some-clause-written
returns-in-Some-clause-written c =
    let p = c.args.p.now in
    written_if (map name_bytes p.names.texts.items) p.types (map function_of p.functions.items) c.args.number c.args.pointer c.is_ready_with.result c.requires.pointer c.is_ready_with.ensures.ready
