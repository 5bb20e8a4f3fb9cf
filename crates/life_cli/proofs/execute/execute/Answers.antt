use Rattle.std.proofs.Common.{◌≤◌, ◌<◌, length, arith}
use Rattle.life_core.specs.Function.{program_of}
use Rattle.life_cli.proofs.Functions.{few_functions}
use Rattle.life_cli.proofs.Machines.{absent_serves, begins_admitted, few_serve, no_value_serves}
use Rattle.life_cli.specs.Entry.{entry_of}
use Rattle.life_cli.proofs.execute.execute.Goals as goal

pub find_entry-requires : goal.find_entry-requires
find_entry-requires g c = few_functions c.args.program.now.functions.items c.requires.proper.limits.few

pub returns-in-Absent : goal.returns-in-Absent
returns-in-Absent g c =
    absent_serves c.args.options c.args.function.now (program_of c.args.program.now) c.args.input.now _ _ c.refuse_entry.result c.in-Absent.ensures c.refuse_entry.ensures

pub returns-in-NotValue : goal.returns-in-NotValue
returns-in-NotValue g c =
    no_value_serves c.args.options c.args.function.now (program_of c.args.program.now) c.args.input.now _ _ c.refuse_entry-in-NotValue.result c.in-NotValue.ensures c.refuse_entry-in-NotValue.ensures

pub returns-then-input-parameters : goal.returns-then-input-parameters
returns-then-input-parameters g c =
    let p = program_of c.args.program.now in
    let few : length c.args.input.now < c.in-Begins.parameters = omega (arith, c.if-input-parameters.true) in
    few_serve c.args.options c.args.function.now p c.args.input.now (entry_of p c.args.function.now) _ c.in-Begins.number c.in-Begins.parameters c.in-Begins.ensures c.tell.result few c.tell.ensures

pub run_from-requires-clause-admitted : goal.run_from-requires-clause-admitted
run_from-requires-clause-admitted g c =
    let p = program_of c.args.program.now in
    let enough : c.in-Begins.parameters ≤ length c.args.input.now = omega (arith, c.if-input-parameters.false) in
    begins_admitted c.args.options c.args.function.now p c.args.input.now (entry_of p c.args.function.now) (record { taken = g.O.Sink.taken c.args.out.now; faults = g.O.Sink.faults c.args.out.now }) c.in-Begins.number c.in-Begins.parameters c.in-Begins.ensures enough
