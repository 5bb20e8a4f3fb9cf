use Rattle.std.proofs.Common.{refl}
use Rattle.life_core.specs.Function.{program_of}
use Rattle.life_cli.proofs.Inputs.{without_file}
use Rattle.life_cli.proofs.input.run_job.Goals as goal

pub returns-in-Some : goal.returns-in-Some
returns-in-Some g c = rw c.in-Some.is c.run_on_file.ensures

pub returns-in-None : goal.returns-in-None
returns-in-None g c =
    rw c.in-None.is (without_file c.args.run.options c.args.run.function.now (program_of c.args.program.now) _ _ _ _ refl _ c.execute.result c.execute.ensures)
