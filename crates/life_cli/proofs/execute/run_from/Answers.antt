use Rattle.std.proofs.lemmas.Result.{err_from_is_err_and}
use Rattle.life_core.specs.Function.{program_of}
use Rattle.life_cli.proofs.Fronts.{known_of}
use Rattle.life_cli.proofs.Machines.{runs_told}
use Rattle.life_cli.proofs.Served.{wants_memory}
use Rattle.life_cli.proofs.execute.run_from.Goals as goal

pub returns-in_err-machine : goal.returns-in_err-machine
returns-in_err-machine g c =
    let e = err_from_is_err_and c.from_residual.result c.from_residual.ensures.1 in
    rw (e.1, e.2) (known_of _ (λ f. wants_memory _ _))

pub returns : goal.returns
returns g c =
    let ran = rw c.in_ok-machine.ensures.program at c.run-outcome.ensures.run in
    let limited = rw c.in_ok-machine.ensures.limits at ran in
    let here = rw c.growth_of-growth.ensures at limited in
    runs_told c.args.options (program_of c.args.program.now) c.args.number.0 c.args.input.now _ _ c.run-outcome.result c.tell_outcome.result here c.tell_outcome.ensures
