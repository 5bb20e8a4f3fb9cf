use Rattle.std.proofs.Common.{◌≡◌, ◌+◌, ◌≤◌, length, arith}
use Rattle.std.proofs.lemmas.Result.{err_from_is_err_and}
use Rattle.life_typing.proofs.ParametersInTurn.{broken_there, kept_there}
use Rattle.life_typing.proofs.parameters.check_parameters.Goals as goal

pub returns-in_err-check_parameter : goal.returns-in_err-check_parameter
returns-in_err-check_parameter c =
    let e = err_from_is_err_and c.from_residual.result c.from_residual.ensures.1 in
    let bound : c.parameters.index ≤ length c.args.known.now = omega arith in
    rw (e.1, e.2) (broken_there c.args.environment.now c.args.known.now c.args.hides.now c.parameters.index c.parameters.parameter-index c.parameter-item.result c.args.parameters.now c.known_reach.result c.was_seen.result _ c.in_err-check_parameter.field-0.0 c.parameters.invariant.1 c.parameters-test.true c.parameter-item.is bound c.known_reach.ensures c.was_seen.ensures c.in_err-check_parameter.ensures)

pub parameters-preserved : goal.parameters-preserved
parameters-preserved c =
    let bound : c.parameters.index ≤ length c.args.known.now = omega arith in
    let counted : c.parameters.index + 1 ≡ c.parameters.parameter-index + 1 = omega arith in
    (counted, kept_there c.args.environment.now c.args.known.now c.args.hides.now c.parameters.index c.parameters.parameter-index c.parameter-item.result c.args.parameters.now c.known_reach.result c.was_seen.result _ c.parameters.invariant.1 c.parameters-test.true c.parameter-item.is bound c.known_reach.ensures c.was_seen.ensures c.in_ok-check_parameter.ensures)
