use Rattle.std.proofs.Common.{arith, map}
use Rattle.life_core.specs.Function.{function_of}
use Rattle.life_proper_check.proofs.Handed.{decided}
use Rattle.life_proper_check.proofs.forms.are_arguments_for.Goals as goal

pub returns : goal.returns
returns c =
    let at = c.args.at.now in
    decided at.types.now at.texts (map function_of at.functions.now) (function_of at.function.now) c.args.taken.now c.args.arguments.now c.loop-argument.next c.loop-argument.argument-index _
    c.loop-argument.invariant.0 (omega (arith, c.loop-argument-test.false)) c.loop-argument.invariant.1
