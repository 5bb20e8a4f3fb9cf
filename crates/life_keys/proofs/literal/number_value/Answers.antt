use Rattle.std.proofs.Common.{arith}
use Rattle.life_keys.proofs.Digits.{step-le}
use Rattle.life_keys.proofs.literal.number_value.Goals as goal

pub overflow_mul-value : goal.overflow_mul-value
overflow_mul-value c = omega (arith, step-le c.loop-digit.value c.args.digits.now c.loop-digit.digit-index c.loop-digit-test.true)

pub overflow_add-value : goal.overflow_add-value
overflow_add-value c = omega (arith, step-le c.loop-digit.value c.args.digits.now c.loop-digit.digit-index c.loop-digit-test.true)
