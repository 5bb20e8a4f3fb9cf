use Rattle.life_rules.proofs.OneFunction.{one_function}
use Rattle.life_rules.proofs.laws.one_function_is_the_program.Goals as goal

pub returns : goal.returns
returns c = one_function
