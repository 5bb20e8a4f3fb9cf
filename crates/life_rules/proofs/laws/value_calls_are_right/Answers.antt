use Rattle.life_rules.proofs.ValueCalls.{value_keeps, value_returns, value_tells_one, value_tells_two}
use Rattle.life_rules.proofs.laws.value_calls_are_right.Goals as goal

pub returns-clause-one : goal.returns-clause-one
returns-clause-one c = value_tells_one

pub returns-clause-kept : goal.returns-clause-kept
returns-clause-kept c = value_keeps

pub returns-clause-two : goal.returns-clause-two
returns-clause-two c = value_tells_two

pub returns-clause-result : goal.returns-clause-result
returns-clause-result c = value_returns
