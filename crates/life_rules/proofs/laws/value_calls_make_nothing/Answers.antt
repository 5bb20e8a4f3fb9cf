use Rattle.life_rules.proofs.ValueCalls.{value_makes_none, value_makes_one, value_makes_two}
use Rattle.life_rules.proofs.laws.value_calls_make_nothing.Goals as goal

pub returns-clause-none : goal.returns-clause-none
returns-clause-none c = value_makes_none

pub returns-clause-one : goal.returns-clause-one
returns-clause-one c = value_makes_one

pub returns-clause-two : goal.returns-clause-two
returns-clause-two c = value_makes_two
