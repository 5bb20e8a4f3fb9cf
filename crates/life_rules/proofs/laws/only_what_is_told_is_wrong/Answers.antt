use Rattle.life_rules.proofs.Untold.{first_untold, second_untold, untold}
use Rattle.life_rules.proofs.laws.only_what_is_told_is_wrong.Goals as goal

pub returns-clause-one : goal.returns-clause-one
returns-clause-one c = untold

pub returns-clause-first : goal.returns-clause-first
returns-clause-first c = first_untold

pub returns-clause-second : goal.returns-clause-second
returns-clause-second c = second_untold
