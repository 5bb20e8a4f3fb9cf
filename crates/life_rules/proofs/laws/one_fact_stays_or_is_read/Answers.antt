use Rattle.life_rules.proofs.OneFact.{ones}
use Rattle.life_rules.proofs.laws.one_fact_stays_or_is_read.Goals as goal

pub returns : goal.returns
returns c = ones
