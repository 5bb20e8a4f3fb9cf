use Rattle.life_rules.proofs.TwoFacts.{twos}
use Rattle.life_rules.proofs.laws.targets_mark_elements.Goals as goal

pub returns : goal.returns
returns c = twos
