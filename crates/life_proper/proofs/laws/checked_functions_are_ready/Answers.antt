use Rattle.life_proper.proofs.ProperFunctions.{proper}
use Rattle.life_proper.proofs.laws.checked_functions_are_ready.Goals as goal

pub returns : goal.returns
returns c = proper
