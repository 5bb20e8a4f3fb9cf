use Rattle.life_proper.proofs.ProperFunctions.{ready_program}
use Rattle.life_proper.proofs.laws.checked_programs_are_ready.Goals as goal

pub returns : goal.returns
returns c = ready_program
