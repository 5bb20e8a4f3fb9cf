use Rattle.life_unique.proofs.ProgramsFound.{one_program}
use Rattle.life_unique.proofs.laws.programs_of_one_tree_settle_as_one.Goals as goal

pub returns : goal.returns
returns c = one_program
