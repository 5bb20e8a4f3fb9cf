use Rattle.life_modular.proofs.MovedPrograms.{moved_diagnosed}
use Rattle.life_modular.proofs.laws.diagnostics_move_along.Goals as goal

pub returns : goal.returns
returns c = moved_diagnosed
