use Rattle.life_modular.proofs.AlikeLines.{same_line}
use Rattle.life_modular.proofs.laws.lines_are_modular.Goals as goal

pub returns : goal.returns
returns c = same_line
