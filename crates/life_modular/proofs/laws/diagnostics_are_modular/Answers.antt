use Rattle.life_modular.proofs.AlikePrograms.{alike_diagnosed}
use Rattle.life_modular.proofs.laws.diagnostics_are_modular.Goals as goal

pub returns : goal.returns
returns c = alike_diagnosed
