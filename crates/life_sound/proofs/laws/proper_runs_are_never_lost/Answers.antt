use Rattle.life_sound.proofs.Spoken.{never_lost}
use Rattle.life_sound.proofs.laws.proper_runs_are_never_lost.Goals as goal

pub returns : goal.returns
returns c = never_lost
