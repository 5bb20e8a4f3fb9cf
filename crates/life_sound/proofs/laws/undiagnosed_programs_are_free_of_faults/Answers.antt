use Rattle.life_sound.proofs.Soundness.{soundness}
use Rattle.life_sound.proofs.laws.undiagnosed_programs_are_free_of_faults.Goals as goal

pub returns : goal.returns
returns c = soundness
