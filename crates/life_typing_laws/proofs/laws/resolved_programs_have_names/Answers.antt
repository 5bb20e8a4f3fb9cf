use Rattle.life_typing_laws.proofs.ProgramLaws.{resolved_named}
use Rattle.life_typing_laws.proofs.StructNames.{resolved_structs}
use Rattle.life_typing_laws.proofs.laws.resolved_programs_have_names.Goals as goal

pub returns : goal.returns
returns c tree p e named = let has = resolved_named tree named p e in record { named = has.0; own = has.1; members = resolved_structs tree named p e }
