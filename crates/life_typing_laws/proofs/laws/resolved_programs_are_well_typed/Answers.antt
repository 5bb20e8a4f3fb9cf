use Rattle.life_typing_laws.proofs.Files.{resolved_well_typed}
use Rattle.life_typing_laws.proofs.laws.resolved_programs_are_well_typed.Goals as goal

pub returns-clause-well_typed : goal.returns-clause-well_typed
returns-clause-well_typed c tree p e = (resolved_well_typed tree p e).0

pub returns-clause-results : goal.returns-clause-results
returns-clause-results c tree p e = (resolved_well_typed tree p e).1.0

pub returns-clause-mains : goal.returns-clause-mains
returns-clause-mains c tree p e = (resolved_well_typed tree p e).1.1.0

pub returns-clause-table : goal.returns-clause-table
returns-clause-table c tree p e = (resolved_well_typed tree p e).1.1.1
