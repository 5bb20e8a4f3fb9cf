use Rattle.life_typing_laws.proofs.Wholes.{expr_good}
use Rattle.life_typing_laws.proofs.laws.expressions_are_well_typed.Goals as goal

pub returns-clause-grows : goal.returns-clause-grows
returns-clause-grows c e v scope types x h sound = (expr_good e v scope types x h sound).grown.grows

pub returns-clause-well_typed : goal.returns-clause-well_typed
returns-clause-well_typed c p locals e v scope types x h sound final = ((expr_good e v scope types x h sound).is p locals final).is
