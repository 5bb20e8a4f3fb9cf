use Rattle.life_typing_laws.proofs.Bodies.{bodies}
use Rattle.life_typing_laws.proofs.laws.bodies_are_well_typed.Goals as goal

pub returns : goal.returns
returns c = bodies
