use Rattle.life_rules.proofs.GivenPlaces.{among_is}
use Rattle.life_rules.proofs.given.Given.may_be_at.Goals as goal

pub returns : goal.returns
returns c = among_is c.contains.result c.args.self.now.targets c.args.place.now c.contains.ensures
