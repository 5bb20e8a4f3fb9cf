use Rattle.life_rules.proofs.GivenPlaces.{overlap_is}
use Rattle.life_rules.proofs.given.Given.may_overlap.Goals as goal

pub returns : goal.returns
returns c = overlap_is c.overlap.result c.args.self.now.targets c.args.other.now.targets c.overlap.ensures
