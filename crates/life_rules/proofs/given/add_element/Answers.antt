use Rattle.life_rules.proofs.GivenPlaces.{one_place}
use Rattle.life_rules.proofs.given.add_element.Goals as goal

pub returns-in_ok-add-in-At : goal.returns-in_ok-add-in-At
returns-in_ok-add-in-At c = rw c.in-At.is (one_place c.in-At.place c.args.targets.now c.add.new.self c.in_ok-add-in-At.ensures)
