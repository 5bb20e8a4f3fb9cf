use Rattle.std.proofs.Common.{ap, ◌∙◌, subst}
use Rattle.life_pset.specs.contracts.element.AbsPlacePartialEq.TheImpl.{ghosts as compared}
use Rattle.life_contract.specs.Targets.{IsOutlined}
use Rattle.life_contract.proofs.LookUps.{inserted}
use Rattle.life_contract.proofs.OuterPlaces.{outlined_more}
use Rattle.life_contract.proofs.targets.Targets.add.Goals as goal

pub invariant_of-self-2 : goal.invariant_of-self-2
invariant_of-self-2 c =
    rw (c.in_ok-insert.ensures.keys, c.in_ok-insert-2.ensures.keys, c.outline.ensures, c.in_ok-reserve.ensures.keys)
    (outlined_more c.self.inside.places.keys c.self.inside.outlines.keys c.self.invariant c.args.place.now)

pub returns : goal.returns
returns c = rw (c.in_ok-insert.ensures.keys, ← c.self.view_is) (inserted c.self.inside.places.keys c.args.place.now)
