use Rattle.std.proofs.Common.{◌∙◌}
use Rattle.life_pset.specs.contracts.element.AbsPlacePartialEq.TheImpl.{ghosts as place}
use Rattle.life_pset.proofs.Numbering.{found_some, found_each}
use Rattle.life_pset.proofs.Numbers.{exact_place, place_laws}
use Rattle.life_pset.proofs.table.ElementTable.location.Goals as goal

pub returns-clause-some : goal.returns-clause-some
returns-clause-some c =
    rw (← c.self.view_is) (found_some place.eq exact_place c.self.inside.locations.keys c.args.place.now c.narrow.result (c.narrow.ensures ∙ c.get_index_of.ensures.index))

pub returns-clause-each : goal.returns-clause-each
returns-clause-each c =
    rw (← c.self.view_is) (λ n is. c.narrow.ensures ∙ c.get_index_of.ensures.index ∙ found_each place.eq exact_place place_laws c.self.inside.locations.keys c.self.invariant.one_location c.args.place.now n is)
