use Rattle.std.proofs.Common.{◌∙◌}
use Rattle.life_pset.specs.contracts.element.ElementPartialEq.TheImpl.{ghosts as element}
use Rattle.life_pset.proofs.Numbering.{found_some, found_each}
use Rattle.life_pset.proofs.Numbers.{exact_element, element_laws}
use Rattle.life_pset.proofs.table.ElementTable.number.Goals as goal

pub returns-clause-some : goal.returns-clause-some
returns-clause-some c =
    rw (← c.self.view_is) (found_some element.eq exact_element c.self.inside.elements.keys c.args.element.now c.narrow.result (c.narrow.ensures ∙ c.get_index_of.ensures.index))

pub returns-clause-each : goal.returns-clause-each
returns-clause-each c =
    rw (← c.self.view_is) (λ n is. c.narrow.ensures ∙ c.get_index_of.ensures.index ∙ found_each element.eq exact_element element_laws c.self.inside.elements.keys c.self.invariant.one_element c.args.element.now n is)
