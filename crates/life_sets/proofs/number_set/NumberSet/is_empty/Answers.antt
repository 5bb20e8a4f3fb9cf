use Rattle.life_sets.proofs.NumberLemmas.{none_in, some_in}
use Rattle.life_sets.proofs.number_set.NumberSet.is_empty.Goals as goal

pub returns-clause-none : goal.returns-clause-none
returns-clause-none c = rw (← c.self.view_is) (λ t. none_in c.self.inside.limit c.deref.result.now c.self.inside.words.items c.deref.ensures (c.are_clear.ensures.none t))

pub returns-clause-some : goal.returns-clause-some
returns-clause-some c = rw (← c.self.view_is) (λ f. some_in c.self.inside.limit c.deref.result.now c.self.inside.words.items c.deref.ensures c.self.invariant (c.are_clear.ensures.some f))
