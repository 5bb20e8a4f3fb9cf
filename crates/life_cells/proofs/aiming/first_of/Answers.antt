use Rattle.std.proofs.Common.{◌∙◌}
use Rattle.life_store.specs.Iterators.{at_index}
use Rattle.life_store.specs.State as state
use Rattle.life_pointers.specs.Attempts.{itself}
use Rattle.life_pointers.specs.Pointers.{characters_seen, pointer_seen}
use Rattle.life_cells.proofs.StepLemmas.{stops_alike}
use Rattle.life_cells.proofs.aiming.first_of.Goals as goal

pub returns-in-Err-clause-is : goal.returns-in-Err-clause-is
returns-in-Err-clause-is c = λ go.
    c.in-Err.ensures.is (λ z. go (at_index 0 c.args.characters.index (state.Static (characters_seen c.args.characters)))) ∙ stops_alike itself pointer_seen _ go c.in-Err.stop

pub returns-in-Ok-clause-is : goal.returns-in-Ok-clause-is
returns-in-Ok-clause-is c = λ go. c.in-Ok.ensures.is (λ z. go (at_index 0 c.args.characters.index (state.Static (characters_seen c.args.characters))))
