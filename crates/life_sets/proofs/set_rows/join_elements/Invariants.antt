use Rattle.std.specs.Prelude.{IsTrue, ◌↔◌}
use Rattle.life_sets.specs.NumberSets.{holds}
use Rattle.life_sets.specs.Pairs.{HasNew}
use Rattle.life_sets.specs.PairSets.{contains_pair}
use Rattle.life_sets.proofs.ElementLemmas.{IsJoinedBelow}
use Rattle.life_sets.proofs.set_rows.join_elements.Given as goal

abbrev pub invariant-loop-element : goal.invariant-loop-element
invariant-loop-element l = record {
  joined : IsJoinedBelow l.location (holds l.elements) l.element (contains_pair l.fn.pairs) (contains_pair l.pairs);
  gained : IsTrue l.gained ↔ HasNew (contains_pair l.fn.pairs) (contains_pair l.pairs);
}
