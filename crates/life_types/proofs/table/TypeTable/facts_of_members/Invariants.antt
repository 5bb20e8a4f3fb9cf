use Rattle.life_types.specs.Trees.{tree_at}
use Rattle.life_types.proofs.FactLemmas.{IsGathered}
use Rattle.life_types.proofs.table.TypeTable.facts_of_members.Given as goal

abbrev pub invariant-loop-member : goal.invariant-loop-member
invariant-loop-member l = IsGathered (tree_at l.fn.self) l.members l.all l.member-index
