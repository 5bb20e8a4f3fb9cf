use Rattle.std.proofs.Common.{◌≡◌, ◌++◌, drop}
use Rattle.std.specs.List.{flat_map}
use Rattle.life_rules.specs.FactSets.{pair_facts}
use Rattle.life_plan.proofs.row_facts.push_pairs.Given as goal

-- what was added, and what is left to add
abbrev pub invariant-loop-pair : goal.invariant-loop-pair
invariant-loop-pair l =
    l.facts.items ++ flat_map (pair_facts l.table) (drop l.pair-index l.pairs) ≡ l.fn.facts.items ++ flat_map (pair_facts l.table) l.pairs
