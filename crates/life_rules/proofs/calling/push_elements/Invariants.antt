use Rattle.life_rules.specs.Matching.{fact_at}
use Rattle.std.proofs.Common.{◌≡◌, ◌++◌, drop, map}
use Rattle.life_rules.proofs.calling.push_elements.Given as goal

-- what was added, and what is left to add
abbrev pub invariant-loop-element : goal.invariant-loop-element
invariant-loop-element l = l.out.items ++ map (fact_at l.location) (drop l.element-index l.elements) ≡ l.fn.out.items ++ map (fact_at l.location) l.elements
