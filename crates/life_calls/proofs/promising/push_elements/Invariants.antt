use Rattle.life_calls.specs.Facts.{fact_of, found_at}
use Rattle.std.proofs.Common.{◌≡◌, ◌++◌, drop, map}
use Rattle.life_calls.proofs.promising.push_elements.Given as goal

-- what was added, and what is left to add
abbrev pub invariant-loop-element : goal.invariant-loop-element
invariant-loop-element l =
    let those = map (found_at l.location) in
    map fact_of l.out.items ++ those (drop l.element-index l.elements) ≡ map fact_of l.fn.out.items ++ those l.elements
