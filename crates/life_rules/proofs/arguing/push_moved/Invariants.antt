use Rattle.life_rules.specs.Given.{moved_given}
use Rattle.std.proofs.Common.{◌≡◌, ◌++◌, drop}
use Rattle.std.specs.List.{flat_map}
use Rattle.life_rules.proofs.arguing.push_moved.Given as goal

-- what was added, and what is left to add
abbrev pub invariant-loop-one : goal.invariant-loop-one
invariant-loop-one l =
    l.out.items ++ flat_map (λ g. flat_map (moved_given l.call g) l.facts) (drop l.one-index l.given) ≡ l.fn.out.items ++ flat_map (λ g. flat_map (moved_given l.call g) l.facts) l.given
