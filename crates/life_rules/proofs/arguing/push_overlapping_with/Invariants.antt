use Rattle.life_rules.specs.Given.{overlapping_given}
use Rattle.std.proofs.Common.{◌≡◌, ◌++◌, drop}
use Rattle.std.specs.List.{flat_map}
use Rattle.life_rules.proofs.arguing.push_overlapping_with.Given as goal

-- what was added, and what is left to add
abbrev pub invariant-loop-second : goal.invariant-loop-second
invariant-loop-second l =
    let diags = overlapping_given l.call l.first in
    l.out.items ++ flat_map diags (drop l.second-index l.others) ≡ l.fn.out.items ++ flat_map diags l.others
