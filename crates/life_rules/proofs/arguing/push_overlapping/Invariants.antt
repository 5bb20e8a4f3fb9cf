use Rattle.life_contract.specs.Breaking.{of_pairs}
use Rattle.life_rules.specs.Given.{overlapping_given}
use Rattle.std.proofs.Common.{◌≡◌, ◌++◌, drop}
use Rattle.life_rules.proofs.arguing.push_overlapping.Given as goal

-- what was added, and what is left to add
abbrev pub invariant-loop-number : goal.invariant-loop-number
invariant-loop-number l =
    let diags = overlapping_given l.call in
    l.out.items ++ of_pairs diags (drop l.number l.given) ≡ l.fn.out.items ++ of_pairs diags l.given
