use Rattle.life_rules.specs.Given.{moved_given}
use Rattle.std.proofs.Common.{◌≡◌, ◌++◌, drop}
use Rattle.std.specs.List.{flat_map}
use Rattle.life_rules.proofs.arguing.push_moved_at.Given as goal

-- what was added, and what is left to add
abbrev pub invariant-loop-owner : goal.invariant-loop-owner
invariant-loop-owner l =
    let diags = moved_given l.call l.given in
    l.out.items ++ flat_map diags (drop l.owner-index l.owners) ≡ l.fn.out.items ++ flat_map diags l.owners
