use Rattle.life_rules.specs.Calling.{passed_fact}
use Rattle.std.proofs.Common.{◌≡◌, ◌++◌, drop, map}
use Rattle.life_rules.proofs.calling.push_all_passed.Given as goal

-- what was added, and what is left to add
abbrev pub invariant-loop-behind : goal.invariant-loop-behind
invariant-loop-behind l =
    let fact = passed_fact l.target l.place l.location in
    l.out.items ++ map fact (drop l.behind-index l.promised) ≡ l.fn.out.items ++ map fact l.promised
