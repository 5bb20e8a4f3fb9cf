use Rattle.std.proofs.Common.{◌≡◌, ◌++◌, drop}
use Rattle.life_rules.specs.Deriving.{entry_facts_from}
use Rattle.life_rules.proofs.entry.entry_facts.Given as goal

-- those so far, and those of the locals that are left
abbrev pub invariant-loop-number : goal.invariant-loop-number
invariant-loop-number l =
    let from = entry_facts_from l.types l.f.parameters in
    l.all.items ++ from l.number (drop l.number l.local-items) ≡ from 0 l.local-items
