use Rattle.std.proofs.Common.{◌≡◌, ◌≤◌, replicate}
use Rattle.life_sets.proofs.words.zeros.Given as goal

abbrev pub invariant-loop : goal.invariant-loop
invariant-loop g l = record {
  zeros : l.words.items ≡ replicate l.counter 0;
  room : l.count ≤ l.words.capacity;
}
