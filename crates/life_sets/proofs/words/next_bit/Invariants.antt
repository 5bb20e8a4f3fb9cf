use Rattle.std.proofs.Common.{◌≡◌, ℕ, ◌*◌, ◌<◌, ◌≤◌, false}
use Rattle.life_sets.specs.NumberSets.{holds_bit}
use Rattle.life_sets.proofs.words.next_bit.Given as goal

abbrev pub invariant-loop-k : goal.invariant-loop-k
invariant-loop-k l = (n : ℕ) → l.from ≤ n → n < l.k * 64 → holds_bit l.limit l.words n ≡ false
