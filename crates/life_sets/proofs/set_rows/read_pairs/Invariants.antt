use Rattle.std.proofs.Common.{◌≡◌, ℕ, ◌<◌, ◌≤◌, false}
use Rattle.life_sets.specs.NumberSets.{holds}
use Rattle.life_sets.specs.PairSets.{contains_pair}
use Rattle.life_sets.proofs.set_rows.read_pairs.Given as goal

abbrev pub invariant-loop-element : goal.invariant-loop-element
invariant-loop-element l = record {
  limit : l.into.limit ≡ l.fn.into.limit;
  done : (e : ℕ) → e < l.element → holds l.into e ≡ contains_pair l.pairs l.location e;
  ahead : (e : ℕ) → l.element ≤ e → holds l.into e ≡ false;
}
