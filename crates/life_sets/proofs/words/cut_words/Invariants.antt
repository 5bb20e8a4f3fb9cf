use Rattle.std.proofs.Common.{◌≡◌, ℕ, ◌<◌, ◌≤◌}
use Rattle.std.specs.Int.{bit_not, w64}
use Rattle.std.specs.Prelude.{slice_index, bit_and}
use Rattle.life_sets.proofs.words.cut_words.Given as goal

abbrev pub invariant-loop-i : goal.invariant-loop-i
invariant-loop-i l = record {
  done : (k : ℕ) → k < l.i → slice_index l.into k ≡ bit_and (slice_index l.fn.into k) (bit_not w64 (slice_index l.from k));
  ahead : (k : ℕ) → l.i ≤ k → slice_index l.into k ≡ slice_index l.fn.into k;
}
