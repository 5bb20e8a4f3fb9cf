use Rattle.std.proofs.Common.{◌≡◌, ◌≢◌, ℕ, ◌<◌, ◌≤◌, false}
use Rattle.std.specs.Prelude.{IsTrue, slice_index, bit_or}
use Rattle.life_sets.proofs.words.join_words.Given as goal

abbrev pub invariant-loop-i : goal.invariant-loop-i
invariant-loop-i l = record {
  done : (k : ℕ) → k < l.i → slice_index l.into k ≡ bit_or (slice_index l.from k) (slice_index l.fn.into k);
  ahead : (k : ℕ) → l.i ≤ k → slice_index l.into k ≡ slice_index l.fn.into k;
  some : IsTrue l.gained → (k : ℕ) × (bit_or (slice_index l.from k) (slice_index l.fn.into k) ≢ slice_index l.fn.into k);
  none : l.gained ≡ false → (k : ℕ) → k < l.i → bit_or (slice_index l.from k) (slice_index l.fn.into k) ≡ slice_index l.fn.into k;
}
