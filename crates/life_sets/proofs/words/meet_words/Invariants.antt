use Rattle.std.proofs.Common.{◌≡◌, ℕ, ◌<◌}
use Rattle.std.specs.Prelude.{slice_index, bit_and}
use Rattle.life_sets.proofs.words.meet_words.Given as goal

abbrev pub invariant-loop-i : goal.invariant-loop-i
invariant-loop-i l = (k : ℕ) → k < l.i → ◌≡◌ {A = ℕ} (bit_and (slice_index l.one k) (slice_index l.other k)) 0
