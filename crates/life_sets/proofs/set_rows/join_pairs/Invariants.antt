use Rattle.std.proofs.Common.{ℕ, Bool}
use Rattle.std.specs.Prelude.{IsTrue, ◌↔◌, Contains}
use Rattle.life_sets.specs.Pairs.{HasNew}
use Rattle.life_sets.specs.PairSets.{contains_pair, AddsKeys, IsAmong}
use Rattle.life_sets.proofs.set_rows.join_pairs.Given as goal

abbrev pub invariant-loop-pair : goal.invariant-loop-pair
invariant-loop-pair l = record {
  can : (goal.iterator-loop-pair).can_next l.pair-iterator;
  finite : (goal.iterator-loop-pair).is_finite l.pair-iterator;
  rest : (new : ℕ → ℕ → Bool) → AddsKeys l.pair-iterator (contains_pair l.into) new → AddsKeys l.from.keys (contains_pair l.fn.into) new;
  left : (x y : ℕ) → Contains l.pair-iterator (x, y) → Contains l.from.keys (x, y);
  among : IsAmong l.from.keys (contains_pair l.fn.into) (contains_pair l.into);
  gained : IsTrue l.gained ↔ HasNew (contains_pair l.fn.into) (contains_pair l.into);
}
