-- How far an iterator is moved.
use Rattle.std.specs.Prelude.{ℤ, pos, neg_ℤ, cond}
use Rattle.life_pointers.specs.declared.iterators.Step.{Step}

abbrev pub step_seen : Step → ℤ
step_seen s = cond s.back (neg_ℤ (pos s.by)) (pos s.by)
