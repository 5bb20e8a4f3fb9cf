use Rattle.std.proofs.Common.{ℕ, subst, arith}
use Rattle.std.specs.Prelude.{slice_index}
use Rattle.life_sets.specs.BitSets.{has_bit}
use Rattle.life_sets.specs.NumberSets.{IsNext}
use Rattle.life_sets.proofs.NextLemmas.{next_found}
use Rattle.life_sets.proofs.words.next_bit.Goals as goal

pub returns-in-Some-clause-some : goal.returns-in-Some-clause-some
returns-in-Some-clause-some c =
    let a = c.args in
    let k = c.loop-k.k in
    let place = c.in-Some.place in
    (next_found a.limit a.from k place a.words.now c.requires.clean (omega (arith, c.loop-k-test.true, c.words_for-k-end.ensures)) c.loop-k.invariant
    (subst (λ (f : ℕ). IsNext (has_bit (slice_index a.words.now k)) f place) c.saturating_sub.ensures c.in-Some.ensures.some) c.in-Some.ensures.below).0
