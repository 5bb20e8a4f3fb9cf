use Rattle.std.proofs.Common.{ℕ, List, [], ◌∷◌, ◌++◌, ◌∙◌, ap, arith, length}
use Rattle.std.proofs.lemmas.List.{length-replicate, replicate_more}
use Rattle.life_sets.proofs.words.zeros.Goals as goal

pub push_reserved-requires : goal.push_reserved-requires
push_reserved-requires g c = omega (arith, ap length c.loop.invariant.zeros, length-replicate {A = ℕ} c.loop.counter 0, c.loop.invariant.room, c.loop-test.true)

pub loop-preserved : goal.loop-preserved
loop-preserved g c = record {
  zeros = c.push_reserved.ensures.items ∙ ap (λ (ws : List ℕ). ws ++ 0 ∷ []) c.loop.invariant.zeros ∙ replicate_more c.loop.counter 0;
  room = omega (arith, c.push_reserved.ensures.capacity, c.loop.invariant.room);
}
