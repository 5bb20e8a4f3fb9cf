use Rattle.std.proofs.Common.{◌≡◌, ◌+◌}
use Rattle.life_words.proofs.Writing.{Writing}
use Rattle.life_words.proofs.numbers.put_words.Given as goal

abbrev pub invariant-loop-value : goal.invariant-loop-value
invariant-loop-value g l = record {
  at : l.at ≡ l.fn.word + l.value-index;
  limit : g.S.Store.limit l.store ≡ g.S.Store.limit l.fn.store;
  writing : Writing (g.S.Store.content l.fn.store) (g.S.Store.rows l.fn.store) l.object l.slot l.fn.word l.values l.value-index (g.S.Store.content l.store) (g.S.Store.rows l.store);
}
