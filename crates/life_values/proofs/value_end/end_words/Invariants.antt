use Rattle.std.proofs.Common.{◌≡◌}
use Rattle.life_forest.specs.Kinds.{kinds_of as forest_kinds}
use Rattle.life_seen.specs.Kinds.{kinds_of}
use Rattle.life_seen.specs.Rowed.{AreRowed}
use Rattle.life_values.proofs.AlikeKinds.{alike_kinds}
use Rattle.life_values.proofs.Emptied.{Progress}
use Rattle.life_values.proofs.value_end.end_words.Given as goal

abbrev pub invariant-loop-owner : goal.invariant-loop-owner
invariant-loop-owner g l = record {
  limit : g.S.Store.limit l.store ≡ g.S.Store.limit l.fn.store;
  rowed : AreRowed (kinds_of l.types) (g.S.Store.content l.fn.store) (g.S.Store.rows l.fn.store) → AreRowed (kinds_of l.types) (g.S.Store.content l.store) (g.S.Store.rows l.store);
  progress : Progress (kinds_of l.types) (forest_kinds l.types) (alike_kinds l.types) l.depth l.spot l.owners (g.S.Store.content l.fn.store) (g.S.Store.rows l.fn.store) (g.S.Store.content l.store) (g.S.Store.rows l.store) l.owner-index;
}
