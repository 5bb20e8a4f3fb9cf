use Rattle.std.proofs.Common.{◌≡◌, Some}
use Rattle.life_store.specs.Cells.{at}
use Rattle.life_store.specs.Content.{Object}
use Rattle.life_forest.specs.Values.{AllWide}
use Rattle.life_seen.specs.Kinds.{kinds_of}
use Rattle.life_values.proofs.CopiedRowed.{Written}
use Rattle.life_values.proofs.WordsCopied.{Progress}
use Rattle.life_values.proofs.moving.copy_words.Given as goal

abbrev pub invariant-loop-word : goal.invariant-loop-word
invariant-loop-word g l = record {
  limit : g.S.Store.limit l.store ≡ g.S.Store.limit l.fn.store;
  rows : g.S.Store.rows l.store ≡ g.S.Store.rows l.fn.store;
  written : (source target : Object) → at (g.S.Store.content l.fn.store).objects l.from.object.birth ≡ Some source → at (g.S.Store.content l.fn.store).objects l.to.object.birth ≡ Some target → AllWide target.width target.slots
      → Written l.from l.to l.width source target (g.S.Store.content l.fn.store) (g.S.Store.content l.store) l.word;
  progress : Progress (kinds_of l.types) l.from l.to l.width (g.S.Store.content l.fn.store) (g.S.Store.rows l.fn.store) (g.S.Store.content l.store) (g.S.Store.rows l.store) l.word;
}
