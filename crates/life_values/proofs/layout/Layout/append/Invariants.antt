use Rattle.std.proofs.Common.{◌≡◌, ◌++◌, map, drop}
use Rattle.life_values.specs.Layouts.{moved, owner_words}
use Rattle.life_values.proofs.layout.Layout.append.Given as goal

abbrev pub invariant-loop-leaf : goal.invariant-loop-leaf
invariant-loop-leaf l = record {
  width : l.self.width ≡ l.fn.self.width;
  leaves : l.self.leaves.items ++ map (moved l.by) (drop l.leaf-index l.part.leaves.items) ≡ l.fn.self.leaves.items ++ map (moved l.by) l.part.leaves.items;
  owners : l.self.owners.items ++ owner_words (map (moved l.by) (drop l.leaf-index l.part.leaves.items)) ≡ l.fn.self.owners.items ++ owner_words (map (moved l.by) l.part.leaves.items);
}
