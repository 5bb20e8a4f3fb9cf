use Rattle.std.proofs.Common.{◌≡◌, ◌∷◌, [], map, length}
use Rattle.life_stmt.specs.Fronts.{mapped, before}
use Rattle.life_expr.specs.Heads.{quoted_kind}
use Rattle.life_stmt.specs.Definitions as spec
use Rattle.life_expr.specs.Read.{as_many}
use Rattle.life_expr.specs.Readers as readers
use Rattle.life_tree.specs.Rules as rules
use Rattle.life_tree.specs.Views.{later_trees, word_tree}
use Rattle.life_tree.specs.declared.fixed.TheConstants.{COMMA}
use Rattle.life_stmt.proofs.attributes.later_words.Given as goal

abbrev pub invariant-list : goal.invariant-list
invariant-list l = record {
  even : length l.commas.items ≡ length l.list.items;
  reads : mapped (before (later_trees l.commas.items (map word_tree l.list.items))) (as_many (quoted_kind COMMA ∷ []) (spec.later_with (readers.below l.left) rules.word) l.rest) ≡ as_many (quoted_kind COMMA ∷ []) (spec.later_with (readers.below l.left) rules.word) l.tokens;
}

abbrev pub decreases-list : goal.decreases-list
decreases-list l = length l.rest
