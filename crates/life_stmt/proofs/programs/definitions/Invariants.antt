use Rattle.std.proofs.Common.{◌≡◌, map, length}
use Rattle.life_stmt.specs.Fronts.{mapped, before}
use Rattle.life_expr.specs.Heads.{heads_of}
use Rattle.life_expr.specs.Read.{as_many}
use Rattle.life_expr.specs.Readers as readers
use Rattle.life_tree.specs.Rules as rules
use Rattle.life_tree.specs.Views.{definition_tree}
use Rattle.life_stmt.proofs.programs.definitions.Given as goal

abbrev pub invariant-list : goal.invariant-list
invariant-list l = mapped (before (map definition_tree l.list.items)) (as_many (heads_of rules.definition) (readers.definition_with l.left (readers.below l.left)) l.rest) ≡ as_many (heads_of rules.definition) (readers.definition_with l.left (readers.below l.left)) l.tokens

abbrev pub decreases-list : goal.decreases-list
decreases-list l = length l.rest
