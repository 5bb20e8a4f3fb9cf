use Rattle.std.proofs.Common.{◌≡◌, map, length}
use Rattle.life_stmt.specs.Fronts.{mapped, before}
use Rattle.life_expr.specs.Heads.{heads_of}
use Rattle.life_expr.specs.Read.{as_many}
use Rattle.life_expr.specs.Readers as readers
use Rattle.life_tree.specs.Rules as rules
use Rattle.life_tree.specs.Views.{print_part_tree}
use Rattle.life_stmt.proofs.sentences.more_prints.Given as goal

abbrev pub invariant-list : goal.invariant-list
invariant-list l = mapped (before (map print_part_tree l.list.items)) (as_many (heads_of rules.print_part) (readers.print_part_with l.left (readers.below l.left)) l.rest) ≡ mapped (before (map print_part_tree l.fn.before.items)) (as_many (heads_of rules.print_part) (readers.print_part_with l.left (readers.below l.left)) l.fn.tokens)

abbrev pub decreases-list : goal.decreases-list
decreases-list l = length l.rest
