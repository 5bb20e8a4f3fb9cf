use Rattle.std.proofs.Common.{◌≡◌, ◌∷◌, [], map, refl}
use Rattle.life_stmt.proofs.LoopReads.{some_reads}
use Rattle.life_stmt.proofs.sentences.print_list.Goals as goal
use Rattle.life_expr.specs.Heads.{heads_of}
use Rattle.life_expr.specs.Readers as readers
use Rattle.life_tree.specs.Rules as rules
use Rattle.life_tree.specs.Views.{print_part_tree}

pub returns : goal.returns
unfolding Rattle.life_stmt.specs.Statements.print_list_with
returns c =
    let e : map print_part_tree c.push.new.self.items ≡ print_part_tree c.in_ok-first.first ∷ [] = rw (c.in_ok-push.ensures.items, c.new-list.ensures.items) refl in
    rw (some_reads (heads_of rules.print_part) (readers.print_part_with c.args.left (readers.below c.args.left)) c.args.tokens.now (print_part_tree c.in_ok-first.first) c.in_ok-first.rest.now (map print_part_tree c.push.new.self.items) e c.in_ok-first.ensures) c.more_prints.ensures
