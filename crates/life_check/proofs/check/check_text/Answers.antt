use Rattle.std.proofs.lemmas.Result.{err_from_is_err_and}
use Rattle.life_check.proofs.Checking.{tree_finds, unparsed_finds}
use Rattle.life_check.proofs.OneFinding.{of_only_tree}
use Rattle.life_check.proofs.check.check_text.Goals as goal

pub returns-in_err-tree-clause-finds : goal.returns-in_err-tree-clause-finds
returns-in_err-tree-clause-finds g c =
    let e = err_from_is_err_and c.from_residual.result c.from_residual.ensures.1 in
    rw (e.1, e.2) (unparsed_finds c.args.bytes.now c.in_err-tree.field-0.0 c.in_err-tree.ensures.ends c.in_err-tree.ensures.only)

pub check_tree-requires : goal.check_tree-requires
check_tree-requires g c = c.trees_have_names.ensures c.args.bytes.now c.in_ok-tree.tree c.in_ok-tree.ensures.ends.0

pub returns-clause-finds : goal.returns-clause-finds
returns-clause-finds g c = tree_finds c.args.bytes.now c.in_ok-tree.tree c.check_tree.result c.in_ok-tree.ensures.ends c.check_tree.ensures.finds

pub returns-clause-ticks : goal.returns-clause-ticks
returns-clause-ticks g c = λ finding comes. c.check_tree.ensures.ticks finding (of_only_tree c.args.bytes.now c.in_ok-tree.tree finding c.in_ok-tree.ensures.ends comes)
