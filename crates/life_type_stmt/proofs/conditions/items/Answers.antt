use Rattle.std.proofs.lemmas.Result.{err_from_is_err_and}
use Rattle.life_typed.specs.TypedStatement.{item_view}
use Rattle.life_type_stmt.proofs.EachInTurn.{none_left, one_broken, one_found}
use Rattle.life_type_stmt.proofs.conditions.items.Goals as goal
use Rattle.life_type_stmt.specs.Conditions.{part_item}

pub returns-in_err-next : goal.returns-in_err-next
returns-in_err-next c =
    let e = err_from_is_err_and c.from_residual.result c.from_residual.ensures.1 in
    rw (e.1, e.2) (one_broken part_item item_view c.args.parts.now c.parts.part-index c.part-item.result _ _ _ _ c.in_err-next.field-0.0 c.parts-test.true c.part-item.is c.parts.invariant c.in_err-next.ensures)

pub parts-preserved : goal.parts-preserved
parts-preserved c =
    one_found part_item item_view c.args.parts.now c.parts.part-index c.part-item.result _ _ _ _ _ c.in_ok-next.next _ c.parts-test.true c.part-item.is c.parts.invariant c.in_ok-next.ensures c.in_ok-push.ensures.items

pub returns : goal.returns
returns c = none_left part_item item_view c.args.parts.now c.parts.part-index _ _ _ _ c.parts-test.false c.parts.invariant
