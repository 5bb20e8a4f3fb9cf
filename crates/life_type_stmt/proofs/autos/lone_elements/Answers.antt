use Rattle.std.proofs.lemmas.Result.{err_from_is_err_and}
use Rattle.life_typed.specs.TypedForm.{typed_view}
use Rattle.life_type_stmt.proofs.EachInTurn.{none_left, one_broken, one_found}
use Rattle.life_type_stmt.proofs.autos.lone_elements.Goals as goal
use Rattle.life_type_stmt.specs.Autos.{lone_element}

pub returns-in_err-next : goal.returns-in_err-next
returns-in_err-next c =
    let e = err_from_is_err_and c.from_residual.result c.from_residual.ensures.1 in
    rw (e.1, e.2) (one_broken lone_element typed_view c.args.list.now c.elements.element-index c.element-item.result _ _ _ _ c.in_err-next.field-0.0 c.elements-test.true c.element-item.is c.elements.invariant c.in_err-next.ensures)

pub elements-preserved : goal.elements-preserved
elements-preserved c =
    one_found lone_element typed_view c.args.list.now c.elements.element-index c.element-item.result _ _ _ _ _ c.in_ok-next.next _ c.elements-test.true c.element-item.is c.elements.invariant c.in_ok-next.ensures c.in_ok-push.ensures.items

pub returns : goal.returns
returns c = none_left lone_element typed_view c.args.list.now c.elements.element-index _ _ _ _ c.elements-test.false c.elements.invariant
