use Rattle.std.proofs.lemmas.Result.{on_ok_weaker}
use Rattle.life_typed.specs.Operators.{promoted}
use Rattle.life_typed.specs.TypedForm.{typed_view}
use Rattle.life_core.specs.Operands.{operand_of}
use Rattle.life_writer.specs.Views.{around_of, state_of}
use Rattle.life_elab.specs.Simples.{type_in}
use Rattle.life_elab.proofs.SimpleSteps.{same_common, stepped_gives}
use Rattle.life_elab.proofs.simples.stepped.Goals as goal

pub returns : goal.returns
returns c =
    let x = typed_view c.args.target.now in
    on_ok_weaker c.put_back.result
    (stepped_gives (around_of c.args.a.now) x c.args.operator c.args.place (promoted (type_in x) (type_in x)) c.promoted-common.result
    (state_of c.args.writer.now) (state_of c.operand.new.self) (state_of c.held.new.writer) (state_of c.eval.new.self) (state_of c.put_back.new.writer)
    (operand_of c.in_ok-to.to) (operand_of c.in_ok-from.from) c.in_ok-left.left c.in_ok-right.right c.step_operator.result
    (same_common c.args.target.now c.own_type-own.result c.promoted-common.result c.own_type-own.ensures c.promoted-common.ensures)
    c.in_ok-to.ensures c.in_ok-from.ensures c.in_ok-left.ensures c.in_ok-right.ensures c.step_operator.ensures)
    c.put_back.ensures
