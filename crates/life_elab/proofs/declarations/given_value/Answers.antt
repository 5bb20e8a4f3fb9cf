use Rattle.life_writer.specs.Views.{around_of, destination_of, state_of}
use Rattle.life_elab.proofs.ListWriting.{expression_declared, list_declared}
use Rattle.life_elab.proofs.declarations.given_value.Goals as goal

pub returns-in_ok-initialised-in-Expr : goal.returns-in_ok-initialised-in-Expr
returns-in_ok-initialised-in-Expr c =
    expression_declared (around_of c.args.a.now) c.in-Expr.expression c.args.variable.now c.args.value.now c.type_of-ty.result (destination_of c.home-goal.result) c.args.behind (state_of c.args.writer.now)
    (state_of c.initialised.new.self) c.in_ok-initialised-in-Expr.field-0 c.in-Expr.is c.type_of-ty.ensures c.home-goal.ensures c.in_ok-initialised-in-Expr.ensures

pub returns-in_ok-list_initialised-in-List : goal.returns-in_ok-list_initialised-in-List
returns-in_ok-list_initialised-in-List c =
    list_declared (around_of c.args.a.now) c.in-List.list c.deref.result.now c.deref-in-List.result.now c.deref.ensures.value c.deref-in-List.ensures c.args.variable.now c.args.value.now
    c.type_of-ty.result (destination_of c.home-goal.result) c.args.behind (state_of c.args.writer.now) (state_of c.list_initialised.new.self) c.in_ok-list_initialised-in-List.field-0 c.in-List.is
    c.type_of-ty.ensures c.home-goal.ensures c.in_ok-list_initialised-in-List.ensures
