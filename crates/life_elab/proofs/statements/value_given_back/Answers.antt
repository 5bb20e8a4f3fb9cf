use Rattle.life_writer.specs.PartUses.{expression_uses}
use Rattle.life_writer.specs.Views.{around_of, state_of}
use Rattle.life_elab.proofs.SimpleSteps.{given_result}
use Rattle.life_elab.proofs.statements.value_given_back.Goals as goal

pub returns : goal.returns
returns c =
    given_result (around_of c.args.a.now) (expression_uses (around_of c.args.a.now) c.args.value.now) c.args.behind c.args.ty c.in_ok-into.into c.in_ok-value.field-0
    (state_of c.args.writer.now) (state_of c.value.new.self) c.in_ok-into.ensures c.in_ok-value.ensures
