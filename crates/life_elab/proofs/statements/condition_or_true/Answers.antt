use Rattle.std.proofs.Common.{ap}
use Rattle.life_typed.specs.TypedForm.{typed_view}
use Rattle.life_typed.specs.TypedStatement.{optional_view}
use Rattle.life_writer.specs.Views.{around_of, state_of}
use Rattle.life_elab.proofs.LoopWriting.{tested_if}
use Rattle.life_elab.proofs.statements.condition_or_true.Goals as goal

pub returns-in-Some : goal.returns-in-Some
returns-in-Some c =
    tested_if (around_of c.args.a.now) c.args.keyword (optional_view typed_view c.args.condition.now) (typed_view c.in-Some.condition) c.args.behind c.ending.result (state_of c.args.writer.now) (state_of c.condition.new.self) c.condition.result
    (ap (optional_view typed_view) c.in-Some.is) c.ending.ensures c.condition.ensures
