use Rattle.std.proofs.Common.{ap, sym}
use Rattle.std.proofs.lemmas.Result.{on_ok_weaker}
use Rattle.life_typed.specs.TypedStatement.{simple_view}
use Rattle.life_writer.specs.Views.{around_of, state_of}
use Rattle.life_elab.specs.SimpleForms.{done}
use Rattle.life_elab.proofs.SimpleSteps.{followed}
use Rattle.life_elab.proofs.simples.done.Goals as goal

pub returns-in-Compound : goal.returns-in-Compound
returns-in-Compound c =
    on_ok_weaker c.compounded.result
    (followed (state_of c.compounded.new.writer) (ap (λ v. done (around_of c.args.a.now) (simple_view v) c.args.behind (state_of c.args.writer.now)) (sym c.in-Compound.is)))
    c.compounded.ensures
