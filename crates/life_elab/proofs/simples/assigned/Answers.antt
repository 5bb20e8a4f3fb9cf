use Rattle.std.proofs.lemmas.Result.{on_ok_weaker}
use Rattle.life_typed.specs.TypedForm.{typed_view}
use Rattle.life_writer.specs.Views.{around_of, state_of}
use Rattle.life_elab.proofs.ListWriting.{list_assigned}
use Rattle.life_elab.proofs.SimpleSteps.{followed}
use Rattle.life_elab.proofs.simples.assigned.Goals as goal

pub returns-in-List : goal.returns-in-List
returns-in-List c =
    on_ok_weaker c.list_assigned.result
    (followed (state_of c.list_assigned.new.self)
    (list_assigned (around_of c.args.a.now) c.in-List.list c.deref.result.now c.deref-in-List.result.now c.deref.ensures.value c.deref-in-List.ensures (typed_view c.args.target.now) c.args.value.now c.args.equals c.args.behind
    (state_of c.args.writer.now) c.in-List.is))
    c.list_assigned.ensures
