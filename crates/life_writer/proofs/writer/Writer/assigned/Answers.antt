use Rattle.std.proofs.lemmas.Result.{on_ok_weaker}
use Rattle.life_typed.specs.TypedForm.{typed_view}
use Rattle.life_writer.specs.Parts.{part_view}
use Rattle.life_writer.specs.Views.{around_of, state_of}
use Rattle.life_writer.proofs.Assigned.{assigned_as}
use Rattle.life_writer.proofs.writer.Writer.assigned.Goals as goal

pub returns : goal.returns
returns c =
    on_ok_weaker c.part_assigned.result
    (assigned_as (around_of c.args.a.now) (part_view c.of.result) (typed_view c.args.expression.now) (part_view c.of-target.result) (typed_view c.args.target.now) c.own_type-ty.result c.args.equals c.args.behind
    (state_of c.args.self.now) (state_of c.part_assigned.new.self) c.of.ensures c.own_type-ty.ensures c.of-target.ensures)
    c.part_assigned.ensures
