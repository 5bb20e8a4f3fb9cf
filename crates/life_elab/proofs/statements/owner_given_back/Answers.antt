use Rattle.std.proofs.Common.{sym, ◌∙◌}
use Rattle.std.proofs.lemmas.Result.{on_ok_weaker}
use Rattle.life_writer.specs.PartUses.{expression_uses}
use Rattle.life_writer.specs.Views.{around_of, destination_of, state_of}
use Rattle.life_elab.proofs.SimpleSteps.{followed, object_kept, object_moved}
use Rattle.life_elab.proofs.statements.owner_given_back.Goals as goal

pub returns-in_ok-built-in-Some : goal.returns-in_ok-built-in-Some
returns-in_ok-built-in-Some c =
    let a = around_of c.args.a.now in
    object_moved a (expression_uses a c.args.value.now) c.args.ty c.args.keyword c.args.behind (state_of c.args.writer.now) (state_of c.built.new.self) c.in-Some.local c.in_ok-built-in-Some.field-0
    (destination_of c.in_ok-goal-in-Some.goal) (sym c.object_named.ensures ∙ c.in-Some.is) c.in_ok-goal-in-Some.ensures c.in_ok-built-in-Some.ensures

pub returns-in-None : goal.returns-in-None
returns-in-None c =
    let a = around_of c.args.a.now in
    on_ok_weaker c.built_back.result
    (followed (state_of c.built_back.new.writer)
    (object_kept a (expression_uses a c.args.value.now) c.args.ty c.args.keyword c.args.behind (state_of c.args.writer.now) (sym c.object_named.ensures ∙ c.in-None.is)))
    c.built_back.ensures
