use Rattle.std.proofs.lemmas.Result.{on_ok_weaker}
use Rattle.life_types.specs.declared.ty.Class.TheVariants as classes
use Rattle.life_typed.specs.TypedForm.{typed_view}
use Rattle.life_writer.specs.Views.{around_of, state_of}
use Rattle.life_elab.proofs.SimpleSteps.{followed, object_result, value_result}
use Rattle.life_elab.proofs.statements.given_back.Goals as goal

pub returns-in-Value : goal.returns-in-Value
returns-in-Value c =
    on_ok_weaker c.value_given_back.result
    (followed (state_of c.value_given_back.new.writer)
    (value_result (around_of c.args.a.now) (typed_view c.args.value.now) c.args.keyword c.args.behind c.type_of-ty.result c.class.result (state_of c.args.writer.now) c.type_of-ty.ensures c.class.ensures c.in-Value.is))
    c.value_given_back.ensures

pub returns-in-Pointer : goal.returns-in-Pointer
returns-in-Pointer c =
    on_ok_weaker c.built_back.result
    (followed (state_of c.built_back.new.writer)
    (object_result (around_of c.args.a.now) (typed_view c.args.value.now) c.args.keyword c.args.behind c.type_of-ty.result c.class.result classes.Pointer (state_of c.args.writer.now) c.type_of-ty.ensures c.class.ensures c.in-Pointer.is))
    c.built_back.ensures

pub returns-in-Owner : goal.returns-in-Owner
returns-in-Owner c =
    on_ok_weaker c.owner_given_back.result
    (followed (state_of c.owner_given_back.new.writer)
    (object_result (around_of c.args.a.now) (typed_view c.args.value.now) c.args.keyword c.args.behind c.type_of-ty.result c.class.result classes.Owner (state_of c.args.writer.now) c.type_of-ty.ensures c.class.ensures c.in-Owner.is))
    c.owner_given_back.ensures

pub returns-in-Aggregate : goal.returns-in-Aggregate
returns-in-Aggregate c =
    on_ok_weaker c.built_back-in-Aggregate.result
    (followed (state_of c.built_back-in-Aggregate.new.writer)
    (object_result (around_of c.args.a.now) (typed_view c.args.value.now) c.args.keyword c.args.behind c.type_of-ty.result c.class.result classes.Aggregate (state_of c.args.writer.now) c.type_of-ty.ensures c.class.ensures c.in-Aggregate.is))
    c.built_back-in-Aggregate.ensures
