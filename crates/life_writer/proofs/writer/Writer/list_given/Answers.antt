use Rattle.life_typed.specs.Delimiters.{delimiters_view}
use Rattle.life_writer.specs.PartUses.{expressions_uses}
use Rattle.life_writer.specs.Views.{around_of, destination_of, state_of}
use Rattle.life_writer.proofs.Giving.{answers_as}
use Rattle.life_writer.proofs.ListsGiven.{owner_listed, struct_listed}
use Rattle.life_writer.proofs.writer.Writer.list_given.Goals as goal

pub returns-in-Owner : goal.returns-in-Owner
returns-in-Owner c =
    let a = around_of c.args.a.now in
    answers_as (λ x. x) c.list.result _ _ _
    (owner_listed a c.args.opening (expressions_uses a c.args.elements.now) (delimiters_view c.args.delimiters.now) c.args.behind (state_of c.args.self.now) c.args.ty (destination_of c.args.destination)
    c.class.result c.class.ensures c.in-Owner.is)
    c.list.ensures

pub returns-in-Aggregate : goal.returns-in-Aggregate
returns-in-Aggregate c =
    let a = around_of c.args.a.now in
    answers_as (λ x. x) c.list-in-Aggregate.result _ _ _
    (struct_listed a c.args.opening (expressions_uses a c.args.elements.now) (delimiters_view c.args.delimiters.now) c.args.behind (state_of c.args.self.now) c.args.ty (destination_of c.args.destination)
    c.class.result c.class.ensures c.in-Aggregate.is)
    c.list-in-Aggregate.ensures
