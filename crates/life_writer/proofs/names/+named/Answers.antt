use Rattle.std.proofs.Common.{Some, ap, sym, ◌∙◌}
use Rattle.life_typed.specs.Delimiters.{delimiters_view}
use Rattle.life_typed.specs.TypedForm.{typed, whole}
use Rattle.life_writer.specs.ExpressionForms.{uses}
use Rattle.life_writer.specs.PartUses.{expressions_uses, part_uses}
use Rattle.life_writer.specs.Parts.{part_form, part_view, shape_form}
use Rattle.life_writer.specs.Rows.{row_between}
use Rattle.life_writer.specs.declared.parts.Shape.{Shape}
use Rattle.life_writer.proofs.Nameless.{method_nameless, operator_nameless, text_nameless}
use Rattle.life_writer.specs.Uses.{Uses}
use Rattle.life_writer.specs.Views.{around_of}
use Rattle.life_writer.proofs.Opened.{opened_uses}
use Rattle.life_writer.proofs.names.+named.Goals as goal

pub part_named-returns-in-Some : goal.part_named-returns-in-Some
part_named-returns-in-Some t c =
    c.node_named.ensures
    ∙ sym (ap (λ (e : Uses). e.named) (opened_uses (around_of c.args.a.now) c.args.part c.in-Some.part c.opened.result c.in-Some.is c.opened.ensures.node))

pub node_named-returns-in-TextOf : goal.node_named-returns-in-TextOf
node_named-returns-in-TextOf t c =
    let a = around_of c.args.a.now in let n = c.args.node.now in
    sym (ap (λ (x : Shape). (uses a (typed n.place n.ty n.category (shape_form x))).named) c.in-TextOf.is ∙ text_nameless (part_uses a c.in-TextOf.inner) n.place n.ty n.category)

pub node_named-returns-in-Binary : goal.node_named-returns-in-Binary
node_named-returns-in-Binary t c =
    let a = around_of c.args.a.now in let n = c.args.node.now in
    sym (ap (λ (x : Shape). (uses a (typed n.place n.ty n.category (shape_form x))).named) c.in-Binary.is
    ∙ (operator_nameless (row_between c.in-Binary.operator (part_form c.in-Binary.left) (whole (part_view c.in-Binary.right))) (part_uses a c.in-Binary.left) (part_uses a (Some c.in-Binary.right)) n.place n.ty n.category).0)

pub node_named-returns-in-Method : goal.node_named-returns-in-Method
node_named-returns-in-Method t c =
    let a = around_of c.args.a.now in let n = c.args.node.now in
    sym (ap (λ (x : Shape). (uses a (typed n.place n.ty n.category (shape_form x))).named) c.in-Method.is
    ∙ (method_nameless a c.in-Method.method (part_uses a c.in-Method.base) (expressions_uses a c.in-Method.arguments.now) (delimiters_view c.in-Method.delimiters.now) n.place n.ty n.category).0)
