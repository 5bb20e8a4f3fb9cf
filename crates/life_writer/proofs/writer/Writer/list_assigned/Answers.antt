use Rattle.std.proofs.Common.{Some, ap, ◌∙◌}
use Rattle.std.proofs.lemmas.Result.{on_ok_weaker}
use Rattle.life_types.specs.declared.ty.Ty.{Ty}
use Rattle.life_typed.specs.Delimiters.{delimiters_view}
use Rattle.life_typed.specs.TypedForm.{Typed, whole}
use Rattle.life_core.specs.Operands.{operand_of}
use Rattle.life_writer.specs.Around.{own_type}
use Rattle.life_writer.specs.Assigning.{assigned}
use Rattle.life_writer.specs.ExpressionForms.{uses}
use Rattle.life_writer.specs.Lists.{built_type, listed}
use Rattle.life_writer.specs.PartUses.{expressions_uses, part_uses}
use Rattle.life_writer.specs.Targets.{place_target}
use Rattle.life_writer.specs.Views.{around_of, state_of}
use Rattle.life_writer.proofs.ListsGiven.{owner_list_assigned, struct_list_assigned}
use Rattle.life_writer.proofs.writer.Writer.list_assigned.Goals as goal

pub returns-in_ok-local-in-Owner : goal.returns-in_ok-local-in-Owner
returns-in_ok-local-in-Owner c =
    let a = around_of c.args.a.now in let us = expressions_uses a c.args.elements.now in let d = delimiters_view c.args.delimiters.now in let s = state_of c.args.self.now in
    let x = part_uses a (Some c.of-target.result) in
    on_ok_weaker c.acted.result
    (λ written. owner_list_assigned a c.args.opening us d c.args.behind s c.own_type-ty.result (place_target x) c.args.equals c.class.result c.class.ensures (state_of c.list.new.self) (state_of c.acted.new.self)
    c.in_ok-local-in-Owner.local c.in-Owner.is c.in_ok-local-in-Owner.ensures written
    ∙ ap (λ (t : Ty). assigned (listed a (built_type a t) c.args.opening us d) t (place_target x) c.args.equals c.args.behind s) c.own_type-ty.ensures
    ∙ ap (λ (y : Typed). assigned (listed a (built_type a (own_type y.ty)) c.args.opening us d) (own_type y.ty) (place_target (uses a (whole y))) c.args.equals c.args.behind s) c.of-target.ensures)
    c.acted.ensures

pub returns-in_ok-local-in-Aggregate : goal.returns-in_ok-local-in-Aggregate
returns-in_ok-local-in-Aggregate c =
    let a = around_of c.args.a.now in let us = expressions_uses a c.args.elements.now in let d = delimiters_view c.args.delimiters.now in let s = state_of c.args.self.now in
    let x = part_uses a (Some c.of-target.result) in
    on_ok_weaker c.acted-in-Aggregate.result
    (λ written. struct_list_assigned a c.args.opening us d c.args.behind s c.own_type-ty.result (place_target x) c.args.equals c.class.result c.class.ensures (state_of c.list-in-Aggregate.new.self)
    (state_of c.acted-in-Aggregate.new.self) c.in_ok-local-in-Aggregate.local (operand_of c.name-from.result) c.in-Aggregate.is c.in_ok-local-in-Aggregate.ensures c.name-from.ensures written
    ∙ ap (λ (t : Ty). assigned (listed a (built_type a t) c.args.opening us d) t (place_target x) c.args.equals c.args.behind s) c.own_type-ty.ensures
    ∙ ap (λ (y : Typed). assigned (listed a (built_type a (own_type y.ty)) c.args.opening us d) (own_type y.ty) (place_target (uses a (whole y))) c.args.equals c.args.behind s) c.of-target.ensures)
    c.acted-in-Aggregate.ensures
