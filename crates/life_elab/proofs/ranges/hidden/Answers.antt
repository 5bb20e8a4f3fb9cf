use Rattle.std.proofs.Common.{ap, sym, ◌∙◌}
use Rattle.life_types.specs.declared.ty.Ty.{Ty}
use Rattle.life_core.specs.Operands.{base_of}
use Rattle.life_writer.proofs.Giving.{answers_as}
use Rattle.life_writer.proofs.Seen.{type_seen}
use Rattle.life_writer.specs.Around.{own_type}
use Rattle.life_writer.specs.PartUses.{expression_uses}
use Rattle.life_writer.specs.Views.{around_of, state_of}
use Rattle.life_elab.specs.RangeForms.{hidden_by}
use Rattle.life_elab.proofs.RangeWriting.{hidden_else}
use Rattle.life_elab.proofs.ranges.hidden.Goals as goal

pub returns-in-View : goal.returns-in-View
returns-in-View c =
    let x = c.args.range.now in
    answers_as base_of c.hidden_pointer.result _ _ _
    (ap (λ (u : Ty). hidden_by u c.args.colon (expression_uses (around_of c.args.a.now) x) (state_of c.args.writer.now)) (ap own_type (type_seen x) ∙ sym c.own_type.ensures ∙ c.in-View.is)) c.hidden_pointer.ensures

pub returns-in-Span : goal.returns-in-Span
returns-in-Span c =
    let x = c.args.range.now in
    answers_as base_of c.hidden_pointer-in-Span.result _ _ _
    (ap (λ (u : Ty). hidden_by u c.args.colon (expression_uses (around_of c.args.a.now) x) (state_of c.args.writer.now)) (ap own_type (type_seen x) ∙ sym c.own_type.ensures ∙ c.in-Span.is)) c.hidden_pointer-in-Span.ensures

pub returns-in_default : goal.returns-in_default
returns-in_default c =
    let x = c.args.range.now in let e = expression_uses (around_of c.args.a.now) x in let s = state_of c.args.writer.now in
    answers_as base_of c.hidden_owner.result _ _ _
    (ap (λ (u : Ty). hidden_by u c.args.colon e s) (ap own_type (type_seen x) ∙ sym c.own_type.ensures) ∙ hidden_else c.own_type.result c.args.colon e s c.in_default.not-View c.in_default.not-Span) c.hidden_owner.ensures
