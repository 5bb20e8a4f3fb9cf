use Rattle.std.proofs.Common.{false, ap, ◌∙◌}
use Rattle.life_types.specs.declared.ty.Ty.TheVariants as ty
use Rattle.life_types.specs.declared.ty.TyId.{TyId}
use Rattle.life_typed.specs.declared.typed_expr.Category.{Category}
use Rattle.life_writer.specs.Views.{state_of}
use Rattle.life_writer.specs.Writing.{Gives, gives}
use Rattle.life_elab.specs.RangeForms.{range_type}
use Rattle.life_elab.proofs.ranges.range_type.Goals as goal

pub returns-in_ok-type_number-in-Value : goal.returns-in_ok-type_number-in-Value
returns-in_ok-type_number-in-Value c =
    ap (λ (k : Category). range_type k c.args.ty (state_of c.args.writer.now)) c.in-Value.is
    ∙ ap (λ (w : Gives TyId). gives (ty.Reference w.given false) w.state) c.in_ok-type_number-in-Value.ensures.number
