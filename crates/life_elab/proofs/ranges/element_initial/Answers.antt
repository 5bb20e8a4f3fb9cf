use Rattle.std.proofs.Common.{Some, ap, ◌∙◌}
use Rattle.life_types.specs.declared.ty.Ty.{Ty}
use Rattle.life_writer.proofs.Begun.{finished, unbound}
use Rattle.life_writer.proofs.Giving.{answers_as}
use Rattle.life_writer.specs.Giving.{initial}
use Rattle.life_writer.specs.Temporaries.{scoped}
use Rattle.life_writer.specs.Uses.{Remaining}
use Rattle.life_writer.specs.Views.{around_of, destination_of, last_of, state_of}
use Rattle.life_writer.specs.Writing.{Gives, ◌>>◌}
use Rattle.life_elab.specs.RangeForms.{element_at}
use Rattle.life_elab.proofs.ranges.element_initial.Goals as goal

pub returns-in_ok-last-in-Reference : goal.returns-in_ok-last-in-Reference
returns-in_ok-last-in-Reference c =
    let a = around_of c.args.a.now in let e = element_at a.program.types c.args.colon c.args.iterator (Some c.args.element) in let s = state_of c.args.writer.now in
    finished (initial a scoped e c.args.ty c.args.colon s) (last_of c.in_ok-last-in-Reference.last) (destination_of c.args.destination) (state_of c.element_bound.new.writer) (state_of c.built.new.self) c.built.result
    (ap (λ (u : Ty). initial a scoped e u c.args.colon s) c.in-Reference.is ∙ c.in_ok-last-in-Reference.ensures) c.built.ensures

pub returns-in_default : goal.returns-in_default
returns-in_default c =
    let a = around_of c.args.a.now in let e = element_at a.program.types c.args.colon c.args.iterator (Some c.args.element) in let d = destination_of c.args.destination in
    answers_as (λ x. x) c.element_given.result _ _ _
    (ap (λ (w : Gives Remaining). w >> λ rest s. rest d s) (unbound a scoped e c.args.ty c.args.colon (state_of c.args.writer.now) c.in_default.not-Reference)) c.element_given.ensures
