use Rattle.std.proofs.Common.{Some, ap, ◌∙◌}
use Rattle.life_types.specs.declared.ty.Ty.{Ty}
use Rattle.life_writer.specs.Giving.{initial}
use Rattle.life_writer.specs.PartUses.{part_uses}
use Rattle.life_writer.specs.Views.{around_of, destination_of, keeps_of, last_of, state_of}
use Rattle.life_writer.proofs.Begun.{finished}
use Rattle.life_writer.proofs.writer.Writer.begun.Goals as goal

pub returns-in_ok-last-in-Reference : goal.returns-in_ok-last-in-Reference
returns-in_ok-last-in-Reference c =
    let a = around_of c.args.a.now in let e = part_uses a (Some c.args.part) in let s = state_of c.args.self.now in
    finished (initial a (keeps_of c.args.keeping) e c.args.ty c.args.behind s) (last_of c.in_ok-last-in-Reference.last) (destination_of c.args.destination) (state_of c.bound.new.self) (state_of c.built.new.self) c.built.result
    (ap (λ (u : Ty). initial a (keeps_of c.args.keeping) e u c.args.behind s) c.in-Reference.is ∙ c.in_ok-last-in-Reference.ensures) c.built.ensures
