use Rattle.std.proofs.Common.{ap, ◌∙◌}
use Rattle.life_types.specs.declared.ty.Ty.{Ty}
use Rattle.life_typed.specs.Delimiters.{delimiters_view}
use Rattle.life_writer.specs.Giving.{initial}
use Rattle.life_writer.specs.Lists.{built_type, listed}
use Rattle.life_writer.specs.PartUses.{expressions_uses}
use Rattle.life_writer.specs.Temporaries.{scoped}
use Rattle.life_writer.specs.Views.{around_of, destination_of, last_of, state_of}
use Rattle.life_writer.proofs.Begun.{finished}
use Rattle.life_writer.proofs.writer.Writer.list_initialised.Goals as goal

pub returns-in_ok-last-in-Reference : goal.returns-in_ok-last-in-Reference
returns-in_ok-last-in-Reference c =
    let a = around_of c.args.a.now in let us = expressions_uses a c.args.elements.now in let d = delimiters_view c.args.delimiters.now in let s = state_of c.args.self.now in
    finished (initial a scoped (listed a (built_type a c.args.ty) c.args.opening us d) c.args.ty c.args.behind s) (last_of c.in_ok-last-in-Reference.last) (destination_of c.args.destination) (state_of c.list_bound.new.self)
    (state_of c.built.new.self) c.built.result
    (ap (λ (u : Ty). initial a scoped (listed a (built_type a u) c.args.opening us d) u c.args.behind s) c.in-Reference.is ∙ c.in_ok-last-in-Reference.ensures) c.built.ensures
