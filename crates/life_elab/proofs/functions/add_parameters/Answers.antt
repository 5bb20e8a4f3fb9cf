use Rattle.life_writer.specs.Views.{around_of, state_of}
use Rattle.life_elab.proofs.Parameters.{no_locals}
use Rattle.life_elab.proofs.functions.add_parameters.Goals as goal

pub returns-in-None : goal.returns-in-None
returns-in-None c =
    no_locals (around_of c.args.a.now) (around_of c.args.a.now).function.parameters (around_of c.args.a.now).function.locals c.deref.result.now c.parameters.number
    (state_of c.parameters.writer) _ c.in-None.ensures.lookup.3 c.deref.ensures.value c.parameters.invariant
