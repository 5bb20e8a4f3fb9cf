use Rattle.std.proofs.Common.{◌≡◌, drop}
use Rattle.life_writer.specs.Views.{around_of, state_of}
use Rattle.life_elab.specs.Functions.{with_parameters}
use Rattle.life_elab.proofs.functions.add_parameters.Given as goal

abbrev pub invariant-parameters : goal.invariant-parameters
invariant-parameters l =
    with_parameters (around_of l.a) (drop l.number (around_of l.a).function.parameters) (drop l.number (around_of l.a).function.locals) (state_of l.writer)
    ≡ with_parameters (around_of l.a) (around_of l.a).function.parameters (around_of l.a).function.locals (state_of l.initial.writer)
