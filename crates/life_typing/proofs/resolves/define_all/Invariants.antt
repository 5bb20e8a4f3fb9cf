use Rattle.std.proofs.Common.{◌≡◌, drop}
use Rattle.life_typing.specs.Progress.{progress_view}
use Rattle.life_typing.specs.Resolves.{with_definitions}
use Rattle.life_typing.proofs.resolves.define_all.Given as goal

abbrev pub invariant-definitions : goal.invariant-definitions
invariant-definitions l =
    with_definitions l.bodies (drop l.definition-index l.definitions) (progress_view l.progress) ≡ with_definitions l.bodies l.definitions (progress_view l.initial.progress)
