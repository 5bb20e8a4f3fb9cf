use Rattle.std.proofs.Common.{◌≡◌, drop}
use Rattle.life_typing.specs.Resolves.{bodies_of, with_all_noted}
use Rattle.life_typing.proofs.resolves.bodies_of.Given as goal

abbrev pub invariant-definitions : goal.invariant-definitions
invariant-definitions l =
    with_all_noted (drop l.definition-index l.tree.definitions.items) l.bodies.items ≡ bodies_of l.tree
