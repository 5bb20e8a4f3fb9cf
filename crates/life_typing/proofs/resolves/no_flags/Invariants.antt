use Rattle.std.proofs.Common.{◌≡◌, ◌++◌, drop, map}
use Rattle.life_names.specs.Environment.{text_items}
use Rattle.life_typing.specs.Resolves.{no_flags}
use Rattle.life_typing.proofs.resolves.no_flags.Given as goal

abbrev pub invariant-names : goal.invariant-names
invariant-names l =
    l.flags.items ++ no_flags (map text_items (drop l.index l.names)) ≡ no_flags (map text_items l.names)
