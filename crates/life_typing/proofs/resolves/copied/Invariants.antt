use Rattle.std.proofs.Common.{◌≡◌, ◌++◌, drop, map}
use Rattle.life_names.specs.Environment.{text_items}
use Rattle.life_typing.proofs.resolves.copied.Given as goal

abbrev pub invariant-texts : goal.invariant-texts
invariant-texts l =
    map text_items l.copies.items ++ map text_items (drop l.text-index l.texts) ≡ map text_items l.texts
