use Rattle.std.proofs.Common.{◌≡◌, ◌++◌, drop, map}
use Rattle.life_names.specs.Environment.{text_items, unseen_names}
use Rattle.life_names.proofs.environment.all_unseen.Given as goal

abbrev pub invariant-names : goal.invariant-names
invariant-names l = l.visible.items ++ unseen_names (map text_items (drop l._name-index l.names)) ≡ unseen_names (map text_items l.names)
