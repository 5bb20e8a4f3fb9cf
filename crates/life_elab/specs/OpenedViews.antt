-- A branch that is being written, as definitions see it.
use Rattle.std.specs.Prelude.{map}
use Rattle.life_core.specs.Tree.{condition_tree, tree_of}
use Rattle.life_elab.specs.Statements.{Opened}
use Rattle.life_elab.specs.declared.branches.Opened.{Opened as Writing}

abbrev pub opened_of : Writing → Opened
opened_of o = record { test = condition_tree o.condition; first = tree_of o.first; before = map tree_of o.before.items }
