-- How reading goes, which nobody need believe: readers of parts of types, each as a function of the program reads one.
use Rattle.std.specs.Prelude.{ℕ, Ok}
use Rattle.life_expr.specs.Read.{Reader, Read, reads, ◌>>=◌}
use Rattle.life_expr.specs.Readers.{Readers, no_reader, argument_with}
use Rattle.life_tree.specs.Grammar.{Form, quoted, ◌then◌, ◌or◌, rule, optional}
use Rattle.life_tree.specs.Rules as rules
use Rattle.life_tree.specs.Tree.{node, ◌⨾◌}
use Rattle.life_tree.specs.Views.{at}
use Rattle.life_tree.specs.declared.fixed.TheConstants as fixed
use Rattle.life_types.specs.declared.place.Place.{Place}

-- a form without rules and constructs
abbrev pub flat : Form → Reader
flat = reads 0 (λ r. no_reader) (λ r. no_reader)

-- behind `std` and `::`
abbrev pub std_base : Form
std_base =
    quoted fixed.SIZE_T or quoted fixed.STRING or quoted fixed.STRING_VIEW
    or (quoted fixed.VECTOR then rule rules.argument then optional (quoted fixed.SCOPE then (quoted fixed.ITERATOR or quoted fixed.CONST_ITERATOR)))
    or (quoted fixed.UNIQUE_PTR then rule rules.argument)

abbrev pub std_base_with : ℕ → Readers → Reader
std_base_with n inside = reads n inside (λ r. argument_with n inside) std_base

abbrev pub std_base_behind : Place → Place → Read → Read
std_base_behind namespace scope read = read >>= λ x. Ok (node rules.base (at fixed.STD namespace ⨾ at fixed.SCOPE scope ⨾ x.0), x.1)

abbrev pub suffix_at : Reader
suffix_at = flat (optional (quoted fixed.STAR or quoted fixed.AMPERSAND))

abbrev pub iterator_at : Reader
iterator_at = flat (optional (quoted fixed.SCOPE then (quoted fixed.ITERATOR or quoted fixed.CONST_ITERATOR)))
