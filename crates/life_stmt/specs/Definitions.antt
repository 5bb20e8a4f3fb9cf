-- How reading goes, which nobody need believe: readers of parts of definitions, each as a function of the program reads one.
use Rattle.std.specs.Prelude.{ℕ}
use Rattle.life_expr.specs.Exprs.{comma_form}
use Rattle.life_expr.specs.Heads.{heads_of}
use Rattle.life_expr.specs.Read.{Reader, reads, made, pair, as_many, name_mark}
use Rattle.life_expr.specs.Readers.{Readers, no_reader, function_parts, attribute_with}
use Rattle.life_expr.specs.Types.{flat}
use Rattle.life_tree.specs.Grammar.{name, quoted, ◌then◌, ◌or◌, rule, optional, parenthesized, separated, some}
use Rattle.life_tree.specs.Rules as rules
use Rattle.life_tree.specs.Rules.{Rule}
use Rattle.life_tree.specs.Tree.{node}
use Rattle.life_tree.specs.declared.fixed.TheConstants as fixed

-- ---- lists inside a construct

abbrev pub later_with : Readers → Rule → Reader
later_with inside r = reads 0 inside inside (comma_form then rule r)

abbrev pub separated_with : Readers → Rule → Reader
separated_with inside r = reads 0 inside inside (separated (rule r))

abbrev pub separated_or_none_with : Readers → Rule → Reader
separated_or_none_with inside r = reads 0 inside inside (optional (separated (rule r)))

abbrev pub some_with : Readers → Rule → Reader
some_with inside r = reads 0 inside inside (some (rule r))

-- ---- attributes

abbrev pub scope_at : Reader
scope_at = flat (optional (quoted fixed.SCOPE then name))

abbrev pub words_with : ℕ → Readers → Reader
words_with n inside = reads n inside (λ r. no_reader) (optional (parenthesized (separated (rule rules.word))))

-- ---- functions

unfoldable pub result_with : ℕ → Readers → Reader
result_with n inside = reads n inside (function_parts n inside) (quoted fixed.VOID or rule rules.type_name)

unfoldable pub body_with : ℕ → Readers → Reader
body_with n inside = reads n inside (function_parts n inside) (rule rules.block or quoted fixed.SEMICOLON)

unfoldable pub parameters_with : ℕ → Readers → Reader
parameters_with n inside = reads n inside (λ r. no_reader) (parenthesized (optional (separated (rule rules.parameter))))

-- a function, part by part
abbrev pub function_by_parts : ℕ → Readers → Reader
function_by_parts n inside =
    made (node rules.function) (pair (as_many (heads_of rules.attribute) (attribute_with n inside)) (λ attributes. pair (result_with n inside) (λ returned.
    pair name_mark (λ name. pair (parameters_with n inside) (λ parameters. body_with n inside)))))
