-- How reading goes, which nobody need believe: readers of parts of expressions, each as a function of the program reads one.
use Rattle.std.specs.Prelude.{ℕ, Bool, false, ◌==◌, ◌||◌, Ok}
use Rattle.life_expr.specs.Heads.{heads}
use Rattle.life_expr.specs.Read.{Reader, Read, ◌>>=◌, as_many, made, reads, starts}
use Rattle.life_expr.specs.Readers.{Readers, no_reader, args_with, both_with, equal_with, order_with, sum_with, term_with, unary_with, postfix_parts, primary_parts}
use Rattle.life_expr.specs.Types.{flat}
use Rattle.life_tree.specs.Grammar.{Form, quoted, name, ◌then◌, ◌or◌, opens, rule, optional, parenthesized, separated, namespaced}
use Rattle.life_tree.specs.Rules as rules
use Rattle.life_tree.specs.Rules.{Rule}
use Rattle.life_tree.specs.Tree.{node, nothing, ◌⨾◌, Tree, Tokens}
use Rattle.life_tree.specs.Views.{at}
use Rattle.life_tree.specs.declared.fixed.TheConstants as fixed
use Rattle.life_types.specs.declared.place.Place.{Place}

-- ---- the operators of each level

abbrev pub or_form : Form
or_form = quoted fixed.OR_OR

abbrev pub and_form : Form
and_form = quoted fixed.AND_AND

abbrev pub equality_form : Form
equality_form = quoted fixed.EQUAL or quoted fixed.NOT_EQUAL

abbrev pub relational_form : Form
relational_form = quoted fixed.LESS or quoted fixed.LESS_EQUAL or quoted fixed.GREATER or quoted fixed.GREATER_EQUAL

abbrev pub additive_form : Form
additive_form = quoted fixed.PLUS or quoted fixed.MINUS

abbrev pub multiplicative_form : Form
multiplicative_form = quoted fixed.STAR or quoted fixed.SLASH or quoted fixed.PERCENT

-- ---- operands with the operator before each

abbrev pub or_part_with : ℕ → Readers → Reader
or_part_with n inside us = reads n inside (λ r. both_with n inside) (or_form then rule rules.both) us

abbrev pub or_parts_with : ℕ → Readers → Reader
or_parts_with n inside ts = as_many (heads or_form) (λ us. or_part_with n inside us) ts

abbrev pub and_part_with : ℕ → Readers → Reader
and_part_with n inside us = reads n inside (λ r. equal_with n inside) (and_form then rule rules.equal) us

abbrev pub and_parts_with : ℕ → Readers → Reader
and_parts_with n inside ts = as_many (heads and_form) (λ us. and_part_with n inside us) ts

abbrev pub equality_part_with : ℕ → Readers → Reader
equality_part_with n inside us = reads n inside (λ r. order_with n inside) (equality_form then rule rules.order) us

abbrev pub equality_parts_with : ℕ → Readers → Reader
equality_parts_with n inside ts = as_many (heads equality_form) (λ us. equality_part_with n inside us) ts

abbrev pub relational_part_with : ℕ → Readers → Reader
relational_part_with n inside us = reads n inside (λ r. sum_with n inside) (relational_form then rule rules.sum) us

abbrev pub relational_parts_with : ℕ → Readers → Reader
relational_parts_with n inside ts = as_many (heads relational_form) (λ us. relational_part_with n inside us) ts

abbrev pub additive_part_with : ℕ → Readers → Reader
additive_part_with n inside us = reads n inside (λ r. term_with n inside) (additive_form then rule rules.term) us

abbrev pub additive_parts_with : ℕ → Readers → Reader
additive_parts_with n inside ts = as_many (heads additive_form) (λ us. additive_part_with n inside us) ts

abbrev pub multiplicative_part_with : ℕ → Readers → Reader
multiplicative_part_with n inside us = reads n inside (λ r. unary_with n inside) (multiplicative_form then rule rules.unary) us

abbrev pub multiplicative_parts_with : ℕ → Readers → Reader
multiplicative_parts_with n inside ts = as_many (heads multiplicative_form) (λ us. multiplicative_part_with n inside us) ts

-- an operator of some level stands in front
abbrev pub starts_operator : Tokens → Bool
starts_operator ts =
    starts (heads multiplicative_form) ts || (starts (heads additive_form) ts || (starts (heads relational_form) ts
    || (starts (heads equality_form) ts || (starts (heads and_form) ts || starts (heads or_form) ts))))

-- ---- an expression behind its first operand

-- what was read, and the parts behind it
abbrev pub with_parts : Reader → Read → Read
with_parts parts read = read >>= λ x. parts x.1 >>= λ y. Ok (x.0 ⨾ y.0, y.1)

-- .. as what a rule derives
abbrev pub level : Rule → Reader → Read → Read
level r parts read = with_parts parts read >>= λ x. Ok (node r x.0, x.1)

-- an expression, level by level, of what reading its first operand gave
abbrev pub chained_with : ℕ → Readers → Read → Read
chained_with n inside read =
    level rules.expr (or_parts_with n inside) (level rules.both (and_parts_with n inside) (level rules.equal (equality_parts_with n inside)
    (level rules.order (relational_parts_with n inside) (level rules.sum (additive_parts_with n inside) (level rules.term (multiplicative_parts_with n inside) read)))))

-- .. of one operand
abbrev pub alone : Tree → Tree
alone t =
    node rules.expr (node rules.both (node rules.equal (node rules.order (node rules.sum (node rules.term (t ⨾ nothing) ⨾ nothing) ⨾ nothing) ⨾ nothing) ⨾ nothing) ⨾ nothing)

-- ---- operands

-- a prefix operator, by its number, and its operand
abbrev pub prefix_with : ℕ → Readers → ℕ → Reader
prefix_with n inside m = made (node rules.unary) (reads n inside inside (opens m (rule rules.unary)))

-- the parts behind an operand
abbrev pub parts_with : ℕ → Readers → Reader
parts_with n inside ts = as_many (heads (rule rules.part)) (λ us. reads n inside (postfix_parts n inside) (rule rules.part) us) ts

-- arguments, or none
abbrev pub optional_args_with : ℕ → Readers → Reader
optional_args_with n inside = reads n inside (λ r. args_with n inside) (optional (rule rules.args))

-- one of the ways to write what has no operators and no parts
abbrev pub primary_as : ℕ → Readers → Form → Reader
primary_as n inside form = made (node rules.primary) (reads n inside (primary_parts n inside) form)

-- .. without rules and constructs
abbrev pub literal_as : Form → Reader
literal_as form = made (node rules.primary) (flat form)

-- .. or a part of it
abbrev pub part_of_primary : ℕ → Readers → Form → Reader
part_of_primary n inside form = reads n inside (primary_parts n inside) form

-- behind a namespace and `::`
abbrev pub primary_behind : ℕ → Place → Place → Read → Read
primary_behind namespace first scope read = read >>= λ x. Ok (node rules.primary (at namespace first ⨾ at fixed.SCOPE scope ⨾ x.0), x.1)

abbrev pub named_form : Form
named_form = name then optional (rule rules.args or rule rules.list)

abbrev pub parenthesized_form : Form
parenthesized_form = parenthesized (rule rules.expr)

abbrev pub std_form : Form
std_form =
    (quoted fixed.MOVE then parenthesized name) or (quoted fixed.STRING then parenthesized (rule rules.expr))
    or (quoted fixed.MAKE_UNIQUE then rule rules.argument then rule rules.args)

abbrev pub input_form : Form
input_form = namespaced fixed.LIFE (quoted fixed.INPUT then opens fixed.LEFT_PAREN (quoted fixed.RIGHT_PAREN))

abbrev pub input_at : ℕ → Reader
input_at n = made (node rules.primary) (reads n (λ r. no_reader) (λ r. no_reader) input_form)

-- a token that a rule quotes, by its number, that can stand first there
abbrev pub opens_primary : ℕ → Bool
opens_primary m =
    (m == fixed.TRUE) || ((m == fixed.FALSE) || ((m == fixed.NULLPTR) || ((m == fixed.LEFT_PAREN) || ((m == fixed.STD) || ((m == fixed.LIFE) || false)))))

-- ---- lists of expressions

-- expressions with commas between, or none
abbrev pub expressions_with : Readers → Reader
expressions_with inside = reads 0 inside inside (optional (separated (rule rules.expr)))

abbrev pub comma_form : Form
comma_form = quoted fixed.COMMA

-- a comma and an expression
abbrev pub later_expression_with : Readers → Reader
later_expression_with inside us = reads 0 inside inside (comma_form then rule rules.expr) us

abbrev pub later_expressions_with : Readers → Reader
later_expressions_with inside ts = as_many (heads comma_form) (λ us. later_expression_with inside us) ts
