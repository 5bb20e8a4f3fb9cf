-- How reading goes, which nobody need believe: which tokens go on with a tree of a form, so that none of them may follow it. Of an `else` nothing is
-- said here.
use Rattle.std.specs.Prelude.{List, [], ◌∷◌, ◌++◌, if◌then◌else◌}
use Rattle.life_expr.specs.Heads.{Kind, quoted_kind, heads, may_be_empty, simple_heads, type_heads}
use Rattle.life_tree.specs.Grammar.{Form, no_else, ◌then◌, ◌decides◌, ◌or◌, many, opens, rule}
use Rattle.life_tree.specs.Rules as rules
use Rattle.life_tree.specs.Rules.{Rule}
use Rattle.life_tree.specs.declared.fixed.TheConstants as fixed

abbrev pub postfix_tails : List Kind
postfix_tails =
    quoted_kind fixed.DOT ∷ quoted_kind fixed.ARROW ∷ quoted_kind fixed.LEFT_BRACKET ∷ quoted_kind fixed.LEFT_PAREN ∷ quoted_kind fixed.LEFT_BRACE ∷ []

abbrev pub term_tails : List Kind
term_tails = quoted_kind fixed.STAR ∷ quoted_kind fixed.SLASH ∷ quoted_kind fixed.PERCENT ∷ postfix_tails

abbrev pub sum_tails : List Kind
sum_tails = quoted_kind fixed.PLUS ∷ quoted_kind fixed.MINUS ∷ term_tails

abbrev pub order_tails : List Kind
order_tails =
    quoted_kind fixed.LESS ∷ quoted_kind fixed.LESS_EQUAL ∷ quoted_kind fixed.GREATER ∷ quoted_kind fixed.GREATER_EQUAL ∷ sum_tails

abbrev pub equal_tails : List Kind
equal_tails = quoted_kind fixed.EQUAL ∷ quoted_kind fixed.NOT_EQUAL ∷ order_tails

abbrev pub expr_tails : List Kind
expr_tails = quoted_kind fixed.OR_OR ∷ quoted_kind fixed.AND_AND ∷ equal_tails

abbrev pub type_tails : List Kind
type_tails = quoted_kind fixed.STAR ∷ quoted_kind fixed.AMPERSAND ∷ quoted_kind fixed.SCOPE ∷ []

abbrev pub simple_tails : List Kind
simple_tails =
    quoted_kind fixed.ASSIGN ∷ quoted_kind fixed.PLUS_ASSIGN ∷ quoted_kind fixed.MINUS_ASSIGN ∷ quoted_kind fixed.STAR_ASSIGN
    ∷ quoted_kind fixed.SLASH_ASSIGN ∷ quoted_kind fixed.PERCENT_ASSIGN ∷ quoted_kind fixed.PLUS_PLUS ∷ quoted_kind fixed.MINUS_MINUS ∷ expr_tails

abbrev pub tails_of : Rule → List Kind
tails_of rules.program =
    quoted_kind fixed.STRUCT ∷ quoted_kind fixed.LEFT_BRACKET ∷ quoted_kind fixed.VOID ∷ quoted_kind fixed.CONST ∷ type_heads
tails_of rules.type_name = type_tails
tails_of rules.unqualified = type_tails
tails_of rules.base = quoted_kind fixed.SCOPE ∷ []
tails_of rules.for_clauses = simple_heads ++ simple_tails
tails_of rules.for_rest = simple_heads ++ simple_tails
tails_of rules.print_part = sum_tails
tails_of rules.item = sum_tails
tails_of rules.declaration = quoted_kind fixed.ASSIGN ∷ expr_tails
tails_of rules.declared_type = quoted_kind fixed.AMPERSAND ∷ type_tails
tails_of rules.initializer = quoted_kind fixed.ASSIGN ∷ expr_tails
tails_of rules.initial = expr_tails
tails_of rules.simple = simple_tails
tails_of rules.target = postfix_tails
tails_of rules.expr = expr_tails
tails_of rules.both = quoted_kind fixed.AND_AND ∷ equal_tails
tails_of rules.equal = equal_tails
tails_of rules.order = order_tails
tails_of rules.sum = sum_tails
tails_of rules.term = term_tails
tails_of rules.unary = postfix_tails
tails_of rules.postfix = postfix_tails
tails_of rules.part = quoted_kind fixed.LEFT_PAREN ∷ []
tails_of rules.primary = quoted_kind fixed.LEFT_PAREN ∷ quoted_kind fixed.LEFT_BRACE ∷ []
tails_of _ = []

-- behind a choice whose second form may have no token stands none that the first begins with
abbrev pub skipped : Form → Form → List Kind
skipped f no_else = []
skipped f g = if may_be_empty g then heads f else []

abbrev pub tails : Form → List Kind
tails (f then g) = if may_be_empty g then tails f ++ tails g else tails g
tails (f decides g) = simple_tails
tails (f or g) = skipped f g ++ tails f ++ tails g
tails (many f) = heads f ++ tails f
tails (opens n f) = tails f
tails (rule r) = tails_of r
tails _ = []
