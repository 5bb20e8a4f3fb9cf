-- How reading goes, which nobody need believe: readers of parts of statements, each as a function of the program reads one, and what those functions
-- return as trees.
use Rattle.std.specs.Prelude.{ℕ, List, [], ◌∷◌, ◌++◌}
use Rattle.life_expr.specs.Heads.{Kind, quoted_kind, simple_heads, plain_heads, type_heads}
use Rattle.life_stmt.specs.Fronts.{mapped}
use Rattle.life_expr.specs.Read.{Reader, ◌>>=◌, reads, made, pair, mark, opener}
use Rattle.life_expr.specs.Readers.{Readers, for_parts, for_rest_parts, sentence_parts, plain_parts}
use Rattle.life_stmt.specs.declared.heads.Clauses.{Clauses}
use Rattle.life_stmt.specs.declared.heads.Clauses.TheVariants as clauses
use Rattle.life_stmt.specs.declared.heads.Guard.{Guard}
use Rattle.life_stmt.specs.declared.heads.ForHead.{ForHead}
use Rattle.life_stmt.specs.declared.heads.ForRest.{ForRest}
use Rattle.life_tree.specs.Grammar.{Form, name, quoted, ◌then◌, ◌or◌, rule, opens, optional, some, many}
use Rattle.life_tree.specs.Rules as rules
use Rattle.life_tree.specs.Tree.{Tree, node, ◌⨾◌, construct}
use Rattle.life_tree.specs.Views.{at, condition_tree, declared_type_tree, expr_tree, for_clauses_form, for_head_tree, for_rest_tree, name_tree}
use Rattle.life_tree.specs.declared.fixed.TheConstants as fixed

-- ---- conditions and heads of loops

abbrev pub condition_view : Guard → Tree
condition_view c = condition_tree c.opening c.value.value c.closing

abbrev pub for_rest_view : ForRest → Tree
for_rest_view r = for_rest_tree r.first_semicolon r.condition r.second_semicolon r.step

abbrev pub clauses_form : Clauses → Tree
clauses_form (clauses.Range ty variable colon range) = declared_type_tree ty ⨾ name_tree variable ⨾ at fixed.COLON colon ⨾ expr_tree range.value
clauses_form (clauses.Turns start rest) = for_clauses_form start (for_rest_view rest)

abbrev pub clauses_tree : Clauses → Tree
clauses_tree c = node rules.for_clauses (clauses_form c)

abbrev pub for_head_view : ForHead → Tree
for_head_view h = for_head_tree h.opening (clauses_form h.clauses) h.closing

unfoldable pub optional_expr_with : ℕ → Readers → Reader
optional_expr_with n inside = reads n inside (for_rest_parts n inside) (optional (rule rules.expr))

unfoldable pub optional_simple_with : ℕ → Readers → Reader
optional_simple_with n inside = reads n inside (for_rest_parts n inside) (optional (rule rules.simple))

-- what follows the start of a `for`, part by part
abbrev pub for_rest_by_parts : ℕ → Readers → Reader
for_rest_by_parts n inside =
    made (node rules.for_rest) (pair (mark fixed.SEMICOLON) (λ first. pair (optional_expr_with n inside) (λ condition.
    pair (mark fixed.SEMICOLON) (λ second. optional_simple_with n inside))))

abbrev pub declared_clauses_with : ℕ → Readers → Reader
declared_clauses_with n inside =
    made (node rules.for_clauses) (reads n inside (for_parts n inside)
    (rule rules.declared_type then name then ((quoted fixed.COLON then rule rules.expr) or (rule rules.initializer then rule rules.for_rest))))

abbrev pub simple_clauses_with : ℕ → Readers → Reader
simple_clauses_with n inside = made (node rules.for_clauses) (reads n inside (for_parts n inside) (optional (rule rules.simple) then rule rules.for_rest))

-- ---- sentences

unfoldable pub print_list_with : ℕ → Readers → Reader
print_list_with n inside = reads n inside (sentence_parts n inside) (some (rule rules.print_part))

-- items that are printed, part by part
abbrev pub print_by_parts : ℕ → Readers → Reader
print_by_parts n inside =
    pair (mark fixed.STD) (λ namespace. pair (mark fixed.SCOPE) (λ scope. pair (mark fixed.COUT) (λ word. pair (print_list_with n inside) (λ parts. mark fixed.SEMICOLON))))

-- ---- statements without statements in them

abbrev pub return_form : Form
return_form = quoted fixed.RETURN then optional (rule rules.expr) then quoted fixed.SEMICOLON

abbrev pub flat_form : Form
flat_form =
    (quoted fixed.BREAK then quoted fixed.SEMICOLON) or (quoted fixed.CONTINUE then quoted fixed.SEMICOLON) or return_form
    or (quoted fixed.ASSERT then rule rules.condition then quoted fixed.SEMICOLON) or rule rules.sentence

abbrev pub return_with : ℕ → Readers → Reader
return_with n inside = reads n inside (plain_parts n inside) return_form

abbrev pub assert_with : ℕ → Readers → Reader
assert_with n inside = reads n inside (plain_parts n inside) (quoted fixed.ASSERT then rule rules.condition then quoted fixed.SEMICOLON)

abbrev pub flat_with : ℕ → Readers → Reader
flat_with n inside = reads n inside (plain_parts n inside) flat_form

abbrev pub flat_heads : List Kind
flat_heads =
    quoted_kind fixed.BREAK ∷ quoted_kind fixed.CONTINUE ∷ quoted_kind fixed.RETURN ∷ quoted_kind fixed.ASSERT ∷ quoted_kind fixed.STD ∷ simple_heads

abbrev pub type_or_auto_heads : List Kind
type_or_auto_heads = type_heads ++ quoted_kind fixed.AUTO ∷ []

abbrev pub item_tail_heads : List Kind
item_tail_heads = quoted_kind fixed.IF ∷ plain_heads

abbrev pub while_with : ℕ → Readers → Reader
while_with n inside = reads n inside (plain_parts n inside) (opens fixed.WHILE (rule rules.condition then rule rules.statement))

abbrev pub for_with : ℕ → Readers → Reader
for_with n inside = reads n inside (plain_parts n inside) (opens fixed.FOR (rule rules.for_head then rule rules.statement))

-- ---- blocks

-- what a token opens, where n more constructs may be open
abbrev pub opened : ℕ → ℕ → Reader → Reader
opened n m p ts = opener n m ts >>= λ x. mapped (λ t. construct m x.0 t) (p x.1)

unfoldable pub items_with : Readers → Reader
items_with inside = reads 0 inside inside (many (rule rules.block_item))

-- a block, part by part
abbrev pub block_by_parts : ℕ → Readers → Reader
block_by_parts n inside = made (node rules.block) (opened n fixed.LEFT_BRACE (pair (items_with inside) (λ items. mark fixed.RIGHT_BRACE)))
