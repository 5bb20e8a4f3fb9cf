-- How reading goes, which nobody need believe: a reader for each rule. n is how many more constructs may be open, and `inside` has the readers where
-- one more is open.
use Rattle.std.specs.Prelude.{ℕ, zero, suc, Bool, true, false, ◌&&◌, ◌||◌, List, [], ◌∷◌, length, Err, if◌then◌else◌}
use Rattle.life_expr.specs.Heads.{Kind, quoted_kind, name_kind, is_of}
use Rattle.life_expr.specs.Read.{Reader, refused, deep, made, reads}
use Rattle.life_tree.specs.Grammar.{Form, form_of, ◌or◌}
use Rattle.life_tree.specs.Rules as rules
use Rattle.life_tree.specs.Rules.{Rule}
use Rattle.life_tree.specs.Tree.{node, Tokens}
use Rattle.life_tree.specs.declared.fixed.TheConstants as fixed

abbrev pub Readers : Type 0
Readers = Rule → Reader

-- of a rule that isn't asked for
abbrev pub no_reader : Reader
no_reader ts = Err (refused ts)

-- what a rule derives
abbrev pub derived : ℕ → Readers → Readers → Rule → Reader
derived n inside same r = made (node r) (reads n inside same (form_of r))

-- ---- where one token doesn't decide

-- the tokens begin with these kinds
abbrev pub begins : List Kind → Tokens → Bool
begins [] ts = true
begins (x ∷ xs) [] = false
begins (x ∷ xs) (k ∷ ks) = is_of x k && begins xs ks

-- .. with one of these lists of kinds
abbrev pub begins_as : List (List Kind) → Tokens → Bool
begins_as [] ts = false
begins_as (f ∷ fs) ts = begins f ts || begins_as fs ts

-- the first of two forms where the tokens begin so, and else the second
abbrev pub choose : List (List Kind) → ℕ → Readers → Readers → Form → Reader
choose fronts n inside same (f or g) ts = if begins_as fronts ts then reads n inside same f ts else reads n inside same g ts
choose fronts n inside same f ts = reads n inside same f ts

abbrev pub chosen : List (List Kind) → ℕ → Readers → Readers → Rule → Reader
chosen fronts n inside same r = made (node r) (choose fronts n inside same (form_of r))

-- behind `std` and `::`
abbrev pub std_front : List Kind → List Kind
std_front kinds = quoted_kind fixed.STD ∷ quoted_kind fixed.SCOPE ∷ kinds

-- how declarations begin, and nothing else does that may stand in their place
abbrev pub declaration_fronts : List (List Kind)
declaration_fronts =
    (quoted_kind fixed.CONST ∷ []) ∷ (quoted_kind fixed.BOOL ∷ []) ∷ (quoted_kind fixed.CHAR ∷ []) ∷ (quoted_kind fixed.INT ∷ [])
    ∷ (quoted_kind fixed.LONG ∷ []) ∷ (quoted_kind fixed.AUTO ∷ []) ∷ (quoted_kind fixed.GSL ∷ [])
    ∷ (name_kind ∷ quoted_kind fixed.STAR ∷ []) ∷ (name_kind ∷ quoted_kind fixed.AMPERSAND ∷ []) ∷ (name_kind ∷ name_kind ∷ [])
    ∷ std_front (quoted_kind fixed.SIZE_T ∷ []) ∷ std_front (quoted_kind fixed.STRING_VIEW ∷ []) ∷ std_front (quoted_kind fixed.VECTOR ∷ [])
    ∷ std_front (quoted_kind fixed.UNIQUE_PTR ∷ []) ∷ std_front (quoted_kind fixed.STRING ∷ quoted_kind fixed.STAR ∷ [])
    ∷ std_front (quoted_kind fixed.STRING ∷ quoted_kind fixed.AMPERSAND ∷ []) ∷ std_front (quoted_kind fixed.STRING ∷ name_kind ∷ []) ∷ []

abbrev pub print_fronts : List (List Kind)
print_fronts = std_front (quoted_kind fixed.COUT ∷ []) ∷ []

abbrev pub end_of_line_fronts : List (List Kind)
end_of_line_fronts = std_front (quoted_kind fixed.ENDL ∷ []) ∷ []

-- ---- types

unfoldable pub argument_with : ℕ → Readers → Reader
argument_with n inside = derived n inside inside rules.argument

unfoldable pub base_with : ℕ → Readers → Reader
base_with n inside = derived n inside (λ r. argument_with n inside) rules.base

unfoldable pub unqualified_with : ℕ → Readers → Reader
unqualified_with n inside = derived n inside (λ r. base_with n inside) rules.unqualified

unfoldable pub type_with : ℕ → Readers → Reader
type_with n inside = derived n inside (λ r. unqualified_with n inside) rules.type_name

-- ---- expressions

unfoldable pub args_with : ℕ → Readers → Reader
args_with n inside = derived n inside inside rules.args

unfoldable pub list_with : ℕ → Readers → Reader
list_with n inside = derived n inside inside rules.list

abbrev pub primary_parts : ℕ → Readers → Readers
primary_parts n inside rules.args = args_with n inside
primary_parts n inside rules.list = list_with n inside
primary_parts n inside rules.argument = argument_with n inside
primary_parts n inside _ = no_reader

unfoldable pub primary_with : ℕ → Readers → Reader
primary_with n inside = derived n inside (primary_parts n inside) rules.primary

unfoldable pub part_with : ℕ → Readers → Reader
part_with n inside = derived n inside (λ r. args_with n inside) rules.part

abbrev pub postfix_parts : ℕ → Readers → Readers
postfix_parts n inside rules.primary = primary_with n inside
postfix_parts n inside rules.part = part_with n inside
postfix_parts n inside _ = no_reader

unfoldable pub postfix_with : ℕ → Readers → Reader
postfix_with n inside = derived n inside (postfix_parts n inside) rules.postfix

unfoldable pub unary_with : ℕ → Readers → Reader
unary_with n inside = derived n inside (λ r. postfix_with n inside) rules.unary

unfoldable pub term_with : ℕ → Readers → Reader
term_with n inside = derived n inside (λ r. unary_with n inside) rules.term

unfoldable pub sum_with : ℕ → Readers → Reader
sum_with n inside = derived n inside (λ r. term_with n inside) rules.sum

unfoldable pub order_with : ℕ → Readers → Reader
order_with n inside = derived n inside (λ r. sum_with n inside) rules.order

unfoldable pub equal_with : ℕ → Readers → Reader
equal_with n inside = derived n inside (λ r. order_with n inside) rules.equal

unfoldable pub both_with : ℕ → Readers → Reader
both_with n inside = derived n inside (λ r. equal_with n inside) rules.both

unfoldable pub expr_with : ℕ → Readers → Reader
expr_with n inside = derived n inside (λ r. both_with n inside) rules.expr

-- ---- declarations and simple statements

unfoldable pub condition_with : ℕ → Readers → Reader
condition_with n inside = derived n inside inside rules.condition

abbrev pub initial_parts : ℕ → Readers → Readers
initial_parts n inside rules.expr = expr_with n inside
initial_parts n inside rules.list = list_with n inside
initial_parts n inside _ = no_reader

unfoldable pub initial_with : ℕ → Readers → Reader
initial_with n inside = derived n inside (initial_parts n inside) rules.initial

abbrev pub initializer_parts : ℕ → Readers → Readers
initializer_parts n inside rules.initial = initial_with n inside
initializer_parts n inside rules.list = list_with n inside
initializer_parts n inside _ = no_reader

unfoldable pub initializer_with : ℕ → Readers → Reader
initializer_with n inside = derived n inside (initializer_parts n inside) rules.initializer

unfoldable pub declared_type_with : ℕ → Readers → Reader
declared_type_with n inside = derived n inside (λ r. unqualified_with n inside) rules.declared_type

abbrev pub declaration_parts : ℕ → Readers → Readers
declaration_parts n inside rules.declared_type = declared_type_with n inside
declaration_parts n inside rules.initializer = initializer_with n inside
declaration_parts n inside _ = no_reader

unfoldable pub declaration_with : ℕ → Readers → Reader
declaration_with n inside = derived n inside (declaration_parts n inside) rules.declaration

unfoldable pub target_with : ℕ → Readers → Reader
target_with n inside = derived n inside (λ r. postfix_with n inside) rules.target

abbrev pub simple_parts : ℕ → Readers → Readers
simple_parts n inside rules.target = target_with n inside
simple_parts n inside rules.initial = initial_with n inside
simple_parts n inside rules.expr = expr_with n inside
simple_parts n inside _ = no_reader

unfoldable pub simple_with : ℕ → Readers → Reader
simple_with n inside = derived n inside (simple_parts n inside) rules.simple

-- ---- statements

abbrev pub for_rest_parts : ℕ → Readers → Readers
for_rest_parts n inside rules.expr = expr_with n inside
for_rest_parts n inside rules.simple = simple_with n inside
for_rest_parts n inside _ = no_reader

unfoldable pub for_rest_with : ℕ → Readers → Reader
for_rest_with n inside = derived n inside (for_rest_parts n inside) rules.for_rest

abbrev pub for_parts : ℕ → Readers → Readers
for_parts n inside rules.declared_type = declared_type_with n inside
for_parts n inside rules.initializer = initializer_with n inside
for_parts n inside rules.expr = expr_with n inside
for_parts n inside rules.simple = simple_with n inside
for_parts n inside rules.for_rest = for_rest_with n inside
for_parts n inside _ = no_reader

unfoldable pub for_clauses_with : ℕ → Readers → Reader
for_clauses_with n inside = chosen declaration_fronts n inside (for_parts n inside) rules.for_clauses

unfoldable pub for_head_with : ℕ → Readers → Reader
for_head_with n inside = derived n inside inside rules.for_head

unfoldable pub item_with : ℕ → Readers → Reader
item_with n inside = chosen end_of_line_fronts n inside (λ r. sum_with n inside) rules.item

unfoldable pub print_part_with : ℕ → Readers → Reader
print_part_with n inside = derived n inside (λ r. item_with n inside) rules.print_part

abbrev pub sentence_parts : ℕ → Readers → Readers
sentence_parts n inside rules.print_part = print_part_with n inside
sentence_parts n inside rules.simple = simple_with n inside
sentence_parts n inside _ = no_reader

unfoldable pub sentence_with : ℕ → Readers → Reader
sentence_with n inside = chosen print_fronts n inside (sentence_parts n inside) rules.sentence

unfoldable pub block_with : ℕ → Readers → Reader
block_with n inside = derived n inside inside rules.block

abbrev pub plain_parts : ℕ → Readers → Readers
plain_parts n inside rules.block = block_with n inside
plain_parts n inside rules.expr = expr_with n inside
plain_parts n inside rules.condition = condition_with n inside
plain_parts n inside rules.sentence = sentence_with n inside
plain_parts n inside _ = no_reader

unfoldable pub plain_with : ℕ → Readers → Reader
plain_with n inside = derived n inside (plain_parts n inside) rules.plain

unfoldable pub branches_with : ℕ → Readers → Reader
branches_with n inside = derived n inside inside rules.branches

abbrev pub statement_parts : ℕ → Readers → Readers
statement_parts n inside rules.branches = branches_with n inside
statement_parts n inside rules.plain = plain_with n inside
statement_parts n inside _ = no_reader

unfoldable pub statement_with : ℕ → Readers → Reader
statement_with n inside = derived n inside (statement_parts n inside) rules.statement

-- what stands behind an `else`, where `more` reads what stands behind another
abbrev pub else_parts : Reader → ℕ → Readers → Readers
else_parts more n inside rules.condition = condition_with n inside
else_parts more n inside rules.statement = statement_with n inside
else_parts more n inside rules.plain = plain_with n inside
else_parts more n inside rules.else_part = more
else_parts more n inside _ = no_reader

-- fewer than k of them, one after the other
abbrev pub else_part_below : ℕ → ℕ → Readers → Reader
else_part_below zero n inside = no_reader
else_part_below (suc k) n inside = derived n inside (else_parts (else_part_below k n inside) n inside) rules.else_part

unfoldable pub else_part_with : ℕ → Readers → Reader
else_part_with n inside ts = else_part_below (suc (length ts)) n inside ts

abbrev pub block_item_parts : ℕ → Readers → Readers
block_item_parts n inside rules.declaration = declaration_with n inside
block_item_parts n inside rules.statement = statement_with n inside
block_item_parts n inside _ = no_reader

unfoldable pub block_item_with : ℕ → Readers → Reader
block_item_with n inside = chosen declaration_fronts n inside (block_item_parts n inside) rules.block_item

-- ---- definitions

unfoldable pub word_with : ℕ → Readers → Reader
word_with n inside = derived n inside (λ r. no_reader) rules.word

unfoldable pub attribute_with : ℕ → Readers → Reader
attribute_with n inside = derived n inside (λ r. no_reader) rules.attribute

abbrev pub parameter_parts : ℕ → Readers → Readers
parameter_parts n inside rules.attribute = attribute_with n inside
parameter_parts n inside rules.type_name = type_with n inside
parameter_parts n inside _ = no_reader

unfoldable pub parameter_with : ℕ → Readers → Reader
parameter_with n inside = derived n inside (parameter_parts n inside) rules.parameter

abbrev pub function_parts : ℕ → Readers → Readers
function_parts n inside rules.attribute = attribute_with n inside
function_parts n inside rules.type_name = type_with n inside
function_parts n inside rules.block = block_with n inside
function_parts n inside _ = no_reader

unfoldable pub function_with : ℕ → Readers → Reader
function_with n inside = derived n inside (function_parts n inside) rules.function

unfoldable pub member_with : ℕ → Readers → Reader
member_with n inside = derived n inside (λ r. type_with n inside) rules.member

unfoldable pub structure_with : ℕ → Readers → Reader
structure_with n inside = derived n inside (λ r. no_reader) rules.structure

abbrev pub definition_parts : ℕ → Readers → Readers
definition_parts n inside rules.structure = structure_with n inside
definition_parts n inside rules.function = function_with n inside
definition_parts n inside _ = no_reader

unfoldable pub definition_with : ℕ → Readers → Reader
definition_with n inside = derived n inside (definition_parts n inside) rules.definition

unfoldable pub program_with : ℕ → Readers → Reader
program_with n inside = derived n inside (λ r. definition_with n inside) rules.program

-- ---- all of them

unfoldable pub rule_with : ℕ → Readers → Readers
rule_with n inside rules.program = program_with n inside
rule_with n inside rules.definition = definition_with n inside
rule_with n inside rules.structure = structure_with n inside
rule_with n inside rules.member = member_with n inside
rule_with n inside rules.function = function_with n inside
rule_with n inside rules.parameter = parameter_with n inside
rule_with n inside rules.attribute = attribute_with n inside
rule_with n inside rules.word = word_with n inside
rule_with n inside rules.type_name = type_with n inside
rule_with n inside rules.unqualified = unqualified_with n inside
rule_with n inside rules.base = base_with n inside
rule_with n inside rules.argument = argument_with n inside
rule_with n inside rules.block = block_with n inside
rule_with n inside rules.block_item = block_item_with n inside
rule_with n inside rules.statement = statement_with n inside
rule_with n inside rules.plain = plain_with n inside
rule_with n inside rules.branches = branches_with n inside
rule_with n inside rules.else_part = else_part_with n inside
rule_with n inside rules.condition = condition_with n inside
rule_with n inside rules.for_head = for_head_with n inside
rule_with n inside rules.for_clauses = for_clauses_with n inside
rule_with n inside rules.for_rest = for_rest_with n inside
rule_with n inside rules.sentence = sentence_with n inside
rule_with n inside rules.print_part = print_part_with n inside
rule_with n inside rules.item = item_with n inside
rule_with n inside rules.declaration = declaration_with n inside
rule_with n inside rules.declared_type = declared_type_with n inside
rule_with n inside rules.initializer = initializer_with n inside
rule_with n inside rules.initial = initial_with n inside
rule_with n inside rules.list = list_with n inside
rule_with n inside rules.simple = simple_with n inside
rule_with n inside rules.target = target_with n inside
rule_with n inside rules.expr = expr_with n inside
rule_with n inside rules.both = both_with n inside
rule_with n inside rules.equal = equal_with n inside
rule_with n inside rules.order = order_with n inside
rule_with n inside rules.sum = sum_with n inside
rule_with n inside rules.term = term_with n inside
rule_with n inside rules.unary = unary_with n inside
rule_with n inside rules.postfix = postfix_with n inside
rule_with n inside rules.part = part_with n inside
rule_with n inside rules.primary = primary_with n inside
rule_with n inside rules.args = args_with n inside

-- the readers inside a construct, where n more could be open outside
unfoldable pub below : ℕ → Readers
below zero r ts = Err (deep ts)
below (suc n) r ts = rule_with n (below n) r ts

-- .. where n more may be open
abbrev pub read_rule : ℕ → Rule → Reader
read_rule n r = rule_with n (below n) r
