-- For each rule a tree that may stand where none was read: a missing operand is 0, a missing statement is `;`.
use Rattle.std.proofs.Common.{◌≡◌, ℕ, false, inl, inr, refl}
use Rattle.life_parse.proofs.Begun.{Sample}
use Rattle.life_parse.proofs.ElseTokens.{has_else, no_else_first, no_else_nearest}
use Rattle.life_tree.specs.Grammar.{form_of, rule, Conforms}
use Rattle.life_tree.specs.Rules as rules
use Rattle.life_tree.specs.Rules.{Rule}
use Rattle.life_tree.specs.Tree.{Tree, nothing, without_else, token, ◌⨾◌, construct, node, nowhere}
use Rattle.life_tree.specs.declared.fixed.TheConstants as fixed
use Rattle.life_tree.specs.declared.key.TokenKey.TheVariants as keys

abbrev sample_from : (r : Rule) (t : Tree) → Conforms t (form_of r) → has_else t ≡ false → Sample (rule r)
sample_from r t h e = record { tree = node r t; fits = record { conforms = (refl, h); elses = no_else_nearest t e }; later = no_else_first t e }

abbrev mark : ℕ → Tree
mark n = token (keys.Fixed n) nowhere

abbrev some_name : Tree
some_name = token (keys.Name (record { 0 = 0 })) nowhere

-- ---- types

abbrev base : Sample (rule rules.base)
base = sample_from rules.base (mark fixed.INT) (inr (inr (inl refl))) refl

abbrev unqualified : Sample (rule rules.unqualified)
unqualified = sample_from rules.unqualified (base.tree ⨾ nothing) (base.fits.conforms, inr tt) refl

abbrev type_name : Sample (rule rules.type_name)
type_name = sample_from rules.type_name (nothing ⨾ unqualified.tree) (inr tt, unqualified.fits.conforms) refl

abbrev argument : Sample (rule rules.argument)
argument = sample_from rules.argument (construct fixed.LESS nowhere (type_name.tree ⨾ mark fixed.GREATER)) (refl, (type_name.fits.conforms, refl)) refl

-- ---- expressions

abbrev args : Sample (rule rules.args)
args = sample_from rules.args (construct fixed.LEFT_PAREN nowhere (nothing ⨾ mark fixed.RIGHT_PAREN)) (refl, (inr tt, refl)) refl

abbrev list : Sample (rule rules.list)
list = sample_from rules.list (construct fixed.LEFT_BRACE nowhere (nothing ⨾ mark fixed.RIGHT_BRACE)) (refl, (inr tt, refl)) refl

abbrev primary : Sample (rule rules.primary)
primary = sample_from rules.primary (token (keys.Number 0) nowhere) (inl tt) refl

abbrev part : Sample (rule rules.part)
part = sample_from rules.part (mark fixed.DOT ⨾ some_name ⨾ nothing) (inl (refl, (tt, inr tt))) refl

abbrev postfix : Sample (rule rules.postfix)
postfix = sample_from rules.postfix (primary.tree ⨾ nothing) (primary.fits.conforms, tt) refl

abbrev unary : Sample (rule rules.unary)
unary = sample_from rules.unary postfix.tree (inr (inr (inr (inr postfix.fits.conforms)))) refl

abbrev term : Sample (rule rules.term)
term = sample_from rules.term (unary.tree ⨾ nothing) (unary.fits.conforms, tt) refl

abbrev sum : Sample (rule rules.sum)
sum = sample_from rules.sum (term.tree ⨾ nothing) (term.fits.conforms, tt) refl

abbrev order : Sample (rule rules.order)
order = sample_from rules.order (sum.tree ⨾ nothing) (sum.fits.conforms, tt) refl

abbrev equal : Sample (rule rules.equal)
equal = sample_from rules.equal (order.tree ⨾ nothing) (order.fits.conforms, tt) refl

abbrev both : Sample (rule rules.both)
both = sample_from rules.both (equal.tree ⨾ nothing) (equal.fits.conforms, tt) refl

abbrev expr : Sample (rule rules.expr)
expr = sample_from rules.expr (both.tree ⨾ nothing) (both.fits.conforms, tt) refl

-- ---- declarations and simple statements

abbrev condition : Sample (rule rules.condition)
condition = sample_from rules.condition (construct fixed.LEFT_PAREN nowhere (expr.tree ⨾ mark fixed.RIGHT_PAREN)) (refl, (expr.fits.conforms, refl)) refl

abbrev initial : Sample (rule rules.initial)
initial = sample_from rules.initial expr.tree (inl expr.fits.conforms) refl

abbrev initializer : Sample (rule rules.initializer)
initializer = sample_from rules.initializer nothing (inr tt) refl

abbrev declared_type : Sample (rule rules.declared_type)
declared_type = sample_from rules.declared_type (nothing ⨾ unqualified.tree) (inr tt, inl unqualified.fits.conforms) refl

abbrev declaration : Sample (rule rules.declaration)
declaration = sample_from rules.declaration (declared_type.tree ⨾ some_name ⨾ initializer.tree) (declared_type.fits.conforms, (tt, initializer.fits.conforms)) refl

abbrev target : Sample (rule rules.target)
target = sample_from rules.target postfix.tree (inr postfix.fits.conforms) refl

abbrev simple : Sample (rule rules.simple)
simple = sample_from rules.simple (target.tree ⨾ mark fixed.PLUS_PLUS) (inr (inr (target.fits.conforms, inr (inl refl)))) refl

-- ---- statements

abbrev for_rest : Sample (rule rules.for_rest)
for_rest = sample_from rules.for_rest (mark fixed.SEMICOLON ⨾ nothing ⨾ mark fixed.SEMICOLON ⨾ nothing) (refl, (inr tt, (refl, inr tt))) refl

abbrev for_clauses : Sample (rule rules.for_clauses)
for_clauses = sample_from rules.for_clauses (nothing ⨾ for_rest.tree) (inr (inr tt, for_rest.fits.conforms)) refl

abbrev for_head : Sample (rule rules.for_head)
for_head = sample_from rules.for_head (construct fixed.LEFT_PAREN nowhere (for_clauses.tree ⨾ mark fixed.RIGHT_PAREN)) (refl, (for_clauses.fits.conforms, refl)) refl

abbrev item : Sample (rule rules.item)
item = sample_from rules.item sum.tree (inr sum.fits.conforms) refl

abbrev print_part : Sample (rule rules.print_part)
print_part = sample_from rules.print_part (mark fixed.SHIFT_LEFT ⨾ item.tree) (refl, item.fits.conforms) refl

abbrev sentence : Sample (rule rules.sentence)
sentence = sample_from rules.sentence (simple.tree ⨾ mark fixed.SEMICOLON) (inr (simple.fits.conforms, refl)) refl

abbrev block : Sample (rule rules.block)
block = sample_from rules.block (construct fixed.LEFT_BRACE nowhere (nothing ⨾ mark fixed.RIGHT_BRACE)) (refl, (tt, refl)) refl

abbrev plain : Sample (rule rules.plain)
plain = sample_from rules.plain (mark fixed.SEMICOLON) (inr (inl refl)) refl

abbrev statement : Sample (rule rules.statement)
statement = sample_from rules.statement plain.tree (inr plain.fits.conforms) refl

abbrev else_part : Sample (rule rules.else_part)
else_part = sample_from rules.else_part without_else (inr tt) refl

abbrev branches : Sample (rule rules.branches)
branches = sample_from rules.branches (construct fixed.IF nowhere (condition.tree ⨾ statement.tree ⨾ else_part.tree)) (refl, (condition.fits.conforms, (statement.fits.conforms, else_part.fits.conforms))) refl

abbrev block_item : Sample (rule rules.block_item)
block_item = sample_from rules.block_item statement.tree (inr statement.fits.conforms) refl

-- ---- definitions

abbrev word : Sample (rule rules.word)
word = sample_from rules.word some_name (inl tt) refl

abbrev attribute : Sample (rule rules.attribute)
attribute =
    sample_from rules.attribute (mark fixed.LEFT_BRACKET ⨾ mark fixed.LEFT_BRACKET ⨾ some_name ⨾ nothing ⨾ nothing ⨾ mark fixed.RIGHT_BRACKET ⨾ mark fixed.RIGHT_BRACKET)
    (refl, (refl, (tt, (inr tt, (inr tt, (refl, refl)))))) refl

abbrev parameter : Sample (rule rules.parameter)
parameter = sample_from rules.parameter (nothing ⨾ type_name.tree ⨾ some_name) (tt, (type_name.fits.conforms, tt)) refl

abbrev function : Sample (rule rules.function)
function =
    sample_from rules.function (nothing ⨾ type_name.tree ⨾ some_name ⨾ construct fixed.LEFT_PAREN nowhere (nothing ⨾ mark fixed.RIGHT_PAREN) ⨾ mark fixed.SEMICOLON)
    (tt, (inr type_name.fits.conforms, (tt, ((refl, (inr tt, refl)), inr refl)))) refl

abbrev member : Sample (rule rules.member)
member = sample_from rules.member (type_name.tree ⨾ some_name ⨾ mark fixed.SEMICOLON) (type_name.fits.conforms, (tt, refl)) refl

abbrev structure : Sample (rule rules.structure)
structure =
    sample_from rules.structure (mark fixed.STRUCT ⨾ some_name ⨾ construct fixed.LEFT_BRACE nowhere ((member.tree ⨾ nothing) ⨾ mark fixed.RIGHT_BRACE) ⨾ mark fixed.SEMICOLON)
    (refl, (tt, ((refl, ((member.fits.conforms, tt), refl)), refl))) refl

abbrev definition : Sample (rule rules.definition)
definition = sample_from rules.definition structure.tree (inl structure.fits.conforms) refl

abbrev program : Sample (rule rules.program)
program = sample_from rules.program nothing tt refl

-- ---- all of them

pub sample_of : (r : Rule) → Sample (rule r)
sample_of rules.program = program
sample_of rules.definition = definition
sample_of rules.structure = structure
sample_of rules.member = member
sample_of rules.function = function
sample_of rules.parameter = parameter
sample_of rules.attribute = attribute
sample_of rules.word = word
sample_of rules.type_name = type_name
sample_of rules.unqualified = unqualified
sample_of rules.base = base
sample_of rules.argument = argument
sample_of rules.block = block
sample_of rules.block_item = block_item
sample_of rules.statement = statement
sample_of rules.plain = plain
sample_of rules.branches = branches
sample_of rules.else_part = else_part
sample_of rules.condition = condition
sample_of rules.for_head = for_head
sample_of rules.for_clauses = for_clauses
sample_of rules.for_rest = for_rest
sample_of rules.sentence = sentence
sample_of rules.print_part = print_part
sample_of rules.item = item
sample_of rules.declaration = declaration
sample_of rules.declared_type = declared_type
sample_of rules.initializer = initializer
sample_of rules.initial = initial
sample_of rules.list = list
sample_of rules.simple = simple
sample_of rules.target = target
sample_of rules.expr = expr
sample_of rules.both = both
sample_of rules.equal = equal
sample_of rules.order = order
sample_of rules.sum = sum
sample_of rules.term = term
sample_of rules.unary = unary
sample_of rules.postfix = postfix
sample_of rules.part = part
sample_of rules.primary = primary
sample_of rules.args = args
