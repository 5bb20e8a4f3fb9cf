-- The grammar, and which trees are trees of it.
use Rattle.std.specs.Prelude.{◌≡◌, ℕ, ◌≤◌, Bool, true, false, ◌&&◌, ◌||◌, ◌==◌, ◌⊎◌, if◌then◌else◌}
use Rattle.life_types.specs.declared.place.Place.{Place}
use Rattle.life_tree.specs.Rules as rules
use Rattle.life_tree.specs.Rules.{Rule}
use Rattle.life_tree.specs.Tree.{Tree, nothing, without_else, token, ◌⨾◌, construct, node, is_empty, depth}
use Rattle.life_tree.specs.declared.fixed.TheConstants as fixed
use Rattle.life_tree.specs.declared.key.TokenKey.{TokenKey}
use Rattle.life_tree.specs.declared.key.TokenKey.TheVariants as keys

-- ---- how rules are written

infixr 30 ◌then◌
infixr 30 ◌decides◌
infixr 20 ◌or◌
pub data Form : Type 0 where
  -- no token
  none : Form
  -- no token, where an `else` may stand and doesn't
  no_else : Form
  -- the token that a rule quotes, by its number
  quoted : ℕ → Form
  -- a name, a number, a character literal, a string literal
  name : Form
  number : Form
  character : Form
  text : Form
  ◌then◌ : Form → Form → Form
  -- and then a form that depends on the tree of the first
  ◌decides◌ : Form → (Tree → Form) → Form
  ◌or◌ : Form → Form → Form
  -- any number of them, one after the other
  many : Form → Form
  -- a construct: the quoted token that opens it, and what it counts as open in, up to its last token
  opens : ℕ → Form → Form
  -- what another rule derives
  rule : Rule → Form

abbrev pub optional : Form → Form
optional f = f or none

-- a word of a namespace, and what follows it
abbrev pub namespaced : ℕ → Form → Form
namespaced namespace f = quoted namespace then quoted fixed.SCOPE then f

-- "(" f ")"
abbrev pub parenthesized : Form → Form
parenthesized f = opens fixed.LEFT_PAREN (f then quoted fixed.RIGHT_PAREN)

-- "{" f "}"
abbrev pub braced : Form → Form
braced f = opens fixed.LEFT_BRACE (f then quoted fixed.RIGHT_BRACE)

-- f { f }
abbrev pub some : Form → Form
some f = f then many f

-- f { "," f }
abbrev pub separated : Form → Form
separated f = f then many (quoted fixed.COMMA then f)

-- f { operator f }
abbrev pub chain : Form → Form → Form
chain operator f = f then many (operator then f)

-- ---- what may end an assignment, a step or a call, behind its target

-- it begins with a star
abbrev pub is_starred : Tree → Bool
is_starred (node rules.target t) = is_starred t
is_starred (construct n place t) = n == fixed.STAR
is_starred _ = false

-- its last part that has a token is arguments
abbrev pub ends_in_arguments : Tree → Bool
ends_in_arguments nothing = false
ends_in_arguments without_else = false
ends_in_arguments (token key place) = false
ends_in_arguments (a ⨾ b) = ends_in_arguments b || (is_empty b && ends_in_arguments a)
ends_in_arguments (construct n place t) = false
ends_in_arguments (node rules.args t) = true
ends_in_arguments (node rules.target t) = ends_in_arguments t
ends_in_arguments (node rules.postfix t) = ends_in_arguments t
ends_in_arguments (node rules.part t) = ends_in_arguments t
ends_in_arguments (node rules.primary t) = ends_in_arguments t
ends_in_arguments (node _ t) = false

abbrev pub assignment : Form
assignment =
    (quoted fixed.ASSIGN then rule rules.initial)
    or ((quoted fixed.PLUS_ASSIGN or quoted fixed.MINUS_ASSIGN or quoted fixed.STAR_ASSIGN or quoted fixed.SLASH_ASSIGN or quoted fixed.PERCENT_ASSIGN) then rule rules.expr)

abbrev pub step : Form
step = quoted fixed.PLUS_PLUS or quoted fixed.MINUS_MINUS

-- Anything that a target names can be assigned to. What has no star before it can be stepped too. And alone it is a call, which ends in arguments.
abbrev pub ending : Tree → Form
ending target = if is_starred target then assignment else if ends_in_arguments target then (assignment or step or none) else (assignment or step)

-- ---- the rules

abbrev pub form_of : Rule → Form
form_of rules.program = many (rule rules.definition)
form_of rules.definition = rule rules.structure or rule rules.function
form_of rules.structure = quoted fixed.STRUCT then name then braced (some (rule rules.member)) then quoted fixed.SEMICOLON
form_of rules.member = rule rules.type_name then name then quoted fixed.SEMICOLON
form_of rules.function =
    many (rule rules.attribute) then (quoted fixed.VOID or rule rules.type_name) then name
    then parenthesized (optional (separated (rule rules.parameter))) then (rule rules.block or quoted fixed.SEMICOLON)
form_of rules.parameter = many (rule rules.attribute) then rule rules.type_name then name
form_of rules.attribute =
    quoted fixed.LEFT_BRACKET then quoted fixed.LEFT_BRACKET then name then optional (quoted fixed.SCOPE then name)
    then optional (parenthesized (separated (rule rules.word))) then quoted fixed.RIGHT_BRACKET then quoted fixed.RIGHT_BRACKET
form_of rules.word = name or quoted fixed.STATIC
form_of rules.type_name = optional (quoted fixed.CONST) then rule rules.unqualified
form_of rules.unqualified = rule rules.base then optional (quoted fixed.STAR or quoted fixed.AMPERSAND)
form_of rules.base =
    quoted fixed.BOOL or quoted fixed.CHAR or quoted fixed.INT or quoted fixed.LONG or name
    or namespaced fixed.STD (quoted fixed.SIZE_T or quoted fixed.STRING or quoted fixed.STRING_VIEW
    or (quoted fixed.VECTOR then rule rules.argument then optional (quoted fixed.SCOPE then (quoted fixed.ITERATOR or quoted fixed.CONST_ITERATOR)))
    or (quoted fixed.UNIQUE_PTR then rule rules.argument))
    or namespaced fixed.GSL (quoted fixed.SPAN then rule rules.argument)
form_of rules.argument = opens fixed.LESS (rule rules.type_name then quoted fixed.GREATER)
form_of rules.block = braced (many (rule rules.block_item))
form_of rules.block_item = (rule rules.declaration then quoted fixed.SEMICOLON) or rule rules.statement
form_of rules.statement = rule rules.branches or rule rules.plain
form_of rules.plain =
    rule rules.block or quoted fixed.SEMICOLON
    or opens fixed.WHILE (rule rules.condition then rule rules.statement)
    or opens fixed.FOR (rule rules.for_head then rule rules.statement)
    or (quoted fixed.BREAK then quoted fixed.SEMICOLON) or (quoted fixed.CONTINUE then quoted fixed.SEMICOLON)
    or (quoted fixed.RETURN then optional (rule rules.expr) then quoted fixed.SEMICOLON)
    or (quoted fixed.ASSERT then rule rules.condition then quoted fixed.SEMICOLON)
    or rule rules.sentence
form_of rules.branches = opens fixed.IF (rule rules.condition then rule rules.statement then rule rules.else_part)
form_of rules.else_part =
    (quoted fixed.ELSE then ((quoted fixed.IF then rule rules.condition then rule rules.statement then rule rules.else_part) or rule rules.plain))
    or no_else
form_of rules.condition = parenthesized (rule rules.expr)
form_of rules.for_head = parenthesized (rule rules.for_clauses)
form_of rules.for_clauses =
    (rule rules.declared_type then name then ((quoted fixed.COLON then rule rules.expr) or (rule rules.initializer then rule rules.for_rest)))
    or (optional (rule rules.simple) then rule rules.for_rest)
form_of rules.for_rest = quoted fixed.SEMICOLON then optional (rule rules.expr) then quoted fixed.SEMICOLON then optional (rule rules.simple)
form_of rules.sentence =
    namespaced fixed.STD (quoted fixed.COUT then some (rule rules.print_part) then quoted fixed.SEMICOLON)
    or (rule rules.simple then quoted fixed.SEMICOLON)
form_of rules.print_part = quoted fixed.SHIFT_LEFT then rule rules.item
form_of rules.item = namespaced fixed.STD (quoted fixed.ENDL) or rule rules.sum
form_of rules.declaration = rule rules.declared_type then name then rule rules.initializer
form_of rules.declared_type = optional (quoted fixed.CONST) then (rule rules.unqualified or (quoted fixed.AUTO then optional (quoted fixed.AMPERSAND)))
form_of rules.initializer = optional ((quoted fixed.ASSIGN then rule rules.initial) or rule rules.list)
form_of rules.initial = rule rules.expr or rule rules.list
form_of rules.list = braced (optional (separated (rule rules.expr)))
form_of rules.simple = opens fixed.PLUS_PLUS (rule rules.target) or opens fixed.MINUS_MINUS (rule rules.target) or (rule rules.target decides ending)
form_of rules.target = opens fixed.STAR (rule rules.target) or rule rules.postfix
form_of rules.expr = chain (quoted fixed.OR_OR) (rule rules.both)
form_of rules.both = chain (quoted fixed.AND_AND) (rule rules.equal)
form_of rules.equal = chain (quoted fixed.EQUAL or quoted fixed.NOT_EQUAL) (rule rules.order)
form_of rules.order = chain (quoted fixed.LESS or quoted fixed.LESS_EQUAL or quoted fixed.GREATER or quoted fixed.GREATER_EQUAL) (rule rules.sum)
form_of rules.sum = chain (quoted fixed.PLUS or quoted fixed.MINUS) (rule rules.term)
form_of rules.term = chain (quoted fixed.STAR or quoted fixed.SLASH or quoted fixed.PERCENT) (rule rules.unary)
form_of rules.unary =
    opens fixed.NOT (rule rules.unary) or opens fixed.MINUS (rule rules.unary)
    or opens fixed.STAR (rule rules.unary) or opens fixed.AMPERSAND (rule rules.unary) or rule rules.postfix
form_of rules.postfix = rule rules.primary then many (rule rules.part)
form_of rules.part =
    (quoted fixed.DOT then name then optional (rule rules.args)) or (quoted fixed.ARROW then name then optional (rule rules.args))
    or opens fixed.LEFT_BRACKET (rule rules.expr then quoted fixed.RIGHT_BRACKET)
form_of rules.primary =
    number or character or text or quoted fixed.TRUE or quoted fixed.FALSE or quoted fixed.NULLPTR
    or (name then optional (rule rules.args or rule rules.list)) or parenthesized (rule rules.expr)
    or namespaced fixed.STD ((quoted fixed.MOVE then parenthesized name) or (quoted fixed.STRING then parenthesized (rule rules.expr))
    or (quoted fixed.MAKE_UNIQUE then rule rules.argument then rule rules.args))
    or namespaced fixed.LIFE (quoted fixed.INPUT then opens fixed.LEFT_PAREN (quoted fixed.RIGHT_PAREN))
form_of rules.args = parenthesized (optional (separated (rule rules.expr)))

-- ---- trees of a form

-- a token, where no other part is wanted
abbrev pub TokenFits : TokenKey → Place → Form → Type 0
TokenFits (keys.Fixed n) place (quoted m) = n ≡ m
TokenFits (keys.Name id) place name = Unit {0}
TokenFits (keys.Number n) place number = Unit {0}
TokenFits (keys.Char c) place character = Unit {0}
TokenFits (keys.Text n) place text = Unit {0}
TokenFits key place (f or g) = TokenFits key place f ⊎ TokenFits key place g
TokenFits _ _ _ = ⊥

abbrev pub NothingFits : Form → Type 0
NothingFits none = Unit {0}
NothingFits (many f) = Unit {0}
NothingFits (f or g) = NothingFits f ⊎ NothingFits g
NothingFits _ = ⊥

abbrev pub NoElseFits : Form → Type 0
NoElseFits no_else = Unit {0}
NoElseFits (f or g) = NoElseFits f ⊎ NoElseFits g
NoElseFits _ = ⊥

-- the part a and then another; A and B tell of which form each is
abbrev pub PartsFit : Tree → (Form → Type 0) → (Form → Type 0) → Form → Type 0
PartsFit a A B (f then g) = A f × B g
PartsFit a A B (f decides g) = A f × B (g a)
PartsFit a A B (many f) = A f × B (many f)
PartsFit a A B (f or g) = PartsFit a A B f ⊎ PartsFit a A B g
PartsFit a A B _ = ⊥

abbrev pub ConstructFits : ℕ → (Form → Type 0) → Form → Type 0
ConstructFits n A (opens m f) = (n ≡ m) × A f
ConstructFits n A (f or g) = ConstructFits n A f ⊎ ConstructFits n A g
ConstructFits n A _ = ⊥

abbrev pub NodeFits : Rule → Type 0 → Form → Type 0
NodeFits r A (rule s) = (r ≡ s) × A
NodeFits r A (f or g) = NodeFits r A f ⊎ NodeFits r A g
NodeFits r A _ = ⊥

-- The tree is one of this form.
abbrev pub Conforms : Tree → Form → Type 0
Conforms nothing = NothingFits
Conforms without_else = NoElseFits
Conforms (token key place) = TokenFits key place
Conforms (a ⨾ b) = PartsFit a (Conforms a) (Conforms b)
Conforms (construct n place t) = ConstructFits n (Conforms t)
Conforms (node r t) = NodeFits r (Conforms t (form_of r))

-- ---- what the rules alone do not say

-- it ends in an `if` without an `else`
abbrev pub ends_open : Tree → Bool
ends_open nothing = false
ends_open without_else = true
ends_open (token key place) = false
ends_open (a ⨾ b) = ends_open b || (is_empty b && ends_open a)
ends_open (construct n place t) = ends_open t
ends_open (node r t) = ends_open t

-- it begins with an `else`
abbrev pub is_else : TokenKey → Bool
is_else (keys.Fixed n) = n == fixed.ELSE
is_else _ = false

abbrev pub begins_with_else : Tree → Bool
begins_with_else nothing = false
begins_with_else without_else = false
begins_with_else (token key place) = is_else key
begins_with_else (a ⨾ b) = begins_with_else a || (is_empty a && begins_with_else b)
begins_with_else (construct n place t) = n == fixed.ELSE
begins_with_else (node r t) = begins_with_else t

-- An `else` belongs to the nearest `if` that has none: it never follows what ends in one.
abbrev pub ElsesAreNearest : Tree → Type 0
ElsesAreNearest nothing = Unit {0}
ElsesAreNearest without_else = Unit {0}
ElsesAreNearest (token key place) = Unit {0}
ElsesAreNearest (a ⨾ b) = ElsesAreNearest a × ElsesAreNearest b × (begins_with_else b ≡ true → ends_open a ≡ false)
ElsesAreNearest (construct n place t) = ElsesAreNearest t
ElsesAreNearest (node r t) = ElsesAreNearest t

-- A tree of the grammar, however deep.
pub record IsProgram (t : Tree) : Type 0 where
  pub conforms : Conforms t (rule rules.program)
  pub elses : ElsesAreNearest t

-- .. in which at most 64 constructs are open at once.
pub record Fits (t : Tree) : Type 0 where
  pub program : IsProgram t
  pub nested : depth t ≤ 64
