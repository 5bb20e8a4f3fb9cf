-- How reading goes, which nobody need believe: which tokens a form can begin with.
use Rattle.std.specs.Prelude.{ℕ, Bool, true, false, ◌==◌, ◌&&◌, ◌||◌, List, [], ◌∷◌, ◌++◌, if◌then◌else◌}
use Rattle.life_tree.specs.Grammar.{Form, none, no_else, quoted, name, number, character, text, ◌then◌, ◌decides◌, ◌or◌, many, opens, rule}
use Rattle.life_tree.specs.Rules as rules
use Rattle.life_tree.specs.Rules.{Rule}
use Rattle.life_tree.specs.declared.fixed.TheConstants as fixed
use Rattle.life_tree.specs.declared.key.TokenKey.{TokenKey}
use Rattle.life_tree.specs.declared.key.TokenKey.TheVariants as keys
use Rattle.life_tree.specs.declared.token.TreeToken.{TreeToken}

-- a kind of tokens
pub data Kind : Type 0 where
  quoted_kind : ℕ → Kind
  name_kind : Kind
  number_kind : Kind
  character_kind : Kind
  text_kind : Kind

abbrev pub key_is_of : Kind → TokenKey → Bool
key_is_of (quoted_kind n) (keys.Fixed m) = m == n
key_is_of name_kind (keys.Name id) = true
key_is_of number_kind (keys.Number n) = true
key_is_of character_kind (keys.Char c) = true
key_is_of text_kind (keys.Text n) = true
key_is_of _ _ = false

abbrev pub is_of : Kind → TreeToken → Bool
is_of kind k = key_is_of kind k.key

-- it may have no token
abbrev pub rule_may_be_empty : Rule → Bool
rule_may_be_empty rules.program = true
rule_may_be_empty rules.else_part = true
rule_may_be_empty rules.initializer = true
rule_may_be_empty _ = false

abbrev pub may_be_empty : Form → Bool
may_be_empty none = true
may_be_empty no_else = true
may_be_empty (f then g) = may_be_empty f && may_be_empty g
may_be_empty (f or g) = may_be_empty f || may_be_empty g
may_be_empty (many f) = true
may_be_empty (rule r) = rule_may_be_empty r
may_be_empty _ = false

abbrev pub type_heads : List Kind
type_heads =
    quoted_kind fixed.BOOL ∷ quoted_kind fixed.CHAR ∷ quoted_kind fixed.INT ∷ quoted_kind fixed.LONG ∷ name_kind ∷ quoted_kind fixed.STD ∷ quoted_kind fixed.GSL ∷ []

abbrev pub primary_heads : List Kind
primary_heads =
    number_kind ∷ character_kind ∷ text_kind ∷ quoted_kind fixed.TRUE ∷ quoted_kind fixed.FALSE ∷ quoted_kind fixed.NULLPTR ∷ name_kind
    ∷ quoted_kind fixed.LEFT_PAREN ∷ quoted_kind fixed.STD ∷ quoted_kind fixed.LIFE ∷ []

abbrev pub unary_heads : List Kind
unary_heads = quoted_kind fixed.NOT ∷ quoted_kind fixed.MINUS ∷ quoted_kind fixed.STAR ∷ quoted_kind fixed.AMPERSAND ∷ primary_heads

abbrev pub simple_heads : List Kind
simple_heads = quoted_kind fixed.PLUS_PLUS ∷ quoted_kind fixed.MINUS_MINUS ∷ quoted_kind fixed.STAR ∷ primary_heads

abbrev pub plain_heads : List Kind
plain_heads =
    quoted_kind fixed.LEFT_BRACE ∷ quoted_kind fixed.SEMICOLON ∷ quoted_kind fixed.WHILE ∷ quoted_kind fixed.FOR ∷ quoted_kind fixed.BREAK
    ∷ quoted_kind fixed.CONTINUE ∷ quoted_kind fixed.RETURN ∷ quoted_kind fixed.ASSERT ∷ quoted_kind fixed.STD ∷ simple_heads

abbrev pub declaration_heads : List Kind
declaration_heads = quoted_kind fixed.CONST ∷ type_heads ++ quoted_kind fixed.AUTO ∷ []

-- the first tokens of what a rule derives
abbrev pub heads_of : Rule → List Kind
heads_of rules.program = quoted_kind fixed.STRUCT ∷ quoted_kind fixed.LEFT_BRACKET ∷ quoted_kind fixed.VOID ∷ quoted_kind fixed.CONST ∷ type_heads
heads_of rules.definition = quoted_kind fixed.STRUCT ∷ quoted_kind fixed.LEFT_BRACKET ∷ quoted_kind fixed.VOID ∷ quoted_kind fixed.CONST ∷ type_heads
heads_of rules.structure = quoted_kind fixed.STRUCT ∷ []
heads_of rules.member = quoted_kind fixed.CONST ∷ type_heads
heads_of rules.function = quoted_kind fixed.LEFT_BRACKET ∷ quoted_kind fixed.VOID ∷ quoted_kind fixed.CONST ∷ type_heads
heads_of rules.parameter = quoted_kind fixed.LEFT_BRACKET ∷ quoted_kind fixed.CONST ∷ type_heads
heads_of rules.attribute = quoted_kind fixed.LEFT_BRACKET ∷ []
heads_of rules.word = name_kind ∷ quoted_kind fixed.STATIC ∷ []
heads_of rules.type_name = quoted_kind fixed.CONST ∷ type_heads
heads_of rules.unqualified = type_heads
heads_of rules.base = type_heads
heads_of rules.argument = quoted_kind fixed.LESS ∷ []
heads_of rules.block = quoted_kind fixed.LEFT_BRACE ∷ []
heads_of rules.block_item = declaration_heads ++ quoted_kind fixed.IF ∷ plain_heads
heads_of rules.statement = quoted_kind fixed.IF ∷ plain_heads
heads_of rules.plain = plain_heads
heads_of rules.branches = quoted_kind fixed.IF ∷ []
heads_of rules.else_part = quoted_kind fixed.ELSE ∷ []
heads_of rules.condition = quoted_kind fixed.LEFT_PAREN ∷ []
heads_of rules.for_head = quoted_kind fixed.LEFT_PAREN ∷ []
heads_of rules.for_clauses = declaration_heads ++ simple_heads ++ quoted_kind fixed.SEMICOLON ∷ []
heads_of rules.for_rest = quoted_kind fixed.SEMICOLON ∷ []
heads_of rules.sentence = quoted_kind fixed.STD ∷ simple_heads
heads_of rules.print_part = quoted_kind fixed.SHIFT_LEFT ∷ []
heads_of rules.item = quoted_kind fixed.STD ∷ unary_heads
heads_of rules.declaration = declaration_heads
heads_of rules.declared_type = declaration_heads
heads_of rules.initializer = quoted_kind fixed.ASSIGN ∷ quoted_kind fixed.LEFT_BRACE ∷ []
heads_of rules.initial = unary_heads ++ quoted_kind fixed.LEFT_BRACE ∷ []
heads_of rules.list = quoted_kind fixed.LEFT_BRACE ∷ []
heads_of rules.simple = simple_heads
heads_of rules.target = quoted_kind fixed.STAR ∷ primary_heads
heads_of rules.expr = unary_heads
heads_of rules.both = unary_heads
heads_of rules.equal = unary_heads
heads_of rules.order = unary_heads
heads_of rules.sum = unary_heads
heads_of rules.term = unary_heads
heads_of rules.unary = unary_heads
heads_of rules.postfix = primary_heads
heads_of rules.part = quoted_kind fixed.DOT ∷ quoted_kind fixed.ARROW ∷ quoted_kind fixed.LEFT_BRACKET ∷ []
heads_of rules.primary = primary_heads
heads_of rules.args = quoted_kind fixed.LEFT_PAREN ∷ []

-- .. of a form
abbrev pub heads : Form → List Kind
heads (quoted n) = quoted_kind n ∷ []
heads name = name_kind ∷ []
heads number = number_kind ∷ []
heads character = character_kind ∷ []
heads text = text_kind ∷ []
heads (f then g) = if may_be_empty f then heads f ++ heads g else heads f
heads (f decides g) = heads f
heads (f or g) = heads f ++ heads g
heads (many f) = heads f
heads (opens n f) = quoted_kind n ∷ []
heads (rule r) = heads_of r
heads _ = []
