-- The words and marks that rules of the grammar quote, and their numbers.
use Rattle.std.specs.Prelude.{◌≡◌, ℕ, Bool, List, [], ◌∷◌, Option, None, Some, codes, if◌then◌else◌}
use Rattle.std.specs.Str.{bytes_eq}
use Rattle.life_tree.specs.declared.fixed.TheConstants as fixed

-- a number and a text
abbrev pub Word : Type 0
Word = ℕ × List ℕ

abbrev pub keywords : List Word
keywords =
    (fixed.AUTO, codes "auto") ∷ (fixed.BOOL, codes "bool") ∷ (fixed.BREAK, codes "break") ∷ (fixed.CHAR, codes "char") ∷ (fixed.CONST, codes "const")
    ∷ (fixed.CONTINUE, codes "continue") ∷ (fixed.ELSE, codes "else") ∷ (fixed.FALSE, codes "false") ∷ (fixed.FOR, codes "for") ∷ (fixed.IF, codes "if")
    ∷ (fixed.INT, codes "int") ∷ (fixed.LONG, codes "long") ∷ (fixed.NULLPTR, codes "nullptr") ∷ (fixed.RETURN, codes "return")
    ∷ (fixed.STATIC, codes "static") ∷ (fixed.STRUCT, codes "struct") ∷ (fixed.TRUE, codes "true") ∷ (fixed.VOID, codes "void") ∷ (fixed.WHILE, codes "while") ∷ []

abbrev pub marks : List Word
marks =
    (fixed.LEFT_BRACE, codes "{") ∷ (fixed.RIGHT_BRACE, codes "}") ∷ (fixed.LEFT_PAREN, codes "(") ∷ (fixed.RIGHT_PAREN, codes ")")
    ∷ (fixed.LEFT_BRACKET, codes "[") ∷ (fixed.RIGHT_BRACKET, codes "]") ∷ (fixed.SEMICOLON, codes ";") ∷ (fixed.COMMA, codes ",") ∷ (fixed.DOT, codes ".")
    ∷ (fixed.ARROW, codes "->") ∷ (fixed.AMPERSAND, codes "&") ∷ (fixed.AND_AND, codes "&&") ∷ (fixed.OR_OR, codes "||") ∷ (fixed.STAR, codes "*")
    ∷ (fixed.PLUS, codes "+") ∷ (fixed.MINUS, codes "-") ∷ (fixed.SLASH, codes "/") ∷ (fixed.PERCENT, codes "%") ∷ (fixed.NOT, codes "!")
    ∷ (fixed.ASSIGN, codes "=") ∷ (fixed.EQUAL, codes "==") ∷ (fixed.NOT_EQUAL, codes "!=") ∷ (fixed.LESS, codes "<") ∷ (fixed.LESS_EQUAL, codes "<=")
    ∷ (fixed.GREATER, codes ">") ∷ (fixed.GREATER_EQUAL, codes ">=") ∷ (fixed.SHIFT_LEFT, codes "<<") ∷ (fixed.PLUS_PLUS, codes "++")
    ∷ (fixed.MINUS_MINUS, codes "--") ∷ (fixed.PLUS_ASSIGN, codes "+=") ∷ (fixed.MINUS_ASSIGN, codes "-=") ∷ (fixed.STAR_ASSIGN, codes "*=")
    ∷ (fixed.SLASH_ASSIGN, codes "/=") ∷ (fixed.PERCENT_ASSIGN, codes "%=") ∷ (fixed.COLON, codes ":") ∷ (fixed.SCOPE, codes "::") ∷ []

-- names that are none but in attributes
abbrev pub reserved : List Word
reserved = (fixed.STD, codes "std") ∷ (fixed.GSL, codes "gsl") ∷ (fixed.LIFE, codes "life") ∷ (fixed.ASSERT, codes "assert") ∷ []

-- names that are none behind `::`, but in attributes
abbrev pub library : List Word
library =
    (fixed.SIZE_T, codes "size_t") ∷ (fixed.STRING, codes "string") ∷ (fixed.STRING_VIEW, codes "string_view") ∷ (fixed.VECTOR, codes "vector")
    ∷ (fixed.ITERATOR, codes "iterator") ∷ (fixed.CONST_ITERATOR, codes "const_iterator") ∷ (fixed.UNIQUE_PTR, codes "unique_ptr") ∷ (fixed.SPAN, codes "span")
    ∷ (fixed.COUT, codes "cout") ∷ (fixed.ENDL, codes "endl") ∷ (fixed.MOVE, codes "move") ∷ (fixed.MAKE_UNIQUE, codes "make_unique") ∷ (fixed.INPUT, codes "input") ∷ []

-- the number of a text among these words
abbrev pub number_in : List Word → List ℕ → Option ℕ
number_in [] text = None
number_in (w ∷ ws) text = if bytes_eq w.1 text then Some w.0 else number_in ws text
