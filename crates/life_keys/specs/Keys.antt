-- The tokens of a file as trees have them: by their keys, with the tables of names and of texts.
use Rattle.std.specs.Prelude.{◌≡◌, ℕ, Bool, true, false, ◌==◌, List, [], ◌∷◌, ◌++◌, fold, Option, None, Some, if◌then◌else◌}
use Rattle.std.specs.List.{list_any, position_or_len}
use Rattle.std.specs.Str.{bytes_eq}
use Rattle.life_keys.specs.Values.{character_value, text_value}
use Rattle.life_keys.specs.Words.{keywords, marks, reserved, library, number_in}
use Rattle.life_keys.specs.declared.before.Before.{Before}
use Rattle.life_keys.specs.declared.before.Before.TheVariants.{Other, Scope, Bracket, Attribute}
use Rattle.life_lex.specs.Numbers.{value_of}
use Rattle.life_lex.specs.Readings.{Lexeme}
use Rattle.life_lex.specs.declared.token.TokenKind.{TokenKind}
use Rattle.life_lex.specs.declared.token.TokenKind.TheVariants as kind
use Rattle.life_tree.specs.declared.fixed.TheConstants as fixed
use Rattle.life_tree.specs.declared.key.TokenKey.{TokenKey}
use Rattle.life_tree.specs.declared.key.TokenKey.TheVariants as keys
use Rattle.life_tree.specs.declared.token.TreeToken.{TreeToken}
use Rattle.life_types.specs.declared.place.Place.{Place}

-- ---- which names are words that a rule quotes

-- what stands before the token behind a quoted token, and before the next one behind any other
abbrev pub before_fixed : Before → ℕ → Before
before_fixed Attribute n = if n == fixed.RIGHT_BRACKET then Other else Attribute
before_fixed Bracket n = if n == fixed.LEFT_BRACKET then Attribute else (if n == fixed.SCOPE then Scope else Other)
before_fixed before n = if n == fixed.LEFT_BRACKET then Bracket else (if n == fixed.SCOPE then Scope else Other)

abbrev pub before_other : Before → Before
before_other Attribute = Attribute
before_other before = Other

abbrev pub before_next : Before → TokenKey → Before
before_next before (keys.Fixed n) = before_fixed before n
before_next before _ = before_other before

abbrev pub or_else : Option ℕ → Option ℕ → Option ℕ
or_else None o = o
or_else (Some n) o = Some n

-- the number of a name that a rule quotes there
abbrev pub quoted_name : Before → List ℕ → Option ℕ
quoted_name Attribute text = None
quoted_name Scope text = or_else (number_in library text) (number_in reserved text)
quoted_name before text = number_in reserved text

-- ---- keys

-- a keyword that no rule quotes
abbrev pub unused : ℕ
unused = 65535

abbrev pub fixed_key : Option ℕ → TokenKey
fixed_key None = keys.Fixed unused
fixed_key (Some n) = keys.Fixed n

-- what was read so far: what stands before the next token, and each name and each text once
pub record Tables : Type 0 where
  pub before : Before
  pub names : List (List ℕ)
  pub texts : List (List ℕ)

-- a table with this text, and the text's number in it
abbrev pub with_text : List (List ℕ) → List ℕ → List (List ℕ)
with_text table text = if list_any (bytes_eq text) table then table else table ++ text ∷ []

abbrev pub number_of : List (List ℕ) → List ℕ → ℕ
number_of table text = position_or_len (bytes_eq text) table

abbrev pub name_key : Tables → List ℕ → Option ℕ → TokenKey
name_key tables text None = keys.Name (record { 0 = number_of tables.names text })
name_key tables text (Some n) = keys.Fixed n

abbrev pub text_key : Tables → List ℕ → TokenKey
text_key tables text = keys.Text (number_of tables.texts (text_value text))

abbrev pub key_of : Tables → TokenKind → List ℕ → TokenKey
key_of tables kind.Keyword text = fixed_key (number_in keywords text)
key_of tables kind.Mark text = fixed_key (number_in marks text)
key_of tables kind.Number text = keys.Number (value_of text)
key_of tables kind.Char text = keys.Char (character_value text)
key_of tables kind.Text text = text_key tables text
key_of tables kind.Name text = name_key tables text (quoted_name tables.before text)

abbrev pub with_name : List (List ℕ) → List ℕ → Option ℕ → List (List ℕ)
with_name names text None = with_text names text
with_name names text (Some n) = names

abbrev pub names_with : Tables → TokenKind → List ℕ → List (List ℕ)
names_with tables kind.Name text = with_name tables.names text (quoted_name tables.before text)
names_with tables _ text = tables.names

abbrev pub texts_with : Tables → TokenKind → List ℕ → List (List ℕ)
texts_with tables kind.Text text = with_text tables.texts (text_value text)
texts_with tables _ text = tables.texts

-- behind a token
abbrev pub tables_with : Tables → TokenKind → List ℕ → Tables
tables_with tables k text = record {
  before = before_next tables.before (key_of tables k text);
  names = names_with tables k text;
  texts = texts_with tables k text;
}

abbrev pub token_for : TokenKey → Place → TreeToken
token_for key place = record { key = key; place = place }

-- ---- a whole file

abbrev pub no_tables : Tables
no_tables = record { before = Other; names = []; texts = [] }

-- the tokens, behind what was read so far
abbrev pub tokens_from : Tables → List Lexeme → List TreeToken
tokens_from tables [] = []
tokens_from tables (l ∷ ls) = token_for (key_of tables l.kind l.text) l.place ∷ tokens_from (tables_with tables l.kind l.text) ls

abbrev pub tables_from : Tables → List Lexeme → Tables
tables_from tables [] = tables
tables_from tables (l ∷ ls) = tables_from (tables_with tables l.kind l.text) ls

abbrev pub file_tokens : List Lexeme → List TreeToken
file_tokens = tokens_from no_tables

abbrev pub file_tables : List Lexeme → Tables
file_tables = tables_from no_tables
