-- The names of a file are in its table of names.
use Rattle.std.proofs.Common.{◌≡◌, ℕ, ◌<◌, ◌≤◌, ◌+◌, Bool, true, false, not, ◌||◌, cond, List, [], ◌∷◌, ◌++◌, length, Option, None, Some, refl, sym, subst, ap, ◌∙◌, arith, length-append}
use Rattle.std.proofs.lemmas.Bool.{and_from, lt-ltb, ltb-true}
use Rattle.std.proofs.lemmas.List.{length-map}
use Rattle.std.specs.List.{list_any}
use Rattle.std.specs.Str.{bytes_eq}
use Rattle.life_keys.specs.Keys.{Tables, file_tables, fixed_key, key_of, name_key, names_with, no_tables, number_of, quoted_name, tables_from, tables_with, tokens_from, with_name, with_text}
use Rattle.life_keys.specs.NamedTokens.{are_named, is_key_named}
use Rattle.life_keys.specs.Words.{keywords, marks, number_in}
use Rattle.life_lex.specs.Readings.{Lexeme}
use Rattle.life_lex.specs.declared.token.TokenKind.{TokenKind}
use Rattle.life_lex.specs.declared.token.TokenKind.TheVariants as kind
use Rattle.life_parse.specs.Ends.{IsSource}
use Rattle.life_tree.specs.Tree.{tokens_of}
use Rattle.life_tree.specs.Views.{program_tree}
use Rattle.life_tree.specs.declared.key.TokenKey.{TokenKey}
use Rattle.life_tree.specs.declared.key.TokenKey.TheVariants as keys
use Rattle.life_tree.specs.declared.program.Program.{Program}

-- ---- a table grows

with_text_longer : (table : List (List ℕ)) (text : List ℕ) → length table ≤ length (with_text table text)
with_text_longer table text = go (list_any (bytes_eq text) table)
  where
    go : (b : Bool) → length table ≤ length (cond b table (table ++ text ∷ []))
    go true = omega arith
    go false = let one : length (table ++ text ∷ []) ≡ length table + 1 = length-append table (text ∷ []) in omega (arith, one)

with_name_longer : (table : List (List ℕ)) (text : List ℕ) (o : Option ℕ) → length table ≤ length (with_name table text o)
with_name_longer table text None = with_text_longer table text
with_name_longer table text (Some n) = omega arith

names_longer : (tables : Tables) (k : TokenKind) (text : List ℕ) → length tables.names ≤ length (names_with tables k text)
names_longer tables kind.Keyword text = omega arith
names_longer tables kind.Mark text = omega arith
names_longer tables kind.Number text = omega arith
names_longer tables kind.Char text = omega arith
names_longer tables kind.Text text = omega arith
names_longer tables kind.Name text = with_name_longer tables.names text (quoted_name tables.before text)

tables_longer : (tables : Tables) (ls : List Lexeme) → length tables.names ≤ length (tables_from tables ls).names
tables_longer tables [] = omega arith
tables_longer tables (l ∷ ls) =
    let one : length tables.names ≤ length (names_with tables l.kind l.text) = names_longer tables l.kind l.text in
    let more : length (names_with tables l.kind l.text) ≤ length (tables_from tables (l ∷ ls)).names = tables_longer (tables_with tables l.kind l.text) ls in
    omega (arith, one, more)

-- ---- a name is in the table behind it

-- one that is there already
number_there : (table : List (List ℕ)) (text : List ℕ) → list_any (bytes_eq text) table ≡ true → number_of table text < length table
number_there [] text any = absurd cc
number_there (x ∷ xs) text any = go (bytes_eq text x) any (number_there xs text)
  where
    go : (b : Bool) → (b || list_any (bytes_eq text) xs) ≡ true → (list_any (bytes_eq text) xs ≡ true → number_of xs text < length xs)
        → cond (not b) (1 + number_of xs text) 0 < length (x ∷ xs)
    go true any later = omega arith
    go false any later = let there : number_of xs text < length xs = later any in omega (arith, there)

-- a new one comes last
number_within : (table : List (List ℕ)) (text : List ℕ) → number_of table text ≤ length table
number_within [] text = omega arith
number_within (x ∷ xs) text = go (bytes_eq text x) (number_within xs text)
  where
    go : (b : Bool) → number_of xs text ≤ length xs → cond (not b) (1 + number_of xs text) 0 ≤ length (x ∷ xs)
    go true later = omega arith
    go false later = omega (arith, later)

number_below : (table : List (List ℕ)) (text : List ℕ) → number_of table text < length (with_text table text)
number_below table text = go (list_any (bytes_eq text) table) refl
  where
    go : (b : Bool) → list_any (bytes_eq text) table ≡ b → number_of table text < length (cond b table (table ++ text ∷ []))
    go true any = number_there table text any
    go false any =
        let one : length (table ++ text ∷ []) ≡ length table + 1 = length-append table (text ∷ []) in
        let within : number_of table text ≤ length table = number_within table text in
        omega (arith, one, within)

-- ---- tokens

-- a quoted word or mark is no name
fixed_named : (names : ℕ) (o : Option ℕ) → is_key_named names (fixed_key o) ≡ true
fixed_named names None = refl
fixed_named names (Some n) = refl

name_named : (tables : Tables) (text : List ℕ) (o : Option ℕ) → is_key_named (length (with_name tables.names text o)) (name_key tables text o) ≡ true
name_named tables text None = lt-ltb (number_of tables.names text) (length (with_text tables.names text)) (number_below tables.names text)
name_named tables text (Some n) = refl

-- a token, by its key
key_named : (tables : Tables) (k : TokenKind) (text : List ℕ) → is_key_named (length (names_with tables k text)) (key_of tables k text) ≡ true
key_named tables kind.Keyword text = fixed_named (length tables.names) (number_in keywords text)
key_named tables kind.Mark text = fixed_named (length tables.names) (number_in marks text)
key_named tables kind.Number text = refl
key_named tables kind.Char text = refl
key_named tables kind.Text text = refl
key_named tables kind.Name text = name_named tables text (quoted_name tables.before text)

-- .. also where more names are there
still_named : (few many : ℕ) (key : TokenKey) → few ≤ many → is_key_named few key ≡ true → is_key_named many key ≡ true
still_named few many (keys.Name name) grows named = let below : name.0 < few = ltb-true name.0 few named in lt-ltb name.0 many (omega (arith, below, grows))
still_named few many (keys.Fixed n) grows named = refl
still_named few many (keys.Number n) grows named = refl
still_named few many (keys.Char n) grows named = refl
still_named few many (keys.Text n) grows named = refl

-- tokens behind what was read so far
tokens_named : (tables : Tables) (ls : List Lexeme) → are_named (length (tables_from tables ls).names) (tokens_from tables ls) ≡ true
tokens_named tables [] = refl
tokens_named tables (l ∷ ls) =
    let next = tables_with tables l.kind l.text in
    let all = length (tables_from next ls).names in
    let first = still_named (length next.names) all (key_of tables l.kind l.text) (tables_longer next ls) (key_named tables l.kind l.text) in
    and_from (is_key_named all (key_of tables l.kind l.text)) (are_named all (tokens_from next ls)) first (tokens_named next ls)

-- the tokens of a file's tree
pub file_named : (bytes : List ℕ) (p : Program) → IsSource bytes p → are_named (length p.names.items) (tokens_of (program_tree p)) ≡ true
file_named bytes p source =
    let count : length (file_tables source.lexemes).names ≡ length p.names.items = ap length (sym source.names) ∙ length-map p.names.items (λ name. name.items) in
    subst (λ ts. are_named (length p.names.items) ts ≡ true) source.spelled
    (subst (λ n. are_named n (tokens_from no_tables source.lexemes) ≡ true) count (tokens_named no_tables source.lexemes))
