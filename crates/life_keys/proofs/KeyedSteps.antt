-- One more token of a file.
use Rattle.std.proofs.Common.{◌≡◌, ◌∙◌, ◌+◌, ◌≤◌, ◌<◌, ℕ, zero, suc, get_or, Bool, true, false, cond, List, [], ◌∷◌, ◌++◌, length, map, None, Some, Option, ap, append_assoc, length-append, arith}
use Rattle.std.proofs.lemmas.List.Elements.{All-head, All-tail}
use Rattle.std.specs.List.{list_any}
use Rattle.std.specs.Prelude.{All}
use Rattle.std.specs.Str.{bytes_eq}
use Rattle.life_keys.specs.Keys.{Tables, with_text, with_name, names_with, texts_with, tables_with, tokens_from, key_of, token_for, quoted_name}
use Rattle.life_keys.specs.Values.{text_value}
use Rattle.life_lex.specs.Answers.{lexeme, NumberFits}
use Rattle.life_lex.specs.Readings.{Lexeme}
use Rattle.life_lex.specs.declared.token.Token.{Token}
use Rattle.life_lex.specs.declared.token.TokenKind.{TokenKind}
use Rattle.life_lex.specs.declared.token.TokenKind.TheVariants as kind
use Rattle.life_tree.specs.declared.key.TokenKey.{TokenKey}
use Rattle.life_tree.specs.declared.token.TreeToken.{TreeToken}
use Rattle.life_types.specs.declared.place.Place.{Place}

-- each number among tokens is a long
pub number_fits : (ts : List Token) (i : ℕ) (d : Token) → i < length ts → All NumberFits (map lexeme ts) → NumberFits (lexeme (get_or ts i d))
number_fits [] i d h all = absurd (omega (arith, h))
number_fits (t ∷ ts) zero d h all = All-head NumberFits (lexeme t) (map lexeme ts) all
number_fits (t ∷ ts) (suc i) d h all = number_fits ts i d (omega (arith, h)) (All-tail NumberFits (lexeme t) (map lexeme ts) all)

pub same_token : (key key' : TokenKey) (place : Place) → key ≡ key' → token_for key place ≡ token_for key' place
same_token key key' place k = ap (λ (found : TokenKey). token_for found place) k

pub tokens_step : (tables tables' : Tables) (l : Lexeme) (ls : List Lexeme) (front more total : List TreeToken) (t : TreeToken)
    → front ++ tokens_from tables (l ∷ ls) ≡ total → more ≡ front ++ t ∷ [] → t ≡ token_for (key_of tables l.kind l.text) l.place
    → tables' ≡ tables_with tables l.kind l.text → more ++ tokens_from tables' ls ≡ total
tokens_step tables tables' l ls front more total t before pushed is next =
    rw (pushed, next, is) (append_assoc front (token_for (key_of tables l.kind l.text) l.place ∷ []) (tokens_from (tables_with tables l.kind l.text) ls) ∙ before)

text_bound : (table : List (List ℕ)) (text : List ℕ) → length (with_text table text) ≤ length table + 1
text_bound table text = go (list_any (bytes_eq text) table)
  where
    go : (b : Bool) → length (cond b table (table ++ text ∷ [])) ≤ length table + 1
    go true = omega arith
    go false = omega (arith, length-append table (text ∷ []))

pub names_bound : (tables : Tables) (k : TokenKind) (text : List ℕ) → length (names_with tables k text) ≤ length tables.names + 1
names_bound tables kind.Name text = go (quoted_name tables.before text)
  where
    go : (o : Option ℕ) → length (with_name tables.names text o) ≤ length tables.names + 1
    go None = text_bound tables.names text
    go (Some n) = omega arith
names_bound tables kind.Keyword text = omega arith
names_bound tables kind.Mark text = omega arith
names_bound tables kind.Number text = omega arith
names_bound tables kind.Char text = omega arith
names_bound tables kind.Text text = omega arith

pub texts_bound : (tables : Tables) (k : TokenKind) (text : List ℕ) → length (texts_with tables k text) ≤ length tables.texts + 1
texts_bound tables kind.Text text = text_bound tables.texts (text_value text)
texts_bound tables kind.Name text = omega arith
texts_bound tables kind.Keyword text = omega arith
texts_bound tables kind.Mark text = omega arith
texts_bound tables kind.Number text = omega arith
texts_bound tables kind.Char text = omega arith
