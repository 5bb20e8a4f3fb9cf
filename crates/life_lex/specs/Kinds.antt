-- The kind of a token, by its text.
use Rattle.std.specs.Prelude.{ℕ, ◌==◌, List, [], ◌∷◌, if◌then◌else◌}
use Rattle.std.specs.Char.{is_ascii_digit}
use Rattle.life_lex.specs.Bytes.{is_nondigit}
use Rattle.life_lex.specs.Keywords.{is_keyword}
use Rattle.life_lex.specs.declared.token.TokenKind.{TokenKind}
use Rattle.life_lex.specs.declared.token.TokenKind.TheVariants.{Name, Keyword, Number, Char, Text, Mark}

abbrev pub kind_of : List ℕ → TokenKind
kind_of [] = Mark
kind_of (b ∷ bs) =
    if is_nondigit b then (if is_keyword (b ∷ bs) then Keyword else Name) else
    (if is_ascii_digit b then Number else
    (if b == 39 then Char else
    (if b == 34 then Text else Mark)))
