-- What is passed over between tokens.
use Rattle.std.specs.Prelude.{ℕ, ◌+◌, Bool, ◌&&◌, ◌==◌, List, [], ◌∷◌, Option, Some, None, if◌then◌else◌}
use Rattle.life_lex.specs.Bytes.{is_white}
use Rattle.life_lex.specs.Comments.{comment_rest_len}
use Rattle.life_lex.specs.Directives.{is_directive}
use Rattle.life_lex.specs.Lengths.{line_len, plus}

-- How long the gap in front is, if there is one: a byte of white space, a comment or a directive line.
-- `line_blank`: only spaces and tabs stand before it on its line.
abbrev pub gap_len : Bool → List ℕ → Option ℕ
gap_len line_blank [] = None
gap_len line_blank (b ∷ bs) =
    if is_white b then Some 1 else
    (if b == 47 then plus 1 (comment_rest_len bs) else
    (if line_blank && (b == 35) && is_directive bs then Some (1 + line_len bs) else None))
