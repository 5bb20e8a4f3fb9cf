-- Comments.
use Rattle.std.specs.Prelude.{ℕ, ◌+◌, Bool, nat_eq, ◌==◌, List, [], ◌∷◌, Option, Some, None, if◌then◌else◌, codes}
use Rattle.std.specs.List.{starts_with}
use Rattle.life_lex.specs.Lengths.{line_len, plus}

-- how many bytes stand up to the end of the first `*/`, if there is one
abbrev pub close_len : List ℕ → Option ℕ
close_len [] = None
close_len (b ∷ bs) = if starts_with nat_eq (b ∷ bs) (codes "*/") then Some 2 else plus 1 (close_len bs)

-- a `/*` in front
abbrev pub opens_comment : List ℕ → Bool
opens_comment bytes = starts_with nat_eq bytes (codes "/*")

-- behind a `/`: how long the comment is without that, if one begins there
abbrev pub comment_rest_len : List ℕ → Option ℕ
comment_rest_len [] = None
comment_rest_len (b ∷ bs) =
    if b == 47 then Some (1 + line_len bs) else
    (if b == 42 then plus 1 (close_len bs) else None)
