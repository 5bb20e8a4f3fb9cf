-- Operators and punctuation.
use Rattle.std.specs.Prelude.{ℕ, Bool, false, ◌==◌, List, [], ◌∷◌, codes}
use Rattle.std.specs.List.{list_any}
use Rattle.std.specs.Str.{bytes_eq}

-- the marks of one byte
abbrev pub short_marks : List ℕ
short_marks = codes "{}()[];,.&*+-/%!=<>:"

-- the marks of two bytes; there is no `>>`
abbrev pub long_marks : List (List ℕ)
long_marks =
    codes "->" ∷ codes "&&" ∷ codes "||" ∷ codes "==" ∷ codes "!=" ∷ codes "<=" ∷ codes ">=" ∷ codes "<<" ∷ codes "++" ∷ codes "--"
    ∷ codes "+=" ∷ codes "-=" ∷ codes "*=" ∷ codes "/=" ∷ codes "%=" ∷ codes "::" ∷ []

abbrev pub is_short_mark : ℕ → Bool
is_short_mark b = list_any (λ m. m == b) short_marks

abbrev pub is_long_mark : ℕ → ℕ → Bool
is_long_mark b c = list_any (λ m. bytes_eq m (b ∷ c ∷ [])) long_marks

-- what stands behind the first byte of a mark
abbrev pub is_mark_rest : ℕ → List ℕ → Bool
is_mark_rest b [] = is_short_mark b
is_mark_rest b (c ∷ []) = is_long_mark b c
is_mark_rest b (c ∷ d ∷ bs) = false
