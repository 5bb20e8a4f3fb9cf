-- What literals stand for.
use Rattle.std.specs.Prelude.{ℕ, Bool, true, false, ◌-◌, ◌==◌, List, [], ◌∷◌, length, take, if◌then◌else◌}

-- what stands for this behind a backslash
abbrev pub escaped : ℕ → ℕ
escaped b = if b == 110 then 10 else (if b == 116 then 9 else (if b == 48 then 0 else b))

-- the value of a character literal
abbrev pub character_value : List ℕ → ℕ
character_value [] = 0
character_value (quote ∷ []) = 0
character_value (quote ∷ b ∷ []) = b
character_value (quote ∷ b ∷ c ∷ bs) = if b == 92 then escaped c else b

-- bytes, with what their escapes stand for, behind a backslash or not
abbrev pub unescaped : Bool → List ℕ → List ℕ
unescaped backslash [] = []
unescaped true (b ∷ bs) = escaped b ∷ unescaped false bs
unescaped false (b ∷ bs) = if b == 92 then unescaped true bs else b ∷ unescaped false bs

-- the bytes that a string literal stands for: those between its quotes
abbrev pub text_value : List ℕ → List ℕ
text_value [] = []
text_value (quote ∷ bs) = unescaped false (take (length bs - 1) bs)
