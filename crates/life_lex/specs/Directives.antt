-- Directive lines, behind their `#`.
use Rattle.std.specs.Prelude.{ℕ, Bool, true, false, nat_eq, not, ◌&&◌, ◌||◌, List, [], ◌∷◌, length, drop, codes}
use Rattle.std.specs.List.{starts_with, prefix_len}
use Rattle.life_lex.specs.Bytes.{is_blank, is_word_byte}

-- no letter, digit or `_` in front
abbrev pub ends_word : List ℕ → Bool
ends_word [] = true
ends_word (b ∷ bs) = not (is_word_byte b)

-- a word in front, and no letter, digit or `_` behind it
abbrev pub starts_with_word : List ℕ → List ℕ → Bool
starts_with_word bytes word = starts_with nat_eq bytes word && ends_word (drop (length word) bytes)

-- a space or a tab in front
abbrev pub starts_blank : List ℕ → Bool
starts_blank [] = false
starts_blank (b ∷ bs) = is_blank b

abbrev pub skip_blanks : List ℕ → List ℕ
skip_blanks bytes = drop (prefix_len is_blank bytes) bytes

-- `pragma`, at least one space or tab, and `once`
abbrev pub is_pragma_once : List ℕ → Bool
is_pragma_once bytes =
    let rest = drop 6 bytes in
    starts_with nat_eq bytes (codes "pragma") && starts_blank rest && starts_with_word (skip_blanks rest) (codes "once")

-- any number of spaces and tabs, and then `include` or `pragma once`
abbrev pub is_directive : List ℕ → Bool
is_directive bytes =
    let words = skip_blanks bytes in
    starts_with_word words (codes "include") || is_pragma_once words
