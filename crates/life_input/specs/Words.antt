-- The words of a file, each with its place.
use Rattle.std.specs.Prelude.{ℕ, ◌+◌, Bool, true, false, not, ◌&&◌, ◌||◌, ◌==◌, List, [], ◌∷◌}
use Rattle.std.specs.List.{take_while}

-- a word, and how many bytes stand before it
pub record Word : Type 0 where
  pub offset : ℕ
  pub text : List ℕ

-- what stands between words: the bytes 9, 10, 13 and 32
abbrev pub is_gap : ℕ → Bool
is_gap b = (b == 9) || ((b == 10) || ((b == 13) || (b == 32)))

abbrev pub is_word_byte : ℕ → Bool
is_word_byte b = not (is_gap b)

abbrev pub with_word : Bool → ℕ → List ℕ → List Word → List Word
with_word true at bytes words = record { offset = at; text = take_while is_word_byte bytes } ∷ words
with_word false at bytes words = words

-- the words that begin in these bytes, which stand behind so many others: one begins at each byte of a word that stands first, or behind a gap
abbrev pub words_from : Bool → ℕ → List ℕ → List Word
words_from may_begin at [] = []
words_from may_begin at (b ∷ bs) = with_word (may_begin && is_word_byte b) at (b ∷ bs) (words_from (is_gap b) (at + 1) bs)

abbrev pub words_of : List ℕ → List Word
words_of bytes = words_from true 0 bytes
