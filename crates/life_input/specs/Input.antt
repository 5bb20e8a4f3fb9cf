-- The numbers of a file, or which of its words is refused.
use Rattle.std.specs.Prelude.{◌≡◌, ℕ, ℤ, nat_lt, List, [], ◌∷◌, ◌++◌, length, Option, Some, None, Result, Ok, Err, if◌then◌else◌}
use Rattle.std.specs.declared.alloc.Global.{Global}
use Rattle.std.specs.declared.vec.Vec.{Vec}
use Rattle.life_input.specs.Numbers.{number_of}
use Rattle.life_input.specs.Words.{Word, words_of}
use Rattle.life_input.specs.declared.fault.InputFault.{InputFault}
use Rattle.life_input.specs.declared.fault.InputFault.TheVariants as fault

abbrev pub most_numbers : ℕ
most_numbers = 65536

-- the number of a word behind so many others
abbrev pub admitted : ℕ → List ℕ → Option ℤ
admitted count word = if nat_lt count most_numbers then number_of word else None

-- reading goes on behind a word that is admitted
abbrev pub with_number : (ℤ → Result (List ℤ) ℕ) → ℕ → Option ℤ → Result (List ℤ) ℕ
with_number more offset None = Err offset
with_number more offset (Some number) = more number

-- the numbers so far with those of the words behind them, or the offset of the first word that isn't admitted
abbrev pub numbers_from : List ℤ → List Word → Result (List ℤ) ℕ
numbers_from so_far [] = Ok so_far
numbers_from so_far (word ∷ words) =
    with_number (λ number. numbers_from (so_far ++ number ∷ []) words) word.offset (admitted (length so_far) word.text)

abbrev pub numbers_in : List ℕ → Result (List ℤ) ℕ
numbers_in bytes = numbers_from [] (words_of bytes)

-- what was read is that, want of memory aside
abbrev pub Reads : Result (List ℤ) ℕ → Result (Vec ℤ Global) InputFault → Type 0
Reads wanted (Ok numbers) = wanted ≡ Ok numbers.items
Reads wanted (Err (fault.Refused offset)) = wanted ≡ Err offset
Reads wanted (Err fault.NoMemory) = Unit {0}
