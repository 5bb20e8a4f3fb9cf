-- What reading a file takes of it, and why a file was not read to its end.
use Rattle.std.specs.Prelude.{◌≡◌, ◌≤◌, ◌++◌, ℕ, List, length, Option, Result, OnOk, IsErrOf}
use Rattle.std.specs.Io.KnownBytes.{Consumes, IsAtEnd}
use Rattle.life_base.specs.Causes.{Rose}
use Rattle.life_base.specs.declared.pieces.ReadError.{ReadError}
use Rattle.life_base.specs.declared.pieces.ReadError.TheVariants.{Failed, NoMemory}

-- at most so many bytes were taken
abbrev pub ConsumesUpTo : ℕ → Option (List ℕ) → Option (List ℕ) → Type 0
ConsumesUpTo most rest rest' = (got : List ℕ) × (length got ≤ most) × Consumes rest rest' got

-- n bytes and at most so many were taken, and stand behind the bytes so far; none only at the end
pub record GainsPiece (most : ℕ) (rest rest' : Option (List ℕ)) (bytes bytes' : List ℕ) (n : ℕ) : Type 0 where
  pub got : List ℕ
  pub count : length got ≡ n
  pub bound : n ≤ most
  pub gained : bytes' ≡ bytes ++ got
  pub taken : Consumes rest rest' got
  pub ended : n ≡ 0 → IsAtEnd rest'

-- the count never falls; a fault is told only where it rose, and any other answer leaves it
pub record HasReadCause {T : Type 0} (before now : ℕ) (result : Result T ReadError) : Type 0 where
  pub later : before ≤ now
  pub quiet : OnOk result (now ≡ before)
  pub memory : IsErrOf result NoMemory → now ≡ before
  pub failed : IsErrOf result Failed → Rose before now
