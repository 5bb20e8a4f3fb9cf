-- A file as it is read: whole, where it has no more bytes than it may have.
use Rattle.std.specs.Prelude.{◌≡◌, ◌≤◌, ℕ, nat_lt, List, length, Option, None, Some, IfSome, Result, Ok, Err, if◌then◌else◌}
use Rattle.life_base.specs.Causes.{Rose}
use Rattle.life_cli.specs.declared.fetch.Fetched.{Fetched}
use Rattle.life_cli.specs.declared.fetch.Fetched.TheVariants as fetched
use Rattle.life_cli.specs.declared.stop.Stop.{Stop}
use Rattle.life_cli.specs.declared.stop.Stop.TheVariants as stop

-- a file has at most so many bytes
abbrev pub most_bytes : ℕ
most_bytes = 1048576

pub data FileText : Type 0 where
  Absent : FileText
  TooLong : FileText
  Holds : List ℕ → FileText

abbrev pub bytes_text : List ℕ → FileText
bytes_text bytes = if nat_lt most_bytes (length bytes) then TooLong else Holds bytes

-- the file of a name, if there is one
abbrev pub file_text : Option (List ℕ) → FileText
file_text None = Absent
file_text (Some bytes) = bytes_text bytes

-- ---- what was fetched

abbrev pub text_fetched : Fetched → FileText
text_fetched fetched.Absent = Absent
text_fetched fetched.TooLong = TooLong
text_fetched (fetched.Bytes bytes) = Holds bytes.items

abbrev pub IsShort : Fetched → Type 0
IsShort fetched.Absent = Unit {0}
IsShort fetched.TooLong = Unit {0}
IsShort (fetched.Bytes bytes) = length bytes.items ≤ most_bytes

-- it is the text, where that is told, and no count rose; else memory was wanted, or the files' count rose
abbrev pub Fetches : Option FileText → ℕ → ℕ → Result Fetched Stop → Type 0
Fetches text reads reads' (Ok got) = (reads' ≡ reads) × (IfSome text (λ t. t ≡ text_fetched got) × IsShort got)
Fetches text reads reads' (Err stop.NoMemory) = reads' ≡ reads
Fetches text reads reads' (Err stop.ReadFault) = Rose reads reads'
Fetches text reads reads' (Err stop.WriteFault) = ⊥
