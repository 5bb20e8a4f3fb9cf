-- The input of a run.
use Rattle.std.specs.Prelude.{◌++◌, ℕ, ℤ, List, [], Option, None, Some, Result, Ok, Err, codes, decimal}
use Rattle.life_base.specs.Edges.{Directory}
use Rattle.life_input.specs.Input.{numbers_in}
use Rattle.life_cli.specs.Answer.{Answer, refusal}
use Rattle.life_cli.specs.FileText.{FileText, Absent, TooLong, Holds, file_text}
use Rattle.life_cli.specs.declared.status.Status.TheVariants.{Input, Limit, NoFile}

-- the numbers of the input, or the answer to why it has none
abbrev pub Numbers : Type 0
Numbers = Result (List ℤ) Answer

abbrev pub numbers_or : Result (List ℤ) ℕ → Numbers
numbers_or (Ok numbers) = Ok numbers
numbers_or (Err offset) = Err (refusal Input (codes "input offset " ++ decimal offset ++ codes ": refused"))

abbrev pub input_in : List ℕ → FileText → Numbers
input_in name Absent = Err (refusal NoFile (codes "no file " ++ name))
input_in name TooLong = Err (refusal Limit (codes "limit: input"))
input_in name (Holds bytes) = numbers_or (numbers_in bytes)

-- without a file's name the input is empty
abbrev pub input_of : Option (List ℕ) → Directory → Numbers
input_of None directory = Ok []
input_of (Some name) directory = input_in name (file_text (directory name))
