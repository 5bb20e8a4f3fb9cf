-- The answer to words that ask for nothing.
use Rattle.std.specs.Prelude.{◌++◌, ℕ, List, [], codes}
use Rattle.life_job.specs.Refusals.{Told, Help, Version, Lacking, Named}
use Rattle.life_job.specs.Texts.{help_text, version_text}
use Rattle.life_cli.specs.Answer.{Answer, line}
use Rattle.life_cli.specs.declared.status.Status.TheVariants.{Usage}

abbrev pub usage : List ℕ
usage = codes "usage: lifecheck COMMAND FILE [OPTIONS]"

-- on out stands what the words ask to be told of the program
abbrev pub shown : Told → List ℕ
shown Help = help_text
shown Version = version_text
shown Lacking = []
shown (Named word) = []

-- on err how it is called, and then the line that names a wrong word
abbrev pub complaint : Told → List ℕ
complaint Help = line usage
complaint Version = line usage
complaint Lacking = line usage
complaint (Named word) = line usage ++ line word

abbrev pub no_job : Told → Answer
no_job told = record { status = Usage; out = shown told; err = complaint told }
