-- What is told of words that are no job.
use Rattle.std.specs.Prelude.{◌≡◌, ◌++◌, List, [], Option, Some, None, codes, string_bytes, unwrap_or}
use Rattle.clap.specs.Words.{Row, Text, first_of}
use Rattle.clap.specs.declared.error.kind.ErrorKind.{ErrorKind}
use Rattle.clap.specs.declared.error.kind.ErrorKind.TheVariants as kind
use Rattle.life_job.specs.declared.fault.Refusal.{Refusal}
use Rattle.life_job.specs.declared.fault.Refusal.TheVariants as refusal
use Rattle.life_job.specs.declared.fault.Wrong.{Wrong}
use Rattle.life_job.specs.declared.fault.Wrong.TheVariants.{Missing, Second, Command, Growth, Steps, Cells, Depth, Number, Size}

-- they ask for help, or for the version; a word is missing; or one is wrong, which a line tells
pub data Told : Type 0 where
  Help : Told
  Version : Told
  Lacking : Told
  Named : Text → Told

-- ---- the lines

-- the value of this name
abbrev pub value_in : Text → List Row → Text
value_in id rows = unwrap_or (first_of id rows) []

abbrev pub unexpected : Text → Text
unexpected word = codes "error: unexpected argument '" ++ word ++ codes "' found"

abbrev pub invalid : Text → Text → Text
invalid word wanted = codes "error: invalid value '" ++ (word ++ (codes "' for " ++ wanted))

-- the line that names what is wrong among the matches
abbrev pub told_wrong : Wrong → List Row → Told
told_wrong Missing rows = Lacking
told_wrong Second rows = Named (unexpected (value_in (codes "second") rows))
told_wrong Command rows = Named (invalid (value_in (codes "command") rows) (codes "COMMAND: check, run, psets or gen"))
told_wrong Growth rows = Named (invalid (value_in (codes "growth") rows) (codes "--growth: always or double"))
told_wrong Steps rows = Named (invalid (value_in (codes "steps") rows) (codes "--steps: 0 to 1000000000"))
told_wrong Cells rows = Named (invalid (value_in (codes "cells") rows) (codes "--cells: 0 to 10000000"))
told_wrong Depth rows = Named (invalid (value_in (codes "depth") rows) (codes "--depth: 1 to 10000"))
told_wrong Number rows = Named (invalid (value_in (codes "first") rows) (codes "NUMBER: 1 to 20 digits that fit 64 bits"))
told_wrong Size rows = Named (invalid (value_in (codes "second") rows) (codes "SIZE: 1 to 20 digits that fit 64 bits"))

-- ---- what clap refuses

-- of a fault of this kind this is told: where it is a word, in a line whose words clap chooses
abbrev pub IsToldOf : ErrorKind → Told → Type 0
IsToldOf kind.DisplayHelp told = told ≡ Help
IsToldOf kind.DisplayVersion told = told ≡ Version
IsToldOf kind.MissingRequiredArgument told = told ≡ Lacking
IsToldOf _ told = (line : Text) × (told ≡ Named line)

-- ---- what the code tells

-- nothing, where memory was wanted and not had
abbrev pub told_by : Refusal → Option Told
told_by refusal.Help = Some Help
told_by refusal.Version = Some Version
told_by refusal.Missing = Some Lacking
told_by (refusal.Wrong line) = Some (Named (string_bytes line))
told_by refusal.NoMemory = None
