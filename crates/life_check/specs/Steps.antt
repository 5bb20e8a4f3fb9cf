-- How many steps the check of a text takes.
use Rattle.std.specs.Prelude.{◌≤◌, ◌+◌, ℕ}
use Rattle.life_fix.specs.Programs.{most_program_steps}
use Rattle.life_check.specs.CheckedText.{Faulty, Finding, Listed}

-- how many the solver takes at most on the way to what was found: none on the way to a fault
abbrev pub most_steps_to : Finding → ℕ
most_steps_to (Faulty fault) = 0
most_steps_to (Listed p diagnostics) = most_program_steps p

-- there are no more of them than on the way to what is such, whatever was answered: memory may have been wanted, too
abbrev pub TakesFew : (Finding → Type 0) → (before after : ℕ) → Type 0
TakesFew IsSuch before after = (finding : Finding) → IsSuch finding → after ≤ before + most_steps_to finding
