-- What one turn of a loop over the locals makes of a local.
use Rattle.std.specs.Prelude.{ℕ, zero, suc, Bool, true, false, if◌then◌else◌, Option, Some, None}
use Rattle.life_core.specs.declared.program.Local.{Local}
use Rattle.life_proper.specs.declared.known.Known.{Known}
use Rattle.life_proper.specs.declared.known.Known.TheVariants as known
use Rattle.life_proper.specs.Knowing.{is_forgotten}

-- at the head of a loop
abbrev pub kept_by : Option Local → Known → Known
kept_by None k = k
kept_by (Some l) k = if is_forgotten l k then known.Unknown else k

-- at the entry, where so many parameters are left
abbrev pub given_first : ℕ → Bool
given_first zero = false
given_first (suc n) = true
