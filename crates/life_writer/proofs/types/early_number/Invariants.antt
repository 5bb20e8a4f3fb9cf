use Rattle.std.proofs.Common.{◌≤◌}
use Rattle.life_writer.specs.Registers.{number_of}
use Rattle.life_writer.proofs.types.early_number.Given as goal

-- none that was looked at is the type
abbrev pub invariant-first : goal.invariant-first
invariant-first l = l.number ≤ number_of l.types.types l.ty
