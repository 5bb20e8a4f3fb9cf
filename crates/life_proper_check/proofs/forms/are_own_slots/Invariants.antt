use Rattle.std.proofs.Common.{◌≡◌, drop, map}
use Rattle.life_core.specs.Operands.{argument_of}
use Rattle.life_proper_check.specs.OwnSlots.{are_own_slots}
use Rattle.life_proper_check.proofs.forms.are_own_slots.Given as goal

-- what is left decides
abbrev pub invariant-loop-number : goal.invariant-loop-number
invariant-loop-number l = are_own_slots (map argument_of (drop l.number l.arguments)) ≡ are_own_slots (map argument_of l.arguments)
