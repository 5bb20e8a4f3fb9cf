use Rattle.std.proofs.Common.{◌≡◌, drop, map}
use Rattle.life_core.specs.Operands.{argument_of}
use Rattle.life_proper.specs.GivenOver.{is_handed_in}
use Rattle.life_proper_check.proofs.kept.is_handed.Given as goal

-- what is left decides
abbrev pub invariant-loop-argument : goal.invariant-loop-argument
invariant-loop-argument l = is_handed_in (map argument_of (drop l.argument-index l.arguments)) l.x ≡ is_handed_in (map argument_of l.arguments) l.x
