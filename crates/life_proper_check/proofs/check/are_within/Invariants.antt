use Rattle.std.proofs.Common.{drop, map}
use Rattle.life_core.specs.Function.{function_of}
use Rattle.life_proper_check.specs.Deciding.{AreWithin}
use Rattle.life_proper_check.proofs.check.are_within.Given as goal

-- what is left decides
abbrev pub invariant-loop-f : goal.invariant-loop-f
invariant-loop-f l = AreWithin l.p.types (map function_of (drop l.f-index l.p.functions.items)) → AreWithin l.p.types (map function_of l.p.functions.items)
