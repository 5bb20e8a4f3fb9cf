use Rattle.std.proofs.Common.{◌≡◌, drop, map}
use Rattle.std.specs.List.{list_all}
use Rattle.life_core.specs.Function.{function_of}
use Rattle.life_proper.specs.GivenOver.{all_keep_given}
use Rattle.life_proper_check.proofs.kept.keeps_all_given.Given as goal

-- what is left decides
abbrev pub invariant-loop-f : goal.invariant-loop-f
invariant-loop-f l = list_all (all_keep_given l.p.types) (map function_of (drop l.f-index l.p.functions.items)) ≡ list_all (all_keep_given l.p.types) (map function_of l.p.functions.items)
