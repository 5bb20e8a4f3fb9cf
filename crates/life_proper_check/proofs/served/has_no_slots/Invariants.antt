use Rattle.std.proofs.Common.{◌≡◌, drop, map}
use Rattle.std.specs.List.{list_all}
use Rattle.life_core.specs.Function.{function_of}
use Rattle.life_core_served.specs.Served.{lacks_slots}
use Rattle.life_proper_check.proofs.served.has_no_slots.Given as goal

-- what is left decides
abbrev pub invariant-loop-f : goal.invariant-loop-f
invariant-loop-f l = list_all (lacks_slots l.p.types) (map function_of (drop l.f-index l.p.functions.items)) ≡ list_all (lacks_slots l.p.types) (map function_of l.p.functions.items)
