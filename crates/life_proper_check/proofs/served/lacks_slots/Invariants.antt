use Rattle.std.proofs.Common.{◌≡◌, drop}
use Rattle.std.specs.List.{list_all}
use Rattle.life_core_served.specs.Served.{is_no_slot}
use Rattle.life_proper_check.proofs.served.lacks_slots.Given as goal

-- what is left decides
abbrev pub invariant-loop-local : goal.invariant-loop-local
invariant-loop-local l = list_all (is_no_slot l.types) (drop l.local-index l.f.locals.items) ≡ list_all (is_no_slot l.types) l.f.locals.items
