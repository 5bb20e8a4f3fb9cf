use Rattle.std.proofs.Common.{◌≡◌, drop, map}
use Rattle.std.specs.List.{list_any}
use Rattle.life_core.specs.Operands.{argument_of, location_of}
use Rattle.life_proper_check.specs.OwnSlots.{is_handed_as}
use Rattle.life_proper_check.proofs.forms.is_among.Given as goal

-- what is left decides
abbrev pub invariant-loop-argument : goal.invariant-loop-argument
invariant-loop-argument l =
    list_any (is_handed_as (location_of l.l)) (map argument_of (drop l.argument-index l.arguments)) ≡ list_any (is_handed_as (location_of l.l)) (map argument_of l.arguments)
