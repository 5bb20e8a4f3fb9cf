-- What is served of core programs so far: those in which no local is a slot.
use Rattle.std.specs.Prelude.{Bool, not}
use Rattle.std.specs.List.{list_all}
use Rattle.life_types.specs.Types.{Types, is_slot_at}
use Rattle.life_core.specs.declared.program.Local.{Local}
use Rattle.life_core.specs.Function.{Function, Program}

abbrev pub is_no_slot : Types → Local → Bool
is_no_slot types l = not (is_slot_at types l.ty)

abbrev pub lacks_slots : Types → Function → Bool
lacks_slots types f = list_all (is_no_slot types) f.locals

abbrev pub has_no_slots : Program → Bool
has_no_slots p = list_all (lacks_slots p.types) p.functions
