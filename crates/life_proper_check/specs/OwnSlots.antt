-- No two slots are handed one local: what a call hands over tells so by itself, whatever the program.
use Rattle.std.specs.Prelude.{Bool, true, false, ◌&&◌, not, List, [], ◌∷◌}
use Rattle.std.specs.List.{list_any}
use Rattle.life_core.specs.Operands.{Argument, Location, Slot}
use Rattle.life_proper.specs.WellFormed.{are_one}

abbrev pub is_handed_as : Location → Argument → Bool
is_handed_as l (Slot m) = are_one l m
is_handed_as l _ = false

-- what is handed over isn't among what comes behind it
abbrev pub is_own_slot : Argument → List Argument → Bool
is_own_slot (Slot l) xs = not (list_any (is_handed_as l) xs)
is_own_slot _ xs = true

abbrev pub are_own_slots : List Argument → Bool
are_own_slots [] = true
are_own_slots (x ∷ xs) = is_own_slot x xs && are_own_slots xs
