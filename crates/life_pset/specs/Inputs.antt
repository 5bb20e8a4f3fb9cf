-- Pointers that a caller hands over, as definitions see them.
use Rattle.life_pset.specs.Elements.{Input}
use Rattle.life_pset.specs.declared.input_list.InputPointer.{InputPointer}

abbrev pub input_seen : InputPointer → Input
input_seen i = record { pointer = i.pointer; ty = i.ty; root = i.root }
