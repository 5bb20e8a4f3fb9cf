-- What the rules ask of the functions of a core program beside the limits that files may pass.
use Rattle.std.specs.Prelude.{◌<◌, ◌^◌, List, [], ◌∷◌, length}
use Rattle.life_types.specs.Types.{Types}
use Rattle.life_core.specs.Function.{Function}
use Rattle.life_pset.specs.Elements.{AreShort, elements_of}

-- the locals of each have numbers of 32 bits
abbrev pub HaveNumberedLocals : List Function → Type 0
HaveNumberedLocals [] = Unit {0}
HaveNumberedLocals (f ∷ fs) = (length f.locals < 2 ^ 32) × HaveNumberedLocals fs

-- the places of each have at most eight steps
abbrev pub HaveShortPlaces : Types → List Function → Type 0
HaveShortPlaces types [] = Unit {0}
HaveShortPlaces types (f ∷ fs) = AreShort (elements_of types f) × HaveShortPlaces types fs
