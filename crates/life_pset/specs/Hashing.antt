-- What is fed to a hasher: enough to tell most places and elements of a function apart, and no more.
use Rattle.std.specs.Prelude.{ℕ, ◌+◌, ◌*◌, [], ◌∷◌, ◌++◌}
use Rattle.std.specs.Hash as fed
use Rattle.life_pset.specs.declared.element.AbsPlace.{AbsPlace}
use Rattle.life_pset.specs.declared.element.Cause.{Cause}
use Rattle.life_pset.specs.declared.element.Element.{Element}
use Rattle.life_pset.specs.declared.element.Element.TheVariants.{Null, Invalid, Moved, Own, Static, At}
use Rattle.life_pset.specs.declared.element.Root.{Root}
use Rattle.life_pset.specs.declared.element.Root.TheVariants.{Local, Input}

-- a root's number among those of its kind
abbrev pub root_number : Root → ℕ
root_number (Local local) = local
root_number (Input parameter member) = parameter

abbrev pub place_fed : AbsPlace → fed.HashWrites
place_fed p = fed.u32 (root_number p.root) ++ (p.steps ∷ [])

-- the line above the column
abbrev pub cause_fed : Cause → fed.HashWrites
cause_fed c = fed.u64 (c.place.line * 4294967296 + c.place.column) ++ fed.u32 c.root

abbrev pub element_fed : Element → fed.HashWrites
element_fed Null = fed.u8 0
element_fed (Invalid c) = cause_fed c
element_fed (Moved c) = cause_fed c
element_fed Own = fed.u8 1
element_fed Static = fed.u8 2
element_fed (At p) = place_fed p
