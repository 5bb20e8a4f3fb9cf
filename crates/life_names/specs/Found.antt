-- What is found without the table of types: it is there, or a rule is broken.
use Rattle.std.specs.Prelude.{◌≡◌, Option, None, Some, Result, Ok, Err}
use Rattle.life_types.specs.Types.{Types}
use Rattle.life_types.specs.declared.place.Place.{Place}
use Rattle.life_names.specs.Checked.{Checked, Ill}
use Rattle.life_names.specs.declared.fault.IllFault.{IllFault}
use Rattle.life_names.specs.declared.fault.IllFault.TheVariants as faults
use Rattle.life_names.specs.declared.fault.IllKind.{IllKind}

abbrev pub Found : Type 0 → Type 0
Found A = Result A Ill

abbrev pub not_found : {A : Type 0} → IllKind → Place → Found A
not_found kind place = Err (record { kind = kind; place = place })

-- what is checked with what was found
abbrev pub given : {A B : Type 0} → Found A → (A → Checked B) → Checked B
given (Ok x) check = check x
given (Err e) check = Err e

-- .. where there are these types
abbrev pub found_in : {A : Type 0} → Types → Found A → Checked A
found_in types (Ok x) = Ok (x, types)
found_in types (Err e) = Err e

-- what is found with what was found
abbrev pub found_with : {A B : Type 0} → Found A → (A → Found B) → Found B
found_with (Ok x) find = find x
found_with (Err e) find = Err e

-- no rule is broken, or this one is at this place
abbrev pub allowed : Option IllKind → Place → Found (Unit {0})
allowed None place = Ok tt
allowed (Some kind) place = not_found kind place

-- ---- what a function of the program returned, against this

-- memory ran out, or the same rule is broken at the same place
abbrev pub Misses : {Y : Type 0} → IllFault → Found Y → Type 0
Misses faults.NoMemory found = Unit {0}
Misses (faults.Ill kind place) found = found ≡ not_found kind place

abbrev pub Finds : {X Y : Type 0} → (X → Y) → Result X IllFault → Found Y → Type 0
Finds view (Ok x) found = found ≡ Ok (view x)
Finds view (Err e) found = Misses e found
