-- Rules that add no types, and what a function of the program returned against them.
use Rattle.std.specs.Prelude.{◌≡◌, Result, Ok, Err}
use Rattle.life_types.specs.declared.place.Place.{Place}
use Rattle.life_names.specs.Checked.{Ill}
use Rattle.life_names.specs.declared.fault.IllFault.{IllFault}
use Rattle.life_names.specs.declared.fault.IllFault.TheVariants as faults
use Rattle.life_names.specs.declared.fault.IllKind.{IllKind}

-- what follows, or the rule that is broken first
abbrev pub Answer : Type 0 → Type 0
Answer A = Result A Ill

-- rules that are kept, or the one that is broken first
abbrev pub Kept : Type 0
Kept = Answer (Unit {0})

-- one and then the next
infixl 10 ◌>>◌
abbrev pub ◌>>◌ : {A B : Type 0} → Answer A → (A → Answer B) → Answer B
(Ok x) >> f = f x
(Err e) >> f = Err e

abbrev pub ill : IllKind → Place → Ill
ill kind place = record { kind = kind; place = place }

-- ---- what a function of the program returned, against this

-- memory ran out, or the same rule is broken at the same place
abbrev pub Tells : {A : Type 0} → IllFault → Answer A → Type 0
Tells faults.NoMemory answer = Unit {0}
Tells (faults.Ill kind place) answer = answer ≡ Err (ill kind place)

-- what was returned, seen by view, is what follows, unless memory ran out
abbrev pub Answers : {X A : Type 0} → (X → A) → Result X IllFault → Answer A → Type 0
Answers view (Ok x) answer = answer ≡ Ok (view x)
Answers view (Err e) answer = Tells e answer

-- .. of rules alone
abbrev pub Follows : {X : Type 0} → Result X IllFault → Kept → Type 0
Follows (Ok x) kept = kept ≡ Ok tt
Follows (Err e) kept = Tells e kept
