-- Checking goes through the text in its order, parts before what they are parts of, and ends at the first rule that is broken. The table of types grows as new ones are met.
use Rattle.std.specs.Prelude.{◌≡◌, Result, Ok, Err}
use Rattle.life_types.specs.Types.{Types}
use Rattle.life_types.specs.declared.place.Place.{Place}
use Rattle.life_names.specs.declared.fault.IllFault.{IllFault}
use Rattle.life_names.specs.declared.fault.IllFault.TheVariants as faults
use Rattle.life_names.specs.declared.fault.IllKind.{IllKind}

-- the rule that is broken, and where
pub record Ill : Type 0 where
  pub kind : IllKind
  pub place : Place

-- what was found, with the types that there are then
abbrev pub Checked : Type 0 → Type 0
Checked A = Result (A × Types) Ill

infixl 10 ◌>>=◌
abbrev pub ◌>>=◌ : {A B : Type 0} → Checked A → (A × Types → Checked B) → Checked B
(Ok x) >>= f = f x
(Err e) >>= f = Err e

abbrev pub broken : {A : Type 0} → IllKind → Place → Checked A
broken kind place = Err (record { kind = kind; place = place })

-- ---- what a function of the program returned, against this

-- memory ran out, or the same rule is broken at the same place
abbrev pub Fails : {Y : Type 0} → IllFault → Checked Y → Type 0
Fails faults.NoMemory checked = Unit {0}
Fails (faults.Ill kind place) checked = checked ≡ broken kind place

-- what was returned, seen by view, with the types after it, is what checking gives, unless memory ran out
abbrev pub Gives : {X Y : Type 0} → (X → Y) → Types → Result X IllFault → Checked Y → Type 0
Gives view after (Ok x) checked = checked ≡ Ok (view x, after)
Gives view after (Err e) checked = Fails e checked
