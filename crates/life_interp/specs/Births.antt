-- How owners, structs and spans come to life in the machine.
use Rattle.std.specs.Prelude.{◌≡◌, ℕ, Option, Some, Result, MatchResult}
use Rattle.life_types.specs.declared.ty.Ty.{Ty}
use Rattle.life_types.specs.declared.ty.Ty.TheVariants as ty
use Rattle.life_store.specs.Content.{Content}
use Rattle.life_store.specs.Effects.{Attempt, Got, GotTrap}
use Rattle.life_store.specs.References.{Rows}
use Rattle.life_store.specs.declared.object.BirthFault.{BirthFault}
use Rattle.life_store.specs.declared.object.BirthFault.TheVariants as fault
use Rattle.life_store.specs.declared.object.ObjRef.{ObjRef}
use Rattle.life_store.specs.declared.run.TrapKind.TheVariants as trap
use Rattle.life_seen.specs.Housed.{IsRef, Shows}
use Rattle.life_seen.specs.Kinds.{Kinds}
use Rattle.life_interp.specs.declared.births.Birth.{Birth}
use Rattle.life_interp.specs.declared.births.Birth.TheVariants as birth
use Rattle.life_interp.specs.declared.ending.Ending.{Ending}
use Rattle.life_interp.specs.declared.ending.Ending.TheVariants as ending

-- what comes to life, by the type
abbrev pub birth_of : Option Ty → Birth
birth_of (Some ty.Text) = birth.Object
birth_of (Some (ty.Vector element)) = birth.Object
birth_of (Some (ty.Unique target)) = birth.Object
birth_of (Some (ty.Struct number)) = birth.Object
birth_of (Some (ty.Iterator target constant)) = birth.Wild
birth_of (Some ty.View) = birth.View
birth_of (Some (ty.Span target constant)) = birth.View
birth_of _ = birth.Nothing

abbrev pub unborn : BirthFault → Ending
unborn fault.Cells = ending.Trap trap.Cells
unborn fault.NoMemory = ending.NoMemory

-- why there is no object
abbrev pub BearsNothing : Attempt (ℕ × Content) → Ending → Type 0
BearsNothing meant (ending.Trap kind) = meant ≡ GotTrap kind
BearsNothing meant (ending.Fault kind) = ⊥
BearsNothing meant ending.Stray = ⊥
BearsNothing meant ending.NoMemory = Unit {0}
BearsNothing meant ending.WriteFault = ⊥

-- the object has the number that the meaning got, and the store shows what it got
abbrev pub BearsObject : Kinds → Attempt (ℕ × Content) → Content → Rows → Result ObjRef Ending → Type 0
BearsObject kinds meant c rows result = MatchResult result (λ (r : ObjRef). (m : Content) × (meant ≡ Got (r.birth, m)) × Shows kinds c rows m × IsRef c rows r) (BearsNothing meant)
