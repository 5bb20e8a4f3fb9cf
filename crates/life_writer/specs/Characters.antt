-- Characters: of strings, views, literals and single ones, as they are joined, appended, compared and printed.
use Rattle.std.specs.Prelude.{ℕ, None}
use Rattle.life_types.specs.declared.place.Place.{Place}
use Rattle.life_types.specs.declared.ty.Ty.{Ty}
use Rattle.life_types.specs.declared.ty.Ty.TheVariants as ty
use Rattle.life_core.specs.Operands.{Characters, Location, Operand, Single, View, Whole, whole}
use Rattle.life_core.specs.Step.{Append, Change, Changes, Set}
use Rattle.life_writer.specs.Pointers.{aimed, located}
use Rattle.life_writer.specs.Uses.{Act, Uses, own}
use Rattle.life_writer.specs.Using.{operand, pointer, value}
use Rattle.life_writer.specs.Writing.{State, Gives, gives, ◌>>◌, emit, mapped}

-- where they are found, once all that stands before is written: a string at a place, with its own place in the file, what a view sees, or a single one
pub data Seen : Type 0 where
  InString : Place → Operand → Seen
  InView : Location → Seen
  InRegister : ℕ → Seen

-- a char isn't decided by tests, so no token behind it is asked for; an iterator is compared as a view is
abbrev pub seen_by : Ty → Uses → State → Gives Seen
seen_by ty.Text e s = mapped (InString e.place) (operand e s)
seen_by ty.Char e s = mapped InRegister (value e e.place ty.Char None s)
seen_by _ e s = mapped InView (pointer e ty.View s)

abbrev pub seen : Uses → State → Gives Seen
seen e s = seen_by (own e) e s

-- a string is read through a view of the whole of it, which is made right before the instruction that reads it
abbrev pub viewed : Seen → State → Gives Location
viewed (InString place o) s = located place ty.View (aimed (Whole o)) s
viewed (InView l) s = gives l s
viewed (InRegister r) s = gives (whole r) s

abbrev pub characters : Seen → State → Gives Characters
characters (InString place o) s = mapped View (viewed (InString place o) s)
characters (InView l) s = gives (View l) s
characters (InRegister r) s = gives (Single r) s

-- a string takes them, or gains them at its end
abbrev pub changed_by : (Characters → Change) → (at : Place) → Seen → Operand → State → State
changed_by change at from to s = characters from s >> λ c s. emit at (Changes to (change c)) s

-- two texts, one behind the other (ISO/IEC 14882:2017 [string.op+])
abbrev pub concatenated : (at : Place) → (left right : Seen) → Act
concatenated at left right place to s = changed_by Append at right to (changed_by Set at left to s)
