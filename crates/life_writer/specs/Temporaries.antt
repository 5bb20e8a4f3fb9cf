-- Objects without names, by what becomes of them.
use Rattle.std.specs.Prelude.{ℕ, [], ◌∷◌, ◌++◌}
use Rattle.life_types.specs.declared.place.Place.{Place}
use Rattle.life_types.specs.declared.ty.Ty.{Ty}
use Rattle.life_types.specs.declared.ty.TyId.{TyId}
use Rattle.life_core.specs.declared.program.Local.{Local}
use Rattle.life_core.specs.declared.program.LocalKind.{LocalKind}
use Rattle.life_core.specs.declared.program.LocalKind.TheVariants.{Object, Range}
use Rattle.life_writer.specs.Building.{Destination}
use Rattle.life_writer.specs.Registers.{nameless, type_number, typed_with, with_local}
use Rattle.life_writer.specs.Writing.{State, Gives, gives}

-- a local of a kind without a name, which stands where it comes to life or is written first
abbrev pub nameless_of : LocalKind → Place → TyId → Local
nameless_of kind place t = record (nameless place t) { kind = kind }

abbrev pub with_nameless_of : LocalKind → Place → Ty → State → Gives ℕ
with_nameless_of kind place t s = with_local (nameless_of kind place (type_number t s)) s

abbrev pub new_nameless : LocalKind → Place → Ty → State → Gives ℕ
new_nameless kind place t s = with_nameless_of kind place t (typed_with t s)

-- ---- where it goes

-- it gives its value over, and isn't ended
abbrev pub consumed : Place → Ty → Destination
consumed place t = record { begins = new_nameless Object place t; place = place }

-- it ends with the full expression (ISO/IEC 14882:2017 [class.temporary])
abbrev pub with_pending : ℕ → State → State
with_pending x s = record s { pending = s.pending ++ x ∷ [] }

abbrev pub pending_local : Gives ℕ → Gives ℕ
pending_local w = gives w.given (with_pending w.given w.state)

abbrev pub temporary : Place → Ty → Destination
temporary place t = record { begins = λ s. pending_local (new_nameless Object place t s); place = place }

-- it ends with the scope of a reference, or of a range, that is declared right behind it
abbrev pub with_scope : ℕ → State → State
with_scope x s = record s { living = s.living ++ x ∷ [] }

abbrev pub scoped_local : Gives ℕ → Gives ℕ
scoped_local w = gives w.given (with_scope w.given w.state)

abbrev pub scoped : Place → Ty → Destination
scoped place t = record { begins = λ s. scoped_local (new_nameless Object place t s); place = place }

-- the hidden range and the hidden iterators of a loop over a range ([stmt.ranged])
abbrev pub hidden : Place → Ty → Destination
hidden place t = record { begins = new_nameless Range place t; place = place }
