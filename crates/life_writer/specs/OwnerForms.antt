-- Expressions that own: literals and nullptr as what they initialise, what is moved, made or made a string, and joined texts.
use Rattle.std.specs.Prelude.{ℕ, Option, Some, None}
use Rattle.life_types.specs.declared.place.Place.{Place}
use Rattle.life_types.specs.declared.ty.Ty.{Ty}
use Rattle.life_types.specs.declared.ty.Ty.TheVariants as ty
use Rattle.life_typed.specs.declared.typed_expr.Category.{Category}
use Rattle.life_typed.specs.declared.typed_expr.Category.TheVariants as category
use Rattle.life_typed.specs.declared.typed_expr.ExprType.{ExprType}
use Rattle.life_core.specs.Operands.{Location, Null, Operand, Text}
use Rattle.life_core.specs.Step.{Copy, Make, Move, Set}
use Rattle.life_core.specs.declared.instr.Form.TheVariants.{Plain}
use Rattle.life_core.specs.declared.instr.Made.{Made}
use Rattle.life_core.specs.declared.instr.Made.TheVariants as made
use Rattle.life_writer.specs.Characters.{InView, changed_by, concatenated, seen}
use Rattle.life_writer.specs.Giving.{given_over}
use Rattle.life_writer.specs.Pointers.{aimed, located}
use Rattle.life_writer.specs.Uses.{Act, Uses, lived, own, unused}
use Rattle.life_writer.specs.Using.{location_in, pointer}
use Rattle.life_writer.specs.Variables.{variable}
use Rattle.life_writer.specs.Writing.{State, Gives, gives, ◌>>◌, emit, mapped}

-- what is done to an owner in place of a temporary, which is also how one comes to be
abbrev pub replacing_uses : (State → Gives Act) → Place → ExprType → Category → Uses
replacing_uses act place t c = record (unused place t c) { object = λ s. mapped (lived Plain) (act s); replacing = Some act }

-- ---- what is moved (ISO/IEC 14882:2017 [forward])

-- from the variable with a number; it stands at `move`, also where it initialises
abbrev pub moved_out_of : Place → ℕ → Act
moved_out_of at x place to s = emit at (Move to (variable s x)) s

abbrev pub moved_from : Place → ℕ → State → Gives Act
moved_from at x s = gives (moved_out_of at x) s

abbrev pub move_uses : ℕ → Place → ExprType → Category → Uses
move_uses x place t c = replacing_uses (moved_from place x) place t c

-- ---- what a unique_ptr is made to own ([unique.ptr.create])

-- it stands at `make_unique`
abbrev pub made_at : Place → Made → Act
made_at at what place to s = emit at (Make (location_in to) what) s

abbrev pub owned_operand : (target : Ty) → Option Uses → (closing : Place) → State → Gives Made
owned_operand t None closing s = gives made.Zero s
owned_operand t (Some e) closing s = mapped made.Of (given_over e t closing s)

abbrev pub make_unique_uses : (target : Ty) → Option Uses → (closing : Place) → Place → ExprType → Category → Uses
make_unique_uses target argument closing place t c = replacing_uses (λ s. mapped (made_at place) (owned_operand target argument closing s)) place t c

-- nothing, where it comes to life or is assigned
abbrev pub made_null : Act
made_null place to s = made_at place made.Null place to s

-- nullptr is also what a raw pointer is given
abbrev pub null_uses : Place → ExprType → Category → Uses
null_uses place t c = record (replacing_uses (λ s. gives made_null s) place t c) { pointing = λ s. gives (aimed Null) s }

-- ---- strings

-- a string takes what a view sees
abbrev pub set_to : Location → Act
set_to view place to s = changed_by Set place (InView view) to s

-- a literal is seen where it stands, and a string that it initialises takes it ([string.cons])
abbrev pub literal_uses : ℕ → Place → ExprType → Category → Uses
literal_uses n place t c = record (unused place t c) {
  pointing = λ s. gives (aimed (Text n)) s;
  object = λ s. located place ty.View (aimed (Text n)) s >> λ view s. gives (lived Plain (set_to view)) s;
}

-- what is done at a place of its own
abbrev pub standing : Place → Act → Act
standing at act place to s = act at to s

abbrev pub copied_at : Place → Operand → Act
copied_at at from place to s = emit at (Copy to from) s

-- `std::string(e)`: a copy of a string, a string that is a value itself, or one that takes what a view sees
abbrev pub string_of_string : Category → Uses → Place → ExprType → Category → Uses
string_of_string category.Value e place t c = record (unused place t c) { object = e.object; replacing = e.replacing }
string_of_string (category.Place id constant) e place t c =
    record (unused place t c) { object = λ s. mapped (λ from. lived Plain (copied_at place from)) (e.at s) }

-- .. and what is done to a string that it is assigned to
abbrev pub replacing_by : Ty → Category → Option (State → Gives Act) → Option (State → Gives Act)
replacing_by ty.Text category.Value act = act
replacing_by _ _ act = None

abbrev pub replacing_string : Uses → Option (State → Gives Act)
replacing_string e = replacing_by (own e) e.category e.replacing

abbrev pub string_of : Ty → Uses → Place → ExprType → Category → Uses
string_of ty.Text e place t c = string_of_string e.category e place t c
string_of _ e place t c =
    record (unused place t c) { object = λ s. pointer e ty.View s >> λ view s. gives (lived Plain (standing place (set_to view))) s }

abbrev pub string_uses : Uses → Place → ExprType → Category → Uses
string_uses e place t c = string_of (own e) e place t c

-- `+` of texts, at the operator
abbrev pub concatenation_uses : (left right : Uses) → Place → ExprType → Category → Uses
concatenation_uses left right place t c =
    record (unused place t c) { object = λ s. seen left s >> λ x s. seen right s >> λ y s. gives (lived Plain (concatenated place x y)) s }
