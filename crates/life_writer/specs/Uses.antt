-- An expression by its uses: what is written of it as a value, a condition, a place, a pointer, an object, or alone.
use Rattle.std.specs.Prelude.{ℕ, Option, None}
use Rattle.life_types.specs.declared.place.Place.{Place}
use Rattle.life_types.specs.declared.ty.Ty.{Ty}
use Rattle.life_typed.specs.declared.typed_expr.Category.{Category}
use Rattle.life_typed.specs.declared.typed_expr.ExprType.{ExprType}
use Rattle.life_core.specs.Operands.{Location, Operand, Null, object_named}
use Rattle.life_core.specs.Step.{Step, Live}
use Rattle.life_core.specs.Tree.{Tree}
use Rattle.life_core.specs.declared.instr.Form.{Form}
use Rattle.life_writer.specs.Around.{own_type}
use Rattle.life_writer.specs.Building.{Destination, Fill, Saved, built}
use Rattle.life_writer.specs.Pointers.{Pointing, aimed}
use Rattle.life_writer.specs.Writing.{State, Gives, gives, ◌>>◌, emit}
use Rattle.life_writer.specs.declared.behind.Behind.{Behind}

-- ---- what is left to do, once all that stands before it is written

-- .. to what is initialised, told where that goes
abbrev pub Remaining : Type 0
Remaining = Destination → State → Gives ℕ

-- .. to an owner or a struct at a place, told where it comes to life, or where it is assigned
abbrev pub Act : Type 0
Act = Place → Operand → State → State

-- one instruction, with a hole for what it initialises
abbrev pub filled : Place → (Location → Step) → Remaining
filled place step d s = built (Fill place step) d s

-- it comes to life, and a value is saved there
abbrev pub saved : ℕ → Remaining
saved r d s = built (Saved r) d s

-- it comes to life in a form, and then this is done to it
abbrev pub lived : Form → Act → Remaining
lived form act d s = d.begins s >> λ x s. gives x (act d.place (object_named x) (emit d.place (Live x form) s))

-- ---- the uses

pub record Uses : Type 0 where
  pub place : Place
  pub ty : ExprType
  pub category : Category
  -- the value in a register, where it is neither a place nor decided by tests, with the token behind it
  pub made : (behind : Place) → Option ℕ → State → Gives ℕ
  -- the condition, where others make it up
  pub decision : Behind → Option (State → Gives Tree)
  -- the place, where it is one
  pub at : State → Gives Operand
  -- what it gives a pointer, where it is one itself
  pub pointing : State → Gives Pointing
  -- an owner or a struct that is a value
  pub object : State → Gives Remaining
  -- .. and what is done to an owner that it is assigned to, where it needs no temporary for that
  pub replacing : Option (State → Gives Act)
  -- the call that it is, with a hole for its result
  pub call : Option (State → Gives (Location → Step))
  -- the variable that it names
  pub named : Option ℕ
  -- what is done where it has no result
  pub alone : State → State

abbrev pub own : Uses → Ty
own e = own_type e.ty

-- a use that an expression doesn't have writes nothing
abbrev pub unused : Place → ExprType → Category → Uses
unused place t category = record {
  place = place;
  ty = t;
  category = category;
  made = λ behind into s. gives 0 s;
  decision = λ b. None;
  at = λ s. gives (object_named 0) s;
  pointing = λ s. gives (aimed Null) s;
  object = λ s. gives (λ d s. gives 0 s) s;
  replacing = None;
  call = None;
  named = None;
  alone = λ s. s;
}
