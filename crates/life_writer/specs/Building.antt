-- How something is initialised: all but the last is written, and then it is built where it goes.
use Rattle.std.specs.Prelude.{ℕ}
use Rattle.life_types.specs.declared.place.Place.{Place}
use Rattle.life_core.specs.Operands.{Location, object_named, whole}
use Rattle.life_core.specs.Step.{Step, Live, Save}
use Rattle.life_core.specs.declared.instr.Form.{Form}
use Rattle.life_core.specs.declared.instr.Form.TheVariants.{Plain}
use Rattle.life_writer.specs.Writing.{State, Gives, gives, ◌>>◌, emit}

-- what is left to do
pub data Last : Type 0 where
  -- one instruction, with a hole for what it initialises: what computes a value, what a pointer is given, or a call
  Fill : Place → (Location → Step) → Last
  -- it comes to life, and a value is saved there
  Saved : ℕ → Last

-- where it goes: how its local begins, and where it comes to life
pub record Destination : Type 0 where
  pub begins : State → Gives ℕ
  pub place : Place

-- it comes to life in a form
abbrev pub live_in : Form → Destination → State → Gives ℕ
live_in form d s = d.begins s >> λ x s. gives x (emit d.place (Live x form) s)

-- .. by itself
abbrev pub live : Destination → State → Gives ℕ
live d s = live_in Plain d s

abbrev pub built : Last → Destination → State → Gives ℕ
built (Fill place step) d s = d.begins s >> λ x s. gives x (emit place (step (whole x)) s)
built (Saved r) d s = live d s >> λ x s. gives x (emit d.place (Save (object_named x) r) s)
