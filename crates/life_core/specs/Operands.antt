-- What instructions name, as definitions see it: its lists are plain lists.
use Rattle.std.specs.Prelude.{ℕ, List, []}
use Rattle.life_core.specs.declared.operand.Argument.{Argument as HandedOver}
use Rattle.life_core.specs.declared.operand.Argument.TheVariants as argument
use Rattle.life_core.specs.declared.operand.Base.{Base as HasElements}
use Rattle.life_core.specs.declared.operand.Base.TheVariants as base
use Rattle.life_core.specs.declared.operand.Characters.{Characters as Given}
use Rattle.life_core.specs.declared.operand.Characters.TheVariants as characters
use Rattle.life_core.specs.declared.operand.Location.{Location as Held}
use Rattle.life_core.specs.declared.operand.Operand.{Operand as PlaceHeld}
use Rattle.life_core.specs.declared.operand.Operand.TheVariants as operand
use Rattle.life_core.specs.declared.operand.Source.{Source as AimedAt}
use Rattle.life_core.specs.declared.operand.Source.TheVariants as source

pub record Location : Type 0 where
  pub local : ℕ
  pub members : List ℕ

-- a whole local
abbrev pub whole : ℕ → Location
whole x = record { local = x; members = [] }

abbrev pub location_of : Held → Location
location_of l = record { local = l.local; members = l.members.items }

pub data Operand : Type 0 where
  Name : Location → Operand
  Through : Location → (members : List ℕ) → Operand

-- an object itself, and what a pointer that is a local of its own points to
abbrev pub object_named : ℕ → Operand
object_named x = Name (whole x)

abbrev pub behind : ℕ → Operand
behind p = Through (whole p) []

abbrev pub operand_of : PlaceHeld → Operand
operand_of (operand.Name l) = Name (location_of l)
operand_of (operand.Through l members) = Through (location_of l) members.items

pub data Source : Type 0 where
  Null : Source
  Text : (number : ℕ) → Source
  Empty : Source
  Place : Operand → Source
  Whole : Operand → Source
  Get : Location → Source

abbrev pub source_of : AimedAt → Source
source_of source.Null = Null
source_of (source.Text n) = Text n
source_of source.Empty = Empty
source_of (source.Place o) = Place (operand_of o)
source_of (source.Whole o) = Whole (operand_of o)
source_of (source.Get l) = Get (location_of l)

pub data Base : Type 0 where
  Owner : Operand → Base
  Pointer : Location → Base

abbrev pub base_of : HasElements → Base
base_of (base.Owner o) = Owner (operand_of o)
base_of (base.Pointer l) = Pointer (location_of l)

pub data Characters : Type 0 where
  View : Location → Characters
  Single : (register : ℕ) → Characters

abbrev pub characters_of : Given → Characters
characters_of (characters.View l) = View (location_of l)
characters_of (characters.Single r) = Single r

pub data Argument : Type 0 where
  Value : (register : ℕ) → Argument
  GivenOver : (temporary : ℕ) → Argument
  PointerOf : Location → Argument
  Slot : Location → Argument

abbrev pub argument_of : HandedOver → Argument
argument_of (argument.Value r) = Value r
argument_of (argument.Given x) = GivenOver x
argument_of (argument.Pointer l) = PointerOf (location_of l)
argument_of (argument.Slot l) = Slot (location_of l)
