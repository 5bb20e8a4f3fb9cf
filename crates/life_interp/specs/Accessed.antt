-- What is asked of the places that an instruction names. At each point of a walk it is had of the frame at hand.
use Rattle.std.specs.Prelude.{◌≡◌, ℕ, Bool, true, false}
use Rattle.life_types.specs.Types.{Types}
use Rattle.life_core.specs.Function.{Function}
use Rattle.life_core.specs.Operands.{Operand}
use Rattle.life_core.specs.Step.{Step, Live, End, Eval, Load, Save, Copy, Move, Aim, Repoint, Element, Cursor, Advance, Cut, Size, Same, Changes, Make, Port, Ports, Writes, WritesView, Takes, Test, NonZero, NotNull}
use Rattle.life_seen.specs.Kinds.{kinds_of}
use Rattle.life_store.specs.Content.{Object}
use Rattle.life_store.specs.Kinds.{Plain}
use Rattle.life_store.specs.Places.{Here, locate, operand_word}
use Rattle.life_store.specs.State.{Pointer, Null, State}
use Rattle.life_cells.specs.Asked.{IsTestable}
use Rattle.life_cells.specs.Typed.{ComparesCharacters, HoldsPointer, IsBase, IsPlaced, IsSource, SeesCharacters}

-- what a place names is a number
pub record IsNumberPlace (types : Types) (f : Function) (o : Operand) (st : State) : Type 0 where
  pub placed : IsPlaced types f o st
  pub plain : (n i : ℕ) (object : Object) → locate types f o st ≡ Here n i object → kinds_of types object.ty (operand_word types f o st) ≡ Plain

-- a view that is written out sees characters
abbrev pub HasViewed : Types → Function → State → Port → Type 0
HasViewed types f st (Writes r) = Unit {0}
HasViewed types f st (WritesView l) = HoldsPointer types f l st × SeesCharacters types f l st
HasViewed types f st (Takes r) = Unit {0}

-- the places that the instruction names are there, and of the types that it takes
abbrev pub HasPlaces : Types → Function → State → Step → Type 0
HasPlaces types f st (Load r o) = IsNumberPlace types f o st
HasPlaces types f st (Save o r) = IsNumberPlace types f o st
HasPlaces types f st (Aim p s) = HoldsPointer types f p st × IsSource types f s st
HasPlaces types f st (Repoint p q) = HoldsPointer types f p st × HoldsPointer types f q st
HasPlaces types f st (Element p b which) = HoldsPointer types f p st × IsBase types f b st
HasPlaces types f st (Cursor p b end) = HoldsPointer types f p st × IsBase types f b st
HasPlaces types f st (Advance p q r direction) = HoldsPointer types f p st × HoldsPointer types f q st
HasPlaces types f st (Cut p q r count) = HoldsPointer types f p st × HoldsPointer types f q st
HasPlaces types f st (Size r b) = IsBase types f b st
HasPlaces types f st (Same r a b equal) = HoldsPointer types f a st × HoldsPointer types f b st × ComparesCharacters types f a a st × ComparesCharacters types f a b st
HasPlaces types f st (Ports p) = HasViewed types f st p
HasPlaces types f st _ = Unit {0}

-- a pointer that isn't null
abbrev pub is_leading : Pointer → Bool
is_leading Null = false
is_leading _ = true

-- what the test asks is there
abbrev pub HasTested : Types → Function → State → Test → Type 0
HasTested types f st (NonZero r) = Unit {0}
HasTested types f st (NotNull l) = IsTestable types f l st

-- it names places, nothing comes to life or ends, no value goes to another place, and no memory is wanted: what the machine does by the cells' own steps
abbrev pub IsAccess : Step → Type 0
IsAccess (Live x form) = ⊥
IsAccess (End xs) = ⊥
IsAccess (Eval r operation) = ⊥
IsAccess (Copy to from) = ⊥
IsAccess (Move to y) = ⊥
IsAccess (Cursor p base end) = ⊥
IsAccess (Changes o change) = ⊥
IsAccess (Make u made) = ⊥
IsAccess (Ports p) = ⊥
IsAccess _ = Unit {0}

-- no value goes from one place to another, and what owners own stays: where that is so, its own function tells what lives behind it
abbrev pub StaysPut : Step → Type 0
StaysPut (Copy to from) = ⊥
StaysPut (Move to y) = ⊥
StaysPut (Changes o change) = ⊥
StaysPut (Make u made) = ⊥
StaysPut _ = Unit {0}
