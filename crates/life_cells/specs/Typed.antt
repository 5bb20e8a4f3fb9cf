-- What is asked of what an instruction names: it is there, and of its type. Each typed program has it at each point that is reached.
use Rattle.std.specs.Prelude.{◌≡◌, ◌≢◌, ◌<◌, ◌≤◌, ◌+◌, ◌^◌, ℕ, Bool, true, false, List, [], ◌∷◌, Some, length, slice_get}
use Rattle.life_types.specs.Types.{Types}
use Rattle.life_core.specs.Function.{Function}
use Rattle.life_core.specs.Operands.{Base, Location, Operand, Name, Source, Through}
use Rattle.life_core.specs.Operands as base
use Rattle.life_seen.specs.Kinds.{kinds_of}
use Rattle.life_store.specs.Cells.{at}
use Rattle.life_store.specs.Content.{Content, Object, Slot}
use Rattle.life_store.specs.Effects.{cell}
use Rattle.life_store.specs.Kinds.{Kind, Owner, Plain, Pointing}
use Rattle.life_store.specs.Parts.{Views, local_type, location_parts, word_within}
use Rattle.life_store.specs.Places.{Here, location_cell, locate, operand_word}
use Rattle.life_store.specs.State.{Characters, Named, Points, State, Static, Target, To}

-- an object has so many words from one on, and all its words have numbers of 32 bits
pub record LieIn (word count : ℕ) (o : Object) : Type 0 where
  pub within : word + count ≤ o.width
  pub small : o.width ≤ 2 ^ 32

-- the object with the number lives, and what begins at the word of its first slot is of the kind and has so many words
pub record Holds (types : Types) (kind : Kind) (count n word : ℕ) (c : Content) : Type 0 where
  pub object : Object
  pub there : at c.objects n ≡ Some object
  pub slot : 0 < length object.slots
  pub lies : LieIn word count object
  pub whole : (s : Slot) → slice_get object.slots 0 ≡ Some s → word + count ≤ length s.words
  pub is : kinds_of types object.ty word ≡ kind

-- ---- locations

-- a list that is empty, as that of the members of a whole local
abbrev pub is_nil : List ℕ → Bool
is_nil [] = true
is_nil (m ∷ ms) = false

abbrev pub member_of : Types → Function → Location → ℕ
member_of types f l = word_within types (local_type types f l.local) l.members

-- a member that is a location of a pointer
abbrev pub HoldsPointer : Types → Function → Location → State → Type 0
HoldsPointer types f l st = (n : ℕ) → l.members ≢ [] → cell st l.local ≡ Some (Named n) → Holds types (Pointing 0) 5 n (member_of types f l) st.world.content

-- an owner that is a local or a member of one
abbrev pub HoldsOwner : Types → Function → Location → State → Type 0
HoldsOwner types f l st = (n : ℕ) → cell st l.local ≡ Some (Named n) → Holds types Owner 1 n (member_of types f l) st.world.content

-- the characters that a view sees
abbrev pub SeesCharacters : Types → Function → Location → State → Type 0
SeesCharacters types f l st = (t : Target) (o : Object) → location_cell types f l st ≡ Some (Points (To t)) → at st.world.content.objects t.object ≡ Some o → kinds_of types o.ty 0 ≡ Plain

-- .. where locations of the type of one hold views, which are compared by their characters
abbrev pub ComparesCharacters : Types → Function → (by : Location) → Location → State → Type 0
ComparesCharacters types f by l st = location_parts types f by ≡ Views → SeesCharacters types f l st

-- an iterator can be made at the end of the characters that a span sees: it sees none
abbrev pub CanEnd : Types → Function → Location → State → Type 0
CanEnd types f l st = (s : Characters) → location_cell types f l st ≡ Some (Points (Static s)) → s.index + s.count + 1 ≤ 2 ^ 63

-- ---- places

abbrev pub GoesThrough : Types → Function → Operand → State → Type 0
GoesThrough types f (Name l) st = Unit {0}
GoesThrough types f (Through p members) st = HoldsPointer types f p st

-- what a place names begins in its slot
pub record IsPlaced (types : Types) (f : Function) (o : Operand) (st : State) : Type 0 where
  pub through : GoesThrough types f o st
  pub lies : (n i : ℕ) (object : Object) → locate types f o st ≡ Here n i object → LieIn (operand_word types f o st) 1 object

-- .. and is an owner
pub record IsOwnerPlace (types : Types) (f : Function) (o : Operand) (st : State) : Type 0 where
  pub placed : IsPlaced types f o st
  pub owner : (n i : ℕ) (object : Object) → locate types f o st ≡ Here n i object → kinds_of types object.ty (operand_word types f o st) ≡ Owner

-- what has elements
abbrev pub IsBase : Types → Function → Base → State → Type 0
IsBase types f (base.Owner o) st = IsOwnerPlace types f o st
IsBase types f (base.Pointer l) st = HoldsPointer types f l st

-- .. and ends
abbrev pub IsRange : Types → Function → Base → State → Type 0
IsRange types f (base.Owner o) st = IsOwnerPlace types f o st
IsRange types f (base.Pointer l) st = HoldsPointer types f l st × CanEnd types f l st

-- what a pointer is aimed at
abbrev pub IsSource : Types → Function → Source → State → Type 0
IsSource types f base.Null st = Unit {0}
IsSource types f (base.Text n) st = Unit {0}
IsSource types f base.Empty st = Unit {0}
IsSource types f (base.Place o) st = IsPlaced types f o st
IsSource types f (base.Whole o) st = IsOwnerPlace types f o st
IsSource types f (base.Get l) st = HoldsOwner types f l st
