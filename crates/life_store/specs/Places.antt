-- What an operand names: a position of an object, or what is wrong with it.
use Rattle.std.specs.Prelude.{ℕ, ◌+◌, Bool, true, false, nat_lt, List, [], ◌∷◌, Option, Some, None, length}
use Rattle.life_types.specs.Types.{Types}
use Rattle.life_core.specs.Function.{Function}
use Rattle.life_core.specs.Operands.{Location, Operand, Name, Through}
use Rattle.life_store.specs.Cells.{at}
use Rattle.life_store.specs.Content.{Object, Content, is_valid_in}
use Rattle.life_store.specs.Effects.{Effect, Next, Traps, Faults, Strays, Attempt, Got, GotLost, cell, put_cell, put_content, on_got}
use Rattle.life_store.specs.Held.{pointer_in, pointer_words, words_at, wrote}
use Rattle.life_store.specs.Parts.{local_type, location_type, target_type, word_within}
use Rattle.life_store.specs.State.{Characters, Target, Pointer, Null, Wild, To, Static, Cell, Empty, Named, Number, Points, State}
use Rattle.life_store.specs.declared.run.FaultKind.{FaultKind}
use Rattle.life_store.specs.declared.run.FaultKind.TheVariants as fault
use Rattle.life_store.specs.declared.run.TrapKind.TheVariants as trap

-- a position of an object that lives, a character of a text, the position behind the last, or what is wrong
pub data Found : Type 0 where
  Here : (number : ℕ) → (index : ℕ) → Object → Found
  Fixed : Characters → Found
  Outside : Found
  Wrong : FaultKind → Found
  Astray : Found

-- ---- what is named

abbrev pub here_if : Bool → ℕ → ℕ → Object → Found
here_if true n i o = Here n i o
here_if false n i o = Astray

-- the position has a slot
abbrev pub found_in : Option Object → ℕ → ℕ → Found
found_in None n i = Astray
found_in (Some o) n i = here_if (nat_lt i (length o.slots)) n i o

abbrev pub found_at : Content → ℕ → ℕ → Found
found_at c n i = found_in (at c.objects n) n i

abbrev pub named_by : Content → Option Cell → Found
named_by c None = Astray
named_by c (Some Empty) = Astray
named_by c (Some (Named n)) = found_at c n 0
named_by c (Some (Number z)) = Astray
named_by c (Some (Points p)) = Astray

-- ---- what is pointed to

-- the position is there, which may be the end, and has stood there since the pointer was made
abbrev pub is_valid : Content → Target → Bool
is_valid c t = is_valid_in t.index 1 t.moment (at c.objects t.object)

-- only an iterator is valid at the end
abbrev pub reached_if : Bool → ℕ → ℕ → Object → Found
reached_if true n i o = Here n i o
reached_if false n i o = Outside

abbrev pub reached_in : Option Object → ℕ → ℕ → Found
reached_in None n i = Astray
reached_in (Some o) n i = reached_if (nat_lt i (length o.slots)) n i o

abbrev pub found_if : Bool → Content → Target → Found
found_if true c t = reached_in (at c.objects t.object) t.object t.index
found_if false c t = Wrong fault.Dangling

-- characters of a text. Where there is no text, its one position is the end
abbrev pub found_text : Option ℕ → Characters → Found
found_text None s = Outside
found_text (Some n) s = Fixed s

-- what is behind a pointer
abbrev pub behind_pointer : Content → Pointer → Found
behind_pointer c Null = Wrong fault.Null
behind_pointer c Wild = Wrong fault.Dangling
behind_pointer c (To t) = found_if (is_valid c t) c t
behind_pointer c (Static s) = found_text s.text s

abbrev pub behind_cell : Content → Option Cell → Found
behind_cell c None = Astray
behind_cell c (Some Empty) = Astray
behind_cell c (Some (Named n)) = Astray
behind_cell c (Some (Number z)) = Astray
behind_cell c (Some (Points p)) = behind_pointer c p

-- ---- locations: a local of its own, or a member of an object

abbrev pub member_cell : Types → Function → ℕ → List ℕ → Option Cell → Content → Option Cell
member_cell types f x [] v c = v
member_cell types f x (m ∷ ms) (Some (Named n)) c = Some (Points (pointer_in (words_at c n 0 (word_within types (local_type types f x) (m ∷ ms)) 5)))
member_cell types f x (m ∷ ms) _ c = None

-- what a location holds
abbrev pub location_cell : Types → Function → Location → State → Option Cell
location_cell types f l st = member_cell types f l.local l.members (cell st l.local) st.world.content

abbrev pub member_pointed : Types → Function → ℕ → List ℕ → Option Cell → Pointer → State → Effect
member_pointed types f x [] v p st = Next (put_cell x (Points p) st)
member_pointed types f x (m ∷ ms) (Some (Named n)) p st =
    Next (put_content (wrote n 0 (word_within types (local_type types f x) (m ∷ ms)) (pointer_words p) st.world.content) st)
member_pointed types f x (m ∷ ms) _ p st = Strays

-- a location is given a pointer
abbrev pub pointed : Types → Function → Location → Pointer → State → Effect
pointed types f l p st = member_pointed types f l.local l.members (cell st l.local) p st

-- ---- operands

abbrev pub locate : Types → Function → Operand → State → Found
locate types f (Name l) st = named_by st.world.content (cell st l.local)
locate types f (Through p members) st = behind_cell st.world.content (location_cell types f p st)

-- where in its slot begins what is pointed to
abbrev pub pointer_word : Option Cell → ℕ
pointer_word (Some (Points (To t))) = t.word
pointer_word _ = 0

abbrev pub operand_word : Types → Function → Operand → State → ℕ
operand_word types f (Name l) st = word_within types (local_type types f l.local) l.members
operand_word types f (Through p members) st = pointer_word (location_cell types f p st) + word_within types (target_type types (location_type types f p)) members

-- what is done with an object's position, and with a character
abbrev pub on_place : Found → (ℕ → ℕ → Object → Effect) → (Characters → Effect) → Effect
on_place (Here n i o) go fixed = go n i o
on_place (Fixed c) go fixed = fixed c
on_place Outside go fixed = Traps trap.Bounds
on_place (Wrong kind) go fixed = Faults kind
on_place Astray go fixed = Strays

-- a character isn't written
abbrev pub on_found : Found → (ℕ → ℕ → Object → Effect) → Effect
on_found found go = on_place found go (λ c. Strays)

-- ---- the words of a place

-- a slot of an object, and a word of it
pub record Spot : Type 0 where
  pub object : ℕ
  pub index : ℕ
  pub word : ℕ

abbrev pub on_spot : Types → Function → Operand → State → (Spot → Effect) → Effect
on_spot types f o st go = on_found (locate types f o st) (λ n i object. go (record { object = n; index = i; word = operand_word types f o st }))

abbrev pub spot_words : Content → Spot → (count : ℕ) → List ℕ
spot_words c spot count = words_at c spot.object spot.index spot.word count

abbrev pub wrote_spot : Spot → List ℕ → Content → Content
wrote_spot spot vs c = wrote spot.object spot.index spot.word vs c

-- an owner that is a local or a member of one
abbrev pub owner_spot_if : Types → Function → Location → Option Cell → Attempt Spot
owner_spot_if types f l (Some (Named n)) = Got (record { object = n; index = 0; word = word_within types (local_type types f l.local) l.members })
owner_spot_if types f l _ = GotLost

abbrev pub on_location : Types → Function → Location → State → (Spot → Effect) → Effect
on_location types f l st go = on_got (owner_spot_if types f l (cell st l.local)) go
