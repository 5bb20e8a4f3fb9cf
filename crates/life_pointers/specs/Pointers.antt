-- What the machine's pointers stand for, and what is asked of them.
use Rattle.std.specs.Prelude.{ℕ, ◌+◌, ◌<◌, ◌≤◌, ◌^◌}
use Rattle.life_store.specs.Content.{Content}
use Rattle.life_store.specs.References.{Rows}
use Rattle.life_store.specs.State as state
use Rattle.life_seen.specs.Housed.{IsRef}
use Rattle.life_pointers.specs.declared.pointer.Characters.{Characters}
use Rattle.life_pointers.specs.declared.pointer.Pointer.{Pointer}
use Rattle.life_pointers.specs.declared.pointer.Pointer.TheVariants as leads

abbrev pub characters_seen : Characters → state.Characters
characters_seen c = record { text = c.text; index = c.index; count = c.count }

-- a reference stands for the number of its object
abbrev pub pointer_seen : Pointer → state.Pointer
pointer_seen leads.Null = state.Null
pointer_seen leads.Wild = state.Wild
pointer_seen (leads.To index count word object moment) = state.To (record { object = object.birth; index = index; word = word; count = count; moment = moment })
pointer_seen (leads.Static c) = state.Static (characters_seen c)

-- what it leads to was born, and has the row while it lives. Of characters it sees fewer than 2^63, which end before that
abbrev pub PointerFits : Content → Rows → Pointer → Type 0
PointerFits c rows leads.Null = Unit {0}
PointerFits c rows leads.Wild = Unit {0}
PointerFits c rows (leads.To index count word object moment) = IsRef c rows object × (moment + 1 < 2 ^ 64)
PointerFits c rows (leads.Static s) = (s.count < 2 ^ 63) × (s.index + s.count ≤ 2 ^ 63)

-- its numbers can be written in words
abbrev pub CanStore : Pointer → Type 0
CanStore leads.Null = Unit {0}
CanStore leads.Wild = Unit {0}
CanStore (leads.To index count word object moment) = (object.birth + 2 < 2 ^ 64) × (moment + 1 < 2 ^ 64)
CanStore (leads.Static s) = Unit {0}

-- ---- sizes

-- the first position
abbrev pub starts_at : Pointer → ℕ
starts_at leads.Null = 0
starts_at leads.Wild = 0
starts_at (leads.To index count word object moment) = index
starts_at (leads.Static c) = c.index

-- an object has at most 2^32 positions
abbrev pub IsNarrow : ℕ → Pointer → Type 0
IsNarrow n leads.Null = Unit {0}
IsNarrow n leads.Wild = Unit {0}
IsNarrow n (leads.To index count word object moment) = n < 2 ^ 32
IsNarrow n (leads.Static c) = Unit {0}

-- the positions that it sees are numbers of 32 bits
abbrev pub IsThere : Pointer → Type 0
IsThere leads.Null = Unit {0}
IsThere leads.Wild = Unit {0}
IsThere (leads.To index count word object moment) = index + count < 2 ^ 32
IsThere (leads.Static c) = Unit {0}

-- .. and so many characters can be passed
abbrev pub IsShort : ℕ → Pointer → Type 0
IsShort n leads.Null = Unit {0}
IsShort n leads.Wild = Unit {0}
IsShort n (leads.To index count word object moment) = Unit {0}
IsShort n (leads.Static c) = n ≤ 2 ^ 63
