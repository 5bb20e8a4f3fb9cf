-- What content of the meaning the words of a store stand for. Numbers never return and rows are used again, so what owns holds a row in the
-- store, and the number of the object there in the meaning. A pointer holds the number, and its row beside it, which isn't seen.
use Rattle.std.specs.Prelude.{ℕ, zero, suc, ◌%◌, ◌^◌, List, [], ◌∷◌, map}
use Rattle.life_store.specs.Cells.{at}
use Rattle.life_store.specs.Content.{Slot, Object, Content}
use Rattle.life_store.specs.Held.{owner_word}
use Rattle.life_store.specs.References.{Rows}
use Rattle.life_seen.specs.Kinds.{Kinds}
use Rattle.life_store.specs.Kinds.{Kind, Plain, Owner, Pointing}
use Rattle.life_seen.specs.Mapped.{mapped}
use Rattle.life_seen.specs.Named.{Names, names_of}

abbrev pub owner_seen : Names → ℕ → ℕ
owner_seen names zero = 0
owner_seen names (suc row) = owner_word (at names row)

-- the fourth word of a pointer says where in its slot begins what is pointed to, in 32 bits, and the row stands above these
abbrev pub pointing_seen : ℕ → ℕ → ℕ
pointing_seen (suc (suc (suc zero))) w = w % 2 ^ 32
pointing_seen _ w = w

abbrev pub word_seen : Names → Kind → ℕ → ℕ
word_seen names Plain w = w
word_seen names Owner w = owner_seen names w
word_seen names (Pointing i) w = pointing_seen i w

abbrev pub words_seen : Names → (ℕ → Kind) → List ℕ → List ℕ
words_seen names f [] = []
words_seen names f (w ∷ ws) = word_seen names (f 0) w ∷ words_seen names (λ u. f (suc u)) ws

abbrev pub slot_seen : Names → (ℕ → Kind) → Slot → Slot
slot_seen names f s = record { words = words_seen names f s.words; stamp = s.stamp }

abbrev pub slots_seen : Names → (ℕ → Kind) → List Slot → List Slot
slots_seen names f ss = map (slot_seen names f) ss

abbrev pub object_seen : Kinds → Names → Object → Object
object_seen kinds names o = record o { slots = slots_seen names (kinds o.ty) o.slots }

abbrev pub content_seen : Kinds → Names → Content → Content
content_seen kinds names c = record c { objects = mapped (object_seen kinds names) c.objects }

-- what a store with these rows stands for
abbrev pub seen : Kinds → Content → Rows → Content
seen kinds c rows = content_seen kinds (names_of c rows) c
