-- What a store holds: objects by their numbers, of which none returns, and a clock.
use Rattle.std.specs.Prelude.{ℕ, zero, suc, ◌+◌, ◌-◌, ◌*◌, ◌^◌, ◌<◌, Bool, true, false, cond, ◌&&◌, nat_eq, nat_le, List, [], ◌++◌, Option, Some, None, length, map, replicate, slice_get, slice_set, slice_index, take, drop, option_map}
use Rattle.life_types.specs.declared.ty.TyId.{TyId}
use Rattle.life_store.specs.Cells.{Cells, none, set, unset, sum_over}

-- the words of one value, and the moment from which they stand there
pub record Slot : Type 0 where
  pub words : List ℕ
  pub stamp : ℕ

-- its slots are so many words wide; `end` is the stamp of the position behind the last slot
pub record Object : Type 0 where
  pub ty : TyId
  pub width : ℕ
  pub capacity : ℕ
  pub slots : List Slot
  pub end : ℕ

pub record Content : Type 0 where
  pub objects : Cells Object
  pub births : ℕ
  pub clock : ℕ

abbrev pub empty_content : Content
empty_content = record { objects = none; births = 0; clock = 0 }

-- ---- live words

abbrev pub cost : Object → ℕ
cost o = 2 + o.width * o.capacity

abbrev pub live_words_of : Content → ℕ
live_words_of c = sum_over cost c.objects

-- ---- the changes

abbrev pub with_object : ℕ → Object → Content → Content
with_object n o c = record c { objects = set c.objects n o }

-- a new object without slots; its number is above all earlier ones
abbrev pub newborn : TyId → ℕ → ℕ → ℕ → Object
newborn ty width capacity clock = record { ty = ty; width = width; capacity = capacity; slots = []; end = clock }

abbrev pub with_birth : TyId → ℕ → ℕ → Content → Content
with_birth ty width capacity c = record {
  objects = set c.objects c.births (newborn ty width capacity c.clock);
  births = c.births + 1;
  clock = c.clock;
}

abbrev pub without : ℕ → Content → Content
without n c = record c { objects = unset c.objects n }

-- the object under a new number
abbrev pub with_rename : ℕ → Object → Content → Content
with_rename n o c = record {
  objects = set (unset c.objects n) c.births o;
  births = c.births + 1;
  clock = c.clock;
}

abbrev pub stamped : ℕ → Slot → Slot
stamped moment s = record s { stamp = moment }

abbrev pub blank_slot : ℕ → ℕ → Slot
blank_slot width moment = record { words = replicate width 0; stamp = moment }

-- so many slots, new words being 0, with the positions from `since` on stamped
abbrev pub resized_slots : ℕ → ℕ → ℕ → ℕ → List Slot → List Slot
resized_slots width moment size since slots =
    take since slots ++ map (stamped moment) (take (size - since) (drop since slots ++ replicate (size - length slots) (blank_slot width moment)))

abbrev pub resized : ℕ → ℕ → ℕ → Object → Object
resized moment size since o = record o { slots = resized_slots o.width moment size since o.slots; end = moment }

abbrev pub with_resize : ℕ → ℕ → ℕ → Object → Content → Content
with_resize n size since o c = record {
  objects = set c.objects n (resized (c.clock + 1) size since o);
  births = c.births;
  clock = c.clock + 1;
}

-- ---- words

abbrev pub word_in : Option Slot → ℕ → ℕ
word_in None word = 0
word_in (Some s) word = slice_index s.words word

abbrev pub word_at : Object → ℕ → ℕ → ℕ
word_at o slot word = word_in (slice_get o.slots slot) word

abbrev pub written : ℕ → ℕ → Slot → Slot
written word value s = record s { words = slice_set s.words word value }

abbrev pub set_slot : List Slot → ℕ → Option Slot → List Slot
set_slot slots slot None = slots
set_slot slots slot (Some s) = slice_set slots slot s

abbrev pub with_word : ℕ → ℕ → ℕ → Object → Object
with_word slot word value o = record o { slots = set_slot o.slots slot (option_map (written word value) (slice_get o.slots slot)) }

-- ---- the validity of pointers (ISO/IEC 14882:2017 [container.requirements.general] 12 on iterators)

-- the position is there, the end being one, and has stood there since the moment
abbrev pub is_since : ℕ → Option Slot → Bool
is_since moment None = false
is_since moment (Some s) = nat_le s.stamp moment

abbrev pub is_settled : Object → ℕ → ℕ → Bool
is_settled o position moment = cond (nat_eq position (length o.slots)) (nat_le o.end moment) (is_since moment (slice_get o.slots position))

abbrev pub are_settled : Object → ℕ → ℕ → ℕ → Bool
are_settled o first zero moment = true
are_settled o first (suc count) moment = is_settled o first moment && are_settled o (first + 1) count moment

abbrev pub is_valid_in : ℕ → ℕ → ℕ → Option Object → Bool
is_valid_in first count moment None = false
is_valid_in first count moment (Some o) = are_settled o first count moment

-- more births and changes can be counted
pub record CanCount (c : Content) : Type 0 where
  pub births : c.births < 2 ^ 63
  pub clock : c.clock < 2 ^ 63
