-- How an object lies in the plain store: the words of all its slots in one list, their stamps in another.
use Rattle.std.specs.Prelude.{◌≡◌, ℕ, ◌+◌, ◌*◌, ◌^◌, ◌≤◌, List, [], ◌∷◌, length, take, drop, vec_capacity}
use Rattle.life_store.specs.Content.{Object, Slot}
use Rattle.life_store.specs.declared.plain_object.PlainObject.TheInside.{Inside}

-- the slots with these words, so many each, and these stamps
abbrev pub slots_of : ℕ → List ℕ → List ℕ → List Slot
slots_of width words [] = []
slots_of width words (stamp ∷ stamps) = record { words = take width words; stamp = stamp } ∷ slots_of width (drop width words) stamps

abbrev pub object_in : Inside → Object
object_in a = record {
  ty = a.ty;
  width = a.width;
  capacity = a.capacity;
  slots = slots_of a.width a.words.items a.stamps.items;
  end = a.end;
}

-- each stamp is at most the next one, and the last one at most the end's
abbrev pub Ascend : List ℕ → ℕ → Type 0
Ascend [] end = Unit {0}
Ascend (s ∷ []) end = s ≤ end
Ascend (s ∷ t ∷ stamps) end = (s ≤ t) × Ascend (t ∷ stamps) end

-- each slot has its words, no position has an earlier stamp than one before it, and memory for all slots is there
pub record IsLaidOut (a : Inside) : Type 0 where
  pub words : length a.words.items ≡ length a.stamps.items * a.width
  pub ascend : Ascend a.stamps.items a.end
  pub fits : length a.stamps.items ≤ a.capacity
  pub wide : 1 ≤ a.width
  pub word_room : a.capacity * a.width ≤ vec_capacity a.words
  pub stamp_room : a.capacity ≤ vec_capacity a.stamps
  pub small : 2 + a.width * a.capacity ≤ 2 ^ 32
