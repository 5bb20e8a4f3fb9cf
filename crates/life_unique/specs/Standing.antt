-- Where values lie, left out: each box at one address, and each list at one, with no room to spare.
use Rattle.std.specs.Prelude.{◌^◌, ◌<◌, ◌≤◌, List, length, map, Vec, Box}
use Rattle.std.proofs.Common.{refl, sym, subst}
use Rattle.std.proofs.lemmas.List.{length-map}
use Rattle.std.proofs.Math.Nat.{le_refl, lt_of_le_of_lt}
use Rattle.std.specs.Ptr.{null_ptr}
use Rattle.std.specs.declared.alloc.Global.{Global}

-- a box of this value
abbrev pub boxed_at : {A : Type 0} → Global → A → Box A Global
boxed_at g x = record { ptr = null_ptr; alloc = g; value = x }

-- a list of these
abbrev pub listed_at : {A : Type 0} → Global → (xs : List A) → length xs < 2 ^ 63 → Vec A Global
listed_at g xs few = record { ptr = null_ptr; len = length xs; cap = length xs; alloc = g; items = xs; ok = (refl, le_refl (length xs)); small = few }

-- there are no more of them than a list has room for
pub few_items : {A : Type 0} (v : Vec A Global) → length v.items < 2 ^ 63
few_items v = lt_of_le_of_lt (subst (λ n. n ≤ v.cap) v.ok.0 v.ok.1) v.small

abbrev pub settled_box : {A : Type 0} → Box A Global → Box A Global
settled_box b = boxed_at b.alloc b.value

abbrev pub settled_list : {A : Type 0} → Vec A Global → Vec A Global
settled_list v = listed_at v.alloc v.items (few_items v)

-- .. with their values settled, too
abbrev pub box_of : {A : Type 0} → (A → A) → Box A Global → Box A Global
box_of f b = boxed_at b.alloc (f b.value)

abbrev pub list_of : {A : Type 0} → (A → A) → Vec A Global → Vec A Global
list_of f v = listed_at v.alloc (map f v.items) (subst (λ n. n < 2 ^ 63) (sym (length-map v.items f)) (few_items v))
