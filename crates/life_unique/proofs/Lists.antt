-- Lists that are settled: what is in them says which they are.
use Rattle.std.proofs.Common.{◌≡◌, ◌^◌, ◌<◌, List, [], length, map, ap, sym, ◌∙◌, arith, Vec}
use Rattle.std.proofs.Math.Bridge.{le_prop}
use Rattle.std.proofs.Math.Decide.{dec_lt}
use Rattle.std.specs.declared.alloc.Global.{Global}
use Rattle.life_unique.specs.Standing.{listed_at, few_items, settled_list, list_of}

pub same_list : {A : Type 0} (g : Global) (xs : List A) (p q : length xs < 2 ^ 63) → listed_at g xs p ≡ listed_at g xs q
same_list g xs p q = ap (listed_at g xs) (le_prop p q)

abbrev pub empty : {A : Type 0} → Global → Vec A Global
empty g = listed_at g [] (omega arith)

-- a list of these, where there may be so many
abbrev pub listed : {A : Type 0} → Global → List A → Vec A Global
listed g xs = elim (dec_lt (length xs) (2 ^ 63)) [ yes few ↦ listed_at g xs few | no many ↦ empty g ]

pub listed_is : {A : Type 0} (g : Global) (xs : List A) (few : length xs < 2 ^ 63) → listed g xs ≡ listed_at g xs few
listed_is g xs few = go (dec_lt (length xs) (2 ^ 63)) where
  go : (d : Dec (length xs < 2 ^ 63)) → elim d [ yes few ↦ listed_at g xs few | no many ↦ empty g ] ≡ listed_at g xs few
  go (yes h) = same_list g xs h few
  go (no h) = absurd (h few)

pub same_items : {A : Type 0} (g : Global) (xs ys : List A) (p : length xs < 2 ^ 63) (q : length ys < 2 ^ 63) → xs ≡ ys → listed_at g xs p ≡ listed_at g ys q
same_items g xs ys p q e = sym (listed_is g xs p) ∙ ap (listed g) e ∙ listed_is g ys q

-- lists of the same values are one, once they are settled
pub same_settled : {A : Type 0} (v w : Vec A Global) → v.items ≡ w.items → settled_list v ≡ settled_list w
same_settled v w e = same_items v.alloc v.items w.items (few_items v) (few_items w) e

-- the list of what a list's values are, each settled
pub list_found : {A : Type 0} (g : Global) (f : A → A) (v : Vec A Global) (xs : List A) → xs ≡ map f v.items → listed g xs ≡ list_of f v
list_found g f v xs e = ap (listed g) e ∙ listed_is g (map f v.items) _

pub settled_is : {A : Type 0} (g : Global) (v : Vec A Global) (xs : List A) → xs ≡ v.items → listed g xs ≡ settled_list v
settled_is g v xs e = ap (listed g) e ∙ listed_is g v.items (few_items v)

-- a value, and that something holds of it
abbrev pub Both : {A : Type 0} → (A → Type 0) → Type 0
Both {A = A} holds = (x : A) × holds x
