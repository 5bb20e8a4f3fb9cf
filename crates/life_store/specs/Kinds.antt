-- What each word of a value is, by the type: a number, an owner, or a part of a pointer.
use Rattle.std.specs.Prelude.{ℕ, zero, suc, Bool, true, false}
use Rattle.life_store.specs.Parts.{Parts, Single, Raw, Iterates, Views, Text, Vector, Unique, Member, NoMember, width}

-- a number as it is; what names an owned object (or 0); or one of a pointer's five words
pub data Kind : Type 0 where
  Plain : Kind
  Owner : Kind
  Pointing : ℕ → Kind

abbrev pub is_owner : Kind → Bool
is_owner Owner = true
is_owner _ = false

abbrev pub is_value : Kind → Bool
is_value Plain = true
is_value _ = false

-- ---- by the parts of a type

-- one row behind so many of another
abbrev pub row_behind : {A : Type 0} → ℕ → (ℕ → A) → (ℕ → A) → ℕ → A
row_behind zero f g u = g u
row_behind (suc n) f g zero = f zero
row_behind (suc n) f g (suc u) = row_behind n (λ v. f (suc v)) g u

abbrev pub first_owns : ℕ → Kind
first_owns zero = Owner
first_owns (suc u) = Plain

abbrev pub kind_in : Parts → ℕ → Kind
kind_in Single u = Plain
kind_in Raw u = Pointing u
kind_in Iterates u = Pointing u
kind_in Views u = Pointing u
kind_in (Text ty) u = first_owns u
kind_in (Vector ty element) u = first_owns u
kind_in (Unique ty target) u = first_owns u
kind_in (Member first others) u = row_behind (width first) (kind_in first) (kind_in others) u
kind_in NoMember u = Plain
