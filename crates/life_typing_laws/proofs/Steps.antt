-- What steps that succeed were made of.
use Rattle.std.proofs.Common.{◌≡◌, ℕ, Option, None, Some, Ok, Err, refl, ap, Bool, true, false, sym, ◌∙◌, true≢false}
use Rattle.life_types.specs.Types.{Types}
use Rattle.life_types.specs.declared.place.Place.{Place}
use Rattle.life_names.specs.Checked.{Checked, ◌>>=◌}
use Rattle.life_names.specs.Found.{Found, allowed, found_in, given}
use Rattle.life_names.specs.declared.environment.Entity.{Entity}
use Rattle.life_names.specs.declared.environment.Entity.TheVariants as entity
use Rattle.life_names.specs.declared.fault.IllKind.{IllKind}
use Rattle.life_typing.specs.Answers.{Answer, ◌>>◌}

-- the first step gave a value, and with it the rest gave this
pub record Bound {A B : Type 0} (first : Checked A) (rest : A × Types → Checked B) (y : B × Types) : Type 0 where
  pub value : A × Types
  pub gave : first ≡ Ok value
  pub behind : rest value ≡ Ok y

pub bound : {A B : Type 0} (first : Checked A) (rest : A × Types → Checked B) (y : B × Types) → (first >>= rest) ≡ Ok y → Bound first rest y
bound (Ok x) rest y e = record { value = x; gave = refl; behind = e }
bound (Err r) rest y e = absurd (cc)

-- .. where what was found first needs no table
pub record Given {A B : Type 0} (found : Found A) (rest : A → Checked B) (y : B × Types) : Type 0 where
  pub value : A
  pub gave : found ≡ Ok value
  pub behind : rest value ≡ Ok y

pub given_ok : {A B : Type 0} (found : Found A) (rest : A → Checked B) (y : B × Types) → given found rest ≡ Ok y → Given found rest y
given_ok (Ok x) rest y e = record { value = x; gave = refl; behind = e }
given_ok (Err r) rest y e = absurd (cc)

-- .. without a table behind it
pub record Answered {A B : Type 0} (first : Answer A) (rest : A → Answer B) (y : B) : Type 0 where
  pub value : A
  pub gave : first ≡ Ok value
  pub behind : rest value ≡ Ok y

pub answered : {A B : Type 0} (first : Answer A) (rest : A → Answer B) (y : B) → (first >> rest) ≡ Ok y → Answered first rest y
answered (Ok x) rest y e = record { value = x; gave = refl; behind = e }
answered (Err r) rest y e = absurd (cc)

-- what was found, in the table that there was
pub found_ok : {A : Type 0} (types : Types) (found : Found A) (x : A × Types) → found_in types found ≡ Ok x → (found ≡ Ok x.0) × (types ≡ x.1)
found_ok {A = A} types (Ok z) x e = let same : ◌≡◌ {A = A × Types} (z, types) x = cc in (ap (λ (y : A × Types). Ok y.0) same, ap (λ (y : A × Types). y.1) same)
found_ok types (Err r) x e = absurd (cc)

-- no rule was broken
pub no_fault : (fault : Option IllKind) (place : Place) (u : Unit {0}) → allowed fault place ≡ Ok u → fault ≡ None
no_fault None place u e = refl
no_fault (Some kind) place u e = absurd (cc)

pub allowed_ok : {B : Type 0} (fault : Option IllKind) (place : Place) (rest : Unit {0} → Checked B) (y : B × Types) → given (allowed fault place) rest ≡ Ok y → (fault ≡ None) × (rest tt ≡ Ok y)
allowed_ok None place rest y e = (refl, e)
allowed_ok (Some kind) place rest y e = absurd (cc)

-- ---- what is given is one thing

pub same_some : {A : Type 0} (x y : A) → ◌≡◌ {A = Option A} (Some x) (Some y) → x ≡ y
same_some x y e = cc

pub same_answer : {A : Type 0} (x y : A) → ◌≡◌ {A = Answer A} (Ok x) (Ok y) → x ≡ y
same_answer x y e = cc

pub same_value : {A : Type 0} (x y : A × Types) → ◌≡◌ {A = Checked A} (Ok x) (Ok y) → x ≡ y
same_value x y e = cc

-- .. and no test both holds and fails
pub not_both : {P : Type 0} (b : Bool) → b ≡ true → b ≡ false → P
not_both b holds fails = absurd (true≢false (sym holds ∙ fails))

-- one function has one number
pub same_number : (m n : ℕ) → ◌≡◌ {A = Entity} (entity.Function m) (entity.Function n) → m ≡ n
same_number m n e = cc
