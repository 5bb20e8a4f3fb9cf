-- The number of a type in a table.
use Rattle.std.proofs.Common.{◌≡◌, ℕ, zero, suc, ◌<◌, ◌≤◌, Bool, true, false, List, [], ◌∷◌, Some, None, Ok, length, slice_get, is_some, is_none, refl, sym, ap, subst, ◌∙◌, rules, arith, get_or, ◌⊎◌, inl, inr}
use Rattle.std.specs.Prelude.{nat_lt}
use Rattle.std.proofs.lemmas.Option.{slice_get_cases}
use Rattle.std.proofs.lemmas.Bool.{lt-ltb, le-ltb, ltb-true, ltb-false}
use Rattle.life_types.specs.Types.{Types, HasEachOnce, with_type}
use Rattle.life_types.specs.contracts.ty.TyPartialEq.TheImpl.{ghosts as compared}
use Rattle.life_types.specs.declared.place.Place.{Place}
use Rattle.life_types.specs.declared.ty.Ty.{Ty}
use Rattle.life_types.specs.declared.ty.TyId.{TyId}
use Rattle.life_names.specs.Table.{can_add, number_of, type_added}

same_type : (t : Ty) → compared.eq t t ≡ true
same_type t = search rules

same_types : (t u : Ty) → compared.eq t u ≡ true → t ≡ u
same_types t u e = search rules

first_is : (t x : Ty) → Some x ≡ Some t → compared.eq t x ≡ true
first_is t x e = let same : t ≡ x = cc in subst (λ (y : Ty). compared.eq t y ≡ true) same (same_type t)

number_there : (xs : List Ty) (t : Ty) (n : ℕ) → slice_get xs n ≡ Some t → slice_get xs (number_of xs t) ≡ Some t
number_there [] t n e = e
number_there (x ∷ xs) t zero e = rw (first_is t x e) e
number_there (x ∷ xs) t (suc n) e = go (compared.eq t x) refl (number_there xs t n e)
  where
    go : (b : Bool) → compared.eq t x ≡ b → slice_get xs (number_of xs t) ≡ Some t → slice_get (x ∷ xs) (number_of (x ∷ xs) t) ≡ Some t
    go true is rest = rw is (ap Some (sym (same_types t x is)))
    go false is rest = rw is rest

-- where a type has one number, that is its number
pub number_given : (types : Types) (t : Ty) (id : TyId) → HasEachOnce types → slice_get types.types id.0 ≡ Some t → record { 0 = number_of types.types t } ≡ id
number_given types t id once e = ap (λ (n : ℕ). record { 0 = n }) (once (number_of types.types t) id.0 t (number_there types.types t id.0 e) e)

-- a type that was added
pub added : (types after : Types) (place : Place) (t : Ty) (id : TyId) → can_add types t ≡ true → after ≡ record types { types = with_type types.types t }
    → HasEachOnce after → slice_get after.types id.0 ≡ Some t → type_added place t types ≡ Ok (id, after)
unfolding type_added
added types after place t id can grown once e =
    let number : record { 0 = number_of (with_type types.types t) t } ≡ id =
    subst (λ (xs : List Ty). record { 0 = number_of xs t } ≡ id) (ap (λ (ts : Types). ts.types) grown) (number_given after t id once e) in
    rw can (ap (λ (i : TyId). Ok (i, record types { types = with_type types.types t })) number ∙ ap (λ (ts : Types). Ok (id, ts)) (sym grown))

-- ---- tests by what there is at a number

lower : (i n : ℕ) → nat_lt i n ≡ nat_lt (suc i) (suc n)
lower i n = go (nat_lt i n) refl
  where
    go : (b : Bool) → nat_lt i n ≡ b → nat_lt i n ≡ nat_lt (suc i) (suc n)
    go true e = let less = ltb-true i n e in e ∙ sym (lt-ltb (suc i) (suc n) (omega arith))
    go false e = let less = ltb-false i n e in e ∙ sym (le-ltb (suc i) (suc n) (omega arith))

pub there : {X : Type 0} (xs : List X) (i : ℕ) → is_some (slice_get xs i) ≡ nat_lt i (length xs)
there [] i = sym (le-ltb i 0 (omega arith))
there (x ∷ xs) zero = sym (lt-ltb 0 (suc (length xs)) (omega arith))
there (x ∷ xs) (suc i) = there xs i ∙ lower i (length xs)

-- nothing is at a number where there are no more
pub room : {X : Type 0} (xs : List X) (i : ℕ) → is_none (slice_get xs i) ≡ nat_lt (length xs) (suc i)
room {X = X} xs i = go (slice_get_cases xs i).1
  where
    go : ((x : X) × (i < length xs) × (slice_get xs i ≡ Some x) × (get_or xs i x ≡ x)) ⊎ ((length xs ≤ i) × (slice_get xs i ≡ None)) → is_none (slice_get xs i) ≡ nat_lt (length xs) (suc i)
    go (inl h) = let less = h.1 in rw h.2 (sym (le-ltb (length xs) (suc i) (omega arith)))
    go (inr h) = let less = h.0 in rw h.1 (sym (lt-ltb (length xs) (suc i) (omega arith)))
