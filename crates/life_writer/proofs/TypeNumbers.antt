-- The number of a type in a table.
use Rattle.std.proofs.Common.{◌≡◌, ◌+◌, ℕ, zero, suc, ◌<◌, ◌≤◌, Bool, true, false, List, [], ◌∷◌, ◌++◌, Option, Some, None, if◌then◌else◌, ◌||◌, length, slice_get, is_some, is_none, refl, sym, ap, subst, rules, arith, get_or, ◌⊎◌, inl, inr, true≢false}
use Rattle.std.specs.List.{list_any}
use Rattle.std.specs.Prelude.{IsTrue}
use Rattle.std.proofs.lemmas.Option.{slice_get_cases}
use Rattle.life_types.specs.Types.{Types, HasEachOnce, with_type}
use Rattle.life_types.specs.contracts.ty.TyPartialEq.TheImpl.{ghosts as compared}
use Rattle.life_types.specs.declared.ty.Ty.{Ty}
use Rattle.life_types.specs.declared.ty.TyId.{TyId}
use Rattle.life_writer.specs.Registers.{number_of}

same_type : (t : Ty) → compared.eq t t ≡ true
same_type t = search rules

same_types : (t u : Ty) → compared.eq t u ≡ true → t ≡ u
same_types t u e = search rules

first_is : (t x : Ty) → Some x ≡ Some t → compared.eq t x ≡ true
first_is t x e = let same : t ≡ x = cc in subst (λ (y : Ty). compared.eq t y ≡ true) same (same_type t)

number_there : (xs : List Ty) (t : Ty) (n : ℕ) → slice_get xs n ≡ Some t → slice_get xs (number_of xs t) ≡ Some t
number_there [] t n e = e
number_there (x ∷ xs) t zero e = rw (first_is t x e) e
number_there (x ∷ xs) t (suc n) e = go (compared.eq t x) refl (number_there xs t n e)
  where
    go : (b : Bool) → compared.eq t x ≡ b → slice_get xs (number_of xs t) ≡ Some t → slice_get (x ∷ xs) (number_of (x ∷ xs) t) ≡ Some t
    go true is rest = rw is (ap Some (sym (same_types t x is)))
    go false is rest = rw is rest

-- where a type has one number, that is its number
pub number_given : (types : Types) (t : Ty) (id : TyId) → HasEachOnce types → slice_get types.types id.0 ≡ Some t → id ≡ record { 0 = number_of types.types t }
number_given types t id once e = ap (λ (n : ℕ). record { 0 = n }) (once id.0 (number_of types.types t) t e (number_there types.types t id.0 e))

-- ---- one type after the other, from the first

same_some : (t x y : Ty) (b : Bool) → Some y ≡ Some x → compared.eq t x ≡ b → compared.eq t y ≡ b
same_some t x y b there is = let same : x ≡ y = cc in subst (λ (z : Ty). compared.eq t z ≡ b) same is

-- one that is another
pub comes_later : (xs : List Ty) (t x : Ty) (n : ℕ) → n ≤ number_of xs t → slice_get xs n ≡ Some x → compared.eq t x ≡ false → n + 1 ≤ number_of xs t
comes_later [] t x n before there other = absurd (let both : None ≡ Some x = there in cc)
comes_later (y ∷ ys) t x zero before there other = rw (same_some t x y false there other) (omega arith)
comes_later (y ∷ ys) t x (suc n) before there other = go (compared.eq t y) before (λ le. comes_later ys t x n le there other)
  where
    go : (b : Bool) → suc n ≤ (if b then zero else suc (number_of ys t)) → (n ≤ number_of ys t → n + 1 ≤ number_of ys t) → suc n + 1 ≤ (if b then zero else suc (number_of ys t))
    go true le later = absurd (omega (arith, le))
    go false le later = let more : n ≤ number_of ys t = omega (arith, le) in let rest = later more in omega (arith, rest)

-- .. and the first that is the same
pub comes_here : (xs : List Ty) (t x : Ty) (n : ℕ) → n ≤ number_of xs t → slice_get xs n ≡ Some x → compared.eq t x ≡ true → n ≡ number_of xs t
comes_here [] t x n before there same = absurd (let both : None ≡ Some x = there in cc)
comes_here (y ∷ ys) t x zero before there same = rw (same_some t x y true there same) refl
comes_here (y ∷ ys) t x (suc n) before there same = go (compared.eq t y) before (λ le. comes_here ys t x n le there same)
  where
    go : (b : Bool) → suc n ≤ (if b then zero else suc (number_of ys t)) → (n ≤ number_of ys t → n ≡ number_of ys t) → suc n ≡ (if b then zero else suc (number_of ys t))
    go true le here = absurd (omega (arith, le))
    go false le here = let more : n ≤ number_of ys t = omega (arith, le) in ap suc (here more)

among : (xs : List Ty) (t x : Ty) (n : ℕ) → slice_get xs n ≡ Some x → compared.eq t x ≡ true → list_any (compared.eq t) xs ≡ true
among [] t x n there same = absurd (let both : None ≡ Some x = there in cc)
among (y ∷ ys) t x zero there same = rw (same_some t x y true there same) refl
among (y ∷ ys) t x (suc n) there same = go (compared.eq t y) (among ys t x n there same)
  where
    go : (b : Bool) → list_any (compared.eq t) ys ≡ true → (b || list_any (compared.eq t) ys) ≡ true
    go true rest = refl
    go false rest = rest

-- a table that has the type stays as it is
pub stays_with : (types : Types) (t x : Ty) (n : ℕ) → slice_get types.types n ≡ Some x → compared.eq t x ≡ true → types ≡ record types { types = with_type types.types t }
stays_with types t x n there same = ap (λ (b : Bool). record types { types = if b then types.types else types.types ++ t ∷ [] }) (sym (among types.types t x n there same))

-- ---- tests by what there is at a number

-- something is at a number that is low enough
pub there : {X : Type 0} (xs : List X) (i : ℕ) → IsTrue (is_some (slice_get xs i)) → i < length xs
there {X = X} xs i = go (slice_get_cases xs i).1
  where
    go : ((x : X) × (i < length xs) × (slice_get xs i ≡ Some x) × (get_or xs i x ≡ x)) ⊎ ((length xs ≤ i) × (slice_get xs i ≡ None)) → IsTrue (is_some (slice_get xs i)) → i < length xs
    go (inl h) is = h.1
    go (inr h) is = absurd (true≢false (sym (subst (λ (o : Option X). IsTrue (is_some o)) h.1 is)))

-- nothing is at a number where there are no more
pub room : {X : Type 0} (xs : List X) (i : ℕ) → IsTrue (is_none (slice_get xs i)) → length xs < suc i
room {X = X} xs i = go (slice_get_cases xs i).1
  where
    go : ((x : X) × (i < length xs) × (slice_get xs i ≡ Some x) × (get_or xs i x ≡ x)) ⊎ ((length xs ≤ i) × (slice_get xs i ≡ None)) → IsTrue (is_none (slice_get xs i)) → length xs < suc i
    go (inl h) is = absurd (true≢false (sym (subst (λ (o : Option X). IsTrue (is_none o)) h.2 is)))
    go (inr h) is = omega (arith, h.0)
