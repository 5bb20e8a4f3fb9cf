-- Why no type has two numbers, and which number a type has.
use Rattle.std.proofs.Common.{◌≡◌, ℕ, suc, ◌+◌, ◌<◌, ◌≤◌, sym, ap, subst, ◌∙◌, inl, inr, true, false, cond, if◌then◌else◌, Bool, Some, None, List, [], ◌∷◌, ◌++◌, length, slice_get, position, refl, rules, arith}
use Rattle.std.specs.List.{IsDistinct, list_any, position_or_len}
use Rattle.std.specs.Prelude.{nat_lt}
use Rattle.std.proofs.lemmas.Bool.{both_ways, cases_order, ltb-true, ltb-false}
use Rattle.std.proofs.lemmas.Option.{get_or_from_slice_get, slice_get_within}
use Rattle.std.proofs.lemmas.Map.Keys.{apart_from_distinct}
use Rattle.life_types.specs.declared.ty.Ty.{Ty}
use Rattle.life_types.specs.declared.ty.TyId.{TyId}
use Rattle.life_types.specs.contracts.ty.TyPartialEq.TheImpl.{ghosts as compared}
use Rattle.life_types.specs.Types.{Types, HasEachOnce, with_type}

some_same : {X : Type 0} {x y : X} → Some x ≡ Some y → x ≡ y
some_same e = cc

none_some : {X : Type 0} {x : X} → None ≡ Some x → ⊥
none_some e = cc

some_none : {X : Type 0} {x : X} → Some x ≡ None → ⊥
some_none e = cc

same_type : (t : Ty) → compared.eq t t ≡ true
same_type t = search rules

module _ (types : List Ty) (structs : List (List TyId)) (distinct : IsDistinct compared.eq types) where
  not_later : (m n : ℕ) (t : Ty) → m < n → slice_get types m ≡ Some t → slice_get types n ≡ Some t → ⊥
  not_later m n t below here there =
      both_ways (compared.eq t t) (sym (λ i. compared.eq (get_or_from_slice_get types m t t here i) (get_or_from_slice_get types n t t there i))
      ∙ apart_from_distinct compared.eq types m n t distinct below (slice_get_within types n t there)) (same_type t)

  -- in a list of distinct types each has one number
  pub each_once : HasEachOnce (record { types = types; structs = structs })
  each_once m n t here there = elim (cases_order m n) [
    | inl same ↦ same
    | inr order ↦ elim order [ inl below ↦ absurd (not_later m n t below here there) | inr above ↦ absurd (not_later n m t above there here) ]
  ]

same_types : (t u : Ty) → compared.eq t u ≡ true → t ≡ u
same_types t u e = search rules

-- ---- where the first is that passes a test

record IsFirst {X : Type 0} (test : X → Bool) (xs : List X) (n : ℕ) : Type 0 where
  item : X
  there : slice_get xs n ≡ Some item
  passes : test item ≡ true
  among : list_any test xs ≡ true

module _ {X : Type 0} (test : X → Bool) where
  first_in : (xs : List X) → position_or_len test xs < length xs → IsFirst test xs (position_or_len test xs)
  first_in [] h = absurd (omega arith)
  first_in (x ∷ xs) h = go (test x) refl (first_in xs)
    where
      go : (b : Bool) → test x ≡ b → (position_or_len test xs < length xs → IsFirst test xs (position_or_len test xs)) → IsFirst test (x ∷ xs) (position_or_len test (x ∷ xs))
      go true e rest = rw e (record { item = x; there = refl; passes = e; among = rw e refl })
      go false e rest =
          let below : 1 + position_or_len test xs < suc (length xs) = rw e at h in
          let first : IsFirst test xs (position_or_len test xs) = rest (omega arith) in
          let next : 1 + position_or_len test xs ≡ suc (position_or_len test xs) = omega arith in
          rw (e, next) (record { item = first.item; there = first.there; passes = first.passes; among = rw e first.among })

  none_in : (xs : List X) → length xs ≤ position_or_len test xs → list_any test xs ≡ false
  none_in [] h = refl
  none_in (x ∷ xs) h = go (test x) refl (none_in xs)
    where
      go : (b : Bool) → test x ≡ b → (length xs ≤ position_or_len test xs → list_any test xs ≡ false) → list_any test (x ∷ xs) ≡ false
      go true e rest = let far : suc (length xs) ≤ 0 = rw e at h in absurd (omega arith)
      go false e rest = let far : suc (length xs) ≤ 1 + position_or_len test xs = rw e at h in rw e (rest (omega arith))

  first_at : (xs : List X) (n : ℕ) → position test xs ≡ Some n → IsFirst test xs n
  first_at xs n e = go (nat_lt (position_or_len test xs) (length xs)) refl
    where
      go : (b : Bool) → nat_lt (position_or_len test xs) (length xs) ≡ b → IsFirst test xs n
      go true less =
          let same : position_or_len test xs ≡ n = some_same (sym (ap (λ b. cond b (Some (position_or_len test xs)) None) less) ∙ e) in
          subst (IsFirst test xs) same (first_in xs (ltb-true (position_or_len test xs) (length xs) less))
      go false less = absurd (none_some (sym (ap (λ b. cond b (Some (position_or_len test xs)) None) less) ∙ e))

  pub none_at : (xs : List X) → position test xs ≡ None → list_any test xs ≡ false
  none_at xs e = go (nat_lt (position_or_len test xs) (length xs)) refl
    where
      go : (b : Bool) → nat_lt (position_or_len test xs) (length xs) ≡ b → list_any test xs ≡ false
      go true less = absurd (some_none (sym (ap (λ b. cond b (Some (position_or_len test xs)) None) less) ∙ e))
      go false less = none_in xs (ltb-false (position_or_len test xs) (length xs) less)

-- a type that is found has this number, and adding it changes nothing
pub record IsFound (types : List Ty) (t : Ty) (n : ℕ) : Type 0 where
  pub there : slice_get types n ≡ Some t
  pub same : with_type types t ≡ types

pub found_at : (types : List Ty) (t : Ty) (n : ℕ) → position (compared.eq t) types ≡ Some n → IsFound types t n
found_at types t n e =
    let first : IsFirst (compared.eq t) types n = first_at (compared.eq t) types n e in
    record {
      there = first.there ∙ ap Some (sym (same_types t first.item first.passes));
      same = ap (λ b. if b then types else types ++ t ∷ []) first.among;
    }

pub new_last : (types : List Ty) (t : Ty) → list_any (compared.eq t) types ≡ false → with_type types t ≡ types ++ t ∷ []
new_last types t e = ap (λ b. if b then types else types ++ t ∷ []) e

-- a type that the table has leaves it as it is
pub unchanged : (table : Types) (t : Ty) → with_type table.types t ≡ table.types → table ≡ record { types = with_type table.types t; structs = table.structs }
unchanged table t same = λ i. record { types = sym same i; structs = table.structs }
