-- Each type of a table stands once, also where one is added that isn't there.
use Rattle.std.proofs.Common.{◌≡◌, ⊎_elim, ℕ, zero, suc, Bool, true, false, Some, List, [], ◌∷◌, ◌++◌, slice_get, if◌then◌else◌, refl, sym, subst, ◌∙◌, rules, true≢false}
use Rattle.std.specs.List.{list_any}
use Rattle.life_types.specs.Types.{Types, HasEachOnce, with_type}
use Rattle.life_types.specs.contracts.ty.TyPartialEq.TheImpl.{ghosts as compared}
use Rattle.life_types.specs.declared.ty.Ty.{Ty}
use Rattle.life_types.specs.declared.ty.TyId.{TyId}
use Rattle.life_types.proofs.TreeLemmas.{in_more}

pub same_type : (t : Ty) → compared.eq t t ≡ true
same_type t = search rules

-- a type that is there is found
found_among : (xs : List Ty) (n : ℕ) (t : Ty) → slice_get xs n ≡ Some t → list_any (compared.eq t) xs ≡ true
found_among [] n t e = absurd (cc)
found_among (x ∷ xs) zero t e =
    let same : x ≡ t = cc in
    let here : compared.eq t x ≡ true = subst (λ (y : Ty). compared.eq t y ≡ true) (sym same) (same_type t) in
    rw here refl
found_among (x ∷ xs) (suc n) t e = go (compared.eq t x) refl (found_among xs n t e)
  where
    go : (b : Bool) → compared.eq t x ≡ b → list_any (compared.eq t) xs ≡ true → list_any (compared.eq t) (x ∷ xs) ≡ true
    go true is rest = rw is refl
    go false is rest = rw is rest

-- .. so each stands once where one is added that isn't there
pub once_more : (structs : List (List TyId)) (xs : List Ty) (t : Ty) → list_any (compared.eq t) xs ≡ false → HasEachOnce (record { types = xs; structs = structs })
    → HasEachOnce (record { types = xs ++ t ∷ []; structs = structs })
once_more structs xs t new once m n u first second =
    ⊎_elim (λ a. ⊎_elim (λ b. once m n u a b) (λ b. never m a b.1) (in_more xs t n u second)) (λ a. ⊎_elim (λ b. never n b a.1) (λ b. a.0 ∙ sym b.0) (in_more xs t n u second)) (in_more xs t m u first)
  where
    never : {P : Type 0} (k : ℕ) → slice_get xs k ≡ Some u → t ≡ u → P
    never k there same = absurd (true≢false (sym (found_among xs k t (subst (λ (w : Ty). slice_get xs k ≡ Some w) (sym same) there)) ∙ new))

pub once_with : (table : Types) (t : Ty) → HasEachOnce table → HasEachOnce (record table { types = with_type table.types t })
once_with table t once = go (list_any (compared.eq t) table.types) refl
  where
    go : (b : Bool) → list_any (compared.eq t) table.types ≡ b → HasEachOnce (record table { types = if b then table.types else table.types ++ t ∷ [] })
    go true is = once
    go false is = once_more table.structs table.types t is once
