-- The number of a type in a table that it was added to, and what a local of a type holds.
use Rattle.std.proofs.Common.{◌≡◌, Bool, true, false, List, [], ◌∷◌, ◌++◌, if◌then◌else◌, slice_get, Some, refl, sym, ap, rules}
use Rattle.std.specs.List.{list_any}
use Rattle.std.proofs.lemmas.Bool.{false≢true}
use Rattle.life_types.specs.TypeTests.{is_value}
use Rattle.life_types.specs.Types.{Types, class, with_type}
use Rattle.life_types.specs.contracts.ty.TyPartialEq.TheImpl.{ghosts as compared}
use Rattle.life_types.specs.declared.ty.Class.TheVariants.{Owner, Pointer, Value}
use Rattle.life_types.specs.declared.ty.Ty.{Ty}
use Rattle.life_core.specs.declared.program.LocalKind.TheVariants.{Object}
use Rattle.life_writer.specs.Registers.{number_of}
use Rattle.life_writer.specs.Variables.{kind}
use Rattle.life_elab_laws.proofs.Fronts.{IsFront, front_append, front_itself}
use Rattle.life_elab_laws.proofs.Values.{by_values, by_owners, by_walkers}
use Rattle.life_elab_laws.proofs.ObjectTypes.{is_owner_of_values, is_walker_of_values}

-- ---- numbers

pub same_type : (t : Ty) → compared.eq t t ≡ true
same_type t = search rules

pub same_types : (t u : Ty) → compared.eq t u ≡ true → t ≡ u
same_types t u e = search rules

pub number_among : (xs : List Ty) (t : Ty) → list_any (compared.eq t) xs ≡ true → slice_get xs (number_of xs t) ≡ Some t
number_among [] t e = absurd (false≢true e)
number_among (x ∷ xs) t e = go (compared.eq t x) refl (number_among xs t)
  where
    go : (b : Bool) → compared.eq t x ≡ b → (list_any (compared.eq t) xs ≡ true → slice_get xs (number_of xs t) ≡ Some t) → slice_get (x ∷ xs) (number_of (x ∷ xs) t) ≡ Some t
    go true is rest = rw is (ap Some (sym (same_types t x is)))
    go false is rest = let more : list_any (compared.eq t) xs ≡ true = rw is at e in rw is (rest more)

pub number_last : (xs : List Ty) (t : Ty) → list_any (compared.eq t) xs ≡ false → slice_get (xs ++ t ∷ []) (number_of (xs ++ t ∷ []) t) ≡ Some t
number_last [] t e = rw (same_type t) refl
number_last (x ∷ xs) t e = go (compared.eq t x) refl (number_last xs t)
  where
    go : (b : Bool) → compared.eq t x ≡ b → (list_any (compared.eq t) xs ≡ false → slice_get (xs ++ t ∷ []) (number_of (xs ++ t ∷ []) t) ≡ Some t)
        → slice_get (x ∷ (xs ++ t ∷ [])) (number_of (x ∷ (xs ++ t ∷ [])) t) ≡ Some t
    go true is rest = rw is (ap Some (sym (same_types t x is)))
    go false is rest = let more : list_any (compared.eq t) xs ≡ false = rw is at e in rw is (rest more)

pub type_added : (xs : List Ty) (t : Ty) → slice_get (with_type xs t) (number_of (with_type xs t) t) ≡ Some t
type_added xs t = go (list_any (compared.eq t) xs) refl
  where
    go : (b : Bool) → list_any (compared.eq t) xs ≡ b → slice_get (with_type xs t) (number_of (with_type xs t) t) ≡ Some t
    go true is = rw is (number_among xs t is)
    go false is = rw is (number_last xs t is)

pub types_before : (xs : List Ty) (t : Ty) → IsFront xs (with_type xs t)
types_before xs t = go (list_any (compared.eq t) xs)
  where
    go : (b : Bool) → IsFront xs (if b then xs else xs ++ t ∷ [])
    go true = front_itself xs
    go false = front_append xs (t ∷ [])

-- ---- what locals hold

pub value_class : (t : Ty) → is_value t ≡ true → class (Some t) ≡ Value
value_class = by_values (λ t. class (Some t) ≡ Value) refl refl refl refl refl

pub owner_class : (types : Types) (t : Ty) → is_owner_of_values types t ≡ true → class (Some t) ≡ Owner
owner_class types = by_owners types _ refl (λ item. refl)

pub walker_class : (types : Types) (t : Ty) → is_walker_of_values types t ≡ true → class (Some t) ≡ Pointer
walker_class types = by_walkers types _ (λ item constant. refl) (λ item constant. refl)

pub value_kind : (t : Ty) → is_value t ≡ true → kind (class (Some t)) ≡ Object
value_kind t e = ap kind (value_class t e)
