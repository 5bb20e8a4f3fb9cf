-- In a table that has each type once, two types that are the same have one number.
use Rattle.std.proofs.Common.{◌≡◌, true, false, Option, Some, None, refl, sym, ap, ◌∙◌}
use Rattle.std.proofs.lemmas.Bool.{false≢true}
use Rattle.std.specs.Prelude.{slice_get}
use Rattle.life_types.specs.Pointees.{or_void, ty_of}
use Rattle.life_types.specs.TypeTests.{is_void}
use Rattle.life_types.specs.Types.{HasEachOnce, Types}
use Rattle.life_types.specs.declared.ty.Ty.{Ty}
use Rattle.life_types.specs.declared.ty.Ty.TheVariants as ty
use Rattle.life_types.specs.declared.ty.TyId.{TyId}
use Rattle.life_pset.specs.Shapes.{ty_if}
use Rattle.life_proper.specs.OperandTypes.{same}
use Rattle.life_proper.proofs.HeldSorts.{same_is}

-- ---- what is the same isn't void

pub same_solid : (t u : Ty) → same t u ≡ true → is_void t ≡ false
same_solid ty.Void u e = absurd (false≢true e)
same_solid _ u e = refl

pub also_solid : (t u : Ty) → same t u ≡ true → is_void u ≡ false
also_solid t u e = ap is_void (sym (same_is t u e)) ∙ same_solid t u e

-- ---- what isn't void is in the table

pub record IsOfType (types : Types) (id : Option TyId) (t : Ty) : Type 0 where
  pub number : TyId
  pub is : id ≡ Some number
  pub there : slice_get types.types number.0 ≡ Some t

pub type_there : (types : Types) (id : TyId) (t : Ty) → ty_of types id ≡ t → is_void t ≡ false → slice_get types.types id.0 ≡ Some t
type_there types id t e some = go (slice_get types.types id.0) e
  where
    go : (o : Option Ty) → or_void o ≡ t → o ≡ Some t
    go None k = absurd (false≢true (sym some ∙ ap is_void (sym k)))
    go (Some u) k = ap Some k

pub typed_at : (types : Types) (id : Option TyId) (t : Ty) → ty_if types id ≡ t → is_void t ≡ false → IsOfType types id t
typed_at types None t e some = absurd (false≢true (sym some ∙ ap is_void (sym e)))
typed_at types (Some id) t e some = record { number = id; is = refl; there = type_there types id t e some }

-- ---- one number

numbers_meet : (a b : TyId) → a.0 ≡ b.0 → a ≡ b
numbers_meet a b e = λ i. record { 0 = e i }

module _ (types : Types) (once : HasEachOnce types) where
  pub one_type : (a b : TyId) (t : Ty) → slice_get types.types a.0 ≡ Some t → slice_get types.types b.0 ≡ Some t → a ≡ b
  one_type a b t here there = numbers_meet a b (once a.0 b.0 t here there)

  pub number_of_type : (a b : TyId) (t : Ty) → same (ty_of types a) t ≡ true → slice_get types.types b.0 ≡ Some t → a ≡ b
  number_of_type a b t e there = one_type a b t (type_there types a t (same_is (ty_of types a) t e) (also_solid (ty_of types a) t e)) there

  pub one_number : (a b : TyId) → same (ty_of types a) (ty_of types b) ≡ true → a ≡ b
  one_number a b e = number_of_type a b (ty_of types b) e (type_there types b (ty_of types b) refl (also_solid (ty_of types a) (ty_of types b) e))
