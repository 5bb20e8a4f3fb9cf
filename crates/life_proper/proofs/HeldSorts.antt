-- Types that are the same, and what pointers of one kind hold.
use Rattle.std.proofs.Common.{◌≡◌, ◌⊎◌, Bool, true, false, not, Option, Some, None, slice_get, refl, sym, subst, rules}
use Rattle.std.proofs.lemmas.Bool.{false≢true}
use Rattle.life_types.specs.Pointees.{or_void}
use Rattle.life_types.specs.Types.{Types, is_slot_target, is_slot_type, is_slot_at}
use Rattle.life_types.specs.contracts.ty.TyPartialEq.TheImpl.{ghosts as compared}
use Rattle.life_types.specs.declared.ty.Ty.{Ty}
use Rattle.life_types.specs.declared.ty.Ty.TheVariants as ty
use Rattle.life_types.specs.declared.ty.TyId.{TyId}
use Rattle.life_core.specs.Holdings.{Holding, APointer, AView}
use Rattle.life_pset.specs.Shapes.{referred, shape_if, unslotted}
use Rattle.life_proper.specs.OperandTypes.{same}

-- ---- one type

alike_same : (t u : Ty) → compared.eq t u ≡ true → t ≡ u
alike_same t u e = search rules

pub same_is : (t u : Ty) → same t u ≡ true → t ≡ u
same_is ty.Void u e = absurd (false≢true e)
same_is t u e = alike_same _ _ e

pub same_void : (t : Ty) → same t ty.Void ≡ true → ⊥
same_void t e = absurd_void t (same_is t ty.Void e) e
  where
    absurd_void : (u : Ty) → u ≡ ty.Void → same u ty.Void ≡ true → ⊥
    absurd_void u is h = false≢true (subst (λ (v : Ty). same v ty.Void ≡ true) is h)

-- ---- a local that is no slot has its own type

referred_same : (id target : TyId) (o : Option Ty) → is_slot_target o ≡ false → referred id target (or_void o) ≡ id
referred_same id target None e = refl
referred_same id target (Some (ty.Iterator item constant)) e = absurd (false≢true (sym e))
referred_same id target (Some (ty.Span item constant)) e = absurd (false≢true (sym e))
referred_same id target (Some ty.View) e = absurd (false≢true (sym e))
referred_same id target (Some (ty.Unique item)) e = absurd (false≢true (sym e))
referred_same id target (Some _) e = refl

unslotted_same : (types : Types) (id : TyId) (o : Option Ty) → is_slot_type types o ≡ false → unslotted types id (or_void o) ≡ id
unslotted_same types id None e = refl
unslotted_same types id (Some (ty.Reference target false)) e = referred_same id target (slice_get types.types target.0) e
unslotted_same types id (Some _) e = refl

pub shape_same : (types : Types) (parameter : Bool) (id : TyId) → is_slot_at types id ≡ false → shape_if types parameter id ≡ id
shape_same types true id e = unslotted_same types id (slice_get types.types id.0) e
shape_same types false id e = refl

pub not_false : (b : Bool) → not b ≡ true → b ≡ false
not_false false e = refl
not_false true e = absurd (false≢true e)

-- ---- what pointers hold

-- a raw pointer, a reference or a view
abbrev pub IsPointing : Holding → Type 0
IsPointing h = (h ≡ APointer) ⊎ (h ≡ AView)

-- two pointers of one kind
abbrev pub AreOneSort : Holding → Holding → Type 0
AreOneSort g h = ((g ≡ APointer) × (h ≡ APointer)) ⊎ ((g ≡ AView) × (h ≡ AView))
