-- The types that registers and objects have in the finished function.
use Rattle.std.proofs.Common.{◌≡◌, ℕ, Bool, true, false, ◌&&◌, nat_lt, slice_get, Option, Some, None, refl, sym, ap, ◌∙◌, subst, unwrap_or, rules}
use Rattle.std.proofs.lemmas.Bool.{and_from, and_parts, false≢true}
use Rattle.life_types.specs.Pointees.{or_void, ty_of}
use Rattle.life_types.specs.TypeTests.{is_reference, is_value}
use Rattle.life_types.specs.Types.{Types}
use Rattle.life_types.specs.declared.ty.Ty.{Ty}
use Rattle.life_types.specs.declared.ty.Ty.TheVariants as ty
use Rattle.life_types.specs.declared.ty.TyId.{TyId}
use Rattle.life_core.specs.Function.{Function}
use Rattle.life_core.specs.declared.program.Local.{Local}
use Rattle.life_core.specs.declared.program.LocalKind.TheVariants.{Object, Register}
use Rattle.life_core.specs.Kinds.{has_kind, is_object, is_register}
use Rattle.life_pset.specs.Shapes.{shape_if, shape_of, ty_if, unslotted}
use Rattle.life_proper.specs.OperandTypes.{same}
use Rattle.life_proper.specs.Placed.{is_number, is_number_of, object_at, register_at, type_at}
use Rattle.life_typed.specs.BaseTypes as base
use Rattle.life_elab_laws.proofs.Types.{same_types}

-- ---- types

pub value_same : (t : Ty) → is_value t ≡ true → same t t ≡ true
value_same ty.Bool v = search rules
value_same ty.Char v = search rules
value_same ty.Int v = search rules
value_same ty.Long v = search rules
value_same ty.Size v = search rules
value_same _ v = absurd (false≢true v)

pub value_no_reference : (t : Ty) → is_value t ≡ true → is_reference t ≡ false
value_no_reference ty.Bool v = refl
value_no_reference ty.Char v = refl
value_no_reference ty.Int v = refl
value_no_reference ty.Long v = refl
value_no_reference ty.Size v = refl
value_no_reference _ v = absurd (false≢true v)

pub same_is : (t u : Ty) → same t u ≡ true → t ≡ u
same_is ty.Void u e = absurd (false≢true e)
same_is t u e = same_types t u e

-- the type with a number, by both definitions
pub type_either : (types : Types) (id : TyId) → ty_of types id ≡ base.type_at types id
type_either types id = go (slice_get types.types id.0)
  where
    go : (o : Option Ty) → or_void o ≡ unwrap_or o ty.Void
    go None = refl
    go (Some t) = refl

-- ---- locals

module _ (types : Types) (f : Function) where
  -- what is no reference stands as it is, also where a parameter has it
  own_shape : (parameter : Bool) (id : TyId) (t : Ty) → ty_of types id ≡ t → is_reference t ≡ false → shape_if types parameter id ≡ id
  own_shape false id t at plain = refl
  own_shape true id t at plain = ap (unslotted types id) at ∙ go t plain
    where
      go : (t : Ty) → is_reference t ≡ false → unslotted types id t ≡ id
      go (ty.Reference target constant) plain = absurd (false≢true (sym plain))
      go _ plain = refl

  pub type_there : (x : ℕ) (l : Local) (t : Ty) → slice_get f.locals x ≡ Some l → slice_get types.types l.ty.0 ≡ Some t → is_reference t ≡ false → type_at types f x ≡ t
  type_there x l t at typed plain =
      ap (λ (o : Option Local). ty_if types (shape_of types f.parameters x o)) at
      ∙ ap (ty_of types) (own_shape (nat_lt x f.parameters) l.ty t (ap or_void typed) plain)
      ∙ ap or_void typed

  pub register_there : (x : ℕ) (l : Local) → slice_get f.locals x ≡ Some l → l.kind ≡ Register → register_at types f x ≡ true
  register_there x l at kind = ap (has_kind is_register) at ∙ ap is_register kind

  pub object_there : (x : ℕ) (l : Local) → slice_get f.locals x ≡ Some l → l.kind ≡ Object → object_at types f x ≡ true
  object_there x l at kind = ap (has_kind is_object) at ∙ ap is_object kind

  -- a register with a value
  pub number_there : (x : ℕ) (l : Local) (t : Ty) → slice_get f.locals x ≡ Some l → l.kind ≡ Register → slice_get types.types l.ty.0 ≡ Some t → is_value t ≡ true → is_number_of types f t x ≡ true
  number_there x l t at kind typed v =
      and_from (register_at types f x) (is_value t && same t (type_at types f x)) (register_there x l at kind)
      (and_from (is_value t) (same t (type_at types f x)) v (ap (same t) (type_there x l t at typed (value_no_reference t v)) ∙ value_same t v))

  -- .. has that type, and is one with any value
  pub number_typed : (t : Ty) (r : ℕ) → is_number_of types f t r ≡ true → t ≡ type_at types f r
  number_typed t r h =
      let more = and_parts (register_at types f r) (is_value t && same t (type_at types f r)) h in
      same_is t (type_at types f r) (and_parts (is_value t) (same t (type_at types f r)) more.1).1

  pub number_any : (t : Ty) (r : ℕ) → is_number_of types f t r ≡ true → is_number types f r ≡ true
  number_any t r h =
      let more = and_parts (register_at types f r) (is_value t && same t (type_at types f r)) h in
      and_from (register_at types f r) (is_value (type_at types f r)) more.0
      (subst (λ (u : Ty). is_value u ≡ true) (number_typed t r h) (and_parts (is_value t) (same t (type_at types f r)) more.1).0)
