-- What fits, by kinds: what an object of a type is given has a value, or is an owner, an iterator or a span, a unique_ptr that is made, or a struct.
use Rattle.std.proofs.Common.{◌≡◌, Bool, true, false, not, cond, Err, refl, sym, ap, ◌∙◌, subst}
use Rattle.std.proofs.lemmas.Bool.{false≢true}
use Rattle.life_types.specs.TypeTests.{is_reference, is_unique, is_value, is_void}
use Rattle.life_types.specs.Types.{Types}
use Rattle.life_types.specs.contracts.ty.TyIdPartialEq.TheImpl.{ghosts as id}
use Rattle.life_types.specs.declared.ty.Ty.{Ty}
use Rattle.life_types.specs.declared.ty.Ty.TheVariants as ty
use Rattle.life_types.specs.declared.ty.TyId.{TyId}
use Rattle.life_elab_laws.proofs.ObjectTypes.{is_struct, is_target}
use Rattle.life_elab_laws.proofs.TypeKinds.{is_owner_type, is_plain_type, is_struct_type, is_unique_type, is_walker, is_walker_type, owns_elements, takes_owner, takes_struct, takes_value, is_void_type}
use Rattle.life_typed.specs.BaseTypes.{type_at}
use Rattle.life_typed.specs.Conversions.{fits, is_place, unless}
use Rattle.life_typed.specs.TypedForm.{Typed}
use Rattle.life_typed.specs.declared.misfit.Misfit.TheVariants.{Copy, General}
use Rattle.life_typed.specs.declared.typed_expr.Category.{Category}
use Rattle.life_typed.specs.declared.typed_expr.Category.TheVariants as category
use Rattle.life_typed.specs.declared.typed_expr.ExprType.{ExprType}
use Rattle.life_typed.specs.declared.typed_expr.ExprType.TheVariants.{NullPointer, Of, TextLiteral}
use Rattle.life_type_expr.specs.Lists.{fits_at_all}
use Rattle.life_well_typed.specs.Given.{is_given}
use Rattle.life_elab_laws.proofs.FormedFits.{IsBound, at_place, by_temporary, given_bound, tested_as}
use Rattle.life_elab_laws.proofs.KnownTypes.{owner_elements, target_no_reference, target_no_unique, target_no_walker}
use Rattle.life_elab_laws.proofs.Targets.{IsTarget, target_is, to_owner, to_struct, to_value}
use Rattle.life_elab_laws.proofs.Values.{by_values}
use Rattle.life_elab_laws.proofs.NoVoid.{no_void, type_no_void}

pub data IsTakenAs (t : Ty) (s : ExprType) (c : Category) : Type 0 where
  as_value : takes_value t ≡ true → is_plain_type s ≡ true → is_void_type s ≡ false → IsTakenAs t s c
  as_owner : takes_owner t ≡ true → is_owner_type s ≡ true → IsTakenAs t s c
  as_walker : is_walker t ≡ true → is_walker_type s ≡ true → IsTakenAs t s c
  as_unique : is_unique t ≡ true → is_unique_type s ≡ true → is_place c ≡ false → IsTakenAs t s c
  as_struct : takes_struct t ≡ true → is_struct_type s ≡ true → IsTakenAs t s c

-- ---- values

pub value_plain : (u : Ty) → is_value u ≡ true → is_plain_type (Of u) ≡ true
value_plain = by_values (λ u. is_plain_type (Of u) ≡ true) refl refl refl refl refl

pub value_some : (u : Ty) → is_value u ≡ true → is_void u ≡ false
value_some = no_void is_value refl

of_value : (t u : Ty) (c : Category) → takes_value t ≡ true → fits_at_all (unless (not (is_value u)) General) ≡ true → IsTakenAs t (Of u) c
of_value t u c takes h = let v = tested_as (is_value u) h in as_value takes (value_plain u v) (value_some u v)

-- ---- unique_ptrs

made_alone : (same held : Bool) → fits_at_all (cond same (unless held Copy) (Err General)) ≡ true → held ≡ false
made_alone true true h = absurd (false≢true h)
made_alone true false h = refl
made_alone false held h = absurd (false≢true h)

-- ---- an object that is no reference

fit_taken : (types : Types) (t : Ty) (s : ExprType) (c : Category) → is_reference t ≡ false → fits_at_all (fits types t s c) ≡ true → IsTakenAs t s c
fit_taken types ty.Void (Of u) c plain h = absurd (false≢true h)
fit_taken types ty.Void NullPointer c plain h = absurd (false≢true h)
fit_taken types ty.Void TextLiteral c plain h = absurd (false≢true h)
fit_taken types ty.Bool (Of u) c plain h = of_value ty.Bool u c refl h
fit_taken types ty.Char (Of u) c plain h = of_value ty.Char u c refl h
fit_taken types ty.Int (Of u) c plain h = of_value ty.Int u c refl h
fit_taken types ty.Long (Of u) c plain h = of_value ty.Long u c refl h
fit_taken types ty.Size (Of u) c plain h = of_value ty.Size u c refl h
fit_taken types ty.Text (Of ty.Text) c plain h = as_owner refl refl
fit_taken types ty.Text TextLiteral c plain h = as_value refl refl refl
fit_taken types ty.View (Of ty.Text) c plain h = as_owner refl refl
fit_taken types ty.View (Of ty.View) c plain h = as_value refl refl refl
fit_taken types ty.View TextLiteral c plain h = as_value refl refl refl
fit_taken types (ty.Vector item) (Of (ty.Vector found)) c plain h = as_owner refl refl
fit_taken types (ty.Unique target) (Of (ty.Unique found)) c plain h = as_unique refl refl (made_alone (id.eq found target) (is_place c) h)
fit_taken types (ty.Unique target) NullPointer c plain h = as_value refl refl refl
fit_taken types (ty.Raw target constant) (Of (ty.Raw found held)) c plain h = as_value refl refl refl
fit_taken types (ty.Raw target constant) NullPointer c plain h = as_value refl refl refl
fit_taken types (ty.Reference target constant) s c plain h = absurd (false≢true (sym plain))
fit_taken types (ty.Iterator target constant) (Of (ty.Iterator found held)) c plain h = as_walker refl refl
fit_taken types (ty.Span target constant) (Of (ty.Span found held)) c plain h = as_walker refl refl
fit_taken types (ty.Span target constant) (Of (ty.Vector found)) c plain h = as_owner refl refl
fit_taken types (ty.Struct number) (Of (ty.Struct found)) c plain h = as_struct refl refl
fit_taken types _ _ c plain h = absurd (false≢true h)

-- ---- .. or a reference, which is to a value, an owner or a struct

module _ (types : Types) (target : TyId) (constant : Bool) (worth : is_target types (type_at types target) ≡ true) where
  abbrev T : Ty
  T = ty.Reference target constant

  -- what is there already has the target's type
  of_target : (s : ExprType) (c : Category) → IsTarget types (type_at types target) → s ≡ Of (type_at types target) → IsTakenAs T s c
  of_target s c (to_value v) is =
      as_value refl (ap is_plain_type is ∙ value_plain (type_at types target) v) (ap is_void_type is ∙ value_some (type_at types target) v)
  of_target s c (to_owner o) is = as_owner refl (ap is_owner_type is ∙ owner_elements types (type_at types target) o)
  of_target s c (to_struct number at pointless) is = as_struct refl (ap is_struct_type is ∙ ap is_struct at)

  -- what a temporary of it takes
  by_target : (s : ExprType) (c : Category) → IsTakenAs (type_at types target) s c → IsTakenAs T s c
  by_target s c (as_value takes plain some) = as_value refl plain some
  by_target s c (as_owner takes o) = as_owner refl o
  by_target s c (as_walker takes w) = absurd (target_no_walker types (type_at types target) worth takes)
  by_target s c (as_unique takes u made) = absurd (target_no_unique types (type_at types target) worth takes)
  by_target s c (as_struct takes structure) = as_struct refl structure

  bound_taken : (e : Typed) → ((held : Bool) → e.category ≡ category.Place target held → e.ty ≡ Of (type_at types target)) → IsBound types target constant e → IsTakenAs T e.ty e.category
  bound_taken e place (at_place b) = of_target e.ty e.category (target_is types (type_at types target) worth) (place b.held b.place)
  bound_taken e place (by_temporary none given) =
      by_target e.ty e.category (fit_taken types (type_at types target) e.ty e.category (target_no_reference types (type_at types target) worth) given)

-- ---- any object

-- of a type whose references are to what they may be to
pub given_taken : (types : Types) (t : Ty) (e : Typed) → ((target : TyId) (constant : Bool) → t ≡ ty.Reference target constant → is_target types (type_at types target) ≡ true)
    → ((target : TyId) (held : Bool) → e.category ≡ category.Place target held → e.ty ≡ Of (type_at types target)) → is_given types t e ≡ true → IsTakenAs t e.ty e.category
given_taken types t e refers place given = go t refl
  where
    go : (u : Ty) → t ≡ u → IsTakenAs t e.ty e.category
    go (ty.Reference target constant) is =
        subst (λ (u : Ty). IsTakenAs u e.ty e.category) (sym is)
        (bound_taken types target constant (refers target constant is) e (place target)
        (given_bound types target constant e (refers target constant is) (subst (λ (u : Ty). is_given types u e ≡ true) is given)))
    go _ is = fit_taken types t e.ty e.category (ap is_reference is) given

-- ---- what is given isn't void

pub taken_some : (t : Ty) (s : ExprType) (c : Category) → IsTakenAs t s c → is_void_type s ≡ false
taken_some t s c (as_value takes plain some) = some
taken_some t s c (as_owner takes o) = type_no_void owns_elements refl s o
taken_some t s c (as_walker takes w) = type_no_void is_walker refl s w
taken_some t s c (as_unique takes u made) = type_no_void is_unique refl s u
taken_some t s c (as_struct takes structure) = type_no_void is_struct refl s structure
