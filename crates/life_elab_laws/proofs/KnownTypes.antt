-- The types that well typed expressions have: nothing, or what a variable may have.
use Rattle.std.proofs.Common.{◌≡◌, inl, inr, ℕ, Bool, true, false, ◌||◌, slice_get, Some, refl, sym, ap, ◌∙◌}
use Rattle.std.proofs.lemmas.Bool.{false≢true, or_right}
use Rattle.life_types.specs.Trees.{is_plain, members_at, tree_at}
use Rattle.life_types.specs.TypeTests.{is_reference, is_unique, is_value, is_void}
use Rattle.life_types.specs.Types.{Types}
use Rattle.life_types.specs.declared.ty.Ty.{Ty}
use Rattle.life_types.specs.declared.ty.Ty.TheVariants as ty
use Rattle.life_types.specs.declared.ty.TyId.{TyId}
use Rattle.life_elab_laws.proofs.ObjectTypes.{is_element, is_owner_of_values, is_admitted_variable, is_struct, is_target}
use Rattle.life_elab_laws.proofs.TypeKinds.{is_walker, owns_elements}
use Rattle.life_typed.specs.BaseTypes.{type_at}
use Rattle.life_typed.specs.declared.basic.TheConstants.{CHAR}
use Rattle.life_elab_laws.proofs.Elements.{element_held, element_target}
use Rattle.life_elab_laws.proofs.AdmittedTypes.{admits, type_admits, value_admits}
use Rattle.life_elab_laws.proofs.Targets.{IsTarget, or_false, target_is, to_owner, to_struct, to_value}
use Rattle.life_elab_laws.proofs.NoVoid.{no_void}
use Rattle.life_elab_laws.proofs.Values.{by_owners}

-- nothing, or what a variable may have
abbrev pub is_known_type : Types → Ty → Bool
is_known_type types t = is_void t || admits types t

-- what holds of a table of types that typing gives
pub record HasKnownTypes (types : Types) : Type 0 where
  -- each type is known; what the table doesn't have counts as void
  pub known : (id : TyId) → is_known_type types (type_at types id) ≡ true
  -- what is plain may be held
  pub plain : (id : TyId) → is_plain (tree_at types id) ≡ true → is_void (type_at types id) ≡ false → is_element types (type_at types id) ≡ true
  -- a member has what a variable may have, and is no reference
  pub members : (number which : ℕ) (id : TyId) → slice_get (members_at types number) which ≡ Some id → (is_admitted_variable types id ≡ true) × (is_reference (type_at types id) ≡ false)
  pub chars : type_at types CHAR ≡ ty.Char

module _ (types : Types) where
  -- ---- what is known

  pub admits_known : (t : Ty) → admits types t ≡ true → is_known_type types t ≡ true
  admits_known t s = or_right (is_void t) (admits types t) s

  pub value_known : (t : Ty) → is_value t ≡ true → is_known_type types t ≡ true
  value_known t v = admits_known t (value_admits types t v)

  -- what isn't void is what a variable may have
  pub known_admits : (t : Ty) → is_void t ≡ false → is_known_type types t ≡ true → admits types t ≡ true
  known_admits t some k = go (is_void t) some k
    where
      go : (b : Bool) → b ≡ false → (b || admits types t) ≡ true → admits types t ≡ true
      go true some k = absurd (false≢true (sym some))
      go false some k = k

  pub target_admits : (t : Ty) → is_target types t ≡ true → admits types t ≡ true
  target_admits t h = go (target_is types t h)
    where
      go : IsTarget types t → admits types t ≡ true
      go (to_value v) = value_admits types t v
      go (to_owner o) = type_admits types t (inr (inl o))
      go (to_struct number is pointless) = type_admits types t (inr (inr (inr (inr (ap is_struct is)))))

  pub target_known : (t : Ty) → is_target types t ≡ true → is_known_type types t ≡ true
  target_known t h = admits_known t (target_admits t h)

  pub element_admits : (t : Ty) → is_element types t ≡ true → admits types t ≡ true
  element_admits t h = target_admits t (element_target types t h)

  -- .. which isn't void
  pub admits_some : (t : Ty) → admits types t ≡ true → is_void t ≡ false
  admits_some = no_void (admits types) refl

  -- ---- owners and targets

  pub owner_elements : (t : Ty) → is_owner_of_values types t ≡ true → owns_elements t ≡ true
  owner_elements = by_owners types _ refl (λ item. refl)

  pub target_no_reference : (t : Ty) → is_target types t ≡ true → is_reference t ≡ false
  target_no_reference (ty.Reference target constant) worth = absurd (false≢true worth)
  target_no_reference _ worth = refl

  pub target_no_walker : (t : Ty) → is_target types t ≡ true → is_walker t ≡ true → ⊥
  target_no_walker (ty.Iterator target constant) worth w = false≢true worth
  target_no_walker (ty.Span target constant) worth w = false≢true worth
  target_no_walker _ worth w = false≢true w

  pub target_no_unique : (t : Ty) → is_target types t ≡ true → is_unique t ≡ true → ⊥
  target_no_unique (ty.Unique target) worth u = false≢true worth
  target_no_unique _ worth u = false≢true u

  -- ---- what is known is made of

  -- a pointer is to a target
  pub raw_target : (target : TyId) (constant : Bool) → is_known_type types (ty.Raw target constant) ≡ true → is_target types (type_at types target) ≡ true
  raw_target target constant k = or_false (is_target types (type_at types target)) k

  -- .. and so is a reference
  pub reference_target : (target : TyId) (constant : Bool) → is_known_type types (ty.Reference target constant) ≡ true → is_target types (type_at types target) ≡ true
  reference_target target constant k = or_false (is_target types (type_at types target)) k

  pub known_refers : (t : Ty) → is_known_type types t ≡ true → (target : TyId) (constant : Bool) → t ≡ ty.Reference target constant → is_target types (type_at types target) ≡ true
  known_refers t known target constant is = reference_target target constant (ap (is_known_type types) (sym is) ∙ known)

  -- an iterator, a span, a unique_ptr and a vector have an element
  pub iterator_element : (item : TyId) (constant : Bool) → is_known_type types (ty.Iterator item constant) ≡ true → is_element types (type_at types item) ≡ true
  iterator_element item constant k = or_false (is_element types (type_at types item)) k

  pub span_element : (item : TyId) (constant : Bool) → is_known_type types (ty.Span item constant) ≡ true → is_element types (type_at types item) ≡ true
  span_element item constant k = or_false (is_element types (type_at types item)) k

  pub unique_element : (target : TyId) → is_known_type types (ty.Unique target) ≡ true → is_element types (type_at types target) ≡ true
  unique_element target k = or_false (is_element types (type_at types target)) k

  pub vector_element : (item : TyId) → is_known_type types (ty.Vector item) ≡ true → is_element types (type_at types item) ≡ true
  vector_element item k = element_held types (ty.Vector item) (or_false (is_owner_of_values types (ty.Vector item)) k)

  -- ---- what is known is made

  pub raw_known : (target : TyId) (constant : Bool) → is_target types (type_at types target) ≡ true → is_known_type types (ty.Raw target constant) ≡ true
  raw_known target constant h = type_admits types (ty.Raw target constant) (inl h)

  pub iterator_known : (item : TyId) (constant : Bool) → is_element types (type_at types item) ≡ true → is_known_type types (ty.Iterator item constant) ≡ true
  iterator_known item constant h = type_admits types (ty.Iterator item constant) (inr (inr (inl h)))

  pub unique_known : (target : TyId) → is_element types (type_at types target) ≡ true → is_known_type types (ty.Unique target) ≡ true
  unique_known target h = type_admits types (ty.Unique target) (inr (inr (inr (inl h))))
