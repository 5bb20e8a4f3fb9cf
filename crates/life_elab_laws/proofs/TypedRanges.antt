-- Loops over ranges, where they are well typed: what is gone over has elements, and its variable takes them.
use Rattle.std.proofs.Common.{◌≡◌, ◌⊎◌, inl, inr, ℕ, Bool, true, false, ◌&&◌, ◌||◌, cond, Err, List, Option, Some, None, refl, sym, ap, ◌∙◌, subst, rules, arith, nat_eq, slice_get, unwrap_or}
use Rattle.std.proofs.lemmas.Bool.{and_from, false≢true, or_left, or_right}
use Rattle.std.proofs.lemmas.Bool.Decides.{nat_tests}
use Rattle.life_types.specs.TypeTests.{is_reference, is_value, is_void}
use Rattle.life_types.specs.Types.{HasEachOnce, Types}
use Rattle.life_types.specs.contracts.ty.TyIdPartialEq.TheImpl.{ghosts as id}
use Rattle.life_types.specs.declared.ty.Ty.{Ty}
use Rattle.life_types.specs.declared.ty.Ty.TheVariants as ty
use Rattle.life_types.specs.declared.ty.TyId.{TyId}
use Rattle.life_elab_laws.proofs.FormKinds.{is_read_expression, is_read_owning, is_read_walker}
use Rattle.life_elab_laws.proofs.ObjectTypes.{is_element, is_target}
use Rattle.life_elab_laws.proofs.StatementKinds.{is_read_range}
use Rattle.life_elab_laws.proofs.TypeKinds.{is_owner_type, is_plain_type, is_view_type, is_walker_type, takes_as, takes_element, takes_elements, takes_elements_if, takes_whole, is_void_type}
use Rattle.life_typed.specs.BaseTypes.{type_at}
use Rattle.life_typed.specs.Conversions.{copied, fits, is_const_place}
use Rattle.life_typed.specs.Programs.{ProgramForm}
use Rattle.life_typed.specs.Statements.{range_element}
use Rattle.life_typed.specs.TypedForm.{Typed, null, whole}
use Rattle.life_typed.specs.declared.basic.TheConstants.{CHAR}
use Rattle.life_typed.specs.declared.misfit.Misfit.TheVariants.{General}
use Rattle.life_typed.specs.declared.typed_expr.Category.{Category}
use Rattle.life_typed.specs.declared.typed_expr.Category.TheVariants as category
use Rattle.life_typed.specs.declared.typed_expr.ExprType.{ExprType}
use Rattle.life_typed.specs.declared.typed_expr.ExprType.TheVariants.{NullPointer, Of, TextLiteral}
use Rattle.life_typed.specs.declared.typed_program.TypedLocal.{TypedLocal}
use Rattle.life_type_expr.specs.Lists.{fits_at_all}
use Rattle.life_type_expr.specs.Operands.{is_constant}
use Rattle.life_well_typed.specs.Given.{is_given}
use Rattle.life_well_typed.specs.Statements.{TakesElements}
use Rattle.life_elab_laws.proofs.Elements.{element_target}
use Rattle.life_elab_laws.proofs.FormedFits.{IsBound, at_place, by_temporary, given_bound, same_id, tested_as}
use Rattle.life_elab_laws.proofs.KnownTypes.{known_refers, vector_element}
use Rattle.life_elab_laws.proofs.Targets.{or_false}
use Rattle.life_elab_laws.proofs.TypedKinds.{none_some, some_same}
use Rattle.life_elab_laws.proofs.TypedReadings.{is_known}
use Rattle.life_elab_laws.proofs.TypedSimples.{HasReadings, Read, owning}
use Rattle.life_elab_laws.proofs.NoVoid.{no_void}

-- ---- no type has two numbers

-- what isn't void is in the table
there : (types : Types) (i : TyId) (t : Ty) → type_at types i ≡ t → is_void t ≡ false → slice_get types.types i.0 ≡ Some t
there types i t is some = go (slice_get types.types i.0) refl is
  where
    go : (o : Option Ty) → slice_get types.types i.0 ≡ o → unwrap_or o ty.Void ≡ t → slice_get types.types i.0 ≡ Some t
    go None at same = absurd (false≢true (sym some ∙ sym (ap is_void same)))
    go (Some u) at same = at ∙ ap Some same

itself : (a : TyId) → id.eq a a ≡ true
itself a = search rules

as_number : (a b : TyId) → a.0 ≡ b.0 → id.eq a b ≡ true
as_number a b e = search rules

one_number : (types : Types) → HasEachOnce types → (a b : TyId) → type_at types a ≡ type_at types b → is_void (type_at types b) ≡ false → id.eq a b ≡ true
one_number types once a b same some = as_number a b (once a.0 b.0 (type_at types b) (there types a (type_at types b) same some) (there types b (type_at types b) refl some))

-- ---- what a variable takes of an element

-- as a whole
whole_taken : (types : Types) (t u : Ty) (c : Category) → is_reference t ≡ false → is_target types u ≡ true → fits_at_all (fits types t (Of u) c) ≡ true → takes_whole t u ≡ true
whole_taken types ty.Void u c plain worth h = absurd (false≢true h)
whole_taken types ty.Bool u c plain worth h = tested_as (is_value u) h
whole_taken types ty.Char u c plain worth h = tested_as (is_value u) h
whole_taken types ty.Int u c plain worth h = tested_as (is_value u) h
whole_taken types ty.Long u c plain worth h = tested_as (is_value u) h
whole_taken types ty.Size u c plain worth h = tested_as (is_value u) h
whole_taken types ty.Text ty.Text c plain worth h = refl
whole_taken types ty.Text _ c plain worth h = absurd (false≢true h)
whole_taken types ty.View ty.Text c plain worth h = refl
whole_taken types ty.View ty.View c plain worth h = absurd (false≢true worth)
whole_taken types ty.View _ c plain worth h = absurd (false≢true h)
whole_taken types (ty.Vector item) (ty.Vector found) c plain worth h = refl
whole_taken types (ty.Vector item) _ c plain worth h = absurd (false≢true h)
whole_taken types (ty.Unique target) (ty.Unique found) c plain worth h = absurd (false≢true worth)
whole_taken types (ty.Unique target) _ c plain worth h = absurd (false≢true h)
whole_taken types (ty.Raw target constant) (ty.Raw found held) c plain worth h = absurd (false≢true worth)
whole_taken types (ty.Raw target constant) _ c plain worth h = absurd (false≢true h)
whole_taken types (ty.Reference target constant) u c plain worth h = absurd (false≢true (sym plain))
whole_taken types (ty.Iterator target constant) (ty.Iterator found held) c plain worth h = absurd (false≢true worth)
whole_taken types (ty.Iterator target constant) _ c plain worth h = absurd (false≢true h)
whole_taken types (ty.Span target constant) (ty.Span found held) c plain worth h = absurd (false≢true worth)
whole_taken types (ty.Span target constant) (ty.Vector found) c plain worth h = refl
whole_taken types (ty.Span target constant) _ c plain worth h = absurd (false≢true h)
whole_taken types (ty.Struct number) (ty.Struct found) c plain worth h = refl
whole_taken types (ty.Struct number) _ c plain worth h = absurd (false≢true h)

-- what initialises a temporary of a target has its type, or both are values
abbrev AreAlike : Ty → Ty → Type 0
AreAlike t u = ((is_value t && is_value u) ≡ true) ⊎ (u ≡ t)

alike : (types : Types) (t u : Ty) (c : Category) → is_target types t ≡ true → fits_at_all (fits types t (Of u) c) ≡ true → AreAlike t u
alike types ty.Bool u c worth h = inl (tested_as (is_value u) h)
alike types ty.Char u c worth h = inl (tested_as (is_value u) h)
alike types ty.Int u c worth h = inl (tested_as (is_value u) h)
alike types ty.Long u c worth h = inl (tested_as (is_value u) h)
alike types ty.Size u c worth h = inl (tested_as (is_value u) h)
alike types ty.Text ty.Text c worth h = inr refl
alike types ty.Text _ c worth h = absurd (false≢true h)
alike types (ty.Vector item) (ty.Vector found) c worth h = inr (ap ty.Vector (same_id found item (tested_as (id.eq found item) h)))
alike types (ty.Vector item) _ c worth h = absurd (false≢true h)
alike types (ty.Struct number) (ty.Struct found) c worth h = inr (go (nat_eq found number) refl h)
  where
    same : (m n : ℕ) → nat_eq m n ≡ true → m ≡ n
    same m n h = grind (arith, nat_tests)

    go : (b : Bool) → nat_eq found number ≡ b → fits_at_all (cond b (copied types c) (Err General)) ≡ true → ty.Struct found ≡ ty.Struct number
    go true is h = ap ty.Struct (same found number is)
    go false is h = absurd (false≢true h)
alike types (ty.Struct number) _ c worth h = absurd (false≢true h)
alike types _ u c worth h = absurd (false≢true worth)

module _ (types : Types) (once : HasEachOnce types) (element : TyId × Bool) (worth : is_element types (type_at types element.0) ≡ true) where
  abbrev u : Ty
  u = type_at types element.0

  u_target : is_target types u ≡ true
  u_target = element_target types u worth

  -- the element as an expression
  abbrev e : Typed
  e = record { place = record { line = 0; column = 0 }; ty = Of u; category = category.Place element.0 element.1; form = null }

  -- by a reference
  referred : (target : TyId) (constant : Bool) → is_target types (type_at types target) ≡ true → is_given types (ty.Reference target constant) e ≡ true → takes_as types (ty.Reference target constant) element.0 ≡ true
  referred target constant served given = go (given_bound types target constant e served given)
    where
      values : Bool
      values = is_value (type_at types target) && is_value u

      go : IsBound types target constant e → (id.eq element.0 target || values) ≡ true
      go (at_place b) = or_left (id.eq element.0 target) values b.here
      go (by_temporary none given) = elim (alike types (type_at types target) u (category.Place element.0 element.1) served given) [
        | inl both ↦ or_right (id.eq element.0 target) values both
        | inr same ↦ or_left (id.eq element.0 target) values (one_number types once element.0 target same (no_void (is_target types) refl (type_at types target) served))
      ]

  pub taken_as : (t : Ty) → is_known types (Of t) ≡ true → is_given types t e ≡ true → takes_element types t element ≡ true
  taken_as t known given = and_from (is_element types u) (takes_as types t element.0) worth (go t (known_refers types t known) given)
    where
      go : (t : Ty) → ((target : TyId) (constant : Bool) → t ≡ ty.Reference target constant → is_target types (type_at types target) ≡ true) → is_given types t e ≡ true → takes_as types t element.0 ≡ true
      go (ty.Reference target constant) refers given = referred target constant (refers target constant refl) given
      go t refers given = whole_taken types t u (category.Place element.0 element.1) refl u_target given

-- ---- what is gone over

same_constant : (c : Category) → is_constant c ≡ is_const_place c
same_constant category.Value = refl
same_constant (category.Place i constant) = refl

module _ (p : ProgramForm) (locals : List TypedLocal) (result : TyId) (texts : ℕ) (r : HasReadings p locals texts) (visible : List ℕ) (chars : type_at p.types CHAR ≡ ty.Char) where
  abbrev types : Types
  types = p.types

  abbrev As : Typed → Type 0
  As e = Read p locals texts r visible e

  value_worth : (t : Ty) → t ≡ ty.Char → is_element types t ≡ true
  value_worth t is = subst (λ (u : Ty). is_element types u ≡ true) (sym is) refl

  -- its elements are such that a vector may have
  element_worth : (x : ExprType) (constant : Bool) (element : TyId × Bool) → is_known types x ≡ true → range_element x constant ≡ Some element → is_element types (type_at types element.0) ≡ true
  element_worth (Of (ty.Vector item)) constant element known h = subst (λ (y : TyId × Bool). is_element types (type_at types y.0) ≡ true) (some_same h) (vector_element types item known)
  element_worth (Of ty.Text) constant element known h = subst (λ (y : TyId × Bool). is_element types (type_at types y.0) ≡ true) (some_same h) (value_worth (type_at types CHAR) chars)
  element_worth (Of ty.View) constant element known h = subst (λ (y : TyId × Bool). is_element types (type_at types y.0) ≡ true) (some_same h) (value_worth (type_at types CHAR) chars)
  element_worth (Of (ty.Span item held)) constant element known h =
      subst (λ (y : TyId × Bool). is_element types (type_at types y.0) ≡ true) (some_same h) (or_false (is_element types (type_at types item)) known)
  element_worth (Of _) constant element known h = absurd (none_some h)
  element_worth NullPointer constant element known h = absurd (none_some h)
  element_worth TextLiteral constant element known h = absurd (none_some h)

  -- an owner, a view or a span
  gone_over : (e : Typed) (constant : Bool) (element : TyId × Bool) → As e → range_element e.ty constant ≡ Some element → is_read_range texts p e ≡ true
  gone_over e constant element k h = go e.ty refl h
    where
      others : Bool
      others = (is_view_type e.ty && is_read_expression texts p e) || is_read_walker texts p (whole e)

      owner : is_owner_type e.ty ≡ true → is_read_range texts p e ≡ true
      owner o = or_left (is_read_owning texts p e) others (owning p locals texts r visible e k o)

      go : (x : ExprType) → e.ty ≡ x → range_element x constant ≡ Some element → is_read_range texts p e ≡ true
      go (Of (ty.Vector item)) is h = owner (ap is_owner_type is)
      go (Of ty.Text) is h = owner (ap is_owner_type is)
      go (Of ty.View) is h =
          or_right (is_read_owning texts p e) others (or_left (is_view_type e.ty && is_read_expression texts p e) (is_read_walker texts p (whole e))
          (and_from (is_view_type e.ty) (is_read_expression texts p e) (ap is_view_type is) (k.value (ap is_plain_type is) (ap is_void_type is))))
      go (Of (ty.Span item held)) is h =
          or_right (is_read_owning texts p e) others (or_right (is_view_type e.ty && is_read_expression texts p e) (is_read_walker texts p (whole e)) (k.walker (ap is_walker_type is)))
      go (Of _) is h = absurd (none_some h)
      go NullPointer is h = absurd (none_some h)
      go TextLiteral is h = absurd (none_some h)

  -- .. whose elements the variable takes
  pub range_read : HasEachOnce types → ((i : TyId) → is_known types (Of (type_at types i)) ≡ true) → (x : ℕ) (e : Typed) → As e → TakesElements p locals result (slice_get locals x) (range_element e.ty (is_constant e.category))
      → (is_read_range texts p e ≡ true) × (takes_elements types (slice_get locals x) (range_element e.ty (is_const_place e.category)) ≡ true)
  range_read once known x e k takes = go (slice_get locals x) (range_element e.ty (is_constant e.category)) refl takes
    where
      go : (l : Option TypedLocal) (o : Option (TyId × Bool)) → range_element e.ty (is_constant e.category) ≡ o → TakesElements p locals result l o
          → (is_read_range texts p e ≡ true) × (takes_elements types l (range_element e.ty (is_const_place e.category)) ≡ true)
      go None o at takes = absurd takes
      go (Some v) None at takes = absurd takes
      go (Some v) (Some element) at takes = (
        gone_over e (is_constant e.category) element k at,
        subst (λ (o : Option (TyId × Bool)). takes_elements_if types (type_at types v.ty) o ≡ true) (sym at ∙ ap (range_element e.ty) (same_constant e.category))
            (taken_as types once element (element_worth e.ty (is_constant e.category) element k.known at) (type_at types v.ty) (known v.ty) takes),
      )
