-- Each well typed expression that is built is of one of these kinds.
use Rattle.std.proofs.Common.{◌≡◌, ℕ, Bool, true, false, cond, List, Option, Some, None, Ok, slice_get, unwrap_or, refl, sym, ap, ◌∙◌, subst, true≢false}
use Rattle.std.proofs.lemmas.Bool.{false≢true}
use Rattle.life_elab_laws.proofs.ObjectTypes.{are_admitted_variables, is_admitted_variable}
use Rattle.life_elab_laws.proofs.StatementKinds.{are_read_functions, is_read_function}
use Rattle.life_elab_laws.proofs.TypeKinds.{is_plain_type}
use Rattle.life_types.specs.Trees.{is_plain, tree_at, tree_of, tree_within}
use Rattle.life_types.specs.TypeTests.{is_raw, is_value, is_view}
use Rattle.life_types.specs.Types.{Types}
use Rattle.life_types.specs.declared.ty.Ty.{Ty}
use Rattle.life_types.specs.declared.ty.Ty.TheVariants as ty
use Rattle.life_types.specs.declared.ty.TyId.{TyId}
use Rattle.life_names.specs.Found.{not_found}
use Rattle.life_names.specs.declared.fault.IllKind.TheVariants as kinds
use Rattle.life_typed.specs.BaseTypes.{type_at}
use Rattle.life_typed.specs.Operators.{dereferenced, is_condition, negated, negated_type, promoted}
use Rattle.life_typed.specs.Programs.{FunctionForm, ProgramForm}
use Rattle.life_typed.specs.TypedForm.{Form, Typed, local, dereference, not, typed}
use Rattle.life_typed.specs.declared.typed_expr.Category.{Category}
use Rattle.life_typed.specs.declared.typed_expr.Category.TheVariants as category
use Rattle.life_typed.specs.declared.typed_expr.ExprType.{ExprType}
use Rattle.life_typed.specs.declared.typed_expr.ExprType.TheVariants.{Of}
use Rattle.life_typed.specs.declared.typed_program.TypedLocal.{TypedLocal}
use Rattle.life_type_expr.specs.Operands.{dereferenced_to, inverted, negated_to, number_type, place_of, pointed_to, value}
use Rattle.life_well_typed.specs.Expressions.{IsAddress, IsVariable}
use Rattle.life_well_typed.specs.Given.{is_number}
use Rattle.life_elab_laws.proofs.Fronts.{passed_at}
use Rattle.life_elab_laws.proofs.AdmittedTypes.{admitted_type_is}
use Rattle.life_elab_laws.proofs.TypedKinds.{HasKind, IsKind, a_null, a_number, a_pointer, a_text, a_view, err_ok, kind_of_variable, no_value, ok_same, owner_refused, promoted_value, struct_refused, value_place}
use Rattle.life_elab_laws.proofs.Targets.{IsTarget, target_is, to_owner, to_struct, to_value}
use Rattle.life_elab_laws.proofs.Values.{by_values}

-- ---- what is built

pub variable_built : (types : Types) (vs : List TypedLocal) (x : ℕ) (v : TypedLocal) → are_admitted_variables types vs ≡ true → slice_get vs x ≡ Some v → is_admitted_variable types v.ty ≡ true
variable_built types vs x v = passed_at (λ (u : TypedLocal). is_admitted_variable types u.ty) (are_admitted_variables types) (λ u us. refl) vs x v

pub function_built : (texts : ℕ) (program : ProgramForm) (fs : List FunctionForm) (g : ℕ) (f : FunctionForm) → are_read_functions texts program fs ≡ true → slice_get fs g ≡ Some f → is_read_function texts program f ≡ true
function_built texts program fs g f = passed_at (is_read_function texts program) (are_read_functions texts program) (λ h hs. refl) fs g f

-- ---- single expressions

pub number_value : (n : ℕ) → is_value (number_type n) ≡ true
number_value n = go _
  where
    go : (b : Bool) → is_value (cond b ty.Int ty.Long) ≡ true
    go true = refl
    go false = refl

pub kind_local : (types : Types) (locals : List TypedLocal) (x : ℕ) (e : Typed) → are_admitted_variables types locals ≡ true → is_plain_type e.ty ≡ true → IsVariable types x (slice_get locals x) e → IsKind types e
kind_local types locals x e b n h = go (slice_get locals x) refl h
  where
    go : (o : Option TypedLocal) → slice_get locals x ≡ o → IsVariable types x o e → IsKind types e
    go None at h = absurd h
    go (Some v) at h = kind_of_variable types e v.ty v.constant (local x) (type_at types v.ty) refl (admitted_type_is types (type_at types v.ty) (variable_built types locals x v b at)) n h

-- what a dereferenced operand is
pub record IsDereferenced (types : Types) (inner e : Typed) : Type 0 where
  pub target : TyId
  pub constant : Bool
  pub pointer : inner.ty ≡ Of (ty.Raw target constant)
  pub value : is_value (type_at types target) ≡ true
  pub form : Form
  pub is : e ≡ place_of types target constant e.place form

value_no_target : (t : Ty) → is_value t ≡ true → dereferenced (Of t) ≡ None
value_no_target = by_values (λ t. dereferenced (Of t) ≡ None) refl refl refl refl refl

-- .. that isn't an owner
pub dereferenced_as : (types : Types) (inner e : Typed) → IsKind types inner → is_plain_type e.ty ≡ true → pointed_to types e.place inner ≡ Ok e → IsDereferenced types inner e
dereferenced_as types inner e k n h = go k.kind
  where
    refused : dereferenced inner.ty ≡ None → IsDereferenced types inner e
    refused none = absurd (err_ok (sym (ap (λ o. dereferenced_to o types e.place inner) none) ∙ h))

    go : HasKind types inner → IsDereferenced types inner e
    go (a_number t is v) = refused (ap dereferenced is ∙ value_no_target t v)
    go (no_value is v) = refused (ap dereferenced is)
    go (a_null is v) = refused (ap dereferenced is)
    go (a_view is) = refused (ap dereferenced is)
    go (a_text is v) = refused (ap dereferenced is)
    go (a_pointer target constant is v) = record {
      target = target;
      constant = constant;
      pointer = is;
      value = worth (target_is types (type_at types target) v);
      form = dereference (typed inner.place inner.ty inner.category inner.form);
      is = here;
    }
      where
        here : e ≡ place_of types target constant e.place (dereference (typed inner.place inner.ty inner.category inner.form))
        here = sym (ok_same (sym (ap (λ t. dereferenced_to (dereferenced t) types e.place inner) is) ∙ h))

        worth : IsTarget types (type_at types target) → is_value (type_at types target) ≡ true
        worth (to_value v) = v
        worth (to_owner o) = absurd (owner_refused types (type_at types target) o (subst (λ (x : ExprType). is_plain_type x ≡ true) (ap (λ (x : Typed). x.ty) here) n))
        worth (to_struct number s pointless) = absurd (struct_refused (type_at types target) number s (subst (λ (x : ExprType). is_plain_type x ≡ true) (ap (λ (x : Typed). x.ty) here) n))

pub record IsNegated (inner e : Typed) : Type 0 where
  pub ty : Ty
  pub number : is_number inner.ty ≡ true
  pub worth : is_value ty ≡ true
  pub is : e ≡ value e.place ty e.form

pub negated_as : (types : Types) (inner e : Typed) → IsKind types inner → negated_to (negated inner.ty) e.place inner ≡ Ok e → IsNegated inner e
negated_as types inner e k h = go k.kind
  where
    go : HasKind types inner → IsNegated inner e
    go (a_number t is v) =
        let here : negated_to (negated_type t) e.place inner ≡ Ok e = subst (λ (x : ExprType). negated_to (negated x) e.place inner ≡ Ok e) is h in
        let plain : negated_to (Ok (promoted t t)) e.place inner ≡ Ok e = rw v at here in
        record {
          ty = promoted t t;
          number = ap is_number is ∙ v;
          worth = promoted_value t t;
          is = sym (ok_same plain) ∙ ap (λ (x : Typed). value e.place (promoted t t) x.form) (ok_same plain);
        }
    go (a_pointer target constant is v) = absurd (err_ok (sym (ap (λ t. negated_to (negated t) e.place inner) is) ∙ h))
    go (no_value is v) = absurd (err_ok (sym (ap (λ t. negated_to (negated t) e.place inner) is) ∙ h))
    go (a_null is v) = absurd (err_ok (sym (ap (λ t. negated_to (negated t) e.place inner) is) ∙ h))
    go (a_view is) = absurd (err_ok (sym (ap (λ t. negated_to (negated t) e.place inner) is) ∙ h))
    go (a_text is v) = absurd (err_ok (sym (ap (λ t. negated_to (negated t) e.place inner) is) ∙ h))

pub record IsInverted (inner e : Typed) : Type 0 where
  pub condition : is_condition inner.ty ≡ true
  pub is : e ≡ value e.place ty.Bool e.form

pub inverted_as : (inner e : Typed) → inverted e.place inner ≡ Ok e → IsInverted inner e
inverted_as inner e h = go (is_condition inner.ty) refl h
  where
    go : (b : Bool) → is_condition inner.ty ≡ b → cond b (Ok (value e.place ty.Bool (not (typed inner.place inner.ty inner.category inner.form)))) (not_found kinds.WrongType e.place) ≡ Ok e → IsInverted inner e
    go false c h = absurd (err_ok h)
    go true c h = record { condition = c; is = sym (ok_same h) ∙ ap (λ (x : Typed). value e.place ty.Bool x.form) (ok_same h) }

-- an address is one of a place with a value
pub record IsAddressed (types : Types) (inner e : Typed) : Type 0 where
  pub target : TyId
  pub constant : Bool
  pub place : inner.category ≡ category.Place target constant
  pub worth : is_value (type_at types target) ≡ true
  pub is : e ≡ value e.place (ty.Raw target constant) e.form

-- a view is a pointer, and so not plain
view_not_plain : (types : Types) (id : TyId) → type_at types id ≡ ty.View → is_plain (tree_at types id) ≡ false
unfolding tree_at
view_not_plain types id is = go (slice_get types.types id.0) (ap is_view is)
  where
    go : (o : Option Ty) → is_view (unwrap_or o ty.Void) ≡ true → is_plain (tree_of types (tree_within id.0 types) o) ≡ false
    go (Some ty.View) h = refl
    go (Some _) h = absurd (false≢true h)
    go None h = absurd (false≢true h)

pub addressed_as : (types : Types) (inner e : Typed) → IsKind types inner → IsAddress types inner.category e → IsAddressed types inner e
addressed_as types inner e k h = go inner.category refl h
  where
    typed_as : (id : TyId) (c : Bool) → inner.category ≡ category.Place id c → is_raw (type_at types id) ≡ false → is_plain (tree_at types id) ≡ true → HasKind types inner → is_value (type_at types id) ≡ true
    typed_as id c at raw plain (a_number t is v) = subst (λ (x : Ty). is_value x ≡ true) (same (sym is ∙ k.place id c at)) v
      where
        same : Of t ≡ Of (type_at types id) → t ≡ type_at types id
        same e = cc
    typed_as id c at raw plain (a_pointer target constant is v) = absurd (true≢false (ap is_raw (same (sym is ∙ k.place id c at)) ∙ raw))
      where
        same : Of (ty.Raw target constant) ≡ Of (type_at types id) → ty.Raw target constant ≡ type_at types id
        same e = cc
    typed_as id c at raw plain (a_view is) = absurd (false≢true (sym (view_not_plain types id (same (sym (k.place id c at) ∙ is))) ∙ plain))
      where
        same : Of (type_at types id) ≡ Of ty.View → type_at types id ≡ ty.View
        same e = cc
    typed_as id c at raw plain (a_text is v) = absurd (value_place (sym v ∙ at))
    typed_as id c at raw plain (no_value is v) = absurd (value_place (sym v ∙ at))
    typed_as id c at raw plain (a_null is v) = absurd (value_place (sym v ∙ at))

    go : (o : Category) → inner.category ≡ o → IsAddress types o e → IsAddressed types inner e
    go category.Value at h = absurd h
    go (category.Place id c) at h = record { target = id; constant = c; place = at; worth = typed_as id c at h.0 h.2 k.kind; is = h.1 }
