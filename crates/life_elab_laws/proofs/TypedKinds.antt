-- The types that well typed expressions have, where they are read as values: values, pointers to values and to owners, views, literals, nothing, and nullptr.
use Rattle.std.proofs.Common.{◌≡◌, inl, inr, ℕ, Bool, true, false, ◌||◌, cond, subst, Option, Some, None, Result, Ok, Err, refl, sym, ap, ◌∙◌}
use Rattle.std.proofs.lemmas.Bool.{false≢true}
use Rattle.std.proofs.lemmas.Option.{cond_some}
use Rattle.life_types.specs.TypeTests.{is_iterator, is_text, is_unique, is_value, is_view}
use Rattle.life_types.specs.Types.{Types}
use Rattle.life_types.specs.declared.place.Place.{Place}
use Rattle.life_types.specs.declared.ty.Ty.{Ty}
use Rattle.life_types.specs.declared.ty.Ty.TheVariants as ty
use Rattle.life_types.specs.declared.ty.TyId.{TyId}
use Rattle.life_elab_laws.proofs.ObjectTypes.{is_owner_of_values, is_pointing, is_target, is_walker_of_values}
use Rattle.life_elab_laws.proofs.TypeKinds.{is_plain_type}
use Rattle.life_typed.specs.BaseTypes.{type_at}
use Rattle.life_typed.specs.Operators.{answer, answered, given, misfit, promoted}
use Rattle.life_typed.specs.TypedForm.{Form, Typed}
use Rattle.life_typed.specs.declared.typed_expr.BinaryOperator.{BinaryOperator}
use Rattle.life_typed.specs.declared.typed_expr.Category.{Category}
use Rattle.life_typed.specs.declared.typed_expr.Category.TheVariants as category
use Rattle.life_typed.specs.declared.typed_expr.ExprType.TheVariants.{Of, NullPointer, TextLiteral}
use Rattle.life_type_expr.specs.Operands.{answer_of, combination, combined_to, place_of, value, variable_of}
use Rattle.life_elab_laws.proofs.AdmittedTypes.{IsAdmittedType}
use Rattle.life_elab_laws.proofs.ResultTypes.{IsResultType, gives_alias, gives_walker, gives_nothing, gives_raw, gives_reference, gives_struct, gives_value, gives_view, gives_owner, gives_unique, gives_whole}
use Rattle.life_elab_laws.proofs.Targets.{IsTarget, target_is, to_owner, to_struct, to_value}
use Rattle.life_elab_laws.proofs.Values.{by_owners, by_values, by_walkers}
use Rattle.life_typed.specs.declared.typed_expr.ExprType.{ExprType}

-- ---- what equations say

pub ok_same : {A B : Type 0} {x y : A} → ◌≡◌ {A = Result A B} (Ok x) (Ok y) → x ≡ y
ok_same e = cc

pub err_ok : {A B : Type 0} {x : B} {y : A} → ◌≡◌ {A = Result A B} (Err x) (Ok y) → ⊥
err_ok e = cc

pub none_some : {X : Type 0} {x : X} → None ≡ Some x → ⊥
none_some e = cc

pub some_same : {X : Type 0} {x y : X} → Some x ≡ Some y → x ≡ y
some_same e = cc

pub value_place : {id : TyId} {constant : Bool} → ◌≡◌ {A = Category} category.Value (category.Place id constant) → ⊥
value_place e = cc

abbrev target_of : TyId → Category → TyId
target_of id category.Value = id
target_of id (category.Place target constant) = target

pub place_same : (id target : TyId) (c d : Bool) → category.Place id c ≡ category.Place target d → id ≡ target
place_same id target c d e = ap (target_of id) e

-- ---- values are nothing else

-- neither text, nor a view, nor a unique_ptr, nor an iterator
pub record IsSimple (t : Ty) : Type 0 where
  pub text : is_text t ≡ false
  pub view : is_view t ≡ false
  pub unique : is_unique t ≡ false
  pub iterator : is_iterator t ≡ false

pub value_simple : (t : Ty) → is_value t ≡ true → IsSimple t
value_simple = by_values IsSimple (record { text = refl; view = refl; unique = refl; iterator = refl }) (record { text = refl; view = refl; unique = refl; iterator = refl }) (record { text = refl; view = refl; unique = refl; iterator = refl }) (record { text = refl; view = refl; unique = refl; iterator = refl }) (record { text = refl; view = refl; unique = refl; iterator = refl })

pub promoted_value : (t u : Ty) → is_value (promoted t u) ≡ true
promoted_value t u = go _ _
  where
    inner : (b : Bool) → is_value (cond b ty.Long ty.Int) ≡ true
    inner true = refl
    inner false = refl

    go : (b c : Bool) → is_value (cond b ty.Size (cond c ty.Long ty.Int)) ≡ true
    go true c = refl
    go false c = inner c

-- ---- kinds of expressions

pub data HasKind (types : Types) (e : Typed) : Type 0 where
  a_number : (t : Ty) → e.ty ≡ Of t → is_value t ≡ true → HasKind types e
  a_pointer : (target : TyId) (constant : Bool) → e.ty ≡ Of (ty.Raw target constant) → is_target types (type_at types target) ≡ true → HasKind types e
  a_view : e.ty ≡ Of ty.View → HasKind types e
  a_text : e.ty ≡ TextLiteral → e.category ≡ category.Value → HasKind types e
  no_value : e.ty ≡ Of ty.Void → e.category ≡ category.Value → HasKind types e
  a_null : e.ty ≡ NullPointer → e.category ≡ category.Value → HasKind types e

-- and a place has the type of its object
pub record IsKind (types : Types) (e : Typed) : Type 0 where
  pub kind : HasKind types e
  pub place : (id : TyId) (constant : Bool) → e.category ≡ category.Place id constant → e.ty ≡ Of (type_at types id)

pub kind_value : (types : Types) (e : Typed) (t : Ty) → e ≡ value e.place t e.form → is_value t ≡ true → IsKind types e
kind_value types e t is h = record {
  kind = a_number t (ap (λ (x : Typed). x.ty) is) h;
  place = λ id c at. absurd (value_place (sym (ap (λ (x : Typed). x.category) is) ∙ at));
}

pub kind_of_place : (types : Types) (e : Typed) (id : TyId) (c : Bool) (form : Form) → e ≡ place_of types id c e.place form → HasKind types e → IsKind types e
kind_of_place types e id c form is kind = record {
  kind = kind;
  place = λ target d at.
      ap (λ (x : Typed). x.ty) is
      ∙ ap (λ (i : TyId). Of (type_at types i)) (place_same id target c d (sym (ap (λ (x : Typed). x.category) is) ∙ at));
}

pub kind_same : (types : Types) (e e' : Typed) → e'.ty ≡ e.ty → e'.category ≡ e.category → IsKind types e → IsKind types e'
kind_same types e e' t c h = record {
  kind = go h.kind;
  place = λ id d at. t ∙ h.place id d (sym c ∙ at);
}
  where
    go : HasKind types e → HasKind types e'
    go (a_number u is v) = a_number u (t ∙ is) v
    go (a_pointer target constant is v) = a_pointer target constant (t ∙ is) v
    go (a_view is) = a_view (t ∙ is)
    go (a_text is v) = a_text (t ∙ is) (c ∙ v)
    go (no_value is v) = no_value (t ∙ is) (c ∙ v)
    go (a_null is v) = a_null (t ∙ is) (c ∙ v)

-- a literal is a value
pub text_value : (types : Types) (e : Typed) → HasKind types e → e.ty ≡ TextLiteral → e.category ≡ category.Value
text_value types e (a_number t is v) at = absurd (not_text t (sym is ∙ at))
  where
    not_text : (t : Ty) → Of t ≡ TextLiteral → ⊥
    not_text t e = cc
text_value types e (a_pointer target constant is v) at = absurd (not_text (ty.Raw target constant) (sym is ∙ at))
  where
    not_text : (t : Ty) → Of t ≡ TextLiteral → ⊥
    not_text t e = cc
text_value types e (a_view is) at = absurd (not_text (sym is ∙ at))
  where
    not_text : Of ty.View ≡ TextLiteral → ⊥
    not_text e = cc
text_value types e (a_text is v) at = v
text_value types e (no_value is v) at = v
text_value types e (a_null is v) at = v

-- .. and so is nullptr
pub null_value : (types : Types) (e : Typed) → HasKind types e → e.ty ≡ NullPointer → e.category ≡ category.Value
null_value types e kind at = go kind
  where
    not_null : (t : Ty) → Of t ≡ NullPointer → ⊥
    not_null t e = cc

    go : HasKind types e → e.category ≡ category.Value
    go (a_number t is v) = absurd (not_null t (sym is ∙ at))
    go (a_pointer target constant is v) = absurd (not_null (ty.Raw target constant) (sym is ∙ at))
    go (a_view is) = absurd (not_null ty.View (sym is ∙ at))
    go (a_text is v) = v
    go (no_value is v) = v
    go (a_null is v) = v

-- .. and nothing of these is an owner
pub kind_no_owner : (types : Types) (e : Typed) → HasKind types e → (t : Ty) → is_owner_of_values types t ≡ true → e.ty ≡ Of t → ⊥
kind_no_owner types e kind t o at = go kind
  where
    same : {u w : Ty} → Of u ≡ Of w → u ≡ w
    same e = cc

    no_null : NullPointer ≡ Of t → ⊥
    no_null e = cc

    no_text : TextLiteral ≡ Of t → ⊥
    no_text e = cc

    as_owner : (u : Ty) → e.ty ≡ Of u → is_owner_of_values types u ≡ true
    as_owner u is = subst (λ (x : Ty). is_owner_of_values types x ≡ true) (same (sym at ∙ is)) o

    go : HasKind types e → ⊥
    go (a_number u is v) = false≢true (sym (by_values (λ u. is_owner_of_values types u ≡ false) refl refl refl refl refl u v) ∙ as_owner u is)
    go (a_pointer target constant is v) = false≢true (as_owner (ty.Raw target constant) is)
    go (a_view is) = false≢true (as_owner ty.View is)
    go (a_text is v) = no_text (sym is ∙ at)
    go (no_value is v) = false≢true (as_owner ty.Void is)
    go (a_null is v) = no_null (sym is ∙ at)

-- .. nor an iterator or a span
pub kind_no_walker : (types : Types) (e : Typed) → HasKind types e → (t : Ty) → is_walker_of_values types t ≡ true → e.ty ≡ Of t → ⊥
kind_no_walker types e kind t w at = go kind
  where
    same : {u w : Ty} → Of u ≡ Of w → u ≡ w
    same e = cc

    no_null : NullPointer ≡ Of t → ⊥
    no_null e = cc

    no_text : TextLiteral ≡ Of t → ⊥
    no_text e = cc

    as_walker : (u : Ty) → e.ty ≡ Of u → is_walker_of_values types u ≡ true
    as_walker u is = subst (λ (x : Ty). is_walker_of_values types x ≡ true) (same (sym at ∙ is)) w

    go : HasKind types e → ⊥
    go (a_number u is v) = false≢true (sym (by_values (λ u. is_walker_of_values types u ≡ false) refl refl refl refl refl u v) ∙ as_walker u is)
    go (a_pointer target constant is v) = false≢true (as_walker (ty.Raw target constant) is)
    go (a_view is) = false≢true (as_walker ty.View is)
    go (a_text is v) = no_text (sym is ∙ at)
    go (no_value is v) = false≢true (as_walker ty.Void is)
    go (a_null is v) = no_null (sym is ∙ at)

-- ---- variables and results

-- an owner that is named is a place of its type
pub owner_named : (types : Types) (e : Typed) (id : TyId) (c : Bool) (form : Form) (t : Ty) → is_owner_of_values types t ≡ true → e ≡ variable_of t types id c e.place form → e ≡ place_of types id c e.place form
owner_named types e id c form ty.Text o is = is
owner_named types e id c form (ty.Vector element) o is = is
owner_named types e id c form _ o is = absurd (false≢true o)

-- .. and no value
pub owner_refused : (types : Types) (t : Ty) → is_owner_of_values types t ≡ true → is_plain_type (Of t) ≡ true → ⊥
owner_refused types = by_owners types _ false≢true (λ element. false≢true)

-- nor is a struct
pub struct_refused : (t : Ty) (number : ℕ) → t ≡ ty.Struct number → is_plain_type (Of t) ≡ true → ⊥
struct_refused t number is n = false≢true (sym (ap (λ (u : Ty). is_plain_type (Of u)) is) ∙ n)

-- so is an iterator or a span
pub walker_named : (types : Types) (e : Typed) (id : TyId) (c : Bool) (form : Form) (t : Ty) → is_walker_of_values types t ≡ true → e ≡ variable_of t types id c e.place form → e ≡ place_of types id c e.place form
walker_named types e id c form (ty.Iterator target constant) w is = is
walker_named types e id c form (ty.Span target constant) w is = is
walker_named types e id c form _ w is = absurd (false≢true w)

walker_refused : (types : Types) (t : Ty) → is_walker_of_values types t ≡ true → is_plain_type (Of t) ≡ true → ⊥
walker_refused types = by_walkers types _ (λ target constant. false≢true) (λ target constant. false≢true)

pub kind_of_variable : (types : Types) (e : Typed) (id : TyId) (c : Bool) (form : Form) (t : Ty) → type_at types id ≡ t → IsAdmittedType types t
    → is_plain_type e.ty ≡ true → e ≡ variable_of t types id c e.place form → IsKind types e
kind_of_variable types e id c form (ty.Unique target) at (inr (inr (inr (inl u)))) n is =
    absurd (false≢true (subst (λ (x : ExprType). is_plain_type x ≡ true) (ap (λ (x : Typed). x.ty) is ∙ ap Of at) n))
kind_of_variable types e id c form _ at (inr (inr (inr (inl u)))) n is = absurd (false≢true u)
kind_of_variable types e id c form (ty.Struct number) at (inr (inr (inr (inr structure)))) n is =
    absurd (false≢true (subst (λ (x : ExprType). is_plain_type x ≡ true) (ap (λ (x : Typed). x.ty) is ∙ ap Of at) n))
kind_of_variable types e id c form _ at (inr (inr (inr (inr structure)))) n is = absurd (false≢true structure)
kind_of_variable types e id c form t at (inr (inr (inl w))) n is =
    absurd (walker_refused types t w (subst (λ (x : ExprType). is_plain_type x ≡ true) (ap (λ (x : Typed). x.ty) (walker_named types e id c form t w is) ∙ ap Of at) n))
kind_of_variable types e id c form t at (inr (inl o)) n is =
    absurd (owner_refused types t o (subst (λ (x : ExprType). is_plain_type x ≡ true) (ap (λ (x : Typed). x.ty) (owner_named types e id c form t o is) ∙ ap Of at) n))
kind_of_variable types e id c form t at (inl built) n is = go t at built is
  where
    go : (t : Ty) → type_at types id ≡ t → (is_value t || is_pointing types t) ≡ true → e ≡ variable_of t types id c e.place form → IsKind types e
    go (ty.Raw target constant) at built is = kind_of_place types e id c form is (a_pointer target constant (ap (λ (x : Typed). x.ty) is ∙ ap Of at) built)
    go (ty.Reference target constant) at built is = refers (target_is types (type_at types target) built)
      where
        refers : IsTarget types (type_at types target) → IsKind types e
        refers (to_value v) = kind_of_place types e target constant form is (a_number (type_at types target) (ap (λ (x : Typed). x.ty) is) v)
        refers (to_owner o) = absurd (owner_refused types (type_at types target) o (subst (λ (x : ExprType). is_plain_type x ≡ true) (ap (λ (x : Typed). x.ty) is) n))
        refers (to_struct number s pointless) = absurd (struct_refused (type_at types target) number s (subst (λ (x : ExprType). is_plain_type x ≡ true) (ap (λ (x : Typed). x.ty) is) n))
    go ty.View at built is = kind_of_place types e id c form is (a_view (ap (λ (x : Typed). x.ty) is ∙ ap Of at))
    go ty.Bool at built is = kind_of_place types e id c form is (a_number ty.Bool (ap (λ (x : Typed). x.ty) is ∙ ap Of at) refl)
    go ty.Char at built is = kind_of_place types e id c form is (a_number ty.Char (ap (λ (x : Typed). x.ty) is ∙ ap Of at) refl)
    go ty.Int at built is = kind_of_place types e id c form is (a_number ty.Int (ap (λ (x : Typed). x.ty) is ∙ ap Of at) refl)
    go ty.Long at built is = kind_of_place types e id c form is (a_number ty.Long (ap (λ (x : Typed). x.ty) is ∙ ap Of at) refl)
    go ty.Size at built is = kind_of_place types e id c form is (a_number ty.Size (ap (λ (x : Typed). x.ty) is ∙ ap Of at) refl)
    go _ at built is = absurd (false≢true built)

pub kind_of_result : (types : Types) (e : Typed) (t : Ty) → IsResultType types t → is_plain_type e.ty ≡ true → e ≡ answer_of t types e.place e.form → IsKind types e
kind_of_result types e t (gives_nothing void) plain is =
    let here = is ∙ ap (λ (u : Ty). answer_of u types e.place e.form) void in
    record {
      kind = no_value (ap (λ (x : Typed). x.ty) here) (ap (λ (x : Typed). x.category) here);
      place = λ id c at. absurd (value_place (sym (ap (λ (x : Typed). x.category) here) ∙ at));
    }
kind_of_result types e t (gives_value v) plain is =
    kind_value types e t (is ∙ by_values (λ u. answer_of u types e.place e.form ≡ value e.place u e.form) refl refl refl refl refl t v) v
kind_of_result types e t (gives_raw target constant raw w) plain is =
    let here = is ∙ ap (λ (u : Ty). answer_of u types e.place e.form) raw in
    record {
      kind = a_pointer target constant (ap (λ (x : Typed). x.ty) here) w;
      place = λ id c at. absurd (value_place (sym (ap (λ (x : Typed). x.category) here) ∙ at));
    }
kind_of_result types e (ty.Iterator target constant) (gives_walker w) plain is = absurd (walker_refused types (ty.Iterator target constant) w (subst (λ (x : ExprType). is_plain_type x ≡ true) (ap (λ (x : Typed). x.ty) is) plain))
kind_of_result types e (ty.Span target constant) (gives_walker w) plain is = absurd (walker_refused types (ty.Span target constant) w (subst (λ (x : ExprType). is_plain_type x ≡ true) (ap (λ (x : Typed). x.ty) is) plain))
kind_of_result types e _ (gives_walker w) plain is = absurd (false≢true w)
kind_of_result types e ty.Text (gives_owner o) plain is = absurd (owner_refused types ty.Text o (subst (λ (x : ExprType). is_plain_type x ≡ true) (ap (λ (x : Typed). x.ty) is) plain))
kind_of_result types e (ty.Vector item) (gives_owner o) plain is = absurd (owner_refused types (ty.Vector item) o (subst (λ (x : ExprType). is_plain_type x ≡ true) (ap (λ (x : Typed). x.ty) is) plain))
kind_of_result types e _ (gives_owner o) plain is = absurd (false≢true o)
kind_of_result types e t (gives_unique target unique w) plain is =
    let here = is ∙ ap (λ (u : Ty). answer_of u types e.place e.form) unique in
    absurd (false≢true (subst (λ (x : ExprType). is_plain_type x ≡ true) (ap (λ (x : Typed). x.ty) here) plain))
kind_of_result types e t (gives_whole number whole) plain is =
    let here = is ∙ ap (λ (u : Ty). answer_of u types e.place e.form) whole in
    absurd (false≢true (subst (λ (x : ExprType). is_plain_type x ≡ true) (ap (λ (x : Typed). x.ty) here) plain))
kind_of_result types e t (gives_view view) plain is =
    let here = is ∙ ap (λ (u : Ty). answer_of u types e.place e.form) view in
    record {
      kind = a_view (ap (λ (x : Typed). x.ty) here);
      place = λ id c at. absurd (value_place (sym (ap (λ (x : Typed). x.category) here) ∙ at));
    }
kind_of_result types e t (gives_reference target constant refers w) plain is =
    let here = is ∙ ap (λ (u : Ty). answer_of u types e.place e.form) refers in
    kind_of_place types e target constant e.form here (a_number (type_at types target) (ap (λ (x : Typed). x.ty) here) w)
kind_of_result types e t (gives_alias target constant refers o) plain is =
    let here = is ∙ ap (λ (u : Ty). answer_of u types e.place e.form) refers in
    absurd (owner_refused types (type_at types target) o (subst (λ (x : ExprType). is_plain_type x ≡ true) (ap (λ (x : Typed). x.ty) here) plain))
kind_of_result types e t (gives_struct target constant number refers s pointless) plain is =
    let here = is ∙ ap (λ (u : Ty). answer_of u types e.place e.form) refers in
    absurd (struct_refused (type_at types target) number s (subst (λ (x : ExprType). is_plain_type x ≡ true) (ap (λ (x : Typed). x.ty) here) plain))

-- ---- operators

pub given_true : (b : Bool) (t u : Ty) → given b t ≡ Some u → (b ≡ true) × (t ≡ u)
given_true b t u e = cond_some b t u e

-- what an operator between two expressions gives
pub record IsCombined (o : BinaryOperator) (left right e : Typed) : Type 0 where
  pub ty : Ty
  pub answer : answer o left.ty right.ty ≡ Some ty
  pub is : (e.ty ≡ Of ty) × (e.category ≡ category.Value)

pub combined_as : (o : BinaryOperator) (place : Place) (left right e : Typed) → combination o place left right ≡ Ok e → IsCombined o left right e
combined_as o place left right e h = go (answer o left.ty right.ty) refl h
  where
    go : (a : Option Ty) → answer o left.ty right.ty ≡ a → combined_to (answered a (misfit o left.ty right.ty)) o place left right ≡ Ok e → IsCombined o left right e
    go None is h = absurd (err_ok h)
    go (Some t) is h = record { ty = t; answer = is; is = (sym (ap (λ (x : Typed). x.ty) (ok_same h)), sym (ap (λ (x : Typed). x.category) (ok_same h))) }
