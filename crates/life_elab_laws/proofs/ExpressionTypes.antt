-- The types of expressions that are built.
use Rattle.std.proofs.Common.{◌≡◌, ℕ, Bool, true, false, not, refl, sym, ap, ◌∙◌, subst, true≢false, Ok}
use Rattle.std.proofs.lemmas.Bool.{false≢true}
use Rattle.life_types.specs.TypeTests.{is_iterator, is_raw, is_text, is_unique, is_value}
use Rattle.life_types.specs.Types.{Types}
use Rattle.life_types.specs.declared.ty.Ty.{Ty}
use Rattle.life_types.specs.declared.ty.Ty.TheVariants as ty
use Rattle.life_types.specs.declared.ty.TyId.{TyId}
use Rattle.life_typed.specs.BaseTypes.{type_at}
use Rattle.life_typed.specs.Conversions.{is_place}
use Rattle.life_typed.specs.Operators.{is_condition, is_nullable, negated, negated_type, promoted}
use Rattle.life_typed.specs.TypedForm.{Typed}
use Rattle.life_typed.specs.declared.typed_expr.Category.{Category}
use Rattle.life_typed.specs.declared.typed_expr.Category.TheVariants as category
use Rattle.life_typed.specs.declared.typed_expr.ExprType.{ExprType}
use Rattle.life_typed.specs.declared.typed_expr.ExprType.TheVariants.{NullPointer, Of, TextLiteral}
use Rattle.life_type_expr.specs.Operands.{answer_of, negated_to, value as value_typed}
use Rattle.life_proper.specs.OperandTypes.{is_promoted}
use Rattle.life_well_typed.specs.Given.{is_number}
use Rattle.life_writer.specs.Around.{own_type}
use Rattle.life_elab_laws.proofs.Locations.{is_location, is_seen}
use Rattle.life_elab_laws.proofs.RowTypes.{no_text, promoted_is, sees}
use Rattle.life_elab_laws.proofs.TypedKinds.{HasKind, IsKind, a_null, a_number, a_pointer, a_text, a_view, err_ok, no_value, ok_same, value_simple}
use Rattle.life_elab_laws.proofs.ResultTypes.{IsResultType, gives_walker, gives_nothing, gives_raw, gives_reference, gives_value, gives_view, gives_alias, gives_struct, gives_owner, gives_unique, gives_whole}
use Rattle.life_elab_laws.proofs.Values.{by_owners, by_values, by_walkers}
use Rattle.life_elab_laws.proofs.WrittenLocals.{fits_register, value_fits}
use Rattle.life_elab_laws.proofs.ObjectTypes.{is_owner_of_values, is_target, is_walker_of_values, is_element, is_plain_struct}

-- ---- types of expressions

pub own_value : (t : ExprType) → is_number t ≡ true → is_value (own_type t) ≡ true
own_value (Of t) e = e
own_value NullPointer e = absurd (false≢true e)
own_value TextLiteral e = absurd (false≢true e)

-- a condition that is no pointer is a number
pub condition_number : (types : Types) (e : Typed) → HasKind types e → is_condition e.ty ≡ true → is_raw (own_type e.ty) ≡ false → is_number e.ty ≡ true
condition_number types e (a_number t is v) c r = ap is_number is ∙ v
condition_number types e (a_pointer target constant is v) c r = absurd (true≢false (sym (ap (λ (x : ExprType). is_raw (own_type x)) is) ∙ r))
condition_number types e (a_view is) c r = absurd (false≢true (sym (ap is_condition is) ∙ c))
condition_number types e (a_text is v) c r = absurd (false≢true (sym (ap is_condition is) ∙ c))
condition_number types e (no_value is v) c r = absurd (false≢true (sym (ap is_condition is) ∙ c))
condition_number types e (a_null is v) c r = absurd (false≢true (sym (ap is_condition is) ∙ c))

-- nothing that is built is a unique_ptr
pub own_no_unique : (types : Types) (e : Typed) → HasKind types e → is_unique (own_type e.ty) ≡ false
own_no_unique types e (a_number t is v) = ap (λ (x : ExprType). is_unique (own_type x)) is ∙ (value_simple t v).unique
own_no_unique types e (a_pointer target constant is v) = ap (λ (x : ExprType). is_unique (own_type x)) is
own_no_unique types e (a_view is) = ap (λ (x : ExprType). is_unique (own_type x)) is
own_no_unique types e (a_text is v) = ap (λ (x : ExprType). is_unique (own_type x)) is
own_no_unique types e (no_value is v) = ap (λ (x : ExprType). is_unique (own_type x)) is
own_no_unique types e (a_null is v) = ap (λ (x : ExprType). is_unique (own_type x)) is

-- a pointer is one to a value, or a view
pub pointer_fits : (types : Types) (e : Typed) → HasKind types e → is_location (own_type e.ty) ≡ true → fits_register types (own_type e.ty) ≡ true
pointer_fits types e (a_number t is v) r = ap (λ (x : ExprType). fits_register types (own_type x)) is ∙ value_fits types t v
pointer_fits types e (a_pointer target constant is v) r = ap (λ (x : ExprType). fits_register types (own_type x)) is ∙ v
pointer_fits types e (a_view is) r = ap (λ (x : ExprType). fits_register types (own_type x)) is
pointer_fits types e (a_text is v) r = absurd (false≢true (sym (ap (λ (x : ExprType). is_location (own_type x)) is) ∙ r))
pointer_fits types e (no_value is v) r = absurd (false≢true (sym (ap (λ (x : ExprType). is_location (own_type x)) is) ∙ r))
pointer_fits types e (a_null is v) r = absurd (false≢true (sym (ap (λ (x : ExprType). is_location (own_type x)) is) ∙ r))

-- minus gives what the operand is promoted to
pub negated_promoted : (types : Types) (inner e : Typed) → IsKind types inner → negated_to (negated inner.ty) e.place inner ≡ Ok e → is_promoted (own_type e.ty) ≡ true
negated_promoted types inner e k h = go k.kind
  where
    go : HasKind types inner → is_promoted (own_type e.ty) ≡ true
    go (a_number t is v) =
        let here : negated_to (negated_type t) e.place inner ≡ Ok e = subst (λ (x : ExprType). negated_to (negated x) e.place inner ≡ Ok e) is h in
        let plain : negated_to (Ok (promoted t t)) e.place inner ≡ Ok e = rw v at here in
        sym (ap (λ (y : Typed). is_promoted (own_type y.ty)) (ok_same plain)) ∙ promoted_is t t
    go (a_pointer target constant is v) = absurd (err_ok (sym (ap (λ t. negated_to (negated t) e.place inner) is) ∙ h))
    go (a_view is) = absurd (err_ok (sym (ap (λ t. negated_to (negated t) e.place inner) is) ∙ h))
    go (a_text is v) = absurd (err_ok (sym (ap (λ t. negated_to (negated t) e.place inner) is) ∙ h))
    go (no_value is v) = absurd (err_ok (sym (ap (λ t. negated_to (negated t) e.place inner) is) ∙ h))
    go (a_null is v) = absurd (err_ok (sym (ap (λ t. negated_to (negated t) e.place inner) is) ∙ h))

-- ---- what a call gives

-- nothing, a value, a raw pointer, a view, an owner, a unique_ptr, or the place that a reference refers to
pub data IsAnswered (types : Types) (result : Ty) (t : ExprType) (k : Category) : Type 0 where
  answers_nothing : result ≡ ty.Void → t ≡ Of ty.Void → k ≡ category.Value → IsAnswered types result t k
  answers_value : is_value result ≡ true → t ≡ Of result → k ≡ category.Value → IsAnswered types result t k
  answers_raw : (target : TyId) (constant : Bool) → result ≡ ty.Raw target constant → is_target types (type_at types target) ≡ true → t ≡ Of (ty.Raw target constant) → k ≡ category.Value → IsAnswered types result t k
  answers_view : result ≡ ty.View → t ≡ Of ty.View → k ≡ category.Value → IsAnswered types result t k
  answers_walker : is_walker_of_values types result ≡ true → t ≡ Of result → k ≡ category.Value → IsAnswered types result t k
  answers_made : is_owner_of_values types result ≡ true → t ≡ Of result → k ≡ category.Value → IsAnswered types result t k
  answers_unique : (target : TyId) → result ≡ ty.Unique target → is_element types (type_at types target) ≡ true → t ≡ Of (ty.Unique target) → k ≡ category.Value → IsAnswered types result t k
  answers_whole : (number : ℕ) → result ≡ ty.Struct number → t ≡ Of (ty.Struct number) → k ≡ category.Value → IsAnswered types result t k
  answers_place : (target : TyId) (constant : Bool) → result ≡ ty.Reference target constant → is_value (type_at types target) ≡ true → t ≡ Of (type_at types target) → k ≡ category.Place target constant → IsAnswered types result t k
  answers_owner : (target : TyId) (constant : Bool) → result ≡ ty.Reference target constant → is_owner_of_values types (type_at types target) ≡ true → t ≡ Of (type_at types target) → k ≡ category.Place target constant → IsAnswered types result t k
  answers_struct : (target : TyId) (constant : Bool) (number : ℕ) → result ≡ ty.Reference target constant → type_at types target ≡ ty.Struct number → is_plain_struct types (type_at types target) ≡ true → t ≡ Of (ty.Struct number) → k ≡ category.Place target constant → IsAnswered types result t k

pub answered_as : (types : Types) (e : Typed) (t : Ty) → IsResultType types t → e ≡ answer_of t types e.place e.form → IsAnswered types t e.ty e.category
answered_as types e t kind is = go kind
  where
    as_type : (u : Ty) → t ≡ u → e ≡ answer_of u types e.place e.form
    as_type u same = is ∙ ap (λ (u : Ty). answer_of u types e.place e.form) same

    go : IsResultType types t → IsAnswered types t e.ty e.category
    go (gives_nothing void) = let here = as_type ty.Void void in answers_nothing void (ap (λ (x : Typed). x.ty) here) (ap (λ (x : Typed). x.category) here)
    go (gives_value v) =
        let here = is ∙ by_values (λ u. answer_of u types e.place e.form ≡ value_typed e.place u e.form) refl refl refl refl refl t v in
        answers_value v (ap (λ (x : Typed). x.ty) here) (ap (λ (x : Typed). x.category) here)
    go (gives_raw target constant raw w) =
        let here = as_type (ty.Raw target constant) raw in
        answers_raw target constant raw w (ap (λ (x : Typed). x.ty) here) (ap (λ (x : Typed). x.category) here)
    go (gives_walker w) = let here = is ∙ walks t w in answers_walker w (ap (λ (x : Typed). x.ty) here) (ap (λ (x : Typed). x.category) here)
      where
        walks : (t : Ty) → is_walker_of_values types t ≡ true → answer_of t types e.place e.form ≡ value_typed e.place t e.form
        walks = by_walkers types _ (λ target constant. refl) (λ target constant. refl)
    go (gives_owner o) = let here = is ∙ owns t o in answers_made o (ap (λ (x : Typed). x.ty) here) (ap (λ (x : Typed). x.category) here)
      where
        owns : (t : Ty) → is_owner_of_values types t ≡ true → answer_of t types e.place e.form ≡ value_typed e.place t e.form
        owns = by_owners types _ refl (λ item. refl)
    go (gives_unique target unique w) =
        let here = as_type (ty.Unique target) unique in
        answers_unique target unique w (ap (λ (x : Typed). x.ty) here) (ap (λ (x : Typed). x.category) here)
    go (gives_whole number whole) =
        let here = as_type (ty.Struct number) whole in
        answers_whole number whole (ap (λ (x : Typed). x.ty) here) (ap (λ (x : Typed). x.category) here)
    go (gives_view view) = let here = as_type ty.View view in answers_view view (ap (λ (x : Typed). x.ty) here) (ap (λ (x : Typed). x.category) here)
    go (gives_reference target constant refers w) =
        let here = as_type (ty.Reference target constant) refers in
        answers_place target constant refers w (ap (λ (x : Typed). x.ty) here) (ap (λ (x : Typed). x.category) here)
    go (gives_alias target constant refers o) =
        let here = as_type (ty.Reference target constant) refers in
        answers_owner target constant refers o (ap (λ (x : Typed). x.ty) here) (ap (λ (x : Typed). x.category) here)
    go (gives_struct target constant number refers s pointless) =
        let here = as_type (ty.Reference target constant) refers in
        answers_struct target constant number refers s pointless (ap (λ (x : Typed). x.ty) here ∙ ap Of s) (ap (λ (x : Typed). x.category) here)

-- what is given back that is no place has the type of the result
pub answer_own : (types : Types) (result : Ty) (t : ExprType) (k : Category) → IsAnswered types result t k → not (is_place k) ≡ true → result ≡ own_type t
answer_own types result t k (answers_nothing void own held) plain = void ∙ sym (ap own_type own)
answer_own types result t k (answers_value w own held) plain = sym (ap own_type own)
answer_own types result t k (answers_raw target constant raw w own held) plain = raw ∙ sym (ap own_type own)
answer_own types result t k (answers_walker w own held) plain = sym (ap own_type own)
answer_own types result t k (answers_made o own held) plain = sym (ap own_type own)
answer_own types result t k (answers_unique target unique w own held) plain = unique ∙ sym (ap own_type own)
answer_own types result t k (answers_whole number whole own held) plain = whole ∙ sym (ap own_type own)
answer_own types result t k (answers_view view own held) plain = view ∙ sym (ap own_type own)
answer_own types result t k (answers_place target constant refers w own held) plain = absurd (false≢true (sym (ap (λ (c : Category). not (is_place c)) held) ∙ plain))
answer_own types result t k (answers_owner target constant refers o own held) plain = absurd (false≢true (sym (ap (λ (c : Category). not (is_place c)) held) ∙ plain))
answer_own types result t k (answers_struct target constant number refers s pointless own held) plain = absurd (false≢true (sym (ap (λ (c : Category). not (is_place c)) held) ∙ plain))

-- what may be null and isn't a unique_ptr is a raw pointer
pub nullable_raw : (u : Ty) → is_nullable u ≡ true → is_unique u ≡ false → is_raw u ≡ true
nullable_raw (ty.Raw target constant) n e = refl
nullable_raw (ty.Unique target) n e = absurd (false≢true (sym e))
nullable_raw _ n e = absurd (false≢true n)

-- what is seen without a string is a view or a literal
pub seen_kind : (types : Types) (e : Typed) → HasKind types e → sees e.ty ≡ true → is_seen e.ty ≡ true
seen_kind types e (a_number t is v) s = absurd (false≢true (sym (ap sees is ∙ no_text t v) ∙ s))
seen_kind types e (a_pointer target constant is v) s = absurd (false≢true (sym (ap sees is) ∙ s))
seen_kind types e (a_view is) s = ap is_seen is
seen_kind types e (a_text is v) s = ap is_seen is
seen_kind types e (no_value is v) s = absurd (false≢true (sym (ap sees is) ∙ s))
seen_kind types e (a_null is v) s = absurd (false≢true (sym (ap sees is) ∙ s))

-- nothing here is a string or an iterator
pub own_no_text : (types : Types) (e : Typed) → HasKind types e → is_text (own_type e.ty) ≡ false
own_no_text types e (a_number t is v) = ap (λ (x : ExprType). is_text (own_type x)) is ∙ (value_simple t v).text
own_no_text types e (a_pointer target constant is v) = ap (λ (x : ExprType). is_text (own_type x)) is
own_no_text types e (a_view is) = ap (λ (x : ExprType). is_text (own_type x)) is
own_no_text types e (a_text is v) = ap (λ (x : ExprType). is_text (own_type x)) is
own_no_text types e (no_value is v) = ap (λ (x : ExprType). is_text (own_type x)) is
own_no_text types e (a_null is v) = ap (λ (x : ExprType). is_text (own_type x)) is

pub own_no_iterator : (types : Types) (e : Typed) → HasKind types e → is_iterator (own_type e.ty) ≡ false
own_no_iterator types e (a_number t is v) = ap (λ (x : ExprType). is_iterator (own_type x)) is ∙ (value_simple t v).iterator
own_no_iterator types e (a_pointer target constant is v) = ap (λ (x : ExprType). is_iterator (own_type x)) is
own_no_iterator types e (a_view is) = ap (λ (x : ExprType). is_iterator (own_type x)) is
own_no_iterator types e (a_text is v) = ap (λ (x : ExprType). is_iterator (own_type x)) is
own_no_iterator types e (no_value is v) = ap (λ (x : ExprType). is_iterator (own_type x)) is
own_no_iterator types e (a_null is v) = ap (λ (x : ExprType). is_iterator (own_type x)) is
