-- What is assigned, stepped, computed back and printed, by its type.
use Rattle.std.proofs.Common.{◌≡◌, ◌⊎◌, inl, inr, Bool, true, false, ◌&&◌, refl, sym, ap, ◌∙◌, not}
use Rattle.std.proofs.lemmas.Bool.{and_parts, false≢true}
use Rattle.life_types.specs.TypeTests.{is_iterator, is_text, is_value}
use Rattle.life_types.specs.Types.{Types}
use Rattle.life_types.specs.declared.ty.Ty.{Ty}
use Rattle.life_types.specs.declared.ty.Ty.TheVariants as ty
use Rattle.life_types.specs.declared.ty.TyId.{TyId}
use Rattle.life_tree.specs.declared.operator.CompoundOperator.{CompoundOperator}
use Rattle.life_tree.specs.declared.operator.CompoundOperator.TheVariants as compound_by
use Rattle.life_tree.specs.declared.operator.StepOperator.{StepOperator}
use Rattle.life_tree.specs.declared.operator.StepOperator.TheVariants as step
use Rattle.life_typed.specs.BaseTypes.{type_at}
use Rattle.life_typed.specs.Statements.{can_step, compounded, counted, fitting_where, is_printed}
use Rattle.life_typed.specs.TypedForm.{Typed}
use Rattle.life_typed.specs.declared.typed_expr.Category.{Category}
use Rattle.life_typed.specs.declared.typed_expr.Category.TheVariants as category
use Rattle.life_typed.specs.declared.typed_expr.ExprType.{ExprType}
use Rattle.life_typed.specs.declared.typed_expr.ExprType.TheVariants.{NullPointer, Of, TextLiteral}
use Rattle.life_type_expr.specs.Lists.{fits_at_all}
use Rattle.life_type_expr.specs.Operands.{is_constant}
use Rattle.life_type_stmt.specs.Simples.{is_place}
use Rattle.life_type_stmt.specs.Simples as typing
use Rattle.life_proper.specs.WellFormed.{answer_of}
use Rattle.life_well_typed.specs.Given.{is_number}
use Rattle.life_writer.specs.Around.{own_type}
use Rattle.life_elab.specs.Simples.{compound_operator, step_operator}
use Rattle.life_elab_laws.proofs.Locations.{is_seen}
use Rattle.life_elab_laws.proofs.TypedKinds.{HasKind, IsKind, a_null, a_number, a_pointer, a_text, a_view, no_value}
use Rattle.life_elab_laws.proofs.Values.{by_values}

-- ---- targets

pub own_same : (t : ExprType) → typing.type_of t ≡ own_type t
own_same (Of t) = refl
own_same NullPointer = refl
own_same TextLiteral = refl

value_no_owner : (t : Ty) → is_value t ≡ true → typing.is_owner t ≡ false
value_no_owner = by_values (λ t. typing.is_owner t ≡ false) refl refl refl refl refl

-- what is assigned to is a place
pub target_place : (types : Types) (e : Typed) → IsKind types e → is_place e.ty e.category ≡ true → (id : TyId) × (constant : Bool) × (e.category ≡ category.Place id constant)
target_place types e k h = go e.category refl h
  where
    refused : HasKind types e → is_place e.ty category.Value ≡ true → ⊥
    refused (a_number t is v) h = false≢true (sym (ap (λ (x : ExprType). is_place x category.Value) is ∙ value_no_owner t v) ∙ h)
    refused (a_pointer target constant is v) h = false≢true (sym (ap (λ (x : ExprType). is_place x category.Value) is) ∙ h)
    refused (a_view is) h = false≢true (sym (ap (λ (x : ExprType). is_place x category.Value) is) ∙ h)
    refused (a_text is v) h = false≢true (sym (ap (λ (x : ExprType). is_place x category.Value) is) ∙ h)
    refused (no_value is v) h = false≢true (sym (ap (λ (x : ExprType). is_place x category.Value) is) ∙ h)
    refused (a_null is v) h = false≢true (sym (ap (λ (x : ExprType). is_place x category.Value) is) ∙ h)

    go : (c : Category) → e.category ≡ c → is_place e.ty c ≡ true → (id : TyId) × (constant : Bool) × (e.category ≡ category.Place id constant)
    go category.Value at h = absurd (refused k.kind h)
    go (category.Place id constant) at h = (id, constant, at)

-- ---- what is computed with is a number

pub own_counts : (t : ExprType) → is_value (own_type t) ≡ true → is_number t ≡ true
own_counts (Of t) e = e
own_counts NullPointer e = absurd (false≢true e)
own_counts TextLiteral e = absurd (false≢true e)

counted_numbers : (t : Ty) (e : ExprType) → fits_at_all (counted t e) ≡ true → (is_value t ≡ true) × (is_number e ≡ true)
counted_numbers t (Of u) h = and_parts (is_value t) (is_value u) (go (is_value t && is_value u) h)
  where
    go : (b : Bool) → fits_at_all (fitting_where b) ≡ true → b ≡ true
    go true h = refl
    go false h = absurd (false≢true h)
counted_numbers t NullPointer h = absurd (false≢true h)
counted_numbers t TextLiteral h = absurd (false≢true h)

pub compounded_numbers : (o : CompoundOperator) (t : Ty) (e : ExprType) → is_text t ≡ false → fits_at_all (compounded o t e) ≡ true → (is_value t ≡ true) × (is_number e ≡ true)
compounded_numbers compound_by.Add t e text h = let plain : fits_at_all (counted t e) ≡ true = rw text at h in counted_numbers t e plain
compounded_numbers compound_by.Subtract t e text h = counted_numbers t e h
compounded_numbers compound_by.Multiply t e text h = counted_numbers t e h
compounded_numbers compound_by.Divide t e text h = counted_numbers t e h
compounded_numbers compound_by.Remainder t e text h = counted_numbers t e h

pub step_value : (t : Ty) → is_iterator t ≡ false → can_step t ≡ true → is_value t ≡ true
step_value ty.Char i h = refl
step_value ty.Int i h = refl
step_value ty.Long i h = refl
step_value ty.Size i h = refl
step_value (ty.Iterator target constant) i h = absurd (false≢true (sym i))
step_value _ i h = absurd (false≢true h)

-- what may be assigned to is a place that isn't const, of its own type
pub record IsFree (types : Types) (e : Typed) : Type 0 where
  pub id : TyId
  pub place : e.category ≡ category.Place id false
  pub own : own_type e.ty ≡ type_at types id

pub free_place : (types : Types) (e : Typed) → IsKind types e → (is_place e.ty e.category && not (is_constant e.category)) ≡ true → IsFree types e
free_place types e k h = go (target_place types e k parts.0)
  where
    parts : (is_place e.ty e.category ≡ true) × (not (is_constant e.category) ≡ true)
    parts = and_parts (is_place e.ty e.category) (not (is_constant e.category)) h

    free : (c : Bool) → not c ≡ true → c ≡ false
    free false h = refl
    free true h = absurd (false≢true h)

    go : (id : TyId) × (constant : Bool) × (e.category ≡ category.Place id constant) → IsFree types e
    go at =
        let open_place = at.2 ∙ ap (category.Place at.0) (free at.1 (sym (ap (λ c. not (is_constant c)) at.2) ∙ parts.1)) in
        record { id = at.0; place = open_place; own = ap own_type (k.place at.0 false open_place) }

-- what is printed is a number, a view, or a literal
pub printed_type : (types : Types) (e : Typed) → HasKind types e → is_printed e.ty ≡ true → (is_number e.ty ≡ true) ⊎ (is_seen e.ty ≡ true)
printed_type types e (a_number t is v) h = inl (ap is_number is ∙ v)
printed_type types e (a_pointer target constant is v) h = absurd (false≢true (sym (ap is_printed is) ∙ h))
printed_type types e (a_view is) h = inr (ap is_seen is)
printed_type types e (a_text is v) h = inr (ap is_seen is)
printed_type types e (no_value is v) h = absurd (false≢true (sym (ap is_printed is) ∙ h))
printed_type types e (a_null is v) h = absurd (false≢true (sym (ap is_printed is) ∙ h))

-- what computes answers in its operands' type
pub compound_answer : (o : CompoundOperator) (t : Ty) → answer_of (compound_operator o) t ≡ t
compound_answer compound_by.Add t = refl
compound_answer compound_by.Subtract t = refl
compound_answer compound_by.Multiply t = refl
compound_answer compound_by.Divide t = refl
compound_answer compound_by.Remainder t = refl

pub step_answer : (o : StepOperator) (t : Ty) → answer_of (step_operator o) t ≡ t
step_answer step.Increment t = refl
step_answer step.Decrement t = refl
