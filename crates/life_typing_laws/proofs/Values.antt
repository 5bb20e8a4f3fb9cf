-- Expressions in statements: what decides, what is printed, a target, and what is given to a type.
use Rattle.std.proofs.Common.{◌≡◌, Bool, true, false, Option, None, Some, List, Ok, refl, sym, ap, subst, ◌∙◌}
use Rattle.life_types.specs.Types.{Types}
use Rattle.life_types.specs.declared.ty.Ty.{Ty}
use Rattle.life_tree.specs.declared.declaration.InitialValue.{InitialValue}
use Rattle.life_tree.specs.declared.declaration.InitialValue.TheVariants as initial_value
use Rattle.life_tree.specs.declared.declaration.Initializer.{Initializer}
use Rattle.life_tree.specs.declared.declaration.Initializer.TheVariants as initializer
use Rattle.life_tree.specs.declared.expr.Expr.{Expr}
use Rattle.life_tree.specs.declared.primary.Postfix.{Postfix}
use Rattle.life_tree.specs.declared.simple.Target.{Target}
use Rattle.life_typed.specs.Operators.{is_condition}
use Rattle.life_typed.specs.Programs.{ProgramForm}
use Rattle.life_typed.specs.TypedForm.{Typed}
use Rattle.life_typed.specs.TypedStatement.{InitialForm, one}
use Rattle.life_typed.specs.declared.typed_program.TypedLocal.{TypedLocal}
use Rattle.life_names.specs.Checked.{Checked, ◌>>=◌}
use Rattle.life_names.specs.Environment.{Scope}
use Rattle.life_names.specs.Found.{allowed, given}
use Rattle.life_names.specs.declared.fault.IllKind.{IllKind}
use Rattle.life_names.specs.declared.fault.IllKind.TheVariants as kinds
use Rattle.life_type_expr.specs.Expressions.{expr_meaning, postfix_meaning, target_meaning}
use Rattle.life_type_expr.specs.Lists.{Meaning, is_taken}
use Rattle.life_type_expr.specs.Operands.{literal_allowed}
use Rattle.life_type_stmt.specs.Conditions.{condition, unless}
use Rattle.life_type_stmt.specs.Given.{given_expr, given_first, given_list, given_value}
use Rattle.life_type_stmt.specs.Simples.{operand, target}
use Rattle.life_well_typed.specs.Visible.{Visible}
use Rattle.life_typing_laws.specs.Sound.{IsFinal, IsSound}
use Rattle.life_typing_laws.proofs.Growing.{IsGrown}
use Rattle.life_typing_laws.proofs.Lists.{IsList, list_is}
use Rattle.life_typing_laws.proofs.Steps.{allowed_ok, bound, given_ok, same_value}
use Rattle.life_typing_laws.proofs.Typed.{IsTyped}
use Rattle.life_typing_laws.proofs.Wholes.{expr_good}

pub unless_none : (b : Bool) (kind : IllKind) → unless b kind ≡ None → b ≡ true
unless_none true kind e = refl
unless_none false kind e = absurd (cc)

-- ---- what decides

abbrev decides_with : Typed × Types → Checked Typed
decides_with x = given (literal_allowed false x.0) (λ _. given (allowed (unless (is_condition x.0.ty) kinds.WrongType) x.0.place) (λ _. Ok x))

pub condition_reads : (e : Expr) (scope : Scope) (types : Types) (x : Typed × Types) → condition e scope types ≡ Ok x → (expr_meaning e scope types ≡ Ok x) × (is_condition x.0.ty ≡ true)
condition_reads e scope types x h =
    let step = bound (expr_meaning e scope types) decides_with x h in
    let literal = given_ok (literal_allowed false step.value.0) (λ _. given (allowed (unless (is_condition step.value.0.ty) kinds.WrongType) step.value.0.place) (λ _. Ok step.value)) x step.behind in
    let fine = allowed_ok (unless (is_condition step.value.0.ty) kinds.WrongType) step.value.0.place (λ _. Ok step.value) x literal.behind in
    let same : step.value ≡ x = same_value step.value x fine.1 in
    (step.gave ∙ ap (λ (y : Typed × Types). Ok y) same, subst (λ (y : Typed × Types). is_condition y.0.ty ≡ true) same (unless_none (is_condition step.value.0.ty) kinds.WrongType fine.0))

-- ---- targets

abbrev no_literal : Typed × Types → Checked Typed
no_literal x = given (literal_allowed false x.0) (λ _. Ok x)

literal_reads : (m : Meaning) (scope : Scope) (types : Types) (x : Typed × Types) → (m scope types >>= no_literal) ≡ Ok x → m scope types ≡ Ok x
literal_reads m scope types x h =
    let step = bound (m scope types) no_literal x h in
    let literal = given_ok (literal_allowed false step.value.0) (λ _. Ok step.value) x step.behind in
    step.gave ∙ ap (λ (y : Typed × Types). Ok y) (same_value step.value x literal.behind)

pub target_reads : (t : Target) (scope : Scope) (types : Types) (x : Typed × Types) → target t scope types ≡ Ok x → target_meaning t scope types ≡ Ok x
target_reads t scope types x h = literal_reads (target_meaning t) scope types x h

pub operand_reads : (p : Postfix) (scope : Scope) (types : Types) (x : Typed × Types) → operand p scope types ≡ Ok x → postfix_meaning p scope types ≡ Ok x
operand_reads p scope types x h = literal_reads (postfix_meaning p) scope types x h

-- ---- what is given to a type

abbrev converted_literal : Ty → Typed × Types → Checked Typed
converted_literal t x = given (literal_allowed (is_taken x.1 (Some t) x.0) x.0) (λ _. Ok x)

pub given_expr_reads : (t : Ty) (e : Expr) (scope : Scope) (types : Types) (x : Typed × Types) → given_expr t e scope types ≡ Ok x → expr_meaning e scope types ≡ Ok x
given_expr_reads t e scope types x h =
    let step = bound (expr_meaning e scope types) (converted_literal t) x h in
    let literal = given_ok (literal_allowed (is_taken step.value.1 (Some t) step.value.0) step.value.0) (λ _. Ok step.value) x step.behind in
    step.gave ∙ ap (λ (y : Typed × Types). Ok y) (same_value step.value x literal.behind)

-- an expression, which is well typed, over a table that has grown
pub record IsOne (v : Visible) (scope : Scope) (types : Types) (x : InitialForm × Types) : Type 0 where
  pub value : Typed
  pub is : one value ≡ x.0
  pub grown : IsGrown types x.1
  pub typed : (p : ProgramForm) (locals : List TypedLocal) → IsFinal p locals scope x.1 → IsTyped p locals v x.1 value

-- an expression that was read
pub one_read : (e : Expr) (v : Visible) (scope : Scope) (types : Types) (y : Typed × Types) (x : InitialForm × Types) → expr_meaning e scope types ≡ Ok y → ◌≡◌ {A = Checked InitialForm} (Ok (one y.0, y.1)) (Ok x)
    → IsSound v scope types → IsOne v scope types x
one_read e v scope types y x read h sound =
    let good = expr_good e v scope types y read sound in
    subst (IsOne v scope types) (same_value (one y.0, y.1) x h) (record { value = y.0; is = refl; grown = good.grown; typed = good.is })

-- an expression or a list
pub data ValueRead (v : Visible) (t : Ty) (scope : Scope) (types : Types) (x : InitialForm × Types) : Type 0 where
  One : IsOne v scope types x → ValueRead v t scope types x
  Several : IsList v t scope types x → ValueRead v t scope types x

pub value_is : (t : Ty) (i : InitialValue) (v : Visible) (scope : Scope) (types : Types) (x : InitialForm × Types) → given_value t i scope types ≡ Ok x → IsSound v scope types → ValueRead v t scope types x
value_is t (initial_value.Expr e) v scope types x h sound =
    let step = bound (given_expr t e.value scope types) (λ y. Ok (one y.0, y.1)) x h in
    One (one_read e.value v scope types step.value x (given_expr_reads t e.value scope types step.value step.gave) step.behind sound)
value_is t (initial_value.List l) v scope types x h sound = Several (list_is t l v scope types x h sound)

-- nothing, or a value
pub record IsFirst (v : Visible) (t : Ty) (scope : Scope) (types : Types) (value : InitialForm) (x : Option InitialForm × Types) : Type 0 where
  pub is : x.0 ≡ Some value
  pub read : ValueRead v t scope types (value, x.1)

pub data FirstRead (v : Visible) (t : Ty) (scope : Scope) (types : Types) (x : Option InitialForm × Types) : Type 0 where
  Nothing : x.0 ≡ None → x.1 ≡ types → FirstRead v t scope types x
  Value : (value : InitialForm) → IsFirst v t scope types value x → FirstRead v t scope types x

pub some_read : (v : Visible) (t : Ty) (scope : Scope) (types : Types) (y : InitialForm × Types) (x : Option InitialForm × Types) → ◌≡◌ {A = Checked (Option InitialForm)} (Ok (Some y.0, y.1)) (Ok x)
    → ValueRead v t scope types y → FirstRead v t scope types x
some_read v t scope types y x h read =
    let same : ◌≡◌ {A = Option InitialForm × Types} (Some y.0, y.1) x = same_value (Some y.0, y.1) x h in
    subst (FirstRead v t scope types) same (Value y.0 (record { is = refl; read = read }))

pub none_read : (v : Visible) (t : Ty) (scope : Scope) (types : Types) (x : Option InitialForm × Types) → ◌≡◌ {A = Checked (Option InitialForm)} (Ok (None, types)) (Ok x) → FirstRead v t scope types x
none_read v t scope types x h =
    let same : ◌≡◌ {A = Option InitialForm × Types} (None, types) x = same_value (None, types) x h in
    Nothing (ap (λ (z : Option InitialForm × Types). z.0) (sym same)) (ap (λ (z : Option InitialForm × Types). z.1) (sym same))

pub first_is : (t : Ty) (i : Option Initializer) (v : Visible) (scope : Scope) (types : Types) (x : Option InitialForm × Types) → given_first t i scope types ≡ Ok x → IsSound v scope types → FirstRead v t scope types x
first_is t None v scope types x h sound = none_read v t scope types x h
first_is t (Some (initializer.Equals equals value)) v scope types x h sound =
    let step = bound (given_value t value scope types) (λ y. Ok (Some y.0, y.1)) x h in
    some_read v t scope types step.value x step.behind (value_is t value v scope types step.value step.gave sound)
first_is t (Some (initializer.List l)) v scope types x h sound =
    let step = bound (given_list t l scope types) (λ y. Ok (Some y.0, y.1)) x h in
    some_read v t scope types step.value x step.behind (Several (list_is t l v scope types step.value step.gave sound))
