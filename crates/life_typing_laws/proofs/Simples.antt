-- Assignments, steps and calls as statements.
use Rattle.std.proofs.Common.{◌≡◌, Bool, true, false, ◌&&◌, not, Option, None, Some, List, [], Ok, Box, refl, sym, ap, subst, ◌∙◌}
use Rattle.std.specs.declared.alloc.Global.{Global}
use Rattle.std.proofs.lemmas.Bool.{and_from, and_parts}
use Rattle.std.specs.Prelude.{is_none}
use Rattle.life_types.specs.Trees.{IsOrdered}
use Rattle.life_types.specs.Types.{Types, HasParts}
use Rattle.life_types.specs.declared.ty.Ty.{Ty}
use Rattle.life_types.specs.declared.place.Place.{Place}
use Rattle.life_types.specs.declared.ty.TyId.{TyId}
use Rattle.life_tree.specs.declared.declaration.InitialValue.{InitialValue}
use Rattle.life_tree.specs.declared.expr.Expr.{Expr}
use Rattle.life_tree.specs.declared.operator.CompoundOperator.{CompoundOperator}
use Rattle.life_tree.specs.declared.operator.StepOperator.{StepOperator}
use Rattle.life_tree.specs.declared.simple.Simple.{Simple}
use Rattle.life_tree.specs.declared.simple.Simple.TheVariants as simple
use Rattle.life_tree.specs.declared.simple.Target.{Target}
use Rattle.life_typed.specs.Conversions.{Fit, fits}
use Rattle.life_typed.specs.Programs.{ProgramForm}
use Rattle.life_typed.specs.Statements.{can_step, compounded}
use Rattle.life_typed.specs.TypedForm.{Typed}
use Rattle.life_typed.specs.TypedStatement as typed
use Rattle.life_typed.specs.TypedStatement.{InitialForm, SimpleForm}
use Rattle.life_typed.specs.declared.typed_expr.Category.{Category}
use Rattle.life_typed.specs.declared.typed_expr.Category.TheVariants as category
use Rattle.life_typed.specs.declared.typed_expr.ExprType.{ExprType}
use Rattle.life_typed.specs.declared.typed_expr.ExprType.TheVariants as expr_type
use Rattle.life_typed.specs.declared.typed_program.TypedLocal.{TypedLocal}
use Rattle.life_names.specs.Checked.{Checked, ◌>>=◌}
use Rattle.life_names.specs.Environment.{Scope}
use Rattle.life_names.specs.Found.{Found, allowed, found_with, given}
use Rattle.life_names.specs.declared.fault.IllKind.{IllKind}
use Rattle.life_names.specs.declared.fault.IllKind.TheVariants as kinds
use Rattle.life_type_expr.specs.Expressions.{expr_meaning, postfix_meaning, target_meaning}
use Rattle.life_type_expr.specs.Lists.{Meaning, fits_at_all, lower_kind, misfit_of}
use Rattle.life_type_expr.specs.Operands.{const_or, is_constant, literal_allowed}
use Rattle.life_type_stmt.specs.Conditions.{unless}
use Rattle.life_type_stmt.specs.Given.{given_value, initial_fault}
use Rattle.life_type_stmt.specs.Simples.{assignment, assignment_fault, compound, compound_fault, is_place, operand, optional_simple, self_fault, simple_statement, step_fault, stepped, target, type_of, whole_fault}
use Rattle.life_well_typed.specs.Statements.{IsGiven, IsSimple, IsSimpleIfAny}
use Rattle.life_well_typed.specs.Visible.{Visible}
use Rattle.life_typing_laws.proofs.Fitting.{fit_at_all, given_later, lower_none, misfit_none}
use Rattle.life_typing_laws.specs.Sound.{Grows, IsFinal, IsSound}
use Rattle.life_typing_laws.proofs.Growing.{IsGrown, grown_not, grown_on, parts_stay}
use Rattle.life_typing_laws.proofs.MembersListed.{still_listed}
use Rattle.life_typing_laws.proofs.Scopes.{final_then, sound_now}
use Rattle.life_typing_laws.proofs.Steps.{allowed_ok, bound, given_ok, same_value}
use Rattle.life_typing_laws.proofs.Typed.{Good, PartsThere, PlaceThere, place_stays}
use Rattle.life_typing_laws.proofs.Values.{One, Several, ValueRead, operand_reads, target_reads, unless_none, value_is}
use Rattle.life_typing_laws.proofs.Targets.{target_good}
use Rattle.life_typing_laws.proofs.Wholes.{expr_good, postfix_good}

-- a table that has grown, and a simple statement that is well typed
pub record IsDone (v : Visible) (scope : Scope) (types : Types) (x : SimpleForm × Types) : Type 0 where
  pub grown : IsGrown types x.1
  pub is : (p : ProgramForm) (locals : List TypedLocal) (result : TyId) → IsFinal p locals scope x.1 → IsSimple p locals result v.visible x.0

-- what was done, as it is given
done_as : (v : Visible) (scope : Scope) (types : Types) (y x : SimpleForm × Types) → ◌≡◌ {A = Checked SimpleForm} (Ok y) (Ok x) → IsDone v scope types y → IsDone v scope types x
done_as v scope types y x h done = subst (IsDone v scope types) (same_value y x h) done

-- ---- targets

const_none : (constant : Bool) (other : Option IllKind) → const_or constant other ≡ None → not constant ≡ true
const_none true other e = absurd (cc)
const_none false other e = refl

const_rest : (constant : Bool) (other : Option IllKind) → const_or constant other ≡ None → other ≡ None
const_rest true other e = absurd (cc)
const_rest false other e = e

-- a struct that has a copy has one in a table that has grown
whole_later : (old new : Types) (c : Category) → IsOrdered old → Grows old new → PlaceThere old c → whole_fault old c ≡ None → is_none (whole_fault new c) ≡ true
whole_later old new category.Value ordered grows there fine = refl
whole_later old new (category.Place id constant) ordered grows there fine = still_listed [] old new ordered grows id there fine

-- a place that isn't const
place_given : (t : Typed) (kind : IllKind) (other : Option IllKind) → unless (is_place t.ty t.category) kind ≡ None → const_or (is_constant t.category) other ≡ None
    → (is_place t.ty t.category && not (is_constant t.category)) ≡ true
place_given t kind other place free =
    and_from (is_place t.ty t.category) (not (is_constant t.category)) (unless_none (is_place t.ty t.category) kind place) (const_none (is_constant t.category) other free)

-- ---- assignments

-- a table that has grown, and a value that is given to the type, where its parts are there
record IsValue (v : Visible) (t : Ty) (scope : Scope) (types : Types) (x : InitialForm × Types) : Type 0 where
  grown : IsGrown types x.1
  is : (p : ProgramForm) (locals : List TypedLocal) (result : TyId) → IsFinal p locals scope x.1 → HasParts types t → IsGiven p locals result v.visible t x.0

value_given : (v : Visible) (t : Ty) (scope : Scope) (types : Types) (x : InitialForm × Types) → ValueRead v t scope types x → initial_fault kinds.NotAssignable x.1 t x.0 ≡ None → IsValue v t scope types x
value_given v t scope types x (One value) fine = record {
  grown = value.grown;
  is = λ p locals result final parts.
      let typed = value.typed p locals final in
      subst (λ (f : InitialForm). IsGiven p locals result v.visible t f) value.is
      (given_later x.1 p.types value.grown.ordered final.grown t value.value (parts_stay types x.1 t value.grown.grows parts) typed.place fits_it, typed.is);
}
  where
    fits_it : fits x.1 t value.value.ty value.value.category ≡ Ok tt
    fits_it = misfit_none kinds.NotAssignable (fits x.1 t value.value.ty value.value.category) (subst (λ (f : InitialForm). initial_fault kinds.NotAssignable x.1 t f ≡ None) (sym value.is) fine)
value_given v t scope types x (Several l) fine = record {
  grown = l.grown;
  is = λ p locals result final parts. subst (λ (f : InitialForm). IsGiven p locals result v.visible t f) l.is (l.typed p locals final parts);
}

type_parts : (types : Types) (e : ExprType) → PartsThere types e → HasParts types (type_of e)
type_parts types (expr_type.Of t) parts = parts
type_parts types expr_type.NullPointer parts = tt
type_parts types expr_type.TextLiteral parts = tt

abbrev behind_value : Place → Typed → InitialForm × Types → Checked SimpleForm
behind_value equals t y = given (allowed (assignment_fault y.1 t y.0) equals) (λ _. Ok (typed.assign t equals y.0, y.1))

abbrev behind_target : Place → InitialValue → Scope → Typed × Types → Checked SimpleForm
behind_target equals i scope x = given_value (type_of x.0.ty) i scope x.1 >>= behind_value equals x.0

assignment_is : (t : Target) (equals : Place) (i : InitialValue) (v : Visible) (scope : Scope) (types : Types) (x : SimpleForm × Types) → assignment t equals i scope types ≡ Ok x → IsSound v scope types
    → IsDone v scope types x
assignment_is t equals i v scope types x h sound =
    let first = bound (target t scope types) (behind_target equals i scope) x h in
    let second = bound (given_value (type_of first.value.0.ty) i scope first.value.1) (behind_value equals first.value.0) x first.behind in
    let fine = allowed_ok (assignment_fault second.value.1 first.value.0 second.value.0) equals (λ _. Ok (typed.assign first.value.0 equals second.value.0, second.value.1)) x second.behind in
    let goal = target_good t v scope types first.value (target_reads t scope types first.value first.gave) sound in
    let no_place = lower_none (unless (is_place first.value.0.ty first.value.0.category) kinds.NotAssignable)
    (lower_kind (whole_fault second.value.1 first.value.0.category) (lower_kind (initial_fault kinds.NotAssignable second.value.1 (type_of first.value.0.ty) second.value.0)
    (const_or (is_constant first.value.0.category) (self_fault first.value.0.form second.value.0)))) fine.0 in
    let no_whole = lower_none (whole_fault second.value.1 first.value.0.category) (lower_kind (initial_fault kinds.NotAssignable second.value.1 (type_of first.value.0.ty) second.value.0)
    (const_or (is_constant first.value.0.category) (self_fault first.value.0.form second.value.0))) no_place.1 in
    let no_initial = lower_none (initial_fault kinds.NotAssignable second.value.1 (type_of first.value.0.ty) second.value.0)
    (const_or (is_constant first.value.0.category) (self_fault first.value.0.form second.value.0)) no_whole.1 in
    let value = value_given v (type_of first.value.0.ty) scope first.value.1 second.value
    (value_is (type_of first.value.0.ty) i v scope first.value.1 second.value second.gave (sound_now v scope types first.value.1 sound goal.grown)) no_initial.0 in
    done_as v scope types (typed.assign first.value.0 equals second.value.0, second.value.1) x fine.1 (record {
      grown = grown_on types first.value.1 second.value.1 goal.grown value.grown;
      is = λ p locals result final.
          let assigned = goal.is p locals (final_then p locals scope first.value.1 second.value.1 value.grown final) in (
            (place_given first.value.0 kinds.NotAssignable (self_fault first.value.0.form second.value.0) no_place.0 no_initial.1, assigned.is),
            value.is p locals result final (type_parts first.value.1 first.value.0.ty assigned.parts),
            and_from (is_none (whole_fault p.types first.value.0.category)) (is_none (self_fault first.value.0.form second.value.0))
                (whole_later second.value.1 p.types first.value.0.category value.grown.ordered final.grown (place_stays first.value.1 second.value.1 value.grown.grows first.value.0.category assigned.place) no_whole.0)
                (ap (λ (o : Option IllKind). is_none o) (const_rest (is_constant first.value.0.category) (self_fault first.value.0.form second.value.0) no_initial.1)),
          );
    })

-- ---- `+=` and its kind

abbrev fit_of : CompoundOperator → Typed → Typed → Fit
fit_of operator t value = compounded operator (type_of t.ty) value.ty

abbrev behind_sum : CompoundOperator → Place → Typed → Typed × Types → Checked SimpleForm
behind_sum operator place t y =
    given (literal_allowed (fits_at_all (fit_of operator t y.0)) y.0) (λ _. given (allowed (compound_fault (fit_of operator t y.0) t) place) (λ _. Ok (typed.compound t operator place y.0, y.1)))

compound_is : (t : Target) (operator : CompoundOperator) (place : Place) (e : Expr) (v : Visible) (scope : Scope) (types : Types) (x : SimpleForm × Types) → compound t operator place e scope types ≡ Ok x
    → IsSound v scope types → IsDone v scope types x
compound_is t operator place e v scope types x h sound =
    let first = bound (target t scope types) (λ y. expr_meaning e scope y.1 >>= behind_sum operator place y.0) x h in
    let second = bound (expr_meaning e scope first.value.1) (behind_sum operator place first.value.0) x first.behind in
    let fit = fit_of operator first.value.0 second.value.0 in
    let literal = given_ok (literal_allowed (fits_at_all fit) second.value.0)
    (λ _. given (allowed (compound_fault fit first.value.0) place) (λ _. Ok (typed.compound first.value.0 operator place second.value.0, second.value.1))) x second.behind in
    let fine = allowed_ok (compound_fault fit first.value.0) place (λ _. Ok (typed.compound first.value.0 operator place second.value.0, second.value.1)) x literal.behind in
    let goal = target_good t v scope types first.value (target_reads t scope types first.value first.gave) sound in
    let value = expr_good e v scope first.value.1 second.value second.gave (sound_now v scope types first.value.1 sound goal.grown) in
    let no_place = lower_none (unless (is_place first.value.0.ty first.value.0.category) kinds.WrongType) (lower_kind (misfit_of kinds.WrongType fit) (const_or (is_constant first.value.0.category) None)) fine.0 in
    let no_misfit = lower_none (misfit_of kinds.WrongType fit) (const_or (is_constant first.value.0.category) None) no_place.1 in
    done_as v scope types (typed.compound first.value.0 operator place second.value.0, second.value.1) x fine.1 (record {
      grown = grown_on types first.value.1 second.value.1 goal.grown value.grown;
      is = λ p locals result final. (
        fit_at_all fit (misfit_none kinds.WrongType fit no_misfit.0),
        (place_given first.value.0 kinds.WrongType None no_place.0 no_misfit.1, (goal.is p locals (final_then p locals scope first.value.1 second.value.1 value.grown final)).is),
        (value.is p locals final).is,
      );
    })

-- ---- `++` and `--`

abbrev step_taken : StepOperator → Place → Typed × Types → Checked SimpleForm
step_taken operator place x = given (stepped operator place x.0) (λ s. Ok (s, x.1))

pub record IsStep (operator : StepOperator) (place : Place) (t : Typed) (s : SimpleForm) : Type 0 where
  pub is : typed.step t operator place ≡ s
  pub fine : step_fault t ≡ None

stepped_is : (operator : StepOperator) (place : Place) (t : Typed) (s : SimpleForm) → stepped operator place t ≡ Ok s → IsStep operator place t s
stepped_is operator place t s h = go (step_fault t) refl h
  where
    go : (o : Option IllKind) → step_fault t ≡ o → ◌≡◌ {A = Found SimpleForm} (found_with (allowed o place) (λ _. Ok (typed.step t operator place))) (Ok s) → IsStep operator place t s
    go None fine h = record { is = cc; fine = fine }
    go (Some kind) fine h = absurd (cc)

step_is : (m : Meaning) (good : Good m) (operator : StepOperator) (place : Place) (v : Visible) (scope : Scope) (types : Types) (y : Typed × Types) (x : SimpleForm × Types) → m scope types ≡ Ok y
    → step_taken operator place y ≡ Ok x → IsSound v scope types → IsDone v scope types x
step_is m good operator place v scope types y x reads h sound =
    let found = given_ok (stepped operator place y.0) (λ s. Ok (s, y.1)) x h in
    let step = stepped_is operator place y.0 found.value found.gave in
    let whole : ◌≡◌ {A = Checked SimpleForm} (Ok (typed.step y.0 operator place, y.1)) (Ok x) = ap (λ (s : SimpleForm). Ok (s, y.1)) step.is ∙ found.behind in
    let goal = good v scope types y reads sound in
    let no_step = lower_none (unless (is_place y.0.ty y.0.category && can_step (type_of y.0.ty)) kinds.WrongType) (const_or (is_constant y.0.category) None) step.fine in
    let tests = and_parts (is_place y.0.ty y.0.category) (can_step (type_of y.0.ty)) (unless_none (is_place y.0.ty y.0.category && can_step (type_of y.0.ty)) kinds.WrongType no_step.0) in
    done_as v scope types (typed.step y.0 operator place, y.1) x whole (record {
      grown = goal.grown;
      is = λ p locals result final. (tests.1, (and_from (is_place y.0.ty y.0.category) (not (is_constant y.0.category)) tests.0 (const_none (is_constant y.0.category) None no_step.1), (goal.is p locals final).is));
    })

-- ---- all of them

pub simple_is : (s : Simple) (v : Visible) (scope : Scope) (types : Types) (x : SimpleForm × Types) → simple_statement s scope types ≡ Ok x → IsSound v scope types → IsDone v scope types x
simple_is (simple.Assign t equals i) v scope types x h sound = assignment_is t equals i v scope types x h sound
simple_is (simple.Compound t operator place e) v scope types x h sound = compound_is t operator place e.value v scope types x h sound
simple_is (simple.PrefixStep operator place t) v scope types x h sound =
    let first = bound (target t scope types) (step_taken operator place) x h in
    step_is (target_meaning t) (target_good t) operator place v scope types first.value x (target_reads t scope types first.value first.gave) first.behind sound
simple_is (simple.PostfixStep t operator place) v scope types x h sound =
    let first = bound (operand t scope types) (step_taken operator place) x h in
    step_is (postfix_meaning t) (postfix_good t) operator place v scope types first.value x (operand_reads t scope types first.value first.gave) first.behind sound
simple_is (simple.Call c) v scope types x h sound =
    let first = bound (operand c scope types) (λ y. Ok (typed.discarded y.0, y.1)) x h in
    let call = postfix_good c v scope types first.value (operand_reads c scope types first.value first.gave) sound in
    done_as v scope types (typed.discarded first.value.0, first.value.1) x first.behind (record { grown = call.grown; is = λ p locals result final. (call.is p locals final).is })

-- .. where it may be left out
pub record IsDoneIfAny (v : Visible) (scope : Scope) (types : Types) (x : Option SimpleForm × Types) : Type 0 where
  pub grown : IsGrown types x.1
  pub is : (p : ProgramForm) (locals : List TypedLocal) (result : TyId) → IsFinal p locals scope x.1 → IsSimpleIfAny p locals result v.visible x.0

pub optional_simple_is : (s : Option (Box Simple Global)) (v : Visible) (scope : Scope) (types : Types) (x : Option SimpleForm × Types) → optional_simple s scope types ≡ Ok x → IsSound v scope types
    → IsDoneIfAny v scope types x
optional_simple_is None v scope types x h sound =
    subst (IsDoneIfAny v scope types) (same_value {A = Option SimpleForm} (None, types) x h) (record { grown = grown_not types sound.ordered; is = λ p locals result final. tt })
optional_simple_is (Some s) v scope types x h sound =
    let step = bound (simple_statement s.value scope types) (λ y. Ok (Some y.0, y.1)) x h in
    let same : ◌≡◌ {A = Option SimpleForm × Types} (Some step.value.0, step.value.1) x = same_value {A = Option SimpleForm} (Some step.value.0, step.value.1) x step.behind in
    let done = simple_is s.value v scope types step.value step.gave sound in
    subst (IsDoneIfAny v scope types) same (record { grown = done.grown; is = done.is })
