-- A call of a member function is well typed.
use Rattle.std.proofs.Common.{◌≡◌, ℕ, Bool, true, false, Option, None, Some, Ok, List, length, refl, sym, subst, ◌∙◌, if◌then◌else◌}
use Rattle.life_types.specs.Types.{Types, HasParts}
use Rattle.life_types.specs.declared.place.Place.{Place}
use Rattle.life_types.specs.declared.ty.Ty.{Ty}
use Rattle.life_types.specs.declared.ty.TyId.{TyId}
use Rattle.life_tree.specs.declared.identifier.Identifier.{Identifier}
use Rattle.life_typed.specs.Delimiters.{DelimitersForm}
use Rattle.life_typed.specs.Members.{method_answer, method_named, method_parameters}
use Rattle.life_typed.specs.TypedForm.{Typed, forms, method, whole}
use Rattle.life_typed.specs.Programs.{ProgramForm}
use Rattle.life_typed.specs.declared.members.MethodParameters.{MethodParameters}
use Rattle.life_typed.specs.declared.typed_expr.Category.{Category}
use Rattle.life_typed.specs.declared.typed_expr.ExprType.{ExprType}
use Rattle.life_typed.specs.declared.typed_expr.ExprType.TheVariants.{Of, NullPointer, TextLiteral}
use Rattle.life_typed.specs.declared.typed_expr.Method.{Method}
use Rattle.life_typed.specs.declared.typed_program.TypedLocal.{TypedLocal}
use Rattle.life_names.specs.Environment.{Scope, structure, text}
use Rattle.life_names.specs.Found.{found_in}
use Rattle.life_names.specs.declared.fault.IllKind.{IllKind}
use Rattle.life_names.specs.declared.fault.IllKind.TheVariants as kinds
use Rattle.life_type_expr.specs.Lists as lists
use Rattle.life_type_expr.specs.Lists.{ListMeaning, Targets, count_fault, lower_kind, misfits, passed, takes_count}
use Rattle.life_type_expr.specs.Members.{answered, answered_as, called_as, called_in, called_member, called_of, called_with, change_fault, member_of_struct, method_call, method_called, struct_number}
use Rattle.life_type_expr.specs.Operands.{is_constant}
use Rattle.life_well_typed.specs.Expressions.{AreExpressions}
use Rattle.life_well_typed.specs.Members.{IsCalled, are_passed, are_taken}
use Rattle.life_well_typed.specs.Visible.{Visible}
use Rattle.life_typing_laws.specs.Sound.{IsFinal, IsSound}
use Rattle.life_typing_laws.proofs.Domains.{Called}
use Rattle.life_typing_laws.proofs.Fitting.{first_none, lower_none}
use Rattle.life_typing_laws.proofs.MethodTables.{IsThere, all_taken, method_there, parameter_there, same_method_answer, same_parameters}
use Rattle.life_typing_laws.proofs.Reading.{IsPassed, PlacesThere, passed_is}
use Rattle.life_typing_laws.proofs.Scopes.{sound_now}
use Rattle.life_typing_laws.proofs.Steps.{bound, found_ok, given_ok}
use Rattle.life_typing_laws.proofs.Typed.{GoodBehind, GoodList, IsGoodBehind, IsTyped, PartsThere, typed_stays}

-- ---- the member function that is called

pub record IsOn (u : ExprType) (types : Types) (called : Called) : Type 0 where
  pub object : Ty
  pub named : Method
  pub takes : MethodParameters
  pub ty : u ≡ Of object
  pub has : method_parameters types object named ≡ Some takes
  pub is : ◌≡◌ {A = Called} (record { base = object; method = named; parameters = takes }) called

on_is : (name : Identifier) (u : ExprType) (scope : Scope) (types : Types) (called : Called) → called_of u name scope types ≡ Ok called → IsOn u types called
unfolding called_of
on_is name NullPointer scope types called h = absurd (cc)
on_is name TextLiteral scope types called h = absurd (cc)
on_is name (Of t) scope types called h = in_number (struct_number t) h
  where
    never : {P : Type 0} (o : Option (ℕ × TyId)) → called_member o name.place ≡ Ok called → P
    never None h = absurd (cc)
    never (Some m) h = absurd (cc)

    with_parameters : (m : Method) (o : Option MethodParameters) → method_parameters types t m ≡ o → called_with t m o name.place ≡ Ok called → IsOn (Of t) types called
    with_parameters m None is h = absurd (cc)
    with_parameters m (Some p) is h = record { object = t; named = m; takes = p; ty = refl; has = is; is = cc }

    by : (o : Option Method) → called_as o t types name.place ≡ Ok called → IsOn (Of t) types called
    by None h = absurd (cc)
    by (Some m) h = with_parameters m (method_parameters types t m) refl h

    in_number : (o : Option ℕ) → called_in o t name scope types ≡ Ok called → IsOn (Of t) types called
    in_number None h = by (method_named (text scope name.id)) h
    in_number (Some number) h = never (member_of_struct (structure scope number) name.id) h

-- ---- what it answers

pub record IsAnswered (called : Called) (types : Types) (place : Place) (base : Typed) (es : List Typed) (delimiters : DelimitersForm) (e : Typed) : Type 0 where
  pub answer : ExprType × Category
  pub gives : method_answer types called.base (is_constant base.category) called.method ≡ Some answer
  pub is : ◌≡◌ {A = Typed} (record { place = place; ty = answer.0; category = answer.1; form = method (whole base) called.method (forms es) delimiters }) e

answered_is : (called : Called) (types : Types) (place : Place) (base : Typed) (es : List Typed) (delimiters : DelimitersForm) (e : Typed) → answered called types place base es delimiters ≡ Ok e
    → IsAnswered called types place base es delimiters e
answered_is called types place base es delimiters e h = go (method_answer types called.base (is_constant base.category) called.method) refl h
  where
    go : (o : Option (ExprType × Category)) → method_answer types called.base (is_constant base.category) called.method ≡ o → answered_as o place base called.method es delimiters ≡ Ok e
        → IsAnswered called types place base es delimiters e
    go None is h = absurd (cc)
    go (Some a) is h = record { answer = a; gives = is; is = cc }

-- as many arguments as are taken
pub count_taken : (general : IllKind) (targets : Targets) (n : ℕ) → count_fault general targets n ≡ None → takes_count targets n ≡ true
count_taken general targets n e = go (takes_count targets n) e
  where
    go : (b : Bool) → ◌≡◌ {A = Option IllKind} (if b then None else Some general) None → b ≡ true
    go true e = refl
    go false e = absurd (cc)

-- ---- the call

abbrev on : Ty → Method → MethodParameters → Called
on t m p = record { base = t; method = m; parameters = p }

-- a call whose arguments were passed
pub record Calls (name : Identifier) (arguments : ListMeaning) (base : Typed) (v : Visible) (scope : Scope) (types : Types) (x : Typed × Types) : Type 0 where
  pub object : Ty
  pub named : Method
  pub takes : MethodParameters
  pub ty : base.ty ≡ Of object
  pub has : method_parameters types object named ≡ Some takes
  pub y : List Typed × Types
  pub passed : IsPassed v kinds.WrongArguments (change_fault named base.category) (lists.method_parameters takes) scope types y
  pub is : IsAnswered (on object named takes) y.1 name.place base y.0 arguments.delimiters x.0
  pub table : y.1 ≡ x.1

module _ (name : Identifier) (arguments : ListMeaning) (good : GoodList arguments) (v : Visible) (scope : Scope) (types : Types) (sound : IsSound v scope types) where
  with_found : (called : Called) (base : Typed) (x : Typed × Types) → IsOn base.ty types called → method_called called name.place arguments base scope types ≡ Ok x → Calls name arguments base v scope types x
  with_found called base x o h =
      let calls : method_called (on o.object o.named o.takes) name.place arguments base scope types ≡ Ok x = subst (λ (c : Called). method_called c name.place arguments base scope types ≡ Ok x) (sym o.is) h in
      let step = bound (passed kinds.WrongArguments (change_fault o.named base.category) name.place (lists.method_parameters o.takes) arguments.list scope types)
      (λ y. found_in y.1 (answered (on o.object o.named o.takes) y.1 name.place base y.0 arguments.delimiters)) x calls in
      let last = found_ok step.value.1 (answered (on o.object o.named o.takes) step.value.1 name.place base step.value.0 arguments.delimiters) x step.behind in
      record {
        object = o.object;
        named = o.named;
        takes = o.takes;
        ty = o.ty;
        has = o.has;
        y = step.value;
        passed = passed_is kinds.WrongArguments (change_fault o.named base.category) name.place (lists.method_parameters o.takes) arguments.list v scope types step.value good step.gave sound;
        is = answered_is (on o.object o.named o.takes) step.value.1 name.place base step.value.0 arguments.delimiters x.0 last.0;
        table = last.1;
      }

  method_calls : (base : Typed) (x : Typed × Types) → method_call name arguments base scope types ≡ Ok x → Calls name arguments base v scope types x
  method_calls base x e =
      let found = given_ok (called_of base.ty name scope types) (λ c. method_called c name.place arguments base scope types) x e in
      with_found found.value base x (on_is name base.ty scope types found.value found.gave) found.behind

-- what it gives, where the arguments are over the same table
module _ (q : ProgramForm) (locals : List TypedLocal) (v : Visible) (scope : Scope) (types : Types) (sound : IsSound v scope types) (final : IsFinal q locals scope types) where
  method_typed : (place : Place) (delimiters : DelimitersForm) (base : Typed) (t : Ty) (m : Method) (p : MethodParameters) (es : List Typed) (a : ExprType × Category) → base.ty ≡ Of t
      → method_parameters types t m ≡ Some p → method_answer types t (is_constant base.category) m ≡ Some a → IsTyped q locals v types base → AreExpressions q locals v.visible (forms es) → PlacesThere types es
      → misfits kinds.WrongArguments (lists.method_parameters p) types (lower_kind (change_fault m base.category) (count_fault kinds.WrongArguments (lists.method_parameters p) (length es))) 0 es ≡ None
      → IsTyped q locals v types (record { place = place; ty = a.0; category = a.1; form = method (whole base) m (forms es) delimiters })
  method_typed place delimiters base t m p es a object has gives left are places fine = record {
    is = (
      subst (λ (u : ExprType). IsCalled q.types u base.category m (forms es) (record { place = place; ty = a.0; category = a.1; form = method (whole base) m (forms es) delimiters })) (sym object) (
        faults.0,
        subst (λ (o : Option MethodParameters). are_passed q.types o (forms es) ≡ true) (sym (same_parameters types q.types final.grown t m parts ∙ has)) taken,
        same_method_answer types q.types final.grown t (is_constant base.category) m parts ∙ gives,
      ),
      left.is,
      are,
    );
    parts = there.0;
    place = there.1;
  }
    where
      parts : HasParts types t
      parts = subst (PartsThere types) object left.parts

      faults : (change_fault m base.category ≡ None) × (count_fault kinds.WrongArguments (lists.method_parameters p) (length es) ≡ None)
      faults = lower_none (change_fault m base.category) (count_fault kinds.WrongArguments (lists.method_parameters p) (length es))
          (first_none kinds.WrongArguments (lists.method_parameters p) types (lower_kind (change_fault m base.category) (count_fault kinds.WrongArguments (lists.method_parameters p) (length es))) 0 es fine)

      taken : are_taken q.types p 0 (forms es) ≡ true
      taken = all_taken kinds.WrongArguments p types q.types sound.ordered final.grown (λ n u is. parameter_there types sound.ordered t m p n u parts has is) es
          (lower_kind (change_fault m base.category) (count_fault kinds.WrongArguments (lists.method_parameters p) (length es))) places
          (count_taken kinds.WrongArguments (lists.method_parameters p) (length es) faults.1) fine

      there : IsThere types a
      there = method_there types sound.ordered t (is_constant base.category) m a parts gives

pub method_good : (name : Identifier) (arguments : ListMeaning) → GoodList arguments → GoodBehind (method_call name arguments)
method_good name arguments good v base scope types x e sound = made (method_calls name arguments good v scope types sound base x e)
  where
    made : Calls name arguments base v scope types x → IsGoodBehind v base scope types x
    made c = subst (λ (s : Types). IsGoodBehind v base scope types (x.0, s)) c.table (record {
      grown = c.passed.read.grown;
      is = λ q locals final left.
          let left_now : IsTyped q locals v c.y.1 base = typed_stays types c.y.1 c.passed.read.grown.grows q locals v base left in
          subst (IsTyped q locals v c.y.1) c.is.is (method_typed q locals v scope c.y.1 (sound_now v scope types c.y.1 sound c.passed.read.grown) final name.place arguments.delimiters base c.object c.named c.takes c.y.0 c.is.answer c.ty
          (same_parameters types c.y.1 c.passed.read.grown.grows c.object c.named (subst (PartsThere types) c.ty left.parts) ∙ c.has)
          c.is.gives
          left_now
          (subst (λ (es : List Typed). AreExpressions q locals v.visible (forms es)) (sym c.passed.read.all) (c.passed.read.are q locals final))
          (subst (PlacesThere c.y.1) (sym c.passed.read.all) (c.passed.read.places q locals final))
          c.passed.fine);
    })
