-- Expressions: what each rule of the grammar gives is well typed.
use Rattle.std.proofs.Common.{◌≡◌, ℕ, ◌+◌, Bool, true, false, Option, None, Some, List, Ok, length, slice_get, refl, sym, ap, subst, ◌∙◌, if◌then◌else◌, arith}
use Rattle.std.specs.Prelude.{nat_eq}
use Rattle.std.proofs.lemmas.Bool.{eqb-true}
use Rattle.life_types.specs.Trees.{IsOrdered}
use Rattle.life_types.specs.Types.{Types, HasType, HasParts}
use Rattle.life_types.specs.declared.place.Place.{Place}
use Rattle.life_types.specs.declared.ty.Ty.{Ty}
use Rattle.life_types.specs.declared.ty.Ty.TheVariants as ty
use Rattle.life_types.specs.declared.ty.TyId.{TyId}
use Rattle.life_tree.specs.declared.identifier.Identifier.{Identifier}
use Rattle.life_typed.specs.BaseTypes.{type_at}
use Rattle.life_typed.specs.Programs.{FunctionForm, ProgramForm}
use Rattle.life_typed.specs.Delimiters.{DelimitersForm}
use Rattle.life_typed.specs.TypedForm.{Form, Typed, call, forms, local}
use Rattle.life_typed.specs.declared.typed_program.TypedLocal.{TypedLocal}
use Rattle.life_names.specs.Checked.{Checked}
use Rattle.life_names.specs.Environment.{Scope, SignatureView}
use Rattle.life_names.specs.Found.{given}
use Rattle.life_names.specs.declared.fault.IllKind.{IllKind}
use Rattle.life_names.specs.declared.fault.IllKind.TheVariants as kinds
use Rattle.life_type_expr.specs.Expressions.{called}
use Rattle.life_type_expr.specs.Lists.{ListMeaning, Meaning, count_fault, lower_kind, misfits, parameters, passed}
use Rattle.life_type_expr.specs.Named.{function_named, local_named}
use Rattle.life_type_expr.specs.Operands.{answer_of, variable, variable_of}
use Rattle.life_well_typed.specs.Expressions.{AreExpressions, HasResult, IsMadeOf, IsVariable, are_given, parameter_types}
use Rattle.life_well_typed.specs.Visible.{Visible}
use Rattle.life_well_typed.proofs.ObjectsKept.{object_there}
use Rattle.life_typing_laws.proofs.Fitting.{arguments_given, first_none}
use Rattle.life_typing_laws.proofs.Growing.{grown_not, parts_there}
use Rattle.life_typing_laws.proofs.Operands.{answer_form, answer_stays, function_is, local_is, variable_stays}
use Rattle.life_typing_laws.proofs.Reading.{IsPassed, PlacesThere, passed_is}
use Rattle.life_typing_laws.proofs.Scopes.{sound_now}
use Rattle.life_typing_laws.proofs.Steps.{bound, given_ok, same_value}
use Rattle.life_typing_laws.proofs.Typed.{Good, GoodList, IsGood, IsTyped, PartsThere, PlaceThere}
use Rattle.life_typing_laws.specs.Sound.{HasFunction, IsFinal, IsSound}

pub ok_parts : (e : Typed) (types : Types) (x : Typed × Types) → ◌≡◌ {A = Checked Typed} (Ok (e, types)) (Ok x) → (e ≡ x.0) × (types ≡ x.1)
ok_parts e types x h = let same : ◌≡◌ {A = Typed × Types} (e, types) x = cc in (ap (λ (y : Typed × Types). y.0) same, ap (λ (y : Typed × Types). y.1) same)

-- ---- the types of variables and of results are there

variable_parts : (types : Types) (t : Ty) (id : TyId) (constant : Bool) (place : Place) (form : Form) → IsOrdered types → HasType types id → HasParts types t
    → PartsThere types (variable_of t types id constant place form).ty
variable_parts types (ty.Reference target constant_target) id constant place form ordered there parts = parts_there types target ordered parts
variable_parts types _ id constant place form ordered there parts = parts_there types id ordered there

variable_place : (types : Types) (t : Ty) (id : TyId) (constant : Bool) (place : Place) (form : Form) → HasType types id → HasParts types t
    → PlaceThere types (variable_of t types id constant place form).category
variable_place types (ty.Reference target constant_target) id constant place form there parts = parts
variable_place types _ id constant place form there parts = there

answer_parts : (types : Types) (t : Ty) (place : Place) (form : Form) → IsOrdered types → HasParts types t → PartsThere types (answer_of t types place form).ty
answer_parts types (ty.Reference target constant) place form ordered parts = parts_there types target ordered parts
answer_parts types _ place form ordered parts = parts

answer_place : (types : Types) (t : Ty) (place : Place) (form : Form) → HasParts types t → PlaceThere types (answer_of t types place form).category
answer_place types (ty.Reference target constant) place form parts = parts
answer_place types _ place form parts = tt

-- ---- what is made without operands

-- a form that has no operands, and its table
module _ (m : Meaning) (e : Typed) (gives : (scope : Scope) (types : Types) → m scope types ≡ Ok (e, types))
    (is : (p : ProgramForm) (locals : List TypedLocal) (v : Visible) (types : Types) → IsTyped p locals v types e) where
  pub alone_good : Good m
  alone_good v scope types x h sound =
      let same : ◌≡◌ {A = Typed × Types} (e, types) x = same_value (e, types) x (sym (gives scope types) ∙ h) in
      subst (IsGood v scope types) same (record { grown = grown_not types sound.ordered; is = λ p locals final. is p locals v types })

-- ---- variables

abbrev pub named : Identifier → Meaning
named name scope types = given (local_named name scope) (λ l. Ok (variable types name.place l, types))

abbrev pub IsNamed : Identifier → Scope → Types → Typed × Types → Type 0
IsNamed name scope types x = (l : ℕ × TypedLocal) × (local_named name scope ≡ Ok l) × (variable types name.place l ≡ x.0) × (types ≡ x.1)

named_is : (name : Identifier) (scope : Scope) (types : Types) (x : Typed × Types) → named name scope types ≡ Ok x → IsNamed name scope types x
named_is name scope types x e =
    let found = given_ok (local_named name scope) (λ l. Ok (variable types name.place l, types)) x e in
    let parts = ok_parts (variable types name.place found.value) types x found.behind in
    (found.value, found.gave, parts.0, parts.1)

pub name_good : (name : Identifier) → Good (named name)
name_good name v scope types x e sound =
    let n = named_is name scope types x e in
    let l = n.0 in
    let l_is = local_is name scope l n.1 in
    subst (λ (s : Types). IsGood v scope types (x.0, s)) n.3 (record {
      grown = grown_not types sound.ordered;
      is = λ p locals final.
          let there : HasType types l.1.ty = object_there types l.1.ty (sound.locals_there l.0 l.1 l_is.there) in
          let parts : HasParts types (type_at types l.1.ty) = parts_there types l.1.ty sound.ordered there in
          let stays = variable_stays types p.types final.grown l name.place x.0 there parts n.2 in
          let kept : slice_get locals l.0 ≡ Some l.1 = final.kept l.0 l.1 l_is.there in
          record {
            is = subst (IsMadeOf p locals v.visible x.0) (sym stays.0)
                (sound.visible name.id.0 l.0 l_is.means, subst (λ (o : Option TypedLocal). IsVariable p.types l.0 o x.0) (sym kept) stays.1);
            parts = subst (λ (y : Typed). PartsThere types y.ty) n.2 (variable_parts types (type_at types l.1.ty) l.1.ty l.1.constant name.place (local l.0) sound.ordered there parts);
            place = subst (λ (y : Typed). PlaceThere types y.category) n.2 (variable_place types (type_at types l.1.ty) l.1.ty l.1.constant name.place (local l.0) there parts);
          };
    })

-- ---- calls

abbrev behind_passed : Place → ℕ × SignatureView → DelimitersForm → List Typed × Types → Checked Typed
behind_passed place f delimiters y = Ok (answer_of (type_at y.1 f.1.result) y.1 place (call f.0 (forms y.0) delimiters), y.1)

-- a call whose arguments were passed
pub record IsCalled (name : Identifier) (arguments : ListMeaning) (v : Visible) (scope : Scope) (types : Types) (x : Typed × Types) : Type 0 where
  pub f : ℕ × SignatureView
  pub there : slice_get scope.functions f.0 ≡ Some f.1
  pub y : List Typed × Types
  pub passed : IsPassed v kinds.WrongArguments None (parameters f.1.parameters) scope types y
  pub is : answer_of (type_at y.1 f.1.result) y.1 name.place (call f.0 (forms y.0) arguments.delimiters) ≡ x.0
  pub table : y.1 ≡ x.1

abbrev pub call_of : Identifier → ListMeaning → Meaning
call_of name arguments scope types = given (function_named name scope) (λ f. called name.place arguments f scope types)

called_is : (name : Identifier) (arguments : ListMeaning) (v : Visible) (scope : Scope) (types : Types) (x : Typed × Types) → GoodList arguments → call_of name arguments scope types ≡ Ok x → IsSound v scope types
    → IsCalled name arguments v scope types x
called_is name arguments v scope types x good e sound =
    let found = given_ok (function_named name scope) (λ f. called name.place arguments f scope types) x e in
    let step = bound (passed kinds.WrongArguments None name.place (parameters found.value.1.parameters) arguments.list scope types) (behind_passed name.place found.value arguments.delimiters) x found.behind in
    let parts = ok_parts (answer_of (type_at step.value.1 found.value.1.result) step.value.1 name.place (call found.value.0 (forms step.value.0) arguments.delimiters)) step.value.1 x step.behind in
    record {
      f = found.value;
      there = function_is name scope found.value found.gave;
      y = step.value;
      passed = passed_is kinds.WrongArguments None name.place (parameters found.value.1.parameters) arguments.list v scope types step.value good step.gave sound;
      is = parts.0;
      table = parts.1;
    }

-- as many arguments as there are parameters
count_is : (ids : List TyId) (n : ℕ) → count_fault kinds.WrongArguments (parameters ids) n ≡ None → n ≡ length ids
count_is ids n e = go (nat_eq n (length ids)) refl e
  where
    go : (b : Bool) → nat_eq n (length ids) ≡ b → ◌≡◌ {A = Option IllKind} (if b then None else Some kinds.WrongArguments) None → n ≡ length ids
    go true same e = eqb-true n (length ids) same
    go false same e = absurd (cc)

-- over the table behind its arguments
module _ (p : ProgramForm) (locals : List TypedLocal) (v : Visible) (scope : Scope) (types : Types) (sound : IsSound v scope types) (final : IsFinal p locals scope types) where
  called_typed : (n : ℕ) (s : SignatureView) (place : Place) (es : List Typed) (delimiters : DelimitersForm) (x : Typed) → slice_get scope.functions n ≡ Some s
      → AreExpressions p locals v.visible (forms es) → PlacesThere types es
      → misfits kinds.WrongArguments (parameters s.parameters) types (lower_kind None (count_fault kinds.WrongArguments (parameters s.parameters) (length es))) 0 es ≡ None
      → answer_of (type_at types s.result) types place (call n (forms es) delimiters) ≡ x → IsTyped p locals v types x
  called_typed n s place es delimiters x here are places fine answered = record {
    is = subst (IsMadeOf p locals v.visible x) (sym form_is) (
      subst (λ (o : Option FunctionForm). HasResult p.types o x) (sym has.there) (subst (λ (id : TyId). x ≡ answer_of (type_at p.types id) p.types x.place x.form) (sym has.result) answer),
      subst (λ (o : Option FunctionForm). are_given p.types (parameter_types o) (forms es) ≡ true) (sym has.there)
          (subst (λ (ids : List TyId). are_given p.types ids (forms es) ≡ true) (sym has.parameters) given_all),
      are,
    );
    parts = subst (λ (y : Typed). PartsThere types y.ty) answered (answer_parts types (type_at types s.result) place (call n (forms es) delimiters) sound.ordered result_parts);
    place = subst (λ (y : Typed). PlaceThere types y.category) answered (answer_place types (type_at types s.result) place (call n (forms es) delimiters) result_parts);
  }
    where
      has : HasFunction p n s
      has = final.functions n s here

      form_is : x.form ≡ call n (forms es) delimiters
      form_is = subst (λ (z : Typed). z.form ≡ call n (forms es) delimiters) answered (answer_form types (type_at types s.result) place (call n (forms es) delimiters))

      result_there : HasType types s.result
      result_there = sound.results_there n s here

      result_parts : HasParts types (type_at types s.result)
      result_parts = parts_there types s.result sound.ordered result_there

      answer : x ≡ answer_of (type_at p.types s.result) p.types x.place x.form
      answer = answer_stays types p.types final.grown s.result place (call n (forms es) delimiters) x result_there result_parts answered

      count : length es ≡ length s.parameters
      count = count_is s.parameters (length es) (first_none kinds.WrongArguments (parameters s.parameters) types (count_fault kinds.WrongArguments (parameters s.parameters) (length es)) 0 es fine)

      given_all : are_given p.types s.parameters (forms es) ≡ true
      given_all = arguments_given kinds.WrongArguments s.parameters types p.types sound.ordered final.grown s.parameters es 0 (count_fault kinds.WrongArguments (parameters s.parameters) (length es))
          (sound.parameters_there n s here) (λ k. let none_more : 0 + k ≡ k = omega arith in ap (slice_get s.parameters) none_more) count places fine

pub call_good : (name : Identifier) (arguments : ListMeaning) → GoodList arguments → Good (call_of name arguments)
call_good name arguments good v scope types x e sound =
    let c = called_is name arguments v scope types x good e sound in
    subst (λ (s : Types). IsGood v scope types (x.0, s)) c.table (record {
      grown = c.passed.read.grown;
      is = λ p locals final.
          called_typed p locals v scope c.y.1 (sound_now v scope types c.y.1 sound c.passed.read.grown) final c.f.0 c.f.1 name.place c.y.0 arguments.delimiters x.0 c.there
          (subst (λ (es : List Typed). AreExpressions p locals v.visible (forms es)) (sym c.passed.read.all) (c.passed.read.are p locals final))
          (subst (PlacesThere c.y.1) (sym c.passed.read.all) (c.passed.read.places p locals final)) c.passed.fine c.is;
    })
