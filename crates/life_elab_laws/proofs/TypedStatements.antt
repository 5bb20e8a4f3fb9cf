-- A well typed statement is of the kinds that are written: each expression in it is, where it stands.
use Rattle.std.proofs.Common.{◌≡◌, inl, inr, ℕ, Bool, true, false, ◌&&◌, List, Option, Some, None, refl, sym, ap, ◌∙◌, slice_get}
use Rattle.std.proofs.lemmas.Bool.{and_from, false≢true, or_cases}
use Rattle.life_types.specs.Types.{HasEachOnce, Types}
use Rattle.life_types.specs.declared.ty.Ty.{Ty}
use Rattle.life_types.specs.declared.ty.Ty.TheVariants as ty
use Rattle.life_types.specs.declared.ty.TyId.{TyId}
use Rattle.life_elab_laws.proofs.FormKinds.{is_read_condition, is_read_condition_if}
use Rattle.life_elab_laws.proofs.StatementKinds.{is_read_declaration, is_read_declared, is_read_initial, is_read_range, is_read_returned, is_read_simple, is_read_start, is_read_statement, is_read_step}
use Rattle.life_elab_laws.proofs.TypeKinds.{takes_elements, is_void_type}
use Rattle.life_typed.specs.BaseTypes.{type_at}
use Rattle.life_typed.specs.Conversions.{is_const_place}
use Rattle.life_typed.specs.Programs.{ProgramForm}
use Rattle.life_typed.specs.Statements.{range_element}
use Rattle.life_typed.specs.TypedForm.{Form, Typed, forms, local, paren, typed, whole}
use Rattle.life_typed.specs.TypedStatement.{StmtForm, DeclarationForm, ForStartForm, InitialForm, SimpleForm, one, several, assign, compound, step, discarded, declared_first, done_first, block, empty, sentence, branching, while_loop, for_loop, range_loop, loop_break, loop_continue, returned, print, assertion, branch, declaration, no_more, chain}
use Rattle.life_typed.specs.declared.basic.TheConstants.{CHAR}
use Rattle.life_typed.specs.declared.typed_expr.ExprType.TheVariants.{Of}
use Rattle.life_typed.specs.declared.typed_program.TypedLocal.{TypedLocal}
use Rattle.life_type_stmt.specs.Returns.{moves_out}
use Rattle.life_type_stmt.specs.Simples.{named_in}
use Rattle.life_well_typed.specs.Expressions.{IsExpression, IsMadeOf}
use Rattle.life_well_typed.specs.Given.{is_given}
use Rattle.life_well_typed.specs.Statements.{AreBranches, IsDeclaration, IsGiven, IsInitialised, IsReturned, IsSimple, IsSimpleIfAny, IsStart, IsStatement, named_local}
use Rattle.life_well_typed.specs.Visible.{Visible, after, after_start, with_next}
use Rattle.life_elab_laws.proofs.KnownTypes.{admits_some}
use Rattle.life_elab_laws.proofs.TypedActs.{assigned_read, compounded_read, decides_if_read, decides_read, items_read, returned_read, stepped_read}
use Rattle.life_elab_laws.proofs.TypedDoings.{alone_read, variable_stands}
use Rattle.life_elab_laws.proofs.TypedFits.{taken_some}
use Rattle.life_elab_laws.proofs.TypedKinds.{none_some, ok_same}
use Rattle.life_elab_laws.proofs.TypedRanges.{range_read}
use Rattle.life_elab_laws.proofs.TypedReadings.{is_known}
use Rattle.life_elab_laws.proofs.TypedSimples.{HasReadings, Read, given_read, listed_read, read, taken}

module _ (p : ProgramForm) (locals : List TypedLocal) (result : TyId) (texts : ℕ) (r : HasReadings p locals texts)
    (once : HasEachOnce p.types) (known : (i : TyId) → is_known p.types (Of (type_at p.types i)) ≡ true) (chars : type_at p.types CHAR ≡ ty.Char) where
  abbrev types : Types
  types = p.types

  -- ---- simple statements

  pub simple_read : (visible : List ℕ) (it : SimpleForm) → IsSimple p locals result visible it → is_read_simple texts p it ≡ true
  simple_read visible (assign target equals value) h = assigned_read p locals result texts r visible target value h.0 h.1
  simple_read visible (compound target o place e) h = compounded_read p locals result texts r visible target o e h.0 h.1 (read p locals texts r visible e h.2)
  simple_read visible (step target o place) h = stepped_read p locals result texts r visible target h.0 (read p locals texts r visible target h.1.1)
  simple_read visible (discarded e) h = alone_read p locals result texts r visible e h

  step_read : (visible : List ℕ) (it : Option SimpleForm) → IsSimpleIfAny p locals result visible it → is_read_step texts p it ≡ true
  step_read visible None h = refl
  step_read visible (Some it) h = simple_read visible it h

  -- ---- declarations

  initial_read : (visible : List ℕ) (t : Ty) (value : InitialForm) → is_known types (Of t) ≡ true → IsGiven p locals result visible t value → is_read_initial texts p t (Some value) ≡ true
  initial_read visible t (one e) known h = given_read p locals texts r visible t e known h.0 (read p locals texts r visible e h.1)
  initial_read visible t (several list) known h = listed_read p locals texts r visible t (forms list.elements) known h.0 h.1

  declared_read : (visible : List ℕ) (v : Option TypedLocal) (value : Option InitialForm) → IsInitialised p locals result visible v value → is_read_declared texts p v value ≡ true
  declared_read visible None value h = refl
  declared_read visible (Some v) None h = refl
  declared_read visible (Some v) (Some value) h = initial_read visible (type_at types v.ty) value (known v.ty) h

  declaration_read : (d : DeclarationForm) (v : Visible) → IsDeclaration p locals result d v → is_read_declaration texts p locals d ≡ true
  declaration_read d v h = declared_read v.visible (slice_get locals d.local) d.value h.1

  start_read : (start : Option ForStartForm) (v : Visible) → IsStart p locals result start v → is_read_start texts p locals start ≡ true
  start_read None v h = refl
  start_read (Some (declared_first d)) v h = declaration_read d v h
  start_read (Some (done_first it)) v h = simple_read v.visible it h

  -- ---- what is given back

  module _ (visible : List ℕ) where
    -- what is named isn't void
    named_some : (form : Form) (e : Typed) → Read p locals texts r visible e → IsMadeOf p locals visible e form → (x : ℕ) → named_in form ≡ Some x → is_void_type e.ty ≡ false
    named_some (local y) e k h x at =
        let stands = variable_stands types y (slice_get locals y) e h.1 in
        let found = k.place stands.0 stands.1 stands.2 in
        ap is_void_type found.0 ∙ admits_some types (type_at types stands.0) found.1
    named_some (paren (typed place t c form) closing) e k h x at =
        let inner : Typed = record { place = place; ty = t; category = c; form = form } in
        ap (λ (y : Typed). is_void_type y.ty) (sym (ok_same h.0)) ∙ named_some form inner (r.reads visible (whole inner) h.1) h.1 x at
    named_some (paren _ closing) e k h x at = absurd h.1
    named_some (typed place t c form) e k h x at = absurd h
    named_some _ e k h x at = absurd (none_some at)

    out_some : (e : Typed) → IsExpression p locals visible (whole e) → moves_out (type_at types result) result (named_local locals (named_in e.form)) ≡ true → is_void_type e.ty ≡ false
    out_some e h moves = go (named_in e.form) refl moves
      where
        unnamed : (t : Ty) → moves_out t result None ≡ true → ⊥
        unnamed (ty.Unique target) m = false≢true m
        unnamed _ m = false≢true m

        go : (n : Option ℕ) → named_in e.form ≡ n → moves_out (type_at types result) result (named_local locals n) ≡ true → is_void_type e.ty ≡ false
        go None at m = absurd (unnamed (type_at types result) m)
        go (Some x) at m = named_some e.form e (read p locals texts r visible e h) h x at

    back_read : (value : Option Typed) → IsReturned p locals result visible value → is_read_returned texts p value ≡ true
    back_read None h = refl
    back_read (Some e) h =
        let k = read p locals texts r visible e h.2 in
        returned_read p locals result texts r visible e (elim (or_cases (moves_out (type_at types result) result (named_local locals (named_in e.form))) (is_given types (type_at types result) e) h.1) [
          | inl moves ↦ out_some e h.2 moves
          | inr given ↦ taken_some (type_at types result) e.ty e.category (taken p locals texts r visible (type_at types result) e (known result) given k)
        ]) k

  -- ---- statements

  mutual
    pub statement_read : (s : StmtForm) (in_loop : Bool) (v : Visible) → IsStatement p locals result s in_loop v → is_read_statement texts p locals s ≡ true
    statement_read (block items closing) in_loop v h = statement_read items in_loop v h
    statement_read (empty place) in_loop v h = refl
    statement_read (sentence it semicolon) in_loop v h = simple_read v.visible it h
    statement_read (branching branches last) in_loop v h =
        and_from (is_read_statement texts p locals branches) (is_read_statement texts p locals last) (branches_read branches in_loop v h.0) (statement_read last in_loop (after branches v) h.2)
    statement_read (while_loop keyword decides closing body) in_loop v h =
        and_from (is_read_condition texts p decides) (is_read_statement texts p locals body) (decides_read p locals result texts r v.visible decides h.0) (statement_read body true v h.2)
    statement_read (for_loop keyword start first decides second stepping closing body) in_loop v h =
        let w = after_start start v in
        and_from (is_read_start texts p locals start) (is_read_condition_if texts p decides && (is_read_step texts p stepping && is_read_statement texts p locals body)) (start_read start v h.0)
        (and_from (is_read_condition_if texts p decides) (is_read_step texts p stepping && is_read_statement texts p locals body) (decides_if_read p locals result texts r w.visible decides h.1)
        (and_from (is_read_step texts p stepping) (is_read_statement texts p locals body) (step_read w.visible stepping h.2) (statement_read body true w h.4)))
    statement_read (range_loop keyword x name colon range closing body) in_loop v h =
        let of = range_read p locals result texts r v.visible chars once known x range (read p locals texts r v.visible range h.0.2) h.0.1 in
        and_from (is_read_range texts p range) (takes_elements types (slice_get locals x) (range_element range.ty (is_const_place range.category)) && is_read_statement texts p locals body) of.0
        (and_from (takes_elements types (slice_get locals x) (range_element range.ty (is_const_place range.category))) (is_read_statement texts p locals body) of.1 (statement_read body true (with_next v) h.2))
    statement_read (loop_break keyword semicolon) in_loop v h = refl
    statement_read (loop_continue keyword semicolon) in_loop v h = refl
    statement_read (returned keyword value semicolon) in_loop v h = back_read v.visible value h
    statement_read (print items semicolon) in_loop v h = items_read p locals result texts r v.visible items h
    statement_read (assertion keyword decides closing semicolon) in_loop v h = decides_read p locals result texts r v.visible decides h
    statement_read (branch keyword decides closing body) in_loop v h = absurd h
    statement_read (declaration d semicolon) in_loop v h = declaration_read d v h
    statement_read no_more in_loop v h = refl
    statement_read (chain first others) in_loop v h =
        and_from (is_read_statement texts p locals first) (is_read_statement texts p locals others) (statement_read first in_loop v h.0) (statement_read others in_loop (after first v) h.1)

    branches_read : (s : StmtForm) (in_loop : Bool) (v : Visible) → AreBranches p locals result s in_loop v → is_read_statement texts p locals s ≡ true
    branches_read (chain (branch keyword decides closing body) others) in_loop v h =
        and_from (is_read_condition texts p decides && is_read_statement texts p locals body) (is_read_statement texts p locals others)
        (and_from (is_read_condition texts p decides) (is_read_statement texts p locals body) (decides_read p locals result texts r v.visible decides h.0) (statement_read body in_loop v h.2))
        (branches_read others in_loop (after (branch keyword decides closing body) v) h.3)
    branches_read no_more in_loop v h = refl
    branches_read _ in_loop v h = absurd h
