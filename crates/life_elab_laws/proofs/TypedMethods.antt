-- How calls of member functions are read.
use Rattle.std.proofs.Common.{◌≡◌, ℕ, nat_eq, Bool, true, false, ◌&&◌, ◌||◌, refl, sym, ap, ◌∙◌, subst, Option, Some, None, if◌then◌else◌}
use Rattle.std.proofs.lemmas.Bool.{and_from, or_left, or_right}
use Rattle.life_types.specs.TypeTests.{is_value}
use Rattle.life_types.specs.declared.ty.Ty.{Ty}
use Rattle.life_types.specs.declared.ty.Ty.TheVariants as ty
use Rattle.life_types.specs.declared.ty.TyId.{TyId}
use Rattle.life_typed.specs.BaseTypes.{type_at}
use Rattle.life_typed.specs.Delimiters.{DelimitersForm}
use Rattle.life_typed.specs.Members.{of_two, parameter}
use Rattle.life_typed.specs.Programs.{ProgramForm}
use Rattle.life_typed.specs.TypedForm.{Form, Typed, method}
use Rattle.life_typed.specs.declared.members.MethodParameters.{MethodParameters}
use Rattle.life_typed.specs.declared.members.MethodParameters.TheVariants as parameters
use Rattle.life_typed.specs.declared.typed_expr.Category.{Category}
use Rattle.life_typed.specs.declared.typed_expr.Category.TheVariants as category
use Rattle.life_typed.specs.declared.typed_expr.ExprType.{ExprType}
use Rattle.life_typed.specs.declared.typed_expr.ExprType.TheVariants.{NullPointer, Of, TextLiteral}
use Rattle.life_typed.specs.declared.typed_expr.Method.{Method}
use Rattle.life_typed.specs.declared.typed_expr.Method.TheVariants as methods
use Rattle.life_type_expr.specs.Operands.{is_constant}
use Rattle.life_well_typed.specs.Members.{IsCalled, are_taken, typed_in}
use Rattle.life_elab_laws.proofs.FormKinds.{is_asking, is_edge, is_end, is_erase, is_get, is_read_form, is_read_owner, is_read_unique, is_read_walker, is_subspan}
use Rattle.life_elab_laws.proofs.TypeKinds.{form_type, is_owner_type, is_plain_type, is_unique_type, is_walker_type, is_void_type}
use Rattle.life_elab_laws.proofs.ElementForms.{operand_typed}
use Rattle.life_elab_laws.proofs.Elements.{element_target}
use Rattle.life_elab_laws.proofs.KnownTypes.{is_known_type, iterator_known, raw_known, unique_element, vector_element}
use Rattle.life_elab_laws.proofs.TypedKinds.{none_some, some_same}
use Rattle.life_elab_laws.proofs.TypedOperands.{IsRanged, IsReadOperand, is_either, ranged_read, ranges_owner, ranges_value, ranges_walker}
use Rattle.life_elab_laws.proofs.TypedReadings.{IsRead, behind_read, is_known, nothing_read, number_read, plain_read, walker_read}

-- each parameter takes a value
abbrev pub TakesValues : MethodParameters → Type 0
TakesValues p = (n : ℕ) (t : Ty) → parameter p n ≡ Some t → is_value t ≡ true

takes_nothing : TakesValues parameters.None
takes_nothing n t at = absurd (none_some at)

-- two numbers
two_sizes : (n : ℕ) (t : Ty) → of_two n (Some ty.Size) (Some ty.Size) ≡ Some t → is_value t ≡ true
two_sizes n t at = go (nat_eq n 0) (nat_eq n 1) at
  where
    go : (b c : Bool) → (if b then Some ty.Size else (if c then Some ty.Size else None)) ≡ Some t → is_value t ≡ true
    go true c at = subst (λ (u : Ty). is_value u ≡ true) (some_same at) refl
    go false true at = subst (λ (u : Ty). is_value u ≡ true) (some_same at) refl
    go false false at = absurd (none_some at)

module _ (texts : ℕ) (program : ProgramForm) (base : Form) (is : IsReadOperand texts program base) (arguments : Form) (delimiters : DelimitersForm)
    -- what is given to parameters that take values has one, and what is given to one that takes an iterator is one
    (values : (p : MethodParameters) → TakesValues p → are_taken program.types p 0 arguments ≡ true → is_read_form texts program arguments ≡ true)
    (position : (item : TyId) → is_known_type program.types (ty.Iterator item true) ≡ true → are_taken program.types (parameters.One (ty.Iterator item true)) 0 arguments ≡ true → is_read_walker texts program arguments ≡ true) (e : Typed) where
  abbrev T : ExprType
  T = (typed_in base).ty

  abbrev Reads : Method → Type 0
  Reads m = IsRead texts program e.ty e.category (method base m arguments delimiters)

  abbrev is_ranged : Bool
  is_ranged = is_either texts program base || is_read_walker texts program base

  abbrev is_owning : Bool
  is_owning = is_owner_type (form_type base) && is_read_owner texts program base

  abbrev Made : Ty → Type 0
  Made t = ◌≡◌ {A = Option (ExprType × Category)} (Some (Of t, category.Value)) (Some (e.ty, e.category))

  made_type : (t : Ty) → Made t → e.ty ≡ Of t
  made_type t h = sym (ap (λ (x : ExprType × Category). x.0) (some_same h))

  made_value : (t : Ty) → Made t → e.category ≡ category.Value
  made_value t h = sym (ap (λ (x : ExprType × Category). x.1) (some_same h))

  -- ---- the ways in which one is read

  asked : (m : Method) → is_asking m ≡ true → IsRanged T → is_read_form texts program arguments ≡ true → is_read_form texts program (method base m arguments delimiters) ≡ true
  asked m asks ranged given =
      or_left (is_asking m && (is_ranged && is_read_form texts program arguments)) (is_get m && is_read_unique texts program base)
      (and_from (is_asking m) (is_ranged && is_read_form texts program arguments) asks (and_from is_ranged (is_read_form texts program arguments) (ranged_read texts program base is ranged) given))

  owning : is_owner_type T ≡ true → is_owning ≡ true
  owning n = and_from (is_owner_type (form_type base)) (is_read_owner texts program base) (sym (ap is_owner_type (operand_typed base)) ∙ n) (is.owner n)

  -- a number
  counts : (m : Method) (t : Ty) → is_value t ≡ true → is_asking m ≡ true → IsRanged T → are_taken program.types parameters.None 0 arguments ≡ true → Made t → Reads m
  counts m t v asks ranged given h = number_read texts program t e.ty e.category (method base m arguments delimiters) v (made_type t h) (made_value t h) (asked m asks ranged (values parameters.None takes_nothing given))

  -- nothing
  changes : (m : Method) → Made ty.Void → Reads m
  changes m h = nothing_read texts program e.ty e.category (method base m arguments delimiters) (made_type ty.Void h) (made_value ty.Void h)

  -- the first or the last element
  edge : (m : Method) (item : TyId) (constant : Bool) → T ≡ Of (ty.Vector item) → is_edge m ≡ true → is_asking m ≡ true → are_taken program.types parameters.None 0 arguments ≡ true
      → ◌≡◌ {A = Option (ExprType × Category)} (Some (Of (type_at program.types item), category.Place item constant)) (Some (e.ty, e.category)) → Reads m
  edge m item constant same edges asks given h =
      behind_read texts program e.ty e.category (method base m arguments delimiters)
      (record {
        id = item;
        constant = constant;
        at = sym (ap (λ (x : ExprType × Category). x.1) (some_same h));
        typed = sym (ap (λ (x : ExprType × Category). x.0) (some_same h));
        worth = element_target program.types (type_at program.types item) (vector_element program.types item (sym (ap (is_known program.types) same) ∙ is.known));
      })
      (asked m asks (ranges_owner (ap is_owner_type same)) (values parameters.None takes_nothing given))
      reached reached reached
    where
      reached : (is_edge m && is_owning) ≡ true
      reached = and_from (is_edge m) is_owning edges (owning (ap is_owner_type same))

  -- the ways in which one gives an iterator or a span
  abbrev ends : Method → Bool
  ends m = is_end m && is_owning

  abbrev parts : Method → Bool
  parts m = is_subspan m && (is_read_walker texts program base && is_read_form texts program arguments)

  abbrev erases : Method → Bool
  erases m = is_erase m && (is_owner_type (form_type base) && (is_read_owner texts program base && is_read_walker texts program arguments))

  iterates : (m : Method) (item : TyId) (constant : Bool) → T ≡ Of (ty.Vector item) → Made (ty.Iterator item constant) → (ends m || (parts m || erases m)) ≡ true → Reads m
  iterates m item constant same h admits =
      walker_read texts program (ty.Iterator item constant) e.ty e.category (method base m arguments delimiters) refl
      (iterator_known program.types item constant (vector_element program.types item (sym (ap (is_known program.types) same) ∙ is.known)))
      (made_type (ty.Iterator item constant) h) (made_value (ty.Iterator item constant) h) admits

  -- ---- by the type that is asked

  of_vector : (item : TyId) → T ≡ Of (ty.Vector item) → (m : Method) → IsCalled program.types (Of (ty.Vector item)) (typed_in base).category m arguments e → Reads m
  of_vector item same methods.Size h = counts methods.Size ty.Size refl refl (ranges_owner (ap is_owner_type same)) h.1 h.2
  of_vector item same methods.Empty h = counts methods.Empty ty.Bool refl refl (ranges_owner (ap is_owner_type same)) h.1 h.2
  of_vector item same methods.Front h = edge methods.Front item (is_constant (typed_in base).category) same refl refl h.1 h.2
  of_vector item same methods.Back h = edge methods.Back item (is_constant (typed_in base).category) same refl refl h.1 h.2
  of_vector item same methods.Begin h =
      iterates methods.Begin item (is_constant (typed_in base).category) same h.2 (or_left (ends methods.Begin) (parts methods.Begin || erases methods.Begin) (owning (ap is_owner_type same)))
  of_vector item same methods.End h =
      iterates methods.End item (is_constant (typed_in base).category) same h.2 (or_left (ends methods.End) (parts methods.End || erases methods.End) (owning (ap is_owner_type same)))
  of_vector item same methods.PushBack h = changes methods.PushBack h.2
  of_vector item same methods.PopBack h = changes methods.PopBack h.2
  of_vector item same methods.Clear h = changes methods.Clear h.2
  of_vector item same methods.Reserve h = changes methods.Reserve h.2
  of_vector item same methods.Erase h =
      iterates methods.Erase item false same h.2
      (or_right (ends methods.Erase) (parts methods.Erase || erases methods.Erase)
      (or_right (parts methods.Erase) (erases methods.Erase)
      (and_from (is_owner_type (form_type base)) (is_read_owner texts program base && is_read_walker texts program arguments) (sym (ap is_owner_type (operand_typed base)) ∙ ap is_owner_type same)
      (and_from (is_read_owner texts program base) (is_read_walker texts program arguments) (is.owner (ap is_owner_type same)) (position item (iterator_known program.types item true (vector_element program.types item (sym (ap (is_known program.types) same) ∙ is.known))) h.1)))))
  of_vector item same _ h = absurd (none_some h.2)

  of_text : T ≡ Of ty.Text → (m : Method) → IsCalled program.types (Of ty.Text) (typed_in base).category m arguments e → Reads m
  of_text same methods.Size h = counts methods.Size ty.Size refl refl (ranges_owner (ap is_owner_type same)) h.1 h.2
  of_text same methods.Empty h = counts methods.Empty ty.Bool refl refl (ranges_owner (ap is_owner_type same)) h.1 h.2
  of_text same methods.PushBack h = changes methods.PushBack h.2
  of_text same methods.Clear h = changes methods.Clear h.2
  of_text same _ h = absurd (none_some h.2)

  of_unique : (target : TyId) → T ≡ Of (ty.Unique target) → (m : Method) → IsCalled program.types (Of (ty.Unique target)) (typed_in base).category m arguments e → Reads m
  of_unique target same methods.Get h =
      plain_read texts program e.ty e.category (method base methods.Get arguments delimiters)
      (ap is_plain_type (made_type (ty.Raw target false) h.2))
      (ap (is_known program.types) (made_type (ty.Raw target false) h.2) ∙ raw_known program.types target false (element_target program.types (type_at program.types target) (unique_element program.types target (sym (ap (is_known program.types) same) ∙ is.known))))
      (made_value (ty.Raw target false) h.2)
      (is.unique (ap is_unique_type same))
  of_unique target same methods.Reset h = changes methods.Reset h.2
  of_unique target same _ h = absurd (none_some h.2)

  of_span : (item : TyId) (constant : Bool) → T ≡ Of (ty.Span item constant) → (m : Method) → IsCalled program.types (Of (ty.Span item constant)) (typed_in base).category m arguments e → Reads m
  of_span item constant same methods.Size h = counts methods.Size ty.Size refl refl (ranges_walker (ap is_walker_type same)) h.1 h.2
  of_span item constant same methods.Empty h = counts methods.Empty ty.Bool refl refl (ranges_walker (ap is_walker_type same)) h.1 h.2
  of_span item constant same methods.Subspan h =
      walker_read texts program (ty.Span item constant) e.ty e.category (method base methods.Subspan arguments delimiters) refl (sym (ap (is_known program.types) same) ∙ is.known)
      (made_type (ty.Span item constant) h.2) (made_value (ty.Span item constant) h.2)
      (or_left (parts methods.Subspan) (erases methods.Subspan)
      (and_from (is_read_walker texts program base) (is_read_form texts program arguments) (is.walker (ap is_walker_type same)) (values (parameters.Two ty.Size ty.Size) two_sizes h.1)))
  of_span item constant same _ h = absurd (none_some h.2)

  viewed : T ≡ Of ty.View → IsRanged T
  viewed same = ranges_value (record { plain = ap is_plain_type same; some = ap is_void_type same })

  of_view : T ≡ Of ty.View → (m : Method) → IsCalled program.types (Of ty.View) (typed_in base).category m arguments e → Reads m
  of_view same methods.Size h = counts methods.Size ty.Size refl refl (viewed same) h.1 h.2
  of_view same methods.Empty h = counts methods.Empty ty.Bool refl refl (viewed same) h.1 h.2
  of_view same methods.Substr h =
      plain_read texts program e.ty e.category (method base methods.Substr arguments delimiters)
      (ap is_plain_type (made_type ty.View h.2))
      (ap (is_known program.types) (made_type ty.View h.2))
      (made_value ty.View h.2)
      (asked methods.Substr refl (viewed same) (values (parameters.OneOrTwo ty.Size ty.Size) two_sizes h.1))
  of_view same _ h = absurd (none_some h.2)

  pub method_read : (m : Method) → IsCalled program.types T (typed_in base).category m arguments e → Reads m
  method_read m h = go T refl h
    where
      go : (t : ExprType) → T ≡ t → IsCalled program.types t (typed_in base).category m arguments e → Reads m
      go (Of (ty.Vector item)) same h = of_vector item same m h
      go (Of ty.Text) same h = of_text same m h
      go (Of (ty.Unique target)) same h = of_unique target same m h
      go (Of (ty.Span item constant)) same h = of_span item constant same m h
      go (Of ty.View) same h = of_view same m h
      go (Of _) same h = absurd (none_some h.2)
      go NullPointer same h = absurd h
      go TextLiteral same h = absurd h
