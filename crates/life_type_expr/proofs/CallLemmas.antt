-- Calls and lists in braces, where their expressions are read.
use Rattle.std.proofs.Common.{◌≡◌, ℕ, List, Option, None, Result, Ok, refl, sym, ap, ◌∙◌, map}
use Rattle.life_types.specs.Types.{Types}
use Rattle.life_types.specs.declared.place.Place.{Place}
use Rattle.life_types.specs.declared.ty.Ty.{Ty}
use Rattle.life_types.specs.declared.ty.Ty.TheVariants as ty
use Rattle.life_types.specs.declared.ty.TyId.{TyId}
use Rattle.life_tree.specs.declared.expr.Arguments.{Arguments, out-Arguments}
use Rattle.life_tree.specs.declared.expr.InitList.{InitList, out-InitList}
use Rattle.life_tree.specs.declared.identifier.Identifier.{Identifier}
use Rattle.life_tree.specs.declared.type_name.TypeArgument.{TypeArgument}
use Rattle.life_typed.specs.BaseTypes.{type_at}
use Rattle.life_typed.specs.Delimiters.{DelimitersForm}
use Rattle.life_typed.specs.TypedForm.{Typed, call, construct, forms, make_unique, optional_form}
use Rattle.life_typed.specs.TypedStatement.{ListForm}
use Rattle.life_typed.specs.declared.typed_expr.ExprType.{ExprType}
use Rattle.life_names.specs.Checked.{Checked, ◌>>=◌, Fails, Gives}
use Rattle.life_names.specs.Environment.{Scope, SignatureView, StructureView}
use Rattle.life_type_expr.specs.Expressions.{arguments_meaning, called, constructed, expr_meaning, first_of, init_list_meaning, unique_made}
use Rattle.life_names.specs.Found.{Finds, Misses, found_in, given}
use Rattle.life_type_expr.specs.Lists.{ListMeaning, Meaning, Targets, braced, list_for, list_targets, members, method_parameters, optional, parameters, passed}
use Rattle.life_type_expr.specs.Members.{answered, called_of, change_fault, method_call, method_called}
use Rattle.life_type_expr.specs.Operands.{answer_of, value}
use Rattle.life_names.specs.WrittenTypes.{made_element}
use Rattle.life_names.specs.declared.fault.IllFault.{IllFault}
use Rattle.life_names.specs.declared.fault.IllKind.{IllKind}
use Rattle.life_names.specs.declared.fault.IllKind.TheVariants as kinds
use Rattle.life_type_expr.specs.declared.members.Called.{Called}
use Rattle.life_type_expr.proofs.Meanings.{arguments_made, init_list_made}
use Rattle.life_names.proofs.Steps.{bind_fails, bind_goes, found_gives, given_fails, given_goes}

-- ---- what arguments and lists are made of

pub listed : (a : Arguments) → (arguments_meaning a).list ≡ map expr_meaning (out-Arguments a).list.items
listed a = ap (λ (l : ListMeaning). l.list) (arguments_made a)

pub closed : (a : Arguments) → (arguments_meaning a).delimiters.closing ≡ (out-Arguments a).closing
closed a = ap (λ (l : ListMeaning). l.delimiters.closing) (arguments_made a)

-- these tokens stand behind its parts
made_of : (closing : Place) (d : DelimitersForm) (commas items : List Place) → d ≡ record { commas = commas; closing = closing } → commas ≡ items → record { commas = items; closing = closing } ≡ d
made_of closing d commas items made same = sym (made ∙ ap (λ (cs : List Place). (let r : DelimitersForm = record { commas = cs; closing = closing } in r)) same)

pub delimited : (a : Arguments) (d : DelimitersForm) (commas : List Place) → d ≡ record { commas = commas; closing = (out-Arguments a).closing } → commas ≡ (out-Arguments a).commas.items → (arguments_meaning a).delimiters ≡ d
delimited a d commas made same = ap (λ (l : ListMeaning). l.delimiters) (arguments_made a) ∙ made_of (out-Arguments a).closing d commas (out-Arguments a).commas.items made same

pub list_listed : (l : InitList) → (init_list_meaning l).list ≡ map expr_meaning (out-InitList l).list.items
list_listed l = ap (λ (m : ListMeaning). m.list) (init_list_made l)

pub list_opened : (l : InitList) → (init_list_meaning l).opening ≡ (out-InitList l).opening
list_opened l = ap (λ (m : ListMeaning). m.opening) (init_list_made l)

pub list_delimited : (l : InitList) (d : DelimitersForm) (commas : List Place) → d ≡ record { commas = commas; closing = (out-InitList l).closing } → commas ≡ (out-InitList l).commas.items → (init_list_meaning l).delimiters ≡ d
list_delimited l d commas made same = ap (λ (m : ListMeaning). m.delimiters) (init_list_made l) ∙ made_of (out-InitList l).closing d commas (out-InitList l).commas.items made same

-- ---- what is passed

module _ (general : IllKind) (place : Place) (scope : Scope) (types : Types) (targets to : Targets) (same_targets : targets ≡ to) (es list : List Meaning) (same : list ≡ es) where
  pub same_passed : (other fault : Option IllKind) → fault ≡ other → passed general other place to list scope types ≡ passed general fault place targets es scope types
  same_passed other fault same_fault =
      ap (λ (ms : List Meaning). passed general other place to ms scope types) same
      ∙ ap (λ (ts : Targets). passed general other place ts es scope types) (sym same_targets)
      ∙ ap (λ (k : Option IllKind). passed general k place targets es scope types) (sym same_fault)

-- ---- a call of a function

module _ (place : Place) (arguments : ListMeaning) (f : ℕ × SignatureView) (scope : Scope) (types : Types) (targets : Targets) (same_targets : targets ≡ parameters f.1.parameters)
    (es : List Meaning) (same : arguments.list ≡ es) where
  abbrev call_answer : List Typed × Types → Checked Typed
  call_answer x = Ok (answer_of (type_at x.1 f.1.result) x.1 place (call f.0 (forms x.0) arguments.delimiters), x.1)

  call_reads : called place arguments f scope types ≡ passed kinds.WrongArguments None place targets es scope types >>= call_answer
  call_reads = ap (λ (c : Checked (List Typed)). c >>= call_answer) (same_passed kinds.WrongArguments place scope types targets (parameters f.1.parameters) same_targets es arguments.list same None None refl)

  pub call_fails : (e : IllFault) → Fails e (passed kinds.WrongArguments None place targets es scope types) → Fails e (called place arguments f scope types)
  call_fails e g = bind_fails (passed kinds.WrongArguments None place targets es scope types) call_answer e (called place arguments f scope types) call_reads g

  pub call_answers : (x : List Typed × Types) (delimiters : DelimitersForm) → arguments.delimiters ≡ delimiters → passed kinds.WrongArguments None place targets es scope types ≡ Ok x
      → called place arguments f scope types ≡ Ok (answer_of (type_at x.1 f.1.result) x.1 place (call f.0 (forms x.0) delimiters), x.1)
  call_answers x delimiters same_delimiters g =
      bind_goes (passed kinds.WrongArguments None place targets es scope types) call_answer x (called place arguments f scope types) call_reads g
      ∙ ap (λ (d : DelimitersForm). Ok (answer_of (type_at x.1 f.1.result) x.1 place (call f.0 (forms x.0) d), x.1)) same_delimiters

-- ---- a struct made of a list

module _ (l : ListMeaning) (s : ℕ × StructureView) (scope : Scope) (types : Types) (targets : Targets) (same_targets : targets ≡ members s.1.members) where
  abbrev made_answer : List Typed × Types → Checked Typed
  made_answer x = Ok (value l.opening (ty.Struct s.0) (construct s.0 (forms x.0) l.delimiters), x.1)

  construct_reads : constructed l s scope types ≡ braced targets l scope types >>= made_answer
  construct_reads = ap (λ (ts : Targets). braced ts l scope types >>= made_answer) (sym same_targets)

  pub construct_fails : (e : IllFault) → Fails e (braced targets l scope types) → Fails e (constructed l s scope types)
  construct_fails e g = bind_fails (braced targets l scope types) made_answer e (constructed l s scope types) construct_reads g

  pub construct_answers : (x : List Typed × Types) (opening : Place) (delimiters : DelimitersForm) → l.opening ≡ opening → l.delimiters ≡ delimiters → braced targets l scope types ≡ Ok x
      → constructed l s scope types ≡ Ok (value opening (ty.Struct s.0) (construct s.0 (forms x.0) delimiters), x.1)
  construct_answers x opening delimiters same_opening same_delimiters g =
      bind_goes (braced targets l scope types) made_answer x (constructed l s scope types) construct_reads g
      ∙ ap (λ (p : Place). Ok (value p (ty.Struct s.0) (construct s.0 (forms x.0) l.delimiters), x.1)) same_opening
      ∙ ap (λ (d : DelimitersForm). Ok (value opening (ty.Struct s.0) (construct s.0 (forms x.0) d), x.1)) same_delimiters

-- ---- a list that initialises an object

module _ (t : Ty) (l : ListMeaning) (scope : Scope) (types : Types) (targets : Targets) (same_targets : targets ≡ list_targets t scope types) where
  abbrev list_answer : List Typed × Types → Checked ListForm
  list_answer x = Ok (record { opening = l.opening; elements = x.0; delimiters = l.delimiters }, x.1)

  list_reads : list_for t l scope types ≡ braced targets l scope types >>= list_answer
  list_reads = ap (λ (ts : Targets). braced ts l scope types >>= list_answer) (sym same_targets)

  pub list_fails : (e : IllFault) → Fails e (braced targets l scope types) → Fails e (list_for t l scope types)
  list_fails e g = bind_fails (braced targets l scope types) list_answer e (list_for t l scope types) list_reads g

  pub list_answers : (x : List Typed × Types) (opening : Place) (delimiters : DelimitersForm) → l.opening ≡ opening → l.delimiters ≡ delimiters → braced targets l scope types ≡ Ok x
      → list_for t l scope types ≡ Ok (record { opening = opening; elements = x.0; delimiters = delimiters }, x.1)
  list_answers x opening delimiters same_opening same_delimiters g =
      bind_goes (braced targets l scope types) list_answer x (list_for t l scope types) list_reads g
      ∙ ap (λ (p : Place). Ok (record { opening = p; elements = x.0; delimiters = l.delimiters }, x.1)) same_opening
      ∙ ap (λ (d : DelimitersForm). Ok (record { opening = opening; elements = x.0; delimiters = d }, x.1)) same_delimiters

-- ---- `std::make_unique`

module _ (place : Place) (element : TypeArgument) (arguments : ListMeaning) (scope : Scope) (types : Types) (es : List Meaning) (same : arguments.list ≡ es) where
  abbrev unique_answer : TyId → List Typed × Types → Checked Typed
  unique_answer id y = Ok (value place (ty.Unique id) (make_unique id (optional_form (first_of y.0)) arguments.delimiters.closing), y.1)

  abbrev behind_element : TyId × Types → Checked Typed
  behind_element x = passed kinds.WrongArguments None place (optional x.0) arguments.list scope x.1 >>= unique_answer x.0

  pub element_fails : (e : IllFault) → Fails e (made_element element place scope types) → Fails e (unique_made place element arguments scope types)
  element_fails e g = bind_fails (made_element element place scope types) behind_element e (unique_made place element arguments scope types) refl g

  unique_reads : (x : TyId × Types) → made_element element place scope types ≡ Ok x
      → unique_made place element arguments scope types ≡ passed kinds.WrongArguments None place (optional x.0) es scope x.1 >>= unique_answer x.0
  unique_reads x g =
      bind_goes (made_element element place scope types) behind_element x (unique_made place element arguments scope types) refl g
      ∙ ap (λ (ms : List Meaning). passed kinds.WrongArguments None place (optional x.0) ms scope x.1 >>= unique_answer x.0) same

  pub unique_fails : (x : TyId × Types) (e : IllFault) → made_element element place scope types ≡ Ok x → Fails e (passed kinds.WrongArguments None place (optional x.0) es scope x.1)
      → Fails e (unique_made place element arguments scope types)
  unique_fails x e g f = bind_fails (passed kinds.WrongArguments None place (optional x.0) es scope x.1) (unique_answer x.0) e (unique_made place element arguments scope types) (unique_reads x g) f

  pub unique_answers : (x : TyId × Types) (y : List Typed × Types) (closing : Place) → arguments.delimiters.closing ≡ closing → made_element element place scope types ≡ Ok x
      → passed kinds.WrongArguments None place (optional x.0) es scope x.1 ≡ Ok y
      → unique_made place element arguments scope types ≡ Ok (value place (ty.Unique x.0) (make_unique x.0 (optional_form (first_of y.0)) closing), y.1)
  unique_answers x y closing same_closing g f =
      bind_goes (passed kinds.WrongArguments None place (optional x.0) es scope x.1) (unique_answer x.0) y (unique_made place element arguments scope types) (unique_reads x g) f
      ∙ ap (λ (p : Place). Ok (value place (ty.Unique x.0) (make_unique x.0 (optional_form (first_of y.0)) p), y.1)) same_closing

-- ---- a call of a member function

module _ (name : Identifier) (arguments : ListMeaning) (base : Typed) (scope : Scope) (types : Types) (t : ExprType) (typed : base.ty ≡ t) where
  abbrev method_of : Called → Checked Typed
  method_of found = method_called found name.place arguments base scope types

  method_looks : method_call name arguments base scope types ≡ given (called_of t name scope types) method_of
  method_looks = ap (λ (u : ExprType). given (called_of u name scope types) method_of) typed

  pub method_misses : (e : IllFault) → Misses e (called_of t name scope types) → Fails e (method_call name arguments base scope types)
  method_misses e f = given_fails (called_of t name scope types) method_of e (method_call name arguments base scope types) method_looks f

  module _ (found : Called) (there : called_of t name scope types ≡ Ok found) (fault : Option IllKind) (same_fault : fault ≡ change_fault found.method base.category)
      (es : List Meaning) (same : arguments.list ≡ es) (delimiters : DelimitersForm) (same_delimiters : arguments.delimiters ≡ delimiters) where
    abbrev method_answer : List Typed × Types → Checked Typed
    method_answer x = found_in x.1 (answered found x.1 name.place base x.0 delimiters)

    method_reads : method_call name arguments base scope types ≡ passed kinds.WrongArguments fault name.place (method_parameters found.parameters) es scope types >>= method_answer
    method_reads =
        given_goes (called_of t name scope types) method_of found (method_call name arguments base scope types) method_looks there
        ∙ ap (λ (c : Checked (List Typed)). c >>= (λ x. found_in x.1 (answered found x.1 name.place base x.0 arguments.delimiters)))
        (same_passed kinds.WrongArguments name.place scope types (method_parameters found.parameters) (method_parameters found.parameters) refl es arguments.list same (change_fault found.method base.category) fault same_fault)
        ∙ ap (λ (d : DelimitersForm). passed kinds.WrongArguments fault name.place (method_parameters found.parameters) es scope types >>= (λ x. found_in x.1 (answered found x.1 name.place base x.0 d))) same_delimiters

    pub method_fails : (e : IllFault) → Fails e (passed kinds.WrongArguments fault name.place (method_parameters found.parameters) es scope types) → Fails e (method_call name arguments base scope types)
    method_fails e g = bind_fails (passed kinds.WrongArguments fault name.place (method_parameters found.parameters) es scope types) method_answer e (method_call name arguments base scope types) method_reads g

    pub method_answers : {X : Type 0} (view : X → Typed) (x : List Typed × Types) (r : Result X IllFault) → passed kinds.WrongArguments fault name.place (method_parameters found.parameters) es scope types ≡ Ok x
        → Finds view r (answered found x.1 name.place base x.0 delimiters) → Gives view x.1 r (method_call name arguments base scope types)
    method_answers view x r g f =
        found_gives view x.1 r (answered found x.1 name.place base x.0 delimiters) (method_call name arguments base scope types)
        (bind_goes (passed kinds.WrongArguments fault name.place (method_parameters found.parameters) es scope types) method_answer x (method_call name arguments base scope types) method_reads g) f
