-- What all laws ask of an expression and of what it is made by, and the ways to make a form: as a value, by tests, as a pointer, as a place, in parentheses.
use Rattle.std.proofs.Common.{◌≡◌, ℕ, Bool, true, false, cond, List, [], slice_get, Option, Some, None, refl, sym, ap, ◌∙◌, subst, nat_lt}
use Rattle.std.proofs.lemmas.Bool.{false≢true}
use Rattle.life_types.specs.TypeTests.{is_raw, is_value}
use Rattle.life_types.specs.Types.{Types}
use Rattle.life_types.specs.contracts.ty.TyPartialEq.TheImpl.{ghosts as compared}
use Rattle.life_types.specs.declared.place.Place.{Place}
use Rattle.life_types.specs.declared.ty.Ty.{Ty}
use Rattle.life_types.specs.declared.ty.Ty.TheVariants as ty
use Rattle.life_types.specs.declared.ty.TyId.{TyId}
use Rattle.life_typed.specs.BaseTypes.{type_at}
use Rattle.life_typed.specs.Operators.{is_condition}
use Rattle.life_typed.specs.Programs.{FunctionForm}
use Rattle.life_typed.specs.TypedForm.{Form, Typed, paren, typed}
use Rattle.life_typed.specs.declared.typed_expr.Category.{Category}
use Rattle.life_typed.specs.declared.typed_expr.Category.TheVariants as category
use Rattle.life_typed.specs.declared.typed_expr.ExprType.{ExprType}
use Rattle.life_typed.specs.declared.typed_expr.ExprType.TheVariants.{NullPointer, Of, TextLiteral}
use Rattle.life_type_expr.specs.Operands.{value as value_typed}
use Rattle.life_core.specs.Function.{Function}
use Rattle.life_core.specs.Operands.{Argument, Location, Operand, Text}
use Rattle.life_core.specs.Tree.{Tree}
use Rattle.life_well_typed.specs.Expressions.{parameter_types, typed_in}
use Rattle.life_well_typed.specs.Given.{is_number}
use Rattle.life_writer.specs.Around.{Around, own_type}
use Rattle.life_writer.specs.Around as around
use Rattle.life_writer.specs.Behind.{closed_by, lasting}
use Rattle.life_writer.specs.Calls.{Called, expression_call, form_call}
use Rattle.life_writer.specs.ExpressionForms.{all_uses, form_uses, uses}
use Rattle.life_writer.specs.Giving as giving
use Rattle.life_writer.specs.Pointers.{Pointing, located, aimed}
use Rattle.life_writer.specs.Registers.{as_type, computed, conversion}
use Rattle.life_writer.specs.Uses.{Act, Uses, own, Remaining, lived}
use Rattle.life_writer.specs.Using.{condition, nullable, own_value as value_itself, pointer, pointing, pointing_by, read_or_made, register_type, tested_type, value}
use Rattle.life_writer.specs.Values as values
use Rattle.life_writer.specs.Writing.{Gives, State, ◌>>◌, with_code, gives}
use Rattle.life_writer.specs.declared.behind.Behind.{Behind}
use Rattle.life_elab_laws.proofs.Conditions.{Tests, by_branch_part, condition_part}
use Rattle.life_elab_laws.proofs.ExpressionTypes.{IsAnswered, condition_number, own_no_unique, own_value, pointer_fits}
use Rattle.life_elab_laws.proofs.Fronts.{front_length, front_then}
use Rattle.life_elab_laws.proofs.Gifts.{a_number, a_place, a_pointer, a_pointing, arguments}
use Rattle.life_elab_laws.proofs.Gifts as gifts
use Rattle.life_elab_laws.proofs.Instructions.{IsIntoOf, as_type_part, located_part, read_part}
use Rattle.life_elab_laws.proofs.Locations.{IsPointed, at_location, by_literal, by_null, is_location, is_pointed, location_is, number_no_pointer, pointed_type, raw_location}
use Rattle.life_elab_laws.proofs.Parts.{Makes, seen_part, then_part}
use Rattle.life_elab_laws.proofs.PointedCalls.{GivesPointer, call_located, gives_called, gives_plainly}
use Rattle.life_elab_laws.proofs.Setting.{Setting}
use Rattle.life_elab_laws.proofs.TypedKinds.{IsKind, a_number as is_number_kind, kind_same, none_some, null_value, text_value, value_place}
use Rattle.life_elab_laws.proofs.VariablePlaces.{Stands}
use Rattle.life_elab_laws.proofs.WrittenLocals.{fits_below, fits_later, fits_register}
use Rattle.life_elab_laws.proofs.TemporaryEnds.{TemporariesEnd, temporary_ends}
use Rattle.life_core.specs.declared.instr.Form.TheVariants.{Plain}
use Rattle.life_writer.specs.OwnerForms.{made_null, set_to}
use Rattle.life_elab_laws.proofs.HandedArguments.{Hands as AllHanded}
use Rattle.life_elab_laws.proofs.OwnLocals.{first_own}

module _ (a : Around) (visible : List ℕ) (types : Types) (texts : ℕ) (fs : List Function) (f : Function) (setting : Setting a types fs f) where
  abbrev pub Standing : State → Type 0
  Standing s = Stands a visible s

  abbrev pub Valued : Ty → Option ℕ → State → Gives ℕ → Type 0
  Valued t into s w = Makes types texts fs f into s w (a_number types texts fs f t)

  abbrev pub Placed : Ty → Bool → State → Gives Operand → Type 0
  Placed t constant s w = Makes types texts fs f None s w (a_place types texts fs f t constant)

  -- a place is found, whatever stands there
  abbrev pub Finds : State → Gives Operand → Type 0
  Finds s w = Makes types texts fs f None s (gives tt w.state) (gifts.nothing types texts fs f)

  pub placed_finds : (t : Ty) (constant : Bool) (s : State) (w : Gives Operand) → Placed t constant s w → Finds s w
  placed_finds t constant s w placed = seen_part types texts fs f (gifts.nothing types texts fs f) tt None s w (a_place types texts fs f t constant) (λ (o : Operand). tt) (gifts.nothing types texts fs f) placed (λ b h. tt) (λ n k h. tt)

  abbrev pub Pointed : Ty → State → Gives Location → Type 0
  Pointed t s w = Makes types texts fs f None s w (a_pointer types texts fs f t)

  abbrev pub Points : ExprType → State → Gives Pointing → Type 0
  Points t s w = Makes types texts fs f None s w (a_pointing types texts fs f t)

  -- .. also where owners are given over to a call
  abbrev pub PointsAt : ExprType → State → Gives Pointing → Type 0
  PointsAt t s w = GivesPointer types texts fs f t s w

  abbrev pub Hands : FunctionForm → State → Gives (List Argument) → Type 0
  Hands of s w = AllHanded types texts fs f (parameter_types (Some of)) s w

  abbrev pub Decided : Option Place → State → Gives Tree → Type 0
  Decided ends s w = Tests types texts fs f ends s w

  pub can : TemporariesEnd types texts fs f (first_own a)
  can = temporary_ends types texts fs f (first_own a) setting.own

  -- ---- what is asked

  -- of the call that an expression is, also in parentheses
  pub record IsCall (c : Called) (t : ExprType) (k : Category) : Type 0 where
    pub of : FunctionForm
    pub there : slice_get a.program.functions c.function ≡ Some of
    pub answers : IsAnswered a.program.types (type_at a.program.types of.result) t k
    pub hands : (s : State) → Standing s → Hands of s (giving.arguments a (all_uses a c.arguments) c.delimiters (around.parameter_types a c.function) s)

  -- of a literal, which builds a string
  pub record IsLiteral (object : State → Gives Remaining) (named : Option ℕ) : Type 0 where
    pub nameless : named ≡ None
    pub place : Place
    pub number : ℕ
    pub few : nat_lt number texts ≡ true
    pub is : object ≡ (λ s. located place ty.View (aimed (Text number)) s >> λ view s. gives (lived Plain (set_to view)) s)

  -- of nullptr, which builds a unique_ptr that owns nothing
  abbrev pub IsNothing : (State → Gives Remaining) → Option (State → Gives Act) → Option ℕ → Type 0
  IsNothing object replacing named = (object ≡ (λ s. gives (lived Plain made_null) s)) × ((replacing ≡ Some (λ s. gives made_null s)) × (named ≡ None))

  -- of what an expression is made by, wherever it stands
  pub record IsForm (form : Form) (e : Typed) : Type 0 where
    pub kind : IsKind a.program.types e
    -- a number that is neither a place nor decided by tests is computed
    pub computes : e.category ≡ category.Value → is_number e.ty ≡ true → (place : Place) (b : Behind) → (form_uses a form place e.ty e.category).decision b ≡ None → (into : Option ℕ) (s : State) → IsIntoOf (own_type e.ty) s into → Standing s
        → Valued (own_type e.ty) into s ((form_uses a form place e.ty e.category).made b.token into s)
    -- .. in the register that is wanted
    pub lands : e.category ≡ category.Value → is_number e.ty ≡ true → (place : Place) (b : Behind) → (form_uses a form place e.ty e.category).decision b ≡ None → (r : ℕ) (s : State)
        → ((form_uses a form place e.ty e.category).made b.token (Some r) s).given ≡ r
    -- a place with a value is named
    pub names : (id : TyId) (constant : Bool) → e.category ≡ category.Place id constant → is_value (type_at a.program.types id) ≡ true → (place : Place) (s : State) → Standing s
        → Placed (type_at a.program.types id) constant s ((form_uses a form place e.ty e.category).at s)
    -- .. and one with anything is found
    pub found : (id : TyId) (constant : Bool) → e.category ≡ category.Place id constant → (place : Place) (s : State) → Standing s → Finds s ((form_uses a form place e.ty e.category).at s)
    -- a pointer points
    pub points : is_pointed e.ty ≡ true → (place : Place) (s : State) → Standing s → PointsAt e.ty s ((form_uses a form place e.ty e.category).pointing s)
    -- what is made of conditions decides
    pub decides : (place : Place) (b : Behind) (w : State → Gives Tree) → (form_uses a form place e.ty e.category).decision b ≡ Some w → (s : State) → Standing s → Decided b.ends s (w s)
    -- what is a call is one of a function that is there
    pub calls : (c : Called) → form_call form ≡ Some c → IsCall c e.ty e.category
    -- .. and what has the type of a literal is one
    pub as_literal : e.ty ≡ TextLiteral → (place : Place) → IsLiteral ((form_uses a form place e.ty e.category).object) ((form_uses a form place e.ty e.category).named)
    -- .. or nullptr
    pub as_null : e.ty ≡ NullPointer → (place : Place) → IsNothing ((form_uses a form place e.ty e.category).object) ((form_uses a form place e.ty e.category).replacing) ((form_uses a form place e.ty e.category).named)

  -- of a whole expression
  pub record IsWhole (form : Form) : Type 0 where
    pub kind : IsKind a.program.types (typed_in form)
    pub valued : is_number (typed_in form).ty ≡ true → (behind : Place) (to : Ty) → is_value to ≡ true → (into : Option ℕ) (s : State) → IsIntoOf to s into → Standing s → Valued to into s (value (uses a form) behind to into s)
    pub lands : is_number (typed_in form).ty ≡ true → (behind : Place) (to : Ty) (r : ℕ) (s : State) → (value (uses a form) behind to (Some r) s).given ≡ r
    pub names : (id : TyId) (constant : Bool) → (typed_in form).category ≡ category.Place id constant → is_value (type_at a.program.types id) ≡ true → (s : State) → Standing s
        → Placed (type_at a.program.types id) constant s ((uses a form).at s)
    pub found : (id : TyId) (constant : Bool) → (typed_in form).category ≡ category.Place id constant → (s : State) → Standing s → Finds s ((uses a form).at s)
    pub points : is_pointed (typed_in form).ty ≡ true → (s : State) → Standing s → PointsAt (typed_in form).ty s ((uses a form).pointing s)
    pub pointers : (u : Ty) → (typed_in form).ty ≡ Of u → is_location u ≡ true → (s : State) → Standing s → Pointed u s (located (uses a form).place (own (uses a form)) ((uses a form).pointing s).given ((uses a form).pointing s).state)
    pub conditions : is_condition (typed_in form).ty ≡ true → (b : Behind) (s : State) → Standing s → Decided b.ends s (condition (uses a form) b s)
    pub decides : (b : Behind) (w : State → Gives Tree) → (uses a form).decision b ≡ Some w → (s : State) → Standing s → Decided b.ends s (w s)
    pub calls : (c : Called) → expression_call form ≡ Some c → IsCall c (typed_in form).ty (typed_in form).category
    pub as_literal : (typed_in form).ty ≡ TextLiteral → IsLiteral ((uses a form).object) ((uses a form).named)
    pub as_null : (typed_in form).ty ≡ NullPointer → IsNothing ((uses a form).object) ((uses a form).replacing) ((uses a form).named)

  -- ---- a whole expression, of what it is made by

  value_from : (ends : Option Place) (d : Option (State → Gives Tree)) (t : Ty) (place : Place) (c : Category) (at : State → Gives Operand) (make : Option ℕ → State → Gives ℕ) (into : Option ℕ) (s : State)
      → is_value t ≡ true → IsIntoOf t s into → Standing s
      → ((w : State → Gives Tree) → d ≡ Some w → Decided ends s (w s))
      → (d ≡ None → c ≡ category.Value → Valued t into s (make into s))
      → ((id : TyId) (constant : Bool) → c ≡ category.Place id constant → Placed t constant s (at s))
      → Valued t into s (values.value_from t place c d at make into s)
  value_from ends (Some w) t place c at make into s v wanted stands decides makes places = by_branch_part types texts fs f ends into t place w s v wanted (decides w refl)
  value_from ends None t place category.Value at make into s v wanted stands decides makes places = makes refl refl
  value_from ends None t place (category.Place id constant) at make into s v wanted stands decides makes places =
      read_part types texts fs f t constant place at into s v wanted stands.opened (places id constant refl)

  -- .. it lands in the register that is wanted
  lands_from : (t : Ty) (place : Place) (d : Option (State → Gives Tree)) (c : Category) (at : State → Gives Operand) (make : Option ℕ → State → Gives ℕ) (r : ℕ) (s : State)
      → (d ≡ None → c ≡ category.Value → (make (Some r) s).given ≡ r) → (values.value_from t place c d at make (Some r) s).given ≡ r
  lands_from t place (Some w) c at make r s makes = refl
  lands_from t place None category.Value at make r s makes = makes refl refl
  lands_from t place None (category.Place id constant) at make r s makes = refl

  lands_as : (from to : Ty) (place : Place) (given : Option ℕ → State → Gives ℕ) (r : ℕ) (s : State) → (given (Some r) s).given ≡ r → (as_type from to place given (Some r) s).given ≡ r
  lands_as from to place given r s here = go (compared.eq from to)
    where
      go : (b : Bool) → (cond b (given (Some r) s) (computed (Some r) to place (conversion (given None s).given) (given None s).state)).given ≡ r
      go true = here
      go false = refl

  pub pointer_part : (w : State → Gives Pointing) (t : ExprType) (u : Ty) (place : Place) (s : State) → t ≡ Of u → is_location u ≡ true → fits_register a.program.types u ≡ true → Standing s → PointsAt t s (w s)
      → Pointed u s (located place (own_type t) (w s).given (w s).state)
  pointer_part w t u place s is raw fits stands first =
      subst (λ (x : ExprType). Pointed u s (located place (own_type x) (w s).given (w s).state)) (sym is) (go (subst (λ (x : ExprType). PointsAt x s (w s)) is first))
    where
      go : PointsAt (Of u) s (w s) → Pointed u s (located place u (w s).given (w s).state)
      go (gives_called c) =
          call_located types texts fs f (Of u) s (w s) c u place refl raw (fits_later a.program.types types setting.front setting.plain u fits)
          (fits_below a.program.types c.given.state.types (front_length a.program.types.types c.given.state.types.types (front_then a.program.types.types s.types.types c.given.state.types.types stands.table c.hands.grown.types)) u fits)
      go (gives_plainly first) =
          then_part types texts fs f (gifts.nothing types texts fs f) tt None s (w s) _ (a_pointing types texts fs f (Of u)) (a_pointer types texts fs f u) stands.opened first
          (located_part types texts fs f (w s).given u place (w s).state raw (fits_later a.program.types types setting.front setting.plain u fits)
          (fits_below a.program.types (w s).state.types (front_length a.program.types.types (w s).state.types.types (front_then a.program.types.types s.types.types (w s).state.types.types stands.table first.grown.types)) u fits))

  -- a raw pointer or a view is tested, and is located, as what it is
  itself : (e : Uses) (t : Ty) (s : State) → is_location t ≡ true → pointing_by t e s ≡ e.pointing s
  itself e (ty.Raw target constant) s loc = refl
  itself e ty.View s loc = refl
  itself e (ty.Iterator target constant) s loc = refl
  itself e (ty.Span target constant) s loc = refl
  itself e _ s loc = absurd (false≢true loc)

  raw_tested : (t : Ty) → is_raw t ≡ true → tested_type t ≡ t
  raw_tested (ty.Raw target constant) raw = refl
  raw_tested _ raw = absurd (false≢true raw)

  own_register : (wanted t : Ty) → is_location t ≡ true → register_type wanted t ≡ t
  own_register wanted (ty.Raw target constant) loc = refl
  own_register wanted ty.View loc = refl
  own_register wanted (ty.Iterator target constant) loc = refl
  own_register wanted (ty.Span target constant) loc = refl
  own_register wanted _ loc = absurd (false≢true loc)

  pub nullable_raw : (e : Uses) (t : Ty) (s : State) → own e ≡ t → is_raw t ≡ true → nullable e s ≡ located e.place t (e.pointing s).given (e.pointing s).state
  nullable_raw e t s own_is raw =
      ap (λ (x : Ty). pointing_by x e s >> λ p s. located e.place (tested_type x) p s) own_is
      ∙ ap (λ (w : Gives Pointing). located e.place (tested_type t) w.given w.state) (itself e t s (raw_location t raw))
      ∙ ap (λ (x : Ty). located e.place x (e.pointing s).given (e.pointing s).state) (raw_tested t raw)

  pub pointer_own : (e : Uses) (wanted t : Ty) (s : State) → own e ≡ t → is_location t ≡ true → pointer e wanted s ≡ located e.place t (e.pointing s).given (e.pointing s).state
  pointer_own e wanted t s own_is loc =
      ap (λ (x : Ty). pointing_by x e s >> λ p s. located e.place (register_type wanted x) p s) own_is
      ∙ ap (λ (w : Gives Pointing). located e.place (register_type wanted t) w.given w.state) (itself e t s loc)
      ∙ ap (λ (x : Ty). located e.place x (e.pointing s).given (e.pointing s).state) (own_register wanted t loc)

  -- what is a pointer itself gives what it points to
  pub pointing_itself : (e : Uses) (s : State) → is_pointed e.ty ≡ true → pointing e s ≡ e.pointing s
  pointing_itself e s p = go (pointed_type e.ty p)
    where
      go : IsPointed e.ty → pointing e s ≡ e.pointing s
      go (at_location u is loc) = ap (λ (t : ExprType). pointing_by (own_type t) e s) is ∙ itself e u s loc
      go (by_null null) = ap (λ (t : ExprType). pointing_by (own_type t) e s) null
      go (by_literal text) = ap (λ (t : ExprType). pointing_by (own_type t) e s) text

  pub whole_of : (place : Place) (t : ExprType) (c : Category) (form : Form) → IsForm form (record { place = place; ty = t; category = c; form = form }) → IsWhole (typed place t c form)
  whole_of place t c form is = record {
    kind = is.kind;
    valued = λ n behind to v into s wanted stands.
        as_type_part types texts fs f (gifts.nothing types texts fs f) tt (own_type t) to place (value_itself u behind) into s v wanted stands.opened
        (λ i wanted. own_value_part behind n i s wanted stands);
    lands = λ n behind to r s.
        lands_as (own_type t) to place (value_itself u behind) r s
        (lands_from (own_type t) place (u.decision (lasting behind)) c u.at (u.made behind) r s (λ none at. is.lands at n place (lasting behind) none r s));
    names = λ id constant at v s stands. is.names id constant at v place s stands;
    found = λ id constant at s stands. is.found id constant at place s stands;
    points = λ p s stands. is.points p place s stands;
    pointers = λ x at loc s stands. pointer_part u.pointing t x place s at loc (fits x at loc) stands (is.points (ap is_pointed at ∙ loc) place s stands);
    conditions = λ h b s stands.
        condition_part types texts fs f (u.decision b) (own_type t) place b.ends (nullable u) (read_or_made u b.token None) s (own_no_unique a.program.types e is.kind.kind) _ stands.pends can
        (λ w at. is.decides place b w at s stands)
        (λ none raw. let loc = raw_location (own_type t) raw in let at = location_is t loc in
        subst (λ (w : Gives Location). Makes types texts fs f None (with_code [] s) w (a_pointer types texts fs f (own_type t))) (sym (nullable_raw u (own_type t) (with_code [] s) refl raw))
        (pointer_part u.pointing t (own_type t) place (with_code [] s) at loc (fits (own_type t) at loc) stands (is.points (ap is_pointed at ∙ loc) place (with_code [] s) stands)))
        (λ none raw.
        let n = condition_number a.program.types e is.kind.kind h raw in
        value_from None None (own_type t) place c u.at (u.made b.token) None (with_code [] s) (own_value t n) tt stands (λ w at. absurd (none_some at))
        (λ un at. is.computes at n place b none None (with_code [] s) tt stands)
        (λ id constant at. named n id constant at (with_code [] s) stands));
    decides = λ b w eq s stands. is.decides place b w eq s stands;
    calls = is.calls;
    as_literal = λ at. is.as_literal at place;
    as_null = λ at. is.as_null at place;
  }
    where
      e : Typed
      e = record { place = place; ty = t; category = c; form = form }

      u : Uses
      u = uses a (typed place t c form)

      fits : (x : Ty) → t ≡ Of x → is_location x ≡ true → fits_register a.program.types x ≡ true
      fits x at loc = subst (λ (y : ExprType). fits_register a.program.types (own_type y) ≡ true) at (pointer_fits a.program.types e is.kind.kind (ap (λ (y : ExprType). is_location (own_type y)) at ∙ loc))

      named : is_number t ≡ true → (id : TyId) (constant : Bool) → c ≡ category.Place id constant → (s : State) → Standing s → Placed (own_type t) constant s ((uses a (typed place t c form)).at s)
      named n id constant at s stands =
          let own_is = is.kind.place id constant at in
          subst (λ (x : Ty). Placed x constant s ((uses a (typed place t c form)).at s)) (sym (ap own_type own_is)) (is.names id constant at (sym (ap is_number own_is) ∙ n) place s stands)

      own_value_part : (behind : Place) → is_number t ≡ true → (into : Option ℕ) (s : State) → IsIntoOf (own_type t) s into → Standing s
          → Valued (own_type t) into s (value_itself (uses a (typed place t c form)) behind into s)
      own_value_part behind n into s wanted stands =
          let v = uses a (typed place t c form) in
          value_from None (v.decision (lasting behind)) (own_type t) place c v.at (v.made behind) into s (own_value t n) wanted stands
          (λ w at. is.decides place (lasting behind) w at s stands)
          (λ none at. is.computes at n place (lasting behind) none into s wanted stands)
          (λ id constant at. named n id constant at s stands)

  -- ---- the ways to make a form

  -- what is no place
  pub no_place : (form : Form) (e : Typed) → e.category ≡ category.Value → (id : TyId) (constant : Bool) → e.category ≡ category.Place id constant → is_value (type_at a.program.types id) ≡ true → (place : Place) (s : State) → Standing s
      → Placed (type_at a.program.types id) constant s ((form_uses a form place e.ty e.category).at s)
  no_place form e is id constant at v place s stands = absurd (value_place (sym is ∙ at))

  nowhere_found : (form : Form) (e : Typed) → e.category ≡ category.Value → (id : TyId) (constant : Bool) → e.category ≡ category.Place id constant → (place : Place) (s : State) → Standing s → Finds s ((form_uses a form place e.ty e.category).at s)
  nowhere_found form e is id constant at place s stands = absurd (value_place (sym is ∙ at))

  pub of_number : (t : ExprType) (u : Ty) → t ≡ Of u → is_value u ≡ true → is_number t ≡ true
  of_number t u is v = ap is_number is ∙ v

  -- what has a type of its own is no literal
  pub no_literal : (t : Ty) → Of t ≡ TextLiteral → ⊥
  no_literal t e = cc

  -- .. and not nullptr
  pub no_null : (t : Ty) → Of t ≡ NullPointer → ⊥
  no_null t e = cc

  -- a value of a type: what it is written by
  abbrev pub ValueUses : Form → Ty → Place → Uses
  ValueUses form t place = form_uses a form place (Of t) category.Value

  as_told : (e : Typed) (t : Ty) (form : Form) (place : Place) → e.ty ≡ Of t → e.category ≡ category.Value → ValueUses form t place ≡ form_uses a form place e.ty e.category
  as_told e t form place is c = sym (ap (λ (x : ExprType). form_uses a form place x e.category) is ∙ ap (λ (k : Category). form_uses a form place (Of t) k) c)

  -- .. by tests or not
  pub decided_form : (form : Form) (e : Typed) (t : Ty) → e.ty ≡ Of t → e.category ≡ category.Value → is_value t ≡ true → form_call form ≡ None
      → ((place : Place) (b : Behind) → (ValueUses form t place).decision b ≡ None → (into : Option ℕ) (s : State) → IsIntoOf t s into → Standing s → Valued t into s ((ValueUses form t place).made b.token into s))
      → ((place : Place) (b : Behind) → (ValueUses form t place).decision b ≡ None → (r : ℕ) (s : State) → ((ValueUses form t place).made b.token (Some r) s).given ≡ r)
      → ((place : Place) (b : Behind) (w : State → Gives Tree) → (ValueUses form t place).decision b ≡ Some w → (s : State) → Standing s → Decided b.ends s (w s)) → IsForm form e
  decided_form form e t is c v none makes lands decides = record {
    kind = record { kind = is_number_kind t is v; place = λ id constant at. absurd (value_place (sym c ∙ at)) };
    computes = λ at n place b un into s wanted stands.
        subst (λ (u : Uses). u.decision b ≡ None → Valued (own_type e.ty) into s (u.made b.token into s)) (as_told e t form place is c)
        (λ un. subst (λ (x : Ty). IsIntoOf x s into → Valued x into s ((ValueUses form t place).made b.token into s)) (sym (ap own_type is)) (λ w. makes place b un into s w stands) wanted) un;
    lands = λ at n place b un r s. subst (λ (u : Uses). u.decision b ≡ None → (u.made b.token (Some r) s).given ≡ r) (as_told e t form place is c) (λ un. lands place b un r s) un;
    names = no_place form e c;
    found = nowhere_found form e c;
    points = λ p. absurd (number_no_pointer e.ty (of_number e.ty t is v) p);
    decides = λ place b w at s stands. subst (λ (u : Uses). u.decision b ≡ Some w → Decided b.ends s (w s)) (as_told e t form place is c) (λ at. decides place b w at s stands) at;
    calls = λ d at. absurd (none_some (sym none ∙ at));
    as_literal = λ at. absurd (no_literal t (sym is ∙ at));
    as_null = λ at. absurd (no_null t (sym is ∙ at));
  }

  pub value_form : (form : Form) (e : Typed) (t : Ty) → e.ty ≡ Of t → e.category ≡ category.Value → is_value t ≡ true → form_call form ≡ None → ((place : Place) (b : Behind) → (ValueUses form t place).decision b ≡ None)
      → ((place behind : Place) (into : Option ℕ) (s : State) → IsIntoOf t s into → Standing s → Valued t into s ((ValueUses form t place).made behind into s))
      → ((place behind : Place) (r : ℕ) (s : State) → ((ValueUses form t place).made behind (Some r) s).given ≡ r) → IsForm form e
  value_form form e t is c v none plain makes lands =
      decided_form form e t is c v none (λ place b un. makes place b.token) (λ place b un. lands place b.token) (λ place b w at. absurd (none_some (sym (plain place b) ∙ at)))

  -- a value that is given by its type alone
  pub literal : (form : Form) (e : Typed) (t : Ty) → e ≡ value_typed e.place t e.form → is_value t ≡ true → form_call form ≡ None → ((place : Place) (b : Behind) → (ValueUses form t place).decision b ≡ None)
      → ((place behind : Place) (into : Option ℕ) (s : State) → IsIntoOf t s into → Standing s → Valued t into s ((ValueUses form t place).made behind into s))
      → ((place behind : Place) (r : ℕ) (s : State) → ((ValueUses form t place).made behind (Some r) s).given ≡ r) → IsForm form e
  literal form e t is v none plain makes lands = value_form form e t (ap (λ (y : Typed). y.ty) is) (ap (λ (y : Typed). y.category) is) v none plain makes lands

  -- a pointer that is no place
  pub pointer_form : (form : Form) (e : Typed) → IsKind a.program.types e → e.category ≡ category.Value → (is_number e.ty ≡ true → ⊥) → form_call form ≡ None → ((place : Place) (b : Behind) → (form_uses a form place e.ty e.category).decision b ≡ None)
      → (e.ty ≡ TextLiteral → (place : Place) → IsLiteral ((form_uses a form place e.ty e.category).object) ((form_uses a form place e.ty e.category).named)) → (e.ty ≡ NullPointer → (place : Place) → IsNothing ((form_uses a form place e.ty e.category).object) ((form_uses a form place e.ty e.category).replacing) ((form_uses a form place e.ty e.category).named))
      → (is_pointed e.ty ≡ true → (place : Place) (s : State) → Standing s → Points e.ty s ((form_uses a form place e.ty e.category).pointing s)) → IsForm form e
  pointer_form form e kind c never none plain told empty points = record {
    kind = kind;
    computes = λ at n. absurd (never n);
    lands = λ at n. absurd (never n);
    names = no_place form e c;
    found = nowhere_found form e c;
    points = λ p place s stands. gives_plainly (points p place s stands);
    decides = λ place b w at. absurd (none_some (sym (plain place b) ∙ at));
    calls = λ d at. absurd (none_some (sym none ∙ at));
    as_literal = told;
    as_null = empty;
  }

  -- a place
  pub place_form : (form : Form) (e : Typed) → IsKind a.program.types e → (e.category ≡ category.Value → ⊥) → form_call form ≡ None → ((place : Place) (b : Behind) → (form_uses a form place e.ty e.category).decision b ≡ None)
      → ((id : TyId) (constant : Bool) → e.category ≡ category.Place id constant → is_value (type_at a.program.types id) ≡ true → (place : Place) (s : State) → Standing s → Placed (type_at a.program.types id) constant s ((form_uses a form place e.ty e.category).at s))
      → ((id : TyId) (constant : Bool) → e.category ≡ category.Place id constant → (place : Place) (s : State) → Standing s → Finds s ((form_uses a form place e.ty e.category).at s))
      → (is_pointed e.ty ≡ true → (place : Place) (s : State) → Standing s → Points e.ty s ((form_uses a form place e.ty e.category).pointing s)) → IsForm form e
  place_form form e kind c none plain names found points = record {
    kind = kind;
    computes = λ at. absurd (c at);
    lands = λ at. absurd (c at);
    names = names;
    found = found;
    points = λ p place s stands. gives_plainly (points p place s stands);
    decides = λ place b w at. absurd (none_some (sym (plain place b) ∙ at));
    calls = λ d at. absurd (none_some (sym none ∙ at));
    as_literal = λ at. absurd (c (text_value a.program.types e kind.kind at));
    as_null = λ at. absurd (c (null_value a.program.types e kind.kind at));
  }

  -- what is in parentheses
  pub paren_form : (inner : Form) (closing : Place) (e : Typed) → (typed_in inner).ty ≡ e.ty → (typed_in inner).category ≡ e.category → IsWhole inner → IsForm (paren inner closing) e
  paren_form inner closing e t c is = record {
    kind = kind_same a.program.types (typed_in inner) e (sym t) (sym c) is.kind;
    computes = λ at n place b none into s wanted stands. is.valued (ap is_number t ∙ n) closing (own_type e.ty) (own_value e.ty n) into s wanted stands;
    lands = λ at n place b none r s. is.lands (ap is_number t ∙ n) closing (own_type e.ty) r s;
    names = λ id constant at v place s stands. is.names id constant (c ∙ at) v s stands;
    found = λ id constant at place s stands. is.found id constant (c ∙ at) s stands;
    points = λ p place s stands. subst (λ (x : ExprType). PointsAt x s ((uses a inner).pointing s)) t (is.points (ap is_pointed t ∙ p) s stands);
    decides = λ place b. is.decides (closed_by closing b);
    calls = λ d at. subst (λ (x : ExprType). IsCall d x e.category) t (subst (IsCall d (typed_in inner).ty) c (is.calls d at));
    as_literal = λ at place. is.as_literal (t ∙ at);
    as_null = λ at place. is.as_null (t ∙ at);
  }
