-- unique_ptrs that a call gives, where one is asked: each lies in a temporary; and whether there is something, which is tested by a pointer to what they own.
use Rattle.std.proofs.Common.{◌≡◌, inl, rules, ℕ, Bool, true, List, [], Option, None, refl, sym, ap, ◌∙◌, subst, inr, false, if◌then◌else◌, Err, Contains, slice_get, Some}
use Rattle.life_types.specs.Types.{Types}
use Rattle.life_types.specs.contracts.ty.TyIdPartialEq.TheImpl.{ghosts as id}
use Rattle.life_types.specs.declared.place.Place.{Place}
use Rattle.life_types.specs.declared.ty.Ty.{Ty}
use Rattle.life_types.specs.declared.ty.Ty.TheVariants as ty
use Rattle.life_types.specs.declared.ty.TyId.{TyId}
use Rattle.life_typed.specs.BaseTypes.{type_at}
use Rattle.life_typed.specs.Conversions.{fits, fitting}
use Rattle.life_typed.specs.TypedForm.{Form, Typed, make_unique}
use Rattle.life_typed.specs.declared.typed_expr.Category.{Category}
use Rattle.life_typed.specs.declared.typed_expr.Category.TheVariants as category
use Rattle.life_typed.specs.declared.typed_expr.ExprType.{ExprType}
use Rattle.life_typed.specs.declared.typed_expr.ExprType.TheVariants.{Of}
use Rattle.life_typed.specs.declared.misfit.Misfit.TheVariants.{General}
use Rattle.life_type_expr.specs.Lists.{fits_at_all}
use Rattle.life_core.specs.Function.{Function}
use Rattle.life_core.specs.Operands.{Get, Operand, whole, object_named, Location}
use Rattle.life_core.specs.Tree.{Tree}
use Rattle.life_well_typed.specs.Expressions.{IsMadeOf, typed_in}
use Rattle.life_well_typed.specs.Given.{is_given}
use Rattle.life_elab_laws.proofs.ObjectTypes.{is_element}
use Rattle.life_elab_laws.proofs.TypeKinds.{is_unique_type}
use Rattle.life_writer.specs.Around.{Around, own_type}
use Rattle.life_writer.specs.Conditions.{not_null}
use Rattle.life_writer.specs.ExpressionForms.{form_uses, uses}
use Rattle.life_writer.specs.Pointers.{aimed, located}
use Rattle.life_writer.specs.Uses.{Remaining, own}
use Rattle.life_writer.specs.Using.{condition, condition_by, nullable, operand_by, owned_by, pointing_by, read_or_made, temporary_of, tested_type, operand}
use Rattle.life_writer.specs.Writing.{Gives, State, ◌>>◌, mapped, with_code}
use Rattle.life_writer.specs.declared.behind.Behind.{Behind}
use Rattle.life_elab_laws.proofs.Conditions.{Tests, not_null_part}
use Rattle.life_elab_laws.proofs.Elements.{element_target}
use Rattle.life_elab_laws.proofs.ExpressionForms.{Standing, pointer_part}
use Rattle.life_elab_laws.proofs.FreshUniques.{IsFreshAt, fresh_same, made_fresh, moved_fresh}
use Rattle.life_elab_laws.proofs.Gifts.{a_pointer}
use Rattle.life_elab_laws.proofs.MadeForms.{temporary_made}
use Rattle.life_elab_laws.proofs.OwnLocals.{first_own}
use Rattle.life_elab_laws.proofs.OwnedContents.{IsGivingIfAny}
use Rattle.life_elab_laws.proofs.Parts.{Makes}
use Rattle.life_elab_laws.proofs.PointedCalls.{gives_plainly}
use Rattle.life_elab_laws.proofs.PointerForms.{held_typed, own_typed}
use Rattle.life_elab_laws.proofs.Setting.{Setting}
use Rattle.life_elab_laws.proofs.TemporaryEnds.{temporary_ends}
use Rattle.life_elab_laws.proofs.UniqueForms.{IsLying, IsUniqueAt, lying_points, unique_lies, unique_same, owner_no_unique, walker_no_unique}
use Rattle.std.proofs.lemmas.Bool.{false≢true}
use Rattle.life_types.specs.TypeTests.{is_unique}
use Rattle.life_writer.specs.OwnerForms.{move_uses}
use Rattle.life_elab_laws.proofs.MovedOwners.{IsMovedFrom}
use Rattle.life_elab_laws.proofs.TypedKinds.{some_same, value_simple}
use Rattle.life_elab_laws.proofs.ExpressionKinds.{variable_built}
use Rattle.life_elab_laws.proofs.VariablePlaces.{IsVariableType, a_raw, a_reference, a_struct, a_struct_alias, a_unique, a_value, a_view, a_walker, an_alias, an_owner, variable_type}

itself : (a : TyId) → id.eq a a ≡ true
itself a = search rules

of_same : {t u : Ty} → Of t ≡ Of u → t ≡ u
of_same e = cc

-- a value is given to one of its type
pub unique_itself : (types : Types) (e : Typed) (target : TyId) → e.ty ≡ Of (ty.Unique target) → e.category ≡ category.Value → is_given types (ty.Unique target) e ≡ true
unique_itself types e target is held =
    ap (λ (x : ExprType). fits_at_all (fits types (ty.Unique target) x e.category)) is
    ∙ ap (λ (c : Category). fits_at_all (fits types (ty.Unique target) (Of (ty.Unique target)) c)) held
    ∙ ap (λ (b : Bool). fits_at_all (if b then fitting else Err General)) (itself target)

module _ (a : Around) (visible : List ℕ) (types : Types) (texts : ℕ) (fs : List Function) (f : Function) (setting : Setting a types fs f) where
  abbrev Stood : State → Type 0
  Stood s = Standing a visible types texts fs f setting s

  -- what a variable owns that is moved from
  moved_worth : (x : ℕ) (e : Typed) (from : IsMovedFrom a visible types texts fs f setting x e) (target : TyId) → from.ty ≡ ty.Unique target → is_element a.program.types (type_at a.program.types target) ≡ true
  moved_worth x e from target unique = kind (variable_type a.program.types from.source.ty (variable_built a.program.types a.function.locals x from.source setting.variables from.found))
    where
      as_type : (t : Ty) → slice_get a.program.types.types from.source.ty.0 ≡ Some t → t ≡ ty.Unique target
      as_type t at = some_same (sym at ∙ from.at) ∙ unique

      other : (t : Ty) → slice_get a.program.types.types from.source.ty.0 ≡ Some t → is_unique t ≡ false → is_element a.program.types (type_at a.program.types target) ≡ true
      other t at none = absurd (false≢true (sym none ∙ ap is_unique (as_type t at)))

      owned_by : Ty → TyId
      owned_by (ty.Unique id) = id
      owned_by _ = target

      kind : IsVariableType a.program.types from.source.ty → is_element a.program.types (type_at a.program.types target) ≡ true
      kind (a_value t at v) = other t at (value_simple t v).unique
      kind (a_raw held constant at v) = other (ty.Raw held constant) at refl
      kind (a_view at) = other ty.View at refl
      kind (a_reference held constant at v) = other (ty.Reference held constant) at refl
      kind (an_alias held constant at o) = other (ty.Reference held constant) at refl
      kind (a_walker t at w) = other t at (walker_no_unique a.program.types t w)
      kind (a_struct number at) = other (ty.Struct number) at refl
      kind (a_struct_alias held constant number at structure pointless) = other (ty.Reference held constant) at refl
      kind (an_owner t at o) = other t at (owner_no_unique a.program.types t o)
      kind (a_unique held at w) = subst (λ (id : TyId). is_element a.program.types (type_at a.program.types id) ≡ true) (ap owned_by (as_type (ty.Unique held) at)) w

  pub record IsAnsweredAt (e : Typed) (object : State → Gives Remaining) (decision : Behind → Option (State → Gives Tree)) (named : Option ℕ) : Type 0 where
    pub fresh : IsFreshAt a visible types texts fs f setting e object
    pub worth : is_element a.program.types (type_at a.program.types fresh.owned) ≡ true
    pub undecided : (b : Behind) → decision b ≡ None
    pub nameless : named ≡ None

  abbrev pub IsAnswered : Form → Type 0
  IsAnswered form = IsAnsweredAt (typed_in form) ((uses a form).object) ((uses a form).decision) ((uses a form).named)

  -- one that is made is so too
  pub made_answer : (id : TyId) (argument : Form) (closing : Place) (e : Typed) (place : Place) → IsGivingIfAny a visible types texts fs f setting argument → is_element a.program.types (type_at a.program.types id) ≡ true
      → IsMadeOf a.program a.function.locals visible e (make_unique id argument closing) → let u = form_uses a (make_unique id argument closing) place e.ty e.category in IsAnsweredAt e u.object u.decision u.named
  made_answer id argument closing e place giving worth h = record { fresh = made_fresh a visible types texts fs f setting id argument closing e place giving h; worth = worth; undecided = λ b. refl; nameless = refl }

  -- .. or moved out of a variable
  pub moved_answer : (x : ℕ) (e : Typed) (place : Place) → is_unique_type e.ty ≡ true → Contains visible x → (from : IsMovedFrom a visible types texts fs f setting x e) → let u = move_uses x place e.ty e.category in IsAnsweredAt e u.object u.decision u.named
  moved_answer x e place n c from =
      let fresh = moved_fresh a visible types texts fs f setting x e place n c from in
      record { fresh = fresh; worth = moved_worth x e from fresh.owned (of_same (sym from.is ∙ fresh.is)); undecided = λ b. refl; nameless = refl }

  -- .. in parentheses
  answered_same : (e e' : Typed) (object : State → Gives Remaining) (decision other : Behind → Option (State → Gives Tree)) (named : Option ℕ) → e.ty ≡ e'.ty → e.category ≡ e'.category
      → ((b : Behind) → ((c : Behind) → decision c ≡ None) → other b ≡ None) → IsAnsweredAt e object decision named → IsAnsweredAt e' object other named
  answered_same e e' object decision other named t c still is = record {
    fresh = fresh_same a visible types texts fs f setting e e' object t c is.fresh;
    worth = is.worth;
    undecided = λ b. still b is.undecided;
    nameless = is.nameless;
  }

  module _ (form : Form) (is : IsAnswered form) where
    abbrev target : TyId
    target = is.fresh.owned

    own_answered : own (uses a form) ≡ ty.Unique target
    own_answered = ap own_type (sym (own_typed a visible types texts fs f setting form) ∙ is.fresh.is)

    value_answered : (uses a form).category ≡ category.Value
    value_answered = sym (held_typed a visible types texts fs f setting form) ∙ is.fresh.value

    -- ---- it lies in a temporary

    abbrev there : State → Gives ℕ
    there s = temporary_of (uses a form) (ty.Unique target) s

    pub answer_here : (s : State) → operand (uses a form) s ≡ mapped object_named (there s)
    answer_here s =
        ap (λ (c : Category). operand_by c (uses a form).at (temporary_of (uses a form) (own (uses a form))) s) value_answered
        ∙ ap (λ (t : Ty). mapped object_named (temporary_of (uses a form) t s)) own_answered

    pub answer_lies : IsLying a visible types texts fs f setting form
    answer_lies = record {
      target = target;
      is = is.fresh.is;
      worth = is.worth;
      location = λ s. mapped whole (there s);
      here = λ s stands. answer_here s;
      placed = λ s stands.
          temporary_made a visible types texts fs f setting (ty.Unique target) (uses a form).place s ((uses a form).object s) (inr (inl is.worth)) (is.fresh.builds target is.worth (unique_itself a.program.types (typed_in form) target is.fresh.is is.fresh.value) s stands) stands;
    }

    -- ---- whether it owns something

    -- what is tested is a pointer to that
    nullable_answered : (s : State) → nullable (uses a form) s ≡ (mapped (λ x. aimed (Get (whole x))) (there s) >> λ p s. located (uses a form).place (ty.Raw target false) p s)
    nullable_answered s =
        ap (λ (t : Ty). pointing_by t (uses a form) s >> λ p s. located (uses a form).place (tested_type t) p s) own_answered
        ∙ ap (λ (c : Category). owned_by c (uses a form).at (temporary_of (uses a form) (own (uses a form))) s >> λ p s. located (uses a form).place (ty.Raw target false) p s) value_answered
        ∙ ap (λ (t : Ty). mapped (λ x. aimed (Get (whole x))) (temporary_of (uses a form) t s) >> λ p s. located (uses a form).place (ty.Raw target false) p s) own_answered

    tested_answered : (s : State) → Stood s → Makes types texts fs f None s (nullable (uses a form) s) (a_pointer types texts fs f (ty.Raw target false))
    unfolding answer_lies
    tested_answered s stands =
        subst (λ (w : Gives Location). Makes types texts fs f None s w (a_pointer types texts fs f (ty.Raw target false))) (sym (nullable_answered s))
        (pointer_part a visible types texts fs f setting (λ s. mapped (λ x. aimed (Get (whole x))) (there s)) (Of (ty.Raw target false)) (ty.Raw target false) (uses a form).place s refl refl
        (element_target a.program.types (type_at a.program.types target) is.worth) stands (gives_plainly (lying_points a visible types texts fs f setting form answer_lies s stands)))

    pub answer_tested : (place : Place) (ends : Option Place) (s : State) → Stood s → Tests types texts fs f ends s (not_null place ends (nullable (uses a form)) s)
    answer_tested place ends s stands =
        not_null_part types texts fs f place ends (ty.Raw target false) (nullable (uses a form)) s refl _ stands.pends (temporary_ends types texts fs f (first_own a) setting.own) (tested_answered (with_code [] s) stands)

    pub answer_condition : (b : Behind) (s : State) → Stood s → Tests types texts fs f b.ends s (condition (uses a form) b s)
    answer_condition b s stands =
        subst (λ (d : Option (State → Gives Tree)). Tests types texts fs f b.ends s (condition_by d (own (uses a form)) (uses a form).place b.ends (nullable (uses a form)) (read_or_made (uses a form) b.token None) s)) (sym (is.undecided b))
        (subst (λ (t : Ty). Tests types texts fs f b.ends s (condition_by None t (uses a form).place b.ends (nullable (uses a form)) (read_or_made (uses a form) b.token None) s)) (sym own_answered)
        (answer_tested (uses a form).place b.ends s stands))

  -- ---- any unique_ptr that is asked: one that is named, or that a call gives

  pub data IsHoldingAt (e : Typed) (at : State → Gives Operand) (object : State → Gives Remaining) (decision : Behind → Option (State → Gives Tree)) (named : Option ℕ) : Type 0 where
    holds_named : IsUniqueAt a visible types texts fs f setting e at decision → IsHoldingAt e at object decision named
    holds_answer : IsAnsweredAt e object decision named → IsHoldingAt e at object decision named

  abbrev pub IsHolding : Form → Type 0
  IsHolding form = IsHoldingAt (typed_in form) ((uses a form).at) ((uses a form).object) ((uses a form).decision) ((uses a form).named)

  pub holding_same : (e e' : Typed) (at : State → Gives Operand) (object : State → Gives Remaining) (decision other : Behind → Option (State → Gives Tree)) (named : Option ℕ) → e.ty ≡ e'.ty → e.category ≡ e'.category
      → ((b : Behind) → ((c : Behind) → decision c ≡ None) → other b ≡ None) → IsHoldingAt e at object decision named → IsHoldingAt e' at object other named
  holding_same e e' at object decision other named t c still (holds_named is) = holds_named (unique_same a visible types texts fs f setting e e' at decision other t c still is)
  holding_same e e' at object decision other named t c still (holds_answer is) = holds_answer (answered_same e e' object decision other named t c still is)

  pub holding_lies : (form : Form) → IsHolding form → IsLying a visible types texts fs f setting form
  holding_lies form (holds_named is) = unique_lies a visible types texts fs f setting form is
  holding_lies form (holds_answer is) = answer_lies form is

  pub holding_unique : (form : Form) → IsHolding form → is_unique_type (typed_in form).ty ≡ true
  holding_unique form is = ap is_unique_type (holding_lies form is).is
