-- What a reference to an owner is given: a place that it refers to, or an owner that is built for it: a copy, one that is made, or a string of a literal.
use Rattle.std.proofs.Common.{◌≡◌, ℕ, Bool, true, false, List, None, Option, refl, sym, ap, ◌∙◌, subst, length}
use Rattle.std.proofs.lemmas.Bool.{false≢true}
use Rattle.life_elab_laws.proofs.ObjectTypes.{is_owner_of_values, is_target, is_walker_of_values}
use Rattle.life_elab_laws.proofs.TypeKinds.{owns_elements}
use Rattle.life_types.specs.Types.{Types}
use Rattle.life_types.specs.declared.place.Place.{Place}
use Rattle.life_types.specs.declared.ty.Ty.{Ty}
use Rattle.life_types.specs.declared.ty.Ty.TheVariants as ty
use Rattle.life_types.specs.declared.ty.TyId.{TyId}
use Rattle.life_typed.specs.BaseTypes.{type_at}
use Rattle.life_typed.specs.Conversions.{fits, is_place_of}
use Rattle.life_typed.specs.TypedForm.{Form}
use Rattle.life_typed.specs.declared.typed_expr.Category.{Category}
use Rattle.life_typed.specs.declared.typed_expr.Category.TheVariants as category
use Rattle.life_typed.specs.declared.typed_expr.ExprType.{ExprType}
use Rattle.life_typed.specs.declared.typed_expr.ExprType.TheVariants.{NullPointer, Of, TextLiteral}
use Rattle.life_type_expr.specs.Lists.{fits_at_all}
use Rattle.life_core.specs.Function.{Function}
use Rattle.life_core.specs.Operands.{Operand, Text}
use Rattle.life_core.specs.declared.instr.Form.TheVariants.{Plain}
use Rattle.life_proper.specs.OperandTypes.{keeps_const}
use Rattle.life_well_typed.specs.Expressions.{typed_in}
use Rattle.life_well_typed.specs.Given.{is_given, is_number}
use Rattle.life_writer.specs.Around.{Around}
use Rattle.life_writer.specs.ExpressionForms.{uses}
use Rattle.life_writer.specs.Giving.{copied, object_by}
use Rattle.life_writer.specs.Giving as giving
use Rattle.life_writer.specs.Pointers.{aimed, located}
use Rattle.life_writer.specs.Uses.{Remaining, Uses, lived}
use Rattle.life_writer.specs.Writing.{Gives, State, gives, mapped}
use Rattle.life_elab_laws.proofs.Aiming.{literal_given}
use Rattle.life_elab_laws.proofs.ExpressionForms.{IsLiteral, IsWhole, Placed, Standing}
use Rattle.life_elab_laws.proofs.Filling.{text_filling}
use Rattle.life_elab_laws.proofs.FormedFits.{IsBound, at_place, by_temporary, given_bound, given_owner}
use Rattle.life_elab_laws.proofs.FormedVariables.{const_same, owner_no_value}
use Rattle.life_elab_laws.proofs.Gifts.{a_place, a_pointer, a_pointing, both, nothing as no_gift}
use Rattle.life_elab_laws.proofs.Instructions.{literal_located_part}
use Rattle.life_elab_laws.proofs.JoinedForms.{literal_builds}
use Rattle.life_elab_laws.proofs.MadeForms.{Builds, BuildsIn, IsOwning, is_made, less_plain, lived_builds, of_copy, owning_owner, stands_there}
use Rattle.life_elab_laws.proofs.OwnerSteps.{copies_part}
use Rattle.life_elab_laws.proofs.Parts.{leaf_part, then_part}
use Rattle.life_elab_laws.proofs.PlainActs.{copied_plain}
use Rattle.life_elab_laws.proofs.PointerForms.{held_typed}
use Rattle.life_elab_laws.proofs.Setting.{Setting}
use Rattle.life_elab_laws.proofs.Targets.{owner_target, value_target, IsTarget, target_is, to_owner, to_struct, to_value}
use Rattle.life_elab_laws.proofs.TypedKinds.{HasKind, a_null, a_number, a_pointer as is_pointer_kind, a_text, a_view, kind_no_owner, no_value, place_same, value_place}
use Rattle.life_elab_laws.proofs.Values.{by_owners, by_values, by_walkers}
use Rattle.life_elab_laws.proofs.GivenKinds.{given_number}
use Rattle.life_types.specs.TypeTests.{is_value}
use Rattle.life_elab_laws.proofs.WalkerForms.{IsWalker}
use Rattle.life_elab_laws.proofs.VariablePlaces.{owner_is, walker_is}

-- ---- what an owner isn't given

-- what is no owner, but for a literal
pub no_owner_given : (types : Types) (t : Ty) → is_owner_of_values types t ≡ true → (u : Ty) → owns_elements u ≡ false → (c : Category) → fits_at_all (fits types t (Of u) c) ≡ true → ⊥
no_owner_given types ty.Text o ty.Text none c h = false≢true (sym none)
no_owner_given types ty.Text o _ none c h = false≢true h
no_owner_given types (ty.Vector item) o (ty.Vector found) none c h = false≢true (sym none)
no_owner_given types (ty.Vector item) o _ none c h = false≢true h
no_owner_given types _ o u none c h = false≢true o

pub null_refused : (types : Types) (t : Ty) → is_owner_of_values types t ≡ true → (c : Category) → fits_at_all (fits types t NullPointer c) ≡ true → ⊥
null_refused types = by_owners types _ (λ c h. false≢true h) (λ item c h. false≢true h)

-- a literal is given to a string alone
literal_string : (types : Types) (t : Ty) → is_owner_of_values types t ≡ true → (c : Category) → fits_at_all (fits types t TextLiteral c) ≡ true → t ≡ ty.Text
literal_string types = by_owners types _ (λ c h. refl) (λ item c h. absurd (false≢true h))

-- .. nor does a struct come of an owner, an iterator or a span
pub owner_no_struct_given : (types : Types) (t : Ty) → is_owner_of_values types t ≡ true → (number : ℕ) (c : Category) → fits_at_all (fits types (ty.Struct number) (Of t) c) ≡ true → ⊥
owner_no_struct_given types = by_owners types _ (λ number c h. false≢true h) (λ item number c h. false≢true h)

pub walker_no_struct_given : (types : Types) (t : Ty) → is_walker_of_values types t ≡ true → (number : ℕ) (c : Category) → fits_at_all (fits types (ty.Struct number) (Of t) c) ≡ true → ⊥
walker_no_struct_given types = by_walkers types _ (λ item held number c h. false≢true h) (λ item held number c h. false≢true h)

module _ (a : Around) (visible : List ℕ) (types : Types) (texts : ℕ) (fs : List Function) (f : Function) (setting : Setting a types fs f) where
  abbrev Stood : State → Type 0
  Stood s = Standing a visible types texts fs f setting s

  abbrev PlacedAs : Ty → Bool → State → Gives Operand → Type 0
  PlacedAs t constant s w = Placed a visible types texts fs f setting t constant s w

  abbrev BuildsAs : Ty → State → Gives Remaining → Type 0
  BuildsAs t s w = Builds a visible types texts fs f setting t s w

  -- ---- what is built for an owner

  -- it hangs on the category alone
  pub owner_given : (t : Ty) (u : Uses) (behind : Place) (s : State) → is_owner_of_values a.program.types t ≡ true → giving.given u t behind s ≡ object_by u.category u.at u.object s
  owner_given ty.Text u behind s o = refl
  owner_given (ty.Vector item) u behind s o = refl
  owner_given _ u behind s o = absurd (false≢true o)

  -- a copy of one at a place
  pub copied_builds : (t : Ty) (constant : Bool) (s : State) (w : Gives Operand) → is_owner_of_values a.program.types t ≡ true → PlacedAs t constant s w → BuildsAs t s (mapped (λ from. lived Plain (copied from)) w)
  copied_builds t constant s w o placed =
      lived_builds a visible types texts fs f setting true t s w.state (of_copy t constant) w.given Plain (copied w.given) placed refl
      (λ place to s' there still new.
      copies_part types texts fs f (both types texts fs f (a_place types texts fs f t constant) (a_place types texts fs f t false)) (w.given, to) a.program.types t constant to w.given place s' o
      (λ h. (h.1, h.0)) (λ n k h. (h.1, h.0)))
      (λ e. copied_plain _ w.given)

  -- what an expression that is an owner gives it
  pub owning_builds : (form : Form) → IsOwning a visible types texts fs f setting form → (t : Ty) → is_owner_of_values a.program.types t ≡ true → is_given a.program.types t (typed_in form) ≡ true → (behind : Place) (s : State) → Stood s
      → BuildsAs t s (giving.given (uses a form) t behind s)
  owning_builds form from t o given behind s stands = subst (BuildsAs t s) (sym (owner_given t (uses a form) behind s o)) (go from)
    where
      go : IsOwning a visible types texts fs f setting form → BuildsAs t s (object_by (uses a form).category (uses a form).at (uses a form).object s)
      go (stands_there is) =
          let alike = given_owner a.program.types t is.ty (typed_in form) o is.owner is.is given in
          subst (λ (c : Category). BuildsAs t s (object_by c (uses a form).at (uses a form).object s)) (sym is.place ∙ held_typed a visible types texts fs f setting form)
          (copied_builds t is.constant s ((uses a form).at s) o (subst (λ (x : Ty). PlacedAs x is.constant s ((uses a form).at s)) alike (is.names s stands)))
      go (is_made is) =
          let alike = given_owner a.program.types t is.ty (typed_in form) o is.owner is.is given in
          subst (λ (c : Category). BuildsAs t s (object_by c (uses a form).at (uses a form).object s)) (sym is.value ∙ held_typed a visible types texts fs f setting form)
          (subst (λ (x : Ty). BuildsAs x s ((uses a form).object s)) alike (is.builds s stands))

  -- a string of a literal
  pub literal_there : (object : State → Gives Remaining) (named : Option ℕ) → IsLiteral a visible types texts fs f setting object named → (s : State) → Stood s → BuildsAs ty.Text s (object s)
  literal_there object named is s stands =
      let w = located is.place ty.View (aimed (Text is.number)) s in
      subst (λ (x : State → Gives Remaining). BuildsAs ty.Text s (x s)) (sym is.is)
      (literal_builds a visible types texts fs f setting s w
      (then_part types texts fs f (no_gift types texts fs f) tt None s (gives (aimed (Text is.number)) s) w (a_pointing types texts fs f TextLiteral) (a_pointer types texts fs f ty.View) stands.opened
      (leaf_part types texts fs f (aimed (Text is.number)) s (a_pointing types texts fs f TextLiteral) (λ b. literal_given types texts fs f is.number is.few) (λ b k alive. text_filling f is.number (length s.locals) k))
      (literal_located_part types texts fs f (aimed (Text is.number)) is.place s)))

  -- what has a value is a literal, where it is given to an owner
  pub given_literal : (form : Form) → IsWhole a visible types texts fs f setting form → (t : Ty) → is_owner_of_values a.program.types t ≡ true → is_given a.program.types t (typed_in form) ≡ true
      → ((typed_in form).ty ≡ TextLiteral) × ((typed_in form).category ≡ category.Value)
  given_literal form is t o given = go is.kind.kind
    where
      as_told : (x : ExprType) → (typed_in form).ty ≡ x → fits_at_all (fits a.program.types t x (typed_in form).category) ≡ true
      as_told x at = subst (λ (x : ExprType). fits_at_all (fits a.program.types t x (typed_in form).category) ≡ true) at given

      go : HasKind a.program.types (typed_in form) → ((typed_in form).ty ≡ TextLiteral) × ((typed_in form).category ≡ category.Value)
      go (a_text at v) = (at, v)
      go (a_number u at v) = absurd (no_owner_given a.program.types t o u (by_values (λ u. owns_elements u ≡ false) refl refl refl refl refl u v) (typed_in form).category (as_told (Of u) at))
      go (is_pointer_kind target constant at w) = absurd (no_owner_given a.program.types t o (ty.Raw target constant) refl (typed_in form).category (as_told (Of (ty.Raw target constant)) at))
      go (a_view at) = absurd (no_owner_given a.program.types t o ty.View refl (typed_in form).category (as_told (Of ty.View) at))
      go (no_value at v) = absurd (no_owner_given a.program.types t o ty.Void refl (typed_in form).category (as_told (Of ty.Void) at))
      go (a_null at v) = absurd (null_refused a.program.types t o (typed_in form).category (as_told NullPointer at))

  -- .. of which it is built
  pub literal_object : (form : Form) → IsWhole a visible types texts fs f setting form → (t : Ty) → is_owner_of_values a.program.types t ≡ true → is_given a.program.types t (typed_in form) ≡ true → (s : State) → Stood s
      → BuildsAs t s ((uses a form).object s)
  literal_object form is t o given s stands =
      let literal = given_literal form is t o given in
      let string = literal_string a.program.types t o (typed_in form).category (subst (λ (x : ExprType). fits_at_all (fits a.program.types t x (typed_in form).category) ≡ true) literal.0 given) in
      subst (λ (x : Ty). BuildsAs x s ((uses a form).object s)) (sym string) (literal_there ((uses a form).object) ((uses a form).named) (is.as_literal literal.0) s stands)

  pub value_builds : (form : Form) → IsWhole a visible types texts fs f setting form → (t : Ty) → is_owner_of_values a.program.types t ≡ true → is_given a.program.types t (typed_in form) ≡ true → (behind : Place) (s : State) → Stood s
      → BuildsAs t s (giving.given (uses a form) t behind s)
  value_builds form is t o given behind s stands =
      let literal = given_literal form is t o given in
      subst (BuildsAs t s) (sym (owner_given t (uses a form) behind s o))
      (subst (λ (c : Category). BuildsAs t s (object_by c (uses a form).at (uses a form).object s)) (sym literal.1 ∙ held_typed a visible types texts fs f setting form) (literal_object form is t o given s stands))

  -- ---- what a reference refers to, or what is built for it

  abbrev BuildsAny : Ty → State → Gives Remaining → Type 0
  BuildsAny t s w = BuildsIn a visible types texts fs f setting false t s w

  pub data IsAliased (u : Uses) (target : TyId) (constant : Bool) : Type 0 where
    to_place : (held : Bool) → is_place_of u.category target ≡ true → keeps_const constant held ≡ true → ((s : State) → Stood s → PlacedAs (type_at a.program.types target) held s (u.at s)) → IsAliased u target constant
    to_built : is_place_of u.category target ≡ false → ((behind : Place) (s : State) → Stood s → BuildsAny (type_at a.program.types target) s (giving.given u (type_at a.program.types target) behind s)) → IsAliased u target constant

  module _ (form : Form) (target : TyId) (constant : Bool) (o : is_owner_of_values a.program.types (type_at a.program.types target) ≡ true) (given : is_given a.program.types (ty.Reference target constant) (typed_in form) ≡ true) where
    bound : IsBound a.program.types target constant (typed_in form)
    bound = given_bound a.program.types target constant (typed_in form) (owner_target a.program.types (type_at a.program.types target) o) given

    seen_here : is_place_of (uses a form).category target ≡ is_place_of (typed_in form).category target
    seen_here = ap (λ (c : Category). is_place_of c target) (sym (held_typed a visible types texts fs f setting form))

    pub owning_aliased : IsOwning a visible types texts fs f setting form → IsAliased (uses a form) target constant
    owning_aliased from = go from bound
      where
        go : IsOwning a visible types texts fs f setting form → IsBound a.program.types target constant (typed_in form) → IsAliased (uses a form) target constant
        go (stands_there is) (at_place b) =
            let same = sym is.place ∙ b.place in
            to_place b.held (seen_here ∙ b.here) b.kept
            (λ s stands.
            subst (λ (d : Bool). PlacedAs (type_at a.program.types target) d s ((uses a form).at s)) (const_same is.id target is.constant b.held same)
            (subst (λ (t : Ty). PlacedAs t is.constant s ((uses a form).at s)) (sym is.here ∙ ap (type_at a.program.types) (place_same is.id target is.constant b.held same)) (is.names s stands)))
        go (is_made is) (at_place b) = absurd (value_place (sym is.value ∙ b.place))
        go from (by_temporary none initial) =
            to_built (seen_here ∙ none)
            (λ behind s stands.
            less_plain a visible types texts fs f setting (type_at a.program.types target) s (giving.given (uses a form) (type_at a.program.types target) behind s) (owning_builds form from (type_at a.program.types target) o initial behind s stands))

    pub whole_aliased : IsWhole a visible types texts fs f setting form → IsAliased (uses a form) target constant
    whole_aliased is = go bound
      where
        go : IsBound a.program.types target constant (typed_in form) → IsAliased (uses a form) target constant
        go (at_place b) = absurd (kind_no_owner a.program.types (typed_in form) is.kind.kind (type_at a.program.types target) o (is.kind.place target b.held b.place))
        go (by_temporary none initial) =
            to_built (seen_here ∙ none)
            (λ behind s stands.
            less_plain a visible types texts fs f setting (type_at a.program.types target) s (giving.given (uses a form) (type_at a.program.types target) behind s) (value_builds form is (type_at a.program.types target) o initial behind s stands))

  -- a reference to a value is given no owner
  pub value_reference_refused : (form : Form) (target : TyId) (constant : Bool) → is_value (type_at a.program.types target) ≡ true → is_given a.program.types (ty.Reference target constant) (typed_in form) ≡ true → IsOwning a visible types texts fs f setting form → ⊥
  value_reference_refused form target constant worth given from = go from (given_bound a.program.types target constant (typed_in form) (value_target a.program.types (type_at a.program.types target) worth) given)
    where
      go : IsOwning a visible types texts fs f setting form → IsBound a.program.types target constant (typed_in form) → ⊥
      go (stands_there is) (at_place there) =
          owner_no_value a.program.types is.ty is.owner (ap is_value (sym is.here ∙ ap (type_at a.program.types) (place_same is.id target is.constant there.held (sym is.place ∙ there.place))) ∙ worth)
      go (is_made is) (at_place there) = value_place (sym is.value ∙ there.place)
      go from (by_temporary none initial) =
          let o = owning_owner a visible types texts fs f setting form from in
          owner_no_value a.program.types o.ty o.owner (subst (λ (x : ExprType). is_number x ≡ true) o.is (given_number a.program.types (type_at a.program.types target) (typed_in form) worth initial))

  -- .. nor is a reference to a struct
  pub struct_reference_refused : (form : Form) (target : TyId) (constant : Bool) (number : ℕ) → type_at a.program.types target ≡ ty.Struct number → is_target a.program.types (type_at a.program.types target) ≡ true → is_given a.program.types (ty.Reference target constant) (typed_in form) ≡ true → IsOwning a visible types texts fs f setting form → ⊥
  struct_reference_refused form target constant number structure wide given from =
      go from (given_bound a.program.types target constant (typed_in form) wide given)
    where
      go : IsOwning a visible types texts fs f setting form → IsBound a.program.types target constant (typed_in form) → ⊥
      go (stands_there is) (at_place there) =
          false≢true (subst (λ (t : Ty). is_owner_of_values a.program.types t ≡ true) (sym is.here ∙ ap (type_at a.program.types) (place_same is.id target is.constant there.held (sym is.place ∙ there.place)) ∙ structure) is.owner)
      go (is_made is) (at_place there) = value_place (sym is.value ∙ there.place)
      go from (by_temporary none initial) =
          let o = owning_owner a visible types texts fs f setting form from in
          owner_no_struct_given a.program.types o.ty o.owner number (typed_in form).category
          (subst (λ (x : ExprType). fits_at_all (fits a.program.types (ty.Struct number) x (typed_in form).category) ≡ true) o.is (subst (λ (t : Ty). is_given a.program.types t (typed_in form) ≡ true) structure initial))

  -- .. and no reference to one, to an owner or to a struct, is given an iterator or a span
  pub walker_reference_refused : (form : Form) (target : TyId) (constant : Bool) → is_target a.program.types (type_at a.program.types target) ≡ true → is_given a.program.types (ty.Reference target constant) (typed_in form) ≡ true → IsWalker a visible types texts fs f setting form → ⊥
  walker_reference_refused form target constant wide given from = go (given_bound a.program.types target constant (typed_in form) wide given) (target_is a.program.types (type_at a.program.types target) wide)
    where
      same : {u w : Ty} → Of u ≡ Of w → u ≡ w
      same e = cc

      walks : is_walker_of_values a.program.types from.ty ≡ true
      walks = from.walker

      go : IsBound a.program.types target constant (typed_in form) → IsTarget a.program.types (type_at a.program.types target) → ⊥
      go (at_place there) (to_value v) = false≢true (sym (walker_is a.program.types from.ty from.walker).value ∙ ap is_value (same (sym from.is ∙ from.place target there.held there.place)) ∙ v)
      go (at_place there) (to_owner o) =
          false≢true (sym (walker_is a.program.types from.ty from.walker).owner ∙ ap owns_elements (same (sym from.is ∙ from.place target there.held there.place)) ∙ owner_is a.program.types (type_at a.program.types target) o)
      go (at_place there) (to_struct number s pointless) =
          false≢true (subst (λ (u : Ty). is_walker_of_values a.program.types u ≡ true) (same (sym from.is ∙ from.place target there.held there.place) ∙ s) walks)
      go (by_temporary none initial) (to_struct number s pointless) =
          walker_no_struct_given a.program.types from.ty walks number (typed_in form).category
          (subst (λ (x : ExprType). fits_at_all (fits a.program.types (ty.Struct number) x (typed_in form).category) ≡ true) from.is (subst (λ (t : Ty). is_given a.program.types t (typed_in form) ≡ true) s initial))
      go (by_temporary none initial) (to_value v) =
          false≢true (sym (walker_is a.program.types from.ty from.walker).value ∙ subst (λ (x : ExprType). is_number x ≡ true) from.is (given_number a.program.types (type_at a.program.types target) (typed_in form) v initial))
      go (by_temporary none initial) (to_owner o) =
          no_owner_given a.program.types (type_at a.program.types target) o from.ty (walker_is a.program.types from.ty from.walker).owner (typed_in form).category
          (subst (λ (x : ExprType). fits_at_all (fits a.program.types (type_at a.program.types target) x (typed_in form).category) ≡ true) from.is initial)
