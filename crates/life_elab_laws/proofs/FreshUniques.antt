-- unique_ptrs that are built where they have come to life: of nullptr, made anew, or of what is moved out of a variable.
use Rattle.std.proofs.Common.{◌≡◌, [], ℕ, true, List, ◌∷◌, Contains, refl, sym, ap, ◌∙◌, subst, false, None}
use Rattle.std.proofs.lemmas.Bool.{false≢true}
use Rattle.life_elab_laws.proofs.ObjectTypes.{is_element}
use Rattle.life_elab_laws.proofs.TypeKinds.{is_unique_type}
use Rattle.life_types.specs.TypeTests.{is_unique, is_value}
use Rattle.life_types.specs.Types.{Types}
use Rattle.life_types.specs.declared.place.Place.{Place}
use Rattle.life_types.specs.declared.ty.Ty.{Ty}
use Rattle.life_types.specs.declared.ty.Ty.TheVariants as ty
use Rattle.life_types.specs.declared.ty.TyId.{TyId}
use Rattle.life_typed.specs.BaseTypes.{type_at}
use Rattle.life_typed.specs.Conversions.{fits}
use Rattle.life_typed.specs.TypedForm.{Form, Typed, make_unique}
use Rattle.life_typed.specs.declared.typed_expr.Category.{Category}
use Rattle.life_typed.specs.declared.typed_expr.Category.TheVariants as category
use Rattle.life_typed.specs.declared.typed_expr.ExprType.{ExprType}
use Rattle.life_typed.specs.declared.typed_expr.ExprType.TheVariants.{NullPointer, Of, TextLiteral}
use Rattle.life_type_expr.specs.Lists.{fits_at_all}
use Rattle.life_core.specs.Function.{Function}
use Rattle.life_core.specs.Operands.{Operand, object_named, whole}
use Rattle.life_core.specs.Step.{Make}
use Rattle.life_core.specs.Tree.{Acts}
use Rattle.life_core.specs.declared.instr.Form.TheVariants.{Plain}
use Rattle.life_core.specs.declared.instr.Made.{Made}
use Rattle.life_core.specs.declared.instr.Made.TheVariants as made
use Rattle.life_well_typed.specs.Expressions.{IsMadeOf, typed_in}
use Rattle.life_well_typed.specs.Given.{is_given}
use Rattle.life_writer.specs.Around.{Around, type_of}
use Rattle.life_writer.specs.ExpressionForms.{form_uses, uses, uses_if}
use Rattle.life_writer.specs.Giving as giving
use Rattle.life_writer.specs.OwnerForms.{made_at, made_null, move_uses, moved_out_of, owned_operand}
use Rattle.life_writer.specs.Uses.{Remaining, lived}
use Rattle.life_writer.specs.Using.{location_in}
use Rattle.life_writer.specs.Writing.{Gives, State, gives, mapped}
use Rattle.life_elab_laws.proofs.ExpressionForms.{IsWhole, Standing}
use Rattle.life_elab_laws.proofs.Gifts.{a_place, both, nothing as no_gift}
use Rattle.life_elab_laws.proofs.MadeForms.{Builds, IsNew, lived_builds, of_target}
use Rattle.life_elab_laws.proofs.MovedForms.{moved_builds}
use Rattle.life_elab_laws.proofs.MovedOwners.{IsMovedFrom, given_moved}
use Rattle.life_elab_laws.proofs.ContentBirths.{taken_builds}
use Rattle.life_elab_laws.proofs.OwnedContents.{IsContentOf, IsGivingIfAny, content_as, is_found, is_over}
use Rattle.life_elab_laws.proofs.Parts.{Makes, Part, leaf_part}
use Rattle.life_elab_laws.proofs.PointerForms.{held_typed}
use Rattle.life_elab_laws.proofs.Setting.{Setting}
use Rattle.life_elab_laws.proofs.TypedKinds.{HasKind, a_null, a_number, a_pointer, a_text, a_view, no_value}
use Rattle.life_elab_laws.proofs.UniqueSteps.{a_made, made_uses_of, makes_part, null_fits}
use Rattle.life_elab_laws.proofs.Values.{by_values}

module _ (a : Around) (visible : List ℕ) (types : Types) (texts : ℕ) (fs : List Function) (f : Function) (setting : Setting a types fs f) where
  abbrev Stood : State → Type 0
  Stood s = Standing a visible types texts fs f setting s

  abbrev BuildsTo : TyId → State → Gives Remaining → Type 0
  BuildsTo target s w = Builds a visible types texts fs f setting (ty.Unique target) s w

  -- ---- it is made to own what was found first

  -- .. where it has come to life
  owned_part : (target : TyId) (place : Place) (what : Made) (to : Operand) (s s' : State) → IsNew a visible types texts fs f setting s s' to
      → Part types texts fs f (both types texts fs f (a_made types texts fs f target) (a_place types texts fs f (ty.Unique target) false)) (what, to) None s' (gives tt (made_at place what place to s')) (no_gift types texts fs f)
  owned_part target place what to s s' new =
      let P = both types texts fs f (a_made types texts fs f target) (a_place types texts fs f (ty.Unique target) false) in
      subst (λ (o : Operand). Part types texts fs f P (what, o) None s' (gives tt (made_at place what place o s')) (no_gift types texts fs f)) (sym new.is)
      (makes_part types texts fs f P (what, object_named new.number) target what (made_uses_of what) (whole new.number) place s' (λ q. (q.1, q.0)) (λ n k q. (q.1, q.0)))

  owned_builds : (target : TyId) (at : Place → Place) (w : Gives Made) (s : State) → Makes types texts fs f None s w (a_made types texts fs f target)
      → BuildsTo target s (gives (lived Plain (λ place to s. made_at (at place) w.given place to s)) w.state)
  owned_builds target at w s found =
      lived_builds a visible types texts fs f setting true (ty.Unique target) s w.state (of_target target) w.given Plain (λ place to s. made_at (at place) w.given place to s) found refl
      (λ place to s' there still new. owned_part target (at place) w.given to s s' new)
      (λ e. record {
        free = λ place to s pending. refl;
        kept = λ place to s living. refl;
        code = λ place to s. Acts (at place) (Make (location_in to) w.given) ∷ [];
        written = λ place to s. refl;
        looks = λ place to s still y m. m;
      })

  -- ---- nullptr, which has a value

  pub nothing_builds : (target : TyId) (s : State) → BuildsTo target s (gives (lived Plain made_null) s)
  nothing_builds target s =
      owned_builds target (λ place. place) (gives made.Null s) s (leaf_part types texts fs f made.Null s (a_made types texts fs f target) (λ b. null_fits types texts fs f target) (λ b k alive. tt))

  -- no other value is given to one
  pub given_null : (e : Typed) → HasKind a.program.types e → (target : TyId) → is_given a.program.types (ty.Unique target) e ≡ true → (e.ty ≡ NullPointer) × (e.category ≡ category.Value)
  given_null e kind target given = go kind
    where
      as_told : (x : ExprType) → e.ty ≡ x → fits_at_all (fits a.program.types (ty.Unique target) x e.category) ≡ true
      as_told x at = subst (λ (x : ExprType). fits_at_all (fits a.program.types (ty.Unique target) x e.category) ≡ true) at given

      no_number : (u : Ty) → is_value u ≡ true → fits_at_all (fits a.program.types (ty.Unique target) (Of u) e.category) ≡ true → ⊥
      no_number = by_values (λ u. fits_at_all (fits a.program.types (ty.Unique target) (Of u) e.category) ≡ true → ⊥) (λ h. false≢true h) (λ h. false≢true h) (λ h. false≢true h) (λ h. false≢true h) (λ h. false≢true h)

      go : HasKind a.program.types e → (e.ty ≡ NullPointer) × (e.category ≡ category.Value)
      go (a_null at v) = (at, v)
      go (a_number u at v) = absurd (no_number u v (as_told (Of u) at))
      go (a_pointer item constant at v) = absurd (false≢true (as_told (Of (ty.Raw item constant)) at))
      go (a_view at) = absurd (false≢true (as_told (Of ty.View) at))
      go (a_text at v) = absurd (false≢true (as_told TextLiteral at))
      go (no_value at v) = absurd (false≢true (as_told (Of ty.Void) at))

  pub null_builds : (form : Form) → IsWhole a visible types texts fs f setting form → (target : TyId) → is_given a.program.types (ty.Unique target) (typed_in form) ≡ true → (behind : Place) (s : State) → Stood s
      → BuildsTo target s (giving.given (uses a form) (ty.Unique target) behind s)
  null_builds form is target given behind s stands =
      let null = given_null (typed_in form) is.kind.kind target given in
      subst (λ (c : Category). BuildsTo target s (giving.object_by c (uses a form).at (uses a form).object s)) (sym null.1 ∙ held_typed a visible types texts fs f setting form)
      (subst (λ (x : State → Gives Remaining). BuildsTo target s (x s)) (sym (is.as_null null.0).0) (nothing_builds target s))

  -- ---- an expression that makes one, or moves one out of a variable

  pub record IsFreshAt (e : Typed) (object : State → Gives Remaining) : Type 0 where
    pub owned : TyId
    pub is : e.ty ≡ Of (ty.Unique owned)
    pub value : e.category ≡ category.Value
    pub builds : (target : TyId) → is_element a.program.types (type_at a.program.types target) ≡ true → is_given a.program.types (ty.Unique target) e ≡ true → (s : State) → Stood s → BuildsTo target s (object s)

  abbrev pub IsFresh : Form → Type 0
  IsFresh form = IsFreshAt (typed_in form) ((uses a form).object)

  -- .. in parentheses
  abbrev pub fresh_same : (e e' : Typed) (object : State → Gives Remaining) → e.ty ≡ e'.ty → e.category ≡ e'.category → IsFreshAt e object → IsFreshAt e' object
  fresh_same e e' object t c is = record {
    owned = is.owned;
    is = sym t ∙ is.is;
    value = sym c ∙ is.value;
    builds = λ target worth given s stands.
        is.builds target worth (subst (λ (x : ExprType). fits_at_all (fits a.program.types (ty.Unique target) x e.category) ≡ true) (sym t) (subst (λ (k : Category). fits_at_all (fits a.program.types (ty.Unique target) e'.ty k) ≡ true) (sym c) given)) s stands;
  }

  pub moved_fresh : (x : ℕ) (e : Typed) (place : Place) → is_unique_type e.ty ≡ true → Contains visible x → IsMovedFrom a visible types texts fs f setting x e → IsFreshAt e ((move_uses x place e.ty e.category).object)
  moved_fresh x e place n c from = go from.ty refl (ap is_unique_type (sym from.is) ∙ n)
    where
      go : (t : Ty) → from.ty ≡ t → is_unique t ≡ true → IsFreshAt e ((move_uses x place e.ty e.category).object)
      go (ty.Unique owned) at u = record {
        owned = owned;
        is = from.is ∙ ap Of at;
        value = from.value;
        builds = λ target worth given s stands.
            subst (λ (t : Ty). Builds a visible types texts fs f setting t s (gives (lived Plain (moved_out_of place x)) s)) (given_moved a visible types texts fs f setting (ty.Unique target) from.ty e refl from.owner from.is given)
            (moved_builds a visible types texts fs f setting x e c from place s stands);
      }
      go _ at u = absurd (false≢true u)

  -- whatever it is made to own
  pub content_builds : (target id : TyId) (argument : Form) (closing place : Place) → IsContentOf a visible types texts fs f setting target id argument closing → (s : State) → Stood s
      → BuildsTo target s (mapped (lived Plain) (mapped (made_at place) (owned_operand (type_of a id) (uses_if a argument) closing s)))
  content_builds target id argument closing place (is_found owned) s stands = owned_builds target (λ at. place) (owned_operand (type_of a id) (uses_if a argument) closing s) s (owned.makes s stands)
  content_builds target id argument closing place (is_over t plain holds makes) s stands =
      let over = makes s stands in
      subst (λ (w : Gives Made). BuildsTo target s (mapped (lived Plain) (mapped (made_at place) w))) (sym over.is) (taken_builds a visible types texts fs f setting t plain target holds place s over.given over.over)

  abbrev pub made_fresh : (id : TyId) (argument : Form) (closing : Place) (e : Typed) (place : Place) → IsGivingIfAny a visible types texts fs f setting argument
      → IsMadeOf a.program a.function.locals visible e (make_unique id argument closing) → IsFreshAt e ((form_uses a (make_unique id argument closing) place e.ty e.category).object)
  made_fresh id argument closing e place giving h = record {
    owned = id;
    is = ap (λ (y : Typed). y.ty) h.0;
    value = ap (λ (y : Typed). y.category) h.0;
    builds = λ target worth given s stands. content_builds target id argument closing place (content_as a visible types texts fs f setting target worth id argument closing e given h giving) s stands;
  }

  -- what is given it builds that
  pub fresh_builds : (form : Form) → IsFresh form → (target : TyId) → is_element a.program.types (type_at a.program.types target) ≡ true → is_given a.program.types (ty.Unique target) (typed_in form) ≡ true → (behind : Place) (s : State) → Stood s
      → BuildsTo target s (giving.given (uses a form) (ty.Unique target) behind s)
  fresh_builds form is target worth given behind s stands =
      subst (λ (c : Category). BuildsTo target s (giving.object_by c (uses a form).at (uses a form).object s)) (sym is.value ∙ held_typed a visible types texts fs f setting form) (is.builds target worth given s stands)
