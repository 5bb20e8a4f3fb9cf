-- Owners that are assigned to: one at a place, or one that is made, which is a temporary.
use Rattle.std.proofs.Common.{◌≡◌, ◌<◌, ◌&&◌, ◌||◌, ℕ, true, false, arith, Contains, length, slice_get, Option, Some, None, sym, ap, ◌∙◌, subst, unwrap_or, List, inl, inr, not}
use Rattle.std.proofs.lemmas.Bool.{and_parts, false≢true, or_cases}
use Rattle.life_elab_laws.proofs.FormKinds.{is_read_object, is_read_owner}
use Rattle.life_elab_laws.proofs.ObjectTypes.{is_owner_of_values}
use Rattle.life_elab_laws.proofs.TypeKinds.{is_owner_type}
use Rattle.life_types.specs.Types.{Types, class}
use Rattle.life_types.specs.declared.place.Place.{Place}
use Rattle.life_types.specs.declared.ty.Class.{Class}
use Rattle.life_types.specs.declared.ty.Ty.{Ty}
use Rattle.life_typed.specs.Conversions.{is_place}
use Rattle.life_typed.specs.TypedForm.{Form, Typed, whole as whole_form}
use Rattle.life_typed.specs.TypedStatement.{one}
use Rattle.life_typed.specs.declared.typed_expr.Category.{Category}
use Rattle.life_typed.specs.declared.typed_expr.Category.TheVariants as category
use Rattle.life_typed.specs.declared.typed_expr.ExprType.TheVariants.{Of}
use Rattle.life_typed.specs.declared.typed_program.TypedLocal.{TypedLocal}
use Rattle.life_type_expr.specs.Operands.{is_constant}
use Rattle.life_type_stmt.specs.Simples.{named_in, onto_itself}
use Rattle.life_core.specs.Function.{Function}
use Rattle.life_core.specs.Operands.{Operand}
use Rattle.life_proper.specs.WellFormed.{is_itself}
use Rattle.life_well_typed.specs.Expressions.{IsExpression, typed_in}
use Rattle.life_writer.specs.Around.{Around, own_type}
use Rattle.life_writer.specs.Assigning.{acted, assigned_by, owner_by, replaced_by}
use Rattle.life_writer.specs.ExpressionForms.{uses}
use Rattle.life_writer.specs.OwnerForms.{moved_from}
use Rattle.life_writer.specs.Uses.{Act, Uses}
use Rattle.life_writer.specs.Using.{operand, temporary_of}
use Rattle.life_writer.specs.Variables.{variable}
use Rattle.life_writer.specs.Writing.{Gives, State, gives}
use Rattle.life_elab.specs.SimpleForms.{assigned, target_of}
use Rattle.life_elab_laws.proofs.ExpressionForms.{Standing}
use Rattle.life_elab_laws.proofs.Expressions.{object_expression, owner_expression}
use Rattle.life_elab_laws.proofs.FreeObjects.{object_part}
use Rattle.life_elab_laws.proofs.Gifts.{a_place, both, nothing as no_gift}
use Rattle.life_elab_laws.proofs.MadeForms.{IsMade, IsOwning, is_made, made_placed, made_temporary, stands_there, temporary_beyond}
use Rattle.life_elab_laws.proofs.MoveSteps.{a_source, moves_part, owner_moves}
use Rattle.life_elab_laws.proofs.MovedOwners.{IsMovedFrom, IsNamedAt, source_part}
use Rattle.life_elab_laws.proofs.NamedTargets.{named_target}
use Rattle.life_elab_laws.proofs.ObjectForms.{IsObject, other_number}
use Rattle.life_elab_laws.proofs.Parts.{Makes, and_part, then_part}
use Rattle.life_elab_laws.proofs.PointerForms.{placed_operand}
use Rattle.life_elab_laws.proofs.Setting.{Setting}
use Rattle.life_elab_laws.proofs.VariablePlaces.{IsVariableAt, stands_later}
use Rattle.life_elab_laws.proofs.Types.{owner_class}

module _ (a : Around) (visible : List ℕ) (types : Types) (texts : ℕ) (fs : List Function) (f : Function) (setting : Setting a types fs f) where
  abbrev Stood : State → Type 0
  Stood s = Standing a visible types texts fs f setting s

  pub record IsAssignable (form : Form) : Type 0 where
    pub ty : Ty
    pub is : (typed_in form).ty ≡ Of ty
    pub owner : is_owner_of_values a.program.types ty ≡ true
    pub placed : (s : State) → Stood s → Makes types texts fs f None s (operand (uses a form) s) (a_place types texts fs f ty false)
    -- it is none of the locals that are there and no variables
    pub apart : (s : State) → Stood s → (y : ℕ) → y < length s.locals → (Contains s.living y → ⊥) → is_itself types texts fs f y (operand (uses a form) s).given ≡ false
    -- .. and no variable but the one that it names, if it names one
    pub other : (x : ℕ) (v : TypedLocal) → Contains visible x → slice_get a.function.locals x ≡ Some v → onto_itself (named_in form) (Some x) ≡ None → (s : State) → Stood s → is_itself types texts fs f (variable s x) (operand (uses a form) s).given ≡ false

  -- one at a place
  object_assignable : (form : Form) → (is : IsObject a visible types texts fs f setting form) → is.constant ≡ false → IsNamedAt a visible types texts fs f setting (named_in form) ((uses a form).at) → IsAssignable form
  object_assignable form is free name = record {
    ty = is.ty;
    is = is.is;
    owner = is.owner;
    placed = λ s stands. object_part a visible types texts fs f setting form is free s stands;
    apart = λ s stands y there dead. ap (λ (g : Gives Operand). is_itself types texts fs f y g.given) (here s) ∙ is.apart s stands y dead;
    other = λ x v seen found else s stands. ap (λ (g : Gives Operand). is_itself types texts fs f (variable s x) g.given) (here s) ∙ name.apart x v seen found else s stands;
  }
    where
      here : (s : State) → operand (uses a form) s ≡ (uses a form).at s
      here s = placed_operand a visible types texts fs f setting form is.id is.constant s is.place

  -- one that is made
  made_assignable : (form : Form) → IsMade a visible types texts fs f setting form → IsAssignable form
  made_assignable form is = record {
    ty = is.ty;
    is = is.is;
    owner = is.owner;
    placed = λ s stands. made_placed a visible types texts fs f setting form is s stands;
    apart = λ s stands y there dead. aside s y (λ e. let far = temporary_beyond a visible types texts fs f setting is.ty u.place s (u.object s) (inl is.owner) (is.builds s stands) stands in omega (arith, e, there, far));
    other = λ x v seen found else s stands. aside s (variable s x) (λ e. fresh x v seen found s stands e);
  }
    where
      u : Uses
      u = uses a form

      aside : (s : State) (y : ℕ) → ((temporary_of u is.ty s).given ≡ y → ⊥) → is_itself types texts fs f y (operand u s).given ≡ false
      aside s y apart = ap (λ (g : Gives Operand). is_itself types texts fs f y g.given) (made_temporary a visible types texts fs f setting form is s) ∙ other_number (temporary_of u is.ty s).given y apart

      -- no variable is new
      fresh : (x : ℕ) (v : TypedLocal) → Contains visible x → slice_get a.function.locals x ≡ Some v → (s : State) → Stood s → (temporary_of u is.ty s).given ≡ variable s x → ⊥
      fresh x v seen found s stands e =
          let at : IsVariableAt a s x v = stands.seen x v seen found in
          let far = temporary_beyond a visible types texts fs f setting is.ty u.place s (u.object s) (inl is.owner) (is.builds s stands) stands in
          let lt = stands.opened (variable s x) at.lives in
          omega (arith, e, far, lt)

  -- ---- whichever it is

  pub assignable_owner : (target : Typed) → (is_owner_type target.ty && (is_read_object texts a.program (whole_form target) || (not (is_place target.category) && is_read_owner texts a.program (whole_form target)))) ≡ true
      → is_constant target.category ≡ false → IsExpression a.program a.function.locals visible (whole_form target) → IsAssignable (whole_form target)
  assignable_owner target b free h =
      let one = and_parts (is_owner_type target.ty) (is_read_object texts a.program (whole_form target) || (not (is_place target.category) && is_read_owner texts a.program (whole_form target))) b in
      elim (or_cases (is_read_object texts a.program (whole_form target)) (not (is_place target.category) && is_read_owner texts a.program (whole_form target)) one.1) [
        | inl object ↦
            let to = object_expression a visible types texts fs f setting (whole_form target) object one.0 h in
            object_assignable (whole_form target) to (sym (ap is_constant to.place) ∙ free) (named_target a visible types texts fs f setting (whole_form target) object one.0 h)
        | inr made ↦
            let two = and_parts (not (is_place target.category)) (is_read_owner texts a.program (whole_form target)) made in
            temporary two.0 (owner_expression a visible types texts fs f setting (whole_form target) two.1 one.0 h)
      ]
    where
      temporary : not (is_place target.category) ≡ true → IsOwning a visible types texts fs f setting (whole_form target) → IsAssignable (whole_form target)
      temporary none (stands_there is) = absurd (false≢true (sym (ap (λ (c : Category). not (is_place c)) is.place) ∙ none))
      temporary none (is_made is) = made_assignable (whole_form target) is

  -- ---- assignments

  -- it is given what a variable owns, at `move`
  pub moved_assigned_part : (target : Typed) (x : ℕ) (moved e : Typed) (place equals behind : Place) (s : State) → (to : IsAssignable (whole_form target)) → onto_itself (named_in (whole_form target)) (Some x) ≡ None
      → (uses a (whole_form e)).replacing ≡ Some (moved_from place x) → e.category ≡ category.Value → Contains visible x
      → (is : IsMovedFrom a visible types texts fs f setting x moved) → is.ty ≡ to.ty → Stood s → Makes types texts fs f None s (gives tt (assigned a target equals (one e) behind s)) (no_gift types texts fs f)
  moved_assigned_part target x moved e place equals behind s to other replaces value c is alike stands =
      let u = uses a (whole_form e) in
      let t = target_of (uses a (whole_form target)) in
      let o = operand (uses a (whole_form target)) s in
      let P = a_place types texts fs f to.ty false in
      let first = to.placed s stands in
      let later = stands_later a visible s o.state first.grown stands in
      let from = variable o.state x in
      let S = a_source types texts fs f to.ty in
      let second = subst (λ (u : Ty). Makes types texts fs f None o.state (gives from o.state) (a_source types texts fs f u)) alike (source_part a visible types texts fs f setting x moved is c o.state later) in
      let stays : variable o.state x ≡ variable s x = ap (λ (vs : List ℕ). unwrap_or (slice_get vs x) 0) first.grown.variables in
      let others = ap (λ (z : ℕ). is_itself types texts fs f z o.given) stays ∙ to.other x is.source c is.found other s stands in
      subst (λ (r : State). Makes types texts fs f None s (gives tt r) (no_gift types texts fs f))
      (sym (ap (λ (k : Class). assigned_by k u (own_type target.ty) t equals behind s) (ap (λ (w : Ty). class (Some w)) (ap own_type to.is) ∙ owner_class a.program.types to.ty to.owner)
      ∙ ap (λ (w : Ty). acted (owner_by u.category u w s) t equals) (ap own_type to.is)
      ∙ ap (λ (k : Category). acted (owner_by k u to.ty s) t equals) value
      ∙ ap (λ (r : Option (State → Gives Act)). acted (replaced_by r (temporary_of u to.ty) s) t equals) replaces))
      (then_part types texts fs f (no_gift types texts fs f) tt None s (gives (o.given, from) o.state) _ (both types texts fs f P S) (no_gift types texts fs f) stands.opened
      (and_part types texts fs f (no_gift types texts fs f) tt s o (gives from o.state) P S stands.opened first second)
      (moves_part types texts fs f (both types texts fs f P S) (o.given, from) to.ty o.given (variable o.state x) place o.state (owner_moves a.program.types to.ty to.owner) (λ h. h) (λ n k q. q) others))
