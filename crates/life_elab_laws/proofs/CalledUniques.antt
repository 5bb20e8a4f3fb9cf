-- A unique_ptr that a call gives.
use Rattle.std.proofs.Common.{◌≡◌, inr, ℕ, true, List, Option, Some, None, slice_get, sym, ap, ◌∙◌, subst, refl, inl}
use Rattle.std.proofs.lemmas.Bool.{false≢true}
use Rattle.life_elab_laws.proofs.ObjectTypes.{is_element, is_unique_of_element}
use Rattle.life_elab_laws.proofs.TypeKinds.{is_unique_type}
use Rattle.life_types.specs.Types.{Types}
use Rattle.life_types.specs.declared.place.Place.{Place}
use Rattle.life_types.specs.declared.ty.Ty.{Ty}
use Rattle.life_types.specs.declared.ty.Ty.TheVariants as ty
use Rattle.life_types.specs.declared.ty.TyId.{TyId}
use Rattle.life_typed.specs.BaseTypes.{type_at}
use Rattle.life_typed.specs.Delimiters.{DelimitersForm}
use Rattle.life_typed.specs.Programs.{FunctionForm}
use Rattle.life_typed.specs.TypedForm.{Form, Typed, call}
use Rattle.life_typed.specs.declared.typed_expr.Category.{Category}
use Rattle.life_typed.specs.declared.typed_expr.Category.TheVariants as category
use Rattle.life_typed.specs.declared.typed_expr.ExprType.{ExprType}
use Rattle.life_typed.specs.declared.typed_expr.ExprType.TheVariants.{Of}
use Rattle.life_core.specs.Function.{Function}
use Rattle.life_well_typed.specs.Expressions.{HasResult, parameter_types}
use Rattle.life_writer.specs.Around.{Around, parameters_of}
use Rattle.life_writer.specs.Around as around
use Rattle.life_writer.specs.ExpressionForms.{all_uses, form_uses}
use Rattle.life_writer.specs.Giving as giving
use Rattle.life_writer.specs.Writing.{State}
use Rattle.life_elab_laws.proofs.CalledOwners.{call_builds}
use Rattle.life_elab_laws.proofs.ExpressionForms.{Hands, Standing}
use Rattle.life_elab_laws.proofs.ExpressionTypes.{IsAnswered, answered_as, answers_made, answers_nothing, answers_owner, answers_place, answers_raw, answers_struct, answers_unique, answers_value, answers_view, answers_walker, answers_whole}
use Rattle.life_elab_laws.proofs.FreshUniques.{IsFreshAt}
use Rattle.life_elab_laws.proofs.MadeForms.{Builds}
use Rattle.life_elab_laws.proofs.MovedOwners.{given_moved}
use Rattle.life_elab_laws.proofs.PointerForms.{result_later}
use Rattle.life_elab_laws.proofs.ResultTypes.{result_is}
use Rattle.life_elab_laws.proofs.Setting.{Setting}
use Rattle.life_elab_laws.proofs.TypedKinds.{value_simple}
use Rattle.life_elab_laws.proofs.UniqueForms.{owner_no_unique, walker_no_unique}
use Rattle.life_elab_laws.proofs.AnsweredUniques.{IsAnsweredAt}

-- no other answer is one
unique_answered : (types : Types) (result : Ty) (t : ExprType) (k : Category) → IsAnswered types result t k → is_unique_type t ≡ true → (target : TyId) × (result ≡ ty.Unique target) × (is_element types (type_at types target) ≡ true) × (t ≡ Of (ty.Unique target)) × (k ≡ category.Value)
unique_answered types result t k (answers_nothing void own held) n = absurd (false≢true (sym (ap is_unique_type own) ∙ n))
unique_answered types result t k (answers_value v own held) n = absurd (false≢true (sym (ap is_unique_type own ∙ (value_simple result v).unique) ∙ n))
unique_answered types result t k (answers_whole number whole own held) n = absurd (false≢true (sym (ap is_unique_type own) ∙ n))
unique_answered types result t k (answers_raw target constant raw w own held) n = absurd (false≢true (sym (ap is_unique_type own) ∙ n))
unique_answered types result t k (answers_view view own held) n = absurd (false≢true (sym (ap is_unique_type own) ∙ n))
unique_answered types result t k (answers_walker w own held) n = absurd (false≢true (sym (ap is_unique_type own ∙ walker_no_unique types result w) ∙ n))
unique_answered types result t k (answers_made o own held) n = absurd (false≢true (sym (ap is_unique_type own ∙ owner_no_unique types result o) ∙ n))
unique_answered types result t k (answers_unique target unique w own held) n = (target, unique, w, own, held)
unique_answered types result t k (answers_place target constant refers w own held) n = absurd (false≢true (sym (ap is_unique_type own ∙ (value_simple (type_at types target) w).unique) ∙ n))
unique_answered types result t k (answers_owner target constant refers o own held) n = absurd (false≢true (sym (ap is_unique_type own ∙ owner_no_unique types (type_at types target) o) ∙ n))
unique_answered types result t k (answers_struct target constant number refers structure pointless own held) n = absurd (false≢true (sym (ap is_unique_type own) ∙ n))

module _ (a : Around) (visible : List ℕ) (types : Types) (texts : ℕ) (fs : List Function) (f : Function) (setting : Setting a types fs f) where
  abbrev Stood : State → Type 0
  Stood s = Standing a visible types texts fs f setting s

  -- what it owns
  pub called_unique : (g : ℕ) (e : Typed) → is_unique_type e.ty ≡ true → HasResult a.program.types (slice_get a.program.functions g) e → (target : TyId) × (is_element a.program.types (type_at a.program.types target) ≡ true) × (e.ty ≡ Of (ty.Unique target))
  called_unique g e n h = go (slice_get a.program.functions g) refl h
    where
      go : (o : Option FunctionForm) → slice_get a.program.functions g ≡ o → HasResult a.program.types o e → (target : TyId) × (is_element a.program.types (type_at a.program.types target) ≡ true) × (e.ty ≡ Of (ty.Unique target))
      go None at h = absurd h
      go (Some of) at h =
          let result = type_at a.program.types of.result in
          let x = unique_answered a.program.types result e.ty e.category (answered_as a.program.types e result (result_is a.program.types result (setting.returned g of at)) h) n in
          (x.0, x.2, x.3)

  pub called_fresh : (g : ℕ) (given : Form) (delimiters : DelimitersForm) (e : Typed) (place : Place) → is_unique_type e.ty ≡ true → HasResult a.program.types (slice_get a.program.functions g) e
      → ((of : FunctionForm) → slice_get a.program.functions g ≡ Some of → (s : State) → Stood s → Hands a visible types texts fs f setting of s (giving.arguments a (all_uses a given) delimiters (parameter_types (Some of)) s))
      → IsFreshAt a visible types texts fs f setting e ((form_uses a (call g given delimiters) place e.ty e.category).object)
  called_fresh g given delimiters e place n h hands = go (slice_get a.program.functions g) refl h
    where
      go : (o : Option FunctionForm) → slice_get a.program.functions g ≡ o → HasResult a.program.types o e → IsFreshAt a visible types texts fs f setting e ((form_uses a (call g given delimiters) place e.ty e.category).object)
      go None at h = absurd h
      go (Some of) at h =
          let result = type_at a.program.types of.result in
          let x = unique_answered a.program.types result e.ty e.category (answered_as a.program.types e result (result_is a.program.types result (setting.returned g of at)) h) n in
          let own : is_unique_of_element a.program.types (ty.Unique x.0) ≡ true = x.2 in
          record {
            owned = x.0;
            is = x.3;
            value = x.4;
            builds = λ target worth fits s stands.
                subst (λ (t : Ty). Builds a visible types texts fs f setting t s ((form_uses a (call g given delimiters) place e.ty e.category).object s)) (given_moved a visible types texts fs f setting (ty.Unique target) (ty.Unique x.0) e refl refl x.3 fits)
                (call_builds a visible types texts fs f setting g of at (ty.Unique x.0) (inr (inl own)) (result_later a visible types texts fs f setting g of at ∙ x.1) place s (giving.arguments a (all_uses a given) delimiters (around.parameter_types a g) s)
                (subst (λ (ids : List TyId). Hands a visible types texts fs f setting of s (giving.arguments a (all_uses a given) delimiters ids s)) (sym (ap parameters_of at)) (hands of at s stands)));
          }

  -- .. where it is asked
  pub called_answer : (g : ℕ) (given : Form) (delimiters : DelimitersForm) (e : Typed) (place : Place) → is_unique_type e.ty ≡ true → HasResult a.program.types (slice_get a.program.functions g) e
      → ((of : FunctionForm) → slice_get a.program.functions g ≡ Some of → (s : State) → Stood s → Hands a visible types texts fs f setting of s (giving.arguments a (all_uses a given) delimiters (parameter_types (Some of)) s))
      → let u = form_uses a (call g given delimiters) place e.ty e.category in IsAnsweredAt a visible types texts fs f setting e u.object u.decision u.named
  called_answer g given delimiters e place n h hands =
      let fresh = called_fresh g given delimiters e place n h hands in
      let x = called_unique g e n h in
      record {
        fresh = fresh;
        worth = subst (λ (t : TyId). is_element a.program.types (type_at a.program.types t) ≡ true) (one_target x.0 fresh.owned (sym x.2 ∙ fresh.is)) x.1;
        undecided = λ b. refl;
        nameless = refl;
      }
    where
      target_in : ExprType → TyId
      target_in (Of (ty.Unique t)) = t
      target_in _ = (called_unique g e n h).0

      one_target : (t u : TyId) → Of (ty.Unique t) ≡ Of (ty.Unique u) → t ≡ u
      one_target t u same = ap target_in same
