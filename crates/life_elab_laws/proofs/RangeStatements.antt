-- Loops over ranges as statements: over an owner that is named, a view or a span.
use Rattle.std.proofs.Common.{◌≡◌, ◌&&◌, ◌||◌, inl, inr, ℕ, Bool, true, List, slice_get, Option, Some, None, refl, sym, ap, ◌∙◌, subst}
use Rattle.std.proofs.lemmas.Bool.{and_parts, false≢true, or_cases}
use Rattle.life_elab_laws.proofs.FormKinds.{is_read_expression, is_read_owner, is_read_owning, is_read_walker}
use Rattle.life_elab_laws.proofs.ObjectTypes.{is_element, is_walker_of_values}
use Rattle.life_elab_laws.proofs.StatementKinds.{is_read_range}
use Rattle.life_elab_laws.proofs.TypeKinds.{is_owner_type, is_view_type, takes_elements, takes_elements_if}
use Rattle.life_types.specs.Types.{Types}
use Rattle.life_types.specs.declared.place.Place.{Place}
use Rattle.life_types.specs.declared.ty.Ty.{Ty}
use Rattle.life_types.specs.declared.ty.Ty.TheVariants as ty
use Rattle.life_types.specs.declared.ty.TyId.{TyId}
use Rattle.life_typed.specs.BaseTypes.{type_at}
use Rattle.life_typed.specs.Conversions.{is_const_place}
use Rattle.life_typed.specs.Statements.{range_element}
use Rattle.life_typed.specs.TypedForm.{Typed, whole as whole_form}
use Rattle.life_typed.specs.declared.typed_expr.Category.{Category}
use Rattle.life_typed.specs.declared.typed_expr.Category.TheVariants as category
use Rattle.life_typed.specs.declared.typed_expr.ExprType.{ExprType}
use Rattle.life_typed.specs.declared.typed_expr.ExprType.TheVariants.{NullPointer, Of, TextLiteral}
use Rattle.life_typed.specs.declared.typed_program.TypedLocal.{TypedLocal}
use Rattle.life_type_expr.specs.Operands.{is_constant}
use Rattle.life_core.specs.Function.{Function}
use Rattle.life_well_typed.specs.Statements.{IsRange as IsRangeOf, TakesElements}
use Rattle.life_well_typed.specs.Visible.{Visible, behind, with_next}
use Rattle.life_writer.specs.Around.{Around, type_of}
use Rattle.life_writer.specs.ExpressionForms.{uses}
use Rattle.life_writer.specs.Writing.{State}
use Rattle.life_elab.specs.RangeForms.{element_of, opened, ranged}
use Rattle.life_elab_laws.proofs.Doing.{DoesLevel}
use Rattle.life_elab_laws.proofs.ExpressionKinds.{variable_built}
use Rattle.life_elab_laws.proofs.Expressions.{owner_expression, walker_expression, whole_expression}
use Rattle.life_elab_laws.proofs.Following.{Follows, HasRegister}
use Rattle.life_elab_laws.proofs.MadeForms.{IsOwning, is_made, stands_there}
use Rattle.life_elab_laws.proofs.MadeRanges.{made_elements, made_opened}
use Rattle.life_elab_laws.proofs.OpenedRanges.{AreOpened, placed_opened}
use Rattle.life_elab_laws.proofs.RangeLoops.{ranged_does}
use Rattle.life_elab_laws.proofs.RangeOpening.{IsRange, number_element, object_range, span_range, view_range}
use Rattle.life_elab_laws.proofs.Setting.{Setting}
use Rattle.life_elab_laws.proofs.WalkerForms.{IsWalker}

view_type : (t : ExprType) → is_view_type t ≡ true → t ≡ Of ty.View
view_type (Of ty.View) e = refl
view_type (Of _) e = absurd (false≢true e)
view_type NullPointer e = absurd (false≢true e)
view_type TextLiteral e = absurd (false≢true e)

same_constant : (c : Category) → is_constant c ≡ is_const_place c
same_constant category.Value = refl
same_constant (category.Place id constant) = refl

module _ (a : Around) (types : Types) (texts : ℕ) (fs : List Function) (f : Function) (setting : Setting a types fs f) (v w : Visible) (in_loop : Bool) (x : ℕ) (range : Typed) (colon closing last : Place) (body : State → State) (s : State)
    (b : is_read_range texts a.program range ≡ true) (takes : takes_elements a.program.types (slice_get a.function.locals x) (range_element range.ty (is_const_place range.category)) ≡ true)
    (typed : IsRangeOf a.program a.function.locals a.function.result x range v) (h : Follows types f a v s) (register : HasRegister a s)
    (inner : (t : State) → Follows types f a (with_next v) t → HasRegister a t → DoesLevel types texts fs f a w true t (body t)) where
  abbrev Done : Option TypedLocal → Type 0
  Done o = DoesLevel types texts fs f a (behind v w) in_loop s (ranged a o colon closing last (uses a (whole_form range)) body s)

  module _ (u : TypedLocal) (at : slice_get a.function.locals x ≡ Some u) where
    there : slice_get a.function.locals v.declared ≡ Some u
    there = sym (ap (slice_get a.function.locals) typed.0) ∙ at

    -- the elements are taken
    over : (id : TyId) (constant : Bool) → element_of (uses a (whole_form range)) ≡ Some (id, constant) → is_element a.program.types (type_at a.program.types id) ≡ true
        → AreOpened a types texts fs f setting v id constant s (opened colon closing (uses a (whole_form range)) s) → Done (Some u)
    over id constant elements worth are =
        ranged_does a types texts fs f setting v w in_loop u (whole_form range) id constant colon closing last body elements worth there (variable_built a.program.types a.function.locals x u setting.variables at)
        (subst (λ (o : Option (TyId × Bool)). takes_elements_if a.program.types (type_of a u.ty) o ≡ true) elements
        (subst (λ (o : Option TypedLocal). takes_elements a.program.types o (range_element range.ty (is_const_place range.category)) ≡ true) at takes))
        (subst (TakesElements a.program a.function.locals a.function.result (Some u)) (ap (range_element range.ty) (same_constant range.category) ∙ elements)
        (subst (λ (o : Option TypedLocal). TakesElements a.program a.function.locals a.function.result o (range_element range.ty (is_constant range.category))) at typed.1))
        inner s h register are

    -- .. where it ends all its temporaries
    over_placed : (id : TyId) (constant : Bool) → IsRange a v.visible types texts fs f setting (whole_form range) id constant → Done (Some u)
    over_placed id constant is = over id constant is.elements is.worth (placed_opened a types texts fs f setting v (whole_form range) id constant is colon closing s h)

    -- an owner
    over_owning : IsOwning a v.visible types texts fs f setting (whole_form range) → Done (Some u)
    over_owning (stands_there is) = over_placed _ _ (object_range a v.visible types texts fs f setting (whole_form range) is)
    over_owning (is_made is) =
        over _ _ (made_elements a types texts fs f setting v (whole_form range) is colon closing s h) (number_element a v.visible types texts fs f setting is.ty is.owner) (made_opened a types texts fs f setting v (whole_form range) is colon closing s h)

    over_walker : IsWalker a v.visible types texts fs f setting (whole_form range) → Done (Some u)
    over_walker is = go is.ty refl is.walker
      where
        go : (t : Ty) → is.ty ≡ t → is_walker_of_values a.program.types t ≡ true → Done (Some u)
        go (ty.Span item constant) same walks = over_placed item constant (span_range a v.visible types texts fs f setting (whole_form range) is item constant same)
        go (ty.Iterator item constant) same walks =
            absurd (false≢true (sym (ap (λ (t : ExprType). takes_elements a.program.types (Some u) (range_element t (is_const_place range.category))) (is.is ∙ ap Of same))
            ∙ subst (λ (o : Option TypedLocal). takes_elements a.program.types o (range_element range.ty (is_const_place range.category)) ≡ true) at takes))
        go _ same walks = absurd (false≢true walks)

    over_any : Done (Some u)
    over_any = elim (or_cases (is_read_owning texts a.program range) ((is_view_type range.ty && is_read_expression texts a.program range) || is_read_walker texts a.program (whole_form range)) b) [
      | inl owning ↦
          let parts = and_parts (is_owner_type range.ty) (is_read_owner texts a.program (whole_form range)) owning in
          over_owning (owner_expression a v.visible types texts fs f setting (whole_form range) parts.1 parts.0 typed.2)
      | inr other ↦ elim (or_cases (is_view_type range.ty && is_read_expression texts a.program range) (is_read_walker texts a.program (whole_form range)) other) [
        | inl view ↦
            let parts = and_parts (is_view_type range.ty) (is_read_expression texts a.program range) view in
            over_placed _ _ (view_range a v.visible types texts fs f setting (whole_form range) (whole_expression a v.visible types texts fs f setting (whole_form range) parts.1 typed.2) (view_type range.ty parts.0))
        | inr walks ↦ over_walker (walker_expression a v.visible types texts fs f setting (whole_form range) walks typed.2)
      ]
    ]

  pub range_does : Done (slice_get a.function.locals x)
  range_does = go (slice_get a.function.locals x) refl typed.1
    where
      go : (o : Option TypedLocal) → slice_get a.function.locals x ≡ o → TakesElements a.program a.function.locals a.function.result o (range_element range.ty (is_constant range.category)) → Done o
      go None at taken = absurd taken
      go (Some u) at taken = over_any u at
