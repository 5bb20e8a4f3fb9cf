-- Expressions that make a string: texts that are joined, and a string of a string, a view or a literal.
use Rattle.std.proofs.Common.{◌≡◌, ◌⊎◌, inl, inr, ℕ, Bool, true, false, if◌then◌else◌, List, Ok, refl, sym, ap, ◌∙◌, subst}
use Rattle.std.proofs.lemmas.Bool.{false≢true}
use Rattle.life_elab_laws.proofs.ObjectTypes.{is_owner_of_values}
use Rattle.life_types.specs.Types.{Types}
use Rattle.life_types.specs.declared.place.Place.{Place}
use Rattle.life_types.specs.declared.ty.Ty.{Ty}
use Rattle.life_types.specs.declared.ty.Ty.TheVariants as ty
use Rattle.life_typed.specs.TypedForm.{Form, Typed, binary, text_of, whole}
use Rattle.life_typed.specs.declared.typed_expr.BinaryOperator.{BinaryOperator}
use Rattle.life_typed.specs.declared.typed_expr.Category.{Category}
use Rattle.life_typed.specs.declared.typed_expr.Category.TheVariants as category
use Rattle.life_typed.specs.declared.typed_expr.ExprType.{ExprType}
use Rattle.life_typed.specs.declared.typed_expr.ExprType.TheVariants.{NullPointer, Of, TextLiteral}
use Rattle.life_names.specs.Found.{not_found}
use Rattle.life_names.specs.declared.fault.IllKind.TheVariants as kinds
use Rattle.life_type_expr.specs.Operands.{makes_text, text_made, value as value_typed}
use Rattle.life_core.specs.Function.{Function}
use Rattle.life_well_typed.specs.Expressions.{typed_in}
use Rattle.life_writer.specs.Around.{Around, own_type}
use Rattle.life_writer.specs.ExpressionForms.{binary_uses, form_uses, uses}
use Rattle.life_writer.specs.OwnerForms.{string_of, string_of_string}
use Rattle.life_writer.specs.Rows.{row_between}
use Rattle.life_writer.specs.Uses.{Remaining, Uses, own}
use Rattle.life_writer.specs.Using.{pointer}
use Rattle.life_writer.specs.Writing.{Gives, State}
use Rattle.life_writer.specs.declared.rows.Row.{Row}
use Rattle.life_writer.specs.declared.rows.Row.TheVariants.{Concatenated}
use Rattle.life_elab_laws.proofs.AppendForms.{appended_finds}
use Rattle.life_elab_laws.proofs.ComparedForms.{IsEither}
use Rattle.life_elab_laws.proofs.ExpressionForms.{IsWhole, Placed, Standing}
use Rattle.life_elab_laws.proofs.ExpressionTypes.{seen_kind}
use Rattle.life_elab_laws.proofs.JoinedForms.{copy_builds, joined_builds, view_builds}
use Rattle.life_elab_laws.proofs.Locations.{is_seen, seen_type}
use Rattle.life_elab_laws.proofs.MadeForms.{Builds, IsMadeAt, IsOwning, is_made, stands_there}
use Rattle.life_elab_laws.proofs.PointerForms.{held_typed, own_typed, view_whole}
use Rattle.life_elab_laws.proofs.RowTypes.{Fits, row_fits_between, sees}
use Rattle.life_elab_laws.proofs.Setting.{Setting}
use Rattle.life_elab_laws.proofs.TypedKinds.{IsCombined, err_ok, ok_same}
use Rattle.life_elab_laws.proofs.EqualityRows.{concatenates}
use Rattle.life_elab_laws.proofs.Values.{by_owners}

-- what a string is made of
pub record MakesText (inner e : Typed) : Type 0 where
  pub seen : makes_text inner.ty ≡ true
  pub is : e.ty ≡ Of ty.Text
  pub value : e.category ≡ category.Value

pub makes_a_text : (closing : Place) (inner e : Typed) → text_made e.place closing inner ≡ Ok e → MakesText inner e
makes_a_text closing inner e h = go (makes_text inner.ty) refl h
  where
    v : Typed
    v = value_typed e.place ty.Text (text_of (whole inner) closing)

    go : (b : Bool) → makes_text inner.ty ≡ b → (if b then Ok v else not_found kinds.WrongType e.place) ≡ Ok e → MakesText inner e
    go true is h = record { seen = is; is = sym (ap (λ (y : Typed). y.ty) (ok_same h)); value = sym (ap (λ (y : Typed). y.category) (ok_same h)) }
    go false is h = absurd (err_ok h)

text_seen : (t : ExprType) → makes_text t ≡ true → sees t ≡ true
text_seen (Of ty.Text) m = refl
text_seen (Of ty.View) m = refl
text_seen TextLiteral m = refl
text_seen (Of _) m = absurd (false≢true m)
text_seen NullPointer m = absurd (false≢true m)

owner_text : (types : Types) (t : Ty) → is_owner_of_values types t ≡ true → makes_text (Of t) ≡ true → t ≡ ty.Text
owner_text types = by_owners types _ (λ m. refl) (λ item m. absurd (false≢true m))

module _ (a : Around) (visible : List ℕ) (types : Types) (texts : ℕ) (fs : List Function) (f : Function) (setting : Setting a types fs f) where
  abbrev Stood : State → Type 0
  Stood s = Standing a visible types texts fs f setting s

  abbrev MadeAt : Typed → Uses → Type 0
  MadeAt e u = IsMadeAt a visible types texts fs f setting e u.object

  abbrev Made : State → Gives Remaining → Type 0
  Made s w = Builds a visible types texts fs f setting ty.Text s w

  -- ---- `+`

  pub joined_made : (o : BinaryOperator) (left right : Form) (e : Typed) (place : Place) → IsCombined o (typed_in left) (typed_in right) e → concatenates (row_between o left right) ≡ true
      → IsEither a visible types texts fs f setting left → IsEither a visible types texts fs f setting right → MadeAt e (form_uses a (binary o left right) place e.ty e.category)
  joined_made o left right e place c joins l r = go (row_between o left right) joins (row_fits_between o left right c.ty c.answer)
    where
      go : (w : Row) → concatenates w ≡ true → Fits w (typed_in left).ty (typed_in right).ty c.ty → MadeAt e (binary_uses w (uses a left) (uses a right) place e.ty e.category)
      go Concatenated joins fit = record {
        ty = ty.Text;
        is = c.is.0 ∙ ap Of fit.answers;
        owner = refl;
        value = c.is.1;
        builds = λ s stands.
            joined_builds a visible types texts fs f setting left right place s (appended_finds a visible types texts fs f setting left l fit.left) (appended_finds a visible types texts fs f setting right r fit.right) stands;
      }
      go _ joins fit = absurd (false≢true joins)

  -- ---- `std::string(e)`

  module _ (inner : Form) (closing : Place) (e : Typed) (place : Place) (h : text_made e.place closing (typed_in inner) ≡ Ok e) where
    abbrev u : Uses
    u = uses a inner

    abbrev m : Uses
    m = form_uses a (text_of inner closing) place e.ty e.category

    told : MakesText (typed_in inner) e
    told = makes_a_text closing (typed_in inner) e h

    as_own : (t : Ty) → own u ≡ t → m ≡ string_of t u place e.ty e.category
    as_own t own_is = ap (λ (x : Ty). string_of x u place e.ty e.category) own_is

    made : (n : Uses) → m ≡ n → ((s : State) → Stood s → Made s (n.object s)) → MadeAt e m
    made n same builds = subst (MadeAt e) (sym same) (record { ty = ty.Text; is = told.is; owner = refl; value = told.value; builds = builds })

    own_is : (t : ExprType) → (typed_in inner).ty ≡ t → own u ≡ own_type t
    own_is t at = ap own_type (sym (own_typed a visible types texts fs f setting inner) ∙ at)

    -- of a view or a literal
    pub text_of_view : IsWhole a visible types texts fs f setting inner → MadeAt e m
    text_of_view is =
        made (string_of ty.View u place e.ty e.category) (go (seen_type (typed_in inner).ty sees_it))
        (λ s stands. view_builds a visible types texts fs f setting place s (pointer u ty.View s) (view_whole a visible types texts fs f setting inner is sees_it s stands))
      where
        sees_it : is_seen (typed_in inner).ty ≡ true
        sees_it = seen_kind a.program.types (typed_in inner) is.kind.kind (text_seen (typed_in inner).ty told.seen)

        go : ((typed_in inner).ty ≡ Of ty.View) ⊎ ((typed_in inner).ty ≡ TextLiteral) → m ≡ string_of ty.View u place e.ty e.category
        go (inl at) = as_own ty.View (own_is (Of ty.View) at)
        go (inr at) = as_own ty.Void (own_is TextLiteral at)

    -- of a string
    pub text_of_owner : IsOwning a visible types texts fs f setting inner → MadeAt e m
    text_of_owner (stands_there is) =
        let text = owner_text a.program.types is.ty is.owner (sym (ap makes_text is.is) ∙ told.seen) in
        made (string_of_string (category.Place is.id is.constant) u place e.ty e.category)
        (as_own ty.Text (own_is (Of is.ty) is.is ∙ text) ∙ ap (λ (c : Category). string_of_string c u place e.ty e.category) (sym (held_typed a visible types texts fs f setting inner) ∙ is.place))
        (λ s stands. copy_builds a visible types texts fs f setting place is.constant s (u.at s) (subst (λ (t : Ty). Placed a visible types texts fs f setting t is.constant s (u.at s)) text (is.names s stands)))
    text_of_owner (is_made is) =
        let text = owner_text a.program.types is.ty is.owner (sym (ap makes_text is.is) ∙ told.seen) in
        made (string_of_string category.Value u place e.ty e.category)
        (as_own ty.Text (own_is (Of is.ty) is.is ∙ text) ∙ ap (λ (c : Category). string_of_string c u place e.ty e.category) (sym (held_typed a visible types texts fs f setting inner) ∙ is.value))
        (λ s stands. subst (λ (t : Ty). Builds a visible types texts fs f setting t s (u.object s)) text (is.builds s stands))
