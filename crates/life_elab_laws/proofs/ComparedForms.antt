-- Texts that are compared, where one of them is a string.
use Rattle.std.proofs.Common.{◌≡◌, ◌⊎◌, inl, inr, ℕ, true, false, List, None, Option, refl, sym, ap, ◌∙◌, Some}
use Rattle.std.proofs.lemmas.Bool.{false≢true}
use Rattle.life_elab_laws.proofs.ObjectTypes.{is_owner_of_values}
use Rattle.life_types.specs.TypeTests.{is_iterator, is_value}
use Rattle.life_types.specs.Types.{Types}
use Rattle.life_types.specs.declared.place.Place.{Place}
use Rattle.life_types.specs.declared.ty.Ty.{Ty}
use Rattle.life_types.specs.declared.ty.Ty.TheVariants as ty
use Rattle.life_typed.specs.Operators.{are_iterators_of_one}
use Rattle.life_typed.specs.TypedForm.{Form, Typed, binary}
use Rattle.life_typed.specs.declared.typed_expr.BinaryOperator.{BinaryOperator}
use Rattle.life_typed.specs.declared.typed_expr.Category.TheVariants as category
use Rattle.life_typed.specs.declared.typed_expr.ExprType.{ExprType}
use Rattle.life_typed.specs.declared.typed_expr.ExprType.TheVariants.{Of}
use Rattle.life_core.specs.Function.{Function}
use Rattle.life_well_typed.specs.Expressions.{typed_in}
use Rattle.life_writer.specs.Around.{Around, own_type}
use Rattle.life_writer.specs.ExpressionForms.{binary_uses, uses}
use Rattle.life_writer.specs.Rows.{row_between}
use Rattle.life_writer.specs.Writing.{State}
use Rattle.life_writer.specs.declared.behind.Behind.{Behind}
use Rattle.life_writer.specs.declared.rows.Row.{Row}
use Rattle.life_writer.specs.declared.rows.Row.TheVariants.{Compared}
use Rattle.life_elab_laws.proofs.ExpressionForms.{IsForm, IsWhole, Standing, Valued, value_form}
use Rattle.life_elab_laws.proofs.ExpressionTypes.{own_no_iterator, seen_kind}
use Rattle.life_elab_laws.proofs.Instructions.{IsIntoOf}
use Rattle.life_elab_laws.proofs.ObjectForms.{IsOwner}
use Rattle.life_elab_laws.proofs.RowTypes.{AreIterators, Fits, IsCompared, row_fits_between, sees}
use Rattle.life_elab_laws.proofs.SeenForms.{Shows, compared_part, string_shows, whole_shows}
use Rattle.life_elab_laws.proofs.Setting.{Setting}
use Rattle.life_elab_laws.proofs.TypedKinds.{IsCombined}
use Rattle.life_elab_laws.proofs.EqualityRows.{compares}
use Rattle.life_elab_laws.proofs.Values.{by_owners}

module _ (a : Around) (visible : List ℕ) (types : Types) (texts : ℕ) (fs : List Function) (f : Function) (setting : Setting a types fs f) where
  -- an expression with a value, or an owner
  abbrev pub IsEither : Form → Type 0
  IsEither form = IsWhole a visible types texts fs f setting form ⊎ IsOwner a visible types texts fs f setting form

  -- an owner whose characters are seen is a string
  pub owner_text : (form : Form) → (is : IsOwner a visible types texts fs f setting form) → sees (typed_in form).ty ≡ true → is.ty ≡ ty.Text
  owner_text form is s = go is.ty is.owner (sym (ap sees is.is) ∙ s)
    where
      go : (t : Ty) → is_owner_of_values a.program.types t ≡ true → sees (Of t) ≡ true → t ≡ ty.Text
      go = by_owners a.program.types _ (λ s. refl) (λ item s. absurd (false≢true s))

  pub either_shows : (form : Form) → IsEither form → sees (typed_in form).ty ≡ true → Shows a visible types texts fs f setting form
  either_shows form (inl is) s = whole_shows a visible types texts fs f setting form is (seen_kind a.program.types (typed_in form) is.kind.kind s)
  either_shows form (inr is) s = string_shows a visible types texts fs f setting form is (owner_text form is s)

  -- it is no iterator
  either_no_iterator : (form : Form) → IsEither form → is_iterator (own_type (typed_in form).ty) ≡ false
  either_no_iterator form (inl is) = own_no_iterator a.program.types (typed_in form) is.kind.kind
  either_no_iterator form (inr is) = ap (λ (x : ExprType). is_iterator (own_type x)) is.is ∙ go is.ty is.owner
    where
      go : (t : Ty) → is_owner_of_values a.program.types t ≡ true → is_iterator t ≡ false
      go = by_owners a.program.types _ refl (λ item. refl)

  module _ (left right : Form) (t : Ty) (l : IsEither left) (r : IsEither right) where
    both_see : IsCompared (typed_in left).ty (typed_in right).ty t → (sees (typed_in left).ty ≡ true) × (sees (typed_in right).ty ≡ true)
    both_see fit = go fit.operands
      where
        one : (first second : Ty) → are_iterators_of_one first second ≡ true → is_iterator first ≡ true
        one (ty.Iterator target constant) second e = refl
        one _ second e = absurd (false≢true e)

        go : ((sees (typed_in left).ty ≡ true) × (sees (typed_in right).ty ≡ true)) ⊎ AreIterators (typed_in left).ty (typed_in right).ty → (sees (typed_in left).ty ≡ true) × (sees (typed_in right).ty ≡ true)
        go (inl s) = s
        go (inr is) = absurd (false≢true (sym (either_no_iterator left l) ∙ ap (λ (x : ExprType). is_iterator (own_type x)) is.left ∙ one is.first is.second is.one))

    worth : (w : Row) → compares w ≡ true → Fits w (typed_in left).ty (typed_in right).ty t → is_value t ≡ true
    worth (Compared equal) c fit = ap is_value fit.answers
    worth _ c fit = absurd (false≢true c)

    plain : (w : Row) → compares w ≡ true → (place : Place) (b : Behind) → (binary_uses w (uses a left) (uses a right) place (Of t) category.Value).decision b ≡ None
    plain (Compared equal) c place b = refl
    plain _ c place b = absurd (false≢true c)

    made : (w : Row) → compares w ≡ true → Fits w (typed_in left).ty (typed_in right).ty t → (place behind : Place) (into : Option ℕ) (s : State) → IsIntoOf t s into → Standing a visible types texts fs f setting s
        → Valued a visible types texts fs f setting t into s ((binary_uses w (uses a left) (uses a right) place (Of t) category.Value).made behind into s)
    made (Compared equal) c fit place behind into s wanted stands =
        let both = both_see fit in
        compared_part a visible types texts fs f setting left right (either_shows left l both.0) (either_shows right r both.1) equal place into t s fit.answers (ap is_value fit.answers) wanted stands
    made _ c fit place behind into s wanted stands = absurd (false≢true c)

    lands : (w : Row) → compares w ≡ true → (place behind : Place) (r : ℕ) (s : State) → ((binary_uses w (uses a left) (uses a right) place (Of t) category.Value).made behind (Some r) s).given ≡ r
    lands (Compared equal) c place behind r s = refl
    lands _ c place behind r s = absurd (false≢true c)

  pub compared_form : (o : BinaryOperator) (left right : Form) (e : Typed) → IsCombined o (typed_in left) (typed_in right) e → compares (row_between o left right) ≡ true → IsEither left → IsEither right → IsForm a visible types texts fs f setting (binary o left right) e
  compared_form o left right e c compare l r =
      let w = row_between o left right in
      let fit : Fits w (typed_in left).ty (typed_in right).ty c.ty = row_fits_between o left right c.ty c.answer in
      value_form a visible types texts fs f setting (binary o left right) e c.ty c.is.0 c.is.1 (worth left right c.ty l r w compare fit) refl (plain left right c.ty l r w compare)
      (made left right c.ty l r w compare fit) (lands left right c.ty l r w compare)
