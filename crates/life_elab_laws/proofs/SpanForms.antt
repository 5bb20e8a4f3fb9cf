-- What asks a span: its size, whether it is empty, and its elements.
use Rattle.std.proofs.Common.{◌≡◌, ℕ, Bool, true, List, Some, None, Ok, refl, sym, ap, ◌∙◌, subst}
use Rattle.std.proofs.lemmas.Bool.{false≢true}
use Rattle.life_elab_laws.proofs.FormKinds.{is_asking}
use Rattle.life_elab_laws.proofs.ObjectTypes.{is_walker_of_values}
use Rattle.life_types.specs.Types.{Types}
use Rattle.life_types.specs.declared.place.Place.{Place}
use Rattle.life_types.specs.declared.ty.Ty.{Ty}
use Rattle.life_types.specs.declared.ty.Ty.TheVariants as ty
use Rattle.life_types.specs.declared.ty.TyId.{TyId}
use Rattle.life_typed.specs.BaseTypes.{type_at}
use Rattle.life_typed.specs.Delimiters.{DelimitersForm}
use Rattle.life_typed.specs.Operators.{indexed}
use Rattle.life_typed.specs.TypedForm.{Form, Typed, index, method}
use Rattle.life_typed.specs.declared.typed_expr.Category.TheVariants as category
use Rattle.life_typed.specs.declared.typed_expr.ExprType.{ExprType}
use Rattle.life_typed.specs.declared.typed_expr.ExprType.TheVariants.{Of}
use Rattle.life_typed.specs.declared.typed_expr.Method.{Method}
use Rattle.life_typed.specs.declared.typed_expr.Method.TheVariants as methods
use Rattle.life_type_expr.specs.Members.{indexed_at}
use Rattle.life_type_expr.specs.Operands.{is_constant}
use Rattle.life_core.specs.Function.{Function}
use Rattle.life_well_typed.specs.Expressions.{typed_in}
use Rattle.life_well_typed.specs.Members.{IsCalled}
use Rattle.life_writer.specs.Around.{Around}
use Rattle.life_elab_laws.proofs.ElementForms.{IsIndexed, indexed_by, index_reached}
use Rattle.life_elab_laws.proofs.ExpressionForms.{IsForm, IsWhole, value_form}
use Rattle.life_elab_laws.proofs.ObjectForms.{emptied_part, sized_part, IsReached}
use Rattle.life_elab_laws.proofs.Setting.{Setting}
use Rattle.life_elab_laws.proofs.TypedKinds.{none_some, some_same}
use Rattle.life_elab_laws.proofs.ViewForms.{gives_as}
use Rattle.life_elab_laws.proofs.WalkerForms.{IsWalker, span_asked}

module _ (a : Around) (visible : List ℕ) (types : Types) (texts : ℕ) (fs : List Function) (f : Function) (setting : Setting a types fs f) where
  pub span_index_reached : (base position : Form) (closing : Place) (e : Typed) → IsWalker a visible types texts fs f setting base → IsWhole a visible types texts fs f setting position
      → indexed_at a.program.types e.place (typed_in base) (typed_in position) closing ≡ Ok e → IsReached a visible types texts fs f setting (index base position closing) e
  span_index_reached base position closing e is at_position h = go is.ty refl is.walker
    where
      told : (t : Ty) → is.ty ≡ t → indexed (typed_in base).ty (is_constant (typed_in base).category) ≡ indexed (Of t) (is_constant (typed_in base).category)
      told t same = ap (λ (y : ExprType). indexed y (is_constant (typed_in base).category)) (is.is ∙ ap Of same)

      go : (t : Ty) → is.ty ≡ t → is_walker_of_values a.program.types t ≡ true → IsReached a visible types texts fs f setting (index base position closing) e
      go (ty.Iterator item constant) same w = absurd (none_some (indexed_by a visible types texts fs f setting (typed_in base) (typed_in position) e closing None (told (ty.Iterator item constant) same) h).1)
      go (ty.Span item constant) same w =
          let x = indexed_by a visible types texts fs f setting (typed_in base) (typed_in position) e closing (Some (item, constant)) (told (ty.Span item constant) same) h in
          index_reached a visible types texts fs f setting base position closing e (type_at a.program.types item) item constant (span_asked a visible types texts fs f setting base is item constant same) at_position refl
          (subst (λ (y : TyId × Bool). IsIndexed a visible types texts fs f setting (typed_in base) (typed_in position) e y.0 y.1) (sym (some_same x.1)) x.2)
      go _ same w = absurd (false≢true w)

  pub span_method_form : (base : Form) (m : Method) (given : Form) (d : DelimitersForm) (e : Typed) → IsWalker a visible types texts fs f setting base → is_asking m ≡ true
      → IsCalled a.program.types (typed_in base).ty (typed_in base).category m given e → IsForm a visible types texts fs f setting (method base m given d) e
  span_method_form base m given d e is reached h = go is.ty refl is.walker m reached (subst (λ (x : ExprType). IsCalled a.program.types x (typed_in base).category m given e) is.is h)
    where
      go : (t : Ty) → is.ty ≡ t → is_walker_of_values a.program.types t ≡ true → (m : Method) → is_asking m ≡ true → IsCalled a.program.types (Of t) (typed_in base).category m given e → IsForm a visible types texts fs f setting (method base m given d) e
      go (ty.Span item constant) same w methods.Size b c =
          let x = gives_as (Of ty.Size, category.Value) e c.2 in
          value_form a visible types texts fs f setting (method base methods.Size given d) e ty.Size x.0 x.1 refl refl (λ place b. refl)
          (λ place behind into s wanted stands. sized_part a visible types texts fs f setting base (type_at a.program.types item) constant (span_asked a visible types texts fs f setting base is item constant same) place into s wanted stands) (λ place behind r s. refl)
      go (ty.Span item constant) same w methods.Empty b c =
          let x = gives_as (Of ty.Bool, category.Value) e c.2 in
          value_form a visible types texts fs f setting (method base methods.Empty given d) e ty.Bool x.0 x.1 refl refl (λ place b. refl)
          (λ place behind into s wanted stands. emptied_part a visible types texts fs f setting base (type_at a.program.types item) constant (span_asked a visible types texts fs f setting base is item constant same) place into s wanted stands) (λ place behind r s. refl)
      go (ty.Span item constant) same w methods.Front b c = absurd (none_some c.2)
      go (ty.Span item constant) same w methods.Back b c = absurd (none_some c.2)
      go (ty.Span item constant) same w methods.Substr b c = absurd (none_some c.2)
      go (ty.Span item constant) same w _ b c = absurd (false≢true b)
      go (ty.Iterator item constant) same w m b c = absurd (none_some c.2)
      go _ same w m b c = absurd (false≢true w)
