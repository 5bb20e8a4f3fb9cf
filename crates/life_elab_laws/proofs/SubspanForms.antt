-- A part of a span, from an index on and so many.
use Rattle.std.proofs.Common.{◌≡◌, ◌++◌, ℕ, Bool, true, List, [], ◌∷◌, Option, Some, None, refl, ap, ◌∙◌, subst, append_assoc, sym}
use Rattle.std.proofs.lemmas.Bool.{and_from, and_parts, false≢true}
use Rattle.life_elab_laws.proofs.ObjectTypes.{is_walker_of_values, is_element}
use Rattle.life_types.specs.Pointees.{ty_of}
use Rattle.life_types.specs.Types.{Types}
use Rattle.life_types.specs.declared.place.Place.{Place}
use Rattle.life_types.specs.declared.ty.Ty.{Ty}
use Rattle.life_types.specs.declared.ty.Ty.TheVariants as ty
use Rattle.life_types.specs.declared.ty.TyId.{TyId}
use Rattle.life_typed.specs.BaseTypes.{type_at}
use Rattle.life_typed.specs.Delimiters.{DelimitersForm, behind_first, behind_others}
use Rattle.life_typed.specs.TypedForm.{Form, Typed, method, ◌⨟◌}
use Rattle.life_typed.specs.declared.members.MethodParameters.TheVariants as parameters
use Rattle.life_typed.specs.declared.typed_expr.Category.TheVariants as category
use Rattle.life_typed.specs.declared.typed_expr.ExprType.{ExprType}
use Rattle.life_typed.specs.declared.typed_expr.ExprType.TheVariants.{Of}
use Rattle.life_typed.specs.declared.typed_expr.Method.TheVariants as methods
use Rattle.life_type_expr.specs.Lists.{is_taken}
use Rattle.life_core.specs.Function.{Function}
use Rattle.life_core.specs.Operands.{Location}
use Rattle.life_core.specs.Step.{Cut}
use Rattle.life_core.specs.Touched.{count_uses, nothing}
use Rattle.life_proper.specs.OperandTypes.{is_range, keeps_const, same, takes}
use Rattle.life_proper.specs.Placed.{is_number_of, is_number_of_if, type_in}
use Rattle.life_proper.specs.declared.known.Known.{Known}
use Rattle.life_well_typed.specs.Expressions.{typed_in}
use Rattle.life_well_typed.specs.Members.{IsCalled, are_taken}
use Rattle.life_writer.specs.Around.{Around}
use Rattle.life_writer.specs.ExpressionForms.{all_uses, form_uses, uses}
use Rattle.life_writer.specs.MethodForms.{count_if, cut}
use Rattle.life_writer.specs.Pointers.{By, Pointing}
use Rattle.life_writer.specs.Uses.{own}
use Rattle.life_writer.specs.Using.{pointer, value}
use Rattle.life_writer.specs.Writing.{Gives, State, gives}
use Rattle.life_elab_laws.proofs.ExpressionForms.{Standing}
use Rattle.life_elab_laws.proofs.Gifts.{Gift, IsGivenAs, a_number, a_pointer, a_pointing, both, nothing as no_gift}
use Rattle.life_elab_laws.proofs.GivenKinds.{taken_number}
use Rattle.life_elab_laws.proofs.Making.{AreHeld, IsFilling}
use Rattle.life_elab_laws.proofs.Parts.{Makes, and_part, seen_part}
use Rattle.life_elab_laws.proofs.Setting.{Setting}
use Rattle.life_elab_laws.proofs.TypedKinds.{none_some}
use Rattle.life_elab_laws.proofs.VariablePlaces.{stands_later}
use Rattle.life_elab_laws.proofs.ViewForms.{AreWhole, gives_as}
use Rattle.life_elab_laws.proofs.ViewSteps.{IsCounted, a_count, pointer_is_held}
use Rattle.life_elab_laws.proofs.WalkerForms.{IsWalker, IsWalkerAt, walker_pointer, no_place}
use Rattle.life_elab_laws.proofs.WalkerSteps.{span_taker}
use Rattle.life_elab_laws.proofs.Elements.{one_element}
use Rattle.life_elab_laws.proofs.PointedCalls.{gives_plainly}

module _ (types : Types) (texts : ℕ) (fs : List Function) (f : Function) where
  -- the span, where it begins, and how many
  abbrev SpanCuts : TyId → Bool → Gift types texts fs f ((Location × ℕ) × Option ℕ)
  SpanCuts item constant = both types texts fs f (both types texts fs f (a_pointer types texts fs f (ty.Span item constant)) (a_number types texts fs f ty.Size)) (a_count types texts fs f)

  part_given : (item : TyId) (constant : Bool) (x : (Location × ℕ) × Option ℕ) → same (ty_of types item) (ty_of types item) ≡ true → (SpanCuts item constant).typed x → IsGivenAs types texts fs f (Of (ty.Span item constant)) (By (λ p. Cut p x.0.0 x.0.1 x.1))
  part_given item constant x v h = λ u l loc at taken.
      let to = span_taker types item constant u loc taken in
      let typed : type_in types f l ≡ ty.Span to.target to.held = at ∙ to.is in
      record {
        given = refl;
        formed =
            and_from (is_range (type_in types f l)) _ (ap is_range typed)
            (and_from (takes types (type_in types f l) (type_in types f x.0.0)) _
            (ap (λ (t : Ty). takes types t (type_in types f x.0.0)) typed ∙ ap (takes types (ty.Span to.target to.held)) h.0.0.typed
            ∙ and_from (same (ty_of types to.target) (ty_of types item)) (keeps_const to.held constant) (ap (λ (t : Ty). same t (ty_of types item)) to.one ∙ v) to.kept)
            (and_from (is_number_of types f ty.Size x.0.1) (is_number_of_if types f ty.Size x.1) h.0.1 h.1));
      }

  part_filling : (item : TyId) (constant : Bool) (x : (Location × ℕ) × Option ℕ) (n : ℕ) (k : List Known) → (SpanCuts item constant).ready x n k → IsFilling f (λ p. Cut p x.0.0 x.0.1 x.1) n k
  part_filling item constant x n k h = record {
    uses = x.0.0.local ∷ x.0.1 ∷ (count_uses x.1 ++ []);
    held = (pointer_is_held x.0.0 n k h.0.0, (h.0.1, counted x.1 h.1));
    touches = λ y e. refl;
    parts = λ y m ms. ap (λ (us : List ℕ). record nothing { uses = x.0.0.local ∷ x.0.1 ∷ us }) (sym (append_assoc (count_uses x.1) [] (y ∷ [])));
    looks = λ l y m. absurd m;
  }
    where
      counted : (o : Option ℕ) → IsCounted o n k → AreHeld (count_uses o ++ []) n k
      counted None p = tt
      counted (Some r) p = (p, tt)

module _ (a : Around) (visible : List ℕ) (types : Types) (texts : ℕ) (fs : List Function) (f : Function) (setting : Setting a types fs f) where
  abbrev Parted : TyId → Bool → State → Gives Pointing → Type 0
  Parted item constant s w = Makes types texts fs f None s w (a_pointing types texts fs f (Of (ty.Span item constant)))

  part_made : (base : Form) (is : IsWalker a visible types texts fs f setting base) (item : TyId) (constant : Bool) → is.ty ≡ ty.Span item constant → is_element a.program.types (type_at a.program.types item) ≡ true → (given : Form) (d : DelimitersForm) (s : State)
      → AreWhole a visible types texts fs f setting given → are_taken a.program.types (parameters.Two ty.Size ty.Size) 0 given ≡ true → Standing a visible types texts fs f setting s → Parted item constant s (cut (uses a base) (all_uses a given) d s)
  part_made base is item constant span v (i ⨟ (n ⨟ more)) d s whole taken stands =
      let parts = and_parts (is_taken a.program.types (Some ty.Size) (typed_in i)) _ taken in
      let others = and_parts (is_taken a.program.types (Some ty.Size) (typed_in n)) _ parts.1 in
      let l = pointer (uses a base) (own (uses a base)) s in
      let x = value (uses a i) (behind_first d) ty.Size None l.state in
      let m = count_if (all_uses a (n ⨟ more)) (behind_others d) x.state in
      let P = a_pointer types texts fs f (ty.Span item constant) in
      let Q = a_number types texts fs f ty.Size in
      let first = subst (λ (u : Ty). Makes types texts fs f None s l (a_pointer types texts fs f u)) span (walker_pointer a visible types texts fs f setting base is (own (uses a base)) s stands) in
      let later = stands_later a visible s l.state first.grown stands in
      let second = whole.0.valued (taken_number a.program.types ty.Size (typed_in i) refl parts.0) (behind_first d) ty.Size refl None l.state tt later in
      let pair = and_part types texts fs f (no_gift types texts fs f) tt s l x P Q stands.opened first second in
      let third =
      seen_part types texts fs f (no_gift types texts fs f) tt None x.state (value (uses a n) (behind_first (behind_others d)) ty.Size None x.state) Q Some (a_count types texts fs f)
      (whole.1.0.valued (taken_number a.program.types ty.Size (typed_in n) refl others.0) (behind_first (behind_others d)) ty.Size refl None x.state tt (stands_later a visible l.state x.state second.grown later)) (λ b h. h) (λ n k h. h) in
      seen_part types texts fs f (no_gift types texts fs f) tt None s (gives ((l.given, x.given), m.given) m.state) (SpanCuts types texts fs f item constant) (λ x. By (λ p. Cut p x.0.0 x.0.1 x.1)) (a_pointing types texts fs f (Of (ty.Span item constant)))
      (and_part types texts fs f (no_gift types texts fs f) tt s (gives (l.given, x.given) x.state) m (both types texts fs f P Q) (a_count types texts fs f) stands.opened pair third)
      (λ b h. part_given types texts fs f item constant ((l.given, x.given), m.given) (one_element a.program.types types setting.front item v) h)
      (λ m' k h. part_filling types texts fs f item constant ((l.given, x.given), m.given) m' k h)
  part_made base is item constant span v (i ⨟ _) d s whole taken stands = absurd (false≢true (and_parts (is_taken a.program.types (Some ty.Size) (typed_in i)) _ taken).1)
  part_made base is item constant span v _ d s whole taken stands = absurd (false≢true taken)

  pub subspan_walker : (base given : Form) (d : DelimitersForm) (e : Typed) (place : Place) → IsWalker a visible types texts fs f setting base → AreWhole a visible types texts fs f setting given
      → IsCalled a.program.types (typed_in base).ty (typed_in base).category methods.Subspan given e → IsWalkerAt a visible types texts fs f setting e ((form_uses a (method base methods.Subspan given d) place e.ty e.category).pointing)
  subspan_walker base given d e place is whole h = go is.ty refl is.walker (subst (λ (x : ExprType). IsCalled a.program.types x (typed_in base).category methods.Subspan given e) is.is h)
    where
      go : (t : Ty) → is.ty ≡ t → is_walker_of_values a.program.types t ≡ true → IsCalled a.program.types (Of t) (typed_in base).category methods.Subspan given e
          → IsWalkerAt a visible types texts fs f setting e ((form_uses a (method base methods.Subspan given d) place e.ty e.category).pointing)
      go (ty.Span item constant) same w c = record {
        ty = ty.Span item constant;
        is = (gives_as (Of (ty.Span item constant), category.Value) e c.2).0;
        walker = w;
        place = no_place a visible types texts fs f setting e (gives_as (Of (ty.Span item constant), category.Value) e c.2).1;
        points = λ s stands. gives_plainly (part_made base is item constant same w given d s whole c.1 stands);
      }
      go (ty.Iterator item constant) same w c = absurd (none_some c.2)
      go _ same w c = absurd (false≢true w)
