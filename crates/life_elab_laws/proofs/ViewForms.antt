-- Members of views: `size`, `empty` and `substr`.
use Rattle.std.proofs.Common.{◌≡◌, ℕ, Bool, true, false, List, Some, None, refl, sym, ap, ◌∙◌, subst}
use Rattle.std.proofs.lemmas.Bool.{and_parts, false≢true}
use Rattle.life_elab_laws.proofs.FormKinds.{is_asking}
use Rattle.life_types.specs.TypeTests.{is_value}
use Rattle.life_types.specs.Types.{Types}
use Rattle.life_types.specs.declared.ty.Ty.{Ty}
use Rattle.life_types.specs.declared.ty.Ty.TheVariants as ty
use Rattle.life_typed.specs.Delimiters.{DelimitersForm, behind_first, behind_others}
use Rattle.life_typed.specs.Members.{has_method, method_answer}
use Rattle.life_typed.specs.TypedForm.{Form, Typed, method, nothing, ◌⨟◌}
use Rattle.life_typed.specs.declared.members.MethodParameters.TheVariants as parameters
use Rattle.life_typed.specs.declared.typed_expr.Category.{Category}
use Rattle.life_typed.specs.declared.typed_expr.Category.TheVariants as category
use Rattle.life_typed.specs.declared.typed_expr.ExprType.{ExprType}
use Rattle.life_typed.specs.declared.typed_expr.ExprType.TheVariants.{NullPointer, Of, TextLiteral}
use Rattle.life_typed.specs.declared.typed_expr.Method.{Method}
use Rattle.life_typed.specs.declared.typed_expr.Method.TheVariants as methods
use Rattle.life_type_expr.specs.Lists.{is_taken}
use Rattle.life_type_expr.specs.Operands.{is_constant}
use Rattle.life_core.specs.Function.{Function}
use Rattle.life_core.specs.Step.{Cut}
use Rattle.life_well_typed.specs.Expressions.{typed_in}
use Rattle.life_well_typed.specs.Given.{is_number}
use Rattle.life_well_typed.specs.Members.{IsCalled, are_taken}
use Rattle.life_writer.specs.Around.{Around}
use Rattle.life_writer.specs.ExpressionForms.{all_uses, uses}
use Rattle.life_writer.specs.MethodForms.{count_if, cut}
use Rattle.life_writer.specs.Pointers.{By}
use Rattle.life_writer.specs.Uses.{own}
use Rattle.life_writer.specs.Using.{pointer, value}
use Rattle.life_writer.specs.Writing.{State, gives}
use Rattle.life_elab_laws.proofs.ExpressionForms.{IsForm, IsWhole, Points, Standing, pointer_form, value_form, no_literal, no_null}
use Rattle.life_elab_laws.proofs.GivenKinds.{taken_number}
use Rattle.life_elab_laws.proofs.Gifts.{a_number, a_pointer, a_pointing, both, nothing as no_gift}
use Rattle.life_elab_laws.proofs.ObjectForms.{emptied_part, sized_part, view_asked}
use Rattle.life_elab_laws.proofs.Parts.{Makes, and_part, leaf_part, seen_part}
use Rattle.life_elab_laws.proofs.PointerForms.{pointer_whole}
use Rattle.life_elab_laws.proofs.Setting.{Setting}
use Rattle.life_elab_laws.proofs.TypedKinds.{HasKind, a_null, a_number as is_number_kind, a_pointer as is_pointer_kind, a_text, a_view, no_value, none_some, some_same, value_place}
use Rattle.life_elab_laws.proofs.Values.{by_values}
use Rattle.life_elab_laws.proofs.VariablePlaces.{stands_later}
use Rattle.life_elab_laws.proofs.ViewSteps.{Cuts, a_count, cut_filling, cut_given}

-- a value has no members
no_methods : (types : Types) (t : Ty) (constant : Bool) (m : Method) (x : ExprType × Category) → is_value t ≡ true → method_answer types t constant m ≡ Some x → ⊥
no_methods types t constant m x v h = none_some (sym plain ∙ h)
  where
    none : has_method t m ≡ false
    none = by_values (λ t. has_method t m ≡ false) refl refl refl refl refl t v

    plain : method_answer types t constant m ≡ None
    plain = rw none refl

-- what a call of a member gives
abbrev pub IsAnswer : ExprType × Category → Typed → Type 0
IsAnswer x e = Some x ≡ Some (e.ty, e.category)

pub gives_as : (x : ExprType × Category) (e : Typed) → IsAnswer x e → (e.ty ≡ x.0) × (e.category ≡ x.1)
gives_as x e same = let one = some_same same in (sym (ap (λ (y : ExprType × Category). y.0) one), sym (ap (λ (y : ExprType × Category). y.1) one))

module _ (a : Around) (visible : List ℕ) (types : Types) (texts : ℕ) (fs : List Function) (f : Function) (setting : Setting a types fs f) where
  -- all of several
  abbrev pub AreWhole : Form → Type 0
  AreWhole (e ⨟ es) = IsWhole a visible types texts fs f setting e × AreWhole es
  AreWhole nothing = Unit {0}
  AreWhole _ = ⊥

  -- ---- a part of a view

  module _ (base : Form) (is : IsWhole a visible types texts fs f setting base) (at : (typed_in base).ty ≡ Of ty.View) where
    count_part : (given : Form) (d : DelimitersForm) (s : State) → AreWhole given → are_taken a.program.types (parameters.OneOrTwo ty.Size ty.Size) 1 given ≡ true → Standing a visible types texts fs f setting s
        → Makes types texts fs f None s (count_if (all_uses a given) d s) (a_count types texts fs f)
    count_part nothing d s whole taken stands = leaf_part types texts fs f None s (a_count types texts fs f) (λ b. refl) (λ b k alive. tt)
    count_part (n ⨟ more) d s whole taken stands =
        let number = taken_number a.program.types ty.Size (typed_in n) refl (and_parts (is_taken a.program.types (Some ty.Size) (typed_in n)) _ taken).0 in
        seen_part types texts fs f (no_gift types texts fs f) tt None s (value (uses a n) (behind_first d) ty.Size None s) (a_number types texts fs f ty.Size) Some (a_count types texts fs f)
        (whole.0.valued number (behind_first d) ty.Size refl None s tt stands) (λ b h. h) (λ n k h. h)
    count_part _ d s whole taken stands = absurd whole

    cut_part : (given : Form) (d : DelimitersForm) (s : State) → AreWhole given → are_taken a.program.types (parameters.OneOrTwo ty.Size ty.Size) 0 given ≡ true → Standing a visible types texts fs f setting s
        → Points a visible types texts fs f setting (Of ty.View) s (cut (uses a base) (all_uses a given) d s)
    cut_part nothing d s whole taken stands = absurd (false≢true taken)
    cut_part (i ⨟ more) d s whole taken stands =
        let parts = and_parts (is_taken a.program.types (Some ty.Size) (typed_in i)) _ taken in
        let number = taken_number a.program.types ty.Size (typed_in i) refl parts.0 in
        let l = pointer (uses a base) (own (uses a base)) s in
        let x = value (uses a i) (behind_first d) ty.Size None l.state in
        let n = count_if (all_uses a more) (behind_others d) x.state in
        let P = a_pointer types texts fs f ty.View in
        let Q = a_number types texts fs f ty.Size in
        let first = pointer_whole a visible types texts fs f setting base is ty.View at refl (own (uses a base)) s stands in
        let later = stands_later a visible s l.state first.grown stands in
        let second = whole.0.valued number (behind_first d) ty.Size refl None l.state tt later in
        let pair = and_part types texts fs f (no_gift types texts fs f) tt s l x P Q stands.opened first second in
        let third = count_part more (behind_others d) x.state whole.1 parts.1 (stands_later a visible l.state x.state second.grown later) in
        seen_part types texts fs f (no_gift types texts fs f) tt None s (gives ((l.given, x.given), n.given) n.state) (Cuts types texts fs f) (λ x. By (λ p. Cut p x.0.0 x.0.1 x.1)) (a_pointing types texts fs f (Of ty.View))
        (and_part types texts fs f (no_gift types texts fs f) tt s (gives (l.given, x.given) x.state) n (both types texts fs f P Q) (a_count types texts fs f) stands.opened pair third)
        (λ b h. cut_given types texts fs f ((l.given, x.given), n.given) h)
        (λ m k h. cut_filling types texts fs f ((l.given, x.given), n.given) m k h)
    cut_part _ d s whole taken stands = absurd whole

  -- ---- the members

  pub method_form : (base : Form) (which : Method) (given : Form) (d : DelimitersForm) (e : Typed) → IsWhole a visible types texts fs f setting base → AreWhole given → is_asking which ≡ true
      → IsCalled a.program.types (typed_in base).ty (typed_in base).category which given e → IsForm a visible types texts fs f setting (method base which given d) e
  method_form base which given d e is whole reached h = go is.kind.kind
    where
      -- what is given, where the type of what is asked is known
      called : (t : ExprType) → (typed_in base).ty ≡ t → IsCalled a.program.types t (typed_in base).category which given e
      called t own = subst (λ (x : ExprType). IsCalled a.program.types x (typed_in base).category which given e) own h

      of_view : (m : Method) → is_asking m ≡ true → (at : (typed_in base).ty ≡ Of ty.View) → IsCalled a.program.types (Of ty.View) (typed_in base).category m given e → IsForm a visible types texts fs f setting (method base m given d) e
      of_view methods.Size b at c =
          let x = gives_as (Of ty.Size, category.Value) e c.2 in
          value_form a visible types texts fs f setting (method base methods.Size given d) e ty.Size x.0 x.1 refl refl (λ place b. refl)
          (λ place behind into s wanted stands. sized_part a visible types texts fs f setting base ty.Char true (view_asked a visible types texts fs f setting base is at) place into s wanted stands) (λ place behind r s. refl)
      of_view methods.Empty b at c =
          let x = gives_as (Of ty.Bool, category.Value) e c.2 in
          value_form a visible types texts fs f setting (method base methods.Empty given d) e ty.Bool x.0 x.1 refl refl (λ place b. refl)
          (λ place behind into s wanted stands. emptied_part a visible types texts fs f setting base ty.Char true (view_asked a visible types texts fs f setting base is at) place into s wanted stands) (λ place behind r s. refl)
      of_view methods.Substr b at c =
          let x = gives_as (Of ty.View, category.Value) e c.2 in
          pointer_form a visible types texts fs f setting (method base methods.Substr given d) e (record { kind = a_view x.0; place = λ id k place. absurd (value_place (sym x.1 ∙ place)) }) x.1
          (λ n. false≢true (sym (ap is_number x.0) ∙ n)) refl (λ place b. refl) (λ at. absurd (no_literal a visible types texts fs f setting ty.View (sym x.0 ∙ at))) (λ at. absurd (no_null a visible types texts fs f setting ty.View (sym x.0 ∙ at)))
          (λ p place s stands. subst (λ (t : ExprType). Points a visible types texts fs f setting t s (cut (uses a base) (all_uses a given) d s)) (sym x.0) (cut_part base is at given d s whole c.1 stands))
      of_view methods.Front b at c = absurd (none_some c.2)
      of_view methods.Back b at c = absurd (none_some c.2)
      of_view _ b at c = absurd (false≢true b)

      go : HasKind a.program.types (typed_in base) → IsForm a visible types texts fs f setting (method base which given d) e
      go (is_number_kind t own v) = absurd (no_methods a.program.types t (is_constant (typed_in base).category) which (e.ty, e.category) v (called (Of t) own).2)
      go (is_pointer_kind target constant own v) = absurd (none_some (called (Of (ty.Raw target constant)) own).2)
      go (a_view own) = of_view which reached own (called (Of ty.View) own)
      go (a_text own v) = absurd (called TextLiteral own)
      go (no_value own v) = absurd (none_some (called (Of ty.Void) own).2)
      go (a_null own v) = absurd (called NullPointer own)
