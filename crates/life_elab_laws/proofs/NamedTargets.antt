-- What is assigned to is no variable but the one that it names, if it names one.
use Rattle.std.proofs.Common.{ℕ, true, List, inl, inr, ap, ◌∙◌, ◌≡◌, ◌||◌, refl, sym}
use Rattle.std.proofs.lemmas.Bool.{and_parts, false≢true, or_cases}
use Rattle.life_elab_laws.proofs.FormKinds.{is_read_either, is_read_form, is_read_object, is_read_owner, is_read_unique, is_read_walker}
use Rattle.life_elab_laws.proofs.TypeKinds.{is_owner_type, is_unique_type}
use Rattle.life_types.specs.Types.{Types}
use Rattle.life_types.specs.declared.place.Place.{Place}
use Rattle.life_typed.specs.declared.typed_expr.Category.{Category}
use Rattle.life_typed.specs.TypedForm.{Form, Typed, call, dereference, index, local, make_unique, member, method, paren, typed, move}
use Rattle.life_type_stmt.specs.Simples.{named_in}
use Rattle.life_core.specs.Function.{Function}
use Rattle.life_proper.specs.WellFormed.{is_itself}
use Rattle.life_well_typed.specs.Expressions.{IsExpression, IsMadeOf, typed_in}
use Rattle.life_writer.specs.Around.{Around}
use Rattle.life_writer.specs.ExpressionForms.{form_uses, uses}
use Rattle.life_writer.specs.Using.{operand}
use Rattle.life_writer.specs.Variables.{variable}
use Rattle.life_elab_laws.proofs.Expressions.{behind_reached, edge_of, indexed_of, owner_expression, walker_expression, whole_expression, holding_expression}
use Rattle.life_elab_laws.proofs.MovedOwners.{IsNamedAt, variable_named, moved_from_variable}
use Rattle.life_elab_laws.proofs.ObjectForms.{IsReached}
use Rattle.life_elab_laws.proofs.BehindPointers.{behind_apart, behind_pointer}
use Rattle.life_elab_laws.proofs.Setting.{Setting}
use Rattle.life_elab_laws.proofs.TypedKinds.{ok_same}
use Rattle.life_elab_laws.proofs.StructSteps.{member_apart}
use Rattle.life_typed.specs.Conversions.{is_place}

module _ (a : Around) (visible : List ℕ) (types : Types) (texts : ℕ) (fs : List Function) (f : Function) (setting : Setting a types fs f) where
  -- what is reached behind a pointer has no name
  reached_apart : (form : Form) (e : Typed) (place : Place) → IsReached a visible types texts fs f setting form e → IsNamedAt a visible types texts fs f setting (named_in form) ((form_uses a form place e.ty e.category).at)
  reached_apart form e place is = record {
    apart = λ x l c found free s stands. ap (λ (k : Category). is_itself types texts fs f (variable s x) ((form_uses a form place e.ty k).at s).given) is.place ∙ is.behind place s (variable s x);
  }

  mutual
    pub named_target : (form : Form) → is_read_object texts a.program form ≡ true → is_owner_type (typed_in form).ty ≡ true → IsExpression a.program a.function.locals visible form → IsNamedAt a visible types texts fs f setting (named_in form) ((uses a form).at)
    named_target (typed place t c form) b n h = named_made form (record { place = place; ty = t; category = c; form = form }) (and_parts (is_place c) (is_read_object texts a.program form) b).1 n h place
    named_target _ b n h = absurd h

    named_made : (form : Form) (e : Typed) → is_read_object texts a.program form ≡ true → is_owner_type e.ty ≡ true → IsMadeOf a.program a.function.locals visible e form → (place : Place) → IsNamedAt a visible types texts fs f setting (named_in form) ((form_uses a form place e.ty e.category).at)
    named_made (local x) e b n h place = variable_named a visible types texts fs f setting x e h.0 h.1
    named_made (paren inner closing) e b n h place = named_target inner b (ap (λ (y : Typed). is_owner_type y.ty) (ok_same h.0) ∙ n) h.1
    named_made (call g given delimiters) e b n h place = record { apart = λ x v c found free s stands. refl }
    named_made (dereference inner) e b n h place =
        elim (or_cases (is_read_form texts a.program inner) (is_read_walker texts a.program inner || is_read_unique texts a.program inner) b) [
          | inl v ↦ let is = whole_expression a visible types texts fs f setting inner v h.1 in record { apart = λ x l c found free s stands. behind_apart a visible types texts fs f setting inner e place is (behind_pointer a.program.types (typed_in inner) e is.kind.kind h.0) s (variable s x) }
          | inr others ↦ reached_apart (dereference inner) e place (behind_reached a visible types texts fs f setting inner e others h (λ w. walker_expression a visible types texts fs f setting inner w h.1) (λ u. holding_expression a visible types texts fs f setting inner u h.1))
        ]
    named_made (index base position closing) e b n h place =
        let parts = and_parts (is_read_either base (is_read_owner texts a.program base) (is_read_form texts a.program base) || is_read_walker texts a.program base) (is_read_form texts a.program position) b in
        reached_apart (index base position closing) e place
        (indexed_of a visible types texts fs f setting base position closing e parts.0 h.0 (λ v. whole_expression a visible types texts fs f setting base v h.1) (λ o n. owner_expression a visible types texts fs f setting base o n h.1) (λ w. walker_expression a visible types texts fs f setting base w h.1) (whole_expression a visible types texts fs f setting position parts.1 h.2))
    named_made (method base which given delimiters) e b n h place =
        reached_apart (method base which given delimiters) e place (edge_of a visible types texts fs f setting base which given delimiters e b h.0 (λ o n. owner_expression a visible types texts fs f setting base o n h.1))
    named_made (member base which) e b n h place = record { apart = λ x l c found free s stands. member_apart types texts fs f which (variable s x) (operand (uses a base) s).given }
    named_made (typed at t c form) e b n h place = absurd h
    named_made _ e b n h place = absurd (false≢true b)

  -- .. so for a unique_ptr
  mutual
    pub named_unique_target : (form : Form) → is_read_unique texts a.program form ≡ true → is_place (typed_in form).category ≡ true → IsExpression a.program a.function.locals visible form → IsNamedAt a visible types texts fs f setting (named_in form) ((uses a form).at)
    named_unique_target (typed place t c form) b at h = named_unique_made form (record { place = place; ty = t; category = c; form = form }) (and_parts (is_unique_type t) (is_read_unique texts a.program form) b).1 at h place
    named_unique_target _ b at h = absurd h

    named_unique_made : (form : Form) (e : Typed) → is_read_unique texts a.program form ≡ true → is_place e.category ≡ true → IsMadeOf a.program a.function.locals visible e form → (place : Place) → IsNamedAt a visible types texts fs f setting (named_in form) ((form_uses a form place e.ty e.category).at)
    named_unique_made (local x) e b at h place = variable_named a visible types texts fs f setting x e h.0 h.1
    named_unique_made (move x) e b at h place = absurd (false≢true (sym (ap is_place (moved_from_variable a visible types texts fs f setting x e h.1).value) ∙ at))
    named_unique_made (make_unique id argument closing) e b at h place = absurd (false≢true (sym (ap (λ (y : Typed). is_place y.category) h.0) ∙ at))
    named_unique_made (paren inner closing) e b at h place = named_unique_target inner b (ap (λ (y : Typed). is_place y.category) (ok_same h.0) ∙ at) h.1
    named_unique_made (call g given delimiters) e b at h place = record { apart = λ x v c found free s stands. refl }
    named_unique_made (member base which) e b at h place = record { apart = λ x l c found free s stands. member_apart types texts fs f which (variable s x) (operand (uses a base) s).given }
    named_unique_made (typed there t c form) e b at h place = absurd h
    named_unique_made _ e b at h place = absurd (false≢true b)
