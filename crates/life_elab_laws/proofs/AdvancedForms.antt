-- What is made of iterators: one that stands so many elements on, the element that one points to, and whether two are the same.
use Rattle.std.proofs.Common.{◌≡◌, ◌⊎◌, inl, inr, ℕ, Bool, true, false, List, [], ◌∷◌, Option, Some, None, Ok, refl, sym, ap, ◌∙◌, subst}
use Rattle.std.proofs.lemmas.Bool.{and_from, false≢true}
use Rattle.life_elab_laws.proofs.FormKinds.{is_end}
use Rattle.life_elab_laws.proofs.ObjectTypes.{is_owner_of_values, is_walker_of_values}
use Rattle.life_elab_laws.proofs.TypeKinds.{is_walker, is_walker_type}
use Rattle.life_types.specs.Pointees.{ty_of}
use Rattle.life_types.specs.TypeTests.{is_iterator, is_value}
use Rattle.life_types.specs.Types.{Types}
use Rattle.life_types.specs.declared.place.Place.{Place}
use Rattle.life_types.specs.declared.ty.Ty.{Ty}
use Rattle.life_types.specs.declared.ty.Ty.TheVariants as ty
use Rattle.life_types.specs.declared.ty.TyId.{TyId}
use Rattle.life_typed.specs.BaseTypes.{type_at}
use Rattle.life_typed.specs.Delimiters.{DelimitersForm}
use Rattle.life_typed.specs.Operators.{are_iterators_of_one, dereferenced}
use Rattle.life_typed.specs.TypedForm.{Form, Typed, binary, dereference, method}
use Rattle.life_typed.specs.declared.typed_expr.BinaryOperator.{BinaryOperator}
use Rattle.life_typed.specs.declared.typed_expr.Category.TheVariants as category
use Rattle.life_typed.specs.declared.typed_expr.ExprType.{ExprType}
use Rattle.life_typed.specs.declared.typed_expr.ExprType.TheVariants.{Of}
use Rattle.life_typed.specs.declared.typed_expr.Method.{Method}
use Rattle.life_typed.specs.declared.typed_expr.Method.TheVariants as methods
use Rattle.life_type_expr.specs.Operands.{dereferenced_to, is_constant, pointed_to}
use Rattle.life_core.specs.Function.{Function}
use Rattle.life_core.specs.Operands.{Location, Operand, Through}
use Rattle.life_core.specs.Step.{Advance, Same}
use Rattle.life_core.specs.declared.operand.RangeEnd.TheVariants as range_end
use Rattle.life_proper.specs.OperandTypes.{are_compared, same}
use Rattle.life_proper.specs.Placed.{is_number_of, type_in}
use Rattle.life_proper.proofs.ReadyTests.{uses_ready}
use Rattle.life_well_typed.specs.Expressions.{typed_in}
use Rattle.life_well_typed.specs.Members.{IsCalled}
use Rattle.life_writer.specs.Around.{Around, own_type}
use Rattle.life_writer.specs.Characters.{InView, Seen, seen, seen_by, viewed}
use Rattle.life_writer.specs.ExpressionForms.{binary_uses, form_uses, target_at, uses}
use Rattle.life_writer.specs.Pointers.{By}
use Rattle.life_writer.specs.Registers.{computed}
use Rattle.life_writer.specs.Rows.{row_between}
use Rattle.life_writer.specs.Uses.{own}
use Rattle.life_writer.specs.Using.{pointer, value}
use Rattle.life_writer.specs.Writing.{Gives, State, ◌>>◌, gives, mapped}
use Rattle.life_writer.specs.declared.behind.Behind.{Behind}
use Rattle.life_writer.specs.declared.rows.Row.{Row}
use Rattle.life_writer.specs.declared.rows.Row.TheVariants.{Advanced, Compared, Computed, Concatenated, IsNull, Joined, NotNull}
use Rattle.life_elab_laws.proofs.ExpressionForms.{IsForm, IsWhole, Placed, Standing, Valued, value_form}
use Rattle.life_elab_laws.proofs.ExpressionTypes.{own_value}
use Rattle.life_elab_laws.proofs.FormedVariables.{behind_place}
use Rattle.life_elab_laws.proofs.Gifts.{a_number, a_place, a_pointer, a_pointing, both, nothing as no_gift}
use Rattle.life_elab_laws.proofs.Held.{two_there}
use Rattle.life_elab_laws.proofs.Instructions.{IsIntoOf, computed_part, into_of_later}
use Rattle.life_elab_laws.proofs.ObjectForms.{IsOwner, IsReached}
use Rattle.life_elab_laws.proofs.Parts.{Makes, Part, and_part, seen_part, then_part}
use Rattle.life_elab_laws.proofs.PointerForms.{own_typed}
use Rattle.life_elab_laws.proofs.RowTypes.{AreIterators, Fits, IsCompared, row_fits_between, sees}
use Rattle.life_elab_laws.proofs.Setting.{Setting}
use Rattle.life_elab_laws.proofs.TypedKinds.{IsCombined, err_ok, none_some, ok_same}
use Rattle.life_elab_laws.proofs.Values.{by_walkers}
use Rattle.life_elab_laws.proofs.VariablePlaces.{stands_later}
use Rattle.life_elab_laws.proofs.ViewForms.{gives_as}
use Rattle.life_elab_laws.proofs.ViewSteps.{pointer_held}
use Rattle.life_elab_laws.proofs.WalkerForms.{IsWalker, IsWalkerAt, cursor_walker, walker_pointer, walker_type, no_place, value_no_walker}
use Rattle.life_elab_laws.proofs.WalkerSteps.{advance_filling, advance_given}
use Rattle.life_elab_laws.proofs.FormedFits.{same_id}
use Rattle.life_elab_laws.proofs.EqualityRows.{compares}
use Rattle.life_elab_laws.proofs.Elements.{element_target, element_there, one_element}
use Rattle.life_elab_laws.proofs.Targets.{target_no_void}
use Rattle.life_proper.specs.WellFormed.{is_itself}
use Rattle.life_elab_laws.proofs.PointedCalls.{gives_plainly}

same_of : {u w : Ty} → Of u ≡ Of w → u ≡ w
same_of e = cc

module _ (a : Around) (visible : List ℕ) (types : Types) (texts : ℕ) (fs : List Function) (f : Function) (setting : Setting a types fs f) where
  -- ---- the ends of a vector

  pub end_walker : (base : Form) (m : Method) (given : Form) (d : DelimitersForm) (e : Typed) (place : Place) → IsOwner a visible types texts fs f setting base → is_end m ≡ true
      → IsCalled a.program.types (typed_in base).ty (typed_in base).category m given e → IsWalkerAt a visible types texts fs f setting e ((form_uses a (method base m given d) place e.ty e.category).pointing)
  end_walker base m given d e place is ends h = go is.ty refl is.owner m ends (subst (λ (x : ExprType). IsCalled a.program.types x (typed_in base).category m given e) is.is h)
    where
      at_end : (item : TyId) → e.ty ≡ Of (ty.Iterator item (is_constant (typed_in base).category)) → e.ty ≡ Of (ty.Iterator item is.constant)
      at_end item at = at ∙ ap (λ (c : Bool). Of (ty.Iterator item c)) is.told

      go : (t : Ty) → is.ty ≡ t → is_owner_of_values a.program.types t ≡ true → (m : Method) → is_end m ≡ true → IsCalled a.program.types (Of t) (typed_in base).category m given e
          → IsWalkerAt a visible types texts fs f setting e ((form_uses a (method base m given d) place e.ty e.category).pointing)
      go ty.Text same o methods.Begin b c = absurd (none_some c.2)
      go ty.Text same o methods.End b c = absurd (none_some c.2)
      go ty.Text same o _ b c = absurd (false≢true b)
      go (ty.Vector item) same o methods.Begin b c = cursor_walker a visible types texts fs f setting base e item range_end.Begin is same (at_end item (gives_as (Of (ty.Iterator item (is_constant (typed_in base).category)), category.Value) e c.2).0)
          (gives_as (Of (ty.Iterator item (is_constant (typed_in base).category)), category.Value) e c.2).1
      go (ty.Vector item) same o methods.End b c = cursor_walker a visible types texts fs f setting base e item range_end.End is same (at_end item (gives_as (Of (ty.Iterator item (is_constant (typed_in base).category)), category.Value) e c.2).0)
          (gives_as (Of (ty.Iterator item (is_constant (typed_in base).category)), category.Value) e c.2).1
      go (ty.Vector item) same o _ b c = absurd (false≢true b)
      go _ same o m b c = absurd (false≢true o)

  -- ---- so many elements on

  pub advanced_walker : (o : BinaryOperator) (left right : Form) (e : Typed) (place : Place) → is_walker_type e.ty ≡ true → IsCombined o (typed_in left) (typed_in right) e → IsWalker a visible types texts fs f setting left
      → IsWhole a visible types texts fs f setting right → IsWalkerAt a visible types texts fs f setting e ((form_uses a (binary o left right) place e.ty e.category).pointing)
  advanced_walker o left right e place n c l r = go (row_between o left right) (row_fits_between o left right c.ty c.answer)
    where
      walks : is_walker c.ty ≡ true
      walks = let w = walker_type e.ty n in subst (λ (t : Ty). is_walker t ≡ true) (same_of (sym w.is ∙ c.is.0)) w.walker

      go : (w : Row) → Fits w (typed_in left).ty (typed_in right).ty c.ty → IsWalkerAt a visible types texts fs f setting e ((binary_uses w (uses a left) (uses a right) place e.ty e.category).pointing)
      go (Computed by common) fit = absurd (false≢true (sym (value_no_walker c.ty fit.worth) ∙ walks))
      go (Joined by) fit = absurd (false≢true (sym (value_no_walker c.ty fit.worth) ∙ walks))
      go (IsNull side) fit = absurd (false≢true (sym (value_no_walker c.ty fit.worth) ∙ walks))
      go (NotNull side) fit = absurd (false≢true (sym (value_no_walker c.ty fit.worth) ∙ walks))
      go (Compared equal) fit = absurd (false≢true (sym (ap is_walker fit.answers) ∙ walks))
      go Concatenated fit = absurd (false≢true (sym (ap is_walker fit.answers) ∙ walks))
      go (Advanced direction) fit = by_type l.ty refl l.walker (sym (same_of (sym l.is ∙ fit.left))) fit.iterator
        where
          by_type : (t : Ty) → l.ty ≡ t → is_walker_of_values a.program.types t ≡ true → c.ty ≡ l.ty → is_iterator c.ty ≡ true → IsWalkerAt a visible types texts fs f setting e ((binary_uses (Advanced direction) (uses a left) (uses a right) place e.ty e.category).pointing)
          by_type (ty.Span item constant) at v one moves = absurd (false≢true (sym (ap is_iterator (one ∙ at)) ∙ moves))
          by_type (ty.Iterator item constant) at v one moves = record {
            ty = ty.Iterator item constant;
            is = c.is.0 ∙ ap Of (one ∙ at);
            walker = v;
            place = no_place a visible types texts fs f setting e c.is.1;
            points = λ s stands.
                let q = pointer (uses a left) (own (uses a left)) s in
                let t = own (uses a right) in
                let m = value (uses a right) place t None q.state in
                let P = a_pointer types texts fs f (ty.Iterator item constant) in
                let Q = a_number types texts fs f t in
                let first = subst (λ (u : Ty). Makes types texts fs f None s q (a_pointer types texts fs f u)) at (walker_pointer a visible types texts fs f setting left l (own (uses a left)) s stands) in
                let second = r.valued fit.right place t (ap is_value (ap own_type (sym (own_typed a visible types texts fs f setting right))) ∙ own_value (typed_in right).ty fit.right) None q.state tt (stands_later a visible s q.state first.grown stands) in
                gives_plainly
                (seen_part types texts fs f (no_gift types texts fs f) tt None s (gives (q.given, m.given) m.state) (both types texts fs f P Q) (λ x. By (λ p. Advance p x.0 x.1 direction)) (a_pointing types texts fs f (Of (ty.Iterator item constant)))
                (and_part types texts fs f (no_gift types texts fs f) tt s q m P Q stands.opened first second)
                (λ b h. advance_given types texts fs f item constant t q.given m.given direction h.0 (one_element a.program.types types setting.front item v) h.1)
                (λ n k h. advance_filling types texts fs f q.given m.given direction n k h.0 h.1));
          }
          by_type _ at v one moves = absurd (false≢true v)

  -- ---- the element that one points to

  pub walker_dereferenced : (inner : Form) (e : Typed) → IsWalker a visible types texts fs f setting inner → pointed_to a.program.types e.place (typed_in inner) ≡ Ok e → IsReached a visible types texts fs f setting (dereference inner) e
  walker_dereferenced inner e is h = go is.ty refl is.walker
    where
      at_type : (t : Ty) → is.ty ≡ t → dereferenced_to (dereferenced (Of t)) a.program.types e.place (typed_in inner) ≡ Ok e
      at_type t same = sym (ap (λ (x : ExprType). dereferenced_to (dereferenced x) a.program.types e.place (typed_in inner)) (is.is ∙ ap Of same)) ∙ h

      go : (t : Ty) → is.ty ≡ t → is_walker_of_values a.program.types t ≡ true → IsReached a visible types texts fs f setting (dereference inner) e
      go (ty.Span item constant) same w = absurd (err_ok (at_type (ty.Span item constant) same))
      go (ty.Iterator item constant) same w =
          let one = ok_same (at_type (ty.Iterator item constant) same) in
          record {
            ty = type_at a.program.types item;
            id = item;
            constant = constant;
            is = sym (ap (λ (y : Typed). y.ty) one);
            place = sym (ap (λ (y : Typed). y.category) one);
            here = refl;
            worth = w;
            names = λ place s stands. reached place s stands;
            behind = λ place s y. ap (λ (x : Ty). is_itself types texts fs f y (target_at x (uses a inner) place (category.Place item constant) s).given) own_is;
          }
        where
          own_is : own (uses a inner) ≡ ty.Iterator item constant
          own_is = ap own_type (sym (own_typed a visible types texts fs f setting inner) ∙ is.is) ∙ same

          reached : (place : Place) (s : State) → Standing a visible types texts fs f setting s
              → Placed a visible types texts fs f setting (type_at a.program.types item) constant s (target_at (own (uses a inner)) (uses a inner) place (category.Place item constant) s)
          reached place s stands =
              let q = pointer (uses a inner) (own (uses a inner)) s in
              subst (λ (g : Gives Operand). Placed a visible types texts fs f setting (type_at a.program.types item) constant s g)
              (sym (ap (λ (x : Ty). target_at x (uses a inner) place (category.Place item constant) s) own_is))
              (seen_part types texts fs f (no_gift types texts fs f) tt None s q (a_pointer types texts fs f (ty.Iterator item constant)) (λ (p : Location). Through p []) (a_place types texts fs f (type_at a.program.types item) constant)
              (subst (λ (u : Ty). Makes types texts fs f None s q (a_pointer types texts fs f u)) same (walker_pointer a visible types texts fs f setting inner is (own (uses a inner)) s stands))
              (λ b h. behind_place types texts fs f q.given (ty.Iterator item constant) item constant (type_at a.program.types item) h refl refl refl (element_there a.program.types types setting.front item w) (target_no_void a.program.types (type_at a.program.types item) (element_target a.program.types (type_at a.program.types item) w)))
              (λ n k p. record { local = p.local; uses = ap (λ (x : ℕ). x ∷ []) p.is; below = p.below; held = p.held }))
      go _ same w = absurd (false≢true w)

  -- ---- whether two are the same

  -- of one type of elements
  one_compared : (t u : Ty) → is_walker_of_values a.program.types t ≡ true → are_iterators_of_one t u ≡ true → are_compared types t u ≡ true
  one_compared (ty.Iterator item c) (ty.Iterator other d) w e =
      ap (λ (x : TyId). same (ty_of types item) (ty_of types x)) (sym (same_id item other e)) ∙ one_element a.program.types types setting.front item w
  one_compared (ty.Iterator item c) _ w e = absurd (false≢true e)
  one_compared _ u w e = absurd (false≢true e)

  same_walkers_part : (into : Option ℕ) (t : Ty) (place : Place) (equal : Bool) (first second : Ty) (x : Location × Location) (s : State) → t ≡ ty.Bool → are_compared types first second ≡ true → is_value t ≡ true → IsIntoOf t s into
      → Part types texts fs f (both types texts fs f (a_pointer types texts fs f first) (a_pointer types texts fs f second)) x into s (computed into t place (λ n. Same n x.0 x.1 equal) s) (a_number types texts fs f t)
  same_walkers_part into t place equal first second x s bool compared v wanted =
      computed_part types texts fs f (both types texts fs f (a_pointer types texts fs f first) (a_pointer types texts fs f second)) x into t place (λ n. Same n x.0 x.1 equal) s v wanted
      (record {
        fills = λ r n k e p. record { ready = uses_ready k (x.0.local ∷ x.1.local ∷ []) (r ∷ []) (two_there k x.0.local x.1.local (pointer_held x.0 n k p.0) (pointer_held x.1 n k p.1)); after = refl };
        fine = λ r e h. record {
          given = refl;
          formed =
              and_from (is_number_of types f ty.Bool r) (are_compared types (type_in types f x.0) (type_in types f x.1)) (subst (λ (u : Ty). is_number_of types f u r ≡ true) bool e)
              (ap (λ (u : Ty). are_compared types u (type_in types f x.1)) h.0.typed ∙ ap (are_compared types first) h.1.typed ∙ compared);
        };
      })

  -- where one lies
  walker_seen : (form : Form) → (is : IsWalker a visible types texts fs f setting form) → (s : State) → seen (uses a form) s ≡ mapped InView (pointer (uses a form) ty.View s)
  walker_seen form is s = ap (λ (x : Ty). seen_by x (uses a form) s) (ap own_type (sym (own_typed a visible types texts fs f setting form) ∙ is.is)) ∙ go is.ty is.walker
    where
      go : (t : Ty) → is_walker_of_values a.program.types t ≡ true → seen_by t (uses a form) s ≡ mapped InView (pointer (uses a form) ty.View s)
      go = by_walkers a.program.types _ (λ item constant. refl) (λ item constant. refl)

  module _ (left right : Form) (t : Ty) (l : IsWalker a visible types texts fs f setting left) (r : IsWalker a visible types texts fs f setting right) where
    walkers : (fit : IsCompared (typed_in left).ty (typed_in right).ty t) → are_compared types l.ty r.ty ≡ true
    walkers fit = go fit.operands
      where
        none : (u : Ty) → is_walker_of_values a.program.types u ≡ true → sees (Of u) ≡ false
        none = by_walkers a.program.types _ (λ item constant. refl) (λ item constant. refl)

        go : ((sees (typed_in left).ty ≡ true) × (sees (typed_in right).ty ≡ true)) ⊎ AreIterators (typed_in left).ty (typed_in right).ty → are_compared types l.ty r.ty ≡ true
        go (inl s) = absurd (false≢true (sym (ap sees l.is ∙ none l.ty l.walker) ∙ s.0))
        go (inr is) =
            one_compared l.ty r.ty l.walker
            (ap (λ (u : Ty). are_iterators_of_one u r.ty) (same_of (sym l.is ∙ is.left)) ∙ ap (are_iterators_of_one is.first) (same_of (sym r.is ∙ is.right)) ∙ is.one)

    worth : (w : Row) → compares w ≡ true → Fits w (typed_in left).ty (typed_in right).ty t → is_value t ≡ true
    worth (Compared equal) c fit = ap is_value fit.answers
    worth _ c fit = absurd (false≢true c)

    plain : (w : Row) → compares w ≡ true → (place : Place) (b : Behind) → (binary_uses w (uses a left) (uses a right) place (Of t) category.Value).decision b ≡ None
    plain (Compared equal) c place b = refl
    plain _ c place b = absurd (false≢true c)

    made : (w : Row) → compares w ≡ true → Fits w (typed_in left).ty (typed_in right).ty t → (place behind : Place) (into : Option ℕ) (s : State) → IsIntoOf t s into → Standing a visible types texts fs f setting s
        → Valued a visible types texts fs f setting t into s ((binary_uses w (uses a left) (uses a right) place (Of t) category.Value).made behind into s)
    made (Compared equal) c fit place behind into s wanted stands =
        let x = pointer (uses a left) ty.View s in
        let y = pointer (uses a right) ty.View x.state in
        let P = a_pointer types texts fs f l.ty in
        let Q = a_pointer types texts fs f r.ty in
        let first = walker_pointer a visible types texts fs f setting left l ty.View s stands in
        let second = walker_pointer a visible types texts fs f setting right r ty.View x.state (stands_later a visible s x.state first.grown stands) in
        subst (λ (w : Gives ℕ). Valued a visible types texts fs f setting t into s w)
        (sym (ap (λ (w : Gives Seen). w >> λ x s. seen (uses a right) s >> λ y s. viewed x s >> λ p s. viewed y s >> λ q s. computed into t place (λ n. Same n p q equal) s) (walker_seen left l s)
        ∙ ap (λ (w : Gives Seen). w >> λ z s. viewed z s >> λ q s. computed into t place (λ n. Same n x.given q equal) s) (walker_seen right r x.state)))
        (then_part types texts fs f (no_gift types texts fs f) tt into s (gives (x.given, y.given) y.state) _ (both types texts fs f P Q) (a_number types texts fs f t) stands.opened
        (and_part types texts fs f (no_gift types texts fs f) tt s x y P Q stands.opened first second)
        (same_walkers_part into t place equal l.ty r.ty (x.given, y.given) y.state fit.answers (walkers fit) (ap is_value fit.answers) (into_of_later t x.state y.state into second.grown (into_of_later t s x.state into first.grown wanted))))
    made _ c fit place behind into s wanted stands = absurd (false≢true c)

    lands : (w : Row) → compares w ≡ true → (place behind : Place) (r : ℕ) (s : State) → ((binary_uses w (uses a left) (uses a right) place (Of t) category.Value).made behind (Some r) s).given ≡ r
    lands (Compared equal) c place behind r s = refl
    lands _ c place behind r s = absurd (false≢true c)

  pub compared_walkers_form : (o : BinaryOperator) (left right : Form) (e : Typed) → IsCombined o (typed_in left) (typed_in right) e → compares (row_between o left right) ≡ true → IsWalker a visible types texts fs f setting left
      → IsWalker a visible types texts fs f setting right → IsForm a visible types texts fs f setting (binary o left right) e
  compared_walkers_form o left right e c compare l r =
      let w = row_between o left right in
      let fit : Fits w (typed_in left).ty (typed_in right).ty c.ty = row_fits_between o left right c.ty c.answer in
      value_form a visible types texts fs f setting (binary o left right) e c.ty c.is.0 c.is.1 (worth left right c.ty l r w compare fit) refl (plain left right c.ty l r w compare)
      (made left right c.ty l r w compare fit) (lands left right c.ty l r w compare)
