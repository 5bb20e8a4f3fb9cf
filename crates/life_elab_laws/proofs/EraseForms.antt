-- An element that is erased: it gives an iterator to what stood behind it.
use Rattle.std.proofs.Common.{◌≡◌, ◌++◌, ℕ, Bool, true, false, not, List, [], ◌∷◌, None, refl, sym, ap, ◌∙◌, subst, append_assoc}
use Rattle.std.proofs.lemmas.Bool.{and_from, and_parts, false≢true}
use Rattle.life_elab_laws.proofs.ObjectTypes.{is_owner_of_values, is_walker_of_values}
use Rattle.life_types.specs.Pointees.{ty_of}
use Rattle.life_types.specs.Types.{Types}
use Rattle.life_types.specs.declared.place.Place.{Place}
use Rattle.life_types.specs.declared.ty.Ty.{Ty}
use Rattle.life_types.specs.declared.ty.Ty.TheVariants as ty
use Rattle.life_types.specs.declared.ty.TyId.{TyId}
use Rattle.life_typed.specs.Delimiters.{DelimitersForm}
use Rattle.life_typed.specs.TypedForm.{Form, Typed, method, ◌⨟◌}
use Rattle.life_typed.specs.declared.typed_expr.Category.TheVariants as category
use Rattle.life_typed.specs.declared.typed_expr.ExprType.{ExprType}
use Rattle.life_typed.specs.declared.typed_expr.ExprType.TheVariants.{Of}
use Rattle.life_typed.specs.declared.typed_expr.Method.TheVariants as methods
use Rattle.life_type_expr.specs.Operands.{is_constant}
use Rattle.life_core.specs.Function.{Function}
use Rattle.life_core.specs.Operands.{Location, Operand}
use Rattle.life_core.specs.Step.{Changes, Erase}
use Rattle.life_core.specs.Touched.{place_uses}
use Rattle.life_proper.specs.OperandTypes.{same, takes, walks}
use Rattle.life_proper.specs.Placed.{is_const_place, type_in, type_of}
use Rattle.life_proper.specs.WellFormed.{is_change_of}
use Rattle.life_proper.specs.declared.known.Known.{Known}
use Rattle.life_well_typed.specs.Expressions.{typed_in}
use Rattle.life_well_typed.specs.Given.{is_given}
use Rattle.life_well_typed.specs.Members.{IsCalled}
use Rattle.life_writer.specs.Around.{Around}
use Rattle.life_writer.specs.ExpressionForms.{form_uses, uses}
use Rattle.life_writer.specs.Pointers.{By}
use Rattle.life_writer.specs.Uses.{own}
use Rattle.life_writer.specs.Using.{operand, pointer}
use Rattle.life_writer.specs.Writing.{gives}
use Rattle.life_elab_laws.proofs.Among.{among_left}
use Rattle.life_elab_laws.proofs.ChangeForms.{changes_free, no_const}
use Rattle.life_elab_laws.proofs.FormedFits.{given_walker}
use Rattle.life_elab_laws.proofs.Gifts.{IsAt, IsGivenAs, IsPlaceOf, a_place, a_pointer, a_pointing, both, nothing as no_gift}
use Rattle.life_elab_laws.proofs.LookedLocals.{place_used}
use Rattle.life_elab_laws.proofs.Making.{AreHeld, IsFilling, IsPlace, IsPointer}
use Rattle.life_elab_laws.proofs.OperandsThere.{same_is}
use Rattle.life_elab_laws.proofs.Parts.{Makes, and_part, seen_part}
use Rattle.life_elab_laws.proofs.Setting.{Setting}
use Rattle.life_elab_laws.proofs.TypedKinds.{none_some}
use Rattle.life_elab_laws.proofs.VariablePlaces.{stands_later}
use Rattle.life_elab_laws.proofs.ViewForms.{gives_as}
use Rattle.life_elab_laws.proofs.ViewSteps.{pointer_is_held}
use Rattle.life_elab_laws.proofs.WalkerForms.{IsWalker, IsWalkerAt, walker_pointer, no_place}
use Rattle.life_elab_laws.proofs.WalkerSteps.{iterator_taker}
use Rattle.life_elab_laws.proofs.Elements.{one_element}
use Rattle.life_elab_laws.proofs.Filling.{only_uses}
use Rattle.life_elab_laws.proofs.PointedCalls.{gives_plainly}
use Rattle.life_elab_laws.proofs.ObjectForms.{IsOwner}
use Rattle.life_elab_laws.proofs.FreeObjects.{owner_part}

module _ (types : Types) (texts : ℕ) (fs : List Function) (f : Function) where
  erase_given : (item found : TyId) (held : Bool) (o : Operand) (q : Location) → same (ty_of types item) (ty_of types item) ≡ true → ty_of types found ≡ ty_of types item → IsPlaceOf types texts fs f (ty.Vector item) false o
      → IsAt types texts fs f (ty.Iterator found held) q → IsGivenAs types texts fs f (Of (ty.Iterator item false)) (By (λ p. Changes o (Erase q p)))
  erase_given item found held o q itself one place source = λ u l loc at taken.
      let to = iterator_taker types item false u loc taken in
      let typed : type_in types f l ≡ ty.Iterator to.target to.held = at ∙ to.is in
      record {
        given = refl;
        formed =
            and_from (is_change_of types texts fs f (type_of types f o) (Erase q l)) (not (is_const_place types f o))
            (ap (λ (t : Ty). is_change_of types texts fs f t (Erase q l)) place.typed
            ∙ and_from (walks types (type_in types f q) (ty_of types item)) (walks types (type_in types f l) (ty_of types item))
            (ap (λ (t : Ty). walks types t (ty_of types item)) source.typed ∙ ap (λ (t : Ty). same t (ty_of types item)) one ∙ itself)
            (ap (λ (t : Ty). walks types t (ty_of types item)) typed ∙ ap (λ (t : Ty). same t (ty_of types item)) to.one ∙ itself)) place.held;
      }

  erase_filling : (o : Operand) (q : Location) (n : ℕ) (k : List Known) → IsPlace o n k → IsPointer q n k → IsFilling f (λ p. Changes o (Erase q p)) n k
  erase_filling o q n k place lies = record {
    uses = place_uses o ++ (q.local ∷ []);
    held = subst (λ (xs : List ℕ). AreHeld (xs ++ (q.local ∷ [])) n k) (sym place.uses) ((place.below, place.held), (pointer_is_held q n k lies, tt));
    touches = λ x e. refl;
    parts = λ x m ms. only_uses (sym (append_assoc (place_uses o) (q.local ∷ []) (x ∷ [])));
    looks = λ l x m. among_left (place_uses o) (q.local ∷ []) x (place_used f o x m);
  }

module _ (a : Around) (visible : List ℕ) (types : Types) (texts : ℕ) (fs : List Function) (f : Function) (setting : Setting a types fs f) where
  pub erased_walker : (base position others : Form) (d : DelimitersForm) (e : Typed) (place : Place) → IsOwner a visible types texts fs f setting base → IsWalker a visible types texts fs f setting position
      → IsCalled a.program.types (typed_in base).ty (typed_in base).category methods.Erase (position ⨟ others) e → IsWalkerAt a visible types texts fs f setting e ((form_uses a (method base methods.Erase (position ⨟ others) d) place e.ty e.category).pointing)
  erased_walker base position others d e place is at h = go is.ty refl is.owner (subst (λ (x : ExprType). IsCalled a.program.types x (typed_in base).category methods.Erase (position ⨟ others) e) is.is h)
    where
      go : (t : Ty) → is.ty ≡ t → is_owner_of_values a.program.types t ≡ true → IsCalled a.program.types (Of t) (typed_in base).category methods.Erase (position ⨟ others) e
          → IsWalkerAt a visible types texts fs f setting e ((form_uses a (method base methods.Erase (position ⨟ others) d) place e.ty e.category).pointing)
      go ty.Text alike o c = absurd (none_some c.2)
      go (ty.Vector item) alike o c = by_position at.ty refl at.walker
        where
          free : is.constant ≡ false
          free = sym is.told ∙ no_const (is_constant (typed_in base).category) (changes_free methods.Erase (typed_in base).category refl c.0)

          worth : same (ty_of types item) (ty_of types item) ≡ true
          worth = one_element a.program.types types setting.front item o

          fits : is_given a.program.types (ty.Iterator item true) (typed_in position) ≡ true
          fits = (and_parts (is_given a.program.types (ty.Iterator item true) (typed_in position)) _ c.1).0

          -- the iterator has the vector's elements
          one : (found : TyId) (held : Bool) → at.ty ≡ ty.Iterator found held → ty_of types found ≡ ty_of types item
          one found held named =
              let taken = given_walker a.program.types types setting.front (ty.Iterator item true) at.ty (typed_in position) o at.walker at.is fits in
              let there = subst (λ (t : Ty). takes types (ty.Iterator item true) t ≡ true) named taken in
              sym (same_is (ty_of types item) (ty_of types found) (and_parts (same (ty_of types item) (ty_of types found)) _ there).0)

          by_position : (t : Ty) → at.ty ≡ t → is_walker_of_values a.program.types t ≡ true → IsWalkerAt a visible types texts fs f setting e ((form_uses a (method base methods.Erase (position ⨟ others) d) place e.ty e.category).pointing)
          by_position (ty.Iterator found held) named w = record {
            ty = ty.Iterator item false;
            is = (gives_as (Of (ty.Iterator item false), category.Value) e c.2).0;
            walker = o;
            place = no_place a visible types texts fs f setting e (gives_as (Of (ty.Iterator item false), category.Value) e c.2).1;
            points = λ s stands.
                let x = operand (uses a base) s in
                let q = pointer (uses a position) (own (uses a position)) x.state in
                let P = a_place types texts fs f (ty.Vector item) false in
                let Q = a_pointer types texts fs f (ty.Iterator found held) in
                let first = subst (λ (t : Ty). Makes types texts fs f None s x (a_place types texts fs f t false)) alike (owner_part a visible types texts fs f setting base is free s stands) in
                let second = subst (λ (t : Ty). Makes types texts fs f None x.state q (a_pointer types texts fs f t)) named (walker_pointer a visible types texts fs f setting position at (own (uses a position)) x.state (stands_later a visible s x.state first.grown stands)) in
                gives_plainly
                (seen_part types texts fs f (no_gift types texts fs f) tt None s (gives (x.given, q.given) q.state) (both types texts fs f P Q) (λ y. By (λ p. Changes y.0 (Erase y.1 p))) (a_pointing types texts fs f (Of (ty.Iterator item false)))
                (and_part types texts fs f (no_gift types texts fs f) tt s x q P Q stands.opened first second)
                (λ b h. erase_given types texts fs f item found held x.given q.given worth (one found held named) h.0 h.1)
                (λ n k h. erase_filling types texts fs f x.given q.given n k h.0 h.1));
          }
          by_position (ty.Span found held) named w = absurd (false≢true (subst (λ (t : Ty). is_given a.program.types (ty.Iterator item true) (record (typed_in position) { ty = Of t }) ≡ true) named (subst (λ (x : ExprType). is_given a.program.types (ty.Iterator item true) (record (typed_in position) { ty = x }) ≡ true) at.is fits)))
          by_position _ named w = absurd (false≢true w)
      go _ alike o c = absurd (false≢true o)
