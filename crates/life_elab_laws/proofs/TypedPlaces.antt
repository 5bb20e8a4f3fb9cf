-- The places that well typed expressions are: variables, what a call refers to, members, elements, and what is behind a pointer, an iterator or a unique_ptr.
use Rattle.std.proofs.Common.{◌≡◌, ℕ, Bool, true, false, List, slice_get, Option, Some, None, refl, sym, ap, ◌∙◌, if◌then◌else◌, Ok}
use Rattle.life_types.specs.Trees.{members_at}
use Rattle.life_types.specs.TypeTests.{is_reference, is_value}
use Rattle.life_types.specs.Types.{Types}
use Rattle.life_types.specs.declared.place.Place.{Place}
use Rattle.life_types.specs.declared.ty.Ty.{Ty}
use Rattle.life_types.specs.declared.ty.Ty.TheVariants as ty
use Rattle.life_types.specs.declared.ty.TyId.{TyId}
use Rattle.life_typed.specs.BaseTypes.{type_at}
use Rattle.life_typed.specs.Operators.{dereferenced, indexed}
use Rattle.life_typed.specs.Programs.{FunctionForm}
use Rattle.life_typed.specs.TypedForm.{Form, Typed, dereference, index, local, whole}
use Rattle.life_typed.specs.declared.basic.TheConstants.{CHAR}
use Rattle.life_typed.specs.declared.typed_expr.Category.{Category}
use Rattle.life_typed.specs.declared.typed_expr.Category.TheVariants as category
use Rattle.life_typed.specs.declared.typed_expr.ExprType.{ExprType}
use Rattle.life_typed.specs.declared.typed_expr.ExprType.TheVariants.{NullPointer, Of, TextLiteral}
use Rattle.life_typed.specs.declared.typed_program.TypedLocal.{TypedLocal}
use Rattle.life_type_expr.specs.Members.{indexed_at, indexed_to, is_position}
use Rattle.life_type_expr.specs.Operands.{answer_of, dereferenced_to, is_constant, place_of, pointed_to, variable_of}
use Rattle.life_well_typed.specs.Expressions.{HasResult, IsVariable}
use Rattle.life_well_typed.specs.Members.{IsMember, IsMemberAt}
use Rattle.life_elab_laws.proofs.ObjectTypes.{are_admitted_variables, is_admitted_variable, is_target}
use Rattle.life_elab_laws.proofs.TypeKinds.{is_struct_type}
use Rattle.life_elab_laws.proofs.Elements.{element_target}
use Rattle.life_elab_laws.proofs.ExpressionKinds.{variable_built}
use Rattle.life_elab_laws.proofs.KnownTypes.{HasKnownTypes, iterator_element, raw_target, reference_target, admits_known, span_element, unique_element, vector_element}
use Rattle.life_elab_laws.proofs.Targets.{value_target}
use Rattle.life_elab_laws.proofs.TypedKinds.{err_ok, ok_same}
use Rattle.life_elab_laws.proofs.TypedReadings.{IsBehind, IsPlaceOf, IsThere, behind_there, is_known, made_place, there_known, there_place}
use Rattle.life_elab_laws.proofs.TypedOperands.{IsPointing, IsRanged, points_unique, points_value, points_walker, ranges_owner, ranges_value, ranges_walker}

module _ (types : Types) (table : HasKnownTypes types) where
  -- ---- variables

  -- a reference that is named is what it refers to
  named_there : (id : TyId) (constant : Bool) (form : Form) (e : Typed) → is_admitted_variable types id ≡ true → (t : Ty) → type_at types id ≡ t → e ≡ variable_of t types id constant e.place form → IsThere types e.ty e.category
  named_there id constant form e s (ty.Reference target held) at is =
      behind_there types e.ty e.category (record {
        id = target;
        constant = held;
        at = ap (λ (y : Typed). y.category) is;
        typed = ap (λ (y : Typed). y.ty) is;
        worth = reference_target types target held (ap (λ (t : Ty). is_known types (Of t)) (sym at) ∙ admits_known types (type_at types id) s);
      })
  named_there id constant form e s _ at is = record {
    id = id;
    constant = constant;
    at = ap (λ (y : Typed). y.category) is;
    typed = ap (λ (y : Typed). y.ty) is;
    admitted = s;
    value = ap is_reference at;
  }

  pub variable_there : (locals : List TypedLocal) → are_admitted_variables types locals ≡ true → (x : ℕ) (e : Typed) → IsVariable types x (slice_get locals x) e → IsThere types e.ty e.category
  variable_there locals variables x e h = go (slice_get locals x) refl h
    where
      go : (o : Option TypedLocal) → slice_get locals x ≡ o → IsVariable types x o e → IsThere types e.ty e.category
      go None at h = absurd h
      go (Some l) at h = named_there l.ty l.constant (local x) e (variable_built types locals x l variables at) (type_at types l.ty) refl h

  -- ---- what a call gives

  pub record IsTold (t : ExprType) (c : Category) : Type 0 where
    pub known : is_known types t ≡ true
    pub place : IsPlaceOf types t c

  there_told : (t : ExprType) (c : Category) → IsThere types t c → IsTold t c
  there_told t c is = record { known = there_known types t c is; place = there_place types t c is }

  result_told : (id : TyId) (e : Typed) (t : Ty) → type_at types id ≡ t → e ≡ answer_of t types e.place e.form → IsTold e.ty e.category
  result_told id e (ty.Reference target constant) at is =
      there_told e.ty e.category
      (behind_there types e.ty e.category (record {
        id = target;
        constant = constant;
        at = ap (λ (y : Typed). y.category) is;
        typed = ap (λ (y : Typed). y.ty) is;
        worth = reference_target types target constant (ap (λ (t : Ty). is_known types (Of t)) (sym at) ∙ table.known id);
      }))
  result_told id e _ at is = record {
    known = ap (λ (y : Typed). is_known types y.ty) is ∙ ap (λ (t : Ty). is_known types (Of t)) (sym at) ∙ table.known id;
    place = made_place types e.ty e.category (ap (λ (y : Typed). y.category) is);
  }

  pub called_told : (o : Option FunctionForm) (e : Typed) → HasResult types o e → IsTold e.ty e.category
  called_told None e h = absurd h
  called_told (Some f) e h = result_told f.result e (type_at types f.result) refl h

  -- ---- members

  pub record IsMemberThere (t : ExprType) (e : Typed) : Type 0 where
    pub whole : is_struct_type t ≡ true
    pub there : IsThere types e.ty e.category

  pub member_there : (t : ExprType) (c : Category) (which : ℕ) (e : Typed) → IsMember types t c which e → IsMemberThere t e
  member_there (Of (ty.Struct number)) category.Value which e h = absurd h
  member_there (Of (ty.Struct number)) (category.Place id constant) which e h = go (slice_get (members_at types number) which) refl h
    where
      go : (o : Option TyId) → slice_get (members_at types number) which ≡ o → IsMemberAt types o constant e → IsMemberThere (Of (ty.Struct number)) e
      go None at h = absurd h
      go (Some m) at h =
          let is = table.members number which m at in
          record { whole = refl; there = record { id = m; constant = constant; at = ap (λ (y : Typed). y.category) h; typed = ap (λ (y : Typed). y.ty) h; admitted = is.0; value = is.1 } }
  member_there (Of _) c which e h = absurd h
  member_there NullPointer c which e h = absurd h
  member_there TextLiteral c which e h = absurd h

  -- ---- what is behind a pointer, an iterator or a unique_ptr

  pub record IsReached (t : ExprType) (e : Typed) : Type 0 where
    pub by : IsPointing t
    pub behind : IsBehind types e.ty e.category

  placed_behind : (e : Typed) (place : Place) (target : TyId) (constant : Bool) (form : Form) → place_of types target constant place form ≡ e → is_target types (type_at types target) ≡ true → IsBehind types e.ty e.category
  placed_behind e place target constant form same worth = record { id = target; constant = constant; at = sym (ap (λ (y : Typed). y.category) same); typed = sym (ap (λ (y : Typed). y.ty) same); worth = worth }

  pub dereferenced_behind : (inner e : Typed) (place : Place) → is_known types inner.ty ≡ true → pointed_to types place inner ≡ Ok e → IsReached inner.ty e
  dereferenced_behind inner e place known h = go inner.ty known h
    where
      go : (t : ExprType) → is_known types t ≡ true → dereferenced_to (dereferenced t) types place inner ≡ Ok e → IsReached t e
      go (Of (ty.Raw target constant)) k h =
          record { by = points_value (record { plain = refl; some = refl }); behind = placed_behind e place target constant (dereference (whole inner)) (ok_same h) (raw_target types target constant k) }
      go (Of (ty.Iterator target constant)) k h =
          record { by = points_walker refl; behind = placed_behind e place target constant (dereference (whole inner)) (ok_same h) (element_target types (type_at types target) (iterator_element types target constant k)) }
      go (Of (ty.Unique target)) k h =
          record { by = points_unique refl; behind = placed_behind e place target false (dereference (whole inner)) (ok_same h) (element_target types (type_at types target) (unique_element types target k)) }
      go (Of _) k h = absurd (err_ok h)
      go NullPointer k h = absurd (err_ok h)
      go TextLiteral k h = absurd (err_ok h)

  -- ---- elements

  chars_target : is_target types (type_at types CHAR) ≡ true
  chars_target = value_target types (type_at types CHAR) (ap is_value table.chars)

  pub record IsElementOf (base position : ExprType) (e : Typed) : Type 0 where
    pub number : is_position position ≡ true
    pub by : IsRanged base
    pub behind : IsBehind types e.ty e.category

  pub indexed_behind : (base position e : Typed) (place closing : Place) → is_known types base.ty ≡ true → indexed_at types place base position closing ≡ Ok e → IsElementOf base.ty position.ty e
  indexed_behind base position e place closing known h = numbered (is_position position.ty) refl h
    where
      go : (t : ExprType) → is_known types t ≡ true → is_position position.ty ≡ true → indexed_to (indexed t (is_constant base.category)) types place base position closing ≡ Ok e → IsElementOf t position.ty e
      go (Of (ty.Vector item)) k n h = record {
        number = n;
        by = ranges_owner refl;
        behind = placed_behind e place item (is_constant base.category) (index (whole base) (whole position) closing) (ok_same h) (element_target types (type_at types item) (vector_element types item k));
      }
      go (Of ty.Text) k n h = record { number = n; by = ranges_owner refl; behind = placed_behind e place CHAR (is_constant base.category) (index (whole base) (whole position) closing) (ok_same h) chars_target }
      go (Of ty.View) k n h = record { number = n; by = ranges_value (record { plain = refl; some = refl }); behind = placed_behind e place CHAR true (index (whole base) (whole position) closing) (ok_same h) chars_target }
      go (Of (ty.Span item held)) k n h = record {
        number = n;
        by = ranges_walker refl;
        behind = placed_behind e place item held (index (whole base) (whole position) closing) (ok_same h) (element_target types (type_at types item) (span_element types item held k));
      }
      go (Of _) k n h = absurd (err_ok h)
      go NullPointer k n h = absurd (err_ok h)
      go TextLiteral k n h = absurd (err_ok h)

      numbered : (b : Bool) → is_position position.ty ≡ b → indexed_to (if b then indexed base.ty (is_constant base.category) else None) types place base position closing ≡ Ok e → IsElementOf base.ty position.ty e
      numbered true n h = go base.ty known n h
      numbered false n h = absurd (err_ok h)
