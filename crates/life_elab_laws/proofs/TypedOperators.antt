-- How operators are read, by what their operands are: each that has an answer, whatever its operands are.
use Rattle.std.proofs.Common.{◌≡◌, ℕ, Bool, true, false, ◌&&◌, ◌||◌, refl, sym, ap, ◌∙◌, subst, Ok, Err, if◌then◌else◌}
use Rattle.std.proofs.lemmas.Bool.{and_from, false≢true, or_left, or_right}
use Rattle.life_types.specs.TypeTests.{is_reference, is_value}
use Rattle.life_types.specs.declared.place.Place.{Place}
use Rattle.life_types.specs.declared.ty.Ty.{Ty}
use Rattle.life_types.specs.declared.ty.Ty.TheVariants as ty
use Rattle.life_typed.specs.BaseTypes.{type_at}
use Rattle.life_typed.specs.Conversions.{is_place}
use Rattle.life_typed.specs.Operators.{is_condition, negated, promoted}
use Rattle.life_typed.specs.declared.misfit.Misfit.TheVariants.{General}
use Rattle.life_names.specs.Found.{Found, not_found}
use Rattle.life_names.specs.declared.fault.IllKind.TheVariants as kinds
use Rattle.life_typed.specs.Programs.{ProgramForm}
use Rattle.life_typed.specs.TypedForm.{Form, Typed, address_of, binary, negate, not, text_of, whole}
use Rattle.life_typed.specs.declared.typed_expr.BinaryOperator.{BinaryOperator}
use Rattle.life_typed.specs.declared.typed_expr.BinaryOperator.TheVariants as operators
use Rattle.life_typed.specs.declared.typed_expr.Category.{Category}
use Rattle.life_typed.specs.declared.typed_expr.Category.TheVariants as category
use Rattle.life_typed.specs.declared.typed_expr.ExprType.{ExprType}
use Rattle.life_typed.specs.declared.typed_expr.ExprType.TheVariants.{NullPointer, Of, TextLiteral}
use Rattle.life_type_expr.specs.Operands.{inverted, makes_text, negated_to, text_made, value}
use Rattle.life_well_typed.specs.Expressions.{IsAddress}
use Rattle.life_well_typed.specs.Members.{typed_in}
use Rattle.life_elab_laws.proofs.FormKinds.{is_equality, is_read_either, is_read_form, is_read_object, is_read_struct, is_read_unique, is_read_walker, is_testing}
use Rattle.life_elab_laws.proofs.ObjectTypes.{is_element, is_admitted_variable, is_struct}
use Rattle.life_elab_laws.proofs.TypeKinds.{is_owner_type, is_plain_type, is_struct_type, is_walker_type}
use Rattle.life_elab_laws.proofs.Elements.{IsElement, element_is, element_target, has_owner, has_struct, has_value, inner_owner}
use Rattle.life_elab_laws.proofs.KnownTypes.{HasKnownTypes, owner_elements, raw_known, admits_some}
use Rattle.life_elab_laws.proofs.TypedAnswers.{AreAdded, AreEquated, AreValues, added_as, adds_texts, adds_to, adds_values, condition_decides, equal_nulls, equal_texts, equal_values, equal_walkers, equated_as, joined_decide, literal_has, multiplied_values, ordered_values, subtracted_as}
use Rattle.life_elab_laws.proofs.TypedKinds.{IsCombined, err_ok, ok_same, promoted_value}
use Rattle.life_elab_laws.proofs.TypedOperands.{HasValue, IsAsked, IsReadOperand, asked_read, asks_owner, asks_value, deciding_read, is_either, owner_either, value_either, value_has, value_read}
use Rattle.life_elab_laws.proofs.TypedReadings.{IsRead, is_known, number_read, owner_read, plain_read, walker_read}

module _ (texts : ℕ) (program : ProgramForm) where
  abbrev Reads : Typed → Form → Type 0
  Reads e form = IsRead texts program e.ty e.category form

  abbrev admits : Form → Bool
  admits e = is_read_form texts program e

  abbrev decides : Form → Bool
  decides e = is_read_form texts program e || is_read_unique texts program e

  -- ---- between two operands

  module _ (left right : Form) (one : IsReadOperand texts program left) (other : IsReadOperand texts program right) (e : Typed) where
    abbrev A : ExprType
    A = (typed_in left).ty

    abbrev B : ExprType
    B = (typed_in right).ty

    abbrev Made : Ty → Type 0
    Made t = (e.ty ≡ Of t) × (e.category ≡ category.Value)

    -- the ways in which one has a value
    abbrev tests : BinaryOperator → Bool
    tests o = is_testing o && (decides left && decides right)

    abbrev equates : BinaryOperator → Bool
    equates o = is_equality o && ((is_either texts program left && is_either texts program right) || (is_read_walker texts program left && is_read_walker texts program right))

    by_values : (o : BinaryOperator) → HasValue A → HasValue B → is_read_form texts program (binary o left right) ≡ true
    by_values o l r = or_left (admits left && admits right) (tests o || equates o) (and_from (admits left) (admits right) (value_read texts program left one l) (value_read texts program right other r))

    by_tests : (o : BinaryOperator) → is_testing o ≡ true → (decides left && decides right) ≡ true → is_read_form texts program (binary o left right) ≡ true
    by_tests o test both = or_right (admits left && admits right) (tests o || equates o) (or_left (tests o) (equates o) (and_from (is_testing o) (decides left && decides right) test both))

    by_equality : (o : BinaryOperator) → is_equality o ≡ true → ((is_either texts program left && is_either texts program right) || (is_read_walker texts program left && is_read_walker texts program right)) ≡ true → is_read_form texts program (binary o left right) ≡ true
    by_equality o equality both =
        or_right (admits left && admits right) (tests o || equates o)
        (or_right (tests o) (equates o) (and_from (is_equality o) ((is_either texts program left && is_either texts program right) || (is_read_walker texts program left && is_read_walker texts program right)) equality both))

    -- numbers
    counted_read : (o : BinaryOperator) (t : Ty) → AreValues A B t → Made t → Reads e (binary o left right)
    counted_read o t are made = number_read texts program t e.ty e.category (binary o left right) are.value made.0 made.1 (by_values o are.left are.right)

    -- whether two are equal
    equal_form : (o : BinaryOperator) → is_testing o ≡ true → is_equality o ≡ true → AreEquated A B → is_read_form texts program (binary o left right) ≡ true
    equal_form o test equality (equal_values l r) = by_values o l r
    equal_form o test equality (equal_texts l r) =
        by_equality o equality
        (or_left (is_either texts program left && is_either texts program right) (is_read_walker texts program left && is_read_walker texts program right)
        (and_from (is_either texts program left) (is_either texts program right) (asked_read texts program left one l) (asked_read texts program right other r)))
    equal_form o test equality (equal_walkers l r) =
        by_equality o equality
        (or_right (is_either texts program left && is_either texts program right) (is_read_walker texts program left && is_read_walker texts program right)
        (and_from (is_read_walker texts program left) (is_read_walker texts program right) (one.walker l) (other.walker r)))
    equal_form o test equality (equal_nulls l r) = by_tests o test (and_from (decides left) (decides right) (deciding_read texts program left one l) (deciding_read texts program right other r))

    -- sums
    added_read : (o : BinaryOperator) (t : Ty) → AreAdded A B t → Made t → Reads e (binary o left right)
    added_read o t (adds_values are) made = counted_read o t are made
    added_read o t (adds_texts l r is) made =
        owner_read texts program ty.Text e.ty e.category (binary o left right) refl refl (made.0 ∙ ap Of is) made.1
        (and_from (is_either texts program left) (is_either texts program right) (asked_read texts program left one l) (asked_read texts program right other r))
    added_read o t (adds_to w v same) made =
        walker_read texts program t e.ty e.category (binary o left right)
        (sym (ap is_walker_type same) ∙ w)
        (sym (ap (is_known program.types) same) ∙ one.known)
        made.0 made.1
        (and_from (is_read_walker texts program left) (admits right) (one.walker w) (value_read texts program right other v))

    pub combined_read : (o : BinaryOperator) → IsCombined o (typed_in left) (typed_in right) e → Reads e (binary o left right)
    combined_read operators.Or is = let are = joined_decide A B is.ty is.answer in number_read texts program is.ty e.ty e.category (binary operators.Or left right) are.value is.is.0 is.is.1
        (by_tests operators.Or refl (and_from (decides left) (decides right) (deciding_read texts program left one are.left) (deciding_read texts program right other are.right)))
    combined_read operators.And is = let are = joined_decide A B is.ty is.answer in number_read texts program is.ty e.ty e.category (binary operators.And left right) are.value is.is.0 is.is.1
        (by_tests operators.And refl (and_from (decides left) (decides right) (deciding_read texts program left one are.left) (deciding_read texts program right other are.right)))
    combined_read operators.Equal is = let h = equated_as A B is.ty is.answer in number_read texts program is.ty e.ty e.category (binary operators.Equal left right) h.value is.is.0 is.is.1 (equal_form operators.Equal refl refl h.are)
    combined_read operators.NotEqual is = let h = equated_as A B is.ty is.answer in number_read texts program is.ty e.ty e.category (binary operators.NotEqual left right) h.value is.is.0 is.is.1 (equal_form operators.NotEqual refl refl h.are)
    combined_read operators.Less is = counted_read operators.Less is.ty (ordered_values A B is.ty is.answer) is.is
    combined_read operators.LessEqual is = counted_read operators.LessEqual is.ty (ordered_values A B is.ty is.answer) is.is
    combined_read operators.Greater is = counted_read operators.Greater is.ty (ordered_values A B is.ty is.answer) is.is
    combined_read operators.GreaterEqual is = counted_read operators.GreaterEqual is.ty (ordered_values A B is.ty is.answer) is.is
    combined_read operators.Add is = added_read operators.Add is.ty (added_as A B is.ty is.answer) is.is
    combined_read operators.Subtract is = added_read operators.Subtract is.ty (subtracted_as A B is.ty is.answer) is.is
    combined_read operators.Multiply is = counted_read operators.Multiply is.ty (multiplied_values A B is.ty is.answer) is.is
    combined_read operators.Divide is = counted_read operators.Divide is.ty (multiplied_values A B is.ty is.answer) is.is
    combined_read operators.Remainder is = counted_read operators.Remainder is.ty (multiplied_values A B is.ty is.answer) is.is

  -- ---- before an operand

  module _ (inner : Form) (is : IsReadOperand texts program inner) (e : Typed) where
    abbrev T : ExprType
    T = (typed_in inner).ty

    pub negated_read : negated_to (negated T) e.place (typed_in inner) ≡ Ok e → Reads e (negate inner)
    negated_read h = go T refl h
      where
        counts : (t : Ty) → T ≡ Of t → (b : Bool) → is_value t ≡ b → negated_to (if b then Ok (promoted t t) else Err General) e.place (typed_in inner) ≡ Ok e → Reads e (negate inner)
        counts t same true v h =
            let made = ok_same h in
            number_read texts program (promoted t t) e.ty e.category (negate inner) (promoted_value t t) (sym (ap (λ (y : Typed). y.ty) made)) (sym (ap (λ (y : Typed). y.category) made))
            (value_read texts program inner is (subst HasValue (sym same) (value_has t v)))
        counts t same false v h = absurd (err_ok h)

        go : (t : ExprType) → T ≡ t → negated_to (negated t) e.place (typed_in inner) ≡ Ok e → Reads e (negate inner)
        go (Of t) same h = counts t same (is_value t) refl h
        go NullPointer same h = absurd (err_ok h)
        go TextLiteral same h = absurd (err_ok h)

    pub inverted_read : inverted e.place (typed_in inner) ≡ Ok e → Reads e (not inner)
    inverted_read h = go (is_condition T) refl h
      where
        go : (b : Bool) → is_condition T ≡ b → ◌≡◌ {A = Found Typed} (if b then Ok (value e.place ty.Bool (not (whole (typed_in inner)))) else not_found kinds.WrongType e.place) (Ok e) → Reads e (not inner)
        go true c h =
            let made = ok_same h in
            number_read texts program ty.Bool e.ty e.category (not inner) refl (sym (ap (λ (y : Typed). y.ty) made)) (sym (ap (λ (y : Typed). y.category) made)) (deciding_read texts program inner is (condition_decides T c))
        go false c h = absurd (err_ok h)

    text_asked : (t : ExprType) → makes_text t ≡ true → IsAsked t
    text_asked (Of ty.Text) m = asks_owner refl
    text_asked (Of ty.View) m = asks_value (record { plain = refl; some = refl })
    text_asked (Of _) m = absurd (false≢true m)
    text_asked NullPointer m = absurd (false≢true m)
    text_asked TextLiteral m = asks_value literal_has

    pub text_read : (closing : Place) → text_made e.place closing (typed_in inner) ≡ Ok e → Reads e (text_of inner closing)
    text_read closing h = go (makes_text T) refl h
      where
        go : (b : Bool) → makes_text T ≡ b → ◌≡◌ {A = Found Typed} (if b then Ok (value e.place ty.Text (text_of (whole (typed_in inner)) closing)) else not_found kinds.WrongType e.place) (Ok e) → Reads e (text_of inner closing)
        go true m h =
            let made = ok_same h in
            owner_read texts program ty.Text e.ty e.category (text_of inner closing) refl refl (sym (ap (λ (y : Typed). y.ty) made)) (sym (ap (λ (y : Typed). y.category) made)) (asked_read texts program inner is (text_asked T m))
        go false m h = absurd (err_ok h)

    -- ---- addresses

    -- an owner has an address where it is a place
    abbrev E : Bool
    E = is_read_either inner (is_read_object texts program inner) (is_read_form texts program inner)

    abbrev S : Bool
    S = is_read_struct texts program inner

    -- what is plain and is there is a value, an owner or a struct
    addressed : (table : HasKnownTypes program.types) (c : Category) → (typed_in inner).category ≡ c → IsAddress program.types c e → Reads e (address_of inner)
    addressed table category.Value at h = absurd h
    addressed table (category.Place id constant) at h =
        plain_read texts program e.ty e.category (address_of inner) (ap is_plain_type typed) (ap (is_known program.types) typed ∙ raw_known program.types id constant (element_target program.types (type_at program.types id) worth))
        (ap (λ (y : Typed). y.category) h.1)
        (go (element_is program.types (type_at program.types id) worth))
      where
        there : (T ≡ Of (type_at program.types id)) × (is_admitted_variable program.types id ≡ true) × (is_reference (type_at program.types id) ≡ false)
        there = is.place id constant at

        typed : e.ty ≡ Of (ty.Raw id constant)
        typed = ap (λ (y : Typed). y.ty) h.1

        worth : is_element program.types (type_at program.types id) ≡ true
        worth = table.plain id h.2 (admits_some program.types (type_at program.types id) there.1)

        owner : is_owner_type T ≡ true → (E || S) ≡ true
        owner n = or_left E S (owner_either inner (is_read_object texts program inner) (is_read_form texts program inner) n (is.object n (ap is_place at)))

        go : IsElement program.types (type_at program.types id) → (E || S) ≡ true
        go (has_value v) =
            let has = subst HasValue (sym there.0) (value_has (type_at program.types id) v) in
            or_left E S (value_either inner (is_read_object texts program inner) (is_read_form texts program inner) has.plain (value_read texts program inner is has))
        go (has_struct number same pointless) = or_right E S (is.structure (ap is_struct_type there.0 ∙ ap is_struct same))
        go (has_owner o) = owner (ap is_owner_type there.0 ∙ owner_elements program.types (type_at program.types id) (inner_owner program.types (type_at program.types id) o))

    pub address_read : HasKnownTypes program.types → IsAddress program.types (typed_in inner).category e → Reads e (address_of inner)
    address_read table h = addressed table (typed_in inner).category refl h
