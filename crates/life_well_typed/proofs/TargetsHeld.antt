-- What the type of an expression holds or points to is an object without pointers, and a place is one of an object, where that is so of the table and of the variables.
use Rattle.std.proofs.Common.{◌≡◌, ℕ, zero, suc, Bool, true, false, List, [], ◌∷◌, Option, None, Some, Result, Ok, Err, slice_get, refl, sym, ap, subst, unwrap_or, if◌then◌else◌}
use Rattle.std.specs.Prelude.{nat_le}
use Rattle.life_types.specs.Trees.{members_at}
use Rattle.life_types.specs.TypeTests.{is_value, is_void}
use Rattle.life_types.specs.Types.{Types}
use Rattle.life_types.specs.declared.place.Place.{Place}
use Rattle.life_types.specs.declared.ty.Ty.{Ty}
use Rattle.life_types.specs.declared.ty.Ty.TheVariants as ty
use Rattle.life_types.specs.declared.ty.TyId.{TyId}
use Rattle.life_typed.specs.BaseTypes.{type_at}
use Rattle.life_typed.specs.Members.{answer, element_place, has_method, pointer_type, position_type}
use Rattle.life_typed.specs.Operators.{combined, dereferenced, indexed, is_condition, negated}
use Rattle.life_typed.specs.Programs.{FunctionForm, ProgramForm}
use Rattle.life_typed.specs.TypedForm.{Form, Typed, number, character, boolean, text, null, local, call, construct, paren, move, make_unique, text_of, input, member, dereference, index, method, negate, not, address_of, binary, typed, whole}
use Rattle.life_typed.specs.declared.basic.TheConstants.{CHAR}
use Rattle.life_typed.specs.declared.misfit.Misfit.{Misfit}
use Rattle.life_typed.specs.declared.typed_expr.BinaryOperator.{BinaryOperator}
use Rattle.life_typed.specs.declared.typed_expr.Category.{Category}
use Rattle.life_typed.specs.declared.typed_expr.Category.TheVariants as category
use Rattle.life_typed.specs.declared.typed_expr.ExprType.{ExprType}
use Rattle.life_typed.specs.declared.typed_expr.ExprType.TheVariants as expr_type
use Rattle.life_typed.specs.declared.typed_expr.Method.{Method}
use Rattle.life_typed.specs.declared.typed_expr.Method.TheVariants as methods
use Rattle.life_typed.specs.declared.typed_program.TypedLocal.{TypedLocal}
use Rattle.life_names.specs.Found.{Found, not_found}
use Rattle.life_names.specs.declared.fault.IllKind.{IllKind}
use Rattle.life_names.specs.declared.fault.IllKind.TheVariants as kinds
use Rattle.life_type_expr.specs.Members.{indexed_at, indexed_to, is_position}
use Rattle.life_type_expr.specs.Operands.{answer_of, combination, combined_to, dereferenced_to, inverted, is_constant, makes_text, move_fault_of, moved_unless, negated_to, number_type, parenthesized, place_of, pointed_to, text_made, value, variable_of}
use Rattle.life_well_typed.specs.Expressions.{HasResult, IsAddress, IsExpression, IsMadeOf, IsMoved, IsVariable}
use Rattle.life_well_typed.specs.Members.{IsCalled, IsMember, IsMemberAt, typed_in}
use Rattle.life_well_typed.specs.Tables.{AreMemberTypes, AreVariables, HasObjects, HasTarget, HasTargetIfAny, IsMemberType, IsObject}
use Rattle.life_well_typed.proofs.Combined.{combined_holds, negated_holds}

module _ (types : Types) where
  -- numbers and strings hold nothing
  pub number_target : (t : Ty) → is_value t ≡ true → HasTarget types t
  number_target ty.Bool b = tt
  number_target ty.Char b = tt
  number_target ty.Int b = tt
  number_target ty.Long b = tt
  number_target ty.Size b = tt
  number_target _ b = absurd (cc)

  -- a place is one of an object
  abbrev pub IsPlaceOfObject : Category → Type 0
  IsPlaceOfObject category.Value = Unit {0}
  IsPlaceOfObject (category.Place id constant) = IsObject types id

  -- an expression of this type and category
  abbrev pub HoldsObject : ExprType → Category → Type 0
  HoldsObject t c = HasTargetIfAny types t × IsPlaceOfObject c

  abbrev pub IsOfObject : Typed → Type 0
  IsOfObject e = HoldsObject e.ty e.category

  module _ (objects : HasObjects types) where
    -- .. of each type of the table; what it doesn't have is void
    pub target_at : (id : TyId) → HasTarget types (type_at types id)
    target_at id = go (slice_get types.types id.0) refl
      where
        go : (o : Option Ty) → slice_get types.types id.0 ≡ o → HasTarget types (unwrap_or o ty.Void)
        go None at = tt
        go (Some t) at = objects.targets id.0 t at

    member_at : (ids : List TyId) (n : ℕ) (id : TyId) → AreMemberTypes types ids → slice_get ids n ≡ Some id → IsMemberType types id
    member_at [] n id are at = absurd (cc)
    member_at (x ∷ ids) zero id are at = let same : x ≡ id = cc in subst (IsMemberType types) same are.0
    member_at (x ∷ ids) (suc n) id are at = member_at ids n id are.1 at

    pub struct_member : (which n : ℕ) (id : TyId) → slice_get (members_at types which) n ≡ Some id → IsMemberType types id
    struct_member which n id at = go (slice_get types.structs which) refl at
      where
        go : (o : Option (List TyId)) → slice_get types.structs which ≡ o → slice_get (unwrap_or o []) n ≡ Some id → IsMemberType types id
        go None there at = absurd (cc)
        go (Some ids) there at = member_at ids n id (objects.members which ids there) at

    -- ---- places

    object_place : (id : TyId) (constant : Bool) (place : Place) (form : Form) → IsObject types id → IsOfObject (place_of types id constant place form)
    object_place id constant place form object = (target_at id, object)

    variable_holds : (t : Ty) (id : TyId) (constant : Bool) (place : Place) (form : Form) → HasTarget types t → IsObject types id → IsOfObject (variable_of t types id constant place form)
    variable_holds (ty.Reference target held) id constant place form has object = object_place target held place form has.object
    variable_holds _ id constant place form has object = object_place id constant place form object

    answer_holds : (t : Ty) (place : Place) (form : Form) → HasTarget types t → IsOfObject (answer_of t types place form)
    answer_holds (ty.Reference target held) place form has = object_place target held place form has.object
    answer_holds _ place form has = (has, tt)

    -- ---- member functions

    element_holds : (t : Ty) (constant : Bool) → HasTarget types t → (let a = element_place types t constant in HoldsObject a.0 a.1)
    element_holds (ty.Vector element) constant has = (target_at element, has.object)
    element_holds _ constant has = (tt, tt)

    position_holds : (t : Ty) (constant : Bool) → HasTarget types t → HasTarget types (position_type t constant)
    position_holds (ty.Vector element) constant has = has
    position_holds _ constant has = tt

    pointer_holds : (t : Ty) → HasTarget types t → HasTarget types (pointer_type t)
    pointer_holds (ty.Unique target) has = has
    pointer_holds _ has = tt

    called_holds : (t : Ty) (constant : Bool) (m : Method) → HasTarget types t → (let a = answer types t constant m in HoldsObject a.0 a.1)
    called_holds t constant methods.Front has = element_holds t constant has
    called_holds t constant methods.Back has = element_holds t constant has
    called_holds t constant methods.Begin has = (position_holds t constant has, tt)
    called_holds t constant methods.End has = (position_holds t constant has, tt)
    called_holds t constant methods.Erase has = (position_holds t false has, tt)
    called_holds t constant methods.Get has = (pointer_holds t has, tt)
    called_holds t constant methods.Subspan has = (has, tt)
    called_holds t constant methods.Substr has = (has, tt)
    called_holds t constant _ has = (tt, tt)

    -- ---- operators

    combination_holds : (operator : BinaryOperator) (place : Place) (left right e : Typed) → HasTargetIfAny types left.ty → combination operator place left right ≡ Ok e → IsOfObject e
    combination_holds operator place left right e has h = go (combined operator left.ty right.ty) refl h
      where
        go : (r : Result Ty Misfit) → combined operator left.ty right.ty ≡ r → combined_to r operator place left right ≡ Ok e → IsOfObject e
        go (Ok t) is h = let same : value place t (binary operator (whole left) (whole right)) ≡ e = cc in subst IsOfObject same (of left.ty has is, tt)
          where
            of : (a : ExprType) → HasTargetIfAny types a → combined operator a right.ty ≡ Ok t → HasTarget types t
            of (expr_type.Of u) has is = combined_holds (HasTarget types) number_target tt operator (expr_type.Of u) right.ty t has is
            of expr_type.NullPointer has is = combined_holds (HasTarget types) number_target tt operator expr_type.NullPointer right.ty t has is
            of expr_type.TextLiteral has is = combined_holds (HasTarget types) number_target tt operator expr_type.TextLiteral right.ty t has is
        go (Err m) is h = absurd (cc)

    negation_holds : (place : Place) (inner e : Typed) → negated_to (negated inner.ty) place inner ≡ Ok e → IsOfObject e
    negation_holds place inner e h = go (negated inner.ty) refl h
      where
        go : (r : Result Ty Misfit) → negated inner.ty ≡ r → negated_to r place inner ≡ Ok e → IsOfObject e
        go (Ok t) is h =
            let same : value place t (negate (whole inner)) ≡ e = cc in
            subst IsOfObject same (negated_holds (HasTarget types) number_target tt inner.ty t is, tt)
        go (Err m) is h = absurd (cc)

    inversion_holds : (place : Place) (inner e : Typed) → inverted place inner ≡ Ok e → IsOfObject e
    inversion_holds place inner e h = go (is_condition inner.ty) h
      where
        go : (b : Bool) → ◌≡◌ {A = Found Typed} (if b then Ok (value place ty.Bool (not (whole inner))) else not_found kinds.WrongType place) (Ok e) → IsOfObject e
        go true h = let same : value place ty.Bool (not (whole inner)) ≡ e = cc in subst IsOfObject same (tt, tt)
        go false h = absurd (cc)

    text_holds : (place closing : Place) (inner e : Typed) → text_made place closing inner ≡ Ok e → IsOfObject e
    text_holds place closing inner e h = go (makes_text inner.ty) h
      where
        go : (b : Bool) → ◌≡◌ {A = Found Typed} (if b then Ok (value place ty.Text (text_of (whole inner) closing)) else not_found kinds.WrongType place) (Ok e) → IsOfObject e
        go true h = let same : value place ty.Text (text_of (whole inner) closing) ≡ e = cc in subst IsOfObject same (tt, tt)
        go false h = absurd (cc)

    -- what a pointer, an iterator or a unique_ptr is to
    target_of : (t : ExprType) (target : TyId × Bool) → HasTargetIfAny types t → dereferenced t ≡ Some target → IsObject types target.0
    target_of (expr_type.Of (ty.Raw id constant)) target has e = let same : ◌≡◌ {A = TyId × Bool} (id, constant) target = cc in subst (λ (x : TyId × Bool). IsObject types x.0) same has.object
    target_of (expr_type.Of (ty.Iterator id constant)) target has e = let same : ◌≡◌ {A = TyId × Bool} (id, constant) target = cc in subst (λ (x : TyId × Bool). IsObject types x.0) same has.object
    target_of (expr_type.Of (ty.Unique id)) target has e = let same : ◌≡◌ {A = TyId × Bool} (id, false) target = cc in subst (λ (x : TyId × Bool). IsObject types x.0) same has.object
    target_of (expr_type.Of _) target has e = absurd (cc)
    target_of expr_type.NullPointer target has e = absurd (cc)
    target_of expr_type.TextLiteral target has e = absurd (cc)

    dereference_holds : (place : Place) (inner e : Typed) → HasTargetIfAny types inner.ty → pointed_to types place inner ≡ Ok e → IsOfObject e
    dereference_holds place inner e has h = go (dereferenced inner.ty) refl h
      where
        go : (o : Option (TyId × Bool)) → dereferenced inner.ty ≡ o → dereferenced_to o types place inner ≡ Ok e → IsOfObject e
        go None is h = absurd (cc)
        go (Some target) is h =
            let same : place_of types target.0 target.1 place (dereference (whole inner)) ≡ e = cc in
            subst IsOfObject same (object_place target.0 target.1 place (dereference (whole inner)) (target_of inner.ty target has is))

    -- what has elements has chars, or objects
    module _ (chars : type_at types CHAR ≡ ty.Char) where
      char_object : IsObject types CHAR
      char_object = ap is_void chars

      item_of : (t : ExprType) (constant : Bool) (item : TyId × Bool) → HasTargetIfAny types t → indexed t constant ≡ Some item → IsObject types item.0
      item_of (expr_type.Of (ty.Vector id)) constant item has e = let same : ◌≡◌ {A = TyId × Bool} (id, constant) item = cc in subst (λ (x : TyId × Bool). IsObject types x.0) same has.object
      item_of (expr_type.Of ty.Text) constant item has e = let same : ◌≡◌ {A = TyId × Bool} (CHAR, constant) item = cc in subst (λ (x : TyId × Bool). IsObject types x.0) same char_object
      item_of (expr_type.Of ty.View) constant item has e = let same : ◌≡◌ {A = TyId × Bool} (CHAR, true) item = cc in subst (λ (x : TyId × Bool). IsObject types x.0) same char_object
      item_of (expr_type.Of (ty.Span id held)) constant item has e = let same : ◌≡◌ {A = TyId × Bool} (id, held) item = cc in subst (λ (x : TyId × Bool). IsObject types x.0) same has.object
      item_of (expr_type.Of _) constant item has e = absurd (cc)
      item_of expr_type.NullPointer constant item has e = absurd (cc)
      item_of expr_type.TextLiteral constant item has e = absurd (cc)

      index_holds : (place : Place) (base position : Typed) (closing : Place) (e : Typed) → HasTargetIfAny types base.ty → indexed_at types place base position closing ≡ Ok e → IsOfObject e
      index_holds place base position closing e has h = by (is_position position.ty) refl h
        where
          go : (o : Option (TyId × Bool)) → indexed base.ty (is_constant base.category) ≡ o → indexed_to o types place base position closing ≡ Ok e → IsOfObject e
          go None is h = absurd (cc)
          go (Some item) is h =
              let same : place_of types item.0 item.1 place (index (whole base) (whole position) closing) ≡ e = cc in
              subst IsOfObject same (object_place item.0 item.1 place (index (whole base) (whole position) closing) (item_of base.ty (is_constant base.category) item has is))

          by : (b : Bool) → is_position position.ty ≡ b → indexed_to (if b then indexed base.ty (is_constant base.category) else None) types place base position closing ≡ Ok e → IsOfObject e
          by true is h = go (indexed base.ty (is_constant base.category)) refl h
          by false is h = absurd (cc)

-- ---- any expression

module _ (p : ProgramForm) (objects : HasObjects p.types) (chars : type_at p.types CHAR ≡ ty.Char) (locals : List TypedLocal) (variables : AreVariables p.types locals) (visible : List ℕ) where
  abbrev IsFine : Typed → Type 0
  IsFine e = IsOfObject p.types e

  variable_made : (x : ℕ) (o : Option TypedLocal) (e : Typed) → slice_get locals x ≡ o → IsVariable p.types x o e → IsFine e
  variable_made x None e at is = absurd is
  variable_made x (Some l) e at is = subst IsFine (sym is) (variable_holds p.types objects (type_at p.types l.ty) l.ty l.constant e.place (local x) (target_at p.types objects l.ty) (variables x l at))

  moved_made : (x : ℕ) (o : Option TypedLocal) (e : Typed) → IsMoved p.types x o e → IsFine e
  moved_made x None e is = absurd is
  moved_made x (Some l) e is = go (move_fault_of (type_at p.types l.ty) l.constant) is
    where
      go : (fault : Option IllKind) → moved_unless fault p.types e.place (x, l) ≡ Ok e → IsFine e
      go None is = let same : value e.place (type_at p.types l.ty) (move x) ≡ e = cc in subst IsFine same (target_at p.types objects l.ty, tt)
      go (Some kind) is = absurd (cc)

  call_made : (o : Option FunctionForm) (e : Typed) → HasResult p.types o e → IsFine e
  call_made None e is = absurd is
  call_made (Some f) e is = subst IsFine (sym is) (answer_holds p.types objects (type_at p.types f.result) e.place e.form (target_at p.types objects f.result))

  address_made : (c : Category) (e : Typed) → IsPlaceOfObject p.types c → IsAddress p.types c e → IsFine e
  address_made category.Value e object is = absurd is
  address_made (category.Place id constant) e object is = subst IsFine (sym is.1) (record { object = object; plain = is.2 }, tt)

  member_found : (which n : ℕ) (constant : Bool) (o : Option TyId) (e : Typed) → slice_get (members_at p.types which) n ≡ o → IsMemberAt p.types o constant e → IsFine e
  member_found which n constant None e at is = absurd is
  member_found which n constant (Some id) e at is = subst IsFine (sym is) (object_place p.types objects id constant e.place e.form (struct_member p.types objects which n id at).object)

  member_made : (t : ExprType) (c : Category) (n : ℕ) (e : Typed) → IsMember p.types t c n e → IsFine e
  member_made (expr_type.Of (ty.Struct which)) (category.Place id constant) n e is = member_found which n constant (slice_get (members_at p.types which) n) e refl is
  member_made (expr_type.Of (ty.Struct which)) category.Value n e is = absurd is
  member_made _ c n e is = absurd is

  method_made : (t : ExprType) (c : Category) (m : Method) (arguments : Form) (e : Typed) → HasTargetIfAny p.types t → IsCalled p.types t c m arguments e → IsFine e
  method_made (expr_type.Of t) c m arguments e has is = go (has_method t m) is.2
    where
      go : (b : Bool) → (if b then Some (answer p.types t (is_constant c) m) else None) ≡ Some (e.ty, e.category) → IsFine e
      go true h = let same : answer p.types t (is_constant c) m ≡ (e.ty, e.category) = cc in subst (λ (a : ExprType × Category). HoldsObject p.types a.0 a.1) same (called_holds p.types objects t (is_constant c) m has)
      go false h = absurd (cc)
  method_made expr_type.NullPointer c m arguments e has is = absurd is
  method_made expr_type.TextLiteral c m arguments e has is = absurd is

  abbrev IsOfType : ExprType → Category → Typed → Type 0
  IsOfType t c e = (e.ty ≡ t) × (e.category ≡ c)

  -- .. that holds nothing, and is no place
  value_made : (t : ExprType) (e : Typed) → IsOfType t category.Value e → HasTargetIfAny p.types t → IsFine e
  value_made t e is has = (subst (HasTargetIfAny p.types) (sym is.0) has, subst (IsPlaceOfObject p.types) (sym is.1) tt)

  number_holds : (n : ℕ) → HasTarget p.types (number_type n)
  number_holds n = go (nat_le n 2147483647)
    where
      go : (b : Bool) → HasTarget p.types (if b then ty.Int else ty.Long)
      go true = tt
      go false = tt

  same_parens : (inner : Typed) (closing : Place) (e : Typed) → parenthesized closing inner ≡ Ok e → IsFine inner → IsFine e
  same_parens inner closing e h fine =
      let same : ◌≡◌ {A = Typed} (record { place = inner.place; ty = inner.ty; category = inner.category; form = paren (whole inner) closing }) e = cc in subst IsFine same fine

  mutual
    pub expression_holds : (e : Form) → IsExpression p locals visible e → IsOfObject p.types (typed_in e)
    expression_holds (typed place t c form) is = made_holds form (record { place = place; ty = t; category = c; form = form }) is
    expression_holds _ is = absurd is

    pub made_holds : (form : Form) (e : Typed) → IsMadeOf p locals visible e form → IsOfObject p.types e
    made_holds (number n) e is = subst IsFine (sym is) (number_holds n, tt)
    made_holds (character c) e is = subst IsFine (sym is) (tt, tt)
    made_holds (boolean b) e is = subst IsFine (sym is) (tt, tt)
    made_holds null e is = value_made expr_type.NullPointer e is tt
    made_holds (text id) e is = value_made expr_type.TextLiteral e is tt
    made_holds (local x) e is = variable_made x (slice_get locals x) e refl is.1
    made_holds (call f arguments delimiters) e is = call_made (slice_get p.functions f) e is.0
    made_holds (construct structure elements delimiters) e is = subst IsFine (sym is.0) (tt, tt)
    made_holds (paren inner closing) e is = same_parens (typed_in inner) closing e is.0 (expression_holds inner is.1)
    made_holds (move x) e is = moved_made x (slice_get locals x) e is.1
    made_holds (make_unique id argument closing) e is = subst IsFine (sym is.0) (is.1, tt)
    made_holds (text_of inner closing) e is = text_holds p.types objects e.place closing (typed_in inner) e is.0
    made_holds input e is = subst IsFine (sym is) (tt, tt)
    made_holds (member base which) e is = member_made (typed_in base).ty (typed_in base).category which e is.0
    made_holds (dereference inner) e is = dereference_holds p.types objects e.place (typed_in inner) e (expression_holds inner is.1).0 is.0
    made_holds (index base position closing) e is = index_holds p.types objects chars e.place (typed_in base) (typed_in position) closing e (expression_holds base is.1).0 is.0
    made_holds (method base called arguments delimiters) e is = method_made (typed_in base).ty (typed_in base).category called arguments e (expression_holds base is.1).0 is.0
    made_holds (negate inner) e is = negation_holds p.types objects e.place (typed_in inner) e is.0
    made_holds (not inner) e is = inversion_holds p.types objects e.place (typed_in inner) e is.0
    made_holds (address_of inner) e is = address_made (typed_in inner).category e (expression_holds inner is.1).1 is.0
    made_holds (binary o left right) e is = combination_holds p.types objects o e.place (typed_in left) (typed_in right) e (expression_holds left is.1).0 is.0
    made_holds _ e is = absurd is
