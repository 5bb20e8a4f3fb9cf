-- What gives nothing, where it is well typed: a call, a change of an owner, or a unique_ptr that owns nothing more.
use Rattle.std.proofs.Common.{◌≡◌, inl, inr, ℕ, Bool, true, false, ◌&&◌, ◌||◌, cond, List, Option, Some, None, Ok, Err, refl, sym, ap, ◌∙◌, subst, nat_le, slice_get}
use Rattle.std.proofs.lemmas.Bool.{and_from, and_parts, false≢true, or_left, or_right}
use Rattle.life_types.specs.TypeTests.{is_iterator, is_long, is_size, is_text, is_value, is_void}
use Rattle.life_types.specs.Trees.{members_at}
use Rattle.life_types.specs.Types.{Types}
use Rattle.life_types.specs.declared.place.Place.{Place}
use Rattle.life_types.specs.declared.ty.Ty.{Ty}
use Rattle.life_types.specs.declared.ty.Ty.TheVariants as ty
use Rattle.life_types.specs.declared.ty.TyId.{TyId}
use Rattle.life_elab_laws.proofs.FormKinds.{are_read_elements, is_changing, is_reset, is_read_any, is_read_either, is_read_expression, is_read_owner, is_read_struct, is_read_unique, is_read_walker}
use Rattle.life_elab_laws.proofs.ObjectTypes.{is_target}
use Rattle.life_elab_laws.proofs.StatementKinds.{is_read_alone, is_read_doing, is_read_change}
use Rattle.life_elab_laws.proofs.TypeKinds.{form_type, gives_nothing, is_owner_type, is_unique_type, is_void_type}
use Rattle.life_typed.specs.BaseTypes.{type_at}
use Rattle.life_typed.specs.Members.{method_answer, method_parameters, place as typed_place, value as typed_value}
use Rattle.life_typed.specs.Operators.{added, added_types, answer, are_equated, arithmetic, concatenated, given, is_condition, is_joined, is_nullable, is_text_like, moved as moved_by, negated, promoted, subtracted_types}
use Rattle.life_typed.specs.Programs.{ProgramForm}
use Rattle.life_typed.specs.TypedForm.{Form, Typed, address_of, binary, boolean, call, character, construct, dereference, index, input, local, make_unique, member, method, move, negate, not as negation, nothing, null, number, paren, text, text_of, typed, whole, ◌⨟◌}
use Rattle.life_typed.specs.declared.members.MethodParameters.TheVariants as parameters
use Rattle.life_typed.specs.declared.typed_expr.BinaryOperator.{BinaryOperator}
use Rattle.life_typed.specs.declared.typed_expr.BinaryOperator.TheVariants as operator
use Rattle.life_typed.specs.declared.typed_expr.Category.{Category}
use Rattle.life_typed.specs.declared.typed_expr.Category.TheVariants as category
use Rattle.life_typed.specs.declared.typed_expr.ExprType.{ExprType}
use Rattle.life_typed.specs.declared.typed_expr.ExprType.TheVariants.{NullPointer, Of, TextLiteral}
use Rattle.life_typed.specs.declared.typed_expr.Method.{Method}
use Rattle.life_typed.specs.declared.typed_expr.Method.TheVariants as methods
use Rattle.life_typed.specs.declared.typed_program.TypedLocal.{TypedLocal}
use Rattle.life_names.specs.Found.{not_found}
use Rattle.life_names.specs.declared.fault.IllKind.{IllKind}
use Rattle.life_names.specs.declared.fault.IllKind.TheVariants as kinds
use Rattle.life_typed.specs.declared.misfit.Misfit.TheVariants.{General}
use Rattle.life_type_expr.specs.Members.{element_of, indexed_to}
use Rattle.life_type_expr.specs.Operands.{dereferenced_to, inverted, is_constant, makes_text, move_fault_of, moved_unless, negated_to, number_type, text_made, value, variable_of}
use Rattle.life_typed.specs.Operators as operators
use Rattle.life_well_typed.specs.Expressions.{AreExpressions, IsAddress, IsExpression, IsMadeOf, IsMoved, IsVariable, parameter_types, typed_in}
use Rattle.life_well_typed.specs.Given.{is_given}
use Rattle.life_well_typed.specs.Members.{IsCalled, IsMember, IsMemberAt, are_passed, are_taken}
use Rattle.life_elab_laws.proofs.Elements.{element_target}
use Rattle.life_elab_laws.proofs.KnownTypes.{admits_some, target_known, target_no_unique, target_no_walker, vector_element}
use Rattle.life_elab_laws.proofs.TypedFits.{IsTakenAs, as_owner, as_struct, as_unique, as_value, as_walker}
use Rattle.life_elab_laws.proofs.TypedKinds.{combined_as, err_ok, given_true, none_some, ok_same, some_same}
use Rattle.life_elab_laws.proofs.TypedReadings.{IsRead, is_known}
use Rattle.life_elab_laws.proofs.TypedActs.{IsKindOf, kind_of}
use Rattle.life_elab_laws.proofs.TypedSimples.{HasReadings, Read, any_owner, any_value, read, taken}
use Rattle.life_elab_laws.proofs.NoVoid.{no_void}

-- ---- what has a type

-- .. that isn't void
abbrev pub Gives : Typed → Type 0
Gives e = (t : Ty) × (e.ty ≡ Of t) × (is_void t ≡ false)

-- .. or is a place
abbrev pub IsSomewhere : Typed → Type 0
IsSomewhere e = (id : TyId) × (constant : Bool) × (e.category ≡ category.Place id constant)

refused : (x : ExprType) (t : Ty) → x ≡ Of t → is_void t ≡ false → gives_nothing x ≡ true → ⊥
refused x t is some none = false≢true (sym some ∙ sym (ap gives_nothing is) ∙ none)

-- ---- operators

promoted_some : (a b : Ty) → is_void (promoted a b) ≡ false
promoted_some a b = go (is_size a || is_size b) (is_long a || is_long b)
  where
    go : (x y : Bool) → is_void (cond x ty.Size (cond y ty.Long ty.Int)) ≡ false
    go true y = refl
    go false true = refl
    go false false = refl

given_some : (b : Bool) (t u : Ty) → is_void t ≡ false → given b t ≡ Some u → is_void u ≡ false
given_some b t u some h = sym (ap is_void (given_true b t u h).1) ∙ some

arithmetic_some : (a b t : Ty) → arithmetic a b ≡ Some t → is_void t ≡ false
arithmetic_some a b t h = given_some (is_value a && is_value b) (promoted a b) t (promoted_some a b) h

moved_some : (a b t : Ty) → is_iterator a ≡ true → moved_by a b ≡ Some t → is_void t ≡ false
moved_some a b t i h = given_some (is_value b) a t (no_void is_iterator refl a i) h

walked_some : (a b t : Ty) → subtracted_types a b ≡ Some t → is_void t ≡ false
walked_some a b t h = go (is_iterator a) refl h
  where
    go : (i : Bool) → is_iterator a ≡ i → cond i (moved_by a b) (arithmetic a b) ≡ Some t → is_void t ≡ false
    go true is h = moved_some a b t is h
    go false is h = arithmetic_some a b t h

concatenated_some : (a b t : Ty) → concatenated a b ≡ Some t → is_void t ≡ false
concatenated_some a b t h = go (is_joined a && is_joined b) h
  where
    go : (j : Bool) → cond j (Some ty.Text) None ≡ Some t → is_void t ≡ false
    go true h = sym (ap is_void (some_same h))
    go false h = absurd (none_some h)

added_some : (a b t : Ty) → added_types a b ≡ Some t → is_void t ≡ false
added_some a b t h = go (is_text a || is_text b) h
  where
    go : (j : Bool) → cond j (concatenated a b) (subtracted_types a b) ≡ Some t → is_void t ≡ false
    go true h = concatenated_some a b t h
    go false h = walked_some a b t h

joined_some : (a b : ExprType) (t : Ty) → operators.joined_conditions a b ≡ Some t → is_void t ≡ false
joined_some a b t h = given_some (is_condition a && is_condition b) ty.Bool t refl h

equated_some : (a b : ExprType) (t : Ty) → operators.equated a b ≡ Some t → is_void t ≡ false
equated_some (Of a) (Of b) t h = given_some (are_equated a b) ty.Bool t refl h
equated_some (Of a) TextLiteral t h = given_some (is_text_like a) ty.Bool t refl h
equated_some (Of a) NullPointer t h = given_some (is_nullable a) ty.Bool t refl h
equated_some TextLiteral (Of b) t h = given_some (is_text_like b) ty.Bool t refl h
equated_some NullPointer (Of b) t h = given_some (is_nullable b) ty.Bool t refl h
equated_some _ _ t h = absurd (none_some h)

ordered_some : (a b : ExprType) (t : Ty) → operators.ordered a b ≡ Some t → is_void t ≡ false
ordered_some (Of a) (Of b) t h = given_some (is_value a && is_value b) ty.Bool t refl h
ordered_some _ _ t h = absurd (none_some h)

multiplied_some : (a b : ExprType) (t : Ty) → operators.multiplied a b ≡ Some t → is_void t ≡ false
multiplied_some (Of a) (Of b) t h = arithmetic_some a b t h
multiplied_some _ _ t h = absurd (none_some h)

sum_some : (a b : ExprType) (t : Ty) → added a b ≡ Some t → is_void t ≡ false
sum_some (Of a) (Of b) t h = added_some a b t h
sum_some (Of a) TextLiteral t h = given_some (is_text a) ty.Text t refl h
sum_some TextLiteral (Of b) t h = given_some (is_text b) ty.Text t refl h
sum_some _ _ t h = absurd (none_some h)

less_some : (a b : ExprType) (t : Ty) → operators.subtracted a b ≡ Some t → is_void t ≡ false
less_some (Of a) (Of b) t h = walked_some a b t h
less_some _ _ t h = absurd (none_some h)

answer_some : (o : BinaryOperator) (a b : ExprType) (t : Ty) → answer o a b ≡ Some t → is_void t ≡ false
answer_some operator.Or a b t h = joined_some a b t h
answer_some operator.And a b t h = joined_some a b t h
answer_some operator.Equal a b t h = equated_some a b t h
answer_some operator.NotEqual a b t h = equated_some a b t h
answer_some operator.Less a b t h = ordered_some a b t h
answer_some operator.LessEqual a b t h = ordered_some a b t h
answer_some operator.Greater a b t h = ordered_some a b t h
answer_some operator.GreaterEqual a b t h = ordered_some a b t h
answer_some operator.Add a b t h = sum_some a b t h
answer_some operator.Subtract a b t h = less_some a b t h
answer_some operator.Multiply a b t h = multiplied_some a b t h
answer_some operator.Divide a b t h = multiplied_some a b t h
answer_some operator.Remainder a b t h = multiplied_some a b t h

-- ---- other forms that have a type

number_some : (n : ℕ) → is_void (number_type n) ≡ false
number_some n = go (nat_le n 2147483647)
  where
    go : (b : Bool) → is_void (cond b ty.Int ty.Long) ≡ false
    go true = refl
    go false = refl

negated_gives : (x : ExprType) (place : Place) (inner e : Typed) → negated_to (negated x) place inner ≡ Ok e → Gives e
negated_gives (Of u) place inner e h = go (is_value u) h
  where
    go : (b : Bool) → negated_to (cond b (Ok (promoted u u)) (Err General)) place inner ≡ Ok e → Gives e
    go true h = (promoted u u, sym (ap (λ (y : Typed). y.ty) (ok_same h)), promoted_some u u)
    go false h = absurd (err_ok h)
negated_gives NullPointer place inner e h = absurd (err_ok h)
negated_gives TextLiteral place inner e h = absurd (err_ok h)

inverted_gives : (place : Place) (inner e : Typed) → inverted place inner ≡ Ok e → Gives e
inverted_gives place inner e h = go (is_condition inner.ty) h
  where
    go : (b : Bool) → cond b (Ok (value place ty.Bool (negation (whole inner)))) (not_found kinds.WrongType place) ≡ Ok e → Gives e
    go true h = (ty.Bool, sym (ap (λ (y : Typed). y.ty) (ok_same h)), refl)
    go false h = absurd (err_ok h)

made_gives : (place closing : Place) (inner e : Typed) → text_made place closing inner ≡ Ok e → Gives e
made_gives place closing inner e h = go (makes_text inner.ty) h
  where
    go : (b : Bool) → cond b (Ok (value place ty.Text (text_of (whole inner) closing))) (not_found kinds.WrongType place) ≡ Ok e → Gives e
    go true h = (ty.Text, sym (ap (λ (y : Typed). y.ty) (ok_same h)), refl)
    go false h = absurd (err_ok h)

address_gives : (types : Types) (c : Category) (e : Typed) → IsAddress types c e → Gives e
address_gives types category.Value e h = absurd h
address_gives types (category.Place id constant) e h = (ty.Raw id constant, ap (λ (y : Typed). y.ty) h.1, refl)

moved_some_type : (t : Ty) (constant : Bool) → move_fault_of t constant ≡ None → is_void t ≡ false
moved_some_type ty.Void true h = absurd (none_some (sym h))
moved_some_type ty.Void false h = absurd (none_some (sym h))
moved_some_type _ constant h = refl

moved_gives : (types : Types) (x : ℕ) (o : Option TypedLocal) (e : Typed) → IsMoved types x o e → Gives e
moved_gives types x None e h = absurd h
moved_gives types x (Some l) e h = go (move_fault_of (type_at types l.ty) l.constant) refl h
  where
    go : (f : Option IllKind) → move_fault_of (type_at types l.ty) l.constant ≡ f → moved_unless f types e.place (x, l) ≡ Ok e → Gives e
    go None is h = (type_at types l.ty, sym (ap (λ (y : Typed). y.ty) (ok_same h)), moved_some_type (type_at types l.ty) l.constant is)
    go (Some kind) is h = absurd (err_ok h)

-- ---- forms that are places

pub variable_stands : (types : Types) (x : ℕ) (o : Option TypedLocal) (e : Typed) → IsVariable types x o e → IsSomewhere e
variable_stands types x None e h = absurd h
variable_stands types x (Some l) e h = go (type_at types l.ty) h
  where
    go : (t : Ty) → e ≡ variable_of t types l.ty l.constant e.place (local x) → IsSomewhere e
    go (ty.Reference target constant) h = (target, constant, ap (λ (y : Typed). y.category) h)
    go _ h = (l.ty, l.constant, ap (λ (y : Typed). y.category) h)

dereferenced_stands : (types : Types) (o : Option (TyId × Bool)) (place : Place) (inner e : Typed) → dereferenced_to o types place inner ≡ Ok e → IsSomewhere e
dereferenced_stands types None place inner e h = absurd (err_ok h)
dereferenced_stands types (Some target) place inner e h = (target.0, target.1, sym (ap (λ (y : Typed). y.category) (ok_same h)))

indexed_stands : (types : Types) (o : Option (TyId × Bool)) (opening : Place) (base position : Typed) (closing : Place) (e : Typed) → indexed_to o types opening base position closing ≡ Ok e → IsSomewhere e
indexed_stands types None opening base position closing e h = absurd (err_ok h)
indexed_stands types (Some element) opening base position closing e h = (element.0, element.1, sym (ap (λ (y : Typed). y.category) (ok_same h)))

member_stands : (types : Types) (x : ExprType) (c : Category) (which : ℕ) (e : Typed) → IsMember types x c which e → IsSomewhere e
member_stands types (Of (ty.Struct n)) (category.Place id constant) which e h = go (slice_get (members_at types n) which) h
  where
    go : (o : Option TyId) → IsMemberAt types o constant e → IsSomewhere e
    go None h = absurd h
    go (Some i) h = (i, constant, ap (λ (y : Typed). y.category) h)
member_stands types (Of (ty.Struct n)) category.Value which e h = absurd h
member_stands types (Of _) c which e h = absurd h
member_stands types NullPointer c which e h = absurd h
member_stands types TextLiteral c which e h = absurd h

module _ (p : ProgramForm) (locals : List TypedLocal) (result : TyId) (texts : ℕ) (r : HasReadings p locals texts) (visible : List ℕ) where
  abbrev types : Types
  types = p.types

  abbrev As : Typed → Type 0
  As e = Read p locals texts r visible e

  -- ---- arguments of members that change their object

  -- an element
  element_read : (t : Ty) (e : Typed) → is_target types t ≡ true → is_given types t e ≡ true → As e
      → (is_read_either (whole e) (is_read_owner texts p (whole e)) (is_read_expression texts p e) || is_read_struct texts p (whole e)) ≡ true
  element_read t e worth given k = go (taken p locals texts r visible t e (target_known types t worth) given k)
    where
      one : Bool
      one = is_read_either (whole e) (is_read_owner texts p (whole e)) (is_read_expression texts p e)

      go : IsTakenAs t e.ty e.category → (one || is_read_struct texts p (whole e)) ≡ true
      go (as_value takes plain some) = or_left one (is_read_struct texts p (whole e)) (any_value p locals texts r visible e k plain some)
      go (as_owner takes o) = or_left one (is_read_struct texts p (whole e)) (any_owner p locals texts r visible e k o)
      go (as_walker takes w) = absurd (target_no_walker types t worth takes)
      go (as_unique takes u made) = absurd (target_no_unique types t worth takes)
      go (as_struct takes s) = or_right one (is_read_struct texts p (whole e)) (k.structure s)

  one_taken : (t : Ty) → is_target types t ≡ true → (es : Form) → are_taken types (parameters.One t) 0 es ≡ true → AreExpressions p locals visible es → are_read_elements texts p es ≡ true
  one_taken t worth nothing h are = absurd (false≢true h)
  one_taken t worth (typed place x c form ⨟ nothing) h are =
      let e : Typed = record { place = place; ty = x; category = c; form = form } in
      and_from (is_read_either (whole e) (is_read_owner texts p (whole e)) (is_read_expression texts p e) || is_read_struct texts p (whole e)) true
      (element_read t e worth (and_parts (is_given types t e) true h).0 (r.reads visible (whole e) are.0)) refl
  one_taken t worth (typed place x c form ⨟ (second ⨟ more)) h are = absurd (false≢true (and_parts _ false h).1)
  one_taken t worth (typed place x c form ⨟ _) h are = absurd are.1
  one_taken t worth (_ ⨟ es) h are = absurd are.0
  one_taken t worth _ h are = absurd are

  none_taken : (es : Form) → are_taken types parameters.None 0 es ≡ true → are_read_elements texts p es ≡ true
  none_taken nothing h = refl
  none_taken (e ⨟ es) h = absurd (false≢true h)
  none_taken _ h = absurd (false≢true h)

  -- ---- members

  module _ (place : Place) (x : ExprType) (c : Category) (form : Form) (k : IsRead texts p x c (typed place x c form)) (es : Form) (are : AreExpressions p locals visible es) (e : Typed) (ke : As e) (none : gives_nothing e.ty ≡ true) where
    abbrev base : Form
    base = typed place x c form

    abbrev Does : Method → Type 0
    Does m = (is_read_change texts p base m es || (is_reset m && is_read_unique texts p base)) ≡ true

    gives : {X : Type 0} (t : Ty) → Some (typed_value t) ≡ Some (e.ty, e.category) → is_void t ≡ false → X
    gives t h some = absurd (refused e.ty t (sym (ap (λ (z : ExprType × Category). z.0) (some_same h))) some none)

    stands : {X : Type 0} (id : TyId) (constant : Bool) → Some (typed_place types id constant) ≡ Some (e.ty, e.category) → X
    stands id constant h =
        let found = ke.place id constant (sym (ap (λ (z : ExprType × Category). z.1) (some_same h))) in
        absurd (refused e.ty (type_at types id) found.0 (admits_some types (type_at types id) found.1) none)

    changes : (t : Ty) → x ≡ Of t → is_owner_type (Of t) ≡ true → are_read_elements texts p es ≡ true → (is_owner_type x && (is_read_owner texts p base && are_read_elements texts p es)) ≡ true
    changes t is o elements =
        and_from (is_owner_type x) (is_read_owner texts p base && are_read_elements texts p es) (ap is_owner_type is ∙ o)
        (and_from (is_read_owner texts p base) (are_read_elements texts p es) (k.owner (ap is_owner_type is ∙ o)) elements)

    changed : (m : Method) → is_changing m ≡ true → (t : Ty) → x ≡ Of t → is_owner_type (Of t) ≡ true → are_read_elements texts p es ≡ true → Does m
    changed m able t is o elements =
        or_left (is_read_change texts p base m es) (is_reset m && is_read_unique texts p base)
        (and_from (is_changing m) (is_owner_type (form_type base) && (is_read_owner texts p base && are_read_elements texts p es)) able (changes t is o elements))

    of_vector : (item : TyId) → x ≡ Of (ty.Vector item) → (m : Method) → are_passed types (method_parameters types (ty.Vector item) m) es ≡ true
        → method_answer types (ty.Vector item) (is_constant c) m ≡ Some (e.ty, e.category) → Does m
    of_vector item is methods.Size h a = gives ty.Size a refl
    of_vector item is methods.Empty h a = gives ty.Bool a refl
    of_vector item is methods.Front h a = stands item (is_constant c) a
    of_vector item is methods.Back h a = stands item (is_constant c) a
    of_vector item is methods.Begin h a = gives (ty.Iterator item (is_constant c)) a refl
    of_vector item is methods.End h a = gives (ty.Iterator item (is_constant c)) a refl
    of_vector item is methods.PushBack h a =
        changed methods.PushBack refl (ty.Vector item) is refl
        (one_taken (type_at types item) (element_target types (type_at types item) (vector_element types item (subst (λ (y : ExprType). is_known types y ≡ true) is k.known))) es h are)
    of_vector item is methods.PopBack h a = changed methods.PopBack refl (ty.Vector item) is refl (none_taken es h)
    of_vector item is methods.Clear h a = changed methods.Clear refl (ty.Vector item) is refl (none_taken es h)
    of_vector item is methods.Reserve h a = changed methods.Reserve refl (ty.Vector item) is refl (one_taken ty.Size refl es h are)
    of_vector item is methods.Erase h a = gives (ty.Iterator item false) a refl
    of_vector item is _ h a = absurd (none_some a)

    of_text : x ≡ Of ty.Text → (m : Method) → are_passed types (method_parameters types ty.Text m) es ≡ true → method_answer types ty.Text (is_constant c) m ≡ Some (e.ty, e.category) → Does m
    of_text is methods.Size h a = gives ty.Size a refl
    of_text is methods.Empty h a = gives ty.Bool a refl
    of_text is methods.PushBack h a = changed methods.PushBack refl ty.Text is refl (one_taken ty.Char refl es h are)
    of_text is methods.Clear h a = changed methods.Clear refl ty.Text is refl (none_taken es h)
    of_text is _ h a = absurd (none_some a)

    of_unique : (target : TyId) → x ≡ Of (ty.Unique target) → (m : Method) → method_answer types (ty.Unique target) (is_constant c) m ≡ Some (e.ty, e.category) → Does m
    of_unique target is methods.Get a = gives (ty.Raw target false) a refl
    of_unique target is methods.Reset a = k.unique (ap is_unique_type is)
    of_unique target is _ a = absurd (none_some a)

    of_span : (target : TyId) (constant : Bool) (m : Method) → method_answer types (ty.Span target constant) (is_constant c) m ≡ Some (e.ty, e.category) → Does m
    of_span target constant methods.Size a = gives ty.Size a refl
    of_span target constant methods.Empty a = gives ty.Bool a refl
    of_span target constant methods.Subspan a = gives (ty.Span target constant) a refl
    of_span target constant _ a = absurd (none_some a)

    of_view : (m : Method) → method_answer types ty.View (is_constant c) m ≡ Some (e.ty, e.category) → Does m
    of_view methods.Size a = gives ty.Size a refl
    of_view methods.Empty a = gives ty.Bool a refl
    of_view methods.Substr a = gives ty.View a refl
    of_view _ a = absurd (none_some a)

    called : (m : Method) → IsCalled types x c m es e → Does m
    called m h = go x refl h
      where
        go : (y : ExprType) → x ≡ y → IsCalled types y c m es e → Does m
        go (Of (ty.Vector item)) is h = of_vector item is m h.1 h.2
        go (Of ty.Text) is h = of_text is m h.1 h.2
        go (Of (ty.Unique target)) is h = of_unique target is m h.2
        go (Of (ty.Span target constant)) is h = of_span target constant m h.2
        go (Of ty.View) is h = of_view m h.2
        go (Of _) is h = absurd (none_some h.2)
        go NullPointer is h = absurd h
        go TextLiteral is h = absurd h

  -- ---- any form

  given_none : {X : Type 0} (e : Typed) → Gives e → gives_nothing e.ty ≡ true → X
  given_none e g none = absurd (refused e.ty g.0 g.1 g.2 none)

  placed_none : {X : Type 0} (e : Typed) → As e → IsSomewhere e → gives_nothing e.ty ≡ true → X
  placed_none e k at none =
      let found = k.place at.0 at.1 at.2 in
      absurd (refused e.ty (type_at types at.0) found.0 (admits_some types (type_at types at.0) found.1) none)

  of_type : {X : Type 0} (e : Typed) (t : Ty) (form : Form) → e ≡ value e.place t form → is_void t ≡ false → gives_nothing e.ty ≡ true → X
  of_type e t form is some none = absurd (refused e.ty t (ap (λ (y : Typed). y.ty) is) some none)

  pub doing_read : (form : Form) (e : Typed) → As e → IsMadeOf p locals visible e form → gives_nothing e.ty ≡ true → is_read_doing texts p form ≡ true
  doing_read (number n) e k h none = of_type e (number_type n) e.form h (number_some n) none
  doing_read (character c) e k h none = of_type e ty.Char e.form h refl none
  doing_read (boolean b) e k h none = of_type e ty.Bool e.form h refl none
  doing_read null e k h none = refl
  doing_read (text n) e k h none = refl
  doing_read (local x) e k h none = placed_none e k (variable_stands types x (slice_get locals x) e h.1) none
  doing_read (call f es d) e k h none = r.arguments visible (parameter_types (slice_get p.functions f)) es h.1 h.2
  doing_read (paren (typed place t c form) closing) e k h none =
      let inner : Typed = record { place = place; ty = t; category = c; form = form } in
      doing_read form inner (r.reads visible (whole inner) h.1) h.1 (ap (λ (y : Typed). gives_nothing y.ty) (ok_same h.0) ∙ none)
  doing_read (paren _ closing) e k h none = absurd h.1
  doing_read input e k h none = of_type e ty.Long e.form h refl none
  doing_read (dereference inner) e k h none = placed_none e k (dereferenced_stands types (operators.dereferenced (typed_in inner).ty) e.place (typed_in inner) e h.0) none
  doing_read (negate inner) e k h none = given_none e (negated_gives (typed_in inner).ty e.place (typed_in inner) e h.0) none
  doing_read (negation inner) e k h none = given_none e (inverted_gives e.place (typed_in inner) e h.0) none
  doing_read (address_of inner) e k h none = given_none e (address_gives types (typed_in inner).category e h.0) none
  doing_read (binary o left right) e k h none =
      let is = combined_as o e.place (typed_in left) (typed_in right) e h.0 in
      given_none e (is.ty, is.is.0, answer_some o (typed_in left).ty (typed_in right).ty is.ty is.answer) none
  doing_read (construct structure es d) e k h none = of_type e (ty.Struct structure) e.form h.0 refl none
  doing_read (move x) e k h none = given_none e (moved_gives types x (slice_get locals x) e h.1) none
  doing_read (make_unique id es closing) e k h none = of_type e (ty.Unique id) e.form h.0 refl none
  doing_read (text_of inner closing) e k h none = given_none e (made_gives e.place closing (typed_in inner) e h.0) none
  doing_read (member base which) e k h none = placed_none e k (member_stands types (typed_in base).ty (typed_in base).category which e h.0) none
  doing_read (index base position closing) e k h none =
      placed_none e k (indexed_stands types (element_of (typed_in base) (typed_in position)) e.place (typed_in base) (typed_in position) closing e h.0) none
  doing_read (method (typed place t c form) m es d) e k h none =
      called place t c form (r.reads visible (typed place t c form) h.1) es h.2 e k none m h.0
  doing_read (method _ m es d) e k h none = absurd h.1
  doing_read _ e k h none = absurd h

  -- ---- alone

  pub alone_read : (e : Typed) → IsExpression p locals visible (whole e) → is_read_alone texts p e ≡ true
  alone_read e h = go (gives_nothing e.ty) refl
    where
      k : As e
      k = read p locals texts r visible e h

      others : Bool
      others = is_read_walker texts p (whole e) || (is_read_struct texts p (whole e) || is_read_unique texts p (whole e))

      by_kind : is_void_type e.ty ≡ false → IsKindOf e.ty → (is_read_any texts p e || others) ≡ true
      by_kind some (inl plain) = or_left (is_read_any texts p e) others (any_value p locals texts r visible e k plain some)
      by_kind some (inr (inl o)) = or_left (is_read_any texts p e) others (any_owner p locals texts r visible e k o)
      by_kind some (inr (inr (inl w))) =
          or_right (is_read_any texts p e) others (or_left (is_read_walker texts p (whole e)) (is_read_struct texts p (whole e) || is_read_unique texts p (whole e)) (k.walker w))
      by_kind some (inr (inr (inr (inl u)))) =
          or_right (is_read_any texts p e) others (or_right (is_read_walker texts p (whole e)) (is_read_struct texts p (whole e) || is_read_unique texts p (whole e))
          (or_right (is_read_struct texts p (whole e)) (is_read_unique texts p (whole e)) (k.unique u)))
      by_kind some (inr (inr (inr (inr s)))) =
          or_right (is_read_any texts p e) others (or_right (is_read_walker texts p (whole e)) (is_read_struct texts p (whole e) || is_read_unique texts p (whole e))
          (or_left (is_read_struct texts p (whole e)) (is_read_unique texts p (whole e)) (k.structure s)))

      some_type : (x : ExprType) → gives_nothing x ≡ false → is_void_type x ≡ false
      some_type (Of t) h = h
      some_type NullPointer h = refl
      some_type TextLiteral h = refl

      go : (b : Bool) → gives_nothing e.ty ≡ b → is_read_alone texts p e ≡ true
      go true is = subst (λ (b : Bool). cond b (is_read_doing texts p (whole e)) (is_read_any texts p e || others) ≡ true) (sym is) (doing_read e.form e k h is)
      go false is = subst (λ (b : Bool). cond b (is_read_doing texts p (whole e)) (is_read_any texts p e || others) ≡ true) (sym is) (by_kind (some_type e.ty is) (kind_of e.ty))
