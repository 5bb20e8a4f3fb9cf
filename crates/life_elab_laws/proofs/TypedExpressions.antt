-- Each well typed expression is read by the kind of its type: one recursion, a clause a form.
use Rattle.std.proofs.Common.{◌≡◌, ℕ, suc, Bool, true, false, ◌&&◌, ◌||◌, List, [], ◌∷◌, slice_get, Option, Some, None, refl, sym, ap, ◌∙◌, subst, Ok}
use Rattle.std.proofs.lemmas.Bool.{and_from, and_parts, false≢true}
use Rattle.life_types.specs.Trees.{members_at}
use Rattle.life_types.specs.declared.ty.Ty.{Ty}
use Rattle.life_types.specs.declared.ty.Ty.TheVariants as ty
use Rattle.life_types.specs.declared.ty.TyId.{TyId}
use Rattle.life_typed.specs.BaseTypes.{type_at}
use Rattle.life_typed.specs.Members.{parameter}
use Rattle.life_typed.specs.Programs.{ProgramForm}
use Rattle.life_typed.specs.TypedForm.{Form, Typed, number, character, boolean, text, null, local, call, construct, paren, move, make_unique, text_of, input, member, dereference, index, method, negate, not, address_of, binary, typed, nothing, ◌⨟◌}
use Rattle.life_typed.specs.declared.members.MethodParameters.{MethodParameters}
use Rattle.life_typed.specs.declared.members.MethodParameters.TheVariants as parameters
use Rattle.life_typed.specs.declared.typed_expr.Category.{Category}
use Rattle.life_typed.specs.declared.typed_expr.ExprType.{ExprType}
use Rattle.life_typed.specs.declared.typed_expr.ExprType.TheVariants.{NullPointer, Of, TextLiteral}
use Rattle.life_typed.specs.declared.typed_program.TypedLocal.{TypedLocal}
use Rattle.life_type_expr.specs.Lists.{is_taken}
use Rattle.life_type_expr.specs.Members.{is_position}
use Rattle.life_type_expr.specs.Operands.{move_fault_of, moved_unless, number_type}
use Rattle.life_well_typed.specs.Expressions.{AreExpressions, IsExpression, IsExpressionIfAny, IsMadeOf, IsMoved, are_given, parameter_types, typed_in}
use Rattle.life_well_typed.specs.Given.{is_given}
use Rattle.life_well_typed.specs.Members.{are_each, are_elements, are_members, are_taken, can_be_listed, is_optional}
use Rattle.life_elab_laws.proofs.FormKinds.{are_read_arguments, are_read_elements, is_read_content, is_read_form, is_read_fresh, is_read_struct, is_read_walker}
use Rattle.life_elab_laws.proofs.ObjectTypes.{are_admitted_variables, is_element}
use Rattle.life_elab_laws.proofs.TypeKinds.{is_plain_type}
use Rattle.life_elab_laws.proofs.ExpressionKinds.{number_value}
use Rattle.life_elab_laws.proofs.KnownTypes.{HasKnownTypes, is_known_type, unique_known}
use Rattle.life_elab_laws.proofs.TypedGivens.{element_read, given_read, parameter_read, position_read}
use Rattle.life_elab_laws.proofs.TypedKinds.{combined_as, err_ok, ok_same}
use Rattle.life_elab_laws.proofs.TypedMethods.{TakesValues, method_read}
use Rattle.life_elab_laws.proofs.TypedOperands.{HasValue, is_either, pointing_read, ranged_read, value_has, value_read}
use Rattle.life_elab_laws.proofs.TypedOperators.{address_read, combined_read, inverted_read, negated_read, text_read}
use Rattle.life_elab_laws.proofs.TypedPlaces.{called_told, dereferenced_behind, indexed_behind, member_there, variable_there}
use Rattle.life_elab_laws.proofs.TypedReadings.{IsRead, behind_read, is_known, number_read, owner_read, paren_read, plain_read, struct_read, there_read, unique_read, whole_read}

position_has : (t : ExprType) → is_position t ≡ true → HasValue t
position_has (Of t) v = value_has t v
position_has NullPointer v = absurd (false≢true v)
position_has TextLiteral v = absurd (false≢true v)

module _ (p : ProgramForm) (locals : List TypedLocal) (visible : List ℕ) (texts : ℕ) (literals : (n : ℕ) → is_read_form texts p (text n) ≡ true) (table : HasKnownTypes p.types) (variables : are_admitted_variables p.types locals ≡ true) where
  abbrev Reads : Typed → Form → Type 0
  Reads e form = IsRead texts p e.ty e.category form

  -- what is moved out of a variable: an owner or a unique_ptr
  moved_read : (x : ℕ) (l : TypedLocal) (e : Typed) (t : Ty) → type_at p.types l.ty ≡ t → (constant : Bool) → moved_unless (move_fault_of t constant) p.types e.place (x, l) ≡ Ok e → Reads e (move x)
  moved_read x l e ty.Text at false h =
      let made = ok_same h in
      owner_read texts p ty.Text e.ty e.category (move x) refl refl (sym (ap (λ (y : Typed). y.ty) made) ∙ ap Of at) (sym (ap (λ (y : Typed). y.category) made)) refl
  moved_read x l e (ty.Vector item) at false h =
      let made = ok_same h in
      owner_read texts p (ty.Vector item) e.ty e.category (move x) refl (ap (is_known_type p.types) (sym at) ∙ table.known l.ty) (sym (ap (λ (y : Typed). y.ty) made) ∙ ap Of at) (sym (ap (λ (y : Typed). y.category) made)) refl
  moved_read x l e (ty.Unique target) at false h =
      let made = ok_same h in
      unique_read texts p target e.ty e.category (move x) (ap (is_known_type p.types) (sym at) ∙ table.known l.ty) (sym (ap (λ (y : Typed). y.ty) made) ∙ ap Of at) (sym (ap (λ (y : Typed). y.category) made)) refl refl
  moved_read x l e (ty.Reference target true) at constant h = absurd (err_ok h)
  moved_read x l e (ty.Reference target false) at constant h = absurd (err_ok h)
  moved_read x l e _ at true h = absurd (err_ok h)
  moved_read x l e _ at false h = absurd (err_ok h)

  moved_if : (x : ℕ) (e : Typed) (o : Option TypedLocal) → IsMoved p.types x o e → Reads e (move x)
  moved_if x e None h = absurd h
  moved_if x e (Some l) h = moved_read x l e (type_at p.types l.ty) refl l.constant h

  abbrev is_given_over : Form → Bool
  is_given_over e = is_either texts p e || (is_read_walker texts p e || (is_read_fresh texts p e || is_read_struct texts p e))

  mutual
    pub expression_read : (form : Form) → IsExpression p locals visible form → IsRead texts p (typed_in form).ty (typed_in form).category form
    expression_read (typed place t c form) h = whole_read texts p place t c form (made_read form (record { place = place; ty = t; category = c; form = form }) h)
    expression_read _ h = absurd h

    made_read : (form : Form) (e : Typed) → IsMadeOf p locals visible e form → Reads e form
    made_read (number n) e h = number_read texts p (number_type n) e.ty e.category (number n) (number_value n) (ap (λ (y : Typed). y.ty) h) (ap (λ (y : Typed). y.category) h) refl
    made_read (character c) e h = number_read texts p ty.Char e.ty e.category (character c) refl (ap (λ (y : Typed). y.ty) h) (ap (λ (y : Typed). y.category) h) refl
    made_read (boolean b) e h = number_read texts p ty.Bool e.ty e.category (boolean b) refl (ap (λ (y : Typed). y.ty) h) (ap (λ (y : Typed). y.category) h) refl
    made_read null e h = plain_read texts p e.ty e.category null (ap is_plain_type h.0) (ap (is_known p.types) h.0) h.1 refl
    made_read (text n) e h = plain_read texts p e.ty e.category (text n) (ap is_plain_type h.0) (ap (is_known p.types) h.0) h.1 (literals n)
    made_read input e h = number_read texts p ty.Long e.ty e.category input refl (ap (λ (y : Typed). y.ty) h) (ap (λ (y : Typed). y.category) h) refl
    made_read (local x) e h = there_read texts p e.ty e.category (local x) (variable_there p.types table locals variables x e h.1) refl refl refl refl refl refl
    made_read (move x) e h = moved_if x e (slice_get locals x) h.1
    made_read (paren inner closing) e h =
        let same = ok_same h.0 in
        subst (λ (c : Category). IsRead texts p e.ty c (paren inner closing)) (ap (λ (y : Typed). y.category) same)
        (subst (λ (t : ExprType). IsRead texts p t (typed_in inner).category (paren inner closing)) (ap (λ (y : Typed). y.ty) same)
        (paren_read texts p (typed_in inner).ty (typed_in inner).category inner closing (expression_read inner h.1)))
    made_read (call f arguments delimiters) e h =
        let told = called_told p.types table (slice_get p.functions f) e h.0 in
        let given = given_arguments (parameter_types (slice_get p.functions f)) arguments h.1 h.2 in
        record {
          value = λ q some. given;
          owner = λ n. given;
          object = λ n at. given;
          walker = λ n. given;
          unique = λ n. given;
          fresh = λ n made. given;
          structure = λ n. given;
          known = told.known;
          place = told.place;
        }
    made_read (construct structure elements delimiters) e h =
        struct_read texts p structure e.ty e.category (construct structure elements delimiters) (ap (λ (y : Typed). y.ty) h.0) (ap (λ (y : Typed). y.category) h.0)
        (member_arguments (members_at p.types structure) elements h.1 h.2)
    made_read (make_unique id argument closing) e h =
        let worth : is_element p.types (type_at p.types id) ≡ true = table.plain id h.1.plain h.1.object in
        let content : is_read_content texts p argument ≡ true = content_read id argument worth h.2 h.3 in
        unique_read texts p id e.ty e.category (make_unique id argument closing) (unique_known p.types id worth) (ap (λ (y : Typed). y.ty) h.0) (ap (λ (y : Typed). y.category) h.0)
        (and_from (is_element p.types (type_at p.types id)) (is_read_content texts p argument) worth content) content
    made_read (text_of inner closing) e h = text_read texts p inner (expression_read inner h.1) e closing h.0
    made_read (negate inner) e h = negated_read texts p inner (expression_read inner h.1) e h.0
    made_read (not inner) e h = inverted_read texts p inner (expression_read inner h.1) e h.0
    made_read (address_of inner) e h = address_read texts p inner (expression_read inner h.1) e table h.0
    made_read (binary o left right) e h =
        combined_read texts p left right (expression_read left h.1) (expression_read right h.2) e o (combined_as o e.place (typed_in left) (typed_in right) e h.0)
    made_read (member base which) e h =
        let is = member_there p.types table (typed_in base).ty (typed_in base).category which e h.0 in
        let whole = (expression_read base h.1).structure is.whole in
        there_read texts p e.ty e.category (member base which) is.there whole whole whole whole whole whole
    made_read (dereference inner) e h =
        let is = expression_read inner h.1 in
        let reached = dereferenced_behind p.types table (typed_in inner) e e.place is.known h.0 in
        let points = pointing_read texts p inner is reached.by in
        behind_read texts p e.ty e.category (dereference inner) reached.behind points points points points
    made_read (index base position closing) e h =
        let is = expression_read base h.1 in
        let reached = indexed_behind p.types table (typed_in base) (typed_in position) e e.place closing is.known h.0 in
        let ranged = and_from (is_either texts p base || is_read_walker texts p base) (is_read_form texts p position) (ranged_read texts p base is reached.by)
        (value_read texts p position (expression_read position h.2) (position_has (typed_in position).ty reached.number)) in
        behind_read texts p e.ty e.category (index base position closing) reached.behind ranged ranged ranged ranged
    made_read (method base called arguments delimiters) e h =
        method_read texts p base (expression_read base h.1) arguments delimiters
        (λ m takes given. taken_values m 0 arguments takes given h.2)
        (λ item known given. taken_position item arguments known given h.2)
        e called h.0
    made_read _ e h = absurd h

    -- ---- several

    -- what a function is called with
    pub given_arguments : (ids : List TyId) (form : Form) → are_given p.types ids form ≡ true → AreExpressions p locals visible form → are_read_arguments texts p form ≡ true
    given_arguments [] nothing g h = refl
    given_arguments (id ∷ ids) (e ⨟ es) g h =
        let parts = and_parts (is_given p.types (type_at p.types id) (typed_in e)) (are_given p.types ids es) g in
        and_from (is_given_over e) (are_read_arguments texts p es) (given_read texts p e (expression_read e h.0) (type_at p.types id) (table.known id) parts.0) (given_arguments ids es parts.1 h.1)
    given_arguments [] (e ⨟ es) g h = absurd (false≢true g)
    given_arguments (id ∷ ids) nothing g h = absurd (false≢true g)
    given_arguments ids _ g h = absurd h

    -- what the members of a struct are given
    each_argument : (ids : List TyId) (form : Form) → are_each p.types ids form ≡ true → AreExpressions p locals visible form → are_read_arguments texts p form ≡ true
    each_argument [] nothing g h = refl
    each_argument (id ∷ ids) (e ⨟ es) g h =
        let parts = and_parts (can_be_listed p.types id && is_taken p.types (Some (type_at p.types id)) (typed_in e)) (are_each p.types ids es) g in
        let given = and_parts (can_be_listed p.types id) (is_taken p.types (Some (type_at p.types id)) (typed_in e)) parts.0 in
        and_from (is_given_over e) (are_read_arguments texts p es) (given_read texts p e (expression_read e h.0) (type_at p.types id) (table.known id) given.1) (each_argument ids es parts.1 h.1)
    each_argument [] (e ⨟ es) g h = absurd (false≢true g)
    each_argument (id ∷ ids) nothing g h = absurd (false≢true g)
    each_argument ids _ g h = absurd h

    pub member_arguments : (ids : List TyId) (form : Form) → are_members p.types ids form ≡ true → AreExpressions p locals visible form → are_read_arguments texts p form ≡ true
    member_arguments ids nothing g h = refl
    member_arguments (id ∷ ids) (e ⨟ es) g h =
        let parts = and_parts (can_be_listed p.types id && is_taken p.types (Some (type_at p.types id)) (typed_in e)) (are_each p.types ids es) g in
        let given = and_parts (can_be_listed p.types id) (is_taken p.types (Some (type_at p.types id)) (typed_in e)) parts.0 in
        and_from (is_given_over e) (are_read_arguments texts p es) (given_read texts p e (expression_read e h.0) (type_at p.types id) (table.known id) given.1) (each_argument ids es parts.1 h.1)
    member_arguments [] (e ⨟ es) g h = absurd (false≢true g)
    member_arguments ids _ g h = absurd h

    -- what a vector is given
    pub element_list : (id : TyId) (form : Form) → is_element p.types (type_at p.types id) ≡ true → are_elements p.types id form ≡ true → AreExpressions p locals visible form → are_read_elements texts p form ≡ true
    element_list id nothing worth g h = refl
    element_list id (e ⨟ es) worth g h =
        let parts = and_parts (is_taken p.types (Some (type_at p.types id)) (typed_in e)) (are_elements p.types id es) g in
        and_from (is_either texts p e || is_read_struct texts p e) (are_read_elements texts p es) (element_read texts p e (expression_read e h.0) (type_at p.types id) worth parts.0)
        (element_list id es worth parts.1 h.1)
    element_list id _ worth g h = absurd h

    -- what a member function is given
    pub taken_values : (m : MethodParameters) (n : ℕ) (form : Form) → TakesValues m → are_taken p.types m n form ≡ true → AreExpressions p locals visible form → is_read_form texts p form ≡ true
    taken_values m n nothing takes g h = refl
    taken_values m n (e ⨟ es) takes g h =
        let parts = and_parts (is_taken p.types (parameter m n) (typed_in e)) (are_taken p.types m (suc n) es) g in
        and_from (is_read_form texts p e) (is_read_form texts p es) (parameter_read texts p e (expression_read e h.0) m n takes parts.0) (taken_values m (suc n) es takes parts.1 h.1)
    taken_values m n _ takes g h = absurd h

    taken_position : (item : TyId) (form : Form) → is_known_type p.types (ty.Iterator item true) ≡ true → are_taken p.types (parameters.One (ty.Iterator item true)) 0 form ≡ true → AreExpressions p locals visible form → is_read_walker texts p form ≡ true
    taken_position item nothing known g h = absurd (false≢true g)
    taken_position item (e ⨟ es) known g h =
        let parts = and_parts (is_given p.types (ty.Iterator item true) (typed_in e)) (are_taken p.types (parameters.One (ty.Iterator item true)) 1 es) g in
        position_read texts p e (expression_read e h.0) item parts.0 known
    taken_position item _ known g h = absurd h

    -- what a unique_ptr is made to own
    pub content_read : (id : TyId) (form : Form) → is_element p.types (type_at p.types id) ≡ true → is_optional p.types id form ≡ true → IsExpressionIfAny p locals visible form → is_read_content texts p form ≡ true
    content_read id nothing worth g h = refl
    content_read id (typed at t c form) worth g h =
        element_read texts p (typed at t c form) (whole_read texts p at t c form (made_read form (record { place = at; ty = t; category = c; form = form }) h)) (type_at p.types id) worth g
    content_read id _ worth g h = absurd h
