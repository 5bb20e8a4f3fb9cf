-- Of which kind each expression of a typed program is, as the laws read it: one that has a value or points, an owner, an iterator or a span, a unique_ptr, or a struct. Each well typed one is of such a kind.
use Rattle.std.specs.Prelude.{ℕ, Bool, true, false, ◌&&◌, ◌||◌, if◌then◌else◌, nat_lt, Option, Some, None}
use Rattle.life_types.specs.Types.{Types}
use Rattle.life_typed.specs.BaseTypes.{type_at}
use Rattle.life_typed.specs.Conversions.{is_place}
use Rattle.life_typed.specs.TypedForm.{address_of, binary, boolean, call, character, construct, dereference, Form, index, input, local, make_unique, member, method, move, negate, not as negation, nothing, null, number, paren, text, text_of, typed, Typed, whole, ◌⨟◌}
use Rattle.life_typed.specs.declared.typed_expr.BinaryOperator.{BinaryOperator}
use Rattle.life_typed.specs.declared.typed_expr.BinaryOperator.TheVariants.{And, Equal, NotEqual, Or}
use Rattle.life_typed.specs.declared.typed_expr.Method.{Method}
use Rattle.life_typed.specs.declared.typed_expr.Method.TheVariants.{Back, Begin, Clear, Empty, End, Erase, Front, Get, PopBack, PushBack, Reserve, Reset, Size, Subspan, Substr}
use Rattle.life_typed.specs.Programs.{ProgramForm}
use Rattle.life_writer.specs.Around.{text_in}
use Rattle.life_elab_laws.proofs.ObjectTypes.{is_element}
use Rattle.life_elab_laws.proofs.TypeKinds.{form_type, is_owner_type, is_plain_type, is_struct_type, is_unique_type, is_walker_type}

-- ---- members and operators

-- what only asks, and gives no iterator
abbrev pub is_asking : Method → Bool
is_asking Size = true
is_asking Empty = true
is_asking Front = true
is_asking Back = true
is_asking Substr = true
is_asking _ = false

-- the first or the last element
abbrev pub is_edge : Method → Bool
is_edge Front = true
is_edge Back = true
is_edge _ = false

-- what changes its object, and gives nothing
abbrev pub is_changing : Method → Bool
is_changing PushBack = true
is_changing PopBack = true
is_changing Clear = true
is_changing Reserve = true
is_changing _ = false

-- the first or the end of a vector
abbrev pub is_end : Method → Bool
is_end Begin = true
is_end End = true
is_end _ = false

abbrev pub is_subspan : Method → Bool
is_subspan Subspan = true
is_subspan _ = false

abbrev pub is_erase : Method → Bool
is_erase Erase = true
is_erase _ = false

-- what a unique_ptr owns
abbrev pub is_get : Method → Bool
is_get Get = true
is_get _ = false

abbrev pub is_reset : Method → Bool
is_reset Reset = true
is_reset _ = false

-- what is decided by conditions, or by what is null
abbrev pub is_testing : BinaryOperator → Bool
is_testing Or = true
is_testing And = true
is_testing Equal = true
is_testing NotEqual = true
is_testing _ = false

-- whether two are equal
abbrev pub is_equality : BinaryOperator → Bool
is_equality Equal = true
is_equality NotEqual = true
is_equality _ = false

-- ---- expressions

-- what is asked is an owner, or has a value
abbrev pub is_read_either : (base : Form) (owner value : Bool) → Bool
is_read_either base owner value = if is_owner_type (form_type base) then owner else value

-- in a program, whose core program has so many texts
module _ (texts : ℕ) (program : ProgramForm) where
  abbrev types : Types
  types = program.types

  abbrev mutual
    -- an expression that is neither an owner nor an iterator or a span, or several
    pub is_read_form : Form → Bool
    is_read_form (number n) = true
    is_read_form (character c) = true
    is_read_form (boolean b) = true
    is_read_form (text n) = nat_lt (text_in program n) texts
    is_read_form null = true
    is_read_form (local x) = true
    is_read_form (call f arguments delimiters) = are_read_arguments arguments
    is_read_form (paren inner closing) = is_read_form inner
    is_read_form input = true
    is_read_form (dereference e) = is_read_form e || (is_read_walker e || is_read_unique e)
    is_read_form (index base position closing) =
        (is_read_either base (is_read_owner base) (is_read_form base) || is_read_walker base) && is_read_form position
    is_read_form (method base called arguments delimiters) =
        (is_asking called && ((is_read_either base (is_read_owner base) (is_read_form base) || is_read_walker base) && is_read_form arguments))
        || (is_get called && is_read_unique base)
    is_read_form (member e which) = is_read_struct e
    is_read_form (negate e) = is_read_form e
    is_read_form (negation e) = is_read_form e || is_read_unique e
    is_read_form (address_of e) = is_read_either e (is_read_object e) (is_read_form e) || is_read_struct e
    is_read_form (binary operator left right) =
        (is_read_form left && is_read_form right)
        || ((is_testing operator && ((is_read_form left || is_read_unique left) && (is_read_form right || is_read_unique right)))
        || (is_equality operator
        && ((is_read_either left (is_read_owner left) (is_read_form left) && is_read_either right (is_read_owner right) (is_read_form right))
        || (is_read_walker left && is_read_walker right))))
    is_read_form (typed place t category form) = is_plain_type t && is_read_form form
    is_read_form nothing = true
    is_read_form (e ⨟ es) = is_read_form e && is_read_form es
    is_read_form _ = false

    -- .. that a function is called with, or a struct is given for its members: of any type
    pub are_read_arguments : Form → Bool
    are_read_arguments nothing = true
    are_read_arguments (e ⨟ es) = (is_read_either e (is_read_owner e) (is_read_form e) || (is_read_walker e || (is_read_fresh e || is_read_struct e))) && are_read_arguments es
    are_read_arguments _ = false

    -- a unique_ptr that is asked: one that is named, that is a member, that is made or moved out of a variable, or that a call gives
    pub is_read_unique : Form → Bool
    is_read_unique (local x) = true
    is_read_unique (call f arguments delimiters) = are_read_arguments arguments
    is_read_unique (make_unique target argument closing) = is_element types (type_at types target) && is_read_content argument
    is_read_unique (move x) = true
    is_read_unique (paren inner closing) = is_read_unique inner
    is_read_unique (member e which) = is_read_struct e
    is_read_unique (typed place t category form) = is_unique_type t && is_read_unique form
    is_read_unique _ = false

    -- a unique_ptr that is made, moved out of a variable, or given by a call
    pub is_read_fresh : Form → Bool
    is_read_fresh (call f arguments delimiters) = are_read_arguments arguments
    is_read_fresh (make_unique target argument closing) = is_read_content argument
    is_read_fresh (move x) = true
    is_read_fresh (paren inner closing) = is_read_fresh inner
    is_read_fresh (typed place t category form) = is_unique_type t && is_read_fresh form
    is_read_fresh _ = false

    -- a struct: one that is named, that a call gives or refers to, that is behind a pointer, an iterator or a unique_ptr, that is an element, or that is made of members
    pub is_read_struct : Form → Bool
    is_read_struct (local x) = true
    is_read_struct (call f arguments delimiters) = are_read_arguments arguments
    is_read_struct (construct structure elements delimiters) = are_read_arguments elements
    is_read_struct (paren inner closing) = is_read_struct inner
    is_read_struct (member e which) = is_read_struct e
    is_read_struct (dereference e) = is_read_form e || (is_read_walker e || is_read_unique e)
    is_read_struct (index base position closing) =
        (is_read_either base (is_read_owner base) (is_read_form base) || is_read_walker base) && is_read_form position
    is_read_struct (method base called arguments delimiters) = is_edge called && (is_owner_type (form_type base) && is_read_owner base)
    is_read_struct (typed place t category form) = is_struct_type t && is_read_struct form
    is_read_struct _ = false

    -- what one that is made owns: what stands there at first, an owner, a value, or a struct
    pub is_read_content : Form → Bool
    is_read_content nothing = true
    is_read_content (typed place t category form) = (if is_owner_type t then is_read_owner form else is_plain_type t && is_read_form form) || (is_struct_type t && is_read_struct form)
    is_read_content _ = false

    -- an owner at a place: one that is named, that a call refers to, that is behind a pointer or an iterator, or that is an element or a member
    pub is_read_object : Form → Bool
    is_read_object (local x) = true
    is_read_object (call f arguments delimiters) = are_read_arguments arguments
    is_read_object (paren inner closing) = is_read_object inner
    is_read_object (dereference e) = is_read_form e || (is_read_walker e || is_read_unique e)
    is_read_object (index base position closing) =
        (is_read_either base (is_read_owner base) (is_read_form base) || is_read_walker base) && is_read_form position
    is_read_object (member e which) = is_read_struct e
    is_read_object (method base called arguments delimiters) = is_edge called && (is_owner_type (form_type base) && is_read_owner base)
    is_read_object (typed place t category form) = is_place category && is_read_object form
    is_read_object _ = false

    -- an owner: one at a place, a string that is made, or what is moved out of a variable
    pub is_read_owner : Form → Bool
    is_read_owner (local x) = true
    is_read_owner (move x) = true
    is_read_owner (call f arguments delimiters) = are_read_arguments arguments
    is_read_owner (paren inner closing) = is_read_owner inner
    is_read_owner (dereference e) = is_read_form e || (is_read_walker e || is_read_unique e)
    is_read_owner (index base position closing) =
        (is_read_either base (is_read_owner base) (is_read_form base) || is_read_walker base) && is_read_form position
    is_read_owner (member e which) = is_read_struct e
    is_read_owner (method base called arguments delimiters) = is_edge called && (is_owner_type (form_type base) && is_read_owner base)
    is_read_owner (binary operator left right) =
        is_read_either left (is_read_owner left) (is_read_form left) && is_read_either right (is_read_owner right) (is_read_form right)
    is_read_owner (text_of inner closing) = is_read_either inner (is_read_owner inner) (is_read_form inner)
    is_read_owner (typed place t category form) = is_read_owner form
    is_read_owner _ = false

    -- an iterator or a span
    pub is_read_walker : Form → Bool
    is_read_walker (local x) = true
    is_read_walker (call f arguments delimiters) = are_read_arguments arguments
    is_read_walker (paren inner closing) = is_read_walker inner
    is_read_walker (method base called arguments delimiters) =
        (is_end called && (is_owner_type (form_type base) && is_read_owner base))
        || ((is_subspan called && (is_read_walker base && is_read_form arguments))
        || (is_erase called && (is_owner_type (form_type base) && (is_read_owner base && is_read_walker arguments))))
    is_read_walker (e ⨟ es) = is_read_walker e
    is_read_walker (member e which) = is_read_struct e
    is_read_walker (binary operator left right) = is_read_walker left && is_read_form right
    is_read_walker (typed place t category form) = is_walker_type t && is_read_walker form
    is_read_walker _ = false

  -- what a vector is given: values, owners and structs
  abbrev pub are_read_elements : Form → Bool
  are_read_elements nothing = true
  are_read_elements (e ⨟ es) = (is_read_either e (is_read_owner e) (is_read_form e) || is_read_struct e) && are_read_elements es
  are_read_elements _ = false

  abbrev pub are_read_listed : (members : Bool) → Form → Bool
  are_read_listed members es = if members then are_read_arguments es else are_read_elements es

  abbrev pub is_read_expression : Typed → Bool
  is_read_expression e = is_read_form (whole e)

  -- an expression with a value, or an owner
  abbrev pub is_read_any : Typed → Bool
  is_read_any e = is_read_either (whole e) (is_read_owner (whole e)) (is_read_expression e)

  -- one that decides: it has a value, or is a unique_ptr
  abbrev pub is_read_condition : Typed → Bool
  is_read_condition e = is_read_expression e || is_read_unique (whole e)

  abbrev pub is_read_condition_if : Option Typed → Bool
  is_read_condition_if None = true
  is_read_condition_if (Some e) = is_read_condition e

  -- an expression that is an owner
  abbrev pub is_read_owning : Typed → Bool
  is_read_owning e = is_owner_type e.ty && is_read_owner (whole e)
