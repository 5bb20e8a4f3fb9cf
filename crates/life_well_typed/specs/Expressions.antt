-- Expressions that are well typed: each is what the tables of types give from its operands.
use Rattle.std.specs.Prelude.{◌≡◌, ℕ, Bool, true, false, ◌&&◌, List, [], ◌∷◌, Contains, Ok, length, map, slice_get, take, Option, None, Some}
use Rattle.life_types.specs.Trees.{is_plain, members_at, tree_at}
use Rattle.life_types.specs.TypeTests.{is_raw}
use Rattle.life_types.specs.Types.{Types}
use Rattle.life_types.specs.declared.ty.Ty.TheVariants as ty
use Rattle.life_types.specs.declared.ty.TyId.{TyId}
use Rattle.life_typed.specs.BaseTypes.{type_at}
use Rattle.life_typed.specs.Operators.{negated}
use Rattle.life_typed.specs.Programs.{FunctionForm, ProgramForm}
use Rattle.life_typed.specs.TypedForm.{Form, Typed, number, character, boolean, text, null, local, call, construct, paren, move, make_unique, text_of, input, member, dereference, index, method, negate, not, address_of, binary, typed, nothing, ◌⨟◌}
use Rattle.life_typed.specs.declared.typed_expr.Category.{Category}
use Rattle.life_typed.specs.declared.typed_expr.Category.TheVariants as category
use Rattle.life_typed.specs.declared.typed_expr.ExprType.TheVariants as expr_type
use Rattle.life_typed.specs.declared.typed_program.TypedLocal.{TypedLocal}
use Rattle.life_type_expr.specs.Members.{indexed_at}
use Rattle.life_type_expr.specs.Operands.{answer_of, combination, inverted, moved, negated_to, number_type, parenthesized, pointed_to, text_made, value, variable}
use Rattle.life_well_typed.specs.Given.{is_given}
use Rattle.life_well_typed.specs.Members.{IsCalled, IsMember, are_members, is_optional}
pub use Rattle.life_well_typed.specs.Members.{typed_in}
use Rattle.life_well_typed.specs.Tables.{IsPlainObject}

-- ---- calls

-- the types of a function's parameters, which are its first locals
abbrev pub type_of : TypedLocal → TyId
type_of l = l.ty

abbrev pub parameter_types : Option FunctionForm → List TyId
parameter_types None = []
parameter_types (Some f) = map type_of (take (length f.parameters) f.locals)

-- what is given to each parameter: as many arguments as there are parameters, each of a type that it takes
abbrev pub are_given : Types → List TyId → Form → Bool
are_given types [] nothing = true
are_given types (id ∷ ids) (e ⨟ es) = is_given types (type_at types id) (typed_in e) && are_given types ids es
are_given types _ _ = false

-- the function is there, and the expression is its result
abbrev pub HasResult : Types → Option FunctionForm → Typed → Type 0
HasResult types None e = ⊥
HasResult types (Some f) e = e ≡ answer_of (type_at types f.result) types e.place e.form

-- ---- variables

-- the variable is there, and the expression is what it names
abbrev pub IsVariable : Types → ℕ → Option TypedLocal → Typed → Type 0
IsVariable types x None e = ⊥
IsVariable types x (Some l) e = e ≡ variable types e.place (x, l)

-- .. what is moved out of it
abbrev pub IsMoved : Types → ℕ → Option TypedLocal → Typed → Type 0
IsMoved types x None e = ⊥
IsMoved types x (Some l) e = moved types e.place (x, l) ≡ Ok e

-- ---- addresses

-- the address of a place that is plain, and so no pointer itself
abbrev pub IsAddress : Types → Category → Typed → Type 0
IsAddress types category.Value e = ⊥
IsAddress types (category.Place id constant) e =
    (is_raw (type_at types id) ≡ false) × (e ≡ value e.place (ty.Raw id constant) e.form) × (is_plain (tree_at types id) ≡ true)

-- ---- structs

-- the table has the type of the struct
abbrev pub HasStructType : Types → ℕ → Type 0
HasStructType types structure = (at : ℕ) × (slice_get types.types at ≡ Some (ty.Struct structure))

-- ---- any expression

-- in a function with these parameters and variables, where these of them are visible
module _ (p : ProgramForm) (locals : List TypedLocal) (visible : List ℕ) where
  abbrev mutual
    pub IsExpression : Form → Type 0
    IsExpression (typed place t c form) = IsMadeOf (record { place = place; ty = t; category = c; form = form }) form
    IsExpression _ = ⊥

    -- this expression is made of this
    pub IsMadeOf : Typed → Form → Type 0
    IsMadeOf e (number n) = e ≡ value e.place (number_type n) e.form
    IsMadeOf e (character c) = e ≡ value e.place ty.Char e.form
    IsMadeOf e (boolean b) = e ≡ value e.place ty.Bool e.form
    IsMadeOf e null = (e.ty ≡ expr_type.NullPointer) × (e.category ≡ category.Value)
    IsMadeOf e (local x) = Contains visible x × IsVariable p.types x (slice_get locals x) e
    IsMadeOf e (call f arguments delimiters) =
        HasResult p.types (slice_get p.functions f) e
        × (are_given p.types (parameter_types (slice_get p.functions f)) arguments ≡ true)
        × AreExpressions arguments
    IsMadeOf e (paren inner closing) = (parenthesized closing (typed_in inner) ≡ Ok e) × IsExpression inner
    IsMadeOf e input = e ≡ value e.place ty.Long e.form
    IsMadeOf e (dereference inner) = (pointed_to p.types e.place (typed_in inner) ≡ Ok e) × IsExpression inner
    IsMadeOf e (negate inner) = (negated_to (negated (typed_in inner).ty) e.place (typed_in inner) ≡ Ok e) × IsExpression inner
    IsMadeOf e (not inner) = (inverted e.place (typed_in inner) ≡ Ok e) × IsExpression inner
    IsMadeOf e (address_of inner) = IsAddress p.types (typed_in inner).category e × IsExpression inner
    IsMadeOf e (binary o left right) = (combination o e.place (typed_in left) (typed_in right) ≡ Ok e) × IsExpression left × IsExpression right
    IsMadeOf e (text id) = (e.ty ≡ expr_type.TextLiteral) × (e.category ≡ category.Value)
    IsMadeOf e (construct structure elements delimiters) =
        (e ≡ value e.place (ty.Struct structure) e.form)
        × (are_members p.types (members_at p.types structure) elements ≡ true)
        × AreExpressions elements
        × HasStructType p.types structure
    IsMadeOf e (move x) = Contains visible x × IsMoved p.types x (slice_get locals x) e
    IsMadeOf e (make_unique id argument closing) =
        (e ≡ value e.place (ty.Unique id) e.form)
        × IsPlainObject p.types id
        × (is_optional p.types id argument ≡ true)
        × IsExpressionIfAny argument
    IsMadeOf e (text_of inner closing) = (text_made e.place closing (typed_in inner) ≡ Ok e) × IsExpression inner
    IsMadeOf e (member base which) = IsMember p.types (typed_in base).ty (typed_in base).category which e × IsExpression base
    IsMadeOf e (index base position closing) =
        (indexed_at p.types e.place (typed_in base) (typed_in position) closing ≡ Ok e) × IsExpression base × IsExpression position
    IsMadeOf e (method base called arguments delimiters) =
        IsCalled p.types (typed_in base).ty (typed_in base).category called arguments e × IsExpression base × AreExpressions arguments
    IsMadeOf e _ = ⊥

    -- .. or none
    pub IsExpressionIfAny : Form → Type 0
    IsExpressionIfAny (typed place t c form) = IsMadeOf (record { place = place; ty = t; category = c; form = form }) form
    IsExpressionIfAny nothing = Unit {0}
    IsExpressionIfAny _ = ⊥

    -- .. several
    pub AreExpressions : Form → Type 0
    AreExpressions (e ⨟ es) = IsExpression e × AreExpressions es
    AreExpressions nothing = Unit {0}
    AreExpressions _ = ⊥
