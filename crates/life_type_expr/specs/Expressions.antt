-- Expressions: one step for each rule of the grammar. The operands of a chain group to the left.
use Rattle.std.specs.Prelude.{ℕ, true, false, List, [], ◌∷◌, Option, None, Some, Ok}
use Rattle.life_types.specs.Types.{Types}
use Rattle.life_types.specs.declared.place.Place.{Place}
use Rattle.life_types.specs.declared.ty.Ty.{Ty}
use Rattle.life_types.specs.declared.ty.Ty.TheVariants as ty
use Rattle.life_tree.specs.declared.operator.AdditiveOperator.{AdditiveOperator}
use Rattle.life_tree.specs.declared.operator.AdditiveOperator.TheVariants as additive_operators
use Rattle.life_tree.specs.declared.operator.EqualityOperator.{EqualityOperator}
use Rattle.life_tree.specs.declared.operator.EqualityOperator.TheVariants as equality_operators
use Rattle.life_tree.specs.declared.operator.MultiplicativeOperator.{MultiplicativeOperator}
use Rattle.life_tree.specs.declared.operator.MultiplicativeOperator.TheVariants as multiplicative_operators
use Rattle.life_tree.specs.declared.operator.PrefixOperator.TheVariants as prefix_operators
use Rattle.life_tree.specs.declared.operator.RelationalOperator.{RelationalOperator}
use Rattle.life_tree.specs.declared.operator.RelationalOperator.TheVariants as relational_operators
use Rattle.life_tree.specs.declared.primary.PostfixPart.TheFolds.{fold-PostfixPart, fold-Primary, fold-Unary, fold-Additive, fold-AdditivePart, fold-Multiplicative, fold-MultiplicativePart, fold-Equality, fold-EqualityPart, fold-Relational, fold-RelationalPart, fold-AndPart, fold-Arguments, fold-Expr, fold-InitList, fold-LogicalAnd, fold-OrPart, fold-Postfix}
use Rattle.life_tree.specs.declared.primary.PostfixPart.TheOpen as open_expr
use Rattle.life_tree.specs.declared.primary.PostfixPart.{PostfixPart}
use Rattle.life_tree.specs.declared.primary.Primary.{Primary}
use Rattle.life_tree.specs.declared.primary.Unary.{Unary}
use Rattle.life_tree.specs.declared.primary.Postfix.{Postfix}
use Rattle.life_tree.specs.declared.arithmetic.Additive.{Additive}
use Rattle.life_tree.specs.declared.arithmetic.AdditivePart.{AdditivePart}
use Rattle.life_tree.specs.declared.arithmetic.Multiplicative.{Multiplicative}
use Rattle.life_tree.specs.declared.arithmetic.MultiplicativePart.{MultiplicativePart}
use Rattle.life_tree.specs.declared.comparison.Equality.{Equality}
use Rattle.life_tree.specs.declared.comparison.EqualityPart.{EqualityPart}
use Rattle.life_tree.specs.declared.comparison.Relational.{Relational}
use Rattle.life_tree.specs.declared.comparison.RelationalPart.{RelationalPart}
use Rattle.life_tree.specs.declared.expr.AndPart.{AndPart}
use Rattle.life_tree.specs.declared.expr.Arguments.{Arguments}
use Rattle.life_tree.specs.declared.expr.Expr.{Expr}
use Rattle.life_tree.specs.declared.expr.InitList.{InitList}
use Rattle.life_tree.specs.declared.expr.LogicalAnd.{LogicalAnd}
use Rattle.life_tree.specs.declared.expr.OrPart.{OrPart}
use Rattle.life_tree.specs.declared.simple.Target.{Target}
use Rattle.life_tree.specs.declared.simple.Target.TheFolds.{fold-Target}
use Rattle.life_tree.specs.declared.simple.Target.TheOpen as open_target
use Rattle.life_tree.specs.declared.type_name.TypeArgument.{TypeArgument}
use Rattle.life_typed.specs.TypedForm.{Typed, boolean, call, character, construct, forms, input, make_unique, null, number, optional_form, text}
use Rattle.life_typed.specs.TypedStatement.{ListForm}
use Rattle.life_typed.specs.declared.typed_expr.BinaryOperator.{BinaryOperator}
use Rattle.life_typed.specs.declared.typed_expr.BinaryOperator.TheVariants as operators
use Rattle.life_typed.specs.declared.typed_expr.Category.TheVariants as category
use Rattle.life_typed.specs.declared.typed_expr.ExprType.TheVariants as expr_type
use Rattle.life_names.specs.Checked.{Checked, ◌>>=◌}
use Rattle.life_names.specs.Environment.{Scope, SignatureView, StructureView}
use Rattle.life_names.specs.Found.{found_in, given}
use Rattle.life_type_expr.specs.Lists.{ListMeaning, Meaning, braced, list_for, members, optional, parameters, passed}
use Rattle.life_type_expr.specs.Members.{arrow_part, dot_part, index_part}
use Rattle.life_type_expr.specs.Named.{function_named, local_named, structure_named}
use Rattle.life_type_expr.specs.Operands.{answer_of, combination, literal_allowed, moved, number_type, parenthesized, prefixed, text_made, value, variable}
use Rattle.life_typed.specs.BaseTypes.{type_at}
use Rattle.life_typed.specs.Operators.{takes_literals}
use Rattle.life_names.specs.WrittenTypes.{made_element}
use Rattle.life_names.specs.declared.fault.IllKind.TheVariants as kinds

-- what stands behind an operand, which is known
abbrev pub PartMeaning : Type 0
PartMeaning = Typed → Meaning

-- ---- chains

-- operands behind the first, each with what stands before it so far
abbrev pub chained : List PartMeaning → Scope → Typed × Types → Checked Typed
chained [] scope x = Ok x
chained (p ∷ ps) scope x = p x.0 scope x.1 >>= chained ps scope

abbrev pub chain : Meaning → List PartMeaning → Meaning
chain first more scope types = first scope types >>= chained more scope

-- an operand with the operator before it
abbrev pub operand_part : BinaryOperator → Place → Meaning → PartMeaning
operand_part operator place operand left scope types =
    given (literal_allowed (takes_literals operator) left) (λ _.
    operand scope types >>= (λ x.
    given (literal_allowed (takes_literals operator) x.0) (λ _.
    found_in x.1 (combination operator place left x.0))))

abbrev pub additive_operator : AdditiveOperator → BinaryOperator
additive_operator additive_operators.Add = operators.Add
additive_operator additive_operators.Subtract = operators.Subtract

abbrev pub multiplicative_operator : MultiplicativeOperator → BinaryOperator
multiplicative_operator multiplicative_operators.Multiply = operators.Multiply
multiplicative_operator multiplicative_operators.Divide = operators.Divide
multiplicative_operator multiplicative_operators.Remainder = operators.Remainder

abbrev pub equality_operator : EqualityOperator → BinaryOperator
equality_operator equality_operators.Equal = operators.Equal
equality_operator equality_operators.NotEqual = operators.NotEqual

abbrev pub relational_operator : RelationalOperator → BinaryOperator
relational_operator relational_operators.Less = operators.Less
relational_operator relational_operators.LessEqual = operators.LessEqual
relational_operator relational_operators.Greater = operators.Greater
relational_operator relational_operators.GreaterEqual = operators.GreaterEqual

-- ---- operands

-- a call of a function
abbrev pub called : Place → ListMeaning → ℕ × SignatureView → Scope → Types → Checked Typed
called place arguments f scope types =
    passed kinds.WrongArguments None place (parameters f.1.parameters) arguments.list scope types >>= (λ x.
    Ok (answer_of (type_at x.1 f.1.result) x.1 place (call f.0 (forms x.0) arguments.delimiters), x.1))

-- a struct made of a list
abbrev pub constructed : ListMeaning → ℕ × StructureView → Scope → Types → Checked Typed
constructed l s scope types =
    braced (members s.1.members) l scope types >>= (λ x.
    Ok (value l.opening (ty.Struct s.0) (construct s.0 (forms x.0) l.delimiters), x.1))

abbrev pub first_of : List Typed → Option Typed
first_of [] = None
first_of (e ∷ es) = Some e

-- `std::make_unique`, where that stands at this place
abbrev pub unique_made : Place → TypeArgument → ListMeaning → Scope → Types → Checked Typed
unique_made place element arguments scope types =
    made_element element place scope types >>= (λ x.
    passed kinds.WrongArguments None place (optional x.0) arguments.list scope x.1 >>= (λ y.
    Ok (value place (ty.Unique x.0) (make_unique x.0 (optional_form (first_of y.0)) arguments.delimiters.closing), y.1)))

-- ---- one step for each rule

abbrev pub primary_step : open_expr.Primary-F PartMeaning Meaning Meaning Meaning PartMeaning Meaning PartMeaning Meaning PartMeaning Meaning PartMeaning PartMeaning ListMeaning Meaning ListMeaning Meaning PartMeaning Meaning → Meaning
primary_step (open_expr.Number n place) scope types = Ok (value place (number_type n) (number n), types)
primary_step (open_expr.Char c place) scope types = Ok (value place ty.Char (character c), types)
primary_step (open_expr.Text n place) scope types = Ok (record { place = place; ty = expr_type.TextLiteral; category = category.Value; form = text n }, types)
primary_step (open_expr.True place) scope types = Ok (value place ty.Bool (boolean true), types)
primary_step (open_expr.False place) scope types = Ok (value place ty.Bool (boolean false), types)
primary_step (open_expr.Null place) scope types = Ok (record { place = place; ty = expr_type.NullPointer; category = category.Value; form = null }, types)
primary_step (open_expr.Name name) scope types = given (local_named name scope) (λ l. Ok (variable types name.place l, types))
primary_step (open_expr.Call name arguments) scope types = given (function_named name scope) (λ f. called name.place arguments f scope types)
primary_step (open_expr.Construct name l) scope types = given (structure_named name scope) (λ s. constructed l s scope types)
primary_step (open_expr.Paren opening inner closing) scope types = inner.value scope types >>= (λ x. found_in x.1 (parenthesized closing x.0))
primary_step (open_expr.Move name opening variable_name closing) scope types =
    given (local_named variable_name scope) (λ l. found_in types (moved types name.word l))
primary_step (open_expr.MakeUnique name element arguments) scope types = unique_made name.word element arguments scope types
primary_step (open_expr.TextOf name opening inner closing) scope types = inner.value scope types >>= (λ x. found_in x.1 (text_made name.word closing x.0))
primary_step (open_expr.Input name opening closing) scope types = Ok (value name.word ty.Long input, types)

abbrev pub part_step : open_expr.PostfixPart-F PartMeaning Meaning Meaning Meaning PartMeaning Meaning PartMeaning Meaning PartMeaning Meaning PartMeaning PartMeaning ListMeaning Meaning ListMeaning Meaning PartMeaning Meaning → PartMeaning
part_step (open_expr.Member dot name arguments) base scope types = dot_part name arguments base scope types
part_step (open_expr.Arrow arrow name arguments) base scope types = arrow_part name arguments base scope types
part_step (open_expr.Index opening position closing) base scope types = index_part opening position.value closing base scope types

abbrev pub unary_step : open_expr.Unary-F PartMeaning Meaning Meaning Meaning PartMeaning Meaning PartMeaning Meaning PartMeaning Meaning PartMeaning PartMeaning ListMeaning Meaning ListMeaning Meaning PartMeaning Meaning → Meaning
unary_step (open_expr.Prefix operator place operand) scope types = operand.value scope types >>= prefixed operator place
unary_step (open_expr.Plain operand) scope types = operand scope types

abbrev pub additive_step : open_expr.Additive-F PartMeaning Meaning Meaning Meaning PartMeaning Meaning PartMeaning Meaning PartMeaning Meaning PartMeaning PartMeaning ListMeaning Meaning ListMeaning Meaning PartMeaning Meaning → Meaning
additive_step e = chain e.first e.more.items

abbrev pub additive_part : open_expr.AdditivePart-F PartMeaning Meaning Meaning Meaning PartMeaning Meaning PartMeaning Meaning PartMeaning Meaning PartMeaning PartMeaning ListMeaning Meaning ListMeaning Meaning PartMeaning Meaning → PartMeaning
additive_part p = operand_part (additive_operator p.operator) p.place p.operand

abbrev pub multiplicative_step : open_expr.Multiplicative-F PartMeaning Meaning Meaning Meaning PartMeaning Meaning PartMeaning Meaning PartMeaning Meaning PartMeaning PartMeaning ListMeaning Meaning ListMeaning Meaning PartMeaning Meaning → Meaning
multiplicative_step e = chain e.first e.more.items

abbrev pub multiplicative_part : open_expr.MultiplicativePart-F PartMeaning Meaning Meaning Meaning PartMeaning Meaning PartMeaning Meaning PartMeaning Meaning PartMeaning PartMeaning ListMeaning Meaning ListMeaning Meaning PartMeaning Meaning → PartMeaning
multiplicative_part p = operand_part (multiplicative_operator p.operator) p.place p.operand

abbrev pub equality_step : open_expr.Equality-F PartMeaning Meaning Meaning Meaning PartMeaning Meaning PartMeaning Meaning PartMeaning Meaning PartMeaning PartMeaning ListMeaning Meaning ListMeaning Meaning PartMeaning Meaning → Meaning
equality_step e = chain e.first e.more.items

abbrev pub equality_part : open_expr.EqualityPart-F PartMeaning Meaning Meaning Meaning PartMeaning Meaning PartMeaning Meaning PartMeaning Meaning PartMeaning PartMeaning ListMeaning Meaning ListMeaning Meaning PartMeaning Meaning → PartMeaning
equality_part p = operand_part (equality_operator p.operator) p.place p.operand

abbrev pub relational_step : open_expr.Relational-F PartMeaning Meaning Meaning Meaning PartMeaning Meaning PartMeaning Meaning PartMeaning Meaning PartMeaning PartMeaning ListMeaning Meaning ListMeaning Meaning PartMeaning Meaning → Meaning
relational_step e = chain e.first e.more.items

abbrev pub relational_part : open_expr.RelationalPart-F PartMeaning Meaning Meaning Meaning PartMeaning Meaning PartMeaning Meaning PartMeaning Meaning PartMeaning PartMeaning ListMeaning Meaning ListMeaning Meaning PartMeaning Meaning → PartMeaning
relational_part p = operand_part (relational_operator p.operator) p.place p.operand

abbrev pub and_part : open_expr.AndPart-F PartMeaning Meaning Meaning Meaning PartMeaning Meaning PartMeaning Meaning PartMeaning Meaning PartMeaning PartMeaning ListMeaning Meaning ListMeaning Meaning PartMeaning Meaning → PartMeaning
and_part p = operand_part operators.And p.place p.operand

abbrev pub arguments_step : open_expr.Arguments-F PartMeaning Meaning Meaning Meaning PartMeaning Meaning PartMeaning Meaning PartMeaning Meaning PartMeaning PartMeaning ListMeaning Meaning ListMeaning Meaning PartMeaning Meaning → ListMeaning
arguments_step a = record { opening = a.opening; list = a.list.items; delimiters = record { commas = a.commas.items; closing = a.closing } }

abbrev pub expr_step : open_expr.Expr-F PartMeaning Meaning Meaning Meaning PartMeaning Meaning PartMeaning Meaning PartMeaning Meaning PartMeaning PartMeaning ListMeaning Meaning ListMeaning Meaning PartMeaning Meaning → Meaning
expr_step e = chain e.first e.more.items

abbrev pub init_list_step : open_expr.InitList-F PartMeaning Meaning Meaning Meaning PartMeaning Meaning PartMeaning Meaning PartMeaning Meaning PartMeaning PartMeaning ListMeaning Meaning ListMeaning Meaning PartMeaning Meaning → ListMeaning
init_list_step l = record { opening = l.opening; list = l.list.items; delimiters = record { commas = l.commas.items; closing = l.closing } }

abbrev pub logical_and_step : open_expr.LogicalAnd-F PartMeaning Meaning Meaning Meaning PartMeaning Meaning PartMeaning Meaning PartMeaning Meaning PartMeaning PartMeaning ListMeaning Meaning ListMeaning Meaning PartMeaning Meaning → Meaning
logical_and_step e = chain e.first e.more.items

abbrev pub or_part : open_expr.OrPart-F PartMeaning Meaning Meaning Meaning PartMeaning Meaning PartMeaning Meaning PartMeaning Meaning PartMeaning PartMeaning ListMeaning Meaning ListMeaning Meaning PartMeaning Meaning → PartMeaning
or_part p = operand_part operators.Or p.place p.operand

abbrev pub postfix_step : open_expr.Postfix-F PartMeaning Meaning Meaning Meaning PartMeaning Meaning PartMeaning Meaning PartMeaning Meaning PartMeaning PartMeaning ListMeaning Meaning ListMeaning Meaning PartMeaning Meaning → Meaning
postfix_step p = chain p.primary p.parts.items

-- ---- the meaning of each

unfoldable pub part_meaning : PostfixPart → PartMeaning
part_meaning =
    fold-PostfixPart PartMeaning Meaning Meaning Meaning PartMeaning Meaning PartMeaning Meaning PartMeaning Meaning PartMeaning PartMeaning ListMeaning Meaning ListMeaning Meaning PartMeaning Meaning
    part_step primary_step unary_step additive_step additive_part multiplicative_step multiplicative_part equality_step equality_part relational_step relational_part and_part arguments_step expr_step init_list_step logical_and_step or_part postfix_step

unfoldable pub primary_meaning : Primary → Meaning
primary_meaning =
    fold-Primary PartMeaning Meaning Meaning Meaning PartMeaning Meaning PartMeaning Meaning PartMeaning Meaning PartMeaning PartMeaning ListMeaning Meaning ListMeaning Meaning PartMeaning Meaning
    part_step primary_step unary_step additive_step additive_part multiplicative_step multiplicative_part equality_step equality_part relational_step relational_part and_part arguments_step expr_step init_list_step logical_and_step or_part postfix_step

unfoldable pub unary_meaning : Unary → Meaning
unary_meaning =
    fold-Unary PartMeaning Meaning Meaning Meaning PartMeaning Meaning PartMeaning Meaning PartMeaning Meaning PartMeaning PartMeaning ListMeaning Meaning ListMeaning Meaning PartMeaning Meaning
    part_step primary_step unary_step additive_step additive_part multiplicative_step multiplicative_part equality_step equality_part relational_step relational_part and_part arguments_step expr_step init_list_step logical_and_step or_part postfix_step

unfoldable pub additive_meaning : Additive → Meaning
additive_meaning =
    fold-Additive PartMeaning Meaning Meaning Meaning PartMeaning Meaning PartMeaning Meaning PartMeaning Meaning PartMeaning PartMeaning ListMeaning Meaning ListMeaning Meaning PartMeaning Meaning
    part_step primary_step unary_step additive_step additive_part multiplicative_step multiplicative_part equality_step equality_part relational_step relational_part and_part arguments_step expr_step init_list_step logical_and_step or_part postfix_step

unfoldable pub additive_part_meaning : AdditivePart → PartMeaning
additive_part_meaning =
    fold-AdditivePart PartMeaning Meaning Meaning Meaning PartMeaning Meaning PartMeaning Meaning PartMeaning Meaning PartMeaning PartMeaning ListMeaning Meaning ListMeaning Meaning PartMeaning Meaning
    part_step primary_step unary_step additive_step additive_part multiplicative_step multiplicative_part equality_step equality_part relational_step relational_part and_part arguments_step expr_step init_list_step logical_and_step or_part postfix_step

unfoldable pub multiplicative_meaning : Multiplicative → Meaning
multiplicative_meaning =
    fold-Multiplicative PartMeaning Meaning Meaning Meaning PartMeaning Meaning PartMeaning Meaning PartMeaning Meaning PartMeaning PartMeaning ListMeaning Meaning ListMeaning Meaning PartMeaning Meaning
    part_step primary_step unary_step additive_step additive_part multiplicative_step multiplicative_part equality_step equality_part relational_step relational_part and_part arguments_step expr_step init_list_step logical_and_step or_part postfix_step

unfoldable pub multiplicative_part_meaning : MultiplicativePart → PartMeaning
multiplicative_part_meaning =
    fold-MultiplicativePart PartMeaning Meaning Meaning Meaning PartMeaning Meaning PartMeaning Meaning PartMeaning Meaning PartMeaning PartMeaning ListMeaning Meaning ListMeaning Meaning PartMeaning Meaning
    part_step primary_step unary_step additive_step additive_part multiplicative_step multiplicative_part equality_step equality_part relational_step relational_part and_part arguments_step expr_step init_list_step logical_and_step or_part postfix_step

unfoldable pub equality_meaning : Equality → Meaning
equality_meaning =
    fold-Equality PartMeaning Meaning Meaning Meaning PartMeaning Meaning PartMeaning Meaning PartMeaning Meaning PartMeaning PartMeaning ListMeaning Meaning ListMeaning Meaning PartMeaning Meaning
    part_step primary_step unary_step additive_step additive_part multiplicative_step multiplicative_part equality_step equality_part relational_step relational_part and_part arguments_step expr_step init_list_step logical_and_step or_part postfix_step

unfoldable pub equality_part_meaning : EqualityPart → PartMeaning
equality_part_meaning =
    fold-EqualityPart PartMeaning Meaning Meaning Meaning PartMeaning Meaning PartMeaning Meaning PartMeaning Meaning PartMeaning PartMeaning ListMeaning Meaning ListMeaning Meaning PartMeaning Meaning
    part_step primary_step unary_step additive_step additive_part multiplicative_step multiplicative_part equality_step equality_part relational_step relational_part and_part arguments_step expr_step init_list_step logical_and_step or_part postfix_step

unfoldable pub relational_meaning : Relational → Meaning
relational_meaning =
    fold-Relational PartMeaning Meaning Meaning Meaning PartMeaning Meaning PartMeaning Meaning PartMeaning Meaning PartMeaning PartMeaning ListMeaning Meaning ListMeaning Meaning PartMeaning Meaning
    part_step primary_step unary_step additive_step additive_part multiplicative_step multiplicative_part equality_step equality_part relational_step relational_part and_part arguments_step expr_step init_list_step logical_and_step or_part postfix_step

unfoldable pub relational_part_meaning : RelationalPart → PartMeaning
relational_part_meaning =
    fold-RelationalPart PartMeaning Meaning Meaning Meaning PartMeaning Meaning PartMeaning Meaning PartMeaning Meaning PartMeaning PartMeaning ListMeaning Meaning ListMeaning Meaning PartMeaning Meaning
    part_step primary_step unary_step additive_step additive_part multiplicative_step multiplicative_part equality_step equality_part relational_step relational_part and_part arguments_step expr_step init_list_step logical_and_step or_part postfix_step

unfoldable pub and_part_meaning : AndPart → PartMeaning
and_part_meaning =
    fold-AndPart PartMeaning Meaning Meaning Meaning PartMeaning Meaning PartMeaning Meaning PartMeaning Meaning PartMeaning PartMeaning ListMeaning Meaning ListMeaning Meaning PartMeaning Meaning
    part_step primary_step unary_step additive_step additive_part multiplicative_step multiplicative_part equality_step equality_part relational_step relational_part and_part arguments_step expr_step init_list_step logical_and_step or_part postfix_step

unfoldable pub arguments_meaning : Arguments → ListMeaning
arguments_meaning =
    fold-Arguments PartMeaning Meaning Meaning Meaning PartMeaning Meaning PartMeaning Meaning PartMeaning Meaning PartMeaning PartMeaning ListMeaning Meaning ListMeaning Meaning PartMeaning Meaning
    part_step primary_step unary_step additive_step additive_part multiplicative_step multiplicative_part equality_step equality_part relational_step relational_part and_part arguments_step expr_step init_list_step logical_and_step or_part postfix_step

unfoldable pub expr_meaning : Expr → Meaning
expr_meaning =
    fold-Expr PartMeaning Meaning Meaning Meaning PartMeaning Meaning PartMeaning Meaning PartMeaning Meaning PartMeaning PartMeaning ListMeaning Meaning ListMeaning Meaning PartMeaning Meaning
    part_step primary_step unary_step additive_step additive_part multiplicative_step multiplicative_part equality_step equality_part relational_step relational_part and_part arguments_step expr_step init_list_step logical_and_step or_part postfix_step

unfoldable pub init_list_meaning : InitList → ListMeaning
init_list_meaning =
    fold-InitList PartMeaning Meaning Meaning Meaning PartMeaning Meaning PartMeaning Meaning PartMeaning Meaning PartMeaning PartMeaning ListMeaning Meaning ListMeaning Meaning PartMeaning Meaning
    part_step primary_step unary_step additive_step additive_part multiplicative_step multiplicative_part equality_step equality_part relational_step relational_part and_part arguments_step expr_step init_list_step logical_and_step or_part postfix_step

unfoldable pub logical_and_meaning : LogicalAnd → Meaning
logical_and_meaning =
    fold-LogicalAnd PartMeaning Meaning Meaning Meaning PartMeaning Meaning PartMeaning Meaning PartMeaning Meaning PartMeaning PartMeaning ListMeaning Meaning ListMeaning Meaning PartMeaning Meaning
    part_step primary_step unary_step additive_step additive_part multiplicative_step multiplicative_part equality_step equality_part relational_step relational_part and_part arguments_step expr_step init_list_step logical_and_step or_part postfix_step

unfoldable pub or_part_meaning : OrPart → PartMeaning
or_part_meaning =
    fold-OrPart PartMeaning Meaning Meaning Meaning PartMeaning Meaning PartMeaning Meaning PartMeaning Meaning PartMeaning PartMeaning ListMeaning Meaning ListMeaning Meaning PartMeaning Meaning
    part_step primary_step unary_step additive_step additive_part multiplicative_step multiplicative_part equality_step equality_part relational_step relational_part and_part arguments_step expr_step init_list_step logical_and_step or_part postfix_step

unfoldable pub postfix_meaning : Postfix → Meaning
postfix_meaning =
    fold-Postfix PartMeaning Meaning Meaning Meaning PartMeaning Meaning PartMeaning Meaning PartMeaning Meaning PartMeaning PartMeaning ListMeaning Meaning ListMeaning Meaning PartMeaning Meaning
    part_step primary_step unary_step additive_step additive_part multiplicative_step multiplicative_part equality_step equality_part relational_step relational_part and_part arguments_step expr_step init_list_step logical_and_step or_part postfix_step

-- what is assigned to or stepped
abbrev pub target_step : open_target.Target-F Meaning → Meaning
target_step (open_target.Dereference star operand) scope types = operand.value scope types >>= prefixed prefix_operators.Dereference star
target_step (open_target.Plain operand) scope types = postfix_meaning operand scope types

unfoldable pub target_meaning : Target → Meaning
target_meaning = fold-Target Meaning target_step

-- a list that initialises an object of this type
abbrev pub list_checked : Ty → InitList → Scope → Types → Checked ListForm
list_checked t l scope types = list_for t (init_list_meaning l) scope types
