-- The trees that values of the program stand for.
use Rattle.std.specs.Prelude.{ℕ, List, [], ◌∷◌, Option, Some, None, map, Box}
use Rattle.life_types.specs.declared.place.Place.{Place}
use Rattle.life_tree.specs.Rules as rules
use Rattle.life_tree.specs.Tree.{Tree, nothing, without_else, token, ◌⨾◌, construct, node}
use Rattle.life_tree.specs.declared.fixed.TheConstants as fixed
use Rattle.life_tree.specs.declared.key.TokenKey.TheVariants as keys
use Rattle.life_tree.specs.declared.identifier.Identifier.{Identifier}
use Rattle.life_tree.specs.declared.identifier.Qualified.{Qualified}
use Rattle.life_tree.specs.declared.operator.AdditiveOperator.{AdditiveOperator}
use Rattle.life_tree.specs.declared.operator.AdditiveOperator.TheVariants as additive_operator
use Rattle.life_tree.specs.declared.operator.CompoundOperator.{CompoundOperator}
use Rattle.life_tree.specs.declared.operator.CompoundOperator.TheVariants as compound_operator
use Rattle.life_tree.specs.declared.operator.EqualityOperator.{EqualityOperator}
use Rattle.life_tree.specs.declared.operator.EqualityOperator.TheVariants as equality_operator
use Rattle.life_tree.specs.declared.operator.MultiplicativeOperator.{MultiplicativeOperator}
use Rattle.life_tree.specs.declared.operator.MultiplicativeOperator.TheVariants as multiplicative_operator
use Rattle.life_tree.specs.declared.operator.PrefixOperator.{PrefixOperator}
use Rattle.life_tree.specs.declared.operator.PrefixOperator.TheVariants as prefix_operator
use Rattle.life_tree.specs.declared.operator.RelationalOperator.{RelationalOperator}
use Rattle.life_tree.specs.declared.operator.RelationalOperator.TheVariants as relational_operator
use Rattle.life_tree.specs.declared.operator.StepOperator.{StepOperator}
use Rattle.life_tree.specs.declared.operator.StepOperator.TheVariants as step_operator
use Rattle.life_tree.specs.declared.type_name.Suffix.{Suffix}
use Rattle.life_tree.specs.declared.type_name.Suffix.TheVariants.{Pointer, Reference}
use Rattle.life_tree.specs.declared.type_name.IteratorName.{IteratorName}
use Rattle.life_tree.specs.declared.type_name.IteratorKind.{IteratorKind}
use Rattle.life_tree.specs.declared.type_name.IteratorKind.TheVariants.{Mutable, Constant}
use Rattle.life_tree.specs.declared.type_name.Base.TheFolds.{fold-Base, fold-TypeArgument, fold-TypeName}
use Rattle.life_tree.specs.declared.type_name.Base.TheOpen as type_open
use Rattle.life_tree.specs.declared.type_name.Base.{Base}
use Rattle.life_tree.specs.declared.type_name.TypeArgument.{TypeArgument}
use Rattle.life_tree.specs.declared.type_name.TypeName.{TypeName}
use Rattle.life_tree.specs.declared.primary.PostfixPart.TheFolds.{fold-PostfixPart, fold-Primary, fold-Unary, fold-Additive, fold-AdditivePart, fold-Multiplicative, fold-MultiplicativePart, fold-Equality, fold-EqualityPart, fold-Relational, fold-RelationalPart, fold-AndPart, fold-Arguments, fold-Expr, fold-InitList, fold-LogicalAnd, fold-OrPart, fold-Postfix}
use Rattle.life_tree.specs.declared.primary.PostfixPart.TheOpen as open_expr
use Rattle.life_tree.specs.declared.primary.PostfixPart.{PostfixPart}
use Rattle.life_tree.specs.declared.primary.Primary.{Primary}
use Rattle.life_tree.specs.declared.primary.Unary.{Unary}
use Rattle.life_tree.specs.declared.arithmetic.Additive.{Additive}
use Rattle.life_tree.specs.declared.arithmetic.AdditivePart.{AdditivePart}
use Rattle.life_tree.specs.declared.arithmetic.Multiplicative.{Multiplicative}
use Rattle.life_tree.specs.declared.arithmetic.MultiplicativePart.{MultiplicativePart}
use Rattle.life_tree.specs.declared.comparison.Equality.{Equality}
use Rattle.life_tree.specs.declared.comparison.EqualityPart.{EqualityPart}
use Rattle.life_tree.specs.declared.comparison.Relational.{Relational}
use Rattle.life_tree.specs.declared.comparison.RelationalPart.{RelationalPart}
use Rattle.life_tree.specs.declared.expr.AndPart.{AndPart}
use Rattle.life_tree.specs.declared.expr.Arguments.{Arguments}
use Rattle.life_tree.specs.declared.expr.Expr.{Expr}
use Rattle.life_tree.specs.declared.expr.InitList.{InitList}
use Rattle.life_tree.specs.declared.expr.LogicalAnd.{LogicalAnd}
use Rattle.life_tree.specs.declared.expr.OrPart.{OrPart}
use Rattle.life_tree.specs.declared.primary.Postfix.{Postfix}
use Rattle.life_tree.specs.declared.simple.Target.TheFolds.{fold-Target}
use Rattle.life_tree.specs.declared.simple.Target.TheOpen as open_target
use Rattle.life_tree.specs.declared.simple.Target.{Target}
use Rattle.life_tree.specs.declared.declaration.AutoType.{AutoType}
use Rattle.life_tree.specs.declared.declaration.Declaration.{Declaration}
use Rattle.life_tree.specs.declared.declaration.DeclaredType.{DeclaredType}
use Rattle.life_tree.specs.declared.declaration.Initializer.{Initializer}
use Rattle.life_tree.specs.declared.declaration.InitialValue.{InitialValue}
use Rattle.life_tree.specs.declared.simple.Simple.{Simple}
use Rattle.life_tree.specs.declared.stmt.ForStart.{ForStart}
use Rattle.life_tree.specs.declared.stmt.PrintItem.{PrintItem}
use Rattle.life_tree.specs.declared.stmt.PrintPart.{PrintPart}
use Rattle.life_tree.specs.declared.attribute.Attribute.{Attribute}
use Rattle.life_tree.specs.declared.attribute.AttributeScope.{AttributeScope}
use Rattle.life_tree.specs.declared.attribute.AttributeArguments.{AttributeArguments}
use Rattle.life_tree.specs.declared.attribute.AttributeWord.{AttributeWord}
use Rattle.life_tree.specs.declared.function.Function.{Function}
use Rattle.life_tree.specs.declared.function.ResultType.{ResultType}
use Rattle.life_tree.specs.declared.function.FunctionBody.{FunctionBody}
use Rattle.life_tree.specs.declared.function.Parameter.{Parameter}
use Rattle.life_tree.specs.declared.program.Program.{Program}
use Rattle.life_tree.specs.declared.program.Definition.{Definition}
use Rattle.life_tree.specs.declared.program.StructDefinition.{StructDefinition}
use Rattle.life_tree.specs.declared.program.Member.{Member}
use Rattle.life_tree.specs.declared.declaration.DeclaredType.TheVariants as declared_type
use Rattle.life_tree.specs.declared.declaration.Initializer.TheVariants as initializer
use Rattle.life_tree.specs.declared.declaration.InitialValue.TheVariants as initial_value
use Rattle.life_tree.specs.declared.simple.Simple.TheVariants as simple
use Rattle.life_tree.specs.declared.stmt.ForStart.TheVariants as for_start
use Rattle.life_tree.specs.declared.stmt.PrintItem.TheVariants as print_item
use Rattle.life_tree.specs.declared.attribute.AttributeWord.TheVariants as attribute_word
use Rattle.life_tree.specs.declared.function.ResultType.TheVariants as result_type
use Rattle.life_tree.specs.declared.function.FunctionBody.TheVariants as function_body
use Rattle.life_tree.specs.declared.program.Definition.TheVariants as definition
use Rattle.life_tree.specs.declared.stmt.BlockItem.TheFolds.{fold-BlockItem, fold-PlainStmt, fold-Stmt, fold-Block, fold-Branch, fold-Else, fold-ElseIf, fold-For, fold-If, fold-RangeFor}
use Rattle.life_tree.specs.declared.stmt.BlockItem.TheOpen as open_stmt
use Rattle.life_tree.specs.declared.stmt.BlockItem.{BlockItem}
use Rattle.life_tree.specs.declared.stmt.PlainStmt.{PlainStmt}
use Rattle.life_tree.specs.declared.stmt.Stmt.{Stmt}
use Rattle.life_tree.specs.declared.stmt.Block.{Block}
use Rattle.life_tree.specs.declared.stmt.Branch.{Branch}
use Rattle.life_tree.specs.declared.stmt.Else.{Else}
use Rattle.life_tree.specs.declared.stmt.ElseIf.{ElseIf}
use Rattle.life_tree.specs.declared.stmt.For.{For}
use Rattle.life_tree.specs.declared.stmt.If.{If}
use Rattle.life_tree.specs.declared.stmt.RangeFor.{RangeFor}

-- ---- parts that every tree has

-- the token that a rule quotes
abbrev pub at : ℕ → Place → Tree
at n place = token (keys.Fixed n) place

abbrev pub optional_tree : {A : Type 0} → (A → Tree) → Option A → Tree
optional_tree f None = nothing
optional_tree f (Some x) = f x

abbrev pub boxed : {A Z : Type 0} → (A → Tree) → Box A Z → Tree
boxed f b = f b.value

-- one after the other
abbrev pub list_tree : List Tree → Tree
list_tree [] = nothing
list_tree (t ∷ ts) = t ⨾ list_tree ts

-- each with the comma before it; where there are fewer of the ones than of the others, what is left stands alone
abbrev pub later_trees : List Place → List Tree → List Tree
later_trees [] ts = ts
later_trees (comma ∷ commas) [] = at fixed.COMMA comma ∷ later_trees commas []
later_trees (comma ∷ commas) (t ∷ ts) = (at fixed.COMMA comma ⨾ t) ∷ later_trees commas ts

abbrev pub later_tree : List Place → List Tree → Tree
later_tree commas ts = list_tree (later_trees commas ts)

-- with these commas between
abbrev pub separated_tree : List Place → List Tree → Tree
separated_tree commas [] = later_tree commas []
separated_tree commas (t ∷ ts) = t ⨾ later_tree commas ts

abbrev pub parenthesized_tree : Place → Tree → Place → Tree
parenthesized_tree opening t closing = construct fixed.LEFT_PAREN opening (t ⨾ at fixed.RIGHT_PAREN closing)

abbrev pub braced_tree : Place → Tree → Place → Tree
braced_tree opening t closing = construct fixed.LEFT_BRACE opening (t ⨾ at fixed.RIGHT_BRACE closing)

abbrev pub name_tree : Identifier → Tree
name_tree name = token (keys.Name name.id) name.place

-- a word of a namespace, and what follows it
abbrev pub qualified_tree : ℕ → ℕ → Qualified → Tree → Tree
qualified_tree namespace word name t = at namespace name.namespace ⨾ at fixed.SCOPE name.scope ⨾ at word name.word ⨾ t

-- .. alone
abbrev pub qualified_word_tree : ℕ → ℕ → Qualified → Tree
qualified_word_tree namespace word name = at namespace name.namespace ⨾ at fixed.SCOPE name.scope ⨾ at word name.word

-- ---- operators, by the numbers of their tokens

abbrev pub equality_number : EqualityOperator → ℕ
equality_number equality_operator.Equal = fixed.EQUAL
equality_number equality_operator.NotEqual = fixed.NOT_EQUAL

abbrev pub relational_number : RelationalOperator → ℕ
relational_number relational_operator.Less = fixed.LESS
relational_number relational_operator.LessEqual = fixed.LESS_EQUAL
relational_number relational_operator.Greater = fixed.GREATER
relational_number relational_operator.GreaterEqual = fixed.GREATER_EQUAL

abbrev pub additive_number : AdditiveOperator → ℕ
additive_number additive_operator.Add = fixed.PLUS
additive_number additive_operator.Subtract = fixed.MINUS

abbrev pub multiplicative_number : MultiplicativeOperator → ℕ
multiplicative_number multiplicative_operator.Multiply = fixed.STAR
multiplicative_number multiplicative_operator.Divide = fixed.SLASH
multiplicative_number multiplicative_operator.Remainder = fixed.PERCENT

abbrev pub prefix_number : PrefixOperator → ℕ
prefix_number prefix_operator.Not = fixed.NOT
prefix_number prefix_operator.Negate = fixed.MINUS
prefix_number prefix_operator.Dereference = fixed.STAR
prefix_number prefix_operator.AddressOf = fixed.AMPERSAND

abbrev pub compound_number : CompoundOperator → ℕ
compound_number compound_operator.Add = fixed.PLUS_ASSIGN
compound_number compound_operator.Subtract = fixed.MINUS_ASSIGN
compound_number compound_operator.Multiply = fixed.STAR_ASSIGN
compound_number compound_operator.Divide = fixed.SLASH_ASSIGN
compound_number compound_operator.Remainder = fixed.PERCENT_ASSIGN

abbrev pub step_number : StepOperator → ℕ
step_number step_operator.Increment = fixed.PLUS_PLUS
step_number step_operator.Decrement = fixed.MINUS_MINUS

-- ---- types

abbrev pub suffix_tree : Suffix → Tree
suffix_tree (Pointer place) = at fixed.STAR place
suffix_tree (Reference place) = at fixed.AMPERSAND place

abbrev pub iterator_number : IteratorKind → ℕ
iterator_number Mutable = fixed.ITERATOR
iterator_number Constant = fixed.CONST_ITERATOR

abbrev pub iterator_tree : IteratorName → Tree
iterator_tree name = at fixed.SCOPE name.scope ⨾ at (iterator_number name.kind) name.word

-- a type: its `const`, and what follows that
pub record TypeView : Type 0 where
  pub constant : Option Place
  pub unqualified : Tree

abbrev pub whole_type : TypeView → Tree
whole_type t = node rules.type_name (optional_tree (at fixed.CONST) t.constant ⨾ t.unqualified)

-- one level of a value, with what is inside already seen as trees
abbrev pub base_form : type_open.Base-F Tree Tree TypeView → Tree
base_form (type_open.Bool place) = at fixed.BOOL place
base_form (type_open.Char place) = at fixed.CHAR place
base_form (type_open.Int place) = at fixed.INT place
base_form (type_open.Long place) = at fixed.LONG place
base_form (type_open.Named name) = name_tree name
base_form (type_open.SizeT name) = qualified_word_tree fixed.STD fixed.SIZE_T name
base_form (type_open.Text name) = qualified_word_tree fixed.STD fixed.STRING name
base_form (type_open.View name) = qualified_word_tree fixed.STD fixed.STRING_VIEW name
base_form (type_open.Vector name element iterator) = qualified_tree fixed.STD fixed.VECTOR name (element ⨾ optional_tree iterator_tree iterator)
base_form (type_open.UniquePtr name element) = qualified_tree fixed.STD fixed.UNIQUE_PTR name element
base_form (type_open.Span name element) = qualified_tree fixed.GSL fixed.SPAN name element

abbrev pub base_step : type_open.Base-F Tree Tree TypeView → Tree
base_step b = node rules.base (base_form b)

abbrev pub argument_step : type_open.TypeArgument-F Tree Tree TypeView → Tree
argument_step a = node rules.argument (construct fixed.LESS a.opening (whole_type a.ty.value ⨾ at fixed.GREATER a.closing))

abbrev pub type_step : type_open.TypeName-F Tree Tree TypeView → TypeView
type_step t = record { constant = t.constant; unqualified = node rules.unqualified (t.base ⨾ optional_tree suffix_tree t.suffix) }

abbrev pub base_tree : Base → Tree
base_tree = fold-Base Tree Tree TypeView base_step argument_step type_step

abbrev pub argument_tree : TypeArgument → Tree
argument_tree = fold-TypeArgument Tree Tree TypeView base_step argument_step type_step

abbrev pub type_view : TypeName → TypeView
type_view = fold-TypeName Tree Tree TypeView base_step argument_step type_step

abbrev pub type_tree : TypeName → Tree
type_tree t = whole_type (type_view t)

-- ---- expressions

abbrev pub part_form : open_expr.PostfixPart-F Tree Tree Tree Tree Tree Tree Tree Tree Tree Tree Tree Tree Tree Tree Tree Tree Tree Tree → Tree
part_form (open_expr.Member dot name arguments) = at fixed.DOT dot ⨾ name_tree name ⨾ optional_tree (λ a. a) arguments
part_form (open_expr.Arrow arrow name arguments) = at fixed.ARROW arrow ⨾ name_tree name ⨾ optional_tree (λ a. a) arguments
part_form (open_expr.Index opening index closing) = construct fixed.LEFT_BRACKET opening (index.value ⨾ at fixed.RIGHT_BRACKET closing)

abbrev pub part_step : open_expr.PostfixPart-F Tree Tree Tree Tree Tree Tree Tree Tree Tree Tree Tree Tree Tree Tree Tree Tree Tree Tree → Tree
part_step p = node rules.part (part_form p)

abbrev pub primary_form : open_expr.Primary-F Tree Tree Tree Tree Tree Tree Tree Tree Tree Tree Tree Tree Tree Tree Tree Tree Tree Tree → Tree
primary_form (open_expr.Number value place) = token (keys.Number value) place
primary_form (open_expr.Char value place) = token (keys.Char value) place
primary_form (open_expr.Text number place) = token (keys.Text number) place
primary_form (open_expr.True place) = at fixed.TRUE place
primary_form (open_expr.False place) = at fixed.FALSE place
primary_form (open_expr.Null place) = at fixed.NULLPTR place
primary_form (open_expr.Name name) = name_tree name ⨾ nothing
primary_form (open_expr.Call name arguments) = name_tree name ⨾ arguments
primary_form (open_expr.Construct name elements) = name_tree name ⨾ elements
primary_form (open_expr.Paren opening inner closing) = parenthesized_tree opening inner.value closing
primary_form (open_expr.Move name opening variable closing) = qualified_tree fixed.STD fixed.MOVE name (parenthesized_tree opening (name_tree variable) closing)
primary_form (open_expr.MakeUnique name element arguments) = qualified_tree fixed.STD fixed.MAKE_UNIQUE name (argument_tree element ⨾ arguments)
primary_form (open_expr.TextOf name opening inner closing) = qualified_tree fixed.STD fixed.STRING name (parenthesized_tree opening inner.value closing)
primary_form (open_expr.Input name opening closing) = qualified_tree fixed.LIFE fixed.INPUT name (construct fixed.LEFT_PAREN opening (at fixed.RIGHT_PAREN closing))

abbrev pub primary_step : open_expr.Primary-F Tree Tree Tree Tree Tree Tree Tree Tree Tree Tree Tree Tree Tree Tree Tree Tree Tree Tree → Tree
primary_step p = node rules.primary (primary_form p)

abbrev pub unary_form : open_expr.Unary-F Tree Tree Tree Tree Tree Tree Tree Tree Tree Tree Tree Tree Tree Tree Tree Tree Tree Tree → Tree
unary_form (open_expr.Prefix operator place operand) = construct (prefix_number operator) place operand.value
unary_form (open_expr.Plain operand) = operand

abbrev pub unary_step : open_expr.Unary-F Tree Tree Tree Tree Tree Tree Tree Tree Tree Tree Tree Tree Tree Tree Tree Tree Tree Tree → Tree
unary_step u = node rules.unary (unary_form u)

abbrev pub additive_step : open_expr.Additive-F Tree Tree Tree Tree Tree Tree Tree Tree Tree Tree Tree Tree Tree Tree Tree Tree Tree Tree → Tree
additive_step e = node rules.sum (e.first ⨾ list_tree e.more.items)

abbrev pub additive_part : open_expr.AdditivePart-F Tree Tree Tree Tree Tree Tree Tree Tree Tree Tree Tree Tree Tree Tree Tree Tree Tree Tree → Tree
additive_part p = at (additive_number p.operator) p.place ⨾ p.operand

abbrev pub multiplicative_step : open_expr.Multiplicative-F Tree Tree Tree Tree Tree Tree Tree Tree Tree Tree Tree Tree Tree Tree Tree Tree Tree Tree → Tree
multiplicative_step e = node rules.term (e.first ⨾ list_tree e.more.items)

abbrev pub multiplicative_part : open_expr.MultiplicativePart-F Tree Tree Tree Tree Tree Tree Tree Tree Tree Tree Tree Tree Tree Tree Tree Tree Tree Tree → Tree
multiplicative_part p = at (multiplicative_number p.operator) p.place ⨾ p.operand

abbrev pub equality_step : open_expr.Equality-F Tree Tree Tree Tree Tree Tree Tree Tree Tree Tree Tree Tree Tree Tree Tree Tree Tree Tree → Tree
equality_step e = node rules.equal (e.first ⨾ list_tree e.more.items)

abbrev pub equality_part : open_expr.EqualityPart-F Tree Tree Tree Tree Tree Tree Tree Tree Tree Tree Tree Tree Tree Tree Tree Tree Tree Tree → Tree
equality_part p = at (equality_number p.operator) p.place ⨾ p.operand

abbrev pub relational_step : open_expr.Relational-F Tree Tree Tree Tree Tree Tree Tree Tree Tree Tree Tree Tree Tree Tree Tree Tree Tree Tree → Tree
relational_step e = node rules.order (e.first ⨾ list_tree e.more.items)

abbrev pub relational_part : open_expr.RelationalPart-F Tree Tree Tree Tree Tree Tree Tree Tree Tree Tree Tree Tree Tree Tree Tree Tree Tree Tree → Tree
relational_part p = at (relational_number p.operator) p.place ⨾ p.operand

abbrev pub and_part : open_expr.AndPart-F Tree Tree Tree Tree Tree Tree Tree Tree Tree Tree Tree Tree Tree Tree Tree Tree Tree Tree → Tree
and_part p = at fixed.AND_AND p.place ⨾ p.operand

abbrev pub arguments_step : open_expr.Arguments-F Tree Tree Tree Tree Tree Tree Tree Tree Tree Tree Tree Tree Tree Tree Tree Tree Tree Tree → Tree
arguments_step a = node rules.args (parenthesized_tree a.opening (separated_tree a.commas.items a.list.items) a.closing)

abbrev pub expr_step : open_expr.Expr-F Tree Tree Tree Tree Tree Tree Tree Tree Tree Tree Tree Tree Tree Tree Tree Tree Tree Tree → Tree
expr_step e = node rules.expr (e.first ⨾ list_tree e.more.items)

abbrev pub init_list_step : open_expr.InitList-F Tree Tree Tree Tree Tree Tree Tree Tree Tree Tree Tree Tree Tree Tree Tree Tree Tree Tree → Tree
init_list_step l = node rules.list (braced_tree l.opening (separated_tree l.commas.items l.list.items) l.closing)

abbrev pub logical_and_step : open_expr.LogicalAnd-F Tree Tree Tree Tree Tree Tree Tree Tree Tree Tree Tree Tree Tree Tree Tree Tree Tree Tree → Tree
logical_and_step e = node rules.both (e.first ⨾ list_tree e.more.items)

abbrev pub or_part : open_expr.OrPart-F Tree Tree Tree Tree Tree Tree Tree Tree Tree Tree Tree Tree Tree Tree Tree Tree Tree Tree → Tree
or_part p = at fixed.OR_OR p.place ⨾ p.operand

abbrev pub postfix_step : open_expr.Postfix-F Tree Tree Tree Tree Tree Tree Tree Tree Tree Tree Tree Tree Tree Tree Tree Tree Tree Tree → Tree
postfix_step p = node rules.postfix (p.primary ⨾ list_tree p.parts.items)

abbrev pub postfix_part_tree : PostfixPart → Tree
postfix_part_tree =
    fold-PostfixPart Tree Tree Tree Tree Tree Tree Tree Tree Tree Tree Tree Tree Tree Tree Tree Tree Tree Tree
    part_step primary_step unary_step additive_step additive_part multiplicative_step multiplicative_part equality_step equality_part relational_step relational_part and_part arguments_step expr_step init_list_step logical_and_step or_part postfix_step

abbrev pub primary_tree : Primary → Tree
primary_tree =
    fold-Primary Tree Tree Tree Tree Tree Tree Tree Tree Tree Tree Tree Tree Tree Tree Tree Tree Tree Tree
    part_step primary_step unary_step additive_step additive_part multiplicative_step multiplicative_part equality_step equality_part relational_step relational_part and_part arguments_step expr_step init_list_step logical_and_step or_part postfix_step

abbrev pub unary_tree : Unary → Tree
unary_tree =
    fold-Unary Tree Tree Tree Tree Tree Tree Tree Tree Tree Tree Tree Tree Tree Tree Tree Tree Tree Tree
    part_step primary_step unary_step additive_step additive_part multiplicative_step multiplicative_part equality_step equality_part relational_step relational_part and_part arguments_step expr_step init_list_step logical_and_step or_part postfix_step

abbrev pub additive_tree : Additive → Tree
additive_tree =
    fold-Additive Tree Tree Tree Tree Tree Tree Tree Tree Tree Tree Tree Tree Tree Tree Tree Tree Tree Tree
    part_step primary_step unary_step additive_step additive_part multiplicative_step multiplicative_part equality_step equality_part relational_step relational_part and_part arguments_step expr_step init_list_step logical_and_step or_part postfix_step

abbrev pub additive_part_tree : AdditivePart → Tree
additive_part_tree =
    fold-AdditivePart Tree Tree Tree Tree Tree Tree Tree Tree Tree Tree Tree Tree Tree Tree Tree Tree Tree Tree
    part_step primary_step unary_step additive_step additive_part multiplicative_step multiplicative_part equality_step equality_part relational_step relational_part and_part arguments_step expr_step init_list_step logical_and_step or_part postfix_step

abbrev pub multiplicative_tree : Multiplicative → Tree
multiplicative_tree =
    fold-Multiplicative Tree Tree Tree Tree Tree Tree Tree Tree Tree Tree Tree Tree Tree Tree Tree Tree Tree Tree
    part_step primary_step unary_step additive_step additive_part multiplicative_step multiplicative_part equality_step equality_part relational_step relational_part and_part arguments_step expr_step init_list_step logical_and_step or_part postfix_step

abbrev pub multiplicative_part_tree : MultiplicativePart → Tree
multiplicative_part_tree =
    fold-MultiplicativePart Tree Tree Tree Tree Tree Tree Tree Tree Tree Tree Tree Tree Tree Tree Tree Tree Tree Tree
    part_step primary_step unary_step additive_step additive_part multiplicative_step multiplicative_part equality_step equality_part relational_step relational_part and_part arguments_step expr_step init_list_step logical_and_step or_part postfix_step

abbrev pub equality_tree : Equality → Tree
equality_tree =
    fold-Equality Tree Tree Tree Tree Tree Tree Tree Tree Tree Tree Tree Tree Tree Tree Tree Tree Tree Tree
    part_step primary_step unary_step additive_step additive_part multiplicative_step multiplicative_part equality_step equality_part relational_step relational_part and_part arguments_step expr_step init_list_step logical_and_step or_part postfix_step

abbrev pub equality_part_tree : EqualityPart → Tree
equality_part_tree =
    fold-EqualityPart Tree Tree Tree Tree Tree Tree Tree Tree Tree Tree Tree Tree Tree Tree Tree Tree Tree Tree
    part_step primary_step unary_step additive_step additive_part multiplicative_step multiplicative_part equality_step equality_part relational_step relational_part and_part arguments_step expr_step init_list_step logical_and_step or_part postfix_step

abbrev pub relational_tree : Relational → Tree
relational_tree =
    fold-Relational Tree Tree Tree Tree Tree Tree Tree Tree Tree Tree Tree Tree Tree Tree Tree Tree Tree Tree
    part_step primary_step unary_step additive_step additive_part multiplicative_step multiplicative_part equality_step equality_part relational_step relational_part and_part arguments_step expr_step init_list_step logical_and_step or_part postfix_step

abbrev pub relational_part_tree : RelationalPart → Tree
relational_part_tree =
    fold-RelationalPart Tree Tree Tree Tree Tree Tree Tree Tree Tree Tree Tree Tree Tree Tree Tree Tree Tree Tree
    part_step primary_step unary_step additive_step additive_part multiplicative_step multiplicative_part equality_step equality_part relational_step relational_part and_part arguments_step expr_step init_list_step logical_and_step or_part postfix_step

abbrev pub and_part_tree : AndPart → Tree
and_part_tree =
    fold-AndPart Tree Tree Tree Tree Tree Tree Tree Tree Tree Tree Tree Tree Tree Tree Tree Tree Tree Tree
    part_step primary_step unary_step additive_step additive_part multiplicative_step multiplicative_part equality_step equality_part relational_step relational_part and_part arguments_step expr_step init_list_step logical_and_step or_part postfix_step

abbrev pub arguments_tree : Arguments → Tree
arguments_tree =
    fold-Arguments Tree Tree Tree Tree Tree Tree Tree Tree Tree Tree Tree Tree Tree Tree Tree Tree Tree Tree
    part_step primary_step unary_step additive_step additive_part multiplicative_step multiplicative_part equality_step equality_part relational_step relational_part and_part arguments_step expr_step init_list_step logical_and_step or_part postfix_step

abbrev pub expr_tree : Expr → Tree
expr_tree =
    fold-Expr Tree Tree Tree Tree Tree Tree Tree Tree Tree Tree Tree Tree Tree Tree Tree Tree Tree Tree
    part_step primary_step unary_step additive_step additive_part multiplicative_step multiplicative_part equality_step equality_part relational_step relational_part and_part arguments_step expr_step init_list_step logical_and_step or_part postfix_step

abbrev pub init_list_tree : InitList → Tree
init_list_tree =
    fold-InitList Tree Tree Tree Tree Tree Tree Tree Tree Tree Tree Tree Tree Tree Tree Tree Tree Tree Tree
    part_step primary_step unary_step additive_step additive_part multiplicative_step multiplicative_part equality_step equality_part relational_step relational_part and_part arguments_step expr_step init_list_step logical_and_step or_part postfix_step

abbrev pub logical_and_tree : LogicalAnd → Tree
logical_and_tree =
    fold-LogicalAnd Tree Tree Tree Tree Tree Tree Tree Tree Tree Tree Tree Tree Tree Tree Tree Tree Tree Tree
    part_step primary_step unary_step additive_step additive_part multiplicative_step multiplicative_part equality_step equality_part relational_step relational_part and_part arguments_step expr_step init_list_step logical_and_step or_part postfix_step

abbrev pub or_part_tree : OrPart → Tree
or_part_tree =
    fold-OrPart Tree Tree Tree Tree Tree Tree Tree Tree Tree Tree Tree Tree Tree Tree Tree Tree Tree Tree
    part_step primary_step unary_step additive_step additive_part multiplicative_step multiplicative_part equality_step equality_part relational_step relational_part and_part arguments_step expr_step init_list_step logical_and_step or_part postfix_step

abbrev pub postfix_tree : Postfix → Tree
postfix_tree =
    fold-Postfix Tree Tree Tree Tree Tree Tree Tree Tree Tree Tree Tree Tree Tree Tree Tree Tree Tree Tree
    part_step primary_step unary_step additive_step additive_part multiplicative_step multiplicative_part equality_step equality_part relational_step relational_part and_part arguments_step expr_step init_list_step logical_and_step or_part postfix_step

-- ---- declarations and simple statements

abbrev pub auto_tree : AutoType → Tree
auto_tree t = at fixed.AUTO t.keyword ⨾ optional_tree (at fixed.AMPERSAND) t.reference

abbrev pub declared_type_form : DeclaredType → Tree
declared_type_form (declared_type.Written ty) = optional_tree (at fixed.CONST) (type_view ty).constant ⨾ (type_view ty).unqualified
declared_type_form (declared_type.Auto ty) = optional_tree (at fixed.CONST) ty.constant ⨾ auto_tree ty

abbrev pub declared_type_tree : DeclaredType → Tree
declared_type_tree ty = node rules.declared_type (declared_type_form ty)

abbrev pub initial_form : InitialValue → Tree
initial_form (initial_value.Expr value) = expr_tree value.value
initial_form (initial_value.List elements) = init_list_tree elements

abbrev pub initial_tree : InitialValue → Tree
initial_tree value = node rules.initial (initial_form value)

abbrev pub initializer_form : Initializer → Tree
initializer_form (initializer.Equals equals value) = at fixed.ASSIGN equals ⨾ initial_tree value
initializer_form (initializer.List elements) = init_list_tree elements

abbrev pub initializer_tree : Option Initializer → Tree
initializer_tree i = node rules.initializer (optional_tree initializer_form i)

abbrev pub declaration_tree : Declaration → Tree
declaration_tree d = node rules.declaration (declared_type_tree d.ty ⨾ name_tree d.name ⨾ initializer_tree d.initializer)

abbrev pub target_form : open_target.Target-F Tree → Tree
target_form (open_target.Dereference star operand) = construct fixed.STAR star operand.value
target_form (open_target.Plain operand) = postfix_tree operand

abbrev pub target_step : open_target.Target-F Tree → Tree
target_step t = node rules.target (target_form t)

abbrev pub target_tree : Target → Tree
target_tree = fold-Target Tree target_step

-- .. of a target without a star
abbrev pub plain_target : Postfix → Tree
plain_target operand = node rules.target (postfix_tree operand)

abbrev pub simple_form : Simple → Tree
simple_form (simple.Assign target equals value) = target_tree target ⨾ at fixed.ASSIGN equals ⨾ initial_tree value
simple_form (simple.Compound target operator place value) = target_tree target ⨾ at (compound_number operator) place ⨾ expr_tree value.value
simple_form (simple.PrefixStep operator place target) = construct (step_number operator) place (target_tree target)
simple_form (simple.PostfixStep target operator place) = plain_target target ⨾ at (step_number operator) place
simple_form (simple.Call call) = plain_target call ⨾ nothing

abbrev pub simple_tree : Simple → Tree
simple_tree s = node rules.simple (simple_form s)

-- ---- statements

abbrev pub condition_tree : Place → Expr → Place → Tree
condition_tree opening condition closing = node rules.condition (parenthesized_tree opening (expr_tree condition) closing)

abbrev pub print_item_form : PrintItem → Tree
print_item_form (print_item.Value value) = additive_tree value
print_item_form (print_item.EndLine name) = qualified_word_tree fixed.STD fixed.ENDL name

abbrev pub print_item_tree : PrintItem → Tree
print_item_tree item = node rules.item (print_item_form item)

abbrev pub print_part_tree : PrintPart → Tree
print_part_tree part = node rules.print_part (at fixed.SHIFT_LEFT part.place ⨾ print_item_tree part.item)

-- a branch: its `if`, and what follows that
pub record BranchView : Type 0 where
  pub keyword : Place
  pub condition : Tree
  pub body : Tree

-- .. behind an `else`
pub record ElseIfView : Type 0 where
  pub keyword : Place
  pub branch : BranchView

-- what follows the first branch
abbrev pub else_part_tree : List ElseIfView → Option Tree → Tree
else_part_tree [] None = node rules.else_part without_else
else_part_tree [] (Some last) = node rules.else_part last
else_part_tree (e ∷ es) last =
    node rules.else_part (at fixed.ELSE e.keyword ⨾ at fixed.IF e.branch.keyword ⨾ e.branch.condition ⨾ e.branch.body ⨾ else_part_tree es last)

-- what follows the start of a `for`
abbrev pub for_rest_tree : {Y Z : Type 0} → Place → Option (Box Expr Y) → Place → Option (Box Simple Z) → Tree
for_rest_tree first condition second step =
    node rules.for_rest (at fixed.SEMICOLON first ⨾ optional_tree (boxed expr_tree) condition ⨾ at fixed.SEMICOLON second ⨾ optional_tree (boxed simple_tree) step)

abbrev pub for_clauses_form : Option ForStart → Tree → Tree
for_clauses_form None rest = nothing ⨾ rest
for_clauses_form (Some (for_start.Declaration d)) rest = declared_type_tree d.value.ty ⨾ name_tree d.value.name ⨾ initializer_tree d.value.initializer ⨾ rest
for_clauses_form (Some (for_start.Simple s)) rest = simple_tree s.value ⨾ rest

abbrev pub for_head_tree : Place → Tree → Place → Tree
for_head_tree opening clauses closing = node rules.for_head (parenthesized_tree opening (node rules.for_clauses clauses) closing)

abbrev pub block_item_form : open_stmt.BlockItem-F Tree Tree Tree Tree BranchView Tree ElseIfView Tree Tree Tree → Tree
block_item_form (open_stmt.Declare declaration semicolon) = declaration_tree declaration.value ⨾ at fixed.SEMICOLON semicolon
block_item_form (open_stmt.Stmt s) = s

abbrev pub block_item_step : open_stmt.BlockItem-F Tree Tree Tree Tree BranchView Tree ElseIfView Tree Tree Tree → Tree
block_item_step i = node rules.block_item (block_item_form i)

abbrev pub plain_form : open_stmt.PlainStmt-F Tree Tree Tree Tree BranchView Tree ElseIfView Tree Tree Tree → Tree
plain_form (open_stmt.Block b) = b
plain_form (open_stmt.Empty place) = at fixed.SEMICOLON place
plain_form (open_stmt.Simple s semicolon) = node rules.sentence (simple_tree s.value ⨾ at fixed.SEMICOLON semicolon)
plain_form (open_stmt.While keyword opening condition closing body) = construct fixed.WHILE keyword (condition_tree opening condition.value closing ⨾ body.value)
plain_form (open_stmt.For loop) = loop.value
plain_form (open_stmt.RangeFor loop) = loop.value
plain_form (open_stmt.Break keyword semicolon) = at fixed.BREAK keyword ⨾ at fixed.SEMICOLON semicolon
plain_form (open_stmt.Continue keyword semicolon) = at fixed.CONTINUE keyword ⨾ at fixed.SEMICOLON semicolon
plain_form (open_stmt.Return keyword value semicolon) = at fixed.RETURN keyword ⨾ optional_tree (boxed expr_tree) value ⨾ at fixed.SEMICOLON semicolon
plain_form (open_stmt.Print name parts semicolon) =
    node rules.sentence (qualified_tree fixed.STD fixed.COUT name (list_tree (map print_part_tree parts.items) ⨾ at fixed.SEMICOLON semicolon))
plain_form (open_stmt.Assert keyword opening condition closing semicolon) =
    at fixed.ASSERT keyword ⨾ condition_tree opening condition.value closing ⨾ at fixed.SEMICOLON semicolon

abbrev pub plain_step : open_stmt.PlainStmt-F Tree Tree Tree Tree BranchView Tree ElseIfView Tree Tree Tree → Tree
plain_step s = node rules.plain (plain_form s)

abbrev pub stmt_form : open_stmt.Stmt-F Tree Tree Tree Tree BranchView Tree ElseIfView Tree Tree Tree → Tree
stmt_form (open_stmt.If i) = i.value
stmt_form (open_stmt.Plain s) = s

abbrev pub stmt_step : open_stmt.Stmt-F Tree Tree Tree Tree BranchView Tree ElseIfView Tree Tree Tree → Tree
stmt_step s = node rules.statement (stmt_form s)

abbrev pub block_step : open_stmt.Block-F Tree Tree Tree Tree BranchView Tree ElseIfView Tree Tree Tree → Tree
block_step b = node rules.block (braced_tree b.opening (list_tree b.items.items) b.closing)

abbrev pub branch_step : open_stmt.Branch-F Tree Tree Tree Tree BranchView Tree ElseIfView Tree Tree Tree → BranchView
branch_step b = record { keyword = b.keyword; condition = condition_tree b.opening b.condition.value b.closing; body = b.body.value }

abbrev pub else_step : open_stmt.Else-F Tree Tree Tree Tree BranchView Tree ElseIfView Tree Tree Tree → Tree
else_step e = at fixed.ELSE e.keyword ⨾ e.body.value

abbrev pub else_if_step : open_stmt.ElseIf-F Tree Tree Tree Tree BranchView Tree ElseIfView Tree Tree Tree → ElseIfView
else_if_step e = record { keyword = e.keyword; branch = e.branch }

abbrev pub for_step : open_stmt.For-F Tree Tree Tree Tree BranchView Tree ElseIfView Tree Tree Tree → Tree
for_step f =
    construct fixed.FOR f.keyword (for_head_tree f.opening (for_clauses_form f.start (for_rest_tree f.first_semicolon f.condition f.second_semicolon f.step)) f.closing ⨾ f.body.value)

abbrev pub if_step : open_stmt.If-F Tree Tree Tree Tree BranchView Tree ElseIfView Tree Tree Tree → Tree
if_step i = node rules.branches (construct fixed.IF i.first.keyword (i.first.condition ⨾ i.first.body ⨾ else_part_tree i.more.items i.last))

abbrev pub range_for_step : open_stmt.RangeFor-F Tree Tree Tree Tree BranchView Tree ElseIfView Tree Tree Tree → Tree
range_for_step f =
    construct fixed.FOR f.keyword (for_head_tree f.opening (declared_type_tree f.ty ⨾ name_tree f.name ⨾ at fixed.COLON f.colon ⨾ expr_tree f.range.value) f.closing ⨾ f.body.value)

abbrev pub block_item_tree : BlockItem → Tree
block_item_tree =
    fold-BlockItem Tree Tree Tree Tree BranchView Tree ElseIfView Tree Tree Tree
    block_item_step plain_step stmt_step block_step branch_step else_step else_if_step for_step if_step range_for_step

abbrev pub plain_stmt_tree : PlainStmt → Tree
plain_stmt_tree =
    fold-PlainStmt Tree Tree Tree Tree BranchView Tree ElseIfView Tree Tree Tree
    block_item_step plain_step stmt_step block_step branch_step else_step else_if_step for_step if_step range_for_step

abbrev pub stmt_tree : Stmt → Tree
stmt_tree =
    fold-Stmt Tree Tree Tree Tree BranchView Tree ElseIfView Tree Tree Tree
    block_item_step plain_step stmt_step block_step branch_step else_step else_if_step for_step if_step range_for_step

abbrev pub block_tree : Block → Tree
block_tree =
    fold-Block Tree Tree Tree Tree BranchView Tree ElseIfView Tree Tree Tree
    block_item_step plain_step stmt_step block_step branch_step else_step else_if_step for_step if_step range_for_step

abbrev pub branch_view : Branch → BranchView
branch_view =
    fold-Branch Tree Tree Tree Tree BranchView Tree ElseIfView Tree Tree Tree
    block_item_step plain_step stmt_step block_step branch_step else_step else_if_step for_step if_step range_for_step

abbrev pub else_tree : Else → Tree
else_tree =
    fold-Else Tree Tree Tree Tree BranchView Tree ElseIfView Tree Tree Tree
    block_item_step plain_step stmt_step block_step branch_step else_step else_if_step for_step if_step range_for_step

abbrev pub else_if_view : ElseIf → ElseIfView
else_if_view =
    fold-ElseIf Tree Tree Tree Tree BranchView Tree ElseIfView Tree Tree Tree
    block_item_step plain_step stmt_step block_step branch_step else_step else_if_step for_step if_step range_for_step

abbrev pub for_tree : For → Tree
for_tree =
    fold-For Tree Tree Tree Tree BranchView Tree ElseIfView Tree Tree Tree
    block_item_step plain_step stmt_step block_step branch_step else_step else_if_step for_step if_step range_for_step

abbrev pub if_tree : If → Tree
if_tree =
    fold-If Tree Tree Tree Tree BranchView Tree ElseIfView Tree Tree Tree
    block_item_step plain_step stmt_step block_step branch_step else_step else_if_step for_step if_step range_for_step

abbrev pub range_for_tree : RangeFor → Tree
range_for_tree =
    fold-RangeFor Tree Tree Tree Tree BranchView Tree ElseIfView Tree Tree Tree
    block_item_step plain_step stmt_step block_step branch_step else_step else_if_step for_step if_step range_for_step

-- ---- functions

abbrev pub word_form : AttributeWord → Tree
word_form (attribute_word.Name name) = name_tree name
word_form (attribute_word.Static place) = at fixed.STATIC place

abbrev pub word_tree : AttributeWord → Tree
word_tree w = node rules.word (word_form w)

abbrev pub scope_tree : AttributeScope → Tree
scope_tree s = at fixed.SCOPE s.scope ⨾ name_tree s.name

abbrev pub attribute_arguments_tree : AttributeArguments → Tree
attribute_arguments_tree a = parenthesized_tree a.opening (separated_tree a.commas.items (map word_tree a.words.items)) a.closing

abbrev pub attribute_tree : Attribute → Tree
attribute_tree a = node rules.attribute
    (at fixed.LEFT_BRACKET a.outer_opening ⨾ at fixed.LEFT_BRACKET a.inner_opening ⨾ name_tree a.name ⨾ optional_tree scope_tree a.scope
    ⨾ optional_tree attribute_arguments_tree a.arguments ⨾ at fixed.RIGHT_BRACKET a.inner_closing ⨾ at fixed.RIGHT_BRACKET a.outer_closing)

abbrev pub attributes_tree : List Attribute → Tree
attributes_tree attributes = list_tree (map attribute_tree attributes)

abbrev pub parameter_tree : Parameter → Tree
parameter_tree p = node rules.parameter (attributes_tree p.attributes.items ⨾ type_tree p.ty ⨾ name_tree p.name)

abbrev pub result_tree : ResultType → Tree
result_tree (result_type.Void place) = at fixed.VOID place
result_tree (result_type.Type ty) = type_tree ty

abbrev pub body_tree : FunctionBody → Tree
body_tree (function_body.Block b) = block_tree b
body_tree (function_body.Declared place) = at fixed.SEMICOLON place

abbrev pub function_tree : Function → Tree
function_tree f = node rules.function
    (attributes_tree f.attributes.items ⨾ result_tree f.returned ⨾ name_tree f.name
    ⨾ parenthesized_tree f.opening (separated_tree f.commas.items (map parameter_tree f.parameters.items)) f.closing ⨾ body_tree f.body)

-- ---- programs

abbrev pub member_tree : Member → Tree
member_tree m = node rules.member (type_tree m.ty ⨾ name_tree m.name ⨾ at fixed.SEMICOLON m.semicolon)

abbrev pub struct_tree : StructDefinition → Tree
struct_tree s = node rules.structure
    (at fixed.STRUCT s.keyword ⨾ name_tree s.name ⨾ braced_tree s.opening (list_tree (map member_tree s.members.items)) s.closing
    ⨾ at fixed.SEMICOLON s.semicolon)

abbrev pub definition_form : Definition → Tree
definition_form (definition.Struct s) = struct_tree s
definition_form (definition.Function f) = function_tree f

abbrev pub definition_tree : Definition → Tree
definition_tree d = node rules.definition (definition_form d)

abbrev pub program_tree : Program → Tree
program_tree p = node rules.program (list_tree (map definition_tree p.definitions.items))
