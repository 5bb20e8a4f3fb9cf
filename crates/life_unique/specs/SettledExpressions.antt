-- Expressions, settled.
use Rattle.life_tree.specs.declared.primary.PostfixPart.{PostfixPart, roll-PostfixPart}
use Rattle.life_tree.specs.declared.primary.Primary.{Primary, roll-Primary}
use Rattle.life_tree.specs.declared.primary.Unary.{Unary, roll-Unary}
use Rattle.life_tree.specs.declared.arithmetic.Additive.{Additive, roll-Additive}
use Rattle.life_tree.specs.declared.arithmetic.AdditivePart.{AdditivePart, roll-AdditivePart}
use Rattle.life_tree.specs.declared.arithmetic.Multiplicative.{Multiplicative, roll-Multiplicative}
use Rattle.life_tree.specs.declared.arithmetic.MultiplicativePart.{MultiplicativePart, roll-MultiplicativePart}
use Rattle.life_tree.specs.declared.comparison.Equality.{Equality, roll-Equality}
use Rattle.life_tree.specs.declared.comparison.EqualityPart.{EqualityPart, roll-EqualityPart}
use Rattle.life_tree.specs.declared.comparison.Relational.{Relational, roll-Relational}
use Rattle.life_tree.specs.declared.comparison.RelationalPart.{RelationalPart, roll-RelationalPart}
use Rattle.life_tree.specs.declared.expr.AndPart.{AndPart, roll-AndPart}
use Rattle.life_tree.specs.declared.expr.Arguments.{Arguments, roll-Arguments}
use Rattle.life_tree.specs.declared.expr.Expr.{Expr, roll-Expr}
use Rattle.life_tree.specs.declared.expr.InitList.{InitList, roll-InitList}
use Rattle.life_tree.specs.declared.expr.LogicalAnd.{LogicalAnd, roll-LogicalAnd}
use Rattle.life_tree.specs.declared.expr.OrPart.{OrPart, roll-OrPart}
use Rattle.life_tree.specs.declared.primary.Postfix.{Postfix, roll-Postfix}
use Rattle.life_tree.specs.declared.primary.PostfixPart.TheFolds.{fold-PostfixPart, fold-Primary, fold-Unary, fold-Additive, fold-AdditivePart, fold-Multiplicative, fold-MultiplicativePart, fold-Equality, fold-EqualityPart, fold-Relational, fold-RelationalPart, fold-AndPart, fold-Arguments, fold-Expr, fold-InitList, fold-LogicalAnd, fold-OrPart, fold-Postfix}
use Rattle.life_tree.specs.declared.primary.PostfixPart.TheOpen as open_expr
use Rattle.life_unique.specs.SettledTypes.{settled_argument}
use Rattle.life_unique.specs.Standing.{settled_box, settled_list}

-- ---- one layer, of whatever parts

abbrev pub bare_part : {A B C D E F G H I J K L M N O P Q R : Type 0}
    → open_expr.PostfixPart-F A B C D E F G H I J K L M N O P Q R → open_expr.PostfixPart-F A B C D E F G H I J K L M N O P Q R
bare_part (open_expr.Index opening index closing) = open_expr.Index opening (settled_box index) closing
bare_part p = p

abbrev pub bare_primary : {A B C D E F G H I J K L M N O P Q R : Type 0}
    → open_expr.Primary-F A B C D E F G H I J K L M N O P Q R → open_expr.Primary-F A B C D E F G H I J K L M N O P Q R
bare_primary (open_expr.Paren opening inner closing) = open_expr.Paren opening (settled_box inner) closing
bare_primary (open_expr.MakeUnique name element arguments) = open_expr.MakeUnique name (settled_argument element) arguments
bare_primary (open_expr.TextOf name opening inner closing) = open_expr.TextOf name opening (settled_box inner) closing
bare_primary p = p

abbrev pub bare_unary : {A B C D E F G H I J K L M N O P Q R : Type 0}
    → open_expr.Unary-F A B C D E F G H I J K L M N O P Q R → open_expr.Unary-F A B C D E F G H I J K L M N O P Q R
bare_unary (open_expr.Prefix operator place operand) = open_expr.Prefix operator place (settled_box operand)
bare_unary u = u

abbrev pub bare_additive : {A B C D E F G H I J K L M N O P Q R : Type 0}
    → open_expr.Additive-F A B C D E F G H I J K L M N O P Q R → open_expr.Additive-F A B C D E F G H I J K L M N O P Q R
bare_additive e = record e { more = settled_list e.more }

abbrev pub bare_multiplicative : {A B C D E F G H I J K L M N O P Q R : Type 0}
    → open_expr.Multiplicative-F A B C D E F G H I J K L M N O P Q R → open_expr.Multiplicative-F A B C D E F G H I J K L M N O P Q R
bare_multiplicative e = record e { more = settled_list e.more }

abbrev pub bare_equality : {A B C D E F G H I J K L M N O P Q R : Type 0}
    → open_expr.Equality-F A B C D E F G H I J K L M N O P Q R → open_expr.Equality-F A B C D E F G H I J K L M N O P Q R
bare_equality e = record e { more = settled_list e.more }

abbrev pub bare_relational : {A B C D E F G H I J K L M N O P Q R : Type 0}
    → open_expr.Relational-F A B C D E F G H I J K L M N O P Q R → open_expr.Relational-F A B C D E F G H I J K L M N O P Q R
bare_relational e = record e { more = settled_list e.more }

abbrev pub bare_arguments : {A B C D E F G H I J K L M N O P Q R : Type 0}
    → open_expr.Arguments-F A B C D E F G H I J K L M N O P Q R → open_expr.Arguments-F A B C D E F G H I J K L M N O P Q R
bare_arguments e = record e { list = settled_list e.list; commas = settled_list e.commas }

abbrev pub bare_expr : {A B C D E F G H I J K L M N O P Q R : Type 0}
    → open_expr.Expr-F A B C D E F G H I J K L M N O P Q R → open_expr.Expr-F A B C D E F G H I J K L M N O P Q R
bare_expr e = record e { more = settled_list e.more }

abbrev pub bare_init_list : {A B C D E F G H I J K L M N O P Q R : Type 0}
    → open_expr.InitList-F A B C D E F G H I J K L M N O P Q R → open_expr.InitList-F A B C D E F G H I J K L M N O P Q R
bare_init_list e = record e { list = settled_list e.list; commas = settled_list e.commas }

abbrev pub bare_logical_and : {A B C D E F G H I J K L M N O P Q R : Type 0}
    → open_expr.LogicalAnd-F A B C D E F G H I J K L M N O P Q R → open_expr.LogicalAnd-F A B C D E F G H I J K L M N O P Q R
bare_logical_and e = record e { more = settled_list e.more }

abbrev pub bare_postfix : {A B C D E F G H I J K L M N O P Q R : Type 0}
    → open_expr.Postfix-F A B C D E F G H I J K L M N O P Q R → open_expr.Postfix-F A B C D E F G H I J K L M N O P Q R
bare_postfix e = record e { parts = settled_list e.parts }

-- ---- one layer of a whole

abbrev pub Opened-PostfixPart : Type 0
Opened-PostfixPart = open_expr.PostfixPart-F PostfixPart Primary Unary Additive AdditivePart Multiplicative MultiplicativePart Equality EqualityPart Relational RelationalPart AndPart Arguments Expr InitList LogicalAnd OrPart Postfix

abbrev pub Opened-Primary : Type 0
Opened-Primary = open_expr.Primary-F PostfixPart Primary Unary Additive AdditivePart Multiplicative MultiplicativePart Equality EqualityPart Relational RelationalPart AndPart Arguments Expr InitList LogicalAnd OrPart Postfix

abbrev pub Opened-Unary : Type 0
Opened-Unary = open_expr.Unary-F PostfixPart Primary Unary Additive AdditivePart Multiplicative MultiplicativePart Equality EqualityPart Relational RelationalPart AndPart Arguments Expr InitList LogicalAnd OrPart Postfix

abbrev pub Opened-Additive : Type 0
Opened-Additive = open_expr.Additive-F PostfixPart Primary Unary Additive AdditivePart Multiplicative MultiplicativePart Equality EqualityPart Relational RelationalPart AndPart Arguments Expr InitList LogicalAnd OrPart Postfix

abbrev pub Opened-AdditivePart : Type 0
Opened-AdditivePart = open_expr.AdditivePart-F PostfixPart Primary Unary Additive AdditivePart Multiplicative MultiplicativePart Equality EqualityPart Relational RelationalPart AndPart Arguments Expr InitList LogicalAnd OrPart Postfix

abbrev pub Opened-Multiplicative : Type 0
Opened-Multiplicative = open_expr.Multiplicative-F PostfixPart Primary Unary Additive AdditivePart Multiplicative MultiplicativePart Equality EqualityPart Relational RelationalPart AndPart Arguments Expr InitList LogicalAnd OrPart Postfix

abbrev pub Opened-MultiplicativePart : Type 0
Opened-MultiplicativePart = open_expr.MultiplicativePart-F PostfixPart Primary Unary Additive AdditivePart Multiplicative MultiplicativePart Equality EqualityPart Relational RelationalPart AndPart Arguments Expr InitList LogicalAnd OrPart Postfix

abbrev pub Opened-Equality : Type 0
Opened-Equality = open_expr.Equality-F PostfixPart Primary Unary Additive AdditivePart Multiplicative MultiplicativePart Equality EqualityPart Relational RelationalPart AndPart Arguments Expr InitList LogicalAnd OrPart Postfix

abbrev pub Opened-EqualityPart : Type 0
Opened-EqualityPart = open_expr.EqualityPart-F PostfixPart Primary Unary Additive AdditivePart Multiplicative MultiplicativePart Equality EqualityPart Relational RelationalPart AndPart Arguments Expr InitList LogicalAnd OrPart Postfix

abbrev pub Opened-Relational : Type 0
Opened-Relational = open_expr.Relational-F PostfixPart Primary Unary Additive AdditivePart Multiplicative MultiplicativePart Equality EqualityPart Relational RelationalPart AndPart Arguments Expr InitList LogicalAnd OrPart Postfix

abbrev pub Opened-RelationalPart : Type 0
Opened-RelationalPart = open_expr.RelationalPart-F PostfixPart Primary Unary Additive AdditivePart Multiplicative MultiplicativePart Equality EqualityPart Relational RelationalPart AndPart Arguments Expr InitList LogicalAnd OrPart Postfix

abbrev pub Opened-AndPart : Type 0
Opened-AndPart = open_expr.AndPart-F PostfixPart Primary Unary Additive AdditivePart Multiplicative MultiplicativePart Equality EqualityPart Relational RelationalPart AndPart Arguments Expr InitList LogicalAnd OrPart Postfix

abbrev pub Opened-Arguments : Type 0
Opened-Arguments = open_expr.Arguments-F PostfixPart Primary Unary Additive AdditivePart Multiplicative MultiplicativePart Equality EqualityPart Relational RelationalPart AndPart Arguments Expr InitList LogicalAnd OrPart Postfix

abbrev pub Opened-Expr : Type 0
Opened-Expr = open_expr.Expr-F PostfixPart Primary Unary Additive AdditivePart Multiplicative MultiplicativePart Equality EqualityPart Relational RelationalPart AndPart Arguments Expr InitList LogicalAnd OrPart Postfix

abbrev pub Opened-InitList : Type 0
Opened-InitList = open_expr.InitList-F PostfixPart Primary Unary Additive AdditivePart Multiplicative MultiplicativePart Equality EqualityPart Relational RelationalPart AndPart Arguments Expr InitList LogicalAnd OrPart Postfix

abbrev pub Opened-LogicalAnd : Type 0
Opened-LogicalAnd = open_expr.LogicalAnd-F PostfixPart Primary Unary Additive AdditivePart Multiplicative MultiplicativePart Equality EqualityPart Relational RelationalPart AndPart Arguments Expr InitList LogicalAnd OrPart Postfix

abbrev pub Opened-OrPart : Type 0
Opened-OrPart = open_expr.OrPart-F PostfixPart Primary Unary Additive AdditivePart Multiplicative MultiplicativePart Equality EqualityPart Relational RelationalPart AndPart Arguments Expr InitList LogicalAnd OrPart Postfix

abbrev pub Opened-Postfix : Type 0
Opened-Postfix = open_expr.Postfix-F PostfixPart Primary Unary Additive AdditivePart Multiplicative MultiplicativePart Equality EqualityPart Relational RelationalPart AndPart Arguments Expr InitList LogicalAnd OrPart Postfix

-- ---- .. of parts that are settled

abbrev pub kept_part : Opened-PostfixPart → PostfixPart
kept_part l = roll-PostfixPart (bare_part l)

abbrev pub kept_primary : Opened-Primary → Primary
kept_primary l = roll-Primary (bare_primary l)

abbrev pub kept_unary : Opened-Unary → Unary
kept_unary l = roll-Unary (bare_unary l)

abbrev pub kept_additive : Opened-Additive → Additive
kept_additive l = roll-Additive (bare_additive l)

abbrev pub kept_multiplicative : Opened-Multiplicative → Multiplicative
kept_multiplicative l = roll-Multiplicative (bare_multiplicative l)

abbrev pub kept_equality : Opened-Equality → Equality
kept_equality l = roll-Equality (bare_equality l)

abbrev pub kept_relational : Opened-Relational → Relational
kept_relational l = roll-Relational (bare_relational l)

abbrev pub kept_arguments : Opened-Arguments → Arguments
kept_arguments l = roll-Arguments (bare_arguments l)

abbrev pub kept_expr : Opened-Expr → Expr
kept_expr l = roll-Expr (bare_expr l)

abbrev pub kept_init_list : Opened-InitList → InitList
kept_init_list l = roll-InitList (bare_init_list l)

abbrev pub kept_logical_and : Opened-LogicalAnd → LogicalAnd
kept_logical_and l = roll-LogicalAnd (bare_logical_and l)

abbrev pub kept_postfix : Opened-Postfix → Postfix
kept_postfix l = roll-Postfix (bare_postfix l)

-- ---- the whole

abbrev pub settled_part : PostfixPart → PostfixPart
settled_part =
    fold-PostfixPart PostfixPart Primary Unary Additive AdditivePart Multiplicative MultiplicativePart Equality EqualityPart Relational RelationalPart AndPart Arguments Expr InitList LogicalAnd OrPart Postfix
    kept_part kept_primary kept_unary kept_additive roll-AdditivePart kept_multiplicative roll-MultiplicativePart kept_equality roll-EqualityPart
    kept_relational roll-RelationalPart roll-AndPart kept_arguments kept_expr kept_init_list kept_logical_and roll-OrPart kept_postfix

abbrev pub settled_primary : Primary → Primary
settled_primary =
    fold-Primary PostfixPart Primary Unary Additive AdditivePart Multiplicative MultiplicativePart Equality EqualityPart Relational RelationalPart AndPart Arguments Expr InitList LogicalAnd OrPart Postfix
    kept_part kept_primary kept_unary kept_additive roll-AdditivePart kept_multiplicative roll-MultiplicativePart kept_equality roll-EqualityPart
    kept_relational roll-RelationalPart roll-AndPart kept_arguments kept_expr kept_init_list kept_logical_and roll-OrPart kept_postfix

abbrev pub settled_unary : Unary → Unary
settled_unary =
    fold-Unary PostfixPart Primary Unary Additive AdditivePart Multiplicative MultiplicativePart Equality EqualityPart Relational RelationalPart AndPart Arguments Expr InitList LogicalAnd OrPart Postfix
    kept_part kept_primary kept_unary kept_additive roll-AdditivePart kept_multiplicative roll-MultiplicativePart kept_equality roll-EqualityPart
    kept_relational roll-RelationalPart roll-AndPart kept_arguments kept_expr kept_init_list kept_logical_and roll-OrPart kept_postfix

abbrev pub settled_additive : Additive → Additive
settled_additive =
    fold-Additive PostfixPart Primary Unary Additive AdditivePart Multiplicative MultiplicativePart Equality EqualityPart Relational RelationalPart AndPart Arguments Expr InitList LogicalAnd OrPart Postfix
    kept_part kept_primary kept_unary kept_additive roll-AdditivePart kept_multiplicative roll-MultiplicativePart kept_equality roll-EqualityPart
    kept_relational roll-RelationalPart roll-AndPart kept_arguments kept_expr kept_init_list kept_logical_and roll-OrPart kept_postfix

abbrev pub settled_additive_part : AdditivePart → AdditivePart
settled_additive_part =
    fold-AdditivePart PostfixPart Primary Unary Additive AdditivePart Multiplicative MultiplicativePart Equality EqualityPart Relational RelationalPart AndPart Arguments Expr InitList LogicalAnd OrPart Postfix
    kept_part kept_primary kept_unary kept_additive roll-AdditivePart kept_multiplicative roll-MultiplicativePart kept_equality roll-EqualityPart
    kept_relational roll-RelationalPart roll-AndPart kept_arguments kept_expr kept_init_list kept_logical_and roll-OrPart kept_postfix

abbrev pub settled_multiplicative : Multiplicative → Multiplicative
settled_multiplicative =
    fold-Multiplicative PostfixPart Primary Unary Additive AdditivePart Multiplicative MultiplicativePart Equality EqualityPart Relational RelationalPart AndPart Arguments Expr InitList LogicalAnd OrPart Postfix
    kept_part kept_primary kept_unary kept_additive roll-AdditivePart kept_multiplicative roll-MultiplicativePart kept_equality roll-EqualityPart
    kept_relational roll-RelationalPart roll-AndPart kept_arguments kept_expr kept_init_list kept_logical_and roll-OrPart kept_postfix

abbrev pub settled_multiplicative_part : MultiplicativePart → MultiplicativePart
settled_multiplicative_part =
    fold-MultiplicativePart PostfixPart Primary Unary Additive AdditivePart Multiplicative MultiplicativePart Equality EqualityPart Relational RelationalPart AndPart Arguments Expr InitList LogicalAnd OrPart Postfix
    kept_part kept_primary kept_unary kept_additive roll-AdditivePart kept_multiplicative roll-MultiplicativePart kept_equality roll-EqualityPart
    kept_relational roll-RelationalPart roll-AndPart kept_arguments kept_expr kept_init_list kept_logical_and roll-OrPart kept_postfix

abbrev pub settled_equality : Equality → Equality
settled_equality =
    fold-Equality PostfixPart Primary Unary Additive AdditivePart Multiplicative MultiplicativePart Equality EqualityPart Relational RelationalPart AndPart Arguments Expr InitList LogicalAnd OrPart Postfix
    kept_part kept_primary kept_unary kept_additive roll-AdditivePart kept_multiplicative roll-MultiplicativePart kept_equality roll-EqualityPart
    kept_relational roll-RelationalPart roll-AndPart kept_arguments kept_expr kept_init_list kept_logical_and roll-OrPart kept_postfix

abbrev pub settled_equality_part : EqualityPart → EqualityPart
settled_equality_part =
    fold-EqualityPart PostfixPart Primary Unary Additive AdditivePart Multiplicative MultiplicativePart Equality EqualityPart Relational RelationalPart AndPart Arguments Expr InitList LogicalAnd OrPart Postfix
    kept_part kept_primary kept_unary kept_additive roll-AdditivePart kept_multiplicative roll-MultiplicativePart kept_equality roll-EqualityPart
    kept_relational roll-RelationalPart roll-AndPart kept_arguments kept_expr kept_init_list kept_logical_and roll-OrPart kept_postfix

abbrev pub settled_relational : Relational → Relational
settled_relational =
    fold-Relational PostfixPart Primary Unary Additive AdditivePart Multiplicative MultiplicativePart Equality EqualityPart Relational RelationalPart AndPart Arguments Expr InitList LogicalAnd OrPart Postfix
    kept_part kept_primary kept_unary kept_additive roll-AdditivePart kept_multiplicative roll-MultiplicativePart kept_equality roll-EqualityPart
    kept_relational roll-RelationalPart roll-AndPart kept_arguments kept_expr kept_init_list kept_logical_and roll-OrPart kept_postfix

abbrev pub settled_relational_part : RelationalPart → RelationalPart
settled_relational_part =
    fold-RelationalPart PostfixPart Primary Unary Additive AdditivePart Multiplicative MultiplicativePart Equality EqualityPart Relational RelationalPart AndPart Arguments Expr InitList LogicalAnd OrPart Postfix
    kept_part kept_primary kept_unary kept_additive roll-AdditivePart kept_multiplicative roll-MultiplicativePart kept_equality roll-EqualityPart
    kept_relational roll-RelationalPart roll-AndPart kept_arguments kept_expr kept_init_list kept_logical_and roll-OrPart kept_postfix

abbrev pub settled_and_part : AndPart → AndPart
settled_and_part =
    fold-AndPart PostfixPart Primary Unary Additive AdditivePart Multiplicative MultiplicativePart Equality EqualityPart Relational RelationalPart AndPart Arguments Expr InitList LogicalAnd OrPart Postfix
    kept_part kept_primary kept_unary kept_additive roll-AdditivePart kept_multiplicative roll-MultiplicativePart kept_equality roll-EqualityPart
    kept_relational roll-RelationalPart roll-AndPart kept_arguments kept_expr kept_init_list kept_logical_and roll-OrPart kept_postfix

abbrev pub settled_arguments : Arguments → Arguments
settled_arguments =
    fold-Arguments PostfixPart Primary Unary Additive AdditivePart Multiplicative MultiplicativePart Equality EqualityPart Relational RelationalPart AndPart Arguments Expr InitList LogicalAnd OrPart Postfix
    kept_part kept_primary kept_unary kept_additive roll-AdditivePart kept_multiplicative roll-MultiplicativePart kept_equality roll-EqualityPart
    kept_relational roll-RelationalPart roll-AndPart kept_arguments kept_expr kept_init_list kept_logical_and roll-OrPart kept_postfix

abbrev pub settled_expr : Expr → Expr
settled_expr =
    fold-Expr PostfixPart Primary Unary Additive AdditivePart Multiplicative MultiplicativePart Equality EqualityPart Relational RelationalPart AndPart Arguments Expr InitList LogicalAnd OrPart Postfix
    kept_part kept_primary kept_unary kept_additive roll-AdditivePart kept_multiplicative roll-MultiplicativePart kept_equality roll-EqualityPart
    kept_relational roll-RelationalPart roll-AndPart kept_arguments kept_expr kept_init_list kept_logical_and roll-OrPart kept_postfix

abbrev pub settled_init_list : InitList → InitList
settled_init_list =
    fold-InitList PostfixPart Primary Unary Additive AdditivePart Multiplicative MultiplicativePart Equality EqualityPart Relational RelationalPart AndPart Arguments Expr InitList LogicalAnd OrPart Postfix
    kept_part kept_primary kept_unary kept_additive roll-AdditivePart kept_multiplicative roll-MultiplicativePart kept_equality roll-EqualityPart
    kept_relational roll-RelationalPart roll-AndPart kept_arguments kept_expr kept_init_list kept_logical_and roll-OrPart kept_postfix

abbrev pub settled_logical_and : LogicalAnd → LogicalAnd
settled_logical_and =
    fold-LogicalAnd PostfixPart Primary Unary Additive AdditivePart Multiplicative MultiplicativePart Equality EqualityPart Relational RelationalPart AndPart Arguments Expr InitList LogicalAnd OrPart Postfix
    kept_part kept_primary kept_unary kept_additive roll-AdditivePart kept_multiplicative roll-MultiplicativePart kept_equality roll-EqualityPart
    kept_relational roll-RelationalPart roll-AndPart kept_arguments kept_expr kept_init_list kept_logical_and roll-OrPart kept_postfix

abbrev pub settled_or_part : OrPart → OrPart
settled_or_part =
    fold-OrPart PostfixPart Primary Unary Additive AdditivePart Multiplicative MultiplicativePart Equality EqualityPart Relational RelationalPart AndPart Arguments Expr InitList LogicalAnd OrPart Postfix
    kept_part kept_primary kept_unary kept_additive roll-AdditivePart kept_multiplicative roll-MultiplicativePart kept_equality roll-EqualityPart
    kept_relational roll-RelationalPart roll-AndPart kept_arguments kept_expr kept_init_list kept_logical_and roll-OrPart kept_postfix

abbrev pub settled_postfix : Postfix → Postfix
settled_postfix =
    fold-Postfix PostfixPart Primary Unary Additive AdditivePart Multiplicative MultiplicativePart Equality EqualityPart Relational RelationalPart AndPart Arguments Expr InitList LogicalAnd OrPart Postfix
    kept_part kept_primary kept_unary kept_additive roll-AdditivePart kept_multiplicative roll-MultiplicativePart kept_equality roll-EqualityPart
    kept_relational roll-RelationalPart roll-AndPart kept_arguments kept_expr kept_init_list kept_logical_and roll-OrPart kept_postfix
