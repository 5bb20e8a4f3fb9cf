-- Layers of expressions whose parts are seen as trees, or settled.
use Rattle.std.proofs.Common.{◌≡◌}
use Rattle.life_unique.proofs.Lists.{Both}
use Rattle.life_tree.specs.Tree.{Tree}
use Rattle.life_tree.specs.declared.primary.PostfixPart.{PostfixPart, roll-PostfixPart}
use Rattle.life_tree.specs.declared.primary.Primary.{Primary, roll-Primary}
use Rattle.life_tree.specs.declared.primary.Unary.{Unary, roll-Unary}
use Rattle.life_tree.specs.declared.arithmetic.Additive.{Additive, roll-Additive}
use Rattle.life_tree.specs.declared.arithmetic.AdditivePart.{AdditivePart, roll-AdditivePart}
use Rattle.life_tree.specs.declared.arithmetic.Multiplicative.{Multiplicative, roll-Multiplicative}
use Rattle.life_tree.specs.declared.arithmetic.MultiplicativePart.{MultiplicativePart, roll-MultiplicativePart}
use Rattle.life_tree.specs.declared.comparison.Equality.{Equality, roll-Equality}
use Rattle.life_tree.specs.declared.comparison.EqualityPart.{EqualityPart, roll-EqualityPart}
use Rattle.life_tree.specs.declared.comparison.Relational.{Relational, roll-Relational}
use Rattle.life_tree.specs.declared.comparison.RelationalPart.{RelationalPart, roll-RelationalPart}
use Rattle.life_tree.specs.declared.expr.AndPart.{AndPart, roll-AndPart}
use Rattle.life_tree.specs.declared.expr.Arguments.{Arguments, roll-Arguments}
use Rattle.life_tree.specs.declared.expr.Expr.{Expr, roll-Expr}
use Rattle.life_tree.specs.declared.expr.InitList.{InitList, roll-InitList}
use Rattle.life_tree.specs.declared.expr.LogicalAnd.{LogicalAnd, roll-LogicalAnd}
use Rattle.life_tree.specs.declared.expr.OrPart.{OrPart, roll-OrPart}
use Rattle.life_tree.specs.declared.primary.Postfix.{Postfix, roll-Postfix}
use Rattle.life_tree.specs.declared.primary.PostfixPart.TheFolds.{fold-roll-PostfixPart, fold-roll-Primary, fold-roll-Unary, fold-roll-Additive, fold-roll-AdditivePart, fold-roll-Multiplicative, fold-roll-MultiplicativePart, fold-roll-Equality, fold-roll-EqualityPart, fold-roll-Relational, fold-roll-RelationalPart, fold-roll-AndPart, fold-roll-Arguments, fold-roll-Expr, fold-roll-InitList, fold-roll-LogicalAnd, fold-roll-OrPart, fold-roll-Postfix}
use Rattle.life_tree.specs.Views.{part_step, primary_step, unary_step, additive_step, additive_part, multiplicative_step, multiplicative_part, equality_step, equality_part, relational_step, relational_part, and_part, arguments_step, expr_step, init_list_step, logical_and_step, or_part, postfix_step}
use Rattle.life_unique.specs.SettledExpressions.{kept_part, kept_primary, kept_unary, kept_additive, kept_multiplicative, kept_equality, kept_relational, kept_arguments, kept_expr, kept_init_list, kept_logical_and, kept_postfix}
use Rattle.life_tree.specs.declared.primary.PostfixPart.TheFolds.{map-PostfixPart, map-Primary, map-Unary, map-Additive, map-AdditivePart, map-Multiplicative, map-MultiplicativePart, map-Equality, map-EqualityPart, map-Relational, map-RelationalPart, map-AndPart, map-Arguments, map-Expr, map-InitList, map-LogicalAnd, map-OrPart, map-Postfix}
use Rattle.life_tree.specs.declared.primary.PostfixPart.TheOpen as open_expr
use Rattle.life_tree.specs.Views.{postfix_part_tree, primary_tree, unary_tree, additive_tree, additive_part_tree, multiplicative_tree, multiplicative_part_tree, equality_tree, equality_part_tree, relational_tree, relational_part_tree, and_part_tree, arguments_tree, expr_tree, init_list_tree, logical_and_tree, or_part_tree, postfix_tree}
use Rattle.life_unique.specs.SettledExpressions.{Opened-PostfixPart, Opened-Primary, Opened-Unary, Opened-Additive, Opened-AdditivePart, Opened-Multiplicative, Opened-MultiplicativePart, Opened-Equality, Opened-EqualityPart, Opened-Relational, Opened-RelationalPart, Opened-AndPart, Opened-Arguments, Opened-Expr, Opened-InitList, Opened-LogicalAnd, Opened-OrPart, Opened-Postfix}
use Rattle.life_unique.specs.SettledExpressions.{settled_part, settled_primary, settled_unary, settled_additive, settled_additive_part, settled_multiplicative, settled_multiplicative_part, settled_equality, settled_equality_part, settled_relational, settled_relational_part, settled_and_part, settled_arguments, settled_expr, settled_init_list, settled_logical_and, settled_or_part, settled_postfix}

-- what is claimed of each type
pub record Claims : Type 1 where
  pub part : PostfixPart → Type 0
  pub primary : Primary → Type 0
  pub unary : Unary → Type 0
  pub additive : Additive → Type 0
  pub additive_part : AdditivePart → Type 0
  pub multiplicative : Multiplicative → Type 0
  pub multiplicative_part : MultiplicativePart → Type 0
  pub equality : Equality → Type 0
  pub equality_part : EqualityPart → Type 0
  pub relational : Relational → Type 0
  pub relational_part : RelationalPart → Type 0
  pub and_part : AndPart → Type 0
  pub arguments : Arguments → Type 0
  pub expr : Expr → Type 0
  pub init_list : InitList → Type 0
  pub logical_and : LogicalAnd → Type 0
  pub or_part : OrPart → Type 0
  pub postfix : Postfix → Type 0

-- ---- a layer of parts of which that holds, and without it

abbrev pub Layer-PostfixPart : Claims → Type 0
Layer-PostfixPart c = open_expr.PostfixPart-F
    (Both c.part) (Both c.primary) (Both c.unary) (Both c.additive) (Both c.additive_part) (Both c.multiplicative) (Both c.multiplicative_part) (Both c.equality) (Both c.equality_part)
    (Both c.relational) (Both c.relational_part) (Both c.and_part) (Both c.arguments) (Both c.expr) (Both c.init_list) (Both c.logical_and) (Both c.or_part) (Both c.postfix)

abbrev pub parts_part : (c : Claims) → Layer-PostfixPart c → Opened-PostfixPart
parts_part c = map-PostfixPart
    (Both c.part) (Both c.primary) (Both c.unary) (Both c.additive) (Both c.additive_part) (Both c.multiplicative) (Both c.multiplicative_part) (Both c.equality) (Both c.equality_part)
    (Both c.relational) (Both c.relational_part) (Both c.and_part) (Both c.arguments) (Both c.expr) (Both c.init_list) (Both c.logical_and) (Both c.or_part) (Both c.postfix)
    PostfixPart Primary Unary Additive AdditivePart Multiplicative MultiplicativePart Equality EqualityPart Relational RelationalPart AndPart Arguments Expr InitList LogicalAnd OrPart Postfix
    (λ z. z.0) (λ z. z.0) (λ z. z.0) (λ z. z.0) (λ z. z.0) (λ z. z.0) (λ z. z.0) (λ z. z.0) (λ z. z.0) (λ z. z.0) (λ z. z.0) (λ z. z.0) (λ z. z.0) (λ z. z.0) (λ z. z.0) (λ z. z.0) (λ z. z.0)
    (λ z. z.0)

abbrev pub Layer-Primary : Claims → Type 0
Layer-Primary c = open_expr.Primary-F
    (Both c.part) (Both c.primary) (Both c.unary) (Both c.additive) (Both c.additive_part) (Both c.multiplicative) (Both c.multiplicative_part) (Both c.equality) (Both c.equality_part)
    (Both c.relational) (Both c.relational_part) (Both c.and_part) (Both c.arguments) (Both c.expr) (Both c.init_list) (Both c.logical_and) (Both c.or_part) (Both c.postfix)

abbrev pub parts_primary : (c : Claims) → Layer-Primary c → Opened-Primary
parts_primary c = map-Primary
    (Both c.part) (Both c.primary) (Both c.unary) (Both c.additive) (Both c.additive_part) (Both c.multiplicative) (Both c.multiplicative_part) (Both c.equality) (Both c.equality_part)
    (Both c.relational) (Both c.relational_part) (Both c.and_part) (Both c.arguments) (Both c.expr) (Both c.init_list) (Both c.logical_and) (Both c.or_part) (Both c.postfix)
    PostfixPart Primary Unary Additive AdditivePart Multiplicative MultiplicativePart Equality EqualityPart Relational RelationalPart AndPart Arguments Expr InitList LogicalAnd OrPart Postfix
    (λ z. z.0) (λ z. z.0) (λ z. z.0) (λ z. z.0) (λ z. z.0) (λ z. z.0) (λ z. z.0) (λ z. z.0) (λ z. z.0) (λ z. z.0) (λ z. z.0) (λ z. z.0) (λ z. z.0) (λ z. z.0) (λ z. z.0) (λ z. z.0) (λ z. z.0)
    (λ z. z.0)

abbrev pub Layer-Unary : Claims → Type 0
Layer-Unary c = open_expr.Unary-F
    (Both c.part) (Both c.primary) (Both c.unary) (Both c.additive) (Both c.additive_part) (Both c.multiplicative) (Both c.multiplicative_part) (Both c.equality) (Both c.equality_part)
    (Both c.relational) (Both c.relational_part) (Both c.and_part) (Both c.arguments) (Both c.expr) (Both c.init_list) (Both c.logical_and) (Both c.or_part) (Both c.postfix)

abbrev pub parts_unary : (c : Claims) → Layer-Unary c → Opened-Unary
parts_unary c = map-Unary
    (Both c.part) (Both c.primary) (Both c.unary) (Both c.additive) (Both c.additive_part) (Both c.multiplicative) (Both c.multiplicative_part) (Both c.equality) (Both c.equality_part)
    (Both c.relational) (Both c.relational_part) (Both c.and_part) (Both c.arguments) (Both c.expr) (Both c.init_list) (Both c.logical_and) (Both c.or_part) (Both c.postfix)
    PostfixPart Primary Unary Additive AdditivePart Multiplicative MultiplicativePart Equality EqualityPart Relational RelationalPart AndPart Arguments Expr InitList LogicalAnd OrPart Postfix
    (λ z. z.0) (λ z. z.0) (λ z. z.0) (λ z. z.0) (λ z. z.0) (λ z. z.0) (λ z. z.0) (λ z. z.0) (λ z. z.0) (λ z. z.0) (λ z. z.0) (λ z. z.0) (λ z. z.0) (λ z. z.0) (λ z. z.0) (λ z. z.0) (λ z. z.0)
    (λ z. z.0)

abbrev pub Layer-Additive : Claims → Type 0
Layer-Additive c = open_expr.Additive-F
    (Both c.part) (Both c.primary) (Both c.unary) (Both c.additive) (Both c.additive_part) (Both c.multiplicative) (Both c.multiplicative_part) (Both c.equality) (Both c.equality_part)
    (Both c.relational) (Both c.relational_part) (Both c.and_part) (Both c.arguments) (Both c.expr) (Both c.init_list) (Both c.logical_and) (Both c.or_part) (Both c.postfix)

abbrev pub parts_additive : (c : Claims) → Layer-Additive c → Opened-Additive
parts_additive c = map-Additive
    (Both c.part) (Both c.primary) (Both c.unary) (Both c.additive) (Both c.additive_part) (Both c.multiplicative) (Both c.multiplicative_part) (Both c.equality) (Both c.equality_part)
    (Both c.relational) (Both c.relational_part) (Both c.and_part) (Both c.arguments) (Both c.expr) (Both c.init_list) (Both c.logical_and) (Both c.or_part) (Both c.postfix)
    PostfixPart Primary Unary Additive AdditivePart Multiplicative MultiplicativePart Equality EqualityPart Relational RelationalPart AndPart Arguments Expr InitList LogicalAnd OrPart Postfix
    (λ z. z.0) (λ z. z.0) (λ z. z.0) (λ z. z.0) (λ z. z.0) (λ z. z.0) (λ z. z.0) (λ z. z.0) (λ z. z.0) (λ z. z.0) (λ z. z.0) (λ z. z.0) (λ z. z.0) (λ z. z.0) (λ z. z.0) (λ z. z.0) (λ z. z.0)
    (λ z. z.0)

abbrev pub Layer-AdditivePart : Claims → Type 0
Layer-AdditivePart c = open_expr.AdditivePart-F
    (Both c.part) (Both c.primary) (Both c.unary) (Both c.additive) (Both c.additive_part) (Both c.multiplicative) (Both c.multiplicative_part) (Both c.equality) (Both c.equality_part)
    (Both c.relational) (Both c.relational_part) (Both c.and_part) (Both c.arguments) (Both c.expr) (Both c.init_list) (Both c.logical_and) (Both c.or_part) (Both c.postfix)

abbrev pub parts_additive_part : (c : Claims) → Layer-AdditivePart c → Opened-AdditivePart
parts_additive_part c = map-AdditivePart
    (Both c.part) (Both c.primary) (Both c.unary) (Both c.additive) (Both c.additive_part) (Both c.multiplicative) (Both c.multiplicative_part) (Both c.equality) (Both c.equality_part)
    (Both c.relational) (Both c.relational_part) (Both c.and_part) (Both c.arguments) (Both c.expr) (Both c.init_list) (Both c.logical_and) (Both c.or_part) (Both c.postfix)
    PostfixPart Primary Unary Additive AdditivePart Multiplicative MultiplicativePart Equality EqualityPart Relational RelationalPart AndPart Arguments Expr InitList LogicalAnd OrPart Postfix
    (λ z. z.0) (λ z. z.0) (λ z. z.0) (λ z. z.0) (λ z. z.0) (λ z. z.0) (λ z. z.0) (λ z. z.0) (λ z. z.0) (λ z. z.0) (λ z. z.0) (λ z. z.0) (λ z. z.0) (λ z. z.0) (λ z. z.0) (λ z. z.0) (λ z. z.0)
    (λ z. z.0)

abbrev pub Layer-Multiplicative : Claims → Type 0
Layer-Multiplicative c = open_expr.Multiplicative-F
    (Both c.part) (Both c.primary) (Both c.unary) (Both c.additive) (Both c.additive_part) (Both c.multiplicative) (Both c.multiplicative_part) (Both c.equality) (Both c.equality_part)
    (Both c.relational) (Both c.relational_part) (Both c.and_part) (Both c.arguments) (Both c.expr) (Both c.init_list) (Both c.logical_and) (Both c.or_part) (Both c.postfix)

abbrev pub parts_multiplicative : (c : Claims) → Layer-Multiplicative c → Opened-Multiplicative
parts_multiplicative c = map-Multiplicative
    (Both c.part) (Both c.primary) (Both c.unary) (Both c.additive) (Both c.additive_part) (Both c.multiplicative) (Both c.multiplicative_part) (Both c.equality) (Both c.equality_part)
    (Both c.relational) (Both c.relational_part) (Both c.and_part) (Both c.arguments) (Both c.expr) (Both c.init_list) (Both c.logical_and) (Both c.or_part) (Both c.postfix)
    PostfixPart Primary Unary Additive AdditivePart Multiplicative MultiplicativePart Equality EqualityPart Relational RelationalPart AndPart Arguments Expr InitList LogicalAnd OrPart Postfix
    (λ z. z.0) (λ z. z.0) (λ z. z.0) (λ z. z.0) (λ z. z.0) (λ z. z.0) (λ z. z.0) (λ z. z.0) (λ z. z.0) (λ z. z.0) (λ z. z.0) (λ z. z.0) (λ z. z.0) (λ z. z.0) (λ z. z.0) (λ z. z.0) (λ z. z.0)
    (λ z. z.0)

abbrev pub Layer-MultiplicativePart : Claims → Type 0
Layer-MultiplicativePart c = open_expr.MultiplicativePart-F
    (Both c.part) (Both c.primary) (Both c.unary) (Both c.additive) (Both c.additive_part) (Both c.multiplicative) (Both c.multiplicative_part) (Both c.equality) (Both c.equality_part)
    (Both c.relational) (Both c.relational_part) (Both c.and_part) (Both c.arguments) (Both c.expr) (Both c.init_list) (Both c.logical_and) (Both c.or_part) (Both c.postfix)

abbrev pub parts_multiplicative_part : (c : Claims) → Layer-MultiplicativePart c → Opened-MultiplicativePart
parts_multiplicative_part c = map-MultiplicativePart
    (Both c.part) (Both c.primary) (Both c.unary) (Both c.additive) (Both c.additive_part) (Both c.multiplicative) (Both c.multiplicative_part) (Both c.equality) (Both c.equality_part)
    (Both c.relational) (Both c.relational_part) (Both c.and_part) (Both c.arguments) (Both c.expr) (Both c.init_list) (Both c.logical_and) (Both c.or_part) (Both c.postfix)
    PostfixPart Primary Unary Additive AdditivePart Multiplicative MultiplicativePart Equality EqualityPart Relational RelationalPart AndPart Arguments Expr InitList LogicalAnd OrPart Postfix
    (λ z. z.0) (λ z. z.0) (λ z. z.0) (λ z. z.0) (λ z. z.0) (λ z. z.0) (λ z. z.0) (λ z. z.0) (λ z. z.0) (λ z. z.0) (λ z. z.0) (λ z. z.0) (λ z. z.0) (λ z. z.0) (λ z. z.0) (λ z. z.0) (λ z. z.0)
    (λ z. z.0)

abbrev pub Layer-Equality : Claims → Type 0
Layer-Equality c = open_expr.Equality-F
    (Both c.part) (Both c.primary) (Both c.unary) (Both c.additive) (Both c.additive_part) (Both c.multiplicative) (Both c.multiplicative_part) (Both c.equality) (Both c.equality_part)
    (Both c.relational) (Both c.relational_part) (Both c.and_part) (Both c.arguments) (Both c.expr) (Both c.init_list) (Both c.logical_and) (Both c.or_part) (Both c.postfix)

abbrev pub parts_equality : (c : Claims) → Layer-Equality c → Opened-Equality
parts_equality c = map-Equality
    (Both c.part) (Both c.primary) (Both c.unary) (Both c.additive) (Both c.additive_part) (Both c.multiplicative) (Both c.multiplicative_part) (Both c.equality) (Both c.equality_part)
    (Both c.relational) (Both c.relational_part) (Both c.and_part) (Both c.arguments) (Both c.expr) (Both c.init_list) (Both c.logical_and) (Both c.or_part) (Both c.postfix)
    PostfixPart Primary Unary Additive AdditivePart Multiplicative MultiplicativePart Equality EqualityPart Relational RelationalPart AndPart Arguments Expr InitList LogicalAnd OrPart Postfix
    (λ z. z.0) (λ z. z.0) (λ z. z.0) (λ z. z.0) (λ z. z.0) (λ z. z.0) (λ z. z.0) (λ z. z.0) (λ z. z.0) (λ z. z.0) (λ z. z.0) (λ z. z.0) (λ z. z.0) (λ z. z.0) (λ z. z.0) (λ z. z.0) (λ z. z.0)
    (λ z. z.0)

abbrev pub Layer-EqualityPart : Claims → Type 0
Layer-EqualityPart c = open_expr.EqualityPart-F
    (Both c.part) (Both c.primary) (Both c.unary) (Both c.additive) (Both c.additive_part) (Both c.multiplicative) (Both c.multiplicative_part) (Both c.equality) (Both c.equality_part)
    (Both c.relational) (Both c.relational_part) (Both c.and_part) (Both c.arguments) (Both c.expr) (Both c.init_list) (Both c.logical_and) (Both c.or_part) (Both c.postfix)

abbrev pub parts_equality_part : (c : Claims) → Layer-EqualityPart c → Opened-EqualityPart
parts_equality_part c = map-EqualityPart
    (Both c.part) (Both c.primary) (Both c.unary) (Both c.additive) (Both c.additive_part) (Both c.multiplicative) (Both c.multiplicative_part) (Both c.equality) (Both c.equality_part)
    (Both c.relational) (Both c.relational_part) (Both c.and_part) (Both c.arguments) (Both c.expr) (Both c.init_list) (Both c.logical_and) (Both c.or_part) (Both c.postfix)
    PostfixPart Primary Unary Additive AdditivePart Multiplicative MultiplicativePart Equality EqualityPart Relational RelationalPart AndPart Arguments Expr InitList LogicalAnd OrPart Postfix
    (λ z. z.0) (λ z. z.0) (λ z. z.0) (λ z. z.0) (λ z. z.0) (λ z. z.0) (λ z. z.0) (λ z. z.0) (λ z. z.0) (λ z. z.0) (λ z. z.0) (λ z. z.0) (λ z. z.0) (λ z. z.0) (λ z. z.0) (λ z. z.0) (λ z. z.0)
    (λ z. z.0)

abbrev pub Layer-Relational : Claims → Type 0
Layer-Relational c = open_expr.Relational-F
    (Both c.part) (Both c.primary) (Both c.unary) (Both c.additive) (Both c.additive_part) (Both c.multiplicative) (Both c.multiplicative_part) (Both c.equality) (Both c.equality_part)
    (Both c.relational) (Both c.relational_part) (Both c.and_part) (Both c.arguments) (Both c.expr) (Both c.init_list) (Both c.logical_and) (Both c.or_part) (Both c.postfix)

abbrev pub parts_relational : (c : Claims) → Layer-Relational c → Opened-Relational
parts_relational c = map-Relational
    (Both c.part) (Both c.primary) (Both c.unary) (Both c.additive) (Both c.additive_part) (Both c.multiplicative) (Both c.multiplicative_part) (Both c.equality) (Both c.equality_part)
    (Both c.relational) (Both c.relational_part) (Both c.and_part) (Both c.arguments) (Both c.expr) (Both c.init_list) (Both c.logical_and) (Both c.or_part) (Both c.postfix)
    PostfixPart Primary Unary Additive AdditivePart Multiplicative MultiplicativePart Equality EqualityPart Relational RelationalPart AndPart Arguments Expr InitList LogicalAnd OrPart Postfix
    (λ z. z.0) (λ z. z.0) (λ z. z.0) (λ z. z.0) (λ z. z.0) (λ z. z.0) (λ z. z.0) (λ z. z.0) (λ z. z.0) (λ z. z.0) (λ z. z.0) (λ z. z.0) (λ z. z.0) (λ z. z.0) (λ z. z.0) (λ z. z.0) (λ z. z.0)
    (λ z. z.0)

abbrev pub Layer-RelationalPart : Claims → Type 0
Layer-RelationalPart c = open_expr.RelationalPart-F
    (Both c.part) (Both c.primary) (Both c.unary) (Both c.additive) (Both c.additive_part) (Both c.multiplicative) (Both c.multiplicative_part) (Both c.equality) (Both c.equality_part)
    (Both c.relational) (Both c.relational_part) (Both c.and_part) (Both c.arguments) (Both c.expr) (Both c.init_list) (Both c.logical_and) (Both c.or_part) (Both c.postfix)

abbrev pub parts_relational_part : (c : Claims) → Layer-RelationalPart c → Opened-RelationalPart
parts_relational_part c = map-RelationalPart
    (Both c.part) (Both c.primary) (Both c.unary) (Both c.additive) (Both c.additive_part) (Both c.multiplicative) (Both c.multiplicative_part) (Both c.equality) (Both c.equality_part)
    (Both c.relational) (Both c.relational_part) (Both c.and_part) (Both c.arguments) (Both c.expr) (Both c.init_list) (Both c.logical_and) (Both c.or_part) (Both c.postfix)
    PostfixPart Primary Unary Additive AdditivePart Multiplicative MultiplicativePart Equality EqualityPart Relational RelationalPart AndPart Arguments Expr InitList LogicalAnd OrPart Postfix
    (λ z. z.0) (λ z. z.0) (λ z. z.0) (λ z. z.0) (λ z. z.0) (λ z. z.0) (λ z. z.0) (λ z. z.0) (λ z. z.0) (λ z. z.0) (λ z. z.0) (λ z. z.0) (λ z. z.0) (λ z. z.0) (λ z. z.0) (λ z. z.0) (λ z. z.0)
    (λ z. z.0)

abbrev pub Layer-AndPart : Claims → Type 0
Layer-AndPart c = open_expr.AndPart-F
    (Both c.part) (Both c.primary) (Both c.unary) (Both c.additive) (Both c.additive_part) (Both c.multiplicative) (Both c.multiplicative_part) (Both c.equality) (Both c.equality_part)
    (Both c.relational) (Both c.relational_part) (Both c.and_part) (Both c.arguments) (Both c.expr) (Both c.init_list) (Both c.logical_and) (Both c.or_part) (Both c.postfix)

abbrev pub parts_and_part : (c : Claims) → Layer-AndPart c → Opened-AndPart
parts_and_part c = map-AndPart
    (Both c.part) (Both c.primary) (Both c.unary) (Both c.additive) (Both c.additive_part) (Both c.multiplicative) (Both c.multiplicative_part) (Both c.equality) (Both c.equality_part)
    (Both c.relational) (Both c.relational_part) (Both c.and_part) (Both c.arguments) (Both c.expr) (Both c.init_list) (Both c.logical_and) (Both c.or_part) (Both c.postfix)
    PostfixPart Primary Unary Additive AdditivePart Multiplicative MultiplicativePart Equality EqualityPart Relational RelationalPart AndPart Arguments Expr InitList LogicalAnd OrPart Postfix
    (λ z. z.0) (λ z. z.0) (λ z. z.0) (λ z. z.0) (λ z. z.0) (λ z. z.0) (λ z. z.0) (λ z. z.0) (λ z. z.0) (λ z. z.0) (λ z. z.0) (λ z. z.0) (λ z. z.0) (λ z. z.0) (λ z. z.0) (λ z. z.0) (λ z. z.0)
    (λ z. z.0)

abbrev pub Layer-Arguments : Claims → Type 0
Layer-Arguments c = open_expr.Arguments-F
    (Both c.part) (Both c.primary) (Both c.unary) (Both c.additive) (Both c.additive_part) (Both c.multiplicative) (Both c.multiplicative_part) (Both c.equality) (Both c.equality_part)
    (Both c.relational) (Both c.relational_part) (Both c.and_part) (Both c.arguments) (Both c.expr) (Both c.init_list) (Both c.logical_and) (Both c.or_part) (Both c.postfix)

abbrev pub parts_arguments : (c : Claims) → Layer-Arguments c → Opened-Arguments
parts_arguments c = map-Arguments
    (Both c.part) (Both c.primary) (Both c.unary) (Both c.additive) (Both c.additive_part) (Both c.multiplicative) (Both c.multiplicative_part) (Both c.equality) (Both c.equality_part)
    (Both c.relational) (Both c.relational_part) (Both c.and_part) (Both c.arguments) (Both c.expr) (Both c.init_list) (Both c.logical_and) (Both c.or_part) (Both c.postfix)
    PostfixPart Primary Unary Additive AdditivePart Multiplicative MultiplicativePart Equality EqualityPart Relational RelationalPart AndPart Arguments Expr InitList LogicalAnd OrPart Postfix
    (λ z. z.0) (λ z. z.0) (λ z. z.0) (λ z. z.0) (λ z. z.0) (λ z. z.0) (λ z. z.0) (λ z. z.0) (λ z. z.0) (λ z. z.0) (λ z. z.0) (λ z. z.0) (λ z. z.0) (λ z. z.0) (λ z. z.0) (λ z. z.0) (λ z. z.0)
    (λ z. z.0)

abbrev pub Layer-Expr : Claims → Type 0
Layer-Expr c = open_expr.Expr-F
    (Both c.part) (Both c.primary) (Both c.unary) (Both c.additive) (Both c.additive_part) (Both c.multiplicative) (Both c.multiplicative_part) (Both c.equality) (Both c.equality_part)
    (Both c.relational) (Both c.relational_part) (Both c.and_part) (Both c.arguments) (Both c.expr) (Both c.init_list) (Both c.logical_and) (Both c.or_part) (Both c.postfix)

abbrev pub parts_expr : (c : Claims) → Layer-Expr c → Opened-Expr
parts_expr c = map-Expr
    (Both c.part) (Both c.primary) (Both c.unary) (Both c.additive) (Both c.additive_part) (Both c.multiplicative) (Both c.multiplicative_part) (Both c.equality) (Both c.equality_part)
    (Both c.relational) (Both c.relational_part) (Both c.and_part) (Both c.arguments) (Both c.expr) (Both c.init_list) (Both c.logical_and) (Both c.or_part) (Both c.postfix)
    PostfixPart Primary Unary Additive AdditivePart Multiplicative MultiplicativePart Equality EqualityPart Relational RelationalPart AndPart Arguments Expr InitList LogicalAnd OrPart Postfix
    (λ z. z.0) (λ z. z.0) (λ z. z.0) (λ z. z.0) (λ z. z.0) (λ z. z.0) (λ z. z.0) (λ z. z.0) (λ z. z.0) (λ z. z.0) (λ z. z.0) (λ z. z.0) (λ z. z.0) (λ z. z.0) (λ z. z.0) (λ z. z.0) (λ z. z.0)
    (λ z. z.0)

abbrev pub Layer-InitList : Claims → Type 0
Layer-InitList c = open_expr.InitList-F
    (Both c.part) (Both c.primary) (Both c.unary) (Both c.additive) (Both c.additive_part) (Both c.multiplicative) (Both c.multiplicative_part) (Both c.equality) (Both c.equality_part)
    (Both c.relational) (Both c.relational_part) (Both c.and_part) (Both c.arguments) (Both c.expr) (Both c.init_list) (Both c.logical_and) (Both c.or_part) (Both c.postfix)

abbrev pub parts_init_list : (c : Claims) → Layer-InitList c → Opened-InitList
parts_init_list c = map-InitList
    (Both c.part) (Both c.primary) (Both c.unary) (Both c.additive) (Both c.additive_part) (Both c.multiplicative) (Both c.multiplicative_part) (Both c.equality) (Both c.equality_part)
    (Both c.relational) (Both c.relational_part) (Both c.and_part) (Both c.arguments) (Both c.expr) (Both c.init_list) (Both c.logical_and) (Both c.or_part) (Both c.postfix)
    PostfixPart Primary Unary Additive AdditivePart Multiplicative MultiplicativePart Equality EqualityPart Relational RelationalPart AndPart Arguments Expr InitList LogicalAnd OrPart Postfix
    (λ z. z.0) (λ z. z.0) (λ z. z.0) (λ z. z.0) (λ z. z.0) (λ z. z.0) (λ z. z.0) (λ z. z.0) (λ z. z.0) (λ z. z.0) (λ z. z.0) (λ z. z.0) (λ z. z.0) (λ z. z.0) (λ z. z.0) (λ z. z.0) (λ z. z.0)
    (λ z. z.0)

abbrev pub Layer-LogicalAnd : Claims → Type 0
Layer-LogicalAnd c = open_expr.LogicalAnd-F
    (Both c.part) (Both c.primary) (Both c.unary) (Both c.additive) (Both c.additive_part) (Both c.multiplicative) (Both c.multiplicative_part) (Both c.equality) (Both c.equality_part)
    (Both c.relational) (Both c.relational_part) (Both c.and_part) (Both c.arguments) (Both c.expr) (Both c.init_list) (Both c.logical_and) (Both c.or_part) (Both c.postfix)

abbrev pub parts_logical_and : (c : Claims) → Layer-LogicalAnd c → Opened-LogicalAnd
parts_logical_and c = map-LogicalAnd
    (Both c.part) (Both c.primary) (Both c.unary) (Both c.additive) (Both c.additive_part) (Both c.multiplicative) (Both c.multiplicative_part) (Both c.equality) (Both c.equality_part)
    (Both c.relational) (Both c.relational_part) (Both c.and_part) (Both c.arguments) (Both c.expr) (Both c.init_list) (Both c.logical_and) (Both c.or_part) (Both c.postfix)
    PostfixPart Primary Unary Additive AdditivePart Multiplicative MultiplicativePart Equality EqualityPart Relational RelationalPart AndPart Arguments Expr InitList LogicalAnd OrPart Postfix
    (λ z. z.0) (λ z. z.0) (λ z. z.0) (λ z. z.0) (λ z. z.0) (λ z. z.0) (λ z. z.0) (λ z. z.0) (λ z. z.0) (λ z. z.0) (λ z. z.0) (λ z. z.0) (λ z. z.0) (λ z. z.0) (λ z. z.0) (λ z. z.0) (λ z. z.0)
    (λ z. z.0)

abbrev pub Layer-OrPart : Claims → Type 0
Layer-OrPart c = open_expr.OrPart-F
    (Both c.part) (Both c.primary) (Both c.unary) (Both c.additive) (Both c.additive_part) (Both c.multiplicative) (Both c.multiplicative_part) (Both c.equality) (Both c.equality_part)
    (Both c.relational) (Both c.relational_part) (Both c.and_part) (Both c.arguments) (Both c.expr) (Both c.init_list) (Both c.logical_and) (Both c.or_part) (Both c.postfix)

abbrev pub parts_or_part : (c : Claims) → Layer-OrPart c → Opened-OrPart
parts_or_part c = map-OrPart
    (Both c.part) (Both c.primary) (Both c.unary) (Both c.additive) (Both c.additive_part) (Both c.multiplicative) (Both c.multiplicative_part) (Both c.equality) (Both c.equality_part)
    (Both c.relational) (Both c.relational_part) (Both c.and_part) (Both c.arguments) (Both c.expr) (Both c.init_list) (Both c.logical_and) (Both c.or_part) (Both c.postfix)
    PostfixPart Primary Unary Additive AdditivePart Multiplicative MultiplicativePart Equality EqualityPart Relational RelationalPart AndPart Arguments Expr InitList LogicalAnd OrPart Postfix
    (λ z. z.0) (λ z. z.0) (λ z. z.0) (λ z. z.0) (λ z. z.0) (λ z. z.0) (λ z. z.0) (λ z. z.0) (λ z. z.0) (λ z. z.0) (λ z. z.0) (λ z. z.0) (λ z. z.0) (λ z. z.0) (λ z. z.0) (λ z. z.0) (λ z. z.0)
    (λ z. z.0)

abbrev pub Layer-Postfix : Claims → Type 0
Layer-Postfix c = open_expr.Postfix-F
    (Both c.part) (Both c.primary) (Both c.unary) (Both c.additive) (Both c.additive_part) (Both c.multiplicative) (Both c.multiplicative_part) (Both c.equality) (Both c.equality_part)
    (Both c.relational) (Both c.relational_part) (Both c.and_part) (Both c.arguments) (Both c.expr) (Both c.init_list) (Both c.logical_and) (Both c.or_part) (Both c.postfix)

abbrev pub parts_postfix : (c : Claims) → Layer-Postfix c → Opened-Postfix
parts_postfix c = map-Postfix
    (Both c.part) (Both c.primary) (Both c.unary) (Both c.additive) (Both c.additive_part) (Both c.multiplicative) (Both c.multiplicative_part) (Both c.equality) (Both c.equality_part)
    (Both c.relational) (Both c.relational_part) (Both c.and_part) (Both c.arguments) (Both c.expr) (Both c.init_list) (Both c.logical_and) (Both c.or_part) (Both c.postfix)
    PostfixPart Primary Unary Additive AdditivePart Multiplicative MultiplicativePart Equality EqualityPart Relational RelationalPart AndPart Arguments Expr InitList LogicalAnd OrPart Postfix
    (λ z. z.0) (λ z. z.0) (λ z. z.0) (λ z. z.0) (λ z. z.0) (λ z. z.0) (λ z. z.0) (λ z. z.0) (λ z. z.0) (λ z. z.0) (λ z. z.0) (λ z. z.0) (λ z. z.0) (λ z. z.0) (λ z. z.0) (λ z. z.0) (λ z. z.0)
    (λ z. z.0)

-- ---- a layer's parts as trees

abbrev pub trees_part : Opened-PostfixPart → open_expr.PostfixPart-F Tree Tree Tree Tree Tree Tree Tree Tree Tree Tree Tree Tree Tree Tree Tree Tree Tree Tree
trees_part = map-PostfixPart PostfixPart Primary Unary Additive AdditivePart Multiplicative MultiplicativePart Equality EqualityPart Relational RelationalPart AndPart Arguments Expr InitList LogicalAnd OrPart Postfix
    Tree Tree Tree Tree Tree Tree Tree Tree Tree Tree Tree Tree Tree Tree Tree Tree Tree Tree
    postfix_part_tree primary_tree unary_tree additive_tree additive_part_tree multiplicative_tree multiplicative_part_tree equality_tree equality_part_tree relational_tree relational_part_tree
    and_part_tree arguments_tree expr_tree init_list_tree logical_and_tree or_part_tree postfix_tree

abbrev pub trees_primary : Opened-Primary → open_expr.Primary-F Tree Tree Tree Tree Tree Tree Tree Tree Tree Tree Tree Tree Tree Tree Tree Tree Tree Tree
trees_primary = map-Primary PostfixPart Primary Unary Additive AdditivePart Multiplicative MultiplicativePart Equality EqualityPart Relational RelationalPart AndPart Arguments Expr InitList LogicalAnd OrPart Postfix
    Tree Tree Tree Tree Tree Tree Tree Tree Tree Tree Tree Tree Tree Tree Tree Tree Tree Tree
    postfix_part_tree primary_tree unary_tree additive_tree additive_part_tree multiplicative_tree multiplicative_part_tree equality_tree equality_part_tree relational_tree relational_part_tree
    and_part_tree arguments_tree expr_tree init_list_tree logical_and_tree or_part_tree postfix_tree

abbrev pub trees_unary : Opened-Unary → open_expr.Unary-F Tree Tree Tree Tree Tree Tree Tree Tree Tree Tree Tree Tree Tree Tree Tree Tree Tree Tree
trees_unary = map-Unary PostfixPart Primary Unary Additive AdditivePart Multiplicative MultiplicativePart Equality EqualityPart Relational RelationalPart AndPart Arguments Expr InitList LogicalAnd OrPart Postfix
    Tree Tree Tree Tree Tree Tree Tree Tree Tree Tree Tree Tree Tree Tree Tree Tree Tree Tree
    postfix_part_tree primary_tree unary_tree additive_tree additive_part_tree multiplicative_tree multiplicative_part_tree equality_tree equality_part_tree relational_tree relational_part_tree
    and_part_tree arguments_tree expr_tree init_list_tree logical_and_tree or_part_tree postfix_tree

abbrev pub trees_additive : Opened-Additive → open_expr.Additive-F Tree Tree Tree Tree Tree Tree Tree Tree Tree Tree Tree Tree Tree Tree Tree Tree Tree Tree
trees_additive = map-Additive PostfixPart Primary Unary Additive AdditivePart Multiplicative MultiplicativePart Equality EqualityPart Relational RelationalPart AndPart Arguments Expr InitList LogicalAnd OrPart Postfix
    Tree Tree Tree Tree Tree Tree Tree Tree Tree Tree Tree Tree Tree Tree Tree Tree Tree Tree
    postfix_part_tree primary_tree unary_tree additive_tree additive_part_tree multiplicative_tree multiplicative_part_tree equality_tree equality_part_tree relational_tree relational_part_tree
    and_part_tree arguments_tree expr_tree init_list_tree logical_and_tree or_part_tree postfix_tree

abbrev pub trees_additive_part : Opened-AdditivePart → open_expr.AdditivePart-F Tree Tree Tree Tree Tree Tree Tree Tree Tree Tree Tree Tree Tree Tree Tree Tree Tree Tree
trees_additive_part = map-AdditivePart PostfixPart Primary Unary Additive AdditivePart Multiplicative MultiplicativePart Equality EqualityPart Relational RelationalPart AndPart Arguments Expr InitList LogicalAnd OrPart Postfix
    Tree Tree Tree Tree Tree Tree Tree Tree Tree Tree Tree Tree Tree Tree Tree Tree Tree Tree
    postfix_part_tree primary_tree unary_tree additive_tree additive_part_tree multiplicative_tree multiplicative_part_tree equality_tree equality_part_tree relational_tree relational_part_tree
    and_part_tree arguments_tree expr_tree init_list_tree logical_and_tree or_part_tree postfix_tree

abbrev pub trees_multiplicative : Opened-Multiplicative → open_expr.Multiplicative-F Tree Tree Tree Tree Tree Tree Tree Tree Tree Tree Tree Tree Tree Tree Tree Tree Tree Tree
trees_multiplicative = map-Multiplicative PostfixPart Primary Unary Additive AdditivePart Multiplicative MultiplicativePart Equality EqualityPart Relational RelationalPart AndPart Arguments Expr InitList LogicalAnd OrPart Postfix
    Tree Tree Tree Tree Tree Tree Tree Tree Tree Tree Tree Tree Tree Tree Tree Tree Tree Tree
    postfix_part_tree primary_tree unary_tree additive_tree additive_part_tree multiplicative_tree multiplicative_part_tree equality_tree equality_part_tree relational_tree relational_part_tree
    and_part_tree arguments_tree expr_tree init_list_tree logical_and_tree or_part_tree postfix_tree

abbrev pub trees_multiplicative_part : Opened-MultiplicativePart → open_expr.MultiplicativePart-F Tree Tree Tree Tree Tree Tree Tree Tree Tree Tree Tree Tree Tree Tree Tree Tree Tree Tree
trees_multiplicative_part = map-MultiplicativePart PostfixPart Primary Unary Additive AdditivePart Multiplicative MultiplicativePart Equality EqualityPart Relational RelationalPart AndPart Arguments Expr InitList LogicalAnd OrPart Postfix
    Tree Tree Tree Tree Tree Tree Tree Tree Tree Tree Tree Tree Tree Tree Tree Tree Tree Tree
    postfix_part_tree primary_tree unary_tree additive_tree additive_part_tree multiplicative_tree multiplicative_part_tree equality_tree equality_part_tree relational_tree relational_part_tree
    and_part_tree arguments_tree expr_tree init_list_tree logical_and_tree or_part_tree postfix_tree

abbrev pub trees_equality : Opened-Equality → open_expr.Equality-F Tree Tree Tree Tree Tree Tree Tree Tree Tree Tree Tree Tree Tree Tree Tree Tree Tree Tree
trees_equality = map-Equality PostfixPart Primary Unary Additive AdditivePart Multiplicative MultiplicativePart Equality EqualityPart Relational RelationalPart AndPart Arguments Expr InitList LogicalAnd OrPart Postfix
    Tree Tree Tree Tree Tree Tree Tree Tree Tree Tree Tree Tree Tree Tree Tree Tree Tree Tree
    postfix_part_tree primary_tree unary_tree additive_tree additive_part_tree multiplicative_tree multiplicative_part_tree equality_tree equality_part_tree relational_tree relational_part_tree
    and_part_tree arguments_tree expr_tree init_list_tree logical_and_tree or_part_tree postfix_tree

abbrev pub trees_equality_part : Opened-EqualityPart → open_expr.EqualityPart-F Tree Tree Tree Tree Tree Tree Tree Tree Tree Tree Tree Tree Tree Tree Tree Tree Tree Tree
trees_equality_part = map-EqualityPart PostfixPart Primary Unary Additive AdditivePart Multiplicative MultiplicativePart Equality EqualityPart Relational RelationalPart AndPart Arguments Expr InitList LogicalAnd OrPart Postfix
    Tree Tree Tree Tree Tree Tree Tree Tree Tree Tree Tree Tree Tree Tree Tree Tree Tree Tree
    postfix_part_tree primary_tree unary_tree additive_tree additive_part_tree multiplicative_tree multiplicative_part_tree equality_tree equality_part_tree relational_tree relational_part_tree
    and_part_tree arguments_tree expr_tree init_list_tree logical_and_tree or_part_tree postfix_tree

abbrev pub trees_relational : Opened-Relational → open_expr.Relational-F Tree Tree Tree Tree Tree Tree Tree Tree Tree Tree Tree Tree Tree Tree Tree Tree Tree Tree
trees_relational = map-Relational PostfixPart Primary Unary Additive AdditivePart Multiplicative MultiplicativePart Equality EqualityPart Relational RelationalPart AndPart Arguments Expr InitList LogicalAnd OrPart Postfix
    Tree Tree Tree Tree Tree Tree Tree Tree Tree Tree Tree Tree Tree Tree Tree Tree Tree Tree
    postfix_part_tree primary_tree unary_tree additive_tree additive_part_tree multiplicative_tree multiplicative_part_tree equality_tree equality_part_tree relational_tree relational_part_tree
    and_part_tree arguments_tree expr_tree init_list_tree logical_and_tree or_part_tree postfix_tree

abbrev pub trees_relational_part : Opened-RelationalPart → open_expr.RelationalPart-F Tree Tree Tree Tree Tree Tree Tree Tree Tree Tree Tree Tree Tree Tree Tree Tree Tree Tree
trees_relational_part = map-RelationalPart PostfixPart Primary Unary Additive AdditivePart Multiplicative MultiplicativePart Equality EqualityPart Relational RelationalPart AndPart Arguments Expr InitList LogicalAnd OrPart Postfix
    Tree Tree Tree Tree Tree Tree Tree Tree Tree Tree Tree Tree Tree Tree Tree Tree Tree Tree
    postfix_part_tree primary_tree unary_tree additive_tree additive_part_tree multiplicative_tree multiplicative_part_tree equality_tree equality_part_tree relational_tree relational_part_tree
    and_part_tree arguments_tree expr_tree init_list_tree logical_and_tree or_part_tree postfix_tree

abbrev pub trees_and_part : Opened-AndPart → open_expr.AndPart-F Tree Tree Tree Tree Tree Tree Tree Tree Tree Tree Tree Tree Tree Tree Tree Tree Tree Tree
trees_and_part = map-AndPart PostfixPart Primary Unary Additive AdditivePart Multiplicative MultiplicativePart Equality EqualityPart Relational RelationalPart AndPart Arguments Expr InitList LogicalAnd OrPart Postfix
    Tree Tree Tree Tree Tree Tree Tree Tree Tree Tree Tree Tree Tree Tree Tree Tree Tree Tree
    postfix_part_tree primary_tree unary_tree additive_tree additive_part_tree multiplicative_tree multiplicative_part_tree equality_tree equality_part_tree relational_tree relational_part_tree
    and_part_tree arguments_tree expr_tree init_list_tree logical_and_tree or_part_tree postfix_tree

abbrev pub trees_arguments : Opened-Arguments → open_expr.Arguments-F Tree Tree Tree Tree Tree Tree Tree Tree Tree Tree Tree Tree Tree Tree Tree Tree Tree Tree
trees_arguments = map-Arguments PostfixPart Primary Unary Additive AdditivePart Multiplicative MultiplicativePart Equality EqualityPart Relational RelationalPart AndPart Arguments Expr InitList LogicalAnd OrPart Postfix
    Tree Tree Tree Tree Tree Tree Tree Tree Tree Tree Tree Tree Tree Tree Tree Tree Tree Tree
    postfix_part_tree primary_tree unary_tree additive_tree additive_part_tree multiplicative_tree multiplicative_part_tree equality_tree equality_part_tree relational_tree relational_part_tree
    and_part_tree arguments_tree expr_tree init_list_tree logical_and_tree or_part_tree postfix_tree

abbrev pub trees_expr : Opened-Expr → open_expr.Expr-F Tree Tree Tree Tree Tree Tree Tree Tree Tree Tree Tree Tree Tree Tree Tree Tree Tree Tree
trees_expr = map-Expr PostfixPart Primary Unary Additive AdditivePart Multiplicative MultiplicativePart Equality EqualityPart Relational RelationalPart AndPart Arguments Expr InitList LogicalAnd OrPart Postfix
    Tree Tree Tree Tree Tree Tree Tree Tree Tree Tree Tree Tree Tree Tree Tree Tree Tree Tree
    postfix_part_tree primary_tree unary_tree additive_tree additive_part_tree multiplicative_tree multiplicative_part_tree equality_tree equality_part_tree relational_tree relational_part_tree
    and_part_tree arguments_tree expr_tree init_list_tree logical_and_tree or_part_tree postfix_tree

abbrev pub trees_init_list : Opened-InitList → open_expr.InitList-F Tree Tree Tree Tree Tree Tree Tree Tree Tree Tree Tree Tree Tree Tree Tree Tree Tree Tree
trees_init_list = map-InitList PostfixPart Primary Unary Additive AdditivePart Multiplicative MultiplicativePart Equality EqualityPart Relational RelationalPart AndPart Arguments Expr InitList LogicalAnd OrPart Postfix
    Tree Tree Tree Tree Tree Tree Tree Tree Tree Tree Tree Tree Tree Tree Tree Tree Tree Tree
    postfix_part_tree primary_tree unary_tree additive_tree additive_part_tree multiplicative_tree multiplicative_part_tree equality_tree equality_part_tree relational_tree relational_part_tree
    and_part_tree arguments_tree expr_tree init_list_tree logical_and_tree or_part_tree postfix_tree

abbrev pub trees_logical_and : Opened-LogicalAnd → open_expr.LogicalAnd-F Tree Tree Tree Tree Tree Tree Tree Tree Tree Tree Tree Tree Tree Tree Tree Tree Tree Tree
trees_logical_and = map-LogicalAnd PostfixPart Primary Unary Additive AdditivePart Multiplicative MultiplicativePart Equality EqualityPart Relational RelationalPart AndPart Arguments Expr InitList LogicalAnd OrPart Postfix
    Tree Tree Tree Tree Tree Tree Tree Tree Tree Tree Tree Tree Tree Tree Tree Tree Tree Tree
    postfix_part_tree primary_tree unary_tree additive_tree additive_part_tree multiplicative_tree multiplicative_part_tree equality_tree equality_part_tree relational_tree relational_part_tree
    and_part_tree arguments_tree expr_tree init_list_tree logical_and_tree or_part_tree postfix_tree

abbrev pub trees_or_part : Opened-OrPart → open_expr.OrPart-F Tree Tree Tree Tree Tree Tree Tree Tree Tree Tree Tree Tree Tree Tree Tree Tree Tree Tree
trees_or_part = map-OrPart PostfixPart Primary Unary Additive AdditivePart Multiplicative MultiplicativePart Equality EqualityPart Relational RelationalPart AndPart Arguments Expr InitList LogicalAnd OrPart Postfix
    Tree Tree Tree Tree Tree Tree Tree Tree Tree Tree Tree Tree Tree Tree Tree Tree Tree Tree
    postfix_part_tree primary_tree unary_tree additive_tree additive_part_tree multiplicative_tree multiplicative_part_tree equality_tree equality_part_tree relational_tree relational_part_tree
    and_part_tree arguments_tree expr_tree init_list_tree logical_and_tree or_part_tree postfix_tree

abbrev pub trees_postfix : Opened-Postfix → open_expr.Postfix-F Tree Tree Tree Tree Tree Tree Tree Tree Tree Tree Tree Tree Tree Tree Tree Tree Tree Tree
trees_postfix = map-Postfix PostfixPart Primary Unary Additive AdditivePart Multiplicative MultiplicativePart Equality EqualityPart Relational RelationalPart AndPart Arguments Expr InitList LogicalAnd OrPart Postfix
    Tree Tree Tree Tree Tree Tree Tree Tree Tree Tree Tree Tree Tree Tree Tree Tree Tree Tree
    postfix_part_tree primary_tree unary_tree additive_tree additive_part_tree multiplicative_tree multiplicative_part_tree equality_tree equality_part_tree relational_tree relational_part_tree
    and_part_tree arguments_tree expr_tree init_list_tree logical_and_tree or_part_tree postfix_tree

-- ---- a layer's parts, settled

abbrev pub settle_part : Opened-PostfixPart → Opened-PostfixPart
settle_part = map-PostfixPart PostfixPart Primary Unary Additive AdditivePart Multiplicative MultiplicativePart Equality EqualityPart Relational RelationalPart AndPart Arguments Expr InitList LogicalAnd OrPart Postfix
    PostfixPart Primary Unary Additive AdditivePart Multiplicative MultiplicativePart Equality EqualityPart Relational RelationalPart AndPart Arguments Expr InitList LogicalAnd OrPart Postfix
    settled_part settled_primary settled_unary settled_additive settled_additive_part settled_multiplicative settled_multiplicative_part settled_equality settled_equality_part settled_relational
    settled_relational_part settled_and_part settled_arguments settled_expr settled_init_list settled_logical_and settled_or_part settled_postfix

abbrev pub settle_primary : Opened-Primary → Opened-Primary
settle_primary = map-Primary PostfixPart Primary Unary Additive AdditivePart Multiplicative MultiplicativePart Equality EqualityPart Relational RelationalPart AndPart Arguments Expr InitList LogicalAnd OrPart Postfix
    PostfixPart Primary Unary Additive AdditivePart Multiplicative MultiplicativePart Equality EqualityPart Relational RelationalPart AndPart Arguments Expr InitList LogicalAnd OrPart Postfix
    settled_part settled_primary settled_unary settled_additive settled_additive_part settled_multiplicative settled_multiplicative_part settled_equality settled_equality_part settled_relational
    settled_relational_part settled_and_part settled_arguments settled_expr settled_init_list settled_logical_and settled_or_part settled_postfix

abbrev pub settle_unary : Opened-Unary → Opened-Unary
settle_unary = map-Unary PostfixPart Primary Unary Additive AdditivePart Multiplicative MultiplicativePart Equality EqualityPart Relational RelationalPart AndPart Arguments Expr InitList LogicalAnd OrPart Postfix
    PostfixPart Primary Unary Additive AdditivePart Multiplicative MultiplicativePart Equality EqualityPart Relational RelationalPart AndPart Arguments Expr InitList LogicalAnd OrPart Postfix
    settled_part settled_primary settled_unary settled_additive settled_additive_part settled_multiplicative settled_multiplicative_part settled_equality settled_equality_part settled_relational
    settled_relational_part settled_and_part settled_arguments settled_expr settled_init_list settled_logical_and settled_or_part settled_postfix

abbrev pub settle_additive : Opened-Additive → Opened-Additive
settle_additive = map-Additive PostfixPart Primary Unary Additive AdditivePart Multiplicative MultiplicativePart Equality EqualityPart Relational RelationalPart AndPart Arguments Expr InitList LogicalAnd OrPart Postfix
    PostfixPart Primary Unary Additive AdditivePart Multiplicative MultiplicativePart Equality EqualityPart Relational RelationalPart AndPart Arguments Expr InitList LogicalAnd OrPart Postfix
    settled_part settled_primary settled_unary settled_additive settled_additive_part settled_multiplicative settled_multiplicative_part settled_equality settled_equality_part settled_relational
    settled_relational_part settled_and_part settled_arguments settled_expr settled_init_list settled_logical_and settled_or_part settled_postfix

abbrev pub settle_additive_part : Opened-AdditivePart → Opened-AdditivePart
settle_additive_part = map-AdditivePart PostfixPart Primary Unary Additive AdditivePart Multiplicative MultiplicativePart Equality EqualityPart Relational RelationalPart AndPart Arguments Expr InitList LogicalAnd OrPart Postfix
    PostfixPart Primary Unary Additive AdditivePart Multiplicative MultiplicativePart Equality EqualityPart Relational RelationalPart AndPart Arguments Expr InitList LogicalAnd OrPart Postfix
    settled_part settled_primary settled_unary settled_additive settled_additive_part settled_multiplicative settled_multiplicative_part settled_equality settled_equality_part settled_relational
    settled_relational_part settled_and_part settled_arguments settled_expr settled_init_list settled_logical_and settled_or_part settled_postfix

abbrev pub settle_multiplicative : Opened-Multiplicative → Opened-Multiplicative
settle_multiplicative = map-Multiplicative PostfixPart Primary Unary Additive AdditivePart Multiplicative MultiplicativePart Equality EqualityPart Relational RelationalPart AndPart Arguments Expr InitList LogicalAnd OrPart Postfix
    PostfixPart Primary Unary Additive AdditivePart Multiplicative MultiplicativePart Equality EqualityPart Relational RelationalPart AndPart Arguments Expr InitList LogicalAnd OrPart Postfix
    settled_part settled_primary settled_unary settled_additive settled_additive_part settled_multiplicative settled_multiplicative_part settled_equality settled_equality_part settled_relational
    settled_relational_part settled_and_part settled_arguments settled_expr settled_init_list settled_logical_and settled_or_part settled_postfix

abbrev pub settle_multiplicative_part : Opened-MultiplicativePart → Opened-MultiplicativePart
settle_multiplicative_part = map-MultiplicativePart PostfixPart Primary Unary Additive AdditivePart Multiplicative MultiplicativePart Equality EqualityPart Relational RelationalPart AndPart Arguments Expr InitList LogicalAnd OrPart Postfix
    PostfixPart Primary Unary Additive AdditivePart Multiplicative MultiplicativePart Equality EqualityPart Relational RelationalPart AndPart Arguments Expr InitList LogicalAnd OrPart Postfix
    settled_part settled_primary settled_unary settled_additive settled_additive_part settled_multiplicative settled_multiplicative_part settled_equality settled_equality_part settled_relational
    settled_relational_part settled_and_part settled_arguments settled_expr settled_init_list settled_logical_and settled_or_part settled_postfix

abbrev pub settle_equality : Opened-Equality → Opened-Equality
settle_equality = map-Equality PostfixPart Primary Unary Additive AdditivePart Multiplicative MultiplicativePart Equality EqualityPart Relational RelationalPart AndPart Arguments Expr InitList LogicalAnd OrPart Postfix
    PostfixPart Primary Unary Additive AdditivePart Multiplicative MultiplicativePart Equality EqualityPart Relational RelationalPart AndPart Arguments Expr InitList LogicalAnd OrPart Postfix
    settled_part settled_primary settled_unary settled_additive settled_additive_part settled_multiplicative settled_multiplicative_part settled_equality settled_equality_part settled_relational
    settled_relational_part settled_and_part settled_arguments settled_expr settled_init_list settled_logical_and settled_or_part settled_postfix

abbrev pub settle_equality_part : Opened-EqualityPart → Opened-EqualityPart
settle_equality_part = map-EqualityPart PostfixPart Primary Unary Additive AdditivePart Multiplicative MultiplicativePart Equality EqualityPart Relational RelationalPart AndPart Arguments Expr InitList LogicalAnd OrPart Postfix
    PostfixPart Primary Unary Additive AdditivePart Multiplicative MultiplicativePart Equality EqualityPart Relational RelationalPart AndPart Arguments Expr InitList LogicalAnd OrPart Postfix
    settled_part settled_primary settled_unary settled_additive settled_additive_part settled_multiplicative settled_multiplicative_part settled_equality settled_equality_part settled_relational
    settled_relational_part settled_and_part settled_arguments settled_expr settled_init_list settled_logical_and settled_or_part settled_postfix

abbrev pub settle_relational : Opened-Relational → Opened-Relational
settle_relational = map-Relational PostfixPart Primary Unary Additive AdditivePart Multiplicative MultiplicativePart Equality EqualityPart Relational RelationalPart AndPart Arguments Expr InitList LogicalAnd OrPart Postfix
    PostfixPart Primary Unary Additive AdditivePart Multiplicative MultiplicativePart Equality EqualityPart Relational RelationalPart AndPart Arguments Expr InitList LogicalAnd OrPart Postfix
    settled_part settled_primary settled_unary settled_additive settled_additive_part settled_multiplicative settled_multiplicative_part settled_equality settled_equality_part settled_relational
    settled_relational_part settled_and_part settled_arguments settled_expr settled_init_list settled_logical_and settled_or_part settled_postfix

abbrev pub settle_relational_part : Opened-RelationalPart → Opened-RelationalPart
settle_relational_part = map-RelationalPart PostfixPart Primary Unary Additive AdditivePart Multiplicative MultiplicativePart Equality EqualityPart Relational RelationalPart AndPart Arguments Expr InitList LogicalAnd OrPart Postfix
    PostfixPart Primary Unary Additive AdditivePart Multiplicative MultiplicativePart Equality EqualityPart Relational RelationalPart AndPart Arguments Expr InitList LogicalAnd OrPart Postfix
    settled_part settled_primary settled_unary settled_additive settled_additive_part settled_multiplicative settled_multiplicative_part settled_equality settled_equality_part settled_relational
    settled_relational_part settled_and_part settled_arguments settled_expr settled_init_list settled_logical_and settled_or_part settled_postfix

abbrev pub settle_and_part : Opened-AndPart → Opened-AndPart
settle_and_part = map-AndPart PostfixPart Primary Unary Additive AdditivePart Multiplicative MultiplicativePart Equality EqualityPart Relational RelationalPart AndPart Arguments Expr InitList LogicalAnd OrPart Postfix
    PostfixPart Primary Unary Additive AdditivePart Multiplicative MultiplicativePart Equality EqualityPart Relational RelationalPart AndPart Arguments Expr InitList LogicalAnd OrPart Postfix
    settled_part settled_primary settled_unary settled_additive settled_additive_part settled_multiplicative settled_multiplicative_part settled_equality settled_equality_part settled_relational
    settled_relational_part settled_and_part settled_arguments settled_expr settled_init_list settled_logical_and settled_or_part settled_postfix

abbrev pub settle_arguments : Opened-Arguments → Opened-Arguments
settle_arguments = map-Arguments PostfixPart Primary Unary Additive AdditivePart Multiplicative MultiplicativePart Equality EqualityPart Relational RelationalPart AndPart Arguments Expr InitList LogicalAnd OrPart Postfix
    PostfixPart Primary Unary Additive AdditivePart Multiplicative MultiplicativePart Equality EqualityPart Relational RelationalPart AndPart Arguments Expr InitList LogicalAnd OrPart Postfix
    settled_part settled_primary settled_unary settled_additive settled_additive_part settled_multiplicative settled_multiplicative_part settled_equality settled_equality_part settled_relational
    settled_relational_part settled_and_part settled_arguments settled_expr settled_init_list settled_logical_and settled_or_part settled_postfix

abbrev pub settle_expr : Opened-Expr → Opened-Expr
settle_expr = map-Expr PostfixPart Primary Unary Additive AdditivePart Multiplicative MultiplicativePart Equality EqualityPart Relational RelationalPart AndPart Arguments Expr InitList LogicalAnd OrPart Postfix
    PostfixPart Primary Unary Additive AdditivePart Multiplicative MultiplicativePart Equality EqualityPart Relational RelationalPart AndPart Arguments Expr InitList LogicalAnd OrPart Postfix
    settled_part settled_primary settled_unary settled_additive settled_additive_part settled_multiplicative settled_multiplicative_part settled_equality settled_equality_part settled_relational
    settled_relational_part settled_and_part settled_arguments settled_expr settled_init_list settled_logical_and settled_or_part settled_postfix

abbrev pub settle_init_list : Opened-InitList → Opened-InitList
settle_init_list = map-InitList PostfixPart Primary Unary Additive AdditivePart Multiplicative MultiplicativePart Equality EqualityPart Relational RelationalPart AndPart Arguments Expr InitList LogicalAnd OrPart Postfix
    PostfixPart Primary Unary Additive AdditivePart Multiplicative MultiplicativePart Equality EqualityPart Relational RelationalPart AndPart Arguments Expr InitList LogicalAnd OrPart Postfix
    settled_part settled_primary settled_unary settled_additive settled_additive_part settled_multiplicative settled_multiplicative_part settled_equality settled_equality_part settled_relational
    settled_relational_part settled_and_part settled_arguments settled_expr settled_init_list settled_logical_and settled_or_part settled_postfix

abbrev pub settle_logical_and : Opened-LogicalAnd → Opened-LogicalAnd
settle_logical_and = map-LogicalAnd PostfixPart Primary Unary Additive AdditivePart Multiplicative MultiplicativePart Equality EqualityPart Relational RelationalPart AndPart Arguments Expr InitList LogicalAnd OrPart Postfix
    PostfixPart Primary Unary Additive AdditivePart Multiplicative MultiplicativePart Equality EqualityPart Relational RelationalPart AndPart Arguments Expr InitList LogicalAnd OrPart Postfix
    settled_part settled_primary settled_unary settled_additive settled_additive_part settled_multiplicative settled_multiplicative_part settled_equality settled_equality_part settled_relational
    settled_relational_part settled_and_part settled_arguments settled_expr settled_init_list settled_logical_and settled_or_part settled_postfix

abbrev pub settle_or_part : Opened-OrPart → Opened-OrPart
settle_or_part = map-OrPart PostfixPart Primary Unary Additive AdditivePart Multiplicative MultiplicativePart Equality EqualityPart Relational RelationalPart AndPart Arguments Expr InitList LogicalAnd OrPart Postfix
    PostfixPart Primary Unary Additive AdditivePart Multiplicative MultiplicativePart Equality EqualityPart Relational RelationalPart AndPart Arguments Expr InitList LogicalAnd OrPart Postfix
    settled_part settled_primary settled_unary settled_additive settled_additive_part settled_multiplicative settled_multiplicative_part settled_equality settled_equality_part settled_relational
    settled_relational_part settled_and_part settled_arguments settled_expr settled_init_list settled_logical_and settled_or_part settled_postfix

abbrev pub settle_postfix : Opened-Postfix → Opened-Postfix
settle_postfix = map-Postfix PostfixPart Primary Unary Additive AdditivePart Multiplicative MultiplicativePart Equality EqualityPart Relational RelationalPart AndPart Arguments Expr InitList LogicalAnd OrPart Postfix
    PostfixPart Primary Unary Additive AdditivePart Multiplicative MultiplicativePart Equality EqualityPart Relational RelationalPart AndPart Arguments Expr InitList LogicalAnd OrPart Postfix
    settled_part settled_primary settled_unary settled_additive settled_additive_part settled_multiplicative settled_multiplicative_part settled_equality settled_equality_part settled_relational
    settled_relational_part settled_and_part settled_arguments settled_expr settled_init_list settled_logical_and settled_or_part settled_postfix

-- ---- what is made of a layer, as a tree and settled

pub tree_of_part : (l : Opened-PostfixPart) → postfix_part_tree (roll-PostfixPart l) ≡ part_step (trees_part l)
tree_of_part = fold-roll-PostfixPart Tree Tree Tree Tree Tree Tree Tree Tree Tree Tree Tree Tree Tree Tree Tree Tree Tree Tree
    part_step primary_step unary_step additive_step additive_part multiplicative_step multiplicative_part equality_step equality_part relational_step relational_part and_part arguments_step expr_step
    init_list_step logical_and_step or_part postfix_step

pub tree_of_primary : (l : Opened-Primary) → primary_tree (roll-Primary l) ≡ primary_step (trees_primary l)
tree_of_primary = fold-roll-Primary Tree Tree Tree Tree Tree Tree Tree Tree Tree Tree Tree Tree Tree Tree Tree Tree Tree Tree
    part_step primary_step unary_step additive_step additive_part multiplicative_step multiplicative_part equality_step equality_part relational_step relational_part and_part arguments_step expr_step
    init_list_step logical_and_step or_part postfix_step

pub tree_of_unary : (l : Opened-Unary) → unary_tree (roll-Unary l) ≡ unary_step (trees_unary l)
tree_of_unary = fold-roll-Unary Tree Tree Tree Tree Tree Tree Tree Tree Tree Tree Tree Tree Tree Tree Tree Tree Tree Tree
    part_step primary_step unary_step additive_step additive_part multiplicative_step multiplicative_part equality_step equality_part relational_step relational_part and_part arguments_step expr_step
    init_list_step logical_and_step or_part postfix_step

pub tree_of_additive : (l : Opened-Additive) → additive_tree (roll-Additive l) ≡ additive_step (trees_additive l)
tree_of_additive = fold-roll-Additive Tree Tree Tree Tree Tree Tree Tree Tree Tree Tree Tree Tree Tree Tree Tree Tree Tree Tree
    part_step primary_step unary_step additive_step additive_part multiplicative_step multiplicative_part equality_step equality_part relational_step relational_part and_part arguments_step expr_step
    init_list_step logical_and_step or_part postfix_step

pub tree_of_additive_part : (l : Opened-AdditivePart) → additive_part_tree (roll-AdditivePart l) ≡ additive_part (trees_additive_part l)
tree_of_additive_part = fold-roll-AdditivePart Tree Tree Tree Tree Tree Tree Tree Tree Tree Tree Tree Tree Tree Tree Tree Tree Tree Tree
    part_step primary_step unary_step additive_step additive_part multiplicative_step multiplicative_part equality_step equality_part relational_step relational_part and_part arguments_step expr_step
    init_list_step logical_and_step or_part postfix_step

pub tree_of_multiplicative : (l : Opened-Multiplicative) → multiplicative_tree (roll-Multiplicative l) ≡ multiplicative_step (trees_multiplicative l)
tree_of_multiplicative = fold-roll-Multiplicative Tree Tree Tree Tree Tree Tree Tree Tree Tree Tree Tree Tree Tree Tree Tree Tree Tree Tree
    part_step primary_step unary_step additive_step additive_part multiplicative_step multiplicative_part equality_step equality_part relational_step relational_part and_part arguments_step expr_step
    init_list_step logical_and_step or_part postfix_step

pub tree_of_multiplicative_part : (l : Opened-MultiplicativePart) → multiplicative_part_tree (roll-MultiplicativePart l) ≡ multiplicative_part (trees_multiplicative_part l)
tree_of_multiplicative_part = fold-roll-MultiplicativePart Tree Tree Tree Tree Tree Tree Tree Tree Tree Tree Tree Tree Tree Tree Tree Tree Tree Tree
    part_step primary_step unary_step additive_step additive_part multiplicative_step multiplicative_part equality_step equality_part relational_step relational_part and_part arguments_step expr_step
    init_list_step logical_and_step or_part postfix_step

pub tree_of_equality : (l : Opened-Equality) → equality_tree (roll-Equality l) ≡ equality_step (trees_equality l)
tree_of_equality = fold-roll-Equality Tree Tree Tree Tree Tree Tree Tree Tree Tree Tree Tree Tree Tree Tree Tree Tree Tree Tree
    part_step primary_step unary_step additive_step additive_part multiplicative_step multiplicative_part equality_step equality_part relational_step relational_part and_part arguments_step expr_step
    init_list_step logical_and_step or_part postfix_step

pub tree_of_equality_part : (l : Opened-EqualityPart) → equality_part_tree (roll-EqualityPart l) ≡ equality_part (trees_equality_part l)
tree_of_equality_part = fold-roll-EqualityPart Tree Tree Tree Tree Tree Tree Tree Tree Tree Tree Tree Tree Tree Tree Tree Tree Tree Tree
    part_step primary_step unary_step additive_step additive_part multiplicative_step multiplicative_part equality_step equality_part relational_step relational_part and_part arguments_step expr_step
    init_list_step logical_and_step or_part postfix_step

pub tree_of_relational : (l : Opened-Relational) → relational_tree (roll-Relational l) ≡ relational_step (trees_relational l)
tree_of_relational = fold-roll-Relational Tree Tree Tree Tree Tree Tree Tree Tree Tree Tree Tree Tree Tree Tree Tree Tree Tree Tree
    part_step primary_step unary_step additive_step additive_part multiplicative_step multiplicative_part equality_step equality_part relational_step relational_part and_part arguments_step expr_step
    init_list_step logical_and_step or_part postfix_step

pub tree_of_relational_part : (l : Opened-RelationalPart) → relational_part_tree (roll-RelationalPart l) ≡ relational_part (trees_relational_part l)
tree_of_relational_part = fold-roll-RelationalPart Tree Tree Tree Tree Tree Tree Tree Tree Tree Tree Tree Tree Tree Tree Tree Tree Tree Tree
    part_step primary_step unary_step additive_step additive_part multiplicative_step multiplicative_part equality_step equality_part relational_step relational_part and_part arguments_step expr_step
    init_list_step logical_and_step or_part postfix_step

pub tree_of_and_part : (l : Opened-AndPart) → and_part_tree (roll-AndPart l) ≡ and_part (trees_and_part l)
tree_of_and_part = fold-roll-AndPart Tree Tree Tree Tree Tree Tree Tree Tree Tree Tree Tree Tree Tree Tree Tree Tree Tree Tree
    part_step primary_step unary_step additive_step additive_part multiplicative_step multiplicative_part equality_step equality_part relational_step relational_part and_part arguments_step expr_step
    init_list_step logical_and_step or_part postfix_step

pub tree_of_arguments : (l : Opened-Arguments) → arguments_tree (roll-Arguments l) ≡ arguments_step (trees_arguments l)
tree_of_arguments = fold-roll-Arguments Tree Tree Tree Tree Tree Tree Tree Tree Tree Tree Tree Tree Tree Tree Tree Tree Tree Tree
    part_step primary_step unary_step additive_step additive_part multiplicative_step multiplicative_part equality_step equality_part relational_step relational_part and_part arguments_step expr_step
    init_list_step logical_and_step or_part postfix_step

pub tree_of_expr : (l : Opened-Expr) → expr_tree (roll-Expr l) ≡ expr_step (trees_expr l)
tree_of_expr = fold-roll-Expr Tree Tree Tree Tree Tree Tree Tree Tree Tree Tree Tree Tree Tree Tree Tree Tree Tree Tree
    part_step primary_step unary_step additive_step additive_part multiplicative_step multiplicative_part equality_step equality_part relational_step relational_part and_part arguments_step expr_step
    init_list_step logical_and_step or_part postfix_step

pub tree_of_init_list : (l : Opened-InitList) → init_list_tree (roll-InitList l) ≡ init_list_step (trees_init_list l)
tree_of_init_list = fold-roll-InitList Tree Tree Tree Tree Tree Tree Tree Tree Tree Tree Tree Tree Tree Tree Tree Tree Tree Tree
    part_step primary_step unary_step additive_step additive_part multiplicative_step multiplicative_part equality_step equality_part relational_step relational_part and_part arguments_step expr_step
    init_list_step logical_and_step or_part postfix_step

pub tree_of_logical_and : (l : Opened-LogicalAnd) → logical_and_tree (roll-LogicalAnd l) ≡ logical_and_step (trees_logical_and l)
tree_of_logical_and = fold-roll-LogicalAnd Tree Tree Tree Tree Tree Tree Tree Tree Tree Tree Tree Tree Tree Tree Tree Tree Tree Tree
    part_step primary_step unary_step additive_step additive_part multiplicative_step multiplicative_part equality_step equality_part relational_step relational_part and_part arguments_step expr_step
    init_list_step logical_and_step or_part postfix_step

pub tree_of_or_part : (l : Opened-OrPart) → or_part_tree (roll-OrPart l) ≡ or_part (trees_or_part l)
tree_of_or_part = fold-roll-OrPart Tree Tree Tree Tree Tree Tree Tree Tree Tree Tree Tree Tree Tree Tree Tree Tree Tree Tree
    part_step primary_step unary_step additive_step additive_part multiplicative_step multiplicative_part equality_step equality_part relational_step relational_part and_part arguments_step expr_step
    init_list_step logical_and_step or_part postfix_step

pub tree_of_postfix : (l : Opened-Postfix) → postfix_tree (roll-Postfix l) ≡ postfix_step (trees_postfix l)
tree_of_postfix = fold-roll-Postfix Tree Tree Tree Tree Tree Tree Tree Tree Tree Tree Tree Tree Tree Tree Tree Tree Tree Tree
    part_step primary_step unary_step additive_step additive_part multiplicative_step multiplicative_part equality_step equality_part relational_step relational_part and_part arguments_step expr_step
    init_list_step logical_and_step or_part postfix_step

pub settled_of_part : (l : Opened-PostfixPart) → settled_part (roll-PostfixPart l) ≡ kept_part (settle_part l)
settled_of_part = fold-roll-PostfixPart PostfixPart Primary Unary Additive AdditivePart Multiplicative MultiplicativePart Equality EqualityPart Relational RelationalPart AndPart Arguments Expr InitList LogicalAnd OrPart Postfix
    kept_part kept_primary kept_unary kept_additive roll-AdditivePart kept_multiplicative roll-MultiplicativePart kept_equality roll-EqualityPart kept_relational roll-RelationalPart roll-AndPart
    kept_arguments kept_expr kept_init_list kept_logical_and roll-OrPart kept_postfix

pub settled_of_primary : (l : Opened-Primary) → settled_primary (roll-Primary l) ≡ kept_primary (settle_primary l)
settled_of_primary = fold-roll-Primary PostfixPart Primary Unary Additive AdditivePart Multiplicative MultiplicativePart Equality EqualityPart Relational RelationalPart AndPart Arguments Expr InitList LogicalAnd OrPart Postfix
    kept_part kept_primary kept_unary kept_additive roll-AdditivePart kept_multiplicative roll-MultiplicativePart kept_equality roll-EqualityPart kept_relational roll-RelationalPart roll-AndPart
    kept_arguments kept_expr kept_init_list kept_logical_and roll-OrPart kept_postfix

pub settled_of_unary : (l : Opened-Unary) → settled_unary (roll-Unary l) ≡ kept_unary (settle_unary l)
settled_of_unary = fold-roll-Unary PostfixPart Primary Unary Additive AdditivePart Multiplicative MultiplicativePart Equality EqualityPart Relational RelationalPart AndPart Arguments Expr InitList LogicalAnd OrPart Postfix
    kept_part kept_primary kept_unary kept_additive roll-AdditivePart kept_multiplicative roll-MultiplicativePart kept_equality roll-EqualityPart kept_relational roll-RelationalPart roll-AndPart
    kept_arguments kept_expr kept_init_list kept_logical_and roll-OrPart kept_postfix

pub settled_of_additive : (l : Opened-Additive) → settled_additive (roll-Additive l) ≡ kept_additive (settle_additive l)
settled_of_additive = fold-roll-Additive PostfixPart Primary Unary Additive AdditivePart Multiplicative MultiplicativePart Equality EqualityPart Relational RelationalPart AndPart Arguments Expr InitList LogicalAnd OrPart Postfix
    kept_part kept_primary kept_unary kept_additive roll-AdditivePart kept_multiplicative roll-MultiplicativePart kept_equality roll-EqualityPart kept_relational roll-RelationalPart roll-AndPart
    kept_arguments kept_expr kept_init_list kept_logical_and roll-OrPart kept_postfix

pub settled_of_additive_part : (l : Opened-AdditivePart) → settled_additive_part (roll-AdditivePart l) ≡ roll-AdditivePart (settle_additive_part l)
settled_of_additive_part = fold-roll-AdditivePart PostfixPart Primary Unary Additive AdditivePart Multiplicative MultiplicativePart Equality EqualityPart Relational RelationalPart AndPart Arguments Expr InitList LogicalAnd OrPart Postfix
    kept_part kept_primary kept_unary kept_additive roll-AdditivePart kept_multiplicative roll-MultiplicativePart kept_equality roll-EqualityPart kept_relational roll-RelationalPart roll-AndPart
    kept_arguments kept_expr kept_init_list kept_logical_and roll-OrPart kept_postfix

pub settled_of_multiplicative : (l : Opened-Multiplicative) → settled_multiplicative (roll-Multiplicative l) ≡ kept_multiplicative (settle_multiplicative l)
settled_of_multiplicative = fold-roll-Multiplicative PostfixPart Primary Unary Additive AdditivePart Multiplicative MultiplicativePart Equality EqualityPart Relational RelationalPart AndPart Arguments Expr InitList LogicalAnd OrPart Postfix
    kept_part kept_primary kept_unary kept_additive roll-AdditivePart kept_multiplicative roll-MultiplicativePart kept_equality roll-EqualityPart kept_relational roll-RelationalPart roll-AndPart
    kept_arguments kept_expr kept_init_list kept_logical_and roll-OrPart kept_postfix

pub settled_of_multiplicative_part : (l : Opened-MultiplicativePart) → settled_multiplicative_part (roll-MultiplicativePart l) ≡ roll-MultiplicativePart (settle_multiplicative_part l)
settled_of_multiplicative_part = fold-roll-MultiplicativePart PostfixPart Primary Unary Additive AdditivePart Multiplicative MultiplicativePart Equality EqualityPart Relational RelationalPart AndPart Arguments Expr InitList LogicalAnd OrPart Postfix
    kept_part kept_primary kept_unary kept_additive roll-AdditivePart kept_multiplicative roll-MultiplicativePart kept_equality roll-EqualityPart kept_relational roll-RelationalPart roll-AndPart
    kept_arguments kept_expr kept_init_list kept_logical_and roll-OrPart kept_postfix

pub settled_of_equality : (l : Opened-Equality) → settled_equality (roll-Equality l) ≡ kept_equality (settle_equality l)
settled_of_equality = fold-roll-Equality PostfixPart Primary Unary Additive AdditivePart Multiplicative MultiplicativePart Equality EqualityPart Relational RelationalPart AndPart Arguments Expr InitList LogicalAnd OrPart Postfix
    kept_part kept_primary kept_unary kept_additive roll-AdditivePart kept_multiplicative roll-MultiplicativePart kept_equality roll-EqualityPart kept_relational roll-RelationalPart roll-AndPart
    kept_arguments kept_expr kept_init_list kept_logical_and roll-OrPart kept_postfix

pub settled_of_equality_part : (l : Opened-EqualityPart) → settled_equality_part (roll-EqualityPart l) ≡ roll-EqualityPart (settle_equality_part l)
settled_of_equality_part = fold-roll-EqualityPart PostfixPart Primary Unary Additive AdditivePart Multiplicative MultiplicativePart Equality EqualityPart Relational RelationalPart AndPart Arguments Expr InitList LogicalAnd OrPart Postfix
    kept_part kept_primary kept_unary kept_additive roll-AdditivePart kept_multiplicative roll-MultiplicativePart kept_equality roll-EqualityPart kept_relational roll-RelationalPart roll-AndPart
    kept_arguments kept_expr kept_init_list kept_logical_and roll-OrPart kept_postfix

pub settled_of_relational : (l : Opened-Relational) → settled_relational (roll-Relational l) ≡ kept_relational (settle_relational l)
settled_of_relational = fold-roll-Relational PostfixPart Primary Unary Additive AdditivePart Multiplicative MultiplicativePart Equality EqualityPart Relational RelationalPart AndPart Arguments Expr InitList LogicalAnd OrPart Postfix
    kept_part kept_primary kept_unary kept_additive roll-AdditivePart kept_multiplicative roll-MultiplicativePart kept_equality roll-EqualityPart kept_relational roll-RelationalPart roll-AndPart
    kept_arguments kept_expr kept_init_list kept_logical_and roll-OrPart kept_postfix

pub settled_of_relational_part : (l : Opened-RelationalPart) → settled_relational_part (roll-RelationalPart l) ≡ roll-RelationalPart (settle_relational_part l)
settled_of_relational_part = fold-roll-RelationalPart PostfixPart Primary Unary Additive AdditivePart Multiplicative MultiplicativePart Equality EqualityPart Relational RelationalPart AndPart Arguments Expr InitList LogicalAnd OrPart Postfix
    kept_part kept_primary kept_unary kept_additive roll-AdditivePart kept_multiplicative roll-MultiplicativePart kept_equality roll-EqualityPart kept_relational roll-RelationalPart roll-AndPart
    kept_arguments kept_expr kept_init_list kept_logical_and roll-OrPart kept_postfix

pub settled_of_and_part : (l : Opened-AndPart) → settled_and_part (roll-AndPart l) ≡ roll-AndPart (settle_and_part l)
settled_of_and_part = fold-roll-AndPart PostfixPart Primary Unary Additive AdditivePart Multiplicative MultiplicativePart Equality EqualityPart Relational RelationalPart AndPart Arguments Expr InitList LogicalAnd OrPart Postfix
    kept_part kept_primary kept_unary kept_additive roll-AdditivePart kept_multiplicative roll-MultiplicativePart kept_equality roll-EqualityPart kept_relational roll-RelationalPart roll-AndPart
    kept_arguments kept_expr kept_init_list kept_logical_and roll-OrPart kept_postfix

pub settled_of_arguments : (l : Opened-Arguments) → settled_arguments (roll-Arguments l) ≡ kept_arguments (settle_arguments l)
settled_of_arguments = fold-roll-Arguments PostfixPart Primary Unary Additive AdditivePart Multiplicative MultiplicativePart Equality EqualityPart Relational RelationalPart AndPart Arguments Expr InitList LogicalAnd OrPart Postfix
    kept_part kept_primary kept_unary kept_additive roll-AdditivePart kept_multiplicative roll-MultiplicativePart kept_equality roll-EqualityPart kept_relational roll-RelationalPart roll-AndPart
    kept_arguments kept_expr kept_init_list kept_logical_and roll-OrPart kept_postfix

pub settled_of_expr : (l : Opened-Expr) → settled_expr (roll-Expr l) ≡ kept_expr (settle_expr l)
settled_of_expr = fold-roll-Expr PostfixPart Primary Unary Additive AdditivePart Multiplicative MultiplicativePart Equality EqualityPart Relational RelationalPart AndPart Arguments Expr InitList LogicalAnd OrPart Postfix
    kept_part kept_primary kept_unary kept_additive roll-AdditivePart kept_multiplicative roll-MultiplicativePart kept_equality roll-EqualityPart kept_relational roll-RelationalPart roll-AndPart
    kept_arguments kept_expr kept_init_list kept_logical_and roll-OrPart kept_postfix

pub settled_of_init_list : (l : Opened-InitList) → settled_init_list (roll-InitList l) ≡ kept_init_list (settle_init_list l)
settled_of_init_list = fold-roll-InitList PostfixPart Primary Unary Additive AdditivePart Multiplicative MultiplicativePart Equality EqualityPart Relational RelationalPart AndPart Arguments Expr InitList LogicalAnd OrPart Postfix
    kept_part kept_primary kept_unary kept_additive roll-AdditivePart kept_multiplicative roll-MultiplicativePart kept_equality roll-EqualityPart kept_relational roll-RelationalPart roll-AndPart
    kept_arguments kept_expr kept_init_list kept_logical_and roll-OrPart kept_postfix

pub settled_of_logical_and : (l : Opened-LogicalAnd) → settled_logical_and (roll-LogicalAnd l) ≡ kept_logical_and (settle_logical_and l)
settled_of_logical_and = fold-roll-LogicalAnd PostfixPart Primary Unary Additive AdditivePart Multiplicative MultiplicativePart Equality EqualityPart Relational RelationalPart AndPart Arguments Expr InitList LogicalAnd OrPart Postfix
    kept_part kept_primary kept_unary kept_additive roll-AdditivePart kept_multiplicative roll-MultiplicativePart kept_equality roll-EqualityPart kept_relational roll-RelationalPart roll-AndPart
    kept_arguments kept_expr kept_init_list kept_logical_and roll-OrPart kept_postfix

pub settled_of_or_part : (l : Opened-OrPart) → settled_or_part (roll-OrPart l) ≡ roll-OrPart (settle_or_part l)
settled_of_or_part = fold-roll-OrPart PostfixPart Primary Unary Additive AdditivePart Multiplicative MultiplicativePart Equality EqualityPart Relational RelationalPart AndPart Arguments Expr InitList LogicalAnd OrPart Postfix
    kept_part kept_primary kept_unary kept_additive roll-AdditivePart kept_multiplicative roll-MultiplicativePart kept_equality roll-EqualityPart kept_relational roll-RelationalPart roll-AndPart
    kept_arguments kept_expr kept_init_list kept_logical_and roll-OrPart kept_postfix

pub settled_of_postfix : (l : Opened-Postfix) → settled_postfix (roll-Postfix l) ≡ kept_postfix (settle_postfix l)
settled_of_postfix = fold-roll-Postfix PostfixPart Primary Unary Additive AdditivePart Multiplicative MultiplicativePart Equality EqualityPart Relational RelationalPart AndPart Arguments Expr InitList LogicalAnd OrPart Postfix
    kept_part kept_primary kept_unary kept_additive roll-AdditivePart kept_multiplicative roll-MultiplicativePart kept_equality roll-EqualityPart kept_relational roll-RelationalPart roll-AndPart
    kept_arguments kept_expr kept_init_list kept_logical_and roll-OrPart kept_postfix
