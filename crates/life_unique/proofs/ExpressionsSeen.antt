-- A fold over an expression that looks at no address, and at no list's room, sees no difference when the expression is settled.
-- For each type: what is claimed of it, a layer of parts of which it holds, and that it holds of what such a layer makes.
use Rattle.std.proofs.Common.{◌≡◌, List, [], ◌∷◌, None, Some, map, refl, ap, sym, subst, ◌∙◌}
use Rattle.life_unique.proofs.Lists.{Both, same_settled}
use Rattle.life_unique.specs.Standing.{settled_list}
use Rattle.life_tree.specs.declared.primary.PostfixPart.{PostfixPart, roll-PostfixPart}
use Rattle.life_tree.specs.declared.primary.Primary.{Primary, roll-Primary}
use Rattle.life_tree.specs.declared.primary.Unary.{Unary, roll-Unary}
use Rattle.life_tree.specs.declared.arithmetic.Additive.{Additive, roll-Additive}
use Rattle.life_tree.specs.declared.arithmetic.AdditivePart.{AdditivePart, roll-AdditivePart}
use Rattle.life_tree.specs.declared.arithmetic.Multiplicative.{Multiplicative, roll-Multiplicative}
use Rattle.life_tree.specs.declared.arithmetic.MultiplicativePart.{MultiplicativePart, roll-MultiplicativePart}
use Rattle.life_tree.specs.declared.comparison.Equality.{Equality, roll-Equality}
use Rattle.life_tree.specs.declared.comparison.EqualityPart.{EqualityPart, roll-EqualityPart}
use Rattle.life_tree.specs.declared.comparison.Relational.{Relational, roll-Relational}
use Rattle.life_tree.specs.declared.comparison.RelationalPart.{RelationalPart, roll-RelationalPart}
use Rattle.life_tree.specs.declared.expr.AndPart.{AndPart, roll-AndPart}
use Rattle.life_tree.specs.declared.expr.Arguments.{Arguments, roll-Arguments}
use Rattle.life_tree.specs.declared.expr.Expr.{Expr, roll-Expr}
use Rattle.life_tree.specs.declared.expr.InitList.{InitList, roll-InitList}
use Rattle.life_tree.specs.declared.expr.LogicalAnd.{LogicalAnd, roll-LogicalAnd}
use Rattle.life_tree.specs.declared.expr.OrPart.{OrPart, roll-OrPart}
use Rattle.life_tree.specs.declared.primary.Postfix.{Postfix, roll-Postfix}
use Rattle.life_tree.specs.declared.primary.PostfixPart.TheFolds.{fold-PostfixPart, fold-Primary, fold-Unary, fold-Additive, fold-AdditivePart, fold-Multiplicative, fold-MultiplicativePart, fold-Equality, fold-EqualityPart, fold-Relational, fold-RelationalPart, fold-AndPart, fold-Arguments, fold-Expr, fold-InitList, fold-LogicalAnd, fold-OrPart, fold-Postfix}
use Rattle.life_tree.specs.declared.primary.PostfixPart.TheFolds.{fold-roll-PostfixPart, fold-roll-Primary, fold-roll-Unary, fold-roll-Additive, fold-roll-AdditivePart, fold-roll-Multiplicative, fold-roll-MultiplicativePart, fold-roll-Equality, fold-roll-EqualityPart, fold-roll-Relational, fold-roll-RelationalPart, fold-roll-AndPart, fold-roll-Arguments, fold-roll-Expr, fold-roll-InitList, fold-roll-LogicalAnd, fold-roll-OrPart, fold-roll-Postfix}
use Rattle.life_tree.specs.declared.primary.PostfixPart.TheFolds.{ind-Additive, ind-Expr, ind-InitList, ind-Postfix}
use Rattle.life_tree.specs.declared.primary.PostfixPart.TheFolds.{map-PostfixPart, map-Primary, map-Unary, map-Additive, map-AdditivePart, map-Multiplicative, map-MultiplicativePart, map-Equality, map-EqualityPart, map-Relational, map-RelationalPart, map-AndPart, map-Arguments, map-Expr, map-InitList, map-LogicalAnd, map-OrPart, map-Postfix}
use Rattle.life_tree.specs.declared.primary.PostfixPart.TheOpen as open_expr
use Rattle.life_unique.proofs.ExpressionLayers.{settle_part, settle_primary, settle_unary, settle_additive, settle_additive_part, settle_multiplicative, settle_multiplicative_part, settle_equality, settle_equality_part, settle_relational, settle_relational_part, settle_and_part, settle_arguments, settle_expr, settle_init_list, settle_logical_and, settle_or_part, settle_postfix}
use Rattle.life_unique.proofs.ExpressionLayers.{Claims, Layer-PostfixPart, Layer-Primary, Layer-Unary, Layer-Additive, Layer-AdditivePart, Layer-Multiplicative, Layer-MultiplicativePart, Layer-Equality, Layer-EqualityPart, Layer-Relational, Layer-RelationalPart, Layer-AndPart, Layer-Arguments, Layer-Expr, Layer-InitList, Layer-LogicalAnd, Layer-OrPart, Layer-Postfix}
use Rattle.life_unique.proofs.ExpressionLayers.{parts_part, parts_primary, parts_unary, parts_additive, parts_additive_part, parts_multiplicative, parts_multiplicative_part, parts_equality, parts_equality_part, parts_relational, parts_relational_part, parts_and_part, parts_arguments, parts_expr, parts_init_list, parts_logical_and, parts_or_part, parts_postfix}
use Rattle.life_unique.proofs.ExpressionLayers.{settled_of_part, settled_of_primary, settled_of_unary, settled_of_additive, settled_of_additive_part, settled_of_multiplicative, settled_of_multiplicative_part, settled_of_equality, settled_of_equality_part, settled_of_relational, settled_of_relational_part, settled_of_and_part, settled_of_arguments, settled_of_expr, settled_of_init_list, settled_of_logical_and, settled_of_or_part, settled_of_postfix}
use Rattle.life_unique.specs.SettledExpressions.{Opened-PostfixPart, Opened-Primary, Opened-Unary, Opened-Additive, Opened-AdditivePart, Opened-Multiplicative, Opened-MultiplicativePart, Opened-Equality, Opened-EqualityPart, Opened-Relational, Opened-RelationalPart, Opened-AndPart, Opened-Arguments, Opened-Expr, Opened-InitList, Opened-LogicalAnd, Opened-OrPart, Opened-Postfix}
use Rattle.life_unique.specs.SettledExpressions.{bare_part, bare_primary, bare_unary, bare_additive, bare_multiplicative, bare_equality, bare_relational, bare_arguments, bare_expr, bare_init_list, bare_logical_and, bare_postfix}
use Rattle.life_unique.specs.SettledExpressions.{settled_part, settled_primary, settled_unary, settled_additive, settled_additive_part, settled_multiplicative, settled_multiplicative_part, settled_equality, settled_equality_part, settled_relational, settled_relational_part, settled_and_part, settled_arguments, settled_expr, settled_init_list, settled_logical_and, settled_or_part, settled_postfix}

module _ (A B C D E F G H I J K L M N O P Q R : Type 0)
    (part_step : open_expr.PostfixPart-F A B C D E F G H I J K L M N O P Q R → A)
    (primary_step : open_expr.Primary-F A B C D E F G H I J K L M N O P Q R → B)
    (unary_step : open_expr.Unary-F A B C D E F G H I J K L M N O P Q R → C)
    (additive_step : open_expr.Additive-F A B C D E F G H I J K L M N O P Q R → D)
    (additive_part_step : open_expr.AdditivePart-F A B C D E F G H I J K L M N O P Q R → E)
    (multiplicative_step : open_expr.Multiplicative-F A B C D E F G H I J K L M N O P Q R → F)
    (multiplicative_part_step : open_expr.MultiplicativePart-F A B C D E F G H I J K L M N O P Q R → G)
    (equality_step : open_expr.Equality-F A B C D E F G H I J K L M N O P Q R → H)
    (equality_part_step : open_expr.EqualityPart-F A B C D E F G H I J K L M N O P Q R → I)
    (relational_step : open_expr.Relational-F A B C D E F G H I J K L M N O P Q R → J)
    (relational_part_step : open_expr.RelationalPart-F A B C D E F G H I J K L M N O P Q R → K)
    (and_part_step : open_expr.AndPart-F A B C D E F G H I J K L M N O P Q R → L)
    (arguments_step : open_expr.Arguments-F A B C D E F G H I J K L M N O P Q R → M)
    (expr_step : open_expr.Expr-F A B C D E F G H I J K L M N O P Q R → N)
    (init_list_step : open_expr.InitList-F A B C D E F G H I J K L M N O P Q R → O)
    (logical_and_step : open_expr.LogicalAnd-F A B C D E F G H I J K L M N O P Q R → P)
    (or_part_step : open_expr.OrPart-F A B C D E F G H I J K L M N O P Q R → Q)
    (postfix_step : open_expr.Postfix-F A B C D E F G H I J K L M N O P Q R → R)
    (part_blind : (l : open_expr.PostfixPart-F A B C D E F G H I J K L M N O P Q R) → part_step (bare_part l) ≡ part_step l)
    (primary_blind : (l : open_expr.Primary-F A B C D E F G H I J K L M N O P Q R) → primary_step (bare_primary l) ≡ primary_step l)
    (unary_blind : (l : open_expr.Unary-F A B C D E F G H I J K L M N O P Q R) → unary_step (bare_unary l) ≡ unary_step l)
    (additive_blind : (l : open_expr.Additive-F A B C D E F G H I J K L M N O P Q R) → additive_step (bare_additive l) ≡ additive_step l)
    (multiplicative_blind : (l : open_expr.Multiplicative-F A B C D E F G H I J K L M N O P Q R) → multiplicative_step (bare_multiplicative l) ≡ multiplicative_step l)
    (equality_blind : (l : open_expr.Equality-F A B C D E F G H I J K L M N O P Q R) → equality_step (bare_equality l) ≡ equality_step l)
    (relational_blind : (l : open_expr.Relational-F A B C D E F G H I J K L M N O P Q R) → relational_step (bare_relational l) ≡ relational_step l)
    (arguments_blind : (l : open_expr.Arguments-F A B C D E F G H I J K L M N O P Q R) → arguments_step (bare_arguments l) ≡ arguments_step l)
    (expr_blind : (l : open_expr.Expr-F A B C D E F G H I J K L M N O P Q R) → expr_step (bare_expr l) ≡ expr_step l)
    (init_list_blind : (l : open_expr.InitList-F A B C D E F G H I J K L M N O P Q R) → init_list_step (bare_init_list l) ≡ init_list_step l)
    (logical_and_blind : (l : open_expr.LogicalAnd-F A B C D E F G H I J K L M N O P Q R) → logical_and_step (bare_logical_and l) ≡ logical_and_step l)
    (postfix_blind : (l : open_expr.Postfix-F A B C D E F G H I J K L M N O P Q R) → postfix_step (bare_postfix l) ≡ postfix_step l) where
  abbrev of_part : PostfixPart → A
  of_part = fold-PostfixPart A B C D E F G H I J K L M N O P Q R
      part_step primary_step unary_step additive_step additive_part_step multiplicative_step multiplicative_part_step equality_step equality_part_step relational_step relational_part_step
      and_part_step arguments_step expr_step init_list_step logical_and_step or_part_step postfix_step

  abbrev of_primary : Primary → B
  of_primary = fold-Primary A B C D E F G H I J K L M N O P Q R
      part_step primary_step unary_step additive_step additive_part_step multiplicative_step multiplicative_part_step equality_step equality_part_step relational_step relational_part_step
      and_part_step arguments_step expr_step init_list_step logical_and_step or_part_step postfix_step

  abbrev of_unary : Unary → C
  of_unary = fold-Unary A B C D E F G H I J K L M N O P Q R
      part_step primary_step unary_step additive_step additive_part_step multiplicative_step multiplicative_part_step equality_step equality_part_step relational_step relational_part_step
      and_part_step arguments_step expr_step init_list_step logical_and_step or_part_step postfix_step

  abbrev of_additive : Additive → D
  of_additive = fold-Additive A B C D E F G H I J K L M N O P Q R
      part_step primary_step unary_step additive_step additive_part_step multiplicative_step multiplicative_part_step equality_step equality_part_step relational_step relational_part_step
      and_part_step arguments_step expr_step init_list_step logical_and_step or_part_step postfix_step

  abbrev of_additive_part : AdditivePart → E
  of_additive_part = fold-AdditivePart A B C D E F G H I J K L M N O P Q R
      part_step primary_step unary_step additive_step additive_part_step multiplicative_step multiplicative_part_step equality_step equality_part_step relational_step relational_part_step
      and_part_step arguments_step expr_step init_list_step logical_and_step or_part_step postfix_step

  abbrev of_multiplicative : Multiplicative → F
  of_multiplicative = fold-Multiplicative A B C D E F G H I J K L M N O P Q R
      part_step primary_step unary_step additive_step additive_part_step multiplicative_step multiplicative_part_step equality_step equality_part_step relational_step relational_part_step
      and_part_step arguments_step expr_step init_list_step logical_and_step or_part_step postfix_step

  abbrev of_multiplicative_part : MultiplicativePart → G
  of_multiplicative_part = fold-MultiplicativePart A B C D E F G H I J K L M N O P Q R
      part_step primary_step unary_step additive_step additive_part_step multiplicative_step multiplicative_part_step equality_step equality_part_step relational_step relational_part_step
      and_part_step arguments_step expr_step init_list_step logical_and_step or_part_step postfix_step

  abbrev of_equality : Equality → H
  of_equality = fold-Equality A B C D E F G H I J K L M N O P Q R
      part_step primary_step unary_step additive_step additive_part_step multiplicative_step multiplicative_part_step equality_step equality_part_step relational_step relational_part_step
      and_part_step arguments_step expr_step init_list_step logical_and_step or_part_step postfix_step

  abbrev of_equality_part : EqualityPart → I
  of_equality_part = fold-EqualityPart A B C D E F G H I J K L M N O P Q R
      part_step primary_step unary_step additive_step additive_part_step multiplicative_step multiplicative_part_step equality_step equality_part_step relational_step relational_part_step
      and_part_step arguments_step expr_step init_list_step logical_and_step or_part_step postfix_step

  abbrev of_relational : Relational → J
  of_relational = fold-Relational A B C D E F G H I J K L M N O P Q R
      part_step primary_step unary_step additive_step additive_part_step multiplicative_step multiplicative_part_step equality_step equality_part_step relational_step relational_part_step
      and_part_step arguments_step expr_step init_list_step logical_and_step or_part_step postfix_step

  abbrev of_relational_part : RelationalPart → K
  of_relational_part = fold-RelationalPart A B C D E F G H I J K L M N O P Q R
      part_step primary_step unary_step additive_step additive_part_step multiplicative_step multiplicative_part_step equality_step equality_part_step relational_step relational_part_step
      and_part_step arguments_step expr_step init_list_step logical_and_step or_part_step postfix_step

  abbrev of_and_part : AndPart → L
  of_and_part = fold-AndPart A B C D E F G H I J K L M N O P Q R
      part_step primary_step unary_step additive_step additive_part_step multiplicative_step multiplicative_part_step equality_step equality_part_step relational_step relational_part_step
      and_part_step arguments_step expr_step init_list_step logical_and_step or_part_step postfix_step

  abbrev of_arguments : Arguments → M
  of_arguments = fold-Arguments A B C D E F G H I J K L M N O P Q R
      part_step primary_step unary_step additive_step additive_part_step multiplicative_step multiplicative_part_step equality_step equality_part_step relational_step relational_part_step
      and_part_step arguments_step expr_step init_list_step logical_and_step or_part_step postfix_step

  abbrev of_expr : Expr → N
  of_expr = fold-Expr A B C D E F G H I J K L M N O P Q R
      part_step primary_step unary_step additive_step additive_part_step multiplicative_step multiplicative_part_step equality_step equality_part_step relational_step relational_part_step
      and_part_step arguments_step expr_step init_list_step logical_and_step or_part_step postfix_step

  abbrev of_init_list : InitList → O
  of_init_list = fold-InitList A B C D E F G H I J K L M N O P Q R
      part_step primary_step unary_step additive_step additive_part_step multiplicative_step multiplicative_part_step equality_step equality_part_step relational_step relational_part_step
      and_part_step arguments_step expr_step init_list_step logical_and_step or_part_step postfix_step

  abbrev of_logical_and : LogicalAnd → P
  of_logical_and = fold-LogicalAnd A B C D E F G H I J K L M N O P Q R
      part_step primary_step unary_step additive_step additive_part_step multiplicative_step multiplicative_part_step equality_step equality_part_step relational_step relational_part_step
      and_part_step arguments_step expr_step init_list_step logical_and_step or_part_step postfix_step

  abbrev of_or_part : OrPart → Q
  of_or_part = fold-OrPart A B C D E F G H I J K L M N O P Q R
      part_step primary_step unary_step additive_step additive_part_step multiplicative_step multiplicative_part_step equality_step equality_part_step relational_step relational_part_step
      and_part_step arguments_step expr_step init_list_step logical_and_step or_part_step postfix_step

  abbrev of_postfix : Postfix → R
  of_postfix = fold-Postfix A B C D E F G H I J K L M N O P Q R
      part_step primary_step unary_step additive_step additive_part_step multiplicative_step multiplicative_part_step equality_step equality_part_step relational_step relational_part_step
      and_part_step arguments_step expr_step init_list_step logical_and_step or_part_step postfix_step

  abbrev Seen-PostfixPart : PostfixPart → Type 0
  Seen-PostfixPart x = of_part (settled_part x) ≡ of_part x

  abbrev Seen-Primary : Primary → Type 0
  Seen-Primary x = of_primary (settled_primary x) ≡ of_primary x

  abbrev Seen-Unary : Unary → Type 0
  Seen-Unary x = of_unary (settled_unary x) ≡ of_unary x

  abbrev Seen-Additive : Additive → Type 0
  Seen-Additive x = of_additive (settled_additive x) ≡ of_additive x

  abbrev Seen-AdditivePart : AdditivePart → Type 0
  Seen-AdditivePart x = of_additive_part (settled_additive_part x) ≡ of_additive_part x

  abbrev Seen-Multiplicative : Multiplicative → Type 0
  Seen-Multiplicative x = of_multiplicative (settled_multiplicative x) ≡ of_multiplicative x

  abbrev Seen-MultiplicativePart : MultiplicativePart → Type 0
  Seen-MultiplicativePart x = of_multiplicative_part (settled_multiplicative_part x) ≡ of_multiplicative_part x

  abbrev Seen-Equality : Equality → Type 0
  Seen-Equality x = of_equality (settled_equality x) ≡ of_equality x

  abbrev Seen-EqualityPart : EqualityPart → Type 0
  Seen-EqualityPart x = of_equality_part (settled_equality_part x) ≡ of_equality_part x

  abbrev Seen-Relational : Relational → Type 0
  Seen-Relational x = of_relational (settled_relational x) ≡ of_relational x

  abbrev Seen-RelationalPart : RelationalPart → Type 0
  Seen-RelationalPart x = of_relational_part (settled_relational_part x) ≡ of_relational_part x

  abbrev Seen-AndPart : AndPart → Type 0
  Seen-AndPart x = of_and_part (settled_and_part x) ≡ of_and_part x

  abbrev Seen-Arguments : Arguments → Type 0
  Seen-Arguments x = of_arguments (settled_arguments x) ≡ of_arguments x

  abbrev Seen-Expr : Expr → Type 0
  Seen-Expr x = of_expr (settled_expr x) ≡ of_expr x

  abbrev Seen-InitList : InitList → Type 0
  Seen-InitList x = of_init_list (settled_init_list x) ≡ of_init_list x

  abbrev Seen-LogicalAnd : LogicalAnd → Type 0
  Seen-LogicalAnd x = of_logical_and (settled_logical_and x) ≡ of_logical_and x

  abbrev Seen-OrPart : OrPart → Type 0
  Seen-OrPart x = of_or_part (settled_or_part x) ≡ of_or_part x

  abbrev Seen-Postfix : Postfix → Type 0
  Seen-Postfix x = of_postfix (settled_postfix x) ≡ of_postfix x

  abbrev claims : Claims
  claims = record {
    part = Seen-PostfixPart;
    primary = Seen-Primary;
    unary = Seen-Unary;
    additive = Seen-Additive;
    additive_part = Seen-AdditivePart;
    multiplicative = Seen-Multiplicative;
    multiplicative_part = Seen-MultiplicativePart;
    equality = Seen-Equality;
    equality_part = Seen-EqualityPart;
    relational = Seen-Relational;
    relational_part = Seen-RelationalPart;
    and_part = Seen-AndPart;
    arguments = Seen-Arguments;
    expr = Seen-Expr;
    init_list = Seen-InitList;
    logical_and = Seen-LogicalAnd;
    or_part = Seen-OrPart;
    postfix = Seen-Postfix;
  }

  -- what is seen of a layer's parts
  abbrev of_parts_part : Opened-PostfixPart → open_expr.PostfixPart-F A B C D E F G H I J K L M N O P Q R
  of_parts_part = map-PostfixPart PostfixPart Primary Unary Additive AdditivePart Multiplicative MultiplicativePart Equality EqualityPart Relational RelationalPart AndPart Arguments Expr InitList LogicalAnd OrPart Postfix
      A B C D E F G H I J K L M N O P Q R
      of_part of_primary of_unary of_additive of_additive_part of_multiplicative of_multiplicative_part of_equality of_equality_part of_relational of_relational_part of_and_part of_arguments of_expr
      of_init_list of_logical_and of_or_part of_postfix

  abbrev of_parts_primary : Opened-Primary → open_expr.Primary-F A B C D E F G H I J K L M N O P Q R
  of_parts_primary = map-Primary PostfixPart Primary Unary Additive AdditivePart Multiplicative MultiplicativePart Equality EqualityPart Relational RelationalPart AndPart Arguments Expr InitList LogicalAnd OrPart Postfix
      A B C D E F G H I J K L M N O P Q R
      of_part of_primary of_unary of_additive of_additive_part of_multiplicative of_multiplicative_part of_equality of_equality_part of_relational of_relational_part of_and_part of_arguments of_expr
      of_init_list of_logical_and of_or_part of_postfix

  abbrev of_parts_unary : Opened-Unary → open_expr.Unary-F A B C D E F G H I J K L M N O P Q R
  of_parts_unary = map-Unary PostfixPart Primary Unary Additive AdditivePart Multiplicative MultiplicativePart Equality EqualityPart Relational RelationalPart AndPart Arguments Expr InitList LogicalAnd OrPart Postfix
      A B C D E F G H I J K L M N O P Q R
      of_part of_primary of_unary of_additive of_additive_part of_multiplicative of_multiplicative_part of_equality of_equality_part of_relational of_relational_part of_and_part of_arguments of_expr
      of_init_list of_logical_and of_or_part of_postfix

  abbrev of_parts_additive : Opened-Additive → open_expr.Additive-F A B C D E F G H I J K L M N O P Q R
  of_parts_additive = map-Additive PostfixPart Primary Unary Additive AdditivePart Multiplicative MultiplicativePart Equality EqualityPart Relational RelationalPart AndPart Arguments Expr InitList LogicalAnd OrPart Postfix
      A B C D E F G H I J K L M N O P Q R
      of_part of_primary of_unary of_additive of_additive_part of_multiplicative of_multiplicative_part of_equality of_equality_part of_relational of_relational_part of_and_part of_arguments of_expr
      of_init_list of_logical_and of_or_part of_postfix

  abbrev of_parts_additive_part : Opened-AdditivePart → open_expr.AdditivePart-F A B C D E F G H I J K L M N O P Q R
  of_parts_additive_part = map-AdditivePart PostfixPart Primary Unary Additive AdditivePart Multiplicative MultiplicativePart Equality EqualityPart Relational RelationalPart AndPart Arguments Expr InitList LogicalAnd OrPart Postfix
      A B C D E F G H I J K L M N O P Q R
      of_part of_primary of_unary of_additive of_additive_part of_multiplicative of_multiplicative_part of_equality of_equality_part of_relational of_relational_part of_and_part of_arguments of_expr
      of_init_list of_logical_and of_or_part of_postfix

  abbrev of_parts_multiplicative : Opened-Multiplicative → open_expr.Multiplicative-F A B C D E F G H I J K L M N O P Q R
  of_parts_multiplicative = map-Multiplicative PostfixPart Primary Unary Additive AdditivePart Multiplicative MultiplicativePart Equality EqualityPart Relational RelationalPart AndPart Arguments Expr InitList LogicalAnd OrPart Postfix
      A B C D E F G H I J K L M N O P Q R
      of_part of_primary of_unary of_additive of_additive_part of_multiplicative of_multiplicative_part of_equality of_equality_part of_relational of_relational_part of_and_part of_arguments of_expr
      of_init_list of_logical_and of_or_part of_postfix

  abbrev of_parts_multiplicative_part : Opened-MultiplicativePart → open_expr.MultiplicativePart-F A B C D E F G H I J K L M N O P Q R
  of_parts_multiplicative_part = map-MultiplicativePart PostfixPart Primary Unary Additive AdditivePart Multiplicative MultiplicativePart Equality EqualityPart Relational RelationalPart AndPart Arguments Expr InitList LogicalAnd OrPart Postfix
      A B C D E F G H I J K L M N O P Q R
      of_part of_primary of_unary of_additive of_additive_part of_multiplicative of_multiplicative_part of_equality of_equality_part of_relational of_relational_part of_and_part of_arguments of_expr
      of_init_list of_logical_and of_or_part of_postfix

  abbrev of_parts_equality : Opened-Equality → open_expr.Equality-F A B C D E F G H I J K L M N O P Q R
  of_parts_equality = map-Equality PostfixPart Primary Unary Additive AdditivePart Multiplicative MultiplicativePart Equality EqualityPart Relational RelationalPart AndPart Arguments Expr InitList LogicalAnd OrPart Postfix
      A B C D E F G H I J K L M N O P Q R
      of_part of_primary of_unary of_additive of_additive_part of_multiplicative of_multiplicative_part of_equality of_equality_part of_relational of_relational_part of_and_part of_arguments of_expr
      of_init_list of_logical_and of_or_part of_postfix

  abbrev of_parts_equality_part : Opened-EqualityPart → open_expr.EqualityPart-F A B C D E F G H I J K L M N O P Q R
  of_parts_equality_part = map-EqualityPart PostfixPart Primary Unary Additive AdditivePart Multiplicative MultiplicativePart Equality EqualityPart Relational RelationalPart AndPart Arguments Expr InitList LogicalAnd OrPart Postfix
      A B C D E F G H I J K L M N O P Q R
      of_part of_primary of_unary of_additive of_additive_part of_multiplicative of_multiplicative_part of_equality of_equality_part of_relational of_relational_part of_and_part of_arguments of_expr
      of_init_list of_logical_and of_or_part of_postfix

  abbrev of_parts_relational : Opened-Relational → open_expr.Relational-F A B C D E F G H I J K L M N O P Q R
  of_parts_relational = map-Relational PostfixPart Primary Unary Additive AdditivePart Multiplicative MultiplicativePart Equality EqualityPart Relational RelationalPart AndPart Arguments Expr InitList LogicalAnd OrPart Postfix
      A B C D E F G H I J K L M N O P Q R
      of_part of_primary of_unary of_additive of_additive_part of_multiplicative of_multiplicative_part of_equality of_equality_part of_relational of_relational_part of_and_part of_arguments of_expr
      of_init_list of_logical_and of_or_part of_postfix

  abbrev of_parts_relational_part : Opened-RelationalPart → open_expr.RelationalPart-F A B C D E F G H I J K L M N O P Q R
  of_parts_relational_part = map-RelationalPart PostfixPart Primary Unary Additive AdditivePart Multiplicative MultiplicativePart Equality EqualityPart Relational RelationalPart AndPart Arguments Expr InitList LogicalAnd OrPart Postfix
      A B C D E F G H I J K L M N O P Q R
      of_part of_primary of_unary of_additive of_additive_part of_multiplicative of_multiplicative_part of_equality of_equality_part of_relational of_relational_part of_and_part of_arguments of_expr
      of_init_list of_logical_and of_or_part of_postfix

  abbrev of_parts_and_part : Opened-AndPart → open_expr.AndPart-F A B C D E F G H I J K L M N O P Q R
  of_parts_and_part = map-AndPart PostfixPart Primary Unary Additive AdditivePart Multiplicative MultiplicativePart Equality EqualityPart Relational RelationalPart AndPart Arguments Expr InitList LogicalAnd OrPart Postfix
      A B C D E F G H I J K L M N O P Q R
      of_part of_primary of_unary of_additive of_additive_part of_multiplicative of_multiplicative_part of_equality of_equality_part of_relational of_relational_part of_and_part of_arguments of_expr
      of_init_list of_logical_and of_or_part of_postfix

  abbrev of_parts_arguments : Opened-Arguments → open_expr.Arguments-F A B C D E F G H I J K L M N O P Q R
  of_parts_arguments = map-Arguments PostfixPart Primary Unary Additive AdditivePart Multiplicative MultiplicativePart Equality EqualityPart Relational RelationalPart AndPart Arguments Expr InitList LogicalAnd OrPart Postfix
      A B C D E F G H I J K L M N O P Q R
      of_part of_primary of_unary of_additive of_additive_part of_multiplicative of_multiplicative_part of_equality of_equality_part of_relational of_relational_part of_and_part of_arguments of_expr
      of_init_list of_logical_and of_or_part of_postfix

  abbrev of_parts_expr : Opened-Expr → open_expr.Expr-F A B C D E F G H I J K L M N O P Q R
  of_parts_expr = map-Expr PostfixPart Primary Unary Additive AdditivePart Multiplicative MultiplicativePart Equality EqualityPart Relational RelationalPart AndPart Arguments Expr InitList LogicalAnd OrPart Postfix
      A B C D E F G H I J K L M N O P Q R
      of_part of_primary of_unary of_additive of_additive_part of_multiplicative of_multiplicative_part of_equality of_equality_part of_relational of_relational_part of_and_part of_arguments of_expr
      of_init_list of_logical_and of_or_part of_postfix

  abbrev of_parts_init_list : Opened-InitList → open_expr.InitList-F A B C D E F G H I J K L M N O P Q R
  of_parts_init_list = map-InitList PostfixPart Primary Unary Additive AdditivePart Multiplicative MultiplicativePart Equality EqualityPart Relational RelationalPart AndPart Arguments Expr InitList LogicalAnd OrPart Postfix
      A B C D E F G H I J K L M N O P Q R
      of_part of_primary of_unary of_additive of_additive_part of_multiplicative of_multiplicative_part of_equality of_equality_part of_relational of_relational_part of_and_part of_arguments of_expr
      of_init_list of_logical_and of_or_part of_postfix

  abbrev of_parts_logical_and : Opened-LogicalAnd → open_expr.LogicalAnd-F A B C D E F G H I J K L M N O P Q R
  of_parts_logical_and = map-LogicalAnd PostfixPart Primary Unary Additive AdditivePart Multiplicative MultiplicativePart Equality EqualityPart Relational RelationalPart AndPart Arguments Expr InitList LogicalAnd OrPart Postfix
      A B C D E F G H I J K L M N O P Q R
      of_part of_primary of_unary of_additive of_additive_part of_multiplicative of_multiplicative_part of_equality of_equality_part of_relational of_relational_part of_and_part of_arguments of_expr
      of_init_list of_logical_and of_or_part of_postfix

  abbrev of_parts_or_part : Opened-OrPart → open_expr.OrPart-F A B C D E F G H I J K L M N O P Q R
  of_parts_or_part = map-OrPart PostfixPart Primary Unary Additive AdditivePart Multiplicative MultiplicativePart Equality EqualityPart Relational RelationalPart AndPart Arguments Expr InitList LogicalAnd OrPart Postfix
      A B C D E F G H I J K L M N O P Q R
      of_part of_primary of_unary of_additive of_additive_part of_multiplicative of_multiplicative_part of_equality of_equality_part of_relational of_relational_part of_and_part of_arguments of_expr
      of_init_list of_logical_and of_or_part of_postfix

  abbrev of_parts_postfix : Opened-Postfix → open_expr.Postfix-F A B C D E F G H I J K L M N O P Q R
  of_parts_postfix = map-Postfix PostfixPart Primary Unary Additive AdditivePart Multiplicative MultiplicativePart Equality EqualityPart Relational RelationalPart AndPart Arguments Expr InitList LogicalAnd OrPart Postfix
      A B C D E F G H I J K L M N O P Q R
      of_part of_primary of_unary of_additive of_additive_part of_multiplicative of_multiplicative_part of_equality of_equality_part of_relational of_relational_part of_and_part of_arguments of_expr
      of_init_list of_logical_and of_or_part of_postfix

  -- .. and of what is made of it
  part_rolled : (l : Opened-PostfixPart) → of_part (roll-PostfixPart l) ≡ part_step (of_parts_part l)
  part_rolled = fold-roll-PostfixPart A B C D E F G H I J K L M N O P Q R
      part_step primary_step unary_step additive_step additive_part_step multiplicative_step multiplicative_part_step equality_step equality_part_step relational_step relational_part_step
      and_part_step arguments_step expr_step init_list_step logical_and_step or_part_step postfix_step

  primary_rolled : (l : Opened-Primary) → of_primary (roll-Primary l) ≡ primary_step (of_parts_primary l)
  primary_rolled = fold-roll-Primary A B C D E F G H I J K L M N O P Q R
      part_step primary_step unary_step additive_step additive_part_step multiplicative_step multiplicative_part_step equality_step equality_part_step relational_step relational_part_step
      and_part_step arguments_step expr_step init_list_step logical_and_step or_part_step postfix_step

  unary_rolled : (l : Opened-Unary) → of_unary (roll-Unary l) ≡ unary_step (of_parts_unary l)
  unary_rolled = fold-roll-Unary A B C D E F G H I J K L M N O P Q R
      part_step primary_step unary_step additive_step additive_part_step multiplicative_step multiplicative_part_step equality_step equality_part_step relational_step relational_part_step
      and_part_step arguments_step expr_step init_list_step logical_and_step or_part_step postfix_step

  additive_rolled : (l : Opened-Additive) → of_additive (roll-Additive l) ≡ additive_step (of_parts_additive l)
  additive_rolled = fold-roll-Additive A B C D E F G H I J K L M N O P Q R
      part_step primary_step unary_step additive_step additive_part_step multiplicative_step multiplicative_part_step equality_step equality_part_step relational_step relational_part_step
      and_part_step arguments_step expr_step init_list_step logical_and_step or_part_step postfix_step

  additive_part_rolled : (l : Opened-AdditivePart) → of_additive_part (roll-AdditivePart l) ≡ additive_part_step (of_parts_additive_part l)
  additive_part_rolled = fold-roll-AdditivePart A B C D E F G H I J K L M N O P Q R
      part_step primary_step unary_step additive_step additive_part_step multiplicative_step multiplicative_part_step equality_step equality_part_step relational_step relational_part_step
      and_part_step arguments_step expr_step init_list_step logical_and_step or_part_step postfix_step

  multiplicative_rolled : (l : Opened-Multiplicative) → of_multiplicative (roll-Multiplicative l) ≡ multiplicative_step (of_parts_multiplicative l)
  multiplicative_rolled = fold-roll-Multiplicative A B C D E F G H I J K L M N O P Q R
      part_step primary_step unary_step additive_step additive_part_step multiplicative_step multiplicative_part_step equality_step equality_part_step relational_step relational_part_step
      and_part_step arguments_step expr_step init_list_step logical_and_step or_part_step postfix_step

  multiplicative_part_rolled : (l : Opened-MultiplicativePart) → of_multiplicative_part (roll-MultiplicativePart l) ≡ multiplicative_part_step (of_parts_multiplicative_part l)
  multiplicative_part_rolled = fold-roll-MultiplicativePart A B C D E F G H I J K L M N O P Q R
      part_step primary_step unary_step additive_step additive_part_step multiplicative_step multiplicative_part_step equality_step equality_part_step relational_step relational_part_step
      and_part_step arguments_step expr_step init_list_step logical_and_step or_part_step postfix_step

  equality_rolled : (l : Opened-Equality) → of_equality (roll-Equality l) ≡ equality_step (of_parts_equality l)
  equality_rolled = fold-roll-Equality A B C D E F G H I J K L M N O P Q R
      part_step primary_step unary_step additive_step additive_part_step multiplicative_step multiplicative_part_step equality_step equality_part_step relational_step relational_part_step
      and_part_step arguments_step expr_step init_list_step logical_and_step or_part_step postfix_step

  equality_part_rolled : (l : Opened-EqualityPart) → of_equality_part (roll-EqualityPart l) ≡ equality_part_step (of_parts_equality_part l)
  equality_part_rolled = fold-roll-EqualityPart A B C D E F G H I J K L M N O P Q R
      part_step primary_step unary_step additive_step additive_part_step multiplicative_step multiplicative_part_step equality_step equality_part_step relational_step relational_part_step
      and_part_step arguments_step expr_step init_list_step logical_and_step or_part_step postfix_step

  relational_rolled : (l : Opened-Relational) → of_relational (roll-Relational l) ≡ relational_step (of_parts_relational l)
  relational_rolled = fold-roll-Relational A B C D E F G H I J K L M N O P Q R
      part_step primary_step unary_step additive_step additive_part_step multiplicative_step multiplicative_part_step equality_step equality_part_step relational_step relational_part_step
      and_part_step arguments_step expr_step init_list_step logical_and_step or_part_step postfix_step

  relational_part_rolled : (l : Opened-RelationalPart) → of_relational_part (roll-RelationalPart l) ≡ relational_part_step (of_parts_relational_part l)
  relational_part_rolled = fold-roll-RelationalPart A B C D E F G H I J K L M N O P Q R
      part_step primary_step unary_step additive_step additive_part_step multiplicative_step multiplicative_part_step equality_step equality_part_step relational_step relational_part_step
      and_part_step arguments_step expr_step init_list_step logical_and_step or_part_step postfix_step

  and_part_rolled : (l : Opened-AndPart) → of_and_part (roll-AndPart l) ≡ and_part_step (of_parts_and_part l)
  and_part_rolled = fold-roll-AndPart A B C D E F G H I J K L M N O P Q R
      part_step primary_step unary_step additive_step additive_part_step multiplicative_step multiplicative_part_step equality_step equality_part_step relational_step relational_part_step
      and_part_step arguments_step expr_step init_list_step logical_and_step or_part_step postfix_step

  arguments_rolled : (l : Opened-Arguments) → of_arguments (roll-Arguments l) ≡ arguments_step (of_parts_arguments l)
  arguments_rolled = fold-roll-Arguments A B C D E F G H I J K L M N O P Q R
      part_step primary_step unary_step additive_step additive_part_step multiplicative_step multiplicative_part_step equality_step equality_part_step relational_step relational_part_step
      and_part_step arguments_step expr_step init_list_step logical_and_step or_part_step postfix_step

  expr_rolled : (l : Opened-Expr) → of_expr (roll-Expr l) ≡ expr_step (of_parts_expr l)
  expr_rolled = fold-roll-Expr A B C D E F G H I J K L M N O P Q R
      part_step primary_step unary_step additive_step additive_part_step multiplicative_step multiplicative_part_step equality_step equality_part_step relational_step relational_part_step
      and_part_step arguments_step expr_step init_list_step logical_and_step or_part_step postfix_step

  init_list_rolled : (l : Opened-InitList) → of_init_list (roll-InitList l) ≡ init_list_step (of_parts_init_list l)
  init_list_rolled = fold-roll-InitList A B C D E F G H I J K L M N O P Q R
      part_step primary_step unary_step additive_step additive_part_step multiplicative_step multiplicative_part_step equality_step equality_part_step relational_step relational_part_step
      and_part_step arguments_step expr_step init_list_step logical_and_step or_part_step postfix_step

  logical_and_rolled : (l : Opened-LogicalAnd) → of_logical_and (roll-LogicalAnd l) ≡ logical_and_step (of_parts_logical_and l)
  logical_and_rolled = fold-roll-LogicalAnd A B C D E F G H I J K L M N O P Q R
      part_step primary_step unary_step additive_step additive_part_step multiplicative_step multiplicative_part_step equality_step equality_part_step relational_step relational_part_step
      and_part_step arguments_step expr_step init_list_step logical_and_step or_part_step postfix_step

  or_part_rolled : (l : Opened-OrPart) → of_or_part (roll-OrPart l) ≡ or_part_step (of_parts_or_part l)
  or_part_rolled = fold-roll-OrPart A B C D E F G H I J K L M N O P Q R
      part_step primary_step unary_step additive_step additive_part_step multiplicative_step multiplicative_part_step equality_step equality_part_step relational_step relational_part_step
      and_part_step arguments_step expr_step init_list_step logical_and_step or_part_step postfix_step

  postfix_rolled : (l : Opened-Postfix) → of_postfix (roll-Postfix l) ≡ postfix_step (of_parts_postfix l)
  postfix_rolled = fold-roll-Postfix A B C D E F G H I J K L M N O P Q R
      part_step primary_step unary_step additive_step additive_part_step multiplicative_step multiplicative_part_step equality_step equality_part_step relational_step relational_part_step
      and_part_step arguments_step expr_step init_list_step logical_and_step or_part_step postfix_step

  -- lists of parts
  additive_part_row : (xs : List (Both Seen-AdditivePart)) → map of_additive_part (map settled_additive_part (map (λ z. z.0) xs)) ≡ map of_additive_part (map (λ z. z.0) xs)
  additive_part_row [] = refl
  additive_part_row (x ∷ xs) = λ i. x.1 i ∷ additive_part_row xs i

  multiplicative_part_row : (xs : List (Both Seen-MultiplicativePart)) → map of_multiplicative_part (map settled_multiplicative_part (map (λ z. z.0) xs)) ≡ map of_multiplicative_part (map (λ z. z.0) xs)
  multiplicative_part_row [] = refl
  multiplicative_part_row (x ∷ xs) = λ i. x.1 i ∷ multiplicative_part_row xs i

  equality_part_row : (xs : List (Both Seen-EqualityPart)) → map of_equality_part (map settled_equality_part (map (λ z. z.0) xs)) ≡ map of_equality_part (map (λ z. z.0) xs)
  equality_part_row [] = refl
  equality_part_row (x ∷ xs) = λ i. x.1 i ∷ equality_part_row xs i

  relational_part_row : (xs : List (Both Seen-RelationalPart)) → map of_relational_part (map settled_relational_part (map (λ z. z.0) xs)) ≡ map of_relational_part (map (λ z. z.0) xs)
  relational_part_row [] = refl
  relational_part_row (x ∷ xs) = λ i. x.1 i ∷ relational_part_row xs i

  or_part_row : (xs : List (Both Seen-OrPart)) → map of_or_part (map settled_or_part (map (λ z. z.0) xs)) ≡ map of_or_part (map (λ z. z.0) xs)
  or_part_row [] = refl
  or_part_row (x ∷ xs) = λ i. x.1 i ∷ or_part_row xs i

  and_part_row : (xs : List (Both Seen-AndPart)) → map of_and_part (map settled_and_part (map (λ z. z.0) xs)) ≡ map of_and_part (map (λ z. z.0) xs)
  and_part_row [] = refl
  and_part_row (x ∷ xs) = λ i. x.1 i ∷ and_part_row xs i

  part_row : (xs : List (Both Seen-PostfixPart)) → map of_part (map settled_part (map (λ z. z.0) xs)) ≡ map of_part (map (λ z. z.0) xs)
  part_row [] = refl
  part_row (x ∷ xs) = λ i. x.1 i ∷ part_row xs i

  expr_row : (xs : List (Both Seen-Expr)) → map of_expr (map settled_expr (map (λ z. z.0) xs)) ≡ map of_expr (map (λ z. z.0) xs)
  expr_row [] = refl
  expr_row (x ∷ xs) = λ i. x.1 i ∷ expr_row xs i

  -- .. are one, over parts that are seen as before
  part_layer : (l : Layer-PostfixPart claims) → of_parts_part (settle_part (parts_part claims l)) ≡ of_parts_part (parts_part claims l)
  part_layer (open_expr.Member mark name None) = refl
  part_layer (open_expr.Member mark name (Some l)) = λ i. open_expr.Member mark name (Some (l.1 i))
  part_layer (open_expr.Arrow mark name None) = refl
  part_layer (open_expr.Arrow mark name (Some l)) = λ i. open_expr.Arrow mark name (Some (l.1 i))
  part_layer (open_expr.Index opening index closing) = λ i. open_expr.Index opening (record { ptr = index.ptr; alloc = index.alloc; value = index.value.1 i }) closing

  primary_layer : (l : Layer-Primary claims) → of_parts_primary (settle_primary (parts_primary claims l)) ≡ of_parts_primary (parts_primary claims l)
  primary_layer (open_expr.Call name l) = λ i. open_expr.Call name (l.1 i)
  primary_layer (open_expr.Construct name l) = λ i. open_expr.Construct name (l.1 i)
  primary_layer (open_expr.Paren opening inner closing) = λ i. open_expr.Paren opening (record { ptr = inner.ptr; alloc = inner.alloc; value = inner.value.1 i }) closing
  primary_layer (open_expr.MakeUnique name element l) = λ i. open_expr.MakeUnique name element (l.1 i)
  primary_layer (open_expr.TextOf name opening inner closing) = λ i. open_expr.TextOf name opening (record { ptr = inner.ptr; alloc = inner.alloc; value = inner.value.1 i }) closing
  primary_layer _ = refl

  unary_layer : (l : Layer-Unary claims) → of_parts_unary (settle_unary (parts_unary claims l)) ≡ of_parts_unary (parts_unary claims l)
  unary_layer (open_expr.Prefix operator place operand) = λ i. open_expr.Prefix operator place (record { ptr = operand.ptr; alloc = operand.alloc; value = operand.value.1 i })
  unary_layer (open_expr.Plain operand) = λ i. open_expr.Plain (operand.1 i)

  additive_layer : (l : Layer-Additive claims) →
      bare_additive (of_parts_additive (bare_additive (settle_additive (parts_additive claims l)))) ≡ bare_additive (of_parts_additive (parts_additive claims l))
  additive_layer l = λ i. record { first = l.first.1 i; more = same_settled (of_parts_additive (bare_additive (settle_additive (parts_additive claims l)))).more (of_parts_additive (parts_additive claims l)).more (additive_part_row l.more.items) i }

  additive_part_layer : (l : Layer-AdditivePart claims) → of_parts_additive_part (settle_additive_part (parts_additive_part claims l)) ≡ of_parts_additive_part (parts_additive_part claims l)
  additive_part_layer l = λ i. record { operator = l.operator; place = l.place; operand = l.operand.1 i }

  multiplicative_layer : (l : Layer-Multiplicative claims) →
      bare_multiplicative (of_parts_multiplicative (bare_multiplicative (settle_multiplicative (parts_multiplicative claims l)))) ≡ bare_multiplicative (of_parts_multiplicative (parts_multiplicative claims l))
  multiplicative_layer l = λ i. record { first = l.first.1 i; more = same_settled (of_parts_multiplicative (bare_multiplicative (settle_multiplicative (parts_multiplicative claims l)))).more (of_parts_multiplicative (parts_multiplicative claims l)).more (multiplicative_part_row l.more.items) i }

  multiplicative_part_layer : (l : Layer-MultiplicativePart claims) → of_parts_multiplicative_part (settle_multiplicative_part (parts_multiplicative_part claims l)) ≡ of_parts_multiplicative_part (parts_multiplicative_part claims l)
  multiplicative_part_layer l = λ i. record { operator = l.operator; place = l.place; operand = l.operand.1 i }

  equality_layer : (l : Layer-Equality claims) →
      bare_equality (of_parts_equality (bare_equality (settle_equality (parts_equality claims l)))) ≡ bare_equality (of_parts_equality (parts_equality claims l))
  equality_layer l = λ i. record { first = l.first.1 i; more = same_settled (of_parts_equality (bare_equality (settle_equality (parts_equality claims l)))).more (of_parts_equality (parts_equality claims l)).more (equality_part_row l.more.items) i }

  equality_part_layer : (l : Layer-EqualityPart claims) → of_parts_equality_part (settle_equality_part (parts_equality_part claims l)) ≡ of_parts_equality_part (parts_equality_part claims l)
  equality_part_layer l = λ i. record { operator = l.operator; place = l.place; operand = l.operand.1 i }

  relational_layer : (l : Layer-Relational claims) →
      bare_relational (of_parts_relational (bare_relational (settle_relational (parts_relational claims l)))) ≡ bare_relational (of_parts_relational (parts_relational claims l))
  relational_layer l = λ i. record { first = l.first.1 i; more = same_settled (of_parts_relational (bare_relational (settle_relational (parts_relational claims l)))).more (of_parts_relational (parts_relational claims l)).more (relational_part_row l.more.items) i }

  relational_part_layer : (l : Layer-RelationalPart claims) → of_parts_relational_part (settle_relational_part (parts_relational_part claims l)) ≡ of_parts_relational_part (parts_relational_part claims l)
  relational_part_layer l = λ i. record { operator = l.operator; place = l.place; operand = l.operand.1 i }

  and_part_layer : (l : Layer-AndPart claims) → of_parts_and_part (settle_and_part (parts_and_part claims l)) ≡ of_parts_and_part (parts_and_part claims l)
  and_part_layer l = λ i. record { place = l.place; operand = l.operand.1 i }

  arguments_layer : (l : Layer-Arguments claims) →
      bare_arguments (of_parts_arguments (bare_arguments (settle_arguments (parts_arguments claims l)))) ≡ bare_arguments (of_parts_arguments (parts_arguments claims l))
  arguments_layer l = λ i. record { opening = l.opening; list = same_settled (of_parts_arguments (bare_arguments (settle_arguments (parts_arguments claims l)))).list (of_parts_arguments (parts_arguments claims l)).list (expr_row l.list.items) i; commas = same_settled (settled_list l.commas) l.commas refl i; closing = l.closing }

  expr_layer : (l : Layer-Expr claims) →
      bare_expr (of_parts_expr (bare_expr (settle_expr (parts_expr claims l)))) ≡ bare_expr (of_parts_expr (parts_expr claims l))
  expr_layer l = λ i. record { first = l.first.1 i; more = same_settled (of_parts_expr (bare_expr (settle_expr (parts_expr claims l)))).more (of_parts_expr (parts_expr claims l)).more (or_part_row l.more.items) i }

  init_list_layer : (l : Layer-InitList claims) →
      bare_init_list (of_parts_init_list (bare_init_list (settle_init_list (parts_init_list claims l)))) ≡ bare_init_list (of_parts_init_list (parts_init_list claims l))
  init_list_layer l = λ i. record { opening = l.opening; list = same_settled (of_parts_init_list (bare_init_list (settle_init_list (parts_init_list claims l)))).list (of_parts_init_list (parts_init_list claims l)).list (expr_row l.list.items) i; commas = same_settled (settled_list l.commas) l.commas refl i; closing = l.closing }

  logical_and_layer : (l : Layer-LogicalAnd claims) →
      bare_logical_and (of_parts_logical_and (bare_logical_and (settle_logical_and (parts_logical_and claims l)))) ≡ bare_logical_and (of_parts_logical_and (parts_logical_and claims l))
  logical_and_layer l = λ i. record { first = l.first.1 i; more = same_settled (of_parts_logical_and (bare_logical_and (settle_logical_and (parts_logical_and claims l)))).more (of_parts_logical_and (parts_logical_and claims l)).more (and_part_row l.more.items) i }

  or_part_layer : (l : Layer-OrPart claims) → of_parts_or_part (settle_or_part (parts_or_part claims l)) ≡ of_parts_or_part (parts_or_part claims l)
  or_part_layer l = λ i. record { place = l.place; operand = l.operand.1 i }

  postfix_layer : (l : Layer-Postfix claims) →
      bare_postfix (of_parts_postfix (bare_postfix (settle_postfix (parts_postfix claims l)))) ≡ bare_postfix (of_parts_postfix (parts_postfix claims l))
  postfix_layer l = λ i. record { primary = l.primary.1 i; parts = same_settled (of_parts_postfix (bare_postfix (settle_postfix (parts_postfix claims l)))).parts (of_parts_postfix (parts_postfix claims l)).parts (part_row l.parts.items) i }

  -- a layer's own boxes aren't looked at
  part_bare : (l : Opened-PostfixPart) → part_step (of_parts_part (bare_part l)) ≡ part_step (of_parts_part l)
  part_bare (open_expr.Index opening index closing) = part_blind (open_expr.Index opening (record { ptr = index.ptr; alloc = index.alloc; value = of_expr index.value }) closing)
  part_bare (open_expr.Member mark name l) = refl
  part_bare (open_expr.Arrow mark name l) = refl

  primary_bare : (l : Opened-Primary) → primary_step (of_parts_primary (bare_primary l)) ≡ primary_step (of_parts_primary l)
  primary_bare (open_expr.Paren opening inner closing) = primary_blind (open_expr.Paren opening (record { ptr = inner.ptr; alloc = inner.alloc; value = of_expr inner.value }) closing)
  primary_bare (open_expr.MakeUnique name element l) = primary_blind (open_expr.MakeUnique name element (of_arguments l))
  primary_bare (open_expr.TextOf name opening inner closing) = primary_blind (open_expr.TextOf name opening (record { ptr = inner.ptr; alloc = inner.alloc; value = of_expr inner.value }) closing)
  primary_bare _ = refl

  unary_bare : (l : Opened-Unary) → unary_step (of_parts_unary (bare_unary l)) ≡ unary_step (of_parts_unary l)
  unary_bare (open_expr.Prefix operator place operand) = unary_blind (open_expr.Prefix operator place (record { ptr = operand.ptr; alloc = operand.alloc; value = of_unary operand.value }))
  unary_bare (open_expr.Plain operand) = refl

  part_made : (x : Opened-PostfixPart) (l : Layer-PostfixPart claims) → parts_part claims l ≡ x → Seen-PostfixPart (roll-PostfixPart x)
  part_made x l e = subst (λ z. Seen-PostfixPart (roll-PostfixPart z)) e
      (ap of_part (settled_of_part (parts_part claims l))
      ∙ part_rolled (bare_part (settle_part (parts_part claims l)))
      ∙ part_bare (settle_part (parts_part claims l)) ∙ ap part_step (part_layer l) ∙ sym (part_rolled (parts_part claims l)))

  primary_made : (x : Opened-Primary) (l : Layer-Primary claims) → parts_primary claims l ≡ x → Seen-Primary (roll-Primary x)
  primary_made x l e = subst (λ z. Seen-Primary (roll-Primary z)) e
      (ap of_primary (settled_of_primary (parts_primary claims l))
      ∙ primary_rolled (bare_primary (settle_primary (parts_primary claims l)))
      ∙ primary_bare (settle_primary (parts_primary claims l)) ∙ ap primary_step (primary_layer l) ∙ sym (primary_rolled (parts_primary claims l)))

  unary_made : (x : Opened-Unary) (l : Layer-Unary claims) → parts_unary claims l ≡ x → Seen-Unary (roll-Unary x)
  unary_made x l e = subst (λ z. Seen-Unary (roll-Unary z)) e
      (ap of_unary (settled_of_unary (parts_unary claims l))
      ∙ unary_rolled (bare_unary (settle_unary (parts_unary claims l)))
      ∙ unary_bare (settle_unary (parts_unary claims l)) ∙ ap unary_step (unary_layer l) ∙ sym (unary_rolled (parts_unary claims l)))

  additive_made : (x : Opened-Additive) (l : Layer-Additive claims) → parts_additive claims l ≡ x → Seen-Additive (roll-Additive x)
  additive_made x l e = subst (λ z. Seen-Additive (roll-Additive z)) e
      (ap of_additive (settled_of_additive (parts_additive claims l))
      ∙ additive_rolled (bare_additive (settle_additive (parts_additive claims l)))
      ∙ sym (additive_blind (of_parts_additive (bare_additive (settle_additive (parts_additive claims l)))))
      ∙ ap additive_step (additive_layer l)
      ∙ additive_blind (of_parts_additive (parts_additive claims l))
      ∙ sym (additive_rolled (parts_additive claims l)))

  additive_part_made : (x : Opened-AdditivePart) (l : Layer-AdditivePart claims) → parts_additive_part claims l ≡ x → Seen-AdditivePart (roll-AdditivePart x)
  additive_part_made x l e = subst (λ z. Seen-AdditivePart (roll-AdditivePart z)) e
      (ap of_additive_part (settled_of_additive_part (parts_additive_part claims l))
      ∙ additive_part_rolled (settle_additive_part (parts_additive_part claims l))
      ∙ ap additive_part_step (additive_part_layer l) ∙ sym (additive_part_rolled (parts_additive_part claims l)))

  multiplicative_made : (x : Opened-Multiplicative) (l : Layer-Multiplicative claims) → parts_multiplicative claims l ≡ x → Seen-Multiplicative (roll-Multiplicative x)
  multiplicative_made x l e = subst (λ z. Seen-Multiplicative (roll-Multiplicative z)) e
      (ap of_multiplicative (settled_of_multiplicative (parts_multiplicative claims l))
      ∙ multiplicative_rolled (bare_multiplicative (settle_multiplicative (parts_multiplicative claims l)))
      ∙ sym (multiplicative_blind (of_parts_multiplicative (bare_multiplicative (settle_multiplicative (parts_multiplicative claims l)))))
      ∙ ap multiplicative_step (multiplicative_layer l)
      ∙ multiplicative_blind (of_parts_multiplicative (parts_multiplicative claims l))
      ∙ sym (multiplicative_rolled (parts_multiplicative claims l)))

  multiplicative_part_made : (x : Opened-MultiplicativePart) (l : Layer-MultiplicativePart claims) → parts_multiplicative_part claims l ≡ x → Seen-MultiplicativePart (roll-MultiplicativePart x)
  multiplicative_part_made x l e = subst (λ z. Seen-MultiplicativePart (roll-MultiplicativePart z)) e
      (ap of_multiplicative_part (settled_of_multiplicative_part (parts_multiplicative_part claims l))
      ∙ multiplicative_part_rolled (settle_multiplicative_part (parts_multiplicative_part claims l))
      ∙ ap multiplicative_part_step (multiplicative_part_layer l) ∙ sym (multiplicative_part_rolled (parts_multiplicative_part claims l)))

  equality_made : (x : Opened-Equality) (l : Layer-Equality claims) → parts_equality claims l ≡ x → Seen-Equality (roll-Equality x)
  equality_made x l e = subst (λ z. Seen-Equality (roll-Equality z)) e
      (ap of_equality (settled_of_equality (parts_equality claims l))
      ∙ equality_rolled (bare_equality (settle_equality (parts_equality claims l)))
      ∙ sym (equality_blind (of_parts_equality (bare_equality (settle_equality (parts_equality claims l)))))
      ∙ ap equality_step (equality_layer l)
      ∙ equality_blind (of_parts_equality (parts_equality claims l))
      ∙ sym (equality_rolled (parts_equality claims l)))

  equality_part_made : (x : Opened-EqualityPart) (l : Layer-EqualityPart claims) → parts_equality_part claims l ≡ x → Seen-EqualityPart (roll-EqualityPart x)
  equality_part_made x l e = subst (λ z. Seen-EqualityPart (roll-EqualityPart z)) e
      (ap of_equality_part (settled_of_equality_part (parts_equality_part claims l))
      ∙ equality_part_rolled (settle_equality_part (parts_equality_part claims l))
      ∙ ap equality_part_step (equality_part_layer l) ∙ sym (equality_part_rolled (parts_equality_part claims l)))

  relational_made : (x : Opened-Relational) (l : Layer-Relational claims) → parts_relational claims l ≡ x → Seen-Relational (roll-Relational x)
  relational_made x l e = subst (λ z. Seen-Relational (roll-Relational z)) e
      (ap of_relational (settled_of_relational (parts_relational claims l))
      ∙ relational_rolled (bare_relational (settle_relational (parts_relational claims l)))
      ∙ sym (relational_blind (of_parts_relational (bare_relational (settle_relational (parts_relational claims l)))))
      ∙ ap relational_step (relational_layer l)
      ∙ relational_blind (of_parts_relational (parts_relational claims l))
      ∙ sym (relational_rolled (parts_relational claims l)))

  relational_part_made : (x : Opened-RelationalPart) (l : Layer-RelationalPart claims) → parts_relational_part claims l ≡ x → Seen-RelationalPart (roll-RelationalPart x)
  relational_part_made x l e = subst (λ z. Seen-RelationalPart (roll-RelationalPart z)) e
      (ap of_relational_part (settled_of_relational_part (parts_relational_part claims l))
      ∙ relational_part_rolled (settle_relational_part (parts_relational_part claims l))
      ∙ ap relational_part_step (relational_part_layer l) ∙ sym (relational_part_rolled (parts_relational_part claims l)))

  and_part_made : (x : Opened-AndPart) (l : Layer-AndPart claims) → parts_and_part claims l ≡ x → Seen-AndPart (roll-AndPart x)
  and_part_made x l e = subst (λ z. Seen-AndPart (roll-AndPart z)) e
      (ap of_and_part (settled_of_and_part (parts_and_part claims l))
      ∙ and_part_rolled (settle_and_part (parts_and_part claims l))
      ∙ ap and_part_step (and_part_layer l) ∙ sym (and_part_rolled (parts_and_part claims l)))

  arguments_made : (x : Opened-Arguments) (l : Layer-Arguments claims) → parts_arguments claims l ≡ x → Seen-Arguments (roll-Arguments x)
  arguments_made x l e = subst (λ z. Seen-Arguments (roll-Arguments z)) e
      (ap of_arguments (settled_of_arguments (parts_arguments claims l))
      ∙ arguments_rolled (bare_arguments (settle_arguments (parts_arguments claims l)))
      ∙ sym (arguments_blind (of_parts_arguments (bare_arguments (settle_arguments (parts_arguments claims l)))))
      ∙ ap arguments_step (arguments_layer l)
      ∙ arguments_blind (of_parts_arguments (parts_arguments claims l))
      ∙ sym (arguments_rolled (parts_arguments claims l)))

  expr_made : (x : Opened-Expr) (l : Layer-Expr claims) → parts_expr claims l ≡ x → Seen-Expr (roll-Expr x)
  expr_made x l e = subst (λ z. Seen-Expr (roll-Expr z)) e
      (ap of_expr (settled_of_expr (parts_expr claims l))
      ∙ expr_rolled (bare_expr (settle_expr (parts_expr claims l)))
      ∙ sym (expr_blind (of_parts_expr (bare_expr (settle_expr (parts_expr claims l)))))
      ∙ ap expr_step (expr_layer l)
      ∙ expr_blind (of_parts_expr (parts_expr claims l))
      ∙ sym (expr_rolled (parts_expr claims l)))

  init_list_made : (x : Opened-InitList) (l : Layer-InitList claims) → parts_init_list claims l ≡ x → Seen-InitList (roll-InitList x)
  init_list_made x l e = subst (λ z. Seen-InitList (roll-InitList z)) e
      (ap of_init_list (settled_of_init_list (parts_init_list claims l))
      ∙ init_list_rolled (bare_init_list (settle_init_list (parts_init_list claims l)))
      ∙ sym (init_list_blind (of_parts_init_list (bare_init_list (settle_init_list (parts_init_list claims l)))))
      ∙ ap init_list_step (init_list_layer l)
      ∙ init_list_blind (of_parts_init_list (parts_init_list claims l))
      ∙ sym (init_list_rolled (parts_init_list claims l)))

  logical_and_made : (x : Opened-LogicalAnd) (l : Layer-LogicalAnd claims) → parts_logical_and claims l ≡ x → Seen-LogicalAnd (roll-LogicalAnd x)
  logical_and_made x l e = subst (λ z. Seen-LogicalAnd (roll-LogicalAnd z)) e
      (ap of_logical_and (settled_of_logical_and (parts_logical_and claims l))
      ∙ logical_and_rolled (bare_logical_and (settle_logical_and (parts_logical_and claims l)))
      ∙ sym (logical_and_blind (of_parts_logical_and (bare_logical_and (settle_logical_and (parts_logical_and claims l)))))
      ∙ ap logical_and_step (logical_and_layer l)
      ∙ logical_and_blind (of_parts_logical_and (parts_logical_and claims l))
      ∙ sym (logical_and_rolled (parts_logical_and claims l)))

  or_part_made : (x : Opened-OrPart) (l : Layer-OrPart claims) → parts_or_part claims l ≡ x → Seen-OrPart (roll-OrPart x)
  or_part_made x l e = subst (λ z. Seen-OrPart (roll-OrPart z)) e
      (ap of_or_part (settled_of_or_part (parts_or_part claims l))
      ∙ or_part_rolled (settle_or_part (parts_or_part claims l))
      ∙ ap or_part_step (or_part_layer l) ∙ sym (or_part_rolled (parts_or_part claims l)))

  postfix_made : (x : Opened-Postfix) (l : Layer-Postfix claims) → parts_postfix claims l ≡ x → Seen-Postfix (roll-Postfix x)
  postfix_made x l e = subst (λ z. Seen-Postfix (roll-Postfix z)) e
      (ap of_postfix (settled_of_postfix (parts_postfix claims l))
      ∙ postfix_rolled (bare_postfix (settle_postfix (parts_postfix claims l)))
      ∙ sym (postfix_blind (of_parts_postfix (bare_postfix (settle_postfix (parts_postfix claims l)))))
      ∙ ap postfix_step (postfix_layer l)
      ∙ postfix_blind (of_parts_postfix (parts_postfix claims l))
      ∙ sym (postfix_rolled (parts_postfix claims l)))

  pub additive_seen : (x : Additive) → Seen-Additive x
  additive_seen = ind-Additive
      Seen-PostfixPart Seen-Primary Seen-Unary Seen-Additive Seen-AdditivePart Seen-Multiplicative Seen-MultiplicativePart Seen-Equality Seen-EqualityPart Seen-Relational Seen-RelationalPart
      Seen-AndPart Seen-Arguments Seen-Expr Seen-InitList Seen-LogicalAnd Seen-OrPart Seen-Postfix
      part_made primary_made unary_made additive_made additive_part_made multiplicative_made multiplicative_part_made equality_made equality_part_made relational_made relational_part_made
      and_part_made arguments_made expr_made init_list_made logical_and_made or_part_made postfix_made

  pub expr_seen : (x : Expr) → Seen-Expr x
  expr_seen = ind-Expr
      Seen-PostfixPart Seen-Primary Seen-Unary Seen-Additive Seen-AdditivePart Seen-Multiplicative Seen-MultiplicativePart Seen-Equality Seen-EqualityPart Seen-Relational Seen-RelationalPart
      Seen-AndPart Seen-Arguments Seen-Expr Seen-InitList Seen-LogicalAnd Seen-OrPart Seen-Postfix
      part_made primary_made unary_made additive_made additive_part_made multiplicative_made multiplicative_part_made equality_made equality_part_made relational_made relational_part_made
      and_part_made arguments_made expr_made init_list_made logical_and_made or_part_made postfix_made

  pub init_list_seen : (x : InitList) → Seen-InitList x
  init_list_seen = ind-InitList
      Seen-PostfixPart Seen-Primary Seen-Unary Seen-Additive Seen-AdditivePart Seen-Multiplicative Seen-MultiplicativePart Seen-Equality Seen-EqualityPart Seen-Relational Seen-RelationalPart
      Seen-AndPart Seen-Arguments Seen-Expr Seen-InitList Seen-LogicalAnd Seen-OrPart Seen-Postfix
      part_made primary_made unary_made additive_made additive_part_made multiplicative_made multiplicative_part_made equality_made equality_part_made relational_made relational_part_made
      and_part_made arguments_made expr_made init_list_made logical_and_made or_part_made postfix_made

  pub postfix_seen : (x : Postfix) → Seen-Postfix x
  postfix_seen = ind-Postfix
      Seen-PostfixPart Seen-Primary Seen-Unary Seen-Additive Seen-AdditivePart Seen-Multiplicative Seen-MultiplicativePart Seen-Equality Seen-EqualityPart Seen-Relational Seen-RelationalPart
      Seen-AndPart Seen-Arguments Seen-Expr Seen-InitList Seen-LogicalAnd Seen-OrPart Seen-Postfix
      part_made primary_made unary_made additive_made additive_part_made multiplicative_made multiplicative_part_made equality_made equality_part_made relational_made relational_part_made
      and_part_made arguments_made expr_made init_list_made logical_and_made or_part_made postfix_made
