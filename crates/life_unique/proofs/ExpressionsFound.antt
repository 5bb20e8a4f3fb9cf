-- An expression's tree gives the expression back, settled.
-- For each type: what is claimed of it, a layer of parts of which it holds, and that it holds of what such a layer makes.
use Rattle.std.proofs.Common.{◌≡◌, true, false, List, [], ◌∷◌, None, Some, map, refl, ap, sym, subst, ◌∙◌}
use Rattle.std.specs.Prelude.{if◌then◌else◌}
use Rattle.std.specs.declared.alloc.Global.{Global}
use Rattle.life_types.specs.declared.place.Place.{Place}
use Rattle.life_tree.specs.Rules as rules
use Rattle.life_tree.specs.Tree.{Tree, ◌⨾◌, node}
use Rattle.life_tree.specs.Views.{list_tree, later_tree, separated_tree}
use Rattle.life_tree.specs.declared.primary.PostfixPart.TheFolds.{fold_out-Additive, fold_out-Arguments, fold_out-Expr, fold_out-InitList, fold_out-Postfix}
use Rattle.life_unique.specs.Standing.{boxed_at, settled_list}
use Rattle.life_unique.proofs.ExpressionsFrom.{from_part, from_primary, from_unary, from_additive, from_additive_part, from_multiplicative, from_multiplicative_part, from_equality, from_equality_part, from_relational, from_relational_part, from_and_part, from_arguments, from_expr, from_init_list, from_logical_and, from_or_part, from_postfix}
use Rattle.life_unique.proofs.ExpressionsFrom.{parts, or_parts, and_parts, equality_parts, relational_parts, additive_parts, multiplicative_parts, separated}
use Rattle.life_unique.proofs.Commas.{commas_found, commas_of}
use Rattle.life_unique.proofs.Lists.{Both, listed, listed_is, settled_is}
use Rattle.life_unique.proofs.Operators.{additive_is, multiplicative_is, equality_is, relational_is, prefix_is}
use Rattle.life_unique.proofs.Tokens.{derived, is_nothing, is_list, is_node}
use Rattle.life_unique.proofs.TypesFound.{argument_found}
use Rattle.life_tree.specs.declared.primary.PostfixPart.{PostfixPart, roll-PostfixPart}
use Rattle.life_tree.specs.declared.primary.Primary.{Primary, roll-Primary}
use Rattle.life_tree.specs.declared.primary.Unary.{Unary, roll-Unary}
use Rattle.life_tree.specs.declared.arithmetic.Additive.{Additive, roll-Additive}
use Rattle.life_tree.specs.declared.arithmetic.AdditivePart.{AdditivePart, roll-AdditivePart}
use Rattle.life_tree.specs.declared.arithmetic.Multiplicative.{Multiplicative, roll-Multiplicative}
use Rattle.life_tree.specs.declared.arithmetic.MultiplicativePart.{MultiplicativePart, roll-MultiplicativePart}
use Rattle.life_tree.specs.declared.comparison.Equality.{Equality, roll-Equality}
use Rattle.life_tree.specs.declared.comparison.EqualityPart.{EqualityPart, roll-EqualityPart}
use Rattle.life_tree.specs.declared.comparison.Relational.{Relational, roll-Relational}
use Rattle.life_tree.specs.declared.comparison.RelationalPart.{RelationalPart, roll-RelationalPart}
use Rattle.life_tree.specs.declared.expr.AndPart.{AndPart, roll-AndPart}
use Rattle.life_tree.specs.declared.expr.Arguments.{Arguments, roll-Arguments}
use Rattle.life_tree.specs.declared.expr.Expr.{Expr, roll-Expr}
use Rattle.life_tree.specs.declared.expr.InitList.{InitList, roll-InitList}
use Rattle.life_tree.specs.declared.expr.LogicalAnd.{LogicalAnd, roll-LogicalAnd}
use Rattle.life_tree.specs.declared.expr.OrPart.{OrPart, roll-OrPart}
use Rattle.life_tree.specs.declared.primary.Postfix.{Postfix, roll-Postfix}
use Rattle.life_tree.specs.declared.primary.PostfixPart.TheFolds.{ind-Additive, ind-Expr, ind-InitList, ind-Postfix}
use Rattle.life_tree.specs.declared.primary.PostfixPart.TheOpen as open_expr
use Rattle.life_unique.proofs.ExpressionLayers.{trees_part, trees_primary, trees_unary, trees_additive, trees_additive_part, trees_multiplicative, trees_multiplicative_part, trees_equality, trees_equality_part, trees_relational, trees_relational_part, trees_and_part, trees_arguments, trees_expr, trees_init_list, trees_logical_and, trees_or_part, trees_postfix}
use Rattle.life_unique.proofs.ExpressionLayers.{tree_of_part, tree_of_primary, tree_of_unary, tree_of_additive, tree_of_additive_part, tree_of_multiplicative, tree_of_multiplicative_part, tree_of_equality, tree_of_equality_part, tree_of_relational, tree_of_relational_part, tree_of_and_part, tree_of_arguments, tree_of_expr, tree_of_init_list, tree_of_logical_and, tree_of_or_part, tree_of_postfix}
use Rattle.life_unique.proofs.ExpressionLayers.{settled_of_part, settled_of_primary, settled_of_unary, settled_of_additive, settled_of_additive_part, settled_of_multiplicative, settled_of_multiplicative_part, settled_of_equality, settled_of_equality_part, settled_of_relational, settled_of_relational_part, settled_of_and_part, settled_of_arguments, settled_of_expr, settled_of_init_list, settled_of_logical_and, settled_of_or_part, settled_of_postfix}
use Rattle.life_unique.proofs.ExpressionLayers.{settle_part, settle_primary, settle_unary, settle_additive, settle_additive_part, settle_multiplicative, settle_multiplicative_part, settle_equality, settle_equality_part, settle_relational, settle_relational_part, settle_and_part, settle_arguments, settle_expr, settle_init_list, settle_logical_and, settle_or_part, settle_postfix}
use Rattle.life_unique.proofs.ExpressionLayers.{Claims, Layer-PostfixPart, Layer-Primary, Layer-Unary, Layer-Additive, Layer-AdditivePart, Layer-Multiplicative, Layer-MultiplicativePart, Layer-Equality, Layer-EqualityPart, Layer-Relational, Layer-RelationalPart, Layer-AndPart, Layer-Arguments, Layer-Expr, Layer-InitList, Layer-LogicalAnd, Layer-OrPart, Layer-Postfix}
use Rattle.life_unique.proofs.ExpressionLayers.{parts_part, parts_primary, parts_unary, parts_additive, parts_additive_part, parts_multiplicative, parts_multiplicative_part, parts_equality, parts_equality_part, parts_relational, parts_relational_part, parts_and_part, parts_arguments, parts_expr, parts_init_list, parts_logical_and, parts_or_part, parts_postfix}
use Rattle.life_unique.specs.SettledExpressions.{Opened-PostfixPart, Opened-Primary, Opened-Unary, Opened-Additive, Opened-AdditivePart, Opened-Multiplicative, Opened-MultiplicativePart, Opened-Equality, Opened-EqualityPart, Opened-Relational, Opened-RelationalPart, Opened-AndPart, Opened-Arguments, Opened-Expr, Opened-InitList, Opened-LogicalAnd, Opened-OrPart, Opened-Postfix}
use Rattle.life_tree.specs.Views.{part_step, primary_step, unary_step, additive_step, additive_part, multiplicative_step, multiplicative_part, equality_step, equality_part, relational_step, relational_part, and_part, arguments_step, expr_step, init_list_step, logical_and_step, or_part, postfix_step}
use Rattle.life_tree.specs.Views.{postfix_part_tree, primary_tree, unary_tree, additive_tree, additive_part_tree, multiplicative_tree, multiplicative_part_tree, equality_tree, equality_part_tree, relational_tree, relational_part_tree, and_part_tree, arguments_tree, expr_tree, init_list_tree, logical_and_tree, or_part_tree, postfix_tree}
use Rattle.life_unique.specs.SettledExpressions.{kept_part, kept_primary, kept_unary, kept_additive, kept_multiplicative, kept_equality, kept_relational, kept_arguments, kept_expr, kept_init_list, kept_logical_and, kept_postfix}
use Rattle.life_unique.specs.SettledExpressions.{settled_part, settled_primary, settled_unary, settled_additive, settled_additive_part, settled_multiplicative, settled_multiplicative_part, settled_equality, settled_equality_part, settled_relational, settled_relational_part, settled_and_part, settled_arguments, settled_expr, settled_init_list, settled_logical_and, settled_or_part, settled_postfix}

-- which form a tree has
pub arguments_is_nothing : (x : Arguments) → is_nothing (arguments_tree x) ≡ false
arguments_is_nothing x = ap is_nothing (fold_out-Arguments Tree Tree Tree Tree Tree Tree Tree Tree Tree Tree Tree Tree Tree Tree Tree Tree Tree Tree
    part_step primary_step unary_step additive_step additive_part multiplicative_step multiplicative_part equality_step equality_part relational_step relational_part and_part arguments_step expr_step
    init_list_step logical_and_step or_part postfix_step x)

pub arguments_is_list : (x : Arguments) → is_list (arguments_tree x) ≡ false
arguments_is_list x = ap is_list (fold_out-Arguments Tree Tree Tree Tree Tree Tree Tree Tree Tree Tree Tree Tree Tree Tree Tree Tree Tree Tree
    part_step primary_step unary_step additive_step additive_part multiplicative_step multiplicative_part equality_step equality_part relational_step relational_part and_part arguments_step expr_step
    init_list_step logical_and_step or_part postfix_step x)

pub init_list_is_nothing : (x : InitList) → is_nothing (init_list_tree x) ≡ false
init_list_is_nothing x = ap is_nothing (fold_out-InitList Tree Tree Tree Tree Tree Tree Tree Tree Tree Tree Tree Tree Tree Tree Tree Tree Tree Tree
    part_step primary_step unary_step additive_step additive_part multiplicative_step multiplicative_part equality_step equality_part relational_step relational_part and_part arguments_step expr_step
    init_list_step logical_and_step or_part postfix_step x)

pub init_list_is_list : (x : InitList) → is_list (init_list_tree x) ≡ true
init_list_is_list x = ap is_list (fold_out-InitList Tree Tree Tree Tree Tree Tree Tree Tree Tree Tree Tree Tree Tree Tree Tree Tree Tree Tree
    part_step primary_step unary_step additive_step additive_part multiplicative_step multiplicative_part equality_step equality_part relational_step relational_part and_part arguments_step expr_step
    init_list_step logical_and_step or_part postfix_step x)

pub expr_is_nothing : (x : Expr) → is_nothing (expr_tree x) ≡ false
expr_is_nothing x = ap is_nothing (fold_out-Expr Tree Tree Tree Tree Tree Tree Tree Tree Tree Tree Tree Tree Tree Tree Tree Tree Tree Tree
    part_step primary_step unary_step additive_step additive_part multiplicative_step multiplicative_part equality_step equality_part relational_step relational_part and_part arguments_step expr_step
    init_list_step logical_and_step or_part postfix_step x)

pub expr_is_list : (x : Expr) → is_list (expr_tree x) ≡ false
expr_is_list x = ap is_list (fold_out-Expr Tree Tree Tree Tree Tree Tree Tree Tree Tree Tree Tree Tree Tree Tree Tree Tree Tree Tree
    part_step primary_step unary_step additive_step additive_part multiplicative_step multiplicative_part equality_step equality_part relational_step relational_part and_part arguments_step expr_step
    init_list_step logical_and_step or_part postfix_step x)

pub additive_is_node : (x : Additive) → is_node (additive_tree x) ≡ true
additive_is_node x = ap is_node (fold_out-Additive Tree Tree Tree Tree Tree Tree Tree Tree Tree Tree Tree Tree Tree Tree Tree Tree Tree Tree
    part_step primary_step unary_step additive_step additive_part multiplicative_step multiplicative_part equality_step equality_part relational_step relational_part and_part arguments_step expr_step
    init_list_step logical_and_step or_part postfix_step x)

-- it is what a rule derives
expr_is_derived : (x : Expr) → expr_tree x ≡ node rules.expr (derived (expr_tree x))
expr_is_derived x = subst (λ t. t ≡ node rules.expr (derived t)) (sym (fold_out-Expr Tree Tree Tree Tree Tree Tree Tree Tree Tree Tree Tree Tree Tree Tree Tree Tree Tree Tree
    part_step primary_step unary_step additive_step additive_part multiplicative_step multiplicative_part equality_step equality_part relational_step relational_part and_part arguments_step expr_step
    init_list_step logical_and_step or_part postfix_step x)) refl

module _ (g : Global) where
  -- what has no prefix
  plain_is : (x : Postfix) → from_unary g (node rules.unary (postfix_tree x)) ≡ roll-Unary (open_expr.Plain (from_postfix g (postfix_tree x)))
  plain_is x = subst (λ t. from_unary g (node rules.unary t) ≡ roll-Unary (open_expr.Plain (from_postfix g t)))
      (sym (fold_out-Postfix Tree Tree Tree Tree Tree Tree Tree Tree Tree Tree Tree Tree Tree Tree Tree Tree Tree Tree
      part_step primary_step unary_step additive_step additive_part multiplicative_step multiplicative_part equality_step equality_part
      relational_step relational_part and_part arguments_step expr_step init_list_step logical_and_step or_part postfix_step x)) refl

  abbrev Found-PostfixPart : PostfixPart → Type 0
  Found-PostfixPart x = from_part g (postfix_part_tree x) ≡ settled_part x

  abbrev Found-Primary : Primary → Type 0
  Found-Primary x = from_primary g (primary_tree x) ≡ settled_primary x

  abbrev Found-Unary : Unary → Type 0
  Found-Unary x = from_unary g (unary_tree x) ≡ settled_unary x

  abbrev Found-Additive : Additive → Type 0
  Found-Additive x = from_additive g (additive_tree x) ≡ settled_additive x

  abbrev Found-AdditivePart : AdditivePart → Type 0
  Found-AdditivePart x = from_additive_part g (additive_part_tree x) ≡ settled_additive_part x

  abbrev Found-Multiplicative : Multiplicative → Type 0
  Found-Multiplicative x = from_multiplicative g (multiplicative_tree x) ≡ settled_multiplicative x

  abbrev Found-MultiplicativePart : MultiplicativePart → Type 0
  Found-MultiplicativePart x = from_multiplicative_part g (multiplicative_part_tree x) ≡ settled_multiplicative_part x

  abbrev Found-Equality : Equality → Type 0
  Found-Equality x = from_equality g (equality_tree x) ≡ settled_equality x

  abbrev Found-EqualityPart : EqualityPart → Type 0
  Found-EqualityPart x = from_equality_part g (equality_part_tree x) ≡ settled_equality_part x

  abbrev Found-Relational : Relational → Type 0
  Found-Relational x = from_relational g (relational_tree x) ≡ settled_relational x

  abbrev Found-RelationalPart : RelationalPart → Type 0
  Found-RelationalPart x = from_relational_part g (relational_part_tree x) ≡ settled_relational_part x

  abbrev Found-AndPart : AndPart → Type 0
  Found-AndPart x = from_and_part g (and_part_tree x) ≡ settled_and_part x

  abbrev Found-Arguments : Arguments → Type 0
  Found-Arguments x = from_arguments g (arguments_tree x) ≡ settled_arguments x

  abbrev Found-Expr : Expr → Type 0
  Found-Expr x = from_expr g (expr_tree x) ≡ settled_expr x

  abbrev Found-InitList : InitList → Type 0
  Found-InitList x = from_init_list g (init_list_tree x) ≡ settled_init_list x

  abbrev Found-LogicalAnd : LogicalAnd → Type 0
  Found-LogicalAnd x = from_logical_and g (logical_and_tree x) ≡ settled_logical_and x

  abbrev Found-OrPart : OrPart → Type 0
  Found-OrPart x = from_or_part g (or_part_tree x) ≡ settled_or_part x

  abbrev Found-Postfix : Postfix → Type 0
  Found-Postfix x = from_postfix g (postfix_tree x) ≡ settled_postfix x

  abbrev claims : Claims
  claims = record {
    part = Found-PostfixPart;
    primary = Found-Primary;
    unary = Found-Unary;
    additive = Found-Additive;
    additive_part = Found-AdditivePart;
    multiplicative = Found-Multiplicative;
    multiplicative_part = Found-MultiplicativePart;
    equality = Found-Equality;
    equality_part = Found-EqualityPart;
    relational = Found-Relational;
    relational_part = Found-RelationalPart;
    and_part = Found-AndPart;
    arguments = Found-Arguments;
    expr = Found-Expr;
    init_list = Found-InitList;
    logical_and = Found-LogicalAnd;
    or_part = Found-OrPart;
    postfix = Found-Postfix;
  }

  -- lists of parts
  additive_part_row : (xs : List (Both Found-AdditivePart)) → additive_parts g (list_tree (map additive_part_tree (map (λ z. z.0) xs))) ≡ map settled_additive_part (map (λ z. z.0) xs)
  additive_part_row [] = refl
  additive_part_row (x ∷ xs) = λ i. x.1 i ∷ additive_part_row xs i

  multiplicative_part_row : (xs : List (Both Found-MultiplicativePart)) → multiplicative_parts g (list_tree (map multiplicative_part_tree (map (λ z. z.0) xs))) ≡ map settled_multiplicative_part (map (λ z. z.0) xs)
  multiplicative_part_row [] = refl
  multiplicative_part_row (x ∷ xs) = λ i. x.1 i ∷ multiplicative_part_row xs i

  equality_part_row : (xs : List (Both Found-EqualityPart)) → equality_parts g (list_tree (map equality_part_tree (map (λ z. z.0) xs))) ≡ map settled_equality_part (map (λ z. z.0) xs)
  equality_part_row [] = refl
  equality_part_row (x ∷ xs) = λ i. x.1 i ∷ equality_part_row xs i

  relational_part_row : (xs : List (Both Found-RelationalPart)) → relational_parts g (list_tree (map relational_part_tree (map (λ z. z.0) xs))) ≡ map settled_relational_part (map (λ z. z.0) xs)
  relational_part_row [] = refl
  relational_part_row (x ∷ xs) = λ i. x.1 i ∷ relational_part_row xs i

  or_part_row : (xs : List (Both Found-OrPart)) → or_parts g (list_tree (map or_part_tree (map (λ z. z.0) xs))) ≡ map settled_or_part (map (λ z. z.0) xs)
  or_part_row [] = refl
  or_part_row (x ∷ xs) = λ i. x.1 i ∷ or_part_row xs i

  and_part_row : (xs : List (Both Found-AndPart)) → and_parts g (list_tree (map and_part_tree (map (λ z. z.0) xs))) ≡ map settled_and_part (map (λ z. z.0) xs)
  and_part_row [] = refl
  and_part_row (x ∷ xs) = λ i. x.1 i ∷ and_part_row xs i

  part_row : (xs : List (Both Found-PostfixPart)) → parts g (list_tree (map postfix_part_tree (map (λ z. z.0) xs))) ≡ map settled_part (map (λ z. z.0) xs)
  part_row [] = refl
  part_row (x ∷ xs) = λ i. x.1 i ∷ part_row xs i

  -- .. that has no comma before it
  first_expr : (x : Both Found-Expr) (ts : Tree) → separated g (expr_tree x.0 ⨾ ts) ≡ settled_expr x.0 ∷ separated g ts
  first_expr x ts = subst (λ t. separated g (t ⨾ ts) ≡ from_expr g t ∷ separated g ts) (sym (expr_is_derived x.0)) refl ∙ (λ i. x.1 i ∷ separated g ts)

  later_row : (commas : List Place) (xs : List (Both Found-Expr)) → separated g (later_tree commas (map expr_tree (map (λ z. z.0) xs))) ≡ map settled_expr (map (λ z. z.0) xs)
  later_row [] [] = refl
  later_row [] (x ∷ xs) = first_expr x (later_tree [] (map expr_tree (map (λ z. z.0) xs))) ∙ (λ i. settled_expr x.0 ∷ later_row [] xs i)
  later_row (comma ∷ commas) [] = later_row commas []
  later_row (comma ∷ commas) (x ∷ xs) = λ i. x.1 i ∷ later_row commas xs i

  separated_row : (commas : List Place) (xs : List (Both Found-Expr)) → separated g (separated_tree commas (map expr_tree (map (λ z. z.0) xs))) ≡ map settled_expr (map (λ z. z.0) xs)
  separated_row commas [] = later_row commas []
  separated_row commas (x ∷ xs) = first_expr x (later_tree commas (map expr_tree (map (λ z. z.0) xs))) ∙ (λ i. settled_expr x.0 ∷ later_row commas xs i)

  commas_row : (commas : List Place) (xs : List (Both Found-Expr)) → commas_of (separated_tree commas (map expr_tree (map (λ z. z.0) xs))) ≡ commas
  commas_row commas xs = commas_found rules.expr expr_tree expr_is_derived commas (map (λ z. z.0) xs)

  -- .. is found of parts that are
  part_layer : (l : Layer-PostfixPart claims)
      → from_part g (part_step (trees_part (parts_part claims l)))
      ≡ kept_part (settle_part (parts_part claims l))
  part_layer (open_expr.Member mark name None) = refl
  part_layer (open_expr.Member mark name (Some l)) =
      λ i. roll-PostfixPart (open_expr.Member mark name (if arguments_is_nothing l.0 i then None else Some (l.1 i)))
  part_layer (open_expr.Arrow mark name None) = refl
  part_layer (open_expr.Arrow mark name (Some l)) =
      λ i. roll-PostfixPart (open_expr.Arrow mark name (if arguments_is_nothing l.0 i then None else Some (l.1 i)))
  part_layer (open_expr.Index opening index closing) = λ i. roll-PostfixPart (open_expr.Index opening (boxed_at g (index.value.1 i)) closing)

  primary_layer : (l : Layer-Primary claims)
      → from_primary g (primary_step (trees_primary (parts_primary claims l)))
      ≡ kept_primary (settle_primary (parts_primary claims l))
  primary_layer (open_expr.Call name l) = λ i.
      if arguments_is_nothing l.0 i then roll-Primary (open_expr.Name name)
      else (if arguments_is_list l.0 i then roll-Primary (open_expr.Construct name (from_init_list g (arguments_tree l.0)))
      else roll-Primary (open_expr.Call name (l.1 i)))
  primary_layer (open_expr.Construct name l) = λ i.
      if init_list_is_nothing l.0 i then roll-Primary (open_expr.Name name)
      else (if init_list_is_list l.0 i then roll-Primary (open_expr.Construct name (l.1 i))
      else roll-Primary (open_expr.Call name (from_arguments g (init_list_tree l.0))))
  primary_layer (open_expr.Paren opening inner closing) = λ i. roll-Primary (open_expr.Paren opening (boxed_at g (inner.value.1 i)) closing)
  primary_layer (open_expr.MakeUnique name element l) = λ i. roll-Primary (open_expr.MakeUnique name (argument_found g element i) (l.1 i))
  primary_layer (open_expr.TextOf name opening inner closing) = λ i. roll-Primary (open_expr.TextOf name opening (boxed_at g (inner.value.1 i)) closing)
  primary_layer _ = refl

  unary_layer : (l : Layer-Unary claims)
      → from_unary g (unary_step (trees_unary (parts_unary claims l)))
      ≡ kept_unary (settle_unary (parts_unary claims l))
  unary_layer (open_expr.Prefix operator place operand) = λ i. roll-Unary (open_expr.Prefix (prefix_is operator i) place (boxed_at g (operand.value.1 i)))
  unary_layer (open_expr.Plain operand) = plain_is operand.0 ∙ (λ i. roll-Unary (open_expr.Plain (operand.1 i)))

  additive_layer : (l : Layer-Additive claims)
      → from_additive g (additive_step (trees_additive (parts_additive claims l)))
      ≡ kept_additive (settle_additive (parts_additive claims l))
  additive_layer l = (λ i. roll-Additive (record { first = l.first.1 i; more = listed g (additive_part_row l.more.items i) }))
      ∙ ap (λ z. roll-Additive (record { first = settled_multiplicative l.first.0; more = z })) (listed_is g (map settled_additive_part (map (λ z. z.0) l.more.items)) _)

  additive_part_layer : (l : Layer-AdditivePart claims)
      → from_additive_part g (additive_part (trees_additive_part (parts_additive_part claims l)))
      ≡ roll-AdditivePart (settle_additive_part (parts_additive_part claims l))
  additive_part_layer l = λ i. roll-AdditivePart (record { operator = additive_is l.operator i; place = l.place; operand = l.operand.1 i })

  multiplicative_layer : (l : Layer-Multiplicative claims)
      → from_multiplicative g (multiplicative_step (trees_multiplicative (parts_multiplicative claims l)))
      ≡ kept_multiplicative (settle_multiplicative (parts_multiplicative claims l))
  multiplicative_layer l = (λ i. roll-Multiplicative (record { first = l.first.1 i; more = listed g (multiplicative_part_row l.more.items i) }))
      ∙ ap (λ z. roll-Multiplicative (record { first = settled_unary l.first.0; more = z })) (listed_is g (map settled_multiplicative_part (map (λ z. z.0) l.more.items)) _)

  multiplicative_part_layer : (l : Layer-MultiplicativePart claims)
      → from_multiplicative_part g (multiplicative_part (trees_multiplicative_part (parts_multiplicative_part claims l)))
      ≡ roll-MultiplicativePart (settle_multiplicative_part (parts_multiplicative_part claims l))
  multiplicative_part_layer l = λ i. roll-MultiplicativePart (record { operator = multiplicative_is l.operator i; place = l.place; operand = l.operand.1 i })

  equality_layer : (l : Layer-Equality claims)
      → from_equality g (equality_step (trees_equality (parts_equality claims l)))
      ≡ kept_equality (settle_equality (parts_equality claims l))
  equality_layer l = (λ i. roll-Equality (record { first = l.first.1 i; more = listed g (equality_part_row l.more.items i) }))
      ∙ ap (λ z. roll-Equality (record { first = settled_relational l.first.0; more = z })) (listed_is g (map settled_equality_part (map (λ z. z.0) l.more.items)) _)

  equality_part_layer : (l : Layer-EqualityPart claims)
      → from_equality_part g (equality_part (trees_equality_part (parts_equality_part claims l)))
      ≡ roll-EqualityPart (settle_equality_part (parts_equality_part claims l))
  equality_part_layer l = λ i. roll-EqualityPart (record { operator = equality_is l.operator i; place = l.place; operand = l.operand.1 i })

  relational_layer : (l : Layer-Relational claims)
      → from_relational g (relational_step (trees_relational (parts_relational claims l)))
      ≡ kept_relational (settle_relational (parts_relational claims l))
  relational_layer l = (λ i. roll-Relational (record { first = l.first.1 i; more = listed g (relational_part_row l.more.items i) }))
      ∙ ap (λ z. roll-Relational (record { first = settled_additive l.first.0; more = z })) (listed_is g (map settled_relational_part (map (λ z. z.0) l.more.items)) _)

  relational_part_layer : (l : Layer-RelationalPart claims)
      → from_relational_part g (relational_part (trees_relational_part (parts_relational_part claims l)))
      ≡ roll-RelationalPart (settle_relational_part (parts_relational_part claims l))
  relational_part_layer l = λ i. roll-RelationalPart (record { operator = relational_is l.operator i; place = l.place; operand = l.operand.1 i })

  and_part_layer : (l : Layer-AndPart claims)
      → from_and_part g (and_part (trees_and_part (parts_and_part claims l)))
      ≡ roll-AndPart (settle_and_part (parts_and_part claims l))
  and_part_layer l = λ i. roll-AndPart (record { place = l.place; operand = l.operand.1 i })

  arguments_layer : (l : Layer-Arguments claims)
      → from_arguments g (arguments_step (trees_arguments (parts_arguments claims l)))
      ≡ kept_arguments (settle_arguments (parts_arguments claims l))
  arguments_layer l = (λ i. roll-Arguments (record {
    opening = l.opening;
    list = listed g (separated_row l.commas.items l.list.items i);
    commas = settled_is g l.commas (commas_of (separated_tree l.commas.items (map expr_tree (map (λ z. z.0) l.list.items)))) (commas_row l.commas.items l.list.items) i;
    closing = l.closing;
  }))
      ∙ ap (λ z. roll-Arguments (record { opening = l.opening; list = z; commas = settled_list l.commas; closing = l.closing })) (listed_is g (map settled_expr (map (λ z. z.0) l.list.items)) _)

  expr_layer : (l : Layer-Expr claims)
      → from_expr g (expr_step (trees_expr (parts_expr claims l)))
      ≡ kept_expr (settle_expr (parts_expr claims l))
  expr_layer l = (λ i. roll-Expr (record { first = l.first.1 i; more = listed g (or_part_row l.more.items i) }))
      ∙ ap (λ z. roll-Expr (record { first = settled_logical_and l.first.0; more = z })) (listed_is g (map settled_or_part (map (λ z. z.0) l.more.items)) _)

  init_list_layer : (l : Layer-InitList claims)
      → from_init_list g (init_list_step (trees_init_list (parts_init_list claims l)))
      ≡ kept_init_list (settle_init_list (parts_init_list claims l))
  init_list_layer l = (λ i. roll-InitList (record {
    opening = l.opening;
    list = listed g (separated_row l.commas.items l.list.items i);
    commas = settled_is g l.commas (commas_of (separated_tree l.commas.items (map expr_tree (map (λ z. z.0) l.list.items)))) (commas_row l.commas.items l.list.items) i;
    closing = l.closing;
  }))
      ∙ ap (λ z. roll-InitList (record { opening = l.opening; list = z; commas = settled_list l.commas; closing = l.closing })) (listed_is g (map settled_expr (map (λ z. z.0) l.list.items)) _)

  logical_and_layer : (l : Layer-LogicalAnd claims)
      → from_logical_and g (logical_and_step (trees_logical_and (parts_logical_and claims l)))
      ≡ kept_logical_and (settle_logical_and (parts_logical_and claims l))
  logical_and_layer l = (λ i. roll-LogicalAnd (record { first = l.first.1 i; more = listed g (and_part_row l.more.items i) }))
      ∙ ap (λ z. roll-LogicalAnd (record { first = settled_equality l.first.0; more = z })) (listed_is g (map settled_and_part (map (λ z. z.0) l.more.items)) _)

  or_part_layer : (l : Layer-OrPart claims)
      → from_or_part g (or_part (trees_or_part (parts_or_part claims l)))
      ≡ roll-OrPart (settle_or_part (parts_or_part claims l))
  or_part_layer l = λ i. roll-OrPart (record { place = l.place; operand = l.operand.1 i })

  postfix_layer : (l : Layer-Postfix claims)
      → from_postfix g (postfix_step (trees_postfix (parts_postfix claims l)))
      ≡ kept_postfix (settle_postfix (parts_postfix claims l))
  postfix_layer l = (λ i. roll-Postfix (record { primary = l.primary.1 i; parts = listed g (part_row l.parts.items i) }))
      ∙ ap (λ z. roll-Postfix (record { primary = settled_primary l.primary.0; parts = z })) (listed_is g (map settled_part (map (λ z. z.0) l.parts.items)) _)

  part_made : (x : Opened-PostfixPart) (l : Layer-PostfixPart claims) → parts_part claims l ≡ x → Found-PostfixPart (roll-PostfixPart x)
  part_made x l e = subst (λ z. Found-PostfixPart (roll-PostfixPart z)) e
      (ap (λ t. from_part g t) (tree_of_part (parts_part claims l)) ∙ part_layer l ∙ sym (settled_of_part (parts_part claims l)))

  primary_made : (x : Opened-Primary) (l : Layer-Primary claims) → parts_primary claims l ≡ x → Found-Primary (roll-Primary x)
  primary_made x l e = subst (λ z. Found-Primary (roll-Primary z)) e
      (ap (λ t. from_primary g t) (tree_of_primary (parts_primary claims l)) ∙ primary_layer l ∙ sym (settled_of_primary (parts_primary claims l)))

  unary_made : (x : Opened-Unary) (l : Layer-Unary claims) → parts_unary claims l ≡ x → Found-Unary (roll-Unary x)
  unary_made x l e = subst (λ z. Found-Unary (roll-Unary z)) e
      (ap (λ t. from_unary g t) (tree_of_unary (parts_unary claims l)) ∙ unary_layer l ∙ sym (settled_of_unary (parts_unary claims l)))

  additive_made : (x : Opened-Additive) (l : Layer-Additive claims) → parts_additive claims l ≡ x → Found-Additive (roll-Additive x)
  additive_made x l e = subst (λ z. Found-Additive (roll-Additive z)) e
      (ap (λ t. from_additive g t) (tree_of_additive (parts_additive claims l)) ∙ additive_layer l ∙ sym (settled_of_additive (parts_additive claims l)))

  additive_part_made : (x : Opened-AdditivePart) (l : Layer-AdditivePart claims) → parts_additive_part claims l ≡ x → Found-AdditivePart (roll-AdditivePart x)
  additive_part_made x l e = subst (λ z. Found-AdditivePart (roll-AdditivePart z)) e
      (ap (λ t. from_additive_part g t) (tree_of_additive_part (parts_additive_part claims l)) ∙ additive_part_layer l ∙ sym (settled_of_additive_part (parts_additive_part claims l)))

  multiplicative_made : (x : Opened-Multiplicative) (l : Layer-Multiplicative claims) → parts_multiplicative claims l ≡ x → Found-Multiplicative (roll-Multiplicative x)
  multiplicative_made x l e = subst (λ z. Found-Multiplicative (roll-Multiplicative z)) e
      (ap (λ t. from_multiplicative g t) (tree_of_multiplicative (parts_multiplicative claims l)) ∙ multiplicative_layer l ∙ sym (settled_of_multiplicative (parts_multiplicative claims l)))

  multiplicative_part_made : (x : Opened-MultiplicativePart) (l : Layer-MultiplicativePart claims) → parts_multiplicative_part claims l ≡ x → Found-MultiplicativePart (roll-MultiplicativePart x)
  multiplicative_part_made x l e = subst (λ z. Found-MultiplicativePart (roll-MultiplicativePart z)) e
      (ap (λ t. from_multiplicative_part g t) (tree_of_multiplicative_part (parts_multiplicative_part claims l)) ∙ multiplicative_part_layer l ∙ sym (settled_of_multiplicative_part (parts_multiplicative_part claims l)))

  equality_made : (x : Opened-Equality) (l : Layer-Equality claims) → parts_equality claims l ≡ x → Found-Equality (roll-Equality x)
  equality_made x l e = subst (λ z. Found-Equality (roll-Equality z)) e
      (ap (λ t. from_equality g t) (tree_of_equality (parts_equality claims l)) ∙ equality_layer l ∙ sym (settled_of_equality (parts_equality claims l)))

  equality_part_made : (x : Opened-EqualityPart) (l : Layer-EqualityPart claims) → parts_equality_part claims l ≡ x → Found-EqualityPart (roll-EqualityPart x)
  equality_part_made x l e = subst (λ z. Found-EqualityPart (roll-EqualityPart z)) e
      (ap (λ t. from_equality_part g t) (tree_of_equality_part (parts_equality_part claims l)) ∙ equality_part_layer l ∙ sym (settled_of_equality_part (parts_equality_part claims l)))

  relational_made : (x : Opened-Relational) (l : Layer-Relational claims) → parts_relational claims l ≡ x → Found-Relational (roll-Relational x)
  relational_made x l e = subst (λ z. Found-Relational (roll-Relational z)) e
      (ap (λ t. from_relational g t) (tree_of_relational (parts_relational claims l)) ∙ relational_layer l ∙ sym (settled_of_relational (parts_relational claims l)))

  relational_part_made : (x : Opened-RelationalPart) (l : Layer-RelationalPart claims) → parts_relational_part claims l ≡ x → Found-RelationalPart (roll-RelationalPart x)
  relational_part_made x l e = subst (λ z. Found-RelationalPart (roll-RelationalPart z)) e
      (ap (λ t. from_relational_part g t) (tree_of_relational_part (parts_relational_part claims l)) ∙ relational_part_layer l ∙ sym (settled_of_relational_part (parts_relational_part claims l)))

  and_part_made : (x : Opened-AndPart) (l : Layer-AndPart claims) → parts_and_part claims l ≡ x → Found-AndPart (roll-AndPart x)
  and_part_made x l e = subst (λ z. Found-AndPart (roll-AndPart z)) e
      (ap (λ t. from_and_part g t) (tree_of_and_part (parts_and_part claims l)) ∙ and_part_layer l ∙ sym (settled_of_and_part (parts_and_part claims l)))

  arguments_made : (x : Opened-Arguments) (l : Layer-Arguments claims) → parts_arguments claims l ≡ x → Found-Arguments (roll-Arguments x)
  arguments_made x l e = subst (λ z. Found-Arguments (roll-Arguments z)) e
      (ap (λ t. from_arguments g t) (tree_of_arguments (parts_arguments claims l)) ∙ arguments_layer l ∙ sym (settled_of_arguments (parts_arguments claims l)))

  expr_made : (x : Opened-Expr) (l : Layer-Expr claims) → parts_expr claims l ≡ x → Found-Expr (roll-Expr x)
  expr_made x l e = subst (λ z. Found-Expr (roll-Expr z)) e
      (ap (λ t. from_expr g t) (tree_of_expr (parts_expr claims l)) ∙ expr_layer l ∙ sym (settled_of_expr (parts_expr claims l)))

  init_list_made : (x : Opened-InitList) (l : Layer-InitList claims) → parts_init_list claims l ≡ x → Found-InitList (roll-InitList x)
  init_list_made x l e = subst (λ z. Found-InitList (roll-InitList z)) e
      (ap (λ t. from_init_list g t) (tree_of_init_list (parts_init_list claims l)) ∙ init_list_layer l ∙ sym (settled_of_init_list (parts_init_list claims l)))

  logical_and_made : (x : Opened-LogicalAnd) (l : Layer-LogicalAnd claims) → parts_logical_and claims l ≡ x → Found-LogicalAnd (roll-LogicalAnd x)
  logical_and_made x l e = subst (λ z. Found-LogicalAnd (roll-LogicalAnd z)) e
      (ap (λ t. from_logical_and g t) (tree_of_logical_and (parts_logical_and claims l)) ∙ logical_and_layer l ∙ sym (settled_of_logical_and (parts_logical_and claims l)))

  or_part_made : (x : Opened-OrPart) (l : Layer-OrPart claims) → parts_or_part claims l ≡ x → Found-OrPart (roll-OrPart x)
  or_part_made x l e = subst (λ z. Found-OrPart (roll-OrPart z)) e
      (ap (λ t. from_or_part g t) (tree_of_or_part (parts_or_part claims l)) ∙ or_part_layer l ∙ sym (settled_of_or_part (parts_or_part claims l)))

  postfix_made : (x : Opened-Postfix) (l : Layer-Postfix claims) → parts_postfix claims l ≡ x → Found-Postfix (roll-Postfix x)
  postfix_made x l e = subst (λ z. Found-Postfix (roll-Postfix z)) e
      (ap (λ t. from_postfix g t) (tree_of_postfix (parts_postfix claims l)) ∙ postfix_layer l ∙ sym (settled_of_postfix (parts_postfix claims l)))

  pub additive_found : (x : Additive) → Found-Additive x
  additive_found = ind-Additive
      Found-PostfixPart Found-Primary Found-Unary Found-Additive Found-AdditivePart Found-Multiplicative Found-MultiplicativePart Found-Equality Found-EqualityPart Found-Relational
      Found-RelationalPart Found-AndPart Found-Arguments Found-Expr Found-InitList Found-LogicalAnd Found-OrPart Found-Postfix
      part_made primary_made unary_made additive_made additive_part_made multiplicative_made multiplicative_part_made equality_made equality_part_made relational_made relational_part_made
      and_part_made arguments_made expr_made init_list_made logical_and_made or_part_made postfix_made

  pub expr_found : (x : Expr) → Found-Expr x
  expr_found = ind-Expr
      Found-PostfixPart Found-Primary Found-Unary Found-Additive Found-AdditivePart Found-Multiplicative Found-MultiplicativePart Found-Equality Found-EqualityPart Found-Relational
      Found-RelationalPart Found-AndPart Found-Arguments Found-Expr Found-InitList Found-LogicalAnd Found-OrPart Found-Postfix
      part_made primary_made unary_made additive_made additive_part_made multiplicative_made multiplicative_part_made equality_made equality_part_made relational_made relational_part_made
      and_part_made arguments_made expr_made init_list_made logical_and_made or_part_made postfix_made

  pub init_list_found : (x : InitList) → Found-InitList x
  init_list_found = ind-InitList
      Found-PostfixPart Found-Primary Found-Unary Found-Additive Found-AdditivePart Found-Multiplicative Found-MultiplicativePart Found-Equality Found-EqualityPart Found-Relational
      Found-RelationalPart Found-AndPart Found-Arguments Found-Expr Found-InitList Found-LogicalAnd Found-OrPart Found-Postfix
      part_made primary_made unary_made additive_made additive_part_made multiplicative_made multiplicative_part_made equality_made equality_part_made relational_made relational_part_made
      and_part_made arguments_made expr_made init_list_made logical_and_made or_part_made postfix_made

  pub postfix_found : (x : Postfix) → Found-Postfix x
  postfix_found = ind-Postfix
      Found-PostfixPart Found-Primary Found-Unary Found-Additive Found-AdditivePart Found-Multiplicative Found-MultiplicativePart Found-Equality Found-EqualityPart Found-Relational
      Found-RelationalPart Found-AndPart Found-Arguments Found-Expr Found-InitList Found-LogicalAnd Found-OrPart Found-Postfix
      part_made primary_made unary_made additive_made additive_part_made multiplicative_made multiplicative_part_made equality_made equality_part_made relational_made relational_part_made
      and_part_made arguments_made expr_made init_list_made logical_and_made or_part_made postfix_made
