-- Whole expressions: each rule of the grammar keeps that a meaning is good, and so each expression's is; and what a sum gives is apart.
use Rattle.std.proofs.Common.{◌≡◌}
use Rattle.life_tree.specs.declared.arithmetic.Additive.{Additive, roll-Additive}
use Rattle.life_tree.specs.declared.arithmetic.AdditivePart.{roll-AdditivePart}
use Rattle.life_tree.specs.declared.arithmetic.Multiplicative.{roll-Multiplicative}
use Rattle.life_tree.specs.declared.arithmetic.MultiplicativePart.{roll-MultiplicativePart}
use Rattle.life_tree.specs.declared.comparison.Equality.{roll-Equality}
use Rattle.life_tree.specs.declared.comparison.EqualityPart.{roll-EqualityPart}
use Rattle.life_tree.specs.declared.comparison.Relational.{roll-Relational}
use Rattle.life_tree.specs.declared.comparison.RelationalPart.{roll-RelationalPart}
use Rattle.life_tree.specs.declared.expr.AndPart.{roll-AndPart}
use Rattle.life_tree.specs.declared.expr.Arguments.{roll-Arguments}
use Rattle.life_tree.specs.declared.expr.Expr.{Expr, roll-Expr}
use Rattle.life_tree.specs.declared.expr.InitList.{InitList, roll-InitList}
use Rattle.life_tree.specs.declared.expr.LogicalAnd.{roll-LogicalAnd}
use Rattle.life_tree.specs.declared.expr.OrPart.{roll-OrPart}
use Rattle.life_tree.specs.declared.primary.PostfixPart.{roll-PostfixPart}
use Rattle.life_tree.specs.declared.primary.Primary.{roll-Primary}
use Rattle.life_tree.specs.declared.primary.Unary.{roll-Unary}
use Rattle.life_tree.specs.declared.primary.Postfix.{Postfix, roll-Postfix}
use Rattle.life_tree.specs.declared.primary.PostfixPart.TheFolds.{fold-roll-PostfixPart, fold-roll-Primary, fold-roll-Unary, fold-roll-Additive, fold-roll-AdditivePart, fold-roll-Multiplicative, fold-roll-MultiplicativePart, fold-roll-Equality, fold-roll-EqualityPart, fold-roll-Relational, fold-roll-RelationalPart, fold-roll-AndPart, fold-roll-Arguments, fold-roll-Expr, fold-roll-InitList, fold-roll-LogicalAnd, fold-roll-OrPart, fold-roll-Postfix}
use Rattle.life_tree.specs.declared.primary.PostfixPart.TheFolds.{ind-Additive, ind-Expr, ind-InitList, ind-Postfix}
use Rattle.life_typed.specs.declared.typed_expr.BinaryOperator.TheVariants as operators
use Rattle.life_type_expr.specs.Expressions.{PartMeaning, additive_operator, equality_operator, multiplicative_operator, relational_operator}
use Rattle.life_type_expr.specs.Expressions.{part_step, primary_step, unary_step, additive_step, additive_part, multiplicative_step, multiplicative_part, equality_step, equality_part, relational_step, relational_part, and_part, arguments_step, expr_step, init_list_step, logical_and_step, or_part, postfix_step}
use Rattle.life_type_expr.specs.Expressions.{part_meaning, primary_meaning, unary_meaning, additive_meaning, additive_part_meaning, multiplicative_meaning, multiplicative_part_meaning, equality_meaning, equality_part_meaning, relational_meaning, relational_part_meaning, and_part_meaning, arguments_meaning, expr_meaning, init_list_meaning, logical_and_meaning, or_part_meaning, postfix_meaning}
use Rattle.life_type_expr.specs.Lists.{ListMeaning, Meaning}
use Rattle.life_unique.proofs.ExpressionLayers.{Layer-PostfixPart, Layer-Primary, Layer-Unary, Layer-Additive, Layer-AdditivePart, Layer-Multiplicative, Layer-MultiplicativePart, Layer-Equality, Layer-EqualityPart, Layer-Relational, Layer-RelationalPart, Layer-AndPart, Layer-Arguments, Layer-Expr, Layer-InitList, Layer-LogicalAnd, Layer-OrPart, Layer-Postfix}
use Rattle.life_unique.proofs.ExpressionLayers.{parts_part, parts_primary, parts_unary, parts_additive, parts_additive_part, parts_multiplicative, parts_multiplicative_part, parts_equality, parts_equality_part, parts_relational, parts_relational_part, parts_and_part, parts_arguments, parts_expr, parts_init_list, parts_logical_and, parts_or_part, parts_postfix}
use Rattle.life_unique.specs.SettledExpressions.{Opened-PostfixPart, Opened-Primary, Opened-Unary, Opened-Additive, Opened-AdditivePart, Opened-Multiplicative, Opened-MultiplicativePart, Opened-Equality, Opened-EqualityPart, Opened-Relational, Opened-RelationalPart, Opened-AndPart, Opened-Arguments, Opened-Expr, Opened-InitList, Opened-LogicalAnd, Opened-OrPart, Opened-Postfix}
use Rattle.life_typing_laws.proofs.Apart.{GivesApart, GivesApartBehind, chain_apart, operand_apart}
use Rattle.life_typing_laws.proofs.Chains.{chain_good, operand_good}
use Rattle.life_typing_laws.proofs.Each.{each_of, made_alone}
use Rattle.life_typing_laws.proofs.Typed.{Good, GoodBehind, GoodList}
use Rattle.life_typing_laws.proofs.Layers.{IsSum, IsSumBehind, claims, no_join_added, no_join_multiplied, part_layer, primary_layer, unary_layer}

-- ---- each expression

record All : Type 0 where
  additive : (x : Additive) → IsSum (additive_meaning x)
  expr : (x : Expr) → Good (expr_meaning x)
  init_list : (x : InitList) → GoodList (init_list_meaning x)
  postfix : (x : Postfix) → IsSum (postfix_meaning x)

all : All
unfolding part_meaning primary_meaning unary_meaning additive_meaning additive_part_meaning multiplicative_meaning multiplicative_part_meaning equality_meaning equality_part_meaning relational_meaning relational_part_meaning and_part_meaning arguments_meaning expr_meaning init_list_meaning logical_and_meaning or_part_meaning postfix_meaning
all = record {
  additive = ind-Additive
      claims.part claims.primary claims.unary claims.additive claims.additive_part claims.multiplicative claims.multiplicative_part claims.equality claims.equality_part claims.relational
      claims.relational_part claims.and_part claims.arguments claims.expr claims.init_list claims.logical_and claims.or_part claims.postfix
      part_made primary_made unary_made additive_made additive_part_made multiplicative_made multiplicative_part_made equality_made equality_part_made relational_made relational_part_made
      and_part_made arguments_made expr_made init_list_made logical_and_made or_part_made postfix_made;
  expr = ind-Expr
      claims.part claims.primary claims.unary claims.additive claims.additive_part claims.multiplicative claims.multiplicative_part claims.equality claims.equality_part claims.relational
      claims.relational_part claims.and_part claims.arguments claims.expr claims.init_list claims.logical_and claims.or_part claims.postfix
      part_made primary_made unary_made additive_made additive_part_made multiplicative_made multiplicative_part_made equality_made equality_part_made relational_made relational_part_made
      and_part_made arguments_made expr_made init_list_made logical_and_made or_part_made postfix_made;
  init_list = ind-InitList
      claims.part claims.primary claims.unary claims.additive claims.additive_part claims.multiplicative claims.multiplicative_part claims.equality claims.equality_part claims.relational
      claims.relational_part claims.and_part claims.arguments claims.expr claims.init_list claims.logical_and claims.or_part claims.postfix
      part_made primary_made unary_made additive_made additive_part_made multiplicative_made multiplicative_part_made equality_made equality_part_made relational_made relational_part_made
      and_part_made arguments_made expr_made init_list_made logical_and_made or_part_made postfix_made;
  postfix = ind-Postfix
      claims.part claims.primary claims.unary claims.additive claims.additive_part claims.multiplicative claims.multiplicative_part claims.equality claims.equality_part claims.relational
      claims.relational_part claims.and_part claims.arguments claims.expr claims.init_list claims.logical_and claims.or_part claims.postfix
      part_made primary_made unary_made additive_made additive_part_made multiplicative_made multiplicative_part_made equality_made equality_part_made relational_made relational_part_made
      and_part_made arguments_made expr_made init_list_made logical_and_made or_part_made postfix_made;
}
  where
    part_made : (x : Opened-PostfixPart) (l : Layer-PostfixPart claims) → parts_part claims l ≡ x → claims.part (roll-PostfixPart x)
    part_made x l = made_alone IsSumBehind roll-PostfixPart part_meaning (parts_part claims l) x
        (fold-roll-PostfixPart PartMeaning Meaning Meaning Meaning PartMeaning Meaning PartMeaning Meaning PartMeaning Meaning PartMeaning PartMeaning ListMeaning Meaning ListMeaning Meaning PartMeaning Meaning
        part_step primary_step unary_step additive_step additive_part multiplicative_step multiplicative_part equality_step equality_part relational_step
        relational_part and_part arguments_step expr_step init_list_step logical_and_step or_part postfix_step (parts_part claims l))
        (part_layer l)

    primary_made : (x : Opened-Primary) (l : Layer-Primary claims) → parts_primary claims l ≡ x → claims.primary (roll-Primary x)
    primary_made x l = made_alone IsSum roll-Primary primary_meaning (parts_primary claims l) x
        (fold-roll-Primary PartMeaning Meaning Meaning Meaning PartMeaning Meaning PartMeaning Meaning PartMeaning Meaning PartMeaning PartMeaning ListMeaning Meaning ListMeaning Meaning PartMeaning Meaning
        part_step primary_step unary_step additive_step additive_part multiplicative_step multiplicative_part equality_step equality_part relational_step
        relational_part and_part arguments_step expr_step init_list_step logical_and_step or_part postfix_step (parts_primary claims l))
        (primary_layer l)

    unary_made : (x : Opened-Unary) (l : Layer-Unary claims) → parts_unary claims l ≡ x → claims.unary (roll-Unary x)
    unary_made x l = made_alone IsSum roll-Unary unary_meaning (parts_unary claims l) x
        (fold-roll-Unary PartMeaning Meaning Meaning Meaning PartMeaning Meaning PartMeaning Meaning PartMeaning Meaning PartMeaning PartMeaning ListMeaning Meaning ListMeaning Meaning PartMeaning Meaning
        part_step primary_step unary_step additive_step additive_part multiplicative_step multiplicative_part equality_step equality_part relational_step
        relational_part and_part arguments_step expr_step init_list_step logical_and_step or_part postfix_step (parts_unary claims l))
        (unary_layer l)

    additive_made : (x : Opened-Additive) (l : Layer-Additive claims) → parts_additive claims l ≡ x → claims.additive (roll-Additive x)
    additive_made x l = made_alone IsSum roll-Additive additive_meaning (parts_additive claims l) x
        (fold-roll-Additive PartMeaning Meaning Meaning Meaning PartMeaning Meaning PartMeaning Meaning PartMeaning Meaning PartMeaning PartMeaning ListMeaning Meaning ListMeaning Meaning PartMeaning Meaning
        part_step primary_step unary_step additive_step additive_part multiplicative_step multiplicative_part equality_step equality_part relational_step
        relational_part and_part arguments_step expr_step init_list_step logical_and_step or_part postfix_step (parts_additive claims l))
        (record {
          good = chain_good (multiplicative_meaning l.first.0) _ l.first.1.good (each_of claims.additive_part GoodBehind additive_part_meaning (λ x part. part.good) l.more.items);
          apart = chain_apart (multiplicative_meaning l.first.0) _ l.first.1.apart (each_of claims.additive_part GivesApartBehind additive_part_meaning (λ x part. part.apart) l.more.items);
        })

    additive_part_made : (x : Opened-AdditivePart) (l : Layer-AdditivePart claims) → parts_additive_part claims l ≡ x → claims.additive_part (roll-AdditivePart x)
    additive_part_made x l = made_alone IsSumBehind roll-AdditivePart additive_part_meaning (parts_additive_part claims l) x
        (fold-roll-AdditivePart PartMeaning Meaning Meaning Meaning PartMeaning Meaning PartMeaning Meaning PartMeaning Meaning PartMeaning PartMeaning ListMeaning Meaning ListMeaning Meaning PartMeaning Meaning
        part_step primary_step unary_step additive_step additive_part multiplicative_step multiplicative_part equality_step equality_part relational_step
        relational_part and_part arguments_step expr_step init_list_step logical_and_step or_part postfix_step (parts_additive_part claims l))
        (record {
          good = operand_good (additive_operator l.operator) l.place (multiplicative_meaning l.operand.0) l.operand.1.good;
          apart = operand_apart (additive_operator l.operator) l.place (multiplicative_meaning l.operand.0) (no_join_added l.operator) l.operand.1.apart;
        })

    multiplicative_made : (x : Opened-Multiplicative) (l : Layer-Multiplicative claims) → parts_multiplicative claims l ≡ x → claims.multiplicative (roll-Multiplicative x)
    multiplicative_made x l = made_alone IsSum roll-Multiplicative multiplicative_meaning (parts_multiplicative claims l) x
        (fold-roll-Multiplicative PartMeaning Meaning Meaning Meaning PartMeaning Meaning PartMeaning Meaning PartMeaning Meaning PartMeaning PartMeaning ListMeaning Meaning ListMeaning Meaning PartMeaning Meaning
        part_step primary_step unary_step additive_step additive_part multiplicative_step multiplicative_part equality_step equality_part relational_step
        relational_part and_part arguments_step expr_step init_list_step logical_and_step or_part postfix_step (parts_multiplicative claims l))
        (record {
          good = chain_good (unary_meaning l.first.0) _ l.first.1.good (each_of claims.multiplicative_part GoodBehind multiplicative_part_meaning (λ x part. part.good) l.more.items);
          apart = chain_apart (unary_meaning l.first.0) _ l.first.1.apart (each_of claims.multiplicative_part GivesApartBehind multiplicative_part_meaning (λ x part. part.apart) l.more.items);
        })

    multiplicative_part_made : (x : Opened-MultiplicativePart) (l : Layer-MultiplicativePart claims) → parts_multiplicative_part claims l ≡ x → claims.multiplicative_part (roll-MultiplicativePart x)
    multiplicative_part_made x l = made_alone IsSumBehind roll-MultiplicativePart multiplicative_part_meaning (parts_multiplicative_part claims l) x
        (fold-roll-MultiplicativePart PartMeaning Meaning Meaning Meaning PartMeaning Meaning PartMeaning Meaning PartMeaning Meaning PartMeaning PartMeaning ListMeaning Meaning ListMeaning Meaning PartMeaning Meaning
        part_step primary_step unary_step additive_step additive_part multiplicative_step multiplicative_part equality_step equality_part relational_step
        relational_part and_part arguments_step expr_step init_list_step logical_and_step or_part postfix_step (parts_multiplicative_part claims l))
        (record {
          good = operand_good (multiplicative_operator l.operator) l.place (unary_meaning l.operand.0) l.operand.1.good;
          apart = operand_apart (multiplicative_operator l.operator) l.place (unary_meaning l.operand.0) (no_join_multiplied l.operator) l.operand.1.apart;
        })

    equality_made : (x : Opened-Equality) (l : Layer-Equality claims) → parts_equality claims l ≡ x → claims.equality (roll-Equality x)
    equality_made x l = made_alone Good roll-Equality equality_meaning (parts_equality claims l) x
        (fold-roll-Equality PartMeaning Meaning Meaning Meaning PartMeaning Meaning PartMeaning Meaning PartMeaning Meaning PartMeaning PartMeaning ListMeaning Meaning ListMeaning Meaning PartMeaning Meaning
        part_step primary_step unary_step additive_step additive_part multiplicative_step multiplicative_part equality_step equality_part relational_step
        relational_part and_part arguments_step expr_step init_list_step logical_and_step or_part postfix_step (parts_equality claims l))
        (chain_good (relational_meaning l.first.0) _ l.first.1 (each_of claims.equality_part GoodBehind equality_part_meaning (λ x good. good) l.more.items))

    equality_part_made : (x : Opened-EqualityPart) (l : Layer-EqualityPart claims) → parts_equality_part claims l ≡ x → claims.equality_part (roll-EqualityPart x)
    equality_part_made x l = made_alone GoodBehind roll-EqualityPart equality_part_meaning (parts_equality_part claims l) x
        (fold-roll-EqualityPart PartMeaning Meaning Meaning Meaning PartMeaning Meaning PartMeaning Meaning PartMeaning Meaning PartMeaning PartMeaning ListMeaning Meaning ListMeaning Meaning PartMeaning Meaning
        part_step primary_step unary_step additive_step additive_part multiplicative_step multiplicative_part equality_step equality_part relational_step
        relational_part and_part arguments_step expr_step init_list_step logical_and_step or_part postfix_step (parts_equality_part claims l))
        (operand_good (equality_operator l.operator) l.place (relational_meaning l.operand.0) l.operand.1)

    relational_made : (x : Opened-Relational) (l : Layer-Relational claims) → parts_relational claims l ≡ x → claims.relational (roll-Relational x)
    relational_made x l = made_alone Good roll-Relational relational_meaning (parts_relational claims l) x
        (fold-roll-Relational PartMeaning Meaning Meaning Meaning PartMeaning Meaning PartMeaning Meaning PartMeaning Meaning PartMeaning PartMeaning ListMeaning Meaning ListMeaning Meaning PartMeaning Meaning
        part_step primary_step unary_step additive_step additive_part multiplicative_step multiplicative_part equality_step equality_part relational_step
        relational_part and_part arguments_step expr_step init_list_step logical_and_step or_part postfix_step (parts_relational claims l))
        (chain_good (additive_meaning l.first.0) _ l.first.1.good (each_of claims.relational_part GoodBehind relational_part_meaning (λ x good. good) l.more.items))

    relational_part_made : (x : Opened-RelationalPart) (l : Layer-RelationalPart claims) → parts_relational_part claims l ≡ x → claims.relational_part (roll-RelationalPart x)
    relational_part_made x l = made_alone GoodBehind roll-RelationalPart relational_part_meaning (parts_relational_part claims l) x
        (fold-roll-RelationalPart PartMeaning Meaning Meaning Meaning PartMeaning Meaning PartMeaning Meaning PartMeaning Meaning PartMeaning PartMeaning ListMeaning Meaning ListMeaning Meaning PartMeaning Meaning
        part_step primary_step unary_step additive_step additive_part multiplicative_step multiplicative_part equality_step equality_part relational_step
        relational_part and_part arguments_step expr_step init_list_step logical_and_step or_part postfix_step (parts_relational_part claims l))
        (operand_good (relational_operator l.operator) l.place (additive_meaning l.operand.0) l.operand.1.good)

    and_part_made : (x : Opened-AndPart) (l : Layer-AndPart claims) → parts_and_part claims l ≡ x → claims.and_part (roll-AndPart x)
    and_part_made x l = made_alone GoodBehind roll-AndPart and_part_meaning (parts_and_part claims l) x
        (fold-roll-AndPart PartMeaning Meaning Meaning Meaning PartMeaning Meaning PartMeaning Meaning PartMeaning Meaning PartMeaning PartMeaning ListMeaning Meaning ListMeaning Meaning PartMeaning Meaning
        part_step primary_step unary_step additive_step additive_part multiplicative_step multiplicative_part equality_step equality_part relational_step
        relational_part and_part arguments_step expr_step init_list_step logical_and_step or_part postfix_step (parts_and_part claims l))
        (operand_good operators.And l.place (equality_meaning l.operand.0) l.operand.1)

    arguments_made : (x : Opened-Arguments) (l : Layer-Arguments claims) → parts_arguments claims l ≡ x → claims.arguments (roll-Arguments x)
    arguments_made x l = made_alone GoodList roll-Arguments arguments_meaning (parts_arguments claims l) x
        (fold-roll-Arguments PartMeaning Meaning Meaning Meaning PartMeaning Meaning PartMeaning Meaning PartMeaning Meaning PartMeaning PartMeaning ListMeaning Meaning ListMeaning Meaning PartMeaning Meaning
        part_step primary_step unary_step additive_step additive_part multiplicative_step multiplicative_part equality_step equality_part relational_step
        relational_part and_part arguments_step expr_step init_list_step logical_and_step or_part postfix_step (parts_arguments claims l))
        (each_of claims.expr Good expr_meaning (λ x good. good) l.list.items)

    expr_made : (x : Opened-Expr) (l : Layer-Expr claims) → parts_expr claims l ≡ x → claims.expr (roll-Expr x)
    expr_made x l = made_alone Good roll-Expr expr_meaning (parts_expr claims l) x
        (fold-roll-Expr PartMeaning Meaning Meaning Meaning PartMeaning Meaning PartMeaning Meaning PartMeaning Meaning PartMeaning PartMeaning ListMeaning Meaning ListMeaning Meaning PartMeaning Meaning
        part_step primary_step unary_step additive_step additive_part multiplicative_step multiplicative_part equality_step equality_part relational_step
        relational_part and_part arguments_step expr_step init_list_step logical_and_step or_part postfix_step (parts_expr claims l))
        (chain_good (logical_and_meaning l.first.0) _ l.first.1 (each_of claims.or_part GoodBehind or_part_meaning (λ x good. good) l.more.items))

    init_list_made : (x : Opened-InitList) (l : Layer-InitList claims) → parts_init_list claims l ≡ x → claims.init_list (roll-InitList x)
    init_list_made x l = made_alone GoodList roll-InitList init_list_meaning (parts_init_list claims l) x
        (fold-roll-InitList PartMeaning Meaning Meaning Meaning PartMeaning Meaning PartMeaning Meaning PartMeaning Meaning PartMeaning PartMeaning ListMeaning Meaning ListMeaning Meaning PartMeaning Meaning
        part_step primary_step unary_step additive_step additive_part multiplicative_step multiplicative_part equality_step equality_part relational_step
        relational_part and_part arguments_step expr_step init_list_step logical_and_step or_part postfix_step (parts_init_list claims l))
        (each_of claims.expr Good expr_meaning (λ x good. good) l.list.items)

    logical_and_made : (x : Opened-LogicalAnd) (l : Layer-LogicalAnd claims) → parts_logical_and claims l ≡ x → claims.logical_and (roll-LogicalAnd x)
    logical_and_made x l = made_alone Good roll-LogicalAnd logical_and_meaning (parts_logical_and claims l) x
        (fold-roll-LogicalAnd PartMeaning Meaning Meaning Meaning PartMeaning Meaning PartMeaning Meaning PartMeaning Meaning PartMeaning PartMeaning ListMeaning Meaning ListMeaning Meaning PartMeaning Meaning
        part_step primary_step unary_step additive_step additive_part multiplicative_step multiplicative_part equality_step equality_part relational_step
        relational_part and_part arguments_step expr_step init_list_step logical_and_step or_part postfix_step (parts_logical_and claims l))
        (chain_good (equality_meaning l.first.0) _ l.first.1 (each_of claims.and_part GoodBehind and_part_meaning (λ x good. good) l.more.items))

    or_part_made : (x : Opened-OrPart) (l : Layer-OrPart claims) → parts_or_part claims l ≡ x → claims.or_part (roll-OrPart x)
    or_part_made x l = made_alone GoodBehind roll-OrPart or_part_meaning (parts_or_part claims l) x
        (fold-roll-OrPart PartMeaning Meaning Meaning Meaning PartMeaning Meaning PartMeaning Meaning PartMeaning Meaning PartMeaning PartMeaning ListMeaning Meaning ListMeaning Meaning PartMeaning Meaning
        part_step primary_step unary_step additive_step additive_part multiplicative_step multiplicative_part equality_step equality_part relational_step
        relational_part and_part arguments_step expr_step init_list_step logical_and_step or_part postfix_step (parts_or_part claims l))
        (operand_good operators.Or l.place (logical_and_meaning l.operand.0) l.operand.1)

    postfix_made : (x : Opened-Postfix) (l : Layer-Postfix claims) → parts_postfix claims l ≡ x → claims.postfix (roll-Postfix x)
    postfix_made x l = made_alone IsSum roll-Postfix postfix_meaning (parts_postfix claims l) x
        (fold-roll-Postfix PartMeaning Meaning Meaning Meaning PartMeaning Meaning PartMeaning Meaning PartMeaning Meaning PartMeaning PartMeaning ListMeaning Meaning ListMeaning Meaning PartMeaning Meaning
        part_step primary_step unary_step additive_step additive_part multiplicative_step multiplicative_part equality_step equality_part relational_step
        relational_part and_part arguments_step expr_step init_list_step logical_and_step or_part postfix_step (parts_postfix claims l))
        (record {
          good = chain_good (primary_meaning l.primary.0) _ l.primary.1.good (each_of claims.part GoodBehind part_meaning (λ x part. part.good) l.parts.items);
          apart = chain_apart (primary_meaning l.primary.0) _ l.primary.1.apart (each_of claims.part GivesApartBehind part_meaning (λ x part. part.apart) l.parts.items);
        })

pub additive_good : (x : Additive) → Good (additive_meaning x)
additive_good x = (all.additive x).good

-- what is printed
pub additive_apart : (x : Additive) → GivesApart (additive_meaning x)
additive_apart x = (all.additive x).apart

pub expr_good : (x : Expr) → Good (expr_meaning x)
expr_good = all.expr

pub init_list_good : (x : InitList) → GoodList (init_list_meaning x)
init_list_good = all.init_list

pub postfix_good : (x : Postfix) → Good (postfix_meaning x)
postfix_good x = (all.postfix x).good
