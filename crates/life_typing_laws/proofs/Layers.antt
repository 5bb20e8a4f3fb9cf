-- What is claimed of each rule of the grammar of expressions, and that it holds of the rules with several forms, if it does of their parts.
use Rattle.std.proofs.Common.{◌≡◌, ℕ, Bool, true, false, None, Some, Ok, List, refl, sym, ◌∙◌, if◌then◌else◌}
use Rattle.std.specs.Prelude.{nat_le}
use Rattle.life_types.specs.Types.{Types, HasParts}
use Rattle.life_types.specs.declared.ty.Ty.TheVariants as ty
use Rattle.life_tree.specs.declared.arithmetic.Additive.{Additive}
use Rattle.life_tree.specs.declared.arithmetic.AdditivePart.{AdditivePart}
use Rattle.life_tree.specs.declared.arithmetic.Multiplicative.{Multiplicative}
use Rattle.life_tree.specs.declared.arithmetic.MultiplicativePart.{MultiplicativePart}
use Rattle.life_tree.specs.declared.comparison.Equality.{Equality}
use Rattle.life_tree.specs.declared.comparison.EqualityPart.{EqualityPart}
use Rattle.life_tree.specs.declared.comparison.Relational.{Relational}
use Rattle.life_tree.specs.declared.comparison.RelationalPart.{RelationalPart}
use Rattle.life_tree.specs.declared.expr.AndPart.{AndPart}
use Rattle.life_tree.specs.declared.expr.Arguments.{Arguments}
use Rattle.life_tree.specs.declared.expr.Expr.{Expr}
use Rattle.life_tree.specs.declared.expr.InitList.{InitList}
use Rattle.life_tree.specs.declared.expr.LogicalAnd.{LogicalAnd}
use Rattle.life_tree.specs.declared.expr.OrPart.{OrPart}
use Rattle.life_tree.specs.declared.primary.PostfixPart.{PostfixPart}
use Rattle.life_tree.specs.declared.primary.Primary.{Primary}
use Rattle.life_tree.specs.declared.primary.Unary.{Unary}
use Rattle.life_tree.specs.declared.primary.Postfix.{Postfix}
use Rattle.life_tree.specs.declared.primary.PostfixPart.TheFolds.{map-PostfixPart, map-Primary, map-Unary}
use Rattle.life_tree.specs.declared.operator.AdditiveOperator.{AdditiveOperator}
use Rattle.life_tree.specs.declared.operator.AdditiveOperator.TheVariants as additive_operators
use Rattle.life_tree.specs.declared.operator.MultiplicativeOperator.{MultiplicativeOperator}
use Rattle.life_tree.specs.declared.operator.MultiplicativeOperator.TheVariants as multiplicative_operators
use Rattle.life_tree.specs.declared.primary.PostfixPart.TheOpen as open_expr
use Rattle.life_typed.specs.BaseTypes.{type_at}
use Rattle.life_typed.specs.Programs.{ProgramForm}
use Rattle.life_typed.specs.TypedForm.{Typed, boolean, call, character, construct, forms, input, make_unique, null, number, optional_form, paren, text, text_of, whole}
use Rattle.life_typed.specs.declared.typed_expr.Category.TheVariants as category
use Rattle.life_typed.specs.declared.typed_expr.ExprType.TheVariants as expr_type
use Rattle.life_type_expr.specs.Expressions.{PartMeaning, additive_operator, first_of, multiplicative_operator}
use Rattle.life_type_expr.specs.Expressions.{part_step, primary_step, unary_step}
use Rattle.life_type_expr.specs.Expressions.{part_meaning, primary_meaning, unary_meaning, additive_meaning, additive_part_meaning, multiplicative_meaning, multiplicative_part_meaning, equality_meaning, equality_part_meaning, relational_meaning, relational_part_meaning, and_part_meaning, arguments_meaning, expr_meaning, init_list_meaning, logical_and_meaning, or_part_meaning, postfix_meaning}
use Rattle.life_typed.specs.declared.typed_program.TypedLocal.{TypedLocal}
use Rattle.life_names.specs.Environment.{Scope}
use Rattle.life_names.specs.WrittenTypes.{made_element}
use Rattle.life_type_expr.specs.Lists.{ListMeaning, Meaning}
use Rattle.life_type_expr.specs.Named.{function_named, local_named, structure_named}
use Rattle.life_type_expr.specs.Operands.{answer_of, makes_text, moved as moved_as, number_type, parenthesized, text_made, value, variable}
use Rattle.life_unique.proofs.ExpressionLayers.{Claims, Layer-PostfixPart, Layer-Primary, Layer-Unary}
use Rattle.life_unique.proofs.ExpressionLayers.{parts_part, parts_primary, parts_unary}
use Rattle.life_unique.specs.SettledExpressions.{Opened-PostfixPart, Opened-Primary, Opened-Unary}
use Rattle.life_well_typed.specs.Apart.{joins}
use Rattle.life_well_typed.specs.Visible.{Visible}
use Rattle.life_typing_laws.proofs.Apart.{GivesApart, GivesApartBehind, IsApart, answer_apart, arrow_apart, dot_apart, index_apart, moved_apart, prefix_apart, variable_apart}
use Rattle.life_typing_laws.proofs.Constructing.{construct_good}
use Rattle.life_typing_laws.proofs.Expressions.{alone_good, call_good, name_good}
use Rattle.life_typing_laws.proofs.Indexing.{index_good}
use Rattle.life_typing_laws.proofs.Making.{unique_good}
use Rattle.life_typing_laws.proofs.Members.{arrow_good, dot_good}
use Rattle.life_typing_laws.proofs.Moving.{move_good}
use Rattle.life_typing_laws.proofs.Texts.{text_good}
use Rattle.life_typing_laws.proofs.Prefixes.{paren_good, prefix_good}
use Rattle.life_typing_laws.proofs.Typed.{Good, GoodBehind, GoodList, IsTyped}
use Rattle.life_typing_laws.proofs.Yields.{finds_if, finds_ok, yields_behind, yields_found, yields_given, yields_ok}

-- an int or a long has no parts
number_parts : (types : Types) (n : ℕ) → HasParts types (number_type n)
number_parts types n = go (nat_le n 2147483647)
  where
    go : (b : Bool) → HasParts types (if b then ty.Int else ty.Long)
    go true = tt
    go false = tt

-- a meaning that is good, and gives what is apart
pub record IsSum (m : Meaning) : Type 0 where
  pub good : Good m
  pub apart : GivesApart m

pub record IsSumBehind (q : PartMeaning) : Type 0 where
  pub good : GoodBehind q
  pub apart : GivesApartBehind q

-- what is claimed of each
abbrev pub claims : Claims
claims = record {
  part = λ x. IsSumBehind (part_meaning x);
  primary = λ x. IsSum (primary_meaning x);
  unary = λ x. IsSum (unary_meaning x);
  additive = λ x. IsSum (additive_meaning x);
  additive_part = λ x. IsSumBehind (additive_part_meaning x);
  multiplicative = λ x. IsSum (multiplicative_meaning x);
  multiplicative_part = λ x. IsSumBehind (multiplicative_part_meaning x);
  equality = λ x. Good (equality_meaning x);
  equality_part = λ x. GoodBehind (equality_part_meaning x);
  relational = λ x. Good (relational_meaning x);
  relational_part = λ x. GoodBehind (relational_part_meaning x);
  and_part = λ x. GoodBehind (and_part_meaning x);
  arguments = λ x. GoodList (arguments_meaning x);
  expr = λ x. Good (expr_meaning x);
  init_list = λ x. GoodList (init_list_meaning x);
  logical_and = λ x. Good (logical_and_meaning x);
  or_part = λ x. GoodBehind (or_part_meaning x);
  postfix = λ x. IsSum (postfix_meaning x);
}

-- ---- the rules with several forms

abbrev pub of_parts_part : Opened-PostfixPart → open_expr.PostfixPart-F PartMeaning Meaning Meaning Meaning PartMeaning Meaning PartMeaning Meaning PartMeaning Meaning PartMeaning PartMeaning ListMeaning Meaning ListMeaning Meaning PartMeaning Meaning
of_parts_part = map-PostfixPart PostfixPart Primary Unary Additive AdditivePart Multiplicative MultiplicativePart Equality EqualityPart Relational RelationalPart AndPart Arguments Expr InitList LogicalAnd OrPart Postfix
    PartMeaning Meaning Meaning Meaning PartMeaning Meaning PartMeaning Meaning PartMeaning Meaning PartMeaning PartMeaning ListMeaning Meaning ListMeaning Meaning PartMeaning Meaning
    part_meaning primary_meaning unary_meaning additive_meaning additive_part_meaning multiplicative_meaning multiplicative_part_meaning equality_meaning equality_part_meaning relational_meaning
    relational_part_meaning and_part_meaning arguments_meaning expr_meaning init_list_meaning logical_and_meaning or_part_meaning postfix_meaning

abbrev pub of_parts_primary : Opened-Primary → open_expr.Primary-F PartMeaning Meaning Meaning Meaning PartMeaning Meaning PartMeaning Meaning PartMeaning Meaning PartMeaning PartMeaning ListMeaning Meaning ListMeaning Meaning PartMeaning Meaning
of_parts_primary = map-Primary PostfixPart Primary Unary Additive AdditivePart Multiplicative MultiplicativePart Equality EqualityPart Relational RelationalPart AndPart Arguments Expr InitList LogicalAnd OrPart Postfix
    PartMeaning Meaning Meaning Meaning PartMeaning Meaning PartMeaning Meaning PartMeaning Meaning PartMeaning PartMeaning ListMeaning Meaning ListMeaning Meaning PartMeaning Meaning
    part_meaning primary_meaning unary_meaning additive_meaning additive_part_meaning multiplicative_meaning multiplicative_part_meaning equality_meaning equality_part_meaning relational_meaning
    relational_part_meaning and_part_meaning arguments_meaning expr_meaning init_list_meaning logical_and_meaning or_part_meaning postfix_meaning

abbrev pub of_parts_unary : Opened-Unary → open_expr.Unary-F PartMeaning Meaning Meaning Meaning PartMeaning Meaning PartMeaning Meaning PartMeaning Meaning PartMeaning PartMeaning ListMeaning Meaning ListMeaning Meaning PartMeaning Meaning
of_parts_unary = map-Unary PostfixPart Primary Unary Additive AdditivePart Multiplicative MultiplicativePart Equality EqualityPart Relational RelationalPart AndPart Arguments Expr InitList LogicalAnd OrPart Postfix
    PartMeaning Meaning Meaning Meaning PartMeaning Meaning PartMeaning Meaning PartMeaning Meaning PartMeaning PartMeaning ListMeaning Meaning ListMeaning Meaning PartMeaning Meaning
    part_meaning primary_meaning unary_meaning additive_meaning additive_part_meaning multiplicative_meaning multiplicative_part_meaning equality_meaning equality_part_meaning relational_meaning
    relational_part_meaning and_part_meaning arguments_meaning expr_meaning init_list_meaning logical_and_meaning or_part_meaning postfix_meaning

pub part_layer : (l : Layer-PostfixPart claims) → IsSumBehind (part_step (of_parts_part (parts_part claims l)))
part_layer (open_expr.Member mark name None) = record { good = dot_good name None tt; apart = dot_apart name None }
part_layer (open_expr.Member mark name (Some l)) = record { good = dot_good name (Some (arguments_meaning l.0)) l.1; apart = dot_apart name (Some (arguments_meaning l.0)) }
part_layer (open_expr.Arrow mark name None) = record { good = arrow_good name None tt; apart = arrow_apart name None }
part_layer (open_expr.Arrow mark name (Some l)) = record { good = arrow_good name (Some (arguments_meaning l.0)) l.1; apart = arrow_apart name (Some (arguments_meaning l.0)) }
part_layer (open_expr.Index opening position closing) =
    record { good = index_good opening (expr_meaning position.value.0) closing position.value.1; apart = index_apart opening (expr_meaning position.value.0) closing }

-- an operand without operands
module _ (m : Meaning) (e : Typed) (gives : (scope : Scope) (types : Types) → m scope types ≡ Ok (e, types)) (is : (p : ProgramForm) (locals : List TypedLocal) (v : Visible) (types : Types) → IsTyped p locals v types e)
    (apart : IsApart e) where
  alone : IsSum m
  alone = record { good = alone_good m e gives is; apart = λ scope types x h. yields_ok IsApart e types apart x (sym (gives scope types) ∙ h) }

pub primary_layer : (l : Layer-Primary claims) → IsSum (primary_step (of_parts_primary (parts_primary claims l)))
primary_layer (open_expr.Number n place) =
    alone (primary_step (open_expr.Number n place)) (value place (number_type n) (number n)) (λ scope types. refl) (λ p locals v types. record { is = refl; parts = number_parts types n; place = tt }) refl
primary_layer (open_expr.Char c place) =
    alone (primary_step (open_expr.Char c place)) (value place ty.Char (character c)) (λ scope types. refl) (λ p locals v types. record { is = refl; parts = tt; place = tt }) refl
primary_layer (open_expr.Text n place) =
    alone (primary_step (open_expr.Text n place)) (record { place = place; ty = expr_type.TextLiteral; category = category.Value; form = text n }) (λ scope types. refl) (λ p locals v types. record { is = (refl, refl); parts = tt; place = tt }) refl
primary_layer (open_expr.True place) =
    alone (primary_step (open_expr.True place)) (value place ty.Bool (boolean true)) (λ scope types. refl) (λ p locals v types. record { is = refl; parts = tt; place = tt }) refl
primary_layer (open_expr.False place) =
    alone (primary_step (open_expr.False place)) (value place ty.Bool (boolean false)) (λ scope types. refl) (λ p locals v types. record { is = refl; parts = tt; place = tt }) refl
primary_layer (open_expr.Null place) =
    alone (primary_step (open_expr.Null place)) (record { place = place; ty = expr_type.NullPointer; category = category.Value; form = null }) (λ scope types. refl) (λ p locals v types. record { is = (refl, refl); parts = tt; place = tt }) refl
primary_layer (open_expr.Name name) = record {
  good = name_good name;
  apart = λ scope types. yields_given IsApart (local_named name scope) _ (λ l. yields_ok IsApart (variable types name.place l) types (variable_apart types name.place l));
}
primary_layer (open_expr.Call name l) = record {
  good = call_good name (arguments_meaning l.0) l.1;
  apart = λ scope types. yields_given IsApart (function_named name scope) _ (λ f. yields_behind IsApart _ _ (λ y.
      yields_ok IsApart (answer_of (type_at y.1 f.1.result) y.1 name.place (call f.0 (forms y.0) (arguments_meaning l.0).delimiters)) y.1
      (answer_apart (type_at y.1 f.1.result) y.1 name.place f.0 y.0 (arguments_meaning l.0).delimiters)));
}
primary_layer (open_expr.Construct name l) = record {
  good = construct_good name (init_list_meaning l.0) l.1;
  apart = λ scope types. yields_given IsApart (structure_named name scope) _ (λ s. yields_behind IsApart _ _ (λ y.
      yields_ok IsApart (value (init_list_meaning l.0).opening (ty.Struct s.0) (construct s.0 (forms y.0) (init_list_meaning l.0).delimiters)) y.1 refl));
}
primary_layer (open_expr.Paren opening inner closing) = record {
  good = paren_good closing (expr_meaning inner.value.0) inner.value.1;
  apart = λ scope types. yields_behind IsApart (expr_meaning inner.value.0 scope types) _ (λ x.
      yields_found IsApart x.1 (parenthesized closing x.0) (finds_ok IsApart (record { place = x.0.place; ty = x.0.ty; category = x.0.category; form = paren (whole x.0) closing }) refl));
}
primary_layer (open_expr.Move name opening moved closing) = record {
  good = move_good name.word moved;
  apart = λ scope types. yields_given IsApart (local_named moved scope) _ (λ l. yields_found IsApart types (moved_as types name.word l) (moved_apart types name.word l));
}
primary_layer (open_expr.MakeUnique name element l) = record {
  good = unique_good name.word element (arguments_meaning l.0) l.1;
  apart = λ scope types. yields_behind IsApart (made_element element name.word scope types) _ (λ x. yields_behind IsApart _ _ (λ y.
      yields_ok IsApart (value name.word (ty.Unique x.0) (make_unique x.0 (optional_form (first_of y.0)) (arguments_meaning l.0).delimiters.closing)) y.1 refl));
}
primary_layer (open_expr.TextOf name opening inner closing) = record {
  good = text_good name.word closing (expr_meaning inner.value.0) inner.value.1;
  apart = λ scope types. yields_behind IsApart (expr_meaning inner.value.0 scope types) _ (λ x.
      yields_found IsApart x.1 (text_made name.word closing x.0) (finds_if IsApart (makes_text x.0.ty) (value name.word ty.Text (text_of (whole x.0) closing)) _ refl));
}
primary_layer (open_expr.Input name opening closing) =
    alone (primary_step (open_expr.Input name opening closing)) (value name.word ty.Long input) (λ scope types. refl) (λ p locals v types. record { is = refl; parts = tt; place = tt }) refl

pub unary_layer : (l : Layer-Unary claims) → IsSum (unary_step (of_parts_unary (parts_unary claims l)))
unary_layer (open_expr.Prefix operator place operand) = record {
  good = prefix_good operator place (unary_meaning operand.value.0) operand.value.1.good;
  apart = prefix_apart operator place (unary_meaning operand.value.0) operand.value.1.apart;
}
unary_layer (open_expr.Plain operand) = record { good = operand.1.good; apart = operand.1.apart }

-- operands with operators that are no `&&` and no `||`
pub no_join_added : (o : AdditiveOperator) → joins (additive_operator o) ≡ false
no_join_added additive_operators.Add = refl
no_join_added additive_operators.Subtract = refl

pub no_join_multiplied : (o : MultiplicativeOperator) → joins (multiplicative_operator o) ≡ false
no_join_multiplied multiplicative_operators.Multiply = refl
no_join_multiplied multiplicative_operators.Divide = refl
no_join_multiplied multiplicative_operators.Remainder = refl
