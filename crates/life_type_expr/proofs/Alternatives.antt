-- What each alternative of a rule means.
use Rattle.std.proofs.Common.{◌≡◌, ℕ, true, false, Option, None, Some, Ok, Box, option_map, sym, ap, ◌∙◌}
use Rattle.std.specs.declared.alloc.Global.{Global}
use Rattle.life_types.specs.Types.{Types}
use Rattle.life_types.specs.declared.place.Place.{Place}
use Rattle.life_types.specs.declared.ty.Ty.TheVariants as ty
use Rattle.life_tree.specs.declared.expr.Arguments.{Arguments}
use Rattle.life_tree.specs.declared.expr.Expr.{Expr}
use Rattle.life_tree.specs.declared.expr.InitList.{InitList}
use Rattle.life_tree.specs.declared.identifier.Identifier.{Identifier}
use Rattle.life_tree.specs.declared.identifier.Qualified.{Qualified}
use Rattle.life_tree.specs.declared.operator.PrefixOperator.{PrefixOperator}
use Rattle.life_tree.specs.declared.operator.PrefixOperator.TheVariants as prefix_operators
use Rattle.life_tree.specs.declared.primary.Postfix.{Postfix}
use Rattle.life_tree.specs.declared.primary.PostfixPart.{PostfixPart}
use Rattle.life_tree.specs.declared.primary.PostfixPart.TheFolds.{fold-roll-PostfixPart, fold-roll-Primary, fold-roll-Unary}
use Rattle.life_tree.specs.declared.primary.PostfixPart.TheVariants as part
use Rattle.life_tree.specs.declared.primary.Primary.{Primary}
use Rattle.life_tree.specs.declared.primary.Primary.TheVariants as primary
use Rattle.life_tree.specs.declared.primary.Unary.{Unary}
use Rattle.life_tree.specs.declared.primary.Unary.TheVariants as unary
use Rattle.life_tree.specs.declared.simple.Target.{Target}
use Rattle.life_tree.specs.declared.simple.Target.TheFolds.{fold-roll-Target}
use Rattle.life_tree.specs.declared.simple.Target.TheVariants as target
use Rattle.life_tree.specs.declared.type_name.TypeArgument.{TypeArgument}
use Rattle.life_typed.specs.TypedForm.{Typed, boolean, character, input, null, number, text}
use Rattle.life_typed.specs.declared.typed_expr.Category.TheVariants as category
use Rattle.life_typed.specs.declared.typed_expr.ExprType.TheVariants as expr_type
use Rattle.life_names.specs.Checked.{◌>>=◌}
use Rattle.life_names.specs.Environment.{Scope}
use Rattle.life_type_expr.specs.Expressions.{arguments_meaning, called, constructed, expr_meaning, init_list_meaning, part_meaning, postfix_meaning, primary_meaning, target_meaning, unary_meaning, unique_made}
use Rattle.life_names.specs.Found.{found_in, given}
use Rattle.life_type_expr.specs.Members.{arrow_part, dot_part, index_part}
use Rattle.life_type_expr.specs.Named.{function_named, local_named, structure_named}
use Rattle.life_type_expr.specs.Operands.{moved, number_type, parenthesized, prefixed, text_made, value, variable}

pub of_number : (p : Primary) (n : ℕ) (place : Place) (scope : Scope) (types : Types) → p ≡ primary.Number n place
    → primary_meaning p scope types ≡ Ok (value place (number_type n) (number n), types)
unfolding primary_meaning
of_number p n place scope types is = ap (λ (q : Primary). primary_meaning q scope types) (is ∙ sym (primary.rolls-Number n place)) ∙ rw fold-roll-Primary

pub of_char : (p : Primary) (n : ℕ) (place : Place) (scope : Scope) (types : Types) → p ≡ primary.Char n place
    → primary_meaning p scope types ≡ Ok (value place ty.Char (character n), types)
unfolding primary_meaning
of_char p n place scope types is = ap (λ (q : Primary). primary_meaning q scope types) (is ∙ sym (primary.rolls-Char n place)) ∙ rw fold-roll-Primary

pub of_text : (p : Primary) (n : ℕ) (place : Place) (scope : Scope) (types : Types) → p ≡ primary.Text n place
    → primary_meaning p scope types ≡ Ok (record { place = place; ty = expr_type.TextLiteral; category = category.Value; form = text n }, types)
unfolding primary_meaning
of_text p n place scope types is = ap (λ (q : Primary). primary_meaning q scope types) (is ∙ sym (primary.rolls-Text n place)) ∙ rw fold-roll-Primary

pub of_true : (p : Primary) (place : Place) (scope : Scope) (types : Types) → p ≡ primary.True place
    → primary_meaning p scope types ≡ Ok (value place ty.Bool (boolean true), types)
unfolding primary_meaning
of_true p place scope types is = ap (λ (q : Primary). primary_meaning q scope types) (is ∙ sym (primary.rolls-True place)) ∙ rw fold-roll-Primary

pub of_false : (p : Primary) (place : Place) (scope : Scope) (types : Types) → p ≡ primary.False place
    → primary_meaning p scope types ≡ Ok (value place ty.Bool (boolean false), types)
unfolding primary_meaning
of_false p place scope types is = ap (λ (q : Primary). primary_meaning q scope types) (is ∙ sym (primary.rolls-False place)) ∙ rw fold-roll-Primary

pub of_null : (p : Primary) (place : Place) (scope : Scope) (types : Types) → p ≡ primary.Null place
    → primary_meaning p scope types ≡ Ok (record { place = place; ty = expr_type.NullPointer; category = category.Value; form = null }, types)
unfolding primary_meaning
of_null p place scope types is = ap (λ (q : Primary). primary_meaning q scope types) (is ∙ sym (primary.rolls-Null place)) ∙ rw fold-roll-Primary

pub of_name : (p : Primary) (name : Identifier) (scope : Scope) (types : Types) → p ≡ primary.Name name
    → primary_meaning p scope types ≡ given (local_named name scope) (λ l. Ok (variable types name.place l, types))
unfolding primary_meaning
of_name p name scope types is = ap (λ (q : Primary). primary_meaning q scope types) (is ∙ sym (primary.rolls-Name name)) ∙ rw fold-roll-Primary

pub of_call : (p : Primary) (name : Identifier) (arguments : Arguments) (scope : Scope) (types : Types) → p ≡ primary.Call name arguments
    → primary_meaning p scope types ≡ given (function_named name scope) (λ f. called name.place (arguments_meaning arguments) f scope types)
unfolding primary_meaning arguments_meaning
of_call p name arguments scope types is = ap (λ (q : Primary). primary_meaning q scope types) (is ∙ sym (primary.rolls-Call name arguments)) ∙ rw fold-roll-Primary

pub of_construct : (p : Primary) (name : Identifier) (list : InitList) (scope : Scope) (types : Types) → p ≡ primary.Construct name list
    → primary_meaning p scope types ≡ given (structure_named name scope) (λ s. constructed (init_list_meaning list) s scope types)
unfolding primary_meaning init_list_meaning
of_construct p name list scope types is = ap (λ (q : Primary). primary_meaning q scope types) (is ∙ sym (primary.rolls-Construct name list)) ∙ rw fold-roll-Primary

pub of_paren : (p : Primary) (opening closing : Place) (inner : Box Expr Global) (scope : Scope) (types : Types) → p ≡ primary.Paren opening inner closing
    → primary_meaning p scope types ≡ expr_meaning inner.value scope types >>= (λ x. found_in x.1 (parenthesized closing x.0))
unfolding primary_meaning expr_meaning
of_paren p opening closing inner scope types is = ap (λ (q : Primary). primary_meaning q scope types) (is ∙ sym (primary.rolls-Paren opening inner closing)) ∙ rw fold-roll-Primary

pub of_move : (p : Primary) (name : Qualified) (opening closing : Place) (variable_name : Identifier) (scope : Scope) (types : Types) → p ≡ primary.Move name opening variable_name closing
    → primary_meaning p scope types ≡ given (local_named variable_name scope) (λ l. found_in types (moved types name.word l))
unfolding primary_meaning
of_move p name opening closing variable_name scope types is = ap (λ (q : Primary). primary_meaning q scope types) (is ∙ sym (primary.rolls-Move name opening variable_name closing)) ∙ rw fold-roll-Primary

pub of_unique : (p : Primary) (name : Qualified) (element : TypeArgument) (arguments : Arguments) (scope : Scope) (types : Types) → p ≡ primary.MakeUnique name element arguments
    → primary_meaning p scope types ≡ unique_made name.word element (arguments_meaning arguments) scope types
unfolding primary_meaning arguments_meaning
of_unique p name element arguments scope types is = ap (λ (q : Primary). primary_meaning q scope types) (is ∙ sym (primary.rolls-MakeUnique name element arguments)) ∙ rw fold-roll-Primary

pub of_text_of : (p : Primary) (name : Qualified) (opening closing : Place) (inner : Box Expr Global) (scope : Scope) (types : Types) → p ≡ primary.TextOf name opening inner closing
    → primary_meaning p scope types ≡ expr_meaning inner.value scope types >>= (λ x. found_in x.1 (text_made name.word closing x.0))
unfolding primary_meaning expr_meaning
of_text_of p name opening closing inner scope types is = ap (λ (q : Primary). primary_meaning q scope types) (is ∙ sym (primary.rolls-TextOf name opening inner closing)) ∙ rw fold-roll-Primary

pub of_input : (p : Primary) (name : Qualified) (opening closing : Place) (scope : Scope) (types : Types) → p ≡ primary.Input name opening closing
    → primary_meaning p scope types ≡ Ok (value name.word ty.Long input, types)
unfolding primary_meaning
of_input p name opening closing scope types is = ap (λ (q : Primary). primary_meaning q scope types) (is ∙ sym (primary.rolls-Input name opening closing)) ∙ rw fold-roll-Primary

-- ---- what stands behind an operand

pub of_member : (p : PostfixPart) (dot : Place) (name : Identifier) (arguments : Option Arguments) (base : Typed) (scope : Scope) (types : Types) → p ≡ part.Member dot name arguments
    → part_meaning p base scope types ≡ dot_part name (option_map arguments_meaning arguments) base scope types
unfolding part_meaning arguments_meaning
of_member p dot name None base scope types is = ap (λ (q : PostfixPart). part_meaning q base scope types) (is ∙ sym (part.rolls-Member dot name None)) ∙ rw fold-roll-PostfixPart
of_member p dot name (Some arguments) base scope types is = ap (λ (q : PostfixPart). part_meaning q base scope types) (is ∙ sym (part.rolls-Member dot name (Some arguments))) ∙ rw fold-roll-PostfixPart

pub of_arrow : (p : PostfixPart) (arrow : Place) (name : Identifier) (arguments : Option Arguments) (base : Typed) (scope : Scope) (types : Types) → p ≡ part.Arrow arrow name arguments
    → part_meaning p base scope types ≡ arrow_part name (option_map arguments_meaning arguments) base scope types
unfolding part_meaning arguments_meaning
of_arrow p arrow name None base scope types is = ap (λ (q : PostfixPart). part_meaning q base scope types) (is ∙ sym (part.rolls-Arrow arrow name None)) ∙ rw fold-roll-PostfixPart
of_arrow p arrow name (Some arguments) base scope types is = ap (λ (q : PostfixPart). part_meaning q base scope types) (is ∙ sym (part.rolls-Arrow arrow name (Some arguments))) ∙ rw fold-roll-PostfixPart

pub of_index : (p : PostfixPart) (opening closing : Place) (position : Box Expr Global) (base : Typed) (scope : Scope) (types : Types) → p ≡ part.Index opening position closing
    → part_meaning p base scope types ≡ index_part opening (expr_meaning position.value) closing base scope types
unfolding part_meaning expr_meaning
of_index p opening closing position base scope types is = ap (λ (q : PostfixPart). part_meaning q base scope types) (is ∙ sym (part.rolls-Index opening position closing)) ∙ rw fold-roll-PostfixPart

-- ---- operators before an operand

pub of_prefix : (u : Unary) (operator : PrefixOperator) (place : Place) (operand : Box Unary Global) (scope : Scope) (types : Types) → u ≡ unary.Prefix operator place operand
    → unary_meaning u scope types ≡ unary_meaning operand.value scope types >>= prefixed operator place
unfolding unary_meaning
of_prefix u operator place operand scope types is = ap (λ (q : Unary). unary_meaning q scope types) (is ∙ sym (unary.rolls-Prefix operator place operand)) ∙ rw fold-roll-Unary

pub of_plain : (u : Unary) (operand : Postfix) (scope : Scope) (types : Types) → u ≡ unary.Plain operand → unary_meaning u scope types ≡ postfix_meaning operand scope types
unfolding unary_meaning postfix_meaning
of_plain u operand scope types is = ap (λ (q : Unary). unary_meaning q scope types) (is ∙ sym (unary.rolls-Plain operand)) ∙ rw fold-roll-Unary

-- ---- what is assigned to

pub of_star : (t : Target) (star : Place) (operand : Box Target Global) (scope : Scope) (types : Types) → t ≡ target.Dereference star operand
    → target_meaning t scope types ≡ target_meaning operand.value scope types >>= prefixed prefix_operators.Dereference star
unfolding target_meaning
of_star t star operand scope types is = ap (λ (q : Target). target_meaning q scope types) (is ∙ sym (target.rolls-Dereference star operand)) ∙ rw fold-roll-Target

pub of_place : (t : Target) (operand : Postfix) (scope : Scope) (types : Types) → t ≡ target.Plain operand → target_meaning t scope types ≡ postfix_meaning operand scope types
unfolding target_meaning
of_place t operand scope types is = ap (λ (q : Target). target_meaning q scope types) (is ∙ sym (target.rolls-Plain operand)) ∙ rw fold-roll-Target
