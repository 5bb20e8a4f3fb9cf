-- What conditions, results, printed items and simple statements mean is the same when they are settled.
use Rattle.std.proofs.Common.{◌≡◌, List, [], ◌∷◌, Option, None, Some, Box, map, refl}
use Rattle.std.specs.Prelude.{option_map}
use Rattle.std.specs.declared.alloc.Global.{Global}
use Rattle.life_types.specs.Types.{Types}
use Rattle.life_types.specs.declared.place.Place.{Place}
use Rattle.life_types.specs.declared.ty.TyId.{TyId}
use Rattle.life_tree.specs.declared.expr.Expr.{Expr}
use Rattle.life_tree.specs.declared.primary.Postfix.{Postfix}
use Rattle.life_tree.specs.declared.simple.Simple.{Simple}
use Rattle.life_tree.specs.declared.simple.Simple.TheVariants as simple
use Rattle.life_tree.specs.declared.simple.Target.{Target}
use Rattle.life_tree.specs.declared.stmt.PrintItem.{PrintItem}
use Rattle.life_tree.specs.declared.stmt.PrintItem.TheVariants as print_item
use Rattle.life_tree.specs.declared.stmt.PrintPart.{PrintPart}
use Rattle.life_typed.specs.BaseTypes.{type_at}
use Rattle.life_names.specs.Environment.{Scope}
use Rattle.life_type_stmt.specs.Conditions.{condition, item, items, optional_condition}
use Rattle.life_type_stmt.specs.Returns.{returned}
use Rattle.life_type_stmt.specs.Simples.{operand, optional_simple, simple_statement, target, type_of}
use Rattle.life_unique.specs.SettledExpressions.{settled_expr, settled_postfix}
use Rattle.life_unique.specs.SettledSimples.{settled_simple, settled_target}
use Rattle.life_unique.specs.SettledStatements.{settled_print_item, settled_print_part}
use Rattle.life_unique.specs.Standing.{box_of}
use Rattle.life_typing.proofs.BlindDeclarations.{expr_at, given_expr_blind, given_value_blind}
use Rattle.life_typing.proofs.BlindExpressions.{additive_blind, postfix_blind, target_blind}
use Rattle.life_typing.proofs.BlindSteps.{bind_as}

-- ---- what decides, and what is returned

pub condition_blind : (e : Expr) (scope : Scope) (types : Types) → condition (settled_expr e) scope types ≡ condition e scope types
condition_blind e scope types = bind_as (expr_at e scope types) (λ x. refl)

pub optional_condition_blind : (e : Option (Box Expr Global)) (scope : Scope) (types : Types) →
    optional_condition (option_map (box_of settled_expr) e) scope types ≡ optional_condition e scope types
optional_condition_blind None scope types = refl
optional_condition_blind (Some e) scope types = bind_as (condition_blind e.value scope types) (λ x. refl)

pub returned_blind : (result : TyId) (keyword : Place) (e : Option (Box Expr Global)) (scope : Scope) (types : Types) →
    returned result keyword (option_map (box_of settled_expr) e) scope types ≡ returned result keyword e scope types
returned_blind result keyword None scope types = refl
returned_blind result keyword (Some e) scope types = bind_as (given_expr_blind (type_at types result) e.value scope types) (λ x. refl)

-- ---- what is printed

item_blind : (t : PrintItem) (scope : Scope) (types : Types) → item (settled_print_item t) scope types ≡ item t scope types
item_blind (print_item.Value e) scope types = bind_as (λ i. additive_blind e i scope types) (λ x. refl)
item_blind (print_item.EndLine name) scope types = refl

pub items_blind : (ps : List PrintPart) (scope : Scope) (types : Types) → items (map settled_print_part ps) scope types ≡ items ps scope types
items_blind [] scope types = refl
items_blind (p ∷ ps) scope types = bind_as (item_blind p.item scope types) (λ x. bind_as (items_blind ps scope x.1) (λ y. refl))

-- ---- simple statements

target_at : (t : Target) (scope : Scope) (types : Types) → target (settled_target t) scope types ≡ target t scope types
target_at t scope types = bind_as (λ i. target_blind t i scope types) (λ x. refl)

operand_at : (p : Postfix) (scope : Scope) (types : Types) → operand (settled_postfix p) scope types ≡ operand p scope types
operand_at p scope types = bind_as (λ i. postfix_blind p i scope types) (λ x. refl)

pub simple_blind : (s : Simple) (scope : Scope) (types : Types) → simple_statement (settled_simple s) scope types ≡ simple_statement s scope types
simple_blind (simple.Assign t equals v) scope types =
    bind_as (target_at t scope types) (λ x. bind_as (given_value_blind (type_of x.0.ty) v scope x.1) (λ y. refl))
simple_blind (simple.Compound t operator place v) scope types = bind_as (target_at t scope types) (λ x. bind_as (expr_at v.value scope x.1) (λ y. refl))
simple_blind (simple.PrefixStep operator place t) scope types = bind_as (target_at t scope types) (λ x. refl)
simple_blind (simple.PostfixStep t operator place) scope types = bind_as (operand_at t scope types) (λ x. refl)
simple_blind (simple.Call call) scope types = bind_as (operand_at call scope types) (λ x. refl)

pub optional_simple_blind : (s : Option (Box Simple Global)) (scope : Scope) (types : Types) →
    optional_simple (option_map (box_of settled_simple) s) scope types ≡ optional_simple s scope types
optional_simple_blind None scope types = refl
optional_simple_blind (Some s) scope types = bind_as (simple_blind s.value scope types) (λ x. refl)
