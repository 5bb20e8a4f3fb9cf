-- What an expression means is the same when the expression is settled.
use Rattle.std.proofs.Common.{◌≡◌, refl}
use Rattle.life_types.specs.Types.{Types}
use Rattle.life_types.specs.declared.place.Place.{Place}
use Rattle.life_tree.specs.declared.arithmetic.Additive.{Additive}
use Rattle.life_tree.specs.declared.expr.Expr.{Expr}
use Rattle.life_tree.specs.declared.expr.InitList.{InitList}
use Rattle.life_tree.specs.declared.primary.Postfix.{Postfix}
use Rattle.life_tree.specs.declared.primary.PostfixPart.TheOpen as open_expr
use Rattle.life_tree.specs.declared.simple.Target.{Target}
use Rattle.life_tree.specs.declared.simple.Target.TheOpen as open_target
use Rattle.life_tree.specs.declared.type_name.TypeArgument.{TypeArgument}
use Rattle.life_names.specs.Environment.{Scope}
use Rattle.life_type_expr.specs.Expressions.{PartMeaning, unique_made, part_step, primary_step, unary_step, additive_step, additive_part, multiplicative_step, multiplicative_part, equality_step, equality_part, relational_step, relational_part, and_part, arguments_step, expr_step, init_list_step, logical_and_step, or_part, postfix_step, target_step, additive_meaning, expr_meaning, init_list_meaning, postfix_meaning, target_meaning}
use Rattle.life_type_expr.specs.Lists.{ListMeaning, Meaning}
use Rattle.life_unique.specs.SettledExpressions.{bare_part, bare_primary, bare_unary, settled_additive, settled_expr, settled_init_list, settled_postfix}
use Rattle.life_unique.specs.SettledSimples.{bare_target, settled_target}
use Rattle.life_unique.specs.SettledTypes.{settled_argument}
use Rattle.life_unique.proofs.ExpressionsSeen.{additive_seen, expr_seen, init_list_seen, postfix_seen}
use Rattle.life_unique.proofs.TargetsSeen.{target_seen}
use Rattle.life_typing.proofs.BlindSteps.{bind_as}
use Rattle.life_typing.proofs.BlindTypes.{made_blind}

-- ---- no step looks at an address

unique_blind : (place : Place) (element : TypeArgument) (arguments : ListMeaning) (scope : Scope) (types : Types) →
    unique_made place (settled_argument element) arguments scope types ≡ unique_made place element arguments scope types
unique_blind place element arguments scope types = bind_as (made_blind element place scope types) (λ x. refl)

part_blind : (l : open_expr.PostfixPart-F PartMeaning Meaning Meaning Meaning PartMeaning Meaning PartMeaning Meaning PartMeaning Meaning PartMeaning PartMeaning ListMeaning Meaning ListMeaning Meaning PartMeaning Meaning)
    → part_step (bare_part l) ≡ part_step l
part_blind (open_expr.Index opening index closing) = refl
part_blind _ = refl

primary_blind : (l : open_expr.Primary-F PartMeaning Meaning Meaning Meaning PartMeaning Meaning PartMeaning Meaning PartMeaning Meaning PartMeaning PartMeaning ListMeaning Meaning ListMeaning Meaning PartMeaning Meaning)
    → primary_step (bare_primary l) ≡ primary_step l
primary_blind (open_expr.MakeUnique name element arguments) = λ i scope types. unique_blind name.word element arguments scope types i
primary_blind _ = refl

unary_blind : (l : open_expr.Unary-F PartMeaning Meaning Meaning Meaning PartMeaning Meaning PartMeaning Meaning PartMeaning Meaning PartMeaning PartMeaning ListMeaning Meaning ListMeaning Meaning PartMeaning Meaning)
    → unary_step (bare_unary l) ≡ unary_step l
unary_blind (open_expr.Prefix operator place operand) = refl
unary_blind (open_expr.Plain operand) = refl

-- ---- so no meaning does

pub expr_blind : (e : Expr) → expr_meaning (settled_expr e) ≡ expr_meaning e
unfolding expr_meaning
expr_blind = expr_seen PartMeaning Meaning Meaning Meaning PartMeaning Meaning PartMeaning Meaning PartMeaning Meaning PartMeaning PartMeaning ListMeaning Meaning ListMeaning Meaning PartMeaning Meaning
    part_step primary_step unary_step additive_step additive_part multiplicative_step multiplicative_part equality_step equality_part relational_step relational_part and_part arguments_step expr_step init_list_step logical_and_step or_part postfix_step
    part_blind primary_blind unary_blind (λ l. refl) (λ l. refl) (λ l. refl) (λ l. refl) (λ l. refl) (λ l. refl) (λ l. refl) (λ l. refl) (λ l. refl)

pub init_list_blind : (l : InitList) → init_list_meaning (settled_init_list l) ≡ init_list_meaning l
unfolding init_list_meaning
init_list_blind = init_list_seen PartMeaning Meaning Meaning Meaning PartMeaning Meaning PartMeaning Meaning PartMeaning Meaning PartMeaning PartMeaning ListMeaning Meaning ListMeaning Meaning PartMeaning Meaning
    part_step primary_step unary_step additive_step additive_part multiplicative_step multiplicative_part equality_step equality_part relational_step relational_part and_part arguments_step expr_step init_list_step logical_and_step or_part postfix_step
    part_blind primary_blind unary_blind (λ l. refl) (λ l. refl) (λ l. refl) (λ l. refl) (λ l. refl) (λ l. refl) (λ l. refl) (λ l. refl) (λ l. refl)

pub additive_blind : (e : Additive) → additive_meaning (settled_additive e) ≡ additive_meaning e
unfolding additive_meaning
additive_blind = additive_seen PartMeaning Meaning Meaning Meaning PartMeaning Meaning PartMeaning Meaning PartMeaning Meaning PartMeaning PartMeaning ListMeaning Meaning ListMeaning Meaning PartMeaning Meaning
    part_step primary_step unary_step additive_step additive_part multiplicative_step multiplicative_part equality_step equality_part relational_step relational_part and_part arguments_step expr_step init_list_step logical_and_step or_part postfix_step
    part_blind primary_blind unary_blind (λ l. refl) (λ l. refl) (λ l. refl) (λ l. refl) (λ l. refl) (λ l. refl) (λ l. refl) (λ l. refl) (λ l. refl)

pub postfix_blind : (p : Postfix) → postfix_meaning (settled_postfix p) ≡ postfix_meaning p
unfolding postfix_meaning
postfix_blind = postfix_seen PartMeaning Meaning Meaning Meaning PartMeaning Meaning PartMeaning Meaning PartMeaning Meaning PartMeaning PartMeaning ListMeaning Meaning ListMeaning Meaning PartMeaning Meaning
    part_step primary_step unary_step additive_step additive_part multiplicative_step multiplicative_part equality_step equality_part relational_step relational_part and_part arguments_step expr_step init_list_step logical_and_step or_part postfix_step
    part_blind primary_blind unary_blind (λ l. refl) (λ l. refl) (λ l. refl) (λ l. refl) (λ l. refl) (λ l. refl) (λ l. refl) (λ l. refl) (λ l. refl)

target_step_blind : (l : open_target.Target-F Meaning) → target_step (bare_target l) ≡ target_step l
target_step_blind (open_target.Dereference star operand) = refl
target_step_blind (open_target.Plain operand) = λ i scope types. postfix_blind operand i scope types

pub target_blind : (t : Target) → target_meaning (settled_target t) ≡ target_meaning t
unfolding target_meaning
target_blind = target_seen Meaning target_step target_step_blind
