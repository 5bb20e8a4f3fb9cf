-- What a target gives is well typed.
use Rattle.life_tree.specs.declared.operator.PrefixOperator.TheVariants as prefix_operators
use Rattle.life_tree.specs.declared.simple.Target.{Target, roll-Target}
use Rattle.life_tree.specs.declared.simple.Target.TheFolds.{fold-roll-Target, ind-Target, map-Target}
use Rattle.life_tree.specs.declared.simple.Target.TheOpen as open_target
use Rattle.std.proofs.Common.{◌≡◌}
use Rattle.life_type_expr.specs.Expressions.{target_meaning, target_step}
use Rattle.life_type_expr.specs.Lists.{Meaning}
use Rattle.life_unique.proofs.TargetLayers.{Layer-Target, parts_target}
use Rattle.life_unique.specs.SettledSimples.{Opened-Target}
use Rattle.life_typing_laws.proofs.Each.{made_alone}
use Rattle.life_typing_laws.proofs.Prefixes.{prefix_good}
use Rattle.life_typing_laws.proofs.Typed.{Good}
use Rattle.life_typing_laws.proofs.Wholes.{postfix_good}

abbrev claim : Target → Type 0
claim x = Good (target_meaning x)

target_layer : (l : Layer-Target claim) → Good (target_step (map-Target Target Meaning target_meaning (parts_target claim l)))
target_layer (open_target.Dereference star inner) = prefix_good prefix_operators.Dereference star (target_meaning inner.value.0) inner.value.1
target_layer (open_target.Plain inner) = postfix_good inner

target_made : (x : Opened-Target) (l : Layer-Target claim) → parts_target claim l ≡ x → claim (roll-Target x)
unfolding target_meaning
target_made x l = made_alone Good roll-Target target_meaning (parts_target claim l) x (fold-roll-Target Meaning target_step (parts_target claim l)) (target_layer l)

pub target_good : (x : Target) → claim x
target_good = ind-Target claim target_made
