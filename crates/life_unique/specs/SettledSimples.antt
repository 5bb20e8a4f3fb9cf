-- Assignments, steps and calls, settled.
use Rattle.life_tree.specs.declared.simple.Simple.{Simple}
use Rattle.life_tree.specs.declared.simple.Simple.TheVariants as simple
use Rattle.life_tree.specs.declared.simple.Target.{Target, roll-Target}
use Rattle.life_tree.specs.declared.simple.Target.TheFolds.{fold-Target}
use Rattle.life_tree.specs.declared.simple.Target.TheOpen as open_target
use Rattle.life_unique.specs.SettledDeclarations.{settled_initial}
use Rattle.life_unique.specs.SettledExpressions.{settled_expr, settled_postfix}
use Rattle.life_unique.specs.Standing.{box_of, settled_box}

-- one layer of a target
abbrev pub bare_target : {A : Type 0} → open_target.Target-F A → open_target.Target-F A
bare_target (open_target.Dereference star operand) = open_target.Dereference star (settled_box operand)
bare_target (open_target.Plain operand) = open_target.Plain (settled_postfix operand)

-- ---- one layer of a whole

abbrev pub Opened-Target : Type 0
Opened-Target = open_target.Target-F Target

abbrev pub kept_target : Opened-Target → Target
kept_target l = roll-Target (bare_target l)

abbrev pub settled_target : Target → Target
settled_target = fold-Target Target kept_target

abbrev pub settled_simple : Simple → Simple
settled_simple (simple.Assign target equals value) = simple.Assign (settled_target target) equals (settled_initial value)
settled_simple (simple.Compound target operator place value) = simple.Compound (settled_target target) operator place (box_of settled_expr value)
settled_simple (simple.PrefixStep operator place target) = simple.PrefixStep operator place (settled_target target)
settled_simple (simple.PostfixStep target operator place) = simple.PostfixStep (settled_postfix target) operator place
settled_simple (simple.Call call) = simple.Call (settled_postfix call)
