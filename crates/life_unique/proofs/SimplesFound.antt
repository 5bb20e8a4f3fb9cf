-- Assignments, steps and calls from their trees.
use Rattle.std.proofs.Common.{◌≡◌, false, refl, ap, sym, subst, ◌∙◌}
use Rattle.std.specs.Prelude.{◌==◌, if◌then◌else◌}
use Rattle.std.specs.declared.alloc.Global.{Global}
use Rattle.life_tree.specs.Rules as rules
use Rattle.life_tree.specs.Tree.{Tree, nothing, ◌⨾◌, construct, node}
use Rattle.life_tree.specs.declared.fixed.TheConstants as fixed
use Rattle.life_tree.specs.declared.operator.CompoundOperator.{CompoundOperator}
use Rattle.life_tree.specs.declared.operator.CompoundOperator.TheVariants as compound_operator
use Rattle.life_tree.specs.declared.primary.Postfix.{Postfix}
use Rattle.life_tree.specs.declared.primary.PostfixPart.TheFolds.{fold_out-Postfix}
use Rattle.life_tree.specs.declared.simple.Simple.{Simple}
use Rattle.life_tree.specs.declared.simple.Simple.TheVariants as simple
use Rattle.life_tree.specs.declared.simple.Target.{Target, roll-Target}
use Rattle.life_tree.specs.declared.simple.Target.TheFolds.{fold-roll-Target, ind-Target, map-Target}
use Rattle.life_tree.specs.declared.simple.Target.TheOpen as open_target
use Rattle.life_tree.specs.Views.{target_step, target_tree, plain_target, simple_tree, expr_tree, postfix_tree, compound_number}
use Rattle.life_tree.specs.Views.{part_step, primary_step, unary_step, additive_step, additive_part, multiplicative_step, multiplicative_part, equality_step, equality_part, relational_step, relational_part, and_part, arguments_step, expr_step, init_list_step, logical_and_step, or_part, postfix_step}
use Rattle.life_unique.specs.SettledSimples.{kept_target, settled_target, settled_simple}
use Rattle.life_unique.specs.Standing.{boxed_at}
use Rattle.life_unique.proofs.DeclarationsFound.{from_initial, initial_found}
use Rattle.life_unique.proofs.ExpressionsFrom.{from_expr, from_postfix, no_postfix}
use Rattle.life_unique.proofs.ExpressionsFound.{expr_found, postfix_found}
use Rattle.life_unique.proofs.Operators.{compound_of, compound_is, step_of, step_is}
use Rattle.life_unique.proofs.Tokens.{place_of, number_of, derived}

module _ (g : Global) where
  -- ---- targets

  abbrev from_target : Tree → Target
  from_target (node _ (construct _ star operand)) = roll-Target (open_target.Dereference star (boxed_at g (from_target operand)))
  from_target (node _ t) = roll-Target (open_target.Plain (from_postfix g t))
  from_target _ = roll-Target (open_target.Plain (no_postfix g))

  plain_is : (x : Postfix) → from_target (plain_target x) ≡ roll-Target (open_target.Plain (from_postfix g (postfix_tree x)))
  plain_is x = subst (λ t. from_target (node rules.target t) ≡ roll-Target (open_target.Plain (from_postfix g t)))
      (sym (fold_out-Postfix Tree Tree Tree Tree Tree Tree Tree Tree Tree Tree Tree Tree Tree Tree Tree Tree Tree Tree
      part_step primary_step unary_step additive_step additive_part multiplicative_step multiplicative_part equality_step equality_part
      relational_step relational_part and_part arguments_step expr_step init_list_step logical_and_step or_part postfix_step x)) refl

  abbrev Found : Target → Type 0
  Found x = from_target (target_tree x) ≡ settled_target x

  abbrev Both : Type 0
  Both = (x : Target) × Found x

  target_layer : (l : open_target.Target-F Both) → from_target (target_step (map-Target Target Tree target_tree (map-Target Both Target (λ z. z.0) l)))
      ≡ kept_target (map-Target Target Target settled_target (map-Target Both Target (λ z. z.0) l))
  target_layer (open_target.Dereference star operand) = λ i. roll-Target (open_target.Dereference star (boxed_at g (operand.value.1 i)))
  target_layer (open_target.Plain operand) = plain_is operand ∙ (λ i. roll-Target (open_target.Plain (postfix_found g operand i)))

  target_found : (x : Target) → Found x
  target_found = ind-Target Found (λ x l e. subst (λ z. Found (roll-Target z)) e
      (ap from_target (fold-roll-Target Tree target_step _) ∙ target_layer l ∙ sym (fold-roll-Target Target kept_target _)))

  -- ---- simple statements

  abbrev simple_of : Tree → Simple
  simple_of (construct n place t) = simple.PrefixStep (step_of n) place (from_target t)
  simple_of (target ⨾ mark ⨾ value) =
      if number_of mark == fixed.ASSIGN then simple.Assign (from_target target) (place_of mark) (from_initial g value)
      else simple.Compound (from_target target) (compound_of (number_of mark)) (place_of mark) (boxed_at g (from_expr g value))
  simple_of (target ⨾ nothing) = simple.Call (from_postfix g (derived target))
  simple_of (target ⨾ mark) = simple.PostfixStep (from_postfix g (derived target)) (step_of (number_of mark)) (place_of mark)
  simple_of _ = simple.Call (no_postfix g)

  abbrev pub from_simple : Tree → Simple
  from_simple t = simple_of (derived t)

  -- no operator with an `=` is that alone
  is_compound : (o : CompoundOperator) → (compound_number o == fixed.ASSIGN) ≡ false
  is_compound compound_operator.Add = refl
  is_compound compound_operator.Subtract = refl
  is_compound compound_operator.Multiply = refl
  is_compound compound_operator.Divide = refl
  is_compound compound_operator.Remainder = refl

  pub simple_found : (s : Simple) → from_simple (simple_tree s) ≡ settled_simple s
  simple_found (simple.Assign target equals value) = λ i. simple.Assign (target_found target i) equals (initial_found g value i)
  simple_found (simple.Compound target operator place value) = λ i.
      if is_compound operator i then simple.Assign (from_target (target_tree target)) place (from_initial g (expr_tree value.value))
      else simple.Compound (target_found target i) (compound_is operator i) place (boxed_at g (expr_found g value.value i))
  simple_found (simple.PrefixStep operator place target) = λ i. simple.PrefixStep (step_is operator i) place (target_found target i)
  simple_found (simple.PostfixStep target operator place) = λ i. simple.PostfixStep (postfix_found g target i) (step_is operator i) place
  simple_found (simple.Call call) = λ i. simple.Call (postfix_found g call i)
