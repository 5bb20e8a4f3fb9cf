-- Where the readers of types, expressions and simple statements stop, what was read is the beginning of a tree.
use Rattle.std.proofs.Common.{ℕ, suc, Bool, true, false, List, if◌then◌else◌}
use Rattle.life_parse.proofs.Closed.{Closed, Closed-node, Closed-or}
use Rattle.life_parse.proofs.ClosesReads.{Needs, closed_reads}
use Rattle.life_expr.specs.Heads.{Kind}
use Rattle.life_expr.specs.Read.{reads}
use Rattle.life_expr.specs.Readers.{Readers, derived, begins_as, choose, chosen, argument_with, base_with, unqualified_with, type_with, args_with, list_with, primary_parts, primary_with, part_with, postfix_parts, postfix_with, unary_with, term_with, sum_with, order_with, equal_with, both_with, expr_with, condition_with, initial_parts, initial_with, initializer_parts, initializer_with, declared_type_with, declaration_parts, declaration_with, target_with, simple_parts, simple_with}
use Rattle.life_tree.specs.Grammar.{Form, form_of, none, ◌or◌, rule, is_starred, ends_in_arguments, assignment, step, ending}
use Rattle.life_tree.specs.Rules as rules
use Rattle.life_tree.specs.Rules.{Rule}
use Rattle.life_tree.specs.Tree.{Tree}

-- Inside a construct the law holds for each rule.
module _ (n : ℕ) (i : Readers) (h : (r : Rule) → Closed (i r) (rule r) n) where
  pub Closed-derived : (s : Readers) (r : Rule) → Needs (λ q. Closed (s q) (rule q) (suc n)) (form_of r) → Closed (derived n i s r) (rule r) (suc n)
  Closed-derived s r needs = Closed-node r (reads n i s (form_of r)) (suc n) (closed_reads n i s h (form_of r) needs)

  Closed-choose : (fronts : List (List Kind)) (s : Readers) (f : Form) → Needs (λ q. Closed (s q) (rule q) (suc n)) f → Closed (choose fronts n i s f) f (suc n)
  Closed-choose fronts s (f or g) needs = Closed-or (begins_as fronts) (reads n i s f) (reads n i s g) f g (suc n) (closed_reads n i s h f needs.0) (closed_reads n i s h g needs.1)
  Closed-choose fronts s f needs = closed_reads n i s h f needs

  pub Closed-chosen : (fronts : List (List Kind)) (s : Readers) (r : Rule) → Needs (λ q. Closed (s q) (rule q) (suc n)) (form_of r) → Closed (chosen fronts n i s r) (rule r) (suc n)
  Closed-chosen fronts s r needs = Closed-node r (choose fronts n i s (form_of r)) (suc n) (Closed-choose fronts s (form_of r) needs)

  -- ---- types

  pub Closed-argument_with : Closed (argument_with n i) (rule rules.argument) (suc n)
  unfolding argument_with
  Closed-argument_with = Closed-derived i rules.argument assumption

  pub Closed-base_with : Closed (base_with n i) (rule rules.base) (suc n)
  unfolding base_with
  Closed-base_with = Closed-derived (λ r. argument_with n i) rules.base (assumption Closed-argument_with)

  pub Closed-unqualified_with : Closed (unqualified_with n i) (rule rules.unqualified) (suc n)
  unfolding unqualified_with
  Closed-unqualified_with = Closed-derived (λ r. base_with n i) rules.unqualified (assumption Closed-base_with)

  pub Closed-type_with : Closed (type_with n i) (rule rules.type_name) (suc n)
  unfolding type_with
  Closed-type_with = Closed-derived (λ r. unqualified_with n i) rules.type_name (assumption Closed-unqualified_with)

  -- ---- expressions

  pub Closed-args_with : Closed (args_with n i) (rule rules.args) (suc n)
  unfolding args_with
  Closed-args_with = Closed-derived i rules.args assumption

  pub Closed-list_with : Closed (list_with n i) (rule rules.list) (suc n)
  unfolding list_with
  Closed-list_with = Closed-derived i rules.list assumption

  pub Closed-primary_with : Closed (primary_with n i) (rule rules.primary) (suc n)
  unfolding primary_with
  Closed-primary_with = Closed-derived (primary_parts n i) rules.primary (assumption (Closed-args_with, Closed-list_with, Closed-argument_with))

  pub Closed-part_with : Closed (part_with n i) (rule rules.part) (suc n)
  unfolding part_with
  Closed-part_with = Closed-derived (λ r. args_with n i) rules.part (assumption Closed-args_with)

  pub Closed-postfix_with : Closed (postfix_with n i) (rule rules.postfix) (suc n)
  unfolding postfix_with
  Closed-postfix_with = Closed-derived (postfix_parts n i) rules.postfix (assumption (Closed-primary_with, Closed-part_with))

  pub Closed-unary_with : Closed (unary_with n i) (rule rules.unary) (suc n)
  unfolding unary_with
  Closed-unary_with = Closed-derived (λ r. postfix_with n i) rules.unary (assumption Closed-postfix_with)

  pub Closed-term_with : Closed (term_with n i) (rule rules.term) (suc n)
  unfolding term_with
  Closed-term_with = Closed-derived (λ r. unary_with n i) rules.term (assumption Closed-unary_with)

  pub Closed-sum_with : Closed (sum_with n i) (rule rules.sum) (suc n)
  unfolding sum_with
  Closed-sum_with = Closed-derived (λ r. term_with n i) rules.sum (assumption Closed-term_with)

  pub Closed-order_with : Closed (order_with n i) (rule rules.order) (suc n)
  unfolding order_with
  Closed-order_with = Closed-derived (λ r. sum_with n i) rules.order (assumption Closed-sum_with)

  pub Closed-equal_with : Closed (equal_with n i) (rule rules.equal) (suc n)
  unfolding equal_with
  Closed-equal_with = Closed-derived (λ r. order_with n i) rules.equal (assumption Closed-order_with)

  pub Closed-both_with : Closed (both_with n i) (rule rules.both) (suc n)
  unfolding both_with
  Closed-both_with = Closed-derived (λ r. equal_with n i) rules.both (assumption Closed-equal_with)

  pub Closed-expr_with : Closed (expr_with n i) (rule rules.expr) (suc n)
  unfolding expr_with
  Closed-expr_with = Closed-derived (λ r. both_with n i) rules.expr (assumption Closed-both_with)

  -- ---- declarations and simple statements

  pub Closed-condition_with : Closed (condition_with n i) (rule rules.condition) (suc n)
  unfolding condition_with
  Closed-condition_with = Closed-derived i rules.condition assumption

  pub Closed-initial_with : Closed (initial_with n i) (rule rules.initial) (suc n)
  unfolding initial_with
  Closed-initial_with = Closed-derived (initial_parts n i) rules.initial (assumption (Closed-expr_with, Closed-list_with))

  pub Closed-initializer_with : Closed (initializer_with n i) (rule rules.initializer) (suc n)
  unfolding initializer_with
  Closed-initializer_with = Closed-derived (initializer_parts n i) rules.initializer (assumption (Closed-initial_with, Closed-list_with))

  pub Closed-declared_type_with : Closed (declared_type_with n i) (rule rules.declared_type) (suc n)
  unfolding declared_type_with
  Closed-declared_type_with = Closed-derived (λ r. unqualified_with n i) rules.declared_type (assumption Closed-unqualified_with)

  pub Closed-declaration_with : Closed (declaration_with n i) (rule rules.declaration) (suc n)
  unfolding declaration_with
  Closed-declaration_with = Closed-derived (declaration_parts n i) rules.declaration (assumption (Closed-declared_type_with, Closed-initializer_with))

  pub Closed-target_with : Closed (target_with n i) (rule rules.target) (suc n)
  unfolding target_with
  Closed-target_with = Closed-derived (λ r. postfix_with n i) rules.target (assumption Closed-postfix_with)

  -- what may stand behind a target
  simple_ending : (t : Tree) → Needs (λ q. Closed (simple_parts n i q) (rule q) (suc n)) (ending t)
  simple_ending t = go (is_starred t) (ends_in_arguments t)
    where
      go : (a b : Bool) → Needs (λ q. Closed (simple_parts n i q) (rule q) (suc n)) (if a then assignment else if b then (assignment or step or none) else (assignment or step))
      go true b = assumption (Closed-initial_with, Closed-expr_with)
      go false true = assumption (Closed-initial_with, Closed-expr_with)
      go false false = assumption (Closed-initial_with, Closed-expr_with)

  pub Closed-simple_with : Closed (simple_with n i) (rule rules.simple) (suc n)
  unfolding simple_with
  Closed-simple_with = Closed-derived (simple_parts n i) rules.simple (assumption (Closed-target_with, Closed-initial_with, Closed-expr_with, simple_ending))
