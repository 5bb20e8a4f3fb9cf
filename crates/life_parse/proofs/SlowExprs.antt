-- The readers of types, expressions and simple statements with n more open constructs, against themselves with another number of them.
use Rattle.std.proofs.Common.{ℕ, suc, List, inr, refl}
use Rattle.life_parse.proofs.Binds.{err_no_ok}
use Rattle.life_parse.proofs.SlowReads.{follows_reads}
use Rattle.life_parse.proofs.Slows.{Follows, Follows-if, Follows-node, Follows-none}
use Rattle.life_expr.specs.Heads.{Kind}
use Rattle.life_expr.specs.Read.{reads}
use Rattle.life_expr.specs.Readers.{Readers, no_reader, derived, begins_as, choose, chosen, argument_with, base_with, unqualified_with, type_with, args_with, list_with, primary_parts, primary_with, part_with, postfix_parts, postfix_with, unary_with, term_with, sum_with, order_with, equal_with, both_with, expr_with, condition_with, initial_parts, initial_with, initializer_parts, initializer_with, declared_type_with, declaration_parts, declaration_with, target_with, simple_parts, simple_with}
use Rattle.life_tree.specs.Grammar.{Form, form_of, ◌or◌}
use Rattle.life_tree.specs.Rules as rules
use Rattle.life_tree.specs.Rules.{Rule}

pub Follows-no_reader : (n : ℕ) → Follows no_reader no_reader n
Follows-no_reader n = Follows-none no_reader no_reader n (λ ts t rest e. err_no_ok _ _ e)

-- Inside a construct the law holds for each rule.
module _ (n m : ℕ) (i i' : Readers) (h : (r : Rule) → Follows (i r) (i' r) n) where
  Follows-form : (s s' : Readers) → ((r : Rule) → Follows (s r) (s' r) (suc n)) → (f : Form) → Follows (reads n i s f) (reads m i' s' f) (suc n)
  Follows-form s s' g f = follows_reads n m (suc n) i i' s s' (inr (refl, h)) g f

  pub Follows-derived : (s s' : Readers) → ((r : Rule) → Follows (s r) (s' r) (suc n)) → (r : Rule) → Follows (derived n i s r) (derived m i' s' r) (suc n)
  Follows-derived s s' g r = Follows-node r _ _ (suc n) (Follows-form s s' g (form_of r))

  -- a rule that is one construct
  pub Follows-inside : (r : Rule) → Follows (derived n i (λ s. no_reader) r) (derived m i' (λ s. no_reader) r) (suc n)
  Follows-inside r = Follows-derived (λ s. no_reader) (λ s. no_reader) (λ s. Follows-no_reader (suc n)) r

  Follows-choose : (fronts : List (List Kind)) (s s' : Readers) → ((r : Rule) → Follows (s r) (s' r) (suc n)) → (f : Form) → Follows (choose fronts n i s f) (choose fronts m i' s' f) (suc n)
  Follows-choose fronts s s' g (f or f') = Follows-if (begins_as fronts) (reads n i s f) (reads m i' s' f) (reads n i s f') (reads m i' s' f') (suc n) (Follows-form s s' g f) (Follows-form s s' g f')
  Follows-choose fronts s s' g f = Follows-form s s' g f

  pub Follows-chosen : (fronts : List (List Kind)) (s s' : Readers) → ((r : Rule) → Follows (s r) (s' r) (suc n)) → (r : Rule) → Follows (chosen fronts n i s r) (chosen fronts m i' s' r) (suc n)
  Follows-chosen fronts s s' g r = Follows-node r _ _ (suc n) (Follows-choose fronts s s' g (form_of r))

  -- ---- types

  pub Follows-argument_with : Follows (argument_with n i) (argument_with m i') (suc n)
  unfolding argument_with
  Follows-argument_with = Follows-inside rules.argument

  pub Follows-base_with : Follows (base_with n i) (base_with m i') (suc n)
  unfolding base_with
  Follows-base_with = Follows-derived _ _ (λ r. Follows-argument_with) rules.base

  pub Follows-unqualified_with : Follows (unqualified_with n i) (unqualified_with m i') (suc n)
  unfolding unqualified_with
  Follows-unqualified_with = Follows-derived _ _ (λ r. Follows-base_with) rules.unqualified

  pub Follows-type_with : Follows (type_with n i) (type_with m i') (suc n)
  unfolding type_with
  Follows-type_with = Follows-derived _ _ (λ r. Follows-unqualified_with) rules.type_name

  -- ---- expressions

  pub Follows-args_with : Follows (args_with n i) (args_with m i') (suc n)
  unfolding args_with
  Follows-args_with = Follows-inside rules.args

  pub Follows-list_with : Follows (list_with n i) (list_with m i') (suc n)
  unfolding list_with
  Follows-list_with = Follows-inside rules.list

  pub Follows-primary_parts : (r : Rule) → Follows (primary_parts n i r) (primary_parts m i' r) (suc n)
  Follows-primary_parts rules.args = Follows-args_with
  Follows-primary_parts rules.list = Follows-list_with
  Follows-primary_parts rules.argument = Follows-argument_with
  Follows-primary_parts _ = Follows-no_reader (suc n)

  pub Follows-primary_with : Follows (primary_with n i) (primary_with m i') (suc n)
  unfolding primary_with
  Follows-primary_with = Follows-derived _ _ Follows-primary_parts rules.primary

  pub Follows-part_with : Follows (part_with n i) (part_with m i') (suc n)
  unfolding part_with
  Follows-part_with = Follows-derived _ _ (λ r. Follows-args_with) rules.part

  pub Follows-postfix_parts : (r : Rule) → Follows (postfix_parts n i r) (postfix_parts m i' r) (suc n)
  Follows-postfix_parts rules.primary = Follows-primary_with
  Follows-postfix_parts rules.part = Follows-part_with
  Follows-postfix_parts _ = Follows-no_reader (suc n)

  pub Follows-postfix_with : Follows (postfix_with n i) (postfix_with m i') (suc n)
  unfolding postfix_with
  Follows-postfix_with = Follows-derived _ _ Follows-postfix_parts rules.postfix

  pub Follows-unary_with : Follows (unary_with n i) (unary_with m i') (suc n)
  unfolding unary_with
  Follows-unary_with = Follows-derived _ _ (λ r. Follows-postfix_with) rules.unary

  pub Follows-term_with : Follows (term_with n i) (term_with m i') (suc n)
  unfolding term_with
  Follows-term_with = Follows-derived _ _ (λ r. Follows-unary_with) rules.term

  pub Follows-sum_with : Follows (sum_with n i) (sum_with m i') (suc n)
  unfolding sum_with
  Follows-sum_with = Follows-derived _ _ (λ r. Follows-term_with) rules.sum

  pub Follows-order_with : Follows (order_with n i) (order_with m i') (suc n)
  unfolding order_with
  Follows-order_with = Follows-derived _ _ (λ r. Follows-sum_with) rules.order

  pub Follows-equal_with : Follows (equal_with n i) (equal_with m i') (suc n)
  unfolding equal_with
  Follows-equal_with = Follows-derived _ _ (λ r. Follows-order_with) rules.equal

  pub Follows-both_with : Follows (both_with n i) (both_with m i') (suc n)
  unfolding both_with
  Follows-both_with = Follows-derived _ _ (λ r. Follows-equal_with) rules.both

  pub Follows-expr_with : Follows (expr_with n i) (expr_with m i') (suc n)
  unfolding expr_with
  Follows-expr_with = Follows-derived _ _ (λ r. Follows-both_with) rules.expr

  -- ---- declarations and simple statements

  pub Follows-condition_with : Follows (condition_with n i) (condition_with m i') (suc n)
  unfolding condition_with
  Follows-condition_with = Follows-inside rules.condition

  pub Follows-initial_parts : (r : Rule) → Follows (initial_parts n i r) (initial_parts m i' r) (suc n)
  Follows-initial_parts rules.expr = Follows-expr_with
  Follows-initial_parts rules.list = Follows-list_with
  Follows-initial_parts _ = Follows-no_reader (suc n)

  pub Follows-initial_with : Follows (initial_with n i) (initial_with m i') (suc n)
  unfolding initial_with
  Follows-initial_with = Follows-derived _ _ Follows-initial_parts rules.initial

  pub Follows-initializer_parts : (r : Rule) → Follows (initializer_parts n i r) (initializer_parts m i' r) (suc n)
  Follows-initializer_parts rules.initial = Follows-initial_with
  Follows-initializer_parts rules.list = Follows-list_with
  Follows-initializer_parts _ = Follows-no_reader (suc n)

  pub Follows-initializer_with : Follows (initializer_with n i) (initializer_with m i') (suc n)
  unfolding initializer_with
  Follows-initializer_with = Follows-derived _ _ Follows-initializer_parts rules.initializer

  pub Follows-declared_type_with : Follows (declared_type_with n i) (declared_type_with m i') (suc n)
  unfolding declared_type_with
  Follows-declared_type_with = Follows-derived _ _ (λ r. Follows-unqualified_with) rules.declared_type

  pub Follows-declaration_parts : (r : Rule) → Follows (declaration_parts n i r) (declaration_parts m i' r) (suc n)
  Follows-declaration_parts rules.declared_type = Follows-declared_type_with
  Follows-declaration_parts rules.initializer = Follows-initializer_with
  Follows-declaration_parts _ = Follows-no_reader (suc n)

  pub Follows-declaration_with : Follows (declaration_with n i) (declaration_with m i') (suc n)
  unfolding declaration_with
  Follows-declaration_with = Follows-derived _ _ Follows-declaration_parts rules.declaration

  pub Follows-target_with : Follows (target_with n i) (target_with m i') (suc n)
  unfolding target_with
  Follows-target_with = Follows-derived _ _ (λ r. Follows-postfix_with) rules.target

  pub Follows-simple_parts : (r : Rule) → Follows (simple_parts n i r) (simple_parts m i' r) (suc n)
  Follows-simple_parts rules.target = Follows-target_with
  Follows-simple_parts rules.initial = Follows-initial_with
  Follows-simple_parts rules.expr = Follows-expr_with
  Follows-simple_parts _ = Follows-no_reader (suc n)

  pub Follows-simple_with : Follows (simple_with n i) (simple_with m i') (suc n)
  unfolding simple_with
  Follows-simple_with = Follows-derived _ _ Follows-simple_parts rules.simple
