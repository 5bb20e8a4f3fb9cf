-- Each rule's reader with n more open constructs, against itself with another number of them.
use Rattle.std.proofs.Common.{ℕ, zero, suc, length}
use Rattle.life_parse.proofs.Binds.{err_no_ok}
use Rattle.life_parse.proofs.Laws.{Slow}
use Rattle.life_parse.proofs.SlowExprs.{Follows-no_reader, Follows-derived, Follows-inside, Follows-chosen, Follows-argument_with, Follows-base_with, Follows-unqualified_with, Follows-type_with, Follows-args_with, Follows-list_with, Follows-primary_with, Follows-part_with, Follows-postfix_with, Follows-unary_with, Follows-term_with, Follows-sum_with, Follows-order_with, Follows-equal_with, Follows-both_with, Follows-expr_with, Follows-condition_with, Follows-initial_with, Follows-initializer_with, Follows-declared_type_with, Follows-declaration_with, Follows-target_with, Follows-simple_with}
use Rattle.life_parse.proofs.Slows.{Follows, Slow-follows, Follows-none}
use Rattle.life_expr.specs.Read.{Reader}
use Rattle.life_expr.specs.Readers.{Readers, declaration_fronts, print_fronts, end_of_line_fronts, for_rest_parts, for_rest_with, for_parts, for_clauses_with, for_head_with, item_with, print_part_with, sentence_parts, sentence_with, block_with, plain_parts, plain_with, branches_with, statement_parts, statement_with, else_parts, else_part_below, else_part_with, block_item_parts, block_item_with, word_with, attribute_with, parameter_parts, parameter_with, function_parts, function_with, member_with, structure_with, definition_parts, definition_with, program_with, rule_with, below, read_rule}
use Rattle.life_tree.specs.Rules as rules
use Rattle.life_tree.specs.Rules.{Rule}

-- Inside a construct the law holds for each rule.
module _ (n m : ℕ) (i i' : Readers) (h : (r : Rule) → Follows (i r) (i' r) n) where
  -- ---- statements

  Follows-for_rest_parts : (r : Rule) → Follows (for_rest_parts n i r) (for_rest_parts m i' r) (suc n)
  Follows-for_rest_parts rules.expr = Follows-expr_with n m i i' h
  Follows-for_rest_parts rules.simple = Follows-simple_with n m i i' h
  Follows-for_rest_parts _ = Follows-no_reader (suc n)

  Follows-for_rest_with : Follows (for_rest_with n i) (for_rest_with m i') (suc n)
  unfolding for_rest_with
  Follows-for_rest_with = Follows-derived n m i i' h _ _ Follows-for_rest_parts rules.for_rest

  Follows-for_parts : (r : Rule) → Follows (for_parts n i r) (for_parts m i' r) (suc n)
  Follows-for_parts rules.declared_type = Follows-declared_type_with n m i i' h
  Follows-for_parts rules.initializer = Follows-initializer_with n m i i' h
  Follows-for_parts rules.expr = Follows-expr_with n m i i' h
  Follows-for_parts rules.simple = Follows-simple_with n m i i' h
  Follows-for_parts rules.for_rest = Follows-for_rest_with
  Follows-for_parts _ = Follows-no_reader (suc n)

  Follows-for_clauses_with : Follows (for_clauses_with n i) (for_clauses_with m i') (suc n)
  unfolding for_clauses_with
  Follows-for_clauses_with = Follows-chosen n m i i' h declaration_fronts _ _ Follows-for_parts rules.for_clauses

  Follows-for_head_with : Follows (for_head_with n i) (for_head_with m i') (suc n)
  unfolding for_head_with
  Follows-for_head_with = Follows-inside n m i i' h rules.for_head

  Follows-item_with : Follows (item_with n i) (item_with m i') (suc n)
  unfolding item_with
  Follows-item_with = Follows-chosen n m i i' h end_of_line_fronts _ _ (λ r. Follows-sum_with n m i i' h) rules.item

  Follows-print_part_with : Follows (print_part_with n i) (print_part_with m i') (suc n)
  unfolding print_part_with
  Follows-print_part_with = Follows-derived n m i i' h _ _ (λ r. Follows-item_with) rules.print_part

  Follows-sentence_parts : (r : Rule) → Follows (sentence_parts n i r) (sentence_parts m i' r) (suc n)
  Follows-sentence_parts rules.print_part = Follows-print_part_with
  Follows-sentence_parts rules.simple = Follows-simple_with n m i i' h
  Follows-sentence_parts _ = Follows-no_reader (suc n)

  Follows-sentence_with : Follows (sentence_with n i) (sentence_with m i') (suc n)
  unfolding sentence_with
  Follows-sentence_with = Follows-chosen n m i i' h print_fronts _ _ Follows-sentence_parts rules.sentence

  Follows-block_with : Follows (block_with n i) (block_with m i') (suc n)
  unfolding block_with
  Follows-block_with = Follows-inside n m i i' h rules.block

  Follows-plain_parts : (r : Rule) → Follows (plain_parts n i r) (plain_parts m i' r) (suc n)
  Follows-plain_parts rules.block = Follows-block_with
  Follows-plain_parts rules.expr = Follows-expr_with n m i i' h
  Follows-plain_parts rules.condition = Follows-condition_with n m i i' h
  Follows-plain_parts rules.sentence = Follows-sentence_with
  Follows-plain_parts _ = Follows-no_reader (suc n)

  Follows-plain_with : Follows (plain_with n i) (plain_with m i') (suc n)
  unfolding plain_with
  Follows-plain_with = Follows-derived n m i i' h _ _ Follows-plain_parts rules.plain

  Follows-branches_with : Follows (branches_with n i) (branches_with m i') (suc n)
  unfolding branches_with
  Follows-branches_with = Follows-inside n m i i' h rules.branches

  Follows-statement_parts : (r : Rule) → Follows (statement_parts n i r) (statement_parts m i' r) (suc n)
  Follows-statement_parts rules.branches = Follows-branches_with
  Follows-statement_parts rules.plain = Follows-plain_with
  Follows-statement_parts _ = Follows-no_reader (suc n)

  Follows-statement_with : Follows (statement_with n i) (statement_with m i') (suc n)
  unfolding statement_with
  Follows-statement_with = Follows-derived n m i i' h _ _ Follows-statement_parts rules.statement

  Follows-else_parts : (more more' : Reader) → Follows more more' (suc n) → (r : Rule) → Follows (else_parts more n i r) (else_parts more' m i' r) (suc n)
  Follows-else_parts more more' f rules.condition = Follows-condition_with n m i i' h
  Follows-else_parts more more' f rules.statement = Follows-statement_with
  Follows-else_parts more more' f rules.plain = Follows-plain_with
  Follows-else_parts more more' f rules.else_part = f
  Follows-else_parts more more' f _ = Follows-no_reader (suc n)

  Follows-else_part_below : (k : ℕ) → Follows (else_part_below k n i) (else_part_below k m i') (suc n)
  Follows-else_part_below zero = Follows-no_reader (suc n)
  Follows-else_part_below (suc k) = Follows-derived n m i i' h _ _ (Follows-else_parts (else_part_below k n i) (else_part_below k m i') (Follows-else_part_below k)) rules.else_part

  Follows-else_part_with : Follows (else_part_with n i) (else_part_with m i') (suc n)
  unfolding else_part_with
  Follows-else_part_with = record {
    slow = λ k is ts t rest e. (Follows-else_part_below (suc (length ts))).slow k is ts t rest e;
    spells = λ ts t rest e. (Follows-else_part_below (suc (length ts))).spells ts t rest e;
  }

  Follows-block_item_parts : (r : Rule) → Follows (block_item_parts n i r) (block_item_parts m i' r) (suc n)
  Follows-block_item_parts rules.declaration = Follows-declaration_with n m i i' h
  Follows-block_item_parts rules.statement = Follows-statement_with
  Follows-block_item_parts _ = Follows-no_reader (suc n)

  Follows-block_item_with : Follows (block_item_with n i) (block_item_with m i') (suc n)
  unfolding block_item_with
  Follows-block_item_with = Follows-chosen n m i i' h declaration_fronts _ _ Follows-block_item_parts rules.block_item

  -- ---- definitions

  Follows-word_with : Follows (word_with n i) (word_with m i') (suc n)
  unfolding word_with
  Follows-word_with = Follows-derived n m i i' h _ _ (λ r. Follows-no_reader (suc n)) rules.word

  Follows-attribute_with : Follows (attribute_with n i) (attribute_with m i') (suc n)
  unfolding attribute_with
  Follows-attribute_with = Follows-derived n m i i' h _ _ (λ r. Follows-no_reader (suc n)) rules.attribute

  Follows-parameter_parts : (r : Rule) → Follows (parameter_parts n i r) (parameter_parts m i' r) (suc n)
  Follows-parameter_parts rules.attribute = Follows-attribute_with
  Follows-parameter_parts rules.type_name = Follows-type_with n m i i' h
  Follows-parameter_parts _ = Follows-no_reader (suc n)

  Follows-parameter_with : Follows (parameter_with n i) (parameter_with m i') (suc n)
  unfolding parameter_with
  Follows-parameter_with = Follows-derived n m i i' h _ _ Follows-parameter_parts rules.parameter

  Follows-function_parts : (r : Rule) → Follows (function_parts n i r) (function_parts m i' r) (suc n)
  Follows-function_parts rules.attribute = Follows-attribute_with
  Follows-function_parts rules.type_name = Follows-type_with n m i i' h
  Follows-function_parts rules.block = Follows-block_with
  Follows-function_parts _ = Follows-no_reader (suc n)

  Follows-function_with : Follows (function_with n i) (function_with m i') (suc n)
  unfolding function_with
  Follows-function_with = Follows-derived n m i i' h _ _ Follows-function_parts rules.function

  Follows-member_with : Follows (member_with n i) (member_with m i') (suc n)
  unfolding member_with
  Follows-member_with = Follows-derived n m i i' h _ _ (λ r. Follows-type_with n m i i' h) rules.member

  Follows-structure_with : Follows (structure_with n i) (structure_with m i') (suc n)
  unfolding structure_with
  Follows-structure_with = Follows-derived n m i i' h _ _ (λ r. Follows-no_reader (suc n)) rules.structure

  Follows-definition_parts : (r : Rule) → Follows (definition_parts n i r) (definition_parts m i' r) (suc n)
  Follows-definition_parts rules.structure = Follows-structure_with
  Follows-definition_parts rules.function = Follows-function_with
  Follows-definition_parts _ = Follows-no_reader (suc n)

  Follows-definition_with : Follows (definition_with n i) (definition_with m i') (suc n)
  unfolding definition_with
  Follows-definition_with = Follows-derived n m i i' h _ _ Follows-definition_parts rules.definition

  Follows-program_with : Follows (program_with n i) (program_with m i') (suc n)
  unfolding program_with
  Follows-program_with = Follows-derived n m i i' h _ _ (λ r. Follows-definition_with) rules.program

  -- ---- all of them

  Follows-rule_with : (r : Rule) → Follows (rule_with n i r) (rule_with m i' r) (suc n)
  unfolding rule_with
  Follows-rule_with rules.program = Follows-program_with
  Follows-rule_with rules.definition = Follows-definition_with
  Follows-rule_with rules.structure = Follows-structure_with
  Follows-rule_with rules.member = Follows-member_with
  Follows-rule_with rules.function = Follows-function_with
  Follows-rule_with rules.parameter = Follows-parameter_with
  Follows-rule_with rules.attribute = Follows-attribute_with
  Follows-rule_with rules.word = Follows-word_with
  Follows-rule_with rules.type_name = Follows-type_with n m i i' h
  Follows-rule_with rules.unqualified = Follows-unqualified_with n m i i' h
  Follows-rule_with rules.base = Follows-base_with n m i i' h
  Follows-rule_with rules.argument = Follows-argument_with n m i i' h
  Follows-rule_with rules.block = Follows-block_with
  Follows-rule_with rules.block_item = Follows-block_item_with
  Follows-rule_with rules.statement = Follows-statement_with
  Follows-rule_with rules.plain = Follows-plain_with
  Follows-rule_with rules.branches = Follows-branches_with
  Follows-rule_with rules.else_part = Follows-else_part_with
  Follows-rule_with rules.condition = Follows-condition_with n m i i' h
  Follows-rule_with rules.for_head = Follows-for_head_with
  Follows-rule_with rules.for_clauses = Follows-for_clauses_with
  Follows-rule_with rules.for_rest = Follows-for_rest_with
  Follows-rule_with rules.sentence = Follows-sentence_with
  Follows-rule_with rules.print_part = Follows-print_part_with
  Follows-rule_with rules.item = Follows-item_with
  Follows-rule_with rules.declaration = Follows-declaration_with n m i i' h
  Follows-rule_with rules.declared_type = Follows-declared_type_with n m i i' h
  Follows-rule_with rules.initializer = Follows-initializer_with n m i i' h
  Follows-rule_with rules.initial = Follows-initial_with n m i i' h
  Follows-rule_with rules.list = Follows-list_with n m i i' h
  Follows-rule_with rules.simple = Follows-simple_with n m i i' h
  Follows-rule_with rules.target = Follows-target_with n m i i' h
  Follows-rule_with rules.expr = Follows-expr_with n m i i' h
  Follows-rule_with rules.both = Follows-both_with n m i i' h
  Follows-rule_with rules.equal = Follows-equal_with n m i i' h
  Follows-rule_with rules.order = Follows-order_with n m i i' h
  Follows-rule_with rules.sum = Follows-sum_with n m i i' h
  Follows-rule_with rules.term = Follows-term_with n m i i' h
  Follows-rule_with rules.unary = Follows-unary_with n m i i' h
  Follows-rule_with rules.postfix = Follows-postfix_with n m i i' h
  Follows-rule_with rules.part = Follows-part_with n m i i' h
  Follows-rule_with rules.primary = Follows-primary_with n m i i' h
  Follows-rule_with rules.args = Follows-args_with n m i i' h

Follows-below : (n m : ℕ) (r : Rule) → Follows (below n r) (below m r) n
unfolding below
Follows-below n zero r = Follows-none (below n r) (below zero r) n (λ ts t rest e. err_no_ok _ _ e)
Follows-below zero (suc m) r =
    let f = Follows-rule_with 0 m (below 0) (below m) (Follows-below 0 m) r in
    record { slow = λ k is. absurd cc; spells = f.spells }
Follows-below (suc n) (suc m) r = Follows-rule_with n m (below n) (below m) (Follows-below n m) r

pub follows_rule : (n m : ℕ) (r : Rule) → Follows (read_rule n r) (read_rule m r) (suc n)
follows_rule n m r = Follows-rule_with n m (below n) (below m) (Follows-below n m) r

pub slow_rule : (n m : ℕ) (r : Rule) → Slow (read_rule n r) (read_rule m r) n
slow_rule n m r = Slow-follows (read_rule n r) (read_rule m r) n (follows_rule n m r)
