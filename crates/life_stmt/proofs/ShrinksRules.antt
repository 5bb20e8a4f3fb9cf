-- Every rule's reader leaves no more tokens than there were, and fewer where the rule has one.
use Rattle.std.proofs.Common.{ℕ, zero, suc, true, false, length, refl}
use Rattle.life_stmt.specs.Definitions.{later_with}
use Rattle.life_expr.specs.Exprs.{comma_form}
use Rattle.life_expr.specs.Heads.{rule_may_be_empty}
use Rattle.life_expr.specs.Read.{Reader}
use Rattle.life_expr.specs.Readers.{Readers, no_reader, declaration_fronts, print_fronts, end_of_line_fronts, argument_with, base_with, unqualified_with, type_with, args_with, list_with, primary_with, part_with, postfix_with, unary_with, term_with, sum_with, order_with, equal_with, both_with, expr_with, condition_with, initial_with, initializer_with, declared_type_with, declaration_with, target_with, simple_with, for_rest_with, for_clauses_with, for_head_with, item_with, print_part_with, sentence_with, block_with, plain_with, branches_with, statement_with, else_part_with, block_item_with, word_with, attribute_with, parameter_with, function_with, member_with, structure_with, definition_with, program_with, primary_parts, postfix_parts, initial_parts, initializer_parts, declaration_parts, simple_parts, for_rest_parts, for_parts, sentence_parts, plain_parts, statement_parts, block_item_parts, parameter_parts, function_parts, definition_parts, else_parts, else_part_below, rule_with, below}
use Rattle.life_stmt.proofs.ShrinksReads.{Takes, TakesAll, Takes-any, Takes-none, Takes-reads, Takes-derived, Takes-chosen}
use Rattle.life_tree.specs.Grammar.{◌then◌, rule}
use Rattle.life_tree.specs.Rules as rules
use Rattle.life_tree.specs.Rules.{Rule}

module _ (n : ℕ) (inside : Readers) (hi : TakesAll inside) where
  pub Takes-argument : Takes false (argument_with n inside)
  unfolding argument_with
  Takes-argument = Takes-derived n inside inside hi hi rules.argument refl

  pub Takes-base : Takes false (base_with n inside)
  unfolding base_with
  Takes-base = Takes-derived n inside (λ r. argument_with n inside) hi (λ r. Takes-any _ (rule_may_be_empty r) Takes-argument) rules.base refl

  pub Takes-unqualified : Takes false (unqualified_with n inside)
  unfolding unqualified_with
  Takes-unqualified = Takes-derived n inside (λ r. base_with n inside) hi (λ r. Takes-any _ (rule_may_be_empty r) Takes-base) rules.unqualified refl

  pub Takes-type_name : Takes false (type_with n inside)
  unfolding type_with
  Takes-type_name = Takes-derived n inside (λ r. unqualified_with n inside) hi (λ r. Takes-any _ (rule_may_be_empty r) Takes-unqualified) rules.type_name refl

  pub Takes-args : Takes false (args_with n inside)
  unfolding args_with
  Takes-args = Takes-derived n inside inside hi hi rules.args refl

  pub Takes-list : Takes false (list_with n inside)
  unfolding list_with
  Takes-list = Takes-derived n inside inside hi hi rules.list refl

  takes_primary_parts : TakesAll (primary_parts n inside)
  takes_primary_parts rules.args = Takes-args
  takes_primary_parts rules.list = Takes-list
  takes_primary_parts rules.argument = Takes-argument
  takes_primary_parts r = Takes-none (rule_may_be_empty r)

  pub Takes-primary : Takes false (primary_with n inside)
  unfolding primary_with
  Takes-primary = Takes-derived n inside (primary_parts n inside) hi takes_primary_parts rules.primary refl

  pub Takes-part : Takes false (part_with n inside)
  unfolding part_with
  Takes-part = Takes-derived n inside (λ r. args_with n inside) hi (λ r. Takes-any _ (rule_may_be_empty r) Takes-args) rules.part refl

  takes_postfix_parts : TakesAll (postfix_parts n inside)
  takes_postfix_parts rules.primary = Takes-primary
  takes_postfix_parts rules.part = Takes-part
  takes_postfix_parts r = Takes-none (rule_may_be_empty r)

  pub Takes-postfix : Takes false (postfix_with n inside)
  unfolding postfix_with
  Takes-postfix = Takes-derived n inside (postfix_parts n inside) hi takes_postfix_parts rules.postfix refl

  pub Takes-unary : Takes false (unary_with n inside)
  unfolding unary_with
  Takes-unary = Takes-derived n inside (λ r. postfix_with n inside) hi (λ r. Takes-any _ (rule_may_be_empty r) Takes-postfix) rules.unary refl

  pub Takes-term : Takes false (term_with n inside)
  unfolding term_with
  Takes-term = Takes-derived n inside (λ r. unary_with n inside) hi (λ r. Takes-any _ (rule_may_be_empty r) Takes-unary) rules.term refl

  pub Takes-sum : Takes false (sum_with n inside)
  unfolding sum_with
  Takes-sum = Takes-derived n inside (λ r. term_with n inside) hi (λ r. Takes-any _ (rule_may_be_empty r) Takes-term) rules.sum refl

  pub Takes-order : Takes false (order_with n inside)
  unfolding order_with
  Takes-order = Takes-derived n inside (λ r. sum_with n inside) hi (λ r. Takes-any _ (rule_may_be_empty r) Takes-sum) rules.order refl

  pub Takes-equal : Takes false (equal_with n inside)
  unfolding equal_with
  Takes-equal = Takes-derived n inside (λ r. order_with n inside) hi (λ r. Takes-any _ (rule_may_be_empty r) Takes-order) rules.equal refl

  pub Takes-both : Takes false (both_with n inside)
  unfolding both_with
  Takes-both = Takes-derived n inside (λ r. equal_with n inside) hi (λ r. Takes-any _ (rule_may_be_empty r) Takes-equal) rules.both refl

  pub Takes-expr : Takes false (expr_with n inside)
  unfolding expr_with
  Takes-expr = Takes-derived n inside (λ r. both_with n inside) hi (λ r. Takes-any _ (rule_may_be_empty r) Takes-both) rules.expr refl

  pub Takes-condition : Takes false (condition_with n inside)
  unfolding condition_with
  Takes-condition = Takes-derived n inside inside hi hi rules.condition refl

  takes_initial_parts : TakesAll (initial_parts n inside)
  takes_initial_parts rules.expr = Takes-expr
  takes_initial_parts rules.list = Takes-list
  takes_initial_parts r = Takes-none (rule_may_be_empty r)

  pub Takes-initial : Takes false (initial_with n inside)
  unfolding initial_with
  Takes-initial = Takes-derived n inside (initial_parts n inside) hi takes_initial_parts rules.initial refl

  takes_initializer_parts : TakesAll (initializer_parts n inside)
  takes_initializer_parts rules.initial = Takes-initial
  takes_initializer_parts rules.list = Takes-list
  takes_initializer_parts r = Takes-none (rule_may_be_empty r)

  pub Takes-initializer : Takes true (initializer_with n inside)
  unfolding initializer_with
  Takes-initializer = Takes-derived n inside (initializer_parts n inside) hi takes_initializer_parts rules.initializer refl

  pub Takes-declared_type : Takes false (declared_type_with n inside)
  unfolding declared_type_with
  Takes-declared_type = Takes-derived n inside (λ r. unqualified_with n inside) hi (λ r. Takes-any _ (rule_may_be_empty r) Takes-unqualified) rules.declared_type refl

  takes_declaration_parts : TakesAll (declaration_parts n inside)
  takes_declaration_parts rules.declared_type = Takes-declared_type
  takes_declaration_parts rules.initializer = Takes-initializer
  takes_declaration_parts r = Takes-none (rule_may_be_empty r)

  pub Takes-declaration : Takes false (declaration_with n inside)
  unfolding declaration_with
  Takes-declaration = Takes-derived n inside (declaration_parts n inside) hi takes_declaration_parts rules.declaration refl

  pub Takes-target : Takes false (target_with n inside)
  unfolding target_with
  Takes-target = Takes-derived n inside (λ r. postfix_with n inside) hi (λ r. Takes-any _ (rule_may_be_empty r) Takes-postfix) rules.target refl

  takes_simple_parts : TakesAll (simple_parts n inside)
  takes_simple_parts rules.target = Takes-target
  takes_simple_parts rules.initial = Takes-initial
  takes_simple_parts rules.expr = Takes-expr
  takes_simple_parts r = Takes-none (rule_may_be_empty r)

  pub Takes-simple : Takes false (simple_with n inside)
  unfolding simple_with
  Takes-simple = Takes-derived n inside (simple_parts n inside) hi takes_simple_parts rules.simple refl

  takes_for_rest_parts : TakesAll (for_rest_parts n inside)
  takes_for_rest_parts rules.expr = Takes-expr
  takes_for_rest_parts rules.simple = Takes-simple
  takes_for_rest_parts r = Takes-none (rule_may_be_empty r)

  pub Takes-for_rest : Takes false (for_rest_with n inside)
  unfolding for_rest_with
  Takes-for_rest = Takes-derived n inside (for_rest_parts n inside) hi takes_for_rest_parts rules.for_rest refl

  takes_for_parts : TakesAll (for_parts n inside)
  takes_for_parts rules.declared_type = Takes-declared_type
  takes_for_parts rules.initializer = Takes-initializer
  takes_for_parts rules.expr = Takes-expr
  takes_for_parts rules.simple = Takes-simple
  takes_for_parts rules.for_rest = Takes-for_rest
  takes_for_parts r = Takes-none (rule_may_be_empty r)

  pub Takes-for_clauses : Takes false (for_clauses_with n inside)
  unfolding for_clauses_with
  Takes-for_clauses = Takes-chosen n inside (for_parts n inside) hi takes_for_parts declaration_fronts rules.for_clauses refl

  pub Takes-for_head : Takes false (for_head_with n inside)
  unfolding for_head_with
  Takes-for_head = Takes-derived n inside inside hi hi rules.for_head refl

  pub Takes-item : Takes false (item_with n inside)
  unfolding item_with
  Takes-item = Takes-chosen n inside (λ r. sum_with n inside) hi (λ r. Takes-any _ (rule_may_be_empty r) Takes-sum) end_of_line_fronts rules.item refl

  pub Takes-print_part : Takes false (print_part_with n inside)
  unfolding print_part_with
  Takes-print_part = Takes-derived n inside (λ r. item_with n inside) hi (λ r. Takes-any _ (rule_may_be_empty r) Takes-item) rules.print_part refl

  takes_sentence_parts : TakesAll (sentence_parts n inside)
  takes_sentence_parts rules.print_part = Takes-print_part
  takes_sentence_parts rules.simple = Takes-simple
  takes_sentence_parts r = Takes-none (rule_may_be_empty r)

  pub Takes-sentence : Takes false (sentence_with n inside)
  unfolding sentence_with
  Takes-sentence = Takes-chosen n inside (sentence_parts n inside) hi takes_sentence_parts print_fronts rules.sentence refl

  pub Takes-block : Takes false (block_with n inside)
  unfolding block_with
  Takes-block = Takes-derived n inside inside hi hi rules.block refl

  takes_plain_parts : TakesAll (plain_parts n inside)
  takes_plain_parts rules.block = Takes-block
  takes_plain_parts rules.expr = Takes-expr
  takes_plain_parts rules.condition = Takes-condition
  takes_plain_parts rules.sentence = Takes-sentence
  takes_plain_parts r = Takes-none (rule_may_be_empty r)

  pub Takes-plain : Takes false (plain_with n inside)
  unfolding plain_with
  Takes-plain = Takes-derived n inside (plain_parts n inside) hi takes_plain_parts rules.plain refl

  pub Takes-branches : Takes false (branches_with n inside)
  unfolding branches_with
  Takes-branches = Takes-derived n inside inside hi hi rules.branches refl

  takes_statement_parts : TakesAll (statement_parts n inside)
  takes_statement_parts rules.branches = Takes-branches
  takes_statement_parts rules.plain = Takes-plain
  takes_statement_parts r = Takes-none (rule_may_be_empty r)

  pub Takes-statement : Takes false (statement_with n inside)
  unfolding statement_with
  Takes-statement = Takes-derived n inside (statement_parts n inside) hi takes_statement_parts rules.statement refl

  pub else_parts_take : (more : Reader) → Takes true more → TakesAll (else_parts more n inside)
  else_parts_take more h rules.condition = Takes-condition
  else_parts_take more h rules.statement = Takes-statement
  else_parts_take more h rules.plain = Takes-plain
  else_parts_take more h rules.else_part = h
  else_parts_take more h r = Takes-none (rule_may_be_empty r)

  pub Takes-else_below : (k : ℕ) → Takes true (else_part_below k n inside)
  Takes-else_below zero = Takes-none true
  Takes-else_below (suc k) = Takes-derived n inside (else_parts (else_part_below k n inside) n inside) hi (else_parts_take (else_part_below k n inside) (Takes-else_below k)) rules.else_part refl

  pub Takes-else_part : Takes true (else_part_with n inside)
  unfolding else_part_with
  Takes-else_part = record { takes = λ ts t rest e. (Takes-else_below (suc (length ts))).takes ts t rest e }

  takes_block_item_parts : TakesAll (block_item_parts n inside)
  takes_block_item_parts rules.declaration = Takes-declaration
  takes_block_item_parts rules.statement = Takes-statement
  takes_block_item_parts r = Takes-none (rule_may_be_empty r)

  pub Takes-block_item : Takes false (block_item_with n inside)
  unfolding block_item_with
  Takes-block_item = Takes-chosen n inside (block_item_parts n inside) hi takes_block_item_parts declaration_fronts rules.block_item refl

  pub Takes-word : Takes false (word_with n inside)
  unfolding word_with
  Takes-word = Takes-derived n inside (λ r. no_reader) hi (λ r. Takes-none (rule_may_be_empty r)) rules.word refl

  pub Takes-attribute : Takes false (attribute_with n inside)
  unfolding attribute_with
  Takes-attribute = Takes-derived n inside (λ r. no_reader) hi (λ r. Takes-none (rule_may_be_empty r)) rules.attribute refl

  takes_parameter_parts : TakesAll (parameter_parts n inside)
  takes_parameter_parts rules.attribute = Takes-attribute
  takes_parameter_parts rules.type_name = Takes-type_name
  takes_parameter_parts r = Takes-none (rule_may_be_empty r)

  pub Takes-parameter : Takes false (parameter_with n inside)
  unfolding parameter_with
  Takes-parameter = Takes-derived n inside (parameter_parts n inside) hi takes_parameter_parts rules.parameter refl

  takes_function_parts : TakesAll (function_parts n inside)
  takes_function_parts rules.attribute = Takes-attribute
  takes_function_parts rules.type_name = Takes-type_name
  takes_function_parts rules.block = Takes-block
  takes_function_parts r = Takes-none (rule_may_be_empty r)

  pub Takes-function : Takes false (function_with n inside)
  unfolding function_with
  Takes-function = Takes-derived n inside (function_parts n inside) hi takes_function_parts rules.function refl

  pub Takes-member : Takes false (member_with n inside)
  unfolding member_with
  Takes-member = Takes-derived n inside (λ r. type_with n inside) hi (λ r. Takes-any _ (rule_may_be_empty r) Takes-type_name) rules.member refl

  pub Takes-structure : Takes false (structure_with n inside)
  unfolding structure_with
  Takes-structure = Takes-derived n inside (λ r. no_reader) hi (λ r. Takes-none (rule_may_be_empty r)) rules.structure refl

  takes_definition_parts : TakesAll (definition_parts n inside)
  takes_definition_parts rules.structure = Takes-structure
  takes_definition_parts rules.function = Takes-function
  takes_definition_parts r = Takes-none (rule_may_be_empty r)

  pub Takes-definition : Takes false (definition_with n inside)
  unfolding definition_with
  Takes-definition = Takes-derived n inside (definition_parts n inside) hi takes_definition_parts rules.definition refl

  pub Takes-program : Takes true (program_with n inside)
  unfolding program_with
  Takes-program = Takes-derived n inside (λ r. definition_with n inside) hi (λ r. Takes-any _ (rule_may_be_empty r) Takes-definition) rules.program refl

  pub Takes-rule : TakesAll (rule_with n inside)
  unfolding rule_with
  Takes-rule rules.program = Takes-program
  Takes-rule rules.definition = Takes-definition
  Takes-rule rules.structure = Takes-structure
  Takes-rule rules.member = Takes-member
  Takes-rule rules.function = Takes-function
  Takes-rule rules.parameter = Takes-parameter
  Takes-rule rules.attribute = Takes-attribute
  Takes-rule rules.word = Takes-word
  Takes-rule rules.type_name = Takes-type_name
  Takes-rule rules.unqualified = Takes-unqualified
  Takes-rule rules.base = Takes-base
  Takes-rule rules.argument = Takes-argument
  Takes-rule rules.block = Takes-block
  Takes-rule rules.block_item = Takes-block_item
  Takes-rule rules.statement = Takes-statement
  Takes-rule rules.plain = Takes-plain
  Takes-rule rules.branches = Takes-branches
  Takes-rule rules.else_part = Takes-else_part
  Takes-rule rules.condition = Takes-condition
  Takes-rule rules.for_head = Takes-for_head
  Takes-rule rules.for_clauses = Takes-for_clauses
  Takes-rule rules.for_rest = Takes-for_rest
  Takes-rule rules.sentence = Takes-sentence
  Takes-rule rules.print_part = Takes-print_part
  Takes-rule rules.item = Takes-item
  Takes-rule rules.declaration = Takes-declaration
  Takes-rule rules.declared_type = Takes-declared_type
  Takes-rule rules.initializer = Takes-initializer
  Takes-rule rules.initial = Takes-initial
  Takes-rule rules.list = Takes-list
  Takes-rule rules.simple = Takes-simple
  Takes-rule rules.target = Takes-target
  Takes-rule rules.expr = Takes-expr
  Takes-rule rules.both = Takes-both
  Takes-rule rules.equal = Takes-equal
  Takes-rule rules.order = Takes-order
  Takes-rule rules.sum = Takes-sum
  Takes-rule rules.term = Takes-term
  Takes-rule rules.unary = Takes-unary
  Takes-rule rules.postfix = Takes-postfix
  Takes-rule rules.part = Takes-part
  Takes-rule rules.primary = Takes-primary
  Takes-rule rules.args = Takes-args

pub Takes-below : (n : ℕ) → TakesAll (below n)
unfolding below
Takes-below zero r = record { takes = λ ts t rest e. absurd cc }
Takes-below (suc n) r = record { takes = λ ts t rest e. (Takes-rule n (below n) (Takes-below n) r).takes ts t rest e }

-- what stands behind a comma
pub Takes-later : (inside : Readers) → TakesAll inside → (r : Rule) → Takes false (later_with inside r)
Takes-later inside hi r = record { takes = λ ts t rest e. (Takes-reads 0 inside inside hi hi (comma_form then rule r) refl).takes ts t rest e }
