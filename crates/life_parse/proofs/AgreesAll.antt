-- Where more may be open, the readers of statements and definitions, and so all, read the same, if those inside a construct do.
use Rattle.std.proofs.Common.{ℕ, zero, suc, ◌≤◌, length, arith}
use Rattle.life_expr.specs.Read.{Reader}
use Rattle.life_expr.specs.Readers.{Readers, no_reader, declaration_fronts, print_fronts, end_of_line_fronts, for_rest_parts, for_rest_with, for_clauses_with, for_head_with, item_with, print_part_with, sentence_parts, sentence_with, block_with, plain_parts, plain_with, branches_with, statement_parts, statement_with, else_part_with, block_item_parts, block_item_with, word_with, attribute_with, parameter_parts, parameter_with, function_parts, function_with, member_with, structure_with, definition_parts, definition_with, program_with, for_parts, else_parts, else_part_below, rule_with, below, read_rule}
use Rattle.life_parse.proofs.Agrees.{Agrees, AllAgree, Agrees-self, Agrees-derived, Agrees-chosen}
use Rattle.life_parse.proofs.AgreesExprs.{Agrees-argument, Agrees-base, Agrees-unqualified, Agrees-type, Agrees-args, Agrees-list, Agrees-primary, Agrees-part, Agrees-postfix, Agrees-unary, Agrees-term, Agrees-sum, Agrees-order, Agrees-equal, Agrees-both, Agrees-expr}
use Rattle.life_parse.proofs.AgreesSimple.{Agrees-condition, Agrees-initial, Agrees-initializer, Agrees-declared_type, Agrees-declaration, Agrees-target, Agrees-simple}
use Rattle.life_tree.specs.Rules as rules

module _ (n k : ℕ) (inside inside' : Readers) (le : n ≤ k) (i : AllAgree inside inside') where
  for_rest_agree : AllAgree (for_rest_parts n inside) (for_rest_parts k inside')
  for_rest_agree rules.expr = Agrees-expr n k inside inside' le i
  for_rest_agree rules.simple = Agrees-simple n k inside inside' le i
  for_rest_agree _ = Agrees-self no_reader

  pub Agrees-for_rest : Agrees (for_rest_with n inside) (for_rest_with k inside')
  unfolding for_rest_with
  Agrees-for_rest = Agrees-derived n k inside inside' (for_rest_parts n inside) (for_rest_parts k inside') le i for_rest_agree rules.for_rest

  for_agree : AllAgree (for_parts n inside) (for_parts k inside')
  for_agree rules.declared_type = Agrees-declared_type n k inside inside' le i
  for_agree rules.initializer = Agrees-initializer n k inside inside' le i
  for_agree rules.expr = Agrees-expr n k inside inside' le i
  for_agree rules.simple = Agrees-simple n k inside inside' le i
  for_agree rules.for_rest = Agrees-for_rest
  for_agree _ = Agrees-self no_reader

  pub Agrees-for_clauses : Agrees (for_clauses_with n inside) (for_clauses_with k inside')
  unfolding for_clauses_with
  Agrees-for_clauses = Agrees-chosen declaration_fronts n k inside inside' (for_parts n inside) (for_parts k inside') le i for_agree rules.for_clauses

  pub Agrees-for_head : Agrees (for_head_with n inside) (for_head_with k inside')
  unfolding for_head_with
  Agrees-for_head = Agrees-derived n k inside inside' inside inside' le i i rules.for_head

  pub Agrees-item : Agrees (item_with n inside) (item_with k inside')
  unfolding item_with
  Agrees-item = Agrees-chosen end_of_line_fronts n k inside inside' _ _ le i (λ r. Agrees-sum n k inside inside' le i) rules.item

  pub Agrees-print_part : Agrees (print_part_with n inside) (print_part_with k inside')
  unfolding print_part_with
  Agrees-print_part = Agrees-derived n k inside inside' _ _ le i (λ r. Agrees-item) rules.print_part

  sentence_agree : AllAgree (sentence_parts n inside) (sentence_parts k inside')
  sentence_agree rules.print_part = Agrees-print_part
  sentence_agree rules.simple = Agrees-simple n k inside inside' le i
  sentence_agree _ = Agrees-self no_reader

  pub Agrees-sentence : Agrees (sentence_with n inside) (sentence_with k inside')
  unfolding sentence_with
  Agrees-sentence = Agrees-chosen print_fronts n k inside inside' (sentence_parts n inside) (sentence_parts k inside') le i sentence_agree rules.sentence

  pub Agrees-block : Agrees (block_with n inside) (block_with k inside')
  unfolding block_with
  Agrees-block = Agrees-derived n k inside inside' inside inside' le i i rules.block

  plain_agree : AllAgree (plain_parts n inside) (plain_parts k inside')
  plain_agree rules.block = Agrees-block
  plain_agree rules.expr = Agrees-expr n k inside inside' le i
  plain_agree rules.condition = Agrees-condition n k inside inside' le i
  plain_agree rules.sentence = Agrees-sentence
  plain_agree _ = Agrees-self no_reader

  pub Agrees-plain : Agrees (plain_with n inside) (plain_with k inside')
  unfolding plain_with
  Agrees-plain = Agrees-derived n k inside inside' (plain_parts n inside) (plain_parts k inside') le i plain_agree rules.plain

  pub Agrees-branches : Agrees (branches_with n inside) (branches_with k inside')
  unfolding branches_with
  Agrees-branches = Agrees-derived n k inside inside' inside inside' le i i rules.branches

  statement_agree : AllAgree (statement_parts n inside) (statement_parts k inside')
  statement_agree rules.branches = Agrees-branches
  statement_agree rules.plain = Agrees-plain
  statement_agree _ = Agrees-self no_reader

  pub Agrees-statement : Agrees (statement_with n inside) (statement_with k inside')
  unfolding statement_with
  Agrees-statement = Agrees-derived n k inside inside' (statement_parts n inside) (statement_parts k inside') le i statement_agree rules.statement

  else_agree : (more more' : Reader) → Agrees more more' → AllAgree (else_parts more n inside) (else_parts more' k inside')
  else_agree more more' g rules.condition = Agrees-condition n k inside inside' le i
  else_agree more more' g rules.statement = Agrees-statement
  else_agree more more' g rules.plain = Agrees-plain
  else_agree more more' g rules.else_part = g
  else_agree more more' g _ = Agrees-self no_reader

  else_below_agrees : (j : ℕ) → Agrees (else_part_below j n inside) (else_part_below j k inside')
  else_below_agrees zero = Agrees-self no_reader
  else_below_agrees (suc j) =
      Agrees-derived n k inside inside' (else_parts (else_part_below j n inside) n inside) (else_parts (else_part_below j k inside') k inside') le i
      (else_agree (else_part_below j n inside) (else_part_below j k inside') (else_below_agrees j)) rules.else_part

  pub Agrees-else_part : Agrees (else_part_with n inside) (else_part_with k inside')
  unfolding else_part_with
  Agrees-else_part = record { agrees = λ ts e. (else_below_agrees (suc (length ts))).agrees ts e }

  block_item_agree : AllAgree (block_item_parts n inside) (block_item_parts k inside')
  block_item_agree rules.declaration = Agrees-declaration n k inside inside' le i
  block_item_agree rules.statement = Agrees-statement
  block_item_agree _ = Agrees-self no_reader

  pub Agrees-block_item : Agrees (block_item_with n inside) (block_item_with k inside')
  unfolding block_item_with
  Agrees-block_item = Agrees-chosen declaration_fronts n k inside inside' (block_item_parts n inside) (block_item_parts k inside') le i block_item_agree rules.block_item

  pub Agrees-word : Agrees (word_with n inside) (word_with k inside')
  unfolding word_with
  Agrees-word = Agrees-derived n k inside inside' _ _ le i (λ r. Agrees-self no_reader) rules.word

  pub Agrees-attribute : Agrees (attribute_with n inside) (attribute_with k inside')
  unfolding attribute_with
  Agrees-attribute = Agrees-derived n k inside inside' _ _ le i (λ r. Agrees-self no_reader) rules.attribute

  parameter_agree : AllAgree (parameter_parts n inside) (parameter_parts k inside')
  parameter_agree rules.attribute = Agrees-attribute
  parameter_agree rules.type_name = Agrees-type n k inside inside' le i
  parameter_agree _ = Agrees-self no_reader

  pub Agrees-parameter : Agrees (parameter_with n inside) (parameter_with k inside')
  unfolding parameter_with
  Agrees-parameter = Agrees-derived n k inside inside' (parameter_parts n inside) (parameter_parts k inside') le i parameter_agree rules.parameter

  function_agree : AllAgree (function_parts n inside) (function_parts k inside')
  function_agree rules.attribute = Agrees-attribute
  function_agree rules.type_name = Agrees-type n k inside inside' le i
  function_agree rules.block = Agrees-block
  function_agree _ = Agrees-self no_reader

  pub Agrees-function : Agrees (function_with n inside) (function_with k inside')
  unfolding function_with
  Agrees-function = Agrees-derived n k inside inside' (function_parts n inside) (function_parts k inside') le i function_agree rules.function

  pub Agrees-member : Agrees (member_with n inside) (member_with k inside')
  unfolding member_with
  Agrees-member = Agrees-derived n k inside inside' _ _ le i (λ r. Agrees-type n k inside inside' le i) rules.member

  pub Agrees-structure : Agrees (structure_with n inside) (structure_with k inside')
  unfolding structure_with
  Agrees-structure = Agrees-derived n k inside inside' _ _ le i (λ r. Agrees-self no_reader) rules.structure

  definition_agree : AllAgree (definition_parts n inside) (definition_parts k inside')
  definition_agree rules.structure = Agrees-structure
  definition_agree rules.function = Agrees-function
  definition_agree _ = Agrees-self no_reader

  pub Agrees-definition : Agrees (definition_with n inside) (definition_with k inside')
  unfolding definition_with
  Agrees-definition = Agrees-derived n k inside inside' (definition_parts n inside) (definition_parts k inside') le i definition_agree rules.definition

  pub Agrees-program : Agrees (program_with n inside) (program_with k inside')
  unfolding program_with
  Agrees-program = Agrees-derived n k inside inside' _ _ le i (λ r. Agrees-definition) rules.program

  pub rules_agree : AllAgree (rule_with n inside) (rule_with k inside')
  unfolding rule_with
  rules_agree rules.program = Agrees-program
  rules_agree rules.definition = Agrees-definition
  rules_agree rules.structure = Agrees-structure
  rules_agree rules.member = Agrees-member
  rules_agree rules.function = Agrees-function
  rules_agree rules.parameter = Agrees-parameter
  rules_agree rules.attribute = Agrees-attribute
  rules_agree rules.word = Agrees-word
  rules_agree rules.type_name = Agrees-type n k inside inside' le i
  rules_agree rules.unqualified = Agrees-unqualified n k inside inside' le i
  rules_agree rules.base = Agrees-base n k inside inside' le i
  rules_agree rules.argument = Agrees-argument n k inside inside' le i
  rules_agree rules.block = Agrees-block
  rules_agree rules.block_item = Agrees-block_item
  rules_agree rules.statement = Agrees-statement
  rules_agree rules.plain = Agrees-plain
  rules_agree rules.branches = Agrees-branches
  rules_agree rules.else_part = Agrees-else_part
  rules_agree rules.condition = Agrees-condition n k inside inside' le i
  rules_agree rules.for_head = Agrees-for_head
  rules_agree rules.for_clauses = Agrees-for_clauses
  rules_agree rules.for_rest = Agrees-for_rest
  rules_agree rules.sentence = Agrees-sentence
  rules_agree rules.print_part = Agrees-print_part
  rules_agree rules.item = Agrees-item
  rules_agree rules.declaration = Agrees-declaration n k inside inside' le i
  rules_agree rules.declared_type = Agrees-declared_type n k inside inside' le i
  rules_agree rules.initializer = Agrees-initializer n k inside inside' le i
  rules_agree rules.initial = Agrees-initial n k inside inside' le i
  rules_agree rules.list = Agrees-list n k inside inside' le i
  rules_agree rules.simple = Agrees-simple n k inside inside' le i
  rules_agree rules.target = Agrees-target n k inside inside' le i
  rules_agree rules.expr = Agrees-expr n k inside inside' le i
  rules_agree rules.both = Agrees-both n k inside inside' le i
  rules_agree rules.equal = Agrees-equal n k inside inside' le i
  rules_agree rules.order = Agrees-order n k inside inside' le i
  rules_agree rules.sum = Agrees-sum n k inside inside' le i
  rules_agree rules.term = Agrees-term n k inside inside' le i
  rules_agree rules.unary = Agrees-unary n k inside inside' le i
  rules_agree rules.postfix = Agrees-postfix n k inside inside' le i
  rules_agree rules.part = Agrees-part n k inside inside' le i
  rules_agree rules.primary = Agrees-primary n k inside inside' le i
  rules_agree rules.args = Agrees-args n k inside inside' le i

-- ---- and so those inside a construct do

pub below_agree : (n k : ℕ) → n ≤ k → AllAgree (below n) (below k)
unfolding below
below_agree zero k le r = record { agrees = λ ts e. absurd cc }
below_agree (suc n) zero le r = absurd (omega arith)
below_agree (suc n) (suc k) le r = rules_agree n k (below n) (below k) (omega arith) (below_agree n k (omega arith)) r

pub read_agree : (n k : ℕ) → n ≤ k → AllAgree (read_rule n) (read_rule k)
read_agree n k le r = rules_agree n k (below n) (below k) le (below_agree n k le) r
