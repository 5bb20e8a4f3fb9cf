-- Where the reader of a rule stops, what was read is the beginning of a tree of the rule.
use Rattle.std.proofs.Common.{◌≡◌, ℕ, zero, suc, length, Ok, Err, subst}
use Rattle.life_parse.proofs.Binds.{stop_is, err_no_ok}
use Rattle.life_parse.proofs.Closed.{Closed, Stopped, Closed-node, Closed-refusing, Closes-closed}
use Rattle.life_parse.proofs.ClosesExprs.{Closed-derived, Closed-chosen, Closed-argument_with, Closed-base_with, Closed-unqualified_with, Closed-type_with, Closed-args_with, Closed-list_with, Closed-primary_with, Closed-part_with, Closed-postfix_with, Closed-unary_with, Closed-term_with, Closed-sum_with, Closed-order_with, Closed-equal_with, Closed-both_with, Closed-expr_with, Closed-condition_with, Closed-initial_with, Closed-initializer_with, Closed-declared_type_with, Closed-declaration_with, Closed-target_with, Closed-simple_with}
use Rattle.life_parse.proofs.ClosesReads.{closed_reads}
use Rattle.life_parse.proofs.ElseParts.{Closed-else}
use Rattle.life_parse.proofs.Laws.{Closes}
use Rattle.life_parse.proofs.Samples.{sample_of}
use Rattle.life_parse.proofs.Wholes.{Whole}
use Rattle.life_expr.specs.Read.{Stop, deep}
use Rattle.life_expr.specs.Readers.{Readers, no_reader, declaration_fronts, print_fronts, end_of_line_fronts, type_with, sum_with, for_rest_parts, for_rest_with, for_parts, for_clauses_with, for_head_with, item_with, print_part_with, sentence_parts, sentence_with, block_with, plain_parts, plain_with, branches_with, statement_parts, statement_with, else_parts, else_part_below, else_part_with, block_item_parts, block_item_with, word_with, attribute_with, parameter_parts, parameter_with, function_parts, function_with, member_with, structure_with, definition_parts, definition_with, program_with, rule_with, below, read_rule}
use Rattle.life_tree.specs.Grammar.{Form, quoted, ◌then◌, ◌or◌, rule}
use Rattle.life_tree.specs.Rules as rules
use Rattle.life_tree.specs.Rules.{Rule}
use Rattle.life_tree.specs.Tree.{Tree, Tokens}
use Rattle.life_tree.specs.declared.fixed.TheConstants as fixed

-- what may stand behind an `else`
abbrev behind_else : Form
behind_else = (quoted fixed.IF then rule rules.condition then rule rules.statement then rule rules.else_part) or rule rules.plain

-- Inside a construct the law holds for each rule.
module _ (n : ℕ) (i : Readers) (h : (r : Rule) → Closed (i r) (rule r) n) where
  -- ---- statements

  Closed-for_rest_with : Closed (for_rest_with n i) (rule rules.for_rest) (suc n)
  unfolding for_rest_with
  Closed-for_rest_with = Closed-derived n i h (for_rest_parts n i) rules.for_rest (assumption (Closed-expr_with n i h, Closed-simple_with n i h))

  Closed-for_clauses_with : Closed (for_clauses_with n i) (rule rules.for_clauses) (suc n)
  unfolding for_clauses_with
  Closed-for_clauses_with = Closed-chosen n i h declaration_fronts (for_parts n i) rules.for_clauses (assumption (Closed-declared_type_with n i h, Closed-initializer_with n i h, Closed-expr_with n i h, Closed-simple_with n i h, Closed-for_rest_with))

  Closed-for_head_with : Closed (for_head_with n i) (rule rules.for_head) (suc n)
  unfolding for_head_with
  Closed-for_head_with = Closed-derived n i h i rules.for_head assumption

  Closed-item_with : Closed (item_with n i) (rule rules.item) (suc n)
  unfolding item_with
  Closed-item_with = Closed-chosen n i h end_of_line_fronts (λ r. sum_with n i) rules.item (assumption (Closed-sum_with n i h))

  Closed-print_part_with : Closed (print_part_with n i) (rule rules.print_part) (suc n)
  unfolding print_part_with
  Closed-print_part_with = Closed-derived n i h (λ r. item_with n i) rules.print_part (assumption Closed-item_with)

  Closed-sentence_with : Closed (sentence_with n i) (rule rules.sentence) (suc n)
  unfolding sentence_with
  Closed-sentence_with = Closed-chosen n i h print_fronts (sentence_parts n i) rules.sentence (assumption (Closed-print_part_with, Closed-simple_with n i h))

  Closed-block_with : Closed (block_with n i) (rule rules.block) (suc n)
  unfolding block_with
  Closed-block_with = Closed-derived n i h i rules.block assumption

  Closed-plain_with : Closed (plain_with n i) (rule rules.plain) (suc n)
  unfolding plain_with
  Closed-plain_with = Closed-derived n i h (plain_parts n i) rules.plain (assumption (Closed-block_with, Closed-expr_with n i h, Closed-condition_with n i h, Closed-sentence_with))

  Closed-branches_with : Closed (branches_with n i) (rule rules.branches) (suc n)
  unfolding branches_with
  Closed-branches_with = Closed-derived n i h i rules.branches assumption

  Closed-statement_with : Closed (statement_with n i) (rule rules.statement) (suc n)
  unfolding statement_with
  Closed-statement_with = Closed-derived n i h (statement_parts n i) rules.statement (assumption (Closed-branches_with, Closed-plain_with))

  Closed-else_part_below : (k : ℕ) → Closed (else_part_below k n i) (rule rules.else_part) (suc n)
  Closed-else_part_below zero = Closed-refusing (rule rules.else_part) (suc n) (sample_of rules.else_part)
  Closed-else_part_below (suc k) =
      let more = Closed-else_part_below k in
      Closed-node rules.else_part _ (suc n) (Closed-else _ behind_else (suc n) (closed_reads n i (else_parts (else_part_below k n i) n i) h behind_else (assumption (more, Closed-condition_with n i h, Closed-statement_with, Closed-plain_with))))

  Closed-else_part_with : Closed (else_part_with n i) (rule rules.else_part) (suc n)
  unfolding else_part_with
  Closed-else_part_with = record {
    missing = sample_of rules.else_part;
    reads = λ ts t rest e. (Closed-else_part_below (suc (length ts))).reads ts t rest e;
    stops = λ ts s e. (Closed-else_part_below (suc (length ts))).stops ts s e;
  }

  Closed-block_item_with : Closed (block_item_with n i) (rule rules.block_item) (suc n)
  unfolding block_item_with
  Closed-block_item_with = Closed-chosen n i h declaration_fronts (block_item_parts n i) rules.block_item (assumption (Closed-declaration_with n i h, Closed-statement_with))

  -- ---- definitions

  Closed-word_with : Closed (word_with n i) (rule rules.word) (suc n)
  unfolding word_with
  Closed-word_with = Closed-derived n i h (λ r. no_reader) rules.word assumption

  Closed-attribute_with : Closed (attribute_with n i) (rule rules.attribute) (suc n)
  unfolding attribute_with
  Closed-attribute_with = Closed-derived n i h (λ r. no_reader) rules.attribute assumption

  Closed-parameter_with : Closed (parameter_with n i) (rule rules.parameter) (suc n)
  unfolding parameter_with
  Closed-parameter_with = Closed-derived n i h (parameter_parts n i) rules.parameter (assumption (Closed-attribute_with, Closed-type_with n i h))

  Closed-function_with : Closed (function_with n i) (rule rules.function) (suc n)
  unfolding function_with
  Closed-function_with = Closed-derived n i h (function_parts n i) rules.function (assumption (Closed-attribute_with, Closed-type_with n i h, Closed-block_with))

  Closed-member_with : Closed (member_with n i) (rule rules.member) (suc n)
  unfolding member_with
  Closed-member_with = Closed-derived n i h (λ r. type_with n i) rules.member (assumption (Closed-type_with n i h))

  Closed-structure_with : Closed (structure_with n i) (rule rules.structure) (suc n)
  unfolding structure_with
  Closed-structure_with = Closed-derived n i h (λ r. no_reader) rules.structure assumption

  Closed-definition_with : Closed (definition_with n i) (rule rules.definition) (suc n)
  unfolding definition_with
  Closed-definition_with = Closed-derived n i h (definition_parts n i) rules.definition (assumption (Closed-structure_with, Closed-function_with))

  Closed-program_with : Closed (program_with n i) (rule rules.program) (suc n)
  unfolding program_with
  Closed-program_with = Closed-derived n i h (λ r. definition_with n i) rules.program (assumption Closed-definition_with)

  -- ---- all of them

  Closed-rule_with : (r : Rule) → Closed (rule_with n i r) (rule r) (suc n)
  unfolding rule_with
  Closed-rule_with rules.program = Closed-program_with
  Closed-rule_with rules.definition = Closed-definition_with
  Closed-rule_with rules.structure = Closed-structure_with
  Closed-rule_with rules.member = Closed-member_with
  Closed-rule_with rules.function = Closed-function_with
  Closed-rule_with rules.parameter = Closed-parameter_with
  Closed-rule_with rules.attribute = Closed-attribute_with
  Closed-rule_with rules.word = Closed-word_with
  Closed-rule_with rules.type_name = Closed-type_with n i h
  Closed-rule_with rules.unqualified = Closed-unqualified_with n i h
  Closed-rule_with rules.base = Closed-base_with n i h
  Closed-rule_with rules.argument = Closed-argument_with n i h
  Closed-rule_with rules.block = Closed-block_with
  Closed-rule_with rules.block_item = Closed-block_item_with
  Closed-rule_with rules.statement = Closed-statement_with
  Closed-rule_with rules.plain = Closed-plain_with
  Closed-rule_with rules.branches = Closed-branches_with
  Closed-rule_with rules.else_part = Closed-else_part_with
  Closed-rule_with rules.condition = Closed-condition_with n i h
  Closed-rule_with rules.for_head = Closed-for_head_with
  Closed-rule_with rules.for_clauses = Closed-for_clauses_with
  Closed-rule_with rules.for_rest = Closed-for_rest_with
  Closed-rule_with rules.sentence = Closed-sentence_with
  Closed-rule_with rules.print_part = Closed-print_part_with
  Closed-rule_with rules.item = Closed-item_with
  Closed-rule_with rules.declaration = Closed-declaration_with n i h
  Closed-rule_with rules.declared_type = Closed-declared_type_with n i h
  Closed-rule_with rules.initializer = Closed-initializer_with n i h
  Closed-rule_with rules.initial = Closed-initial_with n i h
  Closed-rule_with rules.list = Closed-list_with n i h
  Closed-rule_with rules.simple = Closed-simple_with n i h
  Closed-rule_with rules.target = Closed-target_with n i h
  Closed-rule_with rules.expr = Closed-expr_with n i h
  Closed-rule_with rules.both = Closed-both_with n i h
  Closed-rule_with rules.equal = Closed-equal_with n i h
  Closed-rule_with rules.order = Closed-order_with n i h
  Closed-rule_with rules.sum = Closed-sum_with n i h
  Closed-rule_with rules.term = Closed-term_with n i h
  Closed-rule_with rules.unary = Closed-unary_with n i h
  Closed-rule_with rules.postfix = Closed-postfix_with n i h
  Closed-rule_with rules.part = Closed-part_with n i h
  Closed-rule_with rules.primary = Closed-primary_with n i h
  Closed-rule_with rules.args = Closed-args_with n i h

too_deep : (r : Rule) → Closed (λ ts. Err (deep ts)) (rule r) 0
too_deep r = record {
  missing = sample_of r;
  reads = λ ts t rest e. absurd (err_no_ok _ _ e);
  stops = λ ts s e. subst (λ (d : Stop). Stopped (rule r) 0 ts d) (stop_is (deep ts) s e) (λ k is. absurd cc);
}

Closed-below : (n : ℕ) (r : Rule) → Closed (below n r) (rule r) n
unfolding below
Closed-below zero r = too_deep r
Closed-below (suc n) r = Closed-rule_with n (below n) (Closed-below n) r

-- What was read of a rule is a tree of it, however deep.
pub whole_rule : (n : ℕ) (r : Rule) (ts : Tokens) (t : Tree) (rest : Tokens) → read_rule n r ts ≡ Ok (t, rest) → Whole (rule r) ts t rest
whole_rule n r = (Closed-rule_with n (below n) (Closed-below n) r).reads

pub closes_rule : (n : ℕ) (r : Rule) → Closes (read_rule n r) (rule r) n
closes_rule n r = Closes-closed (read_rule n r) (rule r) n (Closed-rule_with n (below n) (Closed-below n) r)
