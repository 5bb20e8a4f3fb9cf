-- The reader of each rule is good.
use Rattle.std.proofs.Common.{◌≡◌, ℕ, zero, suc, subst, arith}
use Rattle.life_expr.specs.Readers.{Readers, rule_with, below, read_rule}
use Rattle.life_parse.proofs.GoodDefinitions.{good_program, good_definition, good_function}
use Rattle.life_parse.proofs.GoodElse.{good_else_part}
use Rattle.life_parse.proofs.GoodExprs.{good_condition, good_initializer, good_initial, good_list, good_target, good_expr, good_both, good_equal, good_order, good_sum, good_term, good_unary, good_postfix, good_part, good_primary, good_args}
use Rattle.life_parse.proofs.GoodSentences.{good_for_head, good_for_clauses, good_sentence, good_print_part, good_item}
use Rattle.life_parse.proofs.GoodSimple.{good_for_rest, good_declaration, good_simple}
use Rattle.life_parse.proofs.GoodStatements.{good_block, good_block_item, good_statement, good_plain, good_branches}
use Rattle.life_parse.proofs.GoodTypes.{good_structure, good_member, good_parameter, good_attribute, good_word, good_type, good_unqualified, good_base, good_argument, good_declared_type}
use Rattle.life_parse.proofs.GoodReads.{InsideGood}
use Rattle.life_parse.proofs.Laws.{Good}
use Rattle.life_tree.specs.Grammar.{rule}
use Rattle.life_tree.specs.Rules as rules
use Rattle.life_tree.specs.Rules.{Rule}

pub good_rule_with : (n : ℕ) (inside : Readers) → InsideGood n inside → (r : Rule) → Good (rule_with n inside r) (rule r) n
unfolding rule_with
good_rule_with n inside i rules.program = good_program n inside i
good_rule_with n inside i rules.definition = good_definition n inside i
good_rule_with n inside i rules.structure = good_structure n inside i
good_rule_with n inside i rules.member = good_member n inside i
good_rule_with n inside i rules.function = good_function n inside i
good_rule_with n inside i rules.parameter = good_parameter n inside i
good_rule_with n inside i rules.attribute = good_attribute n inside i
good_rule_with n inside i rules.word = good_word n inside i
good_rule_with n inside i rules.type_name = good_type n inside i
good_rule_with n inside i rules.unqualified = good_unqualified n inside i
good_rule_with n inside i rules.base = good_base n inside i
good_rule_with n inside i rules.argument = good_argument n inside i
good_rule_with n inside i rules.block = good_block n inside i
good_rule_with n inside i rules.block_item = good_block_item n inside i
good_rule_with n inside i rules.statement = good_statement n inside i
good_rule_with n inside i rules.plain = good_plain n inside i
good_rule_with n inside i rules.branches = good_branches n inside i
good_rule_with n inside i rules.else_part = good_else_part n inside i
good_rule_with n inside i rules.condition = good_condition n inside i
good_rule_with n inside i rules.for_head = good_for_head n inside i
good_rule_with n inside i rules.for_clauses = good_for_clauses n inside i
good_rule_with n inside i rules.for_rest = good_for_rest n inside i
good_rule_with n inside i rules.sentence = good_sentence n inside i
good_rule_with n inside i rules.print_part = good_print_part n inside i
good_rule_with n inside i rules.item = good_item n inside i
good_rule_with n inside i rules.declaration = good_declaration n inside i
good_rule_with n inside i rules.declared_type = good_declared_type n inside i
good_rule_with n inside i rules.initializer = good_initializer n inside i
good_rule_with n inside i rules.initial = good_initial n inside i
good_rule_with n inside i rules.list = good_list n inside i
good_rule_with n inside i rules.simple = good_simple n inside i
good_rule_with n inside i rules.target = good_target n inside i
good_rule_with n inside i rules.expr = good_expr n inside i
good_rule_with n inside i rules.both = good_both n inside i
good_rule_with n inside i rules.equal = good_equal n inside i
good_rule_with n inside i rules.order = good_order n inside i
good_rule_with n inside i rules.sum = good_sum n inside i
good_rule_with n inside i rules.term = good_term n inside i
good_rule_with n inside i rules.unary = good_unary n inside i
good_rule_with n inside i rules.postfix = good_postfix n inside i
good_rule_with n inside i rules.part = good_part n inside i
good_rule_with n inside i rules.primary = good_primary n inside i
good_rule_with n inside i rules.args = good_args n inside i

pub good_inside : (n : ℕ) → InsideGood n (below n)
unfolding below
good_inside zero k e r = absurd (omega (arith, e))
good_inside (suc n) k e r =
    let same : n ≡ k = omega (arith, e) in
    subst (λ (m : ℕ). Good (below (suc n) r) (rule r) m) same (good_rule_with n (below n) (good_inside n) r)

-- n more constructs may be open
pub good_rule : (n : ℕ) (r : Rule) → Good (read_rule n r) (rule r) n
good_rule n r = good_rule_with n (below n) (good_inside n) r
