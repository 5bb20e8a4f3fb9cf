-- The readers of definitions, and so of all rules, look at no token but the next.
use Rattle.std.proofs.Common.{ℕ, zero, suc, true, false, refl}
use Rattle.life_expr.specs.Readers.{Readers, word_with, attribute_with, parameter_parts, parameter_with, function_parts, function_with, member_with, structure_with, definition_parts, definition_with, program_with, rule_with, below, read_rule}
use Rattle.life_expr.specs.Heads.{rule_may_be_empty}
use Rattle.life_parse.proofs.Looks.{Law}
use Rattle.life_parse.proofs.LooksExprs.{Law-argument, Law-base, Law-unqualified, Law-type, Law-args, Law-list, Law-primary, Law-part, Law-postfix, Law-unary, Law-term, Law-sum, Law-order, Law-equal, Law-both, Law-expr}
use Rattle.life_parse.proofs.LooksFor.{Law-for_rest, Law-for_clauses, Law-for_head}
use Rattle.life_parse.proofs.LooksForms.{Laws, Law-any, Law-no_reader, Law-derived}
use Rattle.life_parse.proofs.LooksOn.{Looks-deep}
use Rattle.life_parse.proofs.LooksPrint.{Law-item, Law-print_part, Law-sentence}
use Rattle.life_parse.proofs.LooksSimple.{Law-condition, Law-initial, Law-initializer, Law-declared_type, Law-declaration, Law-target, Law-simple}
use Rattle.life_parse.proofs.LooksStmts.{Law-block, Law-plain, Law-branches, Law-statement, Law-else, Law-block_item}
use Rattle.life_tree.specs.Rules as rules
use Rattle.life_tree.specs.Rules.{Rule}

module _ (n : ℕ) (inside : Readers) (i : Laws inside) where
  Law-word : Law false (word_with n inside)
  unfolding word_with
  Law-word = Law-derived n inside _ i (λ r. Law-no_reader _) rules.word refl

  Law-attribute : Law false (attribute_with n inside)
  unfolding attribute_with
  Law-attribute = Law-derived n inside _ i (λ r. Law-no_reader _) rules.attribute refl

  parameter_laws : Laws (parameter_parts n inside)
  parameter_laws rules.attribute = Law-attribute
  parameter_laws rules.type_name = Law-type n inside i
  parameter_laws _ = Law-no_reader _

  Law-parameter : Law false (parameter_with n inside)
  unfolding parameter_with
  Law-parameter = Law-derived n inside (parameter_parts n inside) i parameter_laws rules.parameter refl

  function_laws : Laws (function_parts n inside)
  function_laws rules.attribute = Law-attribute
  function_laws rules.type_name = Law-type n inside i
  function_laws rules.block = Law-block n inside i
  function_laws _ = Law-no_reader _

  Law-function : Law false (function_with n inside)
  unfolding function_with
  Law-function = Law-derived n inside (function_parts n inside) i function_laws rules.function refl

  Law-member : Law false (member_with n inside)
  unfolding member_with
  Law-member = Law-derived n inside _ i (λ r. Law-any (rule_may_be_empty r) _ (Law-type n inside i)) rules.member refl

  Law-structure : Law false (structure_with n inside)
  unfolding structure_with
  Law-structure = Law-derived n inside _ i (λ r. Law-no_reader _) rules.structure refl

  definition_laws : Laws (definition_parts n inside)
  definition_laws rules.structure = Law-structure
  definition_laws rules.function = Law-function
  definition_laws _ = Law-no_reader _

  Law-definition : Law false (definition_with n inside)
  unfolding definition_with
  Law-definition = Law-derived n inside (definition_parts n inside) i definition_laws rules.definition refl

  Law-program : Law true (program_with n inside)
  unfolding program_with
  Law-program = Law-derived n inside _ i (λ r. Law-any (rule_may_be_empty r) _ Law-definition) rules.program refl

  pub rule_law : Laws (rule_with n inside)
  unfolding rule_with
  rule_law rules.program = Law-program
  rule_law rules.definition = Law-definition
  rule_law rules.structure = Law-structure
  rule_law rules.member = Law-member
  rule_law rules.function = Law-function
  rule_law rules.parameter = Law-parameter
  rule_law rules.attribute = Law-attribute
  rule_law rules.word = Law-word
  rule_law rules.type_name = Law-type n inside i
  rule_law rules.unqualified = Law-unqualified n inside i
  rule_law rules.base = Law-base n inside i
  rule_law rules.argument = Law-argument n inside i
  rule_law rules.block = Law-block n inside i
  rule_law rules.block_item = Law-block_item n inside i
  rule_law rules.statement = Law-statement n inside i
  rule_law rules.plain = Law-plain n inside i
  rule_law rules.branches = Law-branches n inside i
  rule_law rules.else_part = Law-else n inside i
  rule_law rules.condition = Law-condition n inside i
  rule_law rules.for_head = Law-for_head n inside i
  rule_law rules.for_clauses = Law-for_clauses n inside i
  rule_law rules.for_rest = Law-for_rest n inside i
  rule_law rules.sentence = Law-sentence n inside i
  rule_law rules.print_part = Law-print_part n inside i
  rule_law rules.item = Law-item n inside i
  rule_law rules.declaration = Law-declaration n inside i
  rule_law rules.declared_type = Law-declared_type n inside i
  rule_law rules.initializer = Law-initializer n inside i
  rule_law rules.initial = Law-initial n inside i
  rule_law rules.list = Law-list n inside i
  rule_law rules.simple = Law-simple n inside i
  rule_law rules.target = Law-target n inside i
  rule_law rules.expr = Law-expr n inside i
  rule_law rules.both = Law-both n inside i
  rule_law rules.equal = Law-equal n inside i
  rule_law rules.order = Law-order n inside i
  rule_law rules.sum = Law-sum n inside i
  rule_law rules.term = Law-term n inside i
  rule_law rules.unary = Law-unary n inside i
  rule_law rules.postfix = Law-postfix n inside i
  rule_law rules.part = Law-part n inside i
  rule_law rules.primary = Law-primary n inside i
  rule_law rules.args = Law-args n inside i

-- ---- and so those inside a construct do

pub below_law : (n : ℕ) → Laws (below n)
unfolding below
below_law zero r = record { looks = Looks-deep; shrinks = λ h. record { shrinks = λ ts x rest e. absurd cc } }
below_law (suc n) r = rule_law n (below n) (below_law n) r

pub read_law : (n : ℕ) (r : Rule) → Law (rule_may_be_empty r) (read_rule n r)
read_law n r = rule_law n (below n) (below_law n) r
