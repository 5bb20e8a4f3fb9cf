-- Heads of loops and sentences are read part by part.
use Rattle.std.proofs.Common.{◌≡◌, ℕ, true, refl}
use Rattle.life_stmt.specs.Fronts.{mapped}
use Rattle.life_expr.specs.Readers.{Readers, begins_as, print_fronts, block_with, for_rest_with, sentence_with}
use Rattle.life_stmt.specs.Statements.{for_rest_by_parts, print_by_parts, optional_expr_with, optional_simple_with, print_list_with, block_by_parts, items_with}
use Rattle.life_tree.specs.Rules as rules
use Rattle.life_tree.specs.Tree.{node, Tokens}

pub for_rest_reads : (n : ℕ) (inside : Readers) (ts : Tokens) → for_rest_by_parts n inside ts ≡ for_rest_with n inside ts
unfolding for_rest_with optional_expr_with optional_simple_with
for_rest_reads n inside ts = refl

pub sentence_print : (n : ℕ) (inside : Readers) (ts : Tokens) → begins_as print_fronts ts ≡ true → sentence_with n inside ts ≡ mapped (λ t. node rules.sentence t) (print_by_parts n inside ts)
unfolding sentence_with print_list_with
sentence_print n inside ts h = rw h refl

pub block_reads : (n : ℕ) (inside : Readers) (ts : Tokens) → block_by_parts n inside ts ≡ block_with n inside ts
unfolding block_with items_with
block_reads n inside ts = refl
