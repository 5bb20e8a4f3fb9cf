-- A function is read part by part.
use Rattle.std.proofs.Common.{◌≡◌, ℕ, refl}
use Rattle.life_stmt.specs.Definitions.{function_by_parts, result_with, parameters_with, body_with}
use Rattle.life_tree.specs.Tree.{Tokens}
use Rattle.life_expr.specs.Readers.{Readers, function_with}

pub function_reads : (n : ℕ) (inside : Readers) (ts : Tokens) → function_by_parts n inside ts ≡ function_with n inside ts
unfolding function_with result_with parameters_with body_with
function_reads n inside ts = refl
