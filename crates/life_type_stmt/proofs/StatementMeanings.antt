-- Each statement means what its parts mean, by its step.
use Rattle.std.proofs.Common.{◌≡◌, [], ◌∷◌, Option, None, Some, map, option_map, Ok, refl}
use Rattle.life_types.specs.Types.{Types}
use Rattle.life_tree.specs.declared.stmt.Block.{Block, fold_out-Block, out-Block}
use Rattle.life_tree.specs.declared.stmt.Branch.{Branch, fold_out-Branch, out-Branch}
use Rattle.life_tree.specs.declared.stmt.Else.{Else, fold_out-Else, out-Else}
use Rattle.life_tree.specs.declared.stmt.ElseIf.{ElseIf, fold_out-ElseIf, out-ElseIf}
use Rattle.life_tree.specs.declared.stmt.For.{For, fold_out-For, out-For}
use Rattle.life_tree.specs.declared.stmt.If.{If, fold_out-If, out-If}
use Rattle.life_tree.specs.declared.stmt.RangeFor.{RangeFor, fold_out-RangeFor, out-RangeFor}
use Rattle.life_typed.specs.TypedStatement as typed
use Rattle.life_typed.specs.TypedStatement.{stmt_forms}
use Rattle.life_names.specs.Checked.{◌>>=◌}
use Rattle.life_type_stmt.specs.Conditions.{condition, optional_condition}
use Rattle.life_names.specs.Environment.{Scope, forgotten}
use Rattle.life_type_stmt.specs.Ranges.{range_head}
use Rattle.life_type_stmt.specs.Simples.{optional_simple}
use Rattle.life_type_stmt.specs.StatementViews.{branches_part}
use Rattle.life_type_stmt.specs.Statements.{block_of, block_part, branch_part, else_if_part, else_part, for_part, for_start_part, if_part, in_loop, item_part, optional_part, plain_part, range_for_part, start_names, stmt_part}
use Rattle.life_type_stmt.specs.declared.around.Around.{Around}

pub block_made : (b : Block) (around : Around) (scope : Scope) (types : Types) → block_of b around scope types ≡ block_part (map item_part (out-Block b).items.items) (out-Block b).closing around scope types
unfolding block_of item_part
block_made b around scope types = rw fold_out-Block

pub branch_made : (b : Branch) (around : Around) (scope : Scope) (types : Types) → branch_part b around scope types
    ≡ condition (out-Branch b).condition.value scope types >>= (λ x. stmt_part (out-Branch b).body.value around scope x.1 >>= (λ y. Ok ((typed.branch (out-Branch b).keyword x.0 (out-Branch b).closing y.0.0, y.0.1), y.1)))
unfolding branch_part stmt_part
branch_made b around scope types = rw fold_out-Branch

pub else_made : (e : Else) (around : Around) (scope : Scope) (types : Types) → else_part e around scope types ≡ plain_part (out-Else e).body.value around scope types
unfolding else_part plain_part
else_made e around scope types = rw fold_out-Else

pub else_if_made : (e : ElseIf) (around : Around) (scope : Scope) (types : Types) → else_if_part e around scope types ≡ branch_part (out-ElseIf e).branch around scope types
unfolding else_if_part branch_part
else_if_made e around scope types = rw fold_out-ElseIf

if_made_by : (i : If) (last : Option Else) → (out-If i).last ≡ last → (around : Around) (scope : Scope) (types : Types) → if_part i around scope types
    ≡ branches_part i around scope types >>= (λ x. optional_part (option_map else_part (out-If i).last) around x.0.1 x.1 >>= (λ y. Ok ((typed.branching (stmt_forms x.0.0) y.0.0, y.0.1), y.1)))
unfolding if_part branch_part else_if_part else_part
if_made_by i None is around scope types = rw (fold_out-If, is) refl
if_made_by i (Some e) is around scope types = rw (fold_out-If, is) refl

pub if_made : (i : If) (around : Around) (scope : Scope) (types : Types) → if_part i around scope types
    ≡ branches_part i around scope types >>= (λ x. optional_part (option_map else_part (out-If i).last) around x.0.1 x.1 >>= (λ y. Ok ((typed.branching (stmt_forms x.0.0) y.0.0, y.0.1), y.1)))
if_made i around scope types = if_made_by i (out-If i).last refl around scope types

pub for_made : (f : For) (around : Around) (scope : Scope) (types : Types) → for_part f around scope types
    ≡ for_start_part (out-For f).start scope types >>= (λ x. optional_condition (out-For f).condition x.0.1 x.1 >>= (λ y. optional_simple (out-For f).step x.0.1 y.1 >>= (λ z.
    stmt_part (out-For f).body.value (in_loop around) x.0.1 z.1 >>= (λ w.
    Ok ((typed.for_loop (out-For f).keyword x.0.0 (out-For f).first_semicolon y.0 (out-For f).second_semicolon z.0 (out-For f).closing w.0.0, forgotten (start_names (out-For f).start) w.0.1), w.1)))))
unfolding for_part stmt_part
for_made f around scope types = rw fold_out-For

pub range_for_made : (f : RangeFor) (around : Around) (scope : Scope) (types : Types) → range_for_part f around scope types
    ≡ range_head (out-RangeFor f).ty (out-RangeFor f).name (out-RangeFor f).colon (out-RangeFor f).range.value scope types >>= (λ x. stmt_part (out-RangeFor f).body.value (in_loop around) x.0.1 x.1 >>= (λ y.
    Ok ((typed.range_loop (out-RangeFor f).keyword x.0.0.local (out-RangeFor f).name (out-RangeFor f).colon x.0.0.range (out-RangeFor f).closing y.0.0, forgotten ((out-RangeFor f).name.id ∷ []) y.0.1), y.1)))
unfolding range_for_part stmt_part
range_for_made f around scope types = rw fold_out-RangeFor
