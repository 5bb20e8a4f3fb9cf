-- Statements are seen by what they are made of.
use Rattle.std.proofs.Common.{◌≡◌, ℕ, Box, Option, Some, None, Vec, Global, map, sym, ap, ◌∙◌}
use Rattle.life_types.specs.declared.place.Place.{Place}
use Rattle.life_tree.specs.declared.identifier.Identifier.{Identifier}
use Rattle.life_typed.specs.TypedForm.{typed_view}
use Rattle.life_typed.specs.TypedStatement as typed
use Rattle.life_typed.specs.TypedStatement.{StmtForm, block_item_step, block_item_view, block_step, block_view, branch_step, branch_view, stmt_forms, stmt_step, stmt_view}
use Rattle.life_typed.specs.declared.typed_expr.TypedExpr.{TypedExpr}
use Rattle.life_typed.specs.declared.typed_stmt.TypedBlock.{roll-TypedBlock}
use Rattle.life_typed.specs.declared.typed_stmt.TypedBlockItem.TheFolds.{fold-roll-TypedBlock, fold-roll-TypedBranch, fold-roll-TypedStmt}
use Rattle.life_typed.specs.declared.typed_stmt.TypedBlockItem.TheOpen as open_stmt
use Rattle.life_typed.specs.declared.typed_stmt.TypedBlockItem.{TypedBlockItem}
use Rattle.life_typed.specs.declared.typed_stmt.TypedBranch.{TypedBranch, roll-TypedBranch}
use Rattle.life_typed.specs.declared.typed_stmt.TypedForHead.{TypedForHead}
use Rattle.life_typed.specs.declared.typed_stmt.TypedStmt.{TypedStmt}
use Rattle.life_typed.specs.declared.typed_stmt.TypedStmt.TheVariants.{For, If, RangeFor, rolls-For, rolls-If, rolls-RangeFor}
use Rattle.life_type_stmt.specs.StatementViews.{optional_stmt_view}

pub seen_block : (items : Vec TypedBlockItem Global) (closing : Place) → block_view (roll-TypedBlock (record { items = items; closing = closing })) ≡ typed.block (stmt_forms (map block_item_view items.items)) closing
seen_block items closing = fold-roll-TypedBlock StmtForm StmtForm StmtForm StmtForm block_item_step stmt_step block_step branch_step (record { items = items; closing = closing })

-- its body was put into a box
pub seen_branch : (keyword : Place) (condition : TypedExpr) (closing : Place) (body : Box TypedStmt Global) (s : TypedStmt) → body.value ≡ s
    → branch_view (roll-TypedBranch (record { keyword = keyword; condition = condition; closing = closing; body = body })) ≡ typed.branch keyword (typed_view condition) closing (stmt_view s)
seen_branch keyword condition closing body s same =
    fold-roll-TypedBranch StmtForm StmtForm StmtForm StmtForm block_item_step stmt_step block_step branch_step (record { keyword = keyword; condition = condition; closing = closing; body = body })
    ∙ ap (λ (x : TypedStmt). typed.branch keyword (typed_view condition) closing (stmt_view x)) same

-- .. and what stands behind the last `else`
pub seen_if : (branches : Vec TypedBranch Global) (last : Option (Box TypedStmt Global)) → stmt_view (If branches last) ≡ typed.branching (stmt_forms (map branch_view branches.items)) (optional_stmt_view last)
seen_if branches None = ap stmt_view (sym (rolls-If branches None)) ∙ fold-roll-TypedStmt StmtForm StmtForm StmtForm StmtForm block_item_step stmt_step block_step branch_step (open_stmt.If branches None)
seen_if branches (Some s) = ap stmt_view (sym (rolls-If branches (Some s))) ∙ fold-roll-TypedStmt StmtForm StmtForm StmtForm StmtForm block_item_step stmt_step block_step branch_step (open_stmt.If branches (Some s))

-- .. and its head
pub seen_for : (keyword : Place) (head : Box TypedForHead Global) (closing : Place) (body : Box TypedStmt Global) (h : TypedForHead) → head.value ≡ h
    → stmt_view (For keyword head closing body) ≡ typed.for_of keyword h closing (stmt_view body.value)
seen_for keyword head closing body h same =
    ap stmt_view (sym (rolls-For keyword head closing body))
    ∙ fold-roll-TypedStmt StmtForm StmtForm StmtForm StmtForm block_item_step stmt_step block_step branch_step (open_stmt.For keyword head closing body)
    ∙ ap (λ (x : TypedForHead). typed.for_of keyword x closing (stmt_view body.value)) same

pub seen_range_for : (keyword : Place) (local : ℕ) (name : Identifier) (colon : Place) (range : TypedExpr) (closing : Place) (body : Box TypedStmt Global)
    → stmt_view (RangeFor keyword local name colon range closing body) ≡ typed.range_loop keyword local name colon (typed_view range) closing (stmt_view body.value)
seen_range_for keyword local name colon range closing body =
    ap stmt_view (sym (rolls-RangeFor keyword local name colon range closing body))
    ∙ fold-roll-TypedStmt StmtForm StmtForm StmtForm StmtForm block_item_step stmt_step block_step branch_step (open_stmt.RangeFor keyword local name colon range closing body)
