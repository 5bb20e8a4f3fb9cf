-- Whether control can't run past a statement's end by what its text says: a return ends, a block ends if its last statement does, and an `if` with `else` if all branches do.
use Rattle.std.specs.Prelude.{Bool, true, false, ◌&&◌, List, [], ◌∷◌, Option, Some, None}
use Rattle.life_tree.specs.declared.stmt.BlockItem.TheFolds.{fold-BlockItem, fold-PlainStmt, fold-Stmt, fold-Block, fold-Branch, fold-Else, fold-ElseIf, fold-If}
use Rattle.life_tree.specs.declared.stmt.BlockItem.TheOpen as open_stmt
use Rattle.life_tree.specs.declared.stmt.BlockItem.{BlockItem}
use Rattle.life_tree.specs.declared.stmt.PlainStmt.{PlainStmt}
use Rattle.life_tree.specs.declared.stmt.Stmt.{Stmt}
use Rattle.life_tree.specs.declared.stmt.Block.{Block}
use Rattle.life_tree.specs.declared.stmt.Branch.{Branch}
use Rattle.life_tree.specs.declared.stmt.Else.{Else}
use Rattle.life_tree.specs.declared.stmt.ElseIf.{ElseIf}
use Rattle.life_tree.specs.declared.stmt.If.{If}

-- the last of these, or what stands before them
abbrev pub last_of : Bool → List Bool → Bool
last_of before [] = before
last_of before (e ∷ es) = last_of e es

-- there is no last statement in an empty block
abbrev pub last_ends : List Bool → Bool
last_ends es = last_of false es

abbrev pub all_end : List Bool → Bool
all_end [] = true
all_end (e ∷ es) = e && all_end es

-- without `else` control may run past
abbrev pub else_ends : Option Bool → Bool
else_ends None = false
else_ends (Some e) = e

abbrev pub item_step : open_stmt.BlockItem-F Bool Bool Bool Bool Bool Bool Bool Bool Bool Bool → Bool
item_step (open_stmt.Declare d semicolon) = false
item_step (open_stmt.Stmt s) = s

abbrev pub plain_step : open_stmt.PlainStmt-F Bool Bool Bool Bool Bool Bool Bool Bool Bool Bool → Bool
plain_step (open_stmt.Block b) = b
plain_step (open_stmt.Return keyword value semicolon) = true
plain_step (open_stmt.Empty place) = false
plain_step (open_stmt.Simple s semicolon) = false
plain_step (open_stmt.While keyword opening condition closing body) = false
plain_step (open_stmt.For f) = false
plain_step (open_stmt.RangeFor f) = false
plain_step (open_stmt.Break keyword semicolon) = false
plain_step (open_stmt.Continue keyword semicolon) = false
plain_step (open_stmt.Print name parts semicolon) = false
plain_step (open_stmt.Assert keyword opening condition closing semicolon) = false

abbrev pub stmt_step : open_stmt.Stmt-F Bool Bool Bool Bool Bool Bool Bool Bool Bool Bool → Bool
stmt_step (open_stmt.If i) = i.value
stmt_step (open_stmt.Plain s) = s

abbrev pub block_step : open_stmt.Block-F Bool Bool Bool Bool Bool Bool Bool Bool Bool Bool → Bool
block_step b = last_ends b.items.items

abbrev pub branch_step : open_stmt.Branch-F Bool Bool Bool Bool Bool Bool Bool Bool Bool Bool → Bool
branch_step b = b.body.value

abbrev pub else_step : open_stmt.Else-F Bool Bool Bool Bool Bool Bool Bool Bool Bool Bool → Bool
else_step e = e.body.value

abbrev pub else_if_step : open_stmt.ElseIf-F Bool Bool Bool Bool Bool Bool Bool Bool Bool Bool → Bool
else_if_step e = e.branch

abbrev pub for_step : open_stmt.For-F Bool Bool Bool Bool Bool Bool Bool Bool Bool Bool → Bool
for_step f = false

abbrev pub if_step : open_stmt.If-F Bool Bool Bool Bool Bool Bool Bool Bool Bool Bool → Bool
if_step i = i.first && (all_end i.more.items && else_ends i.last)

abbrev pub range_for_step : open_stmt.RangeFor-F Bool Bool Bool Bool Bool Bool Bool Bool Bool Bool → Bool
range_for_step f = false

abbrev pub item_ends : BlockItem → Bool
item_ends =
    fold-BlockItem Bool Bool Bool Bool Bool Bool Bool Bool Bool Bool
    item_step plain_step stmt_step block_step branch_step else_step else_if_step for_step if_step range_for_step

abbrev pub plain_ends : PlainStmt → Bool
plain_ends =
    fold-PlainStmt Bool Bool Bool Bool Bool Bool Bool Bool Bool Bool
    item_step plain_step stmt_step block_step branch_step else_step else_if_step for_step if_step range_for_step

abbrev pub stmt_ends : Stmt → Bool
stmt_ends =
    fold-Stmt Bool Bool Bool Bool Bool Bool Bool Bool Bool Bool
    item_step plain_step stmt_step block_step branch_step else_step else_if_step for_step if_step range_for_step

abbrev pub block_ends : Block → Bool
block_ends =
    fold-Block Bool Bool Bool Bool Bool Bool Bool Bool Bool Bool
    item_step plain_step stmt_step block_step branch_step else_step else_if_step for_step if_step range_for_step

abbrev pub branch_ends : Branch → Bool
branch_ends =
    fold-Branch Bool Bool Bool Bool Bool Bool Bool Bool Bool Bool
    item_step plain_step stmt_step block_step branch_step else_step else_if_step for_step if_step range_for_step

abbrev pub else_part_ends : Else → Bool
else_part_ends =
    fold-Else Bool Bool Bool Bool Bool Bool Bool Bool Bool Bool
    item_step plain_step stmt_step block_step branch_step else_step else_if_step for_step if_step range_for_step

abbrev pub else_if_ends : ElseIf → Bool
else_if_ends =
    fold-ElseIf Bool Bool Bool Bool Bool Bool Bool Bool Bool Bool
    item_step plain_step stmt_step block_step branch_step else_step else_if_step for_step if_step range_for_step

abbrev pub if_ends : If → Bool
if_ends =
    fold-If Bool Bool Bool Bool Bool Bool Bool Bool Bool Bool
    item_step plain_step stmt_step block_step branch_step else_step else_if_step for_step if_step range_for_step
