-- Layers of statements whose parts are seen as trees, or settled.
use Rattle.std.proofs.Common.{◌≡◌}
use Rattle.life_unique.proofs.Lists.{Both}
use Rattle.life_tree.specs.Tree.{Tree}
use Rattle.life_tree.specs.declared.stmt.BlockItem.{BlockItem, roll-BlockItem}
use Rattle.life_tree.specs.declared.stmt.PlainStmt.{PlainStmt, roll-PlainStmt}
use Rattle.life_tree.specs.declared.stmt.Stmt.{Stmt, roll-Stmt}
use Rattle.life_tree.specs.declared.stmt.Block.{Block, roll-Block}
use Rattle.life_tree.specs.declared.stmt.Branch.{Branch, roll-Branch}
use Rattle.life_tree.specs.declared.stmt.Else.{Else, roll-Else}
use Rattle.life_tree.specs.declared.stmt.ElseIf.{ElseIf, roll-ElseIf}
use Rattle.life_tree.specs.declared.stmt.For.{For, roll-For}
use Rattle.life_tree.specs.declared.stmt.If.{If, roll-If}
use Rattle.life_tree.specs.declared.stmt.RangeFor.{RangeFor, roll-RangeFor}
use Rattle.life_tree.specs.declared.stmt.BlockItem.TheFolds.{fold-roll-BlockItem, fold-roll-PlainStmt, fold-roll-Stmt, fold-roll-Block, fold-roll-Branch, fold-roll-Else, fold-roll-ElseIf, fold-roll-For, fold-roll-If, fold-roll-RangeFor}
use Rattle.life_tree.specs.Views.{block_item_step, plain_step, stmt_step, block_step, branch_step, else_step, else_if_step, for_step, if_step, range_for_step}
use Rattle.life_unique.specs.SettledStatements.{kept_item, kept_plain, kept_stmt, kept_block, kept_branch, kept_else, kept_for, kept_if, kept_range_for}
use Rattle.life_tree.specs.declared.stmt.BlockItem.TheFolds.{map-BlockItem, map-PlainStmt, map-Stmt, map-Block, map-Branch, map-Else, map-ElseIf, map-For, map-If, map-RangeFor}
use Rattle.life_tree.specs.declared.stmt.BlockItem.TheOpen as open_stmt
use Rattle.life_tree.specs.Views.{BranchView, ElseIfView, block_item_tree, plain_stmt_tree, stmt_tree, block_tree, branch_view, else_tree, else_if_view, for_tree, if_tree, range_for_tree}
use Rattle.life_unique.specs.SettledStatements.{Opened-BlockItem, Opened-PlainStmt, Opened-Stmt, Opened-Block, Opened-Branch, Opened-Else, Opened-ElseIf, Opened-For, Opened-If, Opened-RangeFor}
use Rattle.life_unique.specs.SettledStatements.{settled_item, settled_plain, settled_stmt, settled_block, settled_branch, settled_else, settled_else_if, settled_for, settled_if, settled_range_for}

-- what is claimed of each type
pub record Claims : Type 1 where
  pub item : BlockItem → Type 0
  pub plain : PlainStmt → Type 0
  pub stmt : Stmt → Type 0
  pub block : Block → Type 0
  pub branch : Branch → Type 0
  pub else_ : Else → Type 0
  pub else_if : ElseIf → Type 0
  pub for_ : For → Type 0
  pub if_ : If → Type 0
  pub range_for : RangeFor → Type 0

-- ---- a layer of parts of which that holds, and without it

abbrev pub Layer-BlockItem : Claims → Type 0
Layer-BlockItem c = open_stmt.BlockItem-F
    (Both c.item) (Both c.plain) (Both c.stmt) (Both c.block) (Both c.branch) (Both c.else_) (Both c.else_if) (Both c.for_) (Both c.if_) (Both c.range_for)

abbrev pub parts_item : (c : Claims) → Layer-BlockItem c → Opened-BlockItem
parts_item c = map-BlockItem
    (Both c.item) (Both c.plain) (Both c.stmt) (Both c.block) (Both c.branch) (Both c.else_) (Both c.else_if) (Both c.for_) (Both c.if_) (Both c.range_for)
    BlockItem PlainStmt Stmt Block Branch Else ElseIf For If RangeFor
    (λ z. z.0) (λ z. z.0) (λ z. z.0) (λ z. z.0) (λ z. z.0) (λ z. z.0) (λ z. z.0) (λ z. z.0) (λ z. z.0) (λ z. z.0)

abbrev pub Layer-PlainStmt : Claims → Type 0
Layer-PlainStmt c = open_stmt.PlainStmt-F
    (Both c.item) (Both c.plain) (Both c.stmt) (Both c.block) (Both c.branch) (Both c.else_) (Both c.else_if) (Both c.for_) (Both c.if_) (Both c.range_for)

abbrev pub parts_plain : (c : Claims) → Layer-PlainStmt c → Opened-PlainStmt
parts_plain c = map-PlainStmt
    (Both c.item) (Both c.plain) (Both c.stmt) (Both c.block) (Both c.branch) (Both c.else_) (Both c.else_if) (Both c.for_) (Both c.if_) (Both c.range_for)
    BlockItem PlainStmt Stmt Block Branch Else ElseIf For If RangeFor
    (λ z. z.0) (λ z. z.0) (λ z. z.0) (λ z. z.0) (λ z. z.0) (λ z. z.0) (λ z. z.0) (λ z. z.0) (λ z. z.0) (λ z. z.0)

abbrev pub Layer-Stmt : Claims → Type 0
Layer-Stmt c = open_stmt.Stmt-F
    (Both c.item) (Both c.plain) (Both c.stmt) (Both c.block) (Both c.branch) (Both c.else_) (Both c.else_if) (Both c.for_) (Both c.if_) (Both c.range_for)

abbrev pub parts_stmt : (c : Claims) → Layer-Stmt c → Opened-Stmt
parts_stmt c = map-Stmt
    (Both c.item) (Both c.plain) (Both c.stmt) (Both c.block) (Both c.branch) (Both c.else_) (Both c.else_if) (Both c.for_) (Both c.if_) (Both c.range_for)
    BlockItem PlainStmt Stmt Block Branch Else ElseIf For If RangeFor
    (λ z. z.0) (λ z. z.0) (λ z. z.0) (λ z. z.0) (λ z. z.0) (λ z. z.0) (λ z. z.0) (λ z. z.0) (λ z. z.0) (λ z. z.0)

abbrev pub Layer-Block : Claims → Type 0
Layer-Block c = open_stmt.Block-F
    (Both c.item) (Both c.plain) (Both c.stmt) (Both c.block) (Both c.branch) (Both c.else_) (Both c.else_if) (Both c.for_) (Both c.if_) (Both c.range_for)

abbrev pub parts_block : (c : Claims) → Layer-Block c → Opened-Block
parts_block c = map-Block
    (Both c.item) (Both c.plain) (Both c.stmt) (Both c.block) (Both c.branch) (Both c.else_) (Both c.else_if) (Both c.for_) (Both c.if_) (Both c.range_for)
    BlockItem PlainStmt Stmt Block Branch Else ElseIf For If RangeFor
    (λ z. z.0) (λ z. z.0) (λ z. z.0) (λ z. z.0) (λ z. z.0) (λ z. z.0) (λ z. z.0) (λ z. z.0) (λ z. z.0) (λ z. z.0)

abbrev pub Layer-Branch : Claims → Type 0
Layer-Branch c = open_stmt.Branch-F
    (Both c.item) (Both c.plain) (Both c.stmt) (Both c.block) (Both c.branch) (Both c.else_) (Both c.else_if) (Both c.for_) (Both c.if_) (Both c.range_for)

abbrev pub parts_branch : (c : Claims) → Layer-Branch c → Opened-Branch
parts_branch c = map-Branch
    (Both c.item) (Both c.plain) (Both c.stmt) (Both c.block) (Both c.branch) (Both c.else_) (Both c.else_if) (Both c.for_) (Both c.if_) (Both c.range_for)
    BlockItem PlainStmt Stmt Block Branch Else ElseIf For If RangeFor
    (λ z. z.0) (λ z. z.0) (λ z. z.0) (λ z. z.0) (λ z. z.0) (λ z. z.0) (λ z. z.0) (λ z. z.0) (λ z. z.0) (λ z. z.0)

abbrev pub Layer-Else : Claims → Type 0
Layer-Else c = open_stmt.Else-F
    (Both c.item) (Both c.plain) (Both c.stmt) (Both c.block) (Both c.branch) (Both c.else_) (Both c.else_if) (Both c.for_) (Both c.if_) (Both c.range_for)

abbrev pub parts_else : (c : Claims) → Layer-Else c → Opened-Else
parts_else c = map-Else
    (Both c.item) (Both c.plain) (Both c.stmt) (Both c.block) (Both c.branch) (Both c.else_) (Both c.else_if) (Both c.for_) (Both c.if_) (Both c.range_for)
    BlockItem PlainStmt Stmt Block Branch Else ElseIf For If RangeFor
    (λ z. z.0) (λ z. z.0) (λ z. z.0) (λ z. z.0) (λ z. z.0) (λ z. z.0) (λ z. z.0) (λ z. z.0) (λ z. z.0) (λ z. z.0)

abbrev pub Layer-ElseIf : Claims → Type 0
Layer-ElseIf c = open_stmt.ElseIf-F
    (Both c.item) (Both c.plain) (Both c.stmt) (Both c.block) (Both c.branch) (Both c.else_) (Both c.else_if) (Both c.for_) (Both c.if_) (Both c.range_for)

abbrev pub parts_else_if : (c : Claims) → Layer-ElseIf c → Opened-ElseIf
parts_else_if c = map-ElseIf
    (Both c.item) (Both c.plain) (Both c.stmt) (Both c.block) (Both c.branch) (Both c.else_) (Both c.else_if) (Both c.for_) (Both c.if_) (Both c.range_for)
    BlockItem PlainStmt Stmt Block Branch Else ElseIf For If RangeFor
    (λ z. z.0) (λ z. z.0) (λ z. z.0) (λ z. z.0) (λ z. z.0) (λ z. z.0) (λ z. z.0) (λ z. z.0) (λ z. z.0) (λ z. z.0)

abbrev pub Layer-For : Claims → Type 0
Layer-For c = open_stmt.For-F
    (Both c.item) (Both c.plain) (Both c.stmt) (Both c.block) (Both c.branch) (Both c.else_) (Both c.else_if) (Both c.for_) (Both c.if_) (Both c.range_for)

abbrev pub parts_for : (c : Claims) → Layer-For c → Opened-For
parts_for c = map-For
    (Both c.item) (Both c.plain) (Both c.stmt) (Both c.block) (Both c.branch) (Both c.else_) (Both c.else_if) (Both c.for_) (Both c.if_) (Both c.range_for)
    BlockItem PlainStmt Stmt Block Branch Else ElseIf For If RangeFor
    (λ z. z.0) (λ z. z.0) (λ z. z.0) (λ z. z.0) (λ z. z.0) (λ z. z.0) (λ z. z.0) (λ z. z.0) (λ z. z.0) (λ z. z.0)

abbrev pub Layer-If : Claims → Type 0
Layer-If c = open_stmt.If-F
    (Both c.item) (Both c.plain) (Both c.stmt) (Both c.block) (Both c.branch) (Both c.else_) (Both c.else_if) (Both c.for_) (Both c.if_) (Both c.range_for)

abbrev pub parts_if : (c : Claims) → Layer-If c → Opened-If
parts_if c = map-If
    (Both c.item) (Both c.plain) (Both c.stmt) (Both c.block) (Both c.branch) (Both c.else_) (Both c.else_if) (Both c.for_) (Both c.if_) (Both c.range_for)
    BlockItem PlainStmt Stmt Block Branch Else ElseIf For If RangeFor
    (λ z. z.0) (λ z. z.0) (λ z. z.0) (λ z. z.0) (λ z. z.0) (λ z. z.0) (λ z. z.0) (λ z. z.0) (λ z. z.0) (λ z. z.0)

abbrev pub Layer-RangeFor : Claims → Type 0
Layer-RangeFor c = open_stmt.RangeFor-F
    (Both c.item) (Both c.plain) (Both c.stmt) (Both c.block) (Both c.branch) (Both c.else_) (Both c.else_if) (Both c.for_) (Both c.if_) (Both c.range_for)

abbrev pub parts_range_for : (c : Claims) → Layer-RangeFor c → Opened-RangeFor
parts_range_for c = map-RangeFor
    (Both c.item) (Both c.plain) (Both c.stmt) (Both c.block) (Both c.branch) (Both c.else_) (Both c.else_if) (Both c.for_) (Both c.if_) (Both c.range_for)
    BlockItem PlainStmt Stmt Block Branch Else ElseIf For If RangeFor
    (λ z. z.0) (λ z. z.0) (λ z. z.0) (λ z. z.0) (λ z. z.0) (λ z. z.0) (λ z. z.0) (λ z. z.0) (λ z. z.0) (λ z. z.0)

-- ---- a layer's parts as trees

abbrev pub trees_item : Opened-BlockItem → open_stmt.BlockItem-F Tree Tree Tree Tree BranchView Tree ElseIfView Tree Tree Tree
trees_item = map-BlockItem BlockItem PlainStmt Stmt Block Branch Else ElseIf For If RangeFor
    Tree Tree Tree Tree BranchView Tree ElseIfView Tree Tree Tree
    block_item_tree plain_stmt_tree stmt_tree block_tree branch_view else_tree else_if_view for_tree if_tree range_for_tree

abbrev pub trees_plain : Opened-PlainStmt → open_stmt.PlainStmt-F Tree Tree Tree Tree BranchView Tree ElseIfView Tree Tree Tree
trees_plain = map-PlainStmt BlockItem PlainStmt Stmt Block Branch Else ElseIf For If RangeFor
    Tree Tree Tree Tree BranchView Tree ElseIfView Tree Tree Tree
    block_item_tree plain_stmt_tree stmt_tree block_tree branch_view else_tree else_if_view for_tree if_tree range_for_tree

abbrev pub trees_stmt : Opened-Stmt → open_stmt.Stmt-F Tree Tree Tree Tree BranchView Tree ElseIfView Tree Tree Tree
trees_stmt = map-Stmt BlockItem PlainStmt Stmt Block Branch Else ElseIf For If RangeFor
    Tree Tree Tree Tree BranchView Tree ElseIfView Tree Tree Tree
    block_item_tree plain_stmt_tree stmt_tree block_tree branch_view else_tree else_if_view for_tree if_tree range_for_tree

abbrev pub trees_block : Opened-Block → open_stmt.Block-F Tree Tree Tree Tree BranchView Tree ElseIfView Tree Tree Tree
trees_block = map-Block BlockItem PlainStmt Stmt Block Branch Else ElseIf For If RangeFor
    Tree Tree Tree Tree BranchView Tree ElseIfView Tree Tree Tree
    block_item_tree plain_stmt_tree stmt_tree block_tree branch_view else_tree else_if_view for_tree if_tree range_for_tree

abbrev pub trees_branch : Opened-Branch → open_stmt.Branch-F Tree Tree Tree Tree BranchView Tree ElseIfView Tree Tree Tree
trees_branch = map-Branch BlockItem PlainStmt Stmt Block Branch Else ElseIf For If RangeFor
    Tree Tree Tree Tree BranchView Tree ElseIfView Tree Tree Tree
    block_item_tree plain_stmt_tree stmt_tree block_tree branch_view else_tree else_if_view for_tree if_tree range_for_tree

abbrev pub trees_else : Opened-Else → open_stmt.Else-F Tree Tree Tree Tree BranchView Tree ElseIfView Tree Tree Tree
trees_else = map-Else BlockItem PlainStmt Stmt Block Branch Else ElseIf For If RangeFor
    Tree Tree Tree Tree BranchView Tree ElseIfView Tree Tree Tree
    block_item_tree plain_stmt_tree stmt_tree block_tree branch_view else_tree else_if_view for_tree if_tree range_for_tree

abbrev pub trees_else_if : Opened-ElseIf → open_stmt.ElseIf-F Tree Tree Tree Tree BranchView Tree ElseIfView Tree Tree Tree
trees_else_if = map-ElseIf BlockItem PlainStmt Stmt Block Branch Else ElseIf For If RangeFor
    Tree Tree Tree Tree BranchView Tree ElseIfView Tree Tree Tree
    block_item_tree plain_stmt_tree stmt_tree block_tree branch_view else_tree else_if_view for_tree if_tree range_for_tree

abbrev pub trees_for : Opened-For → open_stmt.For-F Tree Tree Tree Tree BranchView Tree ElseIfView Tree Tree Tree
trees_for = map-For BlockItem PlainStmt Stmt Block Branch Else ElseIf For If RangeFor
    Tree Tree Tree Tree BranchView Tree ElseIfView Tree Tree Tree
    block_item_tree plain_stmt_tree stmt_tree block_tree branch_view else_tree else_if_view for_tree if_tree range_for_tree

abbrev pub trees_if : Opened-If → open_stmt.If-F Tree Tree Tree Tree BranchView Tree ElseIfView Tree Tree Tree
trees_if = map-If BlockItem PlainStmt Stmt Block Branch Else ElseIf For If RangeFor
    Tree Tree Tree Tree BranchView Tree ElseIfView Tree Tree Tree
    block_item_tree plain_stmt_tree stmt_tree block_tree branch_view else_tree else_if_view for_tree if_tree range_for_tree

abbrev pub trees_range_for : Opened-RangeFor → open_stmt.RangeFor-F Tree Tree Tree Tree BranchView Tree ElseIfView Tree Tree Tree
trees_range_for = map-RangeFor BlockItem PlainStmt Stmt Block Branch Else ElseIf For If RangeFor
    Tree Tree Tree Tree BranchView Tree ElseIfView Tree Tree Tree
    block_item_tree plain_stmt_tree stmt_tree block_tree branch_view else_tree else_if_view for_tree if_tree range_for_tree

-- ---- a layer's parts, settled

abbrev pub settle_item : Opened-BlockItem → Opened-BlockItem
settle_item = map-BlockItem BlockItem PlainStmt Stmt Block Branch Else ElseIf For If RangeFor
    BlockItem PlainStmt Stmt Block Branch Else ElseIf For If RangeFor
    settled_item settled_plain settled_stmt settled_block settled_branch settled_else settled_else_if settled_for settled_if settled_range_for

abbrev pub settle_plain : Opened-PlainStmt → Opened-PlainStmt
settle_plain = map-PlainStmt BlockItem PlainStmt Stmt Block Branch Else ElseIf For If RangeFor
    BlockItem PlainStmt Stmt Block Branch Else ElseIf For If RangeFor
    settled_item settled_plain settled_stmt settled_block settled_branch settled_else settled_else_if settled_for settled_if settled_range_for

abbrev pub settle_stmt : Opened-Stmt → Opened-Stmt
settle_stmt = map-Stmt BlockItem PlainStmt Stmt Block Branch Else ElseIf For If RangeFor
    BlockItem PlainStmt Stmt Block Branch Else ElseIf For If RangeFor
    settled_item settled_plain settled_stmt settled_block settled_branch settled_else settled_else_if settled_for settled_if settled_range_for

abbrev pub settle_block : Opened-Block → Opened-Block
settle_block = map-Block BlockItem PlainStmt Stmt Block Branch Else ElseIf For If RangeFor
    BlockItem PlainStmt Stmt Block Branch Else ElseIf For If RangeFor
    settled_item settled_plain settled_stmt settled_block settled_branch settled_else settled_else_if settled_for settled_if settled_range_for

abbrev pub settle_branch : Opened-Branch → Opened-Branch
settle_branch = map-Branch BlockItem PlainStmt Stmt Block Branch Else ElseIf For If RangeFor
    BlockItem PlainStmt Stmt Block Branch Else ElseIf For If RangeFor
    settled_item settled_plain settled_stmt settled_block settled_branch settled_else settled_else_if settled_for settled_if settled_range_for

abbrev pub settle_else : Opened-Else → Opened-Else
settle_else = map-Else BlockItem PlainStmt Stmt Block Branch Else ElseIf For If RangeFor
    BlockItem PlainStmt Stmt Block Branch Else ElseIf For If RangeFor
    settled_item settled_plain settled_stmt settled_block settled_branch settled_else settled_else_if settled_for settled_if settled_range_for

abbrev pub settle_else_if : Opened-ElseIf → Opened-ElseIf
settle_else_if = map-ElseIf BlockItem PlainStmt Stmt Block Branch Else ElseIf For If RangeFor
    BlockItem PlainStmt Stmt Block Branch Else ElseIf For If RangeFor
    settled_item settled_plain settled_stmt settled_block settled_branch settled_else settled_else_if settled_for settled_if settled_range_for

abbrev pub settle_for : Opened-For → Opened-For
settle_for = map-For BlockItem PlainStmt Stmt Block Branch Else ElseIf For If RangeFor
    BlockItem PlainStmt Stmt Block Branch Else ElseIf For If RangeFor
    settled_item settled_plain settled_stmt settled_block settled_branch settled_else settled_else_if settled_for settled_if settled_range_for

abbrev pub settle_if : Opened-If → Opened-If
settle_if = map-If BlockItem PlainStmt Stmt Block Branch Else ElseIf For If RangeFor
    BlockItem PlainStmt Stmt Block Branch Else ElseIf For If RangeFor
    settled_item settled_plain settled_stmt settled_block settled_branch settled_else settled_else_if settled_for settled_if settled_range_for

abbrev pub settle_range_for : Opened-RangeFor → Opened-RangeFor
settle_range_for = map-RangeFor BlockItem PlainStmt Stmt Block Branch Else ElseIf For If RangeFor
    BlockItem PlainStmt Stmt Block Branch Else ElseIf For If RangeFor
    settled_item settled_plain settled_stmt settled_block settled_branch settled_else settled_else_if settled_for settled_if settled_range_for

-- ---- what is made of a layer, as a tree and settled

pub tree_of_item : (l : Opened-BlockItem) → block_item_tree (roll-BlockItem l) ≡ block_item_step (trees_item l)
tree_of_item = fold-roll-BlockItem Tree Tree Tree Tree BranchView Tree ElseIfView Tree Tree Tree
    block_item_step plain_step stmt_step block_step branch_step else_step else_if_step for_step if_step range_for_step

pub tree_of_plain : (l : Opened-PlainStmt) → plain_stmt_tree (roll-PlainStmt l) ≡ plain_step (trees_plain l)
tree_of_plain = fold-roll-PlainStmt Tree Tree Tree Tree BranchView Tree ElseIfView Tree Tree Tree
    block_item_step plain_step stmt_step block_step branch_step else_step else_if_step for_step if_step range_for_step

pub tree_of_stmt : (l : Opened-Stmt) → stmt_tree (roll-Stmt l) ≡ stmt_step (trees_stmt l)
tree_of_stmt = fold-roll-Stmt Tree Tree Tree Tree BranchView Tree ElseIfView Tree Tree Tree
    block_item_step plain_step stmt_step block_step branch_step else_step else_if_step for_step if_step range_for_step

pub tree_of_block : (l : Opened-Block) → block_tree (roll-Block l) ≡ block_step (trees_block l)
tree_of_block = fold-roll-Block Tree Tree Tree Tree BranchView Tree ElseIfView Tree Tree Tree
    block_item_step plain_step stmt_step block_step branch_step else_step else_if_step for_step if_step range_for_step

pub tree_of_branch : (l : Opened-Branch) → branch_view (roll-Branch l) ≡ branch_step (trees_branch l)
tree_of_branch = fold-roll-Branch Tree Tree Tree Tree BranchView Tree ElseIfView Tree Tree Tree
    block_item_step plain_step stmt_step block_step branch_step else_step else_if_step for_step if_step range_for_step

pub tree_of_else : (l : Opened-Else) → else_tree (roll-Else l) ≡ else_step (trees_else l)
tree_of_else = fold-roll-Else Tree Tree Tree Tree BranchView Tree ElseIfView Tree Tree Tree
    block_item_step plain_step stmt_step block_step branch_step else_step else_if_step for_step if_step range_for_step

pub tree_of_else_if : (l : Opened-ElseIf) → else_if_view (roll-ElseIf l) ≡ else_if_step (trees_else_if l)
tree_of_else_if = fold-roll-ElseIf Tree Tree Tree Tree BranchView Tree ElseIfView Tree Tree Tree
    block_item_step plain_step stmt_step block_step branch_step else_step else_if_step for_step if_step range_for_step

pub tree_of_for : (l : Opened-For) → for_tree (roll-For l) ≡ for_step (trees_for l)
tree_of_for = fold-roll-For Tree Tree Tree Tree BranchView Tree ElseIfView Tree Tree Tree
    block_item_step plain_step stmt_step block_step branch_step else_step else_if_step for_step if_step range_for_step

pub tree_of_if : (l : Opened-If) → if_tree (roll-If l) ≡ if_step (trees_if l)
tree_of_if = fold-roll-If Tree Tree Tree Tree BranchView Tree ElseIfView Tree Tree Tree
    block_item_step plain_step stmt_step block_step branch_step else_step else_if_step for_step if_step range_for_step

pub tree_of_range_for : (l : Opened-RangeFor) → range_for_tree (roll-RangeFor l) ≡ range_for_step (trees_range_for l)
tree_of_range_for = fold-roll-RangeFor Tree Tree Tree Tree BranchView Tree ElseIfView Tree Tree Tree
    block_item_step plain_step stmt_step block_step branch_step else_step else_if_step for_step if_step range_for_step

pub settled_of_item : (l : Opened-BlockItem) → settled_item (roll-BlockItem l) ≡ kept_item (settle_item l)
settled_of_item = fold-roll-BlockItem BlockItem PlainStmt Stmt Block Branch Else ElseIf For If RangeFor
    kept_item kept_plain kept_stmt kept_block kept_branch kept_else roll-ElseIf kept_for kept_if kept_range_for

pub settled_of_plain : (l : Opened-PlainStmt) → settled_plain (roll-PlainStmt l) ≡ kept_plain (settle_plain l)
settled_of_plain = fold-roll-PlainStmt BlockItem PlainStmt Stmt Block Branch Else ElseIf For If RangeFor
    kept_item kept_plain kept_stmt kept_block kept_branch kept_else roll-ElseIf kept_for kept_if kept_range_for

pub settled_of_stmt : (l : Opened-Stmt) → settled_stmt (roll-Stmt l) ≡ kept_stmt (settle_stmt l)
settled_of_stmt = fold-roll-Stmt BlockItem PlainStmt Stmt Block Branch Else ElseIf For If RangeFor
    kept_item kept_plain kept_stmt kept_block kept_branch kept_else roll-ElseIf kept_for kept_if kept_range_for

pub settled_of_block : (l : Opened-Block) → settled_block (roll-Block l) ≡ kept_block (settle_block l)
settled_of_block = fold-roll-Block BlockItem PlainStmt Stmt Block Branch Else ElseIf For If RangeFor
    kept_item kept_plain kept_stmt kept_block kept_branch kept_else roll-ElseIf kept_for kept_if kept_range_for

pub settled_of_branch : (l : Opened-Branch) → settled_branch (roll-Branch l) ≡ kept_branch (settle_branch l)
settled_of_branch = fold-roll-Branch BlockItem PlainStmt Stmt Block Branch Else ElseIf For If RangeFor
    kept_item kept_plain kept_stmt kept_block kept_branch kept_else roll-ElseIf kept_for kept_if kept_range_for

pub settled_of_else : (l : Opened-Else) → settled_else (roll-Else l) ≡ kept_else (settle_else l)
settled_of_else = fold-roll-Else BlockItem PlainStmt Stmt Block Branch Else ElseIf For If RangeFor
    kept_item kept_plain kept_stmt kept_block kept_branch kept_else roll-ElseIf kept_for kept_if kept_range_for

pub settled_of_else_if : (l : Opened-ElseIf) → settled_else_if (roll-ElseIf l) ≡ roll-ElseIf (settle_else_if l)
settled_of_else_if = fold-roll-ElseIf BlockItem PlainStmt Stmt Block Branch Else ElseIf For If RangeFor
    kept_item kept_plain kept_stmt kept_block kept_branch kept_else roll-ElseIf kept_for kept_if kept_range_for

pub settled_of_for : (l : Opened-For) → settled_for (roll-For l) ≡ kept_for (settle_for l)
settled_of_for = fold-roll-For BlockItem PlainStmt Stmt Block Branch Else ElseIf For If RangeFor
    kept_item kept_plain kept_stmt kept_block kept_branch kept_else roll-ElseIf kept_for kept_if kept_range_for

pub settled_of_if : (l : Opened-If) → settled_if (roll-If l) ≡ kept_if (settle_if l)
settled_of_if = fold-roll-If BlockItem PlainStmt Stmt Block Branch Else ElseIf For If RangeFor
    kept_item kept_plain kept_stmt kept_block kept_branch kept_else roll-ElseIf kept_for kept_if kept_range_for

pub settled_of_range_for : (l : Opened-RangeFor) → settled_range_for (roll-RangeFor l) ≡ kept_range_for (settle_range_for l)
settled_of_range_for = fold-roll-RangeFor BlockItem PlainStmt Stmt Block Branch Else ElseIf For If RangeFor
    kept_item kept_plain kept_stmt kept_block kept_branch kept_else roll-ElseIf kept_for kept_if kept_range_for
