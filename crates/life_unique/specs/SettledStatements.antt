-- Statements, settled.
use Rattle.std.specs.Prelude.{option_map}
use Rattle.life_tree.specs.declared.stmt.BlockItem.{BlockItem, roll-BlockItem}
use Rattle.life_tree.specs.declared.stmt.PlainStmt.{PlainStmt, roll-PlainStmt}
use Rattle.life_tree.specs.declared.stmt.Stmt.{Stmt, roll-Stmt}
use Rattle.life_tree.specs.declared.stmt.Block.{Block, roll-Block}
use Rattle.life_tree.specs.declared.stmt.Branch.{Branch, roll-Branch}
use Rattle.life_tree.specs.declared.stmt.Else.{Else, roll-Else}
use Rattle.life_tree.specs.declared.stmt.ElseIf.{ElseIf, roll-ElseIf}
use Rattle.life_tree.specs.declared.stmt.For.{For, roll-For}
use Rattle.life_tree.specs.declared.stmt.ForStart.{ForStart}
use Rattle.life_tree.specs.declared.stmt.ForStart.TheVariants as for_start
use Rattle.life_tree.specs.declared.stmt.If.{If, roll-If}
use Rattle.life_tree.specs.declared.stmt.PrintItem.{PrintItem}
use Rattle.life_tree.specs.declared.stmt.PrintItem.TheVariants as print_item
use Rattle.life_tree.specs.declared.stmt.PrintPart.{PrintPart}
use Rattle.life_tree.specs.declared.stmt.RangeFor.{RangeFor, roll-RangeFor}
use Rattle.life_tree.specs.declared.stmt.BlockItem.TheFolds.{fold-BlockItem, fold-PlainStmt, fold-Stmt, fold-Block, fold-Branch, fold-Else, fold-ElseIf, fold-For, fold-If, fold-RangeFor}
use Rattle.life_tree.specs.declared.stmt.BlockItem.TheOpen as open_stmt
use Rattle.life_unique.specs.SettledDeclarations.{settled_declaration, settled_declared_type}
use Rattle.life_unique.specs.SettledExpressions.{settled_additive, settled_expr}
use Rattle.life_unique.specs.SettledSimples.{settled_simple}
use Rattle.life_unique.specs.Standing.{box_of, list_of, settled_box, settled_list}

-- ---- what isn't a statement itself

abbrev pub settled_print_item : PrintItem → PrintItem
settled_print_item (print_item.Value value) = print_item.Value (settled_additive value)
settled_print_item (print_item.EndLine name) = print_item.EndLine name

abbrev pub settled_print_part : PrintPart → PrintPart
settled_print_part part = record { place = part.place; item = settled_print_item part.item }

abbrev pub settled_start : ForStart → ForStart
settled_start (for_start.Declaration d) = for_start.Declaration (box_of settled_declaration d)
settled_start (for_start.Simple s) = for_start.Simple (box_of settled_simple s)

-- ---- one layer, of whatever parts

abbrev pub bare_item : {A B C D E F G H I J : Type 0} → open_stmt.BlockItem-F A B C D E F G H I J → open_stmt.BlockItem-F A B C D E F G H I J
bare_item (open_stmt.Declare declaration semicolon) = open_stmt.Declare (box_of settled_declaration declaration) semicolon
bare_item (open_stmt.Stmt s) = open_stmt.Stmt s

abbrev pub bare_plain : {A B C D E F G H I J : Type 0} → open_stmt.PlainStmt-F A B C D E F G H I J → open_stmt.PlainStmt-F A B C D E F G H I J
bare_plain (open_stmt.Simple s semicolon) = open_stmt.Simple (box_of settled_simple s) semicolon
bare_plain (open_stmt.While keyword opening condition closing body) =
    open_stmt.While keyword opening (box_of settled_expr condition) closing (settled_box body)
bare_plain (open_stmt.For loop) = open_stmt.For (settled_box loop)
bare_plain (open_stmt.RangeFor loop) = open_stmt.RangeFor (settled_box loop)
bare_plain (open_stmt.Return keyword value semicolon) = open_stmt.Return keyword (option_map (box_of settled_expr) value) semicolon
bare_plain (open_stmt.Print name parts semicolon) = open_stmt.Print name (list_of settled_print_part parts) semicolon
bare_plain (open_stmt.Assert keyword opening condition closing semicolon) =
    open_stmt.Assert keyword opening (box_of settled_expr condition) closing semicolon
bare_plain s = s

abbrev pub bare_stmt : {A B C D E F G H I J : Type 0} → open_stmt.Stmt-F A B C D E F G H I J → open_stmt.Stmt-F A B C D E F G H I J
bare_stmt (open_stmt.If i) = open_stmt.If (settled_box i)
bare_stmt (open_stmt.Plain s) = open_stmt.Plain s

abbrev pub bare_block : {A B C D E F G H I J : Type 0} → open_stmt.Block-F A B C D E F G H I J → open_stmt.Block-F A B C D E F G H I J
bare_block b = record b { items = settled_list b.items }

abbrev pub bare_branch : {A B C D E F G H I J : Type 0} → open_stmt.Branch-F A B C D E F G H I J → open_stmt.Branch-F A B C D E F G H I J
bare_branch b = record b { condition = box_of settled_expr b.condition; body = settled_box b.body }

abbrev pub bare_else : {A B C D E F G H I J : Type 0} → open_stmt.Else-F A B C D E F G H I J → open_stmt.Else-F A B C D E F G H I J
bare_else e = record e { body = settled_box e.body }

abbrev pub bare_for : {A B C D E F G H I J : Type 0} → open_stmt.For-F A B C D E F G H I J → open_stmt.For-F A B C D E F G H I J
bare_for f = record f {
  start = option_map settled_start f.start;
  condition = option_map (box_of settled_expr) f.condition;
  step = option_map (box_of settled_simple) f.step;
  body = settled_box f.body;
}

abbrev pub bare_if : {A B C D E F G H I J : Type 0} → open_stmt.If-F A B C D E F G H I J → open_stmt.If-F A B C D E F G H I J
bare_if i = record i { more = settled_list i.more }

abbrev pub bare_range_for : {A B C D E F G H I J : Type 0} → open_stmt.RangeFor-F A B C D E F G H I J → open_stmt.RangeFor-F A B C D E F G H I J
bare_range_for f = record f { ty = settled_declared_type f.ty; range = box_of settled_expr f.range; body = settled_box f.body }

-- ---- one layer of a whole

abbrev pub Opened-BlockItem : Type 0
Opened-BlockItem = open_stmt.BlockItem-F BlockItem PlainStmt Stmt Block Branch Else ElseIf For If RangeFor

abbrev pub Opened-PlainStmt : Type 0
Opened-PlainStmt = open_stmt.PlainStmt-F BlockItem PlainStmt Stmt Block Branch Else ElseIf For If RangeFor

abbrev pub Opened-Stmt : Type 0
Opened-Stmt = open_stmt.Stmt-F BlockItem PlainStmt Stmt Block Branch Else ElseIf For If RangeFor

abbrev pub Opened-Block : Type 0
Opened-Block = open_stmt.Block-F BlockItem PlainStmt Stmt Block Branch Else ElseIf For If RangeFor

abbrev pub Opened-Branch : Type 0
Opened-Branch = open_stmt.Branch-F BlockItem PlainStmt Stmt Block Branch Else ElseIf For If RangeFor

abbrev pub Opened-Else : Type 0
Opened-Else = open_stmt.Else-F BlockItem PlainStmt Stmt Block Branch Else ElseIf For If RangeFor

abbrev pub Opened-ElseIf : Type 0
Opened-ElseIf = open_stmt.ElseIf-F BlockItem PlainStmt Stmt Block Branch Else ElseIf For If RangeFor

abbrev pub Opened-For : Type 0
Opened-For = open_stmt.For-F BlockItem PlainStmt Stmt Block Branch Else ElseIf For If RangeFor

abbrev pub Opened-If : Type 0
Opened-If = open_stmt.If-F BlockItem PlainStmt Stmt Block Branch Else ElseIf For If RangeFor

abbrev pub Opened-RangeFor : Type 0
Opened-RangeFor = open_stmt.RangeFor-F BlockItem PlainStmt Stmt Block Branch Else ElseIf For If RangeFor

-- ---- .. of parts that are settled

abbrev pub kept_item : Opened-BlockItem → BlockItem
kept_item l = roll-BlockItem (bare_item l)

abbrev pub kept_plain : Opened-PlainStmt → PlainStmt
kept_plain l = roll-PlainStmt (bare_plain l)

abbrev pub kept_stmt : Opened-Stmt → Stmt
kept_stmt l = roll-Stmt (bare_stmt l)

abbrev pub kept_block : Opened-Block → Block
kept_block l = roll-Block (bare_block l)

abbrev pub kept_branch : Opened-Branch → Branch
kept_branch l = roll-Branch (bare_branch l)

abbrev pub kept_else : Opened-Else → Else
kept_else l = roll-Else (bare_else l)

abbrev pub kept_for : Opened-For → For
kept_for l = roll-For (bare_for l)

abbrev pub kept_if : Opened-If → If
kept_if l = roll-If (bare_if l)

abbrev pub kept_range_for : Opened-RangeFor → RangeFor
kept_range_for l = roll-RangeFor (bare_range_for l)

-- ---- the whole

abbrev pub settled_item : BlockItem → BlockItem
settled_item =
    fold-BlockItem BlockItem PlainStmt Stmt Block Branch Else ElseIf For If RangeFor
    kept_item kept_plain kept_stmt kept_block kept_branch kept_else roll-ElseIf kept_for kept_if kept_range_for

abbrev pub settled_plain : PlainStmt → PlainStmt
settled_plain =
    fold-PlainStmt BlockItem PlainStmt Stmt Block Branch Else ElseIf For If RangeFor
    kept_item kept_plain kept_stmt kept_block kept_branch kept_else roll-ElseIf kept_for kept_if kept_range_for

abbrev pub settled_stmt : Stmt → Stmt
settled_stmt =
    fold-Stmt BlockItem PlainStmt Stmt Block Branch Else ElseIf For If RangeFor
    kept_item kept_plain kept_stmt kept_block kept_branch kept_else roll-ElseIf kept_for kept_if kept_range_for

abbrev pub settled_block : Block → Block
settled_block =
    fold-Block BlockItem PlainStmt Stmt Block Branch Else ElseIf For If RangeFor
    kept_item kept_plain kept_stmt kept_block kept_branch kept_else roll-ElseIf kept_for kept_if kept_range_for

abbrev pub settled_branch : Branch → Branch
settled_branch =
    fold-Branch BlockItem PlainStmt Stmt Block Branch Else ElseIf For If RangeFor
    kept_item kept_plain kept_stmt kept_block kept_branch kept_else roll-ElseIf kept_for kept_if kept_range_for

abbrev pub settled_else : Else → Else
settled_else =
    fold-Else BlockItem PlainStmt Stmt Block Branch Else ElseIf For If RangeFor
    kept_item kept_plain kept_stmt kept_block kept_branch kept_else roll-ElseIf kept_for kept_if kept_range_for

abbrev pub settled_else_if : ElseIf → ElseIf
settled_else_if =
    fold-ElseIf BlockItem PlainStmt Stmt Block Branch Else ElseIf For If RangeFor
    kept_item kept_plain kept_stmt kept_block kept_branch kept_else roll-ElseIf kept_for kept_if kept_range_for

abbrev pub settled_for : For → For
settled_for =
    fold-For BlockItem PlainStmt Stmt Block Branch Else ElseIf For If RangeFor
    kept_item kept_plain kept_stmt kept_block kept_branch kept_else roll-ElseIf kept_for kept_if kept_range_for

abbrev pub settled_if : If → If
settled_if =
    fold-If BlockItem PlainStmt Stmt Block Branch Else ElseIf For If RangeFor
    kept_item kept_plain kept_stmt kept_block kept_branch kept_else roll-ElseIf kept_for kept_if kept_range_for

abbrev pub settled_range_for : RangeFor → RangeFor
settled_range_for =
    fold-RangeFor BlockItem PlainStmt Stmt Block Branch Else ElseIf For If RangeFor
    kept_item kept_plain kept_stmt kept_block kept_branch kept_else roll-ElseIf kept_for kept_if kept_range_for
