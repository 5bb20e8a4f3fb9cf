-- A fold over a statement that looks at no address, and at no list's room, sees no difference when the statement is settled.
-- For each type: what is claimed of it, a layer of parts of which it holds, and that it holds of what such a layer makes.
use Rattle.std.proofs.Common.{◌≡◌, List, [], ◌∷◌, Option, None, Some, map, refl, ap, sym, subst, ◌∙◌, Vec}
use Rattle.std.specs.declared.alloc.Global.{Global}
use Rattle.life_unique.proofs.Lists.{Both, same_settled}
use Rattle.life_tree.specs.declared.stmt.BlockItem.{BlockItem, roll-BlockItem}
use Rattle.life_tree.specs.declared.stmt.PlainStmt.{PlainStmt, roll-PlainStmt}
use Rattle.life_tree.specs.declared.stmt.Stmt.{Stmt, roll-Stmt}
use Rattle.life_tree.specs.declared.stmt.Block.{Block, roll-Block}
use Rattle.life_tree.specs.declared.stmt.Branch.{Branch, roll-Branch}
use Rattle.life_tree.specs.declared.stmt.Else.{Else, roll-Else}
use Rattle.life_tree.specs.declared.stmt.ElseIf.{ElseIf, roll-ElseIf}
use Rattle.life_tree.specs.declared.stmt.For.{For, roll-For}
use Rattle.life_tree.specs.declared.stmt.If.{If, roll-If}
use Rattle.life_tree.specs.declared.stmt.RangeFor.{RangeFor, roll-RangeFor}
use Rattle.life_tree.specs.declared.stmt.BlockItem.TheFolds.{fold-BlockItem, fold-PlainStmt, fold-Stmt, fold-Block, fold-Branch, fold-Else, fold-ElseIf, fold-For, fold-If, fold-RangeFor}
use Rattle.life_tree.specs.declared.stmt.BlockItem.TheFolds.{fold-roll-BlockItem, fold-roll-PlainStmt, fold-roll-Stmt, fold-roll-Block, fold-roll-Branch, fold-roll-Else, fold-roll-ElseIf, fold-roll-For, fold-roll-If, fold-roll-RangeFor}
use Rattle.life_tree.specs.declared.stmt.BlockItem.TheFolds.{ind-Block}
use Rattle.life_tree.specs.declared.stmt.BlockItem.TheFolds.{map-BlockItem, map-PlainStmt, map-Stmt, map-Block, map-Branch, map-Else, map-ElseIf, map-For, map-If, map-RangeFor}
use Rattle.life_tree.specs.declared.stmt.BlockItem.TheOpen as open_stmt
use Rattle.life_unique.proofs.StatementLayers.{settle_item, settle_plain, settle_stmt, settle_block, settle_branch, settle_else, settle_else_if, settle_for, settle_if, settle_range_for}
use Rattle.life_unique.proofs.StatementLayers.{Claims, Layer-BlockItem, Layer-PlainStmt, Layer-Stmt, Layer-Block, Layer-Branch, Layer-Else, Layer-ElseIf, Layer-For, Layer-If, Layer-RangeFor}
use Rattle.life_unique.proofs.StatementLayers.{parts_item, parts_plain, parts_stmt, parts_block, parts_branch, parts_else, parts_else_if, parts_for, parts_if, parts_range_for}
use Rattle.life_unique.proofs.StatementLayers.{settled_of_item, settled_of_plain, settled_of_stmt, settled_of_block, settled_of_branch, settled_of_else, settled_of_else_if, settled_of_for, settled_of_if, settled_of_range_for}
use Rattle.life_unique.specs.SettledStatements.{Opened-BlockItem, Opened-PlainStmt, Opened-Stmt, Opened-Block, Opened-Branch, Opened-Else, Opened-ElseIf, Opened-For, Opened-If, Opened-RangeFor}
use Rattle.life_unique.specs.SettledStatements.{bare_item, bare_plain, bare_stmt, bare_block, bare_branch, bare_else, bare_for, bare_if, bare_range_for}
use Rattle.life_unique.specs.SettledStatements.{settled_item, settled_plain, settled_stmt, settled_block, settled_branch, settled_else, settled_else_if, settled_for, settled_if, settled_range_for}

module _ (A B C D E F G H I J : Type 0)
    (item_step : open_stmt.BlockItem-F A B C D E F G H I J → A)
    (plain_step : open_stmt.PlainStmt-F A B C D E F G H I J → B)
    (stmt_step : open_stmt.Stmt-F A B C D E F G H I J → C)
    (block_step : open_stmt.Block-F A B C D E F G H I J → D)
    (branch_step : open_stmt.Branch-F A B C D E F G H I J → E)
    (else_step : open_stmt.Else-F A B C D E F G H I J → F)
    (else_if_step : open_stmt.ElseIf-F A B C D E F G H I J → G)
    (for_step : open_stmt.For-F A B C D E F G H I J → H)
    (if_step : open_stmt.If-F A B C D E F G H I J → I)
    (range_for_step : open_stmt.RangeFor-F A B C D E F G H I J → J)
    (item_blind : (l : open_stmt.BlockItem-F A B C D E F G H I J) → item_step (bare_item l) ≡ item_step l)
    (plain_blind : (l : open_stmt.PlainStmt-F A B C D E F G H I J) → plain_step (bare_plain l) ≡ plain_step l)
    (stmt_blind : (l : open_stmt.Stmt-F A B C D E F G H I J) → stmt_step (bare_stmt l) ≡ stmt_step l)
    (block_blind : (l : open_stmt.Block-F A B C D E F G H I J) → block_step (bare_block l) ≡ block_step l)
    (branch_blind : (l : open_stmt.Branch-F A B C D E F G H I J) → branch_step (bare_branch l) ≡ branch_step l)
    (else_blind : (l : open_stmt.Else-F A B C D E F G H I J) → else_step (bare_else l) ≡ else_step l)
    (for_blind : (l : open_stmt.For-F A B C D E F G H I J) → for_step (bare_for l) ≡ for_step l)
    (if_blind : (l : open_stmt.If-F A B C D E F G H I J) → if_step (bare_if l) ≡ if_step l)
    (range_for_blind : (l : open_stmt.RangeFor-F A B C D E F G H I J) → range_for_step (bare_range_for l) ≡ range_for_step l) where
  abbrev of_item : BlockItem → A
  of_item = fold-BlockItem A B C D E F G H I J
      item_step plain_step stmt_step block_step branch_step else_step else_if_step for_step if_step range_for_step

  abbrev of_plain : PlainStmt → B
  of_plain = fold-PlainStmt A B C D E F G H I J
      item_step plain_step stmt_step block_step branch_step else_step else_if_step for_step if_step range_for_step

  abbrev of_stmt : Stmt → C
  of_stmt = fold-Stmt A B C D E F G H I J
      item_step plain_step stmt_step block_step branch_step else_step else_if_step for_step if_step range_for_step

  abbrev of_block : Block → D
  of_block = fold-Block A B C D E F G H I J
      item_step plain_step stmt_step block_step branch_step else_step else_if_step for_step if_step range_for_step

  abbrev of_branch : Branch → E
  of_branch = fold-Branch A B C D E F G H I J
      item_step plain_step stmt_step block_step branch_step else_step else_if_step for_step if_step range_for_step

  abbrev of_else : Else → F
  of_else = fold-Else A B C D E F G H I J
      item_step plain_step stmt_step block_step branch_step else_step else_if_step for_step if_step range_for_step

  abbrev of_else_if : ElseIf → G
  of_else_if = fold-ElseIf A B C D E F G H I J
      item_step plain_step stmt_step block_step branch_step else_step else_if_step for_step if_step range_for_step

  abbrev of_for : For → H
  of_for = fold-For A B C D E F G H I J
      item_step plain_step stmt_step block_step branch_step else_step else_if_step for_step if_step range_for_step

  abbrev of_if : If → I
  of_if = fold-If A B C D E F G H I J
      item_step plain_step stmt_step block_step branch_step else_step else_if_step for_step if_step range_for_step

  abbrev of_range_for : RangeFor → J
  of_range_for = fold-RangeFor A B C D E F G H I J
      item_step plain_step stmt_step block_step branch_step else_step else_if_step for_step if_step range_for_step

  abbrev Seen-BlockItem : BlockItem → Type 0
  Seen-BlockItem x = of_item (settled_item x) ≡ of_item x

  abbrev Seen-PlainStmt : PlainStmt → Type 0
  Seen-PlainStmt x = of_plain (settled_plain x) ≡ of_plain x

  abbrev Seen-Stmt : Stmt → Type 0
  Seen-Stmt x = of_stmt (settled_stmt x) ≡ of_stmt x

  abbrev Seen-Block : Block → Type 0
  Seen-Block x = of_block (settled_block x) ≡ of_block x

  abbrev Seen-Branch : Branch → Type 0
  Seen-Branch x = of_branch (settled_branch x) ≡ of_branch x

  abbrev Seen-Else : Else → Type 0
  Seen-Else x = of_else (settled_else x) ≡ of_else x

  abbrev Seen-ElseIf : ElseIf → Type 0
  Seen-ElseIf x = of_else_if (settled_else_if x) ≡ of_else_if x

  abbrev Seen-For : For → Type 0
  Seen-For x = of_for (settled_for x) ≡ of_for x

  abbrev Seen-If : If → Type 0
  Seen-If x = of_if (settled_if x) ≡ of_if x

  abbrev Seen-RangeFor : RangeFor → Type 0
  Seen-RangeFor x = of_range_for (settled_range_for x) ≡ of_range_for x

  abbrev claims : Claims
  claims = record {
    item = Seen-BlockItem;
    plain = Seen-PlainStmt;
    stmt = Seen-Stmt;
    block = Seen-Block;
    branch = Seen-Branch;
    else_ = Seen-Else;
    else_if = Seen-ElseIf;
    for_ = Seen-For;
    if_ = Seen-If;
    range_for = Seen-RangeFor;
  }

  -- what is seen of a layer's parts
  abbrev of_parts_item : Opened-BlockItem → open_stmt.BlockItem-F A B C D E F G H I J
  of_parts_item = map-BlockItem BlockItem PlainStmt Stmt Block Branch Else ElseIf For If RangeFor
      A B C D E F G H I J
      of_item of_plain of_stmt of_block of_branch of_else of_else_if of_for of_if of_range_for

  abbrev of_parts_plain : Opened-PlainStmt → open_stmt.PlainStmt-F A B C D E F G H I J
  of_parts_plain = map-PlainStmt BlockItem PlainStmt Stmt Block Branch Else ElseIf For If RangeFor
      A B C D E F G H I J
      of_item of_plain of_stmt of_block of_branch of_else of_else_if of_for of_if of_range_for

  abbrev of_parts_stmt : Opened-Stmt → open_stmt.Stmt-F A B C D E F G H I J
  of_parts_stmt = map-Stmt BlockItem PlainStmt Stmt Block Branch Else ElseIf For If RangeFor
      A B C D E F G H I J
      of_item of_plain of_stmt of_block of_branch of_else of_else_if of_for of_if of_range_for

  abbrev of_parts_block : Opened-Block → open_stmt.Block-F A B C D E F G H I J
  of_parts_block = map-Block BlockItem PlainStmt Stmt Block Branch Else ElseIf For If RangeFor
      A B C D E F G H I J
      of_item of_plain of_stmt of_block of_branch of_else of_else_if of_for of_if of_range_for

  abbrev of_parts_branch : Opened-Branch → open_stmt.Branch-F A B C D E F G H I J
  of_parts_branch = map-Branch BlockItem PlainStmt Stmt Block Branch Else ElseIf For If RangeFor
      A B C D E F G H I J
      of_item of_plain of_stmt of_block of_branch of_else of_else_if of_for of_if of_range_for

  abbrev of_parts_else : Opened-Else → open_stmt.Else-F A B C D E F G H I J
  of_parts_else = map-Else BlockItem PlainStmt Stmt Block Branch Else ElseIf For If RangeFor
      A B C D E F G H I J
      of_item of_plain of_stmt of_block of_branch of_else of_else_if of_for of_if of_range_for

  abbrev of_parts_else_if : Opened-ElseIf → open_stmt.ElseIf-F A B C D E F G H I J
  of_parts_else_if = map-ElseIf BlockItem PlainStmt Stmt Block Branch Else ElseIf For If RangeFor
      A B C D E F G H I J
      of_item of_plain of_stmt of_block of_branch of_else of_else_if of_for of_if of_range_for

  abbrev of_parts_for : Opened-For → open_stmt.For-F A B C D E F G H I J
  of_parts_for = map-For BlockItem PlainStmt Stmt Block Branch Else ElseIf For If RangeFor
      A B C D E F G H I J
      of_item of_plain of_stmt of_block of_branch of_else of_else_if of_for of_if of_range_for

  abbrev of_parts_if : Opened-If → open_stmt.If-F A B C D E F G H I J
  of_parts_if = map-If BlockItem PlainStmt Stmt Block Branch Else ElseIf For If RangeFor
      A B C D E F G H I J
      of_item of_plain of_stmt of_block of_branch of_else of_else_if of_for of_if of_range_for

  abbrev of_parts_range_for : Opened-RangeFor → open_stmt.RangeFor-F A B C D E F G H I J
  of_parts_range_for = map-RangeFor BlockItem PlainStmt Stmt Block Branch Else ElseIf For If RangeFor
      A B C D E F G H I J
      of_item of_plain of_stmt of_block of_branch of_else of_else_if of_for of_if of_range_for

  -- .. and of what is made of it
  item_rolled : (l : Opened-BlockItem) → of_item (roll-BlockItem l) ≡ item_step (of_parts_item l)
  item_rolled = fold-roll-BlockItem A B C D E F G H I J
      item_step plain_step stmt_step block_step branch_step else_step else_if_step for_step if_step range_for_step

  plain_rolled : (l : Opened-PlainStmt) → of_plain (roll-PlainStmt l) ≡ plain_step (of_parts_plain l)
  plain_rolled = fold-roll-PlainStmt A B C D E F G H I J
      item_step plain_step stmt_step block_step branch_step else_step else_if_step for_step if_step range_for_step

  stmt_rolled : (l : Opened-Stmt) → of_stmt (roll-Stmt l) ≡ stmt_step (of_parts_stmt l)
  stmt_rolled = fold-roll-Stmt A B C D E F G H I J
      item_step plain_step stmt_step block_step branch_step else_step else_if_step for_step if_step range_for_step

  block_rolled : (l : Opened-Block) → of_block (roll-Block l) ≡ block_step (of_parts_block l)
  block_rolled = fold-roll-Block A B C D E F G H I J
      item_step plain_step stmt_step block_step branch_step else_step else_if_step for_step if_step range_for_step

  branch_rolled : (l : Opened-Branch) → of_branch (roll-Branch l) ≡ branch_step (of_parts_branch l)
  branch_rolled = fold-roll-Branch A B C D E F G H I J
      item_step plain_step stmt_step block_step branch_step else_step else_if_step for_step if_step range_for_step

  else_rolled : (l : Opened-Else) → of_else (roll-Else l) ≡ else_step (of_parts_else l)
  else_rolled = fold-roll-Else A B C D E F G H I J
      item_step plain_step stmt_step block_step branch_step else_step else_if_step for_step if_step range_for_step

  else_if_rolled : (l : Opened-ElseIf) → of_else_if (roll-ElseIf l) ≡ else_if_step (of_parts_else_if l)
  else_if_rolled = fold-roll-ElseIf A B C D E F G H I J
      item_step plain_step stmt_step block_step branch_step else_step else_if_step for_step if_step range_for_step

  for_rolled : (l : Opened-For) → of_for (roll-For l) ≡ for_step (of_parts_for l)
  for_rolled = fold-roll-For A B C D E F G H I J
      item_step plain_step stmt_step block_step branch_step else_step else_if_step for_step if_step range_for_step

  if_rolled : (l : Opened-If) → of_if (roll-If l) ≡ if_step (of_parts_if l)
  if_rolled = fold-roll-If A B C D E F G H I J
      item_step plain_step stmt_step block_step branch_step else_step else_if_step for_step if_step range_for_step

  range_for_rolled : (l : Opened-RangeFor) → of_range_for (roll-RangeFor l) ≡ range_for_step (of_parts_range_for l)
  range_for_rolled = fold-roll-RangeFor A B C D E F G H I J
      item_step plain_step stmt_step block_step branch_step else_step else_if_step for_step if_step range_for_step

  -- lists of parts
  item_row : (xs : List (Both Seen-BlockItem)) → map of_item (map settled_item (map (λ z. z.0) xs)) ≡ map of_item (map (λ z. z.0) xs)
  item_row [] = refl
  item_row (x ∷ xs) = λ i. x.1 i ∷ item_row xs i

  else_if_row : (xs : List (Both Seen-ElseIf)) → map of_else_if (map settled_else_if (map (λ z. z.0) xs)) ≡ map of_else_if (map (λ z. z.0) xs)
  else_if_row [] = refl
  else_if_row (x ∷ xs) = λ i. x.1 i ∷ else_if_row xs i

  -- with an `else`, and without
  if_by : (first : (Both Seen-Branch)) (more : Vec (Both Seen-ElseIf) Global) (last : Option (Both Seen-Else))
      → bare_if (of_parts_if (bare_if (settle_if (parts_if claims (record { first = first; more = more; last = last })))))
      ≡ bare_if (of_parts_if (parts_if claims (record { first = first; more = more; last = last })))
  if_by first more None = λ i. record {
    first = first.1 i;
    more = same_settled (of_parts_if (bare_if (settle_if (parts_if claims (record { first = first; more = more; last = None }))))).more
        (of_parts_if (parts_if claims (record { first = first; more = more; last = None }))).more (else_if_row more.items) i;
    last = None;
  }
  if_by first more (Some e) = λ i. record {
    first = first.1 i;
    more = same_settled (of_parts_if (bare_if (settle_if (parts_if claims (record { first = first; more = more; last = None }))))).more
        (of_parts_if (parts_if claims (record { first = first; more = more; last = None }))).more (else_if_row more.items) i;
    last = Some (e.1 i);
  }

  -- .. are one, over parts that are seen as before
  item_layer : (l : Layer-BlockItem claims) → of_parts_item (settle_item (parts_item claims l)) ≡ of_parts_item (parts_item claims l)
  item_layer (open_stmt.Declare d semicolon) = refl
  item_layer (open_stmt.Stmt s) = λ i. open_stmt.Stmt (s.1 i)

  plain_layer : (l : Layer-PlainStmt claims) → of_parts_plain (settle_plain (parts_plain claims l)) ≡ of_parts_plain (parts_plain claims l)
  plain_layer (open_stmt.Block b) = λ i. open_stmt.Block (b.1 i)
  plain_layer (open_stmt.While keyword opening condition closing body) = λ i. open_stmt.While keyword opening condition closing (record { ptr = body.ptr; alloc = body.alloc; value = body.value.1 i })
  plain_layer (open_stmt.For loop) = λ i. open_stmt.For (record { ptr = loop.ptr; alloc = loop.alloc; value = loop.value.1 i })
  plain_layer (open_stmt.RangeFor loop) = λ i. open_stmt.RangeFor (record { ptr = loop.ptr; alloc = loop.alloc; value = loop.value.1 i })
  plain_layer _ = refl

  stmt_layer : (l : Layer-Stmt claims) → of_parts_stmt (settle_stmt (parts_stmt claims l)) ≡ of_parts_stmt (parts_stmt claims l)
  stmt_layer (open_stmt.If b) = λ i. open_stmt.If (record { ptr = b.ptr; alloc = b.alloc; value = b.value.1 i })
  stmt_layer (open_stmt.Plain s) = λ i. open_stmt.Plain (s.1 i)

  block_layer : (l : Layer-Block claims) →
      bare_block (of_parts_block (bare_block (settle_block (parts_block claims l)))) ≡ bare_block (of_parts_block (parts_block claims l))
  block_layer l = λ i. record { opening = l.opening; items = same_settled (of_parts_block (bare_block (settle_block (parts_block claims l)))).items (of_parts_block (parts_block claims l)).items (item_row l.items.items) i; closing = l.closing }

  branch_layer : (l : Layer-Branch claims) → of_parts_branch (settle_branch (parts_branch claims l)) ≡ of_parts_branch (parts_branch claims l)
  branch_layer l = λ i. record { keyword = l.keyword; opening = l.opening; condition = l.condition; closing = l.closing; body = (record { ptr = l.body.ptr; alloc = l.body.alloc; value = l.body.value.1 i }) }

  else_layer : (l : Layer-Else claims) → of_parts_else (settle_else (parts_else claims l)) ≡ of_parts_else (parts_else claims l)
  else_layer l = λ i. record { keyword = l.keyword; body = (record { ptr = l.body.ptr; alloc = l.body.alloc; value = l.body.value.1 i }) }

  else_if_layer : (l : Layer-ElseIf claims) → of_parts_else_if (settle_else_if (parts_else_if claims l)) ≡ of_parts_else_if (parts_else_if claims l)
  else_if_layer l = λ i. record { keyword = l.keyword; branch = l.branch.1 i }

  for_layer : (l : Layer-For claims) → of_parts_for (settle_for (parts_for claims l)) ≡ of_parts_for (parts_for claims l)
  for_layer l = λ i. record {
    keyword = l.keyword;
    opening = l.opening;
    start = l.start;
    first_semicolon = l.first_semicolon;
    condition = l.condition;
    second_semicolon = l.second_semicolon;
    step = l.step;
    closing = l.closing;
    body = (record { ptr = l.body.ptr; alloc = l.body.alloc; value = l.body.value.1 i });
  }

  if_layer : (l : Layer-If claims) →
      bare_if (of_parts_if (bare_if (settle_if (parts_if claims l)))) ≡ bare_if (of_parts_if (parts_if claims l))
  if_layer l = if_by l.first l.more l.last

  range_for_layer : (l : Layer-RangeFor claims) → of_parts_range_for (settle_range_for (parts_range_for claims l)) ≡ of_parts_range_for (parts_range_for claims l)
  range_for_layer l = λ i. record {
    keyword = l.keyword;
    opening = l.opening;
    ty = l.ty;
    name = l.name;
    colon = l.colon;
    range = l.range;
    closing = l.closing;
    body = (record { ptr = l.body.ptr; alloc = l.body.alloc; value = l.body.value.1 i });
  }

  -- a layer's own boxes aren't looked at
  item_bare : (l : Opened-BlockItem) → item_step (of_parts_item (bare_item l)) ≡ item_step (of_parts_item l)
  item_bare (open_stmt.Declare d semicolon) = item_blind (open_stmt.Declare d semicolon)
  item_bare (open_stmt.Stmt s) = refl

  plain_bare : (l : Opened-PlainStmt) → plain_step (of_parts_plain (bare_plain l)) ≡ plain_step (of_parts_plain l)
  plain_bare (open_stmt.Simple s semicolon) = plain_blind (open_stmt.Simple s semicolon)
  plain_bare (open_stmt.While keyword opening condition closing body) = plain_blind (open_stmt.While keyword opening condition closing (record { ptr = body.ptr; alloc = body.alloc; value = of_stmt body.value }))
  plain_bare (open_stmt.For loop) = plain_blind (open_stmt.For (record { ptr = loop.ptr; alloc = loop.alloc; value = of_for loop.value }))
  plain_bare (open_stmt.RangeFor loop) = plain_blind (open_stmt.RangeFor (record { ptr = loop.ptr; alloc = loop.alloc; value = of_range_for loop.value }))
  plain_bare (open_stmt.Return keyword value semicolon) = plain_blind (open_stmt.Return keyword value semicolon)
  plain_bare (open_stmt.Print name parts semicolon) = plain_blind (open_stmt.Print name parts semicolon)
  plain_bare (open_stmt.Assert keyword opening condition closing semicolon) = plain_blind (open_stmt.Assert keyword opening condition closing semicolon)
  plain_bare _ = refl

  stmt_bare : (l : Opened-Stmt) → stmt_step (of_parts_stmt (bare_stmt l)) ≡ stmt_step (of_parts_stmt l)
  stmt_bare (open_stmt.If i) = stmt_blind (open_stmt.If (record { ptr = i.ptr; alloc = i.alloc; value = of_if i.value }))
  stmt_bare (open_stmt.Plain s) = refl

  branch_bare : (l : Opened-Branch) → branch_step (of_parts_branch (bare_branch l)) ≡ branch_step (of_parts_branch l)
  branch_bare l = branch_blind (of_parts_branch l)

  else_bare : (l : Opened-Else) → else_step (of_parts_else (bare_else l)) ≡ else_step (of_parts_else l)
  else_bare l = else_blind (of_parts_else l)

  for_bare : (l : Opened-For) → for_step (of_parts_for (bare_for l)) ≡ for_step (of_parts_for l)
  for_bare l = for_blind (of_parts_for l)

  range_for_bare : (l : Opened-RangeFor) → range_for_step (of_parts_range_for (bare_range_for l)) ≡ range_for_step (of_parts_range_for l)
  range_for_bare l = range_for_blind (of_parts_range_for l)

  item_made : (x : Opened-BlockItem) (l : Layer-BlockItem claims) → parts_item claims l ≡ x → Seen-BlockItem (roll-BlockItem x)
  item_made x l e = subst (λ z. Seen-BlockItem (roll-BlockItem z)) e
      (ap of_item (settled_of_item (parts_item claims l))
      ∙ item_rolled (bare_item (settle_item (parts_item claims l)))
      ∙ item_bare (settle_item (parts_item claims l)) ∙ ap item_step (item_layer l) ∙ sym (item_rolled (parts_item claims l)))

  plain_made : (x : Opened-PlainStmt) (l : Layer-PlainStmt claims) → parts_plain claims l ≡ x → Seen-PlainStmt (roll-PlainStmt x)
  plain_made x l e = subst (λ z. Seen-PlainStmt (roll-PlainStmt z)) e
      (ap of_plain (settled_of_plain (parts_plain claims l))
      ∙ plain_rolled (bare_plain (settle_plain (parts_plain claims l)))
      ∙ plain_bare (settle_plain (parts_plain claims l)) ∙ ap plain_step (plain_layer l) ∙ sym (plain_rolled (parts_plain claims l)))

  stmt_made : (x : Opened-Stmt) (l : Layer-Stmt claims) → parts_stmt claims l ≡ x → Seen-Stmt (roll-Stmt x)
  stmt_made x l e = subst (λ z. Seen-Stmt (roll-Stmt z)) e
      (ap of_stmt (settled_of_stmt (parts_stmt claims l))
      ∙ stmt_rolled (bare_stmt (settle_stmt (parts_stmt claims l)))
      ∙ stmt_bare (settle_stmt (parts_stmt claims l)) ∙ ap stmt_step (stmt_layer l) ∙ sym (stmt_rolled (parts_stmt claims l)))

  block_made : (x : Opened-Block) (l : Layer-Block claims) → parts_block claims l ≡ x → Seen-Block (roll-Block x)
  block_made x l e = subst (λ z. Seen-Block (roll-Block z)) e
      (ap of_block (settled_of_block (parts_block claims l))
      ∙ block_rolled (bare_block (settle_block (parts_block claims l)))
      ∙ sym (block_blind (of_parts_block (bare_block (settle_block (parts_block claims l)))))
      ∙ ap block_step (block_layer l)
      ∙ block_blind (of_parts_block (parts_block claims l))
      ∙ sym (block_rolled (parts_block claims l)))

  branch_made : (x : Opened-Branch) (l : Layer-Branch claims) → parts_branch claims l ≡ x → Seen-Branch (roll-Branch x)
  branch_made x l e = subst (λ z. Seen-Branch (roll-Branch z)) e
      (ap of_branch (settled_of_branch (parts_branch claims l))
      ∙ branch_rolled (bare_branch (settle_branch (parts_branch claims l)))
      ∙ branch_bare (settle_branch (parts_branch claims l)) ∙ ap branch_step (branch_layer l) ∙ sym (branch_rolled (parts_branch claims l)))

  else_made : (x : Opened-Else) (l : Layer-Else claims) → parts_else claims l ≡ x → Seen-Else (roll-Else x)
  else_made x l e = subst (λ z. Seen-Else (roll-Else z)) e
      (ap of_else (settled_of_else (parts_else claims l))
      ∙ else_rolled (bare_else (settle_else (parts_else claims l)))
      ∙ else_bare (settle_else (parts_else claims l)) ∙ ap else_step (else_layer l) ∙ sym (else_rolled (parts_else claims l)))

  else_if_made : (x : Opened-ElseIf) (l : Layer-ElseIf claims) → parts_else_if claims l ≡ x → Seen-ElseIf (roll-ElseIf x)
  else_if_made x l e = subst (λ z. Seen-ElseIf (roll-ElseIf z)) e
      (ap of_else_if (settled_of_else_if (parts_else_if claims l))
      ∙ else_if_rolled (settle_else_if (parts_else_if claims l))
      ∙ ap else_if_step (else_if_layer l) ∙ sym (else_if_rolled (parts_else_if claims l)))

  for_made : (x : Opened-For) (l : Layer-For claims) → parts_for claims l ≡ x → Seen-For (roll-For x)
  for_made x l e = subst (λ z. Seen-For (roll-For z)) e
      (ap of_for (settled_of_for (parts_for claims l))
      ∙ for_rolled (bare_for (settle_for (parts_for claims l)))
      ∙ for_bare (settle_for (parts_for claims l)) ∙ ap for_step (for_layer l) ∙ sym (for_rolled (parts_for claims l)))

  if_made : (x : Opened-If) (l : Layer-If claims) → parts_if claims l ≡ x → Seen-If (roll-If x)
  if_made x l e = subst (λ z. Seen-If (roll-If z)) e
      (ap of_if (settled_of_if (parts_if claims l))
      ∙ if_rolled (bare_if (settle_if (parts_if claims l)))
      ∙ sym (if_blind (of_parts_if (bare_if (settle_if (parts_if claims l)))))
      ∙ ap if_step (if_layer l)
      ∙ if_blind (of_parts_if (parts_if claims l))
      ∙ sym (if_rolled (parts_if claims l)))

  range_for_made : (x : Opened-RangeFor) (l : Layer-RangeFor claims) → parts_range_for claims l ≡ x → Seen-RangeFor (roll-RangeFor x)
  range_for_made x l e = subst (λ z. Seen-RangeFor (roll-RangeFor z)) e
      (ap of_range_for (settled_of_range_for (parts_range_for claims l))
      ∙ range_for_rolled (bare_range_for (settle_range_for (parts_range_for claims l)))
      ∙ range_for_bare (settle_range_for (parts_range_for claims l)) ∙ ap range_for_step (range_for_layer l) ∙ sym (range_for_rolled (parts_range_for claims l)))

  pub block_seen : (x : Block) → Seen-Block x
  block_seen = ind-Block
      Seen-BlockItem Seen-PlainStmt Seen-Stmt Seen-Block Seen-Branch Seen-Else Seen-ElseIf Seen-For Seen-If Seen-RangeFor
      item_made plain_made stmt_made block_made branch_made else_made else_if_made for_made if_made range_for_made
