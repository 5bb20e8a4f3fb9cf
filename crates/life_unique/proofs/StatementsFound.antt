-- A statement's tree gives the statement back, settled.
-- For each type: what is claimed of it, a layer of parts of which it holds, and that it holds of what such a layer makes.
use Rattle.std.proofs.Common.{◌≡◌, true, false, List, [], ◌∷◌, Option, None, Some, map, refl, ap, sym, subst, ◌∙◌}
use Rattle.std.specs.Prelude.{if◌then◌else◌, option_map, Box, Vec}
use Rattle.std.specs.declared.alloc.Global.{Global}
use Rattle.life_types.specs.declared.place.Place.{Place}
use Rattle.life_tree.specs.Rules as rules
use Rattle.life_tree.specs.Tree.{Tree, construct, node, ◌⨾◌}
use Rattle.life_tree.specs.declared.expr.Expr.{Expr}
use Rattle.life_tree.specs.declared.fixed.TheConstants as fixed
use Rattle.life_tree.specs.declared.simple.Simple.{Simple}
use Rattle.life_tree.specs.declared.stmt.Else.{out-Else}
use Rattle.life_tree.specs.declared.stmt.ForStart.{ForStart}
use Rattle.life_tree.specs.declared.stmt.ForStart.TheVariants as for_start
use Rattle.life_tree.specs.declared.stmt.PrintItem.{PrintItem}
use Rattle.life_tree.specs.declared.stmt.PrintItem.TheVariants as print_item
use Rattle.life_tree.specs.declared.stmt.PrintPart.{PrintPart}
use Rattle.life_tree.specs.declared.stmt.BlockItem.TheFolds.{fold_out-PlainStmt, fold_out-Stmt, fold_out-Block, fold_out-Else, fold_out-For, fold_out-If, fold_out-RangeFor}
use Rattle.life_tree.specs.Views.{BranchView, ElseIfView, at, boxed, optional_tree, list_tree, expr_tree, additive_tree, simple_tree, print_item_form, print_part_tree, else_part_tree, for_rest_tree, for_clauses_form, for_head_tree}
use Rattle.life_unique.specs.SettledExpressions.{settled_expr}
use Rattle.life_unique.specs.SettledSimples.{settled_simple}
use Rattle.life_unique.specs.SettledStatements.{settled_print_item, settled_print_part, settled_start}
use Rattle.life_unique.specs.Standing.{boxed_at, box_of}
use Rattle.life_unique.proofs.DeclarationsFound.{from_declaration, declaration_found, declared_type_found}
use Rattle.life_unique.proofs.ExpressionsFound.{additive_found, additive_is_node, expr_found, expr_is_nothing}
use Rattle.life_unique.proofs.Lists.{Both, listed, listed_is, list_found}
use Rattle.life_unique.proofs.SimplesFound.{simple_found}
use Rattle.life_unique.proofs.StatementsFrom.{is_if, is_statement, optional_expr, optional_simple, from_print_item, from_print_part, print_parts, start_of, rest_of, for_by}
use Rattle.life_unique.proofs.StatementsFrom.{from_item, from_plain, from_stmt, from_block, from_branch, from_else, from_else_if, from_for, from_if, from_range_for, items, more_of, last_of}
use Rattle.life_unique.proofs.Tokens.{place_of, qualified, is_node, front, behind, derived}
use Rattle.life_tree.specs.declared.stmt.BlockItem.{BlockItem, roll-BlockItem}
use Rattle.life_tree.specs.declared.stmt.PlainStmt.{PlainStmt, roll-PlainStmt}
use Rattle.life_tree.specs.declared.stmt.Stmt.{Stmt, roll-Stmt}
use Rattle.life_tree.specs.declared.stmt.Block.{Block, roll-Block}
use Rattle.life_tree.specs.declared.stmt.Branch.{Branch, roll-Branch}
use Rattle.life_tree.specs.declared.stmt.Else.{Else, roll-Else}
use Rattle.life_tree.specs.declared.stmt.ElseIf.{ElseIf, roll-ElseIf}
use Rattle.life_tree.specs.declared.stmt.For.{For, roll-For}
use Rattle.life_tree.specs.declared.stmt.If.{If, roll-If}
use Rattle.life_tree.specs.declared.stmt.RangeFor.{RangeFor, roll-RangeFor}
use Rattle.life_tree.specs.declared.stmt.BlockItem.TheFolds.{ind-Block}
use Rattle.life_tree.specs.declared.stmt.BlockItem.TheOpen as open_stmt
use Rattle.life_unique.proofs.StatementLayers.{trees_item, trees_plain, trees_stmt, trees_block, trees_branch, trees_else, trees_else_if, trees_for, trees_if, trees_range_for}
use Rattle.life_unique.proofs.StatementLayers.{tree_of_item, tree_of_plain, tree_of_stmt, tree_of_block, tree_of_branch, tree_of_else, tree_of_else_if, tree_of_for, tree_of_if, tree_of_range_for}
use Rattle.life_unique.proofs.StatementLayers.{settled_of_item, settled_of_plain, settled_of_stmt, settled_of_block, settled_of_branch, settled_of_else, settled_of_else_if, settled_of_for, settled_of_if, settled_of_range_for}
use Rattle.life_unique.proofs.StatementLayers.{settle_item, settle_plain, settle_stmt, settle_block, settle_branch, settle_else, settle_else_if, settle_for, settle_if, settle_range_for}
use Rattle.life_unique.proofs.StatementLayers.{Claims, Layer-BlockItem, Layer-PlainStmt, Layer-Stmt, Layer-Block, Layer-Branch, Layer-Else, Layer-ElseIf, Layer-For, Layer-If, Layer-RangeFor}
use Rattle.life_unique.proofs.StatementLayers.{parts_item, parts_plain, parts_stmt, parts_block, parts_branch, parts_else, parts_else_if, parts_for, parts_if, parts_range_for}
use Rattle.life_unique.specs.SettledStatements.{Opened-BlockItem, Opened-PlainStmt, Opened-Stmt, Opened-Block, Opened-Branch, Opened-Else, Opened-ElseIf, Opened-For, Opened-If, Opened-RangeFor}
use Rattle.life_tree.specs.Views.{block_item_step, plain_step, stmt_step, block_step, branch_step, else_step, else_if_step, for_step, if_step, range_for_step}
use Rattle.life_tree.specs.Views.{block_item_tree, plain_stmt_tree, stmt_tree, block_tree, branch_view, else_tree, else_if_view, for_tree, if_tree, range_for_tree}
use Rattle.life_unique.specs.SettledStatements.{kept_item, kept_plain, kept_stmt, kept_block, kept_branch, kept_else, kept_for, kept_if, kept_range_for}
use Rattle.life_unique.specs.SettledStatements.{settled_item, settled_plain, settled_stmt, settled_block, settled_branch, settled_else, settled_else_if, settled_for, settled_if, settled_range_for}

-- which form a tree has
pub if_is_if : (x : If) → is_if (if_tree x) ≡ true
if_is_if x = ap is_if (fold_out-If Tree Tree Tree Tree BranchView Tree ElseIfView Tree Tree Tree
    block_item_step plain_step stmt_step block_step branch_step else_step else_if_step for_step if_step range_for_step x)

pub plain_is_if : (x : PlainStmt) → is_if (plain_stmt_tree x) ≡ false
plain_is_if x = ap is_if (fold_out-PlainStmt Tree Tree Tree Tree BranchView Tree ElseIfView Tree Tree Tree
    block_item_step plain_step stmt_step block_step branch_step else_step else_if_step for_step if_step range_for_step x)

pub stmt_is_statement : (x : Stmt) → is_statement (stmt_tree x) ≡ true
stmt_is_statement x = ap is_statement (fold_out-Stmt Tree Tree Tree Tree BranchView Tree ElseIfView Tree Tree Tree
    block_item_step plain_step stmt_step block_step branch_step else_step else_if_step for_step if_step range_for_step x)

pub block_is_node : (x : Block) → is_node (block_tree x) ≡ true
block_is_node x = ap is_node (fold_out-Block Tree Tree Tree Tree BranchView Tree ElseIfView Tree Tree Tree
    block_item_step plain_step stmt_step block_step branch_step else_step else_if_step for_step if_step range_for_step x)

module _ (g : Global) where
  -- what stands alone in a plain statement
  plain_block : (x : Block) → from_plain g (node rules.plain (block_tree x)) ≡ roll-PlainStmt (open_stmt.Block (from_block g (block_tree x)))
  plain_block x = subst (λ t. from_plain g (node rules.plain t) ≡ roll-PlainStmt (open_stmt.Block (from_block g t))) (sym (fold_out-Block Tree Tree Tree Tree BranchView Tree ElseIfView Tree Tree Tree
      block_item_step plain_step stmt_step block_step branch_step else_step else_if_step for_step if_step range_for_step x)) refl

  plain_range : (x : RangeFor) → from_plain g (node rules.plain (range_for_tree x)) ≡ roll-PlainStmt (open_stmt.RangeFor (boxed_at g (from_range_for g (range_for_tree x))))
  plain_range x = subst (λ t. from_plain g (node rules.plain t) ≡ roll-PlainStmt (open_stmt.RangeFor (boxed_at g (from_range_for g t)))) (sym (fold_out-RangeFor Tree Tree Tree Tree BranchView Tree ElseIfView Tree Tree Tree
      block_item_step plain_step stmt_step block_step branch_step else_step else_if_step for_step if_step range_for_step x)) refl

  plain_start : (keyword opening closing : Place) (start : Option ForStart) (rest body : Tree) →
      from_plain g (node rules.plain (construct fixed.FOR keyword (for_head_tree opening (for_clauses_form start (node rules.for_rest rest)) closing ⨾ body)))
      ≡ roll-PlainStmt (open_stmt.For (boxed_at g (from_for g (construct fixed.FOR keyword (for_head_tree opening (for_clauses_form start (node rules.for_rest rest)) closing ⨾ body)))))
  plain_start keyword opening closing None rest body = refl
  plain_start keyword opening closing (Some (for_start.Declaration d)) rest body = refl
  plain_start keyword opening closing (Some (for_start.Simple s)) rest body = refl

  plain_for : (x : For) → from_plain g (node rules.plain (for_tree x)) ≡ roll-PlainStmt (open_stmt.For (boxed_at g (from_for g (for_tree x))))
  plain_for x = subst (λ t. from_plain g (node rules.plain t) ≡ roll-PlainStmt (open_stmt.For (boxed_at g (from_for g t)))) (sym (fold_out-For Tree Tree Tree Tree BranchView Tree ElseIfView Tree Tree Tree
      block_item_step plain_step stmt_step block_step branch_step else_step else_if_step for_step if_step range_for_step x))
      (plain_start _ _ _ _ _ _)

  -- behind the last `else` there is no branch
  lone_else : (x : Else) → (more_of g (node rules.else_part (else_tree x)) ≡ []) × (last_of g (node rules.else_part (else_tree x)) ≡ Some (from_else g (else_tree x)))
  lone_else x = subst (λ t. (more_of g (node rules.else_part t) ≡ []) × (last_of g (node rules.else_part t) ≡ Some (from_else g t))) (sym (fold_out-Else Tree Tree Tree Tree BranchView Tree ElseIfView Tree Tree Tree
      block_item_step plain_step stmt_step block_step branch_step else_step else_if_step for_step if_step range_for_step x))
      (subst (λ t. (more_of g (node rules.else_part (at fixed.ELSE (out-Else x).keyword ⨾ t)) ≡ [])
      × (last_of g (node rules.else_part (at fixed.ELSE (out-Else x).keyword ⨾ t)) ≡ Some (from_else g (at fixed.ELSE (out-Else x).keyword ⨾ t))))
      (sym (fold_out-PlainStmt Tree Tree Tree Tree BranchView Tree ElseIfView Tree Tree Tree
      block_item_step plain_step stmt_step block_step branch_step else_step else_if_step for_step if_step range_for_step (out-Else x).body.value)) (refl, refl))

  -- what a `for` begins with, and what follows that
  start_is : (start : Option ForStart) (rest : Tree) → start_of g (for_clauses_form start (node rules.for_rest rest)) ≡ option_map settled_start start
  start_is None rest = refl
  start_is (Some (for_start.Declaration d)) rest = λ i. Some (for_start.Declaration (boxed_at g (declaration_found g d.value i)))
  start_is (Some (for_start.Simple s)) rest = λ i. Some (for_start.Simple (boxed_at g (simple_found g s.value i)))

  rest_is : (start : Option ForStart) (rest : Tree) → rest_of g (for_clauses_form start (node rules.for_rest rest)) ≡ node rules.for_rest rest
  rest_is None rest = refl
  rest_is (Some (for_start.Declaration d)) rest = refl
  rest_is (Some (for_start.Simple s)) rest = refl

  optional_expr_is : (e : Option (Box Expr Global)) → optional_expr g (optional_tree (boxed expr_tree) e) ≡ option_map (box_of settled_expr) e
  optional_expr_is None = refl
  optional_expr_is (Some e) = λ i. if expr_is_nothing e.value i then None else Some (boxed_at g (expr_found g e.value i))

  optional_simple_is : (s : Option (Box Simple Global)) → optional_simple g (optional_tree (boxed simple_tree) s) ≡ option_map (box_of settled_simple) s
  optional_simple_is None = refl
  optional_simple_is (Some s) = λ i. Some (boxed_at g (simple_found g s.value i))

  print_part_found : (p : PrintPart) → from_print_part g (print_part_tree p) ≡ settled_print_part p
  print_part_found p = λ i. record { place = p.place; item = item_found p.item i } where
    item_found : (t : PrintItem) → from_print_item g (print_item_form t) ≡ settled_print_item t
    item_found (print_item.Value e) = λ i.
        if additive_is_node e i then print_item.Value (additive_found g e i)
        else print_item.EndLine (qualified (front (additive_tree e)) (front (behind (additive_tree e))) (behind (behind (additive_tree e))))
    item_found (print_item.EndLine name) = refl

  print_row : (ps : List PrintPart) → print_parts g (list_tree (map print_part_tree ps)) ≡ map settled_print_part ps
  print_row [] = refl
  print_row (p ∷ ps) = λ i. print_part_found p i ∷ print_row ps i

  abbrev Found-BlockItem : BlockItem → Type 0
  Found-BlockItem x = from_item g (block_item_tree x) ≡ settled_item x

  abbrev Found-PlainStmt : PlainStmt → Type 0
  Found-PlainStmt x = from_plain g (plain_stmt_tree x) ≡ settled_plain x

  abbrev Found-Stmt : Stmt → Type 0
  Found-Stmt x = from_stmt g (stmt_tree x) ≡ settled_stmt x

  abbrev Found-Block : Block → Type 0
  Found-Block x = from_block g (block_tree x) ≡ settled_block x

  abbrev Found-Branch : Branch → Type 0
  Found-Branch x = from_branch g (branch_view x) ≡ settled_branch x

  abbrev Found-Else : Else → Type 0
  Found-Else x = from_else g (else_tree x) ≡ settled_else x

  abbrev Found-ElseIf : ElseIf → Type 0
  Found-ElseIf x = from_else_if g (else_if_view x) ≡ settled_else_if x

  abbrev Found-For : For → Type 0
  Found-For x = from_for g (for_tree x) ≡ settled_for x

  abbrev Found-If : If → Type 0
  Found-If x = from_if g (if_tree x) ≡ settled_if x

  abbrev Found-RangeFor : RangeFor → Type 0
  Found-RangeFor x = from_range_for g (range_for_tree x) ≡ settled_range_for x

  abbrev claims : Claims
  claims = record {
    item = Found-BlockItem;
    plain = Found-PlainStmt;
    stmt = Found-Stmt;
    block = Found-Block;
    branch = Found-Branch;
    else_ = Found-Else;
    else_if = Found-ElseIf;
    for_ = Found-For;
    if_ = Found-If;
    range_for = Found-RangeFor;
  }

  -- lists of parts
  item_row : (xs : List (Both Found-BlockItem)) → items g (list_tree (map block_item_tree (map (λ z. z.0) xs))) ≡ map settled_item (map (λ z. z.0) xs)
  item_row [] = refl
  item_row (x ∷ xs) = λ i. x.1 i ∷ item_row xs i

  more_row : (xs : List (Both Found-ElseIf)) (last : Option Tree) → more_of g (else_part_tree [] last) ≡ []
      → more_of g (else_part_tree (map else_if_view (map (λ z. z.0) xs)) last) ≡ map settled_else_if (map (λ z. z.0) xs)
  more_row [] last e = e
  more_row (x ∷ xs) last e = λ i. x.1 i ∷ more_row xs last e i

  last_row : (xs : List (Both Found-ElseIf)) (last : Option Tree) → last_of g (else_part_tree (map else_if_view (map (λ z. z.0) xs)) last) ≡ last_of g (else_part_tree [] last)
  last_row [] last = refl
  last_row (x ∷ xs) last = last_row xs last

  -- with an `else`, and without
  if_by : (first : (Both Found-Branch)) (more : Vec (Both Found-ElseIf) Global) (last : Option (Both Found-Else))
      → from_if g (if_step (trees_if (parts_if claims (record { first = first; more = more; last = last }))))
      ≡ kept_if (settle_if (parts_if claims (record { first = first; more = more; last = last })))
  if_by first more None =
      (λ i. roll-If (record { first = first.1 i; more = listed g (more_row more.items None refl i); last = last_row more.items None i }))
      ∙ ap (λ z. roll-If (record { first = settled_branch first.0; more = z; last = None })) (listed_is g (map settled_else_if (map (λ z. z.0) more.items)) _)
  if_by first more (Some e) =
      (λ i. roll-If (record {
        first = first.1 i;
        more = listed g (more_row more.items (Some (else_tree e.0)) (lone_else e.0).0 i);
        last = (last_row more.items (Some (else_tree e.0)) ∙ (lone_else e.0).1 ∙ ap (λ z. Some z) e.1) i;
      }))
      ∙ ap (λ z. roll-If (record { first = settled_branch first.0; more = z; last = Some (settled_else e.0) })) (listed_is g (map settled_else_if (map (λ z. z.0) more.items)) _)

  -- .. is found of parts that are
  item_layer : (l : Layer-BlockItem claims)
      → from_item g (block_item_step (trees_item (parts_item claims l)))
      ≡ kept_item (settle_item (parts_item claims l))
  item_layer (open_stmt.Declare d semicolon) = λ i. roll-BlockItem (open_stmt.Declare (boxed_at g (declaration_found g d.value i)) semicolon)
  item_layer (open_stmt.Stmt s) = λ i.
      if stmt_is_statement s.0 i then roll-BlockItem (open_stmt.Stmt (s.1 i))
      else roll-BlockItem (open_stmt.Declare (boxed_at g (from_declaration g (front (stmt_tree s.0)))) (place_of (behind (stmt_tree s.0))))

  plain_layer : (l : Layer-PlainStmt claims)
      → from_plain g (plain_step (trees_plain (parts_plain claims l)))
      ≡ kept_plain (settle_plain (parts_plain claims l))
  plain_layer (open_stmt.Block b) = plain_block b.0 ∙ (λ i. roll-PlainStmt (open_stmt.Block (b.1 i)))
  plain_layer (open_stmt.Empty place) = refl
  plain_layer (open_stmt.Simple s semicolon) = λ i. roll-PlainStmt (open_stmt.Simple (boxed_at g (simple_found g s.value i)) semicolon)
  plain_layer (open_stmt.While keyword opening condition closing body) = λ i.
      roll-PlainStmt (open_stmt.While keyword opening (boxed_at g (expr_found g condition.value i)) closing (boxed_at g (body.value.1 i)))
  plain_layer (open_stmt.For loop) = plain_for loop.value.0 ∙ (λ i. roll-PlainStmt (open_stmt.For (boxed_at g (loop.value.1 i))))
  plain_layer (open_stmt.RangeFor loop) = plain_range loop.value.0 ∙ (λ i. roll-PlainStmt (open_stmt.RangeFor (boxed_at g (loop.value.1 i))))
  plain_layer (open_stmt.Break keyword semicolon) = refl
  plain_layer (open_stmt.Continue keyword semicolon) = refl
  plain_layer (open_stmt.Return keyword value semicolon) = λ i. roll-PlainStmt (open_stmt.Return keyword (optional_expr_is value i) semicolon)
  plain_layer (open_stmt.Print name parts semicolon) = λ i.
      roll-PlainStmt (open_stmt.Print name (list_found g settled_print_part parts _ (print_row parts.items) i) semicolon)
  plain_layer (open_stmt.Assert keyword opening condition closing semicolon) = λ i.
      roll-PlainStmt (open_stmt.Assert keyword opening (boxed_at g (expr_found g condition.value i)) closing semicolon)

  stmt_layer : (l : Layer-Stmt claims)
      → from_stmt g (stmt_step (trees_stmt (parts_stmt claims l)))
      ≡ kept_stmt (settle_stmt (parts_stmt claims l))
  stmt_layer (open_stmt.If b) = λ i.
      if if_is_if b.value.0 i then roll-Stmt (open_stmt.If (boxed_at g (b.value.1 i))) else roll-Stmt (open_stmt.Plain (from_plain g (if_tree b.value.0)))
  stmt_layer (open_stmt.Plain s) = λ i.
      if plain_is_if s.0 i then roll-Stmt (open_stmt.If (boxed_at g (from_if g (plain_stmt_tree s.0)))) else roll-Stmt (open_stmt.Plain (s.1 i))

  block_layer : (l : Layer-Block claims)
      → from_block g (block_step (trees_block (parts_block claims l)))
      ≡ kept_block (settle_block (parts_block claims l))
  block_layer l = (λ i. roll-Block (record { opening = l.opening; items = listed g (item_row l.items.items i); closing = l.closing }))
      ∙ ap (λ z. roll-Block (record { opening = l.opening; items = z; closing = l.closing })) (listed_is g (map settled_item (map (λ z. z.0) l.items.items)) _)

  branch_layer : (l : Layer-Branch claims)
      → from_branch g (branch_step (trees_branch (parts_branch claims l)))
      ≡ kept_branch (settle_branch (parts_branch claims l))
  branch_layer l = λ i. roll-Branch (record {
    keyword = l.keyword;
    opening = l.opening;
    condition = boxed_at g (expr_found g l.condition.value i);
    closing = l.closing;
    body = boxed_at g (l.body.value.1 i);
  })

  else_layer : (l : Layer-Else claims)
      → from_else g (else_step (trees_else (parts_else claims l)))
      ≡ kept_else (settle_else (parts_else claims l))
  else_layer l = λ i. roll-Else (record { keyword = l.keyword; body = boxed_at g (l.body.value.1 i) })

  else_if_layer : (l : Layer-ElseIf claims)
      → from_else_if g (else_if_step (trees_else_if (parts_else_if claims l)))
      ≡ roll-ElseIf (settle_else_if (parts_else_if claims l))
  else_if_layer l = λ i. roll-ElseIf (record { keyword = l.keyword; branch = l.branch.1 i })

  for_layer : (l : Layer-For claims)
      → from_for g (for_step (trees_for (parts_for claims l)))
      ≡ kept_for (settle_for (parts_for claims l))
  for_layer l =
      let rest : Tree = derived (for_rest_tree l.first_semicolon l.condition l.second_semicolon l.step) in
      (λ i. for_by g l.keyword l.opening (start_is l.start rest i) (derived (rest_is l.start rest i)) l.closing (l.body.value.1 i))
      ∙ (λ i. roll-For (record {
        keyword = l.keyword;
        opening = l.opening;
        start = option_map settled_start l.start;
        first_semicolon = l.first_semicolon;
        condition = optional_expr_is l.condition i;
        second_semicolon = l.second_semicolon;
        step = optional_simple_is l.step i;
        closing = l.closing;
        body = boxed_at g (settled_stmt l.body.value.0);
      }))

  if_layer : (l : Layer-If claims)
      → from_if g (if_step (trees_if (parts_if claims l)))
      ≡ kept_if (settle_if (parts_if claims l))
  if_layer l = if_by l.first l.more l.last

  range_for_layer : (l : Layer-RangeFor claims)
      → from_range_for g (range_for_step (trees_range_for (parts_range_for claims l)))
      ≡ kept_range_for (settle_range_for (parts_range_for claims l))
  range_for_layer l = λ i. roll-RangeFor (record {
    keyword = l.keyword;
    opening = l.opening;
    ty = declared_type_found g l.ty i;
    name = l.name;
    colon = l.colon;
    range = boxed_at g (expr_found g l.range.value i);
    closing = l.closing;
    body = boxed_at g (l.body.value.1 i);
  })

  item_made : (x : Opened-BlockItem) (l : Layer-BlockItem claims) → parts_item claims l ≡ x → Found-BlockItem (roll-BlockItem x)
  item_made x l e = subst (λ z. Found-BlockItem (roll-BlockItem z)) e
      (ap (λ t. from_item g t) (tree_of_item (parts_item claims l)) ∙ item_layer l ∙ sym (settled_of_item (parts_item claims l)))

  plain_made : (x : Opened-PlainStmt) (l : Layer-PlainStmt claims) → parts_plain claims l ≡ x → Found-PlainStmt (roll-PlainStmt x)
  plain_made x l e = subst (λ z. Found-PlainStmt (roll-PlainStmt z)) e
      (ap (λ t. from_plain g t) (tree_of_plain (parts_plain claims l)) ∙ plain_layer l ∙ sym (settled_of_plain (parts_plain claims l)))

  stmt_made : (x : Opened-Stmt) (l : Layer-Stmt claims) → parts_stmt claims l ≡ x → Found-Stmt (roll-Stmt x)
  stmt_made x l e = subst (λ z. Found-Stmt (roll-Stmt z)) e
      (ap (λ t. from_stmt g t) (tree_of_stmt (parts_stmt claims l)) ∙ stmt_layer l ∙ sym (settled_of_stmt (parts_stmt claims l)))

  block_made : (x : Opened-Block) (l : Layer-Block claims) → parts_block claims l ≡ x → Found-Block (roll-Block x)
  block_made x l e = subst (λ z. Found-Block (roll-Block z)) e
      (ap (λ t. from_block g t) (tree_of_block (parts_block claims l)) ∙ block_layer l ∙ sym (settled_of_block (parts_block claims l)))

  branch_made : (x : Opened-Branch) (l : Layer-Branch claims) → parts_branch claims l ≡ x → Found-Branch (roll-Branch x)
  branch_made x l e = subst (λ z. Found-Branch (roll-Branch z)) e
      (ap (λ t. from_branch g t) (tree_of_branch (parts_branch claims l)) ∙ branch_layer l ∙ sym (settled_of_branch (parts_branch claims l)))

  else_made : (x : Opened-Else) (l : Layer-Else claims) → parts_else claims l ≡ x → Found-Else (roll-Else x)
  else_made x l e = subst (λ z. Found-Else (roll-Else z)) e
      (ap (λ t. from_else g t) (tree_of_else (parts_else claims l)) ∙ else_layer l ∙ sym (settled_of_else (parts_else claims l)))

  else_if_made : (x : Opened-ElseIf) (l : Layer-ElseIf claims) → parts_else_if claims l ≡ x → Found-ElseIf (roll-ElseIf x)
  else_if_made x l e = subst (λ z. Found-ElseIf (roll-ElseIf z)) e
      (ap (λ t. from_else_if g t) (tree_of_else_if (parts_else_if claims l)) ∙ else_if_layer l ∙ sym (settled_of_else_if (parts_else_if claims l)))

  for_made : (x : Opened-For) (l : Layer-For claims) → parts_for claims l ≡ x → Found-For (roll-For x)
  for_made x l e = subst (λ z. Found-For (roll-For z)) e
      (ap (λ t. from_for g t) (tree_of_for (parts_for claims l)) ∙ for_layer l ∙ sym (settled_of_for (parts_for claims l)))

  if_made : (x : Opened-If) (l : Layer-If claims) → parts_if claims l ≡ x → Found-If (roll-If x)
  if_made x l e = subst (λ z. Found-If (roll-If z)) e
      (ap (λ t. from_if g t) (tree_of_if (parts_if claims l)) ∙ if_layer l ∙ sym (settled_of_if (parts_if claims l)))

  range_for_made : (x : Opened-RangeFor) (l : Layer-RangeFor claims) → parts_range_for claims l ≡ x → Found-RangeFor (roll-RangeFor x)
  range_for_made x l e = subst (λ z. Found-RangeFor (roll-RangeFor z)) e
      (ap (λ t. from_range_for g t) (tree_of_range_for (parts_range_for claims l)) ∙ range_for_layer l ∙ sym (settled_of_range_for (parts_range_for claims l)))

  pub block_found : (x : Block) → Found-Block x
  block_found = ind-Block
      Found-BlockItem Found-PlainStmt Found-Stmt Found-Block Found-Branch Found-Else Found-ElseIf Found-For Found-If Found-RangeFor
      item_made plain_made stmt_made block_made branch_made else_made else_if_made for_made if_made range_for_made
