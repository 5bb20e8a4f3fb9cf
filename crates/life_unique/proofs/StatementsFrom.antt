-- Statements from their trees.
use Rattle.std.proofs.Common.{Bool, true, false, List, [], ◌∷◌, Option, None, Some}
use Rattle.std.specs.Prelude.{◌==◌, if◌then◌else◌, Box}
use Rattle.std.specs.declared.alloc.Global.{Global}
use Rattle.life_types.specs.declared.place.Place.{Place}
use Rattle.life_tree.specs.Rules as rules
use Rattle.life_tree.specs.Tree.{Tree, nothing, token, ◌⨾◌, construct, node, nowhere}
use Rattle.life_tree.specs.declared.expr.Expr.{Expr}
use Rattle.life_tree.specs.declared.fixed.TheConstants as fixed
use Rattle.life_tree.specs.declared.simple.Simple.{Simple}
use Rattle.life_tree.specs.declared.stmt.ForStart.{ForStart}
use Rattle.life_tree.specs.declared.stmt.ForStart.TheVariants as for_start
use Rattle.life_tree.specs.declared.stmt.PrintItem.{PrintItem}
use Rattle.life_tree.specs.declared.stmt.PrintItem.TheVariants as print_item
use Rattle.life_tree.specs.declared.stmt.PrintPart.{PrintPart}
use Rattle.life_tree.specs.declared.stmt.BlockItem.{BlockItem, roll-BlockItem}
use Rattle.life_tree.specs.declared.stmt.PlainStmt.{PlainStmt, roll-PlainStmt}
use Rattle.life_tree.specs.declared.stmt.Stmt.{Stmt, roll-Stmt}
use Rattle.life_tree.specs.declared.stmt.Block.{Block, roll-Block}
use Rattle.life_tree.specs.declared.stmt.Branch.{Branch, roll-Branch}
use Rattle.life_tree.specs.declared.stmt.Else.{Else, roll-Else}
use Rattle.life_tree.specs.declared.stmt.ElseIf.{ElseIf, roll-ElseIf}
use Rattle.life_tree.specs.declared.stmt.For.{For, roll-For}
use Rattle.life_tree.specs.declared.stmt.If.{If, roll-If}
use Rattle.life_tree.specs.declared.stmt.RangeFor.{RangeFor, roll-RangeFor}
use Rattle.life_tree.specs.declared.stmt.BlockItem.TheOpen as open_stmt
use Rattle.life_tree.specs.Views.{BranchView, ElseIfView}
use Rattle.life_unique.specs.Standing.{boxed_at}
use Rattle.life_unique.proofs.DeclarationsFound.{declared, from_declaration, from_declared_type}
use Rattle.life_unique.proofs.ExpressionsFrom.{from_additive, from_expr}
use Rattle.life_unique.proofs.Lists.{empty, listed}
use Rattle.life_unique.proofs.SimplesFound.{from_simple}
use Rattle.life_unique.proofs.Tokens.{place_of, number_of, name_of, qualified, is_nothing, is_node, front, behind, derived, inside}

-- ---- what forms look like

abbrev pub is_if : Tree → Bool
is_if (node rules.branches t) = true
is_if _ = false

abbrev pub is_statement : Tree → Bool
is_statement (node rules.statement t) = true
is_statement _ = false

-- what the parentheses of a condition, or of a loop's head, hold
abbrev pub held : Tree → Tree
held t = front (inside (derived t))

abbrev pub opening_of : Tree → Place
opening_of t = place_of (derived t)

abbrev pub closing_of : Tree → Place
closing_of t = place_of (behind (inside (derived t)))

-- a head goes over a range if a `:` stands behind the name
abbrev pub is_range : Tree → Bool
is_range t = is_colon (front (behind (behind (derived (held t))))) where
  is_colon : Tree → Bool
  is_colon (token key place) = true
  is_colon _ = false

module _ (g : Global) where
  -- ---- parts that are no statements

  abbrev pub optional_expr : Tree → Option (Box Expr Global)
  optional_expr t = if is_nothing t then None else Some (boxed_at g (from_expr g t))

  abbrev pub optional_simple : Tree → Option (Box Simple Global)
  optional_simple t = if is_nothing t then None else Some (boxed_at g (from_simple g t))

  abbrev pub from_print_item : Tree → PrintItem
  from_print_item t =
      if is_node t then print_item.Value (from_additive g t)
      else print_item.EndLine (qualified (front t) (front (behind t)) (behind (behind t)))

  abbrev pub from_print_part : Tree → PrintPart
  from_print_part t = record { place = place_of (front (derived t)); item = from_print_item (derived (behind (derived t))) }

  abbrev pub print_parts : Tree → List PrintPart
  print_parts (t ⨾ ts) = from_print_part t ∷ print_parts ts
  print_parts _ = []

  -- what a `for` begins with, and what follows that
  abbrev pub start_of : Tree → Option ForStart
  start_of (nothing ⨾ rest) = None
  start_of (ty ⨾ name ⨾ i ⨾ rest) = Some (for_start.Declaration (boxed_at g (declared g ty name i)))
  start_of (s ⨾ rest) = Some (for_start.Simple (boxed_at g (from_simple g s)))
  start_of _ = None

  abbrev pub rest_of : Tree → Tree
  rest_of (nothing ⨾ rest) = rest
  rest_of (ty ⨾ name ⨾ i ⨾ rest) = rest
  rest_of (s ⨾ rest) = rest
  rest_of _ = nothing

  -- ---- constructs, given what their bodies are

  abbrev pub branch_of : Place → Tree → Stmt → Branch
  branch_of keyword condition body = roll-Branch (record {
    keyword = keyword;
    opening = opening_of condition;
    condition = boxed_at g (from_expr g (held condition));
    closing = closing_of condition;
    body = boxed_at g body;
  })

  abbrev pub while_of : Place → Tree → Stmt → PlainStmt
  while_of keyword condition body = roll-PlainStmt
      (open_stmt.While keyword (opening_of condition) (boxed_at g (from_expr g (held condition))) (closing_of condition) (boxed_at g body))

  abbrev pub for_by : Place → Place → Option ForStart → Tree → Place → Stmt → For
  for_by keyword opening start rest closing body = roll-For (record {
    keyword = keyword;
    opening = opening;
    start = start;
    first_semicolon = place_of (front rest);
    condition = optional_expr (front (behind rest));
    second_semicolon = place_of (front (behind (behind rest)));
    step = optional_simple (behind (behind (behind rest)));
    closing = closing;
    body = boxed_at g body;
  })

  abbrev pub for_of : Place → Tree → Stmt → For
  for_of keyword head body =
      for_by keyword (opening_of head) (start_of (derived (held head))) (derived (rest_of (derived (held head)))) (closing_of head) body

  abbrev pub range_for_of : Place → Tree → Stmt → RangeFor
  range_for_of keyword head body = roll-RangeFor (record {
    keyword = keyword;
    opening = opening_of head;
    ty = from_declared_type g (front (derived (held head)));
    name = name_of (front (behind (derived (held head))));
    colon = place_of (front (behind (behind (derived (held head)))));
    range = boxed_at g (from_expr g (behind (behind (behind (derived (held head))))));
    closing = closing_of head;
    body = boxed_at g body;
  })

  -- ---- statements

  abbrev pub no_plain : PlainStmt
  no_plain = roll-PlainStmt (open_stmt.Empty nowhere)

  abbrev pub no_stmt : Stmt
  no_stmt = roll-Stmt (open_stmt.Plain no_plain)

  abbrev mutual
    pub from_item : Tree → BlockItem
    from_item (node _ t) =
        if is_statement t then roll-BlockItem (open_stmt.Stmt (from_stmt t))
        else roll-BlockItem (open_stmt.Declare (boxed_at g (from_declaration g (front t))) (place_of (behind t)))
    from_item _ = roll-BlockItem (open_stmt.Stmt no_stmt)

    pub items : Tree → List BlockItem
    items (t ⨾ ts) = from_item t ∷ items ts
    items _ = []

    pub from_stmt : Tree → Stmt
    from_stmt (node _ t) = if is_if t then roll-Stmt (open_stmt.If (boxed_at g (from_if t))) else roll-Stmt (open_stmt.Plain (from_plain t))
    from_stmt _ = no_stmt

    pub from_plain : Tree → PlainStmt
    from_plain (node _ (node _ (construct _ opening (t ⨾ closing)))) =
        roll-PlainStmt (open_stmt.Block (roll-Block (record { opening = opening; items = listed g (items t); closing = place_of closing })))
    from_plain (node _ (node _ (token key place ⨾ scope ⨾ word ⨾ t ⨾ semicolon))) =
        roll-PlainStmt (open_stmt.Print (qualified (token key place) scope word) (listed g (print_parts t)) (place_of semicolon))
    from_plain (node _ (node _ (s ⨾ semicolon))) = roll-PlainStmt (open_stmt.Simple (boxed_at g (from_simple g s)) (place_of semicolon))
    from_plain (node _ (construct n keyword (head ⨾ body))) =
        if n == fixed.WHILE then while_of keyword head (from_stmt body)
        else (if is_range head then roll-PlainStmt (open_stmt.RangeFor (boxed_at g (range_for_of keyword head (from_stmt body))))
        else roll-PlainStmt (open_stmt.For (boxed_at g (for_of keyword head (from_stmt body)))))
    from_plain (node _ (word ⨾ t ⨾ semicolon)) =
        if number_of word == fixed.RETURN then roll-PlainStmt (open_stmt.Return (place_of word) (optional_expr t) (place_of semicolon))
        else roll-PlainStmt (open_stmt.Assert (place_of word) (opening_of t) (boxed_at g (from_expr g (held t))) (closing_of t) (place_of semicolon))
    from_plain (node _ (word ⨾ semicolon)) =
        if number_of word == fixed.BREAK then roll-PlainStmt (open_stmt.Break (place_of word) (place_of semicolon))
        else roll-PlainStmt (open_stmt.Continue (place_of word) (place_of semicolon))
    from_plain (node _ t) = roll-PlainStmt (open_stmt.Empty (place_of t))
    from_plain _ = no_plain

    pub from_block : Tree → Block
    from_block (node _ (construct _ opening (t ⨾ closing))) = roll-Block (record { opening = opening; items = listed g (items t); closing = place_of closing })
    from_block _ = roll-Block (record { opening = nowhere; items = empty g; closing = nowhere })

    pub from_if : Tree → If
    from_if (node _ (construct _ keyword (condition ⨾ body ⨾ rest))) =
        roll-If (record { first = branch_of keyword condition (from_stmt body); more = listed g (more_of rest); last = last_of rest })
    from_if t = roll-If (record { first = branch_of nowhere t no_stmt; more = empty g; last = None })

    -- the branches behind the first, and what stands behind the last `else`
    pub more_of : Tree → List ElseIf
    more_of (node _ (else_word ⨾ if_word ⨾ condition ⨾ body ⨾ rest)) =
        roll-ElseIf (record { keyword = place_of else_word; branch = branch_of (place_of if_word) condition (from_stmt body) }) ∷ more_of rest
    more_of _ = []

    pub last_of : Tree → Option Else
    last_of (node _ (else_word ⨾ if_word ⨾ condition ⨾ body ⨾ rest)) = last_of rest
    last_of (node _ (else_word ⨾ body)) = Some (from_else (else_word ⨾ body))
    last_of _ = None

    pub from_else : Tree → Else
    from_else (else_word ⨾ body) = roll-Else (record { keyword = place_of else_word; body = boxed_at g (from_plain body) })
    from_else _ = roll-Else (record { keyword = nowhere; body = boxed_at g no_plain })

  abbrev pub from_branch : BranchView → Branch
  from_branch b = branch_of b.keyword b.condition (from_stmt b.body)

  abbrev pub from_else_if : ElseIfView → ElseIf
  from_else_if e = roll-ElseIf (record { keyword = e.keyword; branch = from_branch e.branch })

  abbrev pub from_for : Tree → For
  from_for t = for_of (place_of t) (front (inside t)) (from_stmt (behind (inside t)))

  abbrev pub from_range_for : Tree → RangeFor
  from_range_for t = range_for_of (place_of t) (front (inside t)) (from_stmt (behind (inside t)))
