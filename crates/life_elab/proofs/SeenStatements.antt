-- What a statement is made of is that of what it is seen as.
use Rattle.std.proofs.Common.{◌≡◌, ℕ, Box, Option, None, Some, Vec, map, sym, ap, ◌∙◌}
use Rattle.std.specs.declared.alloc.Global.{Global}
use Rattle.life_tree.specs.declared.identifier.Identifier.{Identifier}
use Rattle.life_types.specs.declared.place.Place.{Place}
use Rattle.life_typed.specs.TypedForm.{typed_view}
use Rattle.life_typed.specs.TypedStatement.{assertion, branch_view, branching, for_of, range_loop, stmt_forms, stmt_view, while_loop}
use Rattle.life_typed.specs.declared.typed_expr.TypedExpr.{TypedExpr}
use Rattle.life_typed.specs.declared.typed_stmt.TypedBlockItem.TheFolds.{fold-roll-TypedStmt}
use Rattle.life_typed.specs.declared.typed_stmt.TypedBranch.{TypedBranch}
use Rattle.life_typed.specs.declared.typed_stmt.TypedForHead.{TypedForHead}
use Rattle.life_typed.specs.declared.typed_stmt.TypedStmt.{TypedStmt}
use Rattle.life_typed.specs.declared.typed_stmt.TypedStmt.TheVariants as stmt
use Rattle.life_elab.specs.Last.{last_view}

pub if_seen : (s : TypedStmt) (branches : Vec TypedBranch Global) (last : Option (Box TypedStmt Global)) → s ≡ stmt.If branches last
    → stmt_view s ≡ branching (stmt_forms (map branch_view branches.items)) (last_view last)
if_seen s branches None is = ap stmt_view (is ∙ sym (stmt.rolls-If branches None)) ∙ rw fold-roll-TypedStmt
if_seen s branches (Some x) is = ap stmt_view (is ∙ sym (stmt.rolls-If branches (Some x))) ∙ rw fold-roll-TypedStmt

pub while_seen : (s : TypedStmt) (keyword : Place) (condition : TypedExpr) (closing : Place) (body : Box TypedStmt Global) (x : TypedStmt) → s ≡ stmt.While keyword condition closing body
    → body.value ≡ x → stmt_view s ≡ while_loop keyword (typed_view condition) closing (stmt_view x)
while_seen s keyword condition closing body x is value =
    ap stmt_view (is ∙ sym (stmt.rolls-While keyword condition closing body)) ∙ rw fold-roll-TypedStmt (ap (λ y. while_loop keyword (typed_view condition) closing (stmt_view y)) value)

pub for_seen : (s : TypedStmt) (keyword : Place) (head : Box TypedForHead Global) (closing : Place) (body : Box TypedStmt Global) (h : TypedForHead) (x : TypedStmt)
    → s ≡ stmt.For keyword head closing body → head.value ≡ h → body.value ≡ x → stmt_view s ≡ for_of keyword h closing (stmt_view x)
for_seen s keyword head closing body h x is headed value =
    ap stmt_view (is ∙ sym (stmt.rolls-For keyword head closing body))
    ∙ rw fold-roll-TypedStmt (ap (λ (y : TypedForHead). for_of keyword y closing (stmt_view body.value)) headed ∙ ap (λ (y : TypedStmt). for_of keyword h closing (stmt_view y)) value)

pub range_seen : (s : TypedStmt) (keyword : Place) (local : ℕ) (name : Identifier) (colon : Place) (range : TypedExpr) (closing : Place) (body : Box TypedStmt Global) (x : TypedStmt)
    → s ≡ stmt.RangeFor keyword local name colon range closing body → body.value ≡ x → stmt_view s ≡ range_loop keyword local name colon (typed_view range) closing (stmt_view x)
range_seen s keyword local name colon range closing body x is value =
    ap stmt_view (is ∙ sym (stmt.rolls-RangeFor keyword local name colon range closing body))
    ∙ rw fold-roll-TypedStmt (ap (λ y. range_loop keyword local name colon (typed_view range) closing (stmt_view y)) value)

pub assert_seen : (s : TypedStmt) (keyword : Place) (condition : TypedExpr) (closing semicolon : Place) → s ≡ stmt.Assert keyword condition closing semicolon
    → stmt_view s ≡ assertion keyword (typed_view condition) closing semicolon
assert_seen s keyword condition closing semicolon is = ap stmt_view (is ∙ sym (stmt.rolls-Assert keyword condition closing semicolon)) ∙ rw fold-roll-TypedStmt
