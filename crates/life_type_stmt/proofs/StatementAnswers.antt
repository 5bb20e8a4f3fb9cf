-- What the parts of a statement say, one after the other, is what the statement says.
use Rattle.std.proofs.Common.{◌≡◌, [], ◌∷◌, List, Box, Option, Vec, Global, map, option_map, Ok, refl}
use Rattle.life_types.specs.Types.{Types}
use Rattle.life_tree.specs.declared.expr.Expr.{Expr}
use Rattle.life_tree.specs.declared.stmt.Block.{Block, out-Block}
use Rattle.life_tree.specs.declared.stmt.BlockItem.{BlockItem}
use Rattle.life_tree.specs.declared.stmt.Branch.{Branch, out-Branch}
use Rattle.life_tree.specs.declared.stmt.For.{For, out-For}
use Rattle.life_tree.specs.declared.stmt.If.{If, out-If}
use Rattle.life_tree.specs.declared.stmt.RangeFor.{RangeFor, out-RangeFor}
use Rattle.life_tree.specs.declared.stmt.Stmt.{Stmt}
use Rattle.life_typed.specs.TypedForm.{typed_view}
use Rattle.life_typed.specs.TypedStatement.{StmtForm, block_item_view, block_view, branch_view, for_start_view, optional_view, simple_view, stmt_view}
use Rattle.life_typed.specs.declared.typed_expr.TypedExpr.{TypedExpr}
use Rattle.life_typed.specs.declared.typed_stmt.TypedBlock.{roll-TypedBlock}
use Rattle.life_typed.specs.declared.typed_stmt.TypedBlockItem.{TypedBlockItem}
use Rattle.life_typed.specs.declared.typed_stmt.TypedBranch.{TypedBranch, roll-TypedBranch}
use Rattle.life_typed.specs.declared.typed_stmt.TypedForHead.{TypedForHead}
use Rattle.life_typed.specs.declared.typed_stmt.TypedForStart.{TypedForStart}
use Rattle.life_typed.specs.declared.typed_stmt.TypedSimple.{TypedSimple}
use Rattle.life_typed.specs.declared.typed_stmt.TypedStmt.{TypedStmt}
use Rattle.life_typed.specs.declared.typed_stmt.TypedStmt.TheVariants as made
use Rattle.life_names.proofs.Steps.{bind_goes}
use Rattle.life_names.specs.Checked.{Checked}
use Rattle.life_names.specs.Environment.{Scope, forgotten}
use Rattle.life_type_stmt.proofs.SeenStatements.{seen_block, seen_branch, seen_for, seen_if, seen_range_for}
use Rattle.life_type_stmt.proofs.StatementMeanings.{block_made, branch_made, for_made, if_made, range_for_made}
use Rattle.life_type_stmt.specs.Conditions.{condition, optional_condition}
use Rattle.life_type_stmt.specs.RangeViews.{range_head_view}
use Rattle.life_type_stmt.specs.Ranges.{range_head}
use Rattle.life_type_stmt.specs.Simples.{optional_simple}
use Rattle.life_type_stmt.specs.StatementViews.{branches_part, optional_stmt_view}
use Rattle.life_type_stmt.specs.Statements.{block_of, branch_part, else_part, for_part, for_start_part, if_part, in_loop, in_turn, item_part, names_of, optional_part, parts_of, range_for_part, start_names, stmt_part}
use Rattle.life_type_stmt.specs.declared.around.Around.{Around}
use Rattle.life_type_stmt.specs.declared.ranges.RangeStart.{RangeStart}

-- the same is said, and the same is visible
same_said : (f g : StmtForm) (s after : Scope) (types : Types) (total : Checked (StmtForm × Scope)) → total ≡ Ok ((f, s), types) → g ≡ f → after ≡ s → total ≡ Ok ((g, after), types)
same_said f g s after types total is same visible = rw (same, visible) is

pub block_answers : (b : Block) (around : Around) (scope within after : Scope) (types grown : Types) (all again : List BlockItem) (items : Vec TypedBlockItem Global)
    → all ≡ (out-Block b).items.items → in_turn (parts_of (map item_part all)) around scope types ≡ Ok ((map block_item_view items.items, within), grown)
    → again ≡ (out-Block b).items.items → after ≡ forgotten (names_of (map item_part again)) within
    → block_of b around scope types ≡ Ok ((block_view (roll-TypedBlock (record { items = items; closing = (out-Block b).closing })), after), grown)
block_answers b around scope within after types grown all again items same said same_again visible =
    same_said _ _ _ after grown _
    (bind_goes (in_turn (parts_of (map item_part (out-Block b).items.items)) around scope types) _ _ _ (block_made b around scope types) (rw same at said))
    (seen_block items (out-Block b).closing) (rw same_again at visible)

pub branch_answers : (b : Branch) (around : Around) (scope after : Scope) (types grown last : Types) (decides : Expr) (x : TypedExpr) (s : Stmt) (y : TypedStmt) (body : Box TypedStmt Global)
    → decides ≡ (out-Branch b).condition.value → condition decides scope types ≡ Ok (typed_view x, grown)
    → s ≡ (out-Branch b).body.value → stmt_part s around scope grown ≡ Ok ((stmt_view y, after), last)
    → body.value ≡ y
    → branch_part b around scope types ≡ Ok ((branch_view (roll-TypedBranch (record { keyword = (out-Branch b).keyword; condition = x; closing = (out-Branch b).closing; body = body })), after), last)
branch_answers b around scope after types grown last decides x s y body same decided same_body said boxed =
    let first = bind_goes (condition (out-Branch b).condition.value scope types) _ _ _ (branch_made b around scope types) (rw same at decided) in
    let second = bind_goes (stmt_part (out-Branch b).body.value around scope grown) _ _ _ first (rw same_body at said) in
    same_said _ _ _ after last _ second (seen_branch (out-Branch b).keyword x (out-Branch b).closing body y boxed) refl

pub if_answers : (i : If) (around : Around) (scope within after : Scope) (types grown last : Types) (branches : Vec TypedBranch Global) (otherwise : Option (Box TypedStmt Global))
    → branches_part i around scope types ≡ Ok ((map branch_view branches.items, within), grown)
    → optional_part (option_map else_part (out-If i).last) around within grown ≡ Ok ((optional_stmt_view otherwise, after), last)
    → if_part i around scope types ≡ Ok ((stmt_view (made.If branches otherwise), after), last)
if_answers i around scope within after types grown last branches otherwise said last_said =
    let first = bind_goes (branches_part i around scope types) _ _ _ (if_made i around scope types) said in
    let second = bind_goes (optional_part (option_map else_part (out-If i).last) around within grown) _ _ _ first last_said in
    same_said _ _ _ after last _ second (seen_if branches otherwise) refl

pub for_answers : (f : For) (around : Around) (scope within inner after : Scope) (types started decided stepped grown : Types)
    (start : Option TypedForStart) (decides : Option TypedExpr) (step : Option TypedSimple) (head : Box TypedForHead Global) (s : Stmt) (body : Box TypedStmt Global)
    → for_start_part (out-For f).start scope types ≡ Ok ((optional_view for_start_view start, within), started)
    → optional_condition (out-For f).condition within started ≡ Ok (optional_view typed_view decides, decided)
    → optional_simple (out-For f).step within decided ≡ Ok (optional_view simple_view step, stepped)
    → head.value ≡ record { start = start; first_semicolon = (out-For f).first_semicolon; condition = decides; second_semicolon = (out-For f).second_semicolon; step = step }
    → s ≡ (out-For f).body.value → stmt_part s (in_loop around) within stepped ≡ Ok ((stmt_view body.value, inner), grown)
    → after ≡ forgotten (start_names (out-For f).start) inner
    → for_part f around scope types
    ≡ Ok ((stmt_view (made.For (out-For f).keyword head (out-For f).closing body), after), grown)
for_answers f around scope within inner after types started decided stepped grown start decides step head s body start_said condition_said step_said boxed same said visible =
    let first = bind_goes (for_start_part (out-For f).start scope types) _ _ _ (for_made f around scope types) start_said in
    let second = bind_goes (optional_condition (out-For f).condition within started) _ _ _ first condition_said in
    let third = bind_goes (optional_simple (out-For f).step within decided) _ _ _ second step_said in
    let fourth = bind_goes (stmt_part (out-For f).body.value (in_loop around) within stepped) _ _ _ third (rw same at said) in
    same_said _ _ _ after grown _ fourth (seen_for (out-For f).keyword head (out-For f).closing body _ boxed) visible

pub range_for_answers : (f : RangeFor) (around : Around) (scope within inner after : Scope) (types started grown : Types) (range : Expr) (start : RangeStart) (s : Stmt) (body : Box TypedStmt Global)
    → range ≡ (out-RangeFor f).range.value
    → range_head (out-RangeFor f).ty (out-RangeFor f).name (out-RangeFor f).colon range scope types ≡ Ok ((range_head_view start, within), started)
    → s ≡ (out-RangeFor f).body.value → stmt_part s (in_loop around) within started ≡ Ok ((stmt_view body.value, inner), grown)
    → after ≡ forgotten ((out-RangeFor f).name.id ∷ []) inner
    → range_for_part f around scope types
    ≡ Ok ((stmt_view (made.RangeFor (out-RangeFor f).keyword start.local (out-RangeFor f).name (out-RangeFor f).colon start.range (out-RangeFor f).closing body), after), grown)
range_for_answers f around scope within inner after types started grown range start s body same start_said same_body said visible =
    let first = bind_goes (range_head (out-RangeFor f).ty (out-RangeFor f).name (out-RangeFor f).colon (out-RangeFor f).range.value scope types) _ _ _ (range_for_made f around scope types) (rw same at start_said) in
    let second = bind_goes (stmt_part (out-RangeFor f).body.value (in_loop around) within started) _ _ _ first (rw same_body at said) in
    same_said _ _ _ after grown _ second (seen_range_for (out-RangeFor f).keyword start.local (out-RangeFor f).name (out-RangeFor f).colon start.range (out-RangeFor f).closing body) visible
