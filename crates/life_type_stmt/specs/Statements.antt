-- Statements, in the order of their text. What they declare is visible up to the end of the block or loop that it stands in.
use Rattle.std.specs.Prelude.{Bool, true, false, Box, List, [], ◌∷◌, Option, Some, None, Ok}
use Rattle.std.specs.declared.alloc.Global.{Global}
use Rattle.life_types.specs.Types.{Types}
use Rattle.life_types.specs.declared.place.Place.{Place}
use Rattle.life_types.specs.declared.ty.NameId.{NameId}
use Rattle.life_types.specs.declared.ty.TyId.{TyId}
use Rattle.life_tree.specs.declared.expr.Expr.{Expr}
use Rattle.life_tree.specs.declared.simple.Simple.{Simple}
use Rattle.life_tree.specs.declared.stmt.BlockItem.TheFolds.{fold-BlockItem, fold-PlainStmt, fold-Stmt, fold-Block, fold-Branch, fold-Else, fold-ElseIf, fold-For, fold-If, fold-RangeFor}
use Rattle.life_tree.specs.declared.stmt.BlockItem.TheOpen as open_stmt
use Rattle.life_tree.specs.declared.stmt.BlockItem.{BlockItem}
use Rattle.life_tree.specs.declared.stmt.PlainStmt.{PlainStmt}
use Rattle.life_tree.specs.declared.stmt.Stmt.{Stmt}
use Rattle.life_tree.specs.declared.stmt.Block.{Block}
use Rattle.life_tree.specs.declared.stmt.Branch.{Branch}
use Rattle.life_tree.specs.declared.stmt.Else.{Else}
use Rattle.life_tree.specs.declared.stmt.ElseIf.{ElseIf}
use Rattle.life_tree.specs.declared.stmt.For.{For}
use Rattle.life_tree.specs.declared.stmt.ForStart.{ForStart}
use Rattle.life_tree.specs.declared.stmt.ForStart.TheVariants as for_start
use Rattle.life_tree.specs.declared.stmt.If.{If}
use Rattle.life_tree.specs.declared.stmt.PrintPart.{PrintPart}
use Rattle.life_tree.specs.declared.stmt.RangeFor.{RangeFor}
use Rattle.life_typed.specs.TypedStatement as typed
use Rattle.life_typed.specs.TypedStatement.{StmtForm, stmt_forms, no_more}
use Rattle.life_names.specs.Checked.{Checked, ◌>>=◌}
use Rattle.life_type_stmt.specs.Conditions.{condition, optional_condition, items}
use Rattle.life_type_stmt.specs.Declarations.{declaration}
use Rattle.life_names.specs.Environment.{Scope, forgotten}
use Rattle.life_names.specs.Found.{Found, given, not_found}
use Rattle.life_type_stmt.specs.Ranges.{range_head}
use Rattle.life_type_stmt.specs.Returns.{returned}
use Rattle.life_type_stmt.specs.Simples.{simple_statement, optional_simple}
use Rattle.life_names.specs.declared.fault.IllKind.TheVariants as kinds
use Rattle.life_type_stmt.specs.declared.around.Around.{Around}

-- ---- what a part of a tree says, where it stands among this

abbrev pub Part : Type 0
Part = Around → Scope → Types → Checked (StmtForm × Scope)

-- a part of a block: the name that it declares, if it is a declaration
pub record ItemPart : Type 0 where
  pub declares : Option NameId
  pub part : Part

-- parts one after the other
abbrev pub in_turn : List Part → Around → Scope → Types → Checked (List StmtForm × Scope)
in_turn [] around scope types = Ok (([], scope), types)
in_turn (p ∷ ps) around scope types =
    p around scope types >>= (λ x. in_turn ps around x.0.1 x.1 >>= (λ xs. Ok ((x.0.0 ∷ xs.0.0, xs.0.1), xs.1)))

abbrev pub optional_part : Option Part → Part
optional_part None around scope types = Ok ((no_more, scope), types)
optional_part (Some p) around scope types = p around scope types

-- ---- blocks

abbrev pub parts_of : List ItemPart → List Part
parts_of [] = []
parts_of (i ∷ is) = i.part ∷ parts_of is

abbrev pub name_before : Option NameId → List NameId → List NameId
name_before None names = names
name_before (Some name) names = name ∷ names

-- the names that these declare
abbrev pub names_of : List ItemPart → List NameId
names_of [] = []
names_of (i ∷ is) = name_before i.declares (names_of is)

-- .. are visible up to the end of the block
abbrev pub block_part : List ItemPart → Place → Part
block_part is closing around scope types =
    in_turn (parts_of is) around scope types >>= (λ x. Ok ((typed.block (stmt_forms x.0.0) closing, forgotten (names_of is) x.0.1), x.1))

-- ---- a loop

abbrev pub in_loop : Around → Around
in_loop around = record around { in_loop = true }

-- `break` and `continue` stand in a loop
abbrev pub in_loop_only : Bool → StmtForm → Place → Found StmtForm
in_loop_only true s place = Ok s
in_loop_only false s place = not_found kinds.WrongType place

-- what a `for` begins with, and the name that it declares
abbrev pub for_start_part : Option ForStart → Scope → Types → Checked (Option typed.ForStartForm × Scope)
for_start_part None scope types = Ok ((None, scope), types)
for_start_part (Some (for_start.Declaration d)) scope types =
    declaration d.value scope types >>= (λ x. Ok ((Some (typed.declared_first x.0.0), x.0.1), x.1))
for_start_part (Some (for_start.Simple s)) scope types =
    simple_statement s.value scope types >>= (λ x. Ok ((Some (typed.done_first x.0), scope), x.1))

abbrev pub start_names : Option ForStart → List NameId
start_names None = []
start_names (Some (for_start.Declaration d)) = d.value.name.id ∷ []
start_names (Some (for_start.Simple s)) = []

abbrev pub while_part : Place → Expr → Place → Part → Part
while_part keyword decides closing body around scope types =
    condition decides scope types >>= (λ x. body (in_loop around) scope x.1 >>= (λ y.
    Ok ((typed.while_loop keyword x.0 closing y.0.0, y.0.1), y.1)))

-- ---- statements with no statement inside

abbrev pub sentence : Simple → Place → Scope → Types → Checked (StmtForm × Scope)
sentence s semicolon scope types = simple_statement s scope types >>= (λ x. Ok ((typed.sentence x.0 semicolon, scope), x.1))

abbrev pub return_stmt : TyId → Place → Option (Box Expr Global) → Place → Scope → Types → Checked (StmtForm × Scope)
return_stmt result keyword value semicolon scope types =
    returned result keyword value scope types >>= (λ x. Ok ((typed.returned keyword x.0 semicolon, scope), x.1))

abbrev pub print_stmt : List PrintPart → Place → Scope → Types → Checked (StmtForm × Scope)
print_stmt parts semicolon scope types = items parts scope types >>= (λ x. Ok ((typed.print x.0 semicolon, scope), x.1))

abbrev pub assertion : Place → Expr → Place → Place → Scope → Types → Checked (StmtForm × Scope)
assertion keyword decides closing semicolon scope types =
    condition decides scope types >>= (λ x. Ok ((typed.assertion keyword x.0 closing semicolon, scope), x.1))

-- ---- one level of a tree, with what is inside already said

abbrev pub item_step : open_stmt.BlockItem-F ItemPart Part Part Part Part Part Part Part Part Part → ItemPart
item_step (open_stmt.Declare d semicolon) = record {
  declares = Some d.value.name.id;
  part = λ around scope types. declaration d.value scope types >>= (λ x. Ok ((typed.declaration x.0.0 semicolon, x.0.1), x.1));
}
item_step (open_stmt.Stmt s) = record { declares = None; part = s }

abbrev pub plain_step : open_stmt.PlainStmt-F ItemPart Part Part Part Part Part Part Part Part Part → Part
plain_step (open_stmt.Block b) around scope types = b around scope types
plain_step (open_stmt.Empty place) around scope types = Ok ((typed.empty place, scope), types)
plain_step (open_stmt.Simple s semicolon) around scope types = sentence s.value semicolon scope types
plain_step (open_stmt.While keyword opening decides closing body) around scope types = while_part keyword decides.value closing body.value around scope types
plain_step (open_stmt.For f) around scope types = f.value around scope types
plain_step (open_stmt.RangeFor f) around scope types = f.value around scope types
plain_step (open_stmt.Break keyword semicolon) around scope types =
    given (in_loop_only around.in_loop (typed.loop_break keyword semicolon) keyword) (λ s. Ok ((s, scope), types))
plain_step (open_stmt.Continue keyword semicolon) around scope types =
    given (in_loop_only around.in_loop (typed.loop_continue keyword semicolon) keyword) (λ s. Ok ((s, scope), types))
plain_step (open_stmt.Return keyword value semicolon) around scope types = return_stmt around.result keyword value semicolon scope types
plain_step (open_stmt.Print name parts semicolon) around scope types = print_stmt parts.items semicolon scope types
plain_step (open_stmt.Assert keyword opening decides closing semicolon) around scope types = assertion keyword decides.value closing semicolon scope types

abbrev pub stmt_step : open_stmt.Stmt-F ItemPart Part Part Part Part Part Part Part Part Part → Part
stmt_step (open_stmt.If i) around scope types = i.value around scope types
stmt_step (open_stmt.Plain s) around scope types = s around scope types

abbrev pub block_step : open_stmt.Block-F ItemPart Part Part Part Part Part Part Part Part Part → Part
block_step b around scope types = block_part b.items.items b.closing around scope types

abbrev pub branch_step : open_stmt.Branch-F ItemPart Part Part Part Part Part Part Part Part Part → Part
branch_step b around scope types =
    condition b.condition.value scope types >>= (λ x. b.body.value around scope x.1 >>= (λ y.
    Ok ((typed.branch b.keyword x.0 b.closing y.0.0, y.0.1), y.1)))

abbrev pub else_step : open_stmt.Else-F ItemPart Part Part Part Part Part Part Part Part Part → Part
else_step e around scope types = e.body.value around scope types

abbrev pub else_if_step : open_stmt.ElseIf-F ItemPart Part Part Part Part Part Part Part Part Part → Part
else_if_step e around scope types = e.branch around scope types

-- what a `for` declares is visible up to its end
abbrev pub for_step : open_stmt.For-F ItemPart Part Part Part Part Part Part Part Part Part → Part
for_step f around scope types =
    for_start_part f.start scope types >>= (λ x. optional_condition f.condition x.0.1 x.1 >>= (λ y. optional_simple f.step x.0.1 y.1 >>= (λ z.
    f.body.value (in_loop around) x.0.1 z.1 >>= (λ w.
    Ok ((typed.for_loop f.keyword x.0.0 f.first_semicolon y.0 f.second_semicolon z.0 f.closing w.0.0, forgotten (start_names f.start) w.0.1), w.1)))))

abbrev pub if_step : open_stmt.If-F ItemPart Part Part Part Part Part Part Part Part Part → Part
if_step i around scope types =
    in_turn (i.first ∷ i.more.items) around scope types >>= (λ x. optional_part i.last around x.0.1 x.1 >>= (λ y.
    Ok ((typed.branching (stmt_forms x.0.0) y.0.0, y.0.1), y.1)))

-- .. over a range, its variable
abbrev pub range_for_step : open_stmt.RangeFor-F ItemPart Part Part Part Part Part Part Part Part Part → Part
range_for_step f around scope types =
    range_head f.ty f.name f.colon f.range.value scope types >>= (λ x. f.body.value (in_loop around) x.0.1 x.1 >>= (λ y.
    Ok ((typed.range_loop f.keyword x.0.0.local f.name f.colon x.0.0.range f.closing y.0.0, forgotten (f.name.id ∷ []) y.0.1), y.1)))

-- ---- whole trees

unfoldable pub item_part : BlockItem → ItemPart
item_part =
    fold-BlockItem ItemPart Part Part Part Part Part Part Part Part Part
    item_step plain_step stmt_step block_step branch_step else_step else_if_step for_step if_step range_for_step

unfoldable pub plain_part : PlainStmt → Part
plain_part =
    fold-PlainStmt ItemPart Part Part Part Part Part Part Part Part Part
    item_step plain_step stmt_step block_step branch_step else_step else_if_step for_step if_step range_for_step

unfoldable pub stmt_part : Stmt → Part
stmt_part =
    fold-Stmt ItemPart Part Part Part Part Part Part Part Part Part
    item_step plain_step stmt_step block_step branch_step else_step else_if_step for_step if_step range_for_step

unfoldable pub block_of : Block → Part
block_of =
    fold-Block ItemPart Part Part Part Part Part Part Part Part Part
    item_step plain_step stmt_step block_step branch_step else_step else_if_step for_step if_step range_for_step

unfoldable pub branch_part : Branch → Part
branch_part =
    fold-Branch ItemPart Part Part Part Part Part Part Part Part Part
    item_step plain_step stmt_step block_step branch_step else_step else_if_step for_step if_step range_for_step

unfoldable pub else_part : Else → Part
else_part =
    fold-Else ItemPart Part Part Part Part Part Part Part Part Part
    item_step plain_step stmt_step block_step branch_step else_step else_if_step for_step if_step range_for_step

unfoldable pub else_if_part : ElseIf → Part
else_if_part =
    fold-ElseIf ItemPart Part Part Part Part Part Part Part Part Part
    item_step plain_step stmt_step block_step branch_step else_step else_if_step for_step if_step range_for_step

unfoldable pub for_part : For → Part
for_part =
    fold-For ItemPart Part Part Part Part Part Part Part Part Part
    item_step plain_step stmt_step block_step branch_step else_step else_if_step for_step if_step range_for_step

unfoldable pub if_part : If → Part
if_part =
    fold-If ItemPart Part Part Part Part Part Part Part Part Part
    item_step plain_step stmt_step block_step branch_step else_step else_if_step for_step if_step range_for_step

unfoldable pub range_for_part : RangeFor → Part
range_for_part =
    fold-RangeFor ItemPart Part Part Part Part Part Part Part Part Part
    item_step plain_step stmt_step block_step branch_step else_step else_if_step for_step if_step range_for_step
