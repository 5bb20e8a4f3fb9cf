-- Statements with the types of what stands in them, as plain data.
use Rattle.std.specs.Prelude.{ℕ, List, [], ◌∷◌, Box, Option, None, Some, map}
use Rattle.std.specs.declared.alloc.Global.{Global}
use Rattle.life_types.specs.declared.place.Place.{Place}
use Rattle.life_tree.specs.declared.identifier.Identifier.{Identifier}
use Rattle.life_tree.specs.declared.operator.CompoundOperator.{CompoundOperator}
use Rattle.life_tree.specs.declared.operator.StepOperator.{StepOperator}
use Rattle.life_typed.specs.Delimiters.{DelimitersForm, delimiters_view}
use Rattle.life_typed.specs.TypedForm.{Typed, typed_view}
use Rattle.life_typed.specs.declared.typed_stmt.TypedBlock.{TypedBlock}
use Rattle.life_typed.specs.declared.typed_stmt.TypedBlockItem.TheFolds.{fold-TypedBlock, fold-TypedBlockItem, fold-TypedBranch, fold-TypedStmt}
use Rattle.life_typed.specs.declared.typed_stmt.TypedBlockItem.TheOpen as open_stmt
use Rattle.life_typed.specs.declared.typed_stmt.TypedBlockItem.{TypedBlockItem}
use Rattle.life_typed.specs.declared.typed_stmt.TypedBranch.{TypedBranch}
use Rattle.life_typed.specs.declared.typed_stmt.TypedDeclaration.{TypedDeclaration}
use Rattle.life_typed.specs.declared.typed_stmt.TypedForHead.{TypedForHead}
use Rattle.life_typed.specs.declared.typed_stmt.TypedForStart.{TypedForStart}
use Rattle.life_typed.specs.declared.typed_stmt.TypedForStart.TheVariants as for_start
use Rattle.life_typed.specs.declared.typed_stmt.TypedInitial.{TypedInitial}
use Rattle.life_typed.specs.declared.typed_stmt.TypedInitial.TheVariants as initial
use Rattle.life_typed.specs.declared.typed_stmt.TypedItem.{TypedItem}
use Rattle.life_typed.specs.declared.typed_stmt.TypedItem.TheVariants as item
use Rattle.life_typed.specs.declared.typed_stmt.TypedList.{TypedList}
use Rattle.life_typed.specs.declared.typed_stmt.TypedSimple.{TypedSimple}
use Rattle.life_typed.specs.declared.typed_stmt.TypedSimple.TheVariants as simple
use Rattle.life_typed.specs.declared.typed_stmt.TypedStmt.{TypedStmt}

-- ---- declarations and simple statements

-- elements in braces
pub record ListForm : Type 0 where
  pub opening : Place
  pub elements : List Typed
  pub delimiters : DelimitersForm

-- what a variable or a target is given
pub data InitialForm : Type 0 where
  one : Typed → InitialForm
  several : ListForm → InitialForm

pub record DeclarationForm : Type 0 where
  pub local : ℕ
  pub name : Identifier
  pub value : Option InitialForm

pub data SimpleForm : Type 0 where
  assign : (target : Typed) → (equals : Place) → InitialForm → SimpleForm
  compound : (target : Typed) → CompoundOperator → Place → (value : Typed) → SimpleForm
  step : (target : Typed) → StepOperator → Place → SimpleForm
  discarded : Typed → SimpleForm

pub data ForStartForm : Type 0 where
  declared_first : DeclarationForm → ForStartForm
  done_first : SimpleForm → ForStartForm

-- a printed item
pub data ItemForm : Type 0 where
  printed : Typed → ItemForm
  line_end : Place → ItemForm

-- ---- statements

-- a statement, a branch, or what stands in a block; several are one and then the others, up to no more
pub data StmtForm : Type 0 where
  block : (items : StmtForm) → (closing : Place) → StmtForm
  empty : Place → StmtForm
  sentence : SimpleForm → (semicolon : Place) → StmtForm
  branching : (branches : StmtForm) → (last : StmtForm) → StmtForm
  while_loop : (keyword : Place) → (condition : Typed) → (closing : Place) → (body : StmtForm) → StmtForm
  for_loop :
      (keyword : Place) → (start : Option ForStartForm) → (first_semicolon : Place) → (condition : Option Typed) → (second_semicolon : Place) →
      (step : Option SimpleForm) → (closing : Place) → (body : StmtForm) → StmtForm
  range_loop : (keyword : Place) → (local : ℕ) → (name : Identifier) → (colon : Place) → (range : Typed) → (closing : Place) → (body : StmtForm) → StmtForm
  loop_break : (keyword semicolon : Place) → StmtForm
  loop_continue : (keyword semicolon : Place) → StmtForm
  returned : (keyword : Place) → (value : Option Typed) → (semicolon : Place) → StmtForm
  print : List ItemForm → (semicolon : Place) → StmtForm
  assertion : (keyword : Place) → (condition : Typed) → (closing semicolon : Place) → StmtForm
  branch : (keyword : Place) → (condition : Typed) → (closing : Place) → (body : StmtForm) → StmtForm
  declaration : DeclarationForm → (semicolon : Place) → StmtForm
  no_more : StmtForm
  chain : (first others : StmtForm) → StmtForm

abbrev pub stmt_forms : List StmtForm → StmtForm
stmt_forms [] = no_more
stmt_forms (s ∷ ss) = chain s (stmt_forms ss)

-- ---- the views of the program's values

abbrev pub optional_view : {A B : Type 0} → (A → B) → Option A → Option B
optional_view view None = None
optional_view view (Some x) = Some (view x)

abbrev pub typed_list_view : TypedList → ListForm
typed_list_view l = record { opening = l.opening; elements = map typed_view l.elements.items; delimiters = delimiters_view l.delimiters.value }

abbrev pub initial_view : TypedInitial → InitialForm
initial_view (initial.Expr e) = one (typed_view e)
initial_view (initial.List l) = several (typed_list_view l)

abbrev pub declaration_view : TypedDeclaration → DeclarationForm
declaration_view d = record { local = d.local; name = d.name; value = optional_view initial_view d.value }

abbrev pub simple_view : TypedSimple → SimpleForm
simple_view (simple.Assign target equals value) = assign (typed_view target) equals (initial_view value)
simple_view (simple.Compound target operator place value) = compound (typed_view target) operator place (typed_view value)
simple_view (simple.Step target operator place) = step (typed_view target) operator place
simple_view (simple.Call e) = discarded (typed_view e)

abbrev pub for_start_view : TypedForStart → ForStartForm
for_start_view (for_start.Declaration d) = declared_first (declaration_view d)
for_start_view (for_start.Simple s) = done_first (simple_view s)

abbrev pub item_view : TypedItem → ItemForm
item_view (item.Value e) = printed (typed_view e)
item_view (item.EndLine place) = line_end place

abbrev pub boxed_stmt : Box StmtForm Global → StmtForm
boxed_stmt s = s.value

abbrev pub optional_stmt : Option (Box StmtForm Global) → StmtForm
optional_stmt None = no_more
optional_stmt (Some s) = boxed_stmt s

abbrev pub for_of : (keyword : Place) → TypedForHead → (closing : Place) → (body : StmtForm) → StmtForm
for_of keyword head closing body =
    for_loop
    keyword (optional_view for_start_view head.start) head.first_semicolon (optional_view typed_view head.condition) head.second_semicolon
    (optional_view simple_view head.step) closing body

-- one level of a value, with what is inside already seen as plain data
abbrev pub block_item_step : open_stmt.TypedBlockItem-F StmtForm StmtForm StmtForm StmtForm → StmtForm
block_item_step (open_stmt.Declare d semicolon) = declaration (declaration_view d) semicolon
block_item_step (open_stmt.Stmt s) = s

abbrev pub stmt_step : open_stmt.TypedStmt-F StmtForm StmtForm StmtForm StmtForm → StmtForm
stmt_step (open_stmt.Block b) = b
stmt_step (open_stmt.Empty place) = empty place
stmt_step (open_stmt.Simple s semicolon) = sentence (simple_view s) semicolon
stmt_step (open_stmt.If branches last) = branching (stmt_forms branches.items) (optional_stmt last)
stmt_step (open_stmt.While keyword condition closing body) = while_loop keyword (typed_view condition) closing (boxed_stmt body)
stmt_step (open_stmt.For keyword head closing body) = for_of keyword head.value closing (boxed_stmt body)
stmt_step (open_stmt.RangeFor keyword id name colon range closing body) = range_loop keyword id name colon (typed_view range) closing (boxed_stmt body)
stmt_step (open_stmt.Break keyword semicolon) = loop_break keyword semicolon
stmt_step (open_stmt.Continue keyword semicolon) = loop_continue keyword semicolon
stmt_step (open_stmt.Return keyword value semicolon) = returned keyword (optional_view typed_view value) semicolon
stmt_step (open_stmt.Print items semicolon) = print (map item_view items.items) semicolon
stmt_step (open_stmt.Assert keyword condition closing semicolon) = assertion keyword (typed_view condition) closing semicolon

abbrev pub block_step : open_stmt.TypedBlock-F StmtForm StmtForm StmtForm StmtForm → StmtForm
block_step b = block (stmt_forms b.items.items) b.closing

abbrev pub branch_step : open_stmt.TypedBranch-F StmtForm StmtForm StmtForm StmtForm → StmtForm
branch_step b = branch b.keyword (typed_view b.condition) b.closing (boxed_stmt b.body)

abbrev pub block_item_view : TypedBlockItem → StmtForm
block_item_view = fold-TypedBlockItem StmtForm StmtForm StmtForm StmtForm block_item_step stmt_step block_step branch_step

abbrev pub stmt_view : TypedStmt → StmtForm
stmt_view = fold-TypedStmt StmtForm StmtForm StmtForm StmtForm block_item_step stmt_step block_step branch_step

abbrev pub block_view : TypedBlock → StmtForm
block_view = fold-TypedBlock StmtForm StmtForm StmtForm StmtForm block_item_step stmt_step block_step branch_step

abbrev pub branch_view : TypedBranch → StmtForm
branch_view = fold-TypedBranch StmtForm StmtForm StmtForm StmtForm block_item_step stmt_step block_step branch_step
