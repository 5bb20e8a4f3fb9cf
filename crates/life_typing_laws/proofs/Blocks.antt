-- Whole statements: each rule of the grammar, and so each block, keeps what holds of what typing makes of a statement.
use Rattle.std.proofs.Common.{◌≡◌, ℕ, Bool, true, false, Option, None, Some, [], ◌∷◌, map, Vec, Ok, refl}
use Rattle.std.specs.declared.alloc.Global.{Global}
use Rattle.life_types.specs.Types.{Types}
use Rattle.life_types.specs.declared.place.Place.{Place}
use Rattle.life_tree.specs.declared.stmt.BlockItem.{BlockItem, roll-BlockItem}
use Rattle.life_tree.specs.declared.stmt.PlainStmt.{PlainStmt, roll-PlainStmt}
use Rattle.life_tree.specs.declared.stmt.Stmt.{Stmt, roll-Stmt}
use Rattle.life_tree.specs.declared.stmt.Block.{Block, roll-Block}
use Rattle.life_tree.specs.declared.stmt.Branch.{Branch, roll-Branch}
use Rattle.life_tree.specs.declared.stmt.Else.{Else, roll-Else}
use Rattle.life_tree.specs.declared.stmt.ElseIf.{ElseIf, roll-ElseIf}
use Rattle.life_tree.specs.declared.stmt.For.{For, roll-For}
use Rattle.life_tree.specs.declared.stmt.If.{If, roll-If}
use Rattle.life_tree.specs.declared.stmt.RangeFor.{RangeFor, roll-RangeFor}
use Rattle.life_tree.specs.declared.stmt.BlockItem.TheFolds.{fold-For, fold-RangeFor, ind-Block, map-BlockItem, map-For, map-If, map-PlainStmt, map-RangeFor, map-Stmt}
use Rattle.life_tree.specs.declared.stmt.BlockItem.TheFolds.{fold-roll-BlockItem, fold-roll-PlainStmt, fold-roll-Stmt, fold-roll-Block, fold-roll-Branch, fold-roll-Else, fold-roll-ElseIf, fold-roll-For, fold-roll-If, fold-roll-RangeFor}
use Rattle.life_tree.specs.declared.stmt.BlockItem.TheOpen as open_stmt
use Rattle.life_tree.specs.Rules as rules
use Rattle.life_tree.specs.Views as views
use Rattle.life_tree.specs.Views.{block_item_tree, plain_stmt_tree, stmt_tree, block_tree, branch_view, else_tree, else_if_view, for_tree, if_tree, range_for_tree, for_rest_tree}
use Rattle.life_tree.specs.Tree.{Tree}
use Rattle.life_tree.specs.declared.fixed.TheConstants as fixed
use Rattle.life_typed.specs.Ends.{ends}
use Rattle.life_typed.specs.TypedStatement as typed
use Rattle.life_typed.specs.TypedStatement.{StmtForm}
use Rattle.life_names.specs.Environment.{Scope}
use Rattle.life_names.specs.Found.{given}
use Rattle.life_type_stmt.specs.Conditions as conditions
use Rattle.life_type_stmt.specs.Conditions.{condition, optional_condition}
use Rattle.life_type_stmt.specs.Declarations.{declaration}
use Rattle.life_type_stmt.specs.Ends as texts
use Rattle.life_type_stmt.specs.Ends.{block_ends, branch_ends, else_if_ends, else_part_ends, if_ends, item_ends, plain_ends, stmt_ends}
use Rattle.life_type_stmt.specs.Ranges.{range_head}
use Rattle.life_type_stmt.specs.Returns.{returned}
use Rattle.life_type_stmt.specs.Simples.{optional_simple, simple_statement}
use Rattle.life_type_stmt.specs.Statements as parts
use Rattle.life_type_stmt.specs.Statements.{ItemPart, Part, block_of, branch_part, else_if_part, else_part, for_part, if_part, item_part, plain_part, range_for_part, stmt_part, for_start_part, in_loop, in_loop_only, start_names}
use Rattle.life_unique.proofs.Lists.{Both}
use Rattle.life_unique.proofs.StatementLayers.{Claims, Layer-BlockItem, Layer-PlainStmt, Layer-Stmt, Layer-Block, Layer-Branch, Layer-Else, Layer-ElseIf, Layer-For, Layer-If, Layer-RangeFor}
use Rattle.life_unique.proofs.StatementLayers.{parts_item, parts_plain, parts_stmt, parts_block, parts_branch, parts_else, parts_else_if, parts_for, parts_if, parts_range_for}
use Rattle.life_unique.proofs.StatementLayers.{trees_for, trees_if, trees_item, trees_plain, trees_range_for, trees_stmt}
use Rattle.life_unique.proofs.StatementLayers.{tree_of_item, tree_of_plain, tree_of_stmt, tree_of_block, tree_of_branch, tree_of_else, tree_of_else_if, tree_of_for, tree_of_if, tree_of_range_for}
use Rattle.life_unique.specs.SettledStatements.{Opened-BlockItem, Opened-PlainStmt, Opened-Stmt, Opened-Block, Opened-Branch, Opened-Else, Opened-ElseIf, Opened-For, Opened-If, Opened-RangeFor}
use Rattle.life_well_typed.specs.Statements.{is_one}
use Rattle.life_typing_laws.proofs.BlockParts.{declare_good, range_good}
use Rattle.life_typing_laws.proofs.DeclarationLaws.{DeclaredBehind, HeadBehind, StartBehind, declaration_behind, head_behind, start_behind}
use Rattle.life_typing_laws.proofs.Each.{each_of, made_of_three}
use Rattle.life_typing_laws.proofs.Loops.{assert_good, branch_good, break_good, continue_good, empty_good, for_good, none_good, print_good, return_good, sentence_good, while_good}
use Rattle.life_typing_laws.proofs.NamedTrees.{IsNamedTree}
use Rattle.life_typing_laws.proofs.StatementLaws.{BranchLaws, ElseIfLaws, ItemLaws, PartLaws, Said, SaysOf, again, alone_by, around_said, behind_made, block_says, if_laws, loop_said, no_else_says, made, still}
use Rattle.life_typing_laws.proofs.Statements.{GoodBlock, GoodItem}
use Rattle.life_typing_laws.proofs.Turns.{block_good}
use Rattle.life_typing_laws.proofs.Yields.{Yields, yields_ok, yields_then}

-- a block
pub record BlockLaws (part : Part) (t : Tree) (e : Bool) : Type 0 where
  pub good : GoodBlock part
  pub says : SaysOf t e [] part

-- the text of a loop has no end that can't be run past
abbrev for_ends : For → Bool
for_ends = fold-For Bool Bool Bool Bool Bool Bool Bool Bool Bool Bool
    texts.item_step texts.plain_step texts.stmt_step texts.block_step texts.branch_step texts.else_step texts.else_if_step texts.for_step texts.if_step texts.range_for_step

abbrev range_for_ends : RangeFor → Bool
range_for_ends = fold-RangeFor Bool Bool Bool Bool Bool Bool Bool Bool Bool Bool
    texts.item_step texts.plain_step texts.stmt_step texts.block_step texts.branch_step texts.else_step texts.else_if_step texts.for_step texts.if_step texts.range_for_step

-- what is claimed of each
abbrev claims : Claims
claims = record {
  item = λ x. ItemLaws (item_part x) (block_item_tree x) (item_ends x);
  plain = λ x. PartLaws (plain_part x) (plain_stmt_tree x) (plain_ends x);
  stmt = λ x. PartLaws (stmt_part x) (stmt_tree x) (stmt_ends x);
  block = λ x. BlockLaws (block_of x) (block_tree x) (block_ends x);
  branch = λ x. BranchLaws (branch_part x) (branch_view x) (branch_ends x);
  else_ = λ x. PartLaws (else_part x) (else_tree x) (else_part_ends x);
  else_if = λ x. ElseIfLaws (else_if_part x) (else_if_view x) (else_if_ends x);
  for_ = λ x. PartLaws (for_part x) (for_tree x) false;
  if_ = λ x. PartLaws (if_part x) (if_tree x) (if_ends x);
  range_for = λ x. PartLaws (range_for_part x) (range_for_tree x) false;
}

abbrev of_parts_item : Opened-BlockItem → open_stmt.BlockItem-F ItemPart Part Part Part Part Part Part Part Part Part
of_parts_item = map-BlockItem BlockItem PlainStmt Stmt Block Branch Else ElseIf For If RangeFor ItemPart Part Part Part Part Part Part Part Part Part
    item_part plain_part stmt_part block_of branch_part else_part else_if_part for_part if_part range_for_part

abbrev ends_item : Opened-BlockItem → open_stmt.BlockItem-F Bool Bool Bool Bool Bool Bool Bool Bool Bool Bool
ends_item = map-BlockItem BlockItem PlainStmt Stmt Block Branch Else ElseIf For If RangeFor Bool Bool Bool Bool Bool Bool Bool Bool Bool Bool
    item_ends plain_ends stmt_ends block_ends branch_ends else_part_ends else_if_ends for_ends if_ends range_for_ends

abbrev of_parts_plain : Opened-PlainStmt → open_stmt.PlainStmt-F ItemPart Part Part Part Part Part Part Part Part Part
of_parts_plain = map-PlainStmt BlockItem PlainStmt Stmt Block Branch Else ElseIf For If RangeFor ItemPart Part Part Part Part Part Part Part Part Part
    item_part plain_part stmt_part block_of branch_part else_part else_if_part for_part if_part range_for_part

abbrev ends_plain : Opened-PlainStmt → open_stmt.PlainStmt-F Bool Bool Bool Bool Bool Bool Bool Bool Bool Bool
ends_plain = map-PlainStmt BlockItem PlainStmt Stmt Block Branch Else ElseIf For If RangeFor Bool Bool Bool Bool Bool Bool Bool Bool Bool Bool
    item_ends plain_ends stmt_ends block_ends branch_ends else_part_ends else_if_ends for_ends if_ends range_for_ends

abbrev of_parts_stmt : Opened-Stmt → open_stmt.Stmt-F ItemPart Part Part Part Part Part Part Part Part Part
of_parts_stmt = map-Stmt BlockItem PlainStmt Stmt Block Branch Else ElseIf For If RangeFor ItemPart Part Part Part Part Part Part Part Part Part
    item_part plain_part stmt_part block_of branch_part else_part else_if_part for_part if_part range_for_part

abbrev ends_stmt : Opened-Stmt → open_stmt.Stmt-F Bool Bool Bool Bool Bool Bool Bool Bool Bool Bool
ends_stmt = map-Stmt BlockItem PlainStmt Stmt Block Branch Else ElseIf For If RangeFor Bool Bool Bool Bool Bool Bool Bool Bool Bool Bool
    item_ends plain_ends stmt_ends block_ends branch_ends else_part_ends else_if_ends for_ends if_ends range_for_ends

abbrev of_parts_if : Opened-If → open_stmt.If-F ItemPart Part Part Part Part Part Part Part Part Part
of_parts_if = map-If BlockItem PlainStmt Stmt Block Branch Else ElseIf For If RangeFor ItemPart Part Part Part Part Part Part Part Part Part
    item_part plain_part stmt_part block_of branch_part else_part else_if_part for_part if_part range_for_part

abbrev ends_if : Opened-If → open_stmt.If-F Bool Bool Bool Bool Bool Bool Bool Bool Bool Bool
ends_if = map-If BlockItem PlainStmt Stmt Block Branch Else ElseIf For If RangeFor Bool Bool Bool Bool Bool Bool Bool Bool Bool Bool
    item_ends plain_ends stmt_ends block_ends branch_ends else_part_ends else_if_ends for_ends if_ends range_for_ends

abbrev of_parts_for : Opened-For → open_stmt.For-F ItemPart Part Part Part Part Part Part Part Part Part
of_parts_for = map-For BlockItem PlainStmt Stmt Block Branch Else ElseIf For If RangeFor ItemPart Part Part Part Part Part Part Part Part Part
    item_part plain_part stmt_part block_of branch_part else_part else_if_part for_part if_part range_for_part

abbrev of_parts_range_for : Opened-RangeFor → open_stmt.RangeFor-F ItemPart Part Part Part Part Part Part Part Part Part
of_parts_range_for = map-RangeFor BlockItem PlainStmt Stmt Block Branch Else ElseIf For If RangeFor ItemPart Part Part Part Part Part Part Part Part Part
    item_part plain_part stmt_part block_of branch_part else_part else_if_part for_part if_part range_for_part

-- ---- parts of a block

item_layer : (l : Layer-BlockItem claims) → ItemLaws (parts.item_step (of_parts_item (parts_item claims l))) (views.block_item_step (trees_item (parts_item claims l))) (texts.item_step (ends_item (parts_item claims l)))
item_layer (open_stmt.Declare d semicolon) = record {
  good = declare_good d semicolon;
  says = λ around scope types.
      let whole : Tree = views.block_item_step (open_stmt.Declare d semicolon) in
      yields_then (DeclaredBehind d.value.name scope) (Said (λ n. IsNamedTree n whole) false (d.value.name.id ∷ []) scope) (declaration d.value scope types) _
      (declaration_behind d.value.ty d.value.name d.value.initializer scope types) (λ x b.
      yields_ok (Said (λ n. IsNamedTree n whole) false (d.value.name.id ∷ []) scope) (typed.declaration x.0.0 semicolon, x.0.1) x.1
      (record { stays = b.stays; named = λ n named. b.named n named.0.1.0; is = record { alone = λ none. absurd (cc); ended = refl } }));
}
item_layer (open_stmt.Stmt s) = record { good = λ around v scope types x h sound there. s.1.good around v scope types x h sound there; says = λ around scope types. again scope (s.1.says around scope types) (λ n named. named) }

-- ---- statements

jump_says : {Named : ℕ → Type 0} (b : Bool) (s : StmtForm) (place : Place) (scope : Scope) (types : Types) → is_one s ≡ true → ends s ≡ false
    → Yields (Said Named false [] scope) (given (in_loop_only b s place) (λ t. Ok ((t, scope), types)))
jump_says true s place scope types alone no_end = still scope s types alone no_end
jump_says false s place scope types alone no_end = λ x e. absurd (cc)

plain_layer : (l : Layer-PlainStmt claims) → PartLaws (parts.plain_step (of_parts_plain (parts_plain claims l))) (views.plain_step (trees_plain (parts_plain claims l))) (texts.plain_step (ends_plain (parts_plain claims l)))
plain_layer (open_stmt.Block b) = record { good = b.1.good.good; says = λ around scope types. again scope (b.1.says around scope types) (λ n named. named) }
plain_layer (open_stmt.Empty place) = record { good = empty_good place; says = λ around scope types. still scope (typed.empty place) types refl refl }
plain_layer (open_stmt.Simple s semicolon) = record {
  good = sentence_good s.value semicolon;
  says = λ around scope types. made scope (simple_statement s.value scope types) (λ y. typed.sentence y semicolon) (λ y. refl) (λ y. refl);
}
plain_layer (open_stmt.While keyword opening decides closing body) = record {
  good = while_good keyword decides.value closing (stmt_part body.value.0) body.value.1.good (alone_by body.value.1.says);
  says = λ around scope types. behind_made scope (condition decides.value scope types) _ (λ x.
      around_said scope (stmt_part body.value.0 (in_loop around) scope x.1) (λ s. typed.while_loop keyword x.0 closing s) (body.value.1.says (in_loop around) scope x.1) (λ n named. named.1)
      (λ s is. record { alone = λ none. refl; ended = refl }));
}
plain_layer (open_stmt.For loop) = record { good = loop.value.1.good; says = λ around scope types. again scope (loop.value.1.says around scope types) (λ n named. named) }
plain_layer (open_stmt.RangeFor loop) = record { good = loop.value.1.good; says = λ around scope types. again scope (loop.value.1.says around scope types) (λ n named. named) }
plain_layer (open_stmt.Break keyword semicolon) = record {
  good = break_good keyword semicolon;
  says = λ around scope types. jump_says around.in_loop (typed.loop_break keyword semicolon) keyword scope types refl refl;
}
plain_layer (open_stmt.Continue keyword semicolon) = record {
  good = continue_good keyword semicolon;
  says = λ around scope types. jump_says around.in_loop (typed.loop_continue keyword semicolon) keyword scope types refl refl;
}
plain_layer (open_stmt.Return keyword value semicolon) = record {
  good = return_good keyword value semicolon;
  says = λ around scope types. made scope (returned around.result keyword value scope types) (λ y. typed.returned keyword y semicolon) (λ y. refl) (λ y. refl);
}
plain_layer (open_stmt.Print name items semicolon) = record {
  good = print_good items.items semicolon;
  says = λ around scope types. made scope (conditions.items items.items scope types) (λ y. typed.print y semicolon) (λ y. refl) (λ y. refl);
}
plain_layer (open_stmt.Assert keyword opening decides closing semicolon) = record {
  good = assert_good keyword decides.value closing semicolon;
  says = λ around scope types. made scope (condition decides.value scope types) (λ y. typed.assertion keyword y closing semicolon) (λ y. refl) (λ y. refl);
}

stmt_layer : (l : Layer-Stmt claims) → PartLaws (parts.stmt_step (of_parts_stmt (parts_stmt claims l))) (views.stmt_step (trees_stmt (parts_stmt claims l))) (texts.stmt_step (ends_stmt (parts_stmt claims l)))
stmt_layer (open_stmt.If i) = record { good = i.value.1.good; says = λ around scope types. again scope (i.value.1.says around scope types) (λ n named. named) }
stmt_layer (open_stmt.Plain s) = record { good = s.1.good; says = λ around scope types. again scope (s.1.says around scope types) (λ n named. named) }

if_by : (first : Both claims.branch) (more : Vec (Both claims.else_if) Global) (last : Option (Both claims.else_))
    → PartLaws (parts.if_step (of_parts_if (parts_if claims (record { first = first; more = more; last = last })))) (views.if_step (trees_if (parts_if claims (record { first = first; more = more; last = last })))) (texts.if_step (ends_if (parts_if claims (record { first = first; more = more; last = last }))))
if_by first more None = if_laws first more.items None None None none_good no_else_says
if_by first more (Some last) = if_laws first more.items (Some (else_part last.0)) (Some (else_tree last.0)) (Some (else_part_ends last.0)) last.1.good (λ around scope types. last.1.says around scope types)

-- ---- loops that declare

for_layer : (l : Layer-For claims) → PartLaws (parts.for_step (of_parts_for (parts_for claims l))) (views.for_step (trees_for (parts_for claims l))) false
for_layer l = record {
  good = for_good l.keyword l.first_semicolon l.second_semicolon l.closing l.start l.condition l.step (stmt_part l.body.value.0) l.body.value.1.good (alone_by l.body.value.1.says);
  says = λ around scope types.
      let rest : Tree = for_rest_tree l.first_semicolon l.condition l.second_semicolon l.step in
      let whole : Tree = views.for_step (trees_for (parts_for claims l)) in
      yields_then (StartBehind l.start rest scope) (Said (λ n. IsNamedTree n whole) false [] scope) (for_start_part l.start scope types) _ (start_behind l.start rest scope types) (λ x first.
      behind_made scope (optional_condition l.condition x.0.1 x.1) _ (λ y.
      behind_made scope (optional_simple l.step x.0.1 y.1) _ (λ z.
      loop_said scope (start_names l.start) x.0 (stmt_part l.body.value.0 (in_loop around) x.0.1 z.1) (λ s. typed.for_loop l.keyword x.0.0 l.first_semicolon y.0 l.second_semicolon z.0 l.closing s) first
      (l.body.value.1.says (in_loop around) x.0.1 z.1) (λ n named. (named.0.0, named.1)) (λ s is. record { alone = λ none. refl; ended = refl }))));
}

range_for_layer : (l : Layer-RangeFor claims) → PartLaws (parts.range_for_step (of_parts_range_for (parts_range_for claims l))) (views.range_for_step (trees_range_for (parts_range_for claims l))) false
range_for_layer l = record {
  good = range_good (of_parts_range_for (parts_range_for claims l)) l.body.value.1.good (alone_by l.body.value.1.says);
  says = λ around scope types.
      let whole : Tree = views.range_for_step (trees_range_for (parts_range_for claims l)) in
      yields_then (HeadBehind l.name scope) (Said (λ n. IsNamedTree n whole) false [] scope) (range_head l.ty l.name l.colon l.range.value scope types) _
      (head_behind l.ty l.name l.colon l.range.value scope types) (λ x first.
      loop_said scope (l.name.id ∷ []) x.0 (stmt_part l.body.value.0 (in_loop around) x.0.1 x.1) (λ s. typed.range_loop l.keyword x.0.0.local l.name l.colon x.0.0.range l.closing s) first
      (l.body.value.1.says (in_loop around) x.0.1 x.1) (λ n named. (named.0.0.1.0, named.1)) (λ s is. record { alone = λ none. refl; ended = refl }));
}

-- ---- each block

pub block_laws : (x : Block) → BlockLaws (block_of x) (block_tree x) (block_ends x)
unfolding item_part plain_part stmt_part block_of branch_part else_part else_if_part for_part if_part range_for_part
block_laws = ind-Block
    claims.item claims.plain claims.stmt claims.block claims.branch claims.else_ claims.else_if claims.for_ claims.if_ claims.range_for
    item_made plain_made stmt_made block_made branch_made else_made else_if_made for_made if_made range_for_made
  where
    item_made : (x : Opened-BlockItem) (l : Layer-BlockItem claims) → parts_item claims l ≡ x → claims.item (roll-BlockItem x)
    item_made x l = made_of_three ItemLaws roll-BlockItem item_part block_item_tree item_ends (parts_item claims l) x
        (fold-roll-BlockItem ItemPart Part Part Part Part Part Part Part Part Part
        parts.item_step parts.plain_step parts.stmt_step parts.block_step parts.branch_step parts.else_step parts.else_if_step parts.for_step parts.if_step parts.range_for_step (parts_item claims l))
        (tree_of_item (parts_item claims l))
        (fold-roll-BlockItem Bool Bool Bool Bool Bool Bool Bool Bool Bool Bool
        texts.item_step texts.plain_step texts.stmt_step texts.block_step texts.branch_step texts.else_step texts.else_if_step texts.for_step texts.if_step texts.range_for_step (parts_item claims l))
        (item_layer l)

    plain_made : (x : Opened-PlainStmt) (l : Layer-PlainStmt claims) → parts_plain claims l ≡ x → claims.plain (roll-PlainStmt x)
    plain_made x l = made_of_three PartLaws roll-PlainStmt plain_part plain_stmt_tree plain_ends (parts_plain claims l) x
        (fold-roll-PlainStmt ItemPart Part Part Part Part Part Part Part Part Part
        parts.item_step parts.plain_step parts.stmt_step parts.block_step parts.branch_step parts.else_step parts.else_if_step parts.for_step parts.if_step parts.range_for_step (parts_plain claims l))
        (tree_of_plain (parts_plain claims l))
        (fold-roll-PlainStmt Bool Bool Bool Bool Bool Bool Bool Bool Bool Bool
        texts.item_step texts.plain_step texts.stmt_step texts.block_step texts.branch_step texts.else_step texts.else_if_step texts.for_step texts.if_step texts.range_for_step (parts_plain claims l))
        (plain_layer l)

    stmt_made : (x : Opened-Stmt) (l : Layer-Stmt claims) → parts_stmt claims l ≡ x → claims.stmt (roll-Stmt x)
    stmt_made x l = made_of_three PartLaws roll-Stmt stmt_part stmt_tree stmt_ends (parts_stmt claims l) x
        (fold-roll-Stmt ItemPart Part Part Part Part Part Part Part Part Part
        parts.item_step parts.plain_step parts.stmt_step parts.block_step parts.branch_step parts.else_step parts.else_if_step parts.for_step parts.if_step parts.range_for_step (parts_stmt claims l))
        (tree_of_stmt (parts_stmt claims l))
        (fold-roll-Stmt Bool Bool Bool Bool Bool Bool Bool Bool Bool Bool
        texts.item_step texts.plain_step texts.stmt_step texts.block_step texts.branch_step texts.else_step texts.else_if_step texts.for_step texts.if_step texts.range_for_step (parts_stmt claims l))
        (stmt_layer l)

    block_made : (x : Opened-Block) (l : Layer-Block claims) → parts_block claims l ≡ x → claims.block (roll-Block x)
    block_made x l = made_of_three BlockLaws roll-Block block_of block_tree block_ends (parts_block claims l) x
        (fold-roll-Block ItemPart Part Part Part Part Part Part Part Part Part
        parts.item_step parts.plain_step parts.stmt_step parts.block_step parts.branch_step parts.else_step parts.else_if_step parts.for_step parts.if_step parts.range_for_step (parts_block claims l))
        (tree_of_block (parts_block claims l))
        (fold-roll-Block Bool Bool Bool Bool Bool Bool Bool Bool Bool Bool
        texts.item_step texts.plain_step texts.stmt_step texts.block_step texts.branch_step texts.else_step texts.else_if_step texts.for_step texts.if_step texts.range_for_step (parts_block claims l))
        (record {
          good = block_good (map item_part (map (λ z. z.0) l.items.items)) l.closing (each_of claims.item GoodItem item_part (λ y laws. laws.good) l.items.items);
          says = block_says rules.block fixed.LEFT_BRACE l.opening l.closing (views.at fixed.RIGHT_BRACE l.closing) l.items.items;
        })

    branch_made : (x : Opened-Branch) (l : Layer-Branch claims) → parts_branch claims l ≡ x → claims.branch (roll-Branch x)
    branch_made x l = made_of_three BranchLaws roll-Branch branch_part branch_view branch_ends (parts_branch claims l) x
        (fold-roll-Branch ItemPart Part Part Part Part Part Part Part Part Part
        parts.item_step parts.plain_step parts.stmt_step parts.block_step parts.branch_step parts.else_step parts.else_if_step parts.for_step parts.if_step parts.range_for_step (parts_branch claims l))
        (tree_of_branch (parts_branch claims l))
        (fold-roll-Branch Bool Bool Bool Bool Bool Bool Bool Bool Bool Bool
        texts.item_step texts.plain_step texts.stmt_step texts.block_step texts.branch_step texts.else_step texts.else_if_step texts.for_step texts.if_step texts.range_for_step (parts_branch claims l))
        (record {
          good = branch_good l.keyword l.condition.value l.closing (stmt_part l.body.value.0) l.body.value.1.good (alone_by l.body.value.1.says);
          says = λ around scope types. behind_made scope (condition l.condition.value scope types) _ (λ y.
              around_said scope (stmt_part l.body.value.0 around scope y.1) (λ s. typed.branch l.keyword y.0 l.closing s) (l.body.value.1.says around scope y.1) (λ n named. named)
              (λ s is. record { alone = λ none. refl; ended = is.ended }));
        })

    else_made : (x : Opened-Else) (l : Layer-Else claims) → parts_else claims l ≡ x → claims.else_ (roll-Else x)
    else_made x l = made_of_three PartLaws roll-Else else_part else_tree else_part_ends (parts_else claims l) x
        (fold-roll-Else ItemPart Part Part Part Part Part Part Part Part Part
        parts.item_step parts.plain_step parts.stmt_step parts.block_step parts.branch_step parts.else_step parts.else_if_step parts.for_step parts.if_step parts.range_for_step (parts_else claims l))
        (tree_of_else (parts_else claims l))
        (fold-roll-Else Bool Bool Bool Bool Bool Bool Bool Bool Bool Bool
        texts.item_step texts.plain_step texts.stmt_step texts.block_step texts.branch_step texts.else_step texts.else_if_step texts.for_step texts.if_step texts.range_for_step (parts_else claims l))
        (record { good = l.body.value.1.good; says = λ around scope types. again scope (l.body.value.1.says around scope types) (λ n named. named.1) })

    else_if_made : (x : Opened-ElseIf) (l : Layer-ElseIf claims) → parts_else_if claims l ≡ x → claims.else_if (roll-ElseIf x)
    else_if_made x l = made_of_three ElseIfLaws roll-ElseIf else_if_part else_if_view else_if_ends (parts_else_if claims l) x
        (fold-roll-ElseIf ItemPart Part Part Part Part Part Part Part Part Part
        parts.item_step parts.plain_step parts.stmt_step parts.block_step parts.branch_step parts.else_step parts.else_if_step parts.for_step parts.if_step parts.range_for_step (parts_else_if claims l))
        (tree_of_else_if (parts_else_if claims l))
        (fold-roll-ElseIf Bool Bool Bool Bool Bool Bool Bool Bool Bool Bool
        texts.item_step texts.plain_step texts.stmt_step texts.block_step texts.branch_step texts.else_step texts.else_if_step texts.for_step texts.if_step texts.range_for_step (parts_else_if claims l))
        l.branch.1

    for_made : (x : Opened-For) (l : Layer-For claims) → parts_for claims l ≡ x → claims.for_ (roll-For x)
    for_made x l = made_of_three PartLaws roll-For for_part for_tree (λ x. false) (parts_for claims l) x
        (fold-roll-For ItemPart Part Part Part Part Part Part Part Part Part
        parts.item_step parts.plain_step parts.stmt_step parts.block_step parts.branch_step parts.else_step parts.else_if_step parts.for_step parts.if_step parts.range_for_step (parts_for claims l))
        (tree_of_for (parts_for claims l))
        refl
        (for_layer l)

    if_made : (x : Opened-If) (l : Layer-If claims) → parts_if claims l ≡ x → claims.if_ (roll-If x)
    if_made x l = made_of_three PartLaws roll-If if_part if_tree if_ends (parts_if claims l) x
        (fold-roll-If ItemPart Part Part Part Part Part Part Part Part Part
        parts.item_step parts.plain_step parts.stmt_step parts.block_step parts.branch_step parts.else_step parts.else_if_step parts.for_step parts.if_step parts.range_for_step (parts_if claims l))
        (tree_of_if (parts_if claims l))
        (fold-roll-If Bool Bool Bool Bool Bool Bool Bool Bool Bool Bool
        texts.item_step texts.plain_step texts.stmt_step texts.block_step texts.branch_step texts.else_step texts.else_if_step texts.for_step texts.if_step texts.range_for_step (parts_if claims l))
        (if_by l.first l.more l.last)

    range_for_made : (x : Opened-RangeFor) (l : Layer-RangeFor claims) → parts_range_for claims l ≡ x → claims.range_for (roll-RangeFor x)
    range_for_made x l = made_of_three PartLaws roll-RangeFor range_for_part range_for_tree (λ x. false) (parts_range_for claims l) x
        (fold-roll-RangeFor ItemPart Part Part Part Part Part Part Part Part Part
        parts.item_step parts.plain_step parts.stmt_step parts.block_step parts.branch_step parts.else_step parts.else_if_step parts.for_step parts.if_step parts.range_for_step (parts_range_for claims l))
        (tree_of_range_for (parts_range_for claims l))
        refl
        (range_for_layer l)
