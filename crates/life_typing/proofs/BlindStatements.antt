-- What a statement means, and whether it ends, is the same when the statement is settled.
use Rattle.std.proofs.Common.{◌≡◌, Bool, Option, None, Some, refl}
use Rattle.std.specs.Prelude.{false, option_map}
use Rattle.life_types.specs.Types.{Types}
use Rattle.life_types.specs.declared.ty.TyId.{TyId}
use Rattle.life_tree.specs.declared.stmt.Block.{Block}
use Rattle.life_tree.specs.declared.stmt.BlockItem.TheOpen as open_stmt
use Rattle.life_tree.specs.declared.stmt.ForStart.{ForStart}
use Rattle.life_tree.specs.declared.stmt.ForStart.TheVariants as for_start
use Rattle.life_names.specs.Environment.{Scope}
use Rattle.life_type_stmt.specs.Bodies.{body}
use Rattle.life_type_stmt.specs.Ends as ends
use Rattle.life_type_stmt.specs.Ends.{block_ends}
use Rattle.life_type_stmt.specs.Statements.{ItemPart, Part, block_of, for_start_part, start_names, item_step, plain_step, stmt_step, block_step, branch_step, else_step, else_if_step, for_step, if_step, range_for_step}
use Rattle.life_unique.specs.SettledStatements.{bare_item, bare_plain, bare_stmt, bare_branch, bare_for, bare_range_for, settled_block, settled_start}
use Rattle.life_unique.proofs.OutsSeen.{closing_seen}
use Rattle.life_unique.proofs.StatementsSeen.{block_seen}
use Rattle.life_typing.proofs.BlindDeclarations.{declaration_blind, range_head_blind}
use Rattle.life_typing.proofs.BlindSimples.{condition_blind, items_blind, optional_condition_blind, optional_simple_blind, returned_blind, simple_blind}
use Rattle.life_typing.proofs.BlindSteps.{bind_as}

-- ---- what a `for` begins with

start_blind : (s : Option ForStart) (scope : Scope) (types : Types) → for_start_part (option_map settled_start s) scope types ≡ for_start_part s scope types
start_blind None scope types = refl
start_blind (Some (for_start.Declaration d)) scope types = bind_as (declaration_blind d.value scope types) (λ x. refl)
start_blind (Some (for_start.Simple s)) scope types = bind_as (simple_blind s.value scope types) (λ x. refl)

names_blind : (s : Option ForStart) → start_names (option_map settled_start s) ≡ start_names s
names_blind None = refl
names_blind (Some (for_start.Declaration d)) = refl
names_blind (Some (for_start.Simple s)) = refl

-- ---- no step looks at an address

item_at : (l : open_stmt.BlockItem-F ItemPart Part Part Part Part Part Part Part Part Part) (around : _) (scope : Scope) (types : Types) →
    (item_step (bare_item l)).part around scope types ≡ (item_step l).part around scope types
item_at (open_stmt.Declare d semicolon) around scope types = bind_as (declaration_blind d.value scope types) (λ x. refl)
item_at (open_stmt.Stmt s) around scope types = refl

item_blind : (l : open_stmt.BlockItem-F ItemPart Part Part Part Part Part Part Part Part Part) → item_step (bare_item l) ≡ item_step l
item_blind (open_stmt.Declare d semicolon) = λ i. record {
  declares = Some d.value.name.id;
  part = λ around scope types. item_at (open_stmt.Declare d semicolon) around scope types i;
}
item_blind (open_stmt.Stmt s) = refl

plain_at : (l : open_stmt.PlainStmt-F ItemPart Part Part Part Part Part Part Part Part Part) (around : _) (scope : Scope) (types : Types) →
    plain_step (bare_plain l) around scope types ≡ plain_step l around scope types
plain_at (open_stmt.Simple s semicolon) around scope types = bind_as (simple_blind s.value scope types) (λ x. refl)
plain_at (open_stmt.While keyword opening condition closing body) around scope types = bind_as (condition_blind condition.value scope types) (λ x. refl)
plain_at (open_stmt.Return keyword value semicolon) around scope types = bind_as (returned_blind _ keyword value scope types) (λ x. refl)
plain_at (open_stmt.Print name parts semicolon) around scope types = bind_as (items_blind parts.items scope types) (λ x. refl)
plain_at (open_stmt.Assert keyword opening condition closing semicolon) around scope types = bind_as (condition_blind condition.value scope types) (λ x. refl)
plain_at _ around scope types = refl

stmt_at : (l : open_stmt.Stmt-F ItemPart Part Part Part Part Part Part Part Part Part) (around : _) (scope : Scope) (types : Types) →
    stmt_step (bare_stmt l) around scope types ≡ stmt_step l around scope types
stmt_at (open_stmt.If i) around scope types = refl
stmt_at (open_stmt.Plain s) around scope types = refl

branch_at : (l : open_stmt.Branch-F ItemPart Part Part Part Part Part Part Part Part Part) (around : _) (scope : Scope) (types : Types) →
    branch_step (bare_branch l) around scope types ≡ branch_step l around scope types
branch_at l around scope types = bind_as (condition_blind l.condition.value scope types) (λ x. refl)

for_at : (l : open_stmt.For-F ItemPart Part Part Part Part Part Part Part Part Part) (around : _) (scope : Scope) (types : Types) →
    for_step (bare_for l) around scope types ≡ for_step l around scope types
for_at l around scope types =
    bind_as (start_blind l.start scope types) (λ x. bind_as (optional_condition_blind l.condition x.0.1 x.1) (λ y.
    bind_as (optional_simple_blind l.step x.0.1 y.1) (λ z. rw (names_blind l.start) refl)))

range_for_at : (l : open_stmt.RangeFor-F ItemPart Part Part Part Part Part Part Part Part Part) (around : _) (scope : Scope) (types : Types) →
    range_for_step (bare_range_for l) around scope types ≡ range_for_step l around scope types
range_for_at l around scope types = bind_as (range_head_blind l.ty l.name l.colon l.range.value scope types) (λ x. refl)

-- ---- so no meaning does

pub block_blind : (b : Block) → block_of (settled_block b) ≡ block_of b
unfolding block_of
block_blind = block_seen ItemPart Part Part Part Part Part Part Part Part Part
    item_step plain_step stmt_step block_step branch_step else_step else_if_step for_step if_step range_for_step
    item_blind (λ l i around scope types. plain_at l around scope types i) (λ l i around scope types. stmt_at l around scope types i) (λ l. refl)
    (λ l i around scope types. branch_at l around scope types i) (λ l. refl) (λ l i around scope types. for_at l around scope types i) (λ l. refl)
    (λ l i around scope types. range_for_at l around scope types i)

-- ---- .. and so do bodies that end

item_ends : (l : open_stmt.BlockItem-F Bool Bool Bool Bool Bool Bool Bool Bool Bool Bool) → ends.item_step (bare_item l) ≡ ends.item_step l
item_ends (open_stmt.Declare d semicolon) = refl
item_ends (open_stmt.Stmt s) = refl

plain_ends : (l : open_stmt.PlainStmt-F Bool Bool Bool Bool Bool Bool Bool Bool Bool Bool) → ends.plain_step (bare_plain l) ≡ ends.plain_step l
plain_ends (open_stmt.Block b) = refl
plain_ends _ = refl

stmt_ends : (l : open_stmt.Stmt-F Bool Bool Bool Bool Bool Bool Bool Bool Bool Bool) → ends.stmt_step (bare_stmt l) ≡ ends.stmt_step l
stmt_ends (open_stmt.If i) = refl
stmt_ends (open_stmt.Plain s) = refl

pub ends_blind : (b : Block) → block_ends (settled_block b) ≡ block_ends b
ends_blind = block_seen Bool Bool Bool Bool Bool Bool Bool Bool Bool Bool
    ends.item_step ends.plain_step ends.stmt_step ends.block_step ends.branch_step ends.else_step ends.else_if_step ends.for_step ends.if_step ends.range_for_step
    item_ends plain_ends stmt_ends (λ l. refl) (λ l. refl) (λ l. refl) (λ l. refl) (λ l. refl) (λ l. refl)

pub body_blind : (result : TyId) (is_main : Bool) (b : Block) (scope : Scope) (types : Types) →
    body result is_main (settled_block b) scope types ≡ body result is_main b scope types
unfolding body
body_blind result is_main b scope types =
    bind_as (λ i. block_blind b i (record { result = result; in_loop = false }) scope types) (λ x. rw (ends_blind b, closing_seen b) refl)
