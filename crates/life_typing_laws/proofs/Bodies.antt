-- The body of a function.
use Rattle.std.proofs.Common.{◌≡◌, Bool, true, false, List, [], None, Ok, sym, ap, subst, ◌∙◌}
use Rattle.life_types.specs.TypeTests.{is_void}
use Rattle.life_types.specs.Types.{Types, HasType}
use Rattle.life_types.specs.declared.ty.TyId.{TyId}
use Rattle.life_tree.specs.Views.{block_tree}
use Rattle.life_tree.specs.declared.stmt.Block.{Block, out-Block}
use Rattle.life_typed.specs.BaseTypes.{type_at}
use Rattle.life_typed.specs.Ends.{ends}
use Rattle.life_typed.specs.Programs.{ProgramForm}
use Rattle.life_typed.specs.TypedStatement.{StmtForm}
use Rattle.life_typed.specs.declared.typed_program.TypedLocal.{TypedLocal}
use Rattle.life_names.specs.Checked.{Checked}
use Rattle.life_names.specs.Environment.{Scope}
use Rattle.life_names.specs.Found.{allowed, given}
use Rattle.life_type_stmt.specs.Bodies.{body, return_fault}
use Rattle.life_type_stmt.specs.Ends.{block_ends}
use Rattle.life_type_stmt.specs.Statements.{block_of}
use Rattle.life_well_typed.specs.Statements.{IsStatement}
use Rattle.life_well_typed.specs.Visible.{Visible}
use Rattle.life_typing_laws.specs.Sound.{IsFinal, IsSound}
use Rattle.life_typing_laws.proofs.Domains.{Around}
use Rattle.life_typing_laws.proofs.Blocks.{block_laws}
use Rattle.life_typing_laws.proofs.NamedTrees.{IsNamedTree}
use Rattle.life_typing_laws.proofs.StatementLaws.{Said}
use Rattle.life_typing_laws.proofs.Statements.{IsPart, is_block}
use Rattle.life_typing_laws.proofs.Steps.{allowed_ok, bound, same_value}
use Rattle.life_typing_laws.proofs.Yields.{Yields}

abbrev pub around_body : TyId → Around
around_body result = record { result = result; in_loop = false }

abbrev ended : TyId → Bool → Block → (StmtForm × Scope) × Types → Checked (StmtForm × Scope)
ended result is_main b x = given (allowed (return_fault is_main (is_void (type_at x.1 result)) (block_ends b)) (out-Block b).closing) (λ _. Ok x)

pub body_reads : (result : TyId) (is_main : Bool) (b : Block) (scope : Scope) (types : Types) (x : (StmtForm × Scope) × Types) → body result is_main b scope types ≡ Ok x
    → block_of b (around_body result) scope types ≡ Ok x
unfolding body
body_reads result is_main b scope types x h =
    let step = bound (block_of b (around_body result) scope types) (ended result is_main b) x h in
    let fine = allowed_ok (return_fault is_main (is_void (type_at step.value.1 result)) (block_ends b)) (out-Block b).closing (λ _. Ok step.value) x step.behind in
    step.gave ∙ ap (λ (y : (StmtForm × Scope) × Types). Ok y) (same_value step.value x fine.1)

pub body_said : (result : TyId) (is_main : Bool) (b : Block) (scope : Scope) (types : Types)
    → Yields (Said (λ n. IsNamedTree n (block_tree b)) (block_ends b) [] scope) (body result is_main b scope types)
body_said result is_main b scope types x h = (block_laws b).says (around_body result) scope types x (body_reads result is_main b scope types x h)

pub body_part : (result : TyId) (is_main : Bool) (b : Block) (v : Visible) (scope : Scope) (types : Types) (x : (StmtForm × Scope) × Types) → body result is_main b scope types ≡ Ok x
    → IsSound v scope types → HasType types result → IsPart [] (around_body result) v scope types x
body_part result is_main b v scope types x h sound there =
    (block_laws b).good.good (around_body result) v scope types x (body_reads result is_main b scope types x h) sound there

pub body_block : (result : TyId) (is_main : Bool) (b : Block) (scope : Scope) (types : Types) (x : (StmtForm × Scope) × Types) → body result is_main b scope types ≡ Ok x → is_block x.0.0 ≡ true
body_block result is_main b scope types x h = (block_laws b).good.block (around_body result) scope types x (body_reads result is_main b scope types x h)

-- no return is missing at its end
pub body_ends : (result : TyId) (is_main : Bool) (b : Block) (scope : Scope) (types : Types) (x : (StmtForm × Scope) × Types) → body result is_main b scope types ≡ Ok x
    → return_fault is_main (is_void (type_at x.1 result)) (ends x.0.0) ≡ None
unfolding body
body_ends result is_main b scope types x h =
    let step = bound (block_of b (around_body result) scope types) (ended result is_main b) x h in
    let fine = allowed_ok (return_fault is_main (is_void (type_at step.value.1 result)) (block_ends b)) (out-Block b).closing (λ _. Ok step.value) x step.behind in
    subst (λ (y : (StmtForm × Scope) × Types). return_fault is_main (is_void (type_at y.1 result)) (ends y.0.0) ≡ None) (same_value step.value x fine.1)
    (subst (λ (e : Bool). return_fault is_main (is_void (type_at step.value.1 result)) e ≡ None) (sym ((block_laws b).says (around_body result) scope types step.value step.gave).is.ended) fine.0)

-- a body is well typed in a program that has in the end what there is behind it
pub bodies : (p : ProgramForm) (locals : List TypedLocal) (result : TyId) (is_main : Bool) (b : Block) (v : Visible) (scope : Scope) (types : Types) (x : (StmtForm × Scope) × Types)
    → body result is_main b scope types ≡ Ok x → IsSound v scope types → HasType types result → IsFinal p locals x.0.1 x.1
    → IsStatement p locals result x.0.0 false v
bodies p locals result is_main b v scope types x h sound there final = (body_part result is_main b v scope types x h sound there).is p locals final
