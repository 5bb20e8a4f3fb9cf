-- Bodies of functions. One with a result whose end may be reached lacks a return, but for `main` (ISO/IEC 14882:2017 [stmt.return], [basic.start.main]).
use Rattle.std.specs.Prelude.{Bool, true, false, Option, Some, None, Ok}
use Rattle.life_types.specs.TypeTests.{is_void}
use Rattle.life_types.specs.Types.{Types}
use Rattle.life_types.specs.declared.ty.TyId.{TyId}
use Rattle.life_tree.specs.declared.stmt.Block.{Block, out-Block}
use Rattle.life_typed.specs.TypedStatement.{StmtForm}
use Rattle.life_names.specs.Checked.{Checked, ◌>>=◌}
use Rattle.life_type_stmt.specs.Ends.{block_ends}
use Rattle.life_names.specs.Environment.{Scope}
use Rattle.life_names.specs.Found.{allowed, given}
use Rattle.life_type_stmt.specs.Statements.{block_of}
use Rattle.life_typed.specs.BaseTypes.{type_at}
use Rattle.life_names.specs.declared.fault.IllKind.{IllKind}
use Rattle.life_names.specs.declared.fault.IllKind.TheVariants as kinds

-- `main`, what answers nothing, and what ends need no return at their end
abbrev pub return_fault : (is_main void ends : Bool) → Option IllKind
return_fault true void ends = None
return_fault false true ends = None
return_fault false false true = None
return_fault false false false = Some kinds.MissingReturn

-- the body of a function that answers this
unfoldable pub body : TyId → Bool → Block → Scope → Types → Checked (StmtForm × Scope)
body result is_main b scope types =
    block_of b (record { result = result; in_loop = false }) scope types >>= (λ x.
    given (allowed (return_fault is_main (is_void (type_at x.1 result)) (block_ends b)) (out-Block b).closing) (λ _. Ok x))
