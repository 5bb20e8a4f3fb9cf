-- Parts of statements as the functions of the program hand them on.
use Rattle.std.specs.Prelude.{Box, Option, Some, None, List, ◌∷◌, map}
use Rattle.std.specs.declared.alloc.Global.{Global}
use Rattle.life_types.specs.Types.{Types}
use Rattle.life_tree.specs.declared.stmt.If.{If, out-If}
use Rattle.life_typed.specs.TypedStatement.{StmtForm, no_more, stmt_view}
use Rattle.life_typed.specs.declared.typed_stmt.TypedStmt.{TypedStmt}
use Rattle.life_names.specs.Checked.{Checked}
use Rattle.life_names.specs.Environment.{Scope}
use Rattle.life_type_stmt.specs.Statements.{in_turn, branch_part, else_if_part}
use Rattle.life_type_stmt.specs.declared.around.Around.{Around}

abbrev pub optional_stmt_view : Option (Box TypedStmt Global) → StmtForm
optional_stmt_view None = no_more
optional_stmt_view (Some s) = stmt_view s.value

-- the branches that have a condition
abbrev pub branches_part : If → Around → Scope → Types → Checked (List StmtForm × Scope)
branches_part i around scope types = in_turn (branch_part (out-If i).first ∷ map else_if_part (out-If i).more.items) around scope types
