-- What stands behind the last `else`, if anything.
use Rattle.std.specs.Prelude.{Box, Option, None, Some}
use Rattle.std.specs.declared.alloc.Global.{Global}
use Rattle.life_typed.specs.TypedStatement.{StmtForm, no_more, stmt_view}
use Rattle.life_typed.specs.declared.typed_stmt.TypedStmt.{TypedStmt}

abbrev pub last_view : Option (Box TypedStmt Global) → StmtForm
last_view None = no_more
last_view (Some s) = stmt_view s.value
