use Rattle.std.proofs.Common.{◌≡◌, true, false, sym}
use Rattle.life_stmt.proofs.StartsReads.{starts_front, starts_behind}
use Rattle.life_stmt.proofs.fronts.starts_block_item.Goals as goal
use Rattle.life_expr.specs.Heads.{declaration_heads}
use Rattle.life_expr.specs.Read.{starts}
use Rattle.life_stmt.specs.Statements.{item_tail_heads}

pub returns-then-starts_declared : goal.returns-then-starts_declared
returns-then-starts_declared c =
    let h : starts declaration_heads c.args.tokens.now ≡ true = cc in
    sym (starts_front declaration_heads item_tail_heads c.args.tokens.now h)

pub returns : goal.returns
returns c =
    let h : starts declaration_heads c.args.tokens.now ≡ false = cc in
    rw (starts_behind declaration_heads item_tail_heads c.args.tokens.now h) c.starts_statement.ensures
