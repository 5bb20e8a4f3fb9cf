use Rattle.std.proofs.Common.{◌≡◌, ◌∷◌, [], true, false, sym}
use Rattle.life_stmt.proofs.StartsReads.{starts_front, starts_behind}
use Rattle.life_stmt.proofs.fronts.starts_type_or_auto.Goals as goal
use Rattle.life_expr.specs.Heads.{quoted_kind, type_heads}
use Rattle.life_expr.specs.Read.{starts}
use Rattle.life_tree.specs.declared.fixed.TheConstants as fixed

pub returns-then-starts_type : goal.returns-then-starts_type
returns-then-starts_type c =
    let h : starts type_heads c.args.tokens.now ≡ true = cc in
    sym (starts_front type_heads (quoted_kind fixed.AUTO ∷ []) c.args.tokens.now h)

pub returns : goal.returns
returns c =
    let h : starts type_heads c.args.tokens.now ≡ false = cc in
    rw (starts_behind type_heads (quoted_kind fixed.AUTO ∷ []) c.args.tokens.now h) c.starts.ensures
