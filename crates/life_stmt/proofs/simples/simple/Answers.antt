use Rattle.std.proofs.Common.{◌≡◌, ◌∷◌, [], false}
use Rattle.life_stmt.proofs.SimpleReads.{simple_behind}
use Rattle.life_stmt.proofs.simples.simple.Goals as goal
use Rattle.life_expr.specs.Heads.{quoted_kind}
use Rattle.life_expr.specs.Read.{starts}
use Rattle.life_expr.specs.Readers.{below}
use Rattle.life_tree.specs.Views.{target_tree}
use Rattle.life_tree.specs.declared.fixed.TheConstants as fixed

pub returns : goal.returns
returns c =
    let n = c.args.left in
    let f : starts (quoted_kind fixed.PLUS_PLUS ∷ []) c.args.tokens.now ≡ false = cc in
    let g : starts (quoted_kind fixed.MINUS_MINUS ∷ []) c.args.tokens.now ≡ false = cc in
    rw (simple_behind n (below n) c.args.tokens.now (target_tree c.in_ok-target-3.target) c.in_ok-target-3.rest.now f g c.in_ok-target-3.ensures) c.behind_target.ensures
