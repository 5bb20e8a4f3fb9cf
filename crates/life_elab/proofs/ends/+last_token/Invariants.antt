use Rattle.std.proofs.Common.{◌≡◌, drop, map}
use Rattle.life_typed.specs.TypedStatement.{branch_view, stmt_forms}
use Rattle.life_elab.specs.LastTokens.{last_token}
use Rattle.life_elab.proofs.ends.+last_token.Given as goal

abbrev pub invariant-last_of_branches-branches : goal.invariant-last_of_branches-branches
invariant-last_of_branches-branches l =
    last_token (stmt_forms (map branch_view (drop l.branch-index l.branches))) l.token
    ≡ last_token (stmt_forms (map branch_view l.branches)) l.initial.token
