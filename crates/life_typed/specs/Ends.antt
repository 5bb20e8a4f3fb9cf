-- Which statements control can't run past by what their text says.
use Rattle.std.specs.Prelude.{Bool, true, false, ◌&&◌}
use Rattle.life_typed.specs.TypedStatement.{StmtForm, block, branching, returned, branch, chain}

-- a return ends, a block ends if its last statement does, and an `if` with `else` if all branches do
abbrev mutual
  pub ends : StmtForm → Bool
  ends (block items closing) = last_ends items false
  ends (returned keyword value semicolon) = true
  ends (branching branches last) = all_end branches && ends last
  ends (branch keyword condition closing body) = ends body
  ends _ = false

  -- the last of these, or what stands before them
  pub last_ends : StmtForm → Bool → Bool
  last_ends (chain first others) before = last_ends others (ends first)
  last_ends _ before = before

  pub all_end : StmtForm → Bool
  all_end (chain first others) = ends first && all_end others
  all_end _ = true
