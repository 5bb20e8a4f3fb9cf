use Rattle.std.proofs.Common.{◌+◌, ◌*◌}
use Rattle.life_stmt.proofs.targets.+targets.Given as goal

abbrev pub decreases-target : goal.decreases-target
decreases-target l = 2 * l.left + 1

abbrev pub decreases-target_below : goal.decreases-target_below
decreases-target_below l = 2 * l.left
