use Rattle.std.proofs.Common.{◌+◌, ◌*◌}
use Rattle.life_expr.proofs.types.+types.Given as goal

abbrev pub decreases-type_name : goal.decreases-type_name
decreases-type_name l = 8 * l.left + 5

abbrev pub decreases-unqualified : goal.decreases-unqualified
decreases-unqualified l = 8 * l.left + 4

abbrev pub decreases-base : goal.decreases-base
decreases-base l = 8 * l.left + 3

abbrev pub decreases-base_of_std : goal.decreases-base_of_std
decreases-base_of_std l = 8 * l.left + 2

abbrev pub decreases-argument : goal.decreases-argument
decreases-argument l = 8 * l.left + 1

abbrev pub decreases-type_below : goal.decreases-type_below
decreases-type_below l = 8 * l.left
