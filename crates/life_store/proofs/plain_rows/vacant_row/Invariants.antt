use Rattle.std.proofs.Common.{◌≤◌, ◌-◌, length}
use Rattle.life_store.specs.PlainRows.{AreTaken}
use Rattle.life_store.proofs.plain_rows.vacant_row.Given as goal

-- the rows that were passed have objects
abbrev pub invariant-loop-row : goal.invariant-loop-row
invariant-loop-row l = record { within : l.row ≤ length l.rows; taken : AreTaken l.row l.rows }

abbrev pub decreases-loop-row : goal.decreases-loop-row
decreases-loop-row l = length l.rows - l.row
