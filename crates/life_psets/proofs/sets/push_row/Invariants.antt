use Rattle.std.proofs.Common.{◌≡◌, ◌≤◌, ◌++◌, length, map, slice_get}
use Rattle.life_psets.specs.Sets.{held_elements, in_turn, set_of, set_seen}
use Rattle.life_psets.proofs.sets.push_row.Given as goal

-- the sets of the locations so far were added
abbrev pub invariant-loop-number : goal.invariant-loop-number
invariant-loop-number g l = record {
  within : l.number ≤ length l.table.locations;
  are : map set_seen l.out.items ≡ map set_seen l.fn.out.items ++ in_turn l.number (λ n. set_of l.before (slice_get l.table.locations n) (held_elements l.table (g.R.Rows.has l.row n)));
}
