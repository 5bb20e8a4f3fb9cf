use Rattle.std.proofs.Common.{◌≡◌, ◌≤◌, length, slice_get}
use Rattle.life_psets.specs.Sets.{element_if, in_turn}
use Rattle.life_psets.proofs.sets.elements_of.Given as goal

-- the elements so far are those of the numbers so far
abbrev pub invariant-loop-number : goal.invariant-loop-number
invariant-loop-number g l = record {
  within : l.number ≤ length l.table.elements;
  are : l.elements.items ≡ in_turn l.number (λ e. element_if (g.R.Rows.has l.row l.location e) (slice_get l.table.elements e));
}
