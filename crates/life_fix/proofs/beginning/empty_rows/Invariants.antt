use Rattle.std.proofs.Common.{◌≡◌, ℕ, length, false}
use Rattle.life_fix.specs.Solution.{AllLimited}
use Rattle.life_fix.specs.Solving.{pairs_at}
use Rattle.life_fix.proofs.beginning.empty_rows.Given as goal

abbrev pub invariant-loop : goal.invariant-loop
invariant-loop g l = record {
  count : length l.rows.items ≡ l.counter;
  none : (p e k : ℕ) → pairs_at g.R.Rows.has l.rows.items p e k ≡ false;
  locations : AllLimited g.R.Rows.location_limit (length l.table.locations) l.rows.items;
  elements : AllLimited g.R.Rows.element_limit (length l.table.elements) l.rows.items;
}
