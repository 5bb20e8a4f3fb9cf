use Rattle.std.proofs.Common.{◌≡◌, length}
use Rattle.life_core.specs.Function.{function_of}
use Rattle.life_core.specs.Node.{spot_seen}
use Rattle.life_fix.proofs.ToldFacts.{AreToldBelow}
use Rattle.life_fix.proofs.told.told_facts.Given as goal

-- the facts so far are those about the locations so far
abbrev pub invariant-loop-number : goal.invariant-loop-number
invariant-loop-number g l = record {
  so_far : AreToldBelow l.types (function_of l.f) (spot_seen l.spot) l.table (g.R.Rows.has l.row) l.number l.facts.items;
  limit : l.elements.limit ≡ length l.table.elements;
}
