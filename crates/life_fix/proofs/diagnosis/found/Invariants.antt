use Rattle.std.proofs.Common.{◌≡◌, length}
use Rattle.life_core.specs.Function.{function_of}
use Rattle.life_fix.proofs.Finding.{AreFoundUpTo}
use Rattle.life_fix.proofs.diagnosis.found.Given as goal

-- all that is wrong at the points so far
abbrev pub invariant-loop-index : goal.invariant-loop-index
invariant-loop-index g l = record {
  found : AreFoundUpTo l.sigs l.types l.id.0 (function_of l.f) l.index l.all.items;
  limit : l.elements.limit ≡ length l.table.elements;
}
