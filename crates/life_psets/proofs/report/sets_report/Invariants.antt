use Rattle.std.proofs.Common.{map}
use Rattle.life_core.specs.Function.{program_of}
use Rattle.life_psets.specs.Sets.{set_seen}
use Rattle.life_psets.proofs.Tables.{IsTableSoFar}
use Rattle.life_psets.proofs.report.sets_report.Given as goal

abbrev pub invariant-loop-index : goal.invariant-loop-index
invariant-loop-index l = IsTableSoFar (program_of l.program) (map set_seen l.sets) l.index (map set_seen l.left) l.text.items
