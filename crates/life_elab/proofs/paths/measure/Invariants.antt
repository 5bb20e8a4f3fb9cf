use Rattle.std.proofs.Common.{◌≡◌, length}
use Rattle.life_elab.specs.KeptPaths.{AreKept}
use Rattle.life_elab.proofs.paths.measure.Given as goal

-- the types that were passed
abbrev pub invariant-types : goal.invariant-types
invariant-types l = record {
  count : length l.all.items ≡ l.number;
  kept : AreKept l.types l.number l.all.items;
}
