use Rattle.std.proofs.Common.{◌≡◌}
use Rattle.std.specs.Prelude.{IsTrue}
use Rattle.life_core.specs.Function.{program_of}
use Rattle.life_proper_check.proofs.Written.{AreWrittenBelow}
use Rattle.life_proper_check.proofs.results.are_written.Given as goal

-- the program is as before, and those so far write their results
abbrev pub invariant-loop-number : goal.invariant-loop-number
invariant-loop-number l =
    let p = program_of l.fn.p in
    (program_of l.p ≡ p) × (IsTrue l.written → AreWrittenBelow p.names p.types p.functions l.number)
