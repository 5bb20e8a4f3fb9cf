use Rattle.std.proofs.Common.{◌+◌, ◌≤◌, drop, map}
use Rattle.life_core.specs.Function.{program_of}
use Rattle.life_fix.specs.Candidates.{candidate_seen}
use Rattle.life_fix.specs.Programs.{most_program_steps, most_steps_in}
use Rattle.life_fix.proofs.ProgramFound.{AreFoundIn, IsDiagnosedUpTo}
use Rattle.life_fix.proofs.program.program_diagnostics.Given as goal

-- the candidates so far are those of the functions so far, and there are steps left for the others
abbrev pub invariant-loop-index : goal.invariant-loop-index
invariant-loop-index g l =
    let p = program_of l.program in
    record {
      found : AreFoundIn (IsDiagnosedUpTo p l.index) p (map candidate_seen l.candidates.items);
      ticks : l.steps + most_steps_in p.types (drop l.index p.functions) ≤ l.fn.steps + most_program_steps p;
    }
