use Rattle.std.proofs.Common.{◌+◌, ◌≤◌, drop, map}
use Rattle.life_core.specs.Function.{program_of}
use Rattle.life_fix.specs.Programs.{most_program_steps, most_steps_in}
use Rattle.life_psets.specs.Sets.{set_seen}
use Rattle.life_psets.proofs.Adding.{IsSoFar}
use Rattle.life_psets.proofs.sets.sets_of.Given as goal

-- the sets so far are those of the functions so far, and there are steps left for the others
abbrev pub invariant-loop-index : goal.invariant-loop-index
invariant-loop-index g l =
    let p = program_of l.program in
    record {
      sets : IsSoFar p l.index (map set_seen l.lines.items);
      ticks : l.steps + most_steps_in p.types (drop l.index p.functions) ≤ l.fn.steps + most_program_steps p;
    }
