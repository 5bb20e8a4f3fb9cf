use Rattle.std.proofs.Common.{◌≡◌, ◌≤◌, ◌++◌}
use Rattle.life_vectors.specs.Generated.{lines, state}
use Rattle.life_vectors.proofs.program.push_functions.Given as goal

-- the functions so far, by the states so far
abbrev pub invariant-loop-index : goal.invariant-loop-index
invariant-loop-index l = record {
  within : l.index ≤ l.size;
  at : l.state ≡ state l.number l.index;
  are : l.out.items ≡ l.fn.out.items ++ lines l.number l.index;
}
