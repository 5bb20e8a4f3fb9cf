use Rattle.std.proofs.Common.{◌≡◌, ◌≤◌, length}
use Rattle.life_proper.specs.Knowing.{agreed_all}
use Rattle.life_proper.proofs.Loops.{agreed_from}
use Rattle.life_proper.proofs.knowing.agreed_all.Given as goal

-- the locals so far are what both ways agree on
abbrev pub invariant-loop-i : goal.invariant-loop-i
invariant-loop-i l = record {
  end : l.i-end ≡ length l.known.items;
  within : length l.known.items ≤ length l.second;
  so_far : agreed_from l.i l.known.items l.second ≡ agreed_all l.fn.first.items l.second;
}
