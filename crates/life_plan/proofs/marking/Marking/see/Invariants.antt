use Rattle.std.proofs.Common.{◌≡◌, ℕ, false, length}
use Rattle.std.specs.Prelude.{IsTrue}
use Rattle.life_sets.specs.NumberSets.{holds}
use Rattle.life_plan.specs.Carried.{AreSeen, due_from}
use Rattle.life_plan.specs.Crossing.{crossing_in}
use Rattle.life_plan.specs.Numbered.{IsMarking}
use Rattle.life_plan.proofs.marking.Marking.see.Given as goal

-- the locations below this one aren't due any more
abbrev pub invariant-loop-q : goal.invariant-loop-q
invariant-loop-q g l = record {
  is : IsMarking (crossing_in l.context) l.self;
  limit : l.elements.limit ≡ length l.context.table.now.elements;
  seen : AreSeen (crossing_in l.context) l.self (due_from l.q (holds l.due)) (g.R.Rows.has l.from);
  mark : l.self.mark ≡ l.fn.self.mark;
  grew : l.grew ≡ false → (n : ℕ) → IsTrue (holds l.self.mask n) → IsTrue (holds l.fn.self.mask n);
}
