use Rattle.std.proofs.Common.{◌≡◌, ◌⊎◌, ◌↔◌, ℕ, length, take}
use Rattle.life_plan.specs.Noting.{NamesOther}
use Rattle.life_plan.specs.Numbered.{AreSized, Becomes}
use Rattle.life_plan.proofs.staying.note_changes.Given as goal

abbrev pub invariant-loop-other : goal.invariant-loop-other
invariant-loop-other l = record {
  noted : (d m : ℕ) → Becomes l.becoming.items d m ↔ (Becomes l.fn.becoming.items d m ⊎ ((d ≡ l.e) × NamesOther l.table l.element (take l.other-index l.stays) m));
  sized : AreSized (length l.table.elements) l.becoming.items;
}
