use Rattle.std.proofs.Common.{◌≡◌, ◌<◌, ℕ}
use Rattle.std.specs.Prelude.{IsTrue}
use Rattle.life_sets.specs.NumberSets.{holds}
use Rattle.life_rules.specs.FactSets.{GainsSome}
use Rattle.life_plan.specs.Noted.{Notes}
use Rattle.life_plan.specs.Numbered.{IsAmong}
use Rattle.life_plan.proofs.whole.carry_whole.Given as goal

abbrev pub invariant-loop-l : goal.invariant-loop-l
invariant-loop-l g l =
    let has = g.R.Rows.has in
    record {
      kept : (n m : ℕ) → n < l.l → IsTrue (holds l.due n) → IsTrue (has l.from n m) → IsTrue (has l.into n m);
      some : GainsSome (has l.fn.into) (has l.into) (IsAmong (g.R.Rows.location_limit l.from) (g.R.Rows.element_limit l.from) (has l.from));
      noted : Notes (has l.fn.into) (has l.into) (holds l.fn.gained) (holds l.gained);
      locations : g.R.Rows.location_limit l.into ≡ g.R.Rows.location_limit l.fn.into;
      elements : g.R.Rows.element_limit l.into ≡ g.R.Rows.element_limit l.fn.into;
      gained : l.gained.limit ≡ l.fn.gained.limit;
    }
