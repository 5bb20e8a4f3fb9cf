use Rattle.std.proofs.Common.{◌≡◌, ℕ, Bool, drop}
use Rattle.life_sets.specs.NumberSets.{holds}
use Rattle.life_rules.specs.FactSets.{Gains, GainsSome, IsPairOf}
use Rattle.life_plan.specs.Noted.{Notes}
use Rattle.life_plan.proofs.row_facts.add_facts.Given as goal

-- what adds the rest to this row has added all to the first
abbrev pub invariant-loop-fact : goal.invariant-loop-fact
invariant-loop-fact g l =
    let has = g.R.Rows.has in
    record {
      rest : (new : ℕ → ℕ → Bool) → Gains (has l.row) new (IsPairOf l.table (drop l.fact-index l.facts)) → Gains (has l.fn.row) new (IsPairOf l.table l.facts);
      between : GainsSome (has l.fn.row) (has l.row) (IsPairOf l.table l.facts);
      noted : Notes (has l.fn.row) (has l.row) (holds l.fn.gained) (holds l.gained);
      locations : g.R.Rows.location_limit l.row ≡ g.R.Rows.location_limit l.fn.row;
      elements : g.R.Rows.element_limit l.row ≡ g.R.Rows.element_limit l.fn.row;
      gained : l.gained.limit ≡ l.fn.gained.limit;
    }
