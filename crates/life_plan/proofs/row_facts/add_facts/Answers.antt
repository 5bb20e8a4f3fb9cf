use Rattle.std.proofs.Common.{rules}
use Rattle.life_pset.specs.Table.{Names}
use Rattle.life_rules.specs.FactSets.{IsPairOf}
use Rattle.life_sets.specs.NumberSets.{holds}
use Rattle.life_plan.proofs.Growing.{notes_more}
use Rattle.life_plan.proofs.Adding.{adds_drop, adds_past, one_of, some_more}
use Rattle.life_plan.proofs.row_facts.add_facts.Goals as goal

pub returns-in_err-add_fact-clause-between : goal.returns-in_err-add_fact-clause-between
returns-in_err-add_fact-clause-between g c =
    let has = g.R.Rows.has in
    let t = c.args.table.now in
    some_more (has c.args.row.now) (has c.loop-fact.row) (has c.add_fact.new.row) (IsPairOf t c.args.facts.now) (λ l e. Names t l e _)
    (one_of t c.args.facts.now c.loop-fact.fact-index _ c.loop-fact-test.true) c.loop-fact.invariant.between c.in_err-add_fact.ensures.between

pub loop-fact-preserved : goal.loop-fact-preserved
loop-fact-preserved g c =
    let has = g.R.Rows.has in
    let t = c.args.table.now in
    let inv = c.loop-fact.invariant in
    let one = c.in_ok-add_fact.ensures in
    record {
      rest = λ new more. inv.rest new (adds_drop t c.args.facts.now c.loop-fact.fact-index _ (has c.loop-fact.row) (has c.add_fact.new.row) new c.loop-fact-test.true one.added more);
      between = some_more (has c.args.row.now) (has c.loop-fact.row) (has c.add_fact.new.row) (IsPairOf t c.args.facts.now) (λ l e. Names t l e _) (one_of t c.args.facts.now c.loop-fact.fact-index _ c.loop-fact-test.true) inv.between one.between;
      noted = notes_more (has c.args.row.now) (has c.loop-fact.row) (has c.add_fact.new.row) (holds c.args.gained.now) (holds c.loop-fact.gained) (holds c.add_fact.new.gained) (λ l e. (inv.between l e).0) (λ l e. (one.between l e).0) inv.noted one.noted;
      locations = search rules;
      elements = search rules;
      gained = search rules;
    }

pub returns-clause-added : goal.returns-clause-added
returns-clause-added g c =
    c.loop-fact.invariant.rest (g.R.Rows.has c.loop-fact.row) (adds_past c.args.table.now c.args.facts.now c.loop-fact.fact-index (g.R.Rows.has c.loop-fact.row) c.loop-fact-test.false)
