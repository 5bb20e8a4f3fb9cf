use Rattle.life_sets.specs.NumberSets.{holds}
use Rattle.life_plan.proofs.Adding.{notes_pair}
use Rattle.life_plan.proofs.row_facts.add_pair.Goals as goal

pub returns-clause-noted : goal.returns-clause-noted
returns-clause-noted g c =
    let has = g.R.Rows.has in
    notes_pair c.args.location c.args.element (has c.args.row.now) (has c.insert.new.self) (holds c.args.gained.now) (holds c.insert_if.new.set) c.in_ok-fresh.fresh
    c.in_ok-fresh.ensures.added c.in_ok-fresh.ensures.fresh c.insert_if.ensures.added
