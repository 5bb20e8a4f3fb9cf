use Rattle.life_plan.proofs.Adding.{holds_iff}
use Rattle.life_plan.proofs.row_facts.facts_in.Goals as goal

pub returns : goal.returns
returns g c =
    rw (c.in_ok-push_pairs.ensures, c.new-facts.ensures.items, c.deref.ensures.value)
    (holds_iff c.args.table.now c.in_ok-pairs.pairs.items (g.R.Rows.has c.args.row.now) c.in_ok-pairs.ensures.each)
