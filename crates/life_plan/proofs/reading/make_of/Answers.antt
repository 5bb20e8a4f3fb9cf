use Rattle.std.proofs.lemmas.Result.{on_ok_weaker}
use Rattle.life_sets.specs.NumberSets.{holds}
use Rattle.life_plan.specs.Crossing.{crossing_in}
use Rattle.life_plan.proofs.Making.{made_pairs, some_made}
use Rattle.life_plan.proofs.reading.make_of.Goals as goal

pub returns-clause-made : goal.returns-clause-made
returns-clause-made g c =
    on_ok_weaker c.add_facts.result
    (made_pairs (crossing_in c.args.context.now) c.args.location (holds c.args.elements.now) c.new-facts.result.items c.push_all_made.new.facts.items c.deref.result.now c.new-facts.ensures.items c.deref.ensures.value c.in_ok-push_all_made.ensures (g.R.Rows.has c.args.into.now) (g.R.Rows.has c.add_facts.new.row))
    c.add_facts.ensures.added

pub returns-clause-some : goal.returns-clause-some
returns-clause-some g c =
    some_made (crossing_in c.args.context.now) c.args.location (holds c.args.elements.now) c.new-facts.result.items c.push_all_made.new.facts.items c.deref.result.now c.new-facts.ensures.items c.deref.ensures.value c.in_ok-push_all_made.ensures (g.R.Rows.has c.args.into.now) (g.R.Rows.has c.add_facts.new.row) c.add_facts.ensures.between
