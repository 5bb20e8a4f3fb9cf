use Rattle.life_sets.specs.NumberSets.{holds}
use Rattle.life_plan.proofs.AllKept.{among_between, among_joined}
use Rattle.life_plan.proofs.Keeping.{notes_joined}
use Rattle.life_plan.proofs.whole.carry_at.Goals as goal

pub returns-in_err-fresh-clause-some : goal.returns-in_err-fresh-clause-some
returns-in_err-fresh-clause-some g c =
    among_between (g.R.Rows.location_limit c.args.from.now) (g.R.Rows.element_limit c.args.from.now) (g.R.Rows.has c.args.from.now) c.args.l c.requires.location c.join_from.ensures.within
    (g.R.Rows.has c.args.into.now) (g.R.Rows.has c.join_from.new.self) c.join_from.ensures.between

pub returns-clause-kept : goal.returns-clause-kept
returns-clause-kept g c =
    among_joined (g.R.Rows.has c.args.from.now) c.args.l (g.R.Rows.has c.args.into.now) (g.R.Rows.has c.join_from.new.self) c.in_ok-fresh.ensures.joined

pub returns-clause-some : goal.returns-clause-some
returns-clause-some g c =
    among_between (g.R.Rows.location_limit c.args.from.now) (g.R.Rows.element_limit c.args.from.now) (g.R.Rows.has c.args.from.now) c.args.l c.requires.location c.join_from.ensures.within
    (g.R.Rows.has c.args.into.now) (g.R.Rows.has c.join_from.new.self) c.join_from.ensures.between

pub returns-clause-noted : goal.returns-clause-noted
returns-clause-noted g c =
    notes_joined c.args.l (g.R.Rows.has c.args.from.now c.args.l) (g.R.Rows.has c.args.into.now) (g.R.Rows.has c.join_from.new.self) (holds c.args.gained.now) (holds c.insert_if.new.set) c.in_ok-fresh.fresh c.in_ok-fresh.ensures.joined c.in_ok-fresh.ensures.gained c.insert_if.ensures.added
