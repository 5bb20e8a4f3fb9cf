use Rattle.std.proofs.Common.{◌∙◌, sym}
use Rattle.std.proofs.lemmas.Result.{on_ok_weaker}
use Rattle.life_sets.specs.NumberSets.{holds}
use Rattle.life_plan.specs.Numbered.{KeepsFrom}
use Rattle.life_plan.proofs.Growing.{notes_none, some_none}
use Rattle.life_plan.proofs.Keeping.{kept_between, kept_joined, notes_joined, written_not}
use Rattle.life_plan.proofs.Unmoved.{unmoved_kept, unmoved_some}
use Rattle.life_plan.proofs.keep.keep_at.Goals as goal

pub returns-then-contains-clause-kept : goal.returns-then-contains-clause-kept
returns-then-contains-clause-kept g c =
    written_not c.args.staying.now c.args.marking.now (g.R.Rows.location_limit c.args.from.now) (g.R.Rows.element_limit c.args.from.now) (g.R.Rows.has c.args.from.now) (g.R.Rows.has c.args.into.now) c.args.l (sym c.contains.ensures ∙ c.if-contains.true)

pub returns-then-contains-clause-some : goal.returns-then-contains-clause-some
returns-then-contains-clause-some g c =
    some_none (g.R.Rows.has c.args.into.now) (KeepsFrom c.args.staying.now c.args.marking.now (g.R.Rows.location_limit c.args.from.now) (g.R.Rows.element_limit c.args.from.now) (g.R.Rows.has c.args.from.now))

pub returns-then-contains-clause-noted : goal.returns-then-contains-clause-noted
returns-then-contains-clause-noted g c = notes_none (g.R.Rows.has c.args.into.now) (holds c.args.gained.now)

pub returns-in_err-fresh-clause-some : goal.returns-in_err-fresh-clause-some
returns-in_err-fresh-clause-some g c =
    kept_between c.args.staying.now c.args.marking.now (g.R.Rows.location_limit c.args.from.now) (g.R.Rows.element_limit c.args.from.now) (g.R.Rows.has c.args.from.now) c.args.l c.read.new.into c.leave.new.after c.requires.location (c.read.ensures.limit ∙ c.requires.room.before)
    (sym c.contains.ensures ∙ c.if-contains.false) c.read.ensures.read c.leave.ensures.leads (g.R.Rows.has c.args.into.now) (g.R.Rows.has c.join_at.new.self) c.in_err-fresh.ensures.between

pub returns-clause-kept : goal.returns-clause-kept
returns-clause-kept g c =
    kept_joined c.args.staying.now c.args.marking.now (g.R.Rows.location_limit c.args.from.now) (g.R.Rows.element_limit c.args.from.now) (g.R.Rows.has c.args.from.now) c.args.l c.read.new.into c.leave.new.after c.requires.location (c.read.ensures.limit ∙ c.requires.room.before)
    (sym c.contains.ensures ∙ c.if-contains.false) c.read.ensures.read c.leave.ensures.leads (g.R.Rows.has c.args.into.now) (g.R.Rows.has c.join_at.new.self) c.in_ok-fresh.ensures.joined

pub returns-clause-some : goal.returns-clause-some
returns-clause-some g c =
    kept_between c.args.staying.now c.args.marking.now (g.R.Rows.location_limit c.args.from.now) (g.R.Rows.element_limit c.args.from.now) (g.R.Rows.has c.args.from.now) c.args.l c.read.new.into c.leave.new.after c.requires.location (c.read.ensures.limit ∙ c.requires.room.before)
    (sym c.contains.ensures ∙ c.if-contains.false) c.read.ensures.read c.leave.ensures.leads (g.R.Rows.has c.args.into.now) (g.R.Rows.has c.join_at.new.self) c.in_ok-fresh.ensures.between

pub returns-clause-noted : goal.returns-clause-noted
returns-clause-noted g c =
    notes_joined c.args.l (holds c.leave.new.after) (g.R.Rows.has c.args.into.now) (g.R.Rows.has c.join_at.new.self) (holds c.args.gained.now) (holds c.insert_if.new.set) c.in_ok-fresh.fresh c.in_ok-fresh.ensures.joined c.in_ok-fresh.ensures.gained c.insert_if.ensures.added

pub returns-then-still-clause-kept : goal.returns-then-still-clause-kept
returns-then-still-clause-kept g c =
    on_ok_weaker c.carry_at.result
    (unmoved_kept c.args.staying.now c.args.marking.now (c.requires.still c.if-still.true) (g.R.Rows.location_limit c.args.from.now) (g.R.Rows.element_limit c.args.from.now) (g.R.Rows.has c.args.from.now) c.args.l (g.R.Rows.has c.carry_at.new.into))
    c.carry_at.ensures.kept

pub returns-then-still-clause-some : goal.returns-then-still-clause-some
returns-then-still-clause-some g c =
    unmoved_some c.args.staying.now c.args.marking.now (c.requires.still c.if-still.true) (g.R.Rows.location_limit c.args.from.now) (g.R.Rows.element_limit c.args.from.now) (g.R.Rows.has c.args.from.now) c.args.l
    (sym c.contains.ensures ∙ c.if-contains.false) (g.R.Rows.has c.args.into.now) (g.R.Rows.has c.carry_at.new.into) c.carry_at.ensures.some
