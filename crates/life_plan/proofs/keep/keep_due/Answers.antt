use Rattle.std.proofs.Common.{◌∙◌, ◌<◌, ◌||◌, ℕ, Bool, ap, sym, arith, rules}
use Rattle.life_sets.specs.NumberSets.{holds}
use Rattle.life_plan.specs.Numbered.{KeepsFrom}
use Rattle.life_plan.proofs.Growing.{notes_more, notes_none, some_includes, some_more, some_none}
use Rattle.life_plan.proofs.Keeping.{kept_more, kept_past}
use Rattle.life_plan.proofs.keep.keep_due.Goals as goal
use Rattle.life_plan.proofs.keep.keep_due.Goals.{else-is_due, then-is_due+in_ok-keep_at}

pub loop-l-init : goal.loop-l-init
loop-l-init g c = record {
  kept = λ n m lt here h. absurd (omega (arith, lt));
  some = some_none (g.R.Rows.has c.args.into.now) (KeepsFrom c.args.staying.now c.args.marking.now (g.R.Rows.location_limit c.args.from.now) (g.R.Rows.element_limit c.args.from.now) (g.R.Rows.has c.args.from.now));
  noted = notes_none (g.R.Rows.has c.args.into.now) (holds c.args.gained.now);
  locations = search rules;
  elements = search rules;
  gained = search rules;
  room = c.requires.room;
}

pub returns-clause-kept : goal.returns-clause-kept
returns-clause-kept g c = λ l m here h.
    let lt : l < g.R.Rows.location_limit c.args.from.now = h.0 in
    c.loop-l.invariant.kept l m (omega (arith, lt, c.requires.due, c.limit-l-end.ensures, c.loop-l-test.false)) here h

pub loop-l-preserved : goal.loop-l-preserved
loop-l-preserved g c =
    let has = g.R.Rows.has in
    let keeps : ℕ → ℕ → Type 0 = KeepsFrom c.args.staying.now c.args.marking.now (g.R.Rows.location_limit c.args.from.now) (g.R.Rows.element_limit c.args.from.now) (has c.args.from.now) in
    let was = c.loop-l.invariant in
    elim c.if-is_due.branch [
      | then-is_due+in_ok-keep_at w ↦
          let some = w.keep_at.ensures.some in
          rw (w.into-is, w.gained-is, w.workspace-is)
          (record {
            kept = kept_more (g.R.Rows.location_limit c.args.from.now) (g.R.Rows.element_limit c.args.from.now) c.args.staying.now c.args.marking.now c.args.all (holds c.args.due.now) (has c.args.from.now) (has c.loop-l.into) (has w.keep_at.new.into) c.loop-l.l was.kept
                (some_includes (has c.loop-l.into) (has w.keep_at.new.into) keeps some) w.in_ok-keep_at.ensures.kept;
            some = some_more (has c.args.into.now) (has c.loop-l.into) (has w.keep_at.new.into) keeps was.some some;
            noted = notes_more (has c.args.into.now) (has c.loop-l.into) (has w.keep_at.new.into) (holds c.args.gained.now) (holds c.loop-l.gained) (holds w.keep_at.new.gained) (some_includes (has c.args.into.now) (has c.loop-l.into) keeps was.some)
                (some_includes (has c.loop-l.into) (has w.keep_at.new.into) keeps some) was.noted w.in_ok-keep_at.ensures.noted;
            locations = w.keep_at.ensures.locations ∙ was.locations;
            elements = w.keep_at.ensures.elements ∙ was.elements;
            gained = w.keep_at.ensures.gained ∙ was.gained;
            room = w.keep_at.ensures.room;
          })
      | else-is_due w ↦
          rw (w.into-is, w.gained-is, w.workspace-is)
          (record {
            kept = kept_past (g.R.Rows.location_limit c.args.from.now) (g.R.Rows.element_limit c.args.from.now) c.args.staying.now c.args.marking.now c.args.all (holds c.args.due.now) (has c.args.from.now) (has c.loop-l.into) (has c.loop-l.into) c.loop-l.l was.kept
                (λ n m h. h) (sym (ap (λ (x : Bool). c.args.all || x) c.contains.ensures) ∙ w.if-is_due.false);
            some = was.some;
            noted = was.noted;
            locations = was.locations;
            elements = was.elements;
            gained = was.gained;
            room = was.room;
          })
    ]
