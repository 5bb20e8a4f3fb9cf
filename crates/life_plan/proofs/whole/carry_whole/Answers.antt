use Rattle.std.proofs.Common.{◌∙◌, ◌<◌, ℕ, sym, arith, rules}
use Rattle.life_sets.specs.NumberSets.{holds}
use Rattle.life_plan.specs.Numbered.{IsAmong, IsAmongAt}
use Rattle.life_plan.proofs.AllKept.{whole_more, whole_past}
use Rattle.life_plan.proofs.Growing.{notes_more, notes_none, some_as, some_includes, some_more, some_none}
use Rattle.life_plan.proofs.whole.carry_whole.Goals as goal
use Rattle.life_plan.proofs.whole.carry_whole.Goals.{else-is_due, then-is_due+in_ok-carry_at}

pub loop-l-init : goal.loop-l-init
loop-l-init g c = record {
  kept = λ n m lt here h. absurd (omega (arith, lt));
  some = some_none (g.R.Rows.has c.args.into.now) (IsAmong (g.R.Rows.location_limit c.args.from.now) (g.R.Rows.element_limit c.args.from.now) (g.R.Rows.has c.args.from.now));
  noted = notes_none (g.R.Rows.has c.args.into.now) (holds c.args.gained.now);
  locations = search rules;
  elements = search rules;
  gained = search rules;
}

pub loop-l-preserved : goal.loop-l-preserved
loop-l-preserved g c =
    let has = g.R.Rows.has in
    let ls = g.R.Rows.location_limit c.args.from.now in
    let es = g.R.Rows.element_limit c.args.from.now in
    let among : ℕ → ℕ → Type 0 = IsAmong ls es (has c.args.from.now) in
    let was = c.loop-l.invariant in
    elim c.if-is_due.branch [
      | then-is_due+in_ok-carry_at w ↦
          let now = w.carry_at.ensures in
          let some = some_as (has c.loop-l.into) (has w.carry_at.new.into) (IsAmongAt c.loop-l.l ls es (has c.args.from.now)) among (λ n m h. h.1) now.some in
          rw (w.into-is, w.gained-is)
          (record {
            kept = whole_more ls es (holds c.args.due.now) (has c.args.from.now) (has c.loop-l.into) (has w.carry_at.new.into) c.loop-l.l was.kept (some_includes (has c.loop-l.into) (has w.carry_at.new.into) among some) w.in_ok-carry_at.ensures.kept;
            some = some_more (has c.args.into.now) (has c.loop-l.into) (has w.carry_at.new.into) among was.some some;
            noted = notes_more (has c.args.into.now) (has c.loop-l.into) (has w.carry_at.new.into) (holds c.args.gained.now) (holds c.loop-l.gained) (holds w.carry_at.new.gained) (some_includes (has c.args.into.now) (has c.loop-l.into) among was.some)
                (some_includes (has c.loop-l.into) (has w.carry_at.new.into) among some) was.noted w.in_ok-carry_at.ensures.noted;
            locations = now.locations ∙ was.locations;
            elements = now.elements ∙ was.elements;
            gained = now.gained ∙ was.gained;
          })
      | else-is_due w ↦
          rw (w.into-is, w.gained-is)
          (record {
            kept = whole_past ls es (holds c.args.due.now) (has c.args.from.now) (has c.loop-l.into) (has c.loop-l.into) c.loop-l.l was.kept (λ n m h. h) (sym c.contains-is_due.ensures ∙ w.if-is_due.false);
            some = was.some;
            noted = was.noted;
            locations = was.locations;
            elements = was.elements;
            gained = was.gained;
          })
    ]

pub returns-clause-kept : goal.returns-clause-kept
returns-clause-kept g c = λ l m here lt h.
    let within : l < g.R.Rows.location_limit c.args.from.now = lt in
    c.loop-l.invariant.kept l m (omega (arith, within, c.requires.due, c.limit-l-end.ensures, c.loop-l-test.false)) here h
