use Rattle.std.proofs.Common.{◌≡◌, ◌≤◌, ◌∙◌, ◌&&◌, Bool, ap, sym, arith, rules}
use Rattle.std.proofs.lemmas.Bool.{and_parts}
use Rattle.life_plan.proofs.Tabulating.{grown_more}
use Rattle.life_sets.specs.NumberSets.{holds}
use Rattle.life_plan.specs.Crossing.{crossing_in}
use Rattle.life_plan.proofs.Seeing.{seen_first, seen_last, seen_more, seen_none, seen_past}
use Rattle.life_plan.proofs.marking.Marking.see.Goals as goal
use Rattle.life_plan.proofs.marking.Marking.see.Goals.{else-is_due, then-is_due}

pub loop-q-init : goal.loop-q-init
loop-q-init g c = record {
  is = c.requires.is;
  limit = c.requires.limit;
  seen = seen_first (crossing_in c.args.context.now) c.args.self.now (holds c.args.due.now) (g.R.Rows.has c.args.from.now) c.requires.seen;
  mark = search rules;
  grew = λ _ e h. h;
}

pub loop-q-preserved : goal.loop-q-preserved
loop-q-preserved g c =
    let x = crossing_in c.args.context.now in
    let was = c.loop-q.invariant in
    let tests : (holds c.args.due.now c.loop-q.q && holds c.loop-q.self.targets c.loop-q.q) ≡ (c.contains.result && c.contains-in-loop-q.result) = sym (ap (λ (b : Bool). b && c.contains-in-loop-q.result) c.contains.ensures ∙ ap (λ (b : Bool). holds c.args.due.now c.loop-q.q && b) c.contains-in-loop-q.ensures) in
    elim c.if-is_due.branch [
      | then-is_due w ↦
          let both = and_parts (holds c.args.due.now c.loop-q.q) (holds c.loop-q.self.targets c.loop-q.q) (tests ∙ w.if-is_due.true) in
          let now = w.see_at-grew.ensures in
          rw (w.self-is, w.elements-is, w.grew-is)
          (record {
            is = now.is;
            limit = now.limit ∙ was.limit;
            seen = seen_more x c.loop-q.self w.see_at-grew.new.self (holds c.args.due.now) (g.R.Rows.has c.args.from.now) c.loop-q.q was.seen now.targets both.1 now.seen now.mask;
            mark = now.mark ∙ was.mark;
            grew = grown_more (holds c.args.self.now.mask) (holds c.loop-q.self.mask) (holds w.see_at-grew.new.self.mask) c.loop-q.grew w.see_at-grew.result was.grew now.grew;
          })
      | else-is_due w ↦
          rw (w.self-is, w.elements-is, w.grew-is)
          (record {
            is = was.is;
            limit = was.limit;
            seen = seen_past x c.loop-q.self (holds c.args.due.now) (g.R.Rows.has c.args.from.now) c.loop-q.q was.seen (tests ∙ w.if-is_due.false);
            mark = was.mark;
            grew = was.grew;
          })
    ]

pub returns-clause-seen : goal.returns-clause-seen
returns-clause-seen g c =
    let past : c.loop-q.self.targets.limit ≤ c.loop-q.q = omega (arith, c.loop-q.invariant.is.within, c.location_count-q-end.ensures, c.loop-q-test.false) in
    seen_last (crossing_in c.args.context.now) c.loop-q.self (holds c.args.due.now) (g.R.Rows.has c.args.from.now) c.loop-q.q past c.loop-q.invariant.seen

pub returns-then-not-met-clause-seen : goal.returns-then-not-met-clause-seen
returns-then-not-met-clause-seen g c =
    seen_none (crossing_in c.args.context.now) c.args.self.now (holds c.args.due.now) (g.R.Rows.has c.args.from.now) c.meets-met.result c.if-not-met.true c.meets-met.ensures c.requires.seen
