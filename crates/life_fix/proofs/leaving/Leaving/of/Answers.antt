use Rattle.std.proofs.Common.{ℕ, arith, subst, sym}
use Rattle.std.proofs.lemmas.Grind.{common_steps}
use Rattle.life_core.specs.Function.{function_of}
use Rattle.life_core.specs.Linked.{points_of}
use Rattle.life_fix.specs.Solving.{IsBegin}
use Rattle.life_fix.proofs.PutBack.{begins_more}
use Rattle.life_fix.proofs.States.{joined_at}
use Rattle.life_fix.proofs.leaving.Leaving.of.Goals as goal

pub pass_before-first-requires-clause-ascending : goal.pass_before-first-requires-clause-ascending
pass_before-first-requires-clause-ascending c = c.requires.ascend

pub loop-point-preserved : goal.loop-point-preserved
loop-point-preserved c =
    let edges = c.args.flow.now.edges.now in
    let was = c.loop-point.invariant in
    let first = c.pass_before-first.result in
    let new = c.pass_before-first.ensures in
    record {
      count = rw c.in_ok-push.ensures.items (grind (arith, common_steps, was.count));
      each =
          rw c.in_ok-push.ensures.items
          (begins_more edges c.loop-point.firsts.items first was.each (subst (λ (n : ℕ). IsBegin edges n first) (sym was.count) new));
      early = λ k edge at lt. let before = (new.1 k edge at).0 lt in omega (arith, before);
    }

pub returns : goal.returns
returns c = record {
  each = c.loop-point.invariant.each;
  reach = λ k edge at.
      let f = function_of c.args.flow.now.f.now in
      let ends = joined_at (points_of f) c.args.flow.now.edges.now k edge c.requires.join at in
      omega (arith, ends.3, c.requires.count, c.loop-point.invariant.count, c.loop-point-test.false);
}
