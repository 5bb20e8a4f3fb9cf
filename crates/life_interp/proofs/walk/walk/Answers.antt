use Rattle.std.proofs.Common.{◌≡◌, ℕ, Result, Err, ◌-◌, ◌<◌, [], ◌++◌, drop, ap, refl, subst, sym, ◌∙◌, arith}
use Rattle.life_core.specs.Function.{program_of}
use Rattle.life_interp.specs.Cells.{world_of}
use Rattle.life_cells.specs.Fits.{meant}
use Rattle.life_changes.specs.Bounded.{IsBounded}
use Rattle.life_interp.specs.Fits.{most_births}
use Rattle.life_interp.specs.Walk.{walk}
use Rattle.life_interp.specs.Walking.{from}
use Rattle.life_interp.specs.declared.ending.Halt.{Halt}
use Rattle.life_interp.proofs.WalkLemmas.{untouched}
use Rattle.life_interp.proofs.WholeWalks.{a_step, ends_there, takes_on}
use Rattle.life_interp.proofs.walk.walk.Goals as goal

abbrev failed : Halt → Result ℕ Halt
failed h = Err h

pub loop-left-init : goal.loop-left-init
loop-left-init g c = record {
  there = c.requires.frames;
  fits = c.requires.fits;
  sound = c.requires.sound;
  bounded = c.requires.bounded;
  countable = c.requires.countable;
  limit = refl;
  walked = λ s set growing depth. ([], untouched (g.O.Sink.taken c.args.out.now) (g.O.Sink.faults c.args.out.now), refl);
}

pub stride-rest-requires : goal.stride-rest-requires
stride-rest-requires g c =
    let h = c.loop-left.invariant in
    record {
      tables = c.requires.tables;
      layouts = c.requires.layouts;
      frames = h.there;
      fits = h.fits;
      sound = h.sound;
      bounded = h.bounded;
      countable = h.countable;
    }

-- no step is left
pub returns-then-rest-eq0 : goal.returns-then-rest-eq0
returns-then-rest-eq0 g c = λ s set growing depth.
    let p = program_of c.args.program.now in
    let at = c.loop-left in
    let strode = c.stride-rest in
    let content = meant p.types (g.S.Store.content strode.new.store) (g.S.Store.rows strode.new.store) in
    let ins = drop at.taken c.args.input.now in
    let went = at.invariant.walked s set growing depth in
    let on = strode.ensures.step s (record { cells = set.cells ∙ sym at.invariant.limit; texts = set.texts }) ins went.0 in
    (world_of content went.0 ins, went.1, went.2 ∙ on ∙ ap (λ n. from p.functions strode.new.frames content ins (walk s p n) n went.0) c.if-rest-eq0.true)

pub pass-requires : goal.pass-requires
pass-requires g c =
    let p = program_of c.args.program.now in
    let h = c.loop-left.invariant in
    let q = c.stride-rest.ensures in
    record {
      linked = c.requires.linked;
      layouts = c.requires.layouts;
      begin = c.requires.begin;
      frames = q.frames;
      fits = q.fits;
      sound = q.sound;
      bounded = subst (λ n. IsBounded n (meant p.types (g.S.Store.content c.stride-rest.new.store) (g.S.Store.rows c.stride-rest.new.store))) (sym q.limit) q.bounded;
      countable = record { births = omega (arith, q.countable.births, c.if-rest-eq0.false); clock = omega (arith, q.countable.clock, c.if-rest-eq0.false) };
      room = subst (λ n. n < most_births) (sym (q.limit ∙ h.limit)) c.requires.room;
    }

pub returns-in-Err : goal.returns-in-Err
returns-in-Err g c = λ s set growing depth.
    let p = program_of c.args.program.now in
    let at = c.loop-left in
    let strode = c.stride-rest in
    let content = g.S.Store.content in
    let rows = g.S.Store.rows in
    let ins = drop at.taken c.args.input.now in
    let went = at.invariant.walked s set growing depth in
    let on = strode.ensures.step s (record { cells = set.cells ∙ sym at.invariant.limit; texts = set.texts }) ins went.0 in
    let taken = g.O.Sink.taken in
    let faults = g.O.Sink.faults in
    ends_there s p strode.new.frames (meant p.types (content strode.new.store) (rows strode.new.store)) ins
    (from p.functions c.args.frames.now (meant p.types (content c.args.store.now) (rows c.args.store.now)) (drop c.args.taken.now c.args.input.now) (walk s p c.args.steps) c.args.steps [])
    strode.result c.in-Err.halt
    (taken c.args.out.now) (taken at.out) (taken c.pass.new.out) (faults c.args.out.now) (faults at.out) (faults c.pass.new.out)
    went.0 (omega (arith, c.if-rest-eq0.false)) went.1 (went.2 ∙ on)
    (c.in-Err.ensures.step s (record { cells = set.cells ∙ sym (strode.ensures.limit ∙ at.invariant.limit); texts = set.texts }) growing depth)

pub loop-left-preserved : goal.loop-left-preserved
loop-left-preserved g c =
    let at = c.loop-left in
    let h = at.invariant in
    let strode = c.stride-rest in
    let q = c.in-Ok.ensures in
    let taken = g.O.Sink.taken in
    let faults = g.O.Sink.faults in
    record {
      there = q.frames;
      fits = q.fits;
      sound = q.sound;
      bounded =
          let p = program_of c.args.program.now in
          subst (λ n. IsBounded n (meant p.types (g.S.Store.content c.pass.new.store) (g.S.Store.rows c.pass.new.store))) (sym c.pass.ensures.limit) q.bounded;
      countable = record {
        births = omega (arith, strode.ensures.countable.births, q.grows.births, c.if-rest-eq0.false);
        clock = omega (arith, strode.ensures.countable.clock, q.grows.clock, c.if-rest-eq0.false);
      };
      limit = c.pass.ensures.limit ∙ strode.ensures.limit ∙ h.limit;
      walked = λ s set growing depth.
          let p = program_of c.args.program.now in
          let ins = drop at.taken c.args.input.now in
          let went = h.walked s set growing depth in
          let on = strode.ensures.step s (record { cells = set.cells ∙ sym h.limit; texts = set.texts }) ins went.0 in
          let did = q.step s (record { cells = set.cells ∙ sym (strode.ensures.limit ∙ h.limit); texts = set.texts }) growing depth in (
            went.0 ++ did.0,
            takes_on (taken c.args.out.now) (taken at.out) (taken c.pass.new.out) (faults c.args.out.now) (faults at.out) (faults c.pass.new.out) went.0 did.0 went.1 did.1,
            went.2
                ∙ on
                ∙ a_step s p strode.new.frames (meant p.types (g.S.Store.content strode.new.store) (g.S.Store.rows strode.new.store)) ins strode.result went.0 (omega (arith, c.if-rest-eq0.false))
                ∙ did.2 (walk s p (strode.result - 1)) (strode.result - 1) went.0,
          );
    }

pub returns : goal.returns
returns g c = λ s set growing depth.
    let p = program_of c.args.program.now in
    let at = c.loop-left in
    let content = meant p.types (g.S.Store.content at.store) (g.S.Store.rows at.store) in
    let ins = drop at.taken c.args.input.now in
    let went = at.invariant.walked s set growing depth in
    let none : at.left ≡ 0 = omega (arith, c.loop-left-test.false) in
    (world_of content went.0 ins, went.1, went.2 ∙ ap (λ n. from p.functions at.frames content ins (walk s p n) n went.0) none)
