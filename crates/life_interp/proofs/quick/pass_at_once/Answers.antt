use Rattle.std.proofs.Common.{◌≡◌, ◌⊎◌, ⊎_elim, ◌<◌, ◌++◌, ℕ, Option, Some, [], length, ap, refl, subst, sym, ◌∙◌, arith}
use Rattle.std.specs.Prelude.{option_and_then, option_copied, slice_get}
use Rattle.std.specs.declared.alloc.Global.{Global}
use Rattle.std.specs.declared.vec.Vec.{Vec}
use Rattle.life_core.specs.Function.{program_of}
use Rattle.life_core.specs.Linked.{goes}
use Rattle.life_core.specs.Step.{NonZero}
use Rattle.life_core.specs.Tree.{Action, Question}
use Rattle.life_store.specs.Doing.{Setting}
use Rattle.life_store.specs.declared.run.Growth.TheVariants as growth
use Rattle.life_cells.specs.Fits.{meant, IsFit}
use Rattle.life_cells.specs.declared.cell.Cell.{Cell}
use Rattle.life_interp.specs.Flats.{step_in}
use Rattle.life_interp.specs.Frames.{waiting_cells, AreThere}
use Rattle.life_interp.specs.Quick.{FramesLeft, PassesTo}
use Rattle.life_interp.specs.Walk.{second_way}
use Rattle.life_interp.specs.Walking.{acts, passes, StandsHere}
use Rattle.life_interp.specs.declared.flat.Act.TheVariants as act
use Rattle.life_interp.specs.declared.flat.Flat.{Flat}
use Rattle.life_interp.specs.declared.frames.Waiting.{Waiting}
use Rattle.life_interp.proofs.FlatSteps.{flat_point, is_act, node_is, other_no_test, question_there, test_is, tested_sound}
use Rattle.life_interp.proofs.PointLemmas.{passes_node}
use Rattle.life_interp.proofs.QuickSteps.{left_as, left_so, whether_as}
use Rattle.life_interp.proofs.SoundFrames.{action_there}
use Rattle.life_interp.proofs.quick.pass_at_once.Goals as goal

-- ---- nothing is done at once

pub returns-in-None : goal.returns-in-None
returns-in-None g c = record {
  step = λ s set ins. record { content = refl; rows = refl; frames = refl };
  frames = c.requires.frames;
  fits = c.requires.fits;
  sound = c.requires.sound;
  bounded = c.requires.bounded;
  grows = record { births = omega arith; clock = omega arith };
  function = refl;
  limit = refl;
}

pub returns-in-Other : goal.returns-in-Other
returns-in-Other g c = record {
  step = λ s set ins. record { content = refl; rows = refl; frames = refl };
  frames = c.requires.frames;
  fits = c.requires.fits;
  sound = c.requires.sound;
  bounded = c.requires.bounded;
  grows = record { births = omega arith; clock = omega arith };
  function = refl;
  limit = refl;
}

-- ---- an instruction

pub act_at_once-requires-clause-here : goal.act_at_once-requires-clause-here
act_at_once-requires-clause-here g c =
    let p = program_of c.args.program.now in
    let frames = c.args.frames.now in
    let x = c.in-Some.flat.now in
    let found : option_and_then (slice_get c.args.table.now) frames.point ≡ Some x = sym c.flat_at.ensures ∙ ap option_copied c.in-Some.is in
    let does = is_act x.act c.in_default.not-Other c.in_default.not-Test in
    ⊎_elim
    (λ none. absurd (c.in_default.not-Other (ap (λ (y : Flat). y.act) none)))
    (λ h. let node = node_is h.0.spot.node (second_way h.0.leads) does.0 (ap (λ (y : Flat). step_in y.act) h.2 ∙ does.1) in
    (does.0, does.1, h.0.spot.place, subst (λ (to : Option ℕ). StandsHere p frames h.0.spot.place (Action does.0) (goes to)) (ap (λ (y : Flat). y.to) h.2) (action_there p frames h.0 h.1 does.0 node)))
    (flat_point p.functions frames c.args.table.now x c.requires.table found)

pub returns-in_default-clause-step : goal.returns-in_default-clause-step
returns-in_default-clause-step g c = λ s set ins.
    let p = program_of c.args.program.now in
    let frames = c.args.frames.now in
    let m = meant p.types (g.S.Store.content c.args.store.now) (g.S.Store.rows c.args.store.now) in
    let x = c.in-Some.flat.now in
    let found : option_and_then (slice_get c.args.table.now) frames.point ≡ Some x = sym c.flat_at.ensures ∙ ap option_copied c.in-Some.is in
    let does = is_act x.act c.in_default.not-Other c.in_default.not-Test in
    ⊎_elim
    (λ none. absurd (c.in_default.not-Other (ap (λ (y : Flat). y.act) none)))
    (λ h. let node = node_is h.0.spot.node (second_way h.0.leads) does.0 (ap (λ (y : Flat). step_in y.act) h.2 ∙ does.1) in
    whether_as c.act_at_once.result _ _ _
    (λ go_on go n output.
    passes_node s p frames m ins h.0 (Action does.0) h.1 node go n output
    ∙ ap (λ to. acts s p frames m ins does.0 h.0.spot.place to go n output) (ap (λ (y : Flat). y.to) h.2)
    ∙ go_on go n output)
    (c.act_at_once.ensures.step s set ins does.0 does.1 h.0.spot.place))
    (flat_point p.functions frames c.args.table.now x c.requires.table found)

-- ---- a test

pub returns-in-Test : goal.returns-in-Test
returns-in-Test g c =
    let p = program_of c.args.program.now in
    let frames = c.args.frames.now in
    let content = g.S.Store.content c.args.store.now in
    let rows = g.S.Store.rows c.args.store.now in
    let m = meant p.types content rows in
    let x = c.in-Some.flat.now in
    let found : option_and_then (slice_get c.args.table.now) frames.point ≡ Some x = sym c.flat_at.ensures ∙ ap option_copied c.in-Some.is in
    let new = c.test_at_once.new.frames in
    let r = c.in-Test.register in
    let q = c.test_at_once.ensures in
    ⊎_elim
    (λ none. absurd (other_no_test r c.in-Test.failed (sym (ap (λ (y : Flat). y.act) none) ∙ c.in-Test.is)))
    (λ h. let is = test_is h.0.spot.node (second_way h.0.leads) r c.in-Test.failed (ap (λ (y : Flat). y.act) h.2 ∙ c.in-Test.is) in
    let first = ap (λ (y : Flat). y.to) h.2 in
    let here : StandsHere p frames h.0.spot.place (Question (NonZero r)) h.0.leads = question_there p frames h.0 (NonZero r) h.1 is.0 in
    record {
      step = λ s set ins.
          let left = FramesLeft content content rows rows frames new in
          whether_as c.test_at_once.result _ (PassesTo (passes s p frames m ins) p.functions new m ins) left
          (λ go_on go n output. passes_node s p frames m ins h.0 (Question (NonZero r)) h.1 is.0 go n output ∙ go_on go n output)
          (left_as c.test_at_once.result _ (new ≡ frames) left (λ e. record { content = refl; rows = refl; frames = e }) (q.step s p m ins h.0.leads first is.1));
      frames = record {
        here = subst (λ (n : ℕ). n < length p.functions) (sym q.function) c.requires.frames.here;
        there = subst (λ (ws : Vec Waiting Global). AreThere p.functions ws.items) (sym q.waiting) c.requires.frames.there;
      };
      fits =
          subst (λ (ws : Vec Waiting Global). IsFit p.types content rows (waiting_cells ws.items ++ new.cells.items)) (sym q.waiting)
          (subst (λ (cs : Vec Cell Global). IsFit p.types content rows (waiting_cells frames.waiting.items ++ cs.items)) (sym q.cells) c.requires.fits);
      sound =
          let some : Setting = record { given = record { growth = growth.Always; cells = 0; depth = 0 }; texts = p.texts } in
          tested_sound p frames m c.requires.sound h.0.spot.place (NonZero r) h.0.leads here new q.function q.cells q.waiting c.test_at_once.result (q.point h.0.leads first is.1) (left_so c.test_at_once.result _ _ (q.step some p m [] h.0.leads first is.1));
      bounded = c.requires.bounded;
      grows = record { births = omega arith; clock = omega arith };
      function = q.function;
      limit = refl;
    })
    (flat_point p.functions frames c.args.table.now x c.requires.table found)
