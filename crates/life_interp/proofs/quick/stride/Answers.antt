use Rattle.std.proofs.Common.{◌≡◌, ◌-◌, ◌<◌, ℕ, List, [], ap, length, map, refl, subst, sym, ◌∙◌, arith}
use Rattle.std.proofs.lemmas.List.{length-map}
use Rattle.std.proofs.lemmas.Option.{slice_get-map, slice_get_read}
use Rattle.std.specs.Prelude.{option_map}
use Rattle.std.specs.declared.alloc.Global.{Global}
use Rattle.std.specs.declared.vec.Vec.{Vec}
use Rattle.life_core.specs.Function.{function_of, name_bytes, program_of}
use Rattle.life_core.specs.Linked.{code_of}
use Rattle.life_store.specs.Content.{Content}
use Rattle.life_store.specs.Doing.{Setting}
use Rattle.life_store.specs.declared.run.Growth.TheVariants as growth
use Rattle.life_cells.specs.Fits.{meant}
use Rattle.life_changes.specs.Bounded.{IsBounded}
use Rattle.life_interp.specs.Fits.{CanWalk}
use Rattle.life_interp.specs.Flats.{table_of}
use Rattle.life_interp.specs.Frames.{function_at}
use Rattle.life_interp.specs.Quick.{FramesLeft, PassesTo, Whether}
use Rattle.life_interp.specs.Walk.{walk}
use Rattle.life_interp.specs.Walking.{from, passes}
use Rattle.life_interp.specs.declared.frames.Frames.{Frames}
use Rattle.life_interp.proofs.CodeLists.{function_there}
use Rattle.life_interp.proofs.FlatSteps.{table_at, tables_length}
use Rattle.life_interp.proofs.QuickSteps.{left_meant}
use Rattle.life_interp.proofs.WholeWalks.{a_step}
use Rattle.life_interp.proofs.quick.stride.Goals as goal

pub loop-left-init : goal.loop-left-init
loop-left-init g c = record {
  there = c.requires.frames;
  fits = c.requires.fits;
  sound = c.requires.sound;
  bounded = c.requires.bounded;
  countable = c.requires.countable;
  limit = refl;
  fewer = omega arith;
  function = refl;
  walked = λ s set ins output. refl;
}

pub pass_at_once-requires : goal.pass_at_once-requires
pass_at_once-requires g c =
    let p = program_of c.args.program.now in
    let at = c.loop-left in
    let h = at.invariant in
    let n = c.args.frames.now.function in
    let tables = c.args.tables.now in
    let v = c.index-tables-frames.result in
    let lt : n < length (map code_of p.functions) = omega (arith, c.requires.frames.here, length-map p.functions code_of) in
    let read = slice_get_read tables _ n v refl (omega (arith, lt, tables_length tables (map code_of p.functions) c.requires.tables)) c.index-tables-frames.is in
    let all = c.args.program.now.functions in
    let f_at = slice_get_read all.items all.len n c.index-f.result.now all.ok.0 (omega (arith, c.requires.frames.here, length-map all.items function_of, all.ok.0)) c.index-f.ensures in
    let f = function_of c.index-f.result.now in
    let f_is = function_there p.functions n f (slice_get-map function_of all.items n ∙ ap (option_map function_of) f_at) in
    record {
      scope = record {
        types = refl;
        texts = ap (λ (ts : List (Vec ℕ Global)). map name_bytes ts) c.deref-2.ensures.value;
        function = sym f_is ∙ ap (function_at p.functions) (sym h.function);
      };
      table = c.as_slice-table.ensures.value ∙ table_at tables p.functions n v c.requires.tables read c.requires.frames.here ∙ ap (λ k. table_of (function_at p.functions k)) (sym h.function);
      layouts = c.requires.layouts;
      frames = h.there;
      fits = h.fits;
      sound = h.sound;
      bounded = subst (λ n. IsBounded n (meant p.types (g.S.Store.content at.store) (g.S.Store.rows at.store))) (sym h.limit) h.bounded;
      countable = record { births = omega (arith, h.countable.births, c.loop-left-test.true); clock = omega (arith, h.countable.clock, c.loop-left-test.true) };
    }

-- the point isn't passed at once, and all is as it was
pub returns-then-not-pass_at_once : goal.returns-then-not-pass_at_once
returns-then-not-pass_at_once g c =
    let p = program_of c.args.program.now in
    let at = c.loop-left in
    let h = at.invariant in
    let q = c.pass_at_once.ensures in
    let content = g.S.Store.content at.store in
    let rows = g.S.Store.rows at.store in
    let m = meant p.types content rows in
    let now = c.pass_at_once.new.frames in
    let after = g.S.Store.content c.pass_at_once.new.store in
    let places = g.S.Store.rows c.pass_at_once.new.store in
    let seen = meant p.types after places in
    let some : Setting = record { given = record { growth = growth.Always; cells = g.S.Store.limit at.store; depth = 0 }; texts = p.texts } in
    let still : FramesLeft content after rows places at.frames now =
    subst (λ b. Whether b (PassesTo (passes some p at.frames m []) p.functions now seen []) (FramesLeft content after rows places at.frames now)) c.if-not-pass_at_once.true (q.step some (record { cells = refl; texts = refl }) []) in
    record {
      step = λ s set ins output.
          let left : FramesLeft content after rows places at.frames now =
          subst (λ b. Whether b (PassesTo (passes s p at.frames m ins) p.functions now seen ins) (FramesLeft content after rows places at.frames now)) c.if-not-pass_at_once.true (q.step s (record { cells = set.cells ∙ sym h.limit; texts = set.texts }) ins) in
          h.walked s set ins output
          ∙ sym (ap (λ (x : Content). from p.functions now x ins (walk s p at.left) at.left output) (left_meant p.types content after rows places left.content left.rows)
          ∙ ap (λ (f : Frames). from p.functions f m ins (walk s p at.left) at.left output) left.frames);
      fewer = h.fewer;
      frames = q.frames;
      fits = q.fits;
      sound = q.sound;
      bounded = subst (λ n. IsBounded n seen) h.limit q.bounded;
      countable = subst (CanWalk at.left) (sym still.content) h.countable;
      limit = q.limit ∙ h.limit;
    }

-- the point is passed
pub loop-left-preserved : goal.loop-left-preserved
loop-left-preserved g c =
    let p = program_of c.args.program.now in
    let at = c.loop-left in
    let h = at.invariant in
    let q = c.pass_at_once.ensures in
    let content = g.S.Store.content at.store in
    let rows = g.S.Store.rows at.store in
    let m = meant p.types content rows in
    let now = c.pass_at_once.new.frames in
    let after = g.S.Store.content c.pass_at_once.new.store in
    let places = g.S.Store.rows c.pass_at_once.new.store in
    let seen = meant p.types after places in
    record {
      there = q.frames;
      fits = q.fits;
      sound = q.sound;
      bounded = subst (λ n. IsBounded n seen) h.limit q.bounded;
      countable = record { births = omega (arith, h.countable.births, q.grows.births, c.loop-left-test.true); clock = omega (arith, h.countable.clock, q.grows.clock, c.loop-left-test.true) };
      limit = q.limit ∙ h.limit;
      fewer = omega (arith, h.fewer);
      function = q.function ∙ h.function;
      walked = λ s set ins output.
          let did : PassesTo (passes s p at.frames m ins) p.functions now seen ins =
          subst (λ b. Whether b (PassesTo (passes s p at.frames m ins) p.functions now seen ins) (FramesLeft content after rows places at.frames now)) c.if-not-pass_at_once.false (q.step s (record { cells = set.cells ∙ sym h.limit; texts = set.texts }) ins) in
          h.walked s set ins output ∙ a_step s p at.frames m ins at.left output c.loop-left-test.true ∙ did (walk s p (at.left - 1)) (at.left - 1) output;
    }

-- no step is left
pub returns : goal.returns
returns g c =
    let p = program_of c.args.program.now in
    let at = c.loop-left in
    let h = at.invariant in
    let m = meant p.types (g.S.Store.content at.store) (g.S.Store.rows at.store) in
    let none : at.left ≡ 0 = omega (arith, c.loop-left-test.false) in
    record {
      step = λ s set ins output. h.walked s set ins output ∙ ap (λ n. from p.functions at.frames m ins (walk s p n) n output) none;
      fewer = omega arith;
      frames = h.there;
      fits = h.fits;
      sound = h.sound;
      bounded = h.bounded;
      countable = subst (λ n. CanWalk n (g.S.Store.content at.store)) none h.countable;
      limit = h.limit;
    }
