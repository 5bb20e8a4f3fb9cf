use Rattle.std.proofs.Common.{◌≡◌, ◌++◌, Bool, [], Some, Ok, ap, append-nil, refl, subst, sym, ◌∙◌}
use Rattle.std.proofs.lemmas.Option.{same_Some}
use Rattle.std.specs.declared.alloc.Global.{Global}
use Rattle.std.specs.declared.vec.Vec.{Vec}
use Rattle.life_types.specs.Trees.{IsOrdered}
use Rattle.life_types.specs.Types.{Types}
use Rattle.life_core.specs.Function.{Function, program_of}
use Rattle.life_core.specs.Step.{Step}
use Rattle.life_store.specs.Content.{Content}
use Rattle.life_store.specs.Doing.{Next, Setting, does}
use Rattle.life_store.specs.State.{State}
use Rattle.life_store.specs.declared.run.Growth.TheVariants as growth
use Rattle.life_cells.specs.Cells.{state_in, state_of}
use Rattle.life_cells.specs.Fits.{meant, IsFit}
use Rattle.life_cells.specs.Scopes.{function_in}
use Rattle.life_cells.specs.declared.cell.Cell.{Cell}
use Rattle.life_cells.proofs.FitLemmas.{cells_later, other_cells}
use Rattle.life_changes.specs.Bounded.{IsBounded}
use Rattle.life_interp.specs.Accessed.{HasPlaces}
use Rattle.life_interp.specs.Flats.{step_in}
use Rattle.life_interp.specs.Frames.{all_cells, function_at, stack_seen, waiting_cells}
use Rattle.life_interp.specs.Layouts.{AreReady}
use Rattle.life_interp.specs.Quick.{AreLeft, Attempts, DoesTo, Whether}
use Rattle.life_interp.specs.Sound.{IsAt, in_waiting}
use Rattle.life_interp.specs.Steps.{StandsIn}
use Rattle.life_interp.specs.Walking.{IsSoundWalk}
use Rattle.life_interp.specs.declared.frames.Frames.{Frames}
use Rattle.life_interp.proofs.BoundedSteps.{does_bounded}
use Rattle.life_interp.proofs.FitLemmas.{fit_behind, fit_both, fit_front}
use Rattle.life_interp.proofs.FlatSteps.{plain_in}
use Rattle.life_interp.proofs.PointLemmas.{act_goes}
use Rattle.life_interp.proofs.QuickSteps.{left_meant}
use Rattle.life_interp.proofs.ScopedSteps.{attempts_in}
use Rattle.life_interp.proofs.SoundFrames.{own_at, own_sound}
use Rattle.life_interp.proofs.SoundPlaces.{has_places}
use Rattle.life_interp.proofs.quick.act_at_once.Goals as goal

pub do_at_once-requires : goal.do_at_once-requires
do_at_once-requires g c =
    let p = program_of c.args.program.now in
    let frames = c.args.frames.now in
    let content = g.S.Store.content c.args.store.now in
    let rows = g.S.Store.rows c.args.store.now in
    let m = meant p.types content rows in
    let f = function_at p.functions frames.function in
    let a = c.requires.here in
    let there : (i : Step) → step_in c.args.flat.now.act ≡ Some i → IsAt p f i (state_of m frames.cells.items [] []) =
    λ i e. subst (λ (j : Step). IsAt p f j (state_of m frames.cells.items [] [])) (same_Some a.0 i (sym a.1 ∙ e)) (own_at p frames m c.requires.sound a.2 a.0 c.args.flat.now.to a.3 f refl) in
    let q = c.requires.scope in
    let scope = c.args.scope.now in
    let cells = frames.cells.items in
    let seen : Types → State = λ t. state_in (meant t content rows) cells in
    let fits = other_cells p.types content rows (all_cells frames) cells c.requires.fits (fit_behind _ _ (waiting_cells frames.waiting.items) cells c.requires.fits.held) in
    record {
      layouts = subst (λ (t : Types). AreReady t c.args.layouts.now) (sym q.types) c.requires.layouts;
      fits = subst (λ (t : Types). IsFit t content rows cells) (sym q.types) fits;
      places = λ i e.
          subst (λ (t : Types). HasPlaces t (function_in scope) (seen t) i) (sym q.types)
          (subst (λ (h : Function). HasPlaces p.types h (seen p.types) i) (sym q.function) (has_places p f (seen p.types) c.args.layouts.now c.requires.layouts i (there i e)));
      ordered = λ i e. subst IsOrdered (sym q.types) (there i e).sound.proper.well_formed.table;
      stands = λ i e. (
        in_waiting (there i e).behind,
        subst (λ (t : Types). StandsIn t (function_in scope) (in_waiting (there i e).behind) (meant t content rows) cells) (sym q.types)
            (subst (λ (h : Function). StandsIn p.types h (in_waiting (there i e).behind) m cells) (sym q.function) (there i e).sound.sound.stands),
      );
      countable = c.requires.countable;
    }

-- nothing was done
pub returns-then-not-do_at_once : goal.returns-then-not-do_at_once
returns-then-not-do_at_once g c =
    let p = program_of c.args.program.now in
    let frames = c.args.frames.now in
    let content = g.S.Store.content c.args.store.now in
    let rows = g.S.Store.rows c.args.store.now in
    let m = meant p.types content rows in
    let f = function_at p.functions frames.function in
    let a = c.requires.here in
    let d = g.S.Store.content c.do_at_once.new.store in
    let after = g.S.Store.rows c.do_at_once.new.store in
    let some : Setting = record { given = record { growth = growth.Always; cells = g.S.Store.limit c.args.store.now; depth = 0 }; texts = p.texts } in
    let attempts : (i : Step) → step_in c.args.flat.now.act ≡ Some i → Attempts p.types f (g.S.Store.limit c.args.store.now) p.texts i content d rows after frames.cells c.do_at_once.new.cells c.do_at_once.result =
    λ i e. attempts_in p frames.function c.args.scope.now c.requires.scope (g.S.Store.limit c.args.store.now) i content d rows after frames.cells c.do_at_once.new.cells c.do_at_once.result (c.do_at_once.ensures.done i e) in
    let done = attempts a.0 a.1 in
    let told = done.step some (record { cells = refl; texts = refl }) in
    let left : AreLeft content d rows after frames.cells c.do_at_once.new.cells = subst (λ (b : Bool). Whether b (DoesTo (does some p.types f a.0) m frames.cells.items (meant p.types d after) c.do_at_once.new.cells.items) (AreLeft content d rows after frames.cells c.do_at_once.new.cells)) c.if-not-do_at_once.true told in
    let same : record frames { cells = c.do_at_once.new.cells } ≡ frames = ap (λ (cells : Vec Cell Global). record frames { cells = cells }) left.cells in
    let stands = left_meant p.types content d rows after left.content left.rows in
    record {
      step = λ s set ins i e place. record { content = left.content; rows = left.rows; frames = same };
      frames = record { here = c.requires.frames.here; there = c.requires.frames.there };
      fits =
          let waiting = cells_later content d rows after done.later (waiting_cells frames.waiting.items) (fit_front content rows (waiting_cells frames.waiting.items) frames.cells.items c.requires.fits.held) in
          other_cells p.types d after c.do_at_once.new.cells.items (waiting_cells frames.waiting.items ++ c.do_at_once.new.cells.items) done.fits (fit_both _ _ (waiting_cells frames.waiting.items) c.do_at_once.new.cells.items waiting done.fits.held);
      sound = subst (λ (w : Frames). IsSoundWalk p w (meant p.types d after)) (sym same) (subst (λ (x : Content). IsSoundWalk p frames x) (sym stands) c.requires.sound);
      bounded = subst (IsBounded (g.S.Store.limit c.args.store.now)) (sym stands) c.requires.bounded;
      grows = done.grows;
      function = refl;
      limit = c.do_at_once.ensures.limit;
    }

-- control goes on to the next point
pub returns : goal.returns
returns g c =
    let p = program_of c.args.program.now in
    let frames = c.args.frames.now in
    let content = g.S.Store.content c.args.store.now in
    let rows = g.S.Store.rows c.args.store.now in
    let m = meant p.types content rows in
    let f = function_at p.functions frames.function in
    let a = c.requires.here in
    let d = g.S.Store.content c.do_at_once.new.store in
    let after = g.S.Store.rows c.do_at_once.new.store in
    let cells = c.do_at_once.new.cells in
    let to = c.args.flat.now.to in
    let attempts : (i : Step) → step_in c.args.flat.now.act ≡ Some i → Attempts p.types f (g.S.Store.limit c.args.store.now) p.texts i content d rows after frames.cells c.do_at_once.new.cells c.do_at_once.result =
    λ i e. attempts_in p frames.function c.args.scope.now c.requires.scope (g.S.Store.limit c.args.store.now) i content d rows after frames.cells c.do_at_once.new.cells c.do_at_once.result (c.do_at_once.ensures.done i e) in
    let done = attempts a.0 a.1 in
    let did : (i : Step) → step_in c.args.flat.now.act ≡ Some i → (s : Setting) → s.given.cells ≡ g.S.Store.limit c.args.store.now → s.texts ≡ p.texts → DoesTo (does s p.types f i) m frames.cells.items (meant p.types d after) cells.items =
    λ i e s limit t. subst (λ (b : Bool). Whether b (DoesTo (does s p.types f i) m frames.cells.items (meant p.types d after) cells.items) (AreLeft content d rows after frames.cells cells)) c.if-not-do_at_once.false ((attempts i e).step s (record { cells = limit; texts = t })) in
    let some : Setting = record { given = record { growth = growth.Always; cells = g.S.Store.limit c.args.store.now; depth = 0 }; texts = p.texts } in
    let plain = plain_in c.args.flat.now.act a.0 a.1 in
    record {
      step = λ s set ins i e place.
          let own = (plain_in c.args.flat.now.act i e).own in
          let on = act_goes s p frames m ins place to i own f refl (meant p.types d after) cells.items ins [] (λ output. did i e s set.cells set.texts output ins ∙ ap (λ o. Next (state_of (meant p.types d after) cells.items o ins)) (sym (append-nil output))) in
          λ go n output. on go n output ∙ ap (λ o. go (stack_seen p.functions frames.waiting.items) (function_at p.functions frames.function) to (state_of (meant p.types d after) cells.items o ins)) (append-nil output);
      frames = record { here = c.requires.frames.here; there = c.requires.frames.there };
      fits =
          let waiting = cells_later content d rows after done.later (waiting_cells frames.waiting.items) (fit_front content rows (waiting_cells frames.waiting.items) frames.cells.items c.requires.fits.held) in
          other_cells p.types d after cells.items (waiting_cells frames.waiting.items ++ cells.items) done.fits (fit_both _ _ (waiting_cells frames.waiting.items) cells.items waiting done.fits.held);
      sound = own_sound p frames m c.requires.sound a.2 a.0 to a.3 plain.own f refl some [] [] [] (meant p.types d after) cells.items (did a.0 a.1 some refl refl [] []);
      bounded = does_bounded (g.S.Store.limit c.args.store.now) some refl p.types f (state_of m frames.cells.items [] []) c.requires.bounded a.0 plain.stays m (meant p.types d after) frames.cells.items cells.items (Ok (tt {0})) refl (did a.0 a.1 some refl refl);
      grows = done.grows;
      function = refl;
      limit = c.do_at_once.ensures.limit;
    }
