use Rattle.std.proofs.Common.{◌+◌, ℕ, List, [], drop, ap, subst, sym, ◌∙◌, arith}
use Rattle.std.proofs.lemmas.List.{drop_all, drop_more}
use Rattle.std.specs.Prelude.{slice_index_or}
use Rattle.life_store.specs.Doing.{Effect, cell, end_cell, end_locals, on_next}
use Rattle.life_store.specs.Parts.{local_parts}
use Rattle.life_forest.specs.FrameTypes.{Stands}
use Rattle.life_forest.specs.Frames.{OnNext}
use Rattle.life_forest.proofs.StandingLives.{end_stands}
use Rattle.life_cells.specs.Cells.{state_of}
use Rattle.life_interp.specs.Steps.{TellsEnd}
use Rattle.life_cells.specs.Fits.{meant}
use Rattle.life_seen.proofs.References.{later_then}
use Rattle.life_interp.proofs.LocalLemmas.{on_next_ends}
use Rattle.life_interp.proofs.locals.end.Goals as goal

pub end_one-requires-clause-stands : goal.end_one-requires-clause-stands
end_one-requires-clause-stands g c =
    let s = c.requires.stands in
    (s.0, s.1, (c.loop-local.invariant.step s.0 s.1 s.2).1)

pub returns-in-Err-clause-step : goal.returns-in-Err-clause-step
returns-in-Err-clause-step g c = λ f rest s output input.
    let i = c.loop-local.local-index in
    let types = c.args.types.now in
    let x = slice_index_or c.args.locals.now i 0 in
    let st = state_of (meant types (g.S.Store.content c.loop-local.store) (g.S.Store.rows c.loop-local.store)) c.loop-local.cells.items output input in
    let was = c.loop-local.invariant.step f rest s in
    let more = was.0 output input ∙ ap (λ (xs : List ℕ). end_locals types f xs st) (drop_more c.args.locals.now i 0 c.loop-local-test.true) in
    subst (λ (e : Effect). TellsEnd e c.in-Err.ending) (sym more)
    (on_next_ends (end_cell (local_parts types f x) (cell st x) x st) c.in-Err.ending (end_locals types f (drop (i + 1) c.args.locals.now)) (c.in-Err.ensures.step f rest was.1 output input))

pub loop-local-preserved : goal.loop-local-preserved
loop-local-preserved g c =
    let i = c.loop-local.local-index in
    let types = c.args.types.now in
    let x = slice_index_or c.args.locals.now i 0 in
    let content = meant types (g.S.Store.content c.loop-local.store) (g.S.Store.rows c.loop-local.store) in
    let q = c.in-Ok.ensures in
    let was = c.loop-local.invariant in
    record {
      step = λ f rest s.
          let here = was.step f rest s in
          let bare = state_of content c.loop-local.cells.items [] [] in (
            (λ output input.
                let st = state_of content c.loop-local.cells.items output input in
                here.0 output input
                ∙ ap (λ (xs : List ℕ). end_locals types f xs st) (drop_more c.args.locals.now i 0 c.loop-local-test.true)
                ∙ ap (λ (e : Effect). on_next e (end_locals types f (drop (i + 1) c.args.locals.now))) (q.step f rest here.1 output input)),
            subst (λ (e : Effect). OnNext e (Stands types f rest)) (q.step f rest here.1 [] []) (end_stands types c.requires.ordered f rest bare here.1 x),
          );
      fits = q.fits;
      later = later_then _ _ _ _ _ _ was.later q.later;
      births = q.births ∙ was.births;
      clock = q.clock ∙ was.clock;
      limit = c.end_one.ensures.limit ∙ was.limit;
    }

pub returns-clause-step : goal.returns-clause-step
returns-clause-step g c = λ f rest s output input.
    let types = c.args.types.now in
    let st = state_of (meant types (g.S.Store.content c.loop-local.store) (g.S.Store.rows c.loop-local.store)) c.loop-local.cells.items output input in
    (c.loop-local.invariant.step f rest s).0 output input
    ∙ ap (λ (xs : List ℕ). end_locals types f xs st) (drop_all c.loop-local.local-index c.args.locals.now (omega (arith, c.loop-local-test.false)))
