use Rattle.std.proofs.Common.{◌≡◌, ◌+◌, List, drop, ap, subst, sym, ◌∙◌, arith}
use Rattle.std.specs.Prelude.{slice_get, slice_index_or}
use Rattle.life_core.specs.Function.{function_of}
use Rattle.life_store.specs.Doing.{on_next}
use Rattle.life_store.specs.Calls.{given, parameters_given}
use Rattle.life_store.specs.State as state
use Rattle.life_cells.specs.Cells.{cell_seen, cells_seen, state_of}
use Rattle.life_interp.specs.Steps.{TellsEnd}
use Rattle.life_cells.specs.declared.cell.Cell.TheVariants as held
use Rattle.life_cells.specs.Fits.{meant}
use Rattle.life_seen.proofs.References.{later_then}
use Rattle.life_cells.proofs.FitLemmas.{cell_later}
use Rattle.life_interp.proofs.FrameLemmas.{index_fits, more_seen, none_seen}
use Rattle.life_interp.proofs.GiveLemmas.{gives_on}
use Rattle.life_interp.proofs.LocalLemmas.{on_next_ends}
use Rattle.life_interp.proofs.SlotBirths.{suits_index, suits_later}
use Rattle.life_interp.proofs.giving.give_all.Goals as goal

pub give-requires-clause-slot : goal.give-requires-clause-slot
give-requires-clause-slot g c = λ l there.
    suits_later c.args.types.now (g.S.Store.rows c.args.store.now) (g.S.Store.rows c.loop-local.store) l.ty _ c.loop-local.invariant.stay
    (suits_index c.args.types.now (g.S.Store.rows c.args.store.now) (function_of c.args.f.now) 0 c.args.values.now c.loop-local.local c.loop-local-test.true c.requires.slots l
    (let k : 0 + c.loop-local.local ≡ c.loop-local.local = omega arith in ap (slice_get (function_of c.args.f.now).locals) k ∙ there))

pub give-requires-clause-value : goal.give-requires-clause-value
give-requires-clause-value g c =
    cell_later _ _ _ _ c.loop-local.invariant.later _ (index_fits (g.S.Store.content c.args.store.now) (g.S.Store.rows c.args.store.now) c.args.values.now c.loop-local.local c.requires.values)

pub returns-in-Err-clause-step : goal.returns-in-Err-clause-step
returns-in-Err-clause-step g c = λ s e output input.
    let i = c.loop-local.local in
    let f = function_of c.args.f.now in
    let types = c.args.types.now in
    let values = c.args.values.now in
    let v = cell_seen (slice_index_or values i held.Empty) in
    let st = state_of (meant c.args.types.now (g.S.Store.content c.loop-local.store) (g.S.Store.rows c.loop-local.store)) c.loop-local.cells.items output input in
    let more = c.loop-local.invariant.step s e output input ∙ ap (λ (xs : List state.Cell). parameters_given s types f i xs st) (more_seen values i c.loop-local-test.true) in
    subst (λ x. TellsEnd x c.in-Err.ending) (sym more)
    (on_next_ends (given s types f v i st) c.in-Err.ending (parameters_given s types f (i + 1) (drop (i + 1) (cells_seen values))) (c.in-Err.ensures.step s (e ∙ sym c.loop-local.invariant.limit) output input))

pub loop-local-preserved : goal.loop-local-preserved
loop-local-preserved g c =
    let i = c.loop-local.local in
    let f = function_of c.args.f.now in
    let types = c.args.types.now in
    let values = c.args.values.now in
    let was = c.loop-local.invariant in
    let q = c.in-Ok.ensures in
    record {
      step = λ s e output input.
          let st = state_of (meant c.args.types.now (g.S.Store.content c.loop-local.store) (g.S.Store.rows c.loop-local.store)) c.loop-local.cells.items output input in
          was.step s e output input
          ∙ ap (λ (xs : List state.Cell). parameters_given s types f i xs st) (more_seen values i c.loop-local-test.true)
          ∙ ap (λ x. on_next x (parameters_given s types f (i + 1) (drop (i + 1) (cells_seen values)))) (q.step s (e ∙ sym was.limit) output input);
      fits = q.fits;
      later = later_then _ _ _ _ _ _ was.later q.later;
      gives = gives_on _ _ _ _ _ was.limit was.gives q.gives;
      stay = λ n k e. q.stay n k (was.stay n k e);
      limit = c.give.ensures.limit ∙ was.limit;
    }

pub returns-clause-step : goal.returns-clause-step
returns-clause-step g c = λ s e output input.
    let i = c.loop-local.local in
    let st = state_of (meant c.args.types.now (g.S.Store.content c.loop-local.store) (g.S.Store.rows c.loop-local.store)) c.loop-local.cells.items output input in
    c.loop-local.invariant.step s e output input
    ∙ ap (λ (xs : List state.Cell). parameters_given s c.args.types.now (function_of c.args.f.now) i xs st) (none_seen c.args.values.now i (omega (arith, c.loop-local-test.false)))
