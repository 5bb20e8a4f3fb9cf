use Rattle.std.proofs.Common.{◌+◌, List, drop, map, ap, refl, subst, sym, ◌∙◌}
use Rattle.std.proofs.lemmas.Option.{slice_get_read}
use Rattle.life_core.specs.Operands.{argument_of}
use Rattle.life_core.specs.declared.operand.Argument.{Argument}
use Rattle.life_store.specs.Calls.{all_handed, with_handed}
use Rattle.life_store.specs.State as state
use Rattle.life_cells.specs.Cells.{cells_seen, state_in, state_of}
use Rattle.life_cells.specs.Fits.{meant, CellsFit}
use Rattle.life_cells.specs.Scopes.{function_in, types_in}
use Rattle.life_cells.specs.declared.cell.Cell.{Cell}
use Rattle.life_interp.proofs.FitLemmas.{fit_both}
use Rattle.life_interp.proofs.FrameLemmas.{drop_there, joined, joined_more, seen_push}
use Rattle.life_interp.proofs.HandedLemmas.{place_at}
use Rattle.life_interp.proofs.handing.all_handed.Goals as goal

pub handed-requires-clause-place : goal.handed-requires-clause-place
handed-requires-clause-place g c =
    let types = types_in c.args.scope.now in
    let i = c.loop-argument.argument-index in
    let st = state_in (meant types (g.S.Store.content c.args.store.now) (g.S.Store.rows c.args.store.now)) c.args.cells.now in
    place_at types (function_in c.args.scope.now) st c.args.arguments.now i c.argument-item.result (slice_get_read c.args.arguments.now _ i c.argument-item.result refl c.loop-argument-test.true c.argument-item.is) c.requires.places

pub returns-in-None-clause-step : goal.returns-in-None-clause-step
returns-in-None-clause-step g c = λ output input.
    let types = types_in c.args.scope.now in
    let f = function_in c.args.scope.now in
    let i = c.loop-argument.argument-index in
    let there = slice_get_read c.args.arguments.now _ i c.argument-item.result refl c.loop-argument-test.true c.argument-item.is in
    let st = state_of (meant types (g.S.Store.content c.args.store.now) (g.S.Store.rows c.args.store.now)) c.args.cells.now output input in
    let values = cells_seen c.loop-argument.values.items in
    c.loop-argument.invariant.step output input
    ∙ ap (λ (xs : List Argument). joined values (all_handed types f st (map argument_of xs))) (drop_there c.args.arguments.now i c.argument-item.result there)
    ∙ ap (λ o. joined values (with_handed o (all_handed types f st (map argument_of (drop (i + 1) c.args.arguments.now))))) (sym (c.in-None.ensures.step output input))

pub loop-argument-preserved : goal.loop-argument-preserved
loop-argument-preserved g c =
    let types = types_in c.args.scope.now in
    let f = function_in c.args.scope.now in
    let content = g.S.Store.content c.args.store.now in
    let rows = g.S.Store.rows c.args.store.now in
    let i = c.loop-argument.argument-index in
    let there = slice_get_read c.args.arguments.now _ i c.argument-item.result refl c.loop-argument-test.true c.argument-item.is in
    let values = c.loop-argument.values.items in
    record {
      step = λ output input.
          let st = state_of (meant types content rows) c.args.cells.now output input in
          let rest = all_handed types f st (map argument_of (drop (i + 1) c.args.arguments.now)) in
          c.loop-argument.invariant.step output input
          ∙ ap (λ (xs : List Argument). joined (cells_seen values) (all_handed types f st (map argument_of xs))) (drop_there c.args.arguments.now i c.argument-item.result there)
          ∙ ap (λ o. joined (cells_seen values) (with_handed o rest)) (sym (c.in-Some.ensures.step output input))
          ∙ joined_more (cells_seen values) _ rest
          ∙ ap (λ (vs : List state.Cell). joined vs rest) (sym (seen_push values c.in-Some.value))
          ∙ ap (λ (vs : List Cell). joined (cells_seen vs) rest) (sym c.in-Ok.ensures.items);
      fits =
          subst (CellsFit content rows) (sym c.in-Ok.ensures.items)
          (fit_both content rows values _ c.loop-argument.invariant.fits (c.in-Some.ensures.fits, tt));
    }
