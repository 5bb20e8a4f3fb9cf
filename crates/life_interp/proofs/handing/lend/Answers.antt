use Rattle.std.proofs.Common.{◌+◌, List, drop, map, ap, refl, subst, ◌∙◌, arith}
use Rattle.std.proofs.lemmas.Option.{slice_get_read}
use Rattle.life_core.specs.Operands.{argument_of}
use Rattle.life_core.specs.declared.operand.Argument.{Argument}
use Rattle.life_store.specs.Calls.{lent}
use Rattle.life_cells.specs.Cells.{state_in, state_of}
use Rattle.life_cells.specs.Fits.{meant}
use Rattle.life_cells.specs.Scopes.{function_in, types_in}
use Rattle.life_interp.specs.CallOperands.{AreLentPlaces}
use Rattle.life_interp.proofs.FitLemmas.{keeps_on}
use Rattle.life_interp.proofs.FrameLemmas.{drop_there}
use Rattle.life_interp.proofs.HandedLemmas.{drop_past, lent_next}
use Rattle.life_interp.proofs.handing.lend.Goals as goal

pub lend_one-requires-clause-place : goal.lend_one-requires-clause-place
lend_one-requires-clause-place g c =
    let types = types_in c.args.scope.now in
    let f = function_in c.args.scope.now in
    let i = c.loop-argument.argument-index in
    let xs = c.args.arguments.now in
    let there = slice_get_read xs _ i c.argument-item.result refl c.loop-argument-test.true c.argument-item.is in
    let st = state_in (meant types (g.S.Store.content c.loop-argument.store) (g.S.Store.rows c.loop-argument.store)) c.loop-argument.cells.items in
    (subst (λ (ys : List Argument). AreLentPlaces types f st (map argument_of ys)) (drop_there xs i c.argument-item.result there) c.loop-argument.invariant.places).0

pub loop-argument-preserved : goal.loop-argument-preserved
loop-argument-preserved g c =
    let types = types_in c.args.scope.now in
    let f = function_in c.args.scope.now in
    let i = c.loop-argument.argument-index in
    let xs = c.args.arguments.now in
    let there = slice_get_read xs _ i c.argument-item.result refl c.loop-argument-test.true c.argument-item.is in
    let m = meant types (g.S.Store.content c.loop-argument.store) (g.S.Store.rows c.loop-argument.store) in
    let was = c.loop-argument.invariant in
    let q = c.lend_one.ensures in
    record {
      lent = λ output input.
          was.lent output input
          ∙ lent_next types f xs i c.argument-item.result (state_of m c.loop-argument.cells.items output input) there
          ∙ ap (lent types f (map argument_of (drop (i + 1) xs))) (q.lent output input);
      places = q.places (drop (i + 1) xs) (subst (λ (ys : List Argument). AreLentPlaces types f (state_in m c.loop-argument.cells.items) (map argument_of ys)) (drop_there xs i c.argument-item.result there) was.places).1;
      fits = q.fits;
      keeps = keeps_on _ _ _ _ _ _ was.keeps q.keeps;
      limit = q.limit ∙ was.limit;
    }

pub returns-clause-lent : goal.returns-clause-lent
returns-clause-lent g c = λ output input.
    let types = types_in c.args.scope.now in
    let f = function_in c.args.scope.now in
    let st = state_of (meant types (g.S.Store.content c.loop-argument.store) (g.S.Store.rows c.loop-argument.store)) c.loop-argument.cells.items output input in
    c.loop-argument.invariant.lent output input
    ∙ ap (λ (xs : List Argument). lent types f (map argument_of xs) st) (drop_past c.args.arguments.now c.loop-argument.argument-index (omega (arith, c.loop-argument-test.false)))
