use Rattle.std.proofs.Common.{◌+◌, [], ◌∷◌, List, drop, map, ap, refl, subst, sym, ◌∙◌, arith}
use Rattle.std.proofs.lemmas.Option.{slice_get_read}
use Rattle.life_core.specs.Operands.{argument_of}
use Rattle.life_core.specs.declared.operand.Argument.{Argument}
use Rattle.life_store.specs.Calls.{slots_returned}
use Rattle.life_store.specs.Doing.{Effect, on_next}
use Rattle.life_cells.specs.Cells.{cells_seen, state_in, state_of}
use Rattle.life_cells.specs.Fits.{meant}
use Rattle.life_cells.specs.Scopes.{function_in, types_in}
use Rattle.life_cells.proofs.FitLemmas.{cells_later}
use Rattle.life_interp.specs.CallOperands.{slot_values}
use Rattle.life_interp.specs.Returning.{Returning}
use Rattle.life_interp.specs.Steps.{TellsEnd}
use Rattle.life_interp.proofs.FitLemmas.{behind_then}
use Rattle.life_interp.proofs.FrameLemmas.{drop_there}
use Rattle.life_interp.proofs.HandedLemmas.{drop_past}
use Rattle.life_interp.proofs.LocalLemmas.{on_next_ends}
use Rattle.life_interp.proofs.SlotReturns.{returned_first}
use Rattle.life_interp.proofs.SoundReturns.{can_return, returning_next}
use Rattle.life_interp.proofs.calls.return_slots.Goals as goal

pub return_one-requires-clause-left : goal.return_one-requires-clause-left
return_one-requires-clause-left g c =
    cells_later (g.S.Store.content c.args.store.now) (g.S.Store.content c.loop-index.store) (g.S.Store.rows c.args.store.now) (g.S.Store.rows c.loop-index.store) c.loop-index.invariant.behind.later c.args.left.now c.requires.left

pub return_one-requires-clause-can : goal.return_one-requires-clause-can
return_one-requires-clause-can g c =
    let types = types_in c.args.scope.now in
    let f = function_in c.args.scope.now in
    let i = c.loop-index.index in
    let xs = c.args.arguments.now in
    let x = c.index-arguments-index.result in
    let there = slice_get_read xs _ i x refl c.loop-index-test.true c.index-arguments-index.is in
    let content = g.S.Store.content c.loop-index.store in
    let rows = g.S.Store.rows c.loop-index.store in
    let left = cells_seen c.args.left.now in
    can_return types f content rows c.loop-index.cells.items c.args.left.now c.loop-index.invariant.fits.housed (return_one-requires-clause-left g c) i (argument_of x) (map argument_of (drop (i + 1) xs))
    (subst (λ (ys : List Argument). Returning types f (map argument_of ys) (slot_values left i (map argument_of ys)) (state_in (meant types content rows) c.loop-index.cells.items)) (drop_there xs i x there) c.loop-index.invariant.returning)

pub returns-in-Err-clause-step : goal.returns-in-Err-clause-step
returns-in-Err-clause-step g c = λ output input.
    let types = types_in c.args.scope.now in
    let f = function_in c.args.scope.now in
    let i = c.loop-index.index in
    let xs = c.args.arguments.now in
    let x = c.index-arguments-index.result in
    let there = slice_get_read xs _ i x refl c.loop-index-test.true c.index-arguments-index.is in
    let left = cells_seen c.args.left.now in
    let others = map argument_of (drop (i + 1) xs) in
    let st = state_of (meant types (g.S.Store.content c.loop-index.store) (g.S.Store.rows c.loop-index.store)) c.loop-index.cells.items output input in
    let more =
    c.loop-index.invariant.step output input
    ∙ ap (λ (ys : List Argument). slots_returned types f (map argument_of ys) (slot_values left i (map argument_of ys)) st) (drop_there xs i x there)
    ∙ returned_first types f (argument_of x) others left i st in
    subst (λ (e : Effect). TellsEnd e c.in-Err.ending) (sym more)
    (on_next_ends (slots_returned types f (argument_of x ∷ []) (slot_values left i (argument_of x ∷ [])) st) c.in-Err.ending (slots_returned types f others (slot_values left (i + 1) others)) (c.in-Err.ensures.step output input))

pub loop-index-preserved : goal.loop-index-preserved
loop-index-preserved g c =
    let types = types_in c.args.scope.now in
    let f = function_in c.args.scope.now in
    let i = c.loop-index.index in
    let xs = c.args.arguments.now in
    let x = c.index-arguments-index.result in
    let there = slice_get_read xs _ i x refl c.loop-index-test.true c.index-arguments-index.is in
    let left = cells_seen c.args.left.now in
    let others = map argument_of (drop (i + 1) xs) in
    let m = meant types (g.S.Store.content c.loop-index.store) (g.S.Store.rows c.loop-index.store) in
    let d = meant types (g.S.Store.content c.return_one.new.store) (g.S.Store.rows c.return_one.new.store) in
    let was = c.loop-index.invariant in
    let q = c.in-Ok.ensures in
    record {
      step = λ output input.
          let st = state_of m c.loop-index.cells.items output input in
          was.step output input
          ∙ ap (λ (ys : List Argument). slots_returned types f (map argument_of ys) (slot_values left i (map argument_of ys)) st) (drop_there xs i x there)
          ∙ returned_first types f (argument_of x) others left i st
          ∙ ap (λ (e : Effect). on_next e (slots_returned types f others (slot_values left (i + 1) others))) (q.step output input);
      returning =
          returning_next types f left i (argument_of x) others (state_in m c.loop-index.cells.items) (state_in d c.return_one.new.cells.items) (q.step [] [])
          (subst (λ (ys : List Argument). Returning types f (map argument_of ys) (slot_values left i (map argument_of ys)) (state_in m c.loop-index.cells.items)) (drop_there xs i x there) was.returning);
      fits = q.fits;
      behind = behind_then _ _ _ _ _ _ was.behind q.behind;
      limit = c.return_one.ensures.limit ∙ was.limit;
    }

pub returns-clause-step : goal.returns-clause-step
returns-clause-step g c = λ output input.
    let types = types_in c.args.scope.now in
    let f = function_in c.args.scope.now in
    let i = c.loop-index.index in
    let left = cells_seen c.args.left.now in
    let st = state_of (meant types (g.S.Store.content c.loop-index.store) (g.S.Store.rows c.loop-index.store)) c.loop-index.cells.items output input in
    c.loop-index.invariant.step output input
    ∙ ap (λ (ys : List Argument). slots_returned types f (map argument_of ys) (slot_values left i (map argument_of ys)) st) (drop_past c.args.arguments.now i (omega (arith, c.loop-index-test.false)))
