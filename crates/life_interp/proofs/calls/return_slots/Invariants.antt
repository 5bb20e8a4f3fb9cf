use Rattle.std.proofs.Common.{◌≡◌, List, ℕ, drop, map}
use Rattle.std.specs.Prelude.{ℤ}
use Rattle.life_core.specs.Operands.{argument_of}
use Rattle.life_store.specs.Calls.{slots_returned}
use Rattle.life_cells.specs.Cells.{cells_seen, state_in, state_of}
use Rattle.life_cells.specs.Fits.{meant, IsFit}
use Rattle.life_cells.specs.Scopes.{function_in, types_in}
use Rattle.life_slots.specs.Slots.{IsBehind}
use Rattle.life_interp.specs.CallOperands.{slot_values}
use Rattle.life_interp.specs.Returning.{Returning}
use Rattle.life_interp.proofs.calls.return_slots.Given as goal

-- what is left comes back as all does
abbrev pub invariant-loop-index : goal.invariant-loop-index
invariant-loop-index g l =
    let types = types_in l.scope in
    let f = function_in l.scope in
    let content = g.S.Store.content in
    let rows = g.S.Store.rows in
    let left = cells_seen l.left in
    record {
      step : (output : List ℕ) (input : List ℤ) → slots_returned types f (map argument_of l.arguments) (slot_values left 0 (map argument_of l.arguments)) (state_of (meant types (content l.initial.store) (rows l.initial.store)) l.initial.cells.items output input)
          ≡ slots_returned types f (map argument_of (drop l.index l.arguments)) (slot_values left l.index (map argument_of (drop l.index l.arguments))) (state_of (meant types (content l.store) (rows l.store)) l.cells.items output input);
      returning : Returning types f (map argument_of (drop l.index l.arguments)) (slot_values left l.index (map argument_of (drop l.index l.arguments))) (state_in (meant types (content l.store) (rows l.store)) l.cells.items);
      fits : IsFit types (content l.store) (rows l.store) l.cells.items;
      behind : IsBehind (content l.initial.store) (content l.store) (rows l.initial.store) (rows l.store);
      limit : g.S.Store.limit l.store ≡ g.S.Store.limit l.initial.store;
    }
