use Rattle.std.proofs.Common.{◌≡◌, map, List, ℕ, drop}
use Rattle.std.specs.Prelude.{ℤ}
use Rattle.life_core.specs.Operands.{argument_of}
use Rattle.life_cells.specs.Cells.{cells_seen, state_of}
use Rattle.life_cells.specs.Fits.{meant, CellsFit}
use Rattle.life_cells.specs.Scopes.{function_in, types_in}
use Rattle.life_store.specs.Calls.{all_handed}
use Rattle.life_interp.proofs.FrameLemmas.{joined}
use Rattle.life_interp.proofs.handing.all_handed.Given as goal

-- what is there so far, and then the arguments that are left
abbrev pub invariant-loop-argument : goal.invariant-loop-argument
invariant-loop-argument g l =
    let types = types_in l.scope in
    let f = function_in l.scope in
    let content = g.S.Store.content l.store in
    let rows = g.S.Store.rows l.store in
    record {
      step : (output : List ℕ) (input : List ℤ) → all_handed types f (state_of (meant types content rows) l.cells output input) (map argument_of l.arguments)
          ≡ joined (cells_seen l.values.items) (all_handed types f (state_of (meant types content rows) l.cells output input) (map argument_of (drop l.argument-index l.arguments)));
      fits : CellsFit content rows l.values.items;
    }
