use Rattle.std.proofs.Common.{◌≡◌, List, ℕ, drop, map}
use Rattle.std.specs.Prelude.{ℤ}
use Rattle.life_core.specs.Operands.{argument_of}
use Rattle.life_store.specs.Calls.{lent}
use Rattle.life_cells.specs.Cells.{state_in, state_of}
use Rattle.life_cells.specs.Fits.{meant, IsFit, Keeps}
use Rattle.life_cells.specs.Scopes.{function_in, types_in}
use Rattle.life_interp.specs.CallOperands.{AreLentPlaces}
use Rattle.life_interp.proofs.handing.lend.Given as goal

-- what is left lends as all do
abbrev pub invariant-loop-argument : goal.invariant-loop-argument
invariant-loop-argument g l =
    let types = types_in l.scope in
    let f = function_in l.scope in
    let content = g.S.Store.content in
    let rows = g.S.Store.rows in
    record {
      lent : (output : List ℕ) (input : List ℤ) → lent types f (map argument_of l.arguments) (state_of (meant types (content l.initial.store) (rows l.initial.store)) l.initial.cells.items output input)
          ≡ lent types f (map argument_of (drop l.argument-index l.arguments)) (state_of (meant types (content l.store) (rows l.store)) l.cells.items output input);
      places : AreLentPlaces types f (state_in (meant types (content l.store) (rows l.store)) l.cells.items) (map argument_of (drop l.argument-index l.arguments));
      fits : IsFit types (content l.store) (rows l.store) l.cells.items;
      keeps : Keeps (content l.initial.store) (content l.store) (rows l.initial.store) (rows l.store);
      limit : g.S.Store.limit l.store ≡ g.S.Store.limit l.initial.store;
    }
