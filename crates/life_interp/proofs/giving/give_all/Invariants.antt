use Rattle.std.proofs.Common.{◌≡◌, List, ℕ, drop}
use Rattle.std.specs.Prelude.{ℤ}
use Rattle.life_core.specs.Function.{function_of}
use Rattle.life_store.specs.Doing.{Setting}
use Rattle.life_store.specs.Calls.{parameters_given}
use Rattle.life_cells.specs.Cells.{cells_seen, state_of}
use Rattle.life_seen.specs.Housed.{Later}
use Rattle.life_cells.specs.Fits.{meant, IsFit}
use Rattle.life_interp.specs.CallOperands.{RowsStay}
use Rattle.life_interp.specs.Fits.{Gives}
use Rattle.life_interp.proofs.giving.give_all.Given as goal

-- the values that are left are given as all are
abbrev pub invariant-loop-local : goal.invariant-loop-local
invariant-loop-local g l =
    let content = g.S.Store.content in
    let rows = g.S.Store.rows in
    record {
      step : (s : Setting) → s.given.cells ≡ g.S.Store.limit l.initial.store → (output : List ℕ) (input : List ℤ)
          → parameters_given s l.types (function_of l.f) 0 (cells_seen l.values) (state_of (meant l.types (content l.initial.store) (rows l.initial.store)) l.initial.cells.items output input)
          ≡ parameters_given s l.types (function_of l.f) l.local (drop l.local (cells_seen l.values)) (state_of (meant l.types (content l.store) (rows l.store)) l.cells.items output input);
      fits : IsFit l.types (content l.store) (rows l.store) l.cells.items;
      later : Later (content l.initial.store) (content l.store) (rows l.initial.store) (rows l.store);
      gives : Gives (g.S.Store.limit l.initial.store) (content l.initial.store) (content l.store);
      stay : RowsStay (rows l.initial.store) (rows l.store);
      limit : g.S.Store.limit l.store ≡ g.S.Store.limit l.initial.store;
    }
