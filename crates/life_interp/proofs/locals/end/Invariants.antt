use Rattle.std.proofs.Common.{◌≡◌, List, ℕ, drop}
use Rattle.std.specs.Prelude.{ℤ}
use Rattle.life_core.specs.Function.{Function}
use Rattle.life_store.specs.Doing.{end_locals}
use Rattle.life_cells.specs.Cells.{state_of}
use Rattle.life_seen.specs.Housed.{Later}
use Rattle.life_cells.specs.Fits.{meant, IsFit}
use Rattle.life_interp.specs.Steps.{StandsIn}
use Rattle.life_interp.proofs.locals.end.Given as goal

-- the locals that are left end as all do, and the frame stands still
abbrev pub invariant-loop-local : goal.invariant-loop-local
invariant-loop-local g l =
    let content = g.S.Store.content in
    record {
      step : (f : Function) (rest : ℕ → ℕ) → StandsIn l.types f rest (meant l.types (content l.initial.store) (g.S.Store.rows l.initial.store)) l.initial.cells.items
          → ((output : List ℕ) (input : List ℤ) → end_locals l.types f l.locals (state_of (meant l.types (content l.initial.store) (g.S.Store.rows l.initial.store)) l.initial.cells.items output input)
          ≡ end_locals l.types f (drop l.local-index l.locals) (state_of (meant l.types (content l.store) (g.S.Store.rows l.store)) l.cells.items output input))
          × StandsIn l.types f rest (meant l.types (content l.store) (g.S.Store.rows l.store)) l.cells.items;
      fits : IsFit l.types (content l.store) (g.S.Store.rows l.store) l.cells.items;
      later : Later (content l.initial.store) (content l.store) (g.S.Store.rows l.initial.store) (g.S.Store.rows l.store);
      births : (content l.store).births ≡ (content l.initial.store).births;
      clock : (content l.store).clock ≡ (content l.initial.store).clock;
      limit : g.S.Store.limit l.store ≡ g.S.Store.limit l.initial.store;
    }
