use Rattle.std.proofs.Common.{refl}
use Rattle.life_core.specs.Operands.{operand_of}
use Rattle.life_cells.specs.Fits.{meant}
use Rattle.life_cells.specs.Scopes.{function_in, types_in}
use Rattle.life_cells.proofs.CellLemmas.{names}
use Rattle.life_cells.proofs.FitLemmas.{cell_fits}
use Rattle.life_copies.proofs.Operands.{value_at}
use Rattle.life_copies.proofs.Steps.{give_goes, give_stops, give_strays}
use Rattle.life_copies.proofs.giving.give.Goals as goal

pub returns-in-Err-clause-step : goal.returns-in-Err-clause-step
returns-in-Err-clause-step g c =
    give_stops (types_in c.args.scope.now) (function_in c.args.scope.now) (g.S.Store.content c.args.store.now) (g.S.Store.rows c.args.store.now) c.args.cells.now (operand_of c.args.to.now) c.args.from c.in-Err.stop c.in-Err.ensures.is (meant (types_in c.args.scope.now) (g.S.Store.content c.args.store.now) (g.S.Store.rows c.args.store.now))

pub returns-in-None-clause-step : goal.returns-in-None-clause-step
returns-in-None-clause-step g c =
    give_strays (types_in c.args.scope.now) (function_in c.args.scope.now) (g.S.Store.content c.args.store.now) (g.S.Store.rows c.args.store.now) c.args.cells.now (operand_of c.args.to.now) c.args.from c.in-Ok.target c.in-Ok.ensures.is c.in-None.ensures.is (meant (types_in c.args.scope.now) (g.S.Store.content c.args.store.now) (g.S.Store.rows c.args.store.now))

pub give_to-requires : goal.give_to-requires
give_to-requires g c = record {
  giver = record {
    type = c.requires.typed.0;
    typed = c.requires.typed.2;
    target =
        value_at (types_in c.args.scope.now) (function_in c.args.scope.now) (g.S.Store.limit c.args.store.now) c.args.depth (g.S.Store.content c.args.store.now) (g.S.Store.rows c.args.store.now) c.args.cells.now c.requires.served c.requires.ready (operand_of c.args.to.now) c.requires.placed c.in-Ok.target c.in-Ok.ensures.found.here c.in-Ok.ensures.found.word
        c.requires.typed.0 c.requires.typed.1 c.requires.typed.0 refl;
    referred = cell_fits (g.S.Store.content c.args.store.now) (g.S.Store.rows c.args.store.now) c.args.cells.now c.args.from _ c.requires.ready.fits.held c.in-Some.ensures.held;
    variable = c.requires.ready.stands.frame.objects c.args.from c.in-Some.object.birth (names _ c.in-Some.object.birth c.in-Some.ensures.is);
    owns = c.requires.owns;
  };
}

pub returns-in-Some-clause-step : goal.returns-in-Some-clause-step
returns-in-Some-clause-step g c =
    give_goes (types_in c.args.scope.now) (function_in c.args.scope.now) (g.S.Store.content c.args.store.now) (g.S.Store.rows c.args.store.now) c.args.cells.now (operand_of c.args.to.now) c.args.from c.in-Ok.target c.in-Ok.ensures.is c.in-Some.object.birth c.in-Some.ensures.is (g.S.Store.content c.give_to.new.store) (g.S.Store.rows c.give_to.new.store) c.give_to.result c.give_to.ensures.gets
