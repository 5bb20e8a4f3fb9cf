use Rattle.std.proofs.Common.{ℕ, ap, sym, ◌∙◌}
use Rattle.std.specs.Prelude.{pos}
use Rattle.life_core.specs.Operands.{location_of}
use Rattle.life_store.specs.Effects.{Attempt, Next, on_got, put_cell}
use Rattle.life_store.specs.State.{Number}
use Rattle.life_seen.specs.Kinds.{kinds_of}
use Rattle.life_pointers.specs.Pointers.{pointer_seen}
use Rattle.life_pointers.proofs.MeantSteps.{size_is}
use Rattle.life_cells.specs.Cells.{state_of}
use Rattle.life_cells.specs.Fits.{meant}
use Rattle.life_cells.specs.Scopes.{function_in, types_in}
use Rattle.life_cells.proofs.CellLemmas.{points}
use Rattle.life_cells.proofs.Ranges.{size_lost}
use Rattle.life_cells.proofs.sizes.of_view.Goals as goal

pub returns-in-None-clause-is : goal.returns-in-None-clause-is
returns-in-None-clause-is g c = λ r output input.
    let types = types_in c.args.scope.now in
    let f = function_in c.args.scope.now in
    let content = g.S.Store.content c.args.store.now in
    let rows = g.S.Store.rows c.args.store.now in
    let m = meant types content rows in
    let st = state_of m c.args.cells.now output input in
    size_lost types f st r (location_of c.args.location.now) c.in-None.ensures.is

pub returns-in-Some-clause-is : goal.returns-in-Some-clause-is
returns-in-Some-clause-is g c = λ r output input.
    let types = types_in c.args.scope.now in
    let f = function_in c.args.scope.now in
    let content = g.S.Store.content c.args.store.now in
    let rows = g.S.Store.rows c.args.store.now in
    let m = meant types content rows in
    let st = state_of m c.args.cells.now output input in
    size_is types f st (location_of c.args.location.now) (pointer_seen c.in-Some.view) (points _ (pointer_seen c.in-Some.view) c.in-Some.ensures.is) r
    ∙ ap (λ (a : Attempt ℕ). on_got a (λ n. Next (put_cell r (Number (pos n)) st))) (sym (c.viewed_size.ensures.is (kinds_of types) c.requires.fits.housed))
