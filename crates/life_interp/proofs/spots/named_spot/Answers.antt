use Rattle.std.proofs.Common.{ap}
use Rattle.life_store.specs.Effects.{cell}
use Rattle.life_store.specs.Places.{named_by}
use Rattle.life_seen.specs.Kinds.{kinds_of}
use Rattle.life_cells.specs.Cells.{state_in}
use Rattle.life_cells.specs.Fits.{meant}
use Rattle.life_cells.specs.declared.cell.Cell.TheVariants as held
use Rattle.life_cells.proofs.CellLemmas.{names}
use Rattle.life_cells.proofs.FitLemmas.{cell_fits}
use Rattle.life_interp.proofs.SpotLemmas.{spot_named}
use Rattle.life_interp.proofs.spots.named_spot.Goals as goal

pub returns-in-Some : goal.returns-in-Some
returns-in-Some g c = λ types f fits.
    let content = g.S.Store.content c.args.store.now in
    let rows = g.S.Store.rows c.args.store.now in
    let m = meant types content rows in
    let v = cell (state_in m c.args.cells.now) c.args.local in
    let ref = cell_fits content rows c.args.cells.now c.args.local (held.Object c.in-Some.object) fits.held c.in-Some.ensures.held in
    spot_named types f c.args.local content rows c.args.cells.now c.in-Some.object.birth c.first_spot.result (ap (named_by m) (names v c.in-Some.object.birth c.in-Some.ensures.is))
    (c.first_spot.ensures.here (kinds_of types) fits.housed ref) c.first_spot.ensures.word
