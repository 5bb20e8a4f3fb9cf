use Rattle.std.proofs.Common.{Some, ap, rules, sym, ◌∙◌}
use Rattle.std.proofs.lemmas.Int.{to_z-of_z}
use mir.Val.{SFits}
use Rattle.std.specs.Int.{w64}
use Rattle.std.specs.Prelude.{slice_get}
use Rattle.life_store.specs.Calls.{number_handed}
use Rattle.life_store.specs.State as state
use Rattle.life_cells.specs.Cells.{cells_seen}
use Rattle.life_cells.proofs.CellLemmas.{counts}
use Rattle.life_interp.proofs.CellLemmas.{number_handed_none}
use Rattle.life_interp.proofs.handing.number_cell.Goals as goal

pub returns-in-None-clause-seen : goal.returns-in-None-clause-seen
returns-in-None-clause-seen c = number_handed_none (slice_get (cells_seen c.args.cells.now) c.args.local) c.in-None.ensures

pub returns-in-Some-clause-seen : goal.returns-in-Some-clause-seen
returns-in-Some-clause-seen c =
    let fits : SFits w64 c.in-Some.value = search rules in
    ap (λ z. Some (state.Number z)) (to_z-of_z w64 c.in-Some.value fits) ∙ sym (ap number_handed (counts (slice_get (cells_seen c.args.cells.now) c.args.local) c.in-Some.value c.in-Some.ensures))
