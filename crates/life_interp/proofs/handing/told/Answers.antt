use Rattle.std.proofs.Common.{Option, ap, rules, sym, ◌∙◌}
use Rattle.std.proofs.lemmas.Int.{to_z-of_z}
use mir.Val.{SFits}
use Rattle.std.specs.Int.{w64}
use Rattle.life_store.specs.Meaning.{value_in}
use Rattle.life_cells.specs.Cells.{cell_seen}
use Rattle.life_cells.specs.declared.cell.Cell.{Cell}
use Rattle.life_interp.specs.Cells.{one_seen}
use Rattle.life_interp.proofs.CellLemmas.{told_none, told_some}
use Rattle.life_interp.proofs.handing.told.Goals as goal

pub returns-in-None-number_of : goal.returns-in-None-number_of
returns-in-None-number_of c = told_none (cell_seen c.in-Some.cell) c.in-None-number_of.ensures ∙ ap (λ (o : Option Cell). value_in (one_seen o)) (sym c.in-Some.is)

pub returns-in-Some-number_of : goal.returns-in-Some-number_of
returns-in-Some-number_of c =
    let fits : SFits w64 c.in-Some-number_of.number = search rules in
    to_z-of_z w64 c.in-Some-number_of.number fits ∙ told_some (cell_seen c.in-Some.cell) c.in-Some-number_of.number c.in-Some-number_of.ensures ∙ ap (λ (o : Option Cell). value_in (one_seen o)) (sym c.in-Some.is)
