use Rattle.std.proofs.Common.{◌≡◌, ◌-◌, ◌++◌, drop}
use Rattle.life_core.specs.Function.{function_of, program_of}
use Rattle.life_store.specs.Calls.{entry_arguments}
use Rattle.life_store.specs.Content.{Content}
use Rattle.life_store.specs.References.{Rows}
use Rattle.life_cells.specs.Cells.{cells_seen}
use Rattle.life_cells.specs.Fits.{CellsFit}
use Rattle.life_interp.proofs.run.entry_values.Given as goal

-- the values so far, and then those of the parameters that are left
abbrev pub invariant-loop-local : goal.invariant-loop-local
invariant-loop-local l =
    let types = (program_of l.program).types in
    let f = function_of l.f in
    record {
      values : entry_arguments types f 0 l.f.parameters l.input ≡ cells_seen l.values.items ++ entry_arguments types f l.local (l.f.parameters - l.local) (drop l.local l.input);
      fits : (c : Content) (rows : Rows) → CellsFit c rows l.values.items;
    }
