-- What the machine's frames hold, as the meaning has it.
use Rattle.std.specs.Prelude.{ℕ, ℤ, Bool, true, false, List, [], ◌∷◌, Option, Some, None}
use Rattle.life_core.specs.Holdings.{Holding, Blank, AnObject, ANumber, APointer, AView}
use Rattle.life_cells.specs.Cells.{cell_seen}
use Rattle.life_cells.specs.declared.cell.Cell.{Cell}
use Rattle.life_interp.specs.declared.sort.Sort.{Sort}
use Rattle.life_interp.specs.declared.sort.Sort.TheVariants as sort
use Rattle.life_store.specs.Content.{Content}
use Rattle.life_store.specs.State as state

abbrev pub sort_seen : Sort → Holding
sort_seen sort.Blank = Blank
sort_seen sort.Object = AnObject
sort_seen sort.Number = ANumber
sort_seen sort.Pointer = APointer
sort_seen sort.View = AView

-- what is handed over or given back, if it is there
abbrev pub one_seen : Option Cell → List state.Cell
one_seen None = []
one_seen (Some v) = cell_seen v ∷ []

abbrev pub world_of : Content → List ℕ → List ℤ → state.World
world_of content output input = record { content = content; output = output; input = input }

-- the cell holds nothing
abbrev pub is_vacant : state.Cell → Bool
is_vacant state.Empty = true
is_vacant _ = false
