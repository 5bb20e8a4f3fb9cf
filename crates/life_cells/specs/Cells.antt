-- What the machine's cells stand for.
use Rattle.std.specs.Prelude.{ℕ, ℤ, List, [], Option, Some, None, map}
use Rattle.life_store.specs.Content.{Content}
use Rattle.life_store.specs.State as state
use Rattle.life_pointers.specs.Pointers.{characters_seen, pointer_seen}
use Rattle.life_pointers.specs.declared.pointer.Pointer.TheVariants as leads
use Rattle.life_cells.specs.declared.cell.Cell.{Cell}
use Rattle.life_cells.specs.declared.cell.Cell.TheVariants as held

-- a reference stands for the number of its object
abbrev pub cell_seen : Cell → state.Cell
cell_seen held.Empty = state.Empty
cell_seen (held.Object object) = state.Named object.birth
cell_seen (held.Number z) = state.Number z
cell_seen held.Null = state.Points state.Null
cell_seen held.Wild = state.Points state.Wild
cell_seen (held.To index count word object moment) = state.Points (pointer_seen (leads.To index count word object moment))
cell_seen (held.Static c) = state.Points (state.Static (characters_seen c))

abbrev pub cells_seen : List Cell → List state.Cell
cells_seen cells = map cell_seen cells

-- a frame's state, whatever was written and is to be read
abbrev pub state_of : Content → List Cell → List ℕ → List ℤ → state.State
state_of content cells output input = record { world = record { content = content; output = output; input = input }; cells = cells_seen cells }

-- .. where nothing was written and nothing is to be read
abbrev pub state_in : Content → List Cell → state.State
state_in content cells = state_of content cells [] []

-- ---- what a cell holds, if it holds that: a value, an object, a pointer

abbrev pub number_in : Option state.Cell → Option ℤ
number_in None = None
number_in (Some state.Empty) = None
number_in (Some (state.Named n)) = None
number_in (Some (state.Number z)) = Some z
number_in (Some (state.Points p)) = None

abbrev pub object_in : Option state.Cell → Option ℕ
object_in None = None
object_in (Some state.Empty) = None
object_in (Some (state.Named n)) = Some n
object_in (Some (state.Number z)) = None
object_in (Some (state.Points p)) = None

abbrev pub pointer_in : Option state.Cell → Option state.Pointer
pointer_in None = None
pointer_in (Some state.Empty) = None
pointer_in (Some (state.Named n)) = None
pointer_in (Some (state.Number z)) = None
pointer_in (Some (state.Points p)) = Some p
