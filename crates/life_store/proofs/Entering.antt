-- A frame that is entered has empty cells.
use Rattle.std.proofs.Common.{◌≡◌, ℕ, zero, suc, List, [], ◌∷◌, map, Some}
use Rattle.std.specs.Prelude.{slice_get}
use Rattle.life_core.specs.declared.program.Local.{Local}
use Rattle.life_store.specs.Meaning.{empty_cell}
use Rattle.life_store.specs.State.{Cell, Empty}
use Rattle.life_store.proofs.CellLemmas.{none_some, some_same}

pub empty_cells : (ls : List Local) (x : ℕ) (v : Cell) → slice_get (map empty_cell ls) x ≡ Some v → Empty ≡ v
empty_cells [] x v e = absurd (none_some e)
empty_cells (l ∷ ls) zero v e = some_same e
empty_cells (l ∷ ls) (suc x) v e = empty_cells ls x v e
