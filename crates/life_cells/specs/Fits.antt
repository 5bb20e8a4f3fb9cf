-- The store stands for a content of the meaning, and what the cells of a frame hold fits it.
use Rattle.std.specs.Prelude.{◌≡◌, List, [], ◌∷◌}
use Rattle.life_types.specs.Types.{Types}
use Rattle.life_store.specs.Content.{CanCount, Content}
use Rattle.life_store.specs.References.{Rows}
use Rattle.life_seen.specs.Housed.{IsHoused, IsRef}
use Rattle.life_seen.specs.Kinds.{kinds_of}
use Rattle.life_seen.specs.Rowed.{AreRowed}
use Rattle.life_seen.specs.Seen.{seen}
use Rattle.life_pointers.specs.Pointers.{PointerFits}
use Rattle.life_pointers.specs.declared.pointer.Pointer.TheVariants as leads
use Rattle.life_cells.specs.declared.cell.Cell.{Cell}
use Rattle.life_cells.specs.declared.cell.Cell.TheVariants as held

-- the content of the meaning, with the words of each type as the table of types has them
abbrev pub meant : Types → Content → Rows → Content
meant types c rows = seen (kinds_of types) c rows

abbrev pub CellFits : Content → Rows → Cell → Type 0
CellFits c rows held.Empty = Unit {0}
CellFits c rows (held.Object object) = IsRef c rows object
CellFits c rows (held.Number z) = Unit {0}
CellFits c rows held.Null = Unit {0}
CellFits c rows held.Wild = Unit {0}
CellFits c rows (held.To index count word object moment) = PointerFits c rows (leads.To index count word object moment)
CellFits c rows (held.Static s) = PointerFits c rows (leads.Static s)

abbrev pub CellsFit : Content → Rows → List Cell → Type 0
CellsFit c rows [] = Unit {0}
CellsFit c rows (v ∷ vs) = CellFits c rows v × CellsFit c rows vs

-- the store is housed, the pointers in it can be read, and another step can be counted
pub record IsFit (types : Types) (c : Content) (rows : Rows) (cells : List Cell) : Type 0 where
  pub housed : IsHoused (kinds_of types) c rows
  pub rowed : AreRowed (kinds_of types) c rows
  pub countable : CanCount c
  pub held : CellsFit c rows cells

-- nothing was born, ended or counted
pub record Keeps (c d : Content) (before after : Rows) : Type 0 where
  pub rows : after ≡ before
  pub births : d.births ≡ c.births
  pub clock : d.clock ≡ c.clock
