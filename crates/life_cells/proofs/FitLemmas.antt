-- What cells hold fits.
use Rattle.std.proofs.Common.{◌≡◌, ℕ, zero, suc, List, [], ◌∷◌, Some, subst, sym, arith}
use Rattle.std.proofs.lemmas.Option.{none-some, same_Some}
use Rattle.std.specs.Prelude.{slice_get, slice_set}
use Rattle.life_types.specs.Types.{Types}
use Rattle.life_store.specs.Content.{CanCount, Content}
use Rattle.life_store.specs.References.{Rows}
use Rattle.life_seen.specs.Housed.{Later}
use Rattle.life_seen.proofs.References.{later_same, ref_later}
use Rattle.life_pointers.proofs.Later.{pointer_later}
use Rattle.life_pointers.specs.declared.pointer.Pointer.TheVariants as leads
use Rattle.life_cells.specs.Fits.{CellFits, CellsFit, IsFit, Keeps}
use Rattle.life_cells.specs.declared.cell.Cell.{Cell}
use Rattle.life_cells.specs.declared.cell.Cell.TheVariants as held

-- what a cell holds fits
pub cell_fits : (c : Content) (rows : Rows) (cells : List Cell) (x : ℕ) (v : Cell) → CellsFit c rows cells → slice_get cells x ≡ Some v → CellFits c rows v
cell_fits c rows [] x v h e = absurd (none-some v e)
cell_fits c rows (w ∷ ws) zero v h e = subst (CellFits c rows) (same_Some w v e) h.0
cell_fits c rows (w ∷ ws) (suc x) v h e = cell_fits c rows ws x v h.1 e

-- .. and stays so where one is set
pub set_fits : (c : Content) (rows : Rows) (cells : List Cell) (x : ℕ) (v : Cell) → CellsFit c rows cells → CellFits c rows v → CellsFit c rows (slice_set cells x v)
set_fits c rows [] x v h fit = h
set_fits c rows (w ∷ ws) zero v h fit = (fit, h.1)
set_fits c rows (w ∷ ws) (suc x) v h fit = (h.0, set_fits c rows ws x v h.1 fit)

-- .. and later
module _ (c d : Content) (rows new : Rows) (later : Later c d rows new) where
  pub cell_later : (v : Cell) → CellFits c rows v → CellFits d new v
  cell_later held.Empty h = tt
  cell_later (held.Object object) h = ref_later c d rows new object later h
  cell_later (held.Number z) h = tt
  cell_later held.Null h = tt
  cell_later held.Wild h = tt
  cell_later (held.To index count word object moment) h = pointer_later c d rows new later (leads.To index count word object moment) h
  cell_later (held.Static s) h = h

  pub cells_later : (cells : List Cell) → CellsFit c rows cells → CellsFit d new cells
  cells_later [] h = tt
  cells_later (v ∷ vs) h = (cell_later v h.0, cells_later vs h.1)

-- where nothing was born or counted
pub later_kept : (c d : Content) (rows new : Rows) → Keeps c d rows new → Later c d rows new
later_kept c d rows new keeps = subst (λ x. Later c d rows x) (sym keeps.rows) (later_same c d rows (let e = keeps.births in omega (arith, e)))

pub count_kept : (c d : Content) (rows new : Rows) → Keeps c d rows new → CanCount c → CanCount d
count_kept c d rows new keeps can = record {
  births = let e = keeps.births in let k = can.births in omega (arith, e, k);
  clock = let e = keeps.clock in let k = can.clock in omega (arith, e, k);
}

-- the cells of another frame
pub other_cells : (types : Types) (c : Content) (rows : Rows) (cells others : List Cell) → IsFit types c rows cells → CellsFit c rows others → IsFit types c rows others
other_cells types c rows cells others fits held = record { housed = fits.housed; rowed = fits.rowed; countable = fits.countable; held = held }
