-- The cells of several frames fit, and stay so.
use Rattle.std.proofs.Common.{◌≡◌, ◌≤◌, ℕ, zero, suc, List, [], ◌∷◌, ◌++◌, Option, Some, None, replicate, subst, sym, ◌∙◌, arith}
use Rattle.std.specs.Prelude.{IfSome}
use Rattle.life_store.specs.Content.{Content}
use Rattle.life_store.specs.References.{Rows}
use Rattle.life_seen.specs.Housed.{Later}
use Rattle.life_seen.proofs.References.{later_then, later_same}
use Rattle.life_cells.specs.Fits.{CellFits, CellsFit, Keeps}
use Rattle.life_cells.specs.declared.cell.Cell.{Cell}
use Rattle.life_cells.specs.declared.cell.Cell.TheVariants as held
use Rattle.life_cells.proofs.FitLemmas.{cell_later}
use Rattle.life_slots.specs.Slots.{IsBehind}
use Rattle.life_interp.specs.Fits.{CanStep, Grows}

-- ---- one list of cells and then another

pub fit_front : (c : Content) (rows : Rows) (xs ys : List Cell) → CellsFit c rows (xs ++ ys) → CellsFit c rows xs
fit_front c rows [] ys h = tt
fit_front c rows (x ∷ xs) ys h = (h.0, fit_front c rows xs ys h.1)

pub fit_behind : (c : Content) (rows : Rows) (xs ys : List Cell) → CellsFit c rows (xs ++ ys) → CellsFit c rows ys
fit_behind c rows [] ys h = h
fit_behind c rows (x ∷ xs) ys h = fit_behind c rows xs ys h.1

pub fit_both : (c : Content) (rows : Rows) (xs ys : List Cell) → CellsFit c rows xs → CellsFit c rows ys → CellsFit c rows (xs ++ ys)
fit_both c rows [] ys h k = k
fit_both c rows (x ∷ xs) ys h k = (h.0, fit_both c rows xs ys h.1 k)

pub blank_fits : (c : Content) (rows : Rows) (n : ℕ) → CellsFit c rows (replicate n held.Empty)
blank_fits c rows zero = tt
blank_fits c rows (suc n) = (tt, blank_fits c rows n)

-- ---- from one store to the next

pub later_rows : (c d : Content) (rows new : Rows) → c.births ≤ d.births → new ≡ rows → Later c d rows new
later_rows c d rows new le same = subst (λ x. Later c d rows x) (sym same) (later_same c d rows le)

pub keeps_on : (c d e : Content) (rows mid new : Rows) → Keeps c d rows mid → Keeps d e mid new → Keeps c e rows new
keeps_on c d e rows mid new a b = record { rows = b.rows ∙ a.rows; births = b.births ∙ a.births; clock = b.clock ∙ a.clock }

-- .. so another step can be counted still
pub kept_step : (c d : Content) (rows new : Rows) → Keeps c d rows new → CanStep c → CanStep d
kept_step c d rows new keeps can = record {
  births = let e = keeps.births in let k = can.births in omega (arith, e, k);
  clock = let e = keeps.clock in let k = can.clock in omega (arith, e, k);
}

pub one_later : (c d : Content) (rows new : Rows) → Later c d rows new → (o : Option Cell) → IfSome o (CellFits c rows) → IfSome o (CellFits d new)
one_later c d rows new later None h = tt
one_later c d rows new later (Some v) h = cell_later c d rows new later v h

-- ---- where nothing was born or counted

pub behind_then : (c d e : Content) (rows mid new : Rows) → IsBehind c d rows mid → IsBehind d e mid new → IsBehind c e rows new
behind_then c d e rows mid new a b = record { births = b.births ∙ a.births; clock = b.clock ∙ a.clock; later = later_then c d e rows mid new a.later b.later }

pub behind_step : (c d : Content) (rows new : Rows) → IsBehind c d rows new → CanStep c → CanStep d
behind_step c d rows new behind can = record {
  births = let e = behind.births in let k = can.births in omega (arith, e, k);
  clock = let e = behind.clock in let k = can.clock in omega (arith, e, k);
}

pub behind_grows : (k : ℕ) (c d e : Content) (rows new : Rows) → IsBehind c d rows new → Grows k d e → Grows k c e
behind_grows k c d e rows new behind grows = record {
  births = let i = behind.births in let le = grows.births in omega (arith, i, le);
  clock = let i = behind.clock in let le = grows.clock in omega (arith, i, le);
}

pub kept_grows : (k : ℕ) (c d : Content) (rows new : Rows) → Keeps c d rows new → Grows k c d
kept_grows k c d rows new keeps = record {
  births = let e = keeps.births in omega (arith, e);
  clock = let e = keeps.clock in omega (arith, e);
}
