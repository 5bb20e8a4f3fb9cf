-- What holds of the frame and the store behind an edit that came.
use Rattle.std.proofs.Common.{◌≡◌, ℕ, List, OnOk, Result, Ok, Err, sym, subst}
use Rattle.std.specs.Prelude.{slice_set}
use Rattle.life_types.specs.Types.{Types}
use Rattle.life_store.specs.Content.{Content}
use Rattle.life_store.specs.Effects.{Attempt}
use Rattle.life_store.specs.References.{Rows}
use Rattle.life_forest.proofs.Coming.{IfGot}
use Rattle.life_seen.specs.Housed.{IsHoused, Later}
use Rattle.life_seen.specs.Kinds.{kinds_of}
use Rattle.life_seen.specs.Rowed.{AreRowed}
use Rattle.life_cells.specs.Fits.{meant, CellsFit, IsFit}
use Rattle.life_cells.specs.declared.cell.Cell.{Cell}
use Rattle.life_cells.specs.declared.cell.Cell.TheVariants as held
use Rattle.life_cells.proofs.FitLemmas.{set_fits}
use Rattle.life_changes.specs.Bounded.{Grows, IsBounded, IsEarly}
use Rattle.life_changes.specs.Steps.{Gets}
use Rattle.life_changes.specs.declared.failure.Failure.{Failure}
use Rattle.life_changes.proofs.Frames.{fits_behind, got_behind, IsBehind}

module _ {A : Type 0} (types : Types) (limit : ℕ) (c d : Content) (rows new : Rows) (x : Attempt Content) (all : IfGot x (IsBehind limit (meant types c rows))) where
  pub ok_bounded : (result : Result A Failure) → Gets (kinds_of types) x result d new → OnOk result (IsBounded limit (meant types d new))
  ok_bounded (Ok done) gets = (got_behind (kinds_of types) limit (meant types c rows) x d new done all gets).bounded
  ok_bounded (Err e) gets = tt

  grows_so : (done : A) → Gets (kinds_of types) x (Ok done) d new → Grows c d
  grows_so done gets = let b = (got_behind (kinds_of types) limit (meant types c rows) x d new done all gets).grows in record { births = b.births; clock = b.clock }

  pub ok_grows : (result : Result A Failure) → Gets (kinds_of types) x result d new → OnOk result (Grows c d)
  ok_grows (Ok done) gets = grows_so done gets
  ok_grows (Err e) gets = tt

  pub ok_fits : (cells : List Cell) (early : IsEarly c) (held : CellsFit c rows cells) (result : Result A Failure) → Gets (kinds_of types) x result d new → OnOk result (AreRowed (kinds_of types) d new) → OnOk result (Later c d rows new) → OnOk result (IsFit types d new cells)
  ok_fits cells early held (Ok done) gets rowed later = fits_behind types c d rows new cells early held gets.2.housed rowed later (grows_so done gets)
  ok_fits cells early held (Err e) gets rowed later = tt

-- what holds behind a step of which it is told
module _ {A : Type 0} (types : Types) (limit : ℕ) (c d : Content) (rows new : Rows) where
  pub told_bounded : (result : Result A Failure) → OnOk result (IsBounded limit (meant types d new) × Grows c d) → OnOk result (IsBounded limit (meant types d new))
  told_bounded (Ok done) behind = behind.0
  told_bounded (Err e) behind = tt

  pub told_grows : (result : Result A Failure) → OnOk result (IsBounded limit (meant types d new) × Grows c d) → OnOk result (Grows c d)
  told_grows (Ok done) behind = behind.1
  told_grows (Err e) behind = tt

  pub told_fits : (x : Attempt Content) (cells : List Cell) → IsEarly c → CellsFit c rows cells → (result : Result A Failure) → OnOk result (IsBounded limit (meant types d new) × Grows c d) → Gets (kinds_of types) x result d new
      → OnOk result (AreRowed (kinds_of types) d new) → OnOk result (Later c d rows new) → OnOk result (IsFit types d new cells)
  told_fits x cells early held (Ok done) behind gets rowed later = fits_behind types c d rows new cells early held gets.2.housed rowed later behind.1
  told_fits x cells early held (Err e) behind gets rowed later = tt

-- .. where a local holds nothing any more
pub emptied_fits : (types : Types) (c d : Content) (rows new : Rows) (cells : List Cell) → IsEarly c → CellsFit c rows cells → IsHoused (kinds_of types) d new → AreRowed (kinds_of types) d new → Later c d rows new → Grows c d
    → (x : ℕ) (after : List Cell) → after ≡ slice_set cells x held.Empty → IsFit types d new after
emptied_fits types c d rows new cells early fits housed rowed later grows x after put =
    let all = fits_behind types c d rows new cells early fits housed rowed later grows in
    subst (IsFit types d new) (sym put) (record { housed = all.housed; rowed = all.rowed; countable = all.countable; held = set_fits d new cells x held.Empty all.held tt })
