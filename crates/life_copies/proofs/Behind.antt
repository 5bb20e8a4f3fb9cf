-- What is counted of the meaning's content is counted of the store's.
use Rattle.std.proofs.Common.{ℕ}
use Rattle.life_types.specs.Types.{Types}
use Rattle.life_store.specs.Content.{Content}
use Rattle.life_store.specs.References.{Rows}
use Rattle.life_cells.specs.Fits.{meant}
use Rattle.life_changes.specs.Bounded.{Grows}
use Rattle.life_changes.proofs.Frames.{IsBehind}

pub grows_behind : (types : Types) (limit : ℕ) (c d : Content) (rows new : Rows) → IsBehind limit (meant types c rows) (meant types d new) → Grows c d
grows_behind types limit c d rows new h = record { births = h.grows.births; clock = h.grows.clock }
