-- What is known behind a slot that has ended: nothing was counted, and what cells hold fits still.
use Rattle.std.proofs.Common.{◌≡◌, ◌≢◌, ℕ, List, Option, Some, None, Result, Ok, Err, OnOk, sym, ap, ◌∙◌, arith}
use Rattle.life_types.specs.Types.{Types}
use Rattle.life_core.specs.Function.{Function}
use Rattle.life_core.specs.Operands.{Location}
use Rattle.life_store.specs.Cells.{at}
use Rattle.life_store.specs.Content.{Content, without}
use Rattle.life_store.specs.Effects.{Attempt, Got, GotLost}
use Rattle.life_store.specs.Places.{Spot as Place, owner_spot_if, wrote_spot}
use Rattle.life_store.specs.References.{Rows}
use Rattle.life_store.specs.State.{Cell, Empty, Named, Number, Points}
use Rattle.life_seen.specs.Housed.{IsHoused}
use Rattle.life_seen.specs.Kinds.{kinds_of}
use Rattle.life_seen.specs.Rowed.{AreRowed}
use Rattle.life_pointers.specs.Owned.{spot_seen}
use Rattle.life_pointers.specs.declared.owned.Spot.{Spot}
use Rattle.life_cells.specs.Fits.{meant, IsFit}
use Rattle.life_cells.specs.declared.cell.Cell as machine
use Rattle.life_cells.proofs.FitLemmas.{cells_later}
use Rattle.life_cells.proofs.LocationLemmas.{wrote_births, wrote_clock}
use Rattle.life_slots.specs.Slots.{IsBehind}

-- ---- where an owner lies

got_lost : (spot : Place) → Got spot ≡ GotLost → ⊥
got_lost spot e = cc

got_object : (s t : Place) → Got s ≡ Got t → s.object ≡ t.object
got_object s t e = ap object e
  where
    object : Attempt Place → ℕ
    object (Got spot) = spot.object
    object _ = s.object

-- the owner lies in the object that the local names
pub owner_apart : (types : Types) (f : Function) (l : Location) (v : Option Cell) (owner : Spot) → Got (spot_seen owner) ≡ owner_spot_if types f l v → (m : ℕ) → ((n : ℕ) → v ≡ Some (Named n) → n ≢ m) → owner.object.birth ≢ m
owner_apart types f l None owner is m apart = absurd (got_lost (spot_seen owner) is)
owner_apart types f l (Some Empty) owner is m apart = absurd (got_lost (spot_seen owner) is)
owner_apart types f l (Some (Named n)) owner is m apart = λ e. apart n (λ i. Some (Named n)) (sym (got_object (spot_seen owner) _ is) ∙ e)
owner_apart types f l (Some (Number z)) owner is m apart = absurd (got_lost (spot_seen owner) is)
owner_apart types f l (Some (Points p)) owner is m apart = absurd (got_lost (spot_seen owner) is)

-- ---- what is counted

pub without_counts : (types : Types) (c d : Content) (rows new : Rows) (owner : Spot) (m : ℕ) (ws : List ℕ) → meant types d new ≡ without m (wrote_spot (spot_seen owner) ws (meant types c rows)) → (d.births ≡ c.births) × (d.clock ≡ c.clock)
without_counts types c d rows new owner m ws is = (
  ap (λ (x : Content). x.births) is ∙ wrote_births owner.object.birth owner.index owner.word ws (meant types c rows) (at (meant types c rows).objects owner.object.birth),
  ap (λ (x : Content). x.clock) is ∙ wrote_clock owner.object.birth owner.index owner.word ws (meant types c rows) (at (meant types c rows).objects owner.object.birth),
)

pub fits_behind : (types : Types) (c d : Content) (rows new : Rows) (cells : List machine.Cell) → IsFit types c rows cells → IsHoused (kinds_of types) d new → AreRowed (kinds_of types) d new → IsBehind c d rows new → IsFit types d new cells
fits_behind types c d rows new cells fits housed rowed behind = record {
  housed = housed;
  rowed = rowed;
  countable = record {
    births = let e = behind.births in let k = fits.countable.births in omega (arith, e, k);
    clock = let e = behind.clock in let k = fits.countable.clock in omega (arith, e, k);
  };
  held = cells_later c d rows new behind.later cells fits.held;
}

-- what holds anyhow
pub ok_holds : {A E : Type 0} (r : Result A E) (P : Type 0) → P → OnOk r P
ok_holds (Ok a) P h = h
ok_holds (Err e) P h = tt
