-- Arguments one after the other: what they name, and what they lend.
use Rattle.std.proofs.Common.{◌≡◌, ⊎_elim, ℕ, zero, suc, ◌+◌, ◌≤◌, List, [], ◌∷◌, drop, length, map, Some, refl, sym, ap, subst, ◌∙◌, arith}
use Rattle.std.proofs.lemmas.List.{map-set}
use Rattle.std.proofs.lemmas.Option.{none-some, same_Some}
use Rattle.std.specs.Prelude.{slice_get, slice_set}
use Rattle.life_types.specs.Types.{Types}
use Rattle.life_core.specs.declared.operand.Argument.{Argument as Given}
use Rattle.life_core.specs.Function.{Function}
use Rattle.life_core.specs.Operands.{Argument, GivenOver, Location, PointerOf, Slot, Value, argument_of}
use Rattle.life_store.specs.Calls.{lent}
use Rattle.life_store.specs.Content.{Content}
use Rattle.life_store.specs.State as state
use Rattle.life_store.specs.State.{State}
use Rattle.life_store.proofs.CellLemmas.{cell_cases}
use Rattle.life_cells.specs.Cells.{cell_seen, cells_seen, state_in}
use Rattle.life_cells.specs.declared.cell.Cell.{Cell}
use Rattle.life_cells.specs.declared.cell.Cell.TheVariants as held
use Rattle.life_slots.specs.Slots.{IsSlotPlace}
use Rattle.life_interp.specs.CallOperands.{AreArgumentPlaces, AreLentPlaces, IsArgumentPlace, IsLentPlace}
use Rattle.life_interp.proofs.FrameLemmas.{drop_there}

pub drop_past : {A : Type 0} (xs : List A) (i : ℕ) → length xs ≤ i → drop i xs ≡ []
drop_past [] zero le = refl
drop_past [] (suc i) le = refl
drop_past (x ∷ xs) zero le = absurd (omega (arith, le))
drop_past (x ∷ xs) (suc i) le = drop_past xs i (omega (arith, le))

module _ (types : Types) (f : Function) where
  -- ---- what they name

  pub place_at : (st : State) (xs : List Given) (i : ℕ) (x : Given) → slice_get xs i ≡ Some x → AreArgumentPlaces types f st (map argument_of xs) → IsArgumentPlace types f st (argument_of x)
  place_at st [] i x e places = absurd (none-some x e)
  place_at st (y ∷ ys) zero x e places = subst (λ (z : Given). IsArgumentPlace types f st (argument_of z)) (same_Some y x e) places.0
  place_at st (y ∷ ys) (suc i) x e places = place_at st ys i x e places.1

  lent_place : (st : State) (x : Argument) → IsArgumentPlace types f st x → IsLentPlace types f st x
  lent_place st (Value r) place = tt
  lent_place st (GivenOver x) place = tt
  lent_place st (PointerOf l) place = tt
  lent_place st (Slot l) place = place

  pub lent_places : (st : State) (xs : List Argument) → AreArgumentPlaces types f st xs → AreLentPlaces types f st xs
  lent_places st [] places = tt
  lent_places st (x ∷ xs) places = (lent_place st x places.0, lent_places st xs places.1)

  -- ---- what they lend

  pub lent_first : (x : Argument) (xs : List Argument) (st : State) → lent types f (x ∷ xs) st ≡ lent types f xs (lent types f (x ∷ []) st)
  lent_first (Value r) xs st = refl
  lent_first (GivenOver x) xs st = refl
  lent_first (PointerOf l) xs st = refl
  lent_first (Slot l) xs st = refl

  pub lent_next : (xs : List Given) (i : ℕ) (x : Given) (st : State) → slice_get xs i ≡ Some x → lent types f (map argument_of (drop i xs)) st ≡ lent types f (map argument_of (drop (i + 1) xs)) (lent types f (argument_of x ∷ []) st)
  lent_next xs i x st e = ap (λ (ys : List Given). lent types f (map argument_of ys) st) (drop_there xs i x e) ∙ lent_first (argument_of x) (map argument_of (drop (i + 1) xs)) st

  -- a local that is given over is no place of another argument
  module _ (c : Content) (cells new : List Cell) (x : ℕ) (set : new ≡ slice_set cells x held.Empty) where
    still_named : (y n : ℕ) → slice_get (cells_seen new) y ≡ Some (state.Named n) → slice_get (cells_seen cells) y ≡ Some (state.Named n)
    still_named y n e =
        ⊎_elim (λ h. absurd (unlike h.1)) (λ h. h.1)
        (cell_cases (cells_seen cells) x y state.Empty (state.Named n) (ap (λ (cs : List state.Cell). slice_get cs y) (sym (ap cells_seen set ∙ map-set cell_seen cells x held.Empty)) ∙ e))
      where
        unlike : state.Empty ≡ state.Named n → ⊥
        unlike e = cc

    still_place : (l : Location) → IsSlotPlace types f l (state_in c cells) → IsSlotPlace types f l (state_in c new)
    still_place l place = record {
      owner = λ e n named. place.owner e n (still_named l.local n named);
      pointer = λ e n some named. place.pointer e n some (still_named l.local n named);
    }

    still_lent : (z : Argument) → IsLentPlace types f (state_in c cells) z → IsLentPlace types f (state_in c new) z
    still_lent (Value r) place = tt
    still_lent (GivenOver y) place = tt
    still_lent (PointerOf l) place = tt
    still_lent (Slot l) place = still_place l place

    pub still_places : (xs : List Given) → AreLentPlaces types f (state_in c cells) (map argument_of xs) → AreLentPlaces types f (state_in c new) (map argument_of xs)
    still_places [] places = tt
    still_places (z ∷ zs) places = (still_lent (argument_of z) places.0, still_places zs places.1)

-- .. and so are all where each place of a slot is
pub places_kept : (types : Types) (f : Function) (st st' : State) → ((l : Location) → IsSlotPlace types f l st → IsSlotPlace types f l st') → (xs : List Argument) → AreLentPlaces types f st xs → AreLentPlaces types f st' xs
places_kept types f st st' kept [] places = tt
places_kept types f st st' kept (Value r ∷ xs) places = (tt, places_kept types f st st' kept xs places.1)
places_kept types f st st' kept (GivenOver x ∷ xs) places = (tt, places_kept types f st st' kept xs places.1)
places_kept types f st st' kept (PointerOf l ∷ xs) places = (tt, places_kept types f st st' kept xs places.1)
places_kept types f st st' kept (Slot l ∷ xs) places = (kept l places.0, places_kept types f st st' kept xs places.1)
