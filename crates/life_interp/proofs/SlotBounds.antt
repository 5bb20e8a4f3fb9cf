-- What lives stays within the limit where a call lends, and where what it is given comes back.
use Rattle.std.proofs.Common.{◌≡◌, ℕ, List, [], ◌∷◌, Option, None}
use Rattle.std.specs.Prelude.{take}
use Rattle.life_types.specs.Types.{Types}
use Rattle.life_core.specs.Function.{Function}
use Rattle.life_core.specs.Operands.{Argument, GivenOver, Location, PointerOf, Slot, Value}
use Rattle.life_store.specs.Calls.{lent, slot_lent, slot_returned, slots_returned, spot_lent, target_given}
use Rattle.life_store.specs.Content.{without}
use Rattle.life_store.specs.Doing.{Setting, Attempt, Got, GotFault, GotLost, GotTrap, Next, cell, put_cell, put_content}
use Rattle.life_store.specs.Held.{owner_word, slot_words}
use Rattle.life_store.specs.Parts.{Parts, Single, Raw, Iterates, Views, Text, Vector, Unique, Member, NoMember, location_parts}
use Rattle.life_store.specs.Places.{Spot, owner_spot_if, wrote_spot}
use Rattle.life_store.specs.State.{Cell, Empty, Named, Number, Points, State}
use Rattle.life_changes.specs.Bounded.{IsBounded}
use Rattle.life_changes.proofs.Bounds.{bounded_without, bounded_wrote}
use Rattle.life_interp.specs.Returning.{back_given}
use Rattle.life_interp.proofs.Bounding.{Bounds, got_bounds, next_bounds, pointed_bounds, target_bounds}

module _ (limit : ℕ) (types : Types) (f : Function) where
  -- ---- what is lent

  spot_bounded : (a : Attempt Spot) (st : State) → IsBounded limit st.world.content → IsBounded limit (spot_lent a st).world.content
  spot_bounded (Got spot) st h = bounded_wrote limit spot.object spot.index spot.word (owner_word None ∷ []) st.world.content h
  spot_bounded (GotTrap kind) st h = h
  spot_bounded (GotFault kind) st h = h
  spot_bounded GotLost st h = h

  slot_bounded : (q : Parts) (l : Location) (st : State) → IsBounded limit st.world.content → IsBounded limit (slot_lent types f q l st).world.content
  slot_bounded Single l st h = h
  slot_bounded Raw l st h = h
  slot_bounded Iterates l st h = h
  slot_bounded Views l st h = h
  slot_bounded (Text id) l st h = h
  slot_bounded (Vector id element) l st h = h
  slot_bounded (Unique id target) l st h = spot_bounded (owner_spot_if types f l (cell st l.local)) st h
  slot_bounded (Member first others) l st h = h
  slot_bounded NoMember l st h = h

  pub lent_bounded : (xs : List Argument) (st : State) → IsBounded limit st.world.content → IsBounded limit (lent types f xs st).world.content
  lent_bounded [] st h = h
  lent_bounded (Value r ∷ xs) st h = lent_bounded xs st h
  lent_bounded (GivenOver x ∷ xs) st h = lent_bounded xs (put_cell x Empty st) h
  lent_bounded (PointerOf l ∷ xs) st h = lent_bounded xs st h
  lent_bounded (Slot l ∷ xs) st h = lent_bounded xs (slot_lent types f (location_parts types f l) l st) (slot_bounded (location_parts types f l) l st h)

  -- ---- what comes back

  returned_bounds : (l : Location) (v : Cell) (st : State) → IsBounded limit st.world.content → Bounds limit (slot_returned types f l v st)
  returned_bounds l Empty st h = tt
  returned_bounds l (Named m) st h =
      got_bounds limit (owner_spot_if types f l (cell st l.local)) (λ (spot : Spot). Next (put_content (without m (wrote_spot spot (take 1 (slot_words st.world.content m 0)) st.world.content)) st))
      (λ spot. bounded_without limit m (wrote_spot spot (take 1 (slot_words st.world.content m 0)) st.world.content) (bounded_wrote limit spot.object spot.index spot.word (take 1 (slot_words st.world.content m 0)) st.world.content h))
  returned_bounds l (Number z) st h = tt
  returned_bounds l (Points p) st h = pointed_bounds limit types f l p st h

  slots_bounds : (xs : List Argument) (vs : List Cell) (st : State) → IsBounded limit st.world.content → Bounds limit (slots_returned types f xs vs st)
  slots_bounds [] vs st h = h
  slots_bounds (Value r ∷ xs) vs st h = slots_bounds xs vs st h
  slots_bounds (GivenOver x ∷ xs) vs st h = slots_bounds xs vs st h
  slots_bounds (PointerOf l ∷ xs) vs st h = slots_bounds xs vs st h
  slots_bounds (Slot l ∷ xs) [] st h = tt
  slots_bounds (Slot l ∷ xs) (v ∷ vs) st h = next_bounds limit (slot_returned types f l v st) (slots_returned types f xs vs) (returned_bounds l v st h) (λ st' k. slots_bounds xs vs st' k)

  pub back_bounds : (s : Setting) → s.given.cells ≡ limit → (xs : List Argument) (vs : List Cell) (target : Option Location) (first : List Cell) (st : State) → IsBounded limit st.world.content → Bounds limit (back_given s types f xs vs target first st)
  back_bounds s cells xs vs target first st h =
      next_bounds limit (slots_returned types f xs vs st) (target_given s types f target first) (slots_bounds xs vs st h) (λ st' k. target_bounds limit s cells types f target first st' k)
