-- Elements, by what is read of locations and registers.
use Rattle.std.proofs.Common.{◌≡◌, ℕ, Option, Some, None, sym, ap, ◌∙◌}
use Rattle.std.specs.Prelude.{ℤ}
use Rattle.life_types.specs.Types.{Types}
use Rattle.life_core.specs.declared.operand.Which.{Which}
use Rattle.life_core.specs.declared.operand.Which.TheVariants as which
use Rattle.life_core.specs.Function.{Function}
use Rattle.life_core.specs.Operands.{Location}
use Rattle.life_core.specs.Operands as base
use Rattle.life_store.specs.Content.{Content}
use Rattle.life_store.specs.Doing.{element, element_at, pointer_to}
use Rattle.life_store.specs.Edits.{buffer_of, size_of}
use Rattle.life_store.specs.Effects.{Attempt, Effect, GotLost, Strays, cell, on_got}
use Rattle.life_store.specs.Iterators.{below_if, chosen, element_of, index_in}
use Rattle.life_store.specs.Places.{Spot, location_cell, pointed}
use Rattle.life_store.specs.State.{Cell, Pointer, State}
use Rattle.life_store.specs.Views.{seen_count, usable, used}
use Rattle.life_pointers.specs.Choices.{chosen_by}
use Rattle.life_pointers.specs.Made.{viewed_element}
use Rattle.life_pointers.specs.Owned.{owned_element}
use Rattle.life_pointers.specs.declared.choosing.Choice.{Choice}
use Rattle.life_pointers.specs.declared.choosing.Choice.TheVariants as choice
use Rattle.life_pointers.proofs.MeantSteps.{element_is, owned_element_is}
use Rattle.life_cells.specs.Cells.{number_in, pointer_in}
use Rattle.life_cells.proofs.CellLemmas.{counts, no_index, no_view, points}

-- ---- which one

pub at_number : (st : State) (r : ℕ) (z : ℤ) → Some z ≡ number_in (cell st r) → (size : ℕ) → chosen st (which.Index r) size ≡ chosen_by (choice.At z) size
at_number st r z number size = ap (λ (o : Option Cell). below_if (index_in o) size) (counts (cell st r) z number)

pub at_none : (st : State) (r : ℕ) → None ≡ number_in (cell st r) → (size : ℕ) → chosen st (which.Index r) size ≡ GotLost
at_none st r none size = ap (λ (a : Attempt ℕ). below_if a size) (no_index (cell st r) none)

module _ (types : Types) (f : Function) (st : State) (p : Location) (w : Which) where
  abbrev m : Content
  m = st.world.content

  abbrev put : Pointer → Effect
  put v = pointed types f p v st

  -- ---- of a span or a view

  module _ (l : Location) where
    pub element_lost : None ≡ pointer_in (location_cell types f l st) → element types f p (base.Pointer l) w st ≡ Strays
    element_lost none = ap (λ (a : Attempt Pointer). on_got a (λ v. element_at types f p w (seen_count v) v st)) (no_view m (location_cell types f l st) none)

    pub element_stops : (v : Pointer) (a : Attempt Pointer) → Some v ≡ pointer_in (location_cell types f l st) → ((size : ℕ) → chosen st w size ≡ GotLost) → a ≡ usable m v
        → element types f p (base.Pointer l) w st ≡ on_got a (λ x. Strays)
    element_stops v a holds lost is =
        ap (λ o. on_got (used m o) (λ x. element_at types f p w (seen_count x) x st)) (points (location_cell types f l st) v holds)
        ∙ ap (λ (b : Attempt Pointer). on_got b (λ x. element_at types f p w (seen_count x) x st)) (sym is)
        ∙ (λ j. on_got a (λ x. on_got (lost (seen_count x) j) (λ i. put (element_of m.clock i x))))

    pub element_there : (v : Pointer) (c : Choice) (a : Attempt Pointer) → Some v ≡ pointer_in (location_cell types f l st) → ((size : ℕ) → chosen st w size ≡ chosen_by c size) → a ≡ viewed_element m c v
        → element types f p (base.Pointer l) w st ≡ on_got a put
    element_there v c a holds same is = element_is types f st l v (points (location_cell types f l st) v holds) p w c same ∙ ap (λ (x : Attempt Pointer). on_got x put) (sym is)

  -- ---- of an owner

  module _ (spot : Spot) where
    abbrev in_buffer : ℕ → Effect
    in_buffer b = element_at types f p w (size_of m b) (pointer_to m b 0 0) st

    pub owned_there : (c : Choice) (a : Attempt Pointer) → ((size : ℕ) → chosen st w size ≡ chosen_by c size) → a ≡ owned_element m c spot → on_got (buffer_of m spot) in_buffer ≡ on_got a put
    owned_there c a same is = owned_element_is types f st p spot w c same ∙ ap (λ (x : Attempt Pointer). on_got x put) (sym is)

    pub owned_stops : (a : Attempt ℕ) → ((size : ℕ) → chosen st w size ≡ GotLost) → a ≡ buffer_of m spot → on_got (buffer_of m spot) in_buffer ≡ on_got a (λ x. Strays)
    owned_stops a lost is =
        ap (λ (b : Attempt ℕ). on_got b in_buffer) (sym is)
        ∙ (λ j. on_got a (λ b. on_got (lost (size_of m b) j) (λ i. put (element_of m.clock i (pointer_to m b 0 0)))))
