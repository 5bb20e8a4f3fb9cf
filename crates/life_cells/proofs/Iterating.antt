-- Steps of iterators, by what is read of locations and registers.
use Rattle.std.proofs.Common.{◌≡◌, ℕ, Some, None, sym, ap, ◌∙◌}
use Rattle.std.specs.Prelude.{ℤ}
use Rattle.life_types.specs.Types.{Types}
use Rattle.life_core.specs.declared.instr.Direction.{Direction}
use Rattle.life_core.specs.Function.{Function}
use Rattle.life_core.specs.Operands.{Location}
use Rattle.life_store.specs.Content.{Content}
use Rattle.life_store.specs.Doing.{advanced}
use Rattle.life_store.specs.Effects.{Attempt, Effect, Setting, Strays, cell, on_got, on_number, type_of}
use Rattle.life_store.specs.Iterators.{at_index, count_of, directed, iterator, standing, stepped}
use Rattle.life_store.specs.Places.{location_cell, pointed}
use Rattle.life_store.specs.State.{Pointer, State}
use Rattle.life_pointers.specs.Made.{moved}
use Rattle.life_pointers.proofs.MeantSteps.{advanced_is}
use Rattle.life_cells.specs.Cells.{number_in, pointer_in}
use Rattle.life_cells.proofs.CellLemmas.{counts, no_iterator, no_number, points}

module _ (types : Types) (f : Function) (st : State) (s : Setting) (p q : Location) (r : ℕ) (way : Direction) where
  abbrev m : Content
  m = st.world.content

  abbrev put : Pointer → Effect
  put v = pointed types f p v st

  abbrev behind : Pointer → Effect
  behind v = on_number (cell st r) (λ z. on_got (stepped s.texts m v (directed way (count_of (type_of types f r) z))) (λ i. put (at_index m.clock i v)))

  pub advanced_lost : None ≡ pointer_in (location_cell types f q st) → advanced s types f p q r way st ≡ Strays
  advanced_lost none = ap (λ (a : Attempt Pointer). on_got a behind) (no_iterator m (location_cell types f q st) none)

  pub advanced_stops : (v : Pointer) (a : Attempt Pointer) → Some v ≡ pointer_in (location_cell types f q st) → None ≡ number_in (cell st r) → a ≡ standing m v
      → advanced s types f p q r way st ≡ on_got a (λ w. Strays)
  advanced_stops v a holds none is =
      ap (λ o. on_got (iterator m o) behind) (points (location_cell types f q st) v holds)
      ∙ ap (λ (x : Attempt Pointer). on_got x behind) (sym is)
      ∙ (λ j. on_got a (λ w. no_number (cell st r) (λ z. on_got (stepped s.texts m w (directed way (count_of (type_of types f r) z))) (λ i. put (at_index m.clock i w))) none j))

  pub advanced_there : (v : Pointer) (z : ℤ) (a : Attempt Pointer) → Some v ≡ pointer_in (location_cell types f q st) → Some z ≡ number_in (cell st r)
      → a ≡ moved s.texts m (directed way (count_of (type_of types f r) z)) v → advanced s types f p q r way st ≡ on_got a put
  advanced_there v z a holds number is =
      advanced_is types f st q v (points (location_cell types f q st) v holds) s p r way z (counts (cell st r) z number) ∙ ap (λ (x : Attempt Pointer). on_got x put) (sym is)
