-- Parts of spans and views, by what is read of locations and registers.
use Rattle.std.proofs.Common.{◌≡◌, ℕ, Option, Some, None, sym, ap, ◌∙◌}
use Rattle.std.specs.Prelude.{ℤ}
use Rattle.std.specs.Int.{cast_unsigned, w64}
use Rattle.life_types.specs.Types.{Types}
use Rattle.life_core.specs.Function.{Function}
use Rattle.life_core.specs.Operands.{Location}
use Rattle.life_store.specs.Content.{Content}
use Rattle.life_store.specs.Doing.{count_in, cut, type_if}
use Rattle.life_store.specs.Effects.{Attempt, Effect, Got, GotLost, Strays, cell, on_got, then_get}
use Rattle.life_store.specs.Iterators.{index_in}
use Rattle.life_store.specs.Parts.{location_type}
use Rattle.life_store.specs.Places.{location_cell, pointed}
use Rattle.life_store.specs.State.{Cell, Pointer, State}
use Rattle.life_store.specs.Views.{is_span, part_count, part_of, seen_count, usable, used}
use Rattle.life_pointers.specs.Made.{viewed_part}
use Rattle.life_pointers.proofs.MeantSteps.{cut_is}
use Rattle.life_cells.specs.Cells.{number_in, pointer_in}
use Rattle.life_cells.proofs.CellLemmas.{counts, no_index, no_view, points}

pub with_count : (st : State) (r : ℕ) (z : ℤ) → Some z ≡ number_in (cell st r) → count_in st (Some r) ≡ Got (Some (cast_unsigned w64 z))
with_count st r z number = ap (λ (o : Option Cell). then_get (index_in o) (λ n. Got (Some n))) (counts (cell st r) z number)

pub without_count : (st : State) (r : ℕ) → None ≡ number_in (cell st r) → count_in st (Some r) ≡ GotLost
without_count st r none = ap (λ (a : Attempt ℕ). then_get a (λ n. Got (Some n))) (no_index (cell st r) none)

module _ (types : Types) (f : Function) (st : State) (p q : Location) (r : ℕ) (count : Option ℕ) where
  abbrev m : Content
  m = st.world.content

  abbrev put : Pointer → Effect
  put v = pointed types f p v st

  abbrev behind_count : Pointer → ℕ → Option ℕ → Effect
  behind_count v i n = on_got (part_count (is_span (type_if types (location_type types f q))) i n (seen_count v)) (λ k. put (part_of m.clock i k v))

  abbrev behind_index : Pointer → ℕ → Effect
  behind_index v i = on_got (count_in st count) (behind_count v i)

  abbrev behind_view : Pointer → Effect
  behind_view v = on_got (index_in (cell st r)) (behind_index v)

  pub cut_lost : None ≡ pointer_in (location_cell types f q st) → cut types f p q r count st ≡ Strays
  cut_lost none = ap (λ (a : Attempt Pointer). on_got a behind_view) (no_view m (location_cell types f q st) none)

  module _ (v : Pointer) (a : Attempt Pointer) (holds : Some v ≡ pointer_in (location_cell types f q st)) where
    pub cut_no_index : None ≡ number_in (cell st r) → a ≡ usable m v → cut types f p q r count st ≡ on_got a (λ w. Strays)
    cut_no_index none is =
        ap (λ o. on_got (used m o) behind_view) (points (location_cell types f q st) v holds)
        ∙ ap (λ (x : Attempt Pointer). on_got x behind_view) (sym is)
        ∙ (λ j. on_got a (λ w. on_got (no_index (cell st r) none j) (behind_index w)))

    pub cut_no_count : (z : ℤ) → Some z ≡ number_in (cell st r) → count_in st count ≡ GotLost → a ≡ usable m v → cut types f p q r count st ≡ on_got a (λ w. Strays)
    cut_no_count z number lost is =
        ap (λ o. on_got (used m o) behind_view) (points (location_cell types f q st) v holds)
        ∙ ap (λ (x : Attempt Pointer). on_got x behind_view) (sym is)
        ∙ (λ j. on_got a (λ w. on_got (index_in (counts (cell st r) z number j)) (behind_index w)))
        ∙ (λ j. on_got a (λ w. on_got (lost j) (behind_count w (cast_unsigned w64 z))))

  pub cut_there : (v : Pointer) (z : ℤ) (n : Option ℕ) (a : Attempt Pointer) → Some v ≡ pointer_in (location_cell types f q st) → Some z ≡ number_in (cell st r) → count_in st count ≡ Got n
      → a ≡ viewed_part m (is_span (type_if types (location_type types f q))) (cast_unsigned w64 z) n v → cut types f p q r count st ≡ on_got a put
  cut_there v z n a holds number counted is =
      cut_is types f st q v (points (location_cell types f q st) v holds) p r count (cast_unsigned w64 z) n (ap index_in (counts (cell st r) z number)) counted
      ∙ ap (λ (x : Attempt Pointer). on_got x put) (sym is)
