-- What is made of pointers: the parts of the meaning's steps that come before something is written.
use Rattle.std.specs.Prelude.{ℕ, ℤ, Bool, List, Option}
use Rattle.life_core.specs.declared.operand.RangeEnd.{RangeEnd}
use Rattle.life_store.specs.Content.{Content}
use Rattle.life_store.specs.Effects.{Attempt, Got, then_get}
use Rattle.life_store.specs.Iterators.{at_index, element_of, end_index, same_position, standing, stepped}
use Rattle.life_store.specs.State.{Pointer}
use Rattle.life_store.specs.Views.{are_same, part_count, part_of, seen_bytes, seen_count, usable}
use Rattle.life_pointers.specs.Choices.{chosen_by}
use Rattle.life_pointers.specs.declared.choosing.Choice.{Choice}

-- ---- of a span or a view

abbrev pub viewed_element : Content → Choice → Pointer → Attempt Pointer
viewed_element c which p = then_get (usable c p) (λ v. then_get (chosen_by which (seen_count v)) (λ i. Got (element_of c.clock i v)))

abbrev pub viewed_end : Content → RangeEnd → Pointer → Attempt Pointer
viewed_end c end p = then_get (usable c p) (λ v. Got (element_of c.clock (end_index end (seen_count v)) v))

abbrev pub viewed_size : Content → Pointer → Attempt ℕ
viewed_size c p = then_get (usable c p) (λ v. Got (seen_count v))

-- so many from an index on
abbrev pub viewed_part : Content → (span : Bool) → (index : ℕ) → Option ℕ → Pointer → Attempt Pointer
viewed_part c span i n p = then_get (usable c p) (λ v. then_get (part_count span i n (seen_count v)) (λ k. Got (part_of c.clock i k v)))

-- two are the same where their characters are
abbrev pub viewed_alike : List (List ℕ) → Content → Pointer → Pointer → Attempt Bool
viewed_alike texts c p q = then_get (usable c p) (λ v. then_get (usable c q) (λ w. Got (are_same (seen_bytes texts c v) (seen_bytes texts c w))))

-- ---- of an iterator

abbrev pub moved : List (List ℕ) → Content → ℤ → Pointer → Attempt Pointer
moved texts c z p = then_get (standing c p) (λ v. then_get (stepped texts c v z) (λ i. Got (at_index c.clock i v)))

abbrev pub alike : Content → Pointer → Pointer → Attempt Bool
alike c p q = then_get (standing c p) (λ v. then_get (standing c q) (λ w. same_position v w))
