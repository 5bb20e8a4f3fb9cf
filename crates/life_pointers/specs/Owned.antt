-- What is made of what owners own: the parts of the meaning's steps that come before something is written.
use Rattle.std.specs.Prelude.{ℕ, Option, Some, None}
use Rattle.life_core.specs.declared.operand.RangeEnd.{RangeEnd}
use Rattle.life_store.specs.Content.{Content}
use Rattle.life_store.specs.Doing.{pointer_to, whole_of}
use Rattle.life_store.specs.Edits.{buffer_of, size_of}
use Rattle.life_store.specs.Effects.{Attempt, Got, GotFault, then_get}
use Rattle.life_store.specs.Iterators.{element_of, end_index}
use Rattle.life_store.specs.Places as places
use Rattle.life_store.specs.State.{Pointer}
use Rattle.life_store.specs.declared.run.FaultKind.TheVariants as fault
use Rattle.life_pointers.specs.Choices.{chosen_by}
use Rattle.life_pointers.specs.declared.choosing.Choice.{Choice}
use Rattle.life_pointers.specs.declared.owned.Spot.{Spot}

abbrev pub spot_seen : Spot → places.Spot
spot_seen s = record { object = s.object.birth; index = s.index; word = s.word }

-- ---- of a vector or a string

abbrev pub element_in : Content → Choice → (buffer : ℕ) → Attempt Pointer
element_in c which b = then_get (chosen_by which (size_of c b)) (λ i. Got (element_of c.clock i (pointer_to c b 0 0)))

abbrev pub owned_element : Content → Choice → places.Spot → Attempt Pointer
owned_element c which s = then_get (buffer_of c s) (λ b. element_in c which b)

abbrev pub owned_end : Content → RangeEnd → places.Spot → Attempt Pointer
owned_end c end s = then_get (buffer_of c s) (λ b. Got (pointer_to c b (end_index end (size_of c b)) 0))

abbrev pub owned_whole : Content → places.Spot → Attempt Pointer
owned_whole c s = then_get (buffer_of c s) (λ b. Got (whole_of c b))

abbrev pub owned_size : Content → places.Spot → Attempt ℕ
owned_size c s = then_get (buffer_of c s) (λ b. Got (size_of c b))

-- ---- of a unique_ptr

abbrev pub owned_target : Content → Option ℕ → Attempt Pointer
owned_target c None = GotFault fault.Null
owned_target c (Some n) = Got (pointer_to c n 0 0)
