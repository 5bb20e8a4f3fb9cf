-- Which element of how many.
use Rattle.std.specs.Prelude.{ℕ}
use Rattle.std.specs.Int.{cast_unsigned, w64}
use Rattle.life_store.specs.Effects.{Attempt}
use Rattle.life_store.specs.Iterators.{below, last_of}
use Rattle.life_pointers.specs.declared.choosing.Choice.{Choice}
use Rattle.life_pointers.specs.declared.choosing.Choice.TheVariants as choice

abbrev pub chosen_by : Choice → (size : ℕ) → Attempt ℕ
chosen_by (choice.At z) size = below (cast_unsigned w64 z) size
chosen_by choice.First size = below 0 size
chosen_by choice.Last size = last_of size
