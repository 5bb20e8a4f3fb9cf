-- What holds of each content of a run: what lives is within the limit, and no object has more slots than it has room for. A birth is
-- tested against the limit, and nothing else adds to what lives.
use Rattle.std.specs.Prelude.{◌≡◌, ◌≤◌, ◌<◌, ◌+◌, ◌^◌, ℕ, Some, length}
use Rattle.life_store.specs.Cells.{at}
use Rattle.life_store.specs.Content.{Object, Content, live_words_of}

pub record IsBounded (limit : ℕ) (c : Content) : Type 0 where
  pub within : live_words_of c ≤ limit
  pub roomy : (n : ℕ) (o : Object) → at c.objects n ≡ Some o → length o.slots ≤ o.capacity

-- more births and moments can be counted than a step takes
pub record IsEarly (c : Content) : Type 0 where
  pub births : c.births < 2 ^ 62
  pub clock : c.clock < 2 ^ 62

-- .. and than the rest of a step takes
pub record CanGoOn (c : Content) : Type 0 where
  pub births : c.births < 2 ^ 62 + 2 ^ 33
  pub clock : c.clock < 2 ^ 62 + 2 ^ 33

-- a step takes so many at most
abbrev pub most : ℕ
most = 2 ^ 32

pub record Grows (c d : Content) : Type 0 where
  pub births : d.births ≤ c.births + most
  pub clock : d.clock ≤ c.clock + most
