-- How much a step counts, and how much can still be counted.
use Rattle.std.specs.Prelude.{◌≡◌, ◌⊎◌, ℕ, ◌+◌, ◌*◌, ◌^◌, ◌<◌, ◌≤◌}
use Rattle.life_types.specs.Types.{Types}
use Rattle.life_types.specs.declared.ty.TyId.{TyId}
use Rattle.life_store.specs.Content.{Content, live_words_of}
use Rattle.life_store.specs.Parts.{Single, parts_at}

-- each value of the type is one number
abbrev pub IsNumber : Types → TyId → Type 0
IsNumber types ty = parts_at types ty ≡ Single

-- ---- what is counted

-- at most so many births and changes were counted
pub record Grows (k : ℕ) (c d : Content) : Type 0 where
  pub births : d.births ≤ c.births + k
  pub clock : d.clock ≤ c.clock + k

-- something was given: nothing was born, or what was lives within the limit
pub record Gives (limit : ℕ) (c d : Content) : Type 0 where
  pub births : d.births + live_words_of c ≤ c.births + live_words_of d
  pub clock : d.clock + c.births ≡ c.clock + d.births
  pub within : (live_words_of d ≡ live_words_of c) ⊎ (live_words_of d ≤ limit)

-- what is born for one point is fewer than the words that may live, whose number is one of 32 bits
abbrev pub most_births : ℕ
most_births = 2 ^ 32

-- another step can be counted
pub record CanStep (c : Content) : Type 0 where
  pub births : c.births < 2 ^ 62
  pub clock : c.clock < 2 ^ 62

-- another object can be born and written
pub record CanBear (c : Content) : Type 0 where
  pub births : c.births + 1 < 2 ^ 63
  pub clock : c.clock + 1 < 2 ^ 63

-- so many steps can be counted
pub record CanWalk (steps : ℕ) (c : Content) : Type 0 where
  pub births : c.births + steps * most_births < 2 ^ 62
  pub clock : c.clock + steps * most_births < 2 ^ 62
