-- The kinds of words in a store are those of the forest; and what the search for them takes.
use Rattle.std.proofs.Common.{ℕ, ◌+◌, ◌-◌, ◌*◌, ◌≤◌, ◌<◌, refl, arith}
use Rattle.life_types.specs.Types.{Types}
use Rattle.life_forest.specs.Kinds as forest
use Rattle.life_seen.specs.Kinds as seen
use Rattle.life_values.specs.Ended.{AreAlike}

pub alike_kinds : (types : Types) → AreAlike (seen.kinds_of types) (forest.kinds_of types)
alike_kinds types ty u = refl

-- ---- so many words are left

pub index_less : (left words index found : ℕ) → index ≤ found → found < words → left * (words + 1) + (words - (found + 1)) < left * (words + 1) + (words - index)
index_less left words index found le lt = omega (arith, le, lt)
