-- Whether a point is ready by what is known of the locals, and what is known behind it.
use Rattle.std.specs.Prelude.{ℕ, Bool, true, ◌&&◌, List, [], ◌∷◌, ◌++◌, slice_set}
use Rattle.std.specs.List.{list_all}
use Rattle.life_types.specs.Types.{Types}
use Rattle.life_core.specs.Function.{Function}
use Rattle.life_core.specs.Touched.{Touched, touched}
use Rattle.life_core.specs.Tree.{Node}
use Rattle.life_proper.specs.declared.known.Known.{Known}
use Rattle.life_proper.specs.declared.known.Known.TheVariants as known
use Rattle.life_proper.specs.Knowing.{known_at, same}

-- the local is known to be there, or not to be
abbrev pub is_known : Known → List Known → ℕ → Bool
is_known a k x = same (known_at k x) a

abbrev pub are_known : Known → List Known → List ℕ → Bool
are_known a k xs = list_all (is_known a k) xs

-- one after the other
abbrev pub can_leave : List Known → List ℕ → Bool
can_leave k [] = true
can_leave k (x ∷ xs) = is_known known.Ready k x && can_leave (slice_set k x known.Blank) xs

abbrev pub are_ready : List Known → Touched → Bool
are_ready k t = are_known known.Ready k t.uses && (can_leave k t.leaves && are_known known.Blank k t.births)

abbrev pub is_node_ready : Types → Function → List Known → Node → Bool
is_node_ready types f k node = are_ready k (touched types f node)

-- ---- behind a point

abbrev pub set_known : Known → List ℕ → List Known → List Known
set_known a [] k = k
set_known a (x ∷ xs) k = set_known a xs (slice_set k x a)

abbrev pub known_after : Touched → List Known → List Known
known_after t k = set_known known.Ready (t.births ++ t.writes) (set_known known.Blank t.leaves k)
