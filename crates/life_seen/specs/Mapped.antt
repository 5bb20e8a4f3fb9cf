-- A finite map whose values are seen through a function.
use Rattle.std.specs.Prelude.{ℕ, List, [], ◌∷◌}
use Rattle.std.specs.FinMap as map
use Rattle.life_store.specs.Cells.{Cells, none, set}

module _ {A B : Type 0} where
  abbrev pub over : (A → B) → List (ℕ × A) → Cells B
  over f [] = none
  over f (e ∷ es) = set (over f es) e.0 (f e.1)

  unfoldable pub mapped : (A → B) → Cells A → Cells B
  mapped f m = over f (map.entries m)
