-- The facts at each point of a function.
use Rattle.std.specs.Prelude.{◌≡◌, ℕ, zero, suc, Bool, IsTrue, ◌↔◌, List, Option, Some, None, All, length, slice_get}
use Rattle.life_types.specs.Types.{Types}
use Rattle.life_core.specs.Function.{Function}
use Rattle.life_core.specs.Linked.{points_of}
use Rattle.life_core.specs.declared.stmt.Point.{Point}
use Rattle.life_contract.specs.Signatures.{Signature}
use Rattle.life_pset.specs.Table.{Table, Names, table_of}
use Rattle.life_pset.specs.declared.element.Fact.{Fact}
use Rattle.life_rules.specs.Deriving.{Derives}

-- what a solution is seen as: a table, and the rows of the points in their order
pub record Solved (R : Type 0) : Type 0 where
  pub table : Table
  pub rows : List R

abbrev pub numbered_row : {R : Type 0} → List R → ℕ → Option R
numbered_row rows zero = None
numbered_row rows (suc n) = slice_get rows n

-- the row at a point: points are numbered from 1
abbrev pub row_of : {R : Type 0} → List R → Point → Option R
row_of rows point = numbered_row rows point.0

-- the pair stands for a fact that is derived at the point
abbrev pub IsDerivedPair : List Signature → Types → Function → Point → ℕ → ℕ → Type 0
IsDerivedPair sigs types f point l e = (x : Fact) × (Names (table_of types f) l e x × Derives sigs types f point x)

-- every row was made for so many
abbrev pub AllLimited : {R : Type 0} → (R → ℕ) → ℕ → List R → Type 0
AllLimited limit n rows = All (λ row. limit row ≡ n) rows

-- the function's table, and for each of its points a row with exactly the pairs that are derived there
pub record IsSolution {R : Type 0} (has : R → ℕ → ℕ → Bool) (location_limit element_limit : R → ℕ) (sigs : List Signature) (types : Types) (f : Function) (solution : Solved R) : Type 0 where
  pub table : solution.table ≡ table_of types f
  pub count : length solution.rows ≡ points_of f
  pub pairs : (point : Point) (row : R) → row_of solution.rows point ≡ Some row → (l e : ℕ) → IsTrue (has row l e) ↔ IsDerivedPair sigs types f point l e
  pub locations : AllLimited location_limit (length solution.table.locations) solution.rows
  pub elements : AllLimited element_limit (length solution.table.elements) solution.rows
