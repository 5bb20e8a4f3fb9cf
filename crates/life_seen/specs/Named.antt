-- The number of the object in each row, from the row of each object.
use Rattle.std.specs.Prelude.{◌≡◌, ℕ, zero, suc, Option, Some, None}
use Rattle.life_store.specs.Cells.{Cells, none, at, set}
use Rattle.life_store.specs.Content.{Content}
use Rattle.life_store.specs.References.{Rows}

-- the number of the object that has the row
abbrev pub Names : Type 0
Names = Cells ℕ

abbrev pub named_if : Option ℕ → ℕ → Names → Names
named_if None n names = names
named_if (Some row) n names = set names row n

-- of the numbers below the births
unfoldable pub inverted : ℕ → Rows → Names
inverted zero rows = none
inverted (suc n) rows = named_if (at rows n) n (inverted n rows)

abbrev pub names_of : Content → Rows → Names
names_of c rows = inverted c.births rows

-- two objects have two rows
abbrev pub AreApart : Rows → Type 0
AreApart rows = (m n k : ℕ) → at rows m ≡ Some k → at rows n ≡ Some k → m ≡ n
