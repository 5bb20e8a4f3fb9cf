-- Diagnostics beside the lines that they print, on the way to a list of them.
use Rattle.std.specs.Prelude.{◌≡◌, Bool, true, List, map, Contains}
use Rattle.std.specs.List.Sorted.{IsPermutation, IsSorted, IsStrictlySortedBy}
use Rattle.std.specs.Ordering.{eq_by_cmp, is_le, ordering_then}
use Rattle.std.specs.declared.cmp.Ordering.{Ordering}
use Rattle.life_rules.specs.Lines.{Line, line_cmp, line_seen}
use Rattle.life_rules.specs.contracts.diag.DiagOrd.TheImpl.{ghosts as diag}
use Rattle.life_rules.specs.declared.diag.Diag.{Diag}
use Rattle.life_rules.specs.declared.diag.ListedDiag.{ListedDiag}

-- a diagnostic and its line
pub record Lined : Type 0 where
  pub line : Line
  pub diag : Diag

abbrev pub lined : (Diag → Line) → Diag → Lined
lined line d = record { line = line d; diag = d }

abbrev pub line_part : Lined → Line
line_part x = x.line

abbrev pub diag_part : Lined → Diag
diag_part x = x.diag

-- by their lines, and those of one line by the fields of the diagnostics
abbrev pub lined_cmp : Lined → Lined → Ordering
lined_cmp x y = ordering_then (line_cmp x.line y.line) (diag.cmp x.diag y.diag)

-- they print one line
abbrev pub is_same_line : Lined → Lined → Bool
is_same_line x y = eq_by_cmp line_cmp x.line y.line

-- the same ones, in order
pub record Sorts (before after : List Lined) : Type 0 where
  pub moved : IsPermutation before after
  pub sorted : IsSorted lined_cmp after

-- y prints the line of x, and isn't after it
pub record Replaces (y x : Lined) : Type 0 where
  pub same_line : y.line ≡ x.line
  pub first : is_le (diag.cmp y.diag x.diag) ≡ true

-- each line of the first list once, in order, by the first that prints it
pub record KeepsLines (before after : List Lined) : Type 0 where
  pub sorted : IsStrictlySortedBy line_cmp (map line_part after)
  pub only : (x : Lined) → Contains after x → Contains before x
  pub each : (x : Lined) → Contains before x → (y : Lined) × (Contains after y × Replaces y x)

abbrev pub candidate_seen : ListedDiag → Lined
candidate_seen c = record { line = line_seen c.line; diag = c.diag }
