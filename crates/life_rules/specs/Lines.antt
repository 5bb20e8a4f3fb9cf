-- The line that a diagnostic prints, and the order of lines.
use Rattle.std.specs.Prelude.{ℕ, List, ◌++◌, codes}
use Rattle.std.specs.Cmp.Lexicographic.{slice_cmp}
use Rattle.std.specs.Ordering.{nat_cmp, ordering_then}
use Rattle.std.specs.declared.cmp.Ordering.{Ordering}
use Rattle.life_types.specs.Places.{position_text}
use Rattle.life_types.specs.Types.{Types}
use Rattle.life_core.specs.Function.{Function}
use Rattle.life_rules.specs.Texts.{Naming, diag_name, why_text}
use Rattle.life_rules.specs.declared.diag.Diag.{Diag}
use Rattle.life_rules.specs.declared.diag.DiagKind.{DiagKind}
use Rattle.life_rules.specs.declared.diag.DiagKind.TheVariants.{NullUse, DanglingUse, MovedUse, ArgNull, ArgDangling, ArgOverlap, ReturnDangling, ReturnWidens, KeepsBroken}
use Rattle.life_rules.specs.declared.diag.PrintedLine.{PrintedLine}

-- what is printed of a diagnostic: nothing else tells two of them apart
pub record Line : Type 0 where
  pub line : ℕ
  pub column : ℕ
  pub kind : ℕ
  pub name : List ℕ
  pub why : List ℕ

abbrev pub kind_number : DiagKind → ℕ
kind_number NullUse = 1
kind_number DanglingUse = 2
kind_number MovedUse = 3
kind_number ArgNull = 4
kind_number ArgDangling = 5
kind_number ArgOverlap = 6
kind_number ReturnDangling = 7
kind_number ReturnWidens = 8
kind_number KeepsBroken = 9

abbrev pub kind_text : DiagKind → List ℕ
kind_text NullUse = codes "null-use"
kind_text DanglingUse = codes "dangling-use"
kind_text MovedUse = codes "moved-use"
kind_text ArgNull = codes "arg-null"
kind_text ArgDangling = codes "arg-dangling"
kind_text ArgOverlap = codes "arg-overlap"
kind_text ReturnDangling = codes "return-dangling"
kind_text ReturnWidens = codes "return-widens"
kind_text KeepsBroken = codes "keeps-broken"

abbrev pub line_of : Naming → Types → Function → Diag → Line
line_of names types f d = record {
  line = d.place.line;
  column = d.place.column;
  kind = kind_number d.kind;
  name = diag_name names types f d.called d.name;
  why = why_text names types f d.why;
}

abbrev pub line_seen : PrintedLine → Line
line_seen l = record { line = l.line; column = l.column; kind = kind_number l.kind; name = l.name.items; why = l.why.items }

-- by line, column, kind, name and reason
abbrev pub line_cmp : Line → Line → Ordering
line_cmp x y =
    ordering_then (nat_cmp x.line y.line)
    (ordering_then (nat_cmp x.column y.column)
    (ordering_then (nat_cmp x.kind y.kind) (ordering_then (slice_cmp nat_cmp x.name y.name) (slice_cmp nat_cmp x.why y.why))))

-- what the diagnostic's line prints: place, kind, name and reason, parted by a colon and a space
abbrev pub printed : Diag → Line → List ℕ
printed d line = position_text d.place ++ codes ": " ++ kind_text d.kind ++ codes ": " ++ line.name ++ codes ": " ++ line.why ++ codes "\n"
