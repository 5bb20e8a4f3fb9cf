-- What a report says of a program and a list of diagnostics.
use Rattle.std.specs.Prelude.{ℕ, List, [], ◌∷◌, ◌++◌, codes, decimal, length}
use Rattle.std.specs.List.{flat_map}
use Rattle.life_core.specs.Function.{Program}
use Rattle.life_rules.specs.Lines.{line_seen, printed}
use Rattle.life_rules.specs.Listing.{program_line}
use Rattle.life_rules.specs.declared.diag.Diag.{Diag}
use Rattle.life_rules.specs.declared.diag.ListedDiag.{ListedDiag}

abbrev pub accepted_text : ℕ → List ℕ
accepted_text functions = codes "accepted, functions: " ++ decimal functions ++ codes "\n"

abbrev pub diagnosed_text : ℕ → List ℕ
diagnosed_text diagnostics = codes "diagnosed: " ++ decimal diagnostics ++ codes "\n"

-- the line of a diagnostic
abbrev pub line_text : Program → Diag → List ℕ
line_text p d = printed d (program_line p d)

-- without diagnostics how many functions were accepted, and else each line and how many there are
abbrev pub report_text : Program → List Diag → List ℕ
report_text p [] = accepted_text (length p.functions)
report_text p (d ∷ ds) = flat_map (line_text p) (d ∷ ds) ++ diagnosed_text (length (d ∷ ds))

-- ---- by the lines that the diagnostics have

abbrev pub listed_text : ListedDiag → List ℕ
listed_text x = printed x.diag (line_seen x.line)

-- .. of so many functions
abbrev pub listed_report : ℕ → List ListedDiag → List ℕ
listed_report functions [] = accepted_text functions
listed_report functions (x ∷ xs) = flat_map listed_text (x ∷ xs) ++ diagnosed_text (length (x ∷ xs))
