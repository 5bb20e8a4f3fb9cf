-- What a report in JSON says of a program and a list of diagnostics.
use Rattle.std.specs.Prelude.{ℕ, List, [], ◌∷◌, ◌++◌, codes, length, map}
use Rattle.std.specs.Str.Lossy.{utf8_lossy}
use Rattle.serde_json.specs.Data.{Data, array, member, no_members, number, object, string, unsigned}
use Rattle.serde_json.specs.View.{items_of}
use Rattle.serde_json.specs.Written.{compact_text}
use Rattle.life_core.specs.Function.{Program}
use Rattle.life_rules.specs.Lines.{Line, kind_text, line_seen}
use Rattle.life_rules.specs.Listing.{program_line}
use Rattle.life_rules.specs.declared.diag.Diag.{Diag}
use Rattle.life_rules.specs.declared.diag.ListedDiag.{ListedDiag}

-- the diagnostic, whose line is the second; JSON is text, so what isn't UTF-8 is U+FFFD
abbrev pub diag_data : Diag → Line → Data
diag_data d line = object
    (member (codes "cause") (string (utf8_lossy line.why))
    (member (codes "column") (number (unsigned d.place.column))
    (member (codes "kind") (string (kind_text d.kind))
    (member (codes "line") (number (unsigned d.place.line))
    (member (codes "name") (string (utf8_lossy line.name)) no_members)))))

-- the diagnostics, the number of functions, and the verdict
abbrev pub whole_data : List Data → ℕ → List ℕ → Data
whole_data diagnostics functions verdict = object
    (member (codes "diagnostics") (array (items_of diagnostics))
    (member (codes "functions") (number (unsigned functions))
    (member (codes "verdict") (string verdict) no_members)))

abbrev pub verdict_text : List Diag → List ℕ
verdict_text [] = codes "accepted"
verdict_text (d ∷ ds) = codes "diagnosed"

abbrev pub report_data : Program → List Diag → Data
report_data p ds = whole_data (map (λ d. diag_data d (program_line p d)) ds) (length p.functions) (verdict_text ds)

-- one line: the value without spaces
abbrev pub json_text : Data → List ℕ
json_text value = compact_text value ++ codes "\n"

abbrev pub json_report : Program → List Diag → List ℕ
json_report p ds = json_text (report_data p ds)

-- ---- by the lines that the diagnostics have

abbrev pub listed_data : ListedDiag → Data
listed_data x = diag_data x.diag (line_seen x.line)

abbrev pub listed_verdict : List ListedDiag → List ℕ
listed_verdict [] = codes "accepted"
listed_verdict (x ∷ xs) = codes "diagnosed"

-- .. of so many functions
abbrev pub listed_report_data : ℕ → List ListedDiag → Data
listed_report_data functions xs = whole_data (map listed_data xs) functions (listed_verdict xs)

abbrev pub listed_json : ℕ → List ListedDiag → List ℕ
listed_json functions xs = json_text (listed_report_data functions xs)
