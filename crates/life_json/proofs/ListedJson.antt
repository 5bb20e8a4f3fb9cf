-- Where each diagnostic has its line, what is written of them is the report.
use Rattle.std.proofs.Common.{◌≡◌, ℕ, refl, List, [], ◌∷◌, length, map}
use Rattle.std.proofs.lemmas.List.Elements.{All-head, All-tail}
use Rattle.life_core.specs.Function.{Program}
use Rattle.life_rules.specs.Listing.{HaveLines, listed_diag, program_line}
use Rattle.life_rules.specs.Lines.{line_seen}
use Rattle.life_rules.specs.declared.diag.Diag.{Diag}
use Rattle.life_rules.specs.declared.diag.ListedDiag.{ListedDiag}
use Rattle.serde_json.specs.Data.{Data}
use Rattle.life_json.specs.JsonReports.{diag_data, json_report, json_text, listed_data, listed_json, listed_verdict, verdict_text, whole_data}

-- it has its line in the program
abbrev HasLine : Program → ListedDiag → Type 0
HasLine p x = line_seen x.line ≡ program_line p x.diag

abbrev data_in : Program → Diag → Data
data_in p d = diag_data d (program_line p d)

data_are : (p : Program) (xs : List ListedDiag) → HaveLines (program_line p) xs → map listed_data xs ≡ map (data_in p) (map listed_diag xs)
data_are p [] have = refl
data_are p (x ∷ xs) have = λ i. diag_data x.diag (All-head (HasLine p) x xs have i) ∷ data_are p xs (All-tail (HasLine p) x xs have) i

verdict_is : (xs : List ListedDiag) → listed_verdict xs ≡ verdict_text (map listed_diag xs)
verdict_is [] = refl
verdict_is (x ∷ xs) = refl

pub json_is : (p : Program) (functions : ℕ) (xs : List ListedDiag) → functions ≡ length p.functions → HaveLines (program_line p) xs → listed_json functions xs ≡ json_report p (map listed_diag xs)
json_is p functions xs same have = λ i. json_text (whole_data (data_are p xs have i) (same i) (verdict_is xs i))
