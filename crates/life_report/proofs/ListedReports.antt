-- Where each diagnostic has its line, what is written of them is the report.
use Rattle.std.proofs.Common.{◌≡◌, ℕ, refl, ap, sym, List, [], ◌∷◌, ◌++◌, length, map}
use Rattle.std.specs.List.{flat_map}
use Rattle.std.proofs.lemmas.List.{length-map}
use Rattle.std.proofs.lemmas.List.Elements.{All-head, All-tail}
use Rattle.life_core.specs.Function.{Program}
use Rattle.life_rules.specs.Listing.{HaveLines, listed_diag, program_line}
use Rattle.life_rules.specs.Lines.{line_seen, printed}
use Rattle.life_rules.specs.declared.diag.ListedDiag.{ListedDiag}
use Rattle.life_report.specs.Reports.{accepted_text, diagnosed_text, line_text, listed_report, listed_text, report_text}

-- it has its line in the program
abbrev HasLine : Program → ListedDiag → Type 0
HasLine p x = line_seen x.line ≡ program_line p x.diag

lines_are : (p : Program) (xs : List ListedDiag) → HaveLines (program_line p) xs → flat_map listed_text xs ≡ flat_map (line_text p) (map listed_diag xs)
lines_are p [] have = refl
lines_are p (x ∷ xs) have = λ i. printed x.diag (All-head (HasLine p) x xs have i) ++ lines_are p xs (All-tail (HasLine p) x xs have) i

pub report_is : (p : Program) (functions : ℕ) (xs : List ListedDiag) → functions ≡ length p.functions → HaveLines (program_line p) xs → listed_report functions xs ≡ report_text p (map listed_diag xs)
report_is p functions [] same have = ap accepted_text same
report_is p functions (x ∷ xs) same have = λ i. lines_are p (x ∷ xs) have i ++ diagnosed_text (sym (length-map (x ∷ xs) listed_diag) i)
