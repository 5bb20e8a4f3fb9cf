-- A report has no float, so its text is that of its value.
use Rattle.std.proofs.Common.{◌≡◌, ℕ, List, [], ◌∷◌, false, map, refl, ap}
use Rattle.std.specs.Prelude.{◌||◌}
use Rattle.serde_json.specs.View.{items_of}
use Rattle.serde_json.specs.Written.{has_float, items_have_float}
use Rattle.life_json.specs.JsonReports.{listed_data, listed_report_data}
use Rattle.life_rules.specs.declared.diag.ListedDiag.{ListedDiag}

diagnostics_have_none : (xs : List ListedDiag) → items_have_float (items_of (map listed_data xs)) ≡ false
diagnostics_have_none [] = refl
diagnostics_have_none (x ∷ xs) = diagnostics_have_none xs

pub report_has_none : (functions : ℕ) (xs : List ListedDiag) → has_float (listed_report_data functions xs) ≡ false
report_has_none functions xs = ap (λ b. b || false) (diagnostics_have_none xs)
